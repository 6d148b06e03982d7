-- Which parts of a batch have cells, and where each stands among all.
use Rattle.std.proofs.Common.{◌≡◌, ℕ, zero, suc, ◌<◌, Bool, true, false, cond, ◌||◌, List, [], ◌∷◌, ◌++◌, length}
use Rattle.std.proofs.Common.{map, get_or, inl, inr, Option, Some, None, refl, sym, ◌∙◌, ap, arith, length-append}
use Rattle.std.proofs.Math.ListN.{get_or-append}
use Rattle.std.proofs.Math.Seq.{get_or-append_seam}
use Rattle.std.proofs.lemmas.Bool.{cases_lt, eq-eqb, ne_eqb}
use Rattle.std.proofs.lemmas.List.{map-append}
use Rattle.std.proofs.lemmas.Option.{same_Some}
use Rattle.std.specs.List.{list_any}
use Rattle.std.specs.FinMap.{entries, len, len-entries}
use Rattle.hyper_matrix.specs.Parts.{part_entries, parts_below}
use Rattle.hyper_matrix.specs.Counts.{Place, Counts, part, in_part}
use Rattle.hyper_matrix.specs.Matrix.{Matrix}
use Rattle.hyper_matrix.proofs.PartLaws.{entries-part}
use Rattle.batch_store.specs.Batches.{Submission}
use Rattle.batch_store.specs.Parts.{concerns}
use Rattle.batch_store.specs.BatchParts.{part_matrix, part_if_any, parts_if_any, unless_empty}
use Rattle.batch_store.proofs.PartLaws.{none_in}

some_in : (s k : ℕ) (es : List (Place × ℕ)) → list_any (λ (e : Place × ℕ). in_part s k e.0) es ≡ true →
    0 < length (part_entries s k es)
some_in s k [] h = absurd cc
some_in s k (e ∷ es) h = by (in_part s k e.0) h (λ there. some_in s k es there)
  where
    by : (x : Bool) → (x || list_any (λ (e : Place × ℕ). in_part s k e.0) es) ≡ true →
        (list_any (λ (e : Place × ℕ). in_part s k e.0) es ≡ true → 0 < length (part_entries s k es))
        → 0 < length (cond x (e ∷ part_entries s k es) (part_entries s k es))
    by true h rest = omega arith
    by false h rest = rest h

-- a part has a cell exactly where the batch concerns the shard
some_cells : (s k : ℕ) (m : Counts) → concerns s k m ≡ true → 0 < len (part m s k)
some_cells s k m here = omega (
  arith,
  len-entries (part m s k),
  ap length (entries-part m s k),
  some_in s k (entries m) here,
)

no_cells : (s k : ℕ) (m : Counts) → concerns s k m ≡ false → len (part m s k) ≡ 0
no_cells s k m none = len-entries (part m s k) ∙ ap length (entries-part m s k ∙ none_in s k (entries m) none)

-- a part with no cell is none
pub part_is : (s k : ℕ) (b : Submission) → unless_empty (part_matrix s k b) ≡ part_if_any s k b
part_is s k b = by (concerns s k b.matrix.counts) refl
  where
    by : (x : Bool) → concerns s k b.matrix.counts ≡ x →
        unless_empty (part_matrix s k b) ≡ cond x (Some (part_matrix s k b)) None
    by true here = ap (λ t. cond t None (Some (part_matrix s k b)))
        (ne_eqb _ _ (λ e. omega (arith, e, some_cells s k b.matrix.counts here)))
    by false none = ap (λ t. cond t None (Some (part_matrix s k b))) (eq-eqb _ _ (no_cells s k b.matrix.counts none))

-- these are the parts, and None for those with no cell
pub if_any_of_parts : (n k : ℕ) (b : Submission) → map unless_empty (parts_below n k b.matrix) ≡ parts_if_any n k b
if_any_of_parts zero k b = refl
if_any_of_parts (suc n) k b =
    map-append unless_empty (parts_below n k b.matrix) (part_matrix n k b ∷ [])
    ∙ (λ i. if_any_of_parts n k b i ++ part_is n k b i ∷ [])

pub length-parts : (n k : ℕ) (b : Submission) → length (parts_if_any n k b) ≡ n
length-parts zero k b = refl
length-parts (suc n) k b = omega (arith, length-append (parts_if_any n k b) (part_if_any n k b ∷ []), length-parts n k b)

-- the part at place s is that of shard s
pub part_at : (n k s : ℕ) (b : Submission) (d : Option Matrix) → s < n →
    get_or (parts_if_any n k b) s d ≡ part_if_any s k b
part_at zero k s b d below = absurd (omega arith)
part_at (suc n) k s b d below = elim (cases_lt s n) [
  | inl before ↦
      get_or-append (parts_if_any n k b) (part_if_any n k b ∷ []) d s (omega (arith, length-parts n k b, before)) ∙
      part_at n k s b d before
  | inr behind ↦
      let last : s ≡ n = omega arith in
      let place : s ≡ length (parts_if_any n k b) = omega (arith, length-parts n k b) in
      ap (λ (i : ℕ). get_or (parts_if_any n k b ++ part_if_any n k b ∷ []) i d) place
      ∙ get_or-append_seam (parts_if_any n k b) (part_if_any n k b) [] d
      ∙ ap (λ (i : ℕ). part_if_any i k b) (sym last)
]

-- what is found at place s
pub part_at_place : (s k : ℕ) (b : Submission) (xs : List (Option Matrix)) (x : Option Matrix) → xs ≡ parts_if_any k k b →
    s < k → x ≡ get_or xs s x → x ≡ part_if_any s k b
part_at_place s k b xs x all here is = is ∙ ap (λ (ys : List (Option Matrix)). get_or ys s x) all ∙ part_at k k s b x here

-- a shard in which some part is found is one that the batch concerns
pub part_found : (s k : ℕ) (b : Submission) (m : Matrix) → Some m ≡ part_if_any s k b →
    (m ≡ part_matrix s k b) × (concerns s k b.matrix.counts ≡ true)
part_found s k b m is = by (concerns s k b.matrix.counts) is
  where
    by : (x : Bool) → Some m ≡ cond x (Some (part_matrix s k b)) None → (m ≡ part_matrix s k b) × (x ≡ true)
    by true is = (same_Some _ _ is, refl)
    by false is = absurd cc

pub part_missing : (s k : ℕ) (b : Submission) → None ≡ part_if_any s k b → concerns s k b.matrix.counts ≡ false
part_missing s k b is = by (concerns s k b.matrix.counts) is
  where
    by : (x : Bool) → None ≡ cond x (Some (part_matrix s k b)) None → x ≡ false
    by true is = absurd cc
    by false is = refl
