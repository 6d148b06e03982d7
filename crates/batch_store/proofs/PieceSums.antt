-- How many entries pieces have together, where those lie, and pieces of a sum.
use Rattle.std.proofs.Common.{◌≡◌, ℕ, suc, zero, ◌+◌, ◌%◌, ◌<◌, ◌≤◌, Bool, true, false, cond, List, [], ◌∷◌, ◌++◌, length, refl, sym, ◌∙◌}
use Rattle.std.proofs.Common.{ap, subst, arith, inl, inr}
use Rattle.std.proofs.lemmas.Bool.{cases_order}
use Rattle.std.proofs.lemmas.List.{map-append}
use Rattle.std.specs.FinMap.{entries, len, len-entries}
use Rattle.std.specs.List.{AllByRecursion}
use Rattle.hyper_matrix.specs.Counts.{Counts, Place, ewise_add, in_part, part, total}
use Rattle.hyper_matrix.specs.Matrix.{Matrix, matrix}
use Rattle.hyper_matrix.specs.Parts.{part_entries, parts_below, shard_part}
use Rattle.hyper_matrix.specs.Shared.{LiesWithin}
use Rattle.hyper_matrix.proofs.CountLaws.{ewise_add-empty, total-ewise_add}
use Rattle.hyper_matrix.proofs.PartLaws.{entries-part, part-ewise_add}
use Rattle.layer_compaction.specs.Shared.{all_counts, content}
use Rattle.layer_compaction.proofs.LayerLemmas.{content-append}
use Rattle.merged_cells.specs.Within.{LieWithin}
use Rattle.batch_store.specs.Pieces.{AllLie, ArePieces, all_entries, whole_of}
use Rattle.batch_store.proofs.WalkLaws.{entries_in, entries_out}

-- how many entries the first n shards have
abbrev counted : ℕ → ℕ → List (Place × ℕ) → ℕ
counted zero k es = 0
counted (suc n) k es = counted n k es + length (part_entries n k es)

counted_out : (n k : ℕ) (e : Place × ℕ) (es : List (Place × ℕ)) → n ≤ e.0.0 % k → counted n k (e ∷ es) ≡ counted n k es
counted_out zero k e es out = refl
counted_out (suc n) k e es out =
    let before = counted_out n k e es (omega (arith, out)) in
    let here = entries_out k e es n (λ is. omega (arith, is, out)) in
    λ i. before i + length (here i)

counted_in : (n k : ℕ) (e : Place × ℕ) (es : List (Place × ℕ)) → e.0.0 % k < n →
    counted n k (e ∷ es) ≡ suc (counted n k es)
counted_in zero k e es below = absurd (omega (arith, below))
counted_in (suc n) k e es below = elim (cases_order (e.0.0 % k) n) [
  | inl same ↦ omega (arith, counted_out n k e es (omega (arith, same)), ap length (entries_in k e es n same))
  | inr (inl less) ↦ omega (
    arith,
    counted_in n k e es less,
    ap length (entries_out k e es n (λ is. omega (arith, is, less))),
  )
  | inr (inr above) ↦ absurd (omega (arith, below, above))
]

counted_none : (n k : ℕ) → counted n k [] ≡ 0
counted_none zero k = refl
counted_none (suc n) k = omega (arith, counted_none n k)

counted_all : (k : ℕ) (es : List (Place × ℕ)) → 0 < k → counted k k es ≡ length es
counted_all k [] some = counted_none k k
counted_all k (e ∷ es) some =
    counted_in k k e es (omega (arith, some)) ∙ ap (λ (n : ℕ). suc n) (counted_all k es some)

pub all_entries-append : (ms : List Matrix) (m : Matrix) → all_entries (ms ++ m ∷ []) ≡ all_entries ms + len m.counts
all_entries-append [] m = omega arith
all_entries-append (x ∷ ms) m = omega (arith, all_entries-append ms m)

entries_below : (n k : ℕ) (m : Matrix) → all_entries (parts_below n k m) ≡ counted n k (entries m.counts)
entries_below zero k m = refl
entries_below (suc n) k m = omega (
  arith,
  all_entries-append (parts_below n k m) (shard_part n k m),
  entries_below n k m,
  len-entries (part m.counts n k),
  ap length (entries-part m.counts n k),
)

module _ (r c : ℕ) (ms : List Matrix) (some : 0 < length ms) (pieces : ArePieces r c ms) where
  pub pieces_entries : all_entries ms ≡ len (whole_of r c ms).counts
  pieces_entries =
      let k = length ms in
      let m = whole_of r c ms in
      ap all_entries pieces ∙ entries_below k k m ∙ counted_all k (entries m.counts) some ∙ sym (len-entries m.counts)

-- what holds of the entries of each shard holds of all
module _ (P : Place × ℕ → Type 0) where
  without : (b : Bool) (e : Place × ℕ) (es : List (Place × ℕ)) → AllByRecursion P (cond b (e ∷ es) es) →
      AllByRecursion P es
  without true e es h = h.1
  without false e es h = h

  all_in : (k : ℕ) (es : List (Place × ℕ)) → 0 < k → ((s : ℕ) → s < k → AllByRecursion P (part_entries s k es)) →
      AllByRecursion P es
  all_in k [] some h = tt
  all_in k (e ∷ es) some h =
      let s = e.0.0 % k in
      let own : AllByRecursion P (e ∷ part_entries s k es) =
      subst (AllByRecursion P) (entries_in k e es s refl) (h s (omega (arith, some))) in
      (own.0, all_in k es some (λ t less. without (in_part t k e.0) e (part_entries t k es) (h t less)))

lie_split : (ms : List Matrix) (m : Matrix) → AllLie (ms ++ m ∷ []) → AllLie ms × LieWithin m.rows m.cols m.counts
lie_split [] m h = (tt, h.0)
lie_split (x ∷ ms) m h = let rest = lie_split ms m h.1 in ((h.0, rest.0), rest.1)

pub lie_more : (ms : List Matrix) (m : Matrix) → AllLie ms → LieWithin m.rows m.cols m.counts → AllLie (ms ++ m ∷ [])
lie_more [] m h own = (own, tt)
lie_more (x ∷ ms) m h own = (h.0, lie_more ms m h.1 own)

lie_below : (n k : ℕ) (m : Matrix) → AllLie (parts_below n k m) → (s : ℕ) → s < n →
    LieWithin m.rows m.cols (part m.counts s k)
lie_below zero k m all s less = absurd (omega (arith, less))
lie_below (suc n) k m all s less =
    let both = lie_split (parts_below n k m) (shard_part n k m) all in
    elim (cases_order s n) [
      | inl same ↦ subst (λ (x : ℕ). LieWithin m.rows m.cols (part m.counts x k)) (sym same) both.1
      | inr (inl below) ↦ lie_below n k m both.0 s below
      | inr (inr above) ↦ absurd (omega (arith, less, above))
    ]

pub pieces_lie : (r c : ℕ) (ms : List Matrix) → 0 < length ms → ArePieces r c ms → AllLie ms →
    LieWithin r c (whole_of r c ms).counts
pieces_lie r c ms some pieces lie =
    let k = length ms in
    let m = whole_of r c ms in
    all_in (LiesWithin r c) k (entries m.counts) some
    (λ s less. subst (AllByRecursion (LiesWithin r c)) (entries-part m.counts s k)
    (lie_below k k m (subst AllLie pieces lie) s less))

-- the total of one matrix more
pub total-append : (ms : List Matrix) (m : Matrix) →
    total (content (all_counts (ms ++ m ∷ []))) ≡ total (content (all_counts ms)) + total m.counts
total-append ms m =
    ap (λ (ns : List Counts). total (content ns)) (map-append (λ (x : Matrix). x.counts) ms (m ∷ []))
    ∙ ap total (content-append (all_counts ms) (m.counts ∷ [])
    ∙ ap (ewise_add (content (all_counts ms))) (ewise_add-empty m.counts))
    ∙ total-ewise_add (content (all_counts ms)) m.counts

-- the piece of a sum
pub sum_piece : (s k : ℕ) (whole added own part sum : Matrix) → added.rows ≡ whole.rows → added.cols ≡ whole.cols →
    own ≡ shard_part s k whole → part ≡ shard_part s k added →
    sum ≡ record own { counts = ewise_add own.counts part.counts } →
    sum ≡ shard_part s k (record added { counts = ewise_add whole.counts added.counts })
sum_piece s k whole added own q sum rows cols here there is =
    is ∙ (λ i. matrix ((here i).rows) ((here i).cols) (ewise_add ((here i).counts) ((there i).counts)))
    ∙ (λ i. matrix (sym rows i) (sym cols i) (ewise_add (part whole.counts s k) (part added.counts s k)))
    ∙ ap (matrix added.rows added.cols) (sym (part-ewise_add whole.counts added.counts s k))

-- at the end all pieces are made
pub all_made : (count k s : ℕ) (m : Matrix) (list : List Matrix) → k ≡ count → k ≤ s → s ≤ k →
    list ≡ parts_below s count m → list ≡ parts_below count count m
all_made count k s m list is at_least at_most made =
    made ∙ ap (λ (n : ℕ). parts_below n count m) {x = s} {y = count} (omega (arith, is, at_least, at_most))
