-- The laws of the shards' parts.
use Rattle.std.proofs.lemmas.Bool.{or_parts}
use Rattle.std.proofs.Common.{◌≡◌, ℕ, suc, ◌+◌, ◌<◌, ◌≤◌, Bool, true, false, cond, List, [], ◌∷◌, refl, sym, ◌∙◌}
use Rattle.std.proofs.Common.{ap, arith}
use Rattle.std.specs.List.{list_any}
use Rattle.std.specs.FinMap.{entries, empty}
use Rattle.hyper_matrix.specs.Parts.{part_entries}
use Rattle.hyper_matrix.specs.Counts.{Place, Counts, count_sum, total, built, ewise_add, part, parts, in_part}
use Rattle.hyper_matrix.proofs.CountLaws.{parts_whole, total-ewise_add, total-empty}
use Rattle.hyper_matrix.proofs.PartLaws.{entries-part, built-entries, total-part, total-entries, part_sum-le}
use Rattle.layer_compaction.proofs.LayerLemmas.{empty-ewise_add}
use Rattle.layer_compaction.specs.Shared.{content}
use Rattle.batch_store.specs.Batches.{Submission, entries_of}
use Rattle.batch_store.specs.Accepted.{Accepted, IsBase, total_in}
use Rattle.batch_store.specs.Books.{list_total}
use Rattle.batch_store.specs.Parts.{part_of, below, below_in, concerns, concerned, list_below, parts_of, record_content}
use Rattle.batch_store.proofs.VerdictLaws.{total_of-append}

-- a part is no more than the whole
pub part_of-le : (s k : ℕ) (m : Counts) → part_of s k m ≤ total m
part_of-le s k m = omega (arith, total-part m s k, total-entries m, part_sum-le s k (entries m))

pub none_in : (s k : ℕ) (es : List (Place × ℕ)) → list_any (λ (e : Place × ℕ). in_part s k e.0) es ≡ false →
    part_entries s k es ≡ []
none_in s k [] h = refl
none_in s k (e ∷ es) h =
    let p = or_parts (in_part s k e.0) (list_any (λ (e : Place × ℕ). in_part s k e.0) es) h in
    ap (λ b. cond b (e ∷ part_entries s k es) (part_entries s k es)) p.0 ∙ none_in s k es p.1

-- a matrix has nothing in a shard that it doesn't concern
pub part_of-unconcerned : (s k : ℕ) (m : Counts) → concerns s k m ≡ false → part_of s k m ≡ 0
part_of-unconcerned s k m none = total-part m s k ∙ ap count_sum (none_in s k (entries m) none)

built-nothing : built [] ≡ empty
unfolding built
built-nothing = refl

pub part-unconcerned : (s k : ℕ) (m : Counts) → concerns s k m ≡ false → part m s k ≡ empty
part-unconcerned s k m none = sym (built-entries (part m s k))
    ∙ ap built (entries-part m s k ∙ none_in s k (entries m) none) ∙ built-nothing

-- no cell lies below shard 0
pub below-zero : (k : ℕ) (m : Counts) → below 0 k m ≡ 0
below-zero k m = total-empty

-- a shard more is its part more
pub below-suc : (s k : ℕ) (m : Counts) → below (s + 1) k m ≡ below s k m + part_of s k m
below-suc s k m = ap (λ n. below n k m) {x = s + 1} {y = suc s} (omega arith)
    ∙ total-ewise_add (parts m s k) (part m s k)

-- every cell lies below shard k
pub below-all : (k : ℕ) (m : Counts) → 0 < k → below k k m ≡ total m
below-all k m pos = ap total (parts_whole m k pos)

list_below-zero : (k : ℕ) (list : List Submission) → list_below 0 k list ≡ 0
list_below-zero k [] = refl
list_below-zero k (b ∷ bs) = omega (arith, below-zero k b.matrix.counts, list_below-zero k bs)

pub below_in-zero : (k : ℕ) (a : Accepted) → below_in 0 k a ≡ 0
below_in-zero k a = omega (arith, below-zero k a.base, list_below-zero k a.list)

list_below-suc : (s k : ℕ) (list : List Submission) →
    list_below (s + 1) k list ≡ list_below s k list + total (content (parts_of s k list))
list_below-suc s k [] = omega (arith, total-empty)
list_below-suc s k (b ∷ bs) =
    omega (
      arith,
      below-suc s k b.matrix.counts,
      list_below-suc s k bs,
      total-ewise_add (part b.matrix.counts s k) (content (parts_of s k bs)),
    )

-- a shard more is the content of its record more
pub below_in-suc : (s k : ℕ) (a : Accepted) →
    below_in (s + 1) k a ≡ below_in s k a + total (record_content s k (part a.base s k) a.list)
below_in-suc s k a =
    omega (
      arith,
      below-suc s k a.base,
      list_below-suc s k a.list,
      total-ewise_add (part a.base s k) (content (parts_of s k a.list)),
    )

list_below-all : (k : ℕ) (list : List Submission) → 0 < k → list_below k k list ≡ list_total list
list_below-all k [] pos = refl
list_below-all k (b ∷ bs) pos = omega (arith, below-all k b.matrix.counts pos, list_below-all k bs pos)

pub below_in-all : (k : ℕ) (a : Accepted) → 0 < k → IsBase a.base a.folded → below_in k k a ≡ total_in a
below_in-all k a pos based =
    omega (
      arith,
      below-all k a.base pos,
      list_below-all k a.list pos,
      based.adds_up,
      total_of-append a.folded (entries_of a.list),
    )

-- batches with no cell in a shard add nothing
parts-concerned : (s k : ℕ) (list : List Submission) →
    content (parts_of s k (concerned s k list)) ≡ content (parts_of s k list)
parts-concerned s k [] = refl
parts-concerned s k (b ∷ bs) = by (concerns s k b.matrix.counts) refl (parts-concerned s k bs)
  where
    by : (x : Bool) → concerns s k b.matrix.counts ≡ x →
        content (parts_of s k (concerned s k bs)) ≡ content (parts_of s k bs) →
        content (parts_of s k (cond x (b ∷ concerned s k bs) (concerned s k bs))) ≡ ewise_add (part b.matrix.counts s k)
        (content (parts_of s k bs))
    by true here rest = ap (ewise_add (part b.matrix.counts s k)) rest
    by false none rest = rest ∙ sym (empty-ewise_add (content (parts_of s k bs)))
        ∙ ap (λ m. ewise_add m (content (parts_of s k bs))) (sym (part-unconcerned s k b.matrix.counts none))

pub record_content-concerned : (s k : ℕ) (base : Counts) (list : List Submission) →
    record_content s k base (concerned s k list) ≡ record_content s k base list
record_content-concerned s k base list = ap (ewise_add base) (parts-concerned s k list)
