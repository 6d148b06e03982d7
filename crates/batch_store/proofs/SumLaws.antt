-- The sum of a list of batches, and the shards' parts of it.
use Rattle.std.proofs.Common.{◌≡◌, ℕ, Bool, true, false, cond, List, [], ◌∷◌, ◌++◌, Option, None, refl, sym, ◌∙◌}
use Rattle.std.proofs.Common.{ap, arith, append-nil}
use Rattle.std.specs.FinMap.{empty, get, get-empty}
use Rattle.hyper_matrix.specs.Counts.{Place, place_cmp, Counts, total, ewise_add, part, in_part}
use Rattle.hyper_matrix.proofs.CountLaws.{same_counts, get-part, ewise_add-empty}
use Rattle.hyper_matrix.proofs.CountLaws.{ewise_add_assoc, total-empty, total-ewise_add}
use Rattle.hyper_matrix.proofs.PartLaws.{part-ewise_add}
use Rattle.layer_compaction.specs.Shared.{content}
use Rattle.layer_compaction.proofs.LayerLemmas.{empty-ewise_add}
use Rattle.batch_store.specs.declared.verdict.Entry.{Entry}
use Rattle.batch_store.specs.Batches.{Submission, entries_of}
use Rattle.batch_store.specs.Accepted.{Accepted, IsBase, list_sum, summed, total_in, entries_in, with_batch, folded_into}
use Rattle.batch_store.specs.Books.{list_total}
use Rattle.batch_store.specs.Parts.{record_content, concerned, parts_of}
use Rattle.batch_store.proofs.PartLaws.{record_content-concerned}
use Rattle.batch_store.proofs.VerdictLaws.{total_of-append}

-- the part of a part is that part
pub part-part : (a : Counts) (s k : ℕ) → part (part a s k) s k ≡ part a s k
part-part a s k = same_counts _ _ (λ q. get-part (part a s k) s k q
    ∙ ap (λ (o : Option ℕ). cond (in_part s k q) o None) (get-part a s k q)
    ∙ twice (in_part s k q) (get a q) ∙ sym (get-part a s k q))
  where
    twice : (t : Bool) (x : Option ℕ) → cond t (cond t x None) None ≡ cond t x None
    twice true x = refl
    twice false x = refl

nothing_is : (q : Place) (t : Bool) (o : Option ℕ) → o ≡ None → cond t o None ≡ o
nothing_is q true o h = refl
nothing_is q false o h = sym h

pub part-empty : (s k : ℕ) → part empty s k ≡ empty
part-empty s k = same_counts _ _ (λ q. get-part empty s k q
    ∙ nothing_is q (in_part s k q) (get empty q) (get-empty place_cmp q))

pub list_sum-append : (xs ys : List Submission) → list_sum (xs ++ ys) ≡ ewise_add (list_sum xs) (list_sum ys)
list_sum-append [] ys = sym (empty-ewise_add (list_sum ys))
list_sum-append (x ∷ xs) ys = ap (ewise_add x.matrix.counts) (list_sum-append xs ys)
    ∙ sym (ewise_add_assoc x.matrix.counts (list_sum xs) (list_sum ys))

-- one batch more
pub list_sum-push : (list : List Submission) (b : Submission) →
    list_sum (list ++ b ∷ []) ≡ ewise_add (list_sum list) b.matrix.counts
list_sum-push list b = list_sum-append list (b ∷ []) ∙ ap (ewise_add (list_sum list)) (ewise_add-empty b.matrix.counts)

pub summed-with : (a : Accepted) (b : Submission) → summed (with_batch a b) ≡ ewise_add (summed a) b.matrix.counts
summed-with a b = ap (ewise_add a.base) (list_sum-push a.list b)
    ∙ sym (ewise_add_assoc a.base (list_sum a.list) b.matrix.counts)

pub total-list_sum : (list : List Submission) → total (list_sum list) ≡ list_total list
total-list_sum [] = total-empty
total-list_sum (b ∷ bs) = omega (arith, total-ewise_add b.matrix.counts (list_sum bs), total-list_sum bs)

-- the accepted total is that of the sum
pub total-summed : (a : Accepted) → IsBase a.base a.folded → total (summed a) ≡ total_in a
total-summed a based =
    omega (
      arith,
      total-ewise_add a.base (list_sum a.list),
      total-list_sum a.list,
      based.adds_up,
      total_of-append a.folded (entries_of a.list),
    )

-- folding leaves the sum
pub summed-folded : (a : Accepted) → summed (folded_into (summed a) a) ≡ summed a
summed-folded a = ewise_add-empty (summed a)

-- and the entries
pub entries-folded : (base : Counts) (a : Accepted) → entries_in (folded_into base a) ≡ entries_in a
entries-folded base a = append-nil (entries_in a)

-- the sum of all is a base of all
pub base-folded : (a : Accepted) → IsBase a.base a.folded → IsBase (summed a) (entries_in a)
base-folded a based = record {
  adds_up = total-summed a based;
  none = λ none. nothing a.folded a.list none (based.none (front_none a.folded (entries_of a.list) none));
}
  where
    front_none : (es fs : List Entry) → es ++ fs ≡ [] → es ≡ []
    front_none [] fs h = refl
    front_none (e ∷ es) fs h = cc

    nothing : (es : List Entry) (list : List Submission) → es ++ entries_of list ≡ [] → a.base ≡ empty →
        ewise_add a.base (list_sum list) ≡ empty
    nothing [] [] h is = ewise_add-empty a.base ∙ is
    nothing [] (b ∷ bs) h is = cc
    nothing (e ∷ es) list h is = cc

-- the parts of a list of batches make the part of its sum
pub content-parts : (s k : ℕ) (list : List Submission) → content (parts_of s k list) ≡ part (list_sum list) s k
content-parts s k [] = sym (part-empty s k)
content-parts s k (b ∷ bs) = ap (ewise_add (part b.matrix.counts s k)) (content-parts s k bs)
    ∙ sym (part-ewise_add b.matrix.counts (list_sum bs) s k)

-- a record's content is the part of what it is of
pub record-part : (s k : ℕ) (base : Counts) (list : List Submission) →
    record_content s k (part base s k) list ≡ part (ewise_add base (list_sum list)) s k
record-part s k base list = ap (ewise_add (part base s k)) (content-parts s k list)
    ∙ sym (part-ewise_add base (list_sum list) s k)

-- the batches that concern a shard have all of its part
pub record-whole : (s k : ℕ) (a : Accepted) →
    record_content s k (part a.base s k) (concerned s k a.list) ≡ part (summed a) s k
record-whole s k a = record_content-concerned s k (part a.base s k) a.list ∙ record-part s k a.base a.list

-- what a record holds lies in its shard, where its base does
pub record-own : (s k : ℕ) (base : Counts) (list : List Submission) → part base s k ≡ base →
    part (record_content s k base list) s k ≡ record_content s k base list
record-own s k base list own =
    let is : record_content s k base list ≡ part (ewise_add base (list_sum list)) s k =
    ap (λ (m : Counts). record_content s k m list) (sym own) ∙ record-part s k base list in
    ap (λ (m : Counts). part m s k) is ∙ part-part (ewise_add base (list_sum list)) s k ∙ sym is
