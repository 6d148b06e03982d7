-- A book and a record that follows it, of which the same first batches are folded, are together again.
use Rattle.std.proofs.Common.{◌≡◌, ℕ, ◌≤◌, List, [], ◌∷◌, ◌++◌, length, take, drop, sym, ◌∙◌, ap}
use Rattle.std.proofs.lemmas.List.{take-append-drop, take-append-le, drop-append-le}
use Rattle.std.proofs.lemmas.List.Elements.{filter-append}
use Rattle.std.proofs.Math.Seq.{take-append_seam, drop-append_seam}
use Rattle.hyper_matrix.specs.Counts.{Counts, ewise_add, part}
use Rattle.hyper_matrix.proofs.CountLaws.{ewise_add_assoc}
use Rattle.batch_store.specs.Setups.{Setting}
use Rattle.batch_store.specs.Verdicts.{verdict_of}
use Rattle.batch_store.specs.Batches.{Submission, entry_of, entries_of}
use Rattle.batch_store.specs.Accepted.{Accepted, accepted, list_sum, summed, with_batch}
use Rattle.batch_store.specs.BookFolds.{folded_to}
use Rattle.batch_store.specs.Parts.{concerns, concerned, record_content}
use Rattle.batch_store.proofs.SumLaws.{list_sum-append, record-whole}
use Rattle.batch_store.proofs.BookFoldLaws.{entries-to}
use Rattle.batch_store.proofs.ShardFoldLaws.{record_content-append}
use Rattle.plain_engine.specs.Object.{verdict_in}
use Rattle.plain_engine.specs.Records.{Follows}

concerned-append : (s k : ℕ) (xs ys : List Submission) → concerned s k (xs ++ ys) ≡ concerned s k xs ++ concerned s k ys
concerned-append s k xs ys = filter-append (λ (b : Submission). concerns s k b.matrix.counts) xs ys

module _ (k s n : ℕ) (a : Accepted) (r : List Submission) (follows : Follows s k r a.list) where
  both : r ≡ concerned s k (take n a.list) ++ concerned s k (drop n a.list)
  both = follows ∙ ap (concerned s k) (sym (take-append-drop n a.list))
      ∙ concerned-append s k (take n a.list) (drop n a.list)

  pub front_is : take (length (concerned s k (take n a.list))) r ≡ concerned s k (take n a.list)
  front_is = ap (take (length (concerned s k (take n a.list)))) both
      ∙ take-append_seam (concerned s k (take n a.list)) (concerned s k (drop n a.list))

  pub record_together : Follows s k (drop (length (concerned s k (take n a.list))) r) (folded_to n a).list
  record_together = ap (drop (length (concerned s k (take n a.list)))) both
      ∙ drop-append_seam (concerned s k (take n a.list)) (concerned s k (drop n a.list))

  pub base_together :
      record_content s k (part a.base s k) (take (length (concerned s k (take n a.list))) r) ≡ part (folded_to n a).base s k
  base_together = ap (record_content s k (part a.base s k)) front_is
      ∙ record-whole s k (accepted a.base [] (take n a.list))

pub sum_stays : (n : ℕ) (a : Accepted) → summed (folded_to n a) ≡ summed a
sum_stays n a = ewise_add_assoc a.base (list_sum (take n a.list)) (list_sum (drop n a.list))
    ∙ ap (ewise_add a.base) (sym (list_sum-append (take n a.list) (drop n a.list))
    ∙ ap list_sum (take-append-drop n a.list))

-- what a record holds, folded or not
pub content_stays : (s k m : ℕ) (base : Counts) (r : List Submission) →
    record_content s k (record_content s k base (take m r)) (drop m r) ≡ record_content s k base r
content_stays s k m base r = sym (record_content-append s k base (take m r) (drop m r))
    ∙ ap (record_content s k base) (take-append-drop m r)

-- to accept a batch and to fold what was before it come to the same in either order
pub admit_stays : (n : ℕ) (a : Accepted) (b : Submission) → n ≤ length a.list →
    folded_to n (with_batch a b) ≡ with_batch (folded_to n a) b
admit_stays n a b within =
    let front = take-append-le n a.list (b ∷ []) within in
    let behind = drop-append-le n a.list (b ∷ []) within in
    (λ i. accepted (ewise_add a.base (list_sum (front i))) (a.folded ++ entries_of (front i)) (behind i))

pub verdict_stays : (v : Setting) (n : ℕ) (a : Accepted) (b : Submission) →
    verdict_in v (folded_to n a) b ≡ verdict_in v a b
verdict_stays v n a b = ap (λ es. verdict_of v.limit v.max_batches es (entry_of b)) (entries-to n a)
