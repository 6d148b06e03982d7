-- Comparing lists, and a record with the list that it should follow.
use Rattle.std.proofs.Common.{◌≡◌, ℕ, zero, suc, ◌<◌, ◌≤◌, Bool, true, false, cond, List, [], ◌∷◌, ◌++◌, length, take}
use Rattle.std.proofs.Common.{◌+◌, ◌-◌, None, drop, Some, sym, ◌∙◌, ap, arith, append-nil}
use Rattle.std.specs.Prelude.{slice_get}
use Rattle.std.proofs.lemmas.List.Elements.{filter-append}
use Rattle.std.proofs.lemmas.Bool.{le-ltb}
use Rattle.batch_store.specs.Accepted.{Accepted, batch_at}
use Rattle.batch_store.specs.Batches.{Submission}
use Rattle.batch_store.specs.Parts.{concerns, concerned}
use Rattle.plain_engine.specs.Records.{Follows}

-- the place that holds an element cuts the list there
pub taken_more : {A : Type 0} (i : ℕ) (xs : List A) (x : A) → slice_get xs i ≡ Some x →
    take (suc i) xs ≡ take i xs ++ x ∷ []
taken_more i [] x h = absurd cc
taken_more zero (y ∷ ys) x h = let same : y ≡ x = cc in ap (λ z. z ∷ []) same
taken_more (suc i) (y ∷ ys) x h = ap (λ zs. y ∷ zs) (taken_more i ys x h)

pub cut_at : {A : Type 0} (i : ℕ) (xs : List A) (x : A) → slice_get xs i ≡ Some x →
    xs ≡ take i xs ++ x ∷ drop (suc i) xs
cut_at i [] x h = absurd cc
cut_at zero (y ∷ ys) x h = let same : y ≡ x = cc in ap (λ z. z ∷ ys) same
cut_at (suc i) (y ∷ ys) x h = ap (λ zs. y ∷ zs) (cut_at i ys x h)

-- a place counted behind the folded batches
pub behind_folded : (a : Accepted) (n i : ℕ) → n ≡ length a.folded → batch_at a (n + i) ≡ slice_get a.list i
behind_folded a n i is =
    ap (λ (t : Bool). cond t None (slice_get a.list (n + i - length a.folded)))
    (le-ltb (n + i) (length a.folded) (omega (arith, is)))
    ∙ ap (slice_get a.list) {x = n + i - length a.folded} {y = i} (omega (arith, is))

-- what stands behind a beginning of a list
behind : {A : Type 0} (n : ℕ) (xs zs : List A) (x : A) → n ≤ length xs → xs ≡ take n xs ++ x ∷ zs →
    slice_get xs n ≡ Some x
behind zero [] zs x h e = absurd cc
behind zero (y ∷ ys) zs x h e = let same : y ≡ x = cc in ap Some same
behind (suc n) [] zs x h e = absurd (omega arith)
behind (suc n) (y ∷ ys) zs x h e = let rest : ys ≡ take n ys ++ x ∷ zs = cc in behind n ys zs x (omega arith) rest

module _ (s k : ℕ) (list : List Submission) (i : ℕ) (b : Submission) (at : slice_get list i ≡ Some b) where
  -- the batches that concern the shard, up to this one
  pub concerned_more : concerned s k (take (suc i) list) ≡ concerned s k (take i list) ++ cond
      (concerns s k b.matrix.counts) (b ∷ []) []
  concerned_more = ap (concerned s k) (taken_more i list b at)
      ∙ filter-append (λ (x : Submission). concerns s k x.matrix.counts) (take i list) (b ∷ [])

  -- a record that follows has this one next
  pub held_next : (held : List Submission) (n : ℕ) → n ≤ length held → take n held ≡ concerned s k (take i list) →
      concerns s k b.matrix.counts ≡ true → Follows s k held list → slice_get held n ≡ Some b
  held_next held n within so_far here follows =
      let rest = concerned s k (drop (suc i) list) in
      let cut : concerned s k list ≡ concerned s k (take i list) ++ b ∷ rest =
      ap (concerned s k) (cut_at i list b at) ∙ filter-append (λ (x : Submission). concerns s k x.matrix.counts)
      (take i list) (b ∷ drop (suc i) list)
      ∙ ap (λ (x : Bool). concerned s k (take i list) ++ cond x (b ∷ rest) rest) here in
      behind n held rest b within (follows ∙ cut ∙ ap (λ xs. xs ++ b ∷ rest) (sym so_far))

  pub next_taken : (held : List Submission) (n : ℕ) → take n held ≡ concerned s k (take i list) →
      concerns s k b.matrix.counts ≡ true → slice_get held n ≡ Some b →
      take (suc n) held ≡ concerned s k (take (suc i) list)
  next_taken held n so_far here there =
      taken_more n held b there ∙ ap (λ xs. xs ++ b ∷ []) so_far
      ∙ sym (concerned_more ∙ ap (λ (x : Bool). concerned s k (take i list) ++ cond x (b ∷ []) []) here)

  pub next_skipped : (held : List Submission) (n : ℕ) → take n held ≡ concerned s k (take i list) →
      concerns s k b.matrix.counts ≡ false → take n held ≡ concerned s k (take (suc i) list)
  next_skipped held n so_far other =
      so_far ∙ sym (concerned_more ∙ ap (λ (x : Bool). concerned s k (take i list) ++ cond x (b ∷ []) []) other
      ∙ append-nil (concerned s k (take i list)))

pub within_list : {A : Type 0} (xs : List A) (n : ℕ) (x : A) → slice_get xs n ≡ Some x → n < length xs
within_list [] n x h = absurd cc
within_list (y ∷ ys) zero x h = omega arith
within_list (y ∷ ys) (suc n) x h = omega (arith, within_list ys n x h)
