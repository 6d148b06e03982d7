-- A log of a list of which nothing is folded begins with nothing, and all batches are appended.
use Rattle.std.proofs.Common.{◌≡◌, ◌⊎◌, inl, inr, ℕ, List, [], ◌++◌, refl, sym, ap, subst, ◌∙◌}
use Rattle.std.specs.Prelude.{true, false, Option, Some, None, Result, Ok, Err, OnOk, is_some, IfSome, IsSomeAnd}
use Rattle.std.specs.Prelude.{MatchOption, String, string_bytes}
use Rattle.batch_store.specs.declared.verdict.Entry.{Entry}
use Rattle.batch_store.specs.Accepted.{Accepted, entries_in, unfolded}
use Rattle.batch_store.specs.Batches.{Submission, entries_of}
use Rattle.batch_store.specs.Books.{Listing, accepted_in, listed_in}
use Rattle.batch_store.specs.Setups.{Setting}
use Rattle.session_pool.specs.Saves.{IsSaved}

pub all_appended : (v : Setting) (front list : Listing) (rest : List Submission) → front ≡ listed_in v (unfolded []) →
    rest ≡ list.list → list.folded ≡ [] →
    entries_in (accepted_in front) ++ entries_of rest ≡ entries_in (accepted_in list)
all_appended v front list rest empty same none =
    ap (λ (l : Listing). entries_in (accepted_in l) ++ entries_of rest) empty
    ∙ (ap entries_of same ∙ ap (λ (es : List Entry). es ++ entries_of list.list) (sym none))

pub begun_with : {L E : Type 0} (r : Result L E) (P : List Entry → Type 0) (es : List Entry) → OnOk r (P es) →
    OnOk r ((x : List Entry) × P x)
begun_with (Ok log) P es begun = (es, begun)
begun_with (Err f) P es begun = tt

-- what was saved under a path is so under the same path, lent
pub held_under : {D X Z : Type 0} (holds : D → List ℕ → Setting → Accepted → Type 0) (d : D) (o : Option (String Z))
    (r : Option X) (bytes : X → List ℕ) (v : Setting) (a : Accepted) →
    MatchOption o (r ≡ None) (λ s. IsSomeAnd r (λ y. bytes y ≡ string_bytes s)) → IsSaved holds d o v a →
    IfSome r (λ y. holds d (bytes y) v a)
held_under holds d None None bytes v a is saved = tt
held_under holds d None (Some y) bytes v a is saved = absurd (cc is)
held_under holds d (Some s) None bytes v a is saved = tt
held_under holds d (Some s) (Some y) bytes v a is saved = subst (λ (b : List ℕ). holds d b v a) (sym is) saved

pub some_held : {A : Type 0} (o : Option A) (P : A → Type 0) → is_some o ≡ true → IfSome o P → IsSomeAnd o P
some_held None P there h = absurd (cc there)
some_held (Some x) P there h = h

pub other_holds : {A B : Type 0} → A ⊎ B → (A → ⊥) → B
other_holds (inl a) none = absurd (none a)
other_holds (inr b) none = b

pub none_where : {A : Type 0} (o : Option A) → is_some o ≡ false → o ≡ None
none_where None h = refl
none_where (Some x) h = absurd (cc h)
