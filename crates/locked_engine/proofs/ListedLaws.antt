-- The batches that aren't folded, as a list.
use Rattle.std.proofs.Common.{◌≡◌, List, [], ◌∷◌, ◌++◌, length, drop, refl, sym, ◌∙◌, ap, subst, arith, length-append}
use Rattle.std.specs.Prelude.{Result, Ok, Err, IfOk}
use Rattle.hyper_matrix.proofs.CountLaws.{total-empty}
use Rattle.batch_store.specs.declared.verdict.Entry.{Entry}
use Rattle.batch_store.specs.Setups.{Setting}
use Rattle.batch_store.specs.Accepted.{Accepted, unfolded, entries_in}
use Rattle.batch_store.specs.Batches.{Submission, entries_of}
use Rattle.batch_store.specs.Books.{Register, Listing, AreAccepted, accepted_in, listed_in}
use Rattle.batch_store.proofs.VerdictLaws.{total_of-append}
use Rattle.plain_engine.proofs.WorldLaws.{distinct_behind}
use Rattle.locked_engine.specs.Opened.{SharePast, IsBehind}

drop_front : (es fs : List Entry) → drop (length es) (es ++ fs) ≡ fs
drop_front [] fs = refl
drop_front (e ∷ es) fs = drop_front es fs

-- without the folded ones the others are accepted
accepted_rest : (v : Setting) (a : Accepted) → AreAccepted v a → AreAccepted v (unfolded a.list)
accepted_rest v a held = record {
  sound = held.sound;
  distinct = distinct_behind a.folded (entries_of a.list) held.distinct;
  dims = held.dims;
  few = omega (arith, held.few, length-append a.folded (entries_of a.list));
  within = omega (arith, held.within, total_of-append a.folded (entries_of a.list));
  based = record { adds_up = total-empty; none = λ h. refl };
}

-- the list of a book's batches, in the words of the call
module _ {T E : Type 0} (list : T → List Submission) (w : Register) where
  pub rest_listed : (v : Setting) (res : Result T E) → IfOk res (λ (x : T). list x ≡ w.state.list) → w.setup ≡ v →
      AreAccepted w.setup w.state → IfOk res (λ (x : T). AreAccepted v (unfolded (list x)))
  rest_listed v (Err e) is setup held = tt
  rest_listed v (Ok x) is setup held =
      subst (λ (l : List Submission). AreAccepted v (unfolded l)) (sym is)
      (accepted_rest v w.state (subst (λ (s : Setting). AreAccepted s w.state) setup held))

  -- it has the entries behind the folded ones
  pub behind_listed : (opened : Accepted) (seen : List Entry) (res : Result T E) →
      IfOk res (λ (x : T). list x ≡ w.state.list) → SharePast w.state opened → seen ≡ entries_in w.state →
      IfOk res (λ (x : T). IsBehind opened (entries_of (list x)) seen)
  behind_listed opened seen (Err e) is past shown = tt
  behind_listed opened seen (Ok x) is past shown = (
    length w.state.folded,
    omega (arith, ap length past.folded, length-append opened.folded (entries_of past.since)),
    ap entries_of is ∙ sym (drop_front w.state.folded (entries_of w.state.list))
        ∙ ap (λ (l : List Entry). drop (length w.state.folded) l) (sym shown),
  )

-- the list of all that a book has accepted, in the words of the call
module _ {E : Type 0} (w : Register) (v : Setting) (setup : w.setup ≡ v) where
  pub all_accepted : (res : Result Listing E) → IfOk res (λ (x : Listing). x ≡ listed_in w.setup w.state) →
      AreAccepted w.setup w.state → IfOk res (λ (x : Listing). AreAccepted v (accepted_in x))
  all_accepted (Err e) is held = tt
  all_accepted (Ok x) is held =
      subst (λ (l : Listing). AreAccepted v (accepted_in l)) (sym is)
      (subst (λ (s : Setting). AreAccepted s w.state) setup held)

  pub all_sized : (res : Result Listing E) → IfOk res (λ (x : Listing). x ≡ listed_in w.setup w.state) →
      IfOk res (λ (x : Listing). x ≡ listed_in v (accepted_in x))
  all_sized (Err e) is = tt
  all_sized (Ok x) is = is ∙ (λ i. listed_in (setup i) w.state) ∙ ap (λ (l : Listing). listed_in v (accepted_in l))
      (sym is)

  pub all_past : (opened : Accepted) (res : Result Listing E) →
      IfOk res (λ (x : Listing). x ≡ listed_in w.setup w.state) → SharePast w.state opened →
      IfOk res (λ (x : Listing). SharePast (accepted_in x) opened)
  all_past opened (Err e) is past = tt
  all_past opened (Ok x) is past = subst (λ (l : Listing). SharePast (accepted_in l) opened) (sym is) past

  pub all_listed : (seen : List Entry) (res : Result Listing E) →
      IfOk res (λ (x : Listing). x ≡ listed_in w.setup w.state) → seen ≡ entries_in w.state →
      IfOk res (λ (x : Listing). entries_in (accepted_in x) ≡ seen)
  all_listed seen (Err e) is shown = tt
  all_listed seen (Ok x) is shown = ap (λ (l : Listing). entries_in (accepted_in l)) is ∙ sym shown
