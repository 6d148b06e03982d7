-- Runs of writes to a folder.
use Rattle.std.proofs.Common.{◌≡◌, ℕ, List, [], ◌∷◌, ◌++◌, Option, Some, Ok, Err, sym, ap}
use Rattle.std.proofs.Common.{◌∙◌, append_assoc, subst}
use Rattle.std.proofs.lemmas.List.{append-nil}
use Rattle.byte_io.specs.Streams.{Answer, Calls, bytes_of_calls}
use Rattle.byte_io.specs.Writing.{AnyOffer, EachTakes, HasTaken, HasStopped, IsRefusal}
use Rattle.file_folder.specs.Files.{Files, WhereTold, KeepsOthers, HasFile, IsWritten}
use Rattle.file_folder.proofs.FileLemmas.{told_then, more_holds, others_then}

-- the same calls, seen of what a state stands for
pub calls_mapped : {S T : Type 0} (step : S → Answer → S → Type 0) (step' : T → Answer → T → Type 0) (g : S → T) →
    ((s : S) (answer : Answer) (t : S) → step s answer t → step' (g s) answer (g t)) →
    (answers : List Answer) (s t : S) → Calls step s answers t → Calls step' (g s) answers (g t)
calls_mapped step step' g h [] s t e = ap g e
calls_mapped step step' g h (answer ∷ answers) s t c =
    (g c.0, h s answer c.0 c.1, calls_mapped step step' g h answers c.0 t c.2)

-- what no call changes, a run doesn't
pub calls_keep : {S A : Type 0} (step : S → Answer → S → Type 0) (key : S → A) →
    ((s : S) (answer : Answer) (t : S) → step s answer t → key t ≡ key s) →
    (answers : List Answer) (s t : S) → Calls step s answers t → key t ≡ key s
calls_keep step key h [] s t e = ap key (sym e)
calls_keep step key h (answer ∷ answers) s t c =
    calls_keep step key h answers c.0 t c.2 ∙ h s answer c.0 c.1

module _ {S T : Type 0} (step : S → List ℕ → Answer → S → Type 0) (step' : T → List ℕ → Answer → T → Type 0)
    (failures : S → ℕ) (failures' : T → ℕ) (g : S → T)
    (h : (s : S) (offered : List ℕ) (answer : Answer) (t : S) → step s offered answer t → step' (g s) offered answer (g t))
    (same : (s : S) → failures' (g s) ≡ failures s) where
  pub taken_mapped : (s t : S) (bytes : List ℕ) →
      HasTaken step failures s t bytes → HasTaken step' failures' (g s) (g t) bytes
  taken_mapped s t bytes a = record {
    answers = a.answers;
    calls = calls_mapped (AnyOffer step) (AnyOffer step') g (λ x answer y c. (c.0, h x c.0 answer y c.1)) a.answers s t
        a.calls;
    each = a.each;
    bytes_are = a.bytes_are;
    none_failed = same t ∙ a.none_failed ∙ sym (same s);
  }

  pub stopped_mapped : (s t : S) (text : List ℕ) (n : ℕ) →
      HasStopped step failures s t text n → HasStopped step' failures' (g s) (g t) text n
  stopped_mapped s t text n a = record {
    answers = a.answers;
    before = g a.before;
    calls = calls_mapped (AnyOffer step) (AnyOffer step') g (λ x answer y c. (c.0, h x c.0 answer y c.1)) a.answers s
        a.before a.calls;
    each = a.each;
    offered = a.offered;
    last = a.last;
    last_call = h a.before a.offered a.last t a.last_call;
    refused = subst (λ k. IsRefusal a.offered a.last k (failures' (g t))) (sym (same s))
        (subst (λ k. IsRefusal a.offered a.last (failures s) k) (sym (same t)) a.refused);
    bytes_are = a.bytes_are;
    next = a.next;
    some_left = a.some_left;
  }

module _ {S : Type 0} (takes : S → List ℕ → Answer → S → Type 0) (files : S → Option Files)
    (last : S → Option (List ℕ))
    (law : (s t : S) (offered : List ℕ) (answer : Answer) (name : List ℕ) → takes s offered answer t →
    last s ≡ Some name → (last t ≡ Some name) × WhereTold (IsWritten name answer) (files s) (files t)) where
  -- what the calls took stands behind what the file had
  pub run_holds : (name front : List ℕ) (answers : List Answer) (start : Option Files) (s t : S) → EachTakes answers →
      Calls (AnyOffer takes) s answers t → last s ≡ Some name → WhereTold (HasFile name front) start (files s) →
      (last t ≡ Some name) × WhereTold (HasFile name (front ++ bytes_of_calls answers)) start (files t)
  run_holds name front [] start s t each e created h =
      let here : WhereTold (HasFile name front) start (files t) = subst (λ x. WhereTold (HasFile name front) start (files x)) e h in (
        subst (λ x. last x ≡ Some name) e created,
        subst (λ bytes. WhereTold (HasFile name bytes) start (files t)) (sym (append-nil front)) here,
      )
  run_holds name front (Ok bytes ∷ answers) start s t each c created h =
      let one = law s c.0 c.1.0 (Ok bytes) name c.1.1 created in
      let more : WhereTold (HasFile name (front ++ bytes)) start (files c.0) =
      told_then _ _ _ (λ x y z p q. more_holds name front bytes x y z p q) start (files s) (files c.0) h one.1 in
      let rest = run_holds name (front ++ bytes) answers start c.0 t each.1 c.2 one.0 more in (
        rest.0,
        subst (λ all. WhereTold (HasFile name all) start (files t)) (append_assoc front bytes (bytes_of_calls answers))
            rest.1,
      )
  run_holds name front (Err fault ∷ answers) start s t each c created h = absurd each

  -- a last call, whatever it answers, changes no other file
  pub last_keeps : (name front : List ℕ) (answer : Answer) (offered : List ℕ) (start : Option Files) (s t : S) →
      takes s offered answer t → last s ≡ Some name → WhereTold (HasFile name front) start (files s) →
      WhereTold (KeepsOthers name) start (files t)
  last_keeps name front (Ok bytes) offered start s t c created h =
      told_then _ _ _ (λ x y z p q. (more_holds name front bytes x y z p q).1) start (files s) (files t) h
      (law s t offered (Ok bytes) name c created).1
  last_keeps name front (Err fault) offered start s t c created h =
      told_then _ _ _ (λ x y z p q. others_then name x y z p.1 q) start (files s) (files t) h
      (law s t offered (Err fault) name c created).1

  -- the whole text was taken by an empty file
  pub taken_holds : (failures : S → ℕ) (name text : List ℕ) (start : Option Files) (s t : S) →
      HasTaken takes failures s t text → last s ≡ Some name → WhereTold (HasFile name []) start (files s) →
      (last t ≡ Some name) × WhereTold (HasFile name text) start (files t)
  taken_holds failures name text start s t h created begun =
      let run = run_holds name [] h.answers start s t h.each h.calls created begun in
      (run.0, subst (λ bytes. WhereTold (HasFile name bytes) start (files t)) h.bytes_are run.1)

  -- a front of it was taken, and then the last call was refused
  pub stopped_keeps : (failures : S → ℕ) (name text : List ℕ) (n : ℕ) (start : Option Files) (s t : S) →
      HasStopped takes failures s t text n → last s ≡ Some name → WhereTold (HasFile name []) start (files s) →
      WhereTold (KeepsOthers name) start (files t)
  stopped_keeps failures name text n start s t h created begun =
      let run = run_holds name [] h.answers start s h.before h.each h.calls created begun in
      last_keeps name (bytes_of_calls h.answers) h.last h.offered start h.before t h.last_call run.0 run.1
