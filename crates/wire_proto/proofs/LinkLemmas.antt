-- What a link gave and took, a call or a reply further.
use Rattle.std.proofs.Common.{◌≡◌, ℕ, ◌+◌, List, [], ◌∷◌, ◌++◌, length, take, refl, sym, ◌∙◌, ap, subst, arith, append_assoc}
use Rattle.std.proofs.Common.{Ok, Err}
use Rattle.std.proofs.lemmas.List.{append-nil}
use Rattle.byte_io.specs.Streams.{Answer, Calls, bytes_of_calls}
use Rattle.byte_io.specs.Writing.{HasTaken, HasStopped, IsRefusal, AnyOffer}
use Rattle.wire_proto.specs.Sessions.{Move, gave, took, Moves, bytes_given, bytes_taken, count_reads, Talks}

given_append : (xs ys : List Move) → bytes_given (xs ++ ys) ≡ bytes_given xs ++ bytes_given ys
given_append [] ys = refl
given_append (gave (Ok b) ∷ xs) ys = ap (λ l. b ++ l) (given_append xs ys) ∙
    sym (append_assoc b (bytes_given xs) (bytes_given ys))
given_append (gave (Err e) ∷ xs) ys = given_append xs ys
given_append (took o a ∷ xs) ys = given_append xs ys

taken_append : (xs ys : List Move) → bytes_taken (xs ++ ys) ≡ bytes_taken xs ++ bytes_taken ys
taken_append [] ys = refl
taken_append (gave a ∷ xs) ys = taken_append xs ys
taken_append (took o (Ok b) ∷ xs) ys = ap (λ l. b ++ l) (taken_append xs ys) ∙
    sym (append_assoc b (bytes_taken xs) (bytes_taken ys))
taken_append (took o (Err e) ∷ xs) ys = taken_append xs ys

reads_append : (xs ys : List Move) → count_reads (xs ++ ys) ≡ count_reads xs + count_reads ys
reads_append [] ys = omega arith
reads_append (gave a ∷ xs) ys = let e = reads_append xs ys in omega arith
reads_append (took o a ∷ xs) ys = reads_append xs ys

-- a read that gave nothing
pub none_given : (bytes : List ℕ) → length bytes ≡ 0 → bytes_given (gave (Ok bytes) ∷ []) ≡ []
none_given [] e = refl
none_given (b ∷ bytes) e = absurd (omega arith)

module _ {L : Type 0} (reads : L → Answer → L → Type 0) (writes : L → List ℕ → Answer → L → Type 0) where
  moves_append : (s m t : L) (xs ys : List Move) → Moves reads writes s xs m → Moves reads writes m ys t →
      Moves reads writes s (xs ++ ys) t
  moves_append s m t [] ys e b = subst (λ v. Moves reads writes v ys t) (sym e) b
  moves_append s m t (gave x ∷ xs) ys a b = (a.0, a.1, moves_append a.0 m t xs ys a.2 b)
  moves_append s m t (took o x ∷ xs) ys a b = (a.0, a.1, moves_append a.0 m t xs ys a.2 b)

  pub talks_append : (s m t : L) (g1 g2 t1 t2 : List ℕ) (n1 n2 : ℕ) →
      Talks reads writes s m g1 t1 n1 → Talks reads writes m t g2 t2 n2 →
      Talks reads writes s t (g1 ++ g2) (t1 ++ t2) (n1 + n2)
  talks_append s m t g1 g2 t1 t2 n1 n2 a b = record {
    moves = a.moves ++ b.moves;
    run = moves_append s m t a.moves b.moves a.run b.run;
    given_is = given_append a.moves b.moves ∙ rw (a.given_is, b.given_is) refl;
    taken_is = taken_append a.moves b.moves ∙ rw (a.taken_is, b.taken_is) refl;
    turns_are = reads_append a.moves b.moves ∙ rw (a.turns_are, b.turns_are) refl;
  }

  -- one write, and a run of writes
  talks_write : (s t : L) (offered : List ℕ) (answer : Answer) → writes s offered answer t →
      Talks reads writes s t [] (bytes_of_calls (answer ∷ [])) 0
  talks_write s t offered (Ok b) h = record {
    moves = took offered (Ok b) ∷ [];
    run = (t, h, refl);
    given_is = refl;
    taken_is = refl;
    turns_are = refl;
  }
  talks_write s t offered (Err e) h = record {
    moves = took offered (Err e) ∷ [];
    run = (t, h, refl);
    given_is = refl;
    taken_is = refl;
    turns_are = refl;
  }

  talks_nothing : (s : L) → Talks reads writes s s [] [] 0
  talks_nothing s = record { moves = []; run = refl; given_is = refl; taken_is = refl; turns_are = refl }

  talks_calls : (s t : L) (xs : List Answer) → Calls (AnyOffer writes) s xs t →
      Talks reads writes s t [] (bytes_of_calls xs) 0
  talks_calls s t [] e = subst (λ v. Talks reads writes s v [] [] 0) e (talks_nothing s)
  talks_calls s t (Ok b ∷ xs) a =
      subst (λ v. Talks reads writes s t [] v 0) (ap (λ l. l ++ bytes_of_calls xs) (append-nil b))
      (talks_append s a.0 t [] [] (b ++ []) (bytes_of_calls xs) 0 0 (talks_write s a.0 a.1.0 (Ok b) a.1.1)
      (talks_calls a.0 t xs a.2))
  talks_calls s t (Err e ∷ xs) a = talks_append s a.0 t [] [] [] (bytes_of_calls xs) 0 0
      (talks_write s a.0 a.1.0 (Err e) a.1.1) (talks_calls a.0 t xs a.2)

  -- so many bytes more were taken
  taken_more : (s m t : L) (given taken bytes : List ℕ) (n : ℕ) →
      Talks reads writes s m given taken n → Talks reads writes m t [] bytes 0 →
      Talks reads writes s t given (taken ++ bytes) n
  taken_more s m t given taken bytes n a b =
      subst (λ k. Talks reads writes s t given (taken ++ bytes) k) (omega arith)
      (subst (λ v. Talks reads writes s t v (taken ++ bytes) (n + 0)) (append-nil given)
      (talks_append s m t given [] taken bytes n 0 a b))

  pub talks_taken : (failures : L → ℕ) (s m t : L) (given taken bytes : List ℕ) (n : ℕ) →
      Talks reads writes s m given taken n → HasTaken writes failures m t bytes →
      Talks reads writes s t given (taken ++ bytes) n
  talks_taken failures s m t given taken bytes n a b =
      taken_more s m t given taken bytes n a (subst (λ v. Talks reads writes m t [] v 0) b.bytes_are
      (talks_calls m t b.answers b.calls))

  refusal_moves_nothing : (offered : List ℕ) (last : Answer) (x y : ℕ) → IsRefusal offered last x y →
      bytes_of_calls (last ∷ []) ≡ []
  refusal_moves_nothing offered (Ok bytes) x y h = append-nil bytes ∙ h.1
  refusal_moves_nothing offered (Err e) x y h = refl

  stopped_moves : (failures : L → ℕ) (m t : L) (bytes : List ℕ) (i : ℕ) → HasStopped writes failures m t bytes i →
      Talks reads writes m t [] (take i bytes) 0
  stopped_moves failures m t bytes i b =
      let none = refusal_moves_nothing b.offered b.last (failures m) (failures t) b.refused in
      let one = subst (λ v. Talks reads writes b.before t [] v 0) none
      (talks_write b.before t b.offered b.last b.last_call) in
      let many = subst (λ v. Talks reads writes m b.before [] v 0) b.bytes_are
      (talks_calls m b.before b.answers b.calls) in
      subst (λ v. Talks reads writes m t [] v 0) (append-nil (take i bytes))
      (talks_append m b.before t [] [] (take i bytes) [] 0 0 many one)

  pub talks_stopped : (failures : L → ℕ) (s m t : L) (given taken bytes : List ℕ) (n i : ℕ) →
      Talks reads writes s m given taken n → HasStopped writes failures m t bytes i →
      Talks reads writes s t given (taken ++ take i bytes) n
  talks_stopped failures s m t given taken bytes n i a b = taken_more s m t given taken (take i bytes) n a
      (stopped_moves failures m t bytes i b)

  -- a read
  talks_one : (s t : L) (answer : Answer) → reads s answer t →
      Talks reads writes s t (bytes_given (gave answer ∷ [])) [] 1
  talks_one s t answer h = record {
    moves = gave answer ∷ [];
    run = (t, h, refl);
    given_is = refl;
    taken_is = refl;
    turns_are = omega arith;
  }

  pub talks_read : (l0 l l' : L) (given taken : List ℕ) (turns : ℕ) (answer : Answer) →
      Talks reads writes l0 l given taken turns → reads l answer l' →
      Talks reads writes l0 l' (given ++ bytes_given (gave answer ∷ [])) taken (turns + 1)
  talks_read l0 l l' given taken turns answer a h =
      subst (λ v. Talks reads writes l0 l' (given ++ bytes_given (gave answer ∷ [])) v (turns + 1)) (append-nil taken)
      (talks_append l0 l l' given (bytes_given (gave answer ∷ [])) taken [] turns 1 a (talks_one l l' answer h))
