-- What a session accepts, and that a repeat gets the reply that was given first.
use Rattle.std.proofs.Common.{◌≡◌, ◌⊎◌, inl, inr, ℕ, suc, ◌+◌, ◌<◌, ◌≤◌, Bool, true, false, cond, not, ◌==◌, ◌&&◌}
use Rattle.std.proofs.Common.{nat_lt, List, [], ◌∷◌, ◌++◌, length, take, position, if◌then◌else◌, refl, sym, ◌∙◌, ap}
use Rattle.std.proofs.Common.{subst, arith, append_assoc, length-append, map, Option, Some, None, Result, Ok, Err}
use Rattle.std.specs.List.{position_or_len}
use Rattle.std.proofs.lemmas.List.{append-nil, take-append-le, take_at, map-append}
use Rattle.std.proofs.lemmas.Bool.Decides.{nat_tests}
use Rattle.batch_store.specs.Setups.{Setting}
use Rattle.batch_store.specs.Batches.{Submission, entry_of, entries_of, batch_total}
use Rattle.batch_store.specs.Accepted.{Accepted, accepted as state_with, entries_in, count_in, total_in, with_batch}
use Rattle.batch_store.specs.Verdicts.{kept, total_of_entries, same_pair, verdict_at, verdict_of}
use Rattle.batch_store.specs.declared.verdict.Entry.{Entry}
use Rattle.batch_store.specs.declared.verdict.Kept.{Kept}
use Rattle.batch_store.specs.declared.verdict.Verdict.{Verdict}
use Rattle.batch_store.specs.declared.verdict.Verdict.TheVariants as verdict
use Rattle.batch_store.proofs.VerdictLaws.{fresh_is, total_push}
use Rattle.hyper_matrix.specs.Matrix.{Matrix}
use Rattle.std.specs.declared.alloc.AllocError.{AllocError}
use Rattle.plain_engine.specs.Object.{answer_to, state_by, verdict_in}
use Rattle.plain_engine.specs.declared.fault.PutFault.{PutFault}
use Rattle.plain_engine.specs.declared.fault.PutFault.TheVariants as fault
use Rattle.wire_proto.specs.declared.keeper.PutRefusal.{PutRefusal}
use Rattle.wire_proto.specs.declared.keeper.PutRefusal.TheVariants.{Put as Refuses, LogFull, LogFailed}
use Rattle.wire_proto.specs.Keeping.{Event, put, export, stats, fold}
use Rattle.wire_proto.specs.Telling.{Telling}
use Rattle.wire_proto.specs.Replies.{accepted, refused, put_reply, reply_of}
use Rattle.wire_proto.specs.Answering.{PutsBatch, PutsCells, Answers, asked, unasked, of_sum}
use Rattle.wire_frames.specs.Frames.{Message}
use Rattle.wire_proto.specs.Plain.{PlainGives, IsAnswered, AreAnswered, FreshPuts, PutsFresh, GoOn, IsPut, with_batches}
use Rattle.wire_proto.specs.Plain.{IsFolded, NoneFolds}
use Rattle.wire_proto.specs.declared.keeper.FoldRefusal.{FoldRefusal}
use Rattle.wire_proto.proofs.DecodeLemmas.{frame_kind}
use Rattle.wire_proto.specs.Decoding.{accepted as says_accepted, refused as says_refused}
use Rattle.wire_proto.proofs.OneAnswer.{one_batch, never_both, put_is, one_cells_batch, never_both_cells}
use Rattle.wire_proto.proofs.PlainLemmas.{one_more}
use Rattle.wire_proto.proofs.FoldedLemmas.{folded_same, folded_all, folded_behind, folded_on, folded_entries}
use Rattle.wire_frames.specs.declared.request.Request.{Request}
use Rattle.wire_frames.specs.declared.request.Request.TheVariants.{Put, PutCells, Cell, Row, Status, Export, Save, Stop}
use Rattle.wire_frames.specs.declared.request.Request.TheVariants.{Stored, Range, Top, Stats, Fold, Groups}

-- ---- batches behind what was accepted
none_behind : (state : Accepted) → with_batches state [] ≡ state
none_behind state = ap (state_with state.base state.folded) (append-nil state.list)

more_behind : (state : Accepted) (xs ys : List Submission) →
    with_batches (with_batches state xs) ys ≡ with_batches state (xs ++ ys)
more_behind state xs ys = ap (state_with state.base state.folded) (append_assoc state.list xs ys)

entries_behind : (state : Accepted) (more : List Submission) →
    entries_in state ++ entries_of more ≡ entries_in (with_batches state more)
entries_behind state more = append_assoc state.folded (entries_of state.list) (entries_of more) ∙
    ap (λ es. state.folded ++ es) (sym (map-append entry_of state.list more))

-- ---- the first place of a pair
abbrev pair_test : ℕ → ℕ → Entry → Bool
pair_test c n e = (c == e.client) && (n == e.number)

stays : (p : Entry → Bool) (xs ys : List Entry) → position_or_len p xs < length xs →
    position_or_len p (xs ++ ys) ≡ position_or_len p xs
stays p [] ys h = absurd (omega (arith, h))
stays p (x ∷ xs) ys h = by (p x) (stays p xs ys) h
  where
    by : (b : Bool) → (position_or_len p xs < length xs → position_or_len p (xs ++ ys) ≡ position_or_len p xs) →
        cond (not b) (1 + position_or_len p xs) 0 < suc (length xs) →
        cond (not b) (1 + position_or_len p (xs ++ ys)) 0 ≡ cond (not b) (1 + position_or_len p xs) 0
    by true again h = refl
    by false again h = ap (λ k. 1 + k) (again (omega (arith, h)))

at_end : (p : Entry → Bool) (xs : List Entry) (y : Entry) → length xs ≤ position_or_len p xs → p y ≡ true →
    position_or_len p (xs ++ y ∷ []) ≡ length xs
at_end p [] y h e = ap (λ b. cond (not b) 1 0) e
at_end p (x ∷ xs) y h e = by (p x) (λ k. at_end p xs y k e) h
  where
    by : (b : Bool) → (length xs ≤ position_or_len p xs → position_or_len p (xs ++ y ∷ []) ≡ length xs) →
        suc (length xs) ≤ cond (not b) (1 + position_or_len p xs) 0 →
        cond (not b) (1 + position_or_len p (xs ++ y ∷ [])) 0 ≡ suc (length xs)
    by true again h = absurd (omega (arith, h))
    by false again h = let k = again (omega (arith, h)) in omega (arith, k)

none_past : (p : Entry → Bool) (xs : List Entry) → position p xs ≡ None → length xs ≤ position_or_len p xs
none_past p xs h = by (nat_lt (position_or_len p xs) (length xs)) refl h
  where
    by : (b : Bool) → nat_lt (position_or_len p xs) (length xs) ≡ b → cond b (Some (position_or_len p xs)) None ≡ None →
        length xs ≤ position_or_len p xs
    by true is h = absurd (cc)
    by false is h = grind (arith, nat_tests)

some_place : (p : Entry → Bool) (xs : List Entry) (i : ℕ) → position p xs ≡ Some i →
    (position_or_len p xs ≡ i) × (position_or_len p xs < length xs)
some_place p xs i h = by (nat_lt (position_or_len p xs) (length xs)) refl h
  where
    by : (b : Bool) → nat_lt (position_or_len p xs) (length xs) ≡ b →
        cond b (Some (position_or_len p xs)) None ≡ Some i →
        (position_or_len p xs ≡ i) × (position_or_len p xs < length xs)
    by true is h = (cc, grind (arith, nat_tests))
    by false is h = absurd (cc)

own_pair : (c n : ℕ) → ((c == c) && (n == n)) ≡ true
own_pair c n = grind (arith, nat_tests)

-- This reply is kept for a pair, at the first place where it stands.
record IsKept (state : Accepted) (c n : ℕ) (k : Kept) : Type 0 where
  found : position_or_len (pair_test c n) (entries_in state) < length (entries_in state)
  is : k ≡ kept (position_or_len (pair_test c n) (entries_in state))
      (total_of_entries (take (position_or_len (pair_test c n) (entries_in state) + 1) (entries_in state)))

-- more is accepted, and the reply stays
stored_longer : (es ms : List Entry) (c n : ℕ) (k : Kept) → position_or_len (pair_test c n) es < length es →
    k ≡ kept (position_or_len (pair_test c n) es) (total_of_entries
    (take (position_or_len (pair_test c n) es + 1) es)) →
    (position_or_len (pair_test c n) (es ++ ms) < length (es ++ ms))
    × (k ≡ kept (position_or_len (pair_test c n) (es ++ ms))
    (total_of_entries (take (position_or_len (pair_test c n) (es ++ ms) + 1) (es ++ ms))))
stored_longer es ms c n k found is =
    let same = stays (pair_test c n) es ms found in (
      omega (arith, same, found, length-append es ms),
      is ∙ sym (rw same (ap (λ (l : List Entry). kept (position_or_len (pair_test c n) es) (total_of_entries l))
          (take-append-le (position_or_len (pair_test c n) es + 1) es ms (omega (arith, found))))),
    )

stored_more : (state : Accepted) (more : List Submission) (c n : ℕ) (k : Kept) → IsKept state c n k →
    IsKept (with_batches state more) c n k
stored_more state more c n k s =
    let both = stored_longer (entries_in state) (entries_of more) c n k s.found s.is in
    let e = entries_behind state more in
    record {
      found = subst (λ (es : List Entry). position_or_len (pair_test c n) es < length es) e both.0;
      is = subst (λ (es : List Entry). k ≡ kept (position_or_len (pair_test c n) es)
          (total_of_entries (take (position_or_len (pair_test c n) es + 1) es))) e both.1;
    }

-- so does it where what was accepted is folded
stored_folded : (a t : Accepted) (c n : ℕ) (k : Kept) → IsFolded a t → IsKept a c n k → IsKept t c n k
stored_folded a t c n k h s =
    let e = sym (folded_entries a t h) in
    record {
      found = subst (λ (es : List Entry). position_or_len (pair_test c n) es < length es) e s.found;
      is = subst (λ (es : List Entry). k ≡ kept (position_or_len (pair_test c n) es)
          (total_of_entries (take (position_or_len (pair_test c n) es + 1) es))) e s.is;
    }

-- so there is one
stored_once : (state : Accepted) (c n : ℕ) (k k' : Kept) → IsKept state c n k → IsKept state c n k' → k ≡ k'
stored_once state c n k k' s t = s.is ∙ sym t.is

-- ---- a fresh batch stands at the end, a known one where it stood
end_stored : (es : List Entry) (b : Entry) → length es ≤ position_or_len (pair_test b.client b.number) es →
    (position_or_len (pair_test b.client b.number) (es ++ b ∷ []) ≡ length es)
    × (total_of_entries (take (length es + 1) (es ++ b ∷ [])) ≡ total_of_entries es + b.total)
end_stored es b h =
    let size : length es + 1 ≡ length (es ++ b ∷ []) = omega (arith, length-append es (b ∷ [])) in
    let whole : take (length es + 1) (es ++ b ∷ []) ≡ es ++ b ∷ [] =
    ap (take (length es + 1)) (sym (append-nil (es ++ b ∷ []))) ∙
    take_at (es ++ b ∷ []) [] (length es + 1) (sym size) in (
      at_end (pair_test b.client b.number) es b h (own_pair b.client b.number),
      ap total_of_entries whole ∙
          total_push es b,
    )

stored_fresh : (v : Setting) (state : Accepted) (b : Submission) → verdict_in v state b ≡ verdict.Fresh →
    IsKept (with_batch state b) b.client b.number (kept (count_in state) (total_in state + batch_total b))
stored_fresh v state b h =
    let es = entries_in state in
    let new = none_past (pair_test b.client b.number) es (fresh_is v.limit v.max_batches es (entry_of b) h).new_pair in
    let ends = end_stored es (entry_of b) new in
    let e = entries_behind state (b ∷ []) in
    record {
      found = subst (λ (l : List Entry). position_or_len (pair_test b.client b.number) l < length l) e
          (let k = ends.0 in omega (arith, k, length-append es (entry_of b ∷ [])));
      is = subst (λ (l : List Entry). kept (count_in state) (total_in state + batch_total b) ≡
          kept (position_or_len (pair_test b.client b.number) l)
          (total_of_entries (take (position_or_len (pair_test b.client b.number) l + 1) l))) e
          (rw ends.0 (rw ends.1 refl));
    }

known_is : (x : Bool) (i after : ℕ) (k : Kept) → (if x then verdict.Known (kept i after) else verdict.NumberReused) ≡
    verdict.Known k → k ≡ kept i after
known_is true i after k h = cc
known_is false i after k h = absurd (cc)

never_new : (x y : Bool) (t : ℕ) (k : Kept) →
    (if x then verdict.OverTotal t else if y then verdict.BookFull else verdict.Fresh) ≡ verdict.Known k → ⊥
never_new true y t k h = cc
never_new false true t k h = cc
never_new false false t k h = cc

stored_at : (limit most : ℕ) (es : List Entry) (b : Entry) (k : Kept) (o : Option ℕ) → position (same_pair b) es ≡ o →
    verdict_at limit most es b o ≡ verdict.Known k →
    (position_or_len (pair_test b.client b.number) es < length es)
    × (k ≡ kept (position_or_len (pair_test b.client b.number) es)
    (total_of_entries (take (position_or_len (pair_test b.client b.number) es + 1) es)))
stored_at limit most es b k None is h = absurd (never_new _ _ _ k h)
stored_at limit most es b k (Some i) is h =
    let place = some_place (pair_test b.client b.number) es i is in (
      place.1,
      known_is _ i (total_of_entries (take (i + 1) es)) k h ∙
          sym (ap (λ j. kept j (total_of_entries (take (j + 1) es))) place.0),
    )

stored_known : (v : Setting) (state : Accepted) (b : Submission) (k : Kept) →
    verdict_in v state b ≡ verdict.Known k → IsKept state b.client b.number k
stored_known v state b k h =
    let both = stored_at v.limit v.max_batches (entries_in state) (entry_of b) k
    (position (same_pair (entry_of b)) (entries_in state)) refl h in
    record { found = both.0; is = both.1 }

ok_is : (x y : Kept) → ◌≡◌ {A = Result Kept PutFault} (Ok x) (Ok y) → x ≡ y
ok_is x y e = cc

by_stored : (v : Setting) (state t : Accepted) (b : Submission) (k : Kept) (vd : Verdict) →
    verdict_in v state b ≡ vd → ◌≡◌ {A = Result Kept PutFault} (Ok k) (answer_to state b vd) → t ≡ state_by state b vd →
    IsKept t b.client b.number k
by_stored v state t b k verdict.Fresh is a h = subst (λ l. IsKept l b.client b.number k) (sym h)
    (subst (IsKept (with_batch state b) b.client b.number) (sym (ok_is _ _ a)) (stored_fresh v state b is))
by_stored v state t b k (verdict.Known k') is a h = subst (λ l. IsKept l b.client b.number k) (sym h)
    (subst (IsKept state b.client b.number) (sym (ok_is _ _ a)) (stored_known v state b k' is))
by_stored v state t b k verdict.NumberReused is a h = absurd (cc)
by_stored v state t b k (verdict.OverTotal total) is a h = absurd (cc)
by_stored v state t b k verdict.BookFull is a h = absurd (cc)

-- ---- replies that say Accepted
never_refused : (w : List ℕ) (k : Kept) (code detail : ℕ) → w ≡ accepted k → w ≡ refused code detail → ⊥
never_refused w k code detail e f =
    let one = frame_kind w (says_accepted k) e in let two = frame_kind w (says_refused code detail) f in
    omega (arith, one, two)

some_reply : (x y : List ℕ) → Some x ≡ Some y → x ≡ y
some_reply x y e = cc

by_answer : (v : Setting) (state t : Accepted) (b : Submission) (answer : Result Kept PutRefusal) (w : List ℕ)
    (k : Kept) → PlainGives v state (put b answer) t → put_reply answer ≡ Some w → w ≡ accepted k →
    (k' : Kept) × (w ≡ accepted k') × IsKept t b.client b.number k'
by_answer v state t b (Ok k') w k h i e = (
  k',
  sym (some_reply _ _ i),
  by_stored v state t b k' (verdict_in v state b) refl h.0 h.1,
)
by_answer v state t b (Err (Refuses fault.Memory)) w k h i e = absurd (cc)
by_answer v state t b (Err (Refuses fault.NumberReused)) w k h i e = absurd
    (never_refused w k 30 0 e (sym (some_reply _ _ i)))
by_answer v state t b (Err (Refuses (fault.OverTotal total))) w k h i e = absurd
    (never_refused w k 31 total e (sym (some_reply _ _ i)))
by_answer v state t b (Err (Refuses fault.BookFull)) w k h i e = absurd
    (never_refused w k 32 0 e (sym (some_reply _ _ i)))
by_answer v state t b (Err (Refuses fault.RecordsDiffer)) w k h i e = absurd
    (never_refused w k 33 0 e (sym (some_reply _ _ i)))
by_answer v state t b (Err LogFull) w k h i e = absurd h
by_answer v state t b (Err LogFailed) w k h i e = absurd h

-- a put of a batch, from whatever request
batch_stored : (v : Setting) (state t : Accepted) (c n : ℕ) (e : Event) (b : Submission)
    (answer : Result Kept PutRefusal) (w : List ℕ) (k : Kept) → e ≡ put b answer → b.client ≡ c → b.number ≡ n →
    PlainGives v state e t → reply_of e ≡ Some w → w ≡ accepted k →
    (k' : Kept) × (w ≡ accepted k') × IsKept t c n k'
batch_stored v state t c n e b answer w k is client number h i told =
    let found = by_answer v state t b answer w k (subst (λ x. PlainGives v state x t) is h)
    (subst (λ x. reply_of x ≡ Some w) is i) told in (
      found.0,
      found.1,
      subst (λ m. IsKept t c m found.0) number (subst (λ m. IsKept t m b.number found.0) client found.2),
    )

put_stored : (v : Setting) (state t : Accepted) (c n : ℕ) (r : Request) (w : List ℕ) (k : Kept) → IsPut c n r →
    Answers (PlainGives v) v r w state t → w ≡ accepted k → (k' : Kept) × (w ≡ accepted k') × IsKept t c n k'
put_stored v state t c n (Put x y text) w k p (asked ev a h i) e =
    batch_stored v state t c n ev a.0 a.1 w k a.3 (ap (λ (b : Submission). b.client) a.2.batch_is ∙ p.0)
    (ap (λ (b : Submission). b.number) a.2.batch_is ∙ p.1) h i e
put_stored v state t c n (Put x y text) w k p (unasked a i) e = absurd (never_refused w k a.0 a.1 e a.3)
put_stored v state t c n (PutCells x y cells) w k p (asked ev a h i) e =
    batch_stored v state t c n ev a.0 a.1 w k a.3 (ap (λ (b : Submission). b.client) a.2.batch_is ∙ p.0)
    (ap (λ (b : Submission). b.number) a.2.batch_is ∙ p.1) h i e
put_stored v state t c n (PutCells x y cells) w k p (unasked a i) e = absurd (never_refused w k a.0 a.1 e a.3)
put_stored v state t c n (Put x y text) w k p (of_sum m b g) e = absurd b
put_stored v state t c n (PutCells x y cells) w k p (of_sum m b g) e = absurd b
put_stored v state t c n (Range x y z i) w k p a e = absurd p
put_stored v state t c n (Top x i) w k p a e = absurd p
put_stored v state t c n (Groups x s i r) w k p a e = absurd p
put_stored v state t c n (Cell x y) w k p a e = absurd p
put_stored v state t c n (Row x) w k p a e = absurd p
put_stored v state t c n Status w k p a e = absurd p
put_stored v state t c n Export w k p a e = absurd p
put_stored v state t c n Save w k p a e = absurd p
put_stored v state t c n Stop w k p a e = absurd p
put_stored v state t c n Stored w k p a e = absurd p
put_stored v state t c n Stats w k p a e = absurd p
put_stored v state t c n Fold w k p a e = absurd p

-- ---- what a session adds to what was accepted
-- P: it is the one batch of a put
by_fresh : (P : Submission → Type 0) → ((x y : Submission) → P x → P y → x ≡ y) →
    (v : Setting) (state t : Accepted) (b : Submission) (vd : Verdict) → verdict_in v state b ≡ vd → P b →
    t ≡ state_by state b vd →
    ((((x : Submission) → P x × (verdict_in v state x ≡ verdict.Fresh) → ⊥) × (t ≡ state)) ⊎
    ((x : Submission) × (P x × (verdict_in v state x ≡ verdict.Fresh)) × (t ≡ with_batch state x)))
by_fresh P one v state t b verdict.Fresh is p h = inr (b, (p, is), h)
by_fresh P one v state t b (verdict.Known k) is p h = inl
    ((λ x f. let same = ap (verdict_in v state) (one x b f.0 p) in let fresh = f.1 in cc), h)
by_fresh P one v state t b verdict.NumberReused is p h = inl
    ((λ x f. let same = ap (verdict_in v state) (one x b f.0 p) in let fresh = f.1 in cc), h)
by_fresh P one v state t b (verdict.OverTotal total) is p h = inl
    ((λ x f. let same = ap (verdict_in v state) (one x b f.0 p) in let fresh = f.1 in cc), h)
by_fresh P one v state t b verdict.BookFull is p h = inl
    ((λ x f. let same = ap (verdict_in v state) (one x b f.0 p) in let fresh = f.1 in cc), h)

abbrev AddsOne : Setting → Accepted → Request → Accepted → Type 0
AddsOne v state r t = (((x : Submission) → PutsFresh v state r x → ⊥) × (t ≡ state)) ⊎
    ((x : Submission) × PutsFresh v state r x × (t ≡ with_batch state x))

-- a Fold folds, and each other request adds a batch or none
abbrev Adds : Setting → Accepted → Request → Accepted → Type 0
Adds v state Fold t = IsFolded state t
Adds v state r t = AddsOne v state r t

export_keeps : (v : Setting) (state t : Accepted) (e : Event) (a : Result Matrix AllocError) → e ≡ export a →
    PlainGives v state e t → t ≡ state
export_keeps v state t e (Ok m) is h = (subst (λ x. PlainGives v state x t) is h).1
export_keeps v state t e (Err x) is h = subst (λ x. PlainGives v state x t) is h

-- nor what it tells of itself
stats_keeps : (v : Setting) (state t : Accepted) (e : Event) (a : Result Telling AllocError) → e ≡ stats a →
    PlainGives v state e t → t ≡ state
stats_keeps v state t e (Ok told) is h = (subst (λ x. PlainGives v state x t) is h).1
stats_keeps v state t e (Err lack) is h = subst (λ x. PlainGives v state x t) is h

fold_leaves : (v : Setting) (state t : Accepted) (e : Event) (a : Result ℕ FoldRefusal) → e ≡ fold a →
    PlainGives v state e t → IsFolded state t
fold_leaves v state t e (Ok n) is h = folded_all state t (subst (λ x. PlainGives v state x t) is h).1
fold_leaves v state t e (Err x) is h = folded_same state t (subst (λ x. PlainGives v state x t) is h).1

adds : (v : Setting) (state t : Accepted) (r : Request) (w : List ℕ) → Answers (PlainGives v) v r w state t →
    Adds v state r t
adds v state t (Put c n text) w (asked ev a h i) =
    let one = put_is v state a.0 a.1 t w (subst (λ x. PlainGives v state x t) a.3 h)
    (subst (λ x. reply_of x ≡ Some w) a.3 i) in
    by_fresh (PutsBatch v c n text) (one_batch v c n text) v state t a.0 (verdict_in v state a.0) refl a.2 one.1
adds v state t (Put c n text) w (unasked a i) = inl ((λ x f. never_both v c n text x a.0 a.1 f.0 a.2), i)
adds v state t (PutCells c n cells) w (asked ev a h i) =
    let one = put_is v state a.0 a.1 t w (subst (λ x. PlainGives v state x t) a.3 h)
    (subst (λ x. reply_of x ≡ Some w) a.3 i) in
    by_fresh (PutsCells v c n cells) (one_cells_batch v c n cells) v state t a.0 (verdict_in v state a.0) refl a.2 one.1
adds v state t (PutCells c n cells) w (unasked a i) = inl
    ((λ x f. never_both_cells v c n cells x a.0 a.1 f.0 a.2), i)
adds v state t (Cell r c) w (asked ev a h i) = inl ((λ x f. f), (subst (λ x. PlainGives v state x t) a.3 h).1)
adds v state t (Cell r c) w (unasked a i) = inl ((λ x f. f), i)
adds v state t (Row r) w (asked ev a h i) = inl ((λ x f. f), (subst (λ x. PlainGives v state x t) a.2 h).1)
adds v state t (Row r) w (unasked a i) = inl ((λ x f. f), i)
adds v state t Status w (asked ev a h i) = inl ((λ x f. f), (subst (λ x. PlainGives v state x t) a.1 h).1)
adds v state t Status w (unasked a i) = inl ((λ x f. f), i)
adds v state t Export w (asked ev a h i) = inl ((λ x f. f), export_keeps v state t ev a.0 a.1 h)
adds v state t Export w (unasked a i) = inl ((λ x f. f), i)
adds v state t Save w (asked ev a h i) = inl ((λ x f. f), (subst (λ x. PlainGives v state x t) a.1 h).1)
adds v state t Save w (unasked a i) = inl ((λ x f. f), i)
adds v state t Stored w (asked ev a h i) = inl ((λ x f. f), (subst (λ x. PlainGives v state x t) a.1 h).1)
adds v state t Stored w (unasked a i) = inl ((λ x f. f), i)
adds v state t Stop w (asked ev a h i) = absurd a
adds v state t Stop w (unasked a i) = absurd a
adds v state t Stop w (of_sum m b g) = absurd b
adds v state t (Put c n text) w (of_sum m b g) = absurd b
adds v state t (PutCells c n cells) w (of_sum m b g) = absurd b
adds v state t (Cell r c) w (of_sum m b g) = absurd b
adds v state t (Row r) w (of_sum m b g) = absurd b
adds v state t Status w (of_sum m b g) = absurd b
adds v state t Export w (of_sum m b g) = absurd b
adds v state t Save w (of_sum m b g) = absurd b
adds v state t Stored w (of_sum m b g) = absurd b
adds v state t (Range x y z n) w (asked ev a h i) = inl ((λ x f. f), export_keeps v state t ev (Err a.2) a.3 h)
adds v state t (Range x y z n) w (unasked a i) = inl ((λ x f. f), i)
adds v state t (Range x y z n) w (of_sum m b g) = inl ((λ x f. f), g.1)
adds v state t (Top x n) w (asked ev a h i) = inl ((λ x f. f), export_keeps v state t ev (Err a.2) a.3 h)
adds v state t (Top x n) w (unasked a i) = inl ((λ x f. f), i)
adds v state t (Top x n) w (of_sum m b g) = inl ((λ x f. f), g.1)
adds v state t (Groups x s n r) w (asked ev a h i) = inl ((λ x f. f), export_keeps v state t ev (Err a.2) a.3 h)
adds v state t (Groups x s n r) w (unasked (inl a) i) = inl ((λ x f. f), i)
adds v state t (Groups x s n r) w (unasked (inr a) i) = inl ((λ x f. f), i)
adds v state t (Groups x s n r) w (of_sum m b g) = inl ((λ x f. f), g.1)
adds v state t Stats w (asked ev a h i) = inl ((λ x f. f), stats_keeps v state t ev a.0 a.1 h)
adds v state t Stats w (unasked a i) = inl ((λ x f. f), i)
adds v state t Stats w (of_sum m b g) = absurd b
adds v state t Fold w (asked ev a h i) = fold_leaves v state t ev a.0 a.1 h
adds v state t Fold w (unasked a i) = absurd a
adds v state t Fold w (of_sum m b g) = absurd b

-- a request that is answered, and then other messages
abbrev OneFirst : Setting → Accepted → Request → List Message → List Submission → Type 0
OneFirst v state r ms more =
    (((x : Submission) → PutsFresh v state r x → ⊥) × FreshPuts v state ms more)
    ⊎ ((x : Submission) × (rest : List Submission) × PutsFresh v state r x × (more ≡ x ∷ rest) ×
    FreshPuts v (with_batch state x) ms rest)

-- what messages add, and that they fold only where one of them is a Fold
abbrev Leaves : Accepted → Accepted → List Message → List Submission → Type 0
Leaves state t ms more = IsFolded (with_batches state more) t × (NoneFolds ms → t ≡ with_batches state more)

then_adds : (v : Setting) (state m t : Accepted) (r : Request) (ms : List Message) → AddsOne v state r m →
    (more : List Submission) × Leaves m t ms more × FreshPuts v m ms more →
    (more : List Submission) × Leaves state t (Ok r ∷ ms) more × OneFirst v state r ms more
then_adds v state m t r ms (inl same) a = (
  a.0,
  (
    subst (λ s. IsFolded (with_batches s a.0) t) same.1 a.1.0,
    (λ n. a.1.1 n.1 ∙ ap (λ s. with_batches s a.0) same.1),
  ),
  inl (same.0, subst (λ l. FreshPuts v l ms a.0) same.1 a.2),
)
then_adds v state m t r ms (inr one) a =
    let is : with_batches m a.0 ≡ with_batches state (one.0 ∷ a.0) =
    ap (λ s. with_batches s a.0) one.2 ∙ more_behind state (one.0 ∷ []) a.0 in (
      one.0 ∷ a.0,
      (subst (λ s. IsFolded s t) is a.1.0, (λ n. a.1.1 n.1 ∙ is)),
      inr (one.0, a.0, one.1, refl, subst (λ l. FreshPuts v l ms a.0) one.2 a.2),
    )

-- ---- which batches are fresh follows from the entries
puts_same : (v : Setting) (a b : Accepted) (r : Request) (x : Submission) → entries_in a ≡ entries_in b →
    PutsFresh v a r x → PutsFresh v b r x
puts_same v a b (Put c n bytes) x e h =
    (h.0, subst (λ (es : List Entry). verdict_of v.limit v.max_batches es (entry_of x) ≡ verdict.Fresh) e h.1)
puts_same v a b (PutCells c n bytes) x e h =
    (h.0, subst (λ (es : List Entry). verdict_of v.limit v.max_batches es (entry_of x) ≡ verdict.Fresh) e h.1)
puts_same v a b (Cell r c) x e h = h
puts_same v a b (Row r) x e h = h
puts_same v a b Status x e h = h
puts_same v a b Export x e h = h
puts_same v a b Save x e h = h
puts_same v a b Stop x e h = h
puts_same v a b Stored x e h = h
puts_same v a b (Range i j k n) x e h = h
puts_same v a b (Top i n) x e h = h
puts_same v a b (Groups i s n r) x e h = h
puts_same v a b Stats x e h = h
puts_same v a b Fold x e h = h

push_same : (a b : Accepted) (x : Submission) → entries_in a ≡ entries_in b →
    entries_in (with_batch a x) ≡ entries_in (with_batch b x)
push_same a b x e =
    sym (entries_behind a (x ∷ [])) ∙ ap (λ (es : List Entry). es ++ entries_of (x ∷ [])) e ∙
    entries_behind b (x ∷ [])

first_same : (v : Setting) (a b : Accepted) (r : Request) (ms : List Message) (more : List Submission) →
    entries_in a ≡ entries_in b →
    ((c d : Accepted) (rest : List Submission) → entries_in c ≡ entries_in d → FreshPuts v c ms rest →
    FreshPuts v d ms rest) → OneFirst v a r ms more → OneFirst v b r ms more
first_same v a b r ms more e again (inl h) = inl
    ((λ x f. h.0 x (puts_same v b a r x (sym e) f)), again a b more e h.1)
first_same v a b r ms more e again (inr h) = inr (
  h.0,
  h.1,
  puts_same v a b r h.0 e h.2,
  h.3,
  again (with_batch a h.0) (with_batch b h.0) h.1 (push_same a b h.0 e) h.4,
)

fresh_same : (v : Setting) (a b : Accepted) (ms : List Message) (more : List Submission) →
    entries_in a ≡ entries_in b → FreshPuts v a ms more → FreshPuts v b ms more
fresh_same v a b [] more e h = h
fresh_same v a b (Ok Stop ∷ ms) more e h = h
fresh_same v a b (Err f ∷ ms) more e h = h
fresh_same v a b (Ok (Put c n x) ∷ ms) more e h = first_same v a b (Put c n x) ms more e
    (λ c d rest same f. fresh_same v c d ms rest same f) h
fresh_same v a b (Ok (PutCells c n x) ∷ ms) more e h = first_same v a b (PutCells c n x) ms more e
    (λ c d rest same f. fresh_same v c d ms rest same f) h
fresh_same v a b (Ok (Cell x y) ∷ ms) more e h = first_same v a b (Cell x y) ms more e
    (λ c d rest same f. fresh_same v c d ms rest same f) h
fresh_same v a b (Ok (Row x) ∷ ms) more e h = first_same v a b (Row x) ms more e
    (λ c d rest same f. fresh_same v c d ms rest same f) h
fresh_same v a b (Ok Status ∷ ms) more e h = first_same v a b Status ms more e
    (λ c d rest same f. fresh_same v c d ms rest same f) h
fresh_same v a b (Ok Export ∷ ms) more e h = first_same v a b Export ms more e
    (λ c d rest same f. fresh_same v c d ms rest same f) h
fresh_same v a b (Ok Save ∷ ms) more e h = first_same v a b Save ms more e
    (λ c d rest same f. fresh_same v c d ms rest same f) h
fresh_same v a b (Ok Stored ∷ ms) more e h = first_same v a b Stored ms more e
    (λ c d rest same f. fresh_same v c d ms rest same f) h
fresh_same v a b (Ok (Range x y z n) ∷ ms) more e h = first_same v a b (Range x y z n) ms more e
    (λ c d rest same f. fresh_same v c d ms rest same f) h
fresh_same v a b (Ok (Groups x s n r) ∷ ms) more e h = first_same v a b (Groups x s n r) ms more e
    (λ c d rest same f. fresh_same v c d ms rest same f) h
fresh_same v a b (Ok (Top x n) ∷ ms) more e h = first_same v a b (Top x n) ms more e
    (λ c d rest same f. fresh_same v c d ms rest same f) h
fresh_same v a b (Ok Stats ∷ ms) more e h = first_same v a b Stats ms more e
    (λ c d rest same f. fresh_same v c d ms rest same f) h
fresh_same v a b (Ok Fold ∷ ms) more e h = first_same v a b Fold ms more e
    (λ c d rest same f. fresh_same v c d ms rest same f) h

then_folds : (v : Setting) (state m t : Accepted) (ms : List Message) → IsFolded state m →
    (more : List Submission) × Leaves m t ms more × FreshPuts v m ms more →
    (more : List Submission) × Leaves state t (Ok Fold ∷ ms) more × OneFirst v state Fold ms more
then_folds v state m t ms h a = (
  a.0,
  (
    folded_on (with_batches state a.0) (with_batches m a.0) t (folded_behind state m a.0 h) a.1.0,
    (λ n. absurd (n.0 refl)),
  ),
  inl ((λ x f. f), fresh_same v m state ms a.0 (folded_entries state m h) a.2),
)

-- nothing more
ends_here : (state t : Accepted) (ms : List Message) → t ≡ state →
    (more : List Submission) × Leaves state t ms more × (more ≡ [])
ends_here state t ms e =
    let is = e ∙ sym (none_behind state) in ([], (folded_same (with_batches state []) t is, (λ n. is)), refl)

pub all_adds : (v : Setting) (state t : Accepted) (ms : List Message) (w : List ℕ) →
    IsAnswered v state ms w t → (more : List Submission) × Leaves state t ms more × FreshPuts v state ms more
all_adds v state t [] w a = ends_here state t [] a.1
all_adds v state t (Ok (Put c n x) ∷ ms) w a =
    then_adds v state a.0 t (Put c n x) ms (adds v state a.0 (Put c n x) a.1 a.3) (all_adds v a.0 t ms a.2 a.5)
all_adds v state t (Ok (PutCells c n x) ∷ ms) w a =
    then_adds v state a.0 t (PutCells c n x) ms (adds v state a.0 (PutCells c n x) a.1 a.3)
    (all_adds v a.0 t ms a.2 a.5)
all_adds v state t (Ok (Cell x y) ∷ ms) w a =
    then_adds v state a.0 t (Cell x y) ms (adds v state a.0 (Cell x y) a.1 a.3) (all_adds v a.0 t ms a.2 a.5)
all_adds v state t (Ok (Row x) ∷ ms) w a =
    then_adds v state a.0 t (Row x) ms (adds v state a.0 (Row x) a.1 a.3) (all_adds v a.0 t ms a.2 a.5)
all_adds v state t (Ok Status ∷ ms) w a =
    then_adds v state a.0 t Status ms (adds v state a.0 Status a.1 a.3) (all_adds v a.0 t ms a.2 a.5)
all_adds v state t (Ok Export ∷ ms) w a =
    then_adds v state a.0 t Export ms (adds v state a.0 Export a.1 a.3) (all_adds v a.0 t ms a.2 a.5)
all_adds v state t (Ok Save ∷ ms) w a =
    then_adds v state a.0 t Save ms (adds v state a.0 Save a.1 a.3) (all_adds v a.0 t ms a.2 a.5)
all_adds v state t (Ok Stored ∷ ms) w a =
    then_adds v state a.0 t Stored ms (adds v state a.0 Stored a.1 a.3) (all_adds v a.0 t ms a.2 a.5)
all_adds v state t (Ok (Range x y z n) ∷ ms) w a =
    then_adds v state a.0 t (Range x y z n) ms (adds v state a.0 (Range x y z n) a.1 a.3) (all_adds v a.0 t ms a.2 a.5)
all_adds v state t (Ok (Groups x s n r) ∷ ms) w a = then_adds v state a.0 t (Groups x s n r) ms
    (adds v state a.0 (Groups x s n r) a.1 a.3) (all_adds v a.0 t ms a.2 a.5)
all_adds v state t (Ok (Top x n) ∷ ms) w a =
    then_adds v state a.0 t (Top x n) ms (adds v state a.0 (Top x n) a.1 a.3) (all_adds v a.0 t ms a.2 a.5)
all_adds v state t (Ok Stats ∷ ms) w a =
    then_adds v state a.0 t Stats ms (adds v state a.0 Stats a.1 a.3) (all_adds v a.0 t ms a.2 a.5)
all_adds v state t (Ok Fold ∷ ms) w a =
    then_folds v state a.0 t ms (adds v state a.0 Fold a.1 a.3) (all_adds v a.0 t ms a.2 a.5)
all_adds v state t (Ok Stop ∷ ms) w a = ends_here state t (Ok Stop ∷ ms) a.1
all_adds v state t (Err f ∷ ms) w a = ends_here state t (Err f ∷ ms) a.1

-- sessions add to what was accepted, and take nothing away
all_grow : (v : Setting) (state t : Accepted) (sessions : List (List Message)) → AreAnswered v state sessions t →
    (more : List Submission) × IsFolded (with_batches state more) t
all_grow v state t [] e = ([], folded_same (with_batches state []) t (e ∙ sym (none_behind state)))
all_grow v state t (ms ∷ sessions) a =
    let one = all_adds v state a.1 ms a.0 a.2 in
    let rest = all_grow v a.1 t sessions a.3 in (
      one.0 ++ rest.0,
      subst (λ s. IsFolded s t) (more_behind state one.0 rest.0)
          (folded_on (with_batches (with_batches state one.0) rest.0) (with_batches a.1 rest.0) t
          (folded_behind (with_batches state one.0) a.1 rest.0 one.1.0) rest.1),
    )

-- ---- messages that are answered in parts
-- the first of them, which isn't a Stop
first_answered : (v : Setting) (state t : Accepted) (r : Request) (ms : List Message) (w : List ℕ) →
    (r ≡ Stop → ⊥) → IsAnswered v state (Ok r ∷ ms) w t →
    (m : Accepted) × (reply : List ℕ) × (more : List ℕ) × Answers (PlainGives v) v r reply state m ×
    (w ≡ reply ++ more) × IsAnswered v m ms more t
first_answered v state t (Put x y z) ms w n a = a
first_answered v state t (PutCells x y z) ms w n a = a
first_answered v state t (Cell x y) ms w n a = a
first_answered v state t (Row x) ms w n a = a
first_answered v state t Status ms w n a = a
first_answered v state t Export ms w n a = a
first_answered v state t Save ms w n a = a
first_answered v state t Stored ms w n a = a
first_answered v state t (Range x y z i) ms w n a = a
first_answered v state t (Top x i) ms w n a = a
first_answered v state t (Groups x s i r) ms w n a = a
first_answered v state t Stats ms w n a = a
first_answered v state t Fold ms w n a = a
first_answered v state t Stop ms w n a = absurd (n refl)

-- requests, none of them a Stop, and then other messages
pub parts_answered : (v : Setting) (state t : Accepted) (rs : List Request) (ms : List Message) (w : List ℕ) →
    GoOn rs → IsAnswered v state (map (λ r. Ok r) rs ++ ms) w t →
    (first : List ℕ) × (more : List ℕ) × (mid : Accepted) × (w ≡ first ++ more) ×
    IsAnswered v state (map (λ r. Ok r) rs) first mid × IsAnswered v mid ms more t
parts_answered v state t [] ms w go a = ([], w, state, refl, (refl, refl), a)
parts_answered v state t (r ∷ rs) ms w go a =
    let one = first_answered v state t r (map (λ r. Ok r) rs ++ ms) w go.0 a in
    let rest = parts_answered v one.0 t rs ms one.2 go.1 one.5 in (
      one.1 ++ rest.0,
      rest.1,
      rest.2,
      one.4 ∙ ap (λ l. one.1 ++ l) rest.3 ∙ sym (append_assoc one.1 rest.0 rest.1),
      one_more (PlainGives v) v state one.0 rest.2 r one.1 rest.0 (map (λ r. Ok r) rs) (one.1 ++ rest.0) go.0 one.3 refl
          rest.4,
      rest.5,
    )

-- ---- a repeat
-- a put that is answered alone
alone_from : (v : Setting) (state t : Accepted) (c n : ℕ) (r : Request) (w : List ℕ) (k : Kept) → IsPut c n r →
    (m : Accepted) × (reply : List ℕ) × (more : List ℕ) × Answers (PlainGives v) v r reply state m ×
    (w ≡ reply ++ more) × IsAnswered v m [] more t → w ≡ accepted k →
    (k' : Kept) × (w ≡ accepted k') × IsKept t c n k'
alone_from v state t c n r w k p a e =
    let whole : w ≡ a.1 = a.4 ∙ ap (λ l. a.1 ++ l) a.5.0 ∙ append-nil a.1 in
    let one = put_stored v state a.0 c n r a.1 k p a.3 (sym whole ∙ e) in
    (one.0, whole ∙ one.1, subst (λ l. IsKept l c n one.0) (sym a.5.1) one.2)

alone_stored : (v : Setting) (state t : Accepted) (c n : ℕ) (r : Request) (w : List ℕ) (k : Kept) → IsPut c n r →
    IsAnswered v state (Ok r ∷ []) w t → w ≡ accepted k → (k' : Kept) × (w ≡ accepted k') × IsKept t c n k'
alone_stored v state t c n (Put x y z) w k p a e = alone_from v state t c n (Put x y z) w k p a e
alone_stored v state t c n (PutCells x y z) w k p a e = alone_from v state t c n (PutCells x y z) w k p a e
alone_stored v state t c n (Cell x y) w k p a e = absurd p
alone_stored v state t c n (Row x) w k p a e = absurd p
alone_stored v state t c n Status w k p a e = absurd p
alone_stored v state t c n Export w k p a e = absurd p
alone_stored v state t c n Save w k p a e = absurd p
alone_stored v state t c n Stop w k p a e = absurd p
alone_stored v state t c n Stored w k p a e = absurd p
alone_stored v state t c n (Range x y z i) w k p a e = absurd p
alone_stored v state t c n (Top x i) w k p a e = absurd p
alone_stored v state t c n (Groups x s i r) w k p a e = absurd p
alone_stored v state t c n Stats w k p a e = absurd p
alone_stored v state t c n Fold w k p a e = absurd p

pub repeat_replied : (v : Setting) (state a b t : Accepted) (c n : ℕ) (r r' : Request) (w w' : List ℕ)
    (between : List (List Message)) (k k' : Kept) → IsPut c n r → IsPut c n r' →
    IsAnswered v state (Ok r ∷ []) w a → w ≡ accepted k → AreAnswered v a between b →
    IsAnswered v b (Ok r' ∷ []) w' t → w' ≡ accepted k' → w ≡ w'
repeat_replied v state a b t c n r r' w w' between k k' p p' one e all two e' =
    let first = alone_stored v state a c n r w k p one e in
    let second = alone_stored v b t c n r' w' k' p' two e' in
    let grown = all_grow v a b between all in
    let last = all_adds v b t (Ok r' ∷ []) w' two in
    let s = stored_more b last.0 c n first.0 (stored_folded (with_batches a grown.0) b c n first.0 grown.1
    (stored_more a grown.0 c n first.0 first.2)) in
    let same = stored_once t c n first.0 second.0
    (stored_folded (with_batches b last.0) t c n first.0 last.1.0 s) second.2 in
    first.1 ∙ ap accepted same ∙ sym second.1
