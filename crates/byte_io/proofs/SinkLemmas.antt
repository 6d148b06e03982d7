-- Runs of writes: one call more, one run behind another, and a text that was taken in part.
use Rattle.std.proofs.Common.{◌≡◌, ℕ, ◌+◌, ◌<◌, ◌≤◌, List, [], ◌∷◌, ◌++◌, length, take, drop, Ok, Err, refl, sym, ap}
use Rattle.std.proofs.Common.{subst, ◌∙◌, arith, append_assoc, length-append, length-drop}
use Rattle.std.proofs.lemmas.List.{append-nil, take-append-le, take-append-drop, length-take-le}
use Rattle.std.proofs.Math.Seq.{take-append_seam, take-append-add}
use Rattle.byte_io.specs.Writing.{AnyOffer, EachTakes, HasTaken, HasStopped, IsRefusal}
use Rattle.byte_io.proofs.StreamLemmas.{calls-append, calls_one, bytes_of_calls-append}
use Rattle.byte_io.specs.Streams.{Answer, bytes_of_calls}

pub each_takes-append : (xs ys : List Answer) → EachTakes xs → EachTakes ys → EachTakes (xs ++ ys)
each_takes-append [] ys a b = b
each_takes-append (Ok x ∷ xs) ys a b = (a.0, each_takes-append xs ys a.1 b)
each_takes-append (Err x ∷ xs) ys a b = absurd a

pub has_taken_nothing : {S : Type 0} (step : S → List ℕ → Answer → S → Type 0) (failures : S → ℕ) (s : S) →
    HasTaken step failures s s []
has_taken_nothing step failures s = record {
  answers = [];
  calls = refl;
  each = tt;
  bytes_are = refl;
  none_failed = refl;
}

pub has_taken_append : {S : Type 0} (step : S → List ℕ → Answer → S → Type 0) (failures : S → ℕ) (s m t : S)
    (xs ys : List ℕ) →
    HasTaken step failures s m xs → HasTaken step failures m t ys → HasTaken step failures s t (xs ++ ys)
has_taken_append step failures s m t xs ys a b = record {
  answers = a.answers ++ b.answers;
  calls = calls-append (AnyOffer step) a.answers b.answers s m t a.calls b.calls;
  each = each_takes-append a.answers b.answers a.each b.each;
  bytes_are = bytes_of_calls-append a.answers b.answers ∙ rw (a.bytes_are, b.bytes_are) refl;
  none_failed = b.none_failed ∙ a.none_failed;
}

pub has_taken_one : {S : Type 0} (step : S → List ℕ → Answer → S → Type 0) (failures : S → ℕ) (s t : S)
    (offered bytes : List ℕ) →
    step s offered (Ok bytes) t → 0 < length bytes → failures t ≡ failures s → HasTaken step failures s t bytes
has_taken_one step failures s t offered bytes h some e = record {
  answers = Ok bytes ∷ [];
  calls = calls_one (AnyOffer step) s t (Ok bytes) (offered, h);
  each = (some, tt);
  bytes_are = append-nil bytes;
  none_failed = e;
}

-- the first call that is refused
pub stopped_at_once : {S : Type 0} (step : S → List ℕ → Answer → S → Type 0) (failures : S → ℕ) (s m t : S)
    (front rest : List ℕ) (last : Answer) →
    HasTaken step failures s m front → step m rest last t → IsRefusal rest last (failures m) (failures t) →
    0 < length rest →
    HasStopped step failures s t (front ++ rest) (length front)
stopped_at_once step failures s m t front rest last a h refused some = record {
  answers = a.answers;
  before = m;
  calls = a.calls;
  each = a.each;
  offered = rest;
  last = last;
  last_call = h;
  refused = subst (λ n. IsRefusal rest last n (failures t)) a.none_failed refused;
  bytes_are = a.bytes_are ∙ sym (take-append_seam front rest);
  next = ([], ap (λ l. l ++ rest) (sym a.bytes_are) ∙ ap (λ l. bytes_of_calls a.answers ++ l) (sym (append-nil rest)));
  some_left = omega (arith, length-append front rest);
}

pub stopped_behind : {S : Type 0} (step : S → List ℕ → Answer → S → Type 0) (failures : S → ℕ) (s m t : S)
    (front text : List ℕ) (n : ℕ) →
    HasTaken step failures s m front → HasStopped step failures m t text n →
    HasStopped step failures s t (front ++ text) (length front + n)
stopped_behind step failures s m t front text n a b = record {
  answers = a.answers ++ b.answers;
  before = b.before;
  calls = calls-append (AnyOffer step) a.answers b.answers s m b.before a.calls b.calls;
  each = each_takes-append a.answers b.answers a.each b.each;
  offered = b.offered;
  last = b.last;
  last_call = b.last_call;
  refused = subst (λ k. IsRefusal b.offered b.last k (failures t)) a.none_failed b.refused;
  bytes_are = bytes_of_calls-append a.answers b.answers
      ∙ rw (a.bytes_are, b.bytes_are) (sym (take-append-add front text n));
  next =
      let both : bytes_of_calls (a.answers ++ b.answers) ≡ front ++ bytes_of_calls b.answers =
      bytes_of_calls-append a.answers b.answers ∙ ap (λ l. l ++ bytes_of_calls b.answers) a.bytes_are in (
        b.next.0,
        ap (λ l. front ++ l) b.next.1 ∙ sym (append_assoc front (bytes_of_calls b.answers) (b.offered ++ b.next.0))
            ∙ ap (λ l. l ++ (b.offered ++ b.next.0)) (sym both),
      );
  some_left = let e = length-append front text in let h = b.some_left in omega arith;
}

-- a text that goes on further was stopped at the same byte
pub has_stopped_longer : {S : Type 0} (step : S → List ℕ → Answer → S → Type 0) (failures : S → ℕ) (s t : S)
    (text more : List ℕ) (n : ℕ) →
    HasStopped step failures s t text n → HasStopped step failures s t (text ++ more) n
has_stopped_longer step failures s t text more n a = let h = a.some_left in record {
  answers = a.answers;
  before = a.before;
  calls = a.calls;
  each = a.each;
  offered = a.offered;
  last = a.last;
  last_call = a.last_call;
  refused = a.refused;
  bytes_are = a.bytes_are ∙ sym (take-append-le n text more (omega arith));
  next = (
    a.next.0 ++ more,
    ap (λ l. l ++ more) a.next.1 ∙ append_assoc (bytes_of_calls a.answers) (a.offered ++ a.next.0) more
        ∙ ap (λ l. bytes_of_calls a.answers ++ l) (append_assoc a.offered a.next.0 more),
  );
  some_left = let e = length-append text more in omega arith;
}

-- the next n bytes behind the first i
pub take_further : (i n : ℕ) (l : List ℕ) → i ≤ length l → take (i + n) l ≡ take i l ++ take n (drop i l)
take_further i n l h =
    let seam = take-append-add (take i l) (drop i l) n in
    let e = length-take-le i l h in
    subst (λ v. take (i + n) v ≡ take i l ++ take n (drop i l)) (take-append-drop i l)
    (subst (λ k. take (k + n) (take i l ++ drop i l) ≡ take i l ++ take n (drop i l)) e seam)

-- one call of a loop that writes bytes, of which i are taken
pub write_more : {S : Type 0} (step : S → List ℕ → Answer → S → Type 0) (failures : S → ℕ) (s m t : S) (bytes : List ℕ)
    (i n : ℕ) →
    i ≤ length bytes → HasTaken step failures s m (take i bytes) →
    step m (drop i bytes) (Ok (take n (drop i bytes))) t → 0 < n → n ≤ length (drop i bytes) →
    failures t ≡ failures m → HasTaken step failures s t (take (i + n) bytes)
write_more step failures s m t bytes i n within a h some fits same =
    rw (take_further i n bytes within) (has_taken_append step failures s m t (take i bytes) (take n (drop i bytes)) a
    (has_taken_one step failures m t (drop i bytes) (take n (drop i bytes)) h
    (let e = length-take-le n (drop i bytes) fits in omega arith) same))

pub write_no_more : {S : Type 0} (step : S → List ℕ → Answer → S → Type 0) (failures : S → ℕ) (s m t : S)
    (bytes : List ℕ) (i : ℕ) (last : Answer) →
    i < length bytes → HasTaken step failures s m (take i bytes) → step m (drop i bytes) last t →
    (0 < length (drop i bytes) → IsRefusal (drop i bytes) last (failures m) (failures t)) →
    HasStopped step failures s t bytes i
write_no_more step failures s m t bytes i last within a h refused =
    let some : 0 < length (drop i bytes) = let e = length-drop i bytes in omega arith in
    let stopped = stopped_at_once step failures s m t (take i bytes) (drop i bytes) last a h (refused some) some in
    let e = length-take-le i bytes (omega arith) in
    subst (λ k. HasStopped step failures s t bytes k) e
    (subst (λ v. HasStopped step failures s t v (length (take i bytes))) (take-append-drop i bytes) stopped)
