-- Devices around others: what runs of their calls are for the link; and what an endless reader gives.
use Rattle.std.proofs.Common.{◌≡◌, ℕ, ◌+◌, ◌-◌, ◌<◌, ◌≤◌, ◌^◌, min, List, [], ◌∷◌, ◌++◌, length, take, drop}
use Rattle.std.proofs.Common.{Ok, Err, refl, sym, ap, ◌∙◌, subst, arith, append_assoc, inl, inr, length-append}
use Rattle.std.proofs.Common.{length-drop, zero, suc, add-one}
use Rattle.std.specs.Prelude.{replicate}
use Rattle.std.specs.Result.{IsErr}
use Rattle.std.proofs.lemmas.Bool.{cases_lt}
use Rattle.std.proofs.lemmas.List.{append-nil, take-append-le, take_all, drop_all, take-replicate, length-take-le}
use Rattle.std.proofs.lemmas.List.{length-replicate, replicate-append-replicate}
use Rattle.std.proofs.Math.Seq.{take-append-add, take-length, take-nil, drop-nil}
use Rattle.byte_io.proofs.SinkLemmas.{take_further}
use Rattle.byte_io.specs.Streams.{Answer, Calls, bytes_of_calls}
use Rattle.byte_io.specs.Writing.{AnyOffer}
use Rattle.byte_io.specs.Wrappers.{OnceState, OnceCall, TrickleState, TrickleRead, TrickleWrite, AnyCall}
use Rattle.byte_io.specs.Wrappers.{EndlessState, first_bytes, endless_gives, without_call}

-- what is read into n bytes: what comes first, as far as it fits, and then the last byte
pub filled_with_last : (n count byte : ℕ) (rest : List ℕ) → count ≡ min (length rest) n →
    take count rest ++ replicate (n - count) byte ≡ take n (rest ++ replicate n byte)
filled_with_last n count byte rest e = elim (cases_lt (length rest) n) [
  | inl below ↦
      let same : count ≡ length rest = omega arith in
      let sum : n ≡ length rest + (n - count) = omega arith in
      let within : n - count ≤ n = omega arith in
      ap (λ k. take k rest ++ replicate (n - count) byte) same
      ∙ ap (λ l. l ++ replicate (n - count) byte) (take-length rest)
      ∙ ap (λ l. rest ++ l) (sym (take-replicate (n - count) n byte within))
      ∙ sym (take-append-add rest (replicate n byte) (n - count))
      ∙ ap (λ k. take k (rest ++ replicate n byte)) (sym sum)
  | inr past ↦
      let same : count ≡ n = omega arith in
      let none : n - count ≡ 0 = omega arith in
      ap (λ k. take count rest ++ replicate k byte) none ∙ append-nil (take count rest)
      ∙ ap (λ k. take k rest) same ∙ sym (take-append-le n rest (replicate n byte) past)
]

pub left_behind : (n count : ℕ) (rest : List ℕ) → count ≡ min (length rest) n → drop count rest ≡ drop n rest
left_behind n count rest e = elim (cases_lt n (length rest)) [
  | inl below ↦ let same : count ≡ n = omega arith in ap (λ i. drop i rest) same
  | inr past ↦ drop_all count rest (omega arith) ∙ sym (drop_all n rest past)
]

-- a buffer of n bytes, of which the first are copied and the others are set to one byte
pub read_of_endless : (n count k byte : ℕ) (rest copied set : List ℕ) →
    count ≡ min (length rest) n → copied ≡ take count rest → set ≡ replicate k byte → k + count ≡ n →
    take (length (copied ++ set)) (copied ++ set) ≡ take n (rest ++ replicate n byte)
read_of_endless n count k byte rest copied set e c s sum =
    let same : k ≡ n - count = omega arith in
    take-length (copied ++ set) ∙ ap (λ l. l ++ set) c ∙ ap (λ l. take count rest ++ l) s
    ∙ ap (λ i. take count rest ++ replicate i byte) same ∙ filled_with_last n count byte rest e

failed_moves_none : (answer : Answer) (answers : List Answer) → IsErr answer →
    bytes_of_calls (answer ∷ answers) ≡ bytes_of_calls answers
failed_moves_none (Ok bytes) answers e = cc
failed_moves_none (Err fault) answers e = refl

-- behind its failure each call is the link's
pub once_behind : {L : Type 0} (step : L → Answer → L → Type 0) (s t : OnceState L) (answers : List Answer) →
    s.fail_at < 2 ^ 64 - 1 → s.fail_at < s.calls → Calls (OnceCall step) s answers t → Calls step s.link answers t.link
once_behind step s t [] below behind c = ap (λ v. v.link) c
once_behind step s t (answer ∷ answers) below behind c =
    let m = c.0 in
    let counted = c.1.calls in
    let same = c.1.fail_at in
    let still : m.fail_at < 2 ^ 64 - 1 = omega arith in
    let further : m.fail_at < m.calls = omega arith in
    (m.link, c.1.passed (λ e. omega arith), once_behind step m t answers still further c.2)

bytes_behind : (answer : Answer) (xs ys : List Answer) → bytes_of_calls xs ≡ bytes_of_calls ys →
    bytes_of_calls (answer ∷ xs) ≡ bytes_of_calls (answer ∷ ys)
bytes_behind (Ok bytes) xs ys e = ap (λ l. bytes ++ l) e
bytes_behind (Err fault) xs ys e = e

drop_next : (n : ℕ) (answer : Answer) (answers : List Answer) → drop (suc n + 1) (answer ∷ answers) ≡ drop (n + 1) answers
drop_next n answer answers = rw (add-one (suc n), add-one n) refl

without_next : (n : ℕ) (answer : Answer) (answers : List Answer) →
    answer ∷ without_call n answers ≡ without_call (suc n) (answer ∷ answers)
without_next n answer answers = ap (λ l. answer ∷ (take n answers ++ l)) (sym (drop_next n answer answers))

-- a run in which call number n fails by itself
pub once_around : {L : Type 0} (step : L → Answer → L → Type 0) (n : ℕ) (s t : OnceState L) (answers : List Answer) →
    s.fail_at < 2 ^ 64 - 1 → s.calls + n ≡ s.fail_at → Calls (OnceCall step) s answers t →
    Calls step s.link (without_call n answers) t.link × (bytes_of_calls (without_call n answers) ≡ bytes_of_calls answers)
once_around step n s t [] below place c =
    rw (take-nil n, drop-nil (n + 1)) (ap (λ v. v.link) c, refl)
once_around step zero s t (answer ∷ answers) below place c =
    let m = c.0 in
    let counted = c.1.calls in
    let same = c.1.fail_at in
    let failed = c.1.failed (omega arith) in
    let still : m.fail_at < 2 ^ 64 - 1 = omega arith in
    let further : m.fail_at < m.calls = omega arith in (
      subst (λ v. Calls step v answers t.link) failed.1 (once_behind step m t answers still further c.2),
      sym (failed_moves_none answer answers failed.0),
    )
once_around step (suc n) s t (answer ∷ answers) below place c =
    let m = c.0 in
    let counted = c.1.calls in
    let same = c.1.fail_at in
    let still : m.fail_at < 2 ^ 64 - 1 = omega arith in
    let next : m.calls + n ≡ m.fail_at = omega arith in
    let more = once_around step n m t answers still next c.2 in
    subst (λ v. Calls step s.link v t.link × (bytes_of_calls v ≡ bytes_of_calls (answer ∷ answers)))
    (without_next n answer answers) (
      (m.link, c.1.passed (λ e. omega arith), more.0),
      bytes_behind answer (without_call n answers) answers more.1,
    )

-- the call whose number it is fails
pub once_fails : {L : Type 0} (step : L → Answer → L → Type 0) (s t : OnceState L) (answer : Answer) →
    OnceCall step s answer t → s.calls ≡ s.fail_at → IsErr answer
once_fails step s t answer c e = (c.failed e).0

-- the writes of a Once, whatever they are offered, are calls of the link's writes
pub once_writes : {L : Type 0} (takes : L → List ℕ → Answer → L → Type 0) (s t : OnceState L) (answers : List Answer) →
    Calls (AnyOffer (λ s offered. OnceCall (λ l answer m. takes l offered answer m) s)) s answers t →
    Calls (OnceCall (AnyOffer takes)) s answers t
once_writes takes s t [] c = c
once_writes takes s t (answer ∷ answers) c =
    let call = c.1.1 in (
      c.0,
      record {
        fail_at = call.fail_at;
        calls = call.calls;
        failed = call.failed;
        passed = λ e. (c.1.0, call.passed e);
      },
      once_writes takes c.0 t answers c.2,
    )

-- the calls of a Once, either way, are those of the link, either way
pub once_either : {L : Type 0} (gives : L → Answer → L → Type 0) (takes : L → List ℕ → Answer → L → Type 0)
    (s t : OnceState L) (answers : List Answer) →
    Calls (AnyCall (OnceCall gives) (λ s offered. OnceCall (λ l answer m. takes l offered answer m) s)) s answers t →
    Calls (OnceCall (AnyCall gives takes)) s answers t
once_either gives takes s t [] c = c
once_either gives takes s t (answer ∷ answers) c = (
  c.0,
  elim c.1 [
    | inl call ↦ record {
      fail_at = call.fail_at;
      calls = call.calls;
      failed = call.failed;
      passed = λ e. inl (call.passed e);
    }
    | inr call ↦ record {
      fail_at = call.1.fail_at;
      calls = call.1.calls;
      failed = call.1.failed;
      passed = λ e. inr (call.0, call.1.passed e);
    }
  ],
  once_either gives takes c.0 t answers c.2,
)

pub trickle_reads : {L : Type 0} (gives : L → Answer → L → Type 0) (s t : TrickleState L) (answers : List Answer) →
    Calls (TrickleRead gives) s answers t → Calls gives s.link answers t.link
trickle_reads gives s t [] c = ap (λ v. v.link) c
trickle_reads gives s t (answer ∷ answers) c = (c.0.link, c.1.passed, trickle_reads gives c.0 t answers c.2)

pub trickle_writes : {L : Type 0} (takes : L → List ℕ → Answer → L → Type 0) (s t : TrickleState L)
    (answers : List Answer) → Calls (AnyOffer (TrickleWrite takes)) s answers t →
    Calls (AnyOffer takes) s.link answers t.link
trickle_writes takes s t [] c = ap (λ v. v.link) c
trickle_writes takes s t (answer ∷ answers) c =
    (c.0.link, (take s.step c.1.0, c.1.1.passed), trickle_writes takes c.0 t answers c.2)

pub trickle_either : {L : Type 0} (gives : L → Answer → L → Type 0) (takes : L → List ℕ → Answer → L → Type 0)
    (s t : TrickleState L) (answers : List Answer) →
    Calls (AnyCall (TrickleRead gives) (TrickleWrite takes)) s answers t →
    Calls (AnyCall gives takes) s.link answers t.link
trickle_either gives takes s t [] c = ap (λ v. v.link) c
trickle_either gives takes s t (answer ∷ answers) c = (
  c.0.link,
  elim c.1 [ inl call ↦ inl call.passed | inr call ↦ inr (take s.step call.0, call.1.passed) ],
  trickle_either gives takes c.0 t answers c.2,
)

-- the first n bytes: of those in front as many as there are, and then the last byte
front_and_last : (n byte : ℕ) (front : List ℕ) →
    take n (front ++ replicate n byte) ≡ take n front ++ replicate (n - length front) byte
front_and_last n byte front = elim (cases_lt n (length front)) [
  | inl below ↦
      let none : n - length front ≡ 0 = omega arith in
      let within : n ≤ length front = omega arith in
      take-append-le n front (replicate n byte) within ∙ sym (append-nil (take n front))
      ∙ ap (λ k. take n front ++ replicate k byte) (sym none)
  | inr past ↦
      let sum : n ≡ length front + (n - length front) = omega arith in
      let within : n - length front ≤ n = omega arith in
      ap (λ k. take k (front ++ replicate n byte)) sum ∙ take-append-add front (replicate n byte) (n - length front)
      ∙ ap (λ l. front ++ l) (take-replicate (n - length front) n byte within)
      ∙ ap (λ l. l ++ replicate (n - length front) byte) (sym (take_all n front past))
]

front_and_last_add : (n k byte : ℕ) (front : List ℕ) →
    take (n + k) front ++ replicate (n + k - length front) byte
    ≡ (take n front ++ replicate (n - length front) byte)
    ++ (take k (drop n front) ++ replicate (k - length (drop n front)) byte)
front_and_last_add n k byte front = elim (cases_lt n (length front)) [
  | inl below ↦
      let left = length-drop n front in
      let none : n - length front ≡ 0 = omega arith in
      let same : n + k - length front ≡ k - length (drop n front) = omega arith in
      let within : n ≤ length front = omega arith in
      ap (λ l. l ++ replicate (n + k - length front) byte) (take_further n k front within)
      ∙ append_assoc (take n front) (take k (drop n front)) (replicate (n + k - length front) byte)
      ∙ ap (λ i. take n front ++ (take k (drop n front) ++ replicate i byte)) same
      ∙ ap (λ l. l ++ (take k (drop n front) ++ replicate (k - length (drop n front)) byte))
      (sym (ap (λ i. take n front ++ replicate i byte) none ∙ append-nil (take n front)))
  | inr past ↦
      let further : length front ≤ n + k = omega arith in
      let sum : n + k - length front ≡ n - length front + k = omega arith in
      let whole : k - 0 ≡ k = omega arith in
      ap (λ l. l ++ replicate (n + k - length front) byte) (take_all (n + k) front further ∙ sym (take_all n front past))
      ∙ ap (λ i. take n front ++ replicate i byte) sum
      ∙ ap (λ l. take n front ++ l) (sym (replicate-append-replicate (n - length front) k byte))
      ∙ sym (append_assoc (take n front) (replicate (n - length front) byte) (replicate k byte))
      ∙ ap (λ l. (take n front ++ replicate (n - length front) byte) ++ l)
      (sym (ap (λ l. take k l ++ replicate (k - length l) byte) (drop_all n front past)
      ∙ ap (λ l. l ++ replicate (k - 0) byte) (take-nil k) ∙ ap (λ i. replicate i byte) whole))
]

first_bytes_add : (n k : ℕ) (s t : EndlessState) → t ≡ record s { front = drop n s.front } →
    first_bytes (n + k) s ≡ first_bytes n s ++ first_bytes k t
first_bytes_add n k s t e =
    front_and_last (n + k) s.byte s.front ∙ front_and_last_add n k s.byte s.front
    ∙ ap (λ l. l ++ (take k (drop n s.front) ++ replicate (k - length (drop n s.front)) s.byte))
    (sym (front_and_last n s.byte s.front))
    ∙ ap (λ l. first_bytes n s ++ l) (sym (front_and_last k s.byte (drop n s.front)))
    ∙ ap (λ (v : EndlessState). first_bytes n s ++ first_bytes k v) (sym e)

length-first_bytes : (n : ℕ) (s : EndlessState) → length (first_bytes n s) ≡ n
length-first_bytes n s =
    length-take-le n (s.front ++ replicate n s.byte)
    (omega (arith, length-append s.front (replicate n s.byte), length-replicate n s.byte))

pub endless_reads : (s t : EndlessState) (answers : List Answer) → Calls endless_gives s answers t →
    bytes_of_calls answers ≡ first_bytes (length (bytes_of_calls answers)) s
endless_reads s t [] c = refl
endless_reads s t (Err fault ∷ answers) c = absurd c.1.1
endless_reads s t (Ok bytes ∷ answers) c =
    let n = c.1.0 in
    let more = bytes_of_calls answers in
    let rest = endless_reads c.0 t answers c.2 in
    let size : length bytes ≡ n = ap length c.1.1.0 ∙ length-first_bytes n s in
    let all : length (bytes ++ more) ≡ n + length more =
    length-append bytes more ∙ ap (λ k. k + length more) size in
    ap (λ l. l ++ more) c.1.1.0 ∙ ap (λ l. first_bytes n s ++ l) rest
    ∙ sym (first_bytes_add n (length more) s c.0 c.1.1.1) ∙ ap (λ k. first_bytes k s) (sym all)
