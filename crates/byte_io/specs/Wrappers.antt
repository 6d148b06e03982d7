-- Devices around others: which of their calls a link saw, and what it answered; and a reader whose bytes don't end.
use Rattle.std.specs.Prelude.{◌≡◌, ◌≢◌, ◌⊎◌, ℕ, ◌+◌, ◌-◌, ◌≤◌, ◌^◌, List, ◌++◌, length, take, drop, min}
use Rattle.std.specs.Prelude.{Ok, Err, IfOk, replicate}
use Rattle.std.specs.Result.{IsErr}
use Rattle.byte_io.specs.Streams.{Answer}
use Rattle.byte_io.specs.Writing.{AnyOffer}

-- a link, the number of the call that fails without being made, and the number of calls so far
pub record OnceState (L : Type 0) : Type 0 where
  pub link : L
  pub fail_at : ℕ
  pub calls : ℕ

-- the calls of a Once that it failed by itself
abbrev pub own_failures : ℕ → ℕ → ℕ
own_failures fail_at calls = min 1 (calls - fail_at)

-- A call of a Once: the link isn't touched where its number is `fail_at`, and else it is the link's call.
pub record OnceCall {L : Type 0} (step : L → Answer → L → Type 0) (s : OnceState L) (answer : Answer)
    (t : OnceState L) : Type 0 where
  pub fail_at : t.fail_at ≡ s.fail_at
  pub calls : t.calls ≡ min (s.calls + 1) (2 ^ 64 - 1)
  pub failed : s.calls ≡ s.fail_at → IsErr answer × (t.link ≡ s.link)
  pub passed : s.calls ≢ s.fail_at → step s.link answer t.link

-- a link, and how many bytes a call moves at most
pub record TrickleState (L : Type 0) : Type 0 where
  pub link : L
  pub step : ℕ

-- A read of a Trickle is one of the link, into no more than `step` bytes.
pub record TrickleRead {L : Type 0} (gives : L → Answer → L → Type 0) (s : TrickleState L) (answer : Answer)
    (t : TrickleState L) : Type 0 where
  pub step : t.step ≡ s.step
  pub few : IfOk answer (λ bytes. length bytes ≤ s.step)
  pub passed : gives s.link answer t.link

-- A write of a Trickle is one of the link, which is offered the first `step` bytes alone.
pub record TrickleWrite {L : Type 0} (takes : L → List ℕ → Answer → L → Type 0) (s : TrickleState L)
    (offered : List ℕ) (answer : Answer) (t : TrickleState L) : Type 0 where
  pub step : t.step ≡ s.step
  pub few : IfOk answer (λ bytes. length bytes ≤ s.step)
  pub passed : takes s.link (take s.step offered) answer t.link

-- a call of a link, either way
abbrev pub AnyCall : {L : Type 0} → (L → Answer → L → Type 0) → (L → List ℕ → Answer → L → Type 0) → L → Answer → L →
    Type 0
AnyCall gives takes s answer t = gives s answer t ⊎ AnyOffer takes s answer t

-- the bytes that come first, and the one that comes for ever behind them
pub record EndlessState : Type 0 where
  pub front : List ℕ
  pub byte : ℕ

-- the first n bytes that it gives from now on
abbrev pub first_bytes : ℕ → EndlessState → List ℕ
first_bytes n s = take n (s.front ++ replicate n s.byte)

-- A read into n bytes gives as many.
abbrev pub IsEndlessRead : ℕ → EndlessState → Answer → EndlessState → Type 0
IsEndlessRead n s (Ok bytes) t = (bytes ≡ first_bytes n s) × (t ≡ record s { front = drop n s.front })
IsEndlessRead n s (Err fault) t = ⊥

abbrev pub endless_gives : EndlessState → Answer → EndlessState → Type 0
endless_gives s answer t = (n : ℕ) × IsEndlessRead n s answer t

-- the answers but that of call number n, from 0
abbrev pub without_call : ℕ → List Answer → List Answer
without_call n answers = take n answers ++ drop (n + 1) answers
