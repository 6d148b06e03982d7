-- What runs of write calls did to a text that was to be written: all of it was taken, or a front of it.
use Rattle.std.specs.Prelude.{◌≡◌, ℕ, ◌+◌, ◌<◌, List, [], ◌∷◌, ◌++◌, length, take, Ok, Err}
use Rattle.byte_io.specs.Streams.{Answer, Calls, bytes_of_calls}

-- a call, whatever bytes it was offered
abbrev pub AnyOffer : {S : Type 0} → (S → List ℕ → Answer → S → Type 0) → S → Answer → S → Type 0
AnyOffer step s answer t = (offered : List ℕ) × step s offered answer t

-- each of these calls took a byte or more, so that there are no more calls than bytes, and none failed
abbrev pub EachTakes : List Answer → Type 0
EachTakes [] = Unit {0}
EachTakes (Ok bytes ∷ answers) = (0 < length bytes) × EachTakes answers
EachTakes (Err fault ∷ answers) = ⊥

-- The calls that led from s to t took exactly these bytes, in order.
pub record HasTaken {S : Type 0} (step : S → List ℕ → Answer → S → Type 0) (failures : S → ℕ) (s t : S)
    (bytes : List ℕ) : Type 0 where
  pub answers : List Answer
  pub calls : Calls (AnyOffer step) s answers t
  pub each : EachTakes answers
  pub bytes_are : bytes_of_calls answers ≡ bytes
  pub none_failed : failures t ≡ failures s

-- why nothing more was written: the last call failed, or it was offered some bytes and took none of them
abbrev pub IsRefusal : List ℕ → Answer → ℕ → ℕ → Type 0
IsRefusal offered (Ok bytes) before after = (0 < length offered) × (bytes ≡ []) × (after ≡ before)
IsRefusal offered (Err fault) before after = after ≡ before + 1

-- The calls that led from s to t took exactly the first n bytes of the text and not all of it: the last one was a
-- refusal of bytes that come next in the text, and each one before it took a byte or more.
pub record HasStopped {S : Type 0} (step : S → List ℕ → Answer → S → Type 0) (failures : S → ℕ) (s t : S)
    (text : List ℕ) (n : ℕ) : Type 0 where
  pub answers : List Answer
  pub before : S
  pub calls : Calls (AnyOffer step) s answers before
  pub each : EachTakes answers
  pub offered : List ℕ
  pub last : Answer
  pub last_call : step before offered last t
  pub refused : IsRefusal offered last (failures s) (failures t)
  pub bytes_are : bytes_of_calls answers ≡ take n text
  pub next : (rest : List ℕ) × (text ≡ bytes_of_calls answers ++ (offered ++ rest))
  pub some_left : n < length text
