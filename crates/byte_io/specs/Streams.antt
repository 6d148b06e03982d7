-- What a device gave and took in a run of calls.
use Rattle.std.specs.Prelude.{◌≡◌, ℕ, List, [], ◌∷◌, ◌++◌, take, Result, Ok, Err, Option}
use Rattle.std.specs.Io.KnownBytes.{Consumes, Appends, Keeps}
use Rattle.byte_io.specs.declared.fault.DeviceFault.{DeviceFault}

-- what a call answered: the bytes that it moved, or its fault
abbrev pub Answer : Type 0
Answer = Result (List ℕ) DeviceFault

abbrev pub answer_of : Result ℕ DeviceFault → List ℕ → Answer
answer_of (Ok n) buf = Ok (take n buf)
answer_of (Err e) buf = Err e

-- of known bytes, a read takes the first away, and a failure none
abbrev pub MayRead : Option (List ℕ) → Answer → Option (List ℕ) → Type 0
MayRead old (Ok bytes) new = Consumes old new bytes
MayRead old (Err e) new = Keeps old new

abbrev pub MayWrite : Option (List ℕ) → Answer → Option (List ℕ) → Type 0
MayWrite old (Ok bytes) new = Appends old new bytes
MayWrite old (Err e) new = Keeps old new

-- These answers, one after another, lead from s to t.
abbrev pub Calls : {S : Type 0} → (S → Answer → S → Type 0) → S → List Answer → S → Type 0
Calls step s [] t = s ≡ t
Calls step s (answer ∷ answers) t = (m : _) × step s answer m × Calls step m answers t

-- the bytes that the calls moved
abbrev pub bytes_of_calls : List Answer → List ℕ
bytes_of_calls [] = []
bytes_of_calls (Ok bytes ∷ answers) = bytes ++ bytes_of_calls answers
bytes_of_calls (Err e ∷ answers) = bytes_of_calls answers
