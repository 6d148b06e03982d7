-- Runs of calls, one behind another, and the bytes that they moved.
use Rattle.std.proofs.Common.{◌≡◌, List, [], ◌∷◌, ◌++◌, refl, sym, ◌∙◌, ap, append_assoc, subst}
use Rattle.std.specs.Prelude.{Ok, Err}
use Rattle.byte_io.specs.Streams.{Answer, Calls, bytes_of_calls}

-- a run behind a run is a run
pub calls-append : {S : Type 0} (step : S → Answer → S → Type 0) (xs ys : List Answer) (s m t : S) →
    Calls step s xs m → Calls step m ys t → Calls step s (xs ++ ys) t
calls-append step [] ys s m t p q = subst (λ x. Calls step x ys t) (sym p) q
calls-append step (x ∷ xs) ys s m t p q = (p.0, p.1, calls-append step xs ys p.0 m t p.2 q)

pub calls_one : {S : Type 0} (step : S → Answer → S → Type 0) (s t : S) (x : Answer) →
    step s x t → Calls step s (x ∷ []) t
calls_one step s t x h = (t, h, refl)

pub bytes_of_calls-append : (xs ys : List Answer) → bytes_of_calls (xs ++ ys) ≡ bytes_of_calls xs ++ bytes_of_calls ys
bytes_of_calls-append [] ys = refl
bytes_of_calls-append (Ok bytes ∷ xs) ys = ap (λ b. bytes ++ b) (bytes_of_calls-append xs ys)
    ∙ sym (append_assoc bytes (bytes_of_calls xs) (bytes_of_calls ys))
bytes_of_calls-append (Err e ∷ xs) ys = bytes_of_calls-append xs ys
