-- What is so of an answer.
use Rattle.std.proofs.Common.{◌≡◌, Result, Ok, Err, IfOk, IfErr, IsErrAnd, subst, sym}

pub if_ok_with : {T E : Type 0} (r : Result T E) {P Q : T → Type 0} → ((x : T) → P x → Q x) → IfOk r P → IfOk r Q
if_ok_with (Ok x) f h = f x h
if_ok_with (Err e) f h = tt

-- of a fault that was passed on
pub passed_on : {T E : Type 0} (r : Result T E) (P : E → Type 0) (fault : E) → IsErrAnd r (λ e. e ≡ fault) → P fault →
    IfErr r P
passed_on (Ok x) P fault is h = absurd is
passed_on (Err e) P fault is h = subst P (sym is) h
