-- Devices whose bytes are known: a run of reads takes its bytes from the front, a run of writes appends them.
use Rattle.std.proofs.Common.{ℕ, ◌≤◌, List, [], ◌∷◌, ◌++◌, length, Option, Some, None, Ok, Err, refl, sym, ap, subst}
use Rattle.std.proofs.Common.{◌∙◌, arith, append_assoc, length-append}
use Rattle.std.proofs.lemmas.List.{append-nil}
use Rattle.std.specs.Io.KnownBytes.{Consumes, Appends, Keeps}
use Rattle.byte_io.specs.Streams.{Answer, Calls, bytes_of_calls, MayRead, MayWrite}
use Rattle.byte_io.specs.Writing.{EachTakes, AnyOffer}

appends_nothing : (known : Option (List ℕ)) → Appends known known []
appends_nothing None = tt
appends_nothing (Some xs) = sym (append-nil xs)

appends_more : (old mid new : Option (List ℕ)) (xs ys : List ℕ) → Appends old mid xs → Appends mid new ys →
    Appends old new (xs ++ ys)
appends_more None mid new xs ys a b = tt
appends_more (Some o) None new xs ys a b = absurd a
appends_more (Some o) (Some m) None xs ys a b = absurd b
appends_more (Some o) (Some m) (Some n) xs ys a b = b ∙ ap (λ l. l ++ ys) a ∙ append_assoc o xs ys

kept_then_appends : (old mid new : Option (List ℕ)) (ys : List ℕ) → Keeps old mid → Appends mid new ys →
    Appends old new ys
kept_then_appends None mid new ys a b = tt
kept_then_appends (Some o) None new ys a b = absurd a
kept_then_appends (Some o) (Some m) None ys a b = absurd b
kept_then_appends (Some o) (Some m) (Some n) ys a b = b ∙ ap (λ l. l ++ ys) a

-- S is the device, and `known` the bytes that it tells of
pub known_written : {S : Type 0} (known : S → Option (List ℕ)) (s t : S) (answers : List Answer) →
    Calls (AnyOffer (λ s offered a t. MayWrite (known s) a (known t))) s answers t →
    Appends (known s) (known t) (bytes_of_calls answers)
known_written known s t [] e = subst (λ v. Appends (known s) (known v) []) e (appends_nothing (known s))
known_written known s t (Ok bytes ∷ answers) c =
    appends_more (known s) (known c.0) (known t) bytes (bytes_of_calls answers) c.1.1
    (known_written known c.0 t answers c.2)
known_written known s t (Err fault ∷ answers) c =
    kept_then_appends (known s) (known c.0) (known t) (bytes_of_calls answers) c.1.1
    (known_written known c.0 t answers c.2)

consumes_nothing : (known : Option (List ℕ)) → Consumes known known []
consumes_nothing None = tt
consumes_nothing (Some xs) = refl

consumes_more : (old mid new : Option (List ℕ)) (xs ys : List ℕ) → Consumes old mid xs → Consumes mid new ys →
    Consumes old new (xs ++ ys)
consumes_more None mid new xs ys a b = tt
consumes_more (Some o) None new xs ys a b = absurd a
consumes_more (Some o) (Some m) None xs ys a b = absurd b
consumes_more (Some o) (Some m) (Some n) xs ys a b = a ∙ ap (λ l. xs ++ l) b ∙ sym (append_assoc xs ys n)

kept_then_consumes : (old mid new : Option (List ℕ)) (ys : List ℕ) → Keeps old mid → Consumes mid new ys →
    Consumes old new ys
kept_then_consumes None mid new ys a b = tt
kept_then_consumes (Some o) None new ys a b = absurd a
kept_then_consumes (Some o) (Some m) None ys a b = absurd b
kept_then_consumes (Some o) (Some m) (Some n) ys a b = sym a ∙ b

pub known_read : {S : Type 0} (known : S → Option (List ℕ)) (s t : S) (answers : List Answer) →
    Calls (λ s a t. MayRead (known s) a (known t)) s answers t → Consumes (known s) (known t) (bytes_of_calls answers)
known_read known s t [] e = subst (λ v. Consumes (known s) (known v) []) e (consumes_nothing (known s))
known_read known s t (Ok bytes ∷ answers) c =
    consumes_more (known s) (known c.0) (known t) bytes (bytes_of_calls answers) c.1
    (known_read known c.0 t answers c.2)
known_read known s t (Err fault ∷ answers) c =
    kept_then_consumes (known s) (known c.0) (known t) (bytes_of_calls answers) c.1 (known_read known c.0 t answers c.2)

pub calls_at_most_bytes : (answers : List Answer) → EachTakes answers → length answers ≤ length (bytes_of_calls answers)
calls_at_most_bytes [] e = omega arith
calls_at_most_bytes (Ok bytes ∷ answers) e =
    let more = calls_at_most_bytes answers e.1 in
    let some = e.0 in
    let both = length-append bytes (bytes_of_calls answers) in
    omega arith
calls_at_most_bytes (Err fault ∷ answers) e = absurd e
