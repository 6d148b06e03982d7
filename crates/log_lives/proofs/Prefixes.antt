-- Beginnings of one list.
use Rattle.std.proofs.Common.{◌≡◌, ℕ, zero, suc, ◌+◌, ◌-◌, ◌<◌, ◌≤◌, List, [], ◌∷◌, ◌++◌, length, take, drop, get_or, slice_get}
use Rattle.std.proofs.Common.{Some, refl, ap, sym, ◌∙◌, subst, arith, append_assoc}
use Rattle.std.proofs.Math.ListN.{get_or-append, drop_of_length-le}
use Rattle.std.proofs.Math.Seq.{drop-append_seam}
use Rattle.std.proofs.lemmas.List.{append-nil, append_cancel_left, length-append, take-append-le}
use Rattle.std.proofs.lemmas.Option.{slice_get-get_or, slice_get_within, get_or_from_slice_get}
use mathlib.Core.List.{IsPrefix}

pub prefix_self : {A : Type 0} (xs : List A) → IsPrefix xs xs
prefix_self xs = ([], append-nil xs)

pub prefix_push : {A : Type 0} (xs ys : List A) → IsPrefix xs (xs ++ ys)
prefix_push xs ys = (ys, refl)

pub prefix_trans : {A : Type 0} (xs ys zs : List A) → IsPrefix xs ys → IsPrefix ys zs → IsPrefix xs zs
prefix_trans xs ys zs p q = (p.0 ++ q.0, sym (append_assoc xs p.0 q.0) ∙ (ap (λ w. w ++ q.0) p.1 ∙ q.1))

pub prefix_front : {A : Type 0} (xs ys zs : List A) → IsPrefix (xs ++ ys) zs → IsPrefix xs zs
prefix_front xs ys zs p = prefix_trans xs (xs ++ ys) zs (prefix_push xs ys) p

-- of two beginnings of one list the shorter begins the longer
pub prefix_shorter : {A : Type 0} (xs ys zs : List A) → IsPrefix xs zs → IsPrefix ys zs → length xs ≤ length ys →
    IsPrefix xs ys
prefix_shorter [] ys zs p q le = (ys, refl)
prefix_shorter (x ∷ xs) [] zs p q le = absurd (omega arith)
prefix_shorter (x ∷ xs) (y ∷ ys) [] p q le = absurd (cc (p.1))
prefix_shorter (x ∷ xs) (y ∷ ys) (z ∷ zs) p q le =
    let heads : x ≡ y = cc (p.1, q.1) in
    let rest = prefix_shorter xs ys zs (p.0, cc (p.1)) (q.0, cc (q.1)) (omega arith) in
    (rest.0, cc (heads, rest.1))

pub prefix_length : {A : Type 0} (xs ys : List A) → IsPrefix xs ys → length xs ≤ length ys
prefix_length xs ys p = omega (arith, length-append xs p.0, ap length p.1)

-- what stands in a beginning stands in the whole
pub prefix_get : {A : Type 0} (xs ys : List A) (i : ℕ) (d : A) → IsPrefix xs ys → i < length xs →
    slice_get xs i ≡ slice_get ys i
prefix_get xs ys i d p within =
    slice_get-get_or xs i d within
    ∙ ap Some (sym (get_or-append xs p.0 d i within) ∙ ap (λ l. get_or l i d) p.1)
    ∙ sym (slice_get-get_or ys i d (let le = prefix_length xs ys p in omega (arith, le)))

-- of two beginnings of one list, each place that both have has the same
pub prefixes_agree : {A : Type 0} (xs ys zs : List A) (i : ℕ) → IsPrefix xs zs → IsPrefix ys zs → i < length xs →
    i < length ys → slice_get xs i ≡ slice_get ys i
prefixes_agree [] ys zs i p q hx hy = absurd (omega arith)
prefixes_agree (x ∷ xs) ys zs i p q hx hy = prefix_get (x ∷ xs) zs i x p hx ∙ sym (prefix_get ys zs i x q hy)

pub prefix_take : {A : Type 0} (xs ys : List A) (n : ℕ) → IsPrefix xs ys → n ≤ length xs → take n xs ≡ take n ys
prefix_take xs ys n p le = sym (take-append-le n xs p.0 le) ∙ ap (take n) p.1

-- A list, and behind it what another one that goes on where `front` ends has from there on.
pub joined_longer : {A : Type 0} (s front whole zs : List A) → IsPrefix s zs → IsPrefix (front ++ whole) zs →
    length front ≤ length s → length s ≤ length (front ++ whole) →
    s ++ drop (length s - length front) whole ≡ front ++ whole
joined_longer s front whole zs p q le up =
    let rest = prefix_shorter s (front ++ whole) zs p q up in
    let begun = prefix_shorter front s zs (prefix_front front whole zs q) p le in
    let parts : begun.0 ++ rest.0 ≡ whole =
    append_cancel_left front (begun.0 ++ rest.0) whole
    (sym (append_assoc front begun.0 rest.0) ∙ ap (λ l. l ++ rest.0) begun.1 ∙ rest.1) in
    let count : length s - length front ≡ length begun.0 =
    omega (arith, length-append front begun.0, ap length begun.1) in
    let behind : drop (length s - length front) whole ≡ rest.0 =
    ap (λ n. drop n whole) count ∙ ap (drop (length begun.0)) (sym parts) ∙ drop-append_seam begun.0 rest.0 in
    ap (λ l. s ++ l) behind ∙ rest.1

pub joined_shorter : {A : Type 0} (s front whole : List A) → length (front ++ whole) ≤ length s →
    s ++ drop (length s - length front) whole ≡ s
joined_shorter s front whole le =
    let past : length whole ≤ length s - length front = omega (arith, length-append front whole) in
    ap (λ l. s ++ l) (drop_of_length-le whole past) ∙ append-nil s
