-- In how many bits lists of bytes differ.
use Rattle.std.proofs.Common.{◌≡◌, ℕ, zero, suc, ◌+◌, ◌-◌, ◌*◌, ◌/◌, ◌%◌, ◌^◌, ◌<◌, List, [], ◌∷◌, ◌++◌, length}
use Rattle.std.proofs.Common.{refl, sym, ◌∙◌, ap, arith, length-append, zero-add}
use Rattle.std.specs.Prelude.{◌==◌, if◌then◌else◌}
use Rattle.std.proofs.Math.Nat.{pow-suc}
use Rattle.crc32c.specs.Changes.{low_bits, bits_of, differing}

-- in how many of their eight bits two bytes differ
pub byte_distance : ℕ → ℕ → ℕ
byte_distance a b = differing (low_bits 8 a) (low_bits 8 b)

pub distance : List ℕ → List ℕ → ℕ
distance xs ys = differing (bits_of xs) (bits_of ys)

pub distance_is : (xs ys : List ℕ) → differing (bits_of xs) (bits_of ys) ≡ distance xs ys
unfolding distance
distance_is xs ys = refl

length-low_bits : (n x : ℕ) → length (low_bits n x) ≡ n
unfolding low_bits
length-low_bits zero x = refl
length-low_bits (suc n) x = ap suc (length-low_bits n (x / 2))

pub length-bits_of : (bytes : List ℕ) → length (bits_of bytes) ≡ 8 * length bytes
unfolding bits_of
length-bits_of [] = refl
length-bits_of (byte ∷ bytes) =
    let e = length-append (low_bits 8 byte) (bits_of bytes) in
    let l = length-low_bits 8 byte in
    let r = length-bits_of bytes in
    omega arith

differing-append : (xs ys us vs : List ℕ) → length xs ≡ length ys →
    differing (xs ++ us) (ys ++ vs) ≡ differing xs ys + differing us vs
unfolding differing
differing-append [] [] us vs e = sym (zero-add (differing us vs))
differing-append [] (y ∷ ys) us vs e = absurd (omega arith)
differing-append (x ∷ xs) [] us vs e = absurd (omega arith)
differing-append (x ∷ xs) (y ∷ ys) us vs e =
    let rest = differing-append xs ys us vs (omega arith) in
    let one = if x == y then 0 else 1 in
    moved one (differing (xs ++ us) (ys ++ vs)) (differing xs ys) (differing us vs) rest
  where
    moved : (o a b c : ℕ) → a ≡ b + c → o + a ≡ (o + b) + c
    moved o a b c e = omega arith

pub distance-cons : (x y : ℕ) (xs ys : List ℕ) → distance (x ∷ xs) (y ∷ ys) ≡ byte_distance x y + distance xs ys
unfolding distance byte_distance bits_of
distance-cons x y xs ys =
    differing-append (low_bits 8 x) (low_bits 8 y) (bits_of xs) (bits_of ys)
    (length-low_bits 8 x ∙ sym (length-low_bits 8 y))

pub distance-none : distance [] [] ≡ 0
unfolding distance bits_of differing
distance-none = refl

pub distance-append : (xs ys us vs : List ℕ) → length xs ≡ length ys →
    distance (xs ++ us) (ys ++ vs) ≡ distance xs ys + distance us vs
distance-append [] [] us vs e = let none = distance-none in omega arith
distance-append [] (y ∷ ys) us vs e = absurd (omega arith)
distance-append (x ∷ xs) [] us vs e = absurd (omega arith)
distance-append (x ∷ xs) (y ∷ ys) us vs e =
    let rest = distance-append xs ys us vs (omega arith) in
    let whole = distance-cons x y (xs ++ us) (ys ++ vs) in
    let front = distance-cons x y xs ys in
    omega arith

-- bytes whose bits are all turned over differ in as many
turned : (n a b : ℕ) → a < 2 ^ n → b < 2 ^ n →
    differing (low_bits n (2 ^ n - 1 - a)) (low_bits n (2 ^ n - 1 - b)) ≡ differing (low_bits n a) (low_bits n b)
unfolding differing low_bits
turned zero a b p q = refl
turned (suc n) a b p q =
    let e = pow-suc 2 n in
    let low_a : (2 ^ suc n - 1 - a) % 2 ≡ 1 - a % 2 = omega arith in
    let low_b : (2 ^ suc n - 1 - b) % 2 ≡ 1 - b % 2 = omega arith in
    let high_a : (2 ^ suc n - 1 - a) / 2 ≡ 2 ^ n - 1 - a / 2 = omega arith in
    let high_b : (2 ^ suc n - 1 - b) / 2 ≡ 2 ^ n - 1 - b / 2 = omega arith in
    let rest = turned n (a / 2) (b / 2) (omega arith) (omega arith) in
    let d = λ (x y p q : ℕ). (if x == y then 0 else 1) + differing (low_bits n p) (low_bits n q) in
    ap (λ (x : ℕ). d x ((2 ^ suc n - 1 - b) % 2) ((2 ^ suc n - 1 - a) / 2) ((2 ^ suc n - 1 - b) / 2)) low_a
    ∙ ap (λ (y : ℕ). d (1 - a % 2) y ((2 ^ suc n - 1 - a) / 2) ((2 ^ suc n - 1 - b) / 2)) low_b
    ∙ ap (λ (x : ℕ). d (1 - a % 2) (1 - b % 2) x ((2 ^ suc n - 1 - b) / 2)) high_a
    ∙ ap (λ (y : ℕ). d (1 - a % 2) (1 - b % 2) (2 ^ n - 1 - a / 2) y) high_b
    ∙ one (a % 2) (b % 2) (omega arith) (omega arith) _ _ rest
  where
    one : (x y : ℕ) → x < 2 → y < 2 → (d e : ℕ) → d ≡ e →
        (if (1 - x) == (1 - y) then 0 else 1) + d ≡ (if x == y then 0 else 1) + e
    one zero zero p q d e h = ap (λ (n : ℕ). 0 + n) h
    one zero (suc zero) p q d e h = ap (λ (n : ℕ). 1 + n) h
    one (suc zero) zero p q d e h = ap (λ (n : ℕ). 1 + n) h
    one (suc zero) (suc zero) p q d e h = ap (λ (n : ℕ). 0 + n) h
    one (suc (suc x)) y p q d e h = absurd (omega arith)
    one zero (suc (suc y)) p q d e h = absurd (omega arith)
    one (suc zero) (suc (suc y)) p q d e h = absurd (omega arith)

pub turned_bytes : (a b : ℕ) → a < 256 → b < 256 → byte_distance (255 - a) (255 - b) ≡ byte_distance a b
unfolding byte_distance
turned_bytes a b p q = turned 8 a b p q
