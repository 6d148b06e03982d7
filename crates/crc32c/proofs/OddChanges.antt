-- The generator is a multiple of x + 1, so whether the number of bits set is odd is kept by each step: a change of an
-- odd number of bits changes the remainder.
use Rattle.std.proofs.Common.{◌≡◌, ℕ, zero, suc, ◌+◌, ◌*◌, ◌/◌, ◌%◌, ◌^◌, ◌<◌, List, [], ◌∷◌, length}
use Rattle.std.proofs.Common.{refl, sym, ◌∙◌, ap, arith, length-append}
use Rattle.std.specs.Prelude.{bit_xor, ◌==◌, if◌then◌else◌}
use Rattle.std.proofs.Math.Nat.{pow-suc}
use Rattle.std.proofs.lemmas.Nat.{xor_lt, xor_shr, xor_mod}
use Rattle.crc32c.specs.Remainders.{generator, reduced, times_x, all_ones, checksum_of}
use Rattle.crc32c.specs.Changes.{IsBytes, low_bits, bits_of, differing, HasOddChanges}
use Rattle.crc32c.proofs.BitLemmas.{AreBits, after_bits, are_bits-of, length-low_bits, times_x-below, remainders_are}

-- how many of the n lowest bits are set
ones : ℕ → ℕ → ℕ
ones zero x = 0
ones (suc n) x = x % 2 + ones n (x / 2)

ones-suc : (n x : ℕ) → ones (suc n) x ≡ x % 2 + ones n (x / 2)
unfolding ones
ones-suc n x = refl

ones-zero : (x : ℕ) → ones 0 x ≡ 0
unfolding ones
ones-zero x = refl

pub bit_sum : (x y : ℕ) → x < 2 → y < 2 → bit_xor x y ≡ (x + y) % 2
bit_sum zero zero p q = refl
bit_sum zero (suc zero) p q = refl
bit_sum (suc zero) zero p q = refl
bit_sum (suc zero) (suc zero) p q = refl
bit_sum (suc (suc x)) y p q = absurd (omega arith)
bit_sum zero (suc (suc y)) p q = absurd (omega arith)
bit_sum (suc zero) (suc (suc y)) p q = absurd (omega arith)

ones-xor : (n a b : ℕ) → ones n (bit_xor a b) % 2 ≡ (ones n a + ones n b) % 2
ones-xor zero a b =
    let x = ones-zero (bit_xor a b) in let y = ones-zero a in let z = ones-zero b in
    omega arith
ones-xor (suc n) a b =
    let low : bit_xor a b % 2 ≡ (a % 2 + b % 2) % 2 =
    xor_mod a b 1 ∙ bit_sum (a % 2) (b % 2) (omega arith) (omega arith) in
    let high : ones n (bit_xor a b / 2) ≡ ones n (bit_xor (a / 2) (b / 2)) = ap (ones n) (xor_shr a b 1) in
    let rest = ones-xor n (a / 2) (b / 2) in
    let x = ones-suc n (bit_xor a b) in let y = ones-suc n a in let z = ones-suc n b in
    joined (ones (suc n) (bit_xor a b)) (ones (suc n) a) (ones (suc n) b) (bit_xor a b % 2) (a % 2) (b % 2)
    (ones n (bit_xor a b / 2)) (ones n (bit_xor (a / 2) (b / 2))) (ones n (a / 2)) (ones n (b / 2)) x y z low high rest
  where
    joined : (x y z l a b h i p q : ℕ) → x ≡ l + h → y ≡ a + p → z ≡ b + q → l ≡ (a + b) % 2 → h ≡ i →
        i % 2 ≡ (p + q) % 2 → x % 2 ≡ (y + z) % 2
    joined x y z l a b h i p q d e f g j k = omega arith

-- a bit that is not set adds nothing
ones-more : (n x : ℕ) → x < 2 ^ n → ones (suc n) x ≡ ones n x
ones-more zero x lt = ones-suc 0 x ∙ (let z = ones-zero x in let y = ones-zero (x / 2) in omega arith)
ones-more (suc n) x lt =
    let e = pow-suc 2 n in
    ones-suc (suc n) x ∙ ap (λ (k : ℕ). x % 2 + k) (ones-more n (x / 2) (omega arith)) ∙ sym (ones-suc n x)

seventeen : ones 32 generator ≡ 17
unfolding ones
seventeen = refl

ones_reduced : (bit half : ℕ) → bit < 2 → half < 2 ^ 31 → ones 32 (reduced bit half) % 2 ≡ (bit + ones 31 half) % 2
ones_reduced zero half one lt = let more = ones-more 31 half lt in omega arith
ones_reduced (suc zero) half one lt =
    let more = ones-more 31 half lt in
    let both = ones-xor 32 half generator in
    let weight = seventeen in
    omega arith
ones_reduced (suc (suc bit)) half one lt = absurd (omega arith)

ones-times_x : (r : ℕ) → r < 2 ^ 32 → ones 32 (times_x r) % 2 ≡ ones 32 r % 2
ones-times_x r lt = ones_reduced (r % 2) (r / 2) (omega arith) (omega arith) ∙
    ap (λ (k : ℕ). k % 2) (sym (ones-suc 31 r))

ones-bit : (b : ℕ) → b < 2 → ones 32 b ≡ b
unfolding ones
ones-bit zero lt = refl
ones-bit (suc zero) lt = refl
ones-bit (suc (suc b)) lt = absurd (omega arith)

-- how many bits of a list are set
abbrev set_bits : List ℕ → ℕ
set_bits [] = 0
set_bits (bit ∷ bits) = bit + set_bits bits

ones_after : (r : ℕ) (bits : List ℕ) → r < 2 ^ 32 → AreBits bits →
    ones 32 (after_bits r bits) % 2 ≡ (ones 32 r + set_bits bits) % 2
ones_after r [] lt are = ap (λ (k : ℕ). k % 2) (omega arith)
ones_after r (bit ∷ bits) lt are =
    let b = are.0 in
    let below : bit_xor r bit < 2 ^ 32 = xor_lt 32 r bit lt (omega arith) in
    let rest = ones_after (times_x (bit_xor r bit)) bits (times_x-below (bit_xor r bit) below) are.1 in
    let step = ones-times_x (bit_xor r bit) below in
    let both = ones-xor 32 r bit in
    let one = ones-bit bit b in
    parity (ones 32 (after_bits (times_x (bit_xor r bit)) bits)) (ones 32 (times_x (bit_xor r bit)))
    (ones 32 (bit_xor r bit)) (ones 32 r) (ones 32 bit) bit (set_bits bits) rest step both one
  where
    parity : (a t x r o b s : ℕ) → a % 2 ≡ (t + s) % 2 → t % 2 ≡ x % 2 → x % 2 ≡ (r + o) % 2 → o ≡ b →
        a % 2 ≡ (r + (b + s)) % 2
    parity a t x r o b s p q u v = omega arith

differing_sum : (xs ys : List ℕ) → AreBits xs → AreBits ys → length xs ≡ length ys →
    differing xs ys % 2 ≡ (set_bits xs + set_bits ys) % 2
unfolding differing
differing_sum [] [] a b e = refl
differing_sum [] (y ∷ ys) a b e = absurd (omega arith)
differing_sum (x ∷ xs) [] a b e = absurd (omega arith)
differing_sum (x ∷ xs) (y ∷ ys) a b e =
    let rest = differing_sum xs ys a.1 b.1 (omega arith) in
    one x y a.0 b.0 (differing xs ys) (set_bits xs) (set_bits ys) rest
  where
    one : (x y : ℕ) → x < 2 → y < 2 → (d s t : ℕ) → d % 2 ≡ (s + t) % 2 →
        ((if x == y then 0 else 1) + d) % 2 ≡ ((x + s) + (y + t)) % 2
    one zero zero p q d s t h = omega arith
    one zero (suc zero) p q d s t h = omega arith
    one (suc zero) zero p q d s t h = omega arith
    one (suc zero) (suc zero) p q d s t h = omega arith
    one (suc (suc x)) y p q d s t h = absurd (omega arith)
    one zero (suc (suc y)) p q d s t h = absurd (omega arith)
    one (suc zero) (suc (suc y)) p q d s t h = absurd (omega arith)

length-bits_of : (bytes : List ℕ) → length (bits_of bytes) ≡ 8 * length bytes
unfolding bits_of
length-bits_of [] = refl
length-bits_of (byte ∷ bytes) =
    let e = length-append (low_bits 8 byte) (bits_of bytes) in
    let l = length-low_bits 8 byte in
    let r = length-bits_of bytes in
    omega arith

pub odd_found : (old new : List ℕ) → IsBytes old → IsBytes new → HasOddChanges old new →
    checksum_of old ≡ checksum_of new → ⊥
odd_found old new fits_old fits_new c e =
    let a = bits_of old in
    let b = bits_of new in
    let same : ones 32 (after_bits all_ones a) ≡ ones 32 (after_bits all_ones b) =
    ap (ones 32) (remainders_are old new fits_old fits_new e) in
    let len : length a ≡ length b = let x = length-bits_of old in let y = length-bits_of new in
    let z = c.same_length in omega arith in
    apart (ones 32 (after_bits all_ones a)) (ones 32 (after_bits all_ones b)) (ones 32 all_ones) (set_bits a)
    (set_bits b)
    (differing a b) (ones_after all_ones a (omega arith) (are_bits-of old))
    (ones_after all_ones b (omega arith) (are_bits-of new)) same
    (differing_sum a b (are_bits-of old) (are_bits-of new) len) c.odd
  where
    apart : (x y o s t d : ℕ) → x % 2 ≡ (o + s) % 2 → y % 2 ≡ (o + t) % 2 → x ≡ y → d % 2 ≡ (s + t) % 2 →
        d % 2 ≡ 1 → ⊥
    apart x y o s t d p q u v w = omega arith
