-- Bytes are read bit by bit, and what is read is a sum of what was there and of the bits.
use Rattle.std.proofs.Common.{◌≡◌, ℕ, zero, suc, ◌*◌, ◌/◌, ◌%◌, ◌^◌, ◌<◌, List, [], ◌∷◌, ◌++◌, length}
use Rattle.std.proofs.Common.{refl, sym, ◌∙◌, ap, arith}
use Rattle.std.specs.Prelude.{bit_xor}
use Rattle.std.specs.List.{AllByRecursion}
use Rattle.std.proofs.Math.Nat.{pow-suc}
use Rattle.std.proofs.lemmas.Nat.{xor_lt}
use lib.Bits.{xor_assoc, xor_zero_r, xor_self, xor_zero_l}
use Rattle.crc32c.specs.Remainders.{generator, reduced, times_x, times_x_to, after_bytes, all_ones, complement, checksum_of}
use Rattle.crc32c.specs.Changes.{IsBytes, low_bits, bits_of}
use Rattle.crc32c.proofs.Linear.{parted, xor_swap, times_x-xor, times_x-even}

abbrev pub after_bits : ℕ → List ℕ → ℕ
after_bits r [] = r
after_bits r (bit ∷ bits) = after_bits (times_x (bit_xor r bit)) bits

abbrev pub AreBits : List ℕ → Type 0
AreBits bits = AllByRecursion (λ (b : ℕ). b < 2) bits

-- ---- bits

pub are_bits-low : (n x : ℕ) → AreBits (low_bits n x)
unfolding low_bits
are_bits-low zero x = tt
are_bits-low (suc n) x = (omega arith, are_bits-low n (x / 2))

pub are_bits-append : (xs ys : List ℕ) → AreBits xs → AreBits ys → AreBits (xs ++ ys)
are_bits-append [] ys a b = b
are_bits-append (x ∷ xs) ys a b = (a.0, are_bits-append xs ys a.1 b)

pub are_bits-parts : (xs ys : List ℕ) → AreBits (xs ++ ys) → AreBits xs × AreBits ys
are_bits-parts [] ys a = (tt, a)
are_bits-parts (x ∷ xs) ys a = let r = are_bits-parts xs ys a.1 in ((a.0, r.0), r.1)

pub are_bits-of : (bytes : List ℕ) → AreBits (bits_of bytes)
unfolding bits_of
are_bits-of [] = tt
are_bits-of (byte ∷ bytes) = are_bits-append (low_bits 8 byte) (bits_of bytes) (are_bits-low 8 byte) (are_bits-of bytes)

pub length-low_bits : (n x : ℕ) → length (low_bits n x) ≡ n
unfolding low_bits
length-low_bits zero x = refl
length-low_bits (suc n) x = ap (λ (i : ℕ). suc i) (length-low_bits n (x / 2))

-- ---- bytes are read bit by bit

zero_below : (x : ℕ) → x < 2 ^ 0 → x ≡ 0
zero_below x lt = omega arith

half_below : (n x : ℕ) → x < 2 ^ suc n → x / 2 < 2 ^ n
half_below n x lt = let e = pow-suc 2 n in omega arith

pub low_bits_read : (n r x : ℕ) → x < 2 ^ n → times_x_to n (bit_xor r x) ≡ after_bits r (low_bits n x)
unfolding low_bits times_x_to
low_bits_read zero r x lt = ap (bit_xor r) (zero_below x lt) ∙ xor_zero_r r
low_bits_read (suc n) r x lt =
    let b = x % 2 in
    let m = x / 2 in
    ap (λ (y : ℕ). times_x_to n (times_x (bit_xor r y))) (parted x 1)
    ∙ ap (λ (y : ℕ). times_x_to n (times_x y)) (sym (xor_assoc r b (m * 2)))
    ∙ ap (times_x_to n) (times_x-xor (bit_xor r b) (m * 2) ∙ ap (bit_xor (times_x (bit_xor r b))) (times_x-even m))
    ∙ low_bits_read n (times_x (bit_xor r b)) m (half_below n x lt)

pub after_bits-append : (r : ℕ) (xs ys : List ℕ) → after_bits r (xs ++ ys) ≡ after_bits (after_bits r xs) ys
after_bits-append r [] ys = refl
after_bits-append r (x ∷ xs) ys = after_bits-append (times_x (bit_xor r x)) xs ys

pub bytes_read : (r : ℕ) (bytes : List ℕ) → IsBytes bytes → after_bytes r bytes ≡ after_bits r (bits_of bytes)
unfolding bits_of
bytes_read r [] fits = refl
bytes_read r (byte ∷ bytes) fits =
    let s = after_bits r (low_bits 8 byte) in
    ap (λ (n : ℕ). after_bytes n bytes) (low_bits_read 8 r byte (fits 0))
    ∙ bytes_read s bytes (λ i. fits (suc i))
    ∙ sym (after_bits-append r (low_bits 8 byte) (bits_of bytes))

-- ---- remainders stay below 2^32

reduced_below : (bit half : ℕ) → bit < 2 → half < 2 ^ 31 → reduced bit half < 2 ^ 32
reduced_below zero half one lt = omega arith
reduced_below (suc zero) half one lt = xor_lt 32 half generator (omega arith) (omega arith)
reduced_below (suc (suc bit)) half one lt = absurd (omega arith)

pub times_x-below : (r : ℕ) → r < 2 ^ 32 → times_x r < 2 ^ 32
times_x-below r lt = reduced_below (r % 2) (r / 2) (omega arith) (omega arith)

pub after_bits-below : (r : ℕ) (bits : List ℕ) → r < 2 ^ 32 → AreBits bits → after_bits r bits < 2 ^ 32
after_bits-below r [] lt are = lt
after_bits-below r (bit ∷ bits) lt are =
    after_bits-below (times_x (bit_xor r bit)) bits
    (times_x-below (bit_xor r bit) (xor_lt 32 r bit lt (let b = are.0 in omega arith))) are.1

-- ---- multiplying by x loses nothing

pub xor_none : (a b : ℕ) → bit_xor a b ≡ 0 → a ≡ b
xor_none a b e =
    sym (ap (bit_xor a) e ∙ xor_zero_r a) ∙ sym (xor_assoc a a b) ∙ ap (λ (n : ℕ). bit_xor n b) (xor_self a)
    ∙ xor_zero_l b

none_reduced : (bit half : ℕ) → bit < 2 → half < 2 ^ 31 → reduced bit half ≡ 0 → (bit ≡ 0) × (half ≡ 0)
none_reduced zero half one lt e = (refl, e)
none_reduced (suc zero) half one lt e = let same = xor_none half generator e in absurd (omega arith)
none_reduced (suc (suc bit)) half one lt e = absurd (omega arith)

none_before : (r : ℕ) → r < 2 ^ 32 → times_x r ≡ 0 → r ≡ 0
none_before r lt e = let h = none_reduced (r % 2) (r / 2) (omega arith) (omega arith) e in
    let a = h.0 in let b = h.1 in omega arith

pub none_before_all : (n r : ℕ) → r < 2 ^ 32 → times_x_to n r ≡ 0 → r ≡ 0
unfolding times_x_to
none_before_all zero r lt e = e
none_before_all (suc n) r lt e = none_before r lt (none_before_all n (times_x r) (times_x-below r lt) e)

-- two remainders with the same bits behind them
pub apart_after : (r s : ℕ) (bits : List ℕ) →
    bit_xor (after_bits r bits) (after_bits s bits) ≡ times_x_to (length bits) (bit_xor r s)
unfolding times_x_to
apart_after r s [] = refl
apart_after r s (bit ∷ bits) =
    apart_after (times_x (bit_xor r bit)) (times_x (bit_xor s bit)) bits
    ∙ ap (times_x_to (length bits)) (sym (times_x-xor (bit_xor r bit) (bit_xor s bit))
    ∙ ap times_x (xor_swap r bit s bit ∙ ap (bit_xor (bit_xor r s)) (xor_self bit) ∙ xor_zero_r (bit_xor r s)))

pub same_before : (r s : ℕ) (bits : List ℕ) → r < 2 ^ 32 → s < 2 ^ 32 → after_bits r bits ≡ after_bits s bits → r ≡ s
same_before r s bits below_r below_s e =
    xor_none r s (none_before_all (length bits) (bit_xor r s) (xor_lt 32 r s below_r below_s)
    (sym (apart_after r s bits) ∙ ap (λ (n : ℕ). bit_xor n (after_bits s bits)) e ∙ xor_self (after_bits s bits)))

-- ---- the checksum

pub same_remainder : (a b : ℕ) → a < 2 ^ 32 → b < 2 ^ 32 → complement a ≡ complement b → a ≡ b
same_remainder a b x y e = omega arith

-- the same checksum is the same remainder
pub remainders_are : (old new : List ℕ) → IsBytes old → IsBytes new → checksum_of old ≡ checksum_of new →
    after_bits all_ones (bits_of old) ≡ after_bits all_ones (bits_of new)
remainders_are old new fits_old fits_new e =
    same_remainder _ _ (after_bits-below all_ones (bits_of old) (omega arith) (are_bits-of old))
    (after_bits-below all_ones (bits_of new) (omega arith) (are_bits-of new))
    (ap complement (sym (bytes_read all_ones old fits_old)) ∙ e ∙ ap complement (bytes_read all_ones new fits_new))
