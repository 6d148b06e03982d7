-- The remainder that the steps give is that of a division.
use Rattle.std.proofs.Common.{◌≡◌, ℕ, zero, suc, ◌+◌, ◌*◌, ◌/◌, ◌%◌, ◌^◌, ◌<◌, List, [], ◌∷◌, ◌++◌, length}
use Rattle.std.proofs.Common.{refl, sym, ◌∙◌, ap, arith, append_assoc, append-nil, length-append}
use Rattle.std.specs.Prelude.{bit_xor}
use Rattle.std.proofs.Math.Nat.{pow-suc}
use Rattle.std.proofs.lemmas.Nat.{xor_lt, xor_mod, xor_shr}
use lib.Bits.{xor_zero_r}
use Rattle.crc32c.specs.Remainders.{generator, reduced, times_x, all_ones, complement, checksum_of}
use Rattle.crc32c.specs.Changes.{IsBytes, low_bits, bits_of}
use Rattle.crc32c.specs.Division.{zeros, ones, plus, scaled, times_generator, IsDivided}
use Rattle.crc32c.proofs.BitLemmas.{AreBits, after_bits, are_bits-low, are_bits-append, are_bits-of, length-low_bits}
use Rattle.crc32c.proofs.BitLemmas.{times_x-below, after_bits-below, bytes_read}
use Rattle.crc32c.proofs.OddChanges.{bit_sum}

-- ---- sums of polynomials

length-zeros : (n : ℕ) → length (zeros n) ≡ n
unfolding zeros
length-zeros zero = refl
length-zeros (suc n) = ap (λ (i : ℕ). suc i) (length-zeros n)

are_bits-zeros : (n : ℕ) → AreBits (zeros n)
unfolding zeros
are_bits-zeros zero = tt
are_bits-zeros (suc n) = (omega arith, are_bits-zeros n)

plus_comm : (xs ys : List ℕ) → plus xs ys ≡ plus ys xs
unfolding plus
plus_comm [] [] = refl
plus_comm [] (y ∷ ys) = refl
plus_comm (x ∷ xs) [] = refl
plus_comm (x ∷ xs) (y ∷ ys) =
    let e : (x + y) % 2 ≡ (y + x) % 2 = omega arith in
    (λ i. e i ∷ plus_comm xs ys i)

plus_assoc : (xs ys zs : List ℕ) → plus (plus xs ys) zs ≡ plus xs (plus ys zs)
unfolding plus
plus_assoc [] ys zs = refl
plus_assoc (x ∷ xs) [] zs = refl
plus_assoc (x ∷ xs) (y ∷ ys) [] = refl
plus_assoc (x ∷ xs) (y ∷ ys) (z ∷ zs) =
    let e : ((x + y) % 2 + z) % 2 ≡ (x + (y + z) % 2) % 2 = omega arith in
    (λ i. e i ∷ plus_assoc xs ys zs i)

plus-zeros : (xs : List ℕ) (n : ℕ) → AreBits xs → length xs ≡ n → plus xs (zeros n) ≡ xs
unfolding plus zeros
plus-zeros [] n are e = refl
plus-zeros (x ∷ xs) zero are e = absurd (omega arith)
plus-zeros (x ∷ xs) (suc n) are e =
    let b = are.0 in
    let h : (x + 0) % 2 ≡ x = omega arith in
    let rest = plus-zeros xs n are.1 (omega arith) in
    (λ i. h i ∷ rest i)

plus-self : (xs : List ℕ) → plus xs xs ≡ zeros (length xs)
unfolding plus zeros
plus-self [] = refl
plus-self (x ∷ xs) =
    let h : (x + x) % 2 ≡ 0 = omega arith in
    (λ i. h i ∷ plus-self xs i)

plus-append : (a b c d : List ℕ) → length a ≡ length c → plus (a ++ b) (c ++ d) ≡ plus a c ++ plus b d
unfolding plus
plus-append [] b [] d e = refl
plus-append [] b (y ∷ c) d e = absurd (omega arith)
plus-append (x ∷ a) b [] d e = absurd (omega arith)
plus-append (x ∷ a) b (y ∷ c) d e = ap (λ (l : List ℕ). (x + y) % 2 ∷ l) (plus-append a b c d (omega arith))

length-plus : (xs ys : List ℕ) → length xs ≡ length ys → length (plus xs ys) ≡ length xs
unfolding plus
length-plus [] ys e = refl
length-plus (x ∷ xs) [] e = absurd (omega arith)
length-plus (x ∷ xs) (y ∷ ys) e = ap (λ (i : ℕ). suc i) (length-plus xs ys (omega arith))

are_bits-plus : (xs ys : List ℕ) → AreBits (plus xs ys)
unfolding plus
are_bits-plus [] ys = tt
are_bits-plus (x ∷ xs) [] = tt
are_bits-plus (x ∷ xs) (y ∷ ys) = (omega arith, are_bits-plus xs ys)

scaled-one : (xs : List ℕ) → scaled 1 xs ≡ xs
unfolding scaled
scaled-one [] = refl
scaled-one (x ∷ xs) =
    let h : 1 * x ≡ x = omega arith in
    (λ i. h i ∷ scaled-one xs i)

scaled-zero : (xs : List ℕ) → scaled 0 xs ≡ zeros (length xs)
unfolding scaled zeros
scaled-zero [] = refl
scaled-zero (x ∷ xs) =
    let h : 0 * x ≡ 0 = omega arith in
    (λ i. h i ∷ scaled-zero xs i)

-- ---- bits of remainders

low_bits-suc : (n x : ℕ) → low_bits (suc n) x ≡ x % 2 ∷ low_bits n (x / 2)
unfolding low_bits
low_bits-suc n x = refl

low_bits-more : (n x : ℕ) → x < 2 ^ n → low_bits (suc n) x ≡ low_bits n x ++ 0 ∷ []
unfolding low_bits
low_bits-more zero x lt = let h : x % 2 ≡ 0 = omega arith in ap (λ (k : ℕ). k ∷ []) h
low_bits-more (suc n) x lt =
    let e = pow-suc 2 n in
    ap (λ (l : List ℕ). x % 2 ∷ l) (low_bits-more n (x / 2) (omega arith))

low_bits-xor : (n a b : ℕ) → low_bits n (bit_xor a b) ≡ plus (low_bits n a) (low_bits n b)
unfolding low_bits plus
low_bits-xor zero a b = refl
low_bits-xor (suc n) a b =
    let low : bit_xor a b % 2 ≡ (a % 2 + b % 2) % 2 =
    xor_mod a b 1 ∙ bit_sum (a % 2) (b % 2) (omega arith) (omega arith) in
    let rest = ap (low_bits n) (xor_shr a b 1) ∙ low_bits-xor n (a / 2) (b / 2) in
    (λ i. low i ∷ rest i)

-- a step adds the generator where the bit that goes out is set
reduced_bits : (c h : ℕ) → c < 2 →
    low_bits 32 (reduced c h) ≡ plus (low_bits 32 h) (scaled c (low_bits 32 generator))
reduced_bits zero h lt =
    sym (ap (plus (low_bits 32 h)) (scaled-zero (low_bits 32 generator)
    ∙ ap zeros (length-low_bits 32 generator))
    ∙ plus-zeros (low_bits 32 h) 32 (are_bits-low 32 h) (length-low_bits 32 h))
reduced_bits (suc zero) h lt =
    low_bits-xor 32 h generator ∙ ap (plus (low_bits 32 h)) (sym (scaled-one (low_bits 32 generator)))
reduced_bits (suc (suc c)) h lt = absurd (omega arith)

-- ---- one step of the division

scaled-append : (c : ℕ) (xs ys : List ℕ) → scaled c (xs ++ ys) ≡ scaled c xs ++ scaled c ys
unfolding scaled
scaled-append c [] ys = refl
scaled-append c (x ∷ xs) ys = ap (λ (l : List ℕ). c * x ∷ l) (scaled-append c xs ys)

scaled-zeros : (c n : ℕ) → scaled c (zeros n) ≡ zeros n
unfolding scaled zeros
scaled-zeros c zero = refl
scaled-zeros c (suc n) =
    let h : c * 0 ≡ 0 = omega arith in
    (λ i. h i ∷ scaled-zeros c n i)

length-scaled : (c : ℕ) (xs : List ℕ) → length (scaled c xs) ≡ length xs
unfolding scaled
length-scaled c [] = refl
length-scaled c (x ∷ xs) = ap (λ (i : ℕ). suc i) (length-scaled c xs)

-- what is added twice is not there
twice : (s m a : List ℕ) → AreBits a → length s ≡ length a → plus s (plus m (plus a s)) ≡ plus m a
twice s m a are same =
    plus_comm s (plus m (plus a s)) ∙ plus_assoc m (plus a s) s
    ∙ ap (plus m) (plus_assoc a s s ∙ ap (plus a) (plus-self s ∙ ap zeros same) ∙ plus-zeros a (length a) are refl)

step : (c h n : ℕ) (m : List ℕ) → c < 2 →
    plus (scaled c (low_bits 32 generator ++ zeros n)) (plus m (low_bits 32 (reduced c h) ++ zeros n)) ≡
    plus m (low_bits 32 h ++ zeros n)
step c h n m lt =
    let g = low_bits 32 generator in
    let l = low_bits 32 h in
    let s = scaled c (g ++ zeros n) in
    let s_is : s ≡ scaled c g ++ zeros n =
    scaled-append c g (zeros n) ∙ ap (λ (x : List ℕ). scaled c g ++ x) (scaled-zeros c n) in
    let same : length l ≡ length (scaled c g) =
    length-low_bits 32 h ∙ sym (length-scaled c g ∙ length-low_bits 32 generator) in
    let none : plus (zeros n) (zeros n) ≡ zeros n = plus-zeros (zeros n) n (are_bits-zeros n) (length-zeros n) in
    let added : low_bits 32 (reduced c h) ++ zeros n ≡ plus (l ++ zeros n) s =
    ap (λ (x : List ℕ). x ++ zeros n) (reduced_bits c h lt)
    ∙ ap (λ (x : List ℕ). plus l (scaled c g) ++ x) (sym none)
    ∙ sym (plus-append l (zeros n) (scaled c g) (zeros n) same)
    ∙ ap (plus (l ++ zeros n)) (sym s_is) in
    let long : length s ≡ length (l ++ zeros n) =
    ap length s_is ∙ length-append (scaled c g) (zeros n)
    ∙ ap (λ (i : ℕ). i + length (zeros n)) (sym same) ∙ sym (length-append l (zeros n)) in
    ap (λ (x : List ℕ). plus s (plus m x)) added
    ∙ twice s m (l ++ zeros n) (are_bits-append l (zeros n) (are_bits-low 32 h) (are_bits-zeros n)) long

-- the bit that goes out of a remainder with one bit added, and what is left
goes_out : (r b : ℕ) → b < 2 → bit_xor r b % 2 ≡ (b + r % 2) % 2
goes_out r b lt =
    let low = xor_mod r b 1 ∙ bit_sum (r % 2) (b % 2) (omega arith) (omega arith) in
    omega arith

is_left : (r b : ℕ) → b < 2 → bit_xor r b / 2 ≡ r / 2
is_left r b lt =
    let none : b / 2 ≡ 0 = omega arith in
    xor_shr r b 1 ∙ ap (bit_xor (r / 2)) none ∙ xor_zero_r (r / 2)

quotient_of : ℕ → List ℕ → List ℕ
quotient_of r [] = []
quotient_of r (bit ∷ bits) = (bit + r % 2) % 2 ∷ quotient_of (times_x (bit_xor r bit)) bits

length-quotient_of : (r : ℕ) (bits : List ℕ) → length (quotient_of r bits) ≡ length bits
unfolding quotient_of
length-quotient_of r [] = refl
length-quotient_of r (bit ∷ bits) = ap (λ (i : ℕ). suc i) (length-quotient_of (times_x (bit_xor r bit)) bits)

-- the first bits of both sides, and what stands behind them
first_bit : (b r n : ℕ) (m : List ℕ) → r < 2 ^ 32 →
    plus (b ∷ m) (low_bits 32 r ++ zeros (suc n)) ≡ (b + r % 2) % 2 ∷ plus m (low_bits 32 (r / 2) ++ zeros n)
unfolding plus zeros
first_bit b r n m lt =
    let h = r / 2 in
    let moved : low_bits 31 h ++ 0 ∷ zeros n ≡ low_bits 32 h ++ zeros n =
    sym (append_assoc (low_bits 31 h) (0 ∷ []) (zeros n))
    ∙ ap (λ (l : List ℕ). l ++ zeros n) (sym (low_bits-more 31 h (omega arith))) in
    ap (λ (l : List ℕ). plus (b ∷ m) (l ++ 0 ∷ zeros n)) (low_bits-suc 31 r)
    ∙ ap (λ (l : List ℕ). (b + r % 2) % 2 ∷ plus m l) moved

first_product : (c n : ℕ) (q t : List ℕ) → c < 2 → length q ≡ n →
    plus (times_generator (c ∷ q)) (0 ∷ t) ≡
    c ∷ plus (scaled c (low_bits 32 generator ++ zeros n)) (plus (times_generator q) t)
unfolding plus times_generator scaled
first_product c n q t lt same =
    let g = low_bits 32 generator in
    let bit : ((c * 1 + 0) % 2 + 0) % 2 ≡ c = omega arith in
    (λ i. bit i ∷ plus_assoc (scaled c (g ++ zeros (length q))) (times_generator q) t i)
    ∙ ap (λ (k : ℕ). c ∷ plus (scaled c (g ++ zeros k)) (plus (times_generator q) t)) same

zeros-suc : (n : ℕ) → zeros (suc n) ≡ 0 ∷ zeros n
unfolding zeros
zeros-suc n = refl

no_product : times_generator [] ≡ zeros 32
unfolding times_generator
no_product = refl

no_zeros : zeros 0 ≡ []
unfolding zeros
no_zeros = refl

divided : (r : ℕ) (bits : List ℕ) → r < 2 ^ 32 → AreBits bits →
    plus (bits ++ zeros 32) (low_bits 32 r ++ zeros (length bits)) ≡
    plus (times_generator (quotient_of r bits)) (zeros (length bits) ++ low_bits 32 (after_bits r bits))
unfolding quotient_of
divided r [] lt are =
    ap (λ (l : List ℕ). plus (zeros 32) (low_bits 32 r ++ l)) no_zeros
    ∙ ap (plus (zeros 32)) (append-nil (low_bits 32 r))
    ∙ ap (λ (l : List ℕ). plus l (low_bits 32 r)) (sym no_product)
    ∙ ap (λ (l : List ℕ). plus (times_generator []) (l ++ low_bits 32 r)) (sym no_zeros)
divided r (b ∷ bits) lt are =
    let n = length bits in
    let c = (b + r % 2) % 2 in
    let small = are.0 in
    let x = bit_xor r b in
    let m = bits ++ zeros 32 in
    let below : x < 2 ^ 32 = xor_lt 32 r b lt (omega arith) in
    let next = times_x x in
    let next_is : next ≡ reduced c (r / 2) = (λ i. reduced (goes_out r b small i) (is_left r b small i)) in
    let q = quotient_of next bits in
    let rest = divided next bits (times_x-below x below) are.1 in
    first_bit b r n m lt
    ∙ ap (λ (l : List ℕ). c ∷ l) (
    sym (step c (r / 2) n m (omega arith))
    ∙ ap (λ (y : ℕ). plus (scaled c (low_bits 32 generator ++ zeros n)) (plus m (low_bits 32 y ++ zeros n)))
    (sym next_is)
    ∙ ap (plus (scaled c (low_bits 32 generator ++ zeros n))) rest
    )
    ∙ sym (first_product c n q (zeros n ++ low_bits 32 (after_bits next bits)) (omega arith)
    (length-quotient_of next bits))
    ∙ ap (λ (l : List ℕ). plus (times_generator (c ∷ q)) (l ++ low_bits 32 (after_bits next bits))) (sym (zeros-suc n))

ones_are : low_bits 32 all_ones ≡ ones 32
unfolding low_bits ones
ones_are = refl

complement_twice : (r : ℕ) → r < 2 ^ 32 → complement (complement r) ≡ r
complement_twice r lt = omega arith

pub checksum_divided : (bytes : List ℕ) → IsBytes bytes →
    (quotient : List ℕ) × IsDivided (bits_of bytes) quotient (low_bits 32 (complement (checksum_of bytes)))
checksum_divided bytes fits =
    let bits = bits_of bytes in
    let r = after_bits all_ones bits in
    let below = after_bits-below all_ones bits (omega arith) (are_bits-of bytes) in
    let back : r ≡ complement (checksum_of bytes) =
    sym (ap (λ (n : ℕ). complement (complement n)) (bytes_read all_ones bytes fits) ∙ complement_twice r below) in (
      quotient_of all_ones bits,
      record {
        same_length = length-quotient_of all_ones bits;
        short = length-low_bits 32 (complement (checksum_of bytes));
        sum = ap (λ (l : List ℕ). plus (bits ++ zeros 32) (l ++ zeros (length bits))) (sym ones_are)
            ∙ divided all_ones bits (omega arith) (are_bits-of bytes)
            ∙ ap (λ (n : ℕ). plus (times_generator (quotient_of all_ones bits)) (zeros (length bits) ++ low_bits 32 n))
            back;
      },
    )
