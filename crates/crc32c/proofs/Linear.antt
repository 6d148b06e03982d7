-- Multiplying by x keeps sums, and moves a multiple of 2^k down by k bits.
use Rattle.std.proofs.Common.{◌≡◌, ℕ, zero, suc, ◌+◌, ◌*◌, ◌/◌, ◌%◌, ◌^◌, ◌<◌, ◌≤◌, List, [], ◌∷◌, ◌++◌, length, get_or, take, drop, refl, sym, ◌∙◌, ap, arith, zero-add}
use Rattle.std.specs.Prelude.{bit_xor}
use Rattle.std.proofs.Math.Nat.{mul-one, pow-suc, mul_assoc, zero-mul}
use Rattle.std.proofs.lemmas.Nat.{xor_comm, xor_shr, xor_mod, xor_block, shr_split, mod_below, pow_pos}
use Rattle.std.specs.Int.{w64, from_le_bytes}
use lib.Bits.{xor_assoc, xor_zero_r, xor_self}
use Rattle.crc32c.specs.Remainders.{generator, reduced, times_x, times_x_to, after_bytes}

-- what is read behind other bytes
pub after_bytes-append : (r : ℕ) (xs ys : List ℕ) → after_bytes r (xs ++ ys) ≡ after_bytes (after_bytes r xs) ys
after_bytes-append r [] ys = refl
after_bytes-append r (x ∷ xs) ys = after_bytes-append (times_x_to 8 (bit_xor r x)) xs ys

-- the middle two change places
pub xor_swap : (a b c d : ℕ) → bit_xor (bit_xor a b) (bit_xor c d) ≡ bit_xor (bit_xor a c) (bit_xor b d)
xor_swap a b c d =
    xor_assoc a b (bit_xor c d)
    ∙ ap (λ n. bit_xor a n) (sym (xor_assoc b c d) ∙ ap (λ n. bit_xor n d) (xor_comm b c) ∙ xor_assoc c b d)
    ∙ sym (xor_assoc a c (bit_xor b d))

reduced_xor : (c d g h : ℕ) → c < 2 → d < 2 → reduced (bit_xor c d) (bit_xor g h) ≡ bit_xor (reduced c g) (reduced d h)
reduced_xor zero zero g h p q = refl
reduced_xor zero (suc zero) g h p q = xor_assoc g h generator
reduced_xor (suc zero) zero g h p q = xor_assoc g h generator ∙ ap (λ n. bit_xor g n) (xor_comm h generator)
    ∙ sym (xor_assoc g generator h)
reduced_xor (suc zero) (suc zero) g h p q =
    sym (xor_swap g generator h generator ∙ ap (λ n. bit_xor (bit_xor g h) n) (xor_self generator)
    ∙ xor_zero_r (bit_xor g h))
reduced_xor (suc (suc c)) d g h p q = absurd (omega arith)
reduced_xor zero (suc (suc d)) g h p q = absurd (omega arith)
reduced_xor (suc zero) (suc (suc d)) g h p q = absurd (omega arith)

pub times_x-xor : (a b : ℕ) → times_x (bit_xor a b) ≡ bit_xor (times_x a) (times_x b)
times_x-xor a b =
    ap (λ n. reduced n (bit_xor a b / 2)) (xor_mod a b 1)
    ∙ ap (λ n. reduced (bit_xor (a % 2) (b % 2)) n) (xor_shr a b 1)
    ∙ reduced_xor (a % 2) (b % 2) (a / 2) (b / 2) (omega arith) (omega arith)

pub times_x_to-xor : (n a b : ℕ) → times_x_to n (bit_xor a b) ≡ bit_xor (times_x_to n a) (times_x_to n b)
unfolding times_x_to
times_x_to-xor zero a b = refl
times_x_to-xor (suc n) a b = ap (times_x_to n) (times_x-xor a b) ∙ times_x_to-xor n (times_x a) (times_x b)

pub times_x-even : (m : ℕ) → times_x (m * 2) ≡ m
times_x-even m =
    let even : (m * 2) % 2 ≡ 0 = omega arith in
    let half : (m * 2) / 2 ≡ m = omega arith in
    ap (λ n. reduced n (m * 2 / 2)) even ∙ half

pub times_x_to-shifted : (k m : ℕ) → times_x_to k (m * 2 ^ k) ≡ m
unfolding times_x_to
times_x_to-shifted zero m = mul-one m
times_x_to-shifted (suc k) m =
    let doubled : m * 2 ^ suc k ≡ m * 2 ^ k * 2 = ap (λ n. m * n) (pow-suc 2 k) ∙ sym (mul_assoc m (2 ^ k) 2) in
    ap (λ n. times_x_to k (times_x n)) doubled ∙ ap (times_x_to k) (times_x-even (m * 2 ^ k)) ∙ times_x_to-shifted k m

pub times_x_to-add : (m n r : ℕ) → times_x_to (m + n) r ≡ times_x_to n (times_x_to m r)
unfolding times_x_to
times_x_to-add zero n r = let none : zero + n ≡ n = omega arith in ap (λ k. times_x_to k r) none
times_x_to-add (suc m) n r =
    let more : suc m + n ≡ suc (m + n) = omega arith in
    ap (λ k. times_x_to k r) more ∙ times_x_to-add m n (times_x r)

-- a number is its lowest k bits and those above
pub parted : (x k : ℕ) → x ≡ bit_xor (x % 2 ^ k) (x / 2 ^ k * 2 ^ k)
parted x k =
    let low : bit_xor (0 * 2 ^ k + x % 2 ^ k) (x / 2 ^ k * 2 ^ k + 0) ≡ bit_xor 0 (x / 2 ^ k) * 2 ^ k + bit_xor
    (x % 2 ^ k) 0
    = xor_block k 0 (x / 2 ^ k) (x % 2 ^ k) 0 (mod_below x (2 ^ k) (pow_pos k)) (pow_pos k) in
    let zero_times : 0 * 2 ^ k + x % 2 ^ k ≡ x % 2 ^ k = ap (λ n. n + x % 2 ^ k) (zero-mul (2 ^ k))
    ∙ zero-add (x % 2 ^ k) in
    let none : x / 2 ^ k * 2 ^ k + 0 ≡ x / 2 ^ k * 2 ^ k = omega arith in
    sym (shr_split x k) ∙ ap (λ n. x / 2 ^ k * 2 ^ k + n) (sym (xor_zero_r (x % 2 ^ k))) ∙ sym low
    ∙ ap (λ n. bit_xor n (x / 2 ^ k * 2 ^ k + 0)) zero_times ∙ ap (λ n. bit_xor (x % 2 ^ k) n) none

-- the lowest byte goes n + 8 powers up, and the others, moved down by a byte, n
pub lowest_byte : (n x : ℕ) → times_x_to (8 + n) x ≡ bit_xor (times_x_to (8 + n) (x % 256)) (times_x_to n (x / 256))
lowest_byte n x =
    ap (times_x_to (8 + n)) (parted x 8)
    ∙ times_x_to-xor (8 + n) (x % 256) (x / 256 * 256)
    ∙ ap (bit_xor (times_x_to (8 + n) (x % 256))) (times_x_to-add 8 n (x / 256 * 256)
    ∙ ap (times_x_to n) (times_x_to-shifted 8 (x / 256)))

with_lowest : (n x p q : ℕ) → p ≡ times_x_to (8 + n) (x % 256) → q ≡ times_x_to n (x / 256) →
    bit_xor p q ≡ times_x_to (8 + n) x
with_lowest n x p q low high = ap (λ m. bit_xor m q) low ∙ ap (bit_xor (times_x_to (8 + n) (x % 256))) high
    ∙ sym (lowest_byte n x)

-- one byte more
pub byte_more : (x p : ℕ) → p ≡ times_x_to 8 (x % 256) → bit_xor p (x / 256) ≡ times_x_to 8 x
unfolding times_x_to
byte_more x p low = with_lowest 0 x p (x / 256) low refl

-- a word more, by its eight bytes
pub word_more : (x a b c d e f g h : ℕ) → x < 2 ^ 64
    → a ≡ times_x_to 64 (x % 256)
    → b ≡ times_x_to 56 (x / 256 % 256)
    → c ≡ times_x_to 48 (x / 256 / 256 % 256)
    → d ≡ times_x_to 40 (x / 256 / 256 / 256 % 256)
    → e ≡ times_x_to 32 (x / 256 / 256 / 256 / 256 % 256)
    → f ≡ times_x_to 24 (x / 256 / 256 / 256 / 256 / 256 % 256)
    → g ≡ times_x_to 16 (x / 256 / 256 / 256 / 256 / 256 / 256 % 256)
    → h ≡ times_x_to 8 (x / 256 / 256 / 256 / 256 / 256 / 256 / 256)
    → bit_xor a (bit_xor b (bit_xor c (bit_xor d (bit_xor e (bit_xor f (bit_xor g h)))))) ≡ times_x_to 64 x
word_more x a b c d e f g h lt pa pb pc pd pe pf pg ph =
    let y1 = x / 256 in
    let y2 = y1 / 256 in
    let y3 = y2 / 256 in
    let y4 = y3 / 256 in
    let y5 = y4 / 256 in
    let y6 = y5 / 256 in
    with_lowest 56 x a _ pa
    (with_lowest 48 y1 b _ pb
    (with_lowest 40 y2 c _ pc
    (with_lowest 32 y3 d _ pd
    (with_lowest 24 y4 e _ pe
    (with_lowest 16 y5 f _ pf
    (with_lowest 8 y6 g h pg ph))))))

-- a byte below a multiple of 256
byte_below : (b m : ℕ) → b < 256 → b + m * 256 ≡ bit_xor b (m * 256)
byte_below b m lt =
    let split = parted (b + m * 256) 8 in
    let low : (b + m * 256) % 2 ^ 8 ≡ b = omega arith in
    let high : (b + m * 256) / 2 ^ 8 ≡ m = omega arith in
    split ∙ ap (λ n. bit_xor n ((b + m * 256) / 2 ^ 8 * 2 ^ 8)) low ∙ ap (λ n. bit_xor b (n * 2 ^ 8)) high

-- a byte and what comes behind it, at once
two_more : (n r b m : ℕ) → b < 256 →
    times_x_to n (bit_xor (times_x_to 8 (bit_xor r b)) m) ≡ times_x_to (8 + n) (bit_xor r (b + m * 256))
two_more n r b m lt =
    let whole : bit_xor r (b + m * 256) ≡ bit_xor (bit_xor r b) (m * 256) = ap (bit_xor r) (byte_below b m lt)
    ∙ sym (xor_assoc r b (m * 256)) in
    sym (
    ap (times_x_to (8 + n)) whole
    ∙ times_x_to-add 8 n (bit_xor (bit_xor r b) (m * 256))
    ∙ ap (times_x_to n) (times_x_to-xor 8 (bit_xor r b) (m * 256)
    ∙ ap (bit_xor (times_x_to 8 (bit_xor r b))) (times_x_to-shifted 8 m))
    )

eight_more : (r a b c d e f g h : ℕ) (rest : List ℕ) → a < 256 → b < 256 → c < 256 → d < 256 → e < 256 → f < 256 →
    g < 256
    → after_bytes r (a ∷ b ∷ c ∷ d ∷ e ∷ f ∷ g ∷ h ∷ rest) ≡ after_bytes
    (times_x_to 64 (bit_xor r (a + (b + (c + (d + (e + (f + (g + h * 256) * 256) * 256) * 256) * 256) * 256) *
    256))) rest
eight_more r a b c d e f g h rest la lb lc ld le lf lg =
    let r1 = times_x_to 8 (bit_xor r a) in
    let r2 = times_x_to 8 (bit_xor r1 b) in
    let r3 = times_x_to 8 (bit_xor r2 c) in
    let r4 = times_x_to 8 (bit_xor r3 d) in
    let r5 = times_x_to 8 (bit_xor r4 e) in
    let r6 = times_x_to 8 (bit_xor r5 f) in
    ap (λ n. after_bytes n rest) (
    two_more 8 r6 g _ lg
    ∙ two_more 16 r5 f _ lf
    ∙ two_more 24 r4 e _ le
    ∙ two_more 32 r3 d _ ld
    ∙ two_more 40 r2 c _ lc
    ∙ two_more 48 r1 b _ lb
    ∙ two_more 56 r a _ la
    )

-- where the list begins with eight bytes, they are read as one number
pub word_read : (r w : ℕ) (rest : List ℕ) → 8 ≤ length rest → ((i : ℕ) → get_or rest i 0 < 256) →
    w ≡ from_le_bytes w64 (take 8 rest)
    → after_bytes (times_x_to 64 (bit_xor r w)) (drop 8 rest) ≡ after_bytes r rest
word_read r w (a ∷ b ∷ c ∷ d ∷ e ∷ f ∷ g ∷ h ∷ rest) long fits is =
    let horner : w ≡ a + (b + (c + (d + (e + (f + (g + h * 256) * 256) * 256) * 256) * 256) * 256) * 256 =
    omega (arith, is) in
    ap (λ n. after_bytes (times_x_to 64 (bit_xor r n)) rest) horner
    ∙ sym (eight_more r a b c d e f g h rest (fits 0) (fits 1) (fits 2) (fits 3) (fits 4) (fits 5) (fits 6))
word_read r w [] long fits is = absurd (omega arith)
word_read r w (a ∷ []) long fits is = absurd (omega arith)
word_read r w (a ∷ b ∷ []) long fits is = absurd (omega arith)
word_read r w (a ∷ b ∷ c ∷ []) long fits is = absurd (omega arith)
word_read r w (a ∷ b ∷ c ∷ d ∷ []) long fits is = absurd (omega arith)
word_read r w (a ∷ b ∷ c ∷ d ∷ e ∷ []) long fits is = absurd (omega arith)
word_read r w (a ∷ b ∷ c ∷ d ∷ e ∷ f ∷ []) long fits is = absurd (omega arith)
word_read r w (a ∷ b ∷ c ∷ d ∷ e ∷ f ∷ g ∷ []) long fits is = absurd (omega arith)
