-- Eight digits, one a byte of a word, the first in the lowest: the test that each byte is one, and the number that they
-- write.
use Rattle.std.proofs.Common.{◌≡◌, ℕ, ◌+◌, ◌*◌, ◌/◌, ◌%◌, ◌^◌, ◌<◌, true, List, [], ◌∷◌, length, take, drop, get_or}
use Rattle.std.proofs.Common.{refl, sym, ◌∙◌, ap, arith, bit_and, bit_or, Fits, w8, length-take, get_or-take}
use Rattle.std.proofs.lemmas.Bool.Decides.{nat_tests}
use Rattle.std.proofs.lemmas.Nat.{and_mod, or_mod, and_shr, or_shr, and_block, and_mask, shr-shr, le_or_l, le_or_r}
use Rattle.std.proofs.lemmas.Nat.Bits.{and_high}
use Rattle.std.proofs.lemmas.List.{take-append-drop}
use Rattle.std.specs.Int.{w64, to_le_bytes, from_le_bytes}
use Rattle.std.specs.Int.Digits.{AllBelowBase, number_from_digits}
use Rattle.std.specs.List.{list_all}
use Rattle.std.specs.Char.{is_ascii_digit, digit_value}
use Rattle.std.specs.Str.Parse.{digits_value}
use Rattle.mm_text.specs.Plain.{BeginsWithEight}
use Rattle.mm_text.proofs.NumberLemmas.{digit_is}

low_half : (u : ℕ) → u < 256 → bit_and u 240 ≡ 0 → u < 16
low_half u h e = let a : (u / 16 % 16) * 16 ≡ 0 = sym (and_high u 4 4) ∙ e in omega arith

-- the test on the lowest byte of two words, and on what is above it
test_step : (x t m : ℕ) → bit_and (bit_or x t) (m * 256 + 240) ≡ 0 → (x % 256 < 16) × (t % 256 < 16) ×
    (bit_and (bit_or (x / 256) (t / 256)) m ≡ 0)
test_step x t m h =
    let low : (m * 256 + 240) % 256 ≡ 240 = omega arith in
    let high : (m * 256 + 240) / 256 ≡ m = omega arith in
    let a : bit_and (bit_or x t % 256) ((m * 256 + 240) % 256) ≡ 0 = sym (and_mod (bit_or x t) (m * 256 + 240) 8)
    ∙ ap (λ n. n % 256) h in
    let b : bit_and (bit_or x t % 256) 240 ≡ 0 = ap (λ n. bit_and (bit_or x t % 256) n) (sym low) ∙ a in
    let u : bit_or x t % 256 < 16 = low_half (bit_or x t % 256) (omega arith) b in
    let o : bit_or x t % 256 ≡ bit_or (x % 256) (t % 256) = or_mod x t 8 in
    let l = le_or_l (x % 256) (t % 256) in
    let r = le_or_r (x % 256) (t % 256) in
    let c : bit_and (bit_or x t / 256) ((m * 256 + 240) / 256) ≡ 0 = sym (and_shr (bit_or x t) (m * 256 + 240) 8)
    ∙ ap (λ n. n / 256) h in
    let p : bit_or x t / 256 ≡ bit_or (x / 256) (t / 256) = or_shr x t 8 in
    (omega arith, omega arith, cc)

byte_step : (x t r m : ℕ) → t ≡ x + (r * 256 + 6) → bit_and (bit_or x t) (m * 256 + 240) ≡ 0 →
    (x % 256 < 10) × (t / 256 ≡ x / 256 + r) × (bit_and (bit_or (x / 256) (t / 256)) m ≡ 0)
byte_step x t r m e h = let s = test_step x t m h in (omega arith, omega arith, s.2)

-- the same at a byte further up
step_at : (x t r m j : ℕ) → t / 2 ^ j ≡ x / 2 ^ j + (r * 256 + 6) →
    bit_and (bit_or (x / 2 ^ j) (t / 2 ^ j)) (m * 256 + 240) ≡ 0 →
    (x / 2 ^ j % 256 < 10) × (t / 2 ^ (j + 8) ≡ x / 2 ^ (j + 8) + r) ×
    (bit_and (bit_or (x / 2 ^ (j + 8)) (t / 2 ^ (j + 8))) m ≡ 0)
step_at x t r m j e h =
    let s = byte_step (x / 2 ^ j) (t / 2 ^ j) r m e h in
    let a : x / 2 ^ j / 256 ≡ x / 2 ^ (j + 8) = shr-shr x j 8 in
    let b : t / 2 ^ j / 256 ≡ t / 2 ^ (j + 8) = shr-shr t j 8 in
    (s.0, cc (s.1, a, b), cc (s.2, a, b))

no_wrap : (x t : ℕ) → x < 2 ^ 64 → bit_and (bit_or x t) 17361641481138401520 ≡ 0 → x + 434041037028460038 < 2 ^ 64
no_wrap x t l h =
    let a : bit_and (bit_or x t / 2 ^ 56) 240 ≡ 0 = sym (and_shr (bit_or x t) 17361641481138401520 56)
    ∙ ap (λ n. n / 2 ^ 56) h in
    let p : bit_or x t / 2 ^ 56 ≡ bit_or (x / 2 ^ 56) (t / 2 ^ 56) = or_shr x t 56 in
    let b : bit_and (bit_or (x / 2 ^ 56) (t / 2 ^ 56)) (0 * 256 + 240) ≡ 0 = ap (λ n. bit_and n 240) (sym p) ∙ a in
    let s = test_step (x / 2 ^ 56) (t / 2 ^ 56) 0 b in
    let top = s.0 in
    omega arith

-- the test, where 6 was added to each byte: each is below 10
pub digits_below : (x : ℕ) → x < 2 ^ 64 → bit_and (bit_or x ((x + 434041037028460038) % 2 ^ 64))
    17361641481138401520 ≡ 0 → AllBelowBase 10 (to_le_bytes w64 x)
digits_below x l h =
    let fits = no_wrap x ((x + 434041037028460038) % 2 ^ 64) l h in
    let e : (x + 434041037028460038) % 2 ^ 64 ≡ x + 434041037028460038 = omega arith in
    eight_below x ((x + 434041037028460038) % 2 ^ 64) e h
  where
    eight_below : (x t : ℕ) → t ≡ x + 434041037028460038 → bit_and (bit_or x t) 17361641481138401520 ≡ 0 →
        AllBelowBase 10 (to_le_bytes w64 x)
    eight_below x t e h =
        let a = byte_step x t 0x06060606060606 0xf0f0f0f0f0f0f0 e h in
        let b = step_at x t 0x060606060606 0xf0f0f0f0f0f0 8 a.1 a.2 in
        let c = step_at x t 0x0606060606 0xf0f0f0f0f0 16 b.1 b.2 in
        let d = step_at x t 0x06060606 0xf0f0f0f0 24 c.1 c.2 in
        let f = step_at x t 0x060606 0xf0f0f0 32 d.1 d.2 in
        let g = step_at x t 0x0606 0xf0f0 40 f.1 f.2 in
        let i = step_at x t 0x06 0xf0 48 g.1 g.2 in
        let j = step_at x t 0 0 56 i.1 i.2 in
        (a.0, (b.0, (c.0, (d.0, (f.0, (g.0, (i.0, (j.0, tt))))))))

-- a word by its bytes, the lowest first
abbrev pub joined : ℕ → ℕ → ℕ → ℕ → ℕ → ℕ → ℕ → ℕ → ℕ
joined a b c d e f g h = a + 256 * (b + 256 * (c + 256 * (d + 256 * (e + 256 * (f + 256 * (g + 256 * h))))))

up : (x j : ℕ) → x / 2 ^ j ≡ x / 2 ^ j % 256 + 256 * (x / 2 ^ (j + 8))
up x j = let e : x / 2 ^ j / 256 ≡ x / 2 ^ (j + 8) = shr-shr x j 8 in omega arith

chain : (p q r s t u v w a b c d e f g h : ℕ) → p ≡ a + 256 * q → q ≡ b + 256 * r → r ≡ c + 256 * s → s ≡ d + 256 * t →
    t ≡ e + 256 * u → u ≡ f + 256 * v → v ≡ g + 256 * w → w ≡ h → p ≡ joined a b c d e f g h
chain p q r s t u v w a b c d e f g h i j k l m n o y = omega arith

unpacked : (x : ℕ) → x < 2 ^ 64 → x ≡ joined (x % 256) (x / 256 % 256) (x / 65536 % 256) (x / 16777216 % 256)
    (x / 4294967296 % 256)
    (x / 1099511627776 % 256) (x / 281474976710656 % 256) (x / 72057594037927936 % 256)
unpacked x l =
    chain x (x / 256) (x / 65536) (x / 16777216) (x / 4294967296) (x / 1099511627776) (x / 281474976710656)
    (x / 72057594037927936) _ _ _ _ _ _ _ _
    (omega arith) (up x 8) (up x 16) (up x 24) (up x 32) (up x 40) (up x 48) (omega arith)

-- the lower of each two lanes
low8 : (y m o e : ℕ) → e < 256 → o < 256 → bit_and (y * 65536 + (o * 256 + e)) (m * 65536 + 255) ≡ bit_and y
    m * 65536 + e
low8 y m o e h k =
    let low : (o * 256 + e) % 256 ≡ e = omega arith in
    let l : o * 256 + e < 65536 = omega arith in
    let n : 255 < 65536 = omega arith in
    and_block 16 y m (o * 256 + e) 255 l n ∙ ap (λ v. bit_and y m * 65536 + v) (and_mask (o * 256 + e) 8 ∙ low)

low16 : (y m o e : ℕ) → e < 65536 → o < 65536 →
    bit_and (y * 4294967296 + (o * 65536 + e)) (m * 4294967296 + 65535) ≡ bit_and y m * 4294967296 + e
low16 y m o e h k =
    let low : (o * 65536 + e) % 65536 ≡ e = omega arith in
    let l : o * 65536 + e < 4294967296 = omega arith in
    let n : 65535 < 4294967296 = omega arith in
    and_block 32 y m (o * 65536 + e) 65535 l n ∙ ap (λ v. bit_and y m * 4294967296 + v) (and_mask (o * 65536 + e) 16
    ∙ low)

-- four pairs of lanes, and two
evens8 : (o e p f q g r h : ℕ) → o < 256 → e < 256 → p < 256 → f < 256 → q < 256 → g < 256 → r < 256 → h < 256 →
    bit_and ((((r * 256 + h) * 65536 + (q * 256 + g)) * 65536 + (p * 256 + f)) * 65536 + (o * 256 + e))
    71777214294589695
    ≡ ((h * 65536 + g) * 65536 + f) * 65536 + e
evens8 o e p f q g r h bo be bp bf bq bg br bh =
    low8 (((r * 256 + h) * 65536 + (q * 256 + g)) * 65536 + (p * 256 + f)) 0xff00ff00ff o e be bo
    ∙ ap (λ v. v * 65536 + e) (low8 ((r * 256 + h) * 65536 + (q * 256 + g)) 0xff00ff p f bf bp
    ∙ ap (λ v. v * 65536 + f) (low8 (r * 256 + h) 0xff q g bg bq
    ∙ ap (λ v. v * 65536 + g) (let low : (r * 256 + h) % 256 ≡ h = omega arith in and_mask (r * 256 + h) 8 ∙ low)))

evens16 : (o e p f : ℕ) → o < 65536 → e < 65536 → p < 65536 → f < 65536 →
    bit_and ((p * 65536 + f) * 4294967296 + (o * 65536 + e)) 281470681808895 ≡ f * 4294967296 + e
evens16 o e p f bo be bp bf = low16 (p * 65536 + f) 65535 o e be bo ∙ ap (λ v. v * 4294967296 + e)
    (let low : (p * 65536 + f) % 65536 ≡ f = omega arith in and_mask (p * 65536 + f) 16 ∙ low)

-- digits to pairs, pairs to fours, and the two fours
pairs_of : (x a b c d e f g h : ℕ) → x ≡ joined a b c d e f g h → a < 10 → b < 10 → c < 10 → d < 10 → e < 10 → f < 10 →
    g < 10 → h < 10 →
    bit_and (x * 10 + x / 256) 71777214294589695 ≡ (((g * 10 + h) * 65536 + (e * 10 + f)) * 65536
    + (c * 10 + d)) * 65536 + (a * 10 + b)
pairs_of x a b c d e f g h w i j k l m n o p =
    let q : x / 256 ≡ b + 256 * (c + 256 * (d + 256 * (e + 256 * (f + 256 * (g + 256 * h))))) = omega arith in
    let s : x * 10 + x / 256 ≡ (((h * 10 * 256 + (g * 10 + h)) * 65536 + ((f * 10 + g) * 256 + (e * 10 + f))) * 65536
    + ((d * 10 + e) * 256 + (c * 10 + d))) * 65536 + ((b * 10 + c) * 256 + (a * 10 + b)) = omega arith in
    ap (λ v. bit_and v 71777214294589695) s
    ∙ evens8 (b * 10 + c) (a * 10 + b) (d * 10 + e) (c * 10 + d) (f * 10 + g) (e * 10 + f) (h * 10) (g * 10 + h)
    (omega arith) (omega arith) (omega arith) (omega arith) (omega arith) (omega arith) (omega arith) (omega arith)

fours_of : (p a b c d : ℕ) → p ≡ ((d * 65536 + c) * 65536 + b) * 65536 + a → a < 100 → b < 100 → c < 100 → d < 100 →
    bit_and (p * 100 + p / 65536) 281470681808895 ≡ (c * 100 + d) * 4294967296 + (a * 100 + b)
fours_of p a b c d w i j k l =
    let q : p / 65536 ≡ (d * 65536 + c) * 65536 + b = omega arith in
    let s : p * 100 + p / 65536 ≡ (d * 100 * 65536 + (c * 100 + d)) * 4294967296
    + ((b * 100 + c) * 65536 + (a * 100 + b)) = omega arith in
    ap (λ v. bit_and v 281470681808895) s ∙ evens16 (b * 100 + c) (a * 100 + b) (d * 100) (c * 100 + d) (omega arith)
    (omega arith) (omega arith) (omega arith)

whole_of : (p a b : ℕ) → p ≡ b * 4294967296 + a → a < 10000 → b < 10000 →
    bit_and (p * 10000 + p / 4294967296) 4294967295 ≡ a * 10000 + b
whole_of p a b w i j =
    let q : p / 4294967296 ≡ b = omega arith in
    let s : (p * 10000 + p / 4294967296) % 4294967296 ≡ a * 10000 + b = omega arith in
    and_mask (p * 10000 + p / 4294967296) 32 ∙ s

value_of : (x a b c d e f g h : ℕ) → x ≡ joined a b c d e f g h → a < 10 → b < 10 → c < 10 → d < 10 → e < 10 → f < 10 →
    g < 10 → h < 10 → (p q : ℕ) →
    p ≡ bit_and (x * 10 + x / 256) 71777214294589695 → q ≡ bit_and (p * 100 + p / 65536) 281470681808895 →
    bit_and (q * 10000 + q / 4294967296) 4294967295
    ≡ (((((((0 + a) * 10 + b) * 10 + c) * 10 + d) * 10 + e) * 10 + f) * 10 + g) * 10 + h
value_of x a b c d e f g h w ba bb bc bd be bf bg bh p q pe qe =
    let pair = pe ∙ pairs_of x a b c d e f g h w ba bb bc bd be bf bg bh in
    let four = qe ∙ fours_of p (a * 10 + b) (c * 10 + d) (e * 10 + f) (g * 10 + h) pair (omega arith) (omega arith)
    (omega arith) (omega arith) in
    let sum : ((a * 10 + b) * 100 + (c * 10 + d)) * 10000 + ((e * 10 + f) * 100 + (g * 10 + h))
    ≡ (((((((0 + a) * 10 + b) * 10 + c) * 10 + d) * 10 + e) * 10 + f) * 10 + g) * 10 + h = omega arith in
    whole_of q ((a * 10 + b) * 100 + (c * 10 + d)) ((e * 10 + f) * 100 + (g * 10 + h)) four (omega arith) (omega arith)
    ∙ sum

pub eight_value_is : (x : ℕ) → x < 2 ^ 64 → AllBelowBase 10 (to_le_bytes w64 x) → (p q : ℕ) →
    p ≡ bit_and (x * 10 + x / 256) 71777214294589695 → q ≡ bit_and (p * 100 + p / 65536) 281470681808895 →
    bit_and (q * 10000 + q / 4294967296) 4294967295 ≡ number_from_digits 10 (to_le_bytes w64 x)
eight_value_is x l b p q pe qe =
    value_of x _ _ _ _ _ _ _ _ (unpacked x l) b.0 b.1.0 b.1.1.0 b.1.1.1.0 b.1.1.1.1.0 b.1.1.1.1.1.0 b.1.1.1.1.1.1.0
    b.1.1.1.1.1.1.1.0 p q pe qe

-- 48 more in each byte: the bytes are those of the text
same_step : (a y b z : ℕ) → a < 256 → b < 256 → a + 256 * y ≡ b + 256 * z → (a ≡ b) × (y ≡ z)
same_step a y b z h k e = (omega arith, omega arith)

same_bytes : (a b c d e f g h i j k l m n o p : ℕ) → a < 256 → b < 256 → c < 256 → d < 256 → e < 256 → f < 256 →
    g < 256 → h < 256 →
    i < 256 → j < 256 → k < 256 → l < 256 → m < 256 → n < 256 → o < 256 → p < 256 →
    joined a b c d e f g h ≡ joined i j k l m n o p →
    (a ≡ i) × (b ≡ j) × (c ≡ k) × (d ≡ l) × (e ≡ m) × (f ≡ n) × (g ≡ o) × (h ≡ p)
same_bytes a b c d e f g h i j k l m n o p ha hb hc hd he hf hg hh hi hj hk hl hm hn ho hp s =
    let s0 = same_step a _ i _ ha hi s in
    let s1 = same_step b _ j _ hb hj s0.1 in
    let s2 = same_step c _ k _ hc hk s1.1 in
    let s3 = same_step d _ l _ hd hl s2.1 in
    let s4 = same_step e _ m _ he hm s3.1 in
    let s5 = same_step f _ n _ hf hn s4.1 in
    let s6 = same_step g h o p hg ho s5.1 in
    (s0.0, s1.0, s2.0, s3.0, s4.0, s5.0, s6.0, s6.1)

digit_byte : (b d : ℕ) → d + 48 ≡ b → d < 10 → (is_ascii_digit b ≡ true) × (digit_value b ≡ d)
digit_byte b d e h =
    let i : is_ascii_digit b ≡ true = grind (arith, nat_tests) in
    let v = (digit_is b i).2 in
    (i, omega arith)

module _ (a b c d e f g h : ℕ) (ha : a < 256) (hb : b < 256) (hc : c < 256) (hd : d < 256) (he : e < 256)
    (hf : f < 256) (hg : g < 256) (hh : h < 256)
    (x : ℕ) (is : x ≡ (joined a b c d e f g h + 14974415777481871312) % 2 ^ 64)
    (below : AllBelowBase 10 (to_le_bytes w64 x)) where
  apart : (i j k l m n o p : ℕ) → x ≡ joined i j k l m n o p → i < 10 → j < 10 → k < 10 → l < 10 → m < 10 → n < 10 →
      o < 10 → p < 10 →
      (i + 48 ≡ a) × (j + 48 ≡ b) × (k + 48 ≡ c) × (l + 48 ≡ d) × (m + 48 ≡ e) × (n + 48 ≡ f) × (o + 48 ≡ g) ×
      (p + 48 ≡ h)
  apart i j k l m n o p s hi hj hk hl hm hn ho hp =
      let w : joined a b c d e f g h < 2 ^ 64 = omega arith in
      let y : x + 3472328296227680304 < 2 ^ 64 = omega arith in
      let z : x + 3472328296227680304 ≡ joined a b c d e f g h = omega arith in
      let t : joined (i + 48) (j + 48) (k + 48) (l + 48) (m + 48) (n + 48) (o + 48) (p + 48) ≡ joined a b c d e f g h =
      omega arith in
      same_bytes (i + 48) (j + 48) (k + 48) (l + 48) (m + 48) (n + 48) (o + 48) (p + 48) a b c d e f g h
      (omega arith) (omega arith) (omega arith) (omega arith) (omega arith) (omega arith) (omega arith) (omega arith)
      ha hb hc hd he hf hg hh t

  small : x < 2 ^ 64
  small = omega arith

  parts : (x % 256 + 48 ≡ a) × (x / 256 % 256 + 48 ≡ b) × (x / 65536 % 256 + 48 ≡ c) × (x / 16777216 % 256 + 48 ≡ d)
      × (x / 4294967296 % 256 + 48 ≡ e) × (x / 1099511627776 % 256 + 48 ≡ f) × (x / 281474976710656 % 256 + 48 ≡ g) ×
      (x / 72057594037927936 % 256 + 48 ≡ h)
  parts =
      apart _ _ _ _ _ _ _ _ (unpacked x small) below.0 below.1.0 below.1.1.0 below.1.1.1.0 below.1.1.1.1.0
      below.1.1.1.1.1.0 below.1.1.1.1.1.1.0 below.1.1.1.1.1.1.1.0

  text_is : (list_all is_ascii_digit (a ∷ b ∷ c ∷ d ∷ e ∷ f ∷ g ∷ h ∷ []) ≡ true)
      × (digits_value 10 (a ∷ b ∷ c ∷ d ∷ e ∷ f ∷ g ∷ h ∷ []) ≡ number_from_digits 10 (to_le_bytes w64 x))
  text_is =
      let p = parts in
      let t0 = digit_byte a _ p.0 below.0 in
      let t1 = digit_byte b _ p.1 below.1.0 in
      let t2 = digit_byte c _ p.2 below.1.1.0 in
      let t3 = digit_byte d _ p.3 below.1.1.1.0 in
      let t4 = digit_byte e _ p.4 below.1.1.1.1.0 in
      let t5 = digit_byte f _ p.5 below.1.1.1.1.1.0 in
      let t6 = digit_byte g _ p.6 below.1.1.1.1.1.1.0 in
      let t7 = digit_byte h _ p.7 below.1.1.1.1.1.1.1.0 in (
        rw (t0.0, t1.0, t2.0, t3.0, t4.0, t5.0, t6.0, t7.0) refl,
        rw (t0.1, t1.1, t2.1, t3.1, t4.1, t5.1, t6.1, t7.1) refl,
      )

eight_bytes : (front : List ℕ) → length front ≡ 8 → ((k : ℕ) → k < 8 → get_or front k 0 < 256) → (x : ℕ) →
    x ≡ (from_le_bytes w64 front + 14974415777481871312) % 2 ^ 64 → AllBelowBase 10 (to_le_bytes w64 x) →
    (list_all is_ascii_digit front ≡ true) × (digits_value 10 front ≡ number_from_digits 10 (to_le_bytes w64 x))
eight_bytes [] l t x e b = absurd (omega arith)
eight_bytes (a ∷ []) l t x e y = absurd (omega arith)
eight_bytes (a ∷ b ∷ []) l t x e y = absurd (omega arith)
eight_bytes (a ∷ b ∷ c ∷ []) l t x e y = absurd (omega arith)
eight_bytes (a ∷ b ∷ c ∷ d ∷ []) l t x e y = absurd (omega arith)
eight_bytes (a ∷ b ∷ c ∷ d ∷ e ∷ []) l t x i y = absurd (omega arith)
eight_bytes (a ∷ b ∷ c ∷ d ∷ e ∷ f ∷ []) l t x i y = absurd (omega arith)
eight_bytes (a ∷ b ∷ c ∷ d ∷ e ∷ f ∷ g ∷ []) l t x i y = absurd (omega arith)
eight_bytes (a ∷ b ∷ c ∷ d ∷ e ∷ f ∷ g ∷ h ∷ []) l t x i y =
    let w : from_le_bytes w64 (a ∷ b ∷ c ∷ d ∷ e ∷ f ∷ g ∷ h ∷ []) ≡ joined a b c d e f g h = omega arith in
    let v : x ≡ (joined a b c d e f g h + 14974415777481871312) % 2 ^ 64 = i
    ∙ ap (λ n. (n + 14974415777481871312) % 2 ^ 64) w in
    text_is a b c d e f g h (t 0 (omega arith)) (t 1 (omega arith)) (t 2 (omega arith)) (t 3 (omega arith))
    (t 4 (omega arith)) (t 5 (omega arith)) (t 6 (omega arith)) (t 7 (omega arith)) x v y
eight_bytes (a ∷ b ∷ c ∷ d ∷ e ∷ f ∷ g ∷ h ∷ i ∷ xs) l t x j y = absurd (omega arith)

pub begins_with_eight : (bytes front rest : List ℕ) (x n : ℕ) → front ≡ take 8 bytes → rest ≡ drop 8 bytes →
    length rest + 8 ≡ length bytes → ((k : ℕ) → Fits w8 (get_or bytes k 0)) →
    x ≡ (from_le_bytes w64 front + 14974415777481871312) % 2 ^ 64 → AllBelowBase 10 (to_le_bytes w64 x) →
    n ≡ number_from_digits 10 (to_le_bytes w64 x) →
    BeginsWithEight bytes n rest
begins_with_eight bytes front rest x n f r l t e b v =
    let size : length front ≡ 8 = rw f (omega (arith, length-take 8 bytes)) in
    let below : (k : ℕ) → k < 8 → get_or front k 0 < 256 = λ k h. rw (f, get_or-take 8 bytes k 0 h) (t k).fits in
    let y = eight_bytes front size below x e b in
    record {
      word = front;
      whole = sym (take-append-drop 8 bytes) ∙ rw (f, r) refl;
      digits = y.0;
      eight = size;
      value = y.1 ∙ sym v;
    }
