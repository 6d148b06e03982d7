-- The first digits of some bytes, and the number that they write.
use Rattle.std.proofs.Common.{◌≡◌, ◌≢◌, ℕ, ◌+◌, ◌-◌, ◌*◌, ◌^◌, ◌<◌, ◌≤◌, true, false, ◌&&◌, List, [], ◌∷◌, length, take}
use Rattle.std.proofs.Common.{drop}
use Rattle.std.proofs.Common.{get_or, refl, ◌∙◌, ap, arith, length-take, suc, ◌++◌, sym, append_assoc, length-append}
use Rattle.std.proofs.lemmas.Bool.Decides.{nat_tests}
use Rattle.std.proofs.lemmas.List.{take_more}
use Rattle.std.proofs.lemmas.List.Folds.{list_all-append}
use Rattle.std.proofs.lemmas.Nat.{mul-le}
use Rattle.std.proofs.Math.Nat.{pow-suc, pow-le-pow_right}
use Rattle.std.proofs.lemmas.Str.Parse.{IsNumeralModel, tells_all_ascii_digits, numerals_by_value, digits_value_short}
use Rattle.std.proofs.lemmas.Str.Parse.{without_leading_plus_none}
use Rattle.std.specs.Prelude.{Some, Ok, nat_lt, nat_eq}
use Rattle.std.specs.List.{list_all}
use Rattle.std.specs.Char.{is_ascii_digit, digit_value}
use Rattle.std.specs.Str.{all_ascii_digits}
use Rattle.std.specs.Str.Parse.{digits_value, digits_value_after}
use Rattle.mm_text.specs.Words.{number_of, are_digits, is_negative}
use Rattle.mm_text.specs.Judging.{number, index}
use Rattle.mm_text.specs.Plain.{IsShortNumeral, GoesOnWithDigits, BeginsWithEight, BeginsWithDigits}
use Rattle.mm_text.specs.declared.fault.MmKind.{MmKind}
use Rattle.mm_text.specs.declared.fault.MmKind.TheVariants.{BadEntry}
use Rattle.mm_text.proofs.NumberLemmas.{all_at, digit_is}

own : IsNumeralModel (λ ds. all_ascii_digits ds ≡ true) (digits_value 10)
own = numerals_by_value (λ ds. all_ascii_digits ds ≡ true) tells_all_ascii_digits

same_test : (ds : List ℕ) → all_ascii_digits ds ≡ list_all is_ascii_digit ds
same_test [] = refl
same_test (d ∷ ds) = ap (λ v. is_ascii_digit d && v) (same_test ds)

pub value_below : (ds : List ℕ) (k : ℕ) → list_all is_ascii_digit ds ≡ true → length ds ≤ k →
    digits_value 10 ds < 10 ^ k
value_below ds k h l = digits_value_short own ds k (same_test ds ∙ h) l

-- one digit more
pub digits_more : (xs : List ℕ) (i : ℕ) → list_all is_ascii_digit (take i xs) ≡ true → i < length xs →
    is_ascii_digit (get_or xs i 0) ≡ true →
    list_all is_ascii_digit (take (i + 1) xs) ≡ true
digits_more xs i h l d =
    ap (list_all is_ascii_digit) (take_more xs i 0 l) ∙ list_all-append is_ascii_digit (take i xs) (get_or xs i 0 ∷ [])
    ∙ rw (h, d) refl

-- what digits write after a number: read in two parts, with one digit more, and at most
pub after_append : (n : ℕ) (xs ys : List ℕ) →
    digits_value_after 10 n (xs ++ ys) ≡ digits_value_after 10 (digits_value_after 10 n xs) ys
after_append n [] ys = refl
after_append n (x ∷ xs) ys = after_append (n * 10 + digit_value x) xs ys

after_more : (n : ℕ) (xs : List ℕ) (i : ℕ) → i < length xs →
    digits_value_after 10 n (take (i + 1) xs) ≡ digits_value_after 10 n (take i xs) * 10 + digit_value (get_or xs i 0)
after_more n xs i l = ap (digits_value_after 10 n) (take_more xs i 0 l)
    ∙ after_append n (take i xs) (get_or xs i 0 ∷ [])

turned : (a b c : ℕ) → a * (b * c) ≡ a * c * b
turned a b c = grind arith

pub after_below : (n : ℕ) (xs : List ℕ) → list_all is_ascii_digit xs ≡ true →
    digits_value_after 10 n xs < (n + 1) * 10 ^ length xs
after_below n [] h = omega arith
after_below n (x ∷ xs) h =
    let t : list_all is_ascii_digit xs ≡ true = grind (arith, nat_tests) in
    let e : is_ascii_digit x ≡ true = grind (arith, nat_tests) in
    let d = digit_is x e in
    let b = after_below (n * 10 + digit_value x) xs t in
    let g : n * 10 + digit_value x + 1 ≤ (n + 1) * 10 = omega arith in
    let m = mul-le (n * 10 + digit_value x + 1) (10 ^ length xs) ((n + 1) * 10) (10 ^ length xs) g (omega arith) in
    let p = pow-suc 10 (length xs) in
    let q : (n + 1) * 10 ^ suc (length xs) ≡ (n + 1) * 10 * 10 ^ length xs = ap (λ k. (n + 1) * k) p
    ∙ turned (n + 1) (10 ^ length xs) 10 in
    omega arith

-- One digit more after a number: it fits, where at most so many digits fit.
pub more_digit : (start most : ℕ) (xs : List ℕ) (i : ℕ) → (start + 1) * 10 ^ most ≤ 10 ^ 19 →
    list_all is_ascii_digit (take i xs) ≡ true → i < length xs → length xs ≤ most →
    is_ascii_digit (get_or xs i 0) ≡ true →
    (48 ≤ get_or xs i 0) × (get_or xs i 0 ≤ 57) × (digits_value_after 10 start (take i xs) * 10 + 9 < 10 ^ 19)
    × (digits_value_after 10 start (take (i + 1) xs) ≡ digits_value_after 10 start
    (take i xs) * 10 + (get_or xs i 0 - 48))
more_digit start most xs i room h l within d =
    let e = digit_is (get_or xs i 0) d in
    let b = after_below start (take i xs) h in
    let size : length (take i xs) ≡ i = omega (arith, length-take i xs) in
    let c : digits_value_after 10 start (take i xs) < (start + 1) * 10 ^ i = rw size at b in
    let p = pow-suc 10 i in
    let up : 10 ^ suc i ≤ 10 ^ most = pow-le-pow_right (omega arith) (omega arith) in
    let m = mul-le (start + 1) (10 ^ suc i) (start + 1) (10 ^ most) (omega arith) up in
    let f : (start + 1) * 10 ^ suc i ≡ (start + 1) * 10 * 10 ^ i = ap (λ n. (start + 1) * n) p
    ∙ turned (start + 1) (10 ^ i) 10 in
    (e.0, e.1, omega arith, after_more start xs i l ∙ ap (λ n. digits_value_after 10 start (take i xs) * 10 + n) e.2)

-- such a number has 64 bits
pub numeral_fits : (w : List ℕ) → IsShortNumeral w → digits_value 10 w < 2 ^ 64
numeral_fits w h = let b = value_below w 19 h.digits h.short in omega arith

-- a number above 0 has a digit
pub numeral_some : (w : List ℕ) → 0 < digits_value 10 w → 0 < length w
numeral_some [] h = absurd (omega arith)
numeral_some (d ∷ ds) h = omega arith

first_digit : (w : List ℕ) → IsShortNumeral w → 0 < length w → is_ascii_digit (get_or w 0 0) ≡ true
first_digit w h some = all_at is_ascii_digit w 0 h.digits some

pub no_plus : (c : ℕ) → is_ascii_digit c ≡ true → c ≢ 43
no_plus c h = grind (arith, nat_tests)

pub no_minus : (c : ℕ) → is_ascii_digit c ≡ true → nat_eq c 45 ≡ false
no_minus c h = grind (arith, nat_tests)

pub numeral_number : (bad : MmKind) (w : List ℕ) → IsShortNumeral w → 0 < length w →
    number bad w ≡ Ok (digits_value 10 w)
unfolding number
numeral_number bad w h some =
    let plain = without_leading_plus_none w (no_plus (get_or w 0 0) (first_digit w h some)) in
    let test : nat_lt 0 (length w) ≡ true = grind (arith, nat_tests) in
    let are : are_digits w ≡ true = ap (λ v. v && list_all is_ascii_digit w) test ∙ h.digits in
    let writes : number_of w ≡ Some (digits_value 10 w) = rw (plain, are) refl in
    let fits = numeral_fits w h in
    let small : nat_lt (digits_value 10 w) (2 ^ 64) ≡ true = grind (arith, nat_tests) in
    rw writes (rw small refl)

pub numeral_not_negative : (w : List ℕ) → IsShortNumeral w → 0 < length w → is_negative w ≡ false
numeral_not_negative w h some = rw (no_minus (get_or w 0 0) (first_digit w h some)) refl

pub numeral_index : (limit : ℕ) (w : List ℕ) → IsShortNumeral w → 0 < digits_value 10 w → digits_value 10 w ≤ limit →
    index limit w ≡ Ok (digits_value 10 w - 1)
unfolding index
numeral_index limit w h some within =
    let a : nat_eq (digits_value 10 w) 0 ≡ false = grind (arith, nat_tests) in
    let b : nat_lt limit (digits_value 10 w) ≡ false = grind (arith, nat_tests) in
    rw (numeral_number BadEntry w h (numeral_some w some)) (rw (a, b) refl)

-- eight digits write less than so much
pub eight_less : (bytes rest : List ℕ) (n : ℕ) → BeginsWithEight bytes n rest → n < 10 ^ 8
eight_less bytes rest n x = let d = x.digits in let e = x.eight in let v = x.value in
    let b = value_below x.word 8 d (omega arith) in omega arith

after_eight : (n : ℕ) (xs : List ℕ) → length xs ≡ 8 → digits_value_after 10 n xs ≡ n * 100000000 + digits_value 10 xs
after_eight n [] l = absurd (omega arith)
after_eight n (a ∷ []) l = absurd (omega arith)
after_eight n (a ∷ b ∷ []) l = absurd (omega arith)
after_eight n (a ∷ b ∷ c ∷ []) l = absurd (omega arith)
after_eight n (a ∷ b ∷ c ∷ d ∷ []) l = absurd (omega arith)
after_eight n (a ∷ b ∷ c ∷ d ∷ e ∷ []) l = absurd (omega arith)
after_eight n (a ∷ b ∷ c ∷ d ∷ e ∷ f ∷ []) l = absurd (omega arith)
after_eight n (a ∷ b ∷ c ∷ d ∷ e ∷ f ∷ g ∷ []) l = absurd (omega arith)
after_eight n (a ∷ b ∷ c ∷ d ∷ e ∷ f ∷ g ∷ h ∷ []) l = omega arith
after_eight n (a ∷ b ∷ c ∷ d ∷ e ∷ f ∷ g ∷ h ∷ i ∷ xs) l = absurd (omega arith)

-- eight digits, and at most so many more
pub eight_more : (most start next : ℕ) (bytes middle rest : List ℕ) (n m : ℕ) → BeginsWithEight bytes n middle →
    next ≡ start * 100000000 + n →
    GoesOnWithDigits most next middle m rest → GoesOnWithDigits (8 + most) start bytes m rest
eight_more most start next bytes middle rest n m x s y =
    let v = x.value in let w = y.whole in let e = x.eight in let l = y.short in
    let a : digits_value_after 10 start x.word ≡ next = after_eight start x.word e ∙ ap (λ k. start * 100000000 + k) v
    ∙ sym s in
    let assoc : x.word ++ (y.word ++ rest) ≡ (x.word ++ y.word) ++ rest = rw append_assoc refl in
    record {
      word = x.word ++ y.word;
      whole = x.whole ∙ ap (λ xs. x.word ++ xs) w ∙ assoc;
      digits = list_all-append is_ascii_digit x.word y.word ∙ rw (x.digits, y.digits) refl;
      short = omega (arith, length-append x.word y.word);
      value = after_append start x.word y.word ∙ ap (λ k. digits_value_after 10 k y.word) a ∙ y.value;
    }

-- from no number before them, they are a number of their own
pub digits_alone : (bytes rest : List ℕ) (n : ℕ) → GoesOnWithDigits 19 0 bytes n rest → BeginsWithDigits bytes n rest
digits_alone bytes rest n x = record {
  word = x.word;
  whole = x.whole;
  numeral = record {
    digits = x.digits;
    short = x.short;
  };
  value = x.value;
}

-- one digit alone
pub one_digit : (bytes : List ℕ) (n : ℕ) (rest : List ℕ) → is_ascii_digit (get_or bytes 0 0) ≡ true →
    0 < length bytes → n + 48 ≡ get_or bytes 0 0 → rest ≡ drop 1 bytes → BeginsWithDigits bytes n rest
one_digit [] n rest h some e r = absurd (omega arith)
one_digit (d ∷ ds) n rest h some e r =
    let x = digit_is d h in
    record {
      word = d ∷ [];
      whole = ap (λ t. d ∷ t) (sym r);
      numeral = record { digits = rw h refl; short = omega arith };
      value = omega (arith, x.2);
    }
