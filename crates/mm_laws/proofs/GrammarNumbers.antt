-- The number that a word writes.
use Rattle.std.proofs.lemmas.Bool.{and_parts}
use Rattle.std.proofs.Common.{inl, inr, ◌⊎◌, ◌≡◌, ℕ, ◌+◌, ◌-◌, ◌^◌, ◌<◌, Bool, true, false, ◌&&◌, ◌||◌, cond, List, []}
use Rattle.std.proofs.Common.{◌∷◌, ◌++◌, length, get_or, drop, refl, sym, ◌∙◌, ap, arith}
use Rattle.std.proofs.lemmas.Bool.Decides.{nat_tests}
use Rattle.std.proofs.lemmas.List.Elements.{All-from_get_or, All-head, All-tail}
use Rattle.std.specs.Prelude.{Some, Result, Ok, Err, nat_lt, nat_eq, All}
use Rattle.std.specs.List.{list_all}
use Rattle.std.specs.Char.{is_ascii_digit}
use Rattle.std.specs.Str.Parse.{digits_value, without_leading_plus}
use Rattle.mm_text.specs.Words.{number_of, are_digits, is_negative}
use Rattle.mm_text.specs.Judging.{number, index}
use Rattle.mm_laws.specs.Grammar.{Writes}
use Rattle.mm_text.proofs.NumberLemmas.{all_at}
use Rattle.mm_laws.proofs.SpellsFacts.{refuse_first, number_bound}
use Rattle.mm_text.specs.declared.fault.MmKind.{MmKind}
use Rattle.mm_text.specs.declared.fault.MmKind.TheVariants.{BadEntry, NumberTooLarge, IndexOutOfRange}
use Rattle.mm_text.proofs.BoundLemmas.{ok_bind}

-- digits behind at most one plus write their value
pub number_from : (bad : MmKind) (w ds : List ℕ) (n : ℕ) → without_leading_plus w ≡ ds →
    list_all is_ascii_digit ds ≡ true → 0 < length ds → digits_value 10 ds ≡ n → n < 2 ^ 64 → number bad w ≡ Ok n
unfolding number
number_from bad w ds n plain digits some value fits =
    let test : nat_lt 0 (length ds) ≡ true = grind (arith, nat_tests) in
    let are : are_digits ds ≡ true = ap (λ v. v && list_all is_ascii_digit ds) test ∙ digits in
    let writes : number_of w ≡ Some n = rw (plain, are, value) refl in
    let small : nat_lt n (2 ^ 64) ≡ true = grind (arith, nat_tests) in
    rw writes (rw small refl)

-- an index that a word writes counts from 1
pub index_from : (limit i : ℕ) (w : List ℕ) → i < limit → number BadEntry w ≡ Ok (i + 1) → index limit w ≡ Ok i
unfolding index
index_from limit i w h e =
    let a : nat_eq (i + 1) 0 ≡ false = grind (arith, nat_tests) in
    let b : nat_lt limit (i + 1) ≡ false = grind (arith, nat_tests) in
    let c : (i + 1) - 1 ≡ i = omega arith in
    rw e (rw (a, b) (ap Ok c))

pub index_to : (limit i : ℕ) (w : List ℕ) → index limit w ≡ Ok i → number BadEntry w ≡ Ok (i + 1)
unfolding index
index_to limit i w e =
    let a = ok_bind (number BadEntry w) _ i e in
    let b = refuse_first (nat_eq a.0 0 || nat_lt limit a.0) IndexOutOfRange _ i a.2 in
    let c : a.0 - 1 ≡ i = let f = b.1 in cc in
    let d : a.0 ≡ i + 1 = grind (arith, nat_tests, b.0, c) in
    a.1 ∙ ap Ok d

number_to : (bad : MmKind) (w : List ℕ) (n : ℕ) → number bad w ≡ Ok n → (are_digits (without_leading_plus w) ≡ true) ×
    (digits_value 10 (without_leading_plus w) ≡ n)
unfolding number
number_to bad w n e = by_digits (are_digits (without_leading_plus w)) refl
  where
    value : (m : ℕ) (b : Bool) → ◌≡◌ {A = Result ℕ MmKind} (cond b (Ok m) (Err NumberTooLarge)) (Ok n) → m ≡ n
    value m true f = cc
    value m false f = cc

    by_digits : (b : Bool) → are_digits (without_leading_plus w) ≡ b → (are_digits (without_leading_plus w) ≡ true) ×
        (digits_value 10 (without_leading_plus w) ≡ n)
    by_digits false h = let f = rw h at e in cc
    by_digits true h = let f = rw h at e in (
      h,
      value (digits_value 10 (without_leading_plus w))
          (nat_lt (digits_value 10 (without_leading_plus w)) (2 ^ 64)) f,
    )

pub plus_cases : (w : List ℕ) → (without_leading_plus w ≡ w) ⊎
    ((rest : List ℕ) × (w ≡ 43 ∷ rest) × (without_leading_plus w ≡ rest))
plus_cases [] = inl refl
plus_cases (b ∷ bs) = by_test (nat_eq b 43) refl
  where
    by_test : (v : Bool) → nat_eq b 43 ≡ v → (drop (cond (nat_eq b 43) 1 0) (b ∷ bs) ≡ b ∷ bs) ⊎
        ((rest : List ℕ) × (b ∷ bs ≡ 43 ∷ rest) × (drop (cond (nat_eq b 43) 1 0) (b ∷ bs) ≡ rest))
    by_test true h = let plus : b ≡ 43 = grind (arith, nat_tests) in inr (bs, ap (λ c. c ∷ bs) plus, rw h refl)
    by_test false h = inl (rw h refl)

-- the digits of a number, as facts
pub digit_facts : (ds : List ℕ) → are_digits ds ≡ true → (0 < length ds) × All (λ b. is_ascii_digit b ≡ true) ds
digit_facts ds h =
    let b = and_parts (nat_lt 0 (length ds)) (list_all is_ascii_digit ds) h in
    let some : 0 < length ds = grind (arith, nat_tests, b.0) in
    (some, All-from_get_or (λ b. is_ascii_digit b ≡ true) ds 0 (λ i l. all_at is_ascii_digit ds i b.1 l))

pub number_writes : (bad : MmKind) (w : List ℕ) (n : ℕ) → number bad w ≡ Ok n → Writes w n
number_writes bad w n e =
    let t = number_to bad w n e in
    let f = digit_facts (without_leading_plus w) t.0 in
    elim (plus_cases w) [
      | inl plain ↦ record {
        sign = [];
        digits = without_leading_plus w;
        word_is = sym plain;
        sign_is = inl refl;
        some = f.0;
        are_digits = f.1;
        value_is = t.1;
        fits = number_bound bad w n e;
      }
      | inr plus ↦ record {
        sign = 43 ∷ [];
        digits = without_leading_plus w;
        word_is = plus.1 ∙ ap (λ r. 43 ∷ r) (sym plus.2);
        sign_is = inr refl;
        some = f.0;
        are_digits = f.1;
        value_is = t.1;
        fits = number_bound bad w n e;
      }
    ]

pub all_test : (ds : List ℕ) → All (λ b. is_ascii_digit b ≡ true) ds → list_all is_ascii_digit ds ≡ true
all_test [] h = refl
all_test (d ∷ ds) h = let one = All-head (λ b. is_ascii_digit b ≡ true) d ds h in
    rw one (all_test ds (All-tail (λ b. is_ascii_digit b ≡ true) d ds h))

pub no_plus : (ds : List ℕ) → list_all is_ascii_digit ds ≡ true → 0 < length ds → (nat_eq (get_or ds 0 0) 43 ≡ false) ×
    (nat_eq (get_or ds 0 0) 45 ≡ false)
no_plus ds h some = by_first (get_or ds 0 0) (all_at is_ascii_digit ds 0 h some)
  where
    by_first : (c : ℕ) → is_ascii_digit c ≡ true → (nat_eq c 43 ≡ false) × (nat_eq c 45 ≡ false)
    by_first c e = (grind (arith, nat_tests), grind (arith, nat_tests))

pub writes_number : (bad : MmKind) (w : List ℕ) (n : ℕ) → Writes w n → number bad w ≡ Ok n
writes_number bad w n h =
    let digits = all_test h.digits h.are_digits in
    number_from bad w h.digits n (elim h.sign_is [
      | inl none ↦
          let same : w ≡ h.digits = h.word_is ∙ ap (λ s. s ++ h.digits) none in
          ap without_leading_plus same ∙ rw (no_plus h.digits digits h.some).0 refl
      | inr plus ↦ ap without_leading_plus (h.word_is ∙ ap (λ s. s ++ h.digits) plus)
    ]) digits h.some h.value_is h.fits

-- a word that writes a number has no minus
pub writes_no_minus : (w : List ℕ) (n : ℕ) → Writes w n → is_negative w ≡ false
writes_no_minus w n h = elim h.sign_is [
  | inl none ↦
      let digits = all_test h.digits h.are_digits in
      let same : w ≡ h.digits = h.word_is ∙ ap (λ s. s ++ h.digits) none in
      ap is_negative same ∙ rw (no_plus h.digits digits h.some).1 refl
  | inr plus ↦ ap is_negative (h.word_is ∙ ap (λ s. s ++ h.digits) plus)
]

pub writes_some : (w : List ℕ) (n : ℕ) → Writes w n → 0 < length w
writes_some w n h = elim h.sign_is [
  | inl none ↦ let l = ap length (h.word_is ∙ ap (λ s. s ++ h.digits) none) in let s = h.some in omega arith
  | inr plus ↦ let same : w ≡ 43 ∷ h.digits = h.word_is ∙ ap (λ s. s ++ h.digits) plus in rw same (omega arith)
]
