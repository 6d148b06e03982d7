-- The last digits of a long number, at most three, which are taken with no branch.
use Rattle.std.proofs.Common.{inl, inr, ◌≡◌, ◌⊎◌, ℕ, ◌+◌, ◌*◌, ◌%◌, ◌^◌, ◌<◌, ◌≤◌, true, false, List, length, take, drop}
use Rattle.std.proofs.Common.{get_or, refl, sym, ◌∙◌, ap, arith, length-take}
use Rattle.std.proofs.lemmas.Bool.{cases_lt}
use Rattle.std.proofs.lemmas.Bool.Decides.{nat_tests}
use Rattle.std.proofs.lemmas.List.{take-append-drop, take-take}
use Rattle.std.proofs.lemmas.Nat.{mul-le}
use Rattle.std.proofs.Math.Nat.{pow-le-pow_right}
use Rattle.std.specs.Prelude.{nat_lt}
use Rattle.std.specs.Int.{from_bool}
use Rattle.std.specs.List.{list_all}
use Rattle.std.specs.Char.{is_ascii_digit}
use Rattle.std.specs.Str.Parse.{digits_value_after}
use Rattle.mm_text.specs.Plain.{GoesOnWithDigits}
use Rattle.mm_text.proofs.DigitLemmas.{after_below, more_digit, digits_more}

-- Of the first k bytes the first n are digits, which write this number behind the one at the start; and all of them are
-- digits, if more may follow (1, and else 0).
pub record HasTaken (start : ℕ) (front : List ℕ) (k value n goes_on : ℕ) : Type 0 where
  pub within : n ≤ k
  pub digits : list_all is_ascii_digit (take n front) ≡ true
  pub value_is : value ≡ digits_value_after 10 start (take n front)
  pub goes : (goes_on ≡ 0) ⊎ ((goes_on ≡ 1) × (n ≡ k))

below_limit : (start : ℕ) (front : List ℕ) (n : ℕ) → (start + 1) * 10 ^ 3 ≤ 10 ^ 19 →
    list_all is_ascii_digit (take n front) ≡ true → n ≤ 2 → digits_value_after 10 start (take n front) < 10 ^ 18
below_limit start front n room h few =
    let b = after_below start (take n front) h in
    let size : length (take n front) ≤ 2 = omega (arith, length-take n front) in
    let up : 10 ^ length (take n front) ≤ 10 ^ 2 = pow-le-pow_right (omega arith) size in
    let m = mul-le (start + 1) (10 ^ length (take n front)) (start + 1) (10 ^ 2) (omega arith) up in
    omega arith

byte_digit : (b d : ℕ) → b < 256 → d ≡ (b + 208) % 256 → d < 10 → (is_ascii_digit b ≡ true) × (b ≡ d + 48)
byte_digit b d fits e less =
    let s : b ≡ d + 48 = omega arith in
    let i : is_ascii_digit b ≡ true = grind (arith, nat_tests) in
    (i, s)

pub value_small : (start : ℕ) (front : List ℕ) (k value n goes_on : ℕ) → (start + 1) * 10 ^ 3 ≤ 10 ^ 19 →
    length front ≤ 3 → k < length front → HasTaken start front k value n goes_on → value < 10 ^ 18
value_small start front k value n goes_on room size at h =
    let w = h.within in
    let l = below_limit start front n room h.digits (omega arith) in
    let e = h.value_is in
    omega arith

module _ (start : ℕ) (front : List ℕ) (k value n goes_on b d t : ℕ) (room : (start + 1) * 10 ^ 3 ≤ 10 ^ 19)
    (size : length front ≤ 3) (at : k < length front) (b_is : b ≡ get_or front k 0) (b_fits : b < 256)
    (d_is : d ≡ (b + 208) % 256) (t_is : t ≡ from_bool (nat_lt d 10)) (h : HasTaken start front k value n goes_on) where
  pub goes_next : (goes_on * t ≡ 0) ⊎ ((goes_on * t ≡ 1) × (n ≡ k) × (d < 10))
  goes_next = elim (cases_lt d 10) [
    | inl less ↦
        let test : nat_lt d 10 ≡ true = grind (arith, nat_tests) in
        let one : t ≡ 1 = t_is ∙ ap from_bool test in
        elim h.goes [
          | inl none ↦ inl (ap (λ g. g * t) none ∙ omega arith)
          | inr all ↦ inr (ap (λ g. g * t) all.0 ∙ ap (λ u. 1 * u) one, all.1, less)
        ]
    | inr more ↦
        let test : nat_lt d 10 ≡ false = grind (arith, nat_tests) in
        let none : t ≡ 0 = t_is ∙ ap from_bool test in
        inl (ap (λ u. goes_on * u) none ∙ omega arith)
  ]

  taken_none : (v m g : ℕ) → v ≡ value → m ≡ n → g ≡ 0 → HasTaken start front (k + 1) v m g
  taken_none v m g a e c = rw (a, e) (record {
    within = let w = h.within in omega arith;
    digits = h.digits;
    value_is = h.value_is;
    goes = inl c;
  })

  taken_one : (v m g : ℕ) → v ≡ value * 10 + d → m ≡ k + 1 → g ≡ 1 → n ≡ k → d < 10 → HasTaken start front (k + 1) v m g
  taken_one v m g a e c same less =
      let byte = byte_digit b d b_fits d_is less in
      let digit : is_ascii_digit (get_or front k 0) ≡ true = ap is_ascii_digit (sym b_is) ∙ byte.0 in
      let digits : list_all is_ascii_digit (take k front) ≡ true = rw same at h.digits in
      let so_far : value ≡ digits_value_after 10 start (take k front) = rw same at h.value_is in
      let next = more_digit start 3 front k room digits at size digit in
      rw e (record {
        within = omega arith;
        digits = digits_more front k digits at digit;
        value_is = let s = byte.1 in let l = next.3 in omega arith;
        goes = inr (c, refl);
      })

  pub taken_next : HasTaken start front (k + 1) (value + (value * 9 + d) * (goes_on * t)) (n + goes_on * t) (goes_on * t)
  taken_next = elim goes_next [
    | inl none ↦ taken_none _ _ _ (ap (λ g. value + (value * 9 + d) * g) none ∙ omega arith)
        (ap (λ g. n + g) none ∙ omega arith) none
    | inr one ↦ taken_one _ _ _ (ap (λ g. value + (value * 9 + d) * g) one.0 ∙ omega arith)
        (omega (arith, one.0, one.1)) one.0 one.1 one.2
  ]

  -- so nothing overflows
  pub few_next : (goes_on * t ≤ 1) × ((value * 9 + d) * (goes_on * t) ≤ value * 9 + d)
  few_next = elim goes_next [
    | inl none ↦ (omega (arith, none), rw none (omega arith))
    | inr one ↦ (omega (arith, one.0), rw one.0 (omega arith))
  ]

-- behind three bytes at most
pub taken_all : (start : ℕ) (bytes : List ℕ) (k value n goes_on : ℕ) → k ≤ 3 →
    HasTaken start (take 3 bytes) k value n goes_on → GoesOnWithDigits 3 start bytes value (drop n bytes)
taken_all start bytes k value n goes_on most h =
    let w = h.within in
    let same : take n (take 3 bytes) ≡ take n bytes = take-take n 3 bytes (omega arith) in
    let digits : list_all is_ascii_digit (take n bytes) ≡ true = rw same at h.digits in
    let value_is : value ≡ digits_value_after 10 start (take n bytes) = rw same at h.value_is in
    record {
      word = take n bytes;
      whole = sym (take-append-drop n bytes);
      digits = digits;
      short = omega (arith, length-take n bytes);
      value = sym value_is;
    }
