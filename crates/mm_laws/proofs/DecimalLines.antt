-- A line of decimal numbers: its bytes, its words and their numbers.
use Rattle.std.proofs.Common.{◌≡◌, ℕ, ◌+◌, ◌-◌, ◌^◌, ◌<◌, ◌≤◌, true, false, ◌&&◌, List, [], ◌∷◌, ◌++◌, length, get_or}
use Rattle.std.proofs.Common.{refl, ◌∙◌, ap, arith, append_assoc, length-append}
use Rattle.std.proofs.lemmas.List.{get_or_append_left}
use Rattle.std.proofs.lemmas.List.Folds.{list_all-append, list_all_at}
use Rattle.std.proofs.lemmas.List.Elements.{All-from_get_or}
use Rattle.std.proofs.lemmas.Str.Parse.{IsNumeralModel, tells_all_ascii_digits, numerals_by_value}
use Rattle.std.proofs.lemmas.Str.Parse.{without_leading_plus_none}
use Rattle.std.proofs.lemmas.Fmt.{digits_decimal, digits_value-decimal, decimal_nonempty, length-decimal-le}
use Rattle.std.specs.Prelude.{Ok, decimal, All}
use Rattle.std.specs.List.{list_all}
use Rattle.std.specs.Char.{is_ascii_digit}
use Rattle.std.specs.Str.{all_ascii_digits}
use Rattle.std.specs.Str.Parse.{digits_value}
use Rattle.mm_text.specs.Lines.{is_blank, is_line_feed, content, is_skipped, IsLine}
use Rattle.mm_text.specs.Words.{words, is_negative}
use Rattle.mm_text.specs.Judging.{number, index}
use Rattle.mm_laws.proofs.GrammarNumbers.{number_from, index_from}
use Rattle.mm_text.proofs.NumberLemmas.{all_at}
use Rattle.mm_text.proofs.WordLemmas.{words_word, words_one}
use Rattle.mm_text.specs.declared.fault.MmKind.{MmKind}
use Rattle.mm_text.specs.declared.fault.MmKind.TheVariants.{BadEntry}
use Rattle.mm_text.proofs.DigitLemmas.{no_plus, no_minus}
use Rattle.mm_text.proofs.EntryLemmas.{first_is, plain_is, blank_not, plain_digits, is_plain}

own : IsNumeralModel (λ ds. all_ascii_digits ds ≡ true) (digits_value 10)
own = numerals_by_value (λ ds. all_ascii_digits ds ≡ true) tells_all_ascii_digits

same_test : (ds : List ℕ) → list_all is_ascii_digit ds ≡ all_ascii_digits ds
same_test [] = refl
same_test (d ∷ ds) = ap (λ v. is_ascii_digit d && v) (same_test ds)

-- what is known of the decimal digits of a number of 64 bits
pub record IsDecimal (n : ℕ) (ds : List ℕ) : Type 0 where
  pub digits : list_all is_ascii_digit ds ≡ true
  pub some : 0 < length ds
  pub short : length ds ≤ 20
  pub value : digits_value 10 ds ≡ n
  pub fits : n < 2 ^ 64

pub decimal_is : (n : ℕ) → n < 2 ^ 64 → IsDecimal n (decimal n)
decimal_is n h = record {
  digits = same_test (decimal n) ∙ digits_decimal own n h;
  some = decimal_nonempty n h;
  short = length-decimal-le 20 n (omega arith) (omega arith) h;
  value = digits_value-decimal own n h;
  fits = h;
}

digit_at : (n : ℕ) (ds : List ℕ) → IsDecimal n ds → is_ascii_digit (get_or ds 0 0) ≡ true
digit_at n ds d = all_at is_ascii_digit ds 0 d.digits d.some

pub decimal_number : (bad : MmKind) (n : ℕ) (ds : List ℕ) → IsDecimal n ds → number bad ds ≡ Ok n
decimal_number bad n ds d =
    number_from bad ds ds n (without_leading_plus_none ds (no_plus (get_or ds 0 0) (digit_at n ds d))) d.digits d.some
    d.value d.fits

pub decimal_not_negative : (n : ℕ) (ds : List ℕ) → IsDecimal n ds → is_negative ds ≡ false
decimal_not_negative n ds d = rw (no_minus (get_or ds 0 0) (digit_at n ds d)) refl

pub decimal_index : (limit i : ℕ) (ds : List ℕ) → i < limit → IsDecimal (i + 1) ds → index limit ds ≡ Ok i
decimal_index limit i ds h d = index_from limit i ds h (decimal_number BadEntry (i + 1) ds d)

-- three numbers, one space between
abbrev pub three : List ℕ → List ℕ → List ℕ → List ℕ
three a b c = a ++ 32 ∷ b ++ 32 ∷ c

no_blank : (n : ℕ) (ds : List ℕ) → IsDecimal n ds → All (λ b. is_blank b ≡ false) ds
no_blank n ds d = All-from_get_or (λ b. is_blank b ≡ false) ds 0
    (λ i l. blank_not (get_or ds i 0) (all_at is_ascii_digit ds i d.digits l))

module _ (m n k : ℕ) (a b c : List ℕ) (x : IsDecimal m a) (y : IsDecimal n b) (z : IsDecimal k c) where
  from_right : three a b c ≡ a ++ 32 ∷ (b ++ 32 ∷ c)
  from_right = append_assoc a (32 ∷ b) (32 ∷ c)

  pub three_words : words (three a b c) ≡ a ∷ b ∷ c ∷ []
  three_words =
      ap words from_right ∙ words_word a 32 (b ++ 32 ∷ c) (no_blank m a x) x.some refl
      ∙ ap (λ ws. a ∷ ws) (words_word b 32 c (no_blank n b y) y.some refl
      ∙ ap (λ ws. b ∷ ws) (words_one c (no_blank k c z) z.some))

  all_plain : list_all is_plain (three a b c) ≡ true
  all_plain =
      let p = plain_digits a x.digits in let q = plain_digits b y.digits in let r = plain_digits c z.digits in
      ap (list_all is_plain) from_right ∙ list_all-append is_plain a (32 ∷ (b ++ 32 ∷ c))
      ∙ rw p (list_all-append is_plain b (32 ∷ c) ∙ rw (q, r) refl)

  size_is : length (three a b c) ≡ length a + 1 + length b + 1 + length c
  size_is = omega (arith, length-append (a ++ 32 ∷ b) (32 ∷ c), length-append a (32 ∷ b))

  pub three_length : length (three a b c) ≤ 62
  three_length = let p = x.short in let q = y.short in let r = z.short in omega (arith, size_is, p, q, r)

  pub three_line : IsLine (three a b c)
  three_line = record {
    no_feed = All-from_get_or (λ b. is_line_feed b ≡ false) (three a b c) 0
        (λ i l. (plain_is (get_or (three a b c) i 0) (all_at is_plain (three a b c) i all_plain l)).0);
  }

  pub three_content : content (three a b c) ≡ three a b c
  three_content =
      let last : length (three a b c) - 1 < length (three a b c) = let s = x.some in omega (arith, size_is, s) in
      let e = (plain_is (get_or (three a b c) (length (three a b c) - 1) 0)
      (all_at is_plain (three a b c) (length (three a b c) - 1) all_plain last)).1 in
      rw e refl

  -- it begins with a digit
  first_digit : is_ascii_digit (get_or (three a b c) 0 0) ≡ true
  first_digit = let some = x.some in ap (λ l. is_ascii_digit (get_or l 0 0)) from_right
      ∙ ap is_ascii_digit (get_or_append_left a (32 ∷ (b ++ 32 ∷ c)) 0 0 some) ∙ digit_at m a x

  pub three_counts : is_skipped (three a b c) ≡ false
  three_counts =
      let f = first_is (get_or (three a b c) 0 0) first_digit in
      let some : 0 < length (three a b c) = let s = x.some in omega (arith, size_is, s) in
      rw (three_content, f.0) (list_all_at is_blank (three a b c) 0 0 some f.1)
