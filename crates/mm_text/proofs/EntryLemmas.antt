-- A line of three numerals with a blank between: its bytes, its words, and the entry that it is.
use Rattle.std.proofs.Common.{inl, inr, ◌⊎◌, ◌≡◌, ℕ, ◌+◌, ◌-◌, ◌<◌, ◌≤◌, Bool, true, false, ◌||◌, List, [], ◌∷◌, ◌++◌}
use Rattle.std.proofs.Common.{length, drop, get_or, refl, sym, ◌∙◌, ap, arith, append_assoc, length-append}
use Rattle.std.proofs.lemmas.Bool.Decides.{nat_tests}
use Rattle.std.proofs.lemmas.List.{get_or_append_left, drop_more, append-nil}
use Rattle.std.proofs.Math.Seq.{take-append_seam, get_or-append_seam}
use Rattle.mm_text.proofs.FeedLemmas.{both_lines}
use Rattle.std.proofs.lemmas.List.Folds.{list_all-append, list_all_at}
use Rattle.std.proofs.lemmas.List.Elements.{All-from_get_or}
use Rattle.std.specs.Prelude.{Ok, nat_eq, All}
use Rattle.std.specs.List.{list_all}
use Rattle.std.specs.Char.{is_ascii_digit}
use Rattle.std.specs.Str.Parse.{digits_value}
use Rattle.mm_text.specs.Lines.{is_blank, is_line_feed, content, is_skipped, IsLine}
use Rattle.mm_text.specs.Words.{words}
use Rattle.mm_text.specs.Judging.{index, entry}
use Rattle.mm_text.specs.Plain.{IsShortNumeral, BeginsWithDigits, BeginsWithIndex, BeginsWithCount, BeginsWithEntry}
use Rattle.mm_text.specs.Plain.{IsEntry}
use Rattle.mm_text.specs.declared.fault.MmKind.TheVariants.{BadEntry}
use Rattle.cells.specs.declared.cell.Cell.{Cell}
use Rattle.mm_text.proofs.NumberLemmas.{all_at}
use Rattle.mm_text.proofs.WordLemmas.{words_word, words_one}
use Rattle.mm_text.proofs.DigitLemmas.{numeral_some, numeral_number, numeral_not_negative, numeral_index}

-- an entry whose line has no CR at its end
pub record IsPlainEntry (rows cols : ℕ) (line : List ℕ) (cell : Cell) : Type 0 where
  pub is_entry : IsEntry rows cols line cell
  pub same : content line ≡ line
  pub some : 0 < length line

-- a digit or a blank
abbrev pub is_plain : ℕ → Bool
is_plain b = is_ascii_digit b || is_blank b

digit_plain : (c : ℕ) → is_ascii_digit c ≡ true → is_plain c ≡ true
digit_plain c h = rw h refl

or_true : (v : Bool) → (v || true) ≡ true
or_true true = refl
or_true false = refl

blank_plain : (c : ℕ) → is_blank c ≡ true → is_plain c ≡ true
blank_plain c h = ap (λ v. is_ascii_digit c || v) h ∙ or_true (is_ascii_digit c)

pub plain_digits : (ds : List ℕ) → list_all is_ascii_digit ds ≡ true → list_all is_plain ds ≡ true
plain_digits [] h = refl
plain_digits (d ∷ ds) h =
    let t : list_all is_ascii_digit ds ≡ true = grind (arith, nat_tests) in
    let e : is_ascii_digit d ≡ true = grind (arith, nat_tests) in
    rw (plain_digits ds t, digit_plain d e) refl

pub blank_not : (c : ℕ) → is_ascii_digit c ≡ true → is_blank c ≡ false
blank_not c h = grind (arith, nat_tests)

no_blank : (w : List ℕ) → IsShortNumeral w → All (λ b. is_blank b ≡ false) w
no_blank w h = All-from_get_or (λ b. is_blank b ≡ false) w 0
    (λ i l. blank_not (get_or w i 0) (all_at is_ascii_digit w i h.digits l))

pub plain_is : (c : ℕ) → is_plain c ≡ true → (nat_eq c 10 ≡ false) × (nat_eq c 13 ≡ false)
plain_is c h = (grind (arith, nat_tests), grind (arith, nat_tests))

pub first_is : (c : ℕ) → is_ascii_digit c ≡ true → (nat_eq c 37 ≡ false) × (is_blank c ≡ false)
first_is c h = (grind (arith, nat_tests), grind (arith, nat_tests))

module _ (a b c : List ℕ) (s t : ℕ) (x : IsShortNumeral a) (y : IsShortNumeral b) (z : IsShortNumeral c)
    (xs : 0 < length a) (ys : 0 < length b) (zs : 0 < length c) (sb : is_blank s ≡ true) (tb : is_blank t ≡ true) where
  pub three_words : words (a ++ s ∷ (b ++ t ∷ c)) ≡ a ∷ b ∷ c ∷ []
  three_words =
      words_word a s (b ++ t ∷ c) (no_blank a x) xs sb
      ∙ ap (λ ws. a ∷ ws) (words_word b t c (no_blank b y) ys tb ∙ ap (λ ws. b ∷ ws) (words_one c (no_blank c z) zs))

  all_plain : list_all is_plain (a ++ s ∷ (b ++ t ∷ c)) ≡ true
  all_plain =
      let p = plain_digits a x.digits in let q = plain_digits b y.digits in let r = plain_digits c z.digits in
      let u = blank_plain s sb in let v = blank_plain t tb in
      list_all-append is_plain a (s ∷ (b ++ t ∷ c)) ∙ rw (p, u) (list_all-append is_plain b (t ∷ c) ∙ rw (q, v, r) refl)

  size_is : length (a ++ s ∷ (b ++ t ∷ c)) ≡ length a + 1 + length b + 1 + length c
  size_is = omega (arith, length-append a (s ∷ (b ++ t ∷ c)), length-append b (t ∷ c))

  plain_line : IsLine (a ++ s ∷ (b ++ t ∷ c))
  plain_line = record {
    no_feed = All-from_get_or (λ k. is_line_feed k ≡ false) (a ++ s ∷ (b ++ t ∷ c)) 0
        (λ i l. (plain_is (get_or (a ++ s ∷ (b ++ t ∷ c)) i 0)
        (all_at is_plain (a ++ s ∷ (b ++ t ∷ c)) i all_plain l)).0);
  }

  plain_content : content (a ++ s ∷ (b ++ t ∷ c)) ≡ a ++ s ∷ (b ++ t ∷ c)
  plain_content =
      let last : length (a ++ s ∷ (b ++ t ∷ c)) - 1 < length (a ++ s ∷ (b ++ t ∷ c)) = omega (arith, size_is, xs) in
      let e = (plain_is (get_or (a ++ s ∷ (b ++ t ∷ c)) (length (a ++ s ∷ (b ++ t ∷ c)) - 1) 0)
      (all_at is_plain (a ++ s ∷ (b ++ t ∷ c)) (length (a ++ s ∷ (b ++ t ∷ c)) - 1) all_plain last)).1 in
      rw e refl

  first_digit : is_ascii_digit (get_or (a ++ s ∷ (b ++ t ∷ c)) 0 0) ≡ true
  first_digit = ap is_ascii_digit (get_or_append_left a (s ∷ (b ++ t ∷ c)) 0 0 xs)
      ∙ all_at is_ascii_digit a 0 x.digits xs

  plain_counts : is_skipped (a ++ s ∷ (b ++ t ∷ c)) ≡ false
  plain_counts =
      let f = first_is (get_or (a ++ s ∷ (b ++ t ∷ c)) 0 0) first_digit in
      let some : 0 < length (a ++ s ∷ (b ++ t ∷ c)) = omega (arith, size_is, xs) in
      rw (plain_content, f.0) (list_all_at is_blank (a ++ s ∷ (b ++ t ∷ c)) 0 0 some f.1)

  pub plain_entry : (rows cols row col : ℕ) → index rows a ≡ Ok row → index cols b ≡ Ok col →
      IsEntry rows cols (a ++ s ∷ (b ++ t ∷ c)) (record { row = row; col = col; count = digits_value 10 c })
  unfolding entry
  plain_entry rows cols row col r l = record {
    is_line = plain_line;
    counted = plain_counts;
    short = let p = x.short in let q = y.short in let u = z.short in rw plain_content (omega (arith, size_is, p, q, u));
    entry_is = entry_of;
  }
    where
      entry_of : entry rows cols (content (a ++ s ∷ (b ++ t ∷ c))) ≡ Ok (record {
        row = row;
        col = col;
        count = digits_value 10 c;
      })
      entry_of = rw (plain_content, three_words) (rw (r, l)
          (rw (numeral_not_negative c z zs, numeral_number BadEntry c z zs) refl))

  pub plain_entry_facts : (rows cols row col : ℕ) → index rows a ≡ Ok row → index cols b ≡ Ok col →
      IsPlainEntry rows cols (a ++ s ∷ (b ++ t ∷ c)) (record { row = row; col = col; count = digits_value 10 c })
  plain_entry_facts rows cols row col r l = record {
    is_entry = plain_entry rows cols row col r l;
    same = plain_content;
    some = omega (arith, size_is, xs);
  }

-- digits and a blank, where the number is in range
pub begins_with_index : (limit : ℕ) (bytes rest more : List ℕ) (n : ℕ) → BeginsWithDigits bytes n rest → 0 < n →
    n ≤ limit →
    0 < length rest → is_blank (get_or rest 0 0) ≡ true → more ≡ drop 1 rest → BeginsWithIndex limit bytes (n - 1) more
begins_with_index limit bytes rest more n x above within some blank more_is =
    let v = x.value in
    let positive : 0 < digits_value 10 x.word = omega arith in
    record {
      word = x.word;
      blank = get_or rest 0 0;
      whole = x.whole ∙ ap (λ l. x.word ++ l) (drop_more rest 0 0 some ∙ ap (λ l. get_or rest 0 0 ∷ l) (sym more_is));
      numeral = x.numeral;
      some = numeral_some x.word positive;
      is_blank_too = blank;
      index_is = numeral_index limit x.word x.numeral positive (omega arith) ∙ ap (λ i. Ok (i - 1)) v;
    }

content_push : (w : List ℕ) → content (w ++ 13 ∷ []) ≡ w
content_push w =
    let n : length (w ++ 13 ∷ []) - 1 ≡ length w = omega (arith, length-append w (13 ∷ [])) in
    let g : get_or (w ++ 13 ∷ []) (length w) 0 ≡ 13 = get_or-append_seam w 13 [] 0 in
    rw n (rw g (take-append_seam w (13 ∷ [])))

-- a CR at the end changes nothing
ended_entry : (rows cols : ℕ) (body ending : List ℕ) (cell : Cell) → (ending ≡ []) ⊎ (ending ≡ 13 ∷ []) →
    IsPlainEntry rows cols body cell → IsEntry rows cols (body ++ ending) cell
ended_entry rows cols body ending cell e x = elim e [
  | inl none ↦ rw (none, append-nil body) x.is_entry
  | inr cr ↦ rw cr (record {
    is_line = both_lines body (13 ∷ []) x.is_entry.is_line (record {
      no_feed = All-from_get_or (λ k. is_line_feed k ≡ false) (13 ∷ []) 0 (λ i l. let z : i ≡ 0 = omega arith in
          rw z refl);
    });
    counted =
        let p = content_push body in
        let some = x.some in
        let f : get_or (body ++ 13 ∷ []) 0 0 ≡ get_or body 0 0 = get_or_append_left body (13 ∷ []) 0 0 some in
        let c = x.same in
        let k = rw c at x.is_entry.counted in
        rw (p, f) k;
    short = let c = ap length (content_push body ∙ sym x.same) in let s = x.is_entry.short in omega arith;
    entry_is = ap (entry rows cols) (content_push body ∙ sym x.same) ∙ x.is_entry.entry_is;
  })
]

-- what the three parts of a plain line say together
pub begins_with_entry : (rows cols : ℕ) (bytes second third rest : List ℕ) (row col count size : ℕ) →
    BeginsWithIndex rows bytes row second → BeginsWithIndex cols second col third → BeginsWithCount third count rest →
    size ≡ length bytes - length rest →
    BeginsWithEntry rows cols bytes (record { row = row; col = col; count = count }) size
begins_with_entry rows cols bytes second third rest row col count size x y z e =
    let p = x.whole in let q = y.whole in let r = z.whole in
    let whole : bytes ≡ ((x.word ++ x.blank ∷ (y.word ++ y.blank ∷ z.word)) ++ z.ending) ++ 10 ∷ rest =
    p ∙ ap (λ l. x.word ++ x.blank ∷ l) (q ∙ ap (λ l. y.word ++ y.blank ∷ l) r)
    ∙ regroup x.word y.word z.word z.ending rest x.blank y.blank in
    record {
      line = (x.word ++ x.blank ∷ (y.word ++ y.blank ∷ z.word)) ++ z.ending;
      rest = rest;
      whole = whole;
      is_entry = ended_entry rows cols (x.word ++ x.blank ∷ (y.word ++ y.blank ∷ z.word)) z.ending _ z.ending_is
          (rw (← z.value) (plain_entry_facts x.word y.word z.word x.blank y.blank x.numeral y.numeral z.numeral x.some
          y.some z.some x.is_blank_too y.is_blank_too rows cols row col x.index_is y.index_is));
      size_is = let l = ap length whole in omega (
        arith,
        length-append ((x.word ++ x.blank ∷ (y.word ++ y.blank ∷ z.word)) ++ z.ending) (10 ∷ rest),
      );
    }
  where
    regroup : (a b c e d : List ℕ) (s t : ℕ) → a ++ s ∷ (b ++ t ∷ (c ++ (e ++ 10 ∷ d)))
        ≡ ((a ++ s ∷ (b ++ t ∷ c)) ++ e) ++ 10 ∷ d
    regroup a b c e d s t = simp append_assoc
