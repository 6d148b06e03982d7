-- The faults of lines, row by row of their table.
use Rattle.std.proofs.Common.{inl, inr, ◌⊎◌, ◌≡◌, ◌≢◌, ℕ, ◌^◌, ◌<◌, ◌≤◌, Bool, true, false, ◌&&◌, ◌||◌, List, [], ◌∷◌}
use Rattle.std.proofs.Common.{◌++◌, zero, suc, length, get_or, refl, sym, ◌∙◌, ap, arith}
use Rattle.std.proofs.lemmas.Bool.Decides.{nat_tests}
use Rattle.std.proofs.lemmas.List.{get_or_append_left}
use Rattle.std.specs.Prelude.{Some, None, Ok, Err, codes, nat_lt, nat_eq}
use Rattle.std.specs.Str.{str_eq_ignore_ascii_case, str_to_ascii_lowercase}
use Rattle.std.specs.Cmp.Lexicographic.{bytes_decides}
use Rattle.std.specs.Str.Parse.{digits_value, without_leading_plus}
use Rattle.cells.specs.Bounds.{IsDimension}
use Rattle.mm_text.specs.Lines.{is_blank}
use Rattle.mm_text.specs.Words.{word, number_of, are_digits, is_negative}
use Rattle.mm_text.specs.Judging.{keyword, is_one_of, mark, object, format, field, symmetry, banner, number}
use Rattle.mm_text.specs.Judging.{is_dimension, size, index, entry}
use Rattle.mm_laws.specs.Grammar.{HasWords, Writes, IsNumeral, IsMinus, IsKeyword, IsOneOf, IsMarked}
use Rattle.mm_laws.proofs.GrammarWords.{words_are}
use Rattle.mm_laws.proofs.GrammarNumbers.{index_from, plus_cases, digit_facts, all_test, no_plus, writes_number}
use Rattle.mm_laws.proofs.GrammarNumbers.{writes_no_minus}
use Rattle.mm_laws.proofs.GrammarBanner.{same_word, mark_says, object_says, format_says, field_says, symmetry_says}
use Rattle.mm_laws.proofs.GrammarLines.{dimension_test, square_test}
use Rattle.mm_text.specs.declared.fault.MmKind.{MmKind}
use Rattle.mm_text.specs.declared.fault.MmKind.TheVariants.{BadBanner, Unsupported, BadSize, BadDimension, NotSquare}
use Rattle.mm_text.specs.declared.fault.MmKind.TheVariants.{TooManyEntries, BadEntry, Negative, NumberTooLarge}
use Rattle.mm_text.specs.declared.fault.MmKind.TheVariants.{IndexOutOfRange}

-- Numbers.
numeral_of : (w : List ℕ) → are_digits (without_leading_plus w) ≡ true →
    IsNumeral w (digits_value 10 (without_leading_plus w))
numeral_of w h =
    let f = digit_facts (without_leading_plus w) h in
    elim (plus_cases w) [
      | inl plain ↦ record {
        sign = [];
        digits = without_leading_plus w;
        word_is = sym plain;
        sign_is = inl refl;
        some = f.0;
        are_digits = f.1;
        value_is = refl;
      }
      | inr plus ↦ record {
        sign = 43 ∷ [];
        digits = without_leading_plus w;
        word_is = plus.1 ∙ ap (λ r. 43 ∷ r) (sym plus.2);
        sign_is = inr refl;
        some = f.0;
        are_digits = f.1;
        value_is = refl;
      }
    ]

pub number_none : (bad : MmKind) (w : List ℕ) → ((n : ℕ) → IsNumeral w n → ⊥) → number bad w ≡ Err bad
unfolding number
number_none bad w none = by_digits (are_digits (without_leading_plus w)) refl
  where
    by_digits : (b : Bool) → are_digits (without_leading_plus w) ≡ b → number bad w ≡ Err bad
    by_digits true h = absurd (none (digits_value 10 (without_leading_plus w)) (numeral_of w h))
    by_digits false h = let n : number_of w ≡ None = rw h refl in rw n refl

pub number_too_large : (bad : MmKind) (w : List ℕ) (n : ℕ) → IsNumeral w n → 2 ^ 64 ≤ n →
    number bad w ≡ Err NumberTooLarge
unfolding number
number_too_large bad w n h large =
    let digits = all_test h.digits h.are_digits in
    let plain : without_leading_plus w ≡ h.digits = elim h.sign_is [
      | inl none ↦
          let same : w ≡ h.digits = h.word_is ∙ ap (λ s. s ++ h.digits) none in
          ap without_leading_plus same ∙ rw (no_plus h.digits digits h.some).0 refl
      | inr plus ↦ ap without_leading_plus (h.word_is ∙ ap (λ s. s ++ h.digits) plus)
    ] in
    let some = h.some in
    let test : nat_lt 0 (length h.digits) ≡ true = grind (arith, nat_tests) in
    let are : are_digits h.digits ≡ true = rw (test, digits) refl in
    let value = h.value_is in
    let writes : number_of w ≡ Some n = rw (plain, are, value) refl in
    let small : nat_lt n (2 ^ 64) ≡ false = grind (arith, nat_tests) in
    rw writes (rw small refl)

minus_test : (w : List ℕ) → IsMinus w → is_negative w ≡ true
minus_test w h =
    let some = h.some in
    let test : nat_lt 0 (length h.digits) ≡ true = grind (arith, nat_tests) in
    let digits = all_test h.digits h.are_digits in
    rw h.word_is (rw (test, digits) refl)

no_minus : (w : List ℕ) → (IsMinus w → ⊥) → is_negative w ≡ false
no_minus [] h = refl
no_minus (b ∷ bs) h = by_first (nat_eq b 45) refl (are_digits bs) refl
  where
    by_first : (v : Bool) → nat_eq b 45 ≡ v → (d : Bool) → are_digits bs ≡ d → (nat_eq b 45 && are_digits bs) ≡ false
    by_first false e d f = rw e refl
    by_first true e false f = rw (e, f) refl
    by_first true e true f =
        let g = digit_facts bs f in
        let minus : b ≡ 45 = grind (arith, nat_tests) in
        absurd (h (record { digits = bs; word_is = ap (λ c. c ∷ bs) minus; some = g.0; are_digits = g.1 }))

-- Keywords.
or_true : (a b : Bool) → b ≡ true → (a || b) ≡ true
or_true true b e = refl
or_true false b e = e

one_of : (w : List ℕ) (ks : List (List ℕ)) → IsOneOf w ks → is_one_of w ks ≡ true
one_of w [] h = absurd h
one_of w (k ∷ ks) (inl h) = let e : str_eq_ignore_ascii_case w k ≡ true =
    (bytes_decides (str_to_ascii_lowercase w) (str_to_ascii_lowercase k)).1 h in rw e refl
one_of w (k ∷ ks) (inr h) = or_true (str_eq_ignore_ascii_case w k) (is_one_of w ks) (one_of w ks h)

no_word : (w k : List ℕ) (b : Bool) → (IsKeyword w k → ⊥) → b ≡ false → (str_eq_ignore_ascii_case w k || b) ≡ false
no_word w k b h e = by_test (str_eq_ignore_ascii_case w k) refl
  where
    by_test : (v : Bool) → str_eq_ignore_ascii_case w k ≡ v → (str_eq_ignore_ascii_case w k || b) ≡ false
    by_test true f = absurd (h (same_word w k f))
    by_test false f = rw f e

none_of : (w : List ℕ) (ks : List (List ℕ)) → (IsOneOf w ks → ⊥) → is_one_of w ks ≡ false
none_of w [] h = refl
none_of w (k ∷ ks) h = no_word w k (is_one_of w ks) (λ e. h (inl e)) (none_of w ks (λ o. h (inr o)))

keyword_unsupported : (us ks : List (List ℕ)) (w : List ℕ) → IsOneOf w us → keyword us ks w ≡ Err Unsupported
keyword_unsupported us ks w h = rw (one_of w us h) refl

keyword_bad : (us ks : List (List ℕ)) (w : List ℕ) → (IsOneOf w us → ⊥) → (IsOneOf w ks → ⊥) →
    keyword us ks w ≡ Err BadBanner
keyword_bad us ks w u k = rw (none_of w us u, none_of w ks k) refl

-- Banners.
pub banner_blank : (b : ℕ) (line : List ℕ) → is_blank b ≡ true → banner (b ∷ line) ≡ Err BadBanner
unfolding banner
banner_blank b line h = rw h refl

pub banner_empty : banner [] ≡ Err BadBanner
unfolding banner mark
banner_empty = refl

pub banner_other : (line w : List ℕ) (ws : List (List ℕ)) → HasWords line (w ∷ ws) →
    (IsKeyword w (codes "%%MatrixMarket") → ⊥) → banner line ≡ Err BadBanner
unfolding banner mark
banner_other line w ws h other = by_first (is_blank (get_or line 0 0)) refl
  where
    by_first : (b : Bool) → is_blank (get_or line 0 0) ≡ b → banner line ≡ Err BadBanner
    by_first true e = rw e refl
    by_first false e = rw e (rw (words_are line (w ∷ ws) h)
        (rw (keyword_bad [] (codes "%%matrixmarket" ∷ []) w (λ x. x) (λ o. elim o [ inl k ↦ other k | inr n ↦ n ]))
        refl))

module _ (line : List ℕ) (ws : List (List ℕ)) (h : IsMarked line ws) where
  first_solid : is_blank (get_or line 0 0) ≡ false
  first_solid =
      let is_word = h.has_words.4 in
      ap (λ l. is_blank (get_or l 0 0)) h.at_start.1
      ∙ ap is_blank (get_or_append_left h.mark h.at_start.0 0 0 is_word.some) ∙ is_word.solid 0 0 is_word.some

-- the second word
banner_object : (line : List ℕ) (ws : List (List ℕ)) (k : MmKind) → IsMarked line ws → object (word ws) ≡ Err k →
    banner line ≡ Err k
unfolding banner
banner_object line ws k h e = rw (first_solid line ws h)
    (rw (words_are line (h.mark ∷ ws) h.has_words) (rw (mark_says h.mark h.mark_is) (rw e refl)))

pub object_missing : (line : List ℕ) → IsMarked line [] → banner line ≡ Err BadBanner
unfolding object
object_missing line h = banner_object line [] BadBanner h refl

pub object_other : (line w : List ℕ) (ws : List (List ℕ)) → IsMarked line (w ∷ ws) →
    (IsKeyword w (codes "matrix") → ⊥) → banner line ≡ Err BadBanner
unfolding object
object_other line w ws h other = banner_object line (w ∷ ws) BadBanner h
    (keyword_bad [] (codes "matrix" ∷ []) w (λ x. x) (λ o. elim o [ inl k ↦ other k | inr n ↦ n ]))

-- the third
banner_format : (line o : List ℕ) (ws : List (List ℕ)) (k : MmKind) → IsMarked line (o ∷ ws) →
    IsKeyword o (codes "matrix") → format (word ws) ≡ Err k → banner line ≡ Err k
unfolding banner
banner_format line o ws k h a e =
    rw (first_solid line (o ∷ ws) h) (rw (words_are line (h.mark ∷ o ∷ ws) h.has_words)
    (rw (mark_says h.mark h.mark_is) (rw (object_says o a) (rw e refl))))

pub format_missing : (line o : List ℕ) → IsMarked line (o ∷ []) → IsKeyword o (codes "matrix") →
    banner line ≡ Err BadBanner
unfolding format
format_missing line o h a = banner_format line o [] BadBanner h a refl

pub format_unsupported : (line o w : List ℕ) (ws : List (List ℕ)) → IsMarked line (o ∷ w ∷ ws) →
    IsKeyword o (codes "matrix") → IsKeyword w (codes "array") → banner line ≡ Err Unsupported
unfolding format
format_unsupported line o w ws h a u = banner_format line o (w ∷ ws) Unsupported h a
    (keyword_unsupported (codes "array" ∷ []) (codes "coordinate" ∷ []) w (inl u))

pub format_other : (line o w : List ℕ) (ws : List (List ℕ)) → IsMarked line (o ∷ w ∷ ws) →
    IsKeyword o (codes "matrix") → (IsOneOf w (codes "array" ∷ codes "coordinate" ∷ []) → ⊥) →
    banner line ≡ Err BadBanner
unfolding format
format_other line o w ws h a other = banner_format line o (w ∷ ws) BadBanner h a
    (keyword_bad (codes "array" ∷ []) (codes "coordinate" ∷ []) w (λ x. elim x [ inl k ↦ other (inl k) | inr n ↦ n ])
    (λ x. other (inr x)))

-- the fourth
banner_field : (line o f : List ℕ) (ws : List (List ℕ)) (k : MmKind) → IsMarked line (o ∷ f ∷ ws) →
    IsKeyword o (codes "matrix") → IsKeyword f (codes "coordinate") → field (word ws) ≡ Err k → banner line ≡ Err k
unfolding banner
banner_field line o f ws k h a b e =
    rw (first_solid line (o ∷ f ∷ ws) h) (rw (words_are line (h.mark ∷ o ∷ f ∷ ws) h.has_words)
    (rw (mark_says h.mark h.mark_is) (rw (object_says o a) (rw (format_says f b) (rw e refl)))))

pub field_missing : (line o f : List ℕ) → IsMarked line (o ∷ f ∷ []) → IsKeyword o (codes "matrix") →
    IsKeyword f (codes "coordinate") → banner line ≡ Err BadBanner
unfolding field
field_missing line o f h a b = banner_field line o f [] BadBanner h a b refl

abbrev reals : List (List ℕ)
reals = codes "real" ∷ codes "complex" ∷ codes "pattern" ∷ []

abbrev integers : List (List ℕ)
integers = codes "integer" ∷ codes "unsigned-integer" ∷ []

pub field_unsupported : (line o f w : List ℕ) (ws : List (List ℕ)) → IsMarked line (o ∷ f ∷ w ∷ ws) →
    IsKeyword o (codes "matrix") → IsKeyword f (codes "coordinate") →
    IsOneOf w (codes "real" ∷ codes "complex" ∷ codes "pattern" ∷ []) → banner line ≡ Err Unsupported
unfolding field
field_unsupported line o f w ws h a b u = banner_field line o f (w ∷ ws) Unsupported h a b
    (keyword_unsupported reals integers w u)

pub field_other : (line o f w : List ℕ) (ws : List (List ℕ)) → IsMarked line (o ∷ f ∷ w ∷ ws) →
    IsKeyword o (codes "matrix") → IsKeyword f (codes "coordinate") →
    (IsOneOf w (codes "real" ∷ codes "complex" ∷ codes "pattern" ∷ codes "integer" ∷ codes "unsigned-integer" ∷ []) →
    ⊥) → banner line ≡ Err BadBanner
unfolding field
field_other line o f w ws h a b other = banner_field line o f (w ∷ ws) BadBanner h a b
    (keyword_bad reals integers w (λ x. elim x [
      | inl k ↦ other (inl k)
      | inr y ↦ elim y [
        | inl k ↦ other (inr (inl k))
        | inr z ↦
            elim z [ inl k ↦ other (inr (inr (inl k))) | inr n ↦ n ]
      ]
    ]) (λ x. other (inr (inr (inr x)))))

field_ok : (w : List ℕ) → IsOneOf w (codes "integer" ∷ codes "unsigned-integer" ∷ []) → field w ≡ Ok tt
field_ok w (inl k) = field_says w (inl k)
field_ok w (inr (inl k)) = field_says w (inr k)
field_ok w (inr (inr n)) = absurd n

-- the fifth
module _ (line o f t : List ℕ) (a : IsKeyword o (codes "matrix")) (b : IsKeyword f (codes "coordinate"))
    (c : IsOneOf t (codes "integer" ∷ codes "unsigned-integer" ∷ [])) where
  banner_symmetry : (ws : List (List ℕ)) (k : MmKind) → IsMarked line (o ∷ f ∷ t ∷ ws) → symmetry (word ws) ≡ Err k →
      banner line ≡ Err k
  unfolding banner
  banner_symmetry ws k h e =
      rw (first_solid line (o ∷ f ∷ t ∷ ws) h) (rw (words_are line (h.mark ∷ o ∷ f ∷ t ∷ ws) h.has_words)
      (rw (mark_says h.mark h.mark_is) (rw (object_says o a) (rw (format_says f b) (rw (field_ok t c) (rw e refl))))))

  pub symmetry_missing : IsMarked line (o ∷ f ∷ t ∷ []) → banner line ≡ Err BadBanner
  unfolding symmetry
  symmetry_missing h = banner_symmetry [] BadBanner h refl

  pub symmetry_unsupported : (w : List ℕ) (ws : List (List ℕ)) → IsMarked line (o ∷ f ∷ t ∷ w ∷ ws) →
      IsOneOf w (codes "skew-symmetric" ∷ codes "hermitian" ∷ []) → banner line ≡ Err Unsupported
  unfolding symmetry
  symmetry_unsupported w ws h u = banner_symmetry (w ∷ ws) Unsupported h
      (rw (keyword_unsupported (codes "skew-symmetric" ∷ codes "hermitian" ∷ [])
      (codes "general" ∷ codes "symmetric" ∷ []) w u) refl)

  pub symmetry_other : (w : List ℕ) (ws : List (List ℕ)) → IsMarked line (o ∷ f ∷ t ∷ w ∷ ws) →
      (IsOneOf w (codes "skew-symmetric" ∷ codes "hermitian" ∷ codes "general" ∷ codes "symmetric" ∷ []) → ⊥) →
      banner line ≡ Err BadBanner
  unfolding symmetry
  symmetry_other w ws h other = banner_symmetry (w ∷ ws) BadBanner h
      (rw (keyword_bad (codes "skew-symmetric" ∷ codes "hermitian" ∷ []) (codes "general" ∷ codes "symmetric" ∷ []) w
      (λ x. elim x [ inl k ↦ other (inl k) | inr y ↦ elim y [ inl k ↦ other (inr (inl k)) | inr n ↦ n ] ])
      (λ x. other (inr (inr x)))) refl)

  symmetry_ok : (s : List ℕ) → IsOneOf s (codes "general" ∷ codes "symmetric" ∷ []) → (v : Bool) × (symmetry s ≡ Ok v)
  symmetry_ok s (inl k) = (false, symmetry_says s false k)
  symmetry_ok s (inr (inl k)) = (true, symmetry_says s true k)
  symmetry_ok s (inr (inr n)) = absurd n

  pub banner_sixth : (s w : List ℕ) (ws : List (List ℕ)) → IsMarked line (o ∷ f ∷ t ∷ s ∷ w ∷ ws) →
      IsOneOf s (codes "general" ∷ codes "symmetric" ∷ []) → banner line ≡ Err BadBanner
  unfolding banner
  banner_sixth s w ws h d =
      let says = symmetry_ok s d in
      let more : nat_lt 0 (length (w ∷ ws)) ≡ true = grind (arith, nat_tests) in
      rw (first_solid line (o ∷ f ∷ t ∷ s ∷ w ∷ ws) h)
      (rw (words_are line (h.mark ∷ o ∷ f ∷ t ∷ s ∷ w ∷ ws) h.has_words)
      (rw (mark_says h.mark h.mark_is) (rw (object_says o a)
      (rw (format_says f b) (rw (field_ok t c) (rw says.1 (rw more refl)))))))

-- Size lines.
no_dimension : (n : ℕ) → (IsDimension n → ⊥) → is_dimension n ≡ false
no_dimension n h = by_test (is_dimension n) refl
  where
    by_test : (b : Bool) → is_dimension n ≡ b → is_dimension n ≡ false
    by_test true e = absurd (h (grind (arith, nat_tests), grind (arith, nat_tests)))
    by_test false e = e

number_missing : (bad : MmKind) → number bad [] ≡ Err bad
unfolding number
number_missing bad = refl

module _ (symmetric : Bool) (most : ℕ) (line : List ℕ) where
  size_row : (ws : List (List ℕ)) (k : MmKind) → HasWords line ws → number BadSize (word ws) ≡ Err k →
      size symmetric most line ≡ Err k
  unfolding size
  size_row ws k h e = rw (words_are line ws h) (rw e refl)

  pub rows_missing : HasWords line [] → size symmetric most line ≡ Err BadSize
  rows_missing h = size_row [] BadSize h (number_missing BadSize)

  pub rows_number : (w : List ℕ) (ws : List (List ℕ)) (k : MmKind) → HasWords line (w ∷ ws) →
      number BadSize w ≡ Err k → size symmetric most line ≡ Err k
  rows_number w ws k h e = size_row (w ∷ ws) k h e

  pub rows_range : (w : List ℕ) (ws : List (List ℕ)) (n : ℕ) → HasWords line (w ∷ ws) → Writes w n →
      (IsDimension n → ⊥) → size symmetric most line ≡ Err BadDimension
  unfolding size
  rows_range w ws n h e out = rw (words_are line (w ∷ ws) h)
      (rw (writes_number BadSize w n e) (rw (no_dimension n out) refl))

  module _ (r : List ℕ) (rows : ℕ) (re : Writes r rows) (rd : IsDimension rows) where
    size_col : (ws : List (List ℕ)) (k : MmKind) → HasWords line (r ∷ ws) → number BadSize (word ws) ≡ Err k →
        size symmetric most line ≡ Err k
    unfolding size
    size_col ws k h e = rw (words_are line (r ∷ ws) h)
        (rw (writes_number BadSize r rows re) (rw (dimension_test rows rd) (rw e refl)))

    pub cols_missing : HasWords line (r ∷ []) → size symmetric most line ≡ Err BadSize
    cols_missing h = size_col [] BadSize h (number_missing BadSize)

    pub cols_number : (w : List ℕ) (ws : List (List ℕ)) (k : MmKind) → HasWords line (r ∷ w ∷ ws) →
        number BadSize w ≡ Err k → size symmetric most line ≡ Err k
    cols_number w ws k h e = size_col (w ∷ ws) k h e

    pub cols_range : (w : List ℕ) (ws : List (List ℕ)) (n : ℕ) → HasWords line (r ∷ w ∷ ws) → Writes w n →
        (IsDimension n → ⊥) → size symmetric most line ≡ Err BadDimension
    unfolding size
    cols_range w ws n h e out =
        rw (words_are line (r ∷ w ∷ ws) h) (rw (writes_number BadSize r rows re)
        (rw (dimension_test rows rd) (rw (writes_number BadSize w n e) (rw (no_dimension n out) refl))))

    module _ (c : List ℕ) (cols : ℕ) (ce : Writes c cols) (cd : IsDimension cols) (square : symmetric ≡ true →
        rows ≡ cols) where
      size_third : (ws : List (List ℕ)) (k : MmKind) → HasWords line (r ∷ c ∷ ws) → number BadSize (word ws) ≡ Err k →
          size symmetric most line ≡ Err k
      unfolding size
      size_third ws k h e =
          rw (words_are line (r ∷ c ∷ ws) h) (rw (writes_number BadSize r rows re)
          (rw (dimension_test rows rd) (rw (writes_number BadSize c cols ce) (rw (dimension_test cols cd)
          (rw (square_test symmetric rows cols square) (rw e refl))))))

      pub entries_missing : HasWords line (r ∷ c ∷ []) → size symmetric most line ≡ Err BadSize
      entries_missing h = size_third [] BadSize h (number_missing BadSize)

      pub entries_number : (w : List ℕ) (ws : List (List ℕ)) (k : MmKind) → HasWords line (r ∷ c ∷ w ∷ ws) →
          number BadSize w ≡ Err k → size symmetric most line ≡ Err k
      entries_number w ws k h e = size_third (w ∷ ws) k h e

      pub entries_most : (w : List ℕ) (ws : List (List ℕ)) (n : ℕ) → HasWords line (r ∷ c ∷ w ∷ ws) → Writes w n →
          most < n → size symmetric most line ≡ Err TooManyEntries
      unfolding size
      entries_most w ws n h e many =
          let test : nat_lt most n ≡ true = grind (arith, nat_tests) in
          rw (words_are line (r ∷ c ∷ w ∷ ws) h) (rw (writes_number BadSize r rows re)
          (rw (dimension_test rows rd) (rw (writes_number BadSize c cols ce) (rw (dimension_test cols cd)
          (rw (square_test symmetric rows cols square) (rw (writes_number BadSize w n e) (rw test refl)))))))

      pub size_fourth : (w x : List ℕ) (ws : List (List ℕ)) (n : ℕ) → HasWords line (r ∷ c ∷ w ∷ x ∷ ws) → Writes w n →
          n ≤ most → size symmetric most line ≡ Err BadSize
      unfolding size
      size_fourth w x ws n h e few =
          let test : nat_lt most n ≡ false = grind (arith, nat_tests) in
          let more : nat_lt 0 (length (x ∷ ws)) ≡ true = grind (arith, nat_tests) in
          rw (words_are line (r ∷ c ∷ w ∷ x ∷ ws) h) (rw (writes_number BadSize r rows re)
          (rw (dimension_test rows rd) (rw (writes_number BadSize c cols ce) (rw (dimension_test cols cd)
          (rw (square_test symmetric rows cols square) (rw (writes_number BadSize w n e) (rw test (rw more refl))))))))

pub cols_square : (most : ℕ) (line r w : List ℕ) (ws : List (List ℕ)) (rows n : ℕ) → HasWords line (r ∷ w ∷ ws) →
    Writes r rows → IsDimension rows → Writes w n → IsDimension n → rows ≢ n →
    size true most line ≡ Err NotSquare
unfolding size
cols_square most line r w ws rows n h re rd e d other =
    let test : nat_eq rows n ≡ false = grind (arith, nat_tests) in
    rw (words_are line (r ∷ w ∷ ws) h) (rw (writes_number BadSize r rows re)
    (rw (dimension_test rows rd) (rw (writes_number BadSize w n e) (rw (dimension_test n d) (rw test refl)))))

-- Entries.
index_good : (limit i : ℕ) (w : List ℕ) → Writes w i → 1 ≤ i → i ≤ limit → (j : ℕ) × (index limit w ≡ Ok j)
index_good limit i w e low high = by_number i e low high
  where
    by_number : (n : ℕ) → Writes w n → 1 ≤ n → n ≤ limit → (j : ℕ) × (index limit w ≡ Ok j)
    by_number zero f low high = absurd (omega arith)
    by_number (suc n) f low high = (
      n,
      index_from limit n w (omega arith) (writes_number BadEntry w (suc n) f
          ∙ ap Ok (omega arith)),
    )

index_number : (limit : ℕ) (w : List ℕ) (k : MmKind) → number BadEntry w ≡ Err k → index limit w ≡ Err k
unfolding index
index_number limit w k e = rw e refl

index_range : (limit n : ℕ) (w : List ℕ) → Writes w n → (n ≡ 0) ⊎ (limit < n) → index limit w ≡ Err IndexOutOfRange
unfolding index
index_range limit n w e out =
    let test : (nat_eq n 0 || nat_lt limit n) ≡ true =
    elim out [ inl z ↦ grind (arith, nat_tests) | inr m ↦ grind (arith, nat_tests) ] in
    rw (writes_number BadEntry w n e) (rw test refl)

module _ (rows cols : ℕ) (line : List ℕ) where
  entry_row : (ws : List (List ℕ)) (k : MmKind) → HasWords line ws → index rows (word ws) ≡ Err k →
      entry rows cols line ≡ Err k
  unfolding entry
  entry_row ws k h e = rw (words_are line ws h) (rw e refl)

  pub row_missing : HasWords line [] → entry rows cols line ≡ Err BadEntry
  row_missing h = entry_row [] BadEntry h (index_number rows [] BadEntry (number_missing BadEntry))

  pub row_number : (w : List ℕ) (ws : List (List ℕ)) (k : MmKind) → HasWords line (w ∷ ws) →
      number BadEntry w ≡ Err k → entry rows cols line ≡ Err k
  row_number w ws k h e = entry_row (w ∷ ws) k h (index_number rows w k e)

  pub row_range : (w : List ℕ) (ws : List (List ℕ)) (n : ℕ) → HasWords line (w ∷ ws) → Writes w n → (n ≡ 0) ⊎
      (rows < n) → entry rows cols line ≡ Err IndexOutOfRange
  row_range w ws n h e out = entry_row (w ∷ ws) IndexOutOfRange h (index_range rows n w e out)

  module _ (r : List ℕ) (i : ℕ) (re : Writes r i) (low : 1 ≤ i) (high : i ≤ rows) where
    entry_col : (ws : List (List ℕ)) (k : MmKind) → HasWords line (r ∷ ws) → index cols (word ws) ≡ Err k →
        entry rows cols line ≡ Err k
    unfolding entry
    entry_col ws k h e = rw (words_are line (r ∷ ws) h) (rw (index_good rows i r re low high).1 (rw e refl))

    pub col_missing : HasWords line (r ∷ []) → entry rows cols line ≡ Err BadEntry
    col_missing h = entry_col [] BadEntry h (index_number cols [] BadEntry (number_missing BadEntry))

    pub col_number : (w : List ℕ) (ws : List (List ℕ)) (k : MmKind) → HasWords line (r ∷ w ∷ ws) →
        number BadEntry w ≡ Err k → entry rows cols line ≡ Err k
    col_number w ws k h e = entry_col (w ∷ ws) k h (index_number cols w k e)

    pub col_range : (w : List ℕ) (ws : List (List ℕ)) (n : ℕ) → HasWords line (r ∷ w ∷ ws) → Writes w n → (n ≡ 0) ⊎
        (cols < n) → entry rows cols line ≡ Err IndexOutOfRange
    col_range w ws n h e out = entry_col (w ∷ ws) IndexOutOfRange h (index_range cols n w e out)

    module _ (c : List ℕ) (j : ℕ) (ce : Writes c j) (from : 1 ≤ j) (to : j ≤ cols) where
      entry_third : (ws : List (List ℕ)) (k : MmKind) → HasWords line (r ∷ c ∷ ws) → is_negative (word ws) ≡ false →
          number BadEntry (word ws) ≡ Err k → entry rows cols line ≡ Err k
      unfolding entry
      entry_third ws k h m e =
          rw (words_are line (r ∷ c ∷ ws) h) (rw (index_good rows i r re low high).1
          (rw (index_good cols j c ce from to).1 (rw m (rw e refl))))

      pub count_missing : HasWords line (r ∷ c ∷ []) → entry rows cols line ≡ Err BadEntry
      count_missing h = entry_third [] BadEntry h refl (number_missing BadEntry)

      pub count_negative : (w : List ℕ) (ws : List (List ℕ)) → HasWords line (r ∷ c ∷ w ∷ ws) → IsMinus w →
          entry rows cols line ≡ Err Negative
      unfolding entry
      count_negative w ws h m =
          rw (words_are line (r ∷ c ∷ w ∷ ws) h) (rw (index_good rows i r re low high).1
          (rw (index_good cols j c ce from to).1 (rw (minus_test w m) refl)))

      pub count_number : (w : List ℕ) (ws : List (List ℕ)) (k : MmKind) → HasWords line (r ∷ c ∷ w ∷ ws) →
          (IsMinus w → ⊥) → number BadEntry w ≡ Err k → entry rows cols line ≡ Err k
      count_number w ws k h m e = entry_third (w ∷ ws) k h (no_minus w m) e

      pub entry_fourth : (w x : List ℕ) (ws : List (List ℕ)) (n : ℕ) → HasWords line (r ∷ c ∷ w ∷ x ∷ ws) →
          Writes w n → entry rows cols line ≡ Err BadEntry
      unfolding entry
      entry_fourth w x ws n h e =
          let more : nat_lt 0 (length (x ∷ ws)) ≡ true = grind (arith, nat_tests) in
          rw (words_are line (r ∷ c ∷ w ∷ x ∷ ws) h) (rw (index_good rows i r re low high).1
          (rw (index_good cols j c ce from to).1
          (rw (writes_no_minus w n e) (rw (writes_number BadEntry w n e) (rw more refl)))))
