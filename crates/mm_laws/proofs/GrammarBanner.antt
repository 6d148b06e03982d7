-- What a banner looks like.
use Rattle.std.proofs.Common.{inl, inr, ◌⊎◌, ◌≡◌, ℕ, ◌<◌, Bool, true, false, not, ◌||◌, List, [], ◌∷◌, ◌++◌, length}
use Rattle.std.proofs.Common.{get_or, drop, refl, sym, ◌∙◌, ap, subst, arith}
use Rattle.std.proofs.lemmas.Bool.Decides.{nat_tests}
use Rattle.std.proofs.lemmas.List.{get_or_append_left}
use Rattle.std.specs.Cmp.Lexicographic.{same_text}
use Rattle.std.specs.Prelude.{Ok, nat_lt, All, codes}
use Rattle.std.specs.Str.{str_eq_ignore_ascii_case, str_to_ascii_lowercase}
use Rattle.mm_text.specs.Lines.{is_blank}
use Rattle.mm_text.specs.Words.{words, word, has_word}
use Rattle.mm_text.specs.Judging.{refuse_if, is_one_of, keyword, mark, object, format, field, symmetry, banner}
use Rattle.mm_laws.specs.Grammar.{HasWords, IsKeyword, symmetry_keyword, IsBannerLine}
use Rattle.mm_laws.proofs.GrammarWords.{has_its_words, words_are}
use Rattle.mm_laws.proofs.SpellsFacts.{refuse_first}
use Rattle.mm_text.specs.declared.fault.MmKind.TheVariants.{BadBanner, Unsupported}
use Rattle.mm_text.proofs.BoundLemmas.{ok_bind}

-- a word that passes as a keyword is one that is known
known_word : (unsupported known : List (List ℕ)) (w : List ℕ) (u : Unit {0}) → keyword unsupported known w ≡ Ok u →
    is_one_of w known ≡ true
known_word unsupported known w u e =
    let r = refuse_first (is_one_of w unsupported) Unsupported _ u e in by_test (is_one_of w known) refl r.1
  where
    by_test : (v : Bool) → is_one_of w known ≡ v → refuse_if (not v) BadBanner ≡ Ok u → is_one_of w known ≡ true
    by_test true h f = h
    by_test false h f = cc

pub same_word : (w k : List ℕ) → str_eq_ignore_ascii_case w k ≡ true → IsKeyword w k
same_word w k h = same_text (str_to_ascii_lowercase w) (str_to_ascii_lowercase k) (sym h)

either : (v w : Bool) → (v || w) ≡ true → (v ≡ true) ⊎ (w ≡ true)
either true w e = inl refl
either false w e = inr e

one_word : (w k : List ℕ) → is_one_of w (k ∷ []) ≡ true → IsKeyword w k
one_word w k h = elim (either (str_eq_ignore_ascii_case w k) false h) [
  | inl e ↦ same_word w k e
  | inr e ↦ cc
]

two_words : (w j k : List ℕ) → is_one_of w (j ∷ k ∷ []) ≡ true → IsKeyword w j ⊎ IsKeyword w k
two_words w j k h = elim (either (str_eq_ignore_ascii_case w j) (is_one_of w (k ∷ [])) h) [
  | inl e ↦ inl (same_word w j e)
  | inr e ↦ inr (one_word w k e)
]

mark_is : (w : List ℕ) (u : Unit {0}) → mark w ≡ Ok u → IsKeyword w (codes "%%MatrixMarket")
unfolding mark
mark_is w u e = one_word w (codes "%%matrixmarket") (known_word [] (codes "%%matrixmarket" ∷ []) w u e)

object_is : (w : List ℕ) (u : Unit {0}) → object w ≡ Ok u → IsKeyword w (codes "matrix")
unfolding object
object_is w u e = one_word w (codes "matrix") (known_word [] (codes "matrix" ∷ []) w u e)

format_is : (w : List ℕ) (u : Unit {0}) → format w ≡ Ok u → IsKeyword w (codes "coordinate")
unfolding format
format_is w u e = one_word w (codes "coordinate") (known_word (codes "array" ∷ []) (codes "coordinate" ∷ []) w u e)

field_is : (w : List ℕ) (u : Unit {0}) → field w ≡ Ok u → IsKeyword w (codes "integer") ⊎
    IsKeyword w (codes "unsigned-integer")
unfolding field
field_is w u e = two_words w (codes "integer") (codes "unsigned-integer")
    (known_word (codes "real" ∷ codes "complex" ∷ codes "pattern" ∷ [])
    (codes "integer" ∷ codes "unsigned-integer" ∷ []) w u e)

symmetry_is : (w : List ℕ) (b : Bool) → symmetry w ≡ Ok b → IsKeyword w (symmetry_keyword b)
unfolding symmetry
symmetry_is w b e =
    let k = ok_bind (keyword (codes "skew-symmetric" ∷ codes "hermitian" ∷ [])
    (codes "general" ∷ codes "symmetric" ∷ []) w) _ b e in
    let is : is_one_of w (codes "symmetric" ∷ []) ≡ b = let f = k.2 in cc in
    let known = known_word (codes "skew-symmetric" ∷ codes "hermitian" ∷ []) (codes "general" ∷ codes "symmetric" ∷ [])
    w k.0 k.1 in
    by_test b is (two_words w (codes "general") (codes "symmetric") known)
  where
    by_test : (v : Bool) → is_one_of w (codes "symmetric" ∷ []) ≡ v → IsKeyword w (codes "general") ⊎
        IsKeyword w (codes "symmetric") → IsKeyword w (symmetry_keyword v)
    by_test true h k = one_word w (codes "symmetric") h
    by_test false h (inl g) = g
    by_test false h (inr s) = absurd (let t : is_one_of w (codes "symmetric" ∷ []) ≡ true = rw s refl in cc)

-- a keyword has a byte at least
keyword_some : (w : List ℕ) (b : Bool) → IsKeyword w (symmetry_keyword b) → 0 < length w
keyword_some [] true h = absurd (let e : ◌≡◌ {A = List ℕ} [] (codes "symmetric") = h in cc)
keyword_some [] false h = absurd (let e : ◌≡◌ {A = List ℕ} [] (codes "general") = h in cc)
keyword_some (c ∷ cs) b h = omega arith

five_of : (ws : List (List ℕ)) → 0 < length (word (drop 4 ws)) → has_word (drop 5 ws) ≡ false →
    ws ≡ word ws ∷ word (drop 1 ws) ∷ word (drop 2 ws) ∷ word (drop 3 ws) ∷ word (drop 4 ws) ∷ []
five_of [] some none = absurd (omega arith)
five_of (a ∷ []) some none = absurd (omega arith)
five_of (a ∷ b ∷ []) some none = absurd (omega arith)
five_of (a ∷ b ∷ c ∷ []) some none = absurd (omega arith)
five_of (a ∷ b ∷ c ∷ d ∷ []) some none = absurd (omega arith)
five_of (a ∷ b ∷ c ∷ d ∷ e ∷ []) some none = refl
five_of (a ∷ b ∷ c ∷ d ∷ e ∷ f ∷ fs) some none =
    absurd (let l : nat_lt 0 (length (f ∷ fs)) ≡ true = grind (arith, nat_tests) in cc)

-- where the first byte is no blank, the first word begins there
starts : (line w : List ℕ) (ws : List (List ℕ)) → HasWords line (w ∷ ws) → is_blank (get_or line 0 0) ≡ false →
    (rest : List ℕ) × (line ≡ w ++ rest)
starts line w ws h first = by_blanks h.0 h.2 h.3
  where
    by_blanks : (blanks : List ℕ) → line ≡ blanks ++ (w ++ h.1) → All (λ b. is_blank b ≡ true) blanks →
        (rest : List ℕ) × (line ≡ w ++ rest)
    by_blanks [] e all = (h.1, e)
    by_blanks (b ∷ blanks) e all =
        let one : is_blank b ≡ true = all 0 0 (omega arith) in
        let same : get_or line 0 0 ≡ b = ap (λ l. get_or l 0 0) e in
        absurd (let f : is_blank b ≡ false = rw same at first in cc)

pub banner_is : (line : List ℕ) (symmetric : Bool) → banner line ≡ Ok symmetric → IsBannerLine line symmetric
unfolding banner
banner_is line symmetric e =
    let b = refuse_first (is_blank (get_or line 0 0)) BadBanner _ symmetric e in
    let m = ok_bind (mark (word (words line))) _ symmetric b.1 in
    let o = ok_bind (object (word (drop 1 (words line)))) _ symmetric m.2 in
    let f = ok_bind (format (word (drop 2 (words line)))) _ symmetric o.2 in
    let t = ok_bind (field (word (drop 3 (words line)))) _ symmetric f.2 in
    let s = ok_bind (symmetry (word (drop 4 (words line)))) _ symmetric t.2 in
    let x = refuse_first (has_word (drop 5 (words line))) BadBanner _ symmetric s.2 in
    let is : s.0 ≡ symmetric = let y = x.1 in cc in
    let fifth : IsKeyword (word (drop 4 (words line))) (symmetry_keyword symmetric) =
    subst (λ b. IsKeyword (word (drop 4 (words line))) (symmetry_keyword b)) is
    (symmetry_is (word (drop 4 (words line))) s.0 s.1) in
    let all = subst (HasWords line) (five_of (words line) (keyword_some (word (drop 4 (words line))) symmetric fifth)
    x.0) (has_its_words line) in
    record {
      mark = word (words line);
      object = word (drop 1 (words line));
      format = word (drop 2 (words line));
      field = word (drop 3 (words line));
      symmetry = word (drop 4 (words line));
      has_words = all;
      at_start = starts line (word (words line)) (word (drop 1 (words line)) ∷ word (drop 2 (words line)) ∷ word
          (drop 3 (words line)) ∷ word (drop 4 (words line)) ∷ []) all b.0;
      mark_is = mark_is (word (words line)) m.0 m.1;
      object_is = object_is (word (drop 1 (words line))) o.0 o.1;
      format_is = format_is (word (drop 2 (words line))) f.0 f.1;
      field_is = field_is (word (drop 3 (words line))) t.0 t.1;
      symmetry_is = fifth;
    }

pub mark_says : (w : List ℕ) → IsKeyword w (codes "%%MatrixMarket") → mark w ≡ Ok tt
unfolding mark
mark_says w h = rw h refl

pub object_says : (w : List ℕ) → IsKeyword w (codes "matrix") → object w ≡ Ok tt
unfolding object
object_says w h = rw h refl

pub format_says : (w : List ℕ) → IsKeyword w (codes "coordinate") → format w ≡ Ok tt
unfolding format
format_says w h = rw h refl

pub field_says : (w : List ℕ) → IsKeyword w (codes "integer") ⊎ IsKeyword w (codes "unsigned-integer") → field w ≡ Ok tt
unfolding field
field_says w (inl h) = rw h refl
field_says w (inr h) = rw h refl

pub symmetry_says : (w : List ℕ) (b : Bool) → IsKeyword w (symmetry_keyword b) → symmetry w ≡ Ok b
unfolding symmetry
symmetry_says w true h = rw h refl
symmetry_says w false h = rw h refl

pub banner_says : (line : List ℕ) (symmetric : Bool) → IsBannerLine line symmetric → banner line ≡ Ok symmetric
unfolding banner
banner_says line symmetric h =
    let is_word = h.has_words.4 in
    let first : is_blank (get_or line 0 0) ≡ false =
    ap (λ l. is_blank (get_or l 0 0)) h.at_start.1
    ∙ ap is_blank (get_or_append_left h.mark h.at_start.0 0 0 is_word.some) ∙ is_word.solid 0 0 is_word.some in
    rw first (rw (words_are line (h.mark ∷ h.object ∷ h.format ∷ h.field ∷ h.symmetry ∷ []) h.has_words)
    (rw (mark_says h.mark h.mark_is) (rw (object_says h.object h.object_is) (rw (format_says h.format h.format_is)
    (rw (field_says h.field h.field_is) (rw (symmetry_says h.symmetry symmetric h.symmetry_is) refl))))))
