-- The words of a line are what stands between blanks.
use Rattle.std.proofs.Common.{◌≡◌, ℕ, Bool, true, false, not, List, [], ◌∷◌, ◌++◌, length, refl, sym, ◌∙◌, ap, subst}
use Rattle.std.proofs.Common.{arith}
use Rattle.std.proofs.lemmas.Bool.Decides.{nat_tests}
use Rattle.std.proofs.lemmas.List.{append-nil}
use Rattle.std.proofs.lemmas.List.Elements.{All-nil, All-cons, All-head, All-tail}
use Rattle.std.proofs.lemmas.List.Splits.{slice_split-cons_yes, slice_split-cons_no}
use Rattle.std.specs.Prelude.{All, filter, nat_eq}
use Rattle.std.specs.List.{slice_split, onto_first}
use Rattle.mm_text.specs.Lines.{is_blank}
use Rattle.mm_text.specs.Words.{words}
use Rattle.mm_laws.specs.Grammar.{AreBlanks, EndsWord, HasWords}
use Rattle.mm_text.proofs.WordLemmas.{words_skip, words_word, words_one}

abbrev is_some : List ℕ → Bool
is_some w = not (nat_eq (length w) 0)

abbrev solid : ℕ → Type 0
solid b = is_blank b ≡ false

abbrev blank : ℕ → Type 0
blank b = is_blank b ≡ true

-- The first part of a split line, which may be empty, and the words behind it.
record First (line : List ℕ) : Type 0 where
  part : List ℕ
  parts : List (List ℕ)
  split : slice_split is_blank line ≡ part ∷ parts
  rest : List ℕ
  line_is : line ≡ part ++ rest
  all : All solid part
  ends : EndsWord rest
  more : HasWords rest (filter is_some parts)

one_blank_more : (b : ℕ) (line : List ℕ) (ws : List (List ℕ)) → blank b → HasWords line ws → HasWords (b ∷ line) ws
one_blank_more b line [] h w = All-cons blank b line h w
one_blank_more b line (word ∷ ws) h w = (b ∷ w.0, w.1, ap (λ l. b ∷ l) w.2, All-cons blank b w.0 h w.3, w.4, w.5, w.6)

-- the words from a first part on
all_words : (line part : List ℕ) (parts : List (List ℕ)) (rest : List ℕ) → line ≡ part ++ rest → All solid part →
    EndsWord rest → HasWords rest (filter is_some parts) → HasWords line (filter is_some (part ∷ parts))
all_words line [] parts rest e all ends more = rw e more
all_words line (b ∷ part) parts rest e all ends more =
    let some : nat_eq (length (b ∷ part)) 0 ≡ false = grind (arith, nat_tests) in
    rw some ([], rest, e, All-nil blank, record { some = omega arith; solid = all }, ends, more)

first_of : (line : List ℕ) → First line
first_of [] = record {
  part = [];
  parts = [];
  split = refl;
  rest = [];
  line_is = refl;
  all = All-nil solid;
  ends = tt;
  more = All-nil blank;
}
first_of (b ∷ line) = by_test (is_blank b) refl (first_of line)
  where
    by_test : (v : Bool) → is_blank b ≡ v → First line → First (b ∷ line)
    by_test true h f = record {
      part = [];
      parts = f.part ∷ f.parts;
      split = slice_split-cons_yes is_blank b line h ∙ ap (λ p. [] ∷ p) f.split;
      rest = b ∷ line;
      line_is = refl;
      all = All-nil solid;
      ends = h;
      more = one_blank_more b line (filter is_some (f.part ∷ f.parts)) h
          (all_words line f.part f.parts f.rest f.line_is f.all f.ends f.more);
    }
    by_test false h f = record {
      part = b ∷ f.part;
      parts = f.parts;
      split = slice_split-cons_no is_blank b line h ∙ ap (onto_first b) f.split;
      rest = f.rest;
      line_is = ap (λ l. b ∷ l) f.line_is;
      all = All-cons solid b f.part h f.all;
      ends = f.ends;
      more = f.more;
    }

pub has_its_words : (line : List ℕ) → HasWords line (words line)
has_its_words line = let f = first_of line in
    rw f.split (all_words line f.part f.parts f.rest f.line_is f.all f.ends f.more)

skip_blanks : (blanks rest : List ℕ) → AreBlanks blanks → words (blanks ++ rest) ≡ words rest
skip_blanks [] rest h = refl
skip_blanks (b ∷ blanks) rest h = words_skip b (blanks ++ rest) (All-head blank b blanks h)
    ∙ skip_blanks blanks rest (All-tail blank b blanks h)

pub words_are : (line : List ℕ) (ws : List (List ℕ)) → HasWords line ws → words line ≡ ws
words_are line [] h = ap words (sym (append-nil line)) ∙ skip_blanks line [] h
words_are line (word ∷ ws) h =
    ap words h.2 ∙ skip_blanks h.0 (word ++ h.1) h.3 ∙ behind h.1 h.5 (words_are h.1 ws h.6)
  where
    behind : (rest : List ℕ) → EndsWord rest → words rest ≡ ws → words (word ++ rest) ≡ word ∷ ws
    behind [] e w = ap words (append-nil word) ∙ words_one word h.4.solid h.4.some ∙ ap (λ l. word ∷ l) w
    behind (b ∷ rest) e w = words_word word b rest h.4.solid h.4.some e
        ∙ ap (λ l. word ∷ l) (sym (words_skip b rest e) ∙ w)

pub words_have : (line : List ℕ) (ws : List (List ℕ)) → words line ≡ ws → HasWords line ws
words_have line ws e = subst (HasWords line) e (has_its_words line)
