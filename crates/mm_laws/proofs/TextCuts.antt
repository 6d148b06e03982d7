-- A text, cut into whole lines and what follows the last LF, and how its lines go on where more bytes follow.
use Rattle.std.proofs.Common.{inl, inr, ◌⊎◌, ◌≡◌, ℕ, ◌+◌, ◌<◌, ◌≤◌, Bool, true, false, List, [], ◌∷◌, ◌++◌, length}
use Rattle.std.proofs.Common.{refl, sym, ◌∙◌, ap, arith, append_assoc, length-append}
use Rattle.std.proofs.lemmas.Bool.Decides.{nat_tests}
use Rattle.std.proofs.lemmas.List.{append-nil}
use Rattle.std.proofs.lemmas.List.Elements.{All-nil, All-cons, All-from_recursion, recursion_from_All}
use Rattle.std.specs.Prelude.{All}
use Rattle.std.specs.List.{AllByRecursion}
use Rattle.mm_text.specs.Lines.{lines_of, bytes_of, joined, is_line_feed, IsLine}
use Rattle.mm_text.proofs.Cuts.{cut_cases, bytes_of-append, joined-append, lines_of-joined, lines_of-last}
use Rattle.mm_text.proofs.Cuts.{length-joined, all_lines-append}
use Rattle.mm_text.proofs.CutOffLemmas.{continues}
use Rattle.mm_text.proofs.Clean.{one_cut, nil_not}

-- whole lines, and a rest without LF
pub record Cut (text : List ℕ) : Type 0 where
  pub lines : List (List ℕ)
  pub rest : List ℕ
  pub all : AllByRecursion IsLine lines
  pub partial : IsLine rest
  pub whole : text ≡ joined lines ++ rest

no_bytes : IsLine []
no_bytes = record { no_feed = All-nil (λ b. is_line_feed b ≡ false) }

one_byte_more : (b : ℕ) (line : List ℕ) → is_line_feed b ≡ false → IsLine line → IsLine (b ∷ line)
one_byte_more b line h l = record { no_feed = All-cons (λ b. is_line_feed b ≡ false) b line h l.no_feed }

pub cut_text : (text : List ℕ) → Cut text
cut_text [] = record { lines = []; rest = []; all = tt; partial = no_bytes; whole = refl }
cut_text (b ∷ bs) = by_test (is_line_feed b) refl (cut_text bs)
  where
    by_line : is_line_feed b ≡ false → (lines : List (List ℕ)) (rest : List ℕ) → AllByRecursion IsLine lines →
        IsLine rest → bs ≡ joined lines ++ rest → Cut (b ∷ bs)
    by_line h [] rest all partial whole = record {
      lines = [];
      rest = b ∷ rest;
      all = tt;
      partial = one_byte_more b rest h partial;
      whole = ap (λ t. b ∷ t) whole;
    }
    by_line h (line ∷ lines) rest all partial whole =
        record {
          lines = (b ∷ line) ∷ lines;
          rest = rest;
          all = (one_byte_more b line h all.0, all.1);
          partial = partial;
          whole = ap (λ t. b ∷ t) whole;
        }

    by_test : (v : Bool) → is_line_feed b ≡ v → Cut bs → Cut (b ∷ bs)
    by_test true h c = let ten : b ≡ 10 = grind (arith, nat_tests) in
        record {
          lines = [] ∷ c.lines;
          rest = c.rest;
          all = (no_bytes, c.all);
          partial = c.partial;
          whole = rw ten (ap (λ t. 10 ∷ t) c.whole);
        }
    by_test false h c = by_line h c.lines c.rest c.all c.partial c.whole

-- the lines of what follows the last LF: none, or one
pub rest_lines : (rest : List ℕ) → IsLine rest → ((rest ≡ []) × (lines_of rest ≡ [])) ⊎
    ((0 < length rest) × (lines_of rest ≡ rest ∷ []))
rest_lines [] h = inl (refl, refl)
rest_lines (b ∷ bs) h = inr (omega arith, lines_of-last (b ∷ bs) h (omega arith))

module _ (text : List ℕ) (c : Cut text) where
  pub cut_lines : lines_of text ≡ c.lines ++ lines_of c.rest
  cut_lines = ap lines_of c.whole ∙ lines_of-joined c.lines c.rest c.all

  pub cut_more : (more : List ℕ) → lines_of (text ++ more) ≡ c.lines ++ lines_of (c.rest ++ more)
  cut_more more = ap (λ t. lines_of (t ++ more)) c.whole ∙ ap lines_of (append_assoc (joined c.lines) c.rest more)
      ∙ lines_of-joined c.lines (c.rest ++ more) c.all

  pub cut_length : length text ≡ bytes_of c.lines + length c.rest
  cut_length = let e = ap length c.whole in let j = length-joined c.lines in
      omega (arith, length-append (joined c.lines) c.rest, e, j)

-- The lines of a text, joined, are the text, or the text and one more LF; and none has an LF.
pub lines_joined : (text : List ℕ) → ((joined (lines_of text) ≡ text) ⊎ (joined (lines_of text) ≡ text ++ 10 ∷ [])) ×
    All IsLine (lines_of text)
lines_joined text = by_rest (cut_text text)
  where
    by_rest : Cut text → ((joined (lines_of text) ≡ text) ⊎ (joined (lines_of text) ≡ text ++ 10 ∷ [])) ×
        All IsLine (lines_of text)
    by_rest c = elim (rest_lines c.rest c.partial) [
      | inl none ↦
          let same : lines_of text ≡ c.lines = cut_lines text c ∙ ap (λ l. c.lines ++ l) none.1 ∙ append-nil c.lines in
          let whole : text ≡ joined c.lines = c.whole ∙ ap (λ r. joined c.lines ++ r) none.0
          ∙ append-nil (joined c.lines) in
          (inl (ap joined same ∙ sym whole), rw same (All-from_recursion IsLine c.lines c.all))
      | inr some ↦
          let same : lines_of text ≡ c.lines ++ c.rest ∷ [] = cut_lines text c ∙ ap (λ l. c.lines ++ l) some.1 in (
            inr (ap joined same ∙ joined-append c.lines (c.rest ∷ [])
                ∙ sym (append_assoc (joined c.lines) c.rest (10 ∷ [])) ∙ ap (λ t. t ++ 10 ∷ []) (sym c.whole)),
            rw same (All-from_recursion IsLine (c.lines ++ c.rest ∷ [])
                (all_lines-append c.lines (c.rest ∷ []) c.all (c.partial, tt))),
          )
    ]

-- Where a text goes on, a line of it goes on, at its end alone; one that its LF ended stays.
pub record LineGoesOn (text more : List ℕ) (before : List (List ℕ)) (line : List ℕ) : Type 0 where
  pub tail : List ℕ
  pub after : List (List ℕ)
  pub lines : lines_of (text ++ more) ≡ before ++ (line ++ tail) ∷ after
  pub ended : bytes_of before + length line + 1 ≤ length text → tail ≡ []

pub goes_on : (text more : List ℕ) (before : List (List ℕ)) (line : List ℕ) (after : List (List ℕ)) →
    lines_of text ≡ before ++ line ∷ after → LineGoesOn text more before line
goes_on text more before line after e = by_cut (cut_text text)
  where
    last : (c : Cut text) (cs : List (List ℕ)) → before ≡ c.lines ++ cs → lines_of c.rest ≡ cs ++ line ∷ after →
        LineGoesOn text more before line
    last c cs f g = elim (rest_lines c.rest c.partial) [
      | inl none ↦ nil_not cs line after (sym none.1 ∙ g)
      | inr some ↦
          let o = one_cut c.rest cs line after (sym some.1 ∙ g) in
          let same : before ≡ c.lines = f ∙ ap (λ t. c.lines ++ t) o.0 ∙ append-nil c.lines in
          let k = continues c.rest more c.partial (omega arith) in
          let n = cut_length text c in
          let b = ap bytes_of same in
          let l = ap length o.1 in
          record {
            tail = k.0;
            after = k.1;
            lines = cut_more text c more ∙ ap (λ l. c.lines ++ l) k.2 ∙ rw (same, o.1) refl;
            ended = λ h. absurd (omega arith);
          }
    ]

    by_cut : Cut text → LineGoesOn text more before line
    by_cut c = elim (cut_cases c.lines (lines_of c.rest) before line after (sym (cut_lines text c) ∙ e)) [
      | inl w ↦ record {
        tail = [];
        after = w.0 ++ lines_of (c.rest ++ more);
        lines = cut_more text c more ∙ ap (λ l. l ++ lines_of (c.rest ++ more)) w.1
            ∙ append_assoc before (line ∷ w.0) (lines_of (c.rest ++ more)) ∙ rw (append-nil line) refl;
        ended = λ h. refl;
      }
      | inr w ↦ last c w.0 w.1 w.2
    ]

-- A line of a text that goes on behind these bytes, and begins within them: they have it, or its front.
pub record LineBegan (text : List ℕ) (before : List (List ℕ)) (line : List ℕ) : Type 0 where
  pub front : List ℕ
  pub tail : List ℕ
  pub after : List (List ℕ)
  pub line_is : line ≡ front ++ tail
  pub lines : lines_of text ≡ before ++ front ∷ after
  pub within : (n : ℕ) → n ≤ length line → bytes_of before + n ≤ length text → n ≤ length front
  pub ended : bytes_of before + length line + 1 ≤ length text → tail ≡ []

pub came_from : (text more : List ℕ) (before : List (List ℕ)) (line : List ℕ) (after : List (List ℕ)) →
    lines_of (text ++ more) ≡ before ++ line ∷ after → bytes_of before < length text → LineBegan text before line
came_from text more before line after e begins = by_cut (cut_text text)
  where
    at_rest : (c : Cut text) (cs : List (List ℕ)) (tail : List ℕ) (more_lines : List (List ℕ)) → 0 < length c.rest →
        lines_of c.rest ≡ c.rest ∷ [] →
        before ≡ c.lines ++ cs → (c.rest ++ tail) ∷ more_lines ≡ cs ++ line ∷ after → LineBegan text before line
    at_rest c [] tail more_lines some one f g =
        let same : before ≡ c.lines = f ∙ append-nil c.lines in
        let it : line ≡ c.rest ++ tail = cc in
        let n = cut_length text c in
        let b = ap bytes_of same in
        let l : length line ≡ length c.rest + length tail = ap length it ∙ length-append c.rest tail in
        record {
          front = c.rest;
          tail = tail;
          after = [];
          line_is = it;
          lines = cut_lines text c ∙ rw (one, same) refl;
          within = λ m h k. omega arith;
          ended = λ h. absurd (omega arith);
        }
    at_rest c (x ∷ cs) tail more_lines some one f g =
        let it : c.rest ++ tail ≡ x = cc in
        let n = cut_length text c in
        let b : bytes_of before ≡ bytes_of c.lines + (length x + 1 + bytes_of cs) = ap bytes_of f
        ∙ bytes_of-append c.lines (x ∷ cs) in
        let l : length c.rest + length tail ≡ length x = sym (length-append c.rest tail) ∙ ap length it in
        absurd (omega arith)

    last : (c : Cut text) (cs : List (List ℕ)) → before ≡ c.lines ++ cs →
        lines_of (c.rest ++ more) ≡ cs ++ line ∷ after → LineBegan text before line
    last c cs f g = elim (rest_lines c.rest c.partial) [
      | inl none ↦
          let n = cut_length text c in
          let b = ap bytes_of f ∙ bytes_of-append c.lines cs in
          let z : length c.rest ≡ 0 = ap length none.0 in
          absurd (omega arith)
      | inr some ↦
          let k = continues c.rest more c.partial (let s = some.0 in omega arith) in
          at_rest c cs k.0 k.1 some.0 some.1 f (sym k.2 ∙ g)
    ]

    by_cut : Cut text → LineBegan text before line
    by_cut c = elim (cut_cases c.lines (lines_of (c.rest ++ more)) before line after (sym (cut_more text c more) ∙ e)) [
      | inl w ↦ record {
        front = line;
        tail = [];
        after = w.0 ++ lines_of c.rest;
        line_is = sym (append-nil line);
        lines = cut_lines text c ∙ ap (λ l. l ++ lines_of c.rest) w.1
            ∙ append_assoc before (line ∷ w.0) (lines_of c.rest);
        within = λ n h k. h;
        ended = λ h. refl;
      }
      | inr w ↦ last c w.0 w.1 w.2
    ]

-- Where a line of a text stands in it: behind the lines before it, each with its LF.
pub record StandsIn (text : List ℕ) (before : List (List ℕ)) (line : List ℕ) : Type 0 where
  pub tail : List ℕ
  pub all : AllByRecursion IsLine before
  pub is_line : IsLine line
  pub whole : text ≡ joined before ++ (line ++ tail)

all_front : (before : List (List ℕ)) (line : List ℕ) (after : List (List ℕ)) →
    AllByRecursion IsLine (before ++ line ∷ after) → AllByRecursion IsLine before × IsLine line
all_front [] line after h = (tt, h.0)
all_front (b ∷ before) line after h = let f = all_front before line after h.1 in ((h.0, f.0), f.1)

pub stands_in : (text : List ℕ) (before : List (List ℕ)) (line : List ℕ) (after : List (List ℕ)) →
    lines_of text ≡ before ++ line ∷ after → StandsIn text before line
stands_in text before line after e = by_cut (cut_text text)
  where
    regroup : (a b c d : List ℕ) → (a ++ (b ++ 10 ∷ c)) ++ d ≡ a ++ (b ++ (10 ∷ c ++ d))
    regroup a b c d = append_assoc a (b ++ 10 ∷ c) d ∙ ap (λ t. a ++ t) (append_assoc b (10 ∷ c) d)

    last : (c : Cut text) (cs : List (List ℕ)) → before ≡ c.lines ++ cs → lines_of c.rest ≡ cs ++ line ∷ after →
        StandsIn text before line
    last c cs f g = elim (rest_lines c.rest c.partial) [
      | inl none ↦ nil_not cs line after (sym none.1 ∙ g)
      | inr some ↦
          let o = one_cut c.rest cs line after (sym some.1 ∙ g) in
          let same : before ≡ c.lines = f ∙ ap (λ t. c.lines ++ t) o.0 ∙ append-nil c.lines in
          record {
            tail = [];
            all = rw same c.all;
            is_line = rw o.1 c.partial;
            whole = c.whole
                ∙ rw (append-nil line, same, o.1) refl;
          }
    ]

    by_cut : Cut text → StandsIn text before line
    by_cut c = elim (cut_cases c.lines (lines_of c.rest) before line after (sym (cut_lines text c) ∙ e)) [
      | inl w ↦
          let all = all_front before line w.0 (let a = c.all in rw w.1 at a) in
          record {
            tail = 10 ∷ joined w.0 ++ c.rest;
            all = all.0;
            is_line = all.1;
            whole = c.whole ∙ ap (λ l. joined l ++ c.rest) w.1
                ∙ ap (λ t. t ++ c.rest) (joined-append before (line ∷ w.0))
                ∙ regroup (joined before) line (joined w.0) c.rest;
          }
      | inr w ↦ last c w.0 w.1 w.2
    ]

pub joined_whole : (lines : List (List ℕ)) → All IsLine lines → lines_of (joined lines) ≡ lines
joined_whole lines h = ap lines_of (sym (append-nil (joined lines)))
    ∙ lines_of-joined lines [] (recursion_from_All IsLine lines h) ∙ append-nil lines

pub joined_partial : (lines : List (List ℕ)) (last : List ℕ) → All IsLine lines → IsLine last → 0 < length last →
    lines_of (joined lines ++ last) ≡ lines ++ last ∷ []
joined_partial lines last h l some = lines_of-joined lines last (recursion_from_All IsLine lines h)
    ∙ ap (λ r. lines ++ r) (lines_of-last last l some)
