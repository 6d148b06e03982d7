-- Texts that differ in how their lines end, or in lines that are skipped, spell the same.
use Rattle.std.proofs.Common.{◌≡◌, ℕ, ◌-◌, ◌≤◌, Bool, true, false, not, ◌||◌, cond, List, [], ◌∷◌, ◌++◌, length, refl}
use Rattle.std.proofs.Common.{sym, ◌∙◌, ap, arith, length-append}
use Rattle.std.proofs.lemmas.List.{get_or_push}
use Rattle.std.proofs.lemmas.List.Elements.{filter-append, recursion_from_All}
use Rattle.std.proofs.Math.Seq.{take-append_seam}
use Rattle.std.specs.Prelude.{All, map, filter}
use Rattle.std.specs.List.{AllByRecursion, list_all}
use Rattle.mm_text.specs.Lines.{lines_of, content, counted, is_limited, is_comment, is_skipped, is_blank}
use Rattle.mm_text.specs.Texts.{Spells}
use Rattle.cells.specs.declared.cell.Cell.{Cell}
use Rattle.mm_text.specs.declared.limits.TextLimits.{TextLimits}

-- no line that has a limit is longer
abbrev ShortLines : List (List ℕ) → Type 0
ShortLines lines = (before after : List (List ℕ)) (line : List ℕ) → lines ≡ before ++ line ∷ after →
    is_limited before line ≡ true → length (content line) ≤ 1024

-- the same of a line behind the first
abbrev IsShort : List ℕ → Type 0
IsShort line = is_comment line ≡ false → length (content line) ≤ 1024

rest_short : (rest : List (List ℕ)) → ((before after : List (List ℕ)) (line : List ℕ) → rest ≡ before ++ line ∷ after →
    IsShort line) → AllByRecursion IsShort rest
rest_short [] h = tt
rest_short (line ∷ rest) h = (
  h [] rest line refl,
  rest_short rest (λ before after l e. h (line ∷ before) after l (ap (λ ls. line ∷ ls) e)),
)

short_parts : (first : List ℕ) (rest : List (List ℕ)) → ShortLines (first ∷ rest) → (length (content first) ≤ 1024) ×
    AllByRecursion IsShort rest
short_parts first rest h = (
  h [] rest first refl refl,
  rest_short rest (λ before after line e n. h (first ∷ before) after line (ap (λ ls. first ∷ ls) e) (ap not n)),
)

short_at : (rest before : List (List ℕ)) (line : List ℕ) (after : List (List ℕ)) → AllByRecursion IsShort rest →
    rest ≡ before ++ line ∷ after → IsShort line
short_at [] [] line after h e = cc
short_at [] (b ∷ before) line after h e = cc
short_at (l ∷ rest) [] line after h e = let it : line ≡ l = cc in rw it h.0
short_at (l ∷ rest) (b ∷ before) line after h e = let t : rest ≡ before ++ line ∷ after = cc in
    short_at rest before line after h.1 t

not_true : (v : Bool) → not v ≡ true → v ≡ false
not_true true e = cc
not_true false e = refl

parts_short : (first : List ℕ) (rest : List (List ℕ)) → length (content first) ≤ 1024 → AllByRecursion IsShort rest →
    ShortLines (first ∷ rest)
parts_short first rest one all [] after line e limited = let it : line ≡ first = cc in rw it one
parts_short first rest one all (b ∷ before) after line e limited =
    let t : rest ≡ before ++ line ∷ after = cc in
    short_at rest before line after all t (not_true (is_comment line) limited)

-- What a text spells hangs on its lines that count alone, where both limits hold.
same_spelled : (text text' : List ℕ) (limits : TextLimits) (rows cols : ℕ) (cells : List Cell) →
    counted (lines_of text) ≡ counted (lines_of text') →
    length text' ≤ limits.max_bytes → ShortLines (lines_of text') → Spells text limits rows cols cells →
    Spells text' limits rows cols cells
same_spelled text text' limits rows cols cells same fits short s = record {
  fits = fits;
  short = short;
  first = s.first;
  second = s.second;
  others = s.others;
  lines = sym same ∙ s.lines;
  symmetric = s.symmetric;
  is_banner = s.is_banner;
  is_size = s.is_size;
  entries = s.entries;
  are_entries = s.are_entries;
  cells_are = s.cells_are;
}

pub spells_lines : (text text' : List ℕ) (limits : TextLimits) (rows cols : ℕ) (cells : List Cell) →
    lines_of text ≡ lines_of text' →
    length text' ≤ limits.max_bytes → Spells text limits rows cols cells → Spells text' limits rows cols cells
spells_lines text text' limits rows cols cells e fits s =
    same_spelled text text' limits rows cols cells (ap counted e) fits (rw (← e) s.short) s

-- A line that is skipped.
abbrev kept : List ℕ → Bool
kept line = not (is_skipped line)

kept_same : (before after : List (List ℕ)) (line : List ℕ) → is_skipped line ≡ true →
    filter kept (before ++ after) ≡ filter kept (before ++ line ∷ after)
kept_same before after line h = filter-append kept before after
    ∙ sym (filter-append kept before (line ∷ after) ∙ rw h refl)

counted_same : (first : List ℕ) (before after : List (List ℕ)) (line : List ℕ) → is_skipped line ≡ true →
    counted (first ∷ before ++ after) ≡ counted (first ∷ before ++ line ∷ after)
counted_same first before after line h = ap (λ ls. content first ∷ map content ls) (kept_same before after line h)

all_more : (before after : List (List ℕ)) (line : List ℕ) → IsShort line → AllByRecursion IsShort (before ++ after) →
    AllByRecursion IsShort (before ++ line ∷ after)
all_more [] after line h all = (h, all)
all_more (b ∷ before) after line h all = (all.0, all_more before after line h all.1)

all_less : (before after : List (List ℕ)) (line : List ℕ) → AllByRecursion IsShort (before ++ line ∷ after) →
    AllByRecursion IsShort (before ++ after)
all_less [] after line all = all.1
all_less (b ∷ before) after line all = (all.0, all_less before after line all.1)

module _ (text text' : List ℕ) (limits : TextLimits) (rows cols : ℕ) (cells : List Cell) (first : List ℕ)
    (before after : List (List ℕ)) (line : List ℕ)
    (is : lines_of text ≡ first ∷ before ++ after) (is' : lines_of text' ≡ first ∷ before ++ line ∷ after)
    (skipped : is_skipped line ≡ true) where
  same_counted : counted (lines_of text) ≡ counted (lines_of text')
  same_counted = ap counted is ∙ counted_same first before after line skipped ∙ ap counted (sym is')

  pub skipped_more : IsShort line → length text' ≤ limits.max_bytes → Spells text limits rows cols cells →
      Spells text' limits rows cols cells
  skipped_more short fits s =
      let p = short_parts first (before ++ after) (rw (← is) s.short) in
      same_spelled text text' limits rows cols cells same_counted fits
      (rw is' (parts_short first (before ++ line ∷ after) p.0 (all_more before after line short p.1))) s

  pub skipped_less : length text ≤ limits.max_bytes → Spells text' limits rows cols cells →
      Spells text limits rows cols cells
  skipped_less fits s =
      let p = short_parts first (before ++ line ∷ after) (rw (← is') s.short) in
      same_spelled text' text limits rows cols cells (sym same_counted) fits
      (rw is (parts_short first (before ++ after) p.0 (all_less before after line p.1))) s

-- A line that ends with CR before its LF.
abbrev pub with_return : List ℕ → List ℕ
with_return line = line ++ 13 ∷ []

-- a line with no CR at its end
abbrev IsPlain : List ℕ → Type 0
IsPlain line = content line ≡ line

content_return : (line : List ℕ) → content (with_return line) ≡ line
content_return line =
    let n : length (with_return line) - 1 ≡ length line = omega (arith, length-append line (13 ∷ [])) in
    rw n (rw (get_or_push line 13 0 (length line) refl) (take-append_seam line (13 ∷ [])))

comment_return : (line : List ℕ) → is_comment (with_return line) ≡ is_comment line
comment_return [] = refl
comment_return (b ∷ line) = refl

skipped_return : (line : List ℕ) → IsPlain line → is_skipped (with_return line) ≡ is_skipped line
skipped_return line plain = rw (comment_return line, content_return line)
    (ap (λ l. is_comment line || list_all is_blank l) (sym plain))

kept_returns : (lines : List (List ℕ)) → AllByRecursion IsPlain lines →
    map content (filter kept (map with_return lines)) ≡ map content (filter kept lines)
kept_returns [] h = refl
kept_returns (line ∷ lines) h = rw (skipped_return line h.0) (by_test (kept line) (kept_returns lines h.1))
  where
    by_test : (v : Bool) → map content (filter kept (map with_return lines)) ≡ map content (filter kept lines) →
        map content (cond v (with_return line ∷ filter kept (map with_return lines))
        (filter kept (map with_return lines))) ≡ map content (cond v (line ∷ filter kept lines) (filter kept lines))
    by_test true e = let c = content_return line in let p = h.0 in cc
    by_test false e = e

counted_returns : (lines : List (List ℕ)) → AllByRecursion IsPlain lines →
    counted (map with_return lines) ≡ counted lines
counted_returns [] h = refl
counted_returns (first ∷ rest) h = let c = content_return first in let p = h.0 in let k = kept_returns rest h.1 in cc

short_return : (line : List ℕ) → IsPlain line → IsShort line → IsShort (with_return line)
short_return line plain h n = rw (content_return line) (let s = h (sym (comment_return line) ∙ n) in
    let l = ap length plain in omega arith)

return_short : (line : List ℕ) → IsPlain line → IsShort (with_return line) → IsShort line
return_short line plain h n = let s = h (comment_return line ∙ n) in let l = ap length plain in
    let c = ap length (content_return line) in omega arith

shorts_return : (rest : List (List ℕ)) → AllByRecursion IsPlain rest → AllByRecursion IsShort rest →
    AllByRecursion IsShort (map with_return rest)
shorts_return [] p h = tt
shorts_return (line ∷ rest) p h = (short_return line p.0 h.0, shorts_return rest p.1 h.1)

returns_short : (rest : List (List ℕ)) → AllByRecursion IsPlain rest → AllByRecursion IsShort (map with_return rest) →
    AllByRecursion IsShort rest
returns_short [] p h = tt
returns_short (line ∷ rest) p h = (return_short line p.0 h.0, returns_short rest p.1 h.1)

lines_return : (lines : List (List ℕ)) → AllByRecursion IsPlain lines → ShortLines lines →
    ShortLines (map with_return lines)
lines_return [] p h = h
lines_return (first ∷ rest) p h =
    let s = short_parts first rest h in
    let l = ap length p.0 in
    let c = ap length (content_return first) in
    parts_short (with_return first) (map with_return rest) (omega (arith, s.0, l, c)) (shorts_return rest p.1 s.1)

returns_lines : (lines : List (List ℕ)) → AllByRecursion IsPlain lines → ShortLines (map with_return lines) →
    ShortLines lines
returns_lines [] p h = h
returns_lines (first ∷ rest) p h =
    let s = short_parts (with_return first) (map with_return rest) h in
    let l = ap length p.0 in
    let c = ap length (content_return first) in
    parts_short first rest (omega (arith, s.0, l, c)) (returns_short rest p.1 s.1)

module _ (text text' : List ℕ) (limits : TextLimits) (rows cols : ℕ) (cells : List Cell)
    (plain : All (λ line. content line ≡ line) (lines_of text))
    (is : lines_of text' ≡ map with_return (lines_of text)) where
  all_plain : AllByRecursion IsPlain (lines_of text)
  all_plain = recursion_from_All IsPlain (lines_of text) plain

  same_returns : counted (lines_of text) ≡ counted (lines_of text')
  same_returns = sym (ap counted is ∙ counted_returns (lines_of text) all_plain)

  pub returns_more : length text' ≤ limits.max_bytes → Spells text limits rows cols cells →
      Spells text' limits rows cols cells
  returns_more fits s = same_spelled text text' limits rows cols cells same_returns fits
      (rw is (lines_return (lines_of text) all_plain s.short)) s

  pub returns_less : length text ≤ limits.max_bytes → Spells text' limits rows cols cells →
      Spells text limits rows cols cells
  returns_less fits s = same_spelled text' text limits rows cols cells (sym same_returns) fits
      (returns_lines (lines_of text) all_plain (rw (← is) s.short)) s
