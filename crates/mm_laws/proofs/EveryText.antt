-- Every text spells a file or has a first fault.
use Rattle.std.proofs.Common.{inl, inr, ◌⊎◌, ◌≡◌, ℕ, ◌+◌, ◌<◌, ◌≤◌, Bool, true, false, cond, List, [], ◌∷◌, ◌++◌}
use Rattle.std.proofs.Common.{length, refl, sym, ◌∙◌, ap, arith, append_assoc, length-append}
use Rattle.std.proofs.lemmas.Bool.{cases_lt}
use Rattle.std.proofs.lemmas.Bool.Decides.{nat_tests}
use Rattle.std.proofs.lemmas.List.{append-nil}
use Rattle.std.proofs.lemmas.List.Splits.{length-slice_split}
use Rattle.std.specs.Prelude.{Option, Some, None, Result, Ok, Err, map, flat_map, nat_lt, nat_eq}
use Rattle.std.specs.List.{slice_split, onto_first}
use Rattle.mm_text.specs.Lines.{lines_of, without_empty_last, bytes_of, line_at, counted, counts, is_limited, content}
use Rattle.mm_text.specs.Lines.{is_line_feed, OverrunsAt}
use Rattle.mm_text.specs.Judging.{◌>>=◌, refuse_if, banner, size, entry, cells_of, fault_of}
use Rattle.mm_text.specs.Texts.{fault_behind, lack_of, Spells, FirstFault}
use Rattle.mm_text.specs.Stages.{Clean}
use Rattle.mm_text.proofs.Clean.{nil_not, clean_none, clean_more, first_wrong, first_overrun, first_too_long}
use Rattle.mm_text.proofs.Clean.{first_missing, overrun_of, no_overrun_of}
use Rattle.mm_text.proofs.Cuts.{cut_cases, bytes_of-append, counted-push_yes, counted-push_no}
use Rattle.mm_text.specs.declared.fault.MmKind.{MmKind}
use Rattle.mm_text.specs.declared.fault.MmKind.TheVariants.{LineTooLong, TooLong, ExtraText, TooFewEntries}
use Rattle.cells.specs.declared.cell.Cell.{Cell}
use Rattle.mm_text.specs.declared.size.Size.{Size}
use Rattle.mm_text.specs.declared.limits.TextLimits.{TextLimits}
use Rattle.mm_text.proofs.BoundLemmas.{ok_bind, ok_refuse}

-- the text spells some file
abbrev pub SpellsSome : List ℕ → TextLimits → Type 0
SpellsSome text limits = (rows cols : ℕ) × (cells : List Cell) × Spells text limits rows cols cells

-- the text has some first fault
abbrev pub HasFirstFault : List ℕ → TextLimits → Type 0
HasFirstFault text limits = (kind : MmKind) × (line : ℕ) × FirstFault text limits kind line

-- The lines of a text take all its bytes, and one more at most, for a last line without LF.
onto_bytes : (x : ℕ) (parts : List (List ℕ)) → 0 < length parts → bytes_of (onto_first x parts) ≡ bytes_of parts + 1
onto_bytes x [] h = absurd (omega arith)
onto_bytes x (part ∷ parts) h = omega arith

parts_bytes : (p : ℕ → Bool) (xs : List ℕ) → bytes_of (slice_split p xs) ≡ length xs + 1
parts_bytes p [] = omega arith
parts_bytes p (x ∷ xs) = by_test (p x) (parts_bytes p xs)
  where
    by_test : (v : Bool) → bytes_of (slice_split p xs) ≡ length xs + 1 →
        bytes_of (cond v ([] ∷ slice_split p xs) (onto_first x (slice_split p xs))) ≡ length (x ∷ xs) + 1
    by_test true e = omega (arith, e)
    by_test false e = omega (arith, onto_bytes x (slice_split p xs) (omega (arith, length-slice_split p xs)), e)

last_bytes : (parts : List (List ℕ)) → (bytes_of (without_empty_last parts) ≤ bytes_of parts) ×
    (bytes_of parts ≤ bytes_of (without_empty_last parts) + 1)
last_bytes [] = (omega arith, omega arith)
last_bytes (line ∷ []) = by_test (nat_eq (length line) 0) refl
  where
    by_test : (v : Bool) → nat_eq (length line) 0 ≡ v →
        (bytes_of (cond v [] (line ∷ [])) ≤ bytes_of (line ∷ [])) ×
        (bytes_of (line ∷ []) ≤ bytes_of (cond v [] (line ∷ [])) + 1)
    by_test true e = let z : length line ≡ 0 = grind (arith, nat_tests) in (omega arith, omega arith)
    by_test false e = (omega arith, omega arith)
last_bytes (line ∷ next ∷ more) = let h = last_bytes (next ∷ more) in (omega (arith, h.0), omega (arith, h.1))

pub lines_bytes : (text : List ℕ) → (length text ≤ bytes_of (lines_of text)) ×
    (bytes_of (lines_of text) ≤ length text + 1)
lines_bytes text = let h = last_bytes (slice_split is_line_feed text) in let e = parts_bytes is_line_feed text in
    (omega (arith, h.1, e), omega (arith, h.0, e))

pub line_bytes : (text : List ℕ) (before : List (List ℕ)) (line : List ℕ) (after : List (List ℕ)) →
    lines_of text ≡ before ++ line ∷ after → bytes_of before + length line ≤ length text
line_bytes text before line after cut = let h = lines_bytes text in let e = ap bytes_of cut in
    omega (arith, bytes_of-append before (line ∷ after), h.1, e)

-- Each of these lines that count is right behind those before it.
abbrev EachRight : TextLimits → List (List ℕ) → Type 0
EachRight limits lines = (before after : List (List ℕ)) (line : List ℕ) → lines ≡ before ++ line ∷ after →
    fault_behind limits before line ≡ None

right_more : (limits : TextLimits) (lines : List (List ℕ)) (line : List ℕ) → EachRight limits lines →
    fault_behind limits lines line ≡ None → EachRight limits (lines ++ line ∷ [])
right_more limits lines line each one before after l e = elim (cut_cases lines (line ∷ []) before l after e) [
  | inl w ↦ each before w.0 l w.1
  | inr w ↦ last w.0 w.1 w.2
]
  where
    last : (cs : List (List ℕ)) → before ≡ lines ++ cs → line ∷ [] ≡ cs ++ l ∷ after →
        fault_behind limits before l ≡ None
    last [] f g = let same : before ≡ lines = f ∙ append-nil lines in let it : l ≡ line = cc in rw (same, it) one
    last (c ∷ cs) f g = let t : [] ≡ cs ++ l ∷ after = cc in nil_not cs l after t

fault_none : {A : Type 0} (r : Result A MmKind) → fault_of r ≡ None → (x : A) × (r ≡ Ok x)
fault_none (Ok x) e = (x, refl)
fault_none (Err k) e = cc

-- a further entry is one that was declared
entry_right : (limits : TextLimits) (first second : List ℕ) (symmetric : Bool) (s : Size) (before : List (List ℕ))
    (line : List ℕ) →
    banner first ≡ Ok symmetric → size symmetric limits.max_entries second ≡ Ok s →
    fault_behind limits (first ∷ second ∷ before) line ≡ None →
    (length before < s.entries) × ((cell : Cell) × (entry s.rows s.cols line ≡ Ok cell))
entry_right limits first second symmetric s before line b z e =
    by_test (nat_lt (length before) s.entries) refl (rw (b, z) at e)
  where
    by_test : (v : Bool) → nat_lt (length before) s.entries ≡ v →
        fault_of (cond v (entry s.rows s.cols line) (Err ExtraText)) ≡ None →
        (length before < s.entries) × ((cell : Cell) × (entry s.rows s.cols line ≡ Ok cell))
    by_test true t f = (grind (arith, nat_tests), fault_none (entry s.rows s.cols line) f)
    by_test false t f = cc

entries_of : (judge : List ℕ → Result Cell MmKind) (lines : List (List ℕ)) →
    ((before after : List (List ℕ)) (line : List ℕ) → lines ≡ before ++ line ∷ after → (cell : Cell) ×
    (judge line ≡ Ok cell)) →
    (cells : List Cell) × (map judge lines ≡ map Ok cells)
entries_of judge [] each = ([], refl)
entries_of judge (line ∷ lines) each =
    let one = each [] lines line refl in
    let more = entries_of judge lines (λ before after l e. each (line ∷ before) after l (ap (λ ls. line ∷ ls) e)) in
    (one.0 ∷ more.0, let f = one.1 in let g = more.1 in cc)

last_cut : {A : Type 0} (x : A) (xs : List A) → (before : List A) × (last : A) × (x ∷ xs ≡ before ++ last ∷ [])
last_cut x [] = ([], x, refl)
last_cut x (y ∷ ys) = let r = last_cut y ys in (x ∷ r.0, r.1, ap (λ l. x ∷ l) r.2)

-- no more lines than places before one
few_lines : {A : Type 0} (most : ℕ) (lines : List A) →
    ((before after : List A) (line : A) → lines ≡ before ++ line ∷ after → length before < most) → length lines ≤ most
few_lines most [] each = omega arith
few_lines most (x ∷ xs) each =
    let c = last_cut x xs in
    let l = each c.0 [] c.1 c.2 in
    let e = ap length c.2 in
    omega (arith, length-append c.0 (c.1 ∷ []), l, e)

-- what the counted lines spell, where each is right and none is missing
module _ (limits : TextLimits) (text : List ℕ) (clean : Clean limits (lines_of text))
    (fits : length text ≤ limits.max_bytes) where
  right_spells : (lines : List (List ℕ)) → counted (lines_of text) ≡ lines → EachRight limits lines →
      lack_of limits lines ≡ None → SpellsSome text limits
  right_spells [] is each lack = cc
  right_spells (first ∷ []) is each lack = cc
  right_spells (first ∷ second ∷ others) is each lack =
      let all = fault_none (banner first >>= λ symmetric. size symmetric limits.max_entries second >>= λ s. refuse_if
      (nat_lt (length others) s.entries) TooFewEntries) lack in
      let b = ok_bind (banner first) _ all.0 all.1 in
      let z = ok_bind (size b.0 limits.max_entries second) _ all.0 b.2 in
      let enough = ok_refuse (nat_lt (length others) z.0.entries) TooFewEntries all.0 z.2 in
      let one : (before after : List (List ℕ)) (line : List ℕ) → others ≡ before ++ line ∷ after →
      (length before < z.0.entries) × ((cell : Cell) × (entry z.0.rows z.0.cols line ≡ Ok cell)) =
      λ before after line e. entry_right limits first second b.0 z.0 before line b.1 z.1
      (each (first ∷ second ∷ before) after line (ap (λ ls. first ∷ second ∷ ls) e)) in
      let few = few_lines z.0.entries others (λ before after line e. (one before after line e).0) in
      let cells = entries_of (entry z.0.rows z.0.cols) others (λ before after line e. (one before after line e).1) in
      let number_is : z.0.entries ≡ length others = grind (arith, nat_tests, few, enough) in
      let size_is : z.0 ≡ record { rows = z.0.rows; cols = z.0.cols; entries = length others } =
      same_size z.0 (length others) number_is in (
        z.0.rows,
        z.0.cols,
        flat_map (cells_of b.0) cells.0,
        record {
          fits = fits;
          short = λ before after line cut. (clean.each before after line cut).short;
          first = first;
          second = second;
          others = others;
          lines = is;
          symmetric = b.0;
          is_banner = b.1;
          is_size = z.1 ∙ ap Ok size_is;
          entries = cells.0;
          are_entries = cells.1;
          cells_are = refl {a = flat_map (cells_of b.0) cells.0};
        },
      )
    where
      same_size : (s : Size) (n : ℕ) → s.entries ≡ n → s ≡ record { rows = s.rows; cols = s.cols; entries = n }
      same_size s n e = rw (← e) refl

  at_end : EachRight limits (counted (lines_of text)) → SpellsSome text limits ⊎ HasFirstFault text limits
  at_end each = by_lack (lack_of limits (counted (lines_of text))) refl
    where
      by_lack : (o : Option MmKind) → lack_of limits (counted (lines_of text)) ≡ o → SpellsSome text limits ⊎
          HasFirstFault text limits
      by_lack None e = inl (right_spells (counted (lines_of text)) refl each e)
      by_lack (Some kind) e = inr (kind, line_at text (length text), first_missing text limits clean fits kind e)

-- Behind clean lines, which are within the limit, the next is clean and within it too, or bears the first fault.
module _ (text : List ℕ) (limits : TextLimits) (done : List (List ℕ)) (line : List ℕ) (after : List (List ℕ))
    (clean : Clean limits done) (cut : lines_of text ≡ done ++ line ∷ after) where
  too_long : limits.max_bytes < length text → limits.max_bytes < bytes_of done + length line + 1 →
      ((c : ℕ) → is_limited done line ≡ true → OverrunsAt line c → limits.max_bytes < bytes_of done + c) →
      HasFirstFault text limits
  too_long longer beyond no_overrun = (
    TooLong,
    line_at text limits.max_bytes,
    first_too_long text limits done line after clean cut longer beyond no_overrun,
  )

  overrun : (c : ℕ) → is_limited done line ≡ true → OverrunsAt line c → HasFirstFault text limits
  overrun c limited o = by_length (cases_lt limits.max_bytes (length text))
      (cases_lt limits.max_bytes (bytes_of done + c))
    where
      line_long : (limits.max_bytes < length text → bytes_of done + c ≤ limits.max_bytes) → HasFirstFault text limits
      line_long fits = let i = o.within in let l = line_bytes text done line after cut in (
        LineTooLong,
        length done + 1,
        first_overrun text limits done line after clean cut c limited o fits
            (omega arith),
      )

      by_length : (limits.max_bytes < length text) ⊎ (length text ≤ limits.max_bytes) →
          (limits.max_bytes < bytes_of done + c) ⊎ (bytes_of done + c ≤ limits.max_bytes) → HasFirstFault text limits
      by_length (inr h) far = line_long (λ l. absurd (omega arith))
      by_length (inl h) (inr near) = line_long (λ l. near)
      by_length (inl h) (inl far) = let i = o.within in
          too_long h (omega arith) (λ d lim q. let s = shortest d q in omega arith)
        where
          shortest : (d : ℕ) → OverrunsAt line d → c ≤ d
          shortest d q = elim (cases_lt d c) [
            | inl l ↦ absurd (let a = o.shortest d l in let b = q.long in omega arith)
            | inr g ↦ g
          ]

  abbrev StaysClean : Type 0
  StaysClean = Clean limits (done ++ line ∷ []) × EachRight limits (counted (done ++ line ∷ [])) ×
      (limits.max_bytes < length text → bytes_of (done ++ line ∷ []) ≤ limits.max_bytes)

  goes_on : EachRight limits (counted done) → HasFirstFault text limits ⊎ StaysClean
  goes_on each = by_limit (is_limited done line) refl (cases_lt 1024 (length (content line)))
    where
      wrong : (is_limited done line ≡ true → length (content line) ≤ 1024) →
          (limits.max_bytes < length text → bytes_of done + length line + 1 ≤ limits.max_bytes) →
          (k : MmKind) → counts done line ≡ true → fault_behind limits (counted done) (content line) ≡ Some k →
          HasFirstFault text limits
      wrong short within k c e = let l = line_bytes text done line after cut in
          (k, length done + 1, first_wrong text limits done line after clean cut short k c e within (omega arith))

      one_more : (limits.max_bytes < length text → bytes_of done + length line + 1 ≤ limits.max_bytes) →
          limits.max_bytes < length text → bytes_of (done ++ line ∷ []) ≤ limits.max_bytes
      one_more within l = let w = within l in omega (arith, bytes_of-append done (line ∷ []), w)

      by_words : (is_limited done line ≡ true → length (content line) ≤ 1024) →
          (limits.max_bytes < length text → bytes_of done + length line + 1 ≤ limits.max_bytes) →
          (v : Bool) → counts done line ≡ v → (o : Option MmKind) →
          fault_behind limits (counted done) (content line) ≡ o → HasFirstFault text limits ⊎ StaysClean
      by_words short within false c o e =
          inr (
            clean_more limits done line clean (record { short = short; right = λ t. cc }),
            rw (counted-push_no done line c) each,
            one_more within,
          )
      by_words short within true c None e =
          inr (
            clean_more limits done line clean (record { short = short; right = λ t. e }),
            rw (counted-push_yes done line c) (right_more limits (counted done) (content line) each e),
            one_more within,
          )
      by_words short within true c (Some k) e = inl (wrong short within k c e)

      by_place : (is_limited done line ≡ true → length (content line) ≤ 1024) → (limits.max_bytes < length text) ⊎
          (length text ≤ limits.max_bytes) →
          (limits.max_bytes < bytes_of done + length line + 1) ⊎ (bytes_of done + length line + 1 ≤ limits.max_bytes) →
          HasFirstFault text limits ⊎ StaysClean
      by_place short (inl longer) (inl beyond) = inl
          (too_long longer beyond (λ c lim o. no_overrun_of line c (short lim) o))
      by_place short h (inr near) = by_words short (λ l. near) (counts done line) refl
          (fault_behind limits (counted done) (content line)) refl
      by_place short (inr fits) h = by_words short (λ l. absurd (omega arith)) (counts done line) refl
          (fault_behind limits (counted done) (content line)) refl

      by_limit : (v : Bool) → is_limited done line ≡ v → (1024 < length (content line)) ⊎
          (length (content line) ≤ 1024) → HasFirstFault text limits ⊎ StaysClean
      by_limit true e (inl long) = let o = overrun_of line long in inl (overrun o.0 e o.1)
      by_limit false e h = by_place (λ t. cc) (cases_lt limits.max_bytes (length text))
          (cases_lt limits.max_bytes (bytes_of done + length line + 1))
      by_limit v e (inr short) = by_place (λ t. short) (cases_lt limits.max_bytes (length text))
          (cases_lt limits.max_bytes (bytes_of done + length line + 1))

-- line after line, to the end of the text
walk : (text : List ℕ) (limits : TextLimits) (done rest : List (List ℕ)) → lines_of text ≡ done ++ rest →
    Clean limits done → EachRight limits (counted done) →
    (limits.max_bytes < length text → bytes_of done ≤ limits.max_bytes) → SpellsSome text limits ⊎
    HasFirstFault text limits
walk text limits done [] cut clean each within =
    let all : done ≡ lines_of text = sym (append-nil done) ∙ sym cut in
    let bytes = lines_bytes text in
    let b = ap bytes_of all in
    let fits : length text ≤ limits.max_bytes = elim (cases_lt limits.max_bytes (length text)) [
      | inl longer ↦ let w = within longer in omega (arith, bytes.0, b, w)
      | inr short ↦ short
    ] in
    at_end limits text (rw (← all) clean) fits (rw (← all) each)
walk text limits done (line ∷ after) cut clean each within = elim (goes_on text limits done line after clean cut each) [
  | inl fault ↦ inr fault
  | inr more ↦ walk text limits (done ++ line ∷ []) after (cut ∙ sym (append_assoc done (line ∷ []) after)) more.0
      more.1 more.2
]

pub spells_or_faulty : (text : List ℕ) (limits : TextLimits) → SpellsSome text limits ⊎ HasFirstFault text limits
spells_or_faulty text limits =
    walk text limits [] (lines_of text) refl (clean_none limits) (λ before after line e. nil_not before line after e)
    (λ l. omega arith)
