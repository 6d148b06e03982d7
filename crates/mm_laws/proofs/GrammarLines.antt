-- What a size line and an entry's line look like.
use Rattle.std.proofs.Common.{◌≡◌, ℕ, ◌+◌, ◌<◌, ◌≤◌, Bool, true, false, not, ◌&&◌, List, [], ◌∷◌, length, drop, refl}
use Rattle.std.proofs.Common.{ap, subst, arith}
use Rattle.std.proofs.lemmas.Bool.Decides.{nat_tests}
use Rattle.std.specs.Prelude.{Ok, nat_lt, nat_eq}
use Rattle.cells.specs.Bounds.{IsDimension}
use Rattle.mm_text.specs.Words.{words, word, has_word, is_negative}
use Rattle.mm_text.specs.Judging.{number, is_dimension, size, index, entry}
use Rattle.mm_laws.specs.Grammar.{HasWords, Writes, IsSizeLine, IsEntryLine}
use Rattle.mm_laws.proofs.GrammarWords.{has_its_words, words_are}
use Rattle.mm_laws.proofs.GrammarNumbers.{index_from, index_to, number_writes, writes_number, writes_no_minus}
use Rattle.mm_laws.proofs.GrammarNumbers.{writes_some}
use Rattle.mm_laws.proofs.SpellsFacts.{refuse_first, size_bounds, entry_within}
use Rattle.mm_text.specs.declared.fault.MmKind.TheVariants.{BadSize, BadDimension, NotSquare, TooManyEntries, BadEntry}
use Rattle.mm_text.specs.declared.fault.MmKind.TheVariants.{Negative}
use Rattle.cells.specs.declared.cell.Cell.{Cell}
use Rattle.mm_text.specs.declared.size.Size.{Size}
use Rattle.mm_text.proofs.BoundLemmas.{ok_bind}

-- a third word, and none behind it
three_of : (ws : List (List ℕ)) → 0 < length (word (drop 2 ws)) → has_word (drop 3 ws) ≡ false →
    ws ≡ word ws ∷ word (drop 1 ws) ∷ word (drop 2 ws) ∷ []
three_of [] some none = absurd (omega arith)
three_of (a ∷ []) some none = absurd (omega arith)
three_of (a ∷ b ∷ []) some none = absurd (omega arith)
three_of (a ∷ b ∷ c ∷ []) some none = refl
three_of (a ∷ b ∷ c ∷ d ∷ ds) some none = absurd (let l : nat_lt 0 (length (d ∷ ds)) ≡ true = grind (arith, nat_tests)
    in cc)

pub entry_line_is : (rows cols : ℕ) (line : List ℕ) (cell : Cell) → entry rows cols line ≡ Ok cell →
    IsEntryLine rows cols line cell
unfolding entry
entry_line_is rows cols line cell e =
    let within = entry_within rows cols line cell e in
    let r = ok_bind (index rows (word (words line))) _ cell e in
    let c = ok_bind (index cols (word (drop 1 (words line)))) _ cell r.2 in
    let n = refuse_first (is_negative (word (drop 2 (words line)))) Negative _ cell c.2 in
    let k = ok_bind (number BadEntry (word (drop 2 (words line)))) _ cell n.1 in
    let m = refuse_first (has_word (drop 3 (words line))) BadEntry _ cell k.2 in
    let is : ◌≡◌ {A = Cell} (record { row = r.0; col = c.0; count = k.0 }) cell = let f = m.1 in cc in
    let row : r.0 ≡ cell.row = ap (λ x. x.row) is in
    let col : c.0 ≡ cell.col = ap (λ x. x.col) is in
    let count : k.0 ≡ cell.count = ap (λ x. x.count) is in
    let third : Writes (word (drop 2 (words line))) cell.count =
    subst (Writes (word (drop 2 (words line)))) count (number_writes BadEntry (word (drop 2 (words line))) k.0 k.1)
    in
    record {
      row = word (words line);
      col = word (drop 1 (words line));
      count = word (drop 2 (words line));
      has_words = subst (HasWords line) (three_of (words line)
          (writes_some (word (drop 2 (words line))) cell.count third) m.0) (has_its_words line);
      row_is = subst (λ i. Writes (word (words line)) (i + 1)) row
          (number_writes BadEntry (word (words line)) (r.0 + 1) (index_to rows r.0 (word (words line)) r.1));
      col_is = subst (λ i. Writes (word (drop 1 (words line))) (i + 1)) col
          (number_writes BadEntry (word (drop 1 (words line))) (c.0 + 1)
          (index_to cols c.0 (word (drop 1 (words line))) c.1));
      count_is = third;
      within = within.0;
    }

pub entry_line_says : (rows cols : ℕ) (line : List ℕ) (cell : Cell) → IsEntryLine rows cols line cell →
    entry rows cols line ≡ Ok cell
unfolding entry
entry_line_says rows cols line cell h =
    rw (words_are line (h.row ∷ h.col ∷ h.count ∷ []) h.has_words)
    (rw (index_from rows cell.row h.row h.within.0 (writes_number BadEntry h.row (cell.row + 1) h.row_is))
    (rw (index_from cols cell.col h.col h.within.1 (writes_number BadEntry h.col (cell.col + 1) h.col_is))
    (rw (writes_no_minus h.count cell.count h.count_is)
    (rw (writes_number BadEntry h.count cell.count h.count_is) refl))))

pub size_line_is : (symmetric : Bool) (most : ℕ) (line : List ℕ) (s : Size) → size symmetric most line ≡ Ok s →
    IsSizeLine symmetric line s × (s.entries ≤ most)
unfolding size
size_line_is symmetric most line s e =
    let bounds = size_bounds symmetric most line s e in
    let r = ok_bind (number BadSize (word (words line))) _ s e in
    let rd = refuse_first (not (is_dimension r.0)) BadDimension _ s r.2 in
    let c = ok_bind (number BadSize (word (drop 1 (words line)))) _ s rd.1 in
    let cd = refuse_first (not (is_dimension c.0)) BadDimension _ s c.2 in
    let q = refuse_first (symmetric && not (nat_eq r.0 c.0)) NotSquare _ s cd.1 in
    let n = ok_bind (number BadSize (word (drop 2 (words line)))) _ s q.1 in
    let m = refuse_first (nat_lt most n.0) TooManyEntries _ s n.2 in
    let x = refuse_first (has_word (drop 3 (words line))) BadSize _ s m.1 in
    let is : ◌≡◌ {A = Size} (record { rows = r.0; cols = c.0; entries = n.0 }) s = let f = x.1 in cc in
    let rows : r.0 ≡ s.rows = ap (λ x. x.rows) is in
    let cols : c.0 ≡ s.cols = ap (λ x. x.cols) is in
    let entries : n.0 ≡ s.entries = ap (λ x. x.entries) is in
    let third : Writes (word (drop 2 (words line))) s.entries =
    subst (Writes (word (drop 2 (words line)))) entries
    (number_writes BadSize (word (drop 2 (words line))) n.0 n.1) in (
      record {
        rows = word (words line);
        cols = word (drop 1 (words line));
        entries = word (drop 2 (words line));
        has_words = subst (HasWords line) (three_of (words line)
            (writes_some (word (drop 2 (words line))) s.entries third) x.0) (has_its_words line);
        rows_are = subst (Writes (word (words line))) rows (number_writes BadSize (word (words line)) r.0 r.1);
        cols_are = subst (Writes (word (drop 1 (words line)))) cols
            (number_writes BadSize (word (drop 1 (words line))) c.0 c.1);
        entries_are = third;
        row_bounds = bounds.0;
        col_bounds = bounds.1;
        square = bounds.2;
      },
      bounds.3,
    )

pub dimension_test : (n : ℕ) → IsDimension n → is_dimension n ≡ true
dimension_test n h = let low = h.0 in let high = h.1 in grind (arith, nat_tests)

pub square_test : (symmetric : Bool) (rows cols : ℕ) → (symmetric ≡ true → rows ≡ cols) →
    (symmetric && not (nat_eq rows cols)) ≡ false
square_test false rows cols h = refl
square_test true rows cols h = let e = h refl in grind (arith, nat_tests)

pub size_line_says : (symmetric : Bool) (most : ℕ) (line : List ℕ) (s : Size) → IsSizeLine symmetric line s →
    s.entries ≤ most → size symmetric most line ≡ Ok s
unfolding size
size_line_says symmetric most line s h few =
    let fits : nat_lt most s.entries ≡ false = grind (arith, nat_tests) in
    rw (words_are line (h.rows ∷ h.cols ∷ h.entries ∷ []) h.has_words)
    (rw (writes_number BadSize h.rows s.rows h.rows_are) (rw (dimension_test s.rows h.row_bounds)
    (rw (writes_number BadSize h.cols s.cols h.cols_are) (rw (dimension_test s.cols h.col_bounds)
    (rw (square_test symmetric s.rows s.cols h.square)
    (rw (writes_number BadSize h.entries s.entries h.entries_are) (rw fits refl)))))))
