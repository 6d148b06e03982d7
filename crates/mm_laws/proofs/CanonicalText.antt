-- A canonical text spells the list of cells that it was made of.
use Rattle.std.proofs.Common.{◌≡◌, ℕ, ◌+◌, ◌^◌, ◌<◌, ◌≤◌, Bool, true, false, not, List, [], ◌∷◌, ◌++◌, length, get_or}
use Rattle.std.proofs.Common.{refl, sym, ◌∙◌, ap, arith, append_assoc}
use Rattle.std.proofs.lemmas.Bool.Decides.{nat_tests}
use Rattle.std.proofs.lemmas.List.{append-nil}
use Rattle.std.proofs.lemmas.List.Elements.{All-from_get_or, All-head, All-tail}
use Rattle.std.specs.Prelude.{Ok, map, flat_map, filter, decimal, nat_lt, All, codes}
use Rattle.std.specs.List.{AllByRecursion}
use Rattle.mm_text.specs.Lines.{lines_of, joined, counted, content, is_line_feed, is_skipped, IsLine}
use Rattle.mm_text.specs.Judging.{banner, mark, object, format, field, symmetry, size, entry, cells_of}
use Rattle.mm_text.specs.Texts.{Spells, numbers_line, canonical}
use Rattle.cells.specs.Bounds.{IsDimension, IsWithin, AreWithin}
use Rattle.mm_text.proofs.Clean.{content_le}
use Rattle.mm_text.proofs.Cuts.{lines_of-joined}
use Rattle.mm_text.proofs.NumberLemmas.{all_at}
use Rattle.mm_laws.proofs.GrammarLines.{dimension_test}
use Rattle.mm_text.proofs.OneFile.{one_file}
use Rattle.mm_laws.proofs.DecimalLines.{IsDecimal, decimal_is, decimal_number, decimal_not_negative, decimal_index}
use Rattle.mm_laws.proofs.DecimalLines.{three, three_words, three_length, three_line, three_content, three_counts}
use Rattle.mm_text.specs.declared.fault.MmKind.TheVariants.{BadSize, BadEntry}
use Rattle.cells.specs.declared.cell.Cell.{Cell}
use Rattle.mm_text.specs.declared.limits.TextLimits.{TextLimits}

banner_line : List ℕ
banner_line = codes "%%MatrixMarket matrix coordinate integer general"

banner_says : banner banner_line ≡ Ok false
unfolding banner_line banner mark object format field symmetry
banner_says = refl

feed_not : (c : ℕ) → not (is_line_feed c) ≡ true → is_line_feed c ≡ false
feed_not c h = grind (arith, nat_tests)

banner_is_line : IsLine banner_line
unfolding banner_line
banner_is_line = record {
  no_feed = All-from_get_or (λ b. is_line_feed b ≡ false) banner_line 0
      (λ i l. feed_not (get_or banner_line i 0) (all_at (λ b. not (is_line_feed b)) banner_line i refl l));
}

banner_content : content banner_line ≡ banner_line
unfolding banner_line
banner_content = refl

banner_short : length banner_line ≤ 1024
unfolding banner_line
banner_short = omega arith

size_line : ℕ → ℕ → ℕ → List ℕ
size_line rows cols entries = three (decimal rows) (decimal cols) (decimal entries)

entry_line : Cell → List ℕ
entry_line c = three (decimal (c.row + 1)) (decimal (c.col + 1)) (decimal c.count)

-- a cell whose numbers have 64 bits
record IsSmall (rows cols : ℕ) (c : Cell) : Type 0 where
  row_in : c.row < rows
  col_in : c.col < cols
  row_is : IsDecimal (c.row + 1) (decimal (c.row + 1))
  col_is : IsDecimal (c.col + 1) (decimal (c.col + 1))
  count_is : IsDecimal c.count (decimal c.count)

entry_says : (rows cols : ℕ) (c : Cell) → IsSmall rows cols c → entry rows cols (entry_line c) ≡ Ok c
unfolding entry entry_line
entry_says rows cols c s =
    let w = three_words (c.row + 1) (c.col + 1) c.count (decimal (c.row + 1)) (decimal (c.col + 1)) (decimal c.count)
    s.row_is s.col_is s.count_is in
    rw w (rw (decimal_index rows c.row (decimal (c.row + 1)) s.row_in s.row_is)
    (rw (decimal_index cols c.col (decimal (c.col + 1)) s.col_in s.col_is)
    (rw (decimal_not_negative c.count (decimal c.count) s.count_is)
    (rw (decimal_number BadEntry c.count (decimal c.count) s.count_is) refl))))

size_says : (most rows cols entries : ℕ) → IsDimension rows → IsDimension cols → entries ≤ most → entries < 2 ^ 64 →
    size false most (size_line rows cols entries) ≡ Ok (record { rows = rows; cols = cols; entries = entries })
unfolding size size_line
size_says most rows cols entries r c few small =
    let a = decimal_is rows (let u = r.1 in omega arith) in
    let b = decimal_is cols (let u = c.1 in omega arith) in
    let d = decimal_is entries small in
    let w = three_words rows cols entries (decimal rows) (decimal cols) (decimal entries) a b d in
    let rd = dimension_test rows r in
    let cd = dimension_test cols c in
    let fits : nat_lt most entries ≡ false = grind (arith, nat_tests) in
    rw w (rw (decimal_number BadSize rows (decimal rows) a)
    (rw rd (rw (decimal_number BadSize cols (decimal cols) b) (rw cd
    (rw (decimal_number BadSize entries (decimal entries) d) (rw fits refl))))))

small_cell : (rows cols : ℕ) (c : Cell) → IsDimension rows → IsDimension cols → IsWithin rows cols c →
    c.count < 2 ^ 64 → IsSmall rows cols c
small_cell rows cols c r k w n = let a = r.1 in let b = k.1 in let d = w.0 in let e = w.1 in record {
  row_in = w.0;
  col_in = w.1;
  row_is = decimal_is (c.row + 1) (omega arith);
  col_is = decimal_is (c.col + 1) (omega arith);
  count_is = decimal_is c.count n;
}

-- the entries' lines
entries_joined : (cells : List Cell) → flat_map (λ c. numbers_line (c.row + 1) (c.col + 1) c.count) cells ≡ joined
    (map entry_line cells)
unfolding entry_line
entries_joined [] = refl
entries_joined (c ∷ cells) = append_assoc (entry_line c) (10 ∷ [])
    (flat_map (λ c. numbers_line (c.row + 1) (c.col + 1) c.count) cells)
    ∙ ap (λ t. entry_line c ++ 10 ∷ t) (entries_joined cells)

-- a line that is taken as it stands, and is short
record IsPlainLine (line : List ℕ) : Type 0 where
  is_line : IsLine line
  short : length line ≤ 1024
  whole : content line ≡ line

entry_plain : (rows cols : ℕ) (c : Cell) → IsSmall rows cols c → IsPlainLine (entry_line c)
unfolding entry_line
entry_plain rows cols c s = record {
  is_line = three_line (c.row + 1) (c.col + 1) c.count (decimal (c.row + 1)) (decimal (c.col + 1)) (decimal c.count)
      s.row_is s.col_is s.count_is;
  short = let h = three_length (c.row + 1) (c.col + 1) c.count (decimal (c.row + 1)) (decimal (c.col + 1))
      (decimal c.count) s.row_is s.col_is s.count_is in omega arith;
  whole = three_content (c.row + 1) (c.col + 1) c.count (decimal (c.row + 1)) (decimal (c.col + 1)) (decimal c.count)
      s.row_is s.col_is s.count_is;
}

entry_counts : (rows cols : ℕ) (c : Cell) → IsSmall rows cols c → is_skipped (entry_line c) ≡ false
unfolding entry_line
entry_counts rows cols c s = three_counts (c.row + 1) (c.col + 1) c.count (decimal (c.row + 1)) (decimal (c.col + 1))
    (decimal c.count) s.row_is s.col_is s.count_is

banner_plain : IsPlainLine banner_line
banner_plain = record { is_line = banner_is_line; short = banner_short; whole = banner_content }

abbrev kept : List ℕ → Bool
kept line = not (is_skipped line)

module _ (rows cols : ℕ) (r : IsDimension rows) (k : IsDimension cols) where
  -- what is known of the entries' lines
  record EntriesAre (cells : List Cell) : Type 0 where
    plain : AllByRecursion IsPlainLine (map entry_line cells)
    counted_all : map content (filter kept (map entry_line cells)) ≡ map entry_line cells
    judged_all : map (entry rows cols) (map entry_line cells) ≡ map Ok cells

  entries_are : (cells : List Cell) → All (IsWithin rows cols) cells → All (λ c. c.count < 2 ^ 64) cells →
      EntriesAre cells
  entries_are [] w n = record { plain = tt; counted_all = refl; judged_all = refl }
  entries_are (c ∷ cells) w n =
      let s = small_cell rows cols c r k (All-head (IsWithin rows cols) c cells w)
      (All-head (λ c. c.count < 2 ^ 64) c cells n) in
      let more = entries_are cells (All-tail (IsWithin rows cols) c cells w)
      (All-tail (λ c. c.count < 2 ^ 64) c cells n) in
      let p = entry_plain rows cols c s in
      record {
        plain = (p, more.plain);
        counted_all = rw (entry_counts rows cols c s) (rw (p.whole, more.counted_all) refl);
        judged_all = rw (entry_says rows cols c s, more.judged_all) refl;
      }

lines_plain : (lines : List (List ℕ)) → AllByRecursion IsPlainLine lines → AllByRecursion IsLine lines
lines_plain [] h = tt
lines_plain (line ∷ lines) h = (h.0.is_line, lines_plain lines h.1)

short_at : (lines before : List (List ℕ)) (line : List ℕ) (after : List (List ℕ)) → AllByRecursion IsPlainLine lines →
    lines ≡ before ++ line ∷ after → length line ≤ 1024
short_at [] [] line after h e = cc
short_at [] (b ∷ before) line after h e = cc
short_at (l ∷ lines) [] line after h e = let it : line ≡ l = cc in rw it h.0.short
short_at (l ∷ lines) (b ∷ before) line after h e = let t : lines ≡ before ++ line ∷ after = cc in
    short_at lines before line after h.1 t

plain_cells : (cells : List Cell) → cells ≡ flat_map (cells_of false) cells
plain_cells [] = refl
plain_cells (c ∷ cells) = ap (λ l. c ∷ l) (plain_cells cells)

regroup : (first second more : List ℕ) → ((first ++ 10 ∷ []) ++ (second ++ 10 ∷ [])) ++ more ≡ first ++ 10
    ∷ (second ++ 10 ∷ more)
regroup first second more =
    append_assoc (first ++ 10 ∷ []) (second ++ 10 ∷ []) more
    ∙ append_assoc first (10 ∷ []) ((second ++ 10 ∷ []) ++ more)
    ∙ ap (λ t. first ++ 10 ∷ t) (append_assoc second (10 ∷ []) more)

lines_of_whole : (text : List ℕ) (lines : List (List ℕ)) → AllByRecursion IsLine lines → text ≡ joined lines →
    lines_of text ≡ lines
lines_of_whole text lines all e = ap lines_of (e ∙ sym (append-nil (joined lines))) ∙ lines_of-joined lines [] all
    ∙ append-nil lines

size_plain : (rows cols entries : ℕ) → IsDimension rows → IsDimension cols → entries < 2 ^ 64 →
    IsPlainLine (size_line rows cols entries) × (is_skipped (size_line rows cols entries) ≡ false)
unfolding size_line
size_plain rows cols entries r k small =
    let a = decimal_is rows (let u = r.1 in omega arith) in
    let b = decimal_is cols (let u = k.1 in omega arith) in
    let d = decimal_is entries small in (
      record {
        is_line = three_line rows cols entries (decimal rows) (decimal cols) (decimal entries) a b d;
        short = let h = three_length rows cols entries (decimal rows) (decimal cols) (decimal entries) a b d in
            omega arith;
        whole = three_content rows cols entries (decimal rows) (decimal cols) (decimal entries) a b d;
      },
      three_counts rows cols entries (decimal rows) (decimal cols) (decimal entries) a b d,
    )

-- the text of a banner, a size line and entries
module _ (text first : List ℕ) (rows cols : ℕ) (cells : List Cell) (limits : TextLimits) (r : IsDimension rows)
    (k : IsDimension cols) (w : AreWithin rows cols cells) (n : All (λ c. c.count < 2 ^ 64) cells)
    (small : length cells < 2 ^ 64) (fits : length text ≤ limits.max_bytes) (few : length cells ≤ limits.max_entries)
    (plain : IsPlainLine first) (says : banner first ≡ Ok false)
    (whole : text ≡ joined (first ∷ size_line rows cols (length cells) ∷ map entry_line cells)) where
  entries_hold : EntriesAre rows cols r k cells
  entries_hold = entries_are rows cols r k cells w n

  all_plain : AllByRecursion IsPlainLine (first ∷ size_line rows cols (length cells) ∷ map entry_line cells)
  all_plain = (plain, ((size_plain rows cols (length cells) r k small).0, entries_hold.plain))

  lines_are : lines_of text ≡ first ∷ size_line rows cols (length cells) ∷ map entry_line cells
  lines_are = lines_of_whole text (first ∷ size_line rows cols (length cells) ∷ map entry_line cells)
      (lines_plain (first ∷ size_line rows cols (length cells) ∷ map entry_line cells) all_plain) whole

  counted_are : counted (lines_of text) ≡ first ∷ size_line rows cols (length cells) ∷ map entry_line cells
  counted_are =
      let s = size_plain rows cols (length cells) r k small in
      ap counted lines_are ∙ rw (s.1, plain.whole) (rw (s.0.whole, entries_hold.counted_all) refl)

  same_length : (cells : List Cell) → length (map entry_line cells) ≡ length cells
  same_length [] = refl
  same_length (c ∷ cells) = omega (arith, same_length cells)

  spells_lines : Spells text limits rows cols cells
  spells_lines = record {
    fits = fits;
    short = λ before after line cut limited.
        let s = short_at (first ∷ size_line rows cols (length cells) ∷ map entry_line cells) before line after
        all_plain (sym lines_are ∙ cut) in
        let le = content_le line in omega arith;
    first = first;
    second = size_line rows cols (length cells);
    others = map entry_line cells;
    lines = counted_are;
    symmetric = false;
    is_banner = says;
    is_size = rw (same_length cells) (size_says limits.max_entries rows cols (length cells) r k few small);
    entries = cells;
    are_entries = entries_hold.judged_all;
    cells_are = plain_cells cells;
  }

text_is : (rows cols : ℕ) (cells : List Cell) →
    canonical rows cols cells ≡ joined (banner_line ∷ size_line rows cols (length cells) ∷ map entry_line cells)
unfolding banner_line size_line
text_is rows cols cells =
    regroup (codes "%%MatrixMarket matrix coordinate integer general") (size_line rows cols (length cells))
    (flat_map (λ c. numbers_line (c.row + 1) (c.col + 1) c.count) cells)
    ∙ ap (λ t. codes "%%MatrixMarket matrix coordinate integer general" ++ 10
    ∷ (size_line rows cols (length cells) ++ 10 ∷ t)) (entries_joined cells)

pub canonical_spells : (rows cols : ℕ) (cells : List Cell) (limits : TextLimits) → IsDimension rows →
    IsDimension cols → AreWithin rows cols cells → All (λ c. c.count < 2 ^ 64) cells →
    length cells < 2 ^ 64 → length (canonical rows cols cells) ≤ limits.max_bytes → length cells ≤ limits.max_entries →
    Spells (canonical rows cols cells) limits rows cols cells
canonical_spells rows cols cells limits r k w n small fits few =
    spells_lines (canonical rows cols cells) banner_line rows cols cells limits r k w n small fits few banner_plain
    banner_says (text_is rows cols cells)

-- two lists with one canonical text are one
pub canonical_one : (rows cols rows' cols' : ℕ) (cells cells' : List Cell) →
    IsDimension rows → IsDimension cols → AreWithin rows cols cells → All (λ c. c.count < 2 ^ 64) cells →
    length cells < 2 ^ 64 →
    IsDimension rows' → IsDimension cols' → AreWithin rows' cols' cells' → All (λ c. c.count < 2 ^ 64) cells' →
    length cells' < 2 ^ 64 →
    canonical rows cols cells ≡ canonical rows' cols' cells' → (rows ≡ rows') × (cols ≡ cols') × (cells ≡ cells')
canonical_one rows cols rows' cols' cells cells' r k w n small r' k' w' n' small' e =
    let limits : TextLimits = record {
      max_bytes = length (canonical rows cols cells) + length (canonical rows' cols' cells');
      max_entries =
          length cells + length cells';
    } in
    one_file (canonical rows cols cells) limits rows cols rows' cols' cells cells'
    (canonical_spells rows cols cells limits r k w n small (omega arith) (omega arith))
    (of_same (canonical rows cols cells) (canonical rows' cols' cells') e limits rows' cols' cells'
    (canonical_spells rows' cols' cells' limits r' k' w' n' small' (omega arith) (omega arith)))
  where
    of_same : (text text' : List ℕ) → text ≡ text' → (limits : TextLimits) (rows cols : ℕ) (cells : List Cell) →
        Spells text' limits rows cols cells → Spells text limits rows cols cells
    of_same text text' e limits rows cols cells s = rw e s
