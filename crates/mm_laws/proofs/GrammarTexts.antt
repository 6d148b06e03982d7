-- A text spells a file exactly where it is a coordinate text.
use Rattle.std.proofs.Common.{◌≡◌, ℕ, ◌≤◌, List, [], ◌∷◌, length, refl, arith}
use Rattle.std.specs.Prelude.{Ok, map}
use Rattle.std.specs.List.{AllZip}
use Rattle.mm_text.specs.Judging.{entry}
use Rattle.mm_text.specs.Texts.{Spells}
use Rattle.mm_laws.specs.Grammar.{IsEntryLine, IsCoordinateText}
use Rattle.mm_laws.proofs.GrammarBanner.{banner_is, banner_says}
use Rattle.mm_laws.proofs.GrammarLines.{entry_line_is, entry_line_says, size_line_is, size_line_says}
use Rattle.cells.specs.declared.cell.Cell.{Cell}
use Rattle.mm_text.specs.declared.limits.TextLimits.{TextLimits}

entries_are : (rows cols : ℕ) (lines : List (List ℕ)) (entries : List Cell) →
    map (entry rows cols) lines ≡ map Ok entries → AllZip (IsEntryLine rows cols) lines entries
entries_are rows cols [] [] e = tt
entries_are rows cols [] (c ∷ cs) e = cc
entries_are rows cols (line ∷ lines) [] e = cc
entries_are rows cols (line ∷ lines) (c ∷ cs) e =
    let first : entry rows cols line ≡ Ok c = cc in
    let rest : map (entry rows cols) lines ≡ map Ok cs = cc in
    (entry_line_is rows cols line c first, entries_are rows cols lines cs rest)

entries_say : (rows cols : ℕ) (lines : List (List ℕ)) (entries : List Cell) →
    AllZip (IsEntryLine rows cols) lines entries → map (entry rows cols) lines ≡ map Ok entries
entries_say rows cols [] [] h = refl
entries_say rows cols [] (c ∷ cs) h = absurd h
entries_say rows cols (line ∷ lines) [] h = absurd h
entries_say rows cols (line ∷ lines) (c ∷ cs) h = let first = entry_line_says rows cols line c h.0 in
    let rest = entries_say rows cols lines cs h.1 in cc

pub spelled_is : (text : List ℕ) (limits : TextLimits) (rows cols : ℕ) (cells : List Cell) →
    Spells text limits rows cols cells → IsCoordinateText text limits rows cols cells
spelled_is text limits rows cols cells s =
    let size = size_line_is s.symmetric limits.max_entries s.second (record {
      rows = rows;
      cols = cols;
      entries = length s.others;
    }) s.is_size in
    record {
      fits = s.fits;
      short = s.short;
      banner_line = s.first;
      size_line = s.second;
      entry_lines = s.others;
      lines = s.lines;
      symmetric = s.symmetric;
      is_banner = banner_is s.first s.symmetric s.is_banner;
      is_size = size.0;
      few = size.1;
      entries = s.entries;
      are_entries = entries_are rows cols s.others s.entries s.are_entries;
      cells_are = s.cells_are;
    }

pub is_spelled : (text : List ℕ) (limits : TextLimits) (rows cols : ℕ) (cells : List Cell) →
    IsCoordinateText text limits rows cols cells → Spells text limits rows cols cells
is_spelled text limits rows cols cells t = record {
  fits = t.fits;
  short = t.short;
  first = t.banner_line;
  second = t.size_line;
  others = t.entry_lines;
  lines = t.lines;
  symmetric = t.symmetric;
  is_banner = banner_says t.banner_line t.symmetric t.is_banner;
  is_size = size_line_says t.symmetric limits.max_entries t.size_line (record {
    rows = rows;
    cols = cols;
    entries = length t.entry_lines;
  }) t.is_size t.few;
  entries = t.entries;
  are_entries = entries_say rows cols t.entry_lines t.entries t.are_entries;
  cells_are = t.cells_are;
}

-- under wider limits the text is a coordinate text too
pub spelled_wider : (text : List ℕ) (limits wider : TextLimits) (rows cols : ℕ) (cells : List Cell) →
    limits.max_bytes ≤ wider.max_bytes → limits.max_entries ≤ wider.max_entries →
    Spells text limits rows cols cells → Spells text wider rows cols cells
spelled_wider text limits wider rows cols cells b e s =
    let t = spelled_is text limits rows cols cells s in
    let fits = t.fits in
    let few = t.few in
    is_spelled text wider rows cols cells (record {
      fits = omega arith;
      short = t.short;
      banner_line = t.banner_line;
      size_line = t.size_line;
      entry_lines = t.entry_lines;
      lines = t.lines;
      symmetric = t.symmetric;
      is_banner = t.is_banner;
      is_size = t.is_size;
      few = omega arith;
      entries = t.entries;
      are_entries = t.are_entries;
      cells_are = t.cells_are;
    })
