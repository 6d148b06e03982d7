-- The end of a text: what it lacks, or what it spells.
use Rattle.std.proofs.Common.{◌≡◌, ℕ, ◌≤◌, Bool, true, false, cond, List, length, refl, ◌∙◌, ap, arith}
use Rattle.std.specs.Prelude.{Some, None, Ok, nat_lt}
use Rattle.mm_text.specs.Lines.{lines_of}
use Rattle.mm_text.specs.Judging.{fault_of, refuse_if}
use Rattle.mm_text.specs.Texts.{lack_of, Spells}
use Rattle.mm_text.specs.Stages.{StageIs, Keeps, lack_at}
use Rattle.mm_text.specs.declared.fault.MmKind.TheVariants.{TooFewEntries}
use Rattle.cells.specs.declared.cell.Cell.{Cell}
use Rattle.mm_text.specs.declared.size.Size.{Size}
use Rattle.mm_text.specs.declared.limits.TextLimits.{TextLimits}
use Rattle.mm_text.specs.declared.stages.Stage.{Stage}
use Rattle.mm_text.specs.declared.stages.Stage.TheVariants.{AtBanner, AtSize, AtEntries}

pub lack_is : (limits : TextLimits) (ls : List (List ℕ)) (cells : List Cell) (stage : Stage) →
    StageIs limits ls cells stage → lack_of limits ls ≡ lack_at stage
lack_is limits ls cells AtBanner h = rw h.0 refl
lack_is limits ls cells (AtSize symmetric) h = rw h.1 refl
lack_is limits ls cells (AtEntries symmetric s seen) h =
    rw (h.lines_are, h.is_banner) (rw (h.is_size, h.seen_is) (test (nat_lt seen s.entries)))
  where
    test : (b : Bool) → fault_of (refuse_if b TooFewEntries) ≡ cond b (Some TooFewEntries) None
    test true = refl
    test false = refl

same_size : (s : Size) (n : ℕ) → n ≡ s.entries → s ≡ record { rows = s.rows; cols = s.cols; entries = n }
same_size s n e = rw e refl

pub spells_all : (text : List ℕ) (limits : TextLimits) (cells : List Cell) (symmetric : Bool) (s : Size)
    (seen count : ℕ) →
    Keeps limits (lines_of text) (AtEntries symmetric s seen) cells count → length text ≤ limits.max_bytes →
    s.entries ≤ seen →
    Spells text limits s.rows s.cols cells
spells_all text limits cells symmetric s seen count k fits full =
    let e = k.stage_is in
    let n : length e.others ≡ s.entries = let a = e.seen_is in let b = e.within in omega arith in
    record {
      fits = fits;
      short = λ before after line cut limited. (k.clean.each before after line cut).short limited;
      first = e.first;
      second = e.second;
      others = e.others;
      lines = e.lines_are;
      symmetric = symmetric;
      is_banner = e.is_banner;
      is_size = e.is_size ∙ ap Ok (same_size s (length e.others) n);
      entries = e.entries;
      are_entries = e.are_entries;
      cells_are = e.cells_are;
    }
