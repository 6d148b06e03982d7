-- How many cells a text can have.
use Rattle.std.proofs.Common.{◌≡◌, ℕ, ◌*◌, ◌≤◌, ◌^◌, Bool, true, false, not, cond, List, [], ◌∷◌, length, Result, ap}
use Rattle.std.proofs.Common.{arith, length-append}
use Rattle.std.proofs.lemmas.List.{length-map}
use Rattle.std.specs.Prelude.{Ok, map, filter, flat_map}
use Rattle.byte_io.specs.declared.fault.DeviceFault.{DeviceFault}
use Rattle.cells.specs.declared.cell.Cell.{Cell}
use Rattle.mm_text.specs.Judging.{cells_of, entry}
use Rattle.mm_text.specs.Lines.{bytes_of, content, counted, is_skipped, joined}
use Rattle.mm_text.specs.Readings.{HasRead}
use Rattle.mm_text.specs.Stages.{StageIs}
use Rattle.mm_text.specs.declared.fault.MmKind.{MmKind}
use Rattle.mm_text.specs.declared.limits.TextLimits.{TextLimits}
use Rattle.mm_text.specs.declared.text_reader.TextReader.{TextReader}
use Rattle.mm_text.specs.declared.stages.Stage.{Stage}
use Rattle.mm_text.specs.declared.stages.Stage.TheVariants.{AtBanner, AtSize, AtEntries}
use Rattle.mm_text.proofs.Cuts.{length-joined}
use Rattle.mm_text.proofs.PlainLemmas.{few_cells}
use Rattle.mm_sum.specs.Sum.{sum_limits}

filter_few : {X : Type 0} (p : X → Bool) (xs : List X) → length (filter p xs) ≤ length xs
filter_few p [] = omega arith
filter_few p (x ∷ xs) = let h = filter_few p xs in elim (p x) as
    (λ b. length (cond b (x ∷ filter p xs) (filter p xs)) ≤ length (x ∷ xs)) [
      | true ↦ omega arith
      | false ↦
          omega arith
    ]

counted_few : (lines : List (List ℕ)) → length (counted lines) ≤ length lines
counted_few [] = omega arith
counted_few (first ∷ others) =
    let kept = filter (λ line. not (is_skipped line)) others in
    omega (arith, length-map kept content, filter_few (λ line. not (is_skipped line)) others)

lines_few : (lines : List (List ℕ)) → length lines ≤ bytes_of lines
lines_few [] = omega arith
lines_few (line ∷ lines) = omega (arith, lines_few lines)

cells_few : (symmetric : Bool) (entries : List Cell) → length
    (flat_map (cells_of symmetric) entries) ≤ 2 * length entries
cells_few symmetric [] = omega arith
cells_few symmetric (e ∷ es) = omega (
  arith,
  cells_few symmetric es,
  few_cells symmetric e,
  length-append (cells_of symmetric e) (flat_map (cells_of symmetric) es),
)

same_length : (f : List ℕ → Result Cell MmKind) (lines : List (List ℕ)) (cells : List Cell) →
    map f lines ≡ map Ok cells → length lines ≡ length cells
same_length f lines cells e = omega (arith, simp length-map at (ap length e))

-- each line that counts adds at most two cells
stage_few : (limits : TextLimits) (lines : List (List ℕ)) (given : List Cell) (stage : Stage) →
    StageIs limits lines given stage → length given ≤ 2 * length lines
stage_few limits lines given AtBanner h = omega (arith, ap length h.1)
stage_few limits lines given (AtSize symmetric) h = omega (arith, ap length h.3)
stage_few limits lines given (AtEntries symmetric s seen) h =
    let same = same_length (entry s.rows s.cols) h.others h.entries h.are_entries in
    omega (arith, ap length h.cells_are, ap length h.lines_are, cells_few symmetric h.entries, same)

-- a text within the limits has at most 2^41 cells
pub given_few : (answers : List (Result (List ℕ) DeviceFault)) (given : List Cell) (reader : TextReader) →
    HasRead sum_limits answers given reader → length given ≤ 2 ^ 41
given_few answers given reader read =
    let takes = read.holds.takes in
    let bytes : length (joined takes.lines) ≤ length read.judged = omega
    (arith, ap length takes.whole, length-append (joined takes.lines) read.holds.rest) in
    omega (
      arith,
      stage_few sum_limits _ given reader.lines.progress.stage takes.keeps.stage_is,
      counted_few takes.lines,
      lines_few takes.lines,
      length-joined takes.lines,
      bytes,
      read.holds.fits,
    )
