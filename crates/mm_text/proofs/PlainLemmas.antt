-- A line that is an entry, taken where entries are due: what is kept behind it, or that memory ran out at it.
use Rattle.std.proofs.Common.{◌≡◌, ℕ, ◌+◌, ◌<◌, ◌≤◌, Bool, true, false, not, ◌||◌, ◌&&◌, cond, List, [], ◌∷◌, ◌++◌}
use Rattle.std.proofs.Common.{length, take, drop, refl, sym, ◌∙◌, ap, arith, length-append, length-drop}
use Rattle.std.proofs.lemmas.Bool.Decides.{nat_tests}
use Rattle.std.proofs.lemmas.List.{take-append-drop, take-take, drop-take}
use Rattle.std.proofs.Math.Seq.{take-append-add}
use Rattle.std.specs.Prelude.{Option, Some, None, Result, Ok, Err, nat_lt, nat_eq}
use Rattle.mm_text.specs.Lines.{content, is_comment}
use Rattle.mm_text.specs.Judging.{◌>>=◌, cells_of}
use Rattle.mm_text.specs.Stages.{at, state, step, judged, after_entry, AddsLine, Advances}
use Rattle.mm_text.specs.Faults.{Shows}
use Rattle.mm_text.specs.Plain.{IsEntry}
use Rattle.cells.specs.declared.cell.Cell.{Cell}
use Rattle.mm_text.specs.declared.size.Size.{Size}
use Rattle.mm_text.specs.declared.limits.TextLimits.{TextLimits}
use Rattle.mm_text.specs.declared.stages.Stage.{Stage}
use Rattle.mm_text.specs.declared.stages.Stage.TheVariants.{AtEntries}
use Rattle.mm_text.specs.declared.fault.MmKind.{MmKind}
use Rattle.mm_text.specs.declared.fault.MmKind.TheVariants.{Memory, LineTooLong}
use Rattle.mm_text.proofs.ProgressLemmas.{adds_some, unstored, few_of}
use Rattle.mm_text.proofs.CarryingLemmas.{adds_carried, carried_none}
use Rattle.mm_text.proofs.PiecesLemmas.{advances_line, shows_line}

-- what judged says of a line that is not too long and counts, with its other tests as variables
by_tests : (first comment : Bool) (r : Result (Stage × Option Cell) MmKind) →
    cond ((first || not comment) && false) (Err LineTooLong)
    (cond (first || true) (r >>= λ next. Ok (Some next)) (Ok None)) ≡ (r >>= λ next. Ok (Some next))
by_tests true comment r = refl
by_tests false true r = refl
by_tests false false r = refl

module _ (limits : TextLimits) (symmetric : Bool) (s : Size) (seen lines : ℕ) (line : List ℕ) (cell : Cell)
    (is : IsEntry s.rows s.cols line cell) (due : seen < s.entries) where
  entry_step : step limits (AtEntries symmetric s seen) (content line) ≡ Ok (after_entry symmetric s seen cell)
  entry_step =
      let t : nat_lt seen s.entries ≡ true = grind (arith, nat_tests) in
      let e = is.entry_is in
      rw (t, e) refl

  entry_judged : judged limits (AtEntries symmetric s seen) (nat_eq lines 0) line ≡ Ok
      (Some (after_entry symmetric s seen cell))
  entry_judged =
      let short = is.short in
      let t : nat_lt 1024 (length (content line)) ≡ false = grind (arith, nat_tests) in
      let c = is.counted in
      rw (t, c) (by_tests (nat_eq lines 0) (is_comment line) (step limits (AtEntries symmetric s seen) (content line))
      ∙ rw entry_step refl)

  pub adds_entry : (block block' : List Cell) → block' ≡ block ++ cells_of symmetric cell →
      AddsLine limits (λ l. l ≡ line) (at (AtEntries symmetric s seen) lines) block
      (at (AtEntries symmetric s (seen + 1)) (lines + 1)) block'
  adds_entry block block' b = adds_some limits (AtEntries symmetric s seen) lines line block block'
      (after_entry symmetric s seen cell) entry_judged b

  pub advances_entry : (block block' : List Cell) → block' ≡ block ++ cells_of symmetric cell →
      Advances limits (line ++ 10 ∷ []) (state [] (AtEntries symmetric s seen) lines) block
      (state [] (AtEntries symmetric s (seen + 1)) (lines + 1)) block'
  advances_entry block block' b =
      advances_line limits line [] _ lines block [] _ (lines + 1) block'
      (adds_carried limits lines [] line line _ block _ (lines + 1) block'
      (λ rest c. let e = carried_none lines rest [] refl c in rw e refl) (adds_entry block block' b)) is.is_line refl

  pub shows_memory : (bytes after : List ℕ) (number : ℕ) → bytes ≡ line ++ 10 ∷ after → number ≡ lines + 1 →
      Shows limits bytes (state [] (AtEntries symmetric s seen) lines) Memory number
  shows_memory bytes after number cut n =
      shows_line limits bytes line after [] _ lines Memory number cut is.is_line n
      (λ rest done given c k. let e = carried_none lines rest [] refl c in
      rw e (unstored limits done (AtEntries symmetric s seen) given lines line (after_entry symmetric s seen cell) cell
      k entry_judged refl))

pub few_cells : (symmetric : Bool) (c : Cell) → length (cells_of symmetric c) ≤ 2
few_cells symmetric c = few_of (symmetric && not (nat_eq c.row c.col)) c (record c { row = c.col; col = c.row })

first_line : (line rest : List ℕ) → take (length line + 1) (line ++ 10 ∷ rest) ≡ line ++ 10 ∷ []
first_line line rest = take-append-add line (10 ∷ rest) 1

-- behind the first bytes, a line with its LF
pub line_behind : (bytes line rest : List ℕ) (start size : ℕ) → drop start bytes ≡ line ++ 10 ∷ rest →
    size ≡ length line + 1 →
    take (start + size) bytes ≡ take start bytes ++ (line ++ 10 ∷ [])
line_behind bytes line rest start size whole n =
    let e : take start (take (start + size) bytes) ≡ take start bytes =
    take-take start (start + size) bytes (omega arith) in
    sym (take-append-drop start (take (start + size) bytes))
    ∙ rw (e, drop-take start size bytes) (rw (whole, n) (rw (first_line line rest) refl))

pub line_within : (bytes line rest : List ℕ) (start size : ℕ) → drop start bytes ≡ line ++ 10 ∷ rest →
    size ≡ length line + 1 → (start + size ≤ length bytes) × (0 < size)
line_within bytes line rest start size whole n =
    let l = ap length whole in
    (omega (arith, length-drop start bytes, length-append line (10 ∷ rest)), omega arith)
