-- The end of a text: its last line, and what is missing.
use Rattle.std.proofs.Common.{inl, inr, ◌≡◌, ℕ, ◌+◌, ◌<◌, ◌≤◌, List, [], ◌∷◌, ◌++◌, length, sym, ◌∙◌, ap, subst, arith}
use Rattle.std.proofs.lemmas.List.{append-nil}
use Rattle.std.specs.Prelude.{Some}
use Rattle.mm_text.specs.Lines.{lines_of, joined, line_at, counted}
use Rattle.mm_text.specs.Stages.{at, state, Keeps, LineFault, IsCarried, EndsCarried, Holds, AddsLine, EndsLast}
use Rattle.mm_text.specs.Stages.{EndsText, EndsWithin, lack_at, declared_size}
use Rattle.mm_text.specs.Faults.{Explains}
use Rattle.mm_text.specs.declared.fault.MmKind.{MmKind}
use Rattle.cells.specs.declared.cell.Cell.{Cell}
use Rattle.mm_text.specs.declared.size.Size.{Size}
use Rattle.mm_text.specs.declared.limits.TextLimits.{TextLimits}
use Rattle.mm_text.specs.declared.stages.Stage.{Stage}
use Rattle.mm_text.specs.declared.stages.Stage.TheVariants.{AtEntries}
use Rattle.mm_text.proofs.Clean.{first_missing_at}
use Rattle.mm_text.proofs.Cuts.{lines_of-joined, lines_of-last}
use Rattle.mm_text.proofs.CarryingLemmas.{carried_none}
use Rattle.mm_text.proofs.PiecesLemmas.{held_line, held_size, holds_begin}
use Rattle.mm_text.proofs.FaultLemmas.{plain_lack}
use Rattle.mm_text.proofs.EndLemmas.{lack_is, spells_all}
use Rattle.mm_text.proofs.ExplainLemmas.{told, explains_plain, explains_line}

carried_some : (count : ℕ) (rest carry : List ℕ) → 0 < length carry → IsCarried count rest carry → 0 < length rest
carried_some count [] carry n c = elim c [
  | inl e ↦ absurd (let l = ap length e in omega arith)
  | inr m ↦
      absurd (let e = m.1 in cc)
]
carried_some count (b ∷ bs) carry n c = omega arith

module _ (limits : TextLimits) (text carry : List ℕ) (stage : Stage) (given : List Cell) (count : ℕ)
    (h : Holds limits text (state carry stage count) given) where
  lines_are : lines_of text ≡ h.takes.lines ++ lines_of h.rest
  lines_are = ap lines_of h.takes.whole ∙ lines_of-joined h.takes.lines h.rest h.takes.all

  lines_none : length carry ≡ 0 → lines_of text ≡ h.takes.lines
  lines_none n = lines_are ∙ ap (λ r. h.takes.lines ++ lines_of r) (carried_none count h.rest carry n h.carried)
      ∙ append-nil h.takes.lines

  lines_some : 0 < length carry → lines_of text ≡ h.takes.lines ++ h.rest ∷ []
  lines_some n = lines_are ∙ ap (λ l. h.takes.lines ++ l)
      (lines_of-last h.rest h.takes.partial (carried_some count h.rest carry n h.carried))

  line_fault : (kind : MmKind) (number : ℕ) → 0 < length carry → number ≡ count + 1 →
      LineFault limits h.takes.lines h.rest kind → Explains text limits (Unit {0}) ⊥ kind number
  line_fault kind number some e fault =
      let size = held_size limits text carry stage given count h in
      let n = h.takes.keeps.lines_are in
      let fits = h.fits in
      explains_line text limits (Unit {0}) h.takes.lines h.rest [] [] kind number h.takes.keeps.clean h.takes.all
      h.takes.partial fault
      (lines_some some) (h.takes.whole ∙ sym (append-nil (joined h.takes.lines ++ h.rest))) (omega arith)
      (λ l. absurd (omega arith)) (λ l. tt) (omega arith)

pub ends_none : (limits : TextLimits) (carry : List ℕ) (stage : Stage) (count : ℕ) (block : List Cell) →
    length carry ≡ 0 → EndsLast limits (state carry stage count) block (at stage count) block
ends_none limits carry stage count block n = record {
  cells = [];
  block_is = sym (append-nil block);
  few = omega arith;
  keeps = λ text given h. let e = lines_none limits text carry stage given count h n in
      rw (e, append-nil given) h.takes.keeps;
  size_kept = λ s e. e;
}

pub ends_line : (limits : TextLimits) (carry : List ℕ) (stage : Stage) (count : ℕ) (block : List Cell) (stage' : Stage)
    (count' : ℕ) (block' : List Cell) → 0 < length carry →
    AddsLine limits (EndsCarried count carry []) (at stage count) block (at stage' count') block' →
    EndsLast limits (state carry stage count) block (at stage' count') block'
ends_line limits carry stage count block stage' count' block' n a = record {
  cells = a.cells;
  block_is = a.block_is;
  few = a.few;
  keeps = λ text given h. let e = lines_some limits text carry stage given count h n in
      rw e (a.keeps h.rest h.takes.lines given (h.rest, h.carried, sym (append-nil h.rest)) h.takes.keeps);
  size_kept = a.size_kept;
}

pub explains_last : (limits : TextLimits) (carry : List ℕ) (stage : Stage) (count : ℕ) (kind : MmKind) (number : ℕ) →
    0 < length carry → number ≡ count + 1 →
    ((rest : List ℕ) (done : List (List ℕ)) (given : List Cell) → IsCarried count rest carry →
    Keeps limits done stage given count → LineFault limits done (rest ++ []) kind) →
    (text : List ℕ) (given : List Cell) → Holds limits text (state carry stage count) given →
    Explains text limits (Unit {0}) ⊥ kind number
explains_last limits carry stage count kind number n e faulty = λ text given h.
    let fault = faulty h.rest h.takes.lines given h.carried h.takes.keeps in
    line_fault limits text carry stage given count h kind number n e (rw append-nil at fault)

-- the block, where the last line bears a fault
pub stops_before_last : (limits : TextLimits) (carry : List ℕ) (stage : Stage) (count : ℕ) (block block' : List Cell) →
    block' ≡ block →
    EndsWithin limits (state carry stage count) block block'
stops_before_last limits carry stage count block block' e = record {
  cells = [];
  block_is = e ∙ sym (append-nil block);
  begins = λ text given h. let b = holds_begin limits text [] carry stage given count h in
      rw append-nil (rw append-nil at b);
}

-- and where only something is missing behind it
pub stops_behind_last : (limits : TextLimits) (carry : List ℕ) (stage : Stage) (count : ℕ) (block : List Cell)
    (stage' : Stage) (count' : ℕ) (block' : List Cell) →
    EndsLast limits (state carry stage count) block (at stage' count') block' →
    EndsWithin limits (state carry stage count) block block'
stops_behind_last limits carry stage count block stage' count' block' a = record {
  cells = a.cells;
  block_is = a.block_is;
  begins = λ text given h. record {
    done = lines_of text;
    after = [];
    lines = sym (append-nil (lines_of text));
    stage = stage';
    count = count';
    keeps = a.keeps text given h;
  };
}

pub ends_text : (limits : TextLimits) (carry : List ℕ) (stage : Stage) (count : ℕ) (block : List Cell) (stage' : Stage)
    (count' : ℕ) (block' : List Cell) (symmetric : _) (s : Size) (seen : ℕ) →
    EndsLast limits (state carry stage count) block (at stage' count') block' → stage' ≡ AtEntries symmetric s seen →
    s.entries ≤ seen → EndsText limits (state carry stage count) block stage' block'
ends_text limits carry stage count block stage' count' block' symmetric s seen a is full = record {
  cells = a.cells;
  block_is = a.block_is;
  few = a.few;
  size = s;
  size_is = ap declared_size is;
  spells = λ text given h. spells_all text limits (given ++ a.cells) symmetric s seen count'
      (subst (λ st. Keeps limits (lines_of text) st (given ++ a.cells) count') is (a.keeps text given h)) h.fits full;
  size_kept = a.size_kept;
}

pub explains_lack : (limits : TextLimits) (carry : List ℕ) (stage : Stage) (count : ℕ) (block : List Cell)
    (stage' : Stage) (count' : ℕ) (block' : List Cell) (kind : MmKind) (number : ℕ) →
    EndsLast limits (state carry stage count) block (at stage' count') block' → lack_at stage' ≡ Some kind →
    number ≡ count + 1 →
    (text : List ℕ) (given : List Cell) → Holds limits text (state carry stage count) given →
    Explains text limits (Unit {0}) ⊥ kind number
explains_lack limits carry stage count block stage' count' block' kind number a lack e = λ text given h.
    let k = a.keeps text given h in
    let line = held_line limits text carry stage given count h in
    let number_is : line_at text (length text) ≡ number = omega arith in
    rw (← number_is) (explains_plain text limits (Unit {0}) ⊥ kind (line_at text (length text))
    (plain_lack stage' kind lack)
    (told text limits (Unit {0}) (length text + 1) kind (line_at text (length text))
    (first_missing_at text limits k.clean h.fits kind
    (lack_is limits (counted (lines_of text)) (given ++ a.cells) stage' k.stage_is ∙ lack)) (λ l. tt)))
