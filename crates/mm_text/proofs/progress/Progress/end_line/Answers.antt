use Rattle.std.proofs.Common.{◌≡◌, sym, ◌∙◌, ap, refl, true, false}
use Rattle.std.specs.Prelude.{Option, Some, None, Result, Ok, Err, OnOk, OnErr, IsSome, is_err}
use Rattle.std.specs.declared.alloc.AllocError.{AllocError}
use Rattle.mm_text.proofs.ProgressLemmas.{keeps_fault, adds_none, adds_some, unstored}
use Rattle.mm_text.proofs.FaultLemmas.{plain_judged, not_memory}
use Rattle.cells.specs.declared.cell.Cell.{Cell}
use Rattle.mm_text.proofs.progress.Progress.end_line.Goals as goal

pub returns-in-Err-clause-err : goal.returns-in-Err-clause-err
returns-in-Err-clause-err c = λ done given kept.
    let f = keeps_fault c.args.limits done c.args.self.now.stage given c.args.self.now.lines c.args.line.now kept
    c.in-Err.kind (sym c.in-Err.ensures) in
    rw c.fault_here.ensures.kind f

pub returns-in-Ok-None-clause-ok : goal.returns-in-Ok-None-clause-ok
returns-in-Ok-None-clause-ok c =
    adds_none c.args.limits c.args.self.now.stage c.args.self.now.lines c.args.line.now c.args.block.now.items
    (sym (rw c.in-Ok-None.field-0-is at c.in-Ok-None.ensures))

used : {P : Type 0} (r : Result (Unit {0}) AllocError) → false ≡ is_err r → OnOk r P → P
used (Ok x) e h = h
used (Err y) e h = cc

failed : {P : Type 0} (r : Result (Unit {0}) AllocError) → true ≡ is_err r → OnErr r P → P
failed (Ok x) e h = cc
failed (Err y) e h = h

some_cell : (cell : Option Cell) → IsSome cell → (c : Cell) × (cell ≡ Some c)
some_cell (Some c) h = (c, refl)
some_cell None h = cc

pub returns-then-is_err-clause-err : goal.returns-then-is_err-clause-err
returns-then-is_err-clause-err c = λ done given kept.
    let some = some_cell c.in-Ok-Some.cell (failed c.add_cells.result c.if-is_err.ensures.value
    c.add_cells.ensures.some) in
    rw c.fault_here-then-is_err.ensures.kind (unstored c.args.limits done c.args.self.now.stage given
    c.args.self.now.lines c.args.line.now (c.in-Ok-Some.stage, c.in-Ok-Some.cell) some.0 kept
    (sym c.in-Ok-Some.ensures ∙ ap Ok c.in-Ok-Some.field-0-is) some.1)

pub returns-in-Err-clause-lacks : goal.returns-in-Err-clause-lacks
returns-in-Err-clause-lacks c = λ memory.
    absurd (not_memory c.in-Err.kind (plain_judged c.args.limits c.args.self.now.stage _ c.args.line.now c.in-Err.kind
    (sym c.in-Err.ensures)) (sym c.fault_here.ensures.kind ∙ memory))

pub returns-else-is_err-clause-ok : goal.returns-else-is_err-clause-ok
returns-else-is_err-clause-ok c =
    adds_some c.args.limits c.args.self.now.stage c.args.self.now.lines c.args.line.now c.args.block.now.items _
    (c.in-Ok-Some.stage, c.in-Ok-Some.cell)
    (sym c.in-Ok-Some.ensures ∙ ap Ok c.in-Ok-Some.field-0-is)
    (used c.add_cells.result c.if-is_err.ensures.value c.add_cells.ensures.ok)
