use Rattle.std.proofs.Common.{◌≡◌, subst}
use Rattle.std.proofs.lemmas.Result.{err_from_is_err_and}
use Rattle.mm_text.specs.Texts.{Spells}
use Rattle.mm_text.proofs.BoundLemmas.{spells_bounds}
use Rattle.mm_text.proofs.WholeTextLemmas.{fault_of_whole}
use Rattle.mm_text.proofs.whole_text.read_text.Goals as goal

pub invariant_of-result : goal.invariant_of-result
invariant_of-result c =
    let s = c.in_ok-judge_text.ensures.ok in
    let same : s.0 ≡ c.in-Some.size = let x = s.1 in let y = c.in-Some.ensures in cc in
    let spells : Spells c.args.text.now c.args.limits c.in-Some.size.rows c.in-Some.size.cols
    c.judge_text.new.cells.items =
    subst (λ z. Spells c.args.text.now c.args.limits z.rows z.cols c.judge_text.new.cells.items) same s.2 in
    let b = spells_bounds c.args.text.now c.args.limits _ _ _ spells in
    record { sound_rows = b.0; sound_cols = b.1; within = b.2 }

pub returns-in_err-judge_text-clause-err : goal.returns-in_err-judge_text-clause-err
returns-in_err-judge_text-clause-err c =
    let p = err_from_is_err_and c.from_residual.result c.from_residual.ensures.1 in
    let f = fault_of_whole c.args.text.now c.args.limits _ _ c.in_err-judge_text.ensures.err in
    rw (p.1, p.2) f.first

pub returns-in_err-judge_text-clause-memory : goal.returns-in_err-judge_text-clause-memory
returns-in_err-judge_text-clause-memory c =
    let p = err_from_is_err_and c.from_residual.result c.from_residual.ensures.1 in
    let f = fault_of_whole c.args.text.now c.args.limits _ _ c.in_err-judge_text.ensures.err in
    rw (p.1, p.2) f.memory

pub returns-in_err-judge_text-clause-no_read : goal.returns-in_err-judge_text-clause-no_read
returns-in_err-judge_text-clause-no_read c =
    let p = err_from_is_err_and c.from_residual.result c.from_residual.ensures.1 in
    let f = fault_of_whole c.args.text.now c.args.limits _ _ c.in_err-judge_text.ensures.err in
    rw (p.1, p.2) f.no_read
