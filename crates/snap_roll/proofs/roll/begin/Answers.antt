use Rattle.snap_roll.specs.Rolls.{begun_empty}
use Rattle.snap_roll.proofs.HasLemmas.{if_ok_with}
use Rattle.snap_roll.proofs.TellLemmas.{begins_found, begins_none}
use Rattle.snap_roll.proofs.roll.begin.Goals as goal

pub returns-in-Some-clause-begun : goal.returns-in-Some-clause-begun
returns-in-Some-clause-begun c = if_ok_with c.begin_from.result (λ r h. (
  c.in-Some.snapshot,
  begins_found c.args.first.now c.args.found c.in-Some.snapshot c.in-Some.is c.requires,
  h,
)) c.begin_from.ensures.begun

pub returns-in-None-clause-begun : goal.returns-in-None-clause-begun
returns-in-None-clause-begun c = if_ok_with c.begin_empty.result (λ r h. (
  begun_empty c.args.first.now,
  begins_none c.args.first.now c.args.found c.in-None.is,
  h,
)) c.begin_empty.ensures.begun
