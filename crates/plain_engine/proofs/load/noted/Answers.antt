use Rattle.std.proofs.Common.{◌∙◌, ap, sym, not}
use Rattle.plain_engine.proofs.LoadLaws.{pairs_noted, not_not}
use Rattle.plain_engine.proofs.load.noted.Goals as goal

pub returns-in-Ok-clause-told : goal.returns-in-Ok-clause-told
returns-in-Ok-clause-told c = λ es h.
    let e = c.args.entry.now in
    ap not c.in-Ok.ensures.added ∙ not_not _ ∙ h e.client e.number

pub returns-in-Ok-clause-kept : goal.returns-in-Ok-clause-kept
returns-in-Ok-clause-kept c = pairs_noted c.args.pairs.now c.insert.new.self c.args.entry.now c.in-Ok.ensures.updates

pub returns-in-Err-clause-new_pair : goal.returns-in-Err-clause-new_pair
returns-in-Err-clause-new_pair c = λ es h.
    let e = c.args.entry.now in
    sym (h e.client e.number) ∙ c.in-Err.ensures.absent
