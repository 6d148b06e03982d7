use Rattle.std.proofs.Common.{refl, sym, ◌∙◌}
use Rattle.snap_file.proofs.ListLemmas.{pairs_noted}
use Rattle.snap_file.proofs.past.note_pair.Goals as goal

pub returns-in-Ok-clause-noted : goal.returns-in-Ok-clause-noted
returns-in-Ok-clause-noted c = pairs_noted c.args.pairs.now c.insert.new.self c.args.client c.args.number
    c.in-Ok.ensures.updates

pub returns-in-Err-clause-err : goal.returns-in-Err-clause-err
returns-in-Err-clause-err c =
    (refl, λ list h. sym (h c.args.client c.args.number) ∙ c.in-Err.ensures.absent)
