use Rattle.snap_file.proofs.ListLemmas.{pairs_noted}
use Rattle.log_join.proofs.seen.note_pair.Goals as goal

pub returns-clause-noted : goal.returns-clause-noted
returns-clause-noted c =
    pairs_noted c.args.pairs.now c.insert.new.self c.args.client c.args.number c.in_ok-added.ensures.updates
