use Rattle.std.proofs.Common.{◌++◌, inr}
use Rattle.log_read.proofs.ReadLemmas.{source_failed}
use Rattle.log_read.proofs.read.told_at_end.Goals as goal

pub returns-in-Ok : goal.returns-in-Ok
returns-in-Ok g c = λ s judged.
    let d = c.in-Ok.ensures.ok s judged.done judged.at in
    inr (inr (record {
      bytes = (judged.done ++ c.args.source.now.buffer) ++ d.more;
      end = d.end;
      wrong = judged.wrong d.more;
    }))

pub returns-in-Err : goal.returns-in-Err
returns-in-Err g c = λ s judged.
    source_failed {S = g.row.R.Denot} g.R.Source.read_gives g.R.Source.failure_count (g.R.Source.at_end c.drain.new.r)
    c.args.source.now.max_bytes s c.drain.new.r c.in-Err.kind c.of_source.result _ c.of_source.ensures.kind
    c.of_source.ensures.page c.in-Err.ensures.limit
    (c.in-Err.ensures.err s judged.done judged.at)
