use Rattle.std.proofs.Common.{ap, ◌∙◌}
use Rattle.layer_compaction.specs.Due.{DueRuns}
use Rattle.layer_compaction.proofs.DueLemmas.{put_between}
use Rattle.layer_compaction.proofs.due.Due.exchanged.Goals as goal

pub returns : goal.returns
returns c = put_between c.args.runs.now c.split_at.result.0.now c.split_at.result.1.now c.split_at-2.result.0.now
    c.split_at-2.result.1.now c.in_ok-after.after.items c.in_ok-run.run' c.args.sum.now c.args.self.now
    c.split_at.ensures.by_index.0 c.split_at-2.ensures.by_index.0
    (c.split_at.ensures.front_len ∙ ap (λ (d : DueRuns). d.from) c.self.view_is)
    (c.split_at-2.ensures.front_len ∙ ap (λ (d : DueRuns). d.count) c.self.view_is)
    c.in_ok-after.ensures c.in_ok-run.ensures
