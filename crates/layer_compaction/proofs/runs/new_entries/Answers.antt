use Rattle.std.proofs.Common.{ap, ◌∙◌, arith}
use Rattle.std.specs.FinMap.{entries}
use Rattle.hyper_matrix.specs.Matrix.{Matrix}
use Rattle.layer_compaction.specs.Runs.{count_new}
use Rattle.layer_compaction.proofs.RunLemmas.{all_new, alone_counts}
use Rattle.layer_compaction.proofs.runs.new_entries.Goals as goal

pub returns-in-empty : goal.returns-in-empty
returns-in-empty c = c.entries.ensures
    ∙ all_new c.args.before.now c.args.m.now.counts (omega (arith, c.in-empty.len_below))

pub returns-in-len1 : goal.returns-in-len1
returns-in-len1 c =
    c.new_beside.ensures
    ∙ ap (λ b. count_new b (entries c.args.m.now.counts))
    (ap (λ (m : Matrix). m.counts) (c.matrix-in-len1.ensures ∙ c.deref-in-len1.ensures)
    ∙ alone_counts c.args.before.now c.run-item.result c.in-len1.len_at_least c.in-len1.len_below c.run-item.is)
