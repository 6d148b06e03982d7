use Rattle.std.proofs.Common.{Contains, eqb, subst, sym}
use Rattle.std.proofs.lemmas.List.Filters.{dedup_is}
use Rattle.snap_export.specs.Labels.{AreLabels, numbers_of}
use Rattle.snap_export.proofs.LabelLemmas.{labels_made}
use Rattle.snap_export.proofs.axis.labels_of.Goals as goal

pub returns : goal.returns
returns c =
    subst (AreLabels (Contains (numbers_of c.args.axis c.args.cells.now)))
    (sym (dedup_is eqb c.sort_unstable.new.self.items c.dedup.new.self.items c.dedup.ensures.filtered))
    (labels_made (numbers_of c.args.axis c.args.cells.now) c.in_ok-labels.labels.items c.sort_unstable.new.self.items
    c.in_ok-labels.ensures c.sort_unstable.ensures.permutation c.sort_unstable.ensures.sorted)
