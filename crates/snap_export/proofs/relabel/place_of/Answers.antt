use Rattle.std.proofs.Common.{Err}
use Rattle.std.proofs.lemmas.List.Sorted.{searched}
use Rattle.snap_export.proofs.LabelLemmas.{label_below, not_missed}
use Rattle.snap_export.proofs.relabel.place_of.Goals as goal

pub unreachable-requires : goal.unreachable-requires
unreachable-requires c =
    let labels = c.args.labels.now in
    let missed = searched labels c.args.number (Err c.in-Err.field-0) c.in-Err.ensures.position
    (label_below labels c.requires.rise) in
    not_missed labels c.args.number c.in-Err.field-0 c.requires.is_one missed.1 missed.2
