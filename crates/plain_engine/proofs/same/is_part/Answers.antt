use Rattle.std.proofs.Common.{◌∙◌, sym, ap}
use Rattle.std.specs.FinMap.{entries}
use Rattle.hyper_matrix.specs.Counts.{part}
use Rattle.hyper_matrix.specs.Parts.{part_entries}
use Rattle.hyper_matrix.proofs.PartLaws.{entries-part}
use Rattle.batch_store.proofs.SameMatrices.{same_counts_by_entries}
use Rattle.plain_engine.proofs.same.is_part.Goals as goal

pub cells-init : goal.cells-init
cells-init c =
    let own = c.args.own.now.counts in
    let whole = c.args.whole.now.whole.counts in
    let s = c.args.s in
    let k = c.args.k in
    let left = c.into_iter-cell-iterator.ensures.into_iter_gives ∙ c.cells-cell-items.ensures.order in
    record {
      can = tt;
      finite = tt;
      rest = (
        λ is. c.iter-others.ensures.order ∙ ap entries is ∙ entries-part whole s k ∙ ap (part_entries s k) (sym left),
        λ is. same_counts_by_entries own (part whole s k) (sym c.iter-others.ensures.order ∙ is
            ∙ ap (part_entries s k) left ∙ sym (entries-part whole s k)),
      );
    }
