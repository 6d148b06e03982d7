use Rattle.hyper_matrix.proofs.SearchLaws.{listed_skipped}
use Rattle.hyper_matrix.proofs.cell_iter.Cells.skip_to.Goals as goal

pub returns : goal.returns
returns c = listed_skipped c.self.inside.left.now c.args.self.now c.args.place c.count_before-passed.result
    c.self.view_is c.requires c.count_before-passed.ensures
