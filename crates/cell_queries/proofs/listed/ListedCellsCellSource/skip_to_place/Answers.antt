use Rattle.hyper_matrix.proofs.SearchLaws.{listed_skipped}
use Rattle.cell_queries.proofs.listed.ListedCellsCellSource.skip_to_place.Goals as goal

pub returns : goal.returns
returns c = listed_skipped c.self.inside.cells.now c.args.self.now c.args.place c.count_before-passed.result
    c.self.view_is c.requires c.count_before-passed.ensures
