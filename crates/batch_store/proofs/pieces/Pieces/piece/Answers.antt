use Rattle.batch_store.proofs.PieceLaws.{piece_read}
use Rattle.batch_store.proofs.pieces.Pieces.piece.Goals as goal

pub returns : goal.returns
returns c = piece_read c.args.s c.self.inside.rows c.self.inside.cols c.args.self.now c.self.inside.list.items
    c.index.result.now c.self.view_is c.requires c.self.invariant.pieces c.index.ensures
