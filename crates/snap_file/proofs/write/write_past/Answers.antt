use Rattle.std.proofs.Common.{◌++◌, flat_map}
use Rattle.snap_file.specs.Spelling.{entry_bytes, matrix_bytes}
use Rattle.std.proofs.lemmas.Result.{err_from_is_err_and}
use Rattle.snap_file.proofs.WriteLemmas.{writing_more, apart}
use Rattle.snap_file.proofs.write.write_past.Goals as goal

pub returns-in_err-make_room-clause-err : goal.returns-in_err-make_room-clause-err
returns-in_err-make_room-clause-err g c =
    let p = err_from_is_err_and c.from_residual.result c.from_residual.ensures.1 in rw (p.1, p.2) (λ s all left h.
    c.in_err-make_room.ensures.err s all _ h)

pub returns-in_err-write_folded-clause-err : goal.returns-in_err-write_folded-clause-err
returns-in_err-write_folded-clause-err g c =
    let p = err_from_is_err_and c.from_residual-in_err-write_folded.result
    c.from_residual-in_err-write_folded.ensures.1 in rw (p.1, p.2) (λ s all left h.
    c.in_err-write_folded.ensures.err s all (matrix_bytes c.args.base.now.whole.counts ++ left)
    (apart _ _ s _ all _ (flat_map entry_bytes c.args.folded.now) (matrix_bytes c.args.base.now.whole.counts) left
    (writing_more _ _ s _ all _ _ left c.make_room.new.self c.push_u64.new.self
    (c.in_ok-make_room.ensures.ok s all _ h) c.push_u64.ensures.taken c.push_u64.ensures.pending
    c.push_u64.ensures.remainder)))

pub returns-in_err-write_pieces-clause-err : goal.returns-in_err-write_pieces-clause-err
returns-in_err-write_pieces-clause-err g c =
    let p = err_from_is_err_and c.from_residual-in_err-write_pieces.result
    c.from_residual-in_err-write_pieces.ensures.1 in rw (p.1, p.2) (λ s all left h.
    c.in_err-write_pieces.ensures.err s all left
    (c.in_ok-write_folded.ensures.ok s all (matrix_bytes c.args.base.now.whole.counts ++ left)
    (apart _ _ s _ all _ (flat_map entry_bytes c.args.folded.now) (matrix_bytes c.args.base.now.whole.counts) left
    (writing_more _ _ s _ all _ _ left c.make_room.new.self c.push_u64.new.self
    (c.in_ok-make_room.ensures.ok s all _ h) c.push_u64.ensures.taken c.push_u64.ensures.pending
    c.push_u64.ensures.remainder))))

pub returns-clause-ok : goal.returns-clause-ok
returns-clause-ok g c = λ s all left h.
    c.in_ok-write_pieces.ensures.ok s all left
    (c.in_ok-write_folded.ensures.ok s all (matrix_bytes c.args.base.now.whole.counts ++ left)
    (apart _ _ s _ all _ (flat_map entry_bytes c.args.folded.now) (matrix_bytes c.args.base.now.whole.counts) left
    (writing_more _ _ s _ all _ _ left c.make_room.new.self c.push_u64.new.self
    (c.in_ok-make_room.ensures.ok s all _ h) c.push_u64.ensures.taken c.push_u64.ensures.pending
    c.push_u64.ensures.remainder)))
