use Rattle.std.proofs.Common.{◌∙◌, take, arith}
use Rattle.std.specs.Int.{w64}
use Rattle.batch_store.specs.Batches.{submission}
use Rattle.snap_file.specs.Spelling.{number_bytes, matrix_bytes}
use Rattle.log_batches.proofs.Sizes.{length-batch}
use Rattle.log_batches.proofs.Filled.{three_fields}
use Rattle.log_batches.proofs.payload.put_parts.Goals as goal

pub returns-clause-bytes : goal.returns-clause-bytes
returns-clause-bytes c =
    three_fields (take c.args.at c.args.out.now) _ _ _ (number_bytes w64 c.args.client)
    (number_bytes w64 c.args.number) (matrix_bytes c.args.m.now.counts) c.put_number-at.ensures.bytes
    c.put_number-at-2.ensures.bytes c.put_matrix.ensures.bytes

pub returns-clause-place : goal.returns-clause-place
returns-clause-place c =
    let n = length-batch (submission c.args.client c.args.number c.args.m.now) in
    omega (arith, c.put_number-at.ensures.place, c.put_number-at-2.ensures.place, c.put_matrix.ensures.place)

pub put_number-at-requires : goal.put_number-at-requires
put_number-at-requires c = let n = length-batch (submission c.args.client c.args.number c.args.m.now) in omega arith

pub put_number-at-requires-2 : goal.put_number-at-requires-2
put_number-at-requires-2 c =
    let n = length-batch (submission c.args.client c.args.number c.args.m.now) in
    omega (arith, c.put_number-at.ensures.place, c.put_number-at.ensures.len)

pub put_matrix-requires : goal.put_matrix-requires
put_matrix-requires c =
    let n = length-batch (submission c.args.client c.args.number c.args.m.now) in
    omega (
      arith,
      c.put_number-at.ensures.place,
      c.put_number-at.ensures.len,
      c.put_number-at-2.ensures.place,
      c.put_number-at-2.ensures.len,
    )
