use Rattle.std.proofs.Common.{◌+◌, arith, rules}
use Rattle.std.specs.Int.{w64}
use Rattle.snap_file.specs.Spelling.{number_bytes}
use Rattle.log_batches.proofs.Sizes.{length-number}
use Rattle.log_batches.proofs.Filled.{put_more, put_length}
use Rattle.log_batches.proofs.payload.put_number.Goals as goal

pub returns-clause-bytes : goal.returns-clause-bytes
unfolding number_bytes
returns-clause-bytes c =
    let eight = length-number c.args.n in
    put_more c.args.out.now c.put.new.out (number_bytes w64 c.args.n) c.args.at (c.args.at + 8) (omega arith)
    (omega arith) (search rules) (search rules)

pub returns-clause-len : goal.returns-clause-len
unfolding number_bytes
returns-clause-len c =
    let eight = length-number c.args.n in
    put_length c.args.out.now c.put.new.out (number_bytes w64 c.args.n) c.args.at (omega arith) (search rules)
    (search rules)
