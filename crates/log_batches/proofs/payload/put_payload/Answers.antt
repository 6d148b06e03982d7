use Rattle.std.proofs.Common.{◌≡◌, ◌+◌, ◌∙◌, ℕ, ap, sym, take, length, arith}
use Rattle.batch_store.specs.Batches.{values}
use Rattle.log_batches.specs.Payloads.{payload_bytes}
use Rattle.log_batches.proofs.Sizes.{length-payload}
use Rattle.log_batches.proofs.Filled.{payload_put, zeros_put}
use Rattle.log_batches.proofs.payload.put_payload.Goals as goal

pub put_number-first-requires : goal.put_number-first-requires
put_number-first-requires c =
    let all = length-payload (values c.args.batches.now) in omega (arith, c.requires.end, c.requires.room)

pub put_batches-last-requires : goal.put_batches-last-requires
put_batches-last-requires c =
    let all = length-payload (values c.args.batches.now) in
    omega (arith, c.requires.end, c.requires.room, c.put_number-first.ensures.place, c.put_number-first.ensures.len)

pub returns-clause-bytes : goal.returns-clause-bytes
returns-clause-bytes c =
    let all = length-payload (values c.args.batches.now) in
    zeros_put c.put_batches-last.new.out c.put_zeros.new.out (payload_bytes (values c.args.batches.now))
    c.put_batches-last.result c.args.end
    (omega (arith, c.put_number-first.ensures.place, c.put_batches-last.ensures.place))
    (payload_put c.args.batches.now _ _ c.put_number-first.ensures.bytes c.put_batches-last.ensures.bytes)
    c.put_zeros.ensures.front c.put_zeros.ensures.zeros

pub returns-clause-len : goal.returns-clause-len
returns-clause-len c = c.put_zeros.ensures.len ∙ c.put_batches-last.ensures.len ∙ c.put_number-first.ensures.len
