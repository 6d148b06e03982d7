use Rattle.std.proofs.Common.{◌≡◌, ◌+◌, ◌*◌, ◌<◌, ◌≤◌, ◌∙◌, List, ℕ, ap, sym, length, arith}
use Rattle.batch_store.specs.Batches.{values}
use Rattle.log_batches.specs.Payloads.{block_of, payload_bytes}
use Rattle.log_batches.proofs.Chunks.{length-block, pages_counted, encoded}
use Rattle.log_batches.proofs.pages.encode_block.Goals as goal

pub put_payload-requires-clause-room : goal.put_payload-requires-clause-room
put_payload-requires-clause-room c =
    let n = length-block (values c.args.batches.now) in
    let count = pages_counted c.block_pages-pages.result (length (block_of (values c.args.batches.now)))
    c.block_pages-pages.ensures.few c.block_pages-pages.ensures.many c.requires.few in
    omega (arith, n, count)

pub put_payload-requires-clause-filled : goal.put_payload-requires-clause-filled
put_payload-requires-clause-filled c =
    let n = length-block (values c.args.batches.now) in
    let count = pages_counted c.block_pages-pages.result (length (block_of (values c.args.batches.now)))
    c.block_pages-pages.ensures.few c.block_pages-pages.ensures.many c.requires.few in
    omega (arith, n, count)

pub returns-clause-bytes : goal.returns-clause-bytes
returns-clause-bytes c =
    let list = values c.args.batches.now in
    let pages = c.block_pages-pages.result in
    let count : pages ≡ length (block_of list) =
    pages_counted pages (length (block_of list)) c.block_pages-pages.ensures.few c.block_pages-pages.ensures.many
    c.requires.few in
    let size : 4096 * pages ≤ length c.args.out.now = omega (arith, c.requires.room) in
    let long : length c.seal_pages.new.out ≡ 4096 * pages =
    omega (arith, c.seal_pages.auto.out, c.put_payload.ensures.len, c.split_at_mut-block.ensures.front_len) in
    encoded c.args.place pages list c.seal_pages.new.out c.put_payload.new.out c.split_at_mut-block.result.1.now count
    long c.seal_pages.ensures c.put_payload.ensures.bytes
