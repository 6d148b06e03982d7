use Rattle.std.proofs.Common.{◌≡◌, length, arith}
use Rattle.log_batches.proofs.Chunks.{page_chunk}
use Rattle.log_batches.proofs.pages.put_chunk.Goals as goal

pub returns : goal.returns
returns c = page_chunk c.put.new.out c.args.page.now c.args.chunk.now (omega arith) c.requires c.put.ensures.behind
