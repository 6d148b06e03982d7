use Rattle.std.proofs.Common.{refl, arith}
use Rattle.log_start.proofs.Blocks.{each_is, few_pages, is_found}
use Rattle.log_start.proofs.read.take_apart.Goals as goal

pub returns : goal.returns
returns c = λ bytes are most holds.
    let few = few_pages bytes c.args.file are most holds in
    is_found bytes c.args.file are most holds _ c.last_pages-pages.result.last c.last_pages-pages.result.page refl
    c.in_ok-batches.ensures (omega (arith, c.len.ensures)) refl refl
    (c.last_pages-pages.ensures c.args.file.head.setup c.args.file.head.first holds.found
    (rw c.deref.ensures.value holds.blocks) (each_is bytes c.args.file are most holds) (omega (arith, few)))
