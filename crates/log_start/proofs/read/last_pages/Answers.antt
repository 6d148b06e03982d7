use Rattle.std.proofs.Common.{◌-◌, ◌∙◌, length, ap, arith}
use Rattle.batch_store.specs.Batches.{values}
use Rattle.log_batches.specs.Payloads.{block_of}
use Rattle.log_read.specs.declared.file.Block.{Block}
use Rattle.log_start.proofs.Blocks.{last_block, no_block, page_behind}
use Rattle.log_start.proofs.read.last_pages.Goals as goal

pub returns-in-None : goal.returns-in-None
returns-in-None c = λ s first found are each few.
    let none = no_block s 1 0 first found c.args.blocks.now are (omega (arith, c.in-None.ensures.item.3)) in
    (none.0, omega (arith, none.1))

pub returns-in-Some : goal.returns-in-Some
returns-in-Some c = λ s first found are each few.
    let blocks = c.args.blocks.now in
    let e = c.in-Some.ensures.item.1 in
    let last = last_block s 1 0 first found blocks _ (length blocks - 1) are
    (omega (arith, c.in-Some.ensures.item.3.0)) in
    let page = ap (λ (b : Block). b.page) e in
    let pages = ap (λ (b : Block). length (block_of (values b.batches.items))) e in
    let items = ap (λ l. length (block_of (values l))) c.deref.ensures.value in (
      page ∙ last.0,
      page_behind c.in-Some.block.now.page c.block_pages.result _ _ c.saturating_add.result
          c.block_pages.ensures.few c.block_pages.ensures.many (omega (arith, page, pages, items, last.1)) few
          c.saturating_add.ensures,
    )
