use Rattle.std.proofs.Common.{◌≡◌, ℕ, ◌+◌, ◌*◌, ◌^◌, ◌<◌, ◌≤◌, length, ap, sym, subst, ◌∙◌, arith, rules}
use Rattle.batch_store.specs.Batches.{values}
use Rattle.log_blocks.specs.Blocks.{Block, IsBlock, batches_in}
use Rattle.log_batches.specs.Payloads.{block_of}
use Rattle.stored_log.specs.Sizes.{pages_in}
use Rattle.stored_log.proofs.LogLemmas.{batches_fit, block_is, length_values, bytes_next, places_after, room_behind}
use Rattle.stored_log.proofs.LogLemmas.{taken_small}
use Rattle.stored_log.proofs.block.write_block.Goals as goal

pub append-requires : goal.append-requires
append-requires g c κs within =
    let list = values c.args.batches.now in
    let block = block_of list in
    let same = c.requires.1.1.0 in
    let pages = c.requires.1.1.1.1.1.1.1.1.0 in
    let places = c.requires.1.1.1.1.1.1.1.1.1 in
    let count = c.spell_block-pages.ensures.count in
    let counted = c.spell_block-pages.ensures.pages in
    let most : c.args.log.now.writer.room ≤ 268435456 = omega (arith, pages) in
    let small = taken_small (pages_in list) c.args.log.now.writer.room c.requires.1.1.1.1.0 most in
    let few : length c.args.batches.now < 2 ^ 64 = search rules in
    let is = block_is c.args.batches.now c.requires.1.1.1.0 few (omega (arith, small.0, count, counted)) in
    let fit = batches_fit list is.0 (is.1 ∙ sym (length_values c.args.batches.now)) in (
      search rules,
      (
        λ t. (
          (c.requires.1.0 t).0,
          record {
            settled = (c.requires.1.0 t).1;
            block_is = subst (λ (b : Block). IsBlock b) (sym same) is.0;
            bytes_are = bytes_next g.known.0 c.mark.result.next c.args.log.now.writer.next
                (4096 * c.spell_block-pages.result) g.known.1 block c.spell_block-pages.new.buffer.items
                c.deref.result.now c.deref.ensures.value c.spell_block-pages.ensures.bytes c.mark.ensures.next
                (c.requires.1.0 t).1.next same;
            pages_are = count ∙ ap (λ (b : Block). length b) (sym same);
            batches_are = sym is.1 ∙ ap (λ (b : Block). batches_in b) (sym same);
          },
        ),
        record {
          working = c.requires.1.1.1.1.1.1.0;
          failures = c.requires.1.1.1.1.1.1.1.0;
          room = omega (arith, small.1, counted, pages);
          places = omega (arith, fit, small.1, count, counted, pages, places, length_values c.args.batches.now);
        },
      ),
    )

pub returns-clause-places : goal.returns-clause-places
returns-clause-places g c =
    let list = values c.args.batches.now in
    let pages = c.requires.1.1.1.1.1.1.1.1.0 in
    let places = c.requires.1.1.1.1.1.1.1.1.1 in
    let count = c.spell_block-pages.ensures.count in
    let counted = c.spell_block-pages.ensures.pages in
    let most : c.args.log.now.writer.room ≤ 268435456 = omega (arith, pages) in
    let small = taken_small (pages_in list) c.args.log.now.writer.room c.requires.1.1.1.1.0 most in
    let few : length c.args.batches.now < 2 ^ 64 = search rules in
    let is = block_is c.args.batches.now c.requires.1.1.1.0 few (omega (arith, small.0, count, counted)) in
    let fit = batches_fit list is.0 (is.1 ∙ sym (length_values c.args.batches.now)) in
    places_after c.append.result c.args.log.now.writer c.append.new.self c.spell_block-pages.result
    (length c.args.batches.now) c.append.ensures.mark c.append.ensures.same places
    (omega (arith, fit, count, length_values c.args.batches.now))

pub returns-clause-room : goal.returns-clause-room
returns-clause-room g c =
    let pages = pages_in (values c.args.batches.now) in
    let most : c.args.log.now.writer.room ≤ 268435456 = omega (arith, c.requires.1.1.1.1.1.1.1.1.0) in
    let small = taken_small pages c.args.log.now.writer.room c.requires.1.1.1.1.0 most in
    room_behind c.append.result c.args.log.now.writer c.append.new.self c.spell_block-pages.result pages
    c.append.ensures.room c.spell_block-pages.ensures.pages small.0 small.1
