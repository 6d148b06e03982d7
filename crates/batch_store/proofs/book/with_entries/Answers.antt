use Rattle.std.proofs.Common.{[], ◌∷◌, ◌++◌, ◌∙◌, sym, ap, arith, take, append-nil, append_assoc}
use Rattle.batch_store.specs.Books.{line_entries}
use Rattle.batch_store.proofs.BookLaws.{none_past}
use Rattle.batch_store.proofs.BookFoldLaws.{next_entry}
use Rattle.batch_store.proofs.book.with_entries.Goals as goal

pub lines-init : goal.lines-init
lines-init c = record {
  within = omega arith;
  told = c.in_ok-reserve.ensures.items ∙ sym (append-nil c.args.before.items);
}

pub unreachable-requires : goal.unreachable-requires
unreachable-requires c =
    omega (arith, none_past c.args.lines.now.entries c.lines.place c.in_default.ensures.entry, c.lines-test.true, c.requires)

pub lines-preserved : goal.lines-preserved
lines-preserved c =
    let lines = c.args.lines.now.entries in
    record {
      within = omega (arith, c.lines-test.true);
      told = c.in_ok-push.ensures.items
          ∙ (λ j. c.lines.invariant.told j ++ c.entry_under.ensures j ∷ [])
          ∙ append_assoc c.args.before.items (line_entries (take c.lines.place lines)) _
          ∙ ap (λ l. c.args.before.items ++ l)
          (next_entry lines c.lines.place _ c.in-Some.line.now c.in-Some.ensures.entry);
    }

pub returns : goal.returns
returns c =
    c.lines.invariant.told
    ∙ ap (λ n. c.args.before.items ++ line_entries (take n c.args.lines.now.entries))
    {x = c.lines.place} {y = c.args.count} (omega (arith, c.lines.invariant.within, c.lines-test.false))
