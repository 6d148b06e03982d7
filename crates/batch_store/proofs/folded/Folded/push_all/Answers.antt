use Rattle.std.proofs.Common.{◌∙◌, sym, arith, refl, append-nil}
use Rattle.batch_store.proofs.FoldLaws.{next_new, next_fits, next_told}
use Rattle.batch_store.proofs.folded.Folded.push_all.Goals as goal

pub entries-init : goal.entries-init
entries-init c = record {
  base = refl;
  told = sym (append-nil c.args.self.now.entries);
  room = omega arith;
}

pub push-requires-clause-new_pair : goal.push-requires-clause-new_pair
push-requires-clause-new_pair c =
    next_new c.args.self.now.entries c.args.entries.now _ _ _ c.entries.invariant.told c.entries-test.true
    c.requires.distinct

pub push-requires-clause-room : goal.push-requires-clause-room
push-requires-clause-room c = omega (arith, c.entries.invariant.room, c.entries-test.true, c.requires.room)

pub push-requires-clause-fits : goal.push-requires-clause-fits
push-requires-clause-fits c =
    next_fits c.args.self.now.entries c.args.entries.now _ _ _ c.entries.invariant.told c.entries-test.true _
    c.requires.fits

pub entries-preserved : goal.entries-preserved
entries-preserved c = record {
  base = c.push.ensures.base ∙ c.entries.invariant.base;
  told = next_told c.args.self.now.entries c.args.entries.now _ _ _ c.entries.invariant.told c.entries-test.true _
      c.push.ensures.entries;
  room = omega (arith, c.entries.invariant.room, c.push.ensures.room);
}
