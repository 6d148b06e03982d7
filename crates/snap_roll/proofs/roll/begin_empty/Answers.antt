use Rattle.std.proofs.Common.{ap, refl}
use Rattle.batch_store.specs.Books.{Listing}
use Rattle.snap_roll.specs.Rolls.{roll}
use Rattle.snap_roll.proofs.TellLemmas.{none_accepted, none_based, none_folded}
use Rattle.snap_roll.proofs.roll.begin_empty.Goals as goal

pub returns-clause-begun : goal.returns-clause-begun
returns-clause-begun c =
    let state = none_folded c.args.first.now c.in_ok-list.list c.in_ok-list.ensures.empty in
    record {
      origin = c.unknown-2.ensures;
      setup = refl;
      state = λ i. roll (c.unknown.ensures i) (state i);
    }

pub returns-clause-whole : goal.returns-clause-whole
returns-clause-whole c =
    let list = c.in_ok-list.list in
    let empty = c.in_ok-list.ensures.empty in
    record {
      accepted = none_accepted c.args.first.now list c.in_ok-list.ensures.sound empty;
      based = none_based c.args.first.now list empty;
      folded = ap (λ (l : Listing). l.list) empty;
    }
