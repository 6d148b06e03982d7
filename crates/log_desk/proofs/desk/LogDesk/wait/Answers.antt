use Rattle.std.proofs.Common.{◌≡◌, ◌≤◌, List, length, Err, sym, subst, arith, rules}
use mathlib.Core.List.{IsPrefix}
use Rattle.batch_store.specs.declared.verdict.Entry.{Entry}
use Rattle.log_desk.specs.declared.fault.DeskFault.TheVariants.{HistoriesDiffer}
use Rattle.log_desk.proofs.desk.LogDesk.wait.Goals as goal

-- the book was asked from the end of what the turn's log has, with which what is known begins
pub returns-in_err-lead-clause-differ : goal.returns-in_err-lead-clause-differ
returns-in_err-lead-clause-differ g c = λ none e.
    let same : c.lead.result ≡ Err (HistoriesDiffer none) = first_of (search rules, cc) in
    let asked = c.lead.ensures.differ none same in
    let turn : c.in-Some-take_turn.turn.durable ≡ c.deref.result.now.log.durable = first_of (search rules, cc) in
    let short : length c.show.new.known ≤ c.args.index = omega (arith, c.if-index-count.false, c.count.ensures) in
    record {
      entries = c.in-Some-take_turn.turn.durable;
      durable = asked.1;
      count = sym asked.0;
      begins = subst (λ (l : List Entry). IsPrefix l c.show.new.known) (sym turn) c.show.ensures.no_less;
      short = short;
    }
