use Rattle.std.proofs.Common.{List, [], ◌+◌, refl, sym, subst, ◌∙◌, arith}
use Rattle.std.proofs.lemmas.Bool.{ltb-false}
use Rattle.std.proofs.lemmas.Result.{err_from_is_err_and}
use Rattle.batch_store.specs.Accepted.{accepted}
use Rattle.batch_store.specs.declared.verdict.Entry.{Entry}
use Rattle.snap_file.specs.Table.{Progress, entry}
use Rattle.snap_file.specs.Outcomes.{IsOfBytes, HasJudged}
use Rattle.snap_file.specs.Lists.{HasPairs}
use Rattle.snap_file.specs.declared.fault.SnapFault.TheVariants.{RepeatedNumber, TotalDiffers}
use Rattle.snap_file.proofs.StopLemmas.{stops_refused, stops_memory, read_passed}
use Rattle.snap_file.proofs.BehindLemmas.{behind_numbers}
use Rattle.snap_file.proofs.past.read_entry.Goals as goal

repeat_judged : IsOfBytes RepeatedNumber
repeat_judged = (λ e. absurd cc, λ e. absurd cc)

total_judged : IsOfBytes TotalDiffers
total_judged = (λ e. absurd cc, λ e. absurd cc)

pub returns-in_err-client-clause-err : goal.returns-in_err-client-clause-err
unfolding entry
returns-in_err-client-clause-err g c =
    let p = err_from_is_err_and c.from_residual.result c.from_residual.ensures.1 in
    rw (p.1, p.2) (λ s m k b h.
    c.in_err-client.ensures.err s m _ h)

pub returns-in_err-repeated-clause-err : goal.returns-in_err-repeated-clause-err
unfolding entry
returns-in_err-repeated-clause-err g c =
    let p = err_from_is_err_and c.from_residual-in_err-repeated.result c.from_residual-in_err-repeated.ensures.1 in
    rw (p.1, p.2, c.in_err-repeated.ensures.err.0) (λ s m k b h.
    stops_memory {S = g.row.R.Denot} g.R.Source.read_gives g.R.Source.failure_count
    (g.R.Source.at_end c.next_pair.new.r) m s c.next_pair.new.r c.next_pair.new.self _
    (read_passed {S = g.row.R.Denot} g.R.Source.read_gives g.R.Source.failure_count m s c.next_pair.new.r
    c.next_pair.new.self _ RepeatedNumber _ (c.in_ok-client.ensures.ok s m _ h)
    (c.in_err-repeated.ensures.err.1 c.args.past.now.folded.items c.requires.pairs))
    (behind_numbers c.args.head.now c.args.past.now.counted _ (λ x y. b _)))

pub returns-in_err-refuse-clause-err : goal.returns-in_err-refuse-clause-err
unfolding entry
returns-in_err-refuse-clause-err g c =
    let p = err_from_is_err_and c.from_residual-in_err-refuse.result c.from_residual-in_err-refuse.ensures.1 in
    rw (p.1, p.2, c.in_err-refuse.ensures.err.0) (λ s m k b h.
    stops_refused {S = g.row.R.Denot} g.R.Source.read_gives g.R.Source.failure_count
    (g.R.Source.at_end c.next_pair.new.r) m s c.next_pair.new.r c.next_pair.new.self _ RepeatedNumber _
    (c.in_ok-client.ensures.ok s m _ h)
    (sym (c.in_ok-repeated.ensures.told c.args.past.now.folded.items c.requires.pairs) ∙ c.in_err-refuse.ensures.err.1)
    repeat_judged)

pub returns-in_err-cells-clause-err : goal.returns-in_err-cells-clause-err
unfolding entry
returns-in_err-cells-clause-err g c =
    let p = err_from_is_err_and c.from_residual-in_err-cells.result c.from_residual-in_err-cells.ensures.1 in
    rw (p.1, p.2) (λ s m k b h.
    c.in_err-cells.ensures.err s m _
    (read_passed {S = g.row.R.Denot} g.R.Source.read_gives g.R.Source.failure_count m s c.next_pair.new.r
    c.next_pair.new.self _ RepeatedNumber _ (c.in_ok-client.ensures.ok s m _ h)
    (sym (c.in_ok-repeated.ensures.told c.args.past.now.folded.items c.requires.pairs) ∙ c.in_ok-refuse.ensures.ok)))

pub returns-in_err-refuse-2-clause-err : goal.returns-in_err-refuse-2-clause-err
unfolding entry
returns-in_err-refuse-2-clause-err g c =
    let p = err_from_is_err_and c.from_residual-in_err-refuse-2.result c.from_residual-in_err-refuse-2.ensures.1 in
    rw (p.1, p.2, c.in_err-refuse-2.ensures.err.0) (λ s m k b h.
    stops_refused {S = g.row.R.Denot} g.R.Source.read_gives g.R.Source.failure_count
    (g.R.Source.at_end c.next_pair-2.new.r) m s c.next_pair-2.new.r c.next_pair-2.new.self _ TotalDiffers _
    (c.in_ok-cells.ensures.ok s m _
    (read_passed {S = g.row.R.Denot} g.R.Source.read_gives g.R.Source.failure_count m s c.next_pair.new.r
    c.next_pair.new.self _ RepeatedNumber _ (c.in_ok-client.ensures.ok s m _ h)
    (sym (c.in_ok-repeated.ensures.told c.args.past.now.folded.items c.requires.pairs) ∙ c.in_ok-refuse.ensures.ok)))
    (sym c.passes-over.ensures ∙ c.in_err-refuse-2.ensures.err.1) total_judged)

pub returns-in-Err-clause-err : goal.returns-in-Err-clause-err
unfolding entry
returns-in-Err-clause-err g c = λ s m k b h.
    stops_memory {S = g.row.R.Denot} g.R.Source.read_gives g.R.Source.failure_count
    (g.R.Source.at_end c.next_pair-2.new.r) m s c.next_pair-2.new.r c.next_pair-2.new.self _
    (read_passed {S = g.row.R.Denot} g.R.Source.read_gives g.R.Source.failure_count m s c.next_pair-2.new.r
    c.next_pair-2.new.self _ TotalDiffers _ (c.in_ok-cells.ensures.ok s m _
    (read_passed {S = g.row.R.Denot} g.R.Source.read_gives g.R.Source.failure_count m s c.next_pair.new.r
    c.next_pair.new.self _ RepeatedNumber _ (c.in_ok-client.ensures.ok s m _ h)
    (sym (c.in_ok-repeated.ensures.told c.args.past.now.folded.items c.requires.pairs) ∙ c.in_ok-refuse.ensures.ok)))
    (sym c.passes-over.ensures ∙ c.in_ok-refuse-2.ensures.ok)) (b _)

pub returns-in-Ok-clause-ok : goal.returns-in-Ok-clause-ok
unfolding entry
returns-in-Ok-clause-ok g c = λ s m k h.
    subst (λ (l : List Entry). HasJudged {S = g.row.R.Denot} g.R.Source.read_gives g.R.Source.failure_count m s
    c.next_pair-2.new.r c.next_pair-2.new.self (k (let y : Progress = record {
      state = accepted c.args.past.now.base.counts l [];
      counted = c.args.past.now.counted + c.in_ok-cells.total;
    } in y))) (sym c.in-Ok.ensures.items)
    (read_passed {S = g.row.R.Denot} g.R.Source.read_gives g.R.Source.failure_count m s c.next_pair-2.new.r
    c.next_pair-2.new.self _ TotalDiffers _ (c.in_ok-cells.ensures.ok s m _
    (read_passed {S = g.row.R.Denot} g.R.Source.read_gives g.R.Source.failure_count m s c.next_pair.new.r
    c.next_pair.new.self _ RepeatedNumber _ (c.in_ok-client.ensures.ok s m _ h)
    (sym (c.in_ok-repeated.ensures.told c.args.past.now.folded.items c.requires.pairs) ∙ c.in_ok-refuse.ensures.ok)))
    (sym c.passes-over.ensures ∙ c.in_ok-refuse-2.ensures.ok))

pub next_pair-requires-2 : goal.next_pair-requires-2
next_pair-requires-2 g c = omega (arith, c.requires.failures, c.in_ok-client.ensures.no_failure)

pub returns-in-Ok-clause-no_failure : goal.returns-in-Ok-clause-no_failure
returns-in-Ok-clause-no_failure g c = c.in_ok-cells.ensures.no_failure ∙ c.in_ok-client.ensures.no_failure

pub returns-in-Ok-clause-pairs : goal.returns-in-Ok-clause-pairs
returns-in-Ok-clause-pairs g c =
    let one : Entry = record {
      client = c.in_ok-client.client;
      number = c.in_ok-client.number;
      cells = c.in_ok-cells.cells;
      total = c.in_ok-cells.total;
    } in
    subst (λ (l : List Entry). HasPairs c.note_pair.new.pairs l) (sym c.in-Ok.ensures.items)
    (c.in_ok-repeated.ensures.noted c.args.past.now.folded.items one c.requires.pairs refl refl)

pub returns-in-Ok-clause-counted : goal.returns-in-Ok-clause-counted
returns-in-Ok-clause-counted g c =
    ltb-false c.args.head.now.total (c.args.past.now.counted + c.in_ok-cells.total)
    (sym c.passes-over.ensures ∙ c.in_ok-refuse-2.ensures.ok)
