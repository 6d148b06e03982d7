use Rattle.std.proofs.Common.{sym, ◌∙◌, ap, arith}
use Rattle.std.proofs.lemmas.Bool.{false≢true}
use Rattle.std.specs.FinMap.{get-entries, find}
use Rattle.hyper_matrix.specs.Counts.{place_cmp}
use Rattle.hyper_matrix.specs.Cells.{entry_of}
use Rattle.filtered_matrix.specs.Filter.{may_have}
use Rattle.filtered_matrix.proofs.FilterLaws.{found_behind}
use Rattle.filtered_matrix.proofs.filter.PlaceFilter.of.Goals as goal

pub cells-init : goal.cells-init
cells-init c =
    let all = c.into_iter-cell-iterator.ensures.into_iter_gives ∙ c.iter-cell-items.ensures.order in
    record {
      can = tt;
      finite = tt;
      some = c.in_ok-filter.ensures;
      rest = λ p h. get-entries c.args.m.now.counts p ∙ sym (ap (find place_cmp p) all);
    }

pub cells-preserved : goal.cells-preserved
cells-preserved c =
    let inv = c.cells.invariant in
    let here = entry_of c.in-Some.cell in
    record {
      can = tt;
      finite = tt;
      some = omega (arith, inv.some, c.mark.ensures.kept);
      rest = λ p h.
          inv.rest p (c.mark.ensures.others p h)
          ∙ ap (find place_cmp p) c.in-Some.ensures.steps
          ∙ found_behind p here c.next.new.self
          (λ same. false≢true (sym h ∙ ap (may_have c.mark.new.self) same ∙ c.mark.ensures.marked));
    }

pub returns-clause-covers : goal.returns-clause-covers
returns-clause-covers c p h = c.cells.invariant.rest p h ∙ ap (find place_cmp p) c.in-None.ensures.steps.0
