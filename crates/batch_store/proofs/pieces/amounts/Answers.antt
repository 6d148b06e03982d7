use Rattle.std.proofs.Common.{◌≡◌, refl, List, ◌+◌, ◌++◌, ◌∷◌, [], ◌∙◌, sym, ap, subst, take, get_or, arith}
use Rattle.std.proofs.lemmas.List.{map-append, take_more}
use Rattle.std.specs.Arc.{arc_value}
use Rattle.std.specs.FinMap.{len}
use Rattle.std.specs.List.{AllByRecursion}
use Rattle.hyper_matrix.specs.Counts.{total}
use Rattle.hyper_matrix.specs.Matrix.{Matrix}
use Rattle.hyper_matrix.specs.Shared.{LiesWithin}
use Rattle.hyper_matrix.proofs.CountLaws.{total-empty}
use Rattle.layer_compaction.specs.Shared.{all_counts, content, values}
use Rattle.merged_cells.specs.Within.{LieWithin}
use Rattle.batch_store.specs.Pieces.{AllLie, all_entries}
use Rattle.batch_store.proofs.PieceSums.{all_entries-append, lie_more, total-append}
use Rattle.batch_store.proofs.pieces.amounts.Goals as goal

pub pieces-init : goal.pieces-init
pieces-init c = record { counted = refl; adds_up = sym total-empty; fits = omega arith; lie = tt }

pub pieces-preserved : goal.pieces-preserved
pieces-preserved c =
    let list = c.args.list.now in
    let i = c.pieces.piece-index in
    let x = c.piece-item.result in
    let before = values (take i list) in
    let more : values (take (i + 1) list) ≡ before ++ arc_value x ∷ [] =
    ap values (take_more list i x c.pieces-test.true) ∙ map-append arc_value (take i list) (get_or list i x ∷ [])
    ∙ ap (λ y. before ++ arc_value y ∷ []) (sym c.piece-item.is) in
    let m = arc_value x in
    let within : LieWithin m.rows m.cols m.counts = subst (λ (y : Matrix). LieWithin y.rows y.cols y.counts) c.deref.ensures
    (subst (AllByRecursion (LiesWithin c.deref.result.now.rows c.deref.result.now.cols)) c.iter-cells.ensures.order
    c.iter-cells.ensures.within) in
    record {
      counted = c.in_ok-entries.ensures.1
          ∙ (λ j. c.pieces.invariant.counted j + (c.entries.ensures ∙ ap (λ (y : Matrix). len y.counts) c.deref-in-pieces.ensures) j)
          ∙ sym (all_entries-append before m) ∙ ap all_entries (sym more);
      adds_up = c.in_ok-total.ensures.1
          ∙ (λ j. c.pieces.invariant.adds_up j + (c.total.ensures.value ∙ ap (λ (y : Matrix). total y.counts) c.deref-in-pieces-2.ensures) j)
          ∙ sym (total-append before m) ∙ ap (λ (ms : List Matrix). total (content (all_counts ms))) (sym more);
      fits = omega (arith, c.in_ok-total.ensures.0, c.in_ok-total.ensures.1);
      lie = subst AllLie (sym more) (lie_more before m c.pieces.invariant.lie within);
    }
