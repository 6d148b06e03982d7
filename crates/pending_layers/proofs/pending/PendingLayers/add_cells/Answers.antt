use Rattle.std.proofs.Common.{ap, sym, subst, ◌∙◌, arith}
use Rattle.std.proofs.lemmas.List.Elements.{All-append}
use Rattle.cells.specs.Bounds.{IsWithin, AreWithin}
use Rattle.hyper_matrix.specs.Cells.{built_of}
use Rattle.hyper_matrix.specs.Matrix.{Matrix}
use Rattle.hyper_matrix.proofs.BuiltOfLaws.{total-built_of, built_joined}
use Rattle.pending_layers.proofs.PendingLemmas.{total_kept, more_matrix, keeps_more}
use Rattle.pending_layers.proofs.pending.PendingLayers.add_cells.Goals as goal

pub overflow_add-result : goal.overflow_add-result
overflow_add-result c = omega (
  arith,
  c.requires.fits,
  c.total_of.ensures,
  total_kept _ _ _ c.args.self c.own.invariant (c.own.view_is ∙ c.in_ok-own.ensures),
)

pub invariant_of-result : goal.invariant_of-result
invariant_of-result c =
    let view = c.own.view_is ∙ c.in_ok-own.ensures in
    keeps_more c.own.inside.layers c.own.inside.pending.items _ (built_of c.args.cells.now)
    (ap built_of c.in_ok-extend_from_slice.ensures.items
    ∙ built_joined c.own.inside.pending.items c.args.cells.now)
    _ _ c.own.invariant (c.total_of.ensures ∙ sym (total-built_of c.args.cells.now))
    (omega (arith, c.requires.fits, c.total_of.ensures, total_kept _ _ _ c.args.self c.own.invariant view))
    (subst (AreWithin c.own.inside.layers.rows c.own.inside.layers.cols)
    (sym c.in_ok-extend_from_slice.ensures.items)
    (All-append (IsWithin c.own.inside.layers.rows c.own.inside.layers.cols) c.own.inside.pending.items
    c.args.cells.now c.own.invariant.within
    (subst (λ (m : Matrix). AreWithin m.rows m.cols c.args.cells.now) (sym view) c.requires.within)))

pub returns : goal.returns
returns c =
    more_matrix c.own.inside.layers c.own.inside.pending.items _ (built_of c.args.cells.now)
    (ap built_of c.in_ok-extend_from_slice.ensures.items
    ∙ built_joined c.own.inside.pending.items c.args.cells.now)
    c.args.self (c.own.view_is ∙ c.in_ok-own.ensures)
