use Rattle.std.proofs.Common.{◌≡◌, ◌∙◌, ◌%◌, ◌∷◌, [], sym, ap, subst, arith, length}
use Rattle.hyper_matrix.specs.Cells.{entry_of}
use Rattle.hyper_matrix.specs.Parts.{part_entries}
use Rattle.plain_engine.specs.Bases.{AreParts}
use Rattle.plain_engine.proofs.BaseLaws.{parts_first, parts_next, parts_spent, cells_agree, cells_differ, heads}
use Rattle.plain_engine.proofs.bases.are_parts.Goals as goal

pub returns-then-ne : goal.returns-then-ne
returns-then-ne c = (
  λ h. absurd cc,
  λ parts.
      let k = length c.args.left.now in
      let e = entry_of c.in-Some.cell in
      let all = subst (AreParts 0 k c.cells.left) c.in-Some.ensures.steps (c.cells.invariant.rest.0 parts) in
      let first = parts_first k e c.next.new.self 0 c.shard_of.result c.cells.left c.index-left-shard_of.result
      (omega (arith, c.shard_of.ensures)) (omega (arith, c.cells.auto.left, c.shard_of.ensures, c.requires)) all in
      absurd (cells_differ c.in-Some-next.other c.in-Some.cell (sym c.ne.ensures ∙ c.if-ne.true)
      (heads (sym c.in-Some-next.ensures.steps ∙ first))),
)

pub cells-preserved : goal.cells-preserved
cells-preserved c =
    let k = length c.args.left.now in
    let left = c.cells.left in
    let j = c.shard_of.result in
    let e = entry_of c.in-Some.cell in
    let inv = c.cells.invariant in
    let same = cells_agree c.in-Some-next.other c.in-Some.cell (sym c.ne.ensures ∙ c.if-ne.false) in
    let next = parts_next k e c.next.new.self 0 j left c.index-left-shard_of.result c.next-in-cells.new.self
    (omega (arith, c.shard_of.ensures)) (omega (arith, c.cells.auto.left, c.shard_of.ensures, c.requires))
    (c.in-Some-next.ensures.steps ∙ ap (λ x. x ∷ c.next-in-cells.new.self) same) in
    let here = c.in-Some.ensures.steps in
    record {
      can = tt;
      finite = tt;
      rest = (
        λ parts. next.0 (subst (AreParts 0 k left) here (inv.rest.0 parts)),
        λ parts. inv.rest.1 (subst (AreParts 0 k left) (sym here) (next.1 parts)),
      );
    }

pub returns-in-None-next : goal.returns-in-None-next
returns-in-None-next c = (
  λ h. absurd cc,
  λ parts.
      let k = length c.args.left.now in
      let e = entry_of c.in-Some.cell in
      let all = subst (AreParts 0 k c.cells.left) c.in-Some.ensures.steps (c.cells.invariant.rest.0 parts) in
      let first = parts_first k e c.next.new.self 0 c.shard_of.result c.cells.left c.index-left-shard_of.result
      (omega (arith, c.shard_of.ensures)) (omega (arith, c.cells.auto.left, c.shard_of.ensures, c.requires)) all in
      let none : e ∷ part_entries (e.0.0 % k) k c.next.new.self ≡ [] = sym first ∙ c.in-None-next.ensures.steps.0 in
      absurd cc,
)

pub returns : goal.returns
returns c =
    let k = length c.args.left.now in
    let none = parts_spent 0 k c.cells.left in
    let left = c.in-None.ensures.steps.0 in (
      λ is. c.cells.invariant.rest.1 (subst (AreParts 0 k c.cells.left) (sym left) (none.1 (c.are_spent.ensures.0 is))),
      λ parts. c.are_spent.ensures.1 (none.0 (subst (AreParts 0 k c.cells.left) left (c.cells.invariant.rest.0 parts))),
    )
