use Rattle.std.proofs.Common.{ap, arith}
use Rattle.hyper_matrix.specs.Counts.{total}
use Rattle.hyper_matrix.proofs.BuiltOfLaws.{total-built_of}
use Rattle.hyper_matrix.proofs.PartLaws.{parts-one}
use Rattle.hyper_matrix.proofs.hyper.Hyper.parts.Goals as goal

pub returns-then-k-eq1 : goal.returns-then-k-eq1
returns-then-k-eq1 c = parts-one c.args.k c.args.self.now c.in_ok-copy.field-0 c.in_ok-parts.parts.items
    c.push.new.self.items c.if-k-eq1.true c.in_ok-copy.ensures c.in_ok-parts.ensures.items c.in_ok-push.ensures.items

pub parts_of-requires-clause-fits : goal.parts_of-requires-clause-fits
parts_of-requires-clause-fits c = omega (
  arith,
  total-built_of c.as_cells.result.now,
  ap total c.as_cells.ensures.builds,
  c.total-bound.ensures.fits,
)
