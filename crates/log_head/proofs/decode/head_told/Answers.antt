use Rattle.std.proofs.Common.{refl, arith}
use Rattle.log_head.proofs.Spelled.{few_cuts}
use Rattle.log_head.proofs.decode.head_told.Goals as goal

pub returns-then-count-gt-MAX_CUTS-clause-err : goal.returns-then-count-gt-MAX_CUTS-clause-err
returns-then-count-gt-MAX_CUTS-clause-err c = (
  refl,
  λ is. absurd (let few = few_cuts c.args.page.now is.0 in
      omega (arith, c.if-count-gt-MAX_CUTS.true, c.u8_at-count.ensures, few)),
)
