use Rattle.std.proofs.Common.{rules, arith}
use Rattle.log_start.proofs.Settles.{can_settle, settled_as}
use Rattle.log_start.proofs.settle.settle_found.Goals as goal

pub settle-requires : goal.settle-requires
settle-requires g c κs within = (
  search rules,
  (
    λ t.
        let told = c.requires.1.0 t in
        can_settle g.D.LogDisk
        c.args.file.disk g.kept.0 g.kept.1 told.1 c.args.log.now told.0,
    (c.requires.1.1.1.0, (c.requires.1.1.1.1, (let few = c.requires.1.1.0 in omega (arith, few)))),
  ),
)

pub returns-in-Ok-clause-settled : goal.returns-in-Ok-clause-settled
returns-in-Ok-clause-settled g c = λ t.
    let told = c.requires.1.0 t in
    settled_as g.D.LogDisk c.args.file.disk
    g.kept.0 g.kept.1 told.1 c.settle.new.disk c.in-Ok.writer (c.in-Ok.ensures.settled t)

pub returns-in-Ok-clause-goes_on : goal.returns-in-Ok-clause-goes_on
returns-in-Ok-clause-goes_on g c = λ t. record {
  any_moment = c.settle.ensures.any_moment t;
  same_list = c.settle.ensures.same_list t;
}

pub returns-in-Err-clause-failed : goal.returns-in-Err-clause-failed
returns-in-Err-clause-failed g c =
    (c.settle.new.disk, c.in-Err.ensures.cause, λ t. (c.in-Err.ensures.failed t, c.settle.ensures.any_moment t))
