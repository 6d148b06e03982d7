use Rattle.std.proofs.Common.{rules, ◌≡◌, None, Ok}
use Rattle.locked_engine.proofs.engine.Engine.fold.Goals as goal

-- nothing was sealed
pub returns-then-is_none-clause-ok : goal.returns-then-is_none-clause-ok
returns-then-is_none-clause-ok g c =
    let none : c.begin_fold.result ≡ Ok None = search rules in
    (c.begin_fold.ensures.nothing none).1
