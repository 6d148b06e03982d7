use Rattle.std.proofs.Common.{◌≡◌, rules}
use Rattle.wire_proto.proofs.plain.serve_engine.Goals as goal

pub returns-clause-ends : goal.returns-clause-ends
returns-clause-ends g c =
    let same : c.serve_plain.new.keeper.engine.now ≡ c.engine-1.given.0 = search rules in
    let ends = c.serve_plain.ensures.ends in
    (ends.0, ends.1, rw (← same, ← c.new-keeper.ensures.engine) ends.2)
