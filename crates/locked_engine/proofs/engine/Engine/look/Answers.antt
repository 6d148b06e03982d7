use Rattle.std.proofs.Common.{sym, refl, ◌∙◌}
use Rattle.locked_engine.proofs.engine.Engine.look.Goals as goal

pub returns-then-number-s : goal.returns-then-number-s
returns-then-number-s g c = (
  c.shard-shard.result.now,
  record {
    setup = c.shard-shard.ensures.setup;
    number = sym c.number.ensures.value ∙ c.if-number-s.true;
    since = c.shard-shard.ensures.based.0;
    based = c.shard-shard.ensures.based.1;
    held = c.number.ensures.kept;
  },
  (_, c.f.ensures, refl),
)
