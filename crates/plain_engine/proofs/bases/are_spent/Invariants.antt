use Rattle.std.proofs.Common.{◌≡◌, ◌↔◌, drop}
use Rattle.plain_engine.specs.Bases.{AreSpent}
use Rattle.plain_engine.proofs.bases.are_spent.Given as goal

abbrev pub invariant-bases : goal.invariant-bases
invariant-bases l = record {
  same : l.left ≡ l.fn.left;
  rest : AreSpent l.fn.left ↔ AreSpent (drop l.place l.left);
}
