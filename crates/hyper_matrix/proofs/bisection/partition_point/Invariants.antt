use Rattle.std.proofs.Common.{◌-◌, ◌<◌, ◌≤◌, true, false}
use Rattle.hyper_matrix.proofs.bisection.partition_point.Given as goal

abbrev pub invariant-halve : goal.invariant-halve
invariant-halve g l = record {
  order : l.low ≤ l.high;
  within : l.high ≤ l.len;
  before : 0 < l.low → g.F.Fn.post l.test (l.low - 1, tt) true;
  behind : l.high < l.len → g.F.Fn.post l.test (l.high, tt) false;
}

abbrev pub decreases-halve : goal.decreases-halve
decreases-halve g l = l.high - l.low
