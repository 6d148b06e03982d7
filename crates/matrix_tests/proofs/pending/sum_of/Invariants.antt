use Rattle.std.proofs.Common.{◌≡◌, ◌^◌}
use Rattle.matrix_tests.proofs.pending.sum_of.Given as goal

abbrev pub invariant-loop-number : goal.invariant-loop-number
invariant-loop-number l = record {
  rows : l.layers.rows ≡ 2 ^ 20;
  cols : l.layers.cols ≡ 2 ^ 20;
}
