use Rattle.std.proofs.Common.{◌≡◌, ◌*◌, ◌≤◌, length, take}
use Rattle.wire_proto.specs.Settling.{SettlesAll}
use Rattle.wire_proto.proofs.held.settle_all.Given as goal

abbrev pub invariant-loop-one : goal.invariant-loop-one
invariant-loop-one g l = record {
  fact : g.K.Keeper.fact l.keeper;
  setup : g.K.Keeper.setup_of l.keeper ≡ g.K.Keeper.setup_of l.initial.keeper;
  short : length l.replies.items ≤ 21 * l.one-index;
  settled : SettlesAll g.K.Keeper.settles l.initial.keeper (take l.one-index l.begun) l.replies.items l.keeper;
}
