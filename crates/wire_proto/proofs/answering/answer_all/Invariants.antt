use Rattle.std.proofs.Common.{◌≡◌, ◌+◌, ◌*◌, ◌≤◌, length}
use Rattle.wire_proto.specs.Sessions.{CarriesHeld}
use Rattle.wire_proto.proofs.answering.answer_all.Given as goal

abbrev pub invariant-requests : goal.invariant-requests
invariant-requests g l = record {
  failures : g.L.Sink.failure_count l.link ≡ g.L.Sink.failure_count l.initial.link;
  fact : g.K.Keeper.fact l.keeper;
  setup : g.K.Keeper.setup_of l.keeper ≡ g.K.Keeper.setup_of l.initial.keeper;
  room : l.written + 21 * length l.held.begun.items + 134217728 * length l.frames
      ≤ l.initial.written + 134217728 * length l.initial.frames;
  carries : CarriesHeld g.L.Source.read_gives g.L.Sink.write_takes g.L.Sink.failure_count g.K.Keeper.gives
      g.K.Keeper.settles (g.K.Keeper.setup_of l.initial.keeper) l.initial.link l.link l.initial.keeper l.keeper
      l.initial.frames l.frames l.held.begun.items l.initial.written l.written;
}

abbrev pub decreases-requests : goal.decreases-requests
decreases-requests g l = length l.frames
