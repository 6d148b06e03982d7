use Rattle.std.proofs.Common.{◌≡◌, ◌-◌, ◌++◌, ℕ, List, length}
use Rattle.snap_salvage.specs.LeftPages.{HasRead}
use Rattle.snap_salvage.proofs.count.need_page.Given as goal

abbrev pub invariant-pieces : goal.invariant-pieces
invariant-pieces g l = record {
  failures : g.S.Source.failure_count l.source ≡ g.S.Source.failure_count l.fn.source;
  read : (s : g.row.S.Denot) (done : List ℕ) →
      HasRead {S = g.row.S.Denot} g.S.Source.read_gives s l.fn.source (done ++ l.fn.buffer) →
      HasRead {S = g.row.S.Denot} g.S.Source.read_gives s l.source (done ++ l.buffer);
}

abbrev pub decreases-pieces : goal.decreases-pieces
decreases-pieces g l = 4096 - length l.buffer
