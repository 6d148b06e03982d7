use Rattle.std.proofs.Common.{◌≡◌, length, take}
use Rattle.log_head.specs.Heads.{cuts_of}
use Rattle.log_head.proofs.decode.cuts_at.Given as goal

abbrev pub invariant-places : goal.invariant-places
invariant-places l = record {
  seven : length l.cuts ≡ 7;
  read : take l.i l.cuts ≡ cuts_of l.i l.bytes;
}
