use Rattle.std.proofs.Common.{◌≡◌, ◌+◌, ◌*◌, ◌++◌, length, take, flat_map}
use Rattle.std.specs.Int.{w64}
use Rattle.snap_file.specs.Spelling.{number_bytes}
use Rattle.log_head.proofs.encode.push_cuts.Given as goal

abbrev pub invariant-each : goal.invariant-each
invariant-each l = record {
  fields : l.fields.items ≡ l.fn.fields.items ++ flat_map (number_bytes w64) (take l.cut-index l.cuts);
  long : length l.fields.items ≡ length l.fn.fields.items + 8 * l.cut-index;
}
