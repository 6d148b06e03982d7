use Rattle.std.proofs.Common.{◌≡◌, ◌++◌, take}
use Rattle.std.specs.Prelude.{flat_map}
use Rattle.wire_proto.specs.Questions.{row_bytes}
use Rattle.wire_proto.proofs.long_replies.push_rows.Given as goal

abbrev pub invariant-rows : goal.invariant-rows
invariant-rows l = l.out.items ≡ l.initial.out.items ++ flat_map row_bytes (take l.row-index l.rows)
