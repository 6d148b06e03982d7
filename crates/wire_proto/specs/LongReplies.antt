-- The bytes of a reply that is made before it is sent.
use Rattle.std.specs.Prelude.{ℕ, List}
use Rattle.wire_proto.specs.declared.questions.Answer.{Answer}
use Rattle.wire_proto.specs.declared.questions.Answer.TheVariants.{Short, Long}

abbrev pub bytes_of : Answer → List ℕ
bytes_of (Short reply) = reply.items
bytes_of (Long reply) = reply.items
