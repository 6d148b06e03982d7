use Rattle.byte_io.proofs.KnownLemmas.{calls_at_most_bytes}
use Rattle.byte_io.proofs.device_laws.calls_are_bounded_by_bytes.Goals as goal

pub returns : goal.returns
returns c = calls_at_most_bytes
