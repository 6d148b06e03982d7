use Rattle.byte_io.proofs.ScriptLemmas.{script_writes}
use Rattle.byte_io.proofs.device_laws.script_keeps_what_it_takes.Goals as goal

pub returns : goal.returns
returns c = script_writes
