use Rattle.byte_io.proofs.ScriptLemmas.{script_reads_one_way}
use Rattle.byte_io.proofs.device_laws.script_read_is_determined.Goals as goal

pub returns : goal.returns
returns c = script_reads_one_way
