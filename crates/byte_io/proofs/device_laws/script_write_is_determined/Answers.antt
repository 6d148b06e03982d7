use Rattle.byte_io.proofs.ScriptLemmas.{script_writes_one_way}
use Rattle.byte_io.proofs.device_laws.script_write_is_determined.Goals as goal

pub returns : goal.returns
returns c = script_writes_one_way
