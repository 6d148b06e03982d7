use Rattle.byte_io.proofs.ScriptLemmas.{script_reads, script_read_whole, joined-nonempty_pieces}
use Rattle.byte_io.proofs.device_laws.script_gives_its_pieces.Goals as goal

pub returns : goal.returns
returns c = record { front = script_reads; whole = script_read_whole; joined = joined-nonempty_pieces }
