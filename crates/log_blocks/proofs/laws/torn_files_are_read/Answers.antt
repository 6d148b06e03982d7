use Rattle.log_blocks.proofs.FilePages.{read_held}
use Rattle.log_blocks.proofs.laws.torn_files_are_read.Goals as goal

pub returns : goal.returns
returns c first blocks block file fits are is held = read_held first blocks block fits are is file held
