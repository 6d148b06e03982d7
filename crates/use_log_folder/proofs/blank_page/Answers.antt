use Rattle.use_log_folder.proofs.Blank.{replicated}
use Rattle.use_log_folder.proofs.blank_page.Goals as goal

pub returns : goal.returns
returns c = λ j. replicated 4096 j 0
