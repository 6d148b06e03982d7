use Rattle.wire_frames.proofs.RoundLemmas.{front_again}
use Rattle.wire_frames.proofs.laws.frames_are_read_again.Goals as goal

pub returns : goal.returns
returns c = front_again
