use Rattle.std.proofs.Common.{refl}
use Rattle.wire_frames.proofs.StreamLemmas.{gives_snoc, gives_more}
use Rattle.wire_frames.proofs.StreamLemmas.{gives_frames, frames_none, frames_bad}
use Rattle.wire_frames.proofs.laws.frames_come_in_any_pieces.Goals as goal

pub returns : goal.returns
returns c = record {
  start = refl;
  fed = λ fed piece kept given a. gives_more fed piece given kept a;
  given = λ fed kept rest given r a h. gives_snoc fed given kept r rest a h;
  whole = λ fed kept given a. gives_frames fed given kept a;
  none = frames_none;
  bad = λ kept rest fault h. frames_bad kept fault rest h;
}
