use Rattle.wire_frames.proofs.FrontLemmas.{front_bad_more}
use Rattle.std.proofs.Common.{◌++◌}
use Rattle.wire_frames.proofs.StreamLemmas.{frames_bad}
use Rattle.wire_frames.proofs.laws.bad_headers_stay.Goals as goal

pub returns : goal.returns
returns c = record {
  front = λ kept rest more fault h. front_bad_more kept more fault rest h;
  frames = λ kept rest more fault h. frames_bad (kept ++ more) fault (kept ++ more)
      (front_bad_more kept more fault rest h);
}
