use Rattle.mm_text.specs.Readings.{size_of}
use Rattle.mm_text.proofs.BoundLemmas.{stage_sized}
use Rattle.mm_text.proofs.text_reader.TextReader.size.Goals as goal

pub returns-clause-size : goal.returns-clause-size
unfolding size_of
returns-clause-size c = c.size.ensures

pub returns-clause-within : goal.returns-clause-within
returns-clause-within c = λ limits answers given h.
    rw c.size.ensures (stage_sized limits _ given c.args.self.now.lines.progress.stage h.holds.takes.keeps.stage_is)
