use Rattle.std.proofs.Common.{◌∙◌, ◌++◌, List, ℕ, ap, refl, drop, length}
use Rattle.log_read.proofs.GivenLemmas.{passed_over}
use Rattle.log_read.proofs.source.PageSource.skip.Goals as goal

pub returns-in-Err-clause-err : goal.returns-in-Err-clause-err
returns-in-Err-clause-err g c = λ s done at.
    c.in-Err.ensures.err s (done ++ c.args.self.now.buffer)
    (passed_over {S = g.row.R.Denot} g.R.Source.read_gives g.R.Source.failure_count s c.args.r.now c.args.self.now _
    done at
    (c.consume.ensures ∙ ap (λ (l : List ℕ). drop (length l) c.args.self.now.buffer) c.pending-count.ensures.value)
    refl refl)
