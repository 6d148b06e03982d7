use Rattle.byte_io.proofs.BufferLemmas.{written_whole}
use Rattle.mm_text.proofs.WriterLemmas.{on_ok_both}
use Rattle.mm_text.proofs.writer.TextWriter.finish.Goals as goal

pub returns-clause-ok : goal.returns-clause-ok
returns-clause-ok g c =
    on_ok_both c.flush.result (λ none ok. λ s text h. written_whole _ _ s _ text _ (ok s text (rw (← c.self.view_is) at h)) none)
    c.flush.ensures.pending c.flush.ensures.ok
