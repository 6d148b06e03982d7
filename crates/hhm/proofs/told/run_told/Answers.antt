use Rattle.hhm.proofs.told.run_told.Goals as goal

pub returns-clause-judged : goal.returns-clause-judged
returns-clause-judged g c = rw c.into_settings.ensures at c.serve_told.ensures.judged

pub returns-clause-ended : goal.returns-clause-ended
returns-clause-ended g c = rw c.into_settings.ensures at c.serve_told.ensures.ended

pub returns-clause-short : goal.returns-clause-short
returns-clause-short g c = rw c.into_settings.ensures at c.serve_told.ensures.short
