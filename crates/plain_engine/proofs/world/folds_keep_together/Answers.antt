use Rattle.batch_store.proofs.BookFoldLaws.{entries-to}
use Rattle.plain_engine.proofs.FoldTogetherLaws.{record_together, base_together, sum_stays, content_stays, admit_stays, verdict_stays}
use Rattle.plain_engine.proofs.world.folds_keep_together.Goals as goal

pub returns-clause-sum : goal.returns-clause-sum
returns-clause-sum c = sum_stays

pub returns-clause-entries : goal.returns-clause-entries
returns-clause-entries c = entries-to

pub returns-clause-verdicts : goal.returns-clause-verdicts
returns-clause-verdicts c = verdict_stays

pub returns-clause-contents : goal.returns-clause-contents
returns-clause-contents c = content_stays

pub returns-clause-admits : goal.returns-clause-admits
returns-clause-admits c = admit_stays

pub returns-clause-records : goal.returns-clause-records
returns-clause-records c = record_together

pub returns-clause-bases : goal.returns-clause-bases
returns-clause-bases c = base_together
