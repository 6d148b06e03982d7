use Rattle.hyper_matrix.proofs.CountLaws.{ewise_add-empty}
use Rattle.batch_store.specs.Accepted.{summed}
use Rattle.batch_store.specs.Books.{accepted_in}
use Rattle.snap_export.proofs.LawLemmas.{each_place, any_order}
use Rattle.snap_export.proofs.laws.several_snapshots_add_up.Goals as goal

pub returns-clause-place : goal.returns-clause-place
returns-clause-place c = each_place

pub returns-clause-one : goal.returns-clause-one
returns-clause-one c = λ x. ewise_add-empty (summed (accepted_in x.list))

pub returns-clause-order : goal.returns-clause-order
returns-clause-order c = any_order
