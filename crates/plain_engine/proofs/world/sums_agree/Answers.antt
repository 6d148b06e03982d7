use Rattle.std.proofs.Common.{◌∙◌, ap}
use Rattle.std.specs.FinMap.{get}
use Rattle.hyper_matrix.proofs.CountLaws.{get-ewise_add}
use Rattle.plain_engine.specs.World.{records_content, flight_content}
use Rattle.plain_engine.proofs.WorldLaws.{run_agrees, run_lands, run_distinct}
use Rattle.plain_engine.proofs.LockedLaws.{run_follows}
use Rattle.plain_engine.proofs.world.sums_agree.Goals as goal

pub returns-clause-cells : goal.returns-clause-cells
returns-clause-cells c = λ v w es u q st run. ap (λ m. get m q) (run_agrees v w es u st run).sums
    ∙ get-ewise_add (records_content 0 v.shards u.book.base u.records) (flight_content v.shards u.flight) q

pub returns-clause-sums : goal.returns-clause-sums
returns-clause-sums c = λ v w es u st run. (run_agrees v w es u st run).sums

pub returns-clause-distinct : goal.returns-clause-distinct
returns-clause-distinct c = run_distinct

pub returns-clause-landed : goal.returns-clause-landed
returns-clause-landed c = run_lands

pub returns-clause-follow : goal.returns-clause-follow
returns-clause-follow c = run_follows
