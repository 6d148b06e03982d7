use Rattle.std.proofs.Common.{length}
use Rattle.std.proofs.lemmas.Result.{err_from_is_err_and}
use Rattle.batch_store.specs.Batches.{values}
use Rattle.log_join.specs.Joins.{known_entries}
use Rattle.log_join.proofs.JoinLemmas.{beside_of, place_of, joins_shared, joins_by, new_fit, new_is, refused_by}
use Rattle.log_join.proofs.JoinLemmas.{if_ok_all, if_err_map}
use Rattle.log_join.proofs.join.join_lists.Goals as goal

pub returns-in_err-judge_head-clause-err : goal.returns-in_err-judge_head-clause-err
returns-in_err-judge_head-clause-err c =
    let p = err_from_is_err_and c.from_residual.result c.from_residual.ensures.1 in
    rw (p.1, p.2) (c.in_err-judge_head.ensures.err (values c.args.batches.now))

pub returns-then-shared-batches-clause-ok : goal.returns-then-shared-batches-clause-ok
returns-then-shared-batches-clause-ok c =
    let v = c.args.known in
    let h = c.args.head.now in
    let bs = c.args.batches.now in
    let count = c.count_of-count.result in
    let part = c.shared_of-shared in
    joins_shared c.args.setup.now v h bs count part.result
    (beside_of c.args.setup.now (known_entries v) h bs count part.result c.in_ok-judge_head.ensures.ok
    c.count_of-count.ensures
    part.ensures.logged part.ensures.all c.in_ok-judge_shared.ensures.ok)
    c.count_of-count.ensures part.ensures.listed c.if-shared-batches.true c.requires.accepted

pub append_new-requires-clause-fit : goal.append_new-requires-clause-fit
append_new-requires-clause-fit c =
    new_fit c.args.setup.now c.args.head.now.setup c.args.batches.now c.behind-new.result.now c.shared_of-shared.result
    c.in_ok-judge_head.ensures.ok.setup c.behind-new.ensures c.requires.dims

pub returns-clause-ok : goal.returns-clause-ok
returns-clause-ok c =
    let s = c.args.setup.now in
    let v = c.args.known in
    let h = c.args.head.now in
    let bs = c.args.batches.now in
    let count = c.count_of-count.result in
    let part = c.shared_of-shared in
    let new = c.behind-new.result.now in
    let beside = beside_of s (known_entries v) h bs count part.result c.in_ok-judge_head.ensures.ok
    c.count_of-count.ensures
    part.ensures.logged part.ensures.all c.in_ok-judge_shared.ensures.ok in
    let place = place_of count h.first part.result (length bs) (length (known_entries v)) c.if-shared-batches.false
    part.ensures.logged part.ensures.all c.count_of-count.ensures in
    if_ok_all c.append_new.result
    (λ list is accepted fresh. joins_by s v h (values bs) list beside (values new)
    (new_is (known_entries v) h bs new part.result c.behind-new.ensures place) is fresh accepted)
    c.append_new.ensures.list c.append_new.ensures.accepted c.append_new.ensures.fresh

pub returns-clause-err : goal.returns-clause-err
returns-clause-err c =
    let s = c.args.setup.now in
    let v = c.args.known in
    let h = c.args.head.now in
    let bs = c.args.batches.now in
    let count = c.count_of-count.result in
    let part = c.shared_of-shared in
    let new = c.behind-new.result.now in
    let beside = beside_of s (known_entries v) h bs count part.result c.in_ok-judge_head.ensures.ok
    c.count_of-count.ensures
    part.ensures.logged part.ensures.all c.in_ok-judge_shared.ensures.ok in
    let place = place_of count h.first part.result (length bs) (length (known_entries v)) c.if-shared-batches.false
    part.ensures.logged part.ensures.all c.count_of-count.ensures in
    if_err_map c.append_new.result
    (λ f stale. refused_by s v h (values bs) (values new) f beside
    (new_is (known_entries v) h bs new part.result c.behind-new.ensures place) stale)
    c.append_new.ensures.err
