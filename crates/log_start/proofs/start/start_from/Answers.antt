use Rattle.std.proofs.Common.{◌∙◌, ◌+◌, ◌^◌, ◌≤◌, inl, inr, ℕ, length, take, ap, sym, subst, rules, arith}
use Rattle.batch_store.specs.Books.{Listing}
use Rattle.log_join.specs.Joins.{known_entries}
use Rattle.log_start.specs.Records.{log_in}
use Rattle.log_start.specs.Starts.{IsJoined}
use Rattle.log_start.proofs.Listed.{begins_within, found_log, is_joined, nothing_more}
use Rattle.log_start.proofs.Reading.{if_err_map, if_ok_all, if_ok_both, if_ok_map}
use Rattle.log_start.proofs.Refusals.{file_refused}
use Rattle.log_start.proofs.Settles.{fails_again, found_again, goes_again, settled_again}
use Rattle.log_start.proofs.start.start_from.Goals as goal

pub returns-in-Err-clause-why : goal.returns-in-Err-clause-why
returns-in-Err-clause-why g c =
    file_refused g.F.Disk.LogDisk c.args.found.file.disk c.args.found.length g.kept.0 g.kept.1 c.args.setup.now
    c.args.owner.now c.args.known _ _ c.in-Err.fault c.fault_of_log.result c.fault_of_log.ensures.memory
    c.fault_of_log.ensures.other c.in-Err.ensures.err

pub returns-then-log-count_of-clause-list : goal.returns-then-log-count_of-clause-list
returns-then-log-count_of-clause-list g c =
    let ok = c.in-Ok.ensures.ok in
    if_ok_all c.begin_behind.result c.begin_behind.ensures.list c.begin_behind.ensures.identity
    c.begin_behind.ensures.setup (λ s same named setup. (
      ok.0,
      subst (λ (v : Listing). IsJoined c.args.setup.now c.args.owner.now c.args.known ok.0 v s.identity s.setup) (sym same)
          (is_joined c.args.setup.now c.args.owner.now c.args.known c.in-Ok-join_found.list s.identity s.setup ok.0
          c.in-Ok.log ok.1 c.in-Ok-join_found.ensures.book c.in-Ok-join_found.ensures.ok
          (inr (named ∙ c.or_else-identity.ensures, setup))),
      ok.2,
    ))

pub returns-then-log-count_of-clause-log : goal.returns-then-log-count_of-clause-log
returns-then-log-count_of-clause-log g c =
    c.begin_behind.ensures.log

pub returns-then-log-count_of-clause-mark : goal.returns-then-log-count_of-clause-mark
returns-then-log-count_of-clause-mark g c =
    if_ok_both c.begin_behind.result c.begin_behind.ensures.list c.begin_behind.ensures.mark (λ s same mark. (
      mark.1 ∙ ap (λ (v : Listing). length (known_entries v)) (sym same),
      omega (arith, mark.2),
      mark.3,
    ))

pub returns-then-log-count_of-clause-why : goal.returns-then-log-count_of-clause-why
returns-then-log-count_of-clause-why g c =
    if_err_map c.begin_behind.result c.begin_behind.ensures.why (λ fault why. inr (inr (inr (inr why))))

pub settle_found-requires : goal.settle_found-requires
settle_found-requires g c κs within =
    let ok = c.in-Ok.ensures.ok in
    let few : c.in-Ok.log.end.page ≤ 2 ^ 28 = (let f = ok.1 in f.few) in (
      search rules,
      (
        λ t.
            let tells = c.requires.1.1.0 c.read_found.new.disk t in
            let told = c.requires.1.1.1.0 tells in
            found_again g.F.Disk.LogDisk c.args.found.file.disk c.read_found.new.disk
            g.kept.0 g.kept.1 (c.in-Ok.ensures.same told.0)
            (g.met.F.Disk.LogDisk.only_now c.args.found.file.disk) c.in-Ok.log ok.0 ok.1
            (ok.2 told.0 told.1) told.2,
        (few, search rules),
      ),
    )

pub returns-in-Ok-settle_found-clause-log : goal.returns-in-Ok-settle_found-clause-log
returns-in-Ok-settle_found-clause-log g c =
    let ok = c.in-Ok.ensures.ok in
    let found = ok.1 in (
      log_in (take 4096 ok.0) c.in-Ok.log.head.first found.lists,
      found_log c.args.setup.now c.args.known c.in-Ok-join_found.list ok.0 c.in-Ok.log found
          c.in-Ok-join_found.ensures.ok (omega (arith, c.if-log-count_of.false, c.count_of.ensures)),
      λ tells.
          let told = c.requires.1.1.1.0 tells in
          let kept = c.in-Ok.ensures.same told.0 in
          settled_again g.F.Disk.LogDisk c.args.found.file.disk c.read_found.new.disk
          g.kept.0 g.kept.1 kept
          (g.met.F.Disk.LogDisk.only_now c.args.found.file.disk) c.in-Ok.log ok.0 found
          (ok.2 told.0 told.1) told.2 c.in-Ok-settle_found.in_use.file.disk c.in-Ok-settle_found.in_use.writer
          (c.in-Ok-settle_found.ensures.settled kept.told),
    )

pub returns-in-Ok-settle_found-clause-file : goal.returns-in-Ok-settle_found-clause-file
returns-in-Ok-settle_found-clause-file g c = λ tells.
    let ok = c.in-Ok.ensures.ok in
    let told = c.requires.1.1.1.0 tells in
    let kept = c.in-Ok.ensures.same told.0 in
    inr (goes_again g.F.Disk.LogDisk c.args.found.file.disk c.read_found.new.disk
    g.kept.0 g.kept.1 kept
    (g.met.F.Disk.LogDisk.only_now c.args.found.file.disk) c.in-Ok.log ok.0 ok.1
    (ok.2 told.0 told.1) told.2 c.in-Ok-settle_found.in_use.file.disk
    (c.in-Ok-settle_found.ensures.goes_on kept.told))

pub returns-clause-why : goal.returns-clause-why
returns-clause-why g c =
    let ok = c.in-Ok.ensures.ok in
    let failed = c.in-Err-settle_found.ensures.failed in
    inr (inr (inr (inl (record {
      fault_is = c.in-Err-settle_found.ensures.why;
      new = failed.0;
      failed = failed.1 ∙ ap (λ (n : ℕ). n + 1) c.in-Ok.ensures.none_failed;
      unsettled = λ t. (failed.2 (let kept = c.in-Ok.ensures.same t in kept.told)).0;
      any_moment = λ t.
          let told = c.requires.1.1.1.0 (c.requires.1.1.0 c.args.found.file.disk t) in
          let kept = c.in-Ok.ensures.same t in
          fails_again g.F.Disk.LogDisk c.args.found.file.disk c.read_found.new.disk
          g.kept.0 g.kept.1 kept (g.met.F.Disk.LogDisk.only_now c.args.found.file.disk) c.in-Ok.log ok.0 ok.1
          (ok.2 told.0 told.1) told.2 failed.0 (failed.2 kept.told).1;
    }))))

pub returns-then-log-count_of-clause-within : goal.returns-then-log-count_of-clause-within
returns-then-log-count_of-clause-within g c =
    let ok = c.in-Ok.ensures.ok in
    let same = nothing_more c.args.setup.now c.args.known c.in-Ok-join_found.list ok.0 c.in-Ok.log ok.1
    c.in-Ok-join_found.ensures.ok (omega (arith, c.if-log-count_of.true, c.count_of.ensures)) in
    if_ok_map c.begin_behind.result c.begin_behind.ensures.mark (λ s mark. omega (arith, mark.0, same))

pub returns-in-Ok-settle_found-clause-within : goal.returns-in-Ok-settle_found-clause-within
returns-in-Ok-settle_found-clause-within g c =
    let begins = begins_within c.args.setup.now c.args.known c.in-Ok-join_found.list c.in-Ok.log
    c.in-Ok-join_found.ensures.ok in
    let mark = c.in-Ok-settle_found.ensures.mark in
    omega (arith, begins, mark.0)
