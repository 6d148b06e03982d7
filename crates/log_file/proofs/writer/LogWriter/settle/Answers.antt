use Rattle.std.proofs.Common.{◌≡◌, ◌*◌, ◌∙◌, ◌≤◌, List, ℕ, inl, inr, get_or, arith}
use Rattle.std.proofs.lemmas.Bool.{cases_lt}
use Rattle.std.proofs.lemmas.Result.{err_from_is_err_and}
use Rattle.log_disk.proofs.Steps.{cut_may}
use Rattle.log_file.proofs.Settled.{next_after_cut, next_after_page, next_after_sync, next_moments, next_unsettled}
use Rattle.log_file.proofs.Settled.{whole_after_cut, whole_after_page, settled_after_sync, gone_after_cut}
use Rattle.log_file.proofs.Settled.{gone_after_page, gone_after_sync, gone_moments}
use Rattle.log_file.proofs.writer.LogWriter.settle.Goals as goal

pub returns-in_err-cut-clause-any_moment : goal.returns-in_err-cut-clause-any_moment
returns-in_err-cut-clause-any_moment g c = λ t.
    let r = c.requires.1.0 t in
    let run = next_after_cut g.D.LogDisk.written g.D.LogDisk.may_leave g.D.LogDisk.moment g.D.LogDisk.left_since
    c.args.disk.now c.args.first c.args.end.now g.known.0 g.known.1 r c.cut.new.self
    (g.met.D.LogDisk.only_now c.args.disk.now) (c.in_err-cut.ensures.part t) (c.cut.ensures.crash t)
    (c.cut.ensures.time t) in
    next_moments g.D.LogDisk.written g.D.LogDisk.may_leave g.D.LogDisk.moment g.D.LogDisk.left_since c.args.disk.now
    c.args.first c.args.end.now g.known.0 g.known.1 r c.cut.new.self run

pub returns-in_err-cut-clause-same_list : goal.returns-in_err-cut-clause-same_list
returns-in_err-cut-clause-same_list g c = λ t found read only.
    let r = c.requires.1.0 t in
    let run = gone_after_cut g.D.LogDisk.written g.D.LogDisk.may_leave g.D.LogDisk.moment g.D.LogDisk.left_since
    c.args.disk.now c.args.first c.args.end.now g.known.0 g.known.1 r found read only c.cut.new.self
    (g.met.D.LogDisk.only_now c.args.disk.now) (c.in_err-cut.ensures.part t) (c.cut.ensures.crash t)
    (c.cut.ensures.time t) in
    gone_moments g.D.LogDisk.written g.D.LogDisk.may_leave g.D.LogDisk.moment g.D.LogDisk.left_since c.args.disk.now
    c.args.first c.args.end.now g.known.0 g.known.1 r found read only c.cut.new.self run

pub returns-in_err-cut-clause-failed : goal.returns-in_err-cut-clause-failed
returns-in_err-cut-clause-failed g c = λ t.
    let r = c.requires.1.0 t in
    let run = next_after_cut g.D.LogDisk.written g.D.LogDisk.may_leave g.D.LogDisk.moment g.D.LogDisk.left_since
    c.args.disk.now c.args.first c.args.end.now g.known.0 g.known.1 r c.cut.new.self
    (g.met.D.LogDisk.only_now c.args.disk.now) (c.in_err-cut.ensures.part t) (c.cut.ensures.crash t)
    (c.cut.ensures.time t) in
    let p = err_from_is_err_and c.from_residual.result c.from_residual.ensures.1 in
    rw p.1 (next_unsettled g.D.LogDisk.written g.D.LogDisk.may_leave g.D.LogDisk.moment g.D.LogDisk.left_since
    c.args.disk.now c.args.first c.args.end.now g.known.0 g.known.1 r c.cut.new.self run)

pub returns-in_err-write_page_again-clause-any_moment : goal.returns-in_err-write_page_again-clause-any_moment
returns-in_err-write_page_again-clause-any_moment g c = λ t.
    let r = c.requires.1.0 t in
    let told = c.loop-page.invariant.tells t in
    let run = next_after_page g.D.LogDisk.written g.D.LogDisk.may_leave g.D.LogDisk.moment g.D.LogDisk.left_since
    c.args.disk.now c.args.first c.args.end.now g.known.0 g.known.1 r c.loop-page.disk c.write_page_again.new.disk
    (c.loop-page.invariant.next t) (c.write_page_again.ensures.same told) (c.write_page_again.ensures.longer told)
    (c.write_page_again.ensures.crash told) (c.write_page_again.ensures.time told) in
    next_moments g.D.LogDisk.written g.D.LogDisk.may_leave g.D.LogDisk.moment g.D.LogDisk.left_since c.args.disk.now
    c.args.first c.args.end.now g.known.0 g.known.1 r c.write_page_again.new.disk run

pub returns-in_err-write_page_again-clause-same_list : goal.returns-in_err-write_page_again-clause-same_list
returns-in_err-write_page_again-clause-same_list g c = λ t found read only.
    let r = c.requires.1.0 t in
    let told = c.loop-page.invariant.tells t in
    let run = gone_after_page g.D.LogDisk.written g.D.LogDisk.may_leave g.D.LogDisk.moment g.D.LogDisk.left_since
    c.args.disk.now c.args.first c.args.end.now g.known.0 g.known.1 r found read only c.loop-page.disk
    c.write_page_again.new.disk (c.loop-page.invariant.gone t found read only)
    (c.loop-page.invariant.whole t found read) (c.write_page_again.ensures.same told)
    (c.write_page_again.ensures.longer told) (c.write_page_again.ensures.crash told)
    (c.write_page_again.ensures.time told) in
    gone_moments g.D.LogDisk.written g.D.LogDisk.may_leave g.D.LogDisk.moment g.D.LogDisk.left_since c.args.disk.now
    c.args.first c.args.end.now g.known.0 g.known.1 r found read only c.write_page_again.new.disk run

pub returns-in_err-write_page_again-clause-failed : goal.returns-in_err-write_page_again-clause-failed
returns-in_err-write_page_again-clause-failed g c = λ t.
    let r = c.requires.1.0 t in
    let told = c.loop-page.invariant.tells t in
    let run = next_after_page g.D.LogDisk.written g.D.LogDisk.may_leave g.D.LogDisk.moment g.D.LogDisk.left_since
    c.args.disk.now c.args.first c.args.end.now g.known.0 g.known.1 r c.loop-page.disk c.write_page_again.new.disk
    (c.loop-page.invariant.next t) (c.write_page_again.ensures.same told) (c.write_page_again.ensures.longer told)
    (c.write_page_again.ensures.crash told) (c.write_page_again.ensures.time told) in
    let p = err_from_is_err_and c.from_residual-in_err-write_page_again.result
    c.from_residual-in_err-write_page_again.ensures.1 in
    rw p.1 (next_unsettled g.D.LogDisk.written g.D.LogDisk.may_leave g.D.LogDisk.moment g.D.LogDisk.left_since
    c.args.disk.now c.args.first c.args.end.now g.known.0 g.known.1 r c.write_page_again.new.disk run)

pub returns-in_err-sync-clause-any_moment : goal.returns-in_err-sync-clause-any_moment
returns-in_err-sync-clause-any_moment g c = λ t.
    let r = c.requires.1.0 t in
    let told = c.loop-page.invariant.tells t in
    let run = next_after_sync g.D.LogDisk.written g.D.LogDisk.may_leave g.D.LogDisk.moment g.D.LogDisk.left_since
    c.args.disk.now c.args.first c.args.end.now g.known.0 g.known.1 r c.loop-page.disk c.sync.new.self
    (c.loop-page.invariant.next t) (c.sync.ensures.same told) (c.sync.ensures.crash told)
    (c.sync.ensures.time told) in
    next_moments g.D.LogDisk.written g.D.LogDisk.may_leave g.D.LogDisk.moment g.D.LogDisk.left_since c.args.disk.now
    c.args.first c.args.end.now g.known.0 g.known.1 r c.sync.new.self run

pub returns-in_err-sync-clause-same_list : goal.returns-in_err-sync-clause-same_list
returns-in_err-sync-clause-same_list g c = λ t found read only.
    let r = c.requires.1.0 t in
    let told = c.loop-page.invariant.tells t in
    let run = gone_after_sync g.D.LogDisk.written g.D.LogDisk.may_leave g.D.LogDisk.moment g.D.LogDisk.left_since
    c.args.disk.now c.args.first c.args.end.now g.known.0 g.known.1 r found read only c.loop-page.disk
    c.sync.new.self (c.loop-page.invariant.gone t found read only) (c.sync.ensures.same told)
    (c.sync.ensures.crash told) (c.sync.ensures.time told) in
    gone_moments g.D.LogDisk.written g.D.LogDisk.may_leave g.D.LogDisk.moment g.D.LogDisk.left_since c.args.disk.now
    c.args.first c.args.end.now g.known.0 g.known.1 r found read only c.sync.new.self run

pub returns-in_err-sync-clause-failed : goal.returns-in_err-sync-clause-failed
returns-in_err-sync-clause-failed g c = λ t.
    let r = c.requires.1.0 t in
    let told = c.loop-page.invariant.tells t in
    let run = next_after_sync g.D.LogDisk.written g.D.LogDisk.may_leave g.D.LogDisk.moment g.D.LogDisk.left_since
    c.args.disk.now c.args.first c.args.end.now g.known.0 g.known.1 r c.loop-page.disk c.sync.new.self
    (c.loop-page.invariant.next t) (c.sync.ensures.same told) (c.sync.ensures.crash told)
    (c.sync.ensures.time told) in
    let p = err_from_is_err_and c.from_residual-in_err-sync.result c.from_residual-in_err-sync.ensures.1 in
    rw p.1 (next_unsettled g.D.LogDisk.written g.D.LogDisk.may_leave g.D.LogDisk.moment g.D.LogDisk.left_since
    c.args.disk.now c.args.first c.args.end.now g.known.0 g.known.1 r c.sync.new.self run)

pub returns-clause-any_moment : goal.returns-clause-any_moment
returns-clause-any_moment g c = λ t.
    let r = c.requires.1.0 t in
    let told = c.loop-page.invariant.tells t in
    let run = next_after_sync g.D.LogDisk.written g.D.LogDisk.may_leave g.D.LogDisk.moment g.D.LogDisk.left_since
    c.args.disk.now c.args.first c.args.end.now g.known.0 g.known.1 r c.loop-page.disk c.sync.new.self
    (c.loop-page.invariant.next t) (c.sync.ensures.same told) (c.sync.ensures.crash told)
    (c.sync.ensures.time told) in
    next_moments g.D.LogDisk.written g.D.LogDisk.may_leave g.D.LogDisk.moment g.D.LogDisk.left_since c.args.disk.now
    c.args.first c.args.end.now g.known.0 g.known.1 r c.sync.new.self run

pub returns-clause-same_list : goal.returns-clause-same_list
returns-clause-same_list g c = λ t found read only.
    let r = c.requires.1.0 t in
    let told = c.loop-page.invariant.tells t in
    let run = gone_after_sync g.D.LogDisk.written g.D.LogDisk.may_leave g.D.LogDisk.moment g.D.LogDisk.left_since
    c.args.disk.now c.args.first c.args.end.now g.known.0 g.known.1 r found read only c.loop-page.disk
    c.sync.new.self (c.loop-page.invariant.gone t found read only) (c.sync.ensures.same told)
    (c.sync.ensures.crash told) (c.sync.ensures.time told) in
    gone_moments g.D.LogDisk.written g.D.LogDisk.may_leave g.D.LogDisk.moment g.D.LogDisk.left_since c.args.disk.now
    c.args.first c.args.end.now g.known.0 g.known.1 r found read only c.sync.new.self run

pub returns-clause-settled : goal.returns-clause-settled
returns-clause-settled g c = λ t found read.
    let r = c.requires.1.0 t in
    let told = c.loop-page.invariant.tells t in
    let run = next_after_sync g.D.LogDisk.written g.D.LogDisk.may_leave g.D.LogDisk.moment g.D.LogDisk.left_since
    c.args.disk.now c.args.first c.args.end.now g.known.0 g.known.1 r c.loop-page.disk c.sync.new.self
    (c.loop-page.invariant.next t) (c.sync.ensures.same told) (c.sync.ensures.crash told)
    (c.sync.ensures.time told) in
    let brought : (left : List ℕ) → g.D.LogDisk.may_leave c.sync.new.self left → (i : ℕ)
    → 4096 * c.args.end.now.last ≤ i → get_or left i 0 ≡ get_or (g.D.LogDisk.written c.loop-page.disk) i 0 =
    λ left now i le.
    c.in_ok-sync.ensures.durable told left now i
    (elim (cases_lt i (4096 * c.loop-page.page)) [
      | inl inside ↦ c.loop-page.invariant.fresh t i le inside
      | inr behind ↦ c.loop-page.invariant.behind t i
          (omega (arith, c.loop-page-test.false))
    ]) in
    settled_after_sync g.D.LogDisk.written g.D.LogDisk.may_leave g.D.LogDisk.moment g.D.LogDisk.left_since
    c.args.disk.now c.args.first c.args.end.now g.known.0 g.known.1 r found read c.loop-page.disk c.sync.new.self
    _ c.new.ensures.first c.new.ensures.next c.new.ensures.page run (c.loop-page.invariant.whole t found read)
    (c.sync.ensures.same told) brought

pub loop-page-init : goal.loop-page-init
loop-page-init g c = record {
  next = λ t.
      let r = c.requires.1.0 t in
      let part = cut_may (4096 * c.args.end.now.page) (g.D.LogDisk.written c.args.disk.now)
      (g.D.LogDisk.written c.cut.new.self) (c.in_ok-cut.ensures.cut t) in
      next_after_cut g.D.LogDisk.written g.D.LogDisk.may_leave g.D.LogDisk.moment g.D.LogDisk.left_since
      c.args.disk.now c.args.first c.args.end.now g.known.0 g.known.1 r c.cut.new.self
      (g.met.D.LogDisk.only_now c.args.disk.now) part (c.cut.ensures.crash t) (c.cut.ensures.time t);
  gone = λ t found read only.
      let r = c.requires.1.0 t in
      let part = cut_may (4096 * c.args.end.now.page) (g.D.LogDisk.written c.args.disk.now)
      (g.D.LogDisk.written c.cut.new.self) (c.in_ok-cut.ensures.cut t) in
      gone_after_cut g.D.LogDisk.written g.D.LogDisk.may_leave g.D.LogDisk.moment g.D.LogDisk.left_since
      c.args.disk.now c.args.first c.args.end.now g.known.0 g.known.1 r found read only c.cut.new.self
      (g.met.D.LogDisk.only_now c.args.disk.now) part (c.cut.ensures.crash t) (c.cut.ensures.time t);
  whole = λ t found read. let r = c.requires.1.0 t in whole_after_cut g.D.LogDisk.written g.D.LogDisk.may_leave
      g.D.LogDisk.moment g.D.LogDisk.left_since c.args.disk.now c.args.first c.args.end.now g.known.0 g.known.1 r
      found read c.cut.new.self (c.in_ok-cut.ensures.cut t);
  fresh = λ t i low high. absurd (omega arith);
  behind = λ t i le. c.in_ok-cut.ensures.fresh t i le;
  tells = c.cut.ensures.tells;
  sound = c.in_ok-cut.ensures.sound;
  count = c.in_ok-cut.ensures.ok;
}

pub loop-page-preserved : goal.loop-page-preserved
loop-page-preserved g c =
    let inv = c.loop-page.invariant in
    let again = c.in_ok-write_page_again.ensures in
    let every = c.write_page_again.ensures in
    record {
      next = λ t.
          let r = c.requires.1.0 t in
          let told = inv.tells t in
          next_after_page g.D.LogDisk.written g.D.LogDisk.may_leave g.D.LogDisk.moment g.D.LogDisk.left_since
          c.args.disk.now c.args.first c.args.end.now g.known.0 g.known.1 r c.loop-page.disk
          c.write_page_again.new.disk (inv.next t) (every.same told) (every.longer told) (every.crash told)
          (every.time told);
      gone = λ t found read only.
          let r = c.requires.1.0 t in
          let told = inv.tells t in
          gone_after_page g.D.LogDisk.written g.D.LogDisk.may_leave g.D.LogDisk.moment g.D.LogDisk.left_since
          c.args.disk.now c.args.first c.args.end.now g.known.0 g.known.1 r found read only c.loop-page.disk
          c.write_page_again.new.disk (inv.gone t found read only) (inv.whole t found read) (every.same told)
          (every.longer told) (every.crash told) (every.time told);
      whole = λ t found read.
          let r = c.requires.1.0 t in
          let told = inv.tells t in
          whole_after_page g.D.LogDisk.written g.D.LogDisk.may_leave g.D.LogDisk.moment g.D.LogDisk.left_since
          c.args.disk.now c.args.first c.args.end.now g.known.0 g.known.1 r found read c.loop-page.disk
          c.write_page_again.new.disk (inv.whole t found read) (every.same told) (every.longer told);
      fresh = λ t i low high.
          let told = inv.tells t in
          elim (cases_lt i (4096 * c.loop-page.page))
          [ inl before ↦ again.still told i (inv.fresh t i low before) | inr from ↦ again.fresh told i from high ];
      behind = λ t i le. again.still (inv.tells t) i (inv.behind t i le);
      tells = λ t. every.tells (inv.tells t);
      sound = again.sound;
      count = again.ok ∙ inv.count;
    }
