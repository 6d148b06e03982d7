use Rattle.std.proofs.Common.{◌∙◌, ◌++◌, List, flat_map, refl, subst, arith}
use Rattle.std.proofs.lemmas.Result.{err_from_is_err_and}
use Rattle.std.proofs.lemmas.List.{drop_all}
use Rattle.batch_store.specs.declared.verdict.Entry.{Entry}
use Rattle.snap_file.specs.Spelling.{entry_bytes}
use Rattle.snap_file.specs.Writing.{IsWriting}
use Rattle.snap_file.proofs.WriteLemmas.{entry_left}
use Rattle.snap_file.proofs.write.write_folded.Goals as goal

pub loop-entry-init : goal.loop-entry-init
loop-entry-init g c = record { failures = refl; counted = omega arith; written = λ s all left h. h }

pub loop-entry-preserved : goal.loop-entry-preserved
loop-entry-preserved g c =
    let old = c.loop-entry.invariant in
    record {
      failures = c.in_ok-write_entry.ensures.failures ∙ old.failures;
      counted = omega (arith, c.in_ok-write_entry.ensures.count, old.counted);
      written = λ s all left h.
          c.in_ok-write_entry.ensures.ok s all _ (entry_left _ _ s _ all _ c.args.folded.now c.loop-entry.entry-index
          (record { client = 0; number = 0; cells = 0; total = 0 }) left c.loop-entry-test.true
          (old.written s all left h));
    }

pub returns-in_err-write_entry-clause-err : goal.returns-in_err-write_entry-clause-err
returns-in_err-write_entry-clause-err g c =
    let p = err_from_is_err_and c.from_residual.result c.from_residual.ensures.1 in rw (p.1, p.2) (λ s all left h.
    c.in_err-write_entry.ensures.err s all _ (c.loop-entry.invariant.written s all left h))

pub returns-clause-count : goal.returns-clause-count
returns-clause-count g c = omega (
  arith,
  c.loop-entry.invariant.counted,
  c.loop-entry.auto.entry-index-end,
  c.requires.few,
)

pub returns-clause-ok : goal.returns-clause-ok
returns-clause-ok g c = λ s all left h.
    subst (λ (l : List Entry). IsWriting {S = g.row.W.Denot} g.W.Sink.write_takes g.W.Sink.failure_count s
    c.loop-entry.w all c.loop-entry.writer (flat_map entry_bytes l ++ left))
    (drop_all c.loop-entry.entry-index c.args.folded.now c.loop-entry-test.false)
    (c.loop-entry.invariant.written s all left h)

pub returns-clause-failures : goal.returns-clause-failures
returns-clause-failures g c = c.loop-entry.invariant.failures
