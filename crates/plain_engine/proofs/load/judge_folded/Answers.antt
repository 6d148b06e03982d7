use Rattle.std.proofs.Common.{◌∙◌, sym, subst, take, drop, ◌+◌, ℕ}
use Rattle.std.specs.Prelude.{slice_index_or}
use Rattle.std.proofs.lemmas.Result.{err_from_is_err_and}
use Rattle.batch_store.specs.declared.verdict.Entry.{Entry}
use Rattle.plain_engine.proofs.LoadLaws.{AreJudged, none_judged, left_at, done_at, repeat_there, limit_there, judged_next}
use Rattle.plain_engine.proofs.load.judge_folded.Goals as goal

abbrev zero_entry : Entry
zero_entry = record { client = 0; number = 0; cells = 0; total = 0 }

pub entries-init : goal.entries-init
entries-init c = none_judged c.args.setup.now c.new-pairs.result c.args.folded.now c.new-pairs.ensures.empty

pub returns-in-Some-true-clause-err : goal.returns-in-Some-true-clause-err
returns-in-Some-true-clause-err c = λ other.
    let es = c.args.folded.now in
    let i = c.entries.entry-index in
    let inv = c.entries.invariant in
    repeat_there c.args.setup.now c.entries.pairs c.entries.total c.entries.at (take i es) (drop i es) es
    (slice_index_or es i zero_entry) (drop (i + 1) es) inv (left_at es i zero_entry c.entries-test.true)
    (sym (c.in-Some-true.ensures.told (take i es) inv.paired) ∙ c.in-Some-true.field-0-test)

pub returns-in_err-total-in-Some-false-clause-err : goal.returns-in_err-total-in-Some-false-clause-err
returns-in_err-total-in-Some-false-clause-err c =
    let es = c.args.folded.now in
    let i = c.entries.entry-index in
    let inv = c.entries.invariant in
    let p = err_from_is_err_and c.from_residual.result c.from_residual.ensures.1 in
    rw (p.1, p.2)
    (λ other. limit_there c.args.setup.now c.entries.pairs c.entries.total c.entries.at (take i es) (drop i es) es
    (slice_index_or es i zero_entry) (drop (i + 1) es) inv (left_at es i zero_entry c.entries-test.true)
    c.in_err-total-in-Some-false.field-0.0
    (sym (c.in-Some-false.ensures.told (take i es) inv.paired) ∙ c.in-Some-false.field-0-test)
    c.in_err-total-in-Some-false.ensures.err)

pub returns-in_err-judged_new-in-None-clause-err : goal.returns-in_err-judged_new-in-None-clause-err
returns-in_err-judged_new-in-None-clause-err c =
    let es = c.args.folded.now in
    let i = c.entries.entry-index in
    let inv = c.entries.invariant in
    let p = err_from_is_err_and c.from_residual-in_err-judged_new-in-None.result
    c.from_residual-in_err-judged_new-in-None.ensures.1 in
    rw (p.1, p.2)
    (λ other. limit_there c.args.setup.now c.entries.pairs c.entries.total c.entries.at (take i es) (drop i es) es
    (slice_index_or es i zero_entry) (drop (i + 1) es) inv (left_at es i zero_entry c.entries-test.true)
    c.in_err-judged_new-in-None.field-0.0 (c.in-None.ensures.new_pair (take i es) inv.paired)
    c.in_err-judged_new-in-None.ensures.err)

pub entries-preserved : goal.entries-preserved
entries-preserved c =
    let es = c.args.folded.now in
    let i = c.entries.entry-index in
    let inv = c.entries.invariant in
    let e = slice_index_or es i zero_entry in
    let ok = c.in_ok-total-in-Some-false.ensures in
    subst (λ (n : ℕ). AreJudged c.args.setup.now c.noted.new.pairs n (c.entries.at + 1) (take (i + 1) es)
    (drop (i + 1) es) es) (sym ok.sum)
    (judged_next c.args.setup.now c.entries.pairs c.entries.total c.entries.at (take i es) (drop i es) es
    e (drop (i + 1) es) inv (left_at es i zero_entry c.entries-test.true) c.noted.new.pairs (take (i + 1) es)
    (sym (c.in-Some-false.ensures.told (take i es) inv.paired) ∙ c.in-Some-false.field-0-test) ok.ok
    (c.in-Some-false.ensures.kept (take i es) inv.paired) (done_at es i zero_entry c.entries-test.true))
