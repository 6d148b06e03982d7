use Rattle.std.proofs.Common.{ℕ, List, [], not, length, sym, subst, ap, ◌∙◌}
use Rattle.std.specs.Prelude.{◌==◌, ◌&&◌}
use Rattle.std.proofs.lemmas.Result.{err_from_is_err_and}
use Rattle.hyper_matrix.specs.Counts.{Counts}
use Rattle.hyper_matrix.specs.Matrix.{Matrix}
use Rattle.batch_store.specs.Accepted.{accepted}
use Rattle.batch_store.specs.declared.verdict.Entry.{Entry}
use Rattle.snap_file.specs.Table.{Reading, Tally, Progress, refuse_if, cells_behind, no_cells, with_base, base}
use Rattle.snap_file.specs.Outcomes.{IsOfBytes, HasJudged}
use Rattle.snap_file.specs.Lists.{progress_in}
use Rattle.snap_file.specs.declared.past.Past.{Past}
use Rattle.snap_file.specs.declared.fault.SnapFault.TheVariants.{BadBatch, TotalDiffers}
use Rattle.snap_file.proofs.StopLemmas.{stops_refused, read_passed}
use Rattle.snap_file.proofs.BehindLemmas.{behind_sum}
use Rattle.snap_file.proofs.past.read_base.Goals as goal

batch_judged : IsOfBytes BadBatch
batch_judged = (λ e. absurd cc, λ e. absurd cc)

total_judged : IsOfBytes TotalDiffers
total_judged = (λ e. absurd cc, λ e. absurd cc)

-- what follows the cells
abbrev judged_sum : Past → (Progress → Reading) → Tally → Reading
judged_sum past k t = refuse_if (not (t.counted == past.counted)) TotalDiffers
    (λ _. k (with_base (progress_in past) t.cells))

pub returns-in_err-count-clause-err : goal.returns-in_err-count-clause-err
unfolding base
returns-in_err-count-clause-err g c =
    let p = err_from_is_err_and c.from_residual.result c.from_residual.ensures.1 in
    rw (p.1, p.2) (λ s m k b h. c.in_err-count.ensures.err s m _ h)

pub returns-in_err-refuse-clause-err : goal.returns-in_err-refuse-clause-err
unfolding base
returns-in_err-refuse-clause-err g c =
    let p = err_from_is_err_and c.from_residual-in_err-refuse.result c.from_residual-in_err-refuse.ensures.1 in
    rw (p.1, p.2, c.in_err-refuse.ensures.err.0) (λ s m k b h.
    stops_refused {S = g.row.R.Denot} g.R.Source.read_gives g.R.Source.failure_count
    (g.R.Source.at_end c.next_u64.new.r) m s c.next_u64.new.r c.next_u64.new.self _ BadBatch _
    (c.in_ok-count.ensures.ok s m _ h)
    (ap (λ (l : List Entry). (length l == 0) && not (c.in_ok-count.count == 0)) (sym c.deref.ensures.value)
    ∙ sym c.is_unfounded-unfounded.ensures ∙ c.in_err-refuse.ensures.err.1) batch_judged)

pub returns-in_err-m-clause-err : goal.returns-in_err-m-clause-err
unfolding base
returns-in_err-m-clause-err g c =
    let p = err_from_is_err_and c.from_residual-in_err-m.result c.from_residual-in_err-m.ensures.1 in
    rw (p.1, p.2) (λ s m k b h.
    c.in_err-m.ensures.err s m (judged_sum c.args.past.now k) (λ t. behind_sum _ _ (b _))
    (subst (λ (n : ℕ). HasJudged {S = g.row.R.Denot} g.R.Source.read_gives g.R.Source.failure_count m s c.next_u64.new.r
    c.next_u64.new.self (cells_behind c.args.head.now c.args.past.now.counted c.in_ok-count.count (no_cells n)
    (judged_sum c.args.past.now k)))
    (sym c.new-tally.ensures)
    (read_passed {S = g.row.R.Denot} g.R.Source.read_gives g.R.Source.failure_count m s c.next_u64.new.r
    c.next_u64.new.self _ BadBatch _ (c.in_ok-count.ensures.ok s m _ h)
    (ap (λ (l : List Entry). (length l == 0) && not (c.in_ok-count.count == 0)) (sym c.deref.ensures.value)
    ∙ sym c.is_unfounded-unfounded.ensures ∙ c.in_ok-refuse.ensures.ok))))

pub returns-in_err-refuse-2-clause-err : goal.returns-in_err-refuse-2-clause-err
unfolding base
returns-in_err-refuse-2-clause-err g c =
    let p = err_from_is_err_and c.from_residual-in_err-refuse-2.result c.from_residual-in_err-refuse-2.ensures.1 in
    rw (p.1, p.2, c.in_err-refuse-2.ensures.err.0) (λ s m k b h.
    let x = c.in_ok-m.ensures.ok s m (judged_sum c.args.past.now k)
    (subst (λ (n : ℕ). HasJudged {S = g.row.R.Denot} g.R.Source.read_gives g.R.Source.failure_count m s c.next_u64.new.r
    c.next_u64.new.self (cells_behind c.args.head.now c.args.past.now.counted c.in_ok-count.count (no_cells n)
    (judged_sum c.args.past.now k)))
    (sym c.new-tally.ensures)
    (read_passed {S = g.row.R.Denot} g.R.Source.read_gives g.R.Source.failure_count m s c.next_u64.new.r
    c.next_u64.new.self _ BadBatch _ (c.in_ok-count.ensures.ok s m _ h)
    (ap (λ (l : List Entry). (length l == 0) && not (c.in_ok-count.count == 0)) (sym c.deref.ensures.value)
    ∙ sym c.is_unfounded-unfounded.ensures ∙ c.in_ok-refuse.ensures.ok))) in
    stops_refused {S = g.row.R.Denot} g.R.Source.read_gives g.R.Source.failure_count
    (g.R.Source.at_end c.read_entries.new.r) m s c.read_entries.new.r c.read_entries.new.reader _ TotalDiffers _ x.3
    (ap (λ (n : ℕ). not (n == c.args.past.now.counted)) x.2 ∙ c.in_err-refuse-2.ensures.err.1) total_judged)

pub returns-clause-ok : goal.returns-clause-ok
unfolding base
returns-clause-ok g c = λ s m k h.
    let x = c.in_ok-m.ensures.ok s m (judged_sum c.args.past.now k)
    (subst (λ (n : ℕ). HasJudged {S = g.row.R.Denot} g.R.Source.read_gives g.R.Source.failure_count m s c.next_u64.new.r
    c.next_u64.new.self (cells_behind c.args.head.now c.args.past.now.counted c.in_ok-count.count (no_cells n)
    (judged_sum c.args.past.now k)))
    (sym c.new-tally.ensures)
    (read_passed {S = g.row.R.Denot} g.R.Source.read_gives g.R.Source.failure_count m s c.next_u64.new.r
    c.next_u64.new.self _ BadBatch _ (c.in_ok-count.ensures.ok s m _ h)
    (ap (λ (l : List Entry). (length l == 0) && not (c.in_ok-count.count == 0)) (sym c.deref.ensures.value)
    ∙ sym c.is_unfounded-unfounded.ensures ∙ c.in_ok-refuse.ensures.ok))) in
    subst (λ (n : Counts). HasJudged {S = g.row.R.Denot} g.R.Source.read_gives g.R.Source.failure_count m s
    c.read_entries.new.r c.read_entries.new.reader (k (let y : Progress = record {
      state = accepted n c.args.past.now.folded.items [];
      counted = c.args.past.now.counted;
    } in y))) (sym (ap (λ (y : Matrix). y.counts) x.1))
    (read_passed {S = g.row.R.Denot} g.R.Source.read_gives g.R.Source.failure_count m s c.read_entries.new.r
    c.read_entries.new.reader _ TotalDiffers _ x.3
    (ap (λ (n : ℕ). not (n == c.args.past.now.counted)) x.2 ∙ c.in_ok-refuse-2.ensures.ok))
