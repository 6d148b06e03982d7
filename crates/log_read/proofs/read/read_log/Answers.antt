use Rattle.std.proofs.Common.{ℕ, subst, ◌∙◌}
use Rattle.log_read.specs.Outcomes.{Explains}
use Rattle.log_read.proofs.GivenLemmas.{none_given}
use Rattle.log_read.proofs.ReadLemmas.{told_of, judged_of}
use Rattle.log_read.proofs.read.read_log.Goals as goal

pub returns-in-Err-Told-clause-err : goal.returns-in-Err-Told-clause-err
returns-in-Err-Told-clause-err g c =
    subst (λ (n : ℕ). Explains {S = g.row.R.Denot} g.R.Source.read_gives g.R.Source.failure_count
    (g.R.Source.at_end c.read_file.new.r) n c.args.r.now c.read_file.new.r c.in-Err-Told.fault) c.in-Ok.ensures.2
    (told_of {S = g.row.R.Denot} g.R.Source.read_gives g.R.Source.failure_count (g.R.Source.at_end c.read_file.new.r)
    c.in-Ok.source.max_bytes c.args.r.now c.read_file.new.r c.read_file.new.source c.in-Err-Told.field-0
    c.in-Err-Told.fault
    c.in-Err-Told.field-0-is (c.in-Err-Told.ensures.err c.args.r.now
    (none_given {S = g.row.R.Denot} g.R.Source.read_gives g.R.Source.failure_count c.args.r.now c.in-Ok.source
    c.in-Ok.ensures.0 c.in-Ok.ensures.1)))

pub returns-clause-err : goal.returns-clause-err
returns-clause-err g c =
    subst (λ (n : ℕ). Explains {S = g.row.R.Denot} g.R.Source.read_gives g.R.Source.failure_count
    (g.R.Source.at_end c.told_at_end.new.r) n c.args.r.now c.told_at_end.new.r c.told_at_end.result)
    (c.in-Err-Judged.ensures.limit ∙ c.in-Ok.ensures.2)
    (c.told_at_end.ensures c.args.r.now (judged_of {S = g.row.R.Denot} g.R.Source.read_gives g.R.Source.failure_count
    (g.R.Source.at_end c.read_file.new.r)
    c.in-Ok.source.max_bytes c.args.r.now c.read_file.new.r c.read_file.new.source c.in-Err-Judged.field-0
    c.in-Err-Judged.fault
    c.in-Err-Judged.field-0-is (c.in-Err-Judged.ensures.err c.args.r.now
    (none_given {S = g.row.R.Denot} g.R.Source.read_gives g.R.Source.failure_count c.args.r.now c.in-Ok.source
    c.in-Ok.ensures.0 c.in-Ok.ensures.1))))
