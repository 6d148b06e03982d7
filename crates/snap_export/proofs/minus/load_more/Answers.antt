use Rattle.std.proofs.Common.{ap, inl, inr, Err}
use Rattle.matrix_difference.specs.declared.difference.MinusFault.{MinusFault}
use Rattle.snap_export.specs.Minus.{fault_of}
use Rattle.snap_export.proofs.SavedLemmas.{passed_on}
use Rattle.snap_export.proofs.MinusLemmas.{unsubtracted}
use Rattle.snap_export.proofs.minus.load_more.Goals as goal

pub returns-in_err-old-clause-err : goal.returns-in_err-old-clause-err
returns-in_err-old-clause-err g c =
    passed_on c.from_residual-in_err-old.result _ c.in_err-old.field-0.0 c.from_residual-in_err-old.ensures.1
    (inr (inl (c.in_ok-new.new, c.load_new.new.files, c.in_ok-new.ensures.ok, c.in_err-old.ensures.err)))

pub returns-in_err-judge_later-clause-err : goal.returns-in_err-judge_later-clause-err
returns-in_err-judge_later-clause-err g c =
    passed_on c.from_residual-in_err-judge_later.result _ c.in_err-judge_later.field-0.0
    c.from_residual-in_err-judge_later.ensures.1
    (inr (inr (
      c.in_ok-new.new,
      c.in_ok-old.old,
      record { middle = c.load_new.new.files; new = c.in_ok-new.ensures.ok; old = c.in_ok-old.ensures.ok },
      inl c.in_err-judge_later.ensures.err,
    )))

pub returns-in_err-more-clause-err : goal.returns-in_err-more-clause-err
returns-in_err-more-clause-err g c =
    passed_on c.from_residual-in_err-more.result _ (fault_of c.in_err-more.field-0.0)
    c.from_residual-in_err-more.ensures.1
    (inr (inr (
      c.in_ok-new.new,
      c.in_ok-old.old,
      record { middle = c.load_new.new.files; new = c.in_ok-new.ensures.ok; old = c.in_ok-old.ensures.ok },
      inr (
        c.in_ok-judge_later.ensures.ok,
        unsubtracted c.in_ok-new.new c.in_ok-old.old c.in_err-more.field-0.0 (λ row col same.
            c.in_err-more.ensures.falls row col (ap (λ (f : MinusFault). Err f) same)),
      ),
    )))

pub returns-clause-ok : goal.returns-clause-ok
returns-clause-ok g c = (
  c.in_ok-new.new,
  c.in_ok-old.old,
  record { middle = c.load_new.new.files; new = c.in_ok-new.ensures.ok; old = c.in_ok-old.ensures.ok },
  c.in_ok-judge_later.ensures.ok,
  c.in_ok-more.ensures.ok,
)
