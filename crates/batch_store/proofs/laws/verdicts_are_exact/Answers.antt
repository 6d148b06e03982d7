use Rattle.std.proofs.Common.{subst}
use Rattle.batch_store.specs.Verdicts.{IsVerdict}
use Rattle.batch_store.proofs.VerdictMeaning.{verdict_means, meant_verdict}
use Rattle.batch_store.proofs.laws.verdicts_are_exact.Goals as goal

pub returns : goal.returns
returns c = λ limit most es b r distinct. (
  λ is. subst (IsVerdict limit most es b) is (verdict_means limit most es b distinct),
  λ h. meant_verdict limit most es b r distinct h,
)
