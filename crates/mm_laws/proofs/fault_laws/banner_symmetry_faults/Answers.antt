use Rattle.mm_laws.proofs.FaultLaws.{symmetry_missing, symmetry_unsupported, symmetry_other}
use Rattle.mm_laws.proofs.fault_laws.banner_symmetry_faults.Goals as goal

pub returns : goal.returns
returns c = record {
  missing = λ line o f t h a b c. symmetry_missing line o f t a b c h;
  unsupported = λ line o f t w ws h a b c u. symmetry_unsupported line o f t a b c w ws h u;
  other = λ line o f t w ws h a b c u. symmetry_other line o f t a b c w ws h u;
}
