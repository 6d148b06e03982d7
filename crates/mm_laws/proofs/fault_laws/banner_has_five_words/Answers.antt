use Rattle.mm_laws.proofs.FaultLaws.{banner_sixth}
use Rattle.mm_laws.proofs.fault_laws.banner_has_five_words.Goals as goal

pub returns : goal.returns
returns c = λ line o f t s w ws h a b c d. banner_sixth line o f t a b c s w ws h d
