use Rattle.locked_engine.proofs.GivenLaws.{given_all, given_stands}
use Rattle.locked_engine.proofs.counted.accepted_batches_stay.Goals as goal

pub returns-clause-given : goal.returns-clause-given
returns-clause-given c = given_all

pub returns-clause-stands : goal.returns-clause-stands
returns-clause-stands c = λ o seats all a b k known folded given behind.
    given_stands o all a b k folded (given_all o seats all b k known given) behind
