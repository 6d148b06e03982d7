use Rattle.mm_laws.proofs.FaultPlaces.{first_stays, first_came, none_stays}
use Rattle.mm_laws.proofs.text_laws.first_faults_stay.Goals as goal

pub returns-clause-stays : goal.returns-clause-stays
returns-clause-stays c = first_stays

pub returns-clause-came : goal.returns-clause-came
returns-clause-came c = first_came

pub returns-clause-none : goal.returns-clause-none
returns-clause-none c = λ text more limits kind line none f. none_stays text more limits none f.first.turn f.place kind
    line f.first.stands
