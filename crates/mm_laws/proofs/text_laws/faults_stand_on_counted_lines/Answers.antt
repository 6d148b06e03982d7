use Rattle.mm_laws.proofs.FaultPlaces.{fault_line, fault_place}
use Rattle.mm_laws.proofs.text_laws.faults_stand_on_counted_lines.Goals as goal

pub returns : goal.returns
returns c = λ turn text limits place kind line w.
    let p = fault_place turn text limits place kind line w in
    (p.0, p.1, fault_line turn text limits place kind line w)
