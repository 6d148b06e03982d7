use Rattle.mm_laws.proofs.FaultKinds.{fault_of_text, fault_of_words}
use Rattle.mm_laws.proofs.text_laws.faults_are_of_the_text.Goals as goal

pub returns-clause-of_text : goal.returns-clause-of_text
returns-clause-of_text c = fault_of_text

pub returns-clause-of_words : goal.returns-clause-of_words
returns-clause-of_words c = fault_of_words
