use Rattle.std.proofs.Common.{ℕ}
use Rattle.std.specs.Prelude.{⊤}
use Rattle.log_source.specs.Sources.{GivesFrom}
use Rattle.log_source.proofs.RunLemmas.{read_next, read_bytes}
use Rattle.log_source.proofs.laws.reads_give_the_file.Goals as goal

pub returns-clause-next : goal.returns-clause-next
returns-clause-next c = λ file answers at next calls.
    read_next (GivesFrom file) (λ (n : ℕ). n) (λ (n : ℕ). ⊤) file (λ s answer t known gives. (tt, gives))
    answers at next tt calls

pub returns-clause-bytes : goal.returns-clause-bytes
returns-clause-bytes c = λ file answers at next calls.
    read_bytes (GivesFrom file) (λ (n : ℕ). n) (λ (n : ℕ). ⊤) file (λ s answer t known gives. (tt, gives))
    answers at next tt calls
