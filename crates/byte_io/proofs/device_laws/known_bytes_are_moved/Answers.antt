use Rattle.byte_io.proofs.KnownLemmas.{known_read, known_written}
use Rattle.byte_io.proofs.device_laws.known_bytes_are_moved.Goals as goal

pub returns : goal.returns
returns c = record {
  read = λ old new answers h. known_read (λ v. v) old new answers h;
  written = λ old new answers h. known_written (λ v. v) old new answers h;
}
