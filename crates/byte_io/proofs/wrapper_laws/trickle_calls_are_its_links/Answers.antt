use Rattle.byte_io.proofs.WrapperLemmas.{trickle_reads, trickle_writes, trickle_either}
use Rattle.byte_io.proofs.wrapper_laws.trickle_calls_are_its_links.Goals as goal

pub returns : goal.returns
returns g c =
    let gives = g.L.Source.read_gives in
    let takes = g.L.Sink.write_takes in
    record {
      reads = λ s t answers calls. trickle_reads gives s t answers calls;
      writes = λ s t answers calls. trickle_writes takes s t answers calls;
      either = λ s t answers calls. trickle_either gives takes s t answers calls;
    }
