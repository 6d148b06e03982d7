use Rattle.byte_io.specs.Writing.{AnyOffer}
use Rattle.byte_io.specs.Wrappers.{AnyCall}
use Rattle.byte_io.proofs.WrapperLemmas.{once_fails, once_around, once_behind, once_writes, once_either}
use Rattle.byte_io.proofs.wrapper_laws.once_leaves_out_one_call.Goals as goal

pub returns : goal.returns
returns g c =
    let gives = g.L.Source.read_gives in
    let takes = g.L.Sink.write_takes in
    record {
      fails = λ s t answer call e. once_fails gives s t answer call e;
      reads = λ n s t answers below place calls. once_around gives n s t answers below place calls;
      writes = λ n s t answers below place calls.
          once_around (AnyOffer takes) n s t answers below place (once_writes takes s t answers calls);
      either = λ n s t answers below place calls.
          once_around (AnyCall gives takes) n s t answers below place (once_either gives takes s t answers calls);
      behind = λ s t answers below past calls.
          once_behind (AnyCall gives takes) s t answers below past (once_either gives takes s t answers calls);
    }
