use Rattle.std.proofs.Common.{refl}
use Rattle.wire_proto.proofs.PlainLemmas.{ends_seen}
use Rattle.wire_proto.specs.declared.plain.PlainKeeper.{PlainKeeper}
use Rattle.wire_proto.proofs.plain.serve_plain.Goals as goal

pub returns : goal.returns
returns g c =
    let ended = ends_seen g.L.Source.read_gives g.L.Sink.write_takes g.L.Sink.failure_count
    (λ (k : PlainKeeper). k.engine.ghost_name) (λ (k : PlainKeeper). k.engine.now.setup)
    (λ (k : PlainKeeper). k.engine.now.book.state) c.args.keeper.now.engine.now.setup
    g.L.Source.at_end c.args.link.now c.serve.new.link c.args.keeper.now c.serve.new.keeper c.args.max_turns
    c.serve.ensures.ends.0 c.serve.result refl c.serve.ensures.ends.2 in
    record {
      same_reference = ended.1.same;
      ends = (c.serve.ensures.ends.0, c.serve.ensures.ends.1, ended.0);
      setup = ended.1.setup;
    }
