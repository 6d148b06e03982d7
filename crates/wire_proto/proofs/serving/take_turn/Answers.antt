use Rattle.std.proofs.Common.{◌<◌, ◌++◌, length, sym, ◌∙◌, arith, IfOk, IfErr, subst}
use Rattle.wire_proto.specs.Sessions.{Carries, CarriesToEnd}
use Rattle.wire_proto.proofs.LinkLemmas.{none_given}
use Rattle.wire_proto.proofs.SessionLemmas.{fails_to_read, rests_read, carries_turn, ends_turn}
use Rattle.wire_proto.proofs.serving.take_turn.Goals as goal

pub returns-in-Err-clause-err : goal.returns-in-Err-clause-err
returns-in-Err-clause-err g c = λ l0 s0 turns most st.
    fails_to_read _ _ _ _ _ _ _ _ _ _ _ _ _ _ c.in-Err.ensures.fails c.in-Err.ensures.err c.requires.none st

pub returns-in-Ok-eq0-clause-err : goal.returns-in-Ok-eq0-clause-err
returns-in-Ok-eq0-clause-err g c = λ l0 s0 turns most st. (
  c.args.frames.now,
  sym c.len.ensures,
  c.in-Ok-eq0.ensures.end c.in-Ok-eq0.field-0-test,
  rests_read _ _ _ _ _ _ _ _ _ _ _ _ _ _ (none_given _ (c.in-Ok-eq0.ensures.count ∙ c.in-Ok-eq0.field-0-test))
      c.in-Ok-eq0.ensures.gives c.requires.none st,
)

pub returns-in-Ok-clause-ok : goal.returns-in-Ok-clause-ok
returns-in-Ok-clause-ok g c =
    let some : 0 < length c.read_piece.new.buffer =
    let t = c.in-Ok.count-test.1 in omega (arith, c.in-Ok.ensures.count) in
    carries_turn _ _ _ _ _ _ _ _ _ _ _ _ _ _ _ some c.in-Ok.ensures.gives c.in-Ok.ensures.ok
    (subst (λ v. IfOk c.take_piece-answered.result
    (λ w. Carries g.L.Source.read_gives g.L.Sink.write_takes g.L.Sink.failure_count g.K.Keeper.gives
    (g.K.Keeper.setup_of c.args.keeper.now) c.read_piece.new.link c.take_piece-answered.new.link c.args.keeper.now
    c.take_piece-answered.new.keeper (c.args.frames.now ++ v) c.take_piece-answered.new.frames c.args.written w 0))
    c.pending.ensures.value c.take_piece-answered.ensures.ok)

pub returns-in-Ok-clause-err : goal.returns-in-Ok-clause-err
returns-in-Ok-clause-err g c =
    let some : 0 < length c.read_piece.new.buffer =
    let t = c.in-Ok.count-test.1 in omega (arith, c.in-Ok.ensures.count) in
    ends_turn g.L.Source.read_gives g.L.Sink.write_takes g.L.Sink.failure_count
    g.K.Keeper.gives (g.K.Keeper.setup_of c.args.keeper.now) g.L.Source.at_end
    c.args.link.now c.read_piece.new.link c.take_piece-answered.new.link c.args.keeper.now
    c.take_piece-answered.new.keeper c.args.frames.now c.read_piece.new.buffer c.args.written
    c.take_piece-answered.result some c.in-Ok.ensures.gives c.in-Ok.ensures.ok
    (subst (λ v. IfErr c.take_piece-answered.result
    (λ e. CarriesToEnd g.L.Source.read_gives g.L.Sink.write_takes g.L.Sink.failure_count g.K.Keeper.gives
    (g.K.Keeper.setup_of c.args.keeper.now) c.read_piece.new.link c.take_piece-answered.new.link c.args.keeper.now
    c.take_piece-answered.new.keeper (c.args.frames.now ++ v) c.args.written e))
    c.pending.ensures.value c.take_piece-answered.ensures.err)
