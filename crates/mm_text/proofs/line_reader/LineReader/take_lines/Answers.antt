use Rattle.std.proofs.Common.{arith, ◌≡◌, ◌++◌, ◌+◌, ◌-◌, length, take, drop, [], length-take, length-drop}
use Rattle.std.proofs.lemmas.Result.{err_from_is_err_and}
use Rattle.std.proofs.lemmas.List.{take-append-drop, append-nil, take_rest}
use Rattle.mm_text.proofs.PiecesLemmas.{advances_none, advances_append, shows_later, stops_later, take_two}
use Rattle.mm_text.proofs.line_reader.LineReader.take_lines.Goals as goal

pub lines-init : goal.lines-init
lines-init c = record {
  within = omega arith;
  count = omega arith;
  room = c.requires.room;
  grows = omega arith;
  advances = advances_none c.args.limits _ _ _ _;
}

pub returns-in_err-taken-clause-err : goal.returns-in_err-taken-clause-err
returns-in_err-taken-clause-err c =
    let p = err_from_is_err_and c.from_residual.result c.from_residual.ensures.1 in
    let s = c.in_err-taken.ensures.err in
    let whole = take-append-drop c.lines.start c.args.bytes.now in
    let later = shows_later c.args.limits (take c.lines.start c.args.bytes.now) (drop c.lines.start c.args.bytes.now)
    c.args.self.now.carry.items _ _ _ _ _ _ _ _ _ c.lines.invariant.advances
    (rw (take_rest c.args.bytes.now c.lines.start) at s) in
    rw (p.1, p.2) (rw whole at later)

pub returns-in_err-taken-clause-kept : goal.returns-in_err-taken-clause-kept
returns-in_err-taken-clause-kept c =
    let p = err_from_is_err_and c.from_residual.result c.from_residual.ensures.1 in
    let s = rw (take_rest c.args.bytes.now c.lines.start) at c.in_err-taken.ensures.kept in
    rw p.1 (stops_later c.args.limits c.args.bytes.now c.lines.start c.args.self.now.carry.items _ _ _ _ _ _ _ _
    c.lines.invariant.within c.lines.invariant.advances s)

pub returns-then-taken-eq0-clause-ok : goal.returns-then-taken-eq0-clause-ok
returns-then-taken-eq0-clause-ok c =
    let none : c.in_ok-taken.taken ≡ 0 = c.if-taken-eq0.true in
    let a = rw none at c.in_ok-taken.ensures.ok in
    let all = advances_append c.args.limits (take c.lines.start c.args.bytes.now) [] c.args.self.now.carry.items _ _ _
    _ _ _ _ _ _ _ _ c.lines.invariant.advances a in
    rw append-nil at all

pub lines-preserved : goal.lines-preserved
lines-preserved c =
    let a = rw (take_rest c.args.bytes.now c.lines.start) at c.in_ok-taken.ensures.ok in
    let n = c.in_ok-taken.ensures.within in
    let cut : take (c.lines.start + c.in_ok-taken.taken) c.args.bytes.now ≡ take c.lines.start c.args.bytes.now ++ take
    c.in_ok-taken.taken (drop c.lines.start c.args.bytes.now) =
    take_two c.args.bytes.now c.lines.start c.in_ok-taken.taken in
    record {
      within = let i = c.lines.invariant.within in omega (
        arith,
        length-take (length c.args.bytes.now - c.lines.start) (drop c.lines.start c.args.bytes.now),
        length-drop c.lines.start c.args.bytes.now,
      );
      count = let h = c.in_ok-taken.ensures.count in let i = c.lines.invariant.count in omega arith;
      room = let r = c.in_ok-taken.ensures.room in let t = c.lines-test.true in let l = c.len.ensures in omega arith;
      grows = let g = c.take_next.ensures.grows in let i = c.lines.invariant.grows in omega arith;
      advances = rw cut (advances_append c.args.limits (take c.lines.start c.args.bytes.now)
          (take c.in_ok-taken.taken (drop c.lines.start c.args.bytes.now)) c.args.self.now.carry.items _ _ _ _ _ _ _ _
          _ _ _ c.lines.invariant.advances a);
    }
