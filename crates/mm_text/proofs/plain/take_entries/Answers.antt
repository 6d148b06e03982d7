use Rattle.std.proofs.Common.{◌≡◌, ◌++◌, ◌+◌, ◌≤◌, arith, take, drop, length, refl, ◌∷◌, [], true, false, subst}
use Rattle.std.proofs.Common.{length-append}
use Rattle.std.specs.Prelude.{Result, Ok, Err, OnOk, OnErr, is_err}
use Rattle.std.specs.declared.alloc.AllocError.{AllocError}
use Rattle.std.proofs.lemmas.List.{take-append-drop, take_rest}
use Rattle.mm_text.specs.Faults.{Shows}
use Rattle.mm_text.specs.declared.fault.MmKind.TheVariants.{Memory}
use Rattle.mm_text.specs.declared.stages.Stage.TheVariants.{AtEntries}
use Rattle.mm_text.specs.Judging.{cells_of}
use Rattle.mm_text.proofs.PiecesLemmas.{advances_none, advances_append, shows_later}
use Rattle.mm_text.proofs.PlainLemmas.{advances_entry, shows_memory, few_cells, line_behind, line_within}
use Rattle.mm_text.proofs.plain.take_entries.Goals as goal
use Rattle.mm_text.specs.Stages.{state}

used : {P : Type 0} (r : Result (Unit {0}) AllocError) → false ≡ is_err r → OnOk r P → P
used (Ok x) e h = h
used (Err y) e h = cc

pub returns-in_default : goal.returns-in_default
returns-in_default c = record {
  within = omega arith;
  count = omega arith;
  bound = omega arith;
  room = c.requires.room;
  few = omega arith;
  ok = λ limits. advances_none limits [] _ _ _;
  err = tt;
  kept = tt;
  lacks = tt;
  grows = omega arith;
}

pub entries-init : goal.entries-init
entries-init c = record {
  within = omega arith;
  count = omega arith;
  room = c.requires.room;
  few = omega arith;
  grows = omega arith;
  advances = λ limits. rw c.in-AtEntries.is (advances_none limits [] _ _ _);
}

pub returns-then-is_err-clause-err : goal.returns-then-is_err-clause-err
returns-then-is_err-clause-err c = λ limits.
    let b = rw (take_rest c.args.bytes.now c.entries.start) at c.in-Some.ensures in
    subst (λ bytes. Shows limits bytes (state [] c.args.progress.now.stage c.args.progress.now.lines) Memory
    (c.entries.lines + 1)) (take-append-drop c.entries.start c.args.bytes.now)
    (shows_later limits (take c.entries.start c.args.bytes.now) (drop c.entries.start c.args.bytes.now) [] [] _ _ _ _ _
    _ Memory (c.entries.lines + 1) (c.entries.invariant.advances limits)
    (shows_memory limits c.in-AtEntries.symmetric c.in-AtEntries.size c.entries.seen c.entries.lines b.line
    c.in-Some.cell b.is_entry c.entries-test.true (drop c.entries.start c.args.bytes.now) b.rest
    (c.entries.lines + 1) b.whole refl))

failed : {P : Type 0} (r : Result (Unit {0}) AllocError) → true ≡ is_err r → OnErr r P → P
failed (Ok x) e h = cc
failed (Err y) e h = h

pub returns-then-is_err-clause-kept : goal.returns-then-is_err-clause-kept
returns-then-is_err-clause-kept c = λ limits. record {
  front = c.entries.start;
  within = c.entries.invariant.within;
  reached = state [] (AtEntries c.in-AtEntries.symmetric c.in-AtEntries.size c.entries.seen) c.entries.lines;
  advances = rw (failed c.push_cells.result c.if-is_err.ensures.value c.push_cells.ensures.err)
      (c.entries.invariant.advances limits);
}

pub returns-then-is_err-clause-lacks : goal.returns-then-is_err-clause-lacks
returns-then-is_err-clause-lacks c = λ memory.
    let lacks = failed c.push_cells.result c.if-is_err.ensures.value c.push_cells.ensures.lacks in
    let grows = c.entries.invariant.grows in
    let room = c.if-most-len-gt1.true in
    let l = c.len.ensures in
    omega arith

pub entries-preserved : goal.entries-preserved
entries-preserved c =
    let b = rw (take_rest c.args.bytes.now c.entries.start) at c.in-Some.ensures in
    let within = line_within c.args.bytes.now b.line b.rest c.entries.start c.in-Some.len b.whole b.size_is in
    let block : c.push_cells.new.cells.items ≡ c.entries.block.items ++ cells_of c.in-AtEntries.symmetric
    c.in-Some.cell = used c.push_cells.result c.if-is_err.ensures.value c.push_cells.ensures.ok in
    let few = few_cells c.in-AtEntries.symmetric c.in-Some.cell in
    let count = length-append c.entries.block.items (cells_of c.in-AtEntries.symmetric c.in-Some.cell) in
    let size : length c.push_cells.new.cells.items ≤ length c.entries.block.items + 2 = rw block (omega arith) in
    let i = c.entries.invariant in
    record {
      within = within.0;
      count = let h = i.count in let s = within.1 in omega arith;
      room = let t = c.if-most-len-gt1.true in let l = c.len.ensures in omega arith;
      few = let h = i.few in let s = within.1 in omega arith;
      grows = let g = c.push_cells.ensures.grows in let h = i.grows in omega arith;
      advances = λ limits. rw (line_behind c.args.bytes.now b.line b.rest c.entries.start c.in-Some.len b.whole
          b.size_is)
          (advances_append limits (take c.entries.start c.args.bytes.now) (b.line ++ 10 ∷ []) [] [] [] _ _ _ _ _ _ _ _
          _ (i.advances limits)
          (advances_entry limits c.in-AtEntries.symmetric c.in-AtEntries.size c.entries.seen c.entries.lines b.line
          c.in-Some.cell b.is_entry c.entries-test.true _ _ block));
    }
