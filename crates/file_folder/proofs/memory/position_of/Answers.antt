use Rattle.std.proofs.Common.{◌≡◌, ◌∙◌, sym, length, ◌<◌, get_or, bytes_eq, string_bytes, arith, rules, true, false}
use Rattle.std.proofs.lemmas.Bool.{cond-true, cond-false}
use Rattle.std.proofs.lemmas.List.{get_or_default}
use Rattle.file_folder.proofs.MemoryLemmas.{find_step}
use Rattle.file_folder.proofs.memory.position_of.Goals as goal

pub returns-then-eq-clause-found : goal.returns-then-eq-clause-found
returns-then-eq-clause-found c = λ d.
    let inside : c.loop-i.i < length c.args.files.now = omega arith in
    let item : get_or c.args.files.now c.loop-i.i d ≡ c.index-files-i.result =
    get_or_default c.args.files.now c.loop-i.i d c.index-files-i.result inside ∙ sym c.index-files-i.is in
    let same : bytes_eq c.args.name.now (string_bytes (get_or c.args.files.now c.loop-i.i d).0) ≡ true =
    rw item (search rules) in
    c.loop-i.invariant ∙ find_step c.args.name.now c.args.files.now c.loop-i.i d inside ∙ cond-true _ _ _ same

pub loop-i-preserved : goal.loop-i-preserved
loop-i-preserved c =
    let inside : c.loop-i.i < length c.args.files.now = omega arith in
    let item : get_or c.args.files.now c.loop-i.i c.index-files-i.result ≡ c.index-files-i.result =
    sym c.index-files-i.is in
    let differs : bytes_eq c.args.name.now
    (string_bytes (get_or c.args.files.now c.loop-i.i c.index-files-i.result).0) ≡ false = rw item (search rules) in
    c.loop-i.invariant ∙ find_step c.args.name.now c.args.files.now c.loop-i.i c.index-files-i.result inside
    ∙ cond-false _ _ _ differs
