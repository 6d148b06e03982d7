use Rattle.std.proofs.Common.{◌≡◌, ℕ, [], subst, rules, arith}
use Rattle.log_blocks.specs.Files.{pages_of, page_count}
use Rattle.log_blocks.specs.Scanning.{IsScanned}
use Rattle.log_blocks.proofs.ScanLemmas.{none_taken_of, scanned_all, taken_step, file_fault}
use Rattle.log_blocks.proofs.file.find_blocks.Goals as goal

pub loop-i-init : goal.loop-i-init
loop-i-init c = record {
  long = search rules;
  bounded = c.new-scan.ensures.bounded;
  counted = search rules;
  taken = ([], ([], none_taken_of c.args.first c.new-scan.result c.args.bytes.now c.new-scan.ensures.taken));
}

pub loop-i-preserved : goal.loop-i-preserved
loop-i-preserved c =
    let s = c.take_page.new.self in
    let file = c.args.bytes.now in
    let p = c.copy_page.new.page in
    let has = c.loop-i.invariant.taken in
    let more = c.in-Ok.ensures.ok c.args.first has.0 has.1.0 (pages_of 0 c.loop-i.i file) has.1.1 in
    record {
      long = search rules;
      bounded = c.in-Ok.ensures.bounded;
      counted = omega (arith, c.in-Ok.ensures.pages, c.loop-i.invariant.counted);
      taken = (_, (_, taken_step c.args.first s _ _ c.loop-i.i file p c.copy_page.ensures more));
    }

pub returns-in-Err-clause-err : goal.returns-in-Err-clause-err
returns-in-Err-clause-err c =
    let file = c.args.bytes.now in
    let has = c.loop-i.invariant.taken in
    file_fault c.args.first c.loop-i.i file c.copy_page.new.page c.in-Err.fault (search rules) c.copy_page.ensures
    (λ rest. c.in-Err.ensures.err c.args.first has.0 has.1.0 (pages_of 0 c.loop-i.i file) rest has.1.1)

pub returns-clause-ok : goal.returns-clause-ok
returns-clause-ok c =
    let s = c.loop-i.scan in
    let file = c.args.bytes.now in
    let has = c.loop-i.invariant.taken in
    let all : c.loop-i.i ≡ page_count file = omega arith in
    let P : ℕ → Type 0 = λ n. IsScanned c.args.first (pages_of 0 n file) s has.0 in
    (has.0, subst P all (scanned_all c.args.first s has.0 has.1.0 (pages_of 0 c.loop-i.i file) has.1.1))
