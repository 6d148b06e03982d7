use Rattle.std.proofs.Common.{rules, arith}
use Rattle.std.proofs.lemmas.Grind.{common_steps}
use Rattle.snap_file.proofs.WriteLemmas.{summed_more}
use Rattle.snap_file.proofs.write.push_cuts.Goals as goal

pub loop-cut-preserved : goal.loop-cut-preserved
loop-cut-preserved c = record {
  taken = search rules;
  pending = first_of (search rules, grind (arith, common_steps));
  count = first_of (search rules, grind (arith, common_steps));
  summed = λ r h. summed_more r _ _ c.loop-cut.writer.pending _ _ c.push_u64.ensures.pending
      c.push_u64.ensures.remainder
      (c.loop-cut.invariant.summed r h);
}
