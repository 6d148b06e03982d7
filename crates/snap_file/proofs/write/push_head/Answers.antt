use Rattle.snap_file.proofs.WriteLemmas.{summed_more}
use Rattle.snap_file.proofs.write.push_head.Goals as goal

pub returns-clause-summed : goal.returns-clause-summed
returns-clause-summed c = λ r h.
    summed_more r _ _ c.push_u64-6.new.self.pending _ _ c.push_u64-7.ensures.pending c.push_u64-7.ensures.remainder
    (summed_more r _ _ c.push_u64-5.new.self.pending _ _ c.push_u64-6.ensures.pending c.push_u64-6.ensures.remainder
    (summed_more r _ _ c.push_u64-4.new.self.pending _ _ c.push_u64-5.ensures.pending c.push_u64-5.ensures.remainder
    (summed_more r _ _ c.push_u8-2.new.self.pending _ _ c.push_u64-4.ensures.pending c.push_u64-4.ensures.remainder
    (summed_more r _ _ c.push_cuts.new.writer.pending _ _ c.push_u8-2.ensures.pending c.push_u8-2.ensures.remainder
    (c.push_cuts.ensures.summed r
    (summed_more r _ _ c.push_u64-3.new.self.pending _ _ c.push_u8.ensures.pending c.push_u8.ensures.remainder
    (summed_more r _ _ c.push_u64-2.new.self.pending _ _ c.push_u64-3.ensures.pending c.push_u64-3.ensures.remainder
    (summed_more r _ _ c.push_u32.new.self.pending _ _ c.push_u64-2.ensures.pending c.push_u64-2.ensures.remainder
    (summed_more r _ _ c.push_u64.new.self.pending _ _ c.push_u32.ensures.pending c.push_u32.ensures.remainder
    (summed_more r _ _ c.args.writer.now.pending _ _ c.push_u64.ensures.pending c.push_u64.ensures.remainder h))))))))))
