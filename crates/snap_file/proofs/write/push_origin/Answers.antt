use Rattle.snap_file.proofs.WriteLemmas.{summed_more}
use Rattle.snap_file.proofs.write.push_origin.Goals as goal

pub returns-clause-summed : goal.returns-clause-summed
returns-clause-summed c = λ r h.
    summed_more r _ _ c.push_u64-3.new.self.pending _ _ c.push_u8.ensures.pending c.push_u8.ensures.remainder
    (summed_more r _ _ c.push_u64-2.new.self.pending _ _ c.push_u64-3.ensures.pending c.push_u64-3.ensures.remainder
    (summed_more r _ _ c.push_u64.new.self.pending _ _ c.push_u64-2.ensures.pending c.push_u64-2.ensures.remainder
    (summed_more r _ _ c.args.writer.now.pending _ _ c.push_u64.ensures.pending c.push_u64.ensures.remainder h)))
