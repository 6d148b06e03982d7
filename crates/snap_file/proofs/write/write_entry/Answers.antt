use Rattle.snap_file.proofs.WriteLemmas.{writing_more}
use Rattle.snap_file.proofs.write.write_entry.Goals as goal

pub returns-clause-ok : goal.returns-clause-ok
returns-clause-ok g c = λ s all left h.
    writing_more _ _ s _ all _ _ left c.push_u64-3.new.self c.push_u64-4.new.self
    (writing_more _ _ s _ all _ _ left c.push_u64-2.new.self c.push_u64-3.new.self
    (writing_more _ _ s _ all _ _ left c.push_u64.new.self c.push_u64-2.new.self
    (writing_more _ _ s _ all _ _ left c.make_room.new.self c.push_u64.new.self (c.in_ok-make_room.ensures.ok s all _ h)
    c.push_u64.ensures.taken c.push_u64.ensures.pending c.push_u64.ensures.remainder)
    c.push_u64-2.ensures.taken c.push_u64-2.ensures.pending c.push_u64-2.ensures.remainder)
    c.push_u64-3.ensures.taken c.push_u64-3.ensures.pending c.push_u64-3.ensures.remainder)
    c.push_u64-4.ensures.taken c.push_u64-4.ensures.pending c.push_u64-4.ensures.remainder
