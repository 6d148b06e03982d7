use Rattle.log_head.proofs.EncodeLemmas.{pushed}
use Rattle.log_head.proofs.encode.push_identity.Goals as goal

pub returns-clause-fields : goal.returns-clause-fields
returns-clause-fields c =
    pushed c.args.fields.now.items c.push_u64.new.fields.items c.push_u64-3.new.fields.items _ _
    c.push_u64.ensures.fields
    (pushed c.push_u64.new.fields.items c.push_u64-2.new.fields.items c.push_u64-3.new.fields.items _ _
    c.push_u64-2.ensures.fields c.push_u64-3.ensures.fields)
