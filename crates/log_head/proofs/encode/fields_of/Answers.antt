use Rattle.std.proofs.Common.{refl}
use Rattle.log_head.proofs.EncodeLemmas.{fields_pushed}
use Rattle.log_head.proofs.encode.fields_of.Goals as goal

pub returns-clause-fields : goal.returns-clause-fields
returns-clause-fields c =
    fields_pushed c.args.head.now c.new-fields.result.items c.push_u64.new.fields.items c.push_u32.new.fields.items
    c.push_setup.new.fields.items c.push_u64-2.new.fields.items c.push_u64-3.new.fields.items
    c.push_u32-2.new.fields.items c.push_identity.new.fields.items c.new-fields.ensures c.push_u64.ensures.fields c.push_u32.ensures.fields
    c.push_setup.ensures.fields c.push_u64-2.ensures.fields c.push_u64-3.ensures.fields c.push_u32-2.ensures.fields c.push_identity.ensures.fields
