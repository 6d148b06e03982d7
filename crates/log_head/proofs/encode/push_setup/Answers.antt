use Rattle.std.proofs.Common.{◌∙◌, List, ℕ, length, ap, arith}
use Rattle.log_head.proofs.EncodeLemmas.{setup_pushed}
use Rattle.log_head.proofs.encode.push_setup.Goals as goal

pub returns-clause-fields : goal.returns-clause-fields
returns-clause-fields c =
    setup_pushed c.args.setup.now c.args.fields.now.items c.push_u64.new.fields.items c.push_u64-2.new.fields.items
    c.push_u8.new.fields.items c.push_cuts.new.fields.items c.push_u8-2.new.fields.items c.push_u64-3.new.fields.items
    c.push_u64-4.new.fields.items _ _ _ _ _ _ _ c.rows.ensures.value c.cols.ensures.value
    (ap (λ (l : List ℕ). length l) c.cuts-cuts.ensures.value) c.cuts-cuts.ensures.value c.shards-shards.ensures.value
    c.limit.ensures.value c.max_batches.ensures.value c.push_u64.ensures.fields c.push_u64-2.ensures.fields
    c.push_u8.ensures.fields c.push_cuts.ensures.fields c.push_u8-2.ensures.fields c.push_u64-3.ensures.fields
    c.push_u64-4.ensures.fields
