use Rattle.std.proofs.Common.{◌∙◌, List, ℕ, length, ap, sym, arith}
use Rattle.std.specs.Int.{w32, to_be_bytes}
use Rattle.log_head.proofs.EncodeLemmas.{page_put}
use Rattle.log_head.proofs.encode.encode_head.Goals as goal

pub returns : goal.returns
returns c =
    let front = c.copy_from_slice.new.self in
    let fields = c.fields_of-fields in
    page_put c.args.head.now front c.copy_from_slice-2.new.self c.len.result
    (c.copy_from_slice.ensures.after ∙ c.deref.ensures.0 ∙ fields.ensures.fields)
    (ap (λ (l : List ℕ). length l) (c.copy_from_slice.ensures.after ∙ c.deref.ensures.0) ∙ sym c.len.ensures.value)
    (c.len.ensures.value ∙ fields.ensures.length) fields.ensures.few
    (c.copy_from_slice-2.ensures.after ∙ c.to_be_bytes.ensures
    ∙ ap (λ (x : ℕ). to_be_bytes w32 x) c.crc32c-check.ensures)
