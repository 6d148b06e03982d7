use Rattle.std.proofs.Common.{arith, sym, ◌∙◌, length-drop}
use Rattle.std.proofs.lemmas.List.{take_all}
use Rattle.mm_text.proofs.EntryLemmas.{begins_with_index}
use Rattle.mm_text.proofs.plain.plain_index.Goals as goal

pub returns-then-is_blank_byte : goal.returns-then-is_blank_byte
returns-then-is_blank_byte c =
    let some = c.in-len1-up.len_at_least in
    begins_with_index c.args.limit c.args.bytes.now c.plain_number-n.result.1.now _ c.plain_number-n.result.0
    c.plain_number-n.ensures
    (omega arith) (omega arith) (omega arith) (sym c.is_blank_byte.ensures ∙ c.if-is_blank_byte.true)
    (take_all _ _ (omega (arith, length-drop 1 c.plain_number-n.result.1.now)))
