use Rattle.std.proofs.Common.{length, sym, ◌∙◌, ap, subst, arith, Some}
use Rattle.std.proofs.lemmas.Slice.Eq.{bytes_eq-Decides}
use Rattle.wire_frames.specs.Frames.{head_bytes}
use Rattle.wire_proto.specs.Decoding.{IsReplyFrame, text}
use Rattle.wire_proto.proofs.DecodeLemmas.{decoded_text, text_short, text_head_is, text_frame}
use Rattle.wire_proto.proofs.decoding.text_in.Goals as goal

pub returns-then-body-clause-only : goal.returns-then-body-clause-only
returns-then-body-clause-only c = λ r h.
    let short = text_short c.args.bytes.now r h c.requires.kind in
    let body = ap length c.split_at.ensures.back in absurd (omega (arith, short, body, c.if-body.true))

pub returns-then-eq-clause-some : goal.returns-then-eq-clause-some
returns-then-eq-clause-some c =
    let body = c.split_at.ensures.back in
    let size = ap length body in
    let same = (bytes_eq-Decides _ _).0 (sym c.eq.ensures ∙ c.if-eq.true) in
    let head = sym c.split_at.ensures.front ∙ same ∙ c.as_slice.ensures.value ∙ c.text_head.ensures ∙
    ap (head_bytes 133) size in
    subst (λ b. IsReplyFrame c.args.bytes.now (text b)) (sym body)
    (text_frame c.args.bytes.now c.requires.long (omega (arith, size, c.if-body.false)) head)

pub returns-then-eq-clause-only : goal.returns-then-eq-clause-only
returns-then-eq-clause-only c = λ r h. ap (λ v. Some v) (ap text c.split_at.ensures.back ∙
    sym (decoded_text c.args.bytes.now r h c.requires.kind))

pub returns-else-eq-clause-only : goal.returns-else-eq-clause-only
returns-else-eq-clause-only c = λ r h.
    let size = ap length c.split_at.ensures.back in
    let head = c.split_at.ensures.front ∙ text_head_is c.args.bytes.now r h c.requires.kind ∙
    sym (ap (head_bytes 133) size)
    ∙ sym c.text_head.ensures ∙ sym c.as_slice.ensures.value in
    let yes = c.eq.ensures ∙ (bytes_eq-Decides _ _).1 head in
    let no = c.if-eq.false in absurd (cc)
