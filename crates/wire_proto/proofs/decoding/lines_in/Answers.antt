use Rattle.std.proofs.Common.{drop, length, sym, ◌∙◌, ap, subst, arith, Some}
use Rattle.std.proofs.lemmas.Slice.Eq.{bytes_eq-Decides}
use Rattle.wire_frames.specs.Frames.{head_bytes}
use Rattle.wire_proto.specs.Decoding.{IsReplyFrame, stats}
use Rattle.wire_proto.proofs.DecodeLemmas.{decoded_lines, lines_framed, head_told}
use Rattle.wire_proto.proofs.decoding.lines_in.Goals as goal

pub returns-then-body-clause-only : goal.returns-then-body-clause-only
returns-then-body-clause-only c = λ r h.
    let t = decoded_lines c.args.bytes.now r h c.requires.kind in
    let body = ap length c.split_at.ensures.back in
    let short = t.1 in absurd (omega (arith, short, body, c.if-body.true))

pub returns-then-eq-clause-some : goal.returns-then-eq-clause-some
returns-then-eq-clause-some c =
    let back = c.split_at.ensures.back in
    let size = ap length back in
    let same = (bytes_eq-Decides _ _).0 (sym c.eq.ensures ∙ c.if-eq.true) in
    let head = sym c.split_at.ensures.front ∙ same ∙ c.as_slice.ensures.value ∙ c.lines_head.ensures ∙
    ap (head_bytes 138) size in
    subst (λ b. IsReplyFrame c.args.bytes.now (stats b)) (sym back)
    (lines_framed c.args.bytes.now (omega (arith, size, c.if-body.false)) head)

pub returns-then-eq-clause-only : goal.returns-then-eq-clause-only
returns-then-eq-clause-only c = λ r h.
    let t = decoded_lines c.args.bytes.now r h c.requires.kind in
    ap (λ v. Some v) (ap stats c.split_at.ensures.back ∙ sym t.0)

pub returns-else-eq-clause-only : goal.returns-else-eq-clause-only
returns-else-eq-clause-only c = λ r h.
    let size = ap length c.split_at.ensures.back in
    let head = c.split_at.ensures.front ∙ head_told c.args.bytes.now r h ∙
    ap (λ k. head_bytes k (length (drop 5 c.args.bytes.now))) c.requires.kind ∙ sym (ap (head_bytes 138) size) ∙ sym c.lines_head.ensures ∙
    sym c.as_slice.ensures.value in
    let yes = c.eq.ensures ∙ (bytes_eq-Decides _ _).1 head in
    let no = c.if-eq.false in absurd (cc)
