use Rattle.std.proofs.Common.{drop, length, sym, ◌∙◌, ap, subst, Some}
use Rattle.std.proofs.lemmas.Slice.Eq.{bytes_eq-Decides}
use Rattle.wire_frames.specs.Frames.{head_bytes}
use Rattle.wire_proto.specs.Decoding.{AreWhole, IsReplyFrame, rows}
use Rattle.wire_proto.proofs.DecodeLemmas.{decoded_rows, rows_framed, head_told}
use Rattle.wire_proto.proofs.decoding.rows_in.Goals as goal

pub returns-then-not-are_whole-clause-only : goal.returns-then-not-are_whole-clause-only
returns-then-not-are_whole-clause-only c = λ r h.
    let t = decoded_rows c.args.bytes.now r h c.requires.kind in
    let yes = c.are_whole.ensures.1 (subst AreWhole (sym c.split_at.ensures.back) t.1) in
    let no = c.if-not-are_whole.true in absurd (cc)

pub returns-then-eq-clause-some : goal.returns-then-eq-clause-some
returns-then-eq-clause-some c =
    let back = c.split_at.ensures.back in
    let same = (bytes_eq-Decides _ _).0 (sym c.eq.ensures ∙ c.if-eq.true) in
    let head = sym c.split_at.ensures.front ∙ same ∙ c.as_slice.ensures.value ∙ c.rows_head.ensures ∙
    ap (head_bytes 137) (ap length back) in
    subst (λ b. IsReplyFrame c.args.bytes.now (rows b)) (sym back)
    (rows_framed c.args.bytes.now (subst AreWhole back (c.are_whole.ensures.0 c.if-not-are_whole.false)) head)

pub returns-then-eq-clause-only : goal.returns-then-eq-clause-only
returns-then-eq-clause-only c = λ r h.
    let t = decoded_rows c.args.bytes.now r h c.requires.kind in
    ap (λ v. Some v) (ap rows c.split_at.ensures.back ∙ sym t.0)

pub returns-else-eq-clause-only : goal.returns-else-eq-clause-only
returns-else-eq-clause-only c = λ r h.
    let size = ap length c.split_at.ensures.back in
    let head = c.split_at.ensures.front ∙ head_told c.args.bytes.now r h ∙
    ap (λ k. head_bytes k (length (drop 5 c.args.bytes.now))) c.requires.kind ∙ sym (ap (head_bytes 137) size) ∙ sym c.rows_head.ensures ∙
    sym c.as_slice.ensures.value in
    let yes = c.eq.ensures ∙ (bytes_eq-Decides _ _).1 head in
    let no = c.if-eq.false in absurd (cc)
