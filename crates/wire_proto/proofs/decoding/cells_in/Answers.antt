use Rattle.std.proofs.Common.{◌∷◌, drop, length, sym, ◌∙◌, ap, subst, arith, nat_eq, Some}
use Rattle.std.proofs.lemmas.Slice.Eq.{bytes_eq-Decides}
use Rattle.wire_frames.specs.Frames.{head_bytes}
use Rattle.wire_proto.specs.Decoding.{AreWhole, cells}
use Rattle.wire_proto.proofs.DecodeLemmas.{decoded_cells, cells_framed, head_told, byte_low, byte_again, byte_is}
use Rattle.wire_proto.proofs.DecodeLemmas.{same_first, same_rest}
use Rattle.wire_proto.proofs.decoding.cells_in.Goals.{then-mark-gt1-via-then-mark-gt1}
use Rattle.wire_proto.proofs.decoding.cells_in.Goals.{then-mark-gt1-via-else-mark-gt1+then-not-are_whole}
use Rattle.wire_proto.proofs.decoding.cells_in.Goals as goal

pub returns-in_default-clause-only : goal.returns-in_default-clause-only
returns-in_default-clause-only c = λ r h.
    let t = decoded_cells c.args.bytes.now r h c.requires.kind in
    let n = ap length (c.split_at.ensures.back ∙ t.body) in
    absurd (omega (arith, n, c.in_default.ensures.cases))

pub returns-then-mark-gt1-clause-only : goal.returns-then-mark-gt1-clause-only
returns-then-mark-gt1-clause-only c = λ r h.
    let t = decoded_cells c.args.bytes.now r h c.requires.kind in
    let e = sym c.in-Some.ensures.cases.0 ∙ c.split_at.ensures.back ∙ t.body in
    elim c.then-mark-gt1.branch [
      | then-mark-gt1-via-then-mark-gt1 w ↦
          absurd (omega (arith, same_first _ _ _ _ e, byte_low t.more, w.if-mark-gt1.true))
      | then-mark-gt1-via-else-mark-gt1+then-not-are_whole w ↦
          let yes = w.are_whole.ensures.1 (subst AreWhole (sym (same_rest _ _ _ _ e)) t.whole) in
          let no = w.if-not-are_whole.true in absurd (cc)
    ]

pub returns-then-eq-clause-some : goal.returns-then-eq-clause-some
returns-then-eq-clause-some c =
    let back = c.split_at.ensures.back in
    let same = (bytes_eq-Decides _ _).0 (sym c.eq.ensures ∙ c.if-eq.true) in
    let head = sym c.split_at.ensures.front ∙ same ∙ c.as_slice.ensures.value ∙ c.cells_head.ensures ∙
    ap (head_bytes 136) (ap length back) in
    let body = sym back ∙ c.in-Some.ensures.cases.0 ∙
    ap (λ m. m ∷ c.in-Some.cells.now) (byte_is c.in-Some.mark.now (omega (arith, c.if-mark-gt1.false))) in
    cells_framed c.args.bytes.now c.in-Some.cells.now (nat_eq c.in-Some.mark.now 1) body
    (c.are_whole.ensures.0 c.if-not-are_whole.false) head

pub returns-then-eq-clause-only : goal.returns-then-eq-clause-only
returns-then-eq-clause-only c = λ r h.
    let t = decoded_cells c.args.bytes.now r h c.requires.kind in
    let e = sym c.in-Some.ensures.cases.0 ∙ c.split_at.ensures.back ∙ t.body in
    ap (λ v. Some v) (ap (λ m. cells (nat_eq m 1) c.in-Some.cells.now) (same_first _ _ _ _ e) ∙
    ap (λ b. cells b c.in-Some.cells.now) (byte_again t.more) ∙ ap (cells t.more) (same_rest _ _ _ _ e) ∙ sym t.is)

pub returns-else-eq-clause-only : goal.returns-else-eq-clause-only
returns-else-eq-clause-only c = λ r h.
    let size = ap length c.split_at.ensures.back in
    let head = c.split_at.ensures.front ∙ head_told c.args.bytes.now r h ∙
    ap (λ k. head_bytes k (length (drop 5 c.args.bytes.now))) c.requires.kind ∙ sym (ap (head_bytes 136) size) ∙ sym c.cells_head.ensures ∙
    sym c.as_slice.ensures.value in
    let yes = c.eq.ensures ∙ (bytes_eq-Decides _ _).1 head in
    let no = c.if-eq.false in absurd (cc)
