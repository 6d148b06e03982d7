use Rattle.std.proofs.Common.{length, sym, ◌∙◌, ap, arith, Some}
use Rattle.std.proofs.lemmas.Slice.Eq.{bytes_eq-Decides}
use Rattle.wire_frames.specs.Frames.{head_kind}
use Rattle.wire_proto.specs.Decoding.{reply_frame, short_fits, body_says}
use Rattle.wire_proto.proofs.DecodeLemmas.{frame_long, decoded_fits, decoded_says}
use Rattle.wire_proto.proofs.decoding.decode_reply.Goals as goal

pub returns-then-bytes-lt-HEAD-clause-only : goal.returns-then-bytes-lt-HEAD-clause-only
returns-then-bytes-lt-HEAD-clause-only c = λ r h.
    let long = frame_long c.args.bytes.now r h in absurd (omega (arith, long, c.if-bytes-lt-HEAD.true))

pub text_in-requires-clause-kind : goal.text_in-requires-clause-kind
unfolding head_kind
text_in-requires-clause-kind c = c.if-kind.true

pub returns-then-not-fits-clause-only : goal.returns-then-not-fits-clause-only
unfolding head_kind
returns-then-not-fits-clause-only c = λ r h.
    let yes = c.fits.ensures ∙ ap (short_fits _) (ap length c.split_at.ensures.back) ∙
    decoded_fits c.args.bytes.now r h
    (record { no_text = c.if-kind.false; no_cells = c.if-kind-2.false; no_rows = c.if-kind-3.false; no_lines = c.if-kind-4.false }) in
    let no = c.if-not-fits.true in absurd (cc)

pub returns-then-eq-clause-only : goal.returns-then-eq-clause-only
unfolding head_kind
returns-then-eq-clause-only c = λ r h.
    ap (λ v. Some v) (c.open-encoded.ensures.says ∙ ap (body_says _) c.split_at.ensures.back ∙
    decoded_says c.args.bytes.now r h
    (record { no_text = c.if-kind.false; no_cells = c.if-kind-2.false; no_rows = c.if-kind-3.false; no_lines = c.if-kind-4.false }))

pub returns-else-eq-clause-only : goal.returns-else-eq-clause-only
unfolding head_kind
returns-else-eq-clause-only c = λ r h.
    let says = c.open-encoded.ensures.says ∙ ap (body_says _) c.split_at.ensures.back ∙
    decoded_says c.args.bytes.now r h
    (record { no_text = c.if-kind.false; no_cells = c.if-kind-2.false; no_rows = c.if-kind-3.false; no_lines = c.if-kind-4.false }) in
    let same = c.as_slice.ensures.value ∙ c.open-encoded.ensures.encoded ∙ ap reply_frame says ∙ sym h.spelled in
    let yes = c.eq.ensures ∙ (bytes_eq-Decides _ _).1 same in
    let no = c.if-eq.false in absurd (cc)

pub cells_in-requires-clause-kind : goal.cells_in-requires-clause-kind
unfolding head_kind
cells_in-requires-clause-kind c = c.if-kind-2.true

pub rows_in-requires-clause-kind : goal.rows_in-requires-clause-kind
unfolding head_kind
rows_in-requires-clause-kind c = c.if-kind-3.true

pub lines_in-requires-clause-kind : goal.lines_in-requires-clause-kind
unfolding head_kind
lines_in-requires-clause-kind c = c.if-kind-4.true
