use Rattle.std.proofs.Common.{arith, inl, refl, ap, sym, ◌∙◌, length, ◌++◌, ◌≡◌}
use Rattle.mm_text.specs.Lines.{content}
use Rattle.mm_text.proofs.CarryingLemmas.{carried_all, cut_long, cut_short}
use Rattle.mm_text.proofs.line_reader.LineReader.carry_on.Goals as goal

pub returns-then-content_of-gt-MAX_LINE-clause-err : goal.returns-then-content_of-gt-MAX_LINE-clause-err
returns-then-content_of-gt-MAX_LINE-clause-err c = λ rest is.
    let test = sym c.is_comment_here.ensures ∙ c.if-is_comment_here.false in
    let whole : c.carry_bytes.new.carry.items ≡ rest ++ c.args.bytes.now =
    c.if-not-carry_bytes.ensures.carried refl ∙ ap (λ f. f ++ c.args.bytes.now)
    (carried_all c.args.self.now.progress.lines rest c.args.self.now.carry.items c.args.bytes.now is test) in
    let content_is : length c.content_of.result.now ≡ length (content (rest ++ c.args.bytes.now)) =
    ap length (c.content_of.ensures ∙ ap content (c.as_slice.ensures.value ∙ whole)) in
    cut_long c.args.self.now.progress.lines rest c.args.self.now.carry.items c.args.bytes.now is test (omega arith)

pub returns-clause-ok : goal.returns-clause-ok
returns-clause-ok c = λ rest is.
    let test = sym c.is_comment_here.ensures ∙ c.if-is_comment_here.false in
    let whole : c.carry_bytes.new.carry.items ≡ rest ++ c.args.bytes.now =
    c.if-not-carry_bytes.ensures.carried refl ∙ ap (λ f. f ++ c.args.bytes.now)
    (carried_all c.args.self.now.progress.lines rest c.args.self.now.carry.items c.args.bytes.now is test) in
    let content_is : length c.content_of.result.now ≡ length (content (rest ++ c.args.bytes.now)) =
    ap length (c.content_of.ensures ∙ ap content (c.as_slice.ensures.value ∙ whole)) in (
      inl whole,
      cut_short c.args.self.now.progress.lines rest c.args.self.now.carry.items c.args.bytes.now is test
          (omega arith),
    )
