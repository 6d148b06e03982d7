use Rattle.std.proofs.Common.{◌≤◌, length, ap, refl, ◌∙◌, arith}
use Rattle.std.proofs.lemmas.List.{drop_all}
use Rattle.mm_text.proofs.TextReaderLemmas.{has_read_none}
use Rattle.mm_text.proofs.text_reader.TextReader.restarted.Goals as goal

pub returns : goal.returns
returns c =
    let most : length c.args.self.buffer ≤ length c.pending-waiting.result.now =
    omega (arith, ap length c.pending-waiting.ensures.value) in
    has_read_none c.args.limits _ refl
    (c.consume.ensures ∙ drop_all (length c.pending-waiting.result.now) c.args.self.buffer most)
    c.restarted.ensures.carry c.restarted.ensures.stage c.restarted.ensures.lines refl
