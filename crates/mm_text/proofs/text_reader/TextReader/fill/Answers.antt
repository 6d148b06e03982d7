use Rattle.std.proofs.Common.{ap, arith, refl, take, ◌++◌, ◌∙◌}
use Rattle.mm_text.proofs.TextReaderLemmas.{fills, shows_failure}
use Rattle.mm_text.proofs.text_reader.TextReader.fill.Goals as goal

pub returns-in-Err-clause-err : goal.returns-in-Err-clause-err
returns-in-Err-clause-err g c = (
  c.fault_here.ensures.kind,
  (c.in-Err.field-0, c.in-Err.ensures.err),
  shows_failure c.args.self.now _ c.requires.empty c.requires.room c.fault_here.ensures.line,
)

pub returns-in-Ok-clause-ok : goal.returns-in-Ok-clause-ok
returns-in-Ok-clause-ok g c =
    let f = c.in-Ok.ensures.ok in
    let m = c.bytes_within.result in
    fills {S = g.row.R.Denot} g.R.Source.read_gives c.args.r.now _ c.args.self.now _ c.in-Ok.n m f.bytes f.gave f.count
    (c.truncate.ensures ∙ ap (take m) (f.pending_is ∙ ap (λ l. l ++ f.bytes) c.requires.empty)) refl refl refl
    c.requires.empty c.requires.room (omega (arith, c.in-Ok.ensures.most, c.bytes_wanted.ensures.room))
    c.bytes_within.ensures.all c.bytes_within.ensures.last
