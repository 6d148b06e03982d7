use Rattle.std.proofs.lemmas.Result.{on_ok_weaker, on_err_weaker, IfErr-weaker}
use Rattle.mm_text.proofs.TextReaderLemmas.{finishes, shows_end, first_end}
use Rattle.mm_text.proofs.text_reader.TextReader.finish.Goals as goal

pub returns-clause-ok : goal.returns-clause-ok
returns-clause-ok c = on_ok_weaker c.end_text.result
    (λ t. finishes c.args.self.now _ c.args.block.now.items c.end_text.new.block.items c.requires.empty c.requires.room
    t) c.end_text.ensures.ok

pub returns-clause-err : goal.returns-clause-err
returns-clause-err c = IfErr-weaker c.end_text.result _ _
    (λ f h. shows_end c.args.self.now f.kind f.line c.requires.empty c.requires.room h) c.end_text.ensures.err

pub returns-clause-kept : goal.returns-clause-kept
returns-clause-kept c = on_err_weaker c.end_text.result
    (λ t. first_end c.args.self.now c.args.block.now.items c.end_text.new.block.items c.requires.empty c.requires.room
    t) c.end_text.ensures.kept
