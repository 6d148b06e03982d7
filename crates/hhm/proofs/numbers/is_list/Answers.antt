use Rattle.std.proofs.Common.{rules, lit<}
use Rattle.std.proofs.lemmas.Iterator.Search.{all_from_yields_List}
use Rattle.std.proofs.lemmas.Iterator.Splits.{YieldsList-from_str_split}
use Rattle.hhm.specs.Options.{writes_number}
use Rattle.hhm.proofs.numbers.is_list.Goals as goal

pub returns : goal.returns
returns c = all_from_yields_List writes_number _ _ _ c.all.ensures.ran
    (YieldsList-from_str_split 44 c.args.word.now (lit< tt) c.split.ensures.text c.split.ensures.has_more
    c.split.ensures.pattern) (λ x b q k. search rules)
