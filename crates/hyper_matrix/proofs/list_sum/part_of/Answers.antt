use Rattle.std.proofs.Common.{arith}
use Rattle.std.proofs.lemmas.List.{length-map}
use Rattle.hyper_matrix.proofs.ListSumLaws.{lists_at, only_sum, sum_of_several}
use Rattle.hyper_matrix.proofs.list_sum.part_of.Goals as goal

pub returns-in_default-2 : goal.returns-in_default-2
returns-in_default-2 c = sum_of_several c.args.made.now (lists_at c.args.lists.now)
    (λ one. omega (arith, one, c.in_default.len_at_least, length-map c.args.lists.now (λ list. list.now)))
    c.requires.made

pub returns-in-len1 : goal.returns-in-len1
returns-in-len1 c = only_sum c.args.lists.now _ (omega (arith, c.in-len1.len_at_least, c.in-len1.len_below))
    c.requires.rise
