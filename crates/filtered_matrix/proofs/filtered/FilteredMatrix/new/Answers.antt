use Rattle.std.proofs.Common.{sym, ◌∙◌, ap, length}
use Rattle.std.proofs.lemmas.Bool.{false≢true}
use Rattle.filtered_matrix.proofs.FilterLaws.{all_pass}
use Rattle.filtered_matrix.proofs.filtered.FilteredMatrix.new.Goals as goal

pub invariant_of-result : goal.invariant_of-result
invariant_of-result c p h = absurd (false≢true (sym h ∙ all_pass c.none.result p (ap length c.none.ensures)))
