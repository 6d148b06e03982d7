-- The sum of a matrix and of batches of which some are added and some are listed.
use Rattle.std.proofs.Common.{◌≡◌, List, [], ◌++◌, map, refl, sym, ap, ◌∙◌}
use Rattle.std.specs.FinMap.{empty, entries}
use Rattle.cells.specs.declared.cell.Cell.{Cell}
use Rattle.hyper_matrix.specs.Cells.{entry_of, built_of}
use Rattle.hyper_matrix.specs.Counts.{Counts, built, ewise_add}
use Rattle.hyper_matrix.proofs.CountLaws.{ewise_add_assoc, built-append}
use Rattle.hyper_matrix.proofs.PartLaws.{built-entries}

pub built-none : built_of [] ≡ empty
unfolding built
built-none = refl

-- the cells of one more are listed
pub listed_more : (sum base done m : Counts) (old new : List Cell) → map entry_of new ≡ map entry_of old ++ entries m →
    ewise_add sum (built_of old) ≡ ewise_add base done → ewise_add sum (built_of new) ≡ ewise_add base (ewise_add done m)
listed_more sum base done m old new listed told =
    ap (ewise_add sum) (ap built listed ∙ built-append (map entry_of old) (entries m)
    ∙ ap (ewise_add (built_of old)) (built-entries m))
    ∙ sym (ewise_add_assoc sum (built_of old) m)
    ∙ ap (λ n. ewise_add n m) told
    ∙ ewise_add_assoc base done m
