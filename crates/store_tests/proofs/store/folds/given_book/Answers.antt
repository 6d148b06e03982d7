use Rattle.std.proofs.Common.{◌≡◌, false, List, [], ◌∷◌, refl, ap, ◌∙◌}
use Rattle.std.proofs.lemmas.Result.{IfOk-at_ok}
use Rattle.std.specs.List.{IsDistinct}
use Rattle.cells.specs.declared.cell.Cell.{Cell}
use Rattle.hyper_matrix.specs.Counts.{total}
use Rattle.hyper_matrix.specs.Matrix.{Matrix}
use Rattle.hyper_matrix.proofs.BuiltOfLaws.{total-built_of}
use Rattle.batch_store.specs.declared.verdict.Entry.{Entry}
use Rattle.batch_store.specs.Verdicts.{same_pair}
use Rattle.store_tests.proofs.store.folds.given_book.Goals as goal

-- two entries of different pairs
two_distinct : (a b : Entry) → same_pair a b ≡ false → IsDistinct same_pair (a ∷ b ∷ [])
unfolding IsDistinct
two_distinct a b apart = ((apart, tt), (tt, tt))

pub with_folded-requires-clause-accepted : goal.with_folded-requires-clause-accepted
with_folded-requires-clause-accepted g c =
    let cells : List Cell = record { row = 0; col = 0; count = 8 } ∷ [] in record {
      sound = c.rows.ensures.kept;
      distinct = two_distinct _ _ refl;
      dims = tt;
      few = c.requires.few;
      within = c.requires.within;
      based = record {
        adds_up = ap (λ (m : Matrix). total m.counts) (IfOk-at_ok _ c.expect-base.ensures c.one.ensures
            ∙ IfOk-at_ok _ c.expect-m.ensures c.build.ensures.ok)
            ∙ total-built_of cells;
        none = λ h. cc;
      };
    }
