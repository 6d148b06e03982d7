-- What was accepted under one setup, under another that allows more.
--     FitsIn from to      matrices of the first setup's dimensions fit into those of the second: no more rows or columns
--     LiesIn s b          so the batch's matrix fits into the setup's; AllLieIn: so for each batch of a list
--     AllowsNoLess s t    the second allows no smaller total and no fewer batches
--     widened s b         the same batch in a matrix of the setup's dimensions
--     all_widened s list  so each batch of a list
--     grown_to s v        the same list: the same clients, numbers and counts, in matrices of the setup's dimensions
--     IsRoomFor to from a what was accepted under `from` is accepted under `to`
--     IsBelow m has given the number of a misfit has this, and less was given
--     IsDimMisfit from to m
--                         the second setup has fewer rows than the first, or no fewer rows and fewer columns
--     IsGrowthMisfit from to a m
--                         or neither, and its limit is below the accepted total; or that neither, and there are more
--                         batches than its most
--     RefusesGrowth to from a f
--                         by cases: why it isn't accepted
--     given_over g f      each number that was given, and else that of the second setup
--     with_dims v f       a setup with the rows and columns of another
use Rattle.std.specs.Prelude.{◌≡◌, ◌⊎◌, ℕ, ◌<◌, ◌≤◌, List, map, slice_get, Some, if◌then◌else◌}
use Rattle.hyper_matrix.specs.Matrix.{matrix}
use Rattle.batch_store.specs.Setups.{Setting, setting}
use Rattle.batch_store.specs.Batches.{Submission, submission}
use Rattle.batch_store.specs.Accepted.{Accepted, count_in, total_in}
use Rattle.batch_store.specs.Books.{Listing, listing}
use Rattle.batch_store.specs.declared.fault.GrowthFault.{GrowthFault}
use Rattle.batch_store.specs.declared.fault.GrowthFault.TheVariants.{TooSmall, Memory}
use Rattle.batch_store.specs.declared.given_numbers.GivenNumbers.{GivenNumbers}
use Rattle.batch_store.specs.declared.misfit.Misfit.{Misfit}
use Rattle.batch_store.specs.declared.misfit.Number.TheVariants.{Rows, Cols, Limit, MaxBatches}

pub record FitsIn (from to : Setting) : Type 0 where
  pub rows : from.rows ≤ to.rows
  pub cols : from.cols ≤ to.cols

abbrev pub LiesIn : Setting → Submission → Type 0
LiesIn s b = (b.matrix.rows ≤ s.rows) × (b.matrix.cols ≤ s.cols)

abbrev pub AllLieIn : Setting → List Submission → Type 0
AllLieIn s list = (i : ℕ) (b : Submission) → slice_get list i ≡ Some b → LiesIn s b

pub record AllowsNoLess (s t : Setting) : Type 0 where
  pub limit : s.limit ≤ t.limit
  pub batches : s.max_batches ≤ t.max_batches

abbrev pub widened : Setting → Submission → Submission
widened s b = submission b.client b.number (matrix s.rows s.cols b.matrix.counts)

abbrev pub all_widened : Setting → List Submission → List Submission
all_widened s list = map (widened s) list

abbrev pub grown_to : Setting → Listing → Listing
grown_to s v = listing (matrix s.rows s.cols v.base.counts) v.folded (all_widened s v.list)

pub record IsRoomFor (to from : Setting) (a : Accepted) : Type 0 where
  pub fits : FitsIn from to
  pub within : total_in a ≤ to.limit
  pub few : count_in a ≤ to.max_batches

pub record IsBelow (m : Misfit) (has given : ℕ) : Type 0 where
  pub has_is : m.has ≡ has
  pub given_is : m.given ≡ given
  pub below : given < has

abbrev pub IsDimMisfit : Setting → Setting → Misfit → Type 0
IsDimMisfit from to m =
    ((m.number ≡ Rows) × IsBelow m from.rows to.rows)
    ⊎ ((from.rows ≤ to.rows) × (m.number ≡ Cols) × IsBelow m from.cols to.cols)

abbrev pub IsLimitMisfit : Setting → Accepted → Misfit → Type 0
IsLimitMisfit to a m =
    ((m.number ≡ Limit) × IsBelow m (total_in a) to.limit)
    ⊎ ((total_in a ≤ to.limit) × (m.number ≡ MaxBatches) × IsBelow m (count_in a) to.max_batches)

abbrev pub IsGrowthMisfit : Setting → Setting → Accepted → Misfit → Type 0
IsGrowthMisfit from to a m = IsDimMisfit from to m ⊎ (FitsIn from to × IsLimitMisfit to a m)

abbrev pub RefusesGrowth : Setting → Setting → Accepted → GrowthFault → Type 0
RefusesGrowth to from a (TooSmall m) = IsGrowthMisfit from to a m
RefusesGrowth to from a Memory = IsRoomFor to from a

abbrev pub given_over : GivenNumbers → Setting → Setting
given_over g f = setting (if g.rows then g.setup.rows else f.rows) (if g.cols then g.setup.cols else f.cols)
    (if g.cuts then g.setup.cuts else f.cuts) (if g.shards then g.setup.shards else f.shards)
    (if g.limit then g.setup.limit else f.limit) (if g.max_batches then g.setup.max_batches else f.max_batches)

abbrev pub with_dims : Setting → Setting → Setting
with_dims v f = setting f.rows f.cols v.cuts v.shards v.limit v.max_batches
