-- Want of memory is no fault of a list.
use Rattle.std.proofs.Common.{◌≡◌, ℕ, ◌+◌, ◌^◌, ◌&&◌, Bool, true, false, cond, ltb, List, [], ◌∷◌, Some}
use Rattle.cells.specs.declared.cell.Cell.{Cell}
use Rattle.hyper_matrix.specs.Refusals.{first_fault}
use Rattle.hyper_matrix.specs.declared.judge.BuildFault.TheVariants.{Memory, IndexOutOfRange, SumTooLarge}

-- want of memory is no fault of a list
pub no_memory_fault : (r c s : ℕ) (cells : List Cell) → first_fault r c s cells ≡ Some Memory → ⊥
no_memory_fault r c s [] e = cc
no_memory_fault r c s (x ∷ xs) e = step (no_memory_fault r c (s + x.count) xs) (ltb x.row r && ltb x.col c)
    (ltb (s + x.count) (2 ^ 64)) e
  where
    step : (first_fault r c (s + x.count) xs ≡ Some Memory → ⊥) → (a b : Bool) →
        cond a (cond b (first_fault r c (s + x.count) xs) (Some SumTooLarge)) (Some IndexOutOfRange) ≡ Some Memory → ⊥
    step rest true true e = rest e
    step rest true false e = cc
    step rest false b e = cc
