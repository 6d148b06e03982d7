-- A list makes a batch, or has one first fault.
use Rattle.std.proofs.Common.{◌≡◌, ◌≢◌, ℕ, ◌+◌, ◌-◌, ◌^◌, ◌<◌, ◌≤◌, List, [], ◌∷◌, ◌⊎◌, inl, inr, Some, None, refl}
use Rattle.std.proofs.Common.{Bool, true, false, cond, ltb, ◌&&◌, Option, sym, ◌∙◌, ap, subst, arith, length, length-append, get_or}
use Rattle.std.proofs.lemmas.List.{get_or_append_left, get_or-append_right}
use Rattle.std.proofs.lemmas.Bool.{cases_lt}
use Rattle.std.proofs.lemmas.List.Elements.{All-get_or}
use Rattle.cells.specs.declared.cell.Cell.{Cell}
use Rattle.cells.specs.Bounds.{IsWithin}
use Rattle.hyper_matrix.specs.Refusals.{first_fault, LeavesDimensions, PassesLimit, MakesMatrix}
use Rattle.hyper_matrix.specs.declared.judge.BuildFault.{BuildFault}
use Rattle.hyper_matrix.specs.declared.judge.BuildFault.TheVariants.{Memory as NoMemory, IndexOutOfRange as Outside}
use Rattle.hyper_matrix.specs.declared.judge.BuildFault.TheVariants.{SumTooLarge as SumPasses}
use Rattle.hyper_matrix.proofs.RefusalLaws.{index_faults, sum_faults, no_faults}
use Rattle.batch_store.specs.Setups.{Setting}
use Rattle.batch_store.specs.Lists.{MakesBatch, LeavesAt, PassesSum, RefusesList}
use Rattle.batch_store.specs.declared.fault.CellsFault.{CellsFault}
use Rattle.batch_store.specs.declared.fault.CellsFault.TheVariants.{Memory, TooManyCells, IndexOutOfRange, SumTooLarge}

-- ---- the first cell outside
-- a cell before it lies within
pub before_within : (r c : ℕ) (cells : List Cell) (w : LeavesDimensions r c cells) (i : ℕ) (d : Cell) →
    i < length w.before → IsWithin r c (get_or cells i d)
before_within r c cells w i d h =
    let same : get_or cells i d ≡ get_or w.before i d = ap (λ (l : List Cell). get_or l i d) w.parts ∙
    get_or_append_left w.before (w.cell ∷ w.after) d i h in
    subst (IsWithin r c) (sym same) (All-get_or (IsWithin r c) w.before i d h w.well.within)

-- it stands behind those
pub stands_behind : (r c : ℕ) (cells : List Cell) (w : LeavesDimensions r c cells) (i : ℕ) (d : Cell) →
    i ≡ length w.before → get_or cells i d ≡ w.cell
stands_behind r c cells w i d h =
    ap (λ (l : List Cell). get_or l i d) w.parts ∙
    get_or-append_right w.before (w.cell ∷ w.after) (length w.before) i d refl (omega (arith, h)) ∙
    ap (λ n. get_or (w.cell ∷ w.after) n d) {x = i - length w.before} {y = 0} (omega (arith, h))

never_within : (r c : ℕ) (x : Cell) → (r ≤ x.row) ⊎ (c ≤ x.col) → IsWithin r c x → ⊥
never_within r c x (inl row) h = omega (arith, row, h.0)
never_within r c x (inr col) h = omega (arith, col, h.1)

pub inside_behind : (r c : ℕ) (cells : List Cell) (w : LeavesDimensions r c cells) (i : ℕ) (d : Cell) →
    IsWithin r c (get_or cells i d) → i ≡ length w.before → ⊥
inside_behind r c cells w i d h e = never_within r c w.cell w.outside
    (subst (IsWithin r c) (stands_behind r c cells w i d e) h)

pub places_left : (r c : ℕ) (cells : List Cell) (w : LeavesDimensions r c cells) → length w.before < length cells
places_left r c cells w = omega (arith, ap length w.parts, length-append w.before (w.cell ∷ w.after))

-- ---- of the faults one alone stands
never_earlier : (r c : ℕ) (cells : List Cell) (w w' : LeavesDimensions r c cells) →
    length w.before < length w'.before → ⊥
never_earlier r c cells w w' less = inside_behind r c cells w (length w.before) w.cell
    (before_within r c cells w' (length w.before) w.cell less) refl

same_place : (r c : ℕ) (cells : List Cell) (w w' : LeavesDimensions r c cells) → length w.before ≡ length w'.before
same_place r c cells w w' = elim (cases_lt (length w.before) (length w'.before)) [
  | inl less ↦ absurd (never_earlier r c cells w w' less)
  | inr ge ↦ elim (cases_lt (length w'.before) (length w.before)) [
    | inl more ↦ absurd (never_earlier r c cells w' w more)
    | inr le ↦ omega (arith, ge, le)
  ]
]

never_leaves_and_passes : (r c : ℕ) (cells : List Cell) → LeavesDimensions r c cells → PassesLimit r c cells → ⊥
never_leaves_and_passes r c cells w p =
    let one = (index_faults r c cells).1 w in let two = (sum_faults r c cells).1 p in cc (one, two)

never_leaves : (r c : ℕ) (cells : List Cell) → MakesMatrix r c cells → LeavesDimensions r c cells → ⊥
never_leaves r c cells m w =
    let one = (no_faults r c cells).1 m in let two = (index_faults r c cells).1 w in cc (one, two)

never_passes : (r c : ℕ) (cells : List Cell) → MakesMatrix r c cells → PassesLimit r c cells → ⊥
never_passes r c cells m p =
    let one = (no_faults r c cells).1 m in let two = (sum_faults r c cells).1 p in cc (one, two)

pub never_refused : (v : Setting) (cells : List Cell) (f : CellsFault) → MakesBatch v cells → f ≢ Memory →
    RefusesList v cells f → ⊥
never_refused v cells Memory m n h = n refl
never_refused v cells TooManyCells m n h = omega (arith, m.short, h)
never_refused v cells (IndexOutOfRange at) m n h = never_leaves v.rows v.cols cells m.makes h.leaves
never_refused v cells SumTooLarge m n h = never_passes v.rows v.cols cells m.makes h.passes

pub one_fault : (v : Setting) (cells : List Cell) (f g : CellsFault) → RefusesList v cells f → g ≢ Memory →
    RefusesList v cells g → f ≡ g
one_fault v cells Memory g h n k = absurd (never_refused v cells g h n k)
one_fault v cells f Memory h n k = absurd (n refl)
one_fault v cells TooManyCells TooManyCells h n k = refl
one_fault v cells TooManyCells (IndexOutOfRange at) h n k = absurd (omega (arith, h, k.short))
one_fault v cells TooManyCells SumTooLarge h n k = absurd (omega (arith, h, k.short))
one_fault v cells (IndexOutOfRange at) TooManyCells h n k = absurd (omega (arith, k, h.short))
one_fault v cells (IndexOutOfRange at) (IndexOutOfRange at') h n k = ap (λ i. IndexOutOfRange i)
    (h.at_is ∙ same_place v.rows v.cols cells h.leaves k.leaves ∙ sym k.at_is)
one_fault v cells (IndexOutOfRange at) SumTooLarge h n k = absurd
    (never_leaves_and_passes v.rows v.cols cells h.leaves k.passes)
one_fault v cells SumTooLarge TooManyCells h n k = absurd (omega (arith, k, h.short))
one_fault v cells SumTooLarge (IndexOutOfRange at) h n k = absurd
    (never_leaves_and_passes v.rows v.cols cells k.leaves h.passes)
one_fault v cells SumTooLarge SumTooLarge h n k = refl

-- ---- each list makes a batch or has a fault
never_lacks : (r c s : ℕ) (cells : List Cell) → first_fault r c s cells ≡ Some NoMemory → ⊥
never_lacks r c s [] e = cc
never_lacks r c s (x ∷ xs) e = by (ltb x.row r && ltb x.col c) (ltb (s + x.count) (2 ^ 64))
    (first_fault r c (s + x.count) xs) (never_lacks r c (s + x.count) xs) e
  where
    by : (a b : Bool) (o : Option BuildFault) → (o ≡ Some NoMemory → ⊥) →
        cond a (cond b o (Some SumPasses)) (Some Outside) ≡ Some NoMemory → ⊥
    by true true o n h = n h
    by true false o n h = cc
    by false b o n h = cc

abbrev pub IsRefused : Setting → List Cell → Type 0
IsRefused v cells = (f : CellsFault) × (f ≢ Memory) × RefusesList v cells f

by_fault : (v : Setting) (cells : List Cell) (o : Option BuildFault) → first_fault v.rows v.cols 0 cells ≡ o →
    length cells ≤ 1048576 → MakesBatch v cells ⊎ IsRefused v cells
by_fault v cells None e short = inl (record { short = short; makes = (no_faults v.rows v.cols cells).0 e })
by_fault v cells (Some NoMemory) e short = absurd (never_lacks v.rows v.cols 0 cells e)
by_fault v cells (Some Outside) e short =
    let w = (index_faults v.rows v.cols cells).0 e in
    inr (IndexOutOfRange (length w.before), (λ i. cc), record { short = short; leaves = w; at_is = refl })
by_fault v cells (Some SumPasses) e short =
    inr (SumTooLarge, (λ i. cc), record { short = short; passes = (sum_faults v.rows v.cols cells).0 e })

pub makes_or_refused : (v : Setting) (cells : List Cell) → MakesBatch v cells ⊎ IsRefused v cells
makes_or_refused v cells = elim (cases_lt 1048576 (length cells)) [
  | inl long ↦ inr (TooManyCells, (λ i. cc), long)
  | inr short ↦ by_fault v cells (first_fault v.rows v.cols 0 cells) refl short
]

-- ---- what a build says of a list, in dimensions that are a setup's
module _ (v : Setting) (cells : List Cell) (r c : ℕ) (rows : r ≡ v.rows) (cols : c ≡ v.cols)
    (short : length cells ≤ 1048576) where
  as_setup : (P : ℕ → ℕ → Type 0) → P r c → P v.rows v.cols
  as_setup P h = subst (λ x. P x v.cols) rows (subst (λ y. P r y) cols h)

  pub built_makes : first_fault r c 0 cells ≡ None → MakesBatch v cells
  built_makes e = record {
    short = short;
    makes = (no_faults v.rows v.cols cells).0 (as_setup (λ x y. first_fault x y 0 cells ≡ None) e);
  }

  pub built_leaves : (at : ℕ) → first_fault r c 0 cells ≡ Some Outside →
      ((w : LeavesDimensions r c cells) → at ≡ length w.before) → LeavesAt v cells at
  built_leaves at e told =
      let w = (index_faults v.rows v.cols cells).0 (as_setup (λ x y. first_fault x y 0 cells ≡ Some Outside) e) in
      record {
        short = short;
        leaves = w;
        at_is = as_setup (λ x y. (w : LeavesDimensions x y cells) → at ≡ length w.before) told w;
      }

  pub built_passes : first_fault r c 0 cells ≡ Some SumPasses → PassesSum v cells
  built_passes e = record {
    short = short;
    passes = (sum_faults v.rows v.cols cells).0 (as_setup (λ x y. first_fault x y 0 cells ≡ Some SumPasses) e);
  }

  by_none : (o : Option BuildFault) → first_fault r c 0 cells ≡ o → (o ≡ Some Outside → ⊥) → (o ≡ Some SumPasses → ⊥) →
      o ≡ None
  by_none None e n m = refl
  by_none (Some NoMemory) e n m = absurd (never_lacks r c 0 cells e)
  by_none (Some Outside) e n m = absurd (n refl)
  by_none (Some SumPasses) e n m = absurd (m refl)

  pub built_none : (first_fault r c 0 cells ≡ Some Outside → ⊥) → (first_fault r c 0 cells ≡ Some SumPasses → ⊥) →
      MakesBatch v cells
  built_none n m = built_makes (by_none (first_fault r c 0 cells) refl n m)
