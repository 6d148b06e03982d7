-- The walk, a step at a time: what is found so far, and what the walk over the rest finds.
use Rattle.std.proofs.Common.{◌≡◌, ℕ, zero, suc, ◌+◌, ◌<◌, ◌≤◌, length, get_or, List, [], ◌∷◌, ◌++◌, drop, Option, Some, None, sym, ◌∙◌}
use Rattle.std.proofs.Common.{ap, refl, append_assoc, append-nil, arith}
use Rattle.std.specs.Prelude.{Result, Ok, Err, slice_get}
use Rattle.std.proofs.lemmas.Option.{none-some, same_Some, slice_get_within}
use Rattle.std.proofs.lemmas.List.{drop_all}
use Rattle.std.proofs.Math.Seq.{drop-cons}
use Rattle.cells.specs.declared.cell.Cell.{Cell}
use Rattle.hyper_matrix.specs.Counts.{Place}
use Rattle.hyper_matrix.specs.Cells.{place_of}
use Rattle.matrix_difference.specs.Walk.{step_of, with_more, goes_on, ended, walked}
use Rattle.matrix_difference.specs.declared.walk.Step.{Step}
use Rattle.matrix_difference.specs.declared.walk.Step.TheVariants.{Falls, Keep, Meet}

-- what is found so far, and then the rest
abbrev pub joined : List Cell → Result (List Cell) Place → Result (List Cell) Place
joined found (Ok cells) = Ok (found ++ cells)
joined found (Err p) = Err p

pub joined_more : (found : List Cell) (c : Cell) (r : Result (List Cell) Place) →
    joined found (with_more (Some c) r) ≡ joined (found ++ c ∷ []) r
joined_more found c (Ok cells) = let regrouped = sym (append_assoc found (c ∷ []) cells) in (λ i. Ok (regrouped i))
joined_more found c (Err p) = refl

slice_get-drop : (bs : List Cell) (at : ℕ) → slice_get (drop at bs) 0 ≡ slice_get bs at
slice_get-drop [] zero = refl
slice_get-drop [] (suc at) = refl
slice_get-drop (b ∷ bs) zero = refl
slice_get-drop (b ∷ bs) (suc at) = slice_get-drop bs at

drop-none : (n : ℕ) → drop {A = Cell} n [] ≡ []
drop-none zero = refl
drop-none (suc n) = refl

drop_one-drop : (bs : List Cell) (at : ℕ) → drop 1 (drop at bs) ≡ drop (at + 1) bs
drop_one-drop [] zero = refl
drop_one-drop [] (suc at) = sym (drop-none (suc at + 1))
drop_one-drop (b ∷ bs) zero = refl
drop_one-drop (b ∷ bs) (suc at) =
    drop_one-drop bs at ∙ ap (λ n. drop n (b ∷ bs)) {x = suc (at + 1)} {y = suc at + 1} (omega arith)

-- one step
pub stepped_once : (ns bs found : List Cell) (i at : ℕ) (c : Cell) (rest : List Cell) → drop i ns ≡ c ∷ rest →
    walked ns bs ≡ joined found (walked (drop i ns) (drop at bs)) →
    walked ns bs ≡ joined found (goes_on (step_of c (slice_get bs at)) (walked rest (drop at bs))
    (walked rest (drop (at + 1) bs)))
stepped_once ns bs found i at c rest is so_far =
    so_far
    ∙ ap (λ (xs : List Cell). joined found (walked xs (drop at bs))) is
    ∙ ap (λ o. joined found (goes_on (step_of c o) (walked rest (drop at bs)) (walked rest (drop 1 (drop at bs)))))
    (slice_get-drop bs at)
    ∙ ap (λ (xs : List Cell). joined found (goes_on (step_of c (slice_get bs at)) (walked rest (drop at bs))
    (walked rest xs))) (drop_one-drop bs at)

-- at the end
pub ended_some : (bs : List Cell) (at : ℕ) (b : Cell) → slice_get bs at ≡ Some b →
    ended (drop at bs) ≡ Err (place_of b)
ended_some [] at b e = absurd (none-some b e)
ended_some (x ∷ bs) zero b e = let same = same_Some x b e in (λ i. Err (place_of (same i)))
ended_some (x ∷ bs) (suc at) b e = ended_some bs at b e

pub ended_none : (bs : List Cell) (at : ℕ) → slice_get bs at ≡ None → ended (drop at bs) ≡ Ok []
ended_none [] zero e = refl
ended_none [] (suc at) e = refl
ended_none (x ∷ bs) zero e = absurd (none-some x (sym e))
ended_none (x ∷ bs) (suc at) e = ended_none bs at e

-- ---- a step of the loop, whose cell is the one at an index

abbrev pub no_cell : Cell
no_cell = record { row = 0; col = 0; count = 0 }

module _ (ns bs found : List Cell) (i at : ℕ) (s : Step) (front : Option Cell) (below : i < length ns)
    (so_far : walked ns bs ≡ joined found (walked (drop i ns) (drop at bs))) (is : front ≡ slice_get bs at)
    (step : s ≡ step_of (get_or ns i no_cell) front) where
  next_cell : drop i ns ≡ get_or ns i no_cell ∷ drop (i + 1) ns
  next_cell = drop-cons ns i no_cell below
      ∙ ap (λ n. get_or ns i no_cell ∷ drop n ns) {x = suc i} {y = i + 1} (omega arith)

  at_cell : walked ns bs ≡ joined found (goes_on s (walked (drop (i + 1) ns) (drop at bs))
      (walked (drop (i + 1) ns) (drop (at + 1) bs)))
  at_cell =
      stepped_once ns bs found i at (get_or ns i no_cell) (drop (i + 1) ns) next_cell so_far
      ∙ ap (λ (x : Step). joined found (goes_on x (walked (drop (i + 1) ns) (drop at bs))
      (walked (drop (i + 1) ns) (drop (at + 1) bs)))) (ap (step_of (get_or ns i no_cell)) (sym is) ∙ sym step)

  as_told : (t : Step) → s ≡ t → walked ns bs ≡ joined found (goes_on t (walked (drop (i + 1) ns) (drop at bs))
      (walked (drop (i + 1) ns) (drop (at + 1) bs)))
  as_told t e = at_cell ∙ ap (λ (x : Step). joined found (goes_on x (walked (drop (i + 1) ns) (drop at bs))
      (walked (drop (i + 1) ns) (drop (at + 1) bs)))) e

  pub falls_here : (row col : ℕ) → s ≡ Falls row col → walked ns bs ≡ Err (row, col)
  falls_here row col e = as_told (Falls row col) e

  pub keeps : (c : Cell) (more : List Cell) → s ≡ Keep c → more ≡ found ++ c ∷ [] →
      walked ns bs ≡ joined more (walked (drop (i + 1) ns) (drop at bs))
  keeps c more e grown =
      as_told (Keep c) e ∙ joined_more found c (walked (drop (i + 1) ns) (drop at bs))
      ∙ ap (λ (xs : List Cell). joined xs (walked (drop (i + 1) ns) (drop at bs))) (sym grown)

  pub meets_none : s ≡ Meet None → walked ns bs ≡ joined found (walked (drop (i + 1) ns) (drop (at + 1) bs))
  meets_none e = as_told (Meet None) e

  pub meets_some : (c : Cell) (more : List Cell) → s ≡ Meet (Some c) → more ≡ found ++ c ∷ [] →
      walked ns bs ≡ joined more (walked (drop (i + 1) ns) (drop (at + 1) bs))
  meets_some c more e grown =
      as_told (Meet (Some c)) e ∙ joined_more found c (walked (drop (i + 1) ns) (drop (at + 1) bs))
      ∙ ap (λ (xs : List Cell). joined xs (walked (drop (i + 1) ns) (drop (at + 1) bs))) (sym grown)

-- what meets a cell is one of the earlier list
pub at_within : (bs : List Cell) (at : ℕ) (c : Cell) (front : Option Cell) (s : Step) (rest : Option Cell) →
    front ≡ slice_get bs at → s ≡ step_of c front → s ≡ Meet rest → at < length bs
at_within bs at c None s rest is step e = absurd (cc)
at_within bs at c (Some b) s rest is step e = slice_get_within bs at b (sym is)

-- behind the last cell
pub ends_well : (ns bs found : List Cell) (i at : ℕ) → length ns ≤ i →
    walked ns bs ≡ joined found (walked (drop i ns) (drop at bs)) → slice_get bs at ≡ None → walked ns bs ≡ Ok found
ends_well ns bs found i at past so_far none =
    so_far ∙ ap (λ (xs : List Cell). joined found (walked xs (drop at bs))) (drop_all i ns past)
    ∙ ap (joined found) (ended_none bs at none)
    ∙ (let whole = append-nil found in (λ k. Ok (whole k)))

pub ends_falling : (ns bs found : List Cell) (i at : ℕ) (b : Cell) → length ns ≤ i →
    walked ns bs ≡ joined found (walked (drop i ns) (drop at bs)) → slice_get bs at ≡ Some b →
    walked ns bs ≡ Err (place_of b)
ends_falling ns bs found i at b past so_far some =
    so_far ∙ ap (λ (xs : List Cell). joined found (walked xs (drop at bs))) (drop_all i ns past)
    ∙ ap (joined found) (ended_some bs at b some)
