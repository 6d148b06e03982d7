-- The entries of a list at whose places a matrix has none.
use Rattle.std.proofs.Common.{◌≡◌, ℕ, ◌+◌, ◌<◌, ◌≤◌, Bool, true, false, cond, T, is_some, List, [], ◌∷◌, ◌++◌}
use Rattle.std.proofs.Common.{Some, None, length, take, drop, get_or, sym, ◌∙◌, ap, refl, arith, append_assoc}
use Rattle.std.proofs.Math.ListN.{set}
use Rattle.std.proofs.lemmas.List.{map-append, append-nil, drop_all, drop_more, drop-set-lt, take_more_set}
use Rattle.std.proofs.lemmas.Grind.{drop_more_same}
use Rattle.std.specs.Prelude.{Option, map}
use Rattle.std.specs.FinMap.{get, empty, is_sorted, get-empty}
use Rattle.std.specs.FinMap.Entries.{below_all}
use Rattle.cells.specs.declared.cell.Cell.{Cell}
use Rattle.hyper_matrix.specs.Cells.{entry_of}
use Rattle.hyper_matrix.specs.Counts.{Place, place_cmp, Counts, plus, ewise_add}
use Rattle.hyper_matrix.proofs.CountLaws.{T_first, T_second, T_both, get-ewise_add}
use Rattle.layer_compaction.specs.Runs.{count_new, without}

-- as many as are new
pub length-without : (m : Counts) (es : List (Place × ℕ)) → length (without m es) ≡ count_new m es
length-without m [] = refl
length-without m (e ∷ es) = step (is_some (get m e.0)) (length-without m es)
  where
    step : (b : Bool) → length (without m es) ≡ count_new m es →
        length (cond b (without m es) (e ∷ without m es)) ≡ cond b 0 1 + count_new m es
    step true is = omega (arith, is)
    step false is = omega (arith, is)

-- beside nothing all stay
pub without-empty : (es : List (Place × ℕ)) → without empty es ≡ es
without-empty [] = refl
without-empty (e ∷ es) =
    ap (λ o. cond (is_some o) (without empty es) (e ∷ without empty es)) (get-empty place_cmp e.0)
    ∙ ap (λ l. e ∷ l) (without-empty es)

-- beside a sum: first beside the one, and of what is left beside the other
pub without-sum : (a b : Counts) (es : List (Place × ℕ)) → without (ewise_add a b) es ≡ without b (without a es)
without-sum a b [] = refl
without-sum a b (e ∷ es) =
    ap (λ o. cond (is_some o) (without (ewise_add a b) es) (e ∷ without (ewise_add a b) es)) (get-ewise_add a b e.0)
    ∙ ap (λ l. cond (is_some (plus (get a e.0) (get b e.0))) l (e ∷ l)) (without-sum a b es)
    ∙ step (get a e.0) (get b e.0) refl
  where
    rest : List (Place × ℕ)
    rest = without b (without a es)

    step : (x y : Option ℕ) → get b e.0 ≡ y →
        cond (is_some (plus x y)) rest (e ∷ rest) ≡ without b (cond (is_some x) (without a es) (e ∷ without a es))
    step None None is = sym (ap (λ o. cond (is_some o) rest (e ∷ rest)) is)
    step None (Some y) is = sym (ap (λ o. cond (is_some o) rest (e ∷ rest)) is)
    step (Some x) None is = refl
    step (Some x) (Some y) is = refl

-- what stands behind a place still does
below-without : (m : Counts) (p : Place) (es : List (Place × ℕ)) → T (below_all place_cmp p es) →
    T (below_all place_cmp p (without m es))
below-without m p [] h = tt
below-without m p (e ∷ es) h = step (is_some (get m e.0)) (below-without m p es (T_second _ _ h))
  where
    step : (b : Bool) → T (below_all place_cmp p (without m es)) →
        T (below_all place_cmp p (cond b (without m es) (e ∷ without m es)))
    step true rest = rest
    step false rest = T_both _ _ (T_first _ _ h) rest

-- and the order stays
pub rises-without : (m : Counts) (es : List (Place × ℕ)) → T (is_sorted place_cmp es) →
    T (is_sorted place_cmp (without m es))
rises-without m [] h = tt
rises-without m (e ∷ es) h = step (is_some (get m e.0)) (rises-without m es (T_second _ _ h))
  where
    step : (b : Bool) → T (is_sorted place_cmp (without m es)) →
        T (is_sorted place_cmp (cond b (without m es) (e ∷ without m es)))
    step true rest = rest
    step false rest = T_both _ _ (below-without m e.0 es (T_first _ _ h)) rest

-- what has been kept of the first i cells stands at the front, and those behind them are as they were
pub record KeptUpTo (m : Counts) (all cells : List Cell) (i kept : ℕ) : Type 0 where
  pub order : kept ≤ i
  pub rest : drop i cells ≡ drop i all
  pub told : map entry_of (take kept cells) ++ without m (map entry_of (drop i all)) ≡ without m (map entry_of all)

-- Nothing was passed yet.
pub kept_none : (m : Counts) (all : List Cell) → KeptUpTo m all all 0 0
kept_none m all = record { order = omega arith; rest = refl; told = refl }

-- one cell further
module _ (m : Counts) (all cells : List Cell) (i kept : ℕ) (cell d : Cell) (inside : i < length cells)
    (until : KeptUpTo m all cells i kept) (is : cell ≡ get_or cells i d) where
  from_here : drop i cells ≡ cell ∷ drop (i + 1) cells
  from_here = drop_more cells i d inside ∙ ap (λ (c : Cell). c ∷ drop (i + 1) cells) (sym is)

  behind_here : drop (i + 1) cells ≡ drop (i + 1) all
  behind_here = drop_more_same cells all i until.rest

  pub steps : map entry_of (drop i all) ≡ entry_of cell ∷ map entry_of (drop (i + 1) all)
  steps = ap (map entry_of) (sym until.rest ∙ from_here ∙ ap (λ l. cell ∷ l) behind_here)

  -- it isn't new
  pub kept_same : is_some (get m (entry_of cell).0) ≡ true → KeptUpTo m all cells (i + 1) kept
  kept_same held = record {
    order = omega (arith, until.order);
    rest = behind_here;
    told = ap (λ l. map entry_of (take kept cells) ++ l)
        (sym (ap (λ b. cond b (without m (map entry_of (drop (i + 1) all)))
        (entry_of cell ∷ without m (map entry_of (drop (i + 1) all)))) held) ∙ sym (ap (without m) steps))
        ∙ until.told;
  }

  -- it's new
  pub kept_more : (after : List Cell) → after ≡ set cells kept cell →
      is_some (get m (entry_of cell).0) ≡ false → KeptUpTo m all after (i + 1) (kept + 1)
  kept_more after set_is none = record {
    order = omega (arith, until.order);
    rest = ap (drop (i + 1)) set_is ∙ drop-set-lt (i + 1) cells kept cell (omega (arith, until.order)) ∙ behind_here;
    told = ap (λ l. map entry_of l ++ without m (map entry_of (drop (i + 1) all))) (ap (take (kept + 1)) set_is
        ∙ take_more_set cells kept cell (omega (arith, until.order, inside)))
        ∙ ap (λ l. l ++ without m (map entry_of (drop (i + 1) all))) (map-append entry_of (take kept cells) (cell ∷ []))
        ∙ append_assoc (map entry_of (take kept cells)) (entry_of cell ∷ [])
        (without m (map entry_of (drop (i + 1) all)))
        ∙ ap (λ l. map entry_of (take kept cells) ++ l)
        (sym (ap (λ b. cond b (without m (map entry_of (drop (i + 1) all)))
        (entry_of cell ∷ without m (map entry_of (drop (i + 1) all)))) none) ∙ sym (ap (without m) steps))
        ∙ until.told;
  }

-- at the end those that were kept are all that are new
pub kept_all : (m : Counts) (all cells : List Cell) (i kept : ℕ) → length all ≤ i → KeptUpTo m all cells i kept →
    map entry_of (take kept cells) ≡ without m (map entry_of all)
kept_all m all cells i kept past until =
    sym (append-nil (map entry_of (take kept cells)))
    ∙ ap (λ l. map entry_of (take kept cells) ++ without m (map entry_of l)) (sym (drop_all i all past))
    ∙ until.told
