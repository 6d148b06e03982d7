-- What readers are shown of shards.
use Rattle.std.proofs.Common.{◌≡◌, ℕ, zero, suc, ◌+◌, List, [], ◌∷◌, ◌++◌, length, length-append, Some, sym, subst}
use Rattle.std.proofs.Common.{arith, slice_get, Option, None, ap, ◌∙◌}
use Rattle.std.specs.Prelude.{◌⊎◌, IfSome, IfOk, Result, Ok, Err, unwrap_or}
use Rattle.std.specs.Option.{option_flatten}
use Rattle.std.proofs.Common.{inl, inr}
use Rattle.std.specs.FinMap.{get, len}
use Rattle.hyper_matrix.specs.declared.row_sum.RowSum.{RowSum}
use Rattle.hyper_matrix.specs.Counts.{part, total}
use Rattle.hyper_matrix.specs.RowOf.{row_of}
use Rattle.layer_cascade.specs.Layering.{Layering}
use Rattle.layer_compaction.specs.Shared.{content}
use Rattle.layer_cascade.specs.Cascade.{cascade}
use Rattle.batch_store.specs.Setups.{Setting}
use Rattle.batch_store.specs.Accepted.{Accepted}
use Rattle.batch_store.specs.Batches.{Submission}
use Rattle.batch_store.specs.Shards.{Holding, holding, Sight, AreHeld, layering_of, layering_with, part_in}
use Rattle.plain_engine.specs.Standing.{Stand}
use Rattle.locked_engine.specs.Moments.{IsShardOf, row_sum_in, no_sum}
use Rattle.plain_engine.specs.Known.{IsBased, IsBasedOn}
use Rattle.locked_engine.specs.Shown.{Shown, shown, IsSightOf}

-- what shows a shard with a batch more is of a shard
pub next_shown : (v : Setting) (opened : Accepted) (n : ℕ) (a : Sight) (x : Holding) (b : Submission) →
    x.setup ≡ v → n ≡ x.number → (since : List Submission) × IsBasedOn opened v.shards since x →
    AreHeld x.setup x.number (cascade x.layers x.setup.cuts (part_in x b)) x.base (x.record_list ++ b ∷ []) →
    a.layers ≡ layering_with x b → a.record_len ≡ length x.record_list + 1 →
    (y : Holding) × IsSightOf v opened n a y
next_shown v opened n a x b setup number based held layers count =
    let list = x.record_list ++ b ∷ [] in (
      holding x.setup x.number (cascade x.layers x.setup.cuts (part_in x b)) x.below x.base list 0,
      record {
        shard = record { setup = setup; number = sym number; since = based.0; based = based.1; held = held };
        layers = layers;
        record_len = omega (arith, count, length-append x.record_list (b ∷ []));
      },
    )

-- ---- what is answered of a shard that is shown
module _ (v : Setting) (opened : Accepted) (n : ℕ) (w : Shown) (a : Sight) (view : shown n a ≡ w)
    (told : (x : Holding) × IsSightOf v opened n a x) where
  pub shown_cell : (row col : ℕ) (o : Option ℕ) → o ≡ get (content a.layers.layers) (row, col) →
      IfSome o (λ k. (x : Holding) × IsShardOf v opened w.number x × (get (content x.layers) (row, col) ≡ Some k))
  shown_cell row col None is = tt
  shown_cell row col (Some k) is =
      let x = told.0 in
      let s = told.1 in
      let at : get (content x.layers) (row, col) ≡ Some k =
      ap (λ (l : Layering). get (content l.layers) (row, col)) (sym s.layers) ∙ sym is in
      subst (λ (u : Shown). (y : Holding) × IsShardOf v opened u.number y
      × (get (content y.layers) (row, col) ≡ Some k)) view (x, s.shard, at)

  pub shown_row : (row : ℕ) (r : RowSum) → r.entries ≡ len (row_of (content a.layers.layers) row) →
      r.total ≡ total (row_of (content a.layers.layers) row) →
      (x : Holding) × IsShardOf v opened w.number x × (r ≡ row_sum_in x row)
  shown_row row r entries sum =
      let x = told.0 in
      let s = told.1 in
      let counted = entries ∙ ap (λ (l : Layering). len (row_of (content l.layers) row)) s.layers in
      let summed = sum ∙ ap (λ (l : Layering). total (row_of (content l.layers) row)) s.layers in
      let at : r ≡ row_sum_in x row = λ i. record { entries = counted i; total = summed i } in
      subst (λ (u : Shown). (y : Holding) × IsShardOf v opened u.number y × (r ≡ row_sum_in y row)) view
      (x, s.shard, at)

  pub shown_sight : (x : Holding) × IsSightOf v opened w.number a x
  shown_sight = subst (λ (u : Shown). (x : Holding) × IsSightOf v opened u.number a x) view told

-- ---- what is answered of a shard by a look
module _ (v : Setting) (opened : Accepted) (s : ℕ) where
  pub looked_cell : (row col : ℕ) (o : Option (Option ℕ)) (r : Option ℕ) (Q : Holding → Option ℕ → Type 0) →
      ((x : Holding) (t : Option ℕ) → Q x t → t ≡ get (content x.layers) (row, col)) →
      IfSome o (λ t. (x : Holding) × IsShardOf v opened s x × Q x t) → r ≡ option_flatten o →
      IfSome r (λ k. (x : Holding) × IsShardOf v opened s x × (get (content x.layers) (row, col) ≡ Some k))
  looked_cell row col o r Q says h is =
      subst (λ (t : Option ℕ). IfSome t (λ k. (x : Holding) × IsShardOf v opened s x
      × (get (content x.layers) (row, col) ≡ Some k))) (sym is) (by o h)
    where
      by : (o : Option (Option ℕ)) → IfSome o (λ t. (x : Holding) × IsShardOf v opened s x × Q x t) →
          IfSome (option_flatten o) (λ k. (x : Holding) × IsShardOf v opened s x
          × (get (content x.layers) (row, col) ≡ Some k))
      by None h = tt
      by (Some None) h = tt
      by (Some (Some k)) h = (h.0, h.1, sym (says h.0 (Some k) h.2))

  pub looked_row : (row : ℕ) (o : Option RowSum) (r : RowSum) (Q : Holding → RowSum → Type 0) →
      ((x : Holding) (t : RowSum) → Q x t → t ≡ row_sum_in x row) →
      IfSome o (λ t. (x : Holding) × IsShardOf v opened s x × Q x t) → r ≡ unwrap_or o no_sum →
      (r ≡ no_sum) ⊎ ((x : Holding) × IsShardOf v opened s x × (r ≡ row_sum_in x row))
  looked_row row None r Q says h is = inl is
  looked_row row (Some t) r Q says h is = inr (h.0, h.1, is ∙ says h.0 t h.2)

  pub viewed_shown : {E : Type 0} → (n : ℕ) (a : Sight) (r : Result Sight E) → n ≡ s →
      ((x : Holding) × IsSightOf v opened n a x) → IfOk r (λ w. w ≡ a) →
      IfOk r (λ w. (x : Holding) × IsShardOf v opened s x × (w.layers ≡ layering_of x))
  viewed_shown n a (Err e) here told h = tt
  viewed_shown n a (Ok w) here told h = (
    told.0,
    subst (λ k. IsShardOf v opened k told.0) here told.1.shard,
    ap (λ (b : Sight). b.layers) h ∙ told.1.layers,
  )

  pub viewed_looked : {E : Type 0} → (o : Option (Result Sight E)) (e : E) (r : Result Sight E)
      (Q : Holding → Result Sight E → Type 0) →
      ((x : Holding) (t : Result Sight E) → Q x t → IfOk t (λ w. w.layers ≡ layering_of x)) →
      IfSome o (λ t. (x : Holding) × IsShardOf v opened s x × Q x t) → r ≡ unwrap_or o (Err e) →
      IfOk r (λ w. (x : Holding) × IsShardOf v opened s x × (w.layers ≡ layering_of x))
  viewed_looked {E} o e r Q says h is =
      subst (λ (t : Result Sight E). IfOk t (λ w. (x : Holding) × IsShardOf v opened s x × (w.layers ≡ layering_of x)))
      (sym is) (by o h)
    where
      by : (o : Option (Result Sight E)) → IfSome o (λ t. (x : Holding) × IsShardOf v opened s x × Q x t) →
          IfOk (unwrap_or o (Err e)) (λ w. (x : Holding) × IsShardOf v opened s x × (w.layers ≡ layering_of x))
      by None h = tt
      by (Some (Err f)) h = tt
      by (Some (Ok w)) h = (h.0, h.1, says h.0 (Ok w) h.2)

-- the shards of an engine have its setup
pub setup_at : (v : Setting) (a : Accepted) (i j : ℕ) (xs : List Holding) (x : Holding) → Stand v a i xs →
    slice_get xs j ≡ Some x → x.setup ≡ v
setup_at v a i zero [] x h is = absurd (cc is)
setup_at v a i (suc j) [] x h is = absurd (cc is)
setup_at v a i zero (y ∷ ys) x h is =
    let same : y ≡ x = cc is in
    subst (λ (w : Holding). w.setup ≡ v) same h.0.setup
setup_at v a i (suc j) (y ∷ ys) x h is = setup_at v a (i + 1) j ys x h.1 is

-- where the engine has accepted this, and this setup, the base of each of its shards is its part of what was folded
pub based_at : (v w : Setting) (a opened : Accepted) (i j : ℕ) (xs : List Holding) (x : Holding) → Stand v a i xs →
    slice_get xs j ≡ Some x → v ≡ w → a ≡ opened → IsBased opened w.shards x
based_at v w a opened i zero [] x h is same here = absurd (cc is)
based_at v w a opened i (suc j) [] x h is same here = absurd (cc is)
based_at v w a opened i zero (y ∷ ys) x h is same here =
    let one : y ≡ x = cc is in
    subst (λ (z : Holding). IsBased opened w.shards z) one
    (subst (λ (b : Accepted). IsBased b w.shards y) here (subst (λ (u : Setting). IsBased a u.shards y) same
    (h.0.based ∙ ap (λ (n : ℕ). part a.base n v.shards) (sym h.0.number))))
based_at v w a opened i (suc j) (y ∷ ys) x h is same here = based_at v w a opened (i + 1) j ys x h.1 is same here
