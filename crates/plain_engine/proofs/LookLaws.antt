-- What look-ups in one shard say of the whole, and lists of shards of one setup.
use Rattle.std.proofs.Common.{◌≡◌, ℕ, zero, suc, ◌+◌, ◌<◌, ◌%◌, Bool, true, false, cond, eqb, List, [], ◌∷◌, ◌++◌}
use Rattle.std.proofs.Common.{length, take, get_or, Option, None, refl, sym, ◌∙◌, ap, subst, arith}
use Rattle.std.specs.FinMap.{get}
use Rattle.std.proofs.lemmas.Bool.{eq-eqb}
use Rattle.std.proofs.lemmas.Bool.Decides.{nat_tests}
use Rattle.hyper_matrix.specs.Counts.{Place, Counts, part, in_part}
use Rattle.hyper_matrix.specs.RowOf.{row_of}
use Rattle.hyper_matrix.proofs.CountLaws.{same_counts, get-part}
use Rattle.hyper_matrix.proofs.RowOfLaws.{get-row_of}
use Rattle.layer_compaction.specs.Shared.{content}
use Rattle.batch_store.specs.Setups.{Setting}
use Rattle.batch_store.specs.Accepted.{Accepted, summed}
use Rattle.batch_store.specs.Shards.{Holding}
use Rattle.plain_engine.specs.Standing.{StandsAt, Stand, HaveSetup, shards_total}
use Rattle.plain_engine.proofs.StandLaws.{holds_part}

pub stands_here : (v : Setting) (a : Accepted) (i j : ℕ) (xs : List Holding) (x : Holding) →
    Stand v a i xs → j < length xs → x ≡ get_or xs j x → StandsAt v a (i + j) x
stands_here v a i j [] x h below is = absurd (omega arith)
stands_here v a i zero (y ∷ ys) x h below is =
    subst (λ (n : ℕ). StandsAt v a n x) {x = i} {y = i + 0} (omega arith) (subst (StandsAt v a i) (sym is) h.0)
stands_here v a i (suc j) (y ∷ ys) x h below is =
    subst (λ (n : ℕ). StandsAt v a n x) {x = (i + 1) + j} {y = i + suc j} (omega arith)
    (stands_here v a (i + 1) j ys x h.1 (omega arith) is)

-- a shard has the cells of its rows
pub get-shard : (v : Setting) (a : Accepted) (x : Holding) (row col : ℕ) →
    StandsAt v a (row % v.shards) x → get (content x.layers) (row, col) ≡ get (summed a) (row, col)
get-shard v a x row col h =
    let i = row % v.shards in
    let m = summed a in
    ap (λ (c : Counts). get c (row, col)) (holds_part v a i x h) ∙ get-part m i v.shards (row, col)
    ∙ ap (λ (b : Bool). cond b (get m (row, col)) None) (eq-eqb i i refl)

-- a part has the rows that lie in it
row_of-part : (m : Counts) (r k : ℕ) → row_of (part m (r % k) k) r ≡ row_of m r
row_of-part m r k = same_counts _ _ (λ q.
    get-row_of (part m (r % k) k) r q ∙ ap (λ (o : Option ℕ). cond (eqb q.0 r) o None) (get-part m (r % k) k q)
    ∙ by q (eqb q.0 r) refl ∙ sym (get-row_of m r q))
  where
    by : (q : Place) (b : Bool) → eqb q.0 r ≡ b →
        cond b (cond (in_part (r % k) k q) (get m q) None) None ≡ cond b (get m q) None
    by q true is =
        let same : q.0 ≡ r = grind (arith, nat_tests) in
        ap (λ (b : Bool). cond b (get m q) None) (eq-eqb (q.0 % k) (r % k) (ap (λ (n : ℕ). n % k) same))
    by q false is = refl

pub row_of-shard : (v : Setting) (a : Accepted) (x : Holding) (row : ℕ) →
    StandsAt v a (row % v.shards) x → row_of (content x.layers) row ≡ row_of (summed a) row
row_of-shard v a x row h =
    ap (λ (c : Counts). row_of c row) (holds_part v a (row % v.shards) x h) ∙ row_of-part (summed a) row v.shards

-- shards at their places were made with the setup
pub have_setup : (v : Setting) (a : Accepted) (i : ℕ) (xs : List Holding) → Stand v a i xs → HaveSetup v xs
have_setup v a i [] h = tt
have_setup v a i (x ∷ xs) h = (h.0.setup, have_setup v a (i + 1) xs h.1)

pub have_take : (v : Setting) (n : ℕ) (xs : List Holding) → HaveSetup v xs → HaveSetup v (take n xs)
have_take v zero [] h = tt
have_take v zero (x ∷ xs) h = tt
have_take v (suc n) [] h = tt
have_take v (suc n) (x ∷ xs) h = (h.0, have_take v n xs h.1)

pub have_push : (v : Setting) (xs : List Holding) (x : Holding) → HaveSetup v xs → x.setup ≡ v →
    HaveSetup v (xs ++ x ∷ [])
have_push v [] x h is = (is, tt)
have_push v (y ∷ ys) x h is = (h.0, have_push v ys x h.1 is)

pub have_pop : (v : Setting) (xs : List Holding) (x : Holding) → HaveSetup v (xs ++ x ∷ []) → HaveSetup v xs ×
    (x.setup ≡ v)
have_pop v [] x h = (tt, h.0)
have_pop v (y ∷ ys) x h =
    let rest = have_pop v ys x h.1 in
    ((h.0, rest.0), rest.1)

pub totals-append : (xs ys : List Holding) → shards_total (xs ++ ys) ≡ shards_total xs + shards_total ys
totals-append [] ys = omega arith
totals-append (x ∷ xs) ys = omega (arith, totals-append xs ys)
