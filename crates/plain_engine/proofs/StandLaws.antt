-- Shards at their places.
use Rattle.std.proofs.Common.{◌≡◌, ℕ, zero, suc, ◌+◌, ◌<◌, ◌↔◌, List, [], ◌∷◌, ◌++◌, length, replicate, take, drop}
use Rattle.std.proofs.Common.{get_or, sym, ◌∙◌, ap, subst, arith, add-one, drop-cons, length-take-le, length-append}
use Rattle.std.specs.FinMap.{empty}
use Rattle.hyper_matrix.specs.Counts.{Counts, total, ewise_add, part, parts}
use Rattle.hyper_matrix.proofs.CountLaws.{ewise_add-empty, ewise_add_assoc, parts_whole, total-empty, total-ewise_add}
use Rattle.layer_compaction.specs.Shared.{content}
use Rattle.layer_compaction.proofs.LayerLemmas.{empty-ewise_add}
use Rattle.batch_store.specs.Setups.{Setting}
use Rattle.batch_store.specs.Accepted.{Accepted, unfolded, summed}
use Rattle.batch_store.specs.Parts.{record_content}
use Rattle.batch_store.specs.Books.{Register}
use Rattle.batch_store.specs.Shards.{Holding, AreHeld}
use Rattle.plain_engine.specs.Records.{Follows}
use Rattle.plain_engine.specs.Standing.{Standing, standing, StandsAt, Stand, KeepsEngine, IsWhole, AreEmpty, HaveSetup}
use Rattle.plain_engine.specs.Standing.{AreTogether, shards_total, shards_content}
use Rattle.batch_store.proofs.SumLaws.{total-summed, record-whole, part-empty}

-- a shard more, at the next place
pub stand_push : (v : Setting) (a : Accepted) (i : ℕ) (xs : List Holding) (x : Holding) → Stand v a i xs →
    StandsAt v a (i + length xs) x → Stand v a i (xs ++ x ∷ [])
stand_push v a i [] x h here = (subst (λ (n : ℕ). StandsAt v a n x) {x = i + 0} {y = i} (omega arith) here, tt)
stand_push v a i (y ∷ ys) x h here = (
  h.0,
  stand_push v a (i + 1) ys x h.1 (subst (λ (n : ℕ). StandsAt v a n x) {x = i + suc (length ys)}
      {y = (i + 1) + length ys} (omega arith) here),
)

pub empty_push : (v : Setting) (xs : List Holding) (x : Holding) → AreEmpty v xs →
    x.layers ≡ replicate (length v.cuts + 1) empty → AreEmpty v (xs ++ x ∷ [])
empty_push v [] x h none = (none, tt)
empty_push v (y ∷ ys) x h none = (h.0, empty_push v ys x h.1 none)

-- a shard as it was made stands at the place of its number
pub stands_new : (v : Setting) (i : ℕ) (x : Holding) → x.setup ≡ v → x.number ≡ i → x.record_list ≡ [] →
    x.base ≡ empty → AreHeld x.setup x.number x.layers x.base x.record_list → StandsAt v (unfolded []) i x
stands_new v i x setup number none base held = record {
  number = number;
  setup = setup;
  based = base ∙ sym (part-empty i v.shards);
  follows = none;
  sums = held.sums ∙ (λ j. record_content (number j) (setup j).shards x.base x.record_list);
}

-- an empty shard more, for the next number
pub record MakesShards (v : Setting) (n : ℕ) (xs : List Holding) : Type 0 where
  pub count : length xs ≡ n
  pub layers : AreEmpty v xs
  pub stand : Stand v (unfolded []) 0 xs

pub makes_next : (v : Setting) (n : ℕ) (xs ys : List Holding) (x : Holding) → MakesShards v n xs → ys ≡ xs ++ x ∷ [] →
    x.layers ≡ replicate (length v.cuts + 1) empty → StandsAt v (unfolded []) n x → MakesShards v (n + 1) ys
makes_next v n xs ys x h is layers here = record {
  count = ap length is ∙ omega (arith, length-append xs (x ∷ []), h.count);
  layers = subst (AreEmpty v) (sym is) (empty_push v xs x h.layers layers);
  stand = subst (Stand v (unfolded []) 0) (sym is) (stand_push v (unfolded []) 0 xs x h.stand
      (subst (λ (m : ℕ). StandsAt v (unfolded []) m x) {x = n} {y = 0 + length xs} (omega (arith, h.count)) here));
}

-- a shard at its place holds its part of all
pub holds_part : (v : Setting) (a : Accepted) (i : ℕ) (x : Holding) → StandsAt v a i x →
    content x.layers ≡ part (summed a) i v.shards
holds_part v a i x h =
    h.sums ∙ (λ j. record_content i v.shards (h.based j) (h.follows j)) ∙ record-whole i v.shards a

contents_from : (v : Setting) (a : Accepted) (i : ℕ) (xs : List Holding) → Stand v a i xs →
    ewise_add (parts (summed a) i v.shards) (shards_content xs) ≡ parts (summed a) (i + length xs) v.shards
contents_from v a i [] h =
    ewise_add-empty (parts (summed a) i v.shards)
    ∙ ap (λ (n : ℕ). parts (summed a) n v.shards) {x = i} {y = i + 0} (omega arith)
contents_from v a i (x ∷ xs) h =
    let m = summed a in
    let k = v.shards in
    sym (ewise_add_assoc (parts m i k) (content x.layers) (shards_content xs))
    ∙ ap (λ (c : Counts). ewise_add (ewise_add (parts m i k) c) (shards_content xs)) (holds_part v a i x h.0)
    ∙ ap (λ (n : ℕ). ewise_add (parts m n k) (shards_content xs)) {x = suc i} {y = i + 1} (omega arith)
    ∙ contents_from v a (i + 1) xs h.1
    ∙ ap (λ (n : ℕ). parts m n k) {x = (i + 1) + length xs} {y = i + suc (length xs)} (omega arith)

pub total-shards_content : (xs : List Holding) → total (shards_content xs) ≡ shards_total xs
total-shards_content [] = total-empty
total-shards_content (x ∷ xs) = omega (
  arith,
  total-ewise_add (content x.layers) (shards_content xs),
  total-shards_content xs,
)

-- all shards together hold all
pub contents_whole : (v : Setting) (a : Accepted) (xs : List Holding) → 0 < v.shards → length xs ≡ v.shards →
    Stand v a 0 xs → shards_content xs ≡ summed a
contents_whole v a xs pos count h =
    sym (empty-ewise_add (shards_content xs))
    ∙ contents_from v a 0 xs h
    ∙ ap (λ (n : ℕ). parts (summed a) n v.shards) {x = 0 + length xs} {y = v.shards} (omega (arith, count))
    ∙ parts_whole (summed a) v.shards pos

pub whole : (v : Setting) (book : Register) (xs : List Holding) (e : Standing) → KeepsEngine v book xs →
    standing v book xs ≡ e → IsWhole e
whole v book xs e keeps view =
    let a = book.state in
    let sums = contents_whole v a xs (omega (arith, keeps.accepted.sound.shards.0)) keeps.count keeps.stand in
    subst IsWhole view (record {
      keeps = keeps;
      totals = sym (total-shards_content xs) ∙ ap total sums ∙ total-summed a keeps.accepted.based;
      sums = sums;
    })

pub drop_here : {A : Type 0} (i : ℕ) (xs : List A) (x : A) → i < length xs → x ≡ get_or xs i x →
    drop i xs ≡ x ∷ drop (i + 1) xs
drop_here i xs x here is = rw (add-one, drop-cons xs i x) (ap (λ y. y ∷ drop (suc i) xs) (sym is))

pub take_here : {A : Type 0} (i : ℕ) (xs : List A) (x : A) → i < length xs → x ≡ get_or xs i x →
    take (i + 1) xs ≡ take i xs ++ x ∷ []
take_here i [] x here is = absurd (omega arith)
take_here zero (y ∷ ys) x here is = ap (λ (n : ℕ). take n (y ∷ ys)) {x = 0 + 1} {y = 1} (omega arith)
    ∙ ap (λ z. z ∷ []) (sym is)
take_here (suc i) (y ∷ ys) x here is = ap (λ (n : ℕ). take n (y ∷ ys)) {x = suc i + 1} {y = suc (i + 1)} (omega arith)
    ∙ ap (λ zs. y ∷ zs) (take_here i ys x (omega arith) is)

-- the shard at place i, where those from it on belong together
pub based_here : (k : ℕ) (a : Accepted) (i : ℕ) (xs : List Holding) (x : Holding) → i < length xs → x ≡ get_or xs i x →
    AreTogether k a i (drop i xs) → x.base ≡ part a.base i k
based_here k a i xs x here is h = (subst (AreTogether k a i) (drop_here i xs x here is) h).1

have_setup_at : (v : Setting) (i : ℕ) (xs : List Holding) (x : Holding) → HaveSetup v xs → i < length xs →
    x ≡ get_or xs i x → x.setup ≡ v
have_setup_at v i [] x h here is = absurd (omega arith)
have_setup_at v zero (y ∷ ys) x h here is = ap (λ (z : Holding). z.setup) is ∙ h.0
have_setup_at v (suc i) (y ∷ ys) x h here is = have_setup_at v i ys x h.1 (omega arith) is

module _ (v : Setting) (a : Accepted) (xs : List Holding) (i : ℕ) (x : Holding) (here : i < length xs)
    (is : x ≡ get_or xs i x) (number : x.number ≡ i) (based : x.base ≡ part a.base i v.shards)
    (follows : Follows i v.shards x.record_list a.list) where
  -- the shard at place i joins those before it
  pub stand_next : HaveSetup v xs → AreHeld x.setup x.number x.layers x.base x.record_list → Stand v a 0 (take i xs) →
      Stand v a 0 (take (i + 1) xs)
  stand_next made held before =
      let setup : x.setup ≡ v = have_setup_at v i xs x made here is in
      let this : StandsAt v a i x = record {
        number = number;
        setup = setup;
        based = based;
        follows = follows;
        sums = held.sums ∙ (λ j. record_content (number j) (setup j).shards x.base x.record_list);
      } in
      let place : i ≡ 0 + length (take i xs) = omega (arith, length-take-le i xs (omega arith)) in
      subst (Stand v a 0) (sym (take_here i xs x here is))
      (stand_push v a 0 (take i xs) x before (subst (λ (n : ℕ). StandsAt v a n x) place this))

  -- those from it on belong together if those behind it do
  pub together_next : (P : Type 0) → P ↔ AreTogether v.shards a i (drop i xs) →
      P ↔ AreTogether v.shards a (i + 1) (drop (i + 1) xs)
  together_next P rest =
      let cut = drop_here i xs x here is in (
        λ all. (subst (AreTogether v.shards a i) cut (rest.0 all)).3,
        λ after. rest.1 (subst (AreTogether v.shards a i) (sym cut) (number, based, follows, after)),
      )
