-- What the stored layers come to, and what their content is place by place.
use Rattle.std.proofs.Common.{◌≡◌, ℕ, zero, suc, ◌+◌, ◌<◌, ◌≤◌, List, [], ◌∷◌, ◌++◌, length, take, drop, replicate}
use Rattle.std.proofs.Common.{get_or, sym, ◌∙◌, ap, subst, refl, arith, append_assoc}
use Rattle.std.specs.declared.sync.Arc.{Arc}
use Rattle.std.specs.Arc.{arc_value}
use Rattle.std.specs.FinMap.{empty}
use Rattle.std.proofs.lemmas.List.{take_more, take_all, take-append-le, length-map, map-append}
use Rattle.hyper_matrix.specs.Counts.{Counts, ewise_add, total}
use Rattle.hyper_matrix.specs.Matrix.{Matrix, matrix}
use Rattle.hyper_matrix.proofs.CountLaws.{ewise_add_comm, ewise_add_assoc, ewise_add-empty, total-ewise_add, total-empty}
use Rattle.layer_compaction.specs.Shared.{content, values, all_counts, HaveDims}

pub empty-ewise_add : (m : Counts) → ewise_add empty m ≡ m
empty-ewise_add m = ewise_add_comm empty m ∙ ewise_add-empty m

pub content-append : (a b : List Counts) → content (a ++ b) ≡ ewise_add (content a) (content b)
content-append [] b = sym (empty-ewise_add (content b))
content-append (layer ∷ a) b = ap (ewise_add layer) (content-append a b)
    ∙ sym (ewise_add_assoc layer (content a) (content b))

-- the first part of a list
pub take-front : {X : Type 0} (n : ℕ) (l a b : List X) → l ≡ a ++ b → n ≡ length a → take n l ≡ a
take-front n l a b is size = ap (take n) is ∙ take-append-le n a b (omega (arith, size)) ∙ take_all n a (omega (arith, size))

-- one layer more
pub content-more : (layers : List Counts) (i : ℕ) (d : Counts) → i < length layers →
    content (take (i + 1) layers) ≡ ewise_add (content (take i layers)) (get_or layers i d)
content-more layers i d h = ap content (take_more layers i d h)
    ∙ content-append (take i layers) (get_or layers i d ∷ [])
    ∙ ap (ewise_add (content (take i layers))) (ewise_add-empty (get_or layers i d))

-- the first layers have no more than all
pub total-take : (layers : List Counts) (i : ℕ) → total (content (take i layers)) ≤ total (content layers)
total-take layers zero = omega (arith, total-empty)
total-take [] (suc i) = omega arith
total-take (layer ∷ layers) (suc i) = omega (
  arith,
  total-take layers i,
  total-ewise_add layer (content (take i layers)),
  total-ewise_add layer (content layers),
)

pub count_at : (ms : List Matrix) (i : ℕ) (d : Matrix) → i < length ms →
    get_or (all_counts ms) i d.counts ≡ (get_or ms i d).counts
count_at [] i d h = absurd (omega arith)
count_at (m ∷ ms) zero d h = refl
count_at (m ∷ ms) (suc i) d h = count_at ms i d (omega arith)

pub value_at : {Z : Type 0} (layers : List (Arc Matrix Z)) (i : ℕ) (d : Arc Matrix Z) → i < length layers →
    get_or (values layers) i (arc_value d) ≡ arc_value (get_or layers i d)
value_at [] i d h = absurd (omega arith)
value_at (m ∷ ms) zero d h = refl
value_at (m ∷ ms) (suc i) d h = value_at ms i d (omega arith)

pub dims_at : (r c : ℕ) (ms : List Matrix) (i : ℕ) (d : Matrix) → HaveDims r c ms → i < length ms →
    ((get_or ms i d).rows ≡ r) × ((get_or ms i d).cols ≡ c)
dims_at r c [] i d h k = absurd (omega arith)
dims_at r c (m ∷ ms) zero d h k = (h.0, h.1)
dims_at r c (m ∷ ms) (suc i) d h k = dims_at r c ms i d h.2 (omega arith)

pub dims-append : (r c : ℕ) (a b : List Matrix) → HaveDims r c a → HaveDims r c b → HaveDims r c (a ++ b)
dims-append r c [] b h k = k
dims-append r c (m ∷ a) b h k = (h.0, h.1, dims-append r c a b h.2 k)

pub dims-replicate : (r c n : ℕ) (m : Matrix) → m.rows ≡ r → m.cols ≡ c → HaveDims r c (replicate n m)
dims-replicate r c zero m h k = tt
dims-replicate r c (suc n) m h k = (h, k, dims-replicate r c n m h k)

pub dims-drop : (r c n : ℕ) (ms : List Matrix) → HaveDims r c ms → HaveDims r c (drop n ms)
dims-drop r c zero ms h = h
dims-drop r c (suc n) [] h = tt
dims-drop r c (suc n) (m ∷ ms) h = dims-drop r c n ms h.2

-- one copy more
pub replicate-more : {X : Type 0} (n : ℕ) (x : X) → replicate n x ++ x ∷ [] ≡ replicate (n + 1) x
replicate-more zero x = ap (λ k. replicate k x) {x = 1} {y = 0 + 1} refl
replicate-more (suc n) x = ap (λ r. x ∷ r) (replicate-more n x)
    ∙ ap (λ k. replicate k x) {x = suc (n + 1)} {y = suc n + 1} (omega arith)

module _ {Z : Type 0} where
  pub pushed : (old new : List (Arc Matrix Z)) (layer : Arc Matrix Z) → new ≡ old ++ layer ∷ [] →
      values new ≡ values old ++ arc_value layer ∷ []
  pushed old new layer is = ap values is ∙ map-append arc_value old (layer ∷ [])

  pub pushed_copy : (old new : List (Arc Matrix Z)) (base : List Matrix) (i : ℕ) (copy : Arc Matrix Z)
      (value : Matrix) → values old ≡ base ++ replicate i value → new ≡ old ++ copy ∷ [] → arc_value copy ≡ value →
      values new ≡ base ++ replicate (i + 1) value
  pushed_copy old new base i copy value told is same =
      pushed old new copy is ∙ ap (λ (m : Matrix). values old ++ m ∷ []) same
      ∙ ap (λ (r : List Matrix). r ++ value ∷ []) told
      ∙ append_assoc base (replicate i value) (value ∷ [])
      ∙ ap (λ (r : List Matrix). base ++ r) (replicate-more i value)

  pub pushed_layer : (old new layers : List (Arc Matrix Z)) (base : List Matrix) (i : ℕ) (copy d : Arc Matrix Z) →
      i < length layers → values old ≡ base ++ values (take i layers) → new ≡ old ++ copy ∷ [] →
      arc_value copy ≡ arc_value (get_or layers i d) → values new ≡ base ++ values (take (i + 1) layers)
  pushed_layer old new layers base i copy d h told is same =
      pushed old new copy is ∙ ap (λ (m : Matrix). values old ++ m ∷ []) same
      ∙ ap (λ (r : List Matrix). r ++ arc_value (get_or layers i d) ∷ []) told
      ∙ append_assoc base (values (take i layers)) (arc_value (get_or layers i d) ∷ [])
      ∙ ap (λ (r : List Matrix). base ++ r) (sym (map-append arc_value (take i layers) (get_or layers i d ∷ []))
      ∙ sym (ap values (take_more layers i d h)))

-- the matrix of a layer, found in the lists that stand for the layers
module _ {Z : Type 0} (layers : List (Arc Matrix Z)) (i : ℕ) (item : Arc Matrix Z) (x : Matrix) (h : i < length layers)
    (at : item ≡ get_or layers i item) (is : x ≡ arc_value item) where
  found : get_or (values layers) i (arc_value item) ≡ x
  found = value_at layers i item h ∙ sym (ap arc_value at) ∙ sym is

  pub layer_counts : x.counts ≡ get_or (all_counts (values layers)) i (arc_value item).counts
  layer_counts = sym (count_at (values layers) i (arc_value item) (omega (arith, length-map layers arc_value))
      ∙ ap (λ (m : Matrix). m.counts) found)

  pub layer_dims : (r c : ℕ) → HaveDims r c (values layers) → (x.rows ≡ r) × (x.cols ≡ c)
  layer_dims r c dims =
      let there = dims_at r c (values layers) i (arc_value item) dims (omega (arith, length-map layers arc_value)) in
      subst (λ (m : Matrix). (m.rows ≡ r) × (m.cols ≡ c)) found there

pub length-counts : {Z : Type 0} (layers : List (Arc Matrix Z)) → length (all_counts (values layers)) ≡ length layers
length-counts layers = length-map (values layers) (λ (m : Matrix). m.counts) ∙ length-map layers arc_value

-- a sum to which one matrix more was added
pub sum_at : (s a b : Matrix) (c w : Counts) → s ≡ matrix a.rows a.cols (ewise_add a.counts c) → a ≡ b →
    w ≡ ewise_add b.counts c → s ≡ matrix b.rows b.cols w
sum_at s a b c w is same with_c = is ∙ ap (λ (m : Matrix). matrix m.rows m.cols (ewise_add m.counts c)) same
    ∙ ap (matrix b.rows b.cols) (sym with_c)

-- the matrix of a layer, added to those before it
module _ {Z : Type 0} (layers : List (Arc Matrix Z)) (i : ℕ) (item : Arc Matrix Z) (x : Matrix) (h : i < length layers)
    (at : item ≡ get_or layers i item) (is : x ≡ arc_value item) where
  pub sum_more : content (take (i + 1) (all_counts (values layers))) ≡ ewise_add
      (content (take i (all_counts (values layers)))) x.counts
  sum_more =
      content-more (all_counts (values layers)) i (arc_value item).counts (omega (arith, length-counts layers))
      ∙ ap (ewise_add (content (take i (all_counts (values layers))))) (sym (layer_counts layers i item x h at is))

  pub total_more : total (content (take (i + 1) (all_counts (values layers)))) ≡ total
      (content (take i (all_counts (values layers)))) + total x.counts
  total_more = ap total sum_more ∙ total-ewise_add (content (take i (all_counts (values layers)))) x.counts

  pub more_fits : total (content (take i (all_counts (values layers)))) + total x.counts ≤ total
      (content (all_counts (values layers)))
  more_fits = omega (arith, total_more, total-take (all_counts (values layers)) (i + 1))
