-- Entries of the last layer, with what was handed down.
use Rattle.std.proofs.Common.{◌≡◌, ℕ, zero, suc, ◌+◌, ◌-◌, ◌<◌, ◌≤◌, List, [], ◌∷◌, length, take, drop, get_or}
use Rattle.std.proofs.Common.{None, Some, refl, sym, ◌∙◌, ap, arith}
use Rattle.std.specs.declared.sync.Arc.{Arc}
use Rattle.std.specs.Arc.{arc_value}
use Rattle.std.specs.FinMap.{entries, len}
use Rattle.std.proofs.lemmas.List.{take-append-drop, length-map}
use Rattle.hyper_matrix.specs.Counts.{Counts, ewise_add}
use Rattle.hyper_matrix.specs.Matrix.{Matrix}
use Rattle.hyper_matrix.proofs.CountLaws.{ewise_add_assoc}
use Rattle.layer_compaction.specs.Shared.{content, values, all_counts}
use Rattle.layer_compaction.specs.Runs.{count_new}
use Rattle.layer_compaction.proofs.LayerLemmas.{sum_more, content-append, value_at, length-counts}
use Rattle.layer_compaction.proofs.RunLemmas.{len-ewise_add, counts-take}
use Rattle.layer_cascade.specs.Layering.{entries_of_layer}
use Rattle.layer_cascade.specs.Stored.{seen_layers, lowest}
use Rattle.layer_cascade.proofs.KeptLemmas.{seen_next, lowest_next, length-seen}

-- the places with those of one run more
module _ {Z : Type 0} (runs : List (Arc Matrix Z)) (i : ℕ) (item : Arc Matrix Z) (x : Matrix) (h : i < length runs)
    (at : item ≡ get_or runs i item) (is : x ≡ arc_value item) (below : Counts) (places new : ℕ)
    (are : places ≡ len (ewise_add below (content (take i (all_counts (values runs))))))
    (told : new ≡ count_new (ewise_add below (content (all_counts (values (take i runs))))) (entries x.counts)) where
  pub places_over : places + new ≡ len (ewise_add below (content (take (i + 1) (all_counts (values runs)))))
  places_over =
      let before = content (take i (all_counts (values runs))) in
      omega (
        arith,
        are,
        told,
        ap (λ l. count_new (ewise_add below (content l)) (entries x.counts)) (counts-take i runs),
        len-ewise_add (ewise_add below before) x.counts,
        ap len (ewise_add_assoc below before x.counts
            ∙ ap (ewise_add below) (sym (sum_more runs i item x h at is))),
      )

-- the first runs have no more than all
pub places_within : (below : Counts) (ls : List Counts) (i : ℕ) →
    len (ewise_add below (content (take i ls))) ≤ len (ewise_add below (content ls))
places_within below ls i =
    let front = content (take i ls) in
    let rest = content (drop i ls) in
    omega (
      arith,
      len-ewise_add (ewise_add below front) rest,
      ap len (ewise_add_assoc below front rest ∙ ap (ewise_add below)
          (sym (content-append (take i ls) (drop i ls)) ∙ ap content (take-append-drop i ls))),
    )

-- ---- the last layer as contracts see it is made of the last two of the stored ones
pub last_seen : (ls : List Matrix) (n : ℕ) (a b : Matrix) → length ls ≡ n + 2 → get_or ls n a ≡ a →
    get_or ls (suc n) b ≡ b → lowest (seen_layers (all_counts ls)) ≡ ewise_add a.counts b.counts
last_seen [] zero a b k at_a at_b = absurd (omega (arith, k))
last_seen (x ∷ []) zero a b k at_a at_b = absurd (omega (arith, k))
last_seen (x ∷ y ∷ []) zero a b k at_a at_b = λ i. ewise_add (at_a i).counts (at_b i).counts
last_seen (x ∷ y ∷ z ∷ ls) zero a b k at_a at_b = absurd (omega (arith, k))
last_seen [] (suc n) a b k at_a at_b = absurd (omega (arith, k))
last_seen (x ∷ ls) (suc n) a b k at_a at_b =
    let some : 2 ≤ length (all_counts ls) = omega (arith, k, length-map ls (λ (m : Matrix). m.counts)) in
    ap lowest (seen_next x.counts (all_counts ls) some)
    ∙ lowest_next x.counts (seen_layers (all_counts ls)) (omega (arith, some, length-seen (all_counts ls) some))
    ∙ last_seen ls n a b (omega (arith, k)) at_a at_b

entries_lowest : (ls : List Counts) (n : ℕ) → length ls ≡ suc n → entries_of_layer ls (suc n) ≡ Some (len (lowest ls))
entries_lowest [] n k = absurd (omega (arith, k))
entries_lowest (x ∷ []) zero k = refl
entries_lowest (x ∷ []) (suc n) k = absurd (omega (arith, k))
entries_lowest (x ∷ y ∷ ls) zero k = absurd (omega (arith, k))
entries_lowest (x ∷ y ∷ ls) (suc n) k = entries_lowest (y ∷ ls) n (omega (arith, k))

pub entries_past : (ls : List Counts) (i : ℕ) → length ls ≤ i → entries_of_layer ls (suc i) ≡ None
entries_past [] i h = refl
entries_past (x ∷ ls) zero h = absurd (omega (arith, h))
entries_past (x ∷ ls) (suc i) h = entries_past ls i (omega (arith, h))

entries_here : (ls : List Matrix) (n i : ℕ) (x : Matrix) → length ls ≡ n + 2 → i < n → get_or ls i x ≡ x →
    entries_of_layer (seen_layers (all_counts ls)) (suc i) ≡ Some (len x.counts)
entries_here [] n i x k h at = absurd (omega (arith, k))
entries_here (y ∷ ls) zero i x k h at = absurd (omega (arith, h))
entries_here (y ∷ ls) (suc n) zero x k h at =
    ap (λ l. entries_of_layer l 1) (seen_next y.counts (all_counts ls)
    (omega (arith, k, length-map ls (λ (m : Matrix). m.counts)))) ∙ ap (λ (m : Matrix). Some (len m.counts)) at
entries_here (y ∷ ls) (suc n) (suc i) x k h at =
    ap (λ l. entries_of_layer l (suc (suc i))) (seen_next y.counts (all_counts ls)
    (omega (arith, k, length-map ls (λ (m : Matrix). m.counts))))
    ∙ entries_here ls n i x (omega (arith, k)) (omega (arith, h)) at

-- the layers as they are stored, and the one at a place
module _ {Z : Type 0} (layers : List (Arc Matrix Z)) (n i : ℕ) (item : Arc Matrix Z) (k : length layers ≡ n + 2)
    (some : 1 ≤ i) (at : item ≡ get_or layers (i - 1) item) where
  here : (j : ℕ) (x : Arc Matrix Z) → j < length layers → x ≡ get_or layers j x →
      get_or (values layers) j (arc_value x) ≡ arc_value x
  here j x h is = value_at layers j x h ∙ sym (ap arc_value is)

  same : suc (i - 1) ≡ i
  same = omega (arith, some)

  pub entries_before : i < n + 1 → entries_of_layer (seen_layers (all_counts (values layers))) i ≡ Some
      (len (arc_value item).counts)
  entries_before h =
      ap (entries_of_layer (seen_layers (all_counts (values layers)))) (sym same)
      ∙ entries_here (values layers) n (i - 1) (arc_value item) (omega (arith, k, length-map layers arc_value))
      (omega (arith, h, some)) (here (i - 1) item (omega (arith, h, k, some)) at)

  module _ (below : Arc Matrix Z) (last : i ≡ n + 1) (at_below : below ≡ get_or layers i below) where
    pub last_is : lowest (seen_layers (all_counts (values layers))) ≡ ewise_add (arc_value item).counts
        (arc_value below).counts
    last_is = last_seen (values layers) n (arc_value item) (arc_value below)
        (omega (arith, k, length-map layers arc_value))
        (ap (λ j. get_or (values layers) j (arc_value item)) {x = n} {y = i - 1} (omega (arith, last))
        ∙ here (i - 1) item (omega (arith, last, k)) at)
        (ap (λ j. get_or (values layers) j (arc_value below)) {x = suc n} {y = i} (omega (arith, last))
        ∙ here i below (omega (arith, last, k)) at_below)

    pub entries_last : entries_of_layer (seen_layers (all_counts (values layers))) i ≡ Some
        (len (ewise_add (arc_value item).counts (arc_value below).counts))
    entries_last =
        let size : length (all_counts (values layers)) ≡ n + 2 = omega (arith, k, length-counts layers) in
        ap (entries_of_layer (seen_layers (all_counts (values layers)))) {x = i} {y = suc n} (omega (arith, last))
        ∙ entries_lowest (seen_layers (all_counts (values layers))) n
        (omega (arith, size, length-seen (all_counts (values layers)) (omega (arith, size))))
        ∙ ap (λ (m : Counts). Some (len m)) last_is
