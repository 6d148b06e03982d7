-- How many places the first runs of a layer have, which is kept beside the runs.
use Rattle.std.proofs.Common.{◌≡◌, ℕ, ◌+◌, ◌<◌, ◌≤◌, ◌^◌, List, ◌++◌, length, map, take, drop, get_or, sym, ◌∙◌, ap}
use Rattle.std.proofs.Common.{arith, append_assoc, length-append}
use Rattle.std.specs.declared.sync.Arc.{Arc}
use Rattle.std.specs.Arc.{arc_value}
use Rattle.std.specs.FinMap.{len, len-empty, entries}
use Rattle.cells.specs.declared.cell.Cell.{Cell}
use Rattle.cells.specs.Order.{Rise}
use Rattle.std.proofs.lemmas.List.{take-append-drop, take-append-le, take-map, length-take, length-map}
use Rattle.hyper_matrix.specs.Cells.{built_of, entry_of}
use Rattle.hyper_matrix.specs.Counts.{place_cmp, ewise_add}
use Rattle.hyper_matrix.specs.Matrix.{Matrix}
use Rattle.hyper_matrix.proofs.CountLaws.{ewise_add_comm}
use Rattle.hyper_matrix.proofs.PlaceOrderLaws.{sorted_rising}
use Rattle.hyper_matrix.proofs.SortedListLaws.{built-in_order, entries-in_order}
use Rattle.layer_compaction.specs.Shared.{content, values, all_counts}
use Rattle.layer_compaction.specs.Runs.{CountsPlaces, count_new}
use Rattle.layer_compaction.proofs.LayerLemmas.{sum_more, take-front}
use Rattle.layer_compaction.proofs.RunLemmas.{len-ewise_add, len-ewise_add-le, content-parts, counts-take}

-- nothing is counted
pub counts_none : (runs : List Matrix) → CountsPlaces 0 0 runs
counts_none runs = record { within = omega arith; places_are = sym (len-empty place_cmp ℕ) }

-- the first runs are the same
module _ (k p n : ℕ) (a b : List Matrix) (same : take n a ≡ take n b) (behind : k ≤ n) (some : n ≤ length b) where
  long : (l : List Matrix) → take n l ≡ take n b → n ≤ length l
  long l is = omega (arith, some, ap length is, length-take n l, length-take n b)

  front : (l : List Matrix) → take n l ≡ take n b → take k l ≡ take k (take n b)
  front l is = ap (take k) (sym (take-append-drop n l))
      ∙ take-append-le k (take n l) (drop n l) (omega (arith, behind, long l is, length-take n l))
      ∙ ap (take k) is

  pub counts_front : CountsPlaces k p b → CountsPlaces k p a
  counts_front counts = record {
    within = omega (arith, behind, long a same);
    places_are = counts.places_are
        ∙ ap (λ l. len (content l)) (take-map (λ (m : Matrix). m.counts) k b
        ∙ ap all_counts (front b (λ i. take n b) ∙ sym (front a same))
        ∙ sym (take-map (λ (m : Matrix). m.counts) k a));
  }

-- runs behind those that are counted
pub counts_beside : (k p : ℕ) (held more all : List Matrix) → all ≡ held ++ more → CountsPlaces k p held →
    CountsPlaces k p all
counts_beside k p held more all are counts = counts_front k p (length held) all held
    (ap (take (length held)) are ∙ take-append-le (length held) held more (omega arith)) counts.within (omega arith)
    counts

-- all runs have no more entries than those that are counted and the others together
module _ {Z : Type 0} (k p most : ℕ) (runs : List (Arc Matrix Z)) (counts : CountsPlaces k p (values runs))
    (few : len (content (all_counts (values runs))) ≤ most) where
  parts : content (all_counts (values runs)) ≡ ewise_add (content (all_counts (values (take k runs))))
      (content (all_counts (values (drop k runs))))
  parts = content-parts runs (take k runs) (drop k runs) (sym (take-append-drop k runs))

  front_places : p ≡ len (content (all_counts (values (take k runs))))
  front_places = counts.places_are ∙ ap (λ l. len (content l)) (sym (counts-take k runs))

  rest_within : len (content (all_counts (values (drop k runs)))) ≤ len (content (all_counts (values runs)))
  rest_within =
      let front = content (all_counts (values (take k runs))) in
      let rest = content (all_counts (values (drop k runs))) in
      omega (arith, ap len (parts ∙ ewise_add_comm front rest), len-ewise_add rest front)

  pub few_behind : (bound : ℕ) → most < 2 ^ 64 →
      (len (content (all_counts (values (drop k runs)))) < 2 ^ 64 →
      len (content (all_counts (values (drop k runs)))) ≤ bound) →
      len (content (all_counts (values runs))) ≤ p + bound
  few_behind bound fits told = omega (
    arith,
    ap len parts,
    len-ewise_add-le (content (all_counts (values (take k runs)))) (content (all_counts (values (drop k runs)))),
    front_places,
    told (omega (arith, few, fits, rest_within)),
  )

-- the places with those of one run more
module _ {Z : Type 0} (runs : List (Arc Matrix Z)) (i : ℕ) (item : Arc Matrix Z) (x : Matrix) (h : i < length runs)
    (at : item ≡ get_or runs i item) (is : x ≡ arc_value item) (places new : ℕ)
    (told : new ≡ count_new (content (all_counts (values (take i runs)))) (entries x.counts)) where
  pub places_more : places ≡ len (content (take i (all_counts (values runs)))) →
      places + new ≡ len (content (take (i + 1) (all_counts (values runs))))
  places_more are =
      let before = content (take i (all_counts (values runs))) in
      ap (λ n. n + new) are
      ∙ ap (λ n. len before + n) (told ∙ ap (λ l. count_new (content l) (entries x.counts)) (counts-take i runs))
      ∙ sym (ap len (sum_more runs i item x h at is) ∙ len-ewise_add before x.counts)

  pub counts_more : CountsPlaces i places (values runs) → CountsPlaces (i + 1) (places + new) (values runs)
  counts_more counts = record {
    within = omega (arith, h, length-map runs arc_value);
    places_are = places_more counts.places_are;
  }

-- the places with those of several runs more
module _ {Z : Type 0} (runs known behind before rest : List (Arc Matrix Z)) (cut : runs ≡ known ++ behind)
    (cut_again : known ≡ before ++ rest) (k n places new : ℕ) (k_is : k ≡ length before) (n_is : n ≡ length known)
    (told : new ≡ count_new (content (all_counts (values before))) (entries (content (all_counts (values rest))))) where
  first_counts : (i : ℕ) (a b : List (Arc Matrix Z)) → runs ≡ a ++ b → i ≡ length a →
      content (take i (all_counts (values runs))) ≡ content (all_counts (values a))
  first_counts i a b is size = ap content (sym (counts-take i runs))
      ∙ ap (λ l. content (all_counts (values l))) (take-front i runs a b is size)

  pub counts_together : CountsPlaces k places (values runs) → CountsPlaces n (places + new) (values runs)
  counts_together counts =
      let left = content (all_counts (values before)) in
      let all_before = cut ∙ ap (λ l. l ++ behind) cut_again ∙ append_assoc before rest behind in
      record {
        within = omega (arith, n_is, ap length cut, length-append known behind, length-map runs arc_value);
        places_are = omega (
          arith,
          counts.places_are,
          ap len (first_counts k before (rest ++ behind) all_before k_is),
          told,
          len-ewise_add left (content (all_counts (values rest))),
          ap len (content-parts known before rest cut_again),
          ap len (first_counts n known behind cut n_is),
        );
      }

-- the cells of a list in order are the entries of what it builds
pub entries-rising : (cells : List Cell) → Rise cells → entries (built_of cells) ≡ map entry_of cells
entries-rising cells rises =
    let sorted = sorted_rising cells rises in
    ap entries (built-in_order (map entry_of cells) sorted) ∙ entries-in_order (map entry_of cells) sorted
