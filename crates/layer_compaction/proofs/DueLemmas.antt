-- Runs whose sum is yet to be made: what tells it, and what comes of the runs once it stands in their place.
use Rattle.std.proofs.Common.{◌≡◌, ℕ, suc, ◌+◌, ◌-◌, ◌≤◌, List, [], ◌∷◌, ◌++◌, length, take, drop, Some, None}
use Rattle.std.proofs.Common.{IfSome, sym, ◌∙◌, ap, subst, refl, arith}
use Rattle.std.specs.Prelude.{Option}
use Rattle.std.specs.declared.sync.Arc.{Arc}
use Rattle.std.specs.Arc.{arc_value}
use Rattle.std.specs.FinMap.{entries, len, same_entries_map}
use Rattle.std.proofs.lemmas.List.{take-append-drop, take-append-le, drop-append-le, take-map}
use Rattle.std.proofs.lemmas.List.{length-take-le, length-drop, length-map, length-append, map-append}
use Rattle.std.proofs.Math.Seq.{take-append-add, take-append_seam, drop-append-add, drop-append_seam}
use Rattle.hyper_matrix.specs.Counts.{Place, ewise_add}
use Rattle.hyper_matrix.specs.Matrix.{Matrix, matrix}
use Rattle.hyper_matrix.proofs.CountLaws.{ewise_add-empty}
use Rattle.layer_compaction.specs.Shared.{content, values, all_counts, HaveDims}
use Rattle.layer_compaction.specs.Runs.{CountsPlaces}
use Rattle.layer_compaction.specs.Due.{flat, numbers_of, AddUp, DueRuns, IsDue, part_from, with_one}
use Rattle.layer_compaction.proofs.CountedLemmas.{counts_front}
use Rattle.layer_compaction.proofs.LayerLemmas.{dims-append}
use Rattle.layer_compaction.proofs.RunLemmas.{dims-parts, have_parts, total-parts}
use Rattle.layer_compaction.proofs.PairLemmas.{content-both}

flat_same : (a b : List (Place × ℕ)) → flat a ≡ flat b → a ≡ b
flat_same [] [] e = refl
flat_same [] (y ∷ b) e = absurd cc
flat_same (x ∷ a) [] e = absurd cc
flat_same (x ∷ a) (y ∷ b) e =
    let rest = flat_same a b cc in
    let row : x.0.0 ≡ y.0.0 = cc in
    let col : x.0.1 ≡ y.0.1 = cc in
    let count : x.1 ≡ y.1 = cc in
    (λ i. ((row i, col i), count i) ∷ rest i)

-- the numbers of a matrix tell it
pub numbers_same : (a b : Matrix) → numbers_of a ≡ numbers_of b → a ≡ b
numbers_same a b e =
    let flat_is : flat (entries a.counts) ≡ flat (entries b.counts) = cc in
    let rows : a.rows ≡ b.rows = cc in
    let cols : a.cols ≡ b.cols = cc in
    let counts = same_entries_map a.counts b.counts (flat_same (entries a.counts) (entries b.counts) flat_is) in
    (λ i. matrix (rows i) (cols i) (counts i))

-- some of the runs that may be added up, cut out as two slices
module _ {Z : Type 0} (runs before rest part behind : List (Arc Matrix Z)) (cut : runs ≡ before ++ rest)
    (cut_again : rest ≡ part ++ behind) (r c : ℕ) (all : AddUp r c (values runs)) where
  pub part_adds_up : (shared : List (Arc Matrix Z)) → values shared ≡ values part → AddUp r c (values shared)
  part_adds_up shared are = subst (AddUp r c) (sym are) (record {
    is_rows = all.is_rows;
    is_cols = all.is_cols;
    dims = (have_parts rest part behind cut_again r c (have_parts runs before rest cut r c all.dims).1).0;
    fits = omega (arith, all.fits, total-parts runs before rest cut, total-parts rest part behind cut_again);
  })

-- a run in the stead of some, put between two slices
pub put_between : {Z : Type 0} (runs before rest part behind after : List (Arc Matrix Z)) (run one : Arc Matrix Z)
    (d : DueRuns) → runs ≡ before ++ rest → rest ≡ part ++ behind → length before ≡ d.from → length part ≡ d.count →
    values after ≡ values before ++ arc_value run ∷ values behind → arc_value run ≡ arc_value one →
    values after ≡ with_one d (arc_value one) (values runs)
put_between runs before rest part behind after run one d cut cut_again front here made same =
    let all : values runs ≡ values before ++ (values part ++ values behind) =
    ap values (cut ∙ ap (λ l. before ++ l) cut_again) ∙ map-append arc_value before (part ++ behind)
    ∙ ap (λ l. values before ++ l) (map-append arc_value part behind)
    in
    let from : d.from ≡ length (values before) = omega (arith, front, length-map before arc_value) in
    let count : d.count ≡ length (values part) = omega (arith, here, length-map part arc_value) in
    let first : take d.from (values runs) ≡ values before = (λ i. take (from i) (all i))
    ∙ take-append_seam (values before) (values part ++ values behind)
    in
    let last : drop (d.from + d.count) (values runs) ≡ values behind = (λ i. drop (from i + count i) (all i))
    ∙ drop-append-add (values before) (values part ++ values behind) (length (values part))
    ∙ drop-append_seam (values part) (values behind)
    in
    made ∙ ap (λ (m : Matrix). values before ++ m ∷ values behind) same
    ∙ sym (λ i. first i ++ arc_value one ∷ last i)

-- the sum of the runs that are due, in their stead
module _ (d : DueRuns) (runs : List Matrix) (within : d.from + d.count ≤ length runs) (sum : Matrix)
    (sum_is : sum.counts ≡ content (all_counts (part_from d.from d.count runs))) where
  abbrev front : List Matrix
  front = take d.from runs

  abbrev part : List Matrix
  part = part_from d.from d.count runs

  abbrev behind : List Matrix
  behind = drop (d.from + d.count) runs

  front_len : length front ≡ d.from
  front_len = length-take-le d.from runs (omega (arith, within))

  part_len : length part ≡ d.count
  part_len = length-take-le d.count (drop d.from runs) (omega (arith, within, length-drop d.from runs))

  behind_is : drop d.count (drop d.from runs) ≡ behind
  behind_is = sym (drop-append-add front (drop d.from runs) d.count)
      ∙ ap (drop (length front + d.count)) (take-append-drop d.from runs)
      ∙ ap (λ n. drop (n + d.count) runs) front_len

  cut : front ++ (part ++ behind) ≡ runs
  cut = ap (λ l. front ++ (part ++ l)) (sym behind_is)
      ∙ ap (λ l. front ++ l) (take-append-drop d.count (drop d.from runs)) ∙ take-append-drop d.from runs

  -- whatever stands behind them
  content-one : (rest : List Matrix) →
      content (all_counts (front ++ sum ∷ rest)) ≡ content (all_counts (front ++ (part ++ rest)))
  content-one rest =
      let left = content (all_counts front) in
      let right = content (all_counts rest) in
      content-both front (sum ∷ rest)
      ∙ ap (λ s. ewise_add left (ewise_add s right)) sum_is
      ∙ ap (ewise_add left) (sym (content-both part rest))
      ∙ sym (content-both front (part ++ rest))

  pub content-exchanged : content (all_counts (with_one d sum runs)) ≡ content (all_counts runs)
  content-exchanged = content-one behind ∙ ap (λ l. content (all_counts l)) cut

  pub dims-exchanged : (r c : ℕ) → sum.rows ≡ r → sum.cols ≡ c → HaveDims r c runs →
      HaveDims r c (with_one d sum runs)
  dims-exchanged r c rows cols dims =
      let parts = dims-parts r c front (part ++ behind) (subst (HaveDims r c) (sym cut) dims) in
      dims-append r c front (sum ∷ behind) parts.0 (rows, cols, (dims-parts r c part behind parts.1).1)

  -- the runs behind those that are counted don't count
  pub counted_before : (k p : ℕ) → k ≤ d.from → CountsPlaces k p runs → CountsPlaces k p (with_one d sum runs)
  counted_before k p order counts = counts_front k p d.from (with_one d sum runs) runs
      (ap (λ n. take n (with_one d sum runs)) (sym front_len) ∙ take-append_seam front (sum ∷ behind)) order
      (omega (arith, within)) counts

  -- where all of them are counted, one takes their place
  pub counted_within : (k p one : ℕ) → d.from + d.count ≤ k → one + d.count ≡ k + 1 → CountsPlaces k p runs →
      CountsPlaces one p (with_one d sum runs)
  counted_within k p one order less counts =
      let j = k - (d.from + d.count) in
      let before : take k runs ≡ front ++ (part ++ take j behind) =
      ap (take k) (sym cut)
      ∙ ap (λ n. take n (front ++ (part ++ behind))) {x = k} {y = length front + (length part + j)}
      (omega (arith, order, front_len, part_len))
      ∙ take-append-add front (part ++ behind) (length part + j)
      ∙ ap (λ l. front ++ l) (take-append-add part behind j)
      in
      let after : take one (with_one d sum runs) ≡ front ++ sum ∷ take j behind =
      ap (λ n. take n (with_one d sum runs)) {x = one} {y = length front + suc j}
      (omega (arith, order, less, front_len))
      ∙ take-append-add front (sum ∷ behind) (suc j)
      in record {
        within = omega (
          arith,
          counts.within,
          less,
          ap length cut,
          length-append front (part ++ behind),
          length-append part behind,
          length-append front (sum ∷ behind),
          part_len,
        );
        places_are = counts.places_are
            ∙ ap (λ l. len (content l)) (take-map (λ (m : Matrix). m.counts) k runs ∙ ap all_counts before)
            ∙ sym (ap len (content-one (take j behind)))
            ∙ ap (λ l. len (content l)) (sym (take-map (λ (m : Matrix). m.counts) one (with_one d sum runs)
            ∙ ap all_counts after));
      }

  -- in front it is a single run
  pub counted_first : (n : ℕ) → d.from ≡ 0 → n ≡ len sum.counts → CountsPlaces 1 n (with_one d sum runs)
  counted_first n first are =
      let none : front ≡ [] = ap (λ k. take k runs) first in
      subst (λ l. CountsPlaces 1 n (l ++ sum ∷ behind)) (sym none) (record {
        within = omega arith;
        places_are = are ∙ sym (ap len (ewise_add-empty sum.counts));
      })

-- runs that are due stay so where more are put behind
pub due_beside : (r c : ℕ) (due : Option DueRuns) (held more all : List Matrix) → all ≡ held ++ more →
    IfSome due (λ d. IsDue r c d held) → IfSome due (λ d. IsDue r c d all)
due_beside r c None held more all are h = h
due_beside r c (Some d) held more all are h = record {
  within = omega (arith, h.within, ap length are, length-append held more);
  told = h.told ∙ ap (λ l. numbers_of (matrix r c (content (all_counts l)))) (sym
      (ap (part_from d.from d.count) are
      ∙ ap (take d.count) (drop-append-le d.from held more (omega (arith, h.within)))
      ∙ take-append-le d.count (drop d.from held) more (omega (arith, h.within, length-drop d.from held))));
}

-- a sum that has the numbers that were told is the sum of the runs that are due
pub sum_due : (r c : ℕ) (d : DueRuns) (runs : List Matrix) (sum : Matrix) → IsDue r c d runs →
    numbers_of sum ≡ d.told → sum ≡ matrix r c (content (all_counts (part_from d.from d.count runs)))
sum_due r c d runs sum due told = numbers_same sum _ (told ∙ due.told)
