-- The entries of a row of maps, map by map.
use Rattle.std.proofs.Common.{◌≡◌, ℕ, zero, suc, ◌+◌, ◌<◌, ◌≤◌, Bool, List, [], ◌∷◌, ◌++◌, length, take, drop}
use Rattle.std.proofs.Common.{None, Some, position, slice_get, get_or, refl, sym, ◌∙◌, ap, subst, arith, length-append}
use Rattle.std.proofs.Common.{append_assoc, append-nil}
use Rattle.std.specs.Cmp.{IsEquivalence}
use Rattle.std.specs.List.{IsDistinct}
use Rattle.std.specs.Map.{keys_of}
use Rattle.std.proofs.lemmas.List.{map-append, take-append-drop}
use Rattle.std.proofs.lemmas.Map.Entries.{length-keys_of}
use Rattle.indexmap.specs.IndexMap.{IndexMap}
use Rattle.segmented_map.specs.Segments.{entries_in}
use Rattle.segmented_map.proofs.Positions.{get-front, get-behind, get-within, position-first, position-after}
use Rattle.segmented_map.proofs.Positions.{distinct-front}

pub keys-append : {K V : Type 0} (es fs : List (K × V)) → keys_of (es ++ fs) ≡ keys_of es ++ keys_of fs
keys-append {K} {V} es fs = map-append (λ (e : K × V). e.0) es fs

module _ {K V S : Type 0} where
  pub entries_in-append : (ms ns : List (IndexMap K V S)) → entries_in (ms ++ ns) ≡ entries_in ms ++ entries_in ns
  entries_in-append [] ns = refl
  entries_in-append (m ∷ ms) ns = ap (λ es. m.entries ++ es) (entries_in-append ms ns)
      ∙ sym (append_assoc m.entries (entries_in ms) (entries_in ns))

  -- the first maps, and the others
  split : (ms : List (IndexMap K V S)) (i : ℕ) → entries_in ms ≡ entries_in (take i ms) ++ entries_in (drop i ms)
  split ms i = ap entries_in (sym (take-append-drop i ms)) ∙ entries_in-append (take i ms) (drop i ms)

  one_more : (m : IndexMap K V S) (ms : List (IndexMap K V S)) (n : ℕ) → n < length ms → m ≡ get_or ms n m →
      entries_in (take (suc n) ms) ≡ entries_in (take n ms) ++ m.entries
  one_more m [] n within at = absurd (omega (arith, within))
  one_more m (x ∷ xs) zero within at = append-nil x.entries ∙ sym (ap (λ y. y.entries) at)
  one_more m (x ∷ xs) (suc n) within at = ap (λ es. x.entries ++ es) (one_more m xs n (omega (arith, within)) at)
      ∙ sym (append_assoc x.entries (entries_in (take n xs)) m.entries)

  -- the first i maps, of which m is the last, behind n others
  module _ (ms : List (IndexMap K V S)) (n i : ℕ) (m : IndexMap K V S) (is : i ≡ suc n) (within : i ≤ length ms)
      (at : m ≡ get_or ms n m) where
    abbrev before : List (K × V)
    before = entries_in (take n ms)

    step : entries_in (take i ms) ≡ before ++ m.entries
    step = ap (λ k. entries_in (take k ms)) is ∙ one_more m ms n (omega (arith, is, within)) at

    pub step_len : length (entries_in (take i ms)) ≡ length before + length m.entries
    step_len = ap length step ∙ length-append before m.entries

    keys_step : keys_of (entries_in (take i ms)) ≡ keys_of before ++ keys_of m.entries
    keys_step = ap keys_of step ∙ keys-append before m.entries

    -- an entry of that map
    pub entry_step : (k j : ℕ) (e : K × V) → k ≡ length before + j → slice_get m.entries j ≡ Some e →
        slice_get (entries_in ms) k ≡ Some e
    entry_step k j e place found = ap (λ es. slice_get es k) (split ms i)
        ∙ get-within (entries_in (take i ms)) (entries_in (drop i ms)) k e (ap (λ es. slice_get es k) step
        ∙ get-behind before m.entries k j place ∙ found)

    pub get_step : (k j : ℕ) → k ≡ length before + j → slice_get (entries_in (take i ms)) k ≡ slice_get m.entries j
    get_step k j place = ap (λ es. slice_get es k) step ∙ get-behind before m.entries k j place

    pub get_before : (k : ℕ) → k < length before → slice_get (entries_in (take i ms)) k ≡ slice_get before k
    get_before k h = ap (λ es. slice_get es k) step ∙ get-front before m.entries k h

    -- a key that stands there, and one that doesn't
    pub position_step : {eq : K → K → Bool} → IsEquivalence eq → IsDistinct eq (keys_of (entries_in ms)) → (k : K)
        (j : ℕ) → position (eq k) (keys_of m.entries) ≡ Some j →
        position (eq k) (keys_of (entries_in (take i ms))) ≡ Some (length before + j)
    position_step {eq} laws d k j found =
        let all = ap keys_of (split ms i) ∙ keys-append (entries_in (take i ms)) (entries_in (drop i ms)) in
        let front : IsDistinct eq (keys_of (entries_in (take i ms))) = distinct-front laws
        (keys_of (entries_in (take i ms))) (keys_of (entries_in (drop i ms))) (subst (IsDistinct eq) all d) in
        ap (position (eq k)) keys_step
        ∙ position-after laws (keys_of before) (keys_of m.entries) k j (subst (IsDistinct eq) keys_step front) found
        ∙ ap (λ l. Some (l + j)) (length-keys_of before)

    pub position_before : (test : K → Bool) → position test (keys_of m.entries) ≡ None →
        position test (keys_of (entries_in (take i ms))) ≡ position test (keys_of before)
    position_before test none = ap (position test) keys_step
        ∙ position-first test (keys_of before) (keys_of m.entries) none
