-- What the segments of a map are together.
--     entries_in        the entries of a row of maps, one map behind another
--     joined            a row of maps and one behind it, as one map: the entries of all, and the room of the last
--     KeepsSegments     what a map's fields keep: no key twice over all segments, and how many entries stand before
--                       the last
use Rattle.std.specs.Prelude.{◌≡◌, ℕ, ◌≤◌, ◌^◌, Bool, List, [], ◌∷◌, ◌++◌, length}
use Rattle.std.specs.List.{IsDistinct}
use Rattle.std.specs.Map.{keys_of}
use Rattle.indexmap.specs.IndexMap.{IndexMap, hasher_of, spare}
use Rattle.indexmap.specs.Layout.{hash_map}

module _ {K V S : Type 0} where
  abbrev pub entries_in : List (IndexMap K V S) → List (K × V)
  entries_in [] = []
  entries_in (m ∷ ms) = m.entries ++ entries_in ms

  abbrev pub joined : List (IndexMap K V S) → IndexMap K V S → IndexMap K V S
  joined full last = hash_map (entries_in full ++ last.entries) (hasher_of last) (spare last)

  pub record KeepsSegments (eq : K → K → Bool) (full : List (IndexMap K V S)) (last : IndexMap K V S)
      (count : ℕ) : Type 0 where
    pub unique : IsDistinct eq (keys_of (entries_in full ++ last.entries))
    pub earlier : count ≡ length (entries_in full)
    pub few : count ≤ 2 ^ 62
