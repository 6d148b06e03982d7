-- The bases of shards beside the whole base that they are parts of.
use Rattle.std.proofs.Common.{◌≡◌, ℕ, zero, suc, ◌+◌, ◌<◌, ◌%◌, ◌↔◌, Bool, true, false, cond, eqb, not, ◌&&◌}
use Rattle.std.proofs.Common.{List, [], ◌∷◌, length, get_or, set, take, sym, ◌∙◌, ap, arith}
use Rattle.std.proofs.lemmas.Bool.{and_parts, eq-eqb, eqb-true, ne_eqb, not-false}
use Rattle.std.specs.FinMap.{entries}
use Rattle.hyper_matrix.specs.Counts.{Place, part}
use Rattle.hyper_matrix.proofs.PartLaws.{entries-part}
use Rattle.cells.specs.declared.cell.Cell.{Cell}
use Rattle.hyper_matrix.specs.Cells.{entry_of}
use Rattle.hyper_matrix.specs.Parts.{part_entries}
use Rattle.batch_store.specs.Accepted.{Accepted}
use Rattle.batch_store.specs.Shards.{Holding}
use Rattle.plain_engine.specs.Standing.{AreTogether}
use Rattle.plain_engine.specs.Known.{AreBased}
use Rattle.plain_engine.specs.Bases.{AreNumbered, bases_of, AreParts, AreSpent}
use Rattle.batch_store.proofs.SameMatrices.{same_counts_by_entries}

module _ (k : ℕ) (e : Place × ℕ) (es : List (Place × ℕ)) where
  entries_in : (s : ℕ) → e.0.0 % k ≡ s → part_entries s k (e ∷ es) ≡ e ∷ part_entries s k es
  entries_in s here = ap (λ (b : Bool). cond b (e ∷ part_entries s k es) (part_entries s k es)) (eq-eqb _ _ here)

  entries_out : (s : ℕ) → (e.0.0 % k ≡ s → ⊥) → part_entries s k (e ∷ es) ≡ part_entries s k es
  entries_out s other = ap (λ (b : Bool). cond b (e ∷ part_entries s k es) (part_entries s k es)) (ne_eqb _ _ other)

  -- an entry of a shard before these is in none of them
  parts_behind : (s : ℕ) (ls : List (List (Place × ℕ))) → e.0.0 % k < s →
      AreParts s k ls (e ∷ es) ↔ AreParts s k ls es
  parts_behind s [] below = (λ h. h, λ h. h)
  parts_behind s (l ∷ ls) below =
      let out = entries_out s (λ is. omega (arith, below, is)) in
      let rest = parts_behind (s + 1) ls (omega (arith, below)) in
      (λ h. (h.0 ∙ out, rest.0 h.1), λ h. (h.0 ∙ sym out, rest.1 h.1))

  -- an entry comes first in the list of its shard
  pub parts_first : (s j : ℕ) (ls : List (List (Place × ℕ))) (d : List (Place × ℕ)) → e.0.0 % k ≡ s + j →
      j < length ls → AreParts s k ls (e ∷ es) → get_or ls j d ≡ e ∷ part_entries (e.0.0 % k) k es
  parts_first s j [] d here within h = absurd (omega (arith, within))
  parts_first s zero (l ∷ ls) d here within h =
      let same : e.0.0 % k ≡ s = omega (arith, here) in
      h.0 ∙ entries_in s same ∙ ap (λ (n : ℕ). e ∷ part_entries n k es) (sym same)
  parts_first s (suc j) (l ∷ ls) d here within h =
      parts_first (s + 1) j ls d (omega (arith, here)) (omega (arith, within)) h.1

  -- an entry that comes first there is taken off
  pub parts_next : (s j : ℕ) (ls : List (List (Place × ℕ))) (d r : List (Place × ℕ)) → e.0.0 % k ≡ s + j →
      j < length ls → get_or ls j d ≡ e ∷ r → AreParts s k ls (e ∷ es) ↔ AreParts s k (set ls j r) es
  parts_next s j [] d r here within first = absurd (omega (arith, within))
  parts_next s zero (l ∷ ls) d r here within first =
      let all = entries_in s (omega (arith, here)) in
      let rest = parts_behind (s + 1) ls (omega (arith, here)) in (
        λ h. (let both : e ∷ r ≡ e ∷ part_entries s k es = sym first ∙ h.0 ∙ all in cc, rest.0 h.1),
        λ h. (first ∙ ap (λ xs. e ∷ xs) h.0 ∙ sym all, rest.1 h.1),
      )
  parts_next s (suc j) (l ∷ ls) d r here within first =
      let out = entries_out s (λ is. omega (arith, here, is)) in
      let rest = parts_next (s + 1) j ls d r (omega (arith, here)) (omega (arith, within)) first in
      (λ h. (h.0 ∙ out, rest.0 h.1), λ h. (h.0 ∙ sym out, rest.1 h.1))

-- cells are the same if their rows, columns and counts are
pub cells_agree : (x y : Cell) → not (eqb x.row y.row && (eqb x.col y.col && eqb x.count y.count)) ≡ false →
    entry_of x ≡ entry_of y
cells_agree x y is =
    let rows = and_parts (eqb x.row y.row) (eqb x.col y.col && eqb x.count y.count) (not-false _ is) in
    let others = and_parts (eqb x.col y.col) (eqb x.count y.count) rows.1 in
    λ i. ((eqb-true x.row y.row rows.0 i, eqb-true x.col y.col others.0 i), eqb-true x.count y.count others.1 i)

pub cells_differ : (x y : Cell) → not (eqb x.row y.row && (eqb x.col y.col && eqb x.count y.count)) ≡ true →
    entry_of x ≡ entry_of y → ⊥
cells_differ x y differ is =
    let rows = eq-eqb x.row y.row (ap (λ (e : Place × ℕ). e.0.0) is) in
    let cols = eq-eqb x.col y.col (ap (λ (e : Place × ℕ). e.0.1) is) in
    let counts = eq-eqb x.count y.count (ap (λ (e : Place × ℕ). e.1) is) in
    let same : false ≡ true = sym (λ i. not (rows i && (cols i && counts i))) ∙ differ in
    cc

pub heads : {A : Type 0} {x y : A} {xs ys : List A} → x ∷ xs ≡ y ∷ ys → x ≡ y
heads h = cc

-- of no entries the lists are empty
pub parts_spent : (s k : ℕ) (ls : List (List (Place × ℕ))) → AreParts s k ls [] ↔ AreSpent ls
parts_spent s k [] = (λ h. h, λ h. h)
parts_spent s k (l ∷ ls) =
    let rest = parts_spent (s + 1) k ls in (λ h. (h.0, rest.0 h.1), λ h. (h.0, rest.1 h.1))

-- the bases up to a place, and the one at it
pub filled_next : (xs : List Holding) (ls : List (List (Place × ℕ))) (i : ℕ) (x : Holding) → i < length xs →
    i < length ls → x ≡ get_or xs i x → take i ls ≡ bases_of (take i xs) →
    take (suc i) (set ls i (entries x.base)) ≡ bases_of (take (suc i) xs)
filled_next [] ls i x here room is so_far = absurd (omega (arith, here))
filled_next (y ∷ ys) [] i x here room is so_far = absurd (omega (arith, room))
filled_next (y ∷ ys) (l ∷ ls) zero x here room is so_far = ap (λ (z : Holding). entries z.base ∷ []) is
filled_next (y ∷ ys) (l ∷ ls) (suc i) x here room is so_far =
    let first : l ≡ entries y.base = cc in
    let before : take i ls ≡ bases_of (take i ys) = cc in
    let rest = filled_next ys ls i x (omega (arith, here)) (omega (arith, room)) is before in
    λ i. first i ∷ rest i

-- shards' bases are their parts if their entries are
pub based_by_parts : (a : Accepted) (k i : ℕ) (xs : List Holding) → AreNumbered i xs →
    AreParts i k (bases_of xs) (entries a.base) ↔ AreBased a k xs
based_by_parts a k i [] numbered = (λ h. h, λ h. h)
based_by_parts a k i (x ∷ xs) numbered =
    let cut = entries-part a.base i k in
    let at = ap (λ (n : ℕ). part a.base n k) numbered.0 in
    let rest = based_by_parts a k (i + 1) xs numbered.1 in (
      λ h. (same_counts_by_entries x.base (part a.base i k) (h.0 ∙ sym cut) ∙ sym at, rest.0 h.1),
      λ h. (ap entries (h.0 ∙ at) ∙ cut, rest.1 h.1),
    )

-- shards that belong together have their places for their numbers, and their parts for their bases
pub together_numbered : (k : ℕ) (a : Accepted) (i : ℕ) (xs : List Holding) → AreTogether k a i xs → AreNumbered i xs
together_numbered k a i [] h = h
together_numbered k a i (x ∷ xs) h = (h.0, together_numbered k a (i + 1) xs h.3)

pub together_based : (k : ℕ) (a : Accepted) (i : ℕ) (xs : List Holding) → AreTogether k a i xs → AreBased a k xs
together_based k a i [] h = h
together_based k a i (x ∷ xs) h =
    (h.1 ∙ ap (λ (n : ℕ). part a.base n k) (sym h.0), together_based k a (i + 1) xs h.3)

pub numbered_place : (s : ℕ) (xs : List Holding) (i : ℕ) (x : Holding) → AreNumbered s xs → i < length xs →
    x ≡ get_or xs i x → x.number ≡ s + i
numbered_place s [] i x h here is = absurd (omega (arith, here))
numbered_place s (y ∷ ys) zero x h here is =
    let same : x.number ≡ y.number = ap (λ (z : Holding). z.number) is in omega (arith, same, h.0)
numbered_place s (y ∷ ys) (suc i) x h here is =
    let rest = numbered_place (s + 1) ys i x h.1 (omega (arith, here)) is in omega (arith, rest)
