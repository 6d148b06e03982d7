-- The next cell among those of all pieces of a matrix.
use Rattle.std.proofs.Common.{◌≡◌, ℕ, zero, suc, ◌+◌, ◌<◌, ◌%◌, Bool, true, false, cond, T, List, [], ◌∷◌, length, get_or, set}
use Rattle.std.proofs.Common.{Option, None, Some, IfSome, map, refl, sym, ◌∙◌, ap, subst, arith, inl, inr, Bor}
use Rattle.std.proofs.lemmas.Bool.{cases_order, eq-eqb, ne_eqb, false≢true}
use Rattle.std.proofs.lemmas.List.{get_or-map, length-map, map-set}
use Rattle.std.specs.FinMap.{is_sorted}
use Rattle.std.specs.FinMap.Entries.{below_all}
use Rattle.cells.specs.declared.cell.Cell.{Cell}
use Rattle.hyper_matrix.specs.Counts.{Place, place_cmp, in_part}
use Rattle.hyper_matrix.specs.Cells.{entry_of, place_of}
use Rattle.hyper_matrix.specs.Parts.{part_entries}
use Rattle.hyper_matrix.specs.Search.{is_before}
use Rattle.hyper_matrix.proofs.CountLaws.{T_first, T_second}
use Rattle.hyper_matrix.proofs.LookUpLaws.{as_true, before_trans}
use Rattle.hyper_matrix.proofs.SearchLaws.{not_before_self}
use Rattle.batch_store.specs.Walks.{AreParts, HasFirst, IsLater, Leads, entries_left}

not_before : (p q : Place) → is_before p q ≡ true → is_before q p ≡ false
not_before p q before = by (is_before q p) refl
  where
    by : (b : Bool) → is_before q p ≡ b → b ≡ false
    by false e = refl
    by true e = absurd (false≢true (sym (not_before_self p) ∙ before_trans p q p before e))

-- what lies in a part of the rest comes later
later : (e x : Place × ℕ) (s k : ℕ) (es xs : List (Place × ℕ)) → T (is_sorted place_cmp (e ∷ es)) →
    part_entries s k es ≡ x ∷ xs → is_before e.0 x.0 ≡ true
later e x s k es xs sorted is = go es (T_first _ _ sorted) is
  where
    go : (fs : List (Place × ℕ)) → T (below_all place_cmp e.0 fs) → part_entries s k fs ≡ x ∷ xs →
        is_before e.0 x.0 ≡ true
    go [] below h = absurd cc
    go (f ∷ fs) below h = by (in_part s k f.0) (go fs (T_second _ _ below)) h
      where
        by : (t : Bool) → (part_entries s k fs ≡ x ∷ xs → is_before e.0 x.0 ≡ true) →
            cond t (f ∷ part_entries s k fs) (part_entries s k fs) ≡ x ∷ xs → is_before e.0 x.0 ≡ true
        by true rest h =
            let same : f ≡ x = cc in
            ap (λ (y : Place × ℕ). is_before e.0 y.0) (sym same) ∙ as_true _ (T_first _ _ below)
        by false rest h = rest h

-- the part at a place
part_here : (s k j : ℕ) (ls : List (List (Place × ℕ))) (es d : List (Place × ℕ)) → j < length ls →
    AreParts s k ls es → get_or ls j d ≡ part_entries (s + j) k es
part_here s k j [] es d here h = absurd (omega (arith, here))
part_here s k zero (l ∷ ls) es d here h = h.0 ∙ ap (λ (n : ℕ). part_entries n k es) {x = s} {y = s + zero} (omega arith)
part_here s k (suc j) (l ∷ ls) es d here h = part_here (s + 1) k j ls es d (omega (arith, here)) h.1
    ∙ ap (λ (n : ℕ). part_entries n k es) {x = s + 1 + j} {y = s + suc j} (omega arith)

-- a list of cells whose entries begin so
begins : (cells : List Cell) (e : Place × ℕ) (r : List (Place × ℕ)) → map entry_of cells ≡ e ∷ r → HasFirst e cells
begins [] e r h = absurd cc
begins (c ∷ cs) e r h = let same : entry_of c ≡ e = cc in (c, cs, refl, same)

nothing : (cells : List Cell) → map entry_of cells ≡ [] → cells ≡ []
nothing [] h = refl
nothing (c ∷ cs) h = absurd cc

module _ (k : ℕ) (e : Place × ℕ) (es : List (Place × ℕ)) where
  pub entries_in : (s : ℕ) → e.0.0 % k ≡ s → part_entries s k (e ∷ es) ≡ e ∷ part_entries s k es
  entries_in s here = ap (λ (b : Bool). cond b (e ∷ part_entries s k es) (part_entries s k es)) (eq-eqb _ _ here)

  pub entries_out : (s : ℕ) → (e.0.0 % k ≡ s → ⊥) → part_entries s k (e ∷ es) ≡ part_entries s k es
  entries_out s other = ap (λ (b : Bool). cond b (e ∷ part_entries s k es) (part_entries s k es)) (ne_eqb _ _ other)

  -- what is left of a piece that the first entry isn't in comes after it
  comes_later : (s : ℕ) (cells : List Cell) → T (is_sorted place_cmp (e ∷ es)) → (e.0.0 % k ≡ s → ⊥) →
      map entry_of cells ≡ part_entries s k (e ∷ es) → IsLater e cells
  comes_later s cells sorted other are c cs is =
      later e (entry_of c) s k es (map entry_of cs) sorted
      (sym (entries_out s other) ∙ sym are ∙ ap (map entry_of) is)

-- one piece more
module _ (k p : ℕ) (ls : List (List (Place × ℕ))) (found now : Option ℕ) (first next cells : List Cell) (r : Bool)
    (here : (es : List (Place × ℕ)) → AreParts 0 k ls es → map entry_of cells ≡ part_entries p k es)
    (none : cells ≡ [] → r ≡ false)
    (last : (c : Cell) (cs : List Cell) → cells ≡ c ∷ cs → first ≡ [] → r ≡ true)
    (both : (c o : Cell) (cs os : List Cell) → cells ≡ c ∷ cs → first ≡ o ∷ os → r ≡ is_before (place_of c) (place_of o))
    (h : Leads k p ls found first) (taken : r ≡ true → (next ≡ cells) × (now ≡ Some p))
    (kept : r ≡ false → (next ≡ first) × (now ≡ found)) where
  at_piece : (e : Place × ℕ) (es : List (Place × ℕ)) → T (is_sorted place_cmp (e ∷ es)) → AreParts 0 k ls (e ∷ es) →
      e.0.0 % k ≡ p → (now ≡ Some (e.0.0 % k)) × HasFirst e next
  at_piece e es sorted parts same =
      let own = begins cells e (part_entries p k es) (here (e ∷ es) parts ∙ entries_in k e es p same) in
      let before = (h.some e es sorted parts).1 (omega (arith, same)) in
      let yes = by first refl own before in
      let t = taken yes in
      (t.1 ∙ ap Some (sym same), subst (HasFirst e) (sym t.0) own)
    where
      by : (f : List Cell) → first ≡ f → HasFirst e cells → IsLater e first → r ≡ true
      by [] is own before = last own.0 own.1 own.2 is
      by (o ∷ os) is own before = both own.0 o own.1 os own.2 is
          ∙ ap (λ (x : Place × ℕ). is_before x.0 (place_of o)) own.3 ∙ before o os is

  behind_piece : (e : Place × ℕ) (es : List (Place × ℕ)) → T (is_sorted place_cmp (e ∷ es)) → AreParts 0 k ls (e ∷ es) →
      e.0.0 % k < p → (now ≡ Some (e.0.0 % k)) × HasFirst e next
  behind_piece e es sorted parts below =
      let had = (h.some e es sorted parts).0 below in
      let after = comes_later k e es p cells sorted (λ is. omega (arith, is, below)) (here (e ∷ es) parts) in
      let no = by cells refl had.1 after in
      let t = kept no in
      (t.1 ∙ had.0, subst (HasFirst e) (sym t.0) had.1)
    where
      by : (x : List Cell) → cells ≡ x → HasFirst e first → IsLater e cells → r ≡ false
      by [] is had after = none is
      by (c ∷ cs) is had after = both c had.0 cs had.1 is had.2
          ∙ ap (λ (x : Place × ℕ). is_before (place_of c) x.0) had.3 ∙ not_before e.0 (place_of c) (after c cs is)

  before_piece : (e : Place × ℕ) (es : List (Place × ℕ)) → T (is_sorted place_cmp (e ∷ es)) → AreParts 0 k ls (e ∷ es) →
      p < e.0.0 % k → IsLater e next
  before_piece e es sorted parts above = by r refl
    where
      by : (b : Bool) → r ≡ b → IsLater e next
      by true is = subst (IsLater e) (sym (taken is).0)
          (comes_later k e es p cells sorted (λ same. omega (arith, same, above)) (here (e ∷ es) parts))
      by false is = subst (IsLater e) (sym (kept is).0) ((h.some e es sorted parts).1 (omega (arith, above)))

  pub leads_next : Leads k (p + 1) ls now next
  leads_next = record {
    within = by r refl;
    none = λ parts.
        let t = kept (none (nothing cells (here [] parts))) in
        let was = h.none parts in
        (t.1 ∙ was.0, t.0 ∙ was.1);
    some = λ e es sorted parts. (
      λ within. elim (cases_order (e.0.0 % k) p) [
        | inl same ↦ at_piece e es sorted parts same
        | inr (inl below) ↦ behind_piece e es sorted parts below
        | inr (inr above) ↦ absurd (omega (arith, within, above))
      ],
      λ beyond. before_piece e es sorted parts (omega (arith, beyond)),
    );
  }
    where
      up : (o : Option ℕ) → IfSome o (λ i. i < p) → IfSome o (λ i. i < p + 1)
      up None is = tt
      up (Some i) is = omega (arith, is)

      by : (b : Bool) → r ≡ b → IfSome now (λ i. i < p + 1)
      by true is = subst (λ (o : Option ℕ). IfSome o (λ i. i < p + 1)) (sym (taken is).1) (omega arith)
      by false is = subst (λ (o : Option ℕ). IfSome o (λ i. i < p + 1)) (sym (kept is).1) (up found h.within)

-- the entries that are left of a piece
pub left_here : (left : List (Bor (List Cell))) (p : ℕ) (d : Bor (List Cell)) → p < length left →
    (es : List (Place × ℕ)) → AreParts 0 (length left) (entries_left left) es →
    map entry_of (get_or left p d).now ≡ part_entries p (length left) es
left_here left p d here es parts =
    let f : Bor (List Cell) → List (Place × ℕ) = λ x. map entry_of x.now in
    sym (get_or-map f left p d (f d) here)
    ∙ part_here 0 (length left) p (entries_left left) es (f d) (omega (arith, here, length-map left f)) parts
    ∙ ap (λ (n : ℕ). part_entries n (length left) es) {x = 0 + p} {y = p} (omega arith)

module _ (k : ℕ) (e : Place × ℕ) (es : List (Place × ℕ)) where
  -- an entry of a shard before these is in none of them
  parts_behind : (s : ℕ) (ls : List (List (Place × ℕ))) → e.0.0 % k < s → AreParts s k ls (e ∷ es) → AreParts s k ls es
  parts_behind s [] below h = h
  parts_behind s (l ∷ ls) below h =
      (h.0 ∙ entries_out k e es s (λ is. omega (arith, below, is)), parts_behind (s + 1) ls (omega (arith, below)) h.1)

  -- an entry that comes first in its list is taken off
  parts_next : (s j : ℕ) (ls : List (List (Place × ℕ))) (d r : List (Place × ℕ)) → e.0.0 % k ≡ s + j → j < length ls →
      get_or ls j d ≡ e ∷ r → AreParts s k ls (e ∷ es) → AreParts s k (set ls j r) es
  parts_next s j [] d r here within first h = absurd (omega (arith, within))
  parts_next s zero (l ∷ ls) d r here within first h =
      let both : e ∷ r ≡ e ∷ part_entries s k es = sym first ∙ h.0 ∙ entries_in k e es s (omega (arith, here)) in
      (cc, parts_behind (s + 1) ls (omega (arith, here)) h.1)
  parts_next s (suc j) (l ∷ ls) d r here within first h = (
    h.0 ∙ entries_out k e es s (λ is. omega (arith, here, is)),
    parts_next (s + 1) j ls d r (omega (arith, here)) (omega (arith, within)) first h.1,
  )

module _ (left : List (Bor (List Cell))) (p : ℕ) (d : Bor (List Cell)) (e : Place × ℕ) (es : List (Place × ℕ))
    (some : 0 < length left) (found : Some p ≡ Some (e.0.0 % length left))
    (parts : AreParts 0 (length left) (entries_left left) (e ∷ es)) where
  here_is : p ≡ e.0.0 % length left
  here_is = cc

  pub piece_begins : HasFirst e (get_or left p d).now
  piece_begins = begins (get_or left p d).now e (part_entries p (length left) es)
      (left_here left p d (omega (arith, here_is, some)) (e ∷ es) parts
      ∙ entries_in (length left) e es p (sym here_is))

  -- it isn't empty
  pub piece_has : length (get_or left p d).now ≡ 0 → ⊥
  piece_has none = absurd (omega (arith, none, ap length piece_begins.2))

  module _ (c : Cell) (rest : Bor (List Cell)) (is : (get_or left p d).now ≡ c ∷ rest.now) where
    pub first_is : entry_of c ≡ e
    first_is =
        let all : c ∷ rest.now ≡ piece_begins.0 ∷ piece_begins.1 = sym is ∙ piece_begins.2 in
        let same : c ≡ piece_begins.0 = cc in
        ap entry_of same ∙ piece_begins.3

    pub rest_are : AreParts 0 (length left) (entries_left (set left p rest)) es
    rest_are =
        let f : Bor (List Cell) → List (Place × ℕ) = λ x. map entry_of x.now in
        let within : p < length left = omega (arith, here_is, some) in
        let at : get_or (entries_left left) p (f d) ≡ e ∷ f rest =
        get_or-map f left p d (f d) within ∙ ap (map entry_of) is ∙ ap (λ (x : Place × ℕ). x ∷ f rest) first_is in
        subst (λ (ls : List (List (Place × ℕ))). AreParts 0 (length left) ls es) (sym (map-set f left p rest))
        (parts_next (length left) e es 0 p (entries_left left) (f d) (f rest) (omega (arith, here_is))
        (omega (arith, within, length-map left f)) at parts)
