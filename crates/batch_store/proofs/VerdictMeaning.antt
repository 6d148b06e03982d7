-- The verdict that a program finds is the one whose meaning stands.
use Rattle.std.proofs.Common.{◌≡◌, ℕ, zero, suc, ◌+◌, ◌<◌, Bool, true, false, eqb, ltb, leb, ◌&&◌, List, [], ◌∷◌}
use Rattle.std.proofs.Common.{length, take, get_or, Option, None, Some, position, refl, sym, ◌∙◌, ap, arith}
use Rattle.std.specs.Prelude.{if◌then◌else◌}
use Rattle.std.specs.List.{IsDistinct, AllByRecursion}
use Rattle.std.proofs.lemmas.Bool.{and_parts, ltb-true, ltb-false, lt-ltb, le-ltb, leb-true, leb-false, le-leb, lt-leb}
use Rattle.std.proofs.lemmas.Bool.{eq-eqb, eqb-true}
use Rattle.std.proofs.lemmas.List.{get_or-map, length-map}
use Rattle.std.proofs.lemmas.List.Quantifiers.{position-Some}
use Rattle.std.proofs.lemmas.Option.{slice_get-get_or, slice_get_within, get_or_from_slice_get}
use Rattle.batch_store.specs.declared.verdict.Entry.{Entry}
use Rattle.batch_store.specs.declared.verdict.Verdict.{Verdict}
use Rattle.batch_store.specs.declared.verdict.Verdict.TheVariants.{Fresh, Known, NumberReused, OverTotal, BookFull}
use Rattle.batch_store.specs.Verdicts.{verdict_of, verdict_at, verdict_on_new, same_pair, pair_of, total_of_entries}
use Rattle.batch_store.specs.Verdicts.{kept, HasPair, IsVerdict}
use Rattle.batch_store.proofs.VerdictLaws.{none_same, same_pair_flips}

-- the test of two pairs, both ways
same_pair_is : (b e : Entry) → same_pair b e ≡ true → pair_of e ≡ pair_of b
same_pair_is b e h =
    let p = and_parts (eqb b.client e.client) (eqb b.number e.number) h in
    λ i. (sym (eqb-true b.client e.client p.0) i, sym (eqb-true b.number e.number p.1) i)

pair_is_same : (b e : Entry) → pair_of e ≡ pair_of b → same_pair b e ≡ true
pair_is_same b e h = λ i. eq-eqb b.client e.client (sym (ap (λ (p : ℕ × ℕ). p.0) h)) i && eq-eqb b.number e.number
    (sym (ap (λ (p : ℕ × ℕ). p.1) h)) i

-- all four numbers of two entries are the same
same_entry : (e b : Entry) → same_pair b e ≡ true → e.cells ≡ b.cells → e.total ≡ b.total → e ≡ b
same_entry e b pair cells total =
    let p = same_pair_is b e pair in
    λ i. record {
      client = (ap (λ (q : ℕ × ℕ). q.0) p) i;
      number = (ap (λ (q : ℕ × ℕ). q.1) p) i;
      cells = cells i;
      total = total i;
    }

differs : {b : Bool} → b ≡ false → b ≡ true → ⊥
differs p q = cc

all_at : (P : Entry → Type 0) (es : List Entry) (i : ℕ) (d : Entry) → AllByRecursion P es → i < length es →
    P (get_or es i d)
all_at P [] i d h within = absurd (omega arith)
all_at P (e ∷ es) zero d h within = h.0
all_at P (e ∷ es) (suc i) d h within = all_at P es i d h.1 (omega arith)

-- in a list of distinct pairs each stands at one place
one_place : (es : List Entry) (i j : ℕ) (d : Entry) → IsDistinct same_pair es → i < length es → j < length es →
    same_pair (get_or es i d) (get_or es j d) ≡ true → i ≡ j
unfolding IsDistinct
one_place [] i j d h hi hj same = absurd (omega arith)
one_place (e ∷ es) zero zero d h hi hj same = refl
one_place (e ∷ es) zero (suc j) d h hi hj same = absurd (differs (all_at _ es j d h.0 (omega arith)) same)
one_place (e ∷ es) (suc i) zero d h hi hj same =
    absurd (differs (all_at _ es i d h.0 (omega arith)) (same_pair_flips e (get_or es i d) ∙ same))
one_place (e ∷ es) (suc i) (suc j) d h hi hj same = ap suc (one_place es i j d h.1 (omega arith) (omega arith) same)

has_pair : (es : List Entry) (b : Entry) (i : ℕ) → i < length es → same_pair b (get_or es i b) ≡ true → HasPair es b
has_pair es b i within same = (
  i,
  omega (arith, length-map es pair_of),
  get_or-map pair_of es i b (pair_of b) within
      ∙ same_pair_is b (get_or es i b) same,
)

-- where no place is found, the pair stands nowhere
new_pair : (es : List Entry) (b : Entry) → position (same_pair b) es ≡ None → HasPair es b → ⊥
new_pair es b none (i, within, is) =
    let here : i < length es = omega (arith, within, length-map es pair_of) in
    let same : pair_of (get_or es i b) ≡ pair_of b = sym (get_or-map pair_of es i b (pair_of b) here) ∙ is in
    differs (all_at (λ (e : Entry). same_pair e b ≡ false) es i b (none_same b es none) here)
    (same_pair_flips (get_or es i b) b ∙ pair_is_same b (get_or es i b) same)

-- in a list of distinct pairs the place that is found is the batch's
found_at : (es : List Entry) (b : Entry) (i k : ℕ) → IsDistinct same_pair es → position (same_pair b) es ≡ Some i →
    k < length es → get_or es k b ≡ b → i ≡ k
found_at es b i k distinct found within is =
    let p = position-Some (same_pair b) es i b found in
    one_place es i k b distinct p.0 within (ap (same_pair (get_or es i b)) is ∙ same_pair_flips (get_or es i b) b ∙ p.1)

pair_found : (es : List Entry) (b : Entry) (o : Option ℕ) → position (same_pair b) es ≡ o → (HasPair es b → ⊥) →
    o ≡ None
pair_found es b None is h = refl
pair_found es b (Some i) is h = let p = position-Some (same_pair b) es i b is in absurd (h (has_pair es b i p.0 p.1))

-- what is answered to a repeat means what it says
repeat_means : (limit most : ℕ) (es : List Entry) (b : Entry) (i : ℕ) → IsDistinct same_pair es →
    position (same_pair b) es ≡ Some i → (x y : Bool) → eqb (get_or es i b).cells b.cells ≡ x →
    eqb (get_or es i b).total b.total ≡ y
    → IsVerdict limit most es b (if x && y then Known (kept i (total_of_entries (take (i + 1) es))) else NumberReused)
repeat_means limit most es b i distinct found true true c t =
    let p = position-Some (same_pair b) es i b found in (
      slice_get-get_or es i b p.0 ∙ ap Some (same_entry (get_or es i b) b p.1 (eqb-true _ _ c) (eqb-true _ _ t)),
      refl,
    )
repeat_means limit most es b i distinct found true false c t =
    let p = position-Some (same_pair b) es i b found in (
      has_pair es b i p.0 p.1,
      λ h. differs t (eq-eqb _ _
          (ap (λ (e : Entry). e.total) (ap (λ n. get_or es n b) (found_at es b i h.0 distinct found h.1 h.2) ∙ h.2))),
    )
repeat_means limit most es b i distinct found false y c t =
    let p = position-Some (same_pair b) es i b found in (
      has_pair es b i p.0 p.1,
      λ h. differs c (eq-eqb _ _
          (ap (λ (e : Entry). e.cells) (ap (λ n. get_or es n b) (found_at es b i h.0 distinct found h.1 h.2) ∙ h.2))),
    )

-- what is answered to a new pair means what it says
new_means : (limit most : ℕ) (es : List Entry) (b : Entry) → position (same_pair b) es ≡ None → (x y : Bool) →
    ltb limit (total_of_entries es + b.total) ≡ x → leb most (length es) ≡ y
    → IsVerdict limit most es b (if x then OverTotal (total_of_entries es) else if y then BookFull else Fresh)
new_means limit most es b none true y over full = (new_pair es b none, ltb-true _ _ over, refl)
new_means limit most es b none false true over full = ((new_pair es b none, ltb-false _ _ over), leb-true _ _ full)
new_means limit most es b none false false over full = ((new_pair es b none, ltb-false _ _ over), leb-false _ _ full)

pub verdict_means : (limit most : ℕ) (es : List Entry) (b : Entry) → IsDistinct same_pair es →
    IsVerdict limit most es b (verdict_of limit most es b)
verdict_means limit most es b distinct = at (position (same_pair b) es) refl
  where
    at : (o : Option ℕ) → position (same_pair b) es ≡ o → IsVerdict limit most es b (verdict_at limit most es b o)
    at (Some i) found = repeat_means limit most es b i distinct found _ _ refl refl
    at None none = new_means limit most es b none _ _ refl refl

-- a new pair is judged by the two limits
new_verdict : (limit most : ℕ) (es : List Entry) (b : Entry) → (HasPair es b → ⊥) →
    verdict_of limit most es b ≡ verdict_on_new limit most (length es) (total_of_entries es) b
new_verdict limit most es b h = ap (verdict_at limit most es b) (pair_found es b (position (same_pair b) es) refl h)

pub meant_verdict : (limit most : ℕ) (es : List Entry) (b : Entry) (r : Verdict) → IsDistinct same_pair es →
    IsVerdict limit most es b r → verdict_of limit most es b ≡ r
meant_verdict limit most es b (Known k) distinct h = at (position (same_pair b) es) refl
  where
    here : get_or es k.index b ≡ b
    here = get_or_from_slice_get es k.index b b h.0

    within : k.index < length es
    within = slice_get_within es k.index b h.0

    at : (o : Option ℕ) → position (same_pair b) es ≡ o → verdict_at limit most es b o ≡ Known k
    at None none = absurd (new_pair es b none (has_pair es b k.index within (ap (same_pair b) here
        ∙ pair_is_same b b refl)))
    at (Some i) found =
        let same = found_at es b i k.index distinct found within here in
        let is = ap (λ n. get_or es n b) same ∙ here in
        ap (λ (x : Bool). if x then Known (kept i (total_of_entries (take (i + 1) es))) else NumberReused)
        (λ j. eq-eqb _ _ (ap (λ (e : Entry). e.cells) is) j && eq-eqb _ _ (ap (λ (e : Entry). e.total) is) j)
        ∙ (λ j. Known (kept (same j) ((ap (λ (n : ℕ). total_of_entries (take (n + 1) es)) same ∙ sym h.1) j)))
meant_verdict limit most es b NumberReused distinct h = at (position (same_pair b) es) refl
  where
    at : (o : Option ℕ) → position (same_pair b) es ≡ o → verdict_at limit most es b o ≡ NumberReused
    at None none = absurd (new_pair es b none h.0)
    at (Some i) found = other (eqb (get_or es i b).cells b.cells) (eqb (get_or es i b).total b.total) refl refl
      where
        other : (x y : Bool) → eqb (get_or es i b).cells b.cells ≡ x → eqb (get_or es i b).total b.total ≡ y →
            (if x && y then Known (kept i (total_of_entries (take (i + 1) es))) else NumberReused) ≡ NumberReused
        other true true c t = let p = position-Some (same_pair b) es i b found in
            absurd (h.1 (i, p.0, same_entry (get_or es i b) b p.1 (eqb-true _ _ c) (eqb-true _ _ t)))
        other true false c t = refl
        other false y c t = refl
meant_verdict limit most es b (OverTotal a) distinct h =
    new_verdict limit most es b h.0
    ∙ ap (λ (x : Bool). if x then OverTotal (total_of_entries es) else if leb most (length es) then BookFull else
    Fresh) (lt-ltb _ _ h.1)
    ∙ ap OverTotal (sym h.2)
meant_verdict limit most es b BookFull distinct h =
    new_verdict limit most es b h.0.0
    ∙ (λ i. if le-ltb limit (total_of_entries es + b.total) h.0.1 i then OverTotal (total_of_entries es) else
    if le-leb most (length es) h.1 i then BookFull else Fresh)
meant_verdict limit most es b Fresh distinct h =
    new_verdict limit most es b h.0.0
    ∙ (λ i. if le-ltb limit (total_of_entries es + b.total) h.0.1 i then OverTotal (total_of_entries es) else
    if lt-leb most (length es) h.1 i then BookFull else Fresh)
