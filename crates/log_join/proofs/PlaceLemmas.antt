-- What stands at a place of a list.
use Rattle.std.proofs.Common.{◌≡◌, ℕ, zero, suc, ◌+◌, ◌-◌, ◌<◌, ◌≤◌, List, [], ◌∷◌, ◌++◌, length, take, drop, map}
use Rattle.std.proofs.Common.{get_or}
use Rattle.std.proofs.Common.{slice_get, Some, None, refl, sym, ap, subst, ◌∙◌, inl, inr, arith}
use Rattle.std.specs.Arc.{arc_value}
use Rattle.std.specs.declared.sync.Arc.{Arc}
use Rattle.std.proofs.lemmas.Bool.{cases_lt}
use Rattle.std.proofs.lemmas.List.{length-append, length-map, take-append-drop}
use Rattle.std.proofs.lemmas.Option.{slice_get-get_or, slice_get_past}
use Rattle.batch_store.specs.declared.verdict.Entry.{Entry}
use Rattle.batch_store.specs.Batches.{Submission, entry_of, entries_of, values}
use Rattle.batch_store.specs.Verdicts.{total_of_entries}
use Rattle.batch_store.proofs.BookLaws.{next_item}
use Rattle.batch_store.proofs.VerdictLaws.{total_push, total_of-append}

pub get_behind : {X : Type 0} (xs ys : List X) (i j : ℕ) → i ≡ length xs + j → slice_get (xs ++ ys) i ≡ slice_get ys j
get_behind [] ys i j h = ap (slice_get ys) {x = i} {y = j} (omega (arith, h))
get_behind (x ∷ xs) ys zero j h = absurd (omega (arith, h))
get_behind (x ∷ xs) ys (suc i) j h = get_behind xs ys i j (omega (arith, h))

pub get_before : {X : Type 0} (xs ys : List X) (i : ℕ) → i < length xs → slice_get (xs ++ ys) i ≡ slice_get xs i
get_before [] ys i h = absurd (omega arith)
get_before (x ∷ xs) ys zero h = refl
get_before (x ∷ xs) ys (suc i) h = get_before xs ys i (omega arith)

pub get_taken : {X : Type 0} (xs : List X) (n i : ℕ) → i < n → slice_get (take n xs) i ≡ slice_get xs i
get_taken [] zero i h = refl
get_taken [] (suc n) i h = refl
get_taken (x ∷ xs) zero i h = absurd (omega arith)
get_taken (x ∷ xs) (suc n) zero h = refl
get_taken (x ∷ xs) (suc n) (suc i) h = get_taken xs n i (omega arith)

pub get_mapped : {X Y : Type 0} (f : X → Y) (xs : List X) (i : ℕ) (x : X) → slice_get xs i ≡ Some x →
    slice_get (map f xs) i ≡ Some (f x)
get_mapped f [] i x h = absurd cc
get_mapped f (y ∷ xs) zero x h = let e : y ≡ x = cc h in ap (λ z. Some (f z)) e
get_mapped f (y ∷ xs) (suc i) x h = get_mapped f xs i x h

-- ---- shared batches

pub item_at : {Z : Type 0} (bs : List (Arc Submission Z)) (i : ℕ) (d : Arc Submission Z) → i < length bs →
    d ≡ get_or bs i d → slice_get (values bs) i ≡ Some (arc_value d)
item_at bs i d within is = get_mapped arc_value bs i d (slice_get-get_or bs i d within ∙ ap (λ x. Some x) (sym is))

pub entry_item : {Z : Type 0} (bs : List (Arc Submission Z)) (i : ℕ) (d : Arc Submission Z) (b : Submission) →
    i < length bs → d ≡ get_or bs i d → b ≡ arc_value d → slice_get (entries_of (values bs)) i ≡ Some (entry_of b)
entry_item bs i d b within is same =
    get_mapped entry_of (values bs) i (arc_value d) (item_at bs i d within is)
    ∙ ap (λ (x : Submission). Some (entry_of x)) (sym same)

pub past_entries : {Z : Type 0} (bs : List (Arc Submission Z)) (i : ℕ) → length bs ≤ i →
    None ≡ slice_get (entries_of (values bs)) i
past_entries bs i past =
    sym (slice_get_past (entries_of (values bs)) i
    (let a = length-map bs arc_value in let b = length-map (values bs) entry_of in omega arith))

-- ---- totals

pub total_next : (es : List Entry) (i : ℕ) (e : Entry) → Some e ≡ slice_get es i →
    total_of_entries (take (i + 1) es) ≡ total_of_entries (take i es) + e.total
total_next es i e here = ap total_of_entries (sym (next_item es i e here)) ∙ total_push (take i es) e

pub total_within : (es : List Entry) (i : ℕ) → total_of_entries (take i es) ≤ total_of_entries es
total_within es i =
    let parts = ap total_of_entries (take-append-drop i es) in
    let sum = total_of-append (take i es) (drop i es) in
    omega arith

-- the same up to the next place
pub same_more : (es entries : List Entry) (first i : ℕ) →
    ((j : ℕ) → j < i → slice_get es (first + j) ≡ slice_get entries j) →
    slice_get es (first + i) ≡ slice_get entries i → (j : ℕ) → j < i + 1 →
    slice_get es (first + j) ≡ slice_get entries j
same_more es entries first i same here j within = elim (cases_lt j i) [
  | inl less ↦ same j less
  | inr ge ↦ (let e : i ≡ j = omega arith in subst (λ (k : ℕ). slice_get es (first + k) ≡ slice_get entries k) e here)
]
