-- Rows have a top, however many are asked for: they can be put in order one by one, and the first of them are one.
use Rattle.std.proofs.Common.{◌≡◌, ◌⊎◌, inl, inr, ℕ, zero, suc, ◌+◌, ◌<◌, List, [], ◌∷◌, ◌++◌, length, refl, sym, ◌∙◌, ap}
use Rattle.std.proofs.Common.{subst, arith, get_or}
use Rattle.std.specs.Prelude.{All, min}
use Rattle.std.specs.List.Sorted.{IsPermutation}
use Rattle.std.proofs.lemmas.Bool.{cases_lt}
use Rattle.std.proofs.lemmas.List.Elements.{All-nil, All-cons, All-head, All-tail, All-weaker}
use Rattle.std.proofs.lemmas.List.Sorted.{IsPermutation-refl, IsPermutation-cons, IsPermutation-trans}
use Rattle.std.proofs.lemmas.List.Sorted.{IsPermutation-insert, All-permutation, length_permutation}
use Rattle.cell_queries.specs.declared.tally.RowTally.{RowTally}
use Rattle.cell_queries.specs.declared.top.TopBy.{TopBy}
use Rattle.cell_queries.specs.Tops.{number_of, IsAhead, AreRanked, IsTop}

-- each row is ahead of each behind it
abbrev Ranks : TopBy → List RowTally → Type 0
Ranks by [] = Unit {0}
Ranks by (t ∷ ts) = All (IsAhead by t) ts × Ranks by ts

ahead_or_behind : (by : TopBy) (t u : RowTally) → IsAhead by t u ⊎ IsAhead by u t
ahead_or_behind by t u = elim (cases_lt (number_of by u) (number_of by t)) [
  | inl more ↦ inl (inl more)
  | inr ge ↦ elim (cases_lt (number_of by t) (number_of by u)) [
    | inl less ↦ inr (inl less)
    | inr le ↦ elim (cases_lt u.row t.row) [
      | inl low ↦ inr (inr (omega (arith, ge, le), omega (arith, low)))
      | inr high ↦ inl (inr (omega (arith, ge, le), high))
    ]
  ]
]

ahead_through : (by : TopBy) (t u w : RowTally) → IsAhead by t u → IsAhead by u w → IsAhead by t w
ahead_through by t u w (inl a) (inl b) = inl (omega (arith, a, b))
ahead_through by t u w (inl a) (inr b) = inl (omega (arith, a, b.0))
ahead_through by t u w (inr a) (inl b) = inl (omega (arith, a.0, b))
ahead_through by t u w (inr a) (inr b) = inr (a.0 ∙ b.0, omega (arith, a.1, b.1))

-- a row is put in its place
placed : (by : TopBy) (t : RowTally) (ss : List RowTally) → Ranks by ss →
    (all : List RowTally) × IsPermutation (t ∷ ss) all × Ranks by all
placed by t [] h = (t ∷ [], IsPermutation-refl (t ∷ []), (All-nil (IsAhead by t), tt))
placed by t (u ∷ us) h = elim (ahead_or_behind by t u) [
  | inl first ↦ (
    t ∷ (u ∷ us),
    IsPermutation-refl (t ∷ (u ∷ us)),
    (
      All-cons (IsAhead by t) u us first
          (All-weaker (IsAhead by u) (IsAhead by t) (λ w b. ahead_through by t u w first b) us h.0),
      h,
    ),
  )
  | inr later ↦
      let p = placed by t us h.1 in (
        u ∷ p.0,
        IsPermutation-trans (t ∷ (u ∷ us)) (u ∷ (t ∷ us)) (u ∷ p.0) (IsPermutation-insert (u ∷ us) 1 t)
            (IsPermutation-cons u (t ∷ us) p.0 p.1),
        (All-permutation (IsAhead by u) (t ∷ us) p.0 p.1 (All-cons (IsAhead by u) t us later h.0), p.2),
      )
]

in_order : (by : TopBy) (rows : List RowTally) → (all : List RowTally) × IsPermutation rows all × Ranks by all
in_order by [] = ([], IsPermutation-refl [], tt)
in_order by (t ∷ ts) =
    let s = in_order by ts in
    let p = placed by t s.0 s.2 in
    (p.0, IsPermutation-trans (t ∷ ts) (t ∷ s.0) p.0 (IsPermutation-cons t ts s.0 s.1) p.1, p.2)

all_front : {X : Type 0} (P : X → Type 0) (xs ys : List X) → All P (xs ++ ys) → All P xs
all_front P [] ys h = All-nil P
all_front P (x ∷ xs) ys h = All-cons P x xs (All-head P x (xs ++ ys) h)
    (all_front P xs ys (All-tail P x (xs ++ ys) h))

all_back : {X : Type 0} (P : X → Type 0) (xs ys : List X) → All P (xs ++ ys) → All P ys
all_back P [] ys h = h
all_back P (x ∷ xs) ys h = all_back P xs ys (All-tail P x (xs ++ ys) h)

-- the first of rows in order, and the others
abbrev Cuts : TopBy → ℕ → List RowTally → Type 0
Cuts by most ss = (top : List RowTally) × (rest : List RowTally) × (top ++ rest ≡ ss) × Ranks by top ×
    All (λ t. All (IsAhead by t) rest) top × (length top ≡ min most (length ss))

cut : (by : TopBy) (most : ℕ) (ss : List RowTally) → Ranks by ss → Cuts by most ss
cut by zero ss h = ([], ss, refl, tt, All-nil (λ t. All (IsAhead by t) ss), omega arith)
cut by (suc n) [] h = ([], [], refl, tt, All-nil (λ t. All (IsAhead by t) []), omega arith)
cut by (suc n) (s ∷ ss) h =
    let c = cut by n ss h.1 in
    let both = subst (λ (l : List RowTally). All (IsAhead by s) l) (sym c.2) h.0 in (
      s ∷ c.0,
      c.1,
      ap (λ l. s ∷ l) c.2,
      (all_front (IsAhead by s) c.0 c.1 both, c.3),
      All-cons (λ t. All (IsAhead by t) c.1) s c.0 (all_back (IsAhead by s) c.0 c.1 both) c.4,
      omega (arith, c.5),
    )

ranked_at : (by : TopBy) (t u : RowTally) (us : List RowTally) → IsAhead by t u → AreRanked by (u ∷ us) →
    AreRanked by (t ∷ (u ∷ us))
ranked_at by t u us first more = λ k d less. at k d less
  where
    at : (k : ℕ) (d : RowTally) → k + 1 < length (t ∷ (u ∷ us)) →
        IsAhead by (get_or (t ∷ (u ∷ us)) k d) (get_or (t ∷ (u ∷ us)) (k + 1) d)
    at zero d less = first
    at (suc k) d less =
        subst (λ (n : ℕ). IsAhead by (get_or (t ∷ (u ∷ us)) (suc k) d) (get_or (t ∷ (u ∷ us)) n d)) {x = suc (k + 1)}
        {y = suc k + 1} (omega arith) (more k d (omega (arith, less)))

ranked : (by : TopBy) (ts : List RowTally) → Ranks by ts → AreRanked by ts
ranked by [] h = λ k d less. absurd (omega (arith, less))
ranked by (t ∷ []) h = λ k d less. absurd (omega (arith, less))
ranked by (t ∷ (u ∷ us)) h = ranked_at by t u us (All-head (IsAhead by t) u us h.0) (ranked by (u ∷ us) h.1)

pub has_top : (by : TopBy) (most : ℕ) (rows : List RowTally) → (top : List RowTally) × IsTop by most rows top
has_top by most rows =
    let s = in_order by rows in
    let c = cut by most s.0 s.2 in (
      c.0,
      record {
        rest = c.1;
        all = subst (λ (l : List RowTally). IsPermutation rows l) (sym c.2) s.1;
        ranked = ranked by c.0 c.3;
        ahead = c.4;
        long = c.5 ∙ ap (λ n. min most n) (length_permutation rows s.0 s.1);
      },
    )
