-- The laws of the cascade.
use Rattle.std.proofs.Common.{◌≡◌, ℕ, zero, suc, ◌+◌, ◌<◌, ◌≤◌, Bool, true, false, cond, leb, List, [], ◌∷◌, length}
use Rattle.std.proofs.Common.{◌++◌, take, drop, replicate, get_or, sym, ◌∙◌, ap, subst, refl, inl, inr, arith}
use Rattle.std.specs.FinMap.{empty, len, len-empty}
use Rattle.std.proofs.lemmas.Bool.{leb-true, leb-false, le-leb}
use Rattle.hyper_matrix.specs.Counts.{Counts, place_cmp, ewise_add}
use Rattle.hyper_matrix.proofs.CountLaws.{ewise_add_comm, ewise_add_assoc, ewise_add-empty}
use Rattle.layer_compaction.specs.Shared.{content}
use Rattle.layer_compaction.proofs.LayerLemmas.{empty-ewise_add}
use Rattle.layer_cascade.specs.Cascade.{cascade, cascades, KeepsCuts, with_first, CanHold, EndsAt}
use Rattle.layer_cascade.specs.Cascade.{layers_after, CascadesTo}

-- m added to the first of two is m added to their sum
moved : (m a b : Counts) → ewise_add (ewise_add m a) b ≡ ewise_add (ewise_add a b) m
moved m a b = ewise_add_assoc m a b ∙ ewise_add_comm m (ewise_add a b)

pub content-cascade : (layers : List Counts) (cuts : List ℕ) (m : Counts) → length layers ≡ length cuts + 1 →
    content (cascade layers cuts m) ≡ ewise_add (content layers) m
content-cascade [] cuts m k = absurd (omega arith)
content-cascade (layer ∷ layers) [] m k = moved m layer (content layers)
content-cascade (layer ∷ layers) (cut ∷ cuts) m k =
    step (content-cascade layers cuts (ewise_add m layer) (omega arith)) (leb (len (ewise_add m layer)) cut)
  where
    step : content (cascade layers cuts (ewise_add m layer)) ≡ ewise_add (content layers) (ewise_add m layer) →
        (b : Bool) → content (cond b (ewise_add m layer ∷ layers)
        (empty ∷ cascade layers cuts (ewise_add m layer))) ≡ ewise_add (ewise_add layer (content layers)) m
    step later true = moved m layer (content layers)
    step later false = empty-ewise_add (content (cascade layers cuts (ewise_add m layer))) ∙ later
        ∙ ewise_add_comm (content layers) (ewise_add m layer) ∙ moved m layer (content layers)

pub cuts-cascade : (layers : List Counts) (cuts : List ℕ) (m : Counts) → KeepsCuts layers cuts →
    KeepsCuts (cascade layers cuts m) cuts
cuts-cascade [] cuts m h = tt
cuts-cascade (layer ∷ layers) [] m h = tt
cuts-cascade (layer ∷ layers) (cut ∷ cuts) m h =
    step (cuts-cascade layers cuts (ewise_add m layer) h.1) (leb (len (ewise_add m layer)) cut) refl
  where
    step : KeepsCuts (cascade layers cuts (ewise_add m layer)) cuts → (b : Bool) →
        leb (len (ewise_add m layer)) cut ≡ b → KeepsCuts
        (cond b (ewise_add m layer ∷ layers) (empty ∷ cascade layers cuts (ewise_add m layer))) (cut ∷ cuts)
    step later true e = (leb-true _ _ e, h.1)
    step later false e = (omega (arith, len-empty place_cmp ℕ), later)

pub length-cascade : (layers : List Counts) (cuts : List ℕ) (m : Counts) →
    length (cascade layers cuts m) ≡ length layers
length-cascade [] cuts m = refl
length-cascade (layer ∷ layers) [] m = refl
length-cascade (layer ∷ layers) (cut ∷ cuts) m =
    step (length-cascade layers cuts (ewise_add m layer)) (leb (len (ewise_add m layer)) cut)
  where
    step : length (cascade layers cuts (ewise_add m layer)) ≡ length layers → (b : Bool) →
        length (cond b (ewise_add m layer ∷ layers) (empty ∷ cascade layers cuts (ewise_add m layer))) ≡ suc
        (length layers)
    step later true = refl
    step later false = omega (arith, later)

pub content-cascades : (layers : List Counts) (cuts : List ℕ) (ms : List Counts) → length layers ≡ length cuts + 1 →
    content (cascades layers cuts ms) ≡ ewise_add (content layers) (content ms)
content-cascades layers cuts [] k = sym (ewise_add-empty (content layers))
content-cascades layers cuts (m ∷ ms) k =
    content-cascades (cascade layers cuts m) cuts ms (length-cascade layers cuts m ∙ k)
    ∙ ap (λ c. ewise_add c (content ms)) (content-cascade layers cuts m k)
    ∙ ewise_add_assoc (content layers) m (content ms)

-- place 0 alone
pub first_here : (layer : Counts) (layers : List Counts) (m : Counts) →
    with_first (layer ∷ layers) m 0 ≡ ewise_add m layer
first_here layer layers m = ap (ewise_add m) (ewise_add-empty layer)

-- the first layer, added to m before the others
first_next : (layer : Counts) (layers : List Counts) (m : Counts) (j : ℕ) →
    with_first (layer ∷ layers) m (suc j) ≡ with_first layers (ewise_add m layer) j
first_next layer layers m j = sym (ewise_add_assoc m layer (content (take (suc j) layers)))

module _ (layer : Counts) (layers : List Counts) (cut : ℕ) (cuts : List ℕ) (m : Counts) where
  hold_next : (j : ℕ) → CanHold (layer ∷ layers) (cut ∷ cuts) m (suc j) → CanHold layers cuts (ewise_add m layer) j
  hold_next j (inl last) = inl (omega arith)
  hold_next j (inr fits) = inr (subst (λ s. len s ≤ get_or cuts j 0) (first_next layer layers m j) fits)

  hold_back : (j : ℕ) → CanHold layers cuts (ewise_add m layer) j → CanHold (layer ∷ layers) (cut ∷ cuts) m (suc j)
  hold_back j (inl last) = inl (omega arith)
  hold_back j (inr fits) = inr (subst (λ s. len s ≤ get_or cuts j 0) (sym (first_next layer layers m j)) fits)

  hold_first : len (ewise_add m layer) ≤ cut → CanHold (layer ∷ layers) (cut ∷ cuts) m 0
  hold_first fits = inr (subst (λ s. len s ≤ cut) (sym (first_here layer layers m)) fits)

  held_first : length layers ≡ length cuts + 1 → CanHold (layer ∷ layers) (cut ∷ cuts) m 0 →
      len (ewise_add m layer) ≤ cut
  held_first k (inl last) = absurd (omega arith)
  held_first k (inr fits) = subst (λ s. len s ≤ cut) (first_here layer layers m) fits

  ends_next : (j : ℕ) → EndsAt (layer ∷ layers) (cut ∷ cuts) m (suc j) → EndsAt layers cuts (ewise_add m layer) j
  ends_next j (inside, holds, least) = (
    omega arith,
    hold_next j holds,
    (λ i h held. least (suc i) (omega arith) (hold_back i held)),
  )

  ends_back : (j : ℕ) → cut < len (ewise_add m layer) → length layers ≡ length cuts + 1 →
      EndsAt layers cuts (ewise_add m layer) j → EndsAt (layer ∷ layers) (cut ∷ cuts) m (suc j)
  ends_back j more k (inside, holds, least) = (omega arith, hold_back j holds, below)
    where
      below : (i : ℕ) → i < suc j → CanHold (layer ∷ layers) (cut ∷ cuts) m i → ⊥
      below zero h held = absurd (omega (arith, held_first k held))
      below (suc i) h held = least i (omega arith) (hold_next i held)

  layers_after_next : (j : ℕ) → empty ∷ layers_after layers (ewise_add m layer) j ≡ layers_after (layer ∷ layers) m
      (suc j)
  layers_after_next j = ap (λ s. empty ∷ (replicate j empty ++ s ∷ drop (suc j) layers))
      (sym (first_next layer layers m j))

-- the place determines what the cascade leaves
pub layers_after-cascade : (layers : List Counts) (cuts : List ℕ) (m : Counts) (j : ℕ) →
    length layers ≡ length cuts + 1 → EndsAt layers cuts m j → cascade layers cuts m ≡ layers_after layers m j
layers_after-cascade [] cuts m j k r = absurd (omega arith)
layers_after-cascade (layer ∷ layers) [] m zero k r = ap (λ s. s ∷ layers) (sym (first_here layer layers m))
layers_after-cascade (layer ∷ layers) [] m (suc j) k r = absurd (omega (arith, r.0))
layers_after-cascade (layer ∷ layers) (cut ∷ cuts) m zero k r =
    ap (λ b. cond b (ewise_add m layer ∷ layers) (empty ∷ cascade layers cuts (ewise_add m layer)))
    (le-leb _ _ (held_first layer layers cut cuts m (omega arith) r.1))
    ∙ ap (λ s. s ∷ layers) (sym (first_here layer layers m))
layers_after-cascade (layer ∷ layers) (cut ∷ cuts) m (suc j) k r =
    step (layers_after-cascade layers cuts (ewise_add m layer) j (omega arith) (ends_next layer layers cut cuts m j r))
    (leb (len (ewise_add m layer)) cut) refl
  where
    step : cascade layers cuts (ewise_add m layer) ≡ layers_after layers (ewise_add m layer) j → (b : Bool) →
        leb (len (ewise_add m layer)) cut ≡ b → cond b (ewise_add m layer ∷ layers)
        (empty ∷ cascade layers cuts (ewise_add m layer)) ≡ layers_after (layer ∷ layers) m (suc j)
    step later true e = absurd (r.2 0 (omega arith) (hold_first layer layers cut cuts m (leb-true _ _ e)))
    step later false e = ap (λ s. empty ∷ s) later ∙ layers_after_next layer layers cut cuts m j

-- there is a place where it ends
pub ends_somewhere : (layers : List Counts) (cuts : List ℕ) (m : Counts) → length layers ≡ length cuts + 1 → (j : ℕ)
    × EndsAt layers cuts m j
ends_somewhere [] cuts m k = absurd (omega arith)
ends_somewhere (layer ∷ layers) [] m k = (0, (omega arith, inl (omega arith), (λ i h held. absurd (omega arith))))
ends_somewhere (layer ∷ layers) (cut ∷ cuts) m k =
    step (ends_somewhere layers cuts (ewise_add m layer) (omega arith)) (leb (len (ewise_add m layer)) cut) refl
  where
    step : (j : ℕ) × EndsAt layers cuts (ewise_add m layer) j → (b : Bool) → leb (len (ewise_add m layer)) cut ≡ b →
        (j : ℕ) × EndsAt (layer ∷ layers) (cut ∷ cuts) m j
    step later true e = (
      0,
      (
        omega arith,
        hold_first layer layers cut cuts m (leb-true _ _ e),
        (λ i h held. absurd (omega arith)),
      ),
    )
    step later false e = (
      suc later.0,
      ends_back layer layers cut cuts m later.0 (leb-false _ _ e) (omega arith)
          later.1,
    )

pub cascades_to-cascade : (layers : List Counts) (cuts : List ℕ) (m : Counts) (after : List Counts) →
    length layers ≡ length cuts + 1 → (CascadesTo layers cuts m after → after ≡ cascade layers cuts m)
    × (after ≡ cascade layers cuts m → CascadesTo layers cuts m after)
cascades_to-cascade layers cuts m after k = (
  (λ s. s.1.1 ∙ sym (layers_after-cascade layers cuts m s.0 k s.1.0)),
  (λ is. let at = ends_somewhere layers cuts m k in
      (at.0, (at.1, is ∙ layers_after-cascade layers cuts m at.0 k at.1))),
)
