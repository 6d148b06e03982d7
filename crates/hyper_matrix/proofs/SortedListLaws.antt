-- Lists of cells in order, the maps that they stand for, and what holds of all their places.
use Rattle.std.proofs.Common.{◌≡◌, ℕ, ◌⊎◌, Bool, true, false, cond, T, List, [], ◌∷◌, length, Option, Some, None, sym}
use Rattle.std.proofs.Common.{◌∙◌, ap, subst, refl, inl, inr}
use Rattle.hyper_matrix.specs.Places.{AllPlaces}
use Rattle.std.specs.Ordering.{eq_by_cmp}
use Rattle.std.specs.FinMap.{find, get, get-from_entries, from_entries, entries, len, len-entries, is_sorted}
use Rattle.std.specs.FinMap.{from_sorted, get-from_sorted, entries-from_sorted}
use Rattle.std.specs.Cmp.{eq_by_cmp_equiv}
use Rattle.std.proofs.lemmas.Option.{none-some}
use Rattle.hyper_matrix.specs.Counts.{Place, place_cmp, Counts, plus, ewise_add, built}
use Rattle.hyper_matrix.proofs.CountLaws.{places_total, same_counts, get-ewise_add, get-built, gathered, gathered-rising}
use Rattle.hyper_matrix.proofs.CountLaws.{tied}

-- a list in order is the entries of its map
pub entries-in_order : (es : List (Place × ℕ)) → T (is_sorted place_cmp es) →
    entries (from_entries {R = place_cmp} es) ≡ es
entries-in_order es h =
    ap entries (same_counts (from_entries es) (from_sorted es)
    (λ q. get-from_entries places_total es q ∙ sym (get-from_sorted place_cmp es q h))) ∙
    entries-from_sorted place_cmp es h

pub len-in_order : (es : List (Place × ℕ)) → T (is_sorted place_cmp es) →
    len (from_entries {R = place_cmp} es) ≡ length es
len-in_order es h = len-entries (from_entries es) ∙ ap length (entries-in_order es h)

-- in order, a list builds the map that it stands for
pub built-in_order : (es : List (Place × ℕ)) → T (is_sorted place_cmp es) → built es ≡ from_entries es
built-in_order es h = same_counts _ _ (λ q. get-built es q ∙ gathered-rising q es h ∙
    sym (get-from_entries places_total es q))

pub same_tie : (q : Place) → eq_by_cmp place_cmp q q ≡ true
same_tie q = (eq_by_cmp_equiv places_total).refl q

in_either : (x y : Option ℕ) (n : ℕ) → plus x y ≡ Some n → ((m : ℕ) × (x ≡ Some m)) ⊎ ((m : ℕ) × (y ≡ Some m))
in_either None y n e = inr (n, e)
in_either (Some x) y n e = inl (x, refl)

module _ (Q : Place → Type 0) where
  -- what holds of all places holds of one that is found
  pub holds_found : (q : Place) (n : ℕ) (es : List (Place × ℕ)) → AllPlaces Q es → find place_cmp q es ≡ Some n → Q q
  holds_found q n [] a e = absurd (none-some _ e)
  holds_found q n (x ∷ es) a e = step (eq_by_cmp place_cmp q x.0) refl e (holds_found q n es a.1)
    where
      step : (b : Bool) → eq_by_cmp place_cmp q x.0 ≡ b → cond b (Some x.1) (find place_cmp q es) ≡ Some n →
          (find place_cmp q es ≡ Some n → Q q) → Q q
      step true t e rest = subst Q (sym (tied q x.0 t)) a.0
      step false t e rest = rest e

  -- and what holds of each place that is found holds of all
  pub holds_all : (es : List (Place × ℕ)) → ((q : Place) (n : ℕ) → find place_cmp q es ≡ Some n → Q q) → AllPlaces Q es
  holds_all [] h = tt
  holds_all (x ∷ es) h = (
    h x.0 x.1 (ap (λ b. cond b (Some x.1) (find place_cmp x.0 es)) (same_tie x.0)),
    holds_all es later,
  )
    where
      step : (q : Place) (n : ℕ) → find place_cmp q es ≡ Some n → (b : Bool) → eq_by_cmp place_cmp q x.0 ≡ b →
          (m : ℕ) × (find place_cmp q (x ∷ es) ≡ Some m)
      step q n e true t = (x.1, ap (λ b. cond b (Some x.1) (find place_cmp q es)) t)
      step q n e false t = (n, ap (λ b. cond b (Some x.1) (find place_cmp q es)) t ∙ e)

      later : (q : Place) (n : ℕ) → find place_cmp q es ≡ Some n → Q q
      later q n e = let s = step q n e (eq_by_cmp place_cmp q x.0) refl in h q s.0 s.1

  pub holds_gathered : (q : Place) (n : ℕ) (es : List (Place × ℕ)) → AllPlaces Q es → gathered q es ≡ Some n → Q q
  holds_gathered q n [] a e = absurd (none-some _ e)
  holds_gathered q n (x ∷ es) a e = step (eq_by_cmp place_cmp q x.0) refl e (holds_gathered q n es a.1)
    where
      step : (b : Bool) → eq_by_cmp place_cmp q x.0 ≡ b → plus (cond b (Some x.1) None) (gathered q es) ≡ Some n →
          (gathered q es ≡ Some n → Q q) → Q q
      step true t e rest = subst Q (sym (tied q x.0 t)) a.0
      step false t e rest = rest e

  -- the places of a sum are places of its two sides
  pub places_of_sum : (s a b : List (Place × ℕ)) → from_entries s ≡ ewise_add (from_entries a) (from_entries b) →
      AllPlaces Q a → AllPlaces Q b → AllPlaces Q s
  places_of_sum s a b is x y = holds_all s (λ q n e.
      let here : plus (get (from_entries {R = place_cmp} a) q) (get (from_entries {R = place_cmp} b) q) ≡ Some n =
      sym (get-ewise_add (from_entries a) (from_entries b) q) ∙ ap (λ (m : Counts). get m q) (sym is) ∙
      get-from_entries places_total s q ∙ e in
      elim (in_either (get (from_entries {R = place_cmp} a) q) (get (from_entries {R = place_cmp} b) q) n here) [
        | inl w ↦ holds_found q w.0 a x (sym (get-from_entries places_total a q) ∙ w.1)
        | inr w ↦ holds_found q w.0 b y (sym (get-from_entries places_total b q) ∙ w.1)
      ])

  -- the places that a list builds are places of the list
  pub places_of_built : (s es : List (Place × ℕ)) → from_entries s ≡ built es → AllPlaces Q es → AllPlaces Q s
  places_of_built s es is x = holds_all s (λ q n e.
      holds_gathered q n es x (sym (get-built es q) ∙ ap (λ (m : Counts). get m q) (sym is) ∙
      get-from_entries places_total s q ∙ e))
