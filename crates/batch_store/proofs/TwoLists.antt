-- The verdict on a batch by one list behind another.
use Rattle.std.proofs.Common.{◌≡◌, ℕ, suc, ◌+◌, Bool, true, false, cond, List, [], ◌∷◌, ◌++◌, length, take}
use Rattle.std.proofs.Common.{Option, None, Some, position, refl, sym, ◌∙◌, ap, arith, option_map}
use Rattle.std.specs.Prelude.{slice_index_or}
use Rattle.std.specs.List.{position_from}
use Rattle.std.proofs.lemmas.Iterator.Adapters.{position_from-zero}
use Rattle.std.proofs.lemmas.List.{get_or_append_left, get_or-append-add, take-append-le}
use Rattle.std.proofs.lemmas.List.Quantifiers.{position-Some}
use Rattle.std.proofs.lemmas.Option.{none-some, same_Some}
use Rattle.std.proofs.Math.Seq.{take-append-add}
use Rattle.batch_store.specs.declared.verdict.Entry.{Entry}
use Rattle.batch_store.specs.declared.verdict.Verdict.{Verdict}
use Rattle.batch_store.specs.Verdicts.{verdict_of, verdict_at, verdict_on_new, repeat_of, same_pair, total_of_entries}
use Rattle.batch_store.specs.Folds.{repeat_in, repeat_at}
use Rattle.batch_store.proofs.VerdictLaws.{total_of-append}

module _ (p : Entry → Bool) where
  from_front : (n i : ℕ) (xs ys : List Entry) → position_from p n xs ≡ Some i → position_from p n (xs ++ ys) ≡ Some i
  from_front n i [] ys h = absurd (none-some _ h)
  from_front n i (x ∷ xs) ys h = by (p x) h (from_front (n + 1) i xs ys)
    where
      by : (t : Bool) → cond t (Some n) (position_from p (n + 1) xs) ≡ Some i →
          (position_from p (n + 1) xs ≡ Some i → position_from p (n + 1) (xs ++ ys) ≡ Some i) →
          cond t (Some n) (position_from p (n + 1) (xs ++ ys)) ≡ Some i
      by true h rest = h
      by false h rest = rest h

  from_behind : (n : ℕ) (xs ys : List Entry) → position_from p n xs ≡ None →
      position_from p n (xs ++ ys) ≡ position_from p (n + length xs) ys
  from_behind n [] ys h = ap (λ k. position_from p k ys) {x = n} {y = n + 0} (omega arith)
  from_behind n (x ∷ xs) ys h = by (p x) h (from_behind (n + 1) xs ys)
      ∙ ap (λ k. position_from p k ys) {x = n + 1 + length xs} {y = n + suc (length xs)} (omega arith)
    where
      by : (t : Bool) → cond t (Some n) (position_from p (n + 1) xs) ≡ None →
          (position_from p (n + 1) xs ≡ None →
          position_from p (n + 1) (xs ++ ys) ≡ position_from p (n + 1 + length xs) ys) →
          cond t (Some n) (position_from p (n + 1) (xs ++ ys)) ≡ position_from p (n + 1 + length xs) ys
      by true h rest = absurd (none-some _ (sym h))
      by false h rest = rest h

  from_shifted : (n k : ℕ) (ys : List Entry) →
      position_from p (n + k) ys ≡ option_map (λ j. n + j) (position_from p k ys)
  from_shifted n k [] = refl
  from_shifted n k (y ∷ ys) = by (p y) (
      ap (λ m. position_from p m ys) {x = n + k + 1} {y = n + (k + 1)} (omega arith) ∙ from_shifted n (k + 1) ys)
    where
      by : (t : Bool) → position_from p (n + k + 1) ys ≡ option_map (λ j. n + j) (position_from p (k + 1) ys) →
          cond t (Some (n + k)) (position_from p (n + k + 1) ys) ≡ option_map (λ j. n + j)
          (cond t (Some k) (position_from p (k + 1) ys))
      by true rest = refl
      by false rest = rest

  -- what is found in the first list is found in both
  pub position-front : (xs ys : List Entry) (i : ℕ) → position p xs ≡ Some i → position p (xs ++ ys) ≡ Some i
  position-front xs ys i h = position_from-zero p (xs ++ ys)
      ∙ from_front 0 i xs ys (sym (position_from-zero p xs) ∙ h)

  -- what isn't is found behind it
  pub position-behind : (xs ys : List Entry) → position p xs ≡ None →
      position p (xs ++ ys) ≡ option_map (λ j. length xs + j) (position p ys)
  position-behind xs ys h = position_from-zero p (xs ++ ys)
      ∙ from_behind 0 xs ys (sym (position_from-zero p xs) ∙ h)
      ∙ ap (λ k. position_from p k ys) {x = 0 + length xs} {y = length xs + 0} (omega arith)
      ∙ from_shifted (length xs) 0 ys
      ∙ ap (option_map (λ j. length xs + j)) (sym (position_from-zero p ys))

none_found : {A B : Type 0} (f : A → B) (o : Option A) → None ≡ option_map f o → o ≡ None
none_found f None h = refl
none_found f (Some x) h = absurd (none-some _ h)

module _ (limit most : ℕ) (es fs : List Entry) (b : Entry) where
  -- a repeat of the first list is one of both
  pub known_before : (r : Verdict) → Some r ≡ repeat_in es b → r ≡ verdict_of limit most (es ++ fs) b
  known_before r h = by (position (same_pair b) es) refl h
    where
      by : (o : Option ℕ) → position (same_pair b) es ≡ o → Some r ≡ option_map (repeat_at es b) o →
          r ≡ verdict_of limit most (es ++ fs) b
      by None is h = absurd (none-some _ (sym h))
      by (Some i) is h =
          let within = (position-Some (same_pair b) es i b is).0 in
          let entry : slice_index_or es i b ≡ slice_index_or (es ++ fs) i b = sym (get_or_append_left es fs b i within)
          in
          let totals : total_of_entries (take (i + 1) es) ≡ total_of_entries (take (i + 1) (es ++ fs)) =
          ap total_of_entries (sym (take-append-le (i + 1) es fs (omega (arith, within)))) in
          same_Some r (repeat_at es b i) h
          ∙ (λ j. repeat_of (entry j) b i (totals j))
          ∙ ap (verdict_at limit most (es ++ fs) b) (sym (position-front (same_pair b) es fs i is))

  -- a repeat of the second list is one of both, behind the first
  pub known_behind : (e : Entry) (j after : ℕ) → None ≡ repeat_in es b → Some j ≡ position (same_pair b) fs →
      slice_index_or fs j b ≡ e → after ≡ total_of_entries es + total_of_entries (take (suc j) fs) →
      repeat_of e b (length es + j) after ≡ verdict_of limit most (es ++ fs) b
  known_behind e j after none found is told =
      let place : position (same_pair b) (es ++ fs) ≡ Some (length es + j) =
      position-behind (same_pair b) es fs (none_found (repeat_at es b) (position (same_pair b) es) none)
      ∙ ap (option_map (λ k. length es + k)) (sym found) in
      let entry : e ≡ slice_index_or (es ++ fs) (length es + j) b = sym is ∙ sym (get_or-append-add es fs j b) in
      let cut : take (length es + j + 1) (es ++ fs) ≡ es ++ take (suc j) fs =
      ap (λ n. take n (es ++ fs)) {x = length es + j + 1} {y = length es + suc j} (omega arith)
      ∙ take-append-add es fs (suc j) in
      let totals : after ≡ total_of_entries (take (length es + j + 1) (es ++ fs)) = told
      ∙ sym (total_of-append es (take (suc j) fs)) ∙ sym (ap total_of_entries cut) in
      (λ i. repeat_of (entry i) b (length es + j) (totals i)) ∙ ap (verdict_at limit most (es ++ fs) b) (sym place)

  -- what is new to both is new
  pub new_to_both : (count total : ℕ) → None ≡ repeat_in es b → None ≡ position (same_pair b) fs →
      count ≡ length (es ++ fs) → total ≡ total_of_entries (es ++ fs) →
      verdict_on_new limit most count total b ≡ verdict_of limit most (es ++ fs) b
  new_to_both count total none found is told =
      let place : position (same_pair b) (es ++ fs) ≡ None =
      position-behind (same_pair b) es fs (none_found (repeat_at es b) (position (same_pair b) es) none)
      ∙ ap (option_map (λ k. length es + k)) (sym found) in
      (λ i. verdict_on_new limit most (is i) (told i) b) ∙ ap (verdict_at limit most (es ++ fs) b) (sym place)
