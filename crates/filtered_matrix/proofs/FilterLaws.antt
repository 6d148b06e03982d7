-- The filter: setting a place's bits clears none, and a filter that was given each entry covers them all.
use Rattle.std.proofs.Common.{◌≡◌, ℕ, ◌<◌, Bool, true, false, cond, List, ◌∷◌, length, get_or, set}
use Rattle.std.proofs.Common.{Some, sym, ◌∙◌, ap, subst, refl, inl, inr, get_or-set_same, get_or-set_other, length-set}
use Rattle.std.proofs.Common.{arith}
use Rattle.std.specs.Prelude.{◌||◌, bit_and, bit_or}
use Rattle.std.specs.Int.{bit_at}
use Rattle.std.specs.Ordering.{eq_by_cmp}
use Rattle.std.specs.FinMap.{find}
use Rattle.std.proofs.lemmas.Bool.{false≢true, cases_eq, eq-eqb, ne_eqb, eqb-true}
use Rattle.std.proofs.lemmas.List.{get_or_default}
use Rattle.std.proofs.lemmas.Nat.{and_or_self}
use Rattle.std.proofs.lemmas.Nat.Bits.{bit_at_and, bit_at_or, same_from_bits}
use Rattle.hyper_matrix.specs.Counts.{Place, place_cmp}
use Rattle.hyper_matrix.proofs.CountLaws.{tied}
use Rattle.filtered_matrix.specs.Filter.{hash, slot, bits_of, has_bits, may_have, Marks}

-- without a word every place passes
pub all_pass : (words : List ℕ) (p : Place) → length words ≡ 0 → may_have words p ≡ true
unfolding may_have
all_pass words p none = ap (λ b. b || has_bits (get_or words (slot (length words) (hash p)) 0) (bits_of (hash p)))
    (eq-eqb (length words) 0 none)

-- with words it is the place's bits that tell
pub bits_tell : (words : List ℕ) (p : Place) (i : ℕ) → i ≡ slot (length words) (hash p) → 0 < length words →
    may_have words p ≡ has_bits (get_or words i 0) (bits_of (hash p))
unfolding may_have
bits_tell words p i at some =
    ap (λ b. b || has_bits (get_or words (slot (length words) (hash p)) 0) (bits_of (hash p)))
    (ne_eqb (length words) 0 (λ e. omega (arith, e, some)))
    ∙ ap (λ k. has_bits (get_or words k 0) (bits_of (hash p))) (sym at)

-- bits that are set in a word stay set where others are
pub bits_stay : (word more bits : ℕ) → bit_and word bits ≡ bits → bit_and (bit_or word more) bits ≡ bits
bits_stay word more bits h = same_from_bits _ _ (λ i. omega (
  arith,
  bit_at_and (bit_or word more) bits i,
  bit_at_or word more i,
  bit_at_and word bits i,
  ap (λ n. bit_at n i) h,
))

-- the word of a place keeps its bits where another's are set in its own word
still_there : (words : List ℕ) (i j more bits : ℕ) → i < length words → bit_and (get_or words j 0) bits ≡ bits →
    bit_and (get_or (set words i (bit_or (get_or words i 0) more)) j 0) bits ≡ bits
still_there words i j more bits within h = elim (cases_eq j i) [
  | inl same ↦ ap (λ k. bit_and (get_or (set words i (bit_or (get_or words i 0) more)) k 0) bits) same
      ∙ ap (λ w. bit_and w bits) (get_or-set_same words i (bit_or (get_or words i 0) more) 0 within)
      ∙ bits_stay (get_or words i 0) more bits (ap (λ k. bit_and (get_or words k 0) bits) (sym same) ∙ h)
  | inr other ↦ ap (λ w. bit_and w bits) (get_or-set_other words i j (bit_or (get_or words i 0) more) 0 other) ∙ h
]

-- what a place's bits say before they are set, and after
module _ (words : List ℕ) (i : ℕ) (p : Place) (at : i ≡ slot (length words) (hash p)) (within : i < length words) where
  more : ℕ
  more = bits_of (hash p)

  new : List ℕ
  new = set words i (bit_or (get_or words i 0) more)

  kept : length new ≡ length words
  unfolding new
  kept = length-set words i (bit_or (get_or words i 0) more)

  tell : (q : Place) → may_have new q ≡ has_bits (get_or new (slot (length words) (hash q)) 0) (bits_of (hash q))
  tell q = bits_tell new q (slot (length words) (hash q)) (ap (λ n. slot n (hash q)) (sym kept))
      (omega (arith, kept, within))

  still_passes : (q : Place) → may_have words q ≡ true → may_have new q ≡ true
  unfolding new
  still_passes q h =
      let j = slot (length words) (hash q) in
      let some : 0 < length words = omega (arith, within) in
      tell q ∙ eq-eqb _ _ (still_there words i j more (bits_of (hash q)) within
      (eqb-true _ _ (sym (bits_tell words q j refl some) ∙ h)))

  passed : (q : Place) (b : Bool) → may_have words q ≡ b → may_have new q ≡ false → b ≡ false
  passed q true is h = absurd (false≢true (sym h ∙ still_passes q is))
  passed q false is h = refl

  pub marks : Marks words (set words i (bit_or (get_or words i 0) (bits_of (hash p)))) p
  unfolding new more
  marks = record {
    kept = kept;
    marked = tell p ∙ ap (λ k. has_bits (get_or new k 0) more) (sym at)
        ∙ eq-eqb _ _ (ap (λ w. bit_and w more) (get_or-set_same words i (bit_or (get_or words i 0) more) 0 within)
        ∙ and_or_self more (get_or words i 0));
    others = λ q h. passed q (may_have words q) refl h;
  }

-- the same of a word that was read, and of what was computed on the way to it
module _ (words : List ℕ) (p : Place) (h bits n i word : ℕ) (is_hash : h ≡ hash p) (are_bits : bits ≡ bits_of h)
    (is_slot : i ≡ slot n h) (all : n ≡ length words) (within : i < n) (is_word : word ≡ get_or words i word) where
  at : i ≡ slot (length words) (hash p)
  at = is_slot ∙ ap (λ k. slot k h) all ∙ ap (slot (length words)) is_hash

  inside : i < length words
  inside = omega (arith, within, all)

  read : get_or words i 0 ≡ word
  read = get_or_default words i 0 word inside ∙ sym is_word

  their : bits_of (hash p) ≡ bits
  their = sym (are_bits ∙ ap bits_of is_hash)

  pub read_tells : has_bits word bits ≡ may_have words p
  read_tells = sym (bits_tell words p i at (omega (arith, inside)) ∙ ap (λ w. has_bits w (bits_of (hash p))) read
      ∙ ap (has_bits word) their)

  pub written_marks : Marks words (set words i (bit_or word bits)) p
  written_marks =
      subst (λ w. Marks words (set words i (bit_or w bits)) p) read
      (subst (λ b. Marks words (set words i (bit_or (get_or words i 0) b)) p) their (marks words i p at inside))

-- a place that is not the first of a list is found behind it
pub found_behind : (p : Place) (e : Place × ℕ) (es : List (Place × ℕ)) → (p ≡ e.0 → ⊥) →
    find place_cmp p (e ∷ es) ≡ find place_cmp p es
found_behind p e es apart = step (eq_by_cmp place_cmp p e.0) refl
  where
    step : (b : Bool) → eq_by_cmp place_cmp p e.0 ≡ b → find place_cmp p (e ∷ es) ≡ find place_cmp p es
    step true is = absurd (apart (tied p e.0 is))
    step false is = ap (λ b. cond b (Some e.1) (find place_cmp p es)) is
