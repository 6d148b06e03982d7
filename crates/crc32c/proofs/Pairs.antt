-- x^n is not 1 for any n up to 32,767, so two bits that are no farther apart than that don't make up for each other.
use Rattle.std.proofs.Common.{◌≡◌, ℕ, zero, suc, ◌+◌, ◌-◌, ◌<◌, Bool, true, not, ◌&&◌, List, ◌∷◌, ◌++◌, length}
use Rattle.std.proofs.Common.{refl, sym, ◌∙◌, ap, subst, arith, inl, inr}
use Rattle.std.specs.Prelude.{bit_xor, ◌==◌}
use Rattle.std.proofs.lemmas.Bool.{and_parts, cases_lt, eq-eqb}
use Rattle.std.proofs.lemmas.Nat.{xor_lt}
use lib.Bits.{xor_self}
use Rattle.crc32c.specs.Remainders.{times_x, times_x_to, all_ones, checksum_of}
use Rattle.crc32c.specs.Changes.{IsBytes, IsPair}
use Rattle.crc32c.proofs.Linear.{xor_swap, times_x-xor, times_x_to-add}
use Rattle.crc32c.proofs.BitLemmas.{AreBits, after_bits, are_bits-of, are_bits-parts, after_bits-append, after_bits-below}
use Rattle.crc32c.proofs.BitLemmas.{times_x-below, xor_none, none_before_all, apart_after, same_before, remainders_are}

-- none of the next n remainders, each x times the one before, is that of x^31, which is 1
never_one : ℕ → ℕ → Bool
never_one zero r = true
never_one (suc n) r = not (r == 1) && never_one n (times_x r)

not_there : (n m r : ℕ) → never_one n r ≡ true → m < n → times_x_to m r ≡ 1 → ⊥
unfolding never_one times_x_to
not_there zero m r h lt e = absurd (omega arith)
not_there (suc n) zero r h lt e =
    absurd (let one = (and_parts (not (r == 1)) (never_one n (times_x r)) h).0 in
    let same : (not (r == 1)) ≡ (not true) = ap not (eq-eqb r 1 e) in cc)
not_there (suc n) (suc m) r h lt e =
    not_there n m (times_x r) (and_parts (not (r == 1)) (never_one n (times_x r)) h).1 (omega arith) e

-- the remainders of x^n at four places, 8,192 apart
first : ℕ
first = 0x82f6_3b78

second : ℕ
second = 0x7f18a12c

third : ℕ
third = 0x7ba834c2

fourth : ℕ
fourth = 0xef9b767d

never_first : never_one 8192 first ≡ true
unfolding never_one first
never_first = refl

never_second : never_one 8192 second ≡ true
unfolding never_one second
never_second = refl

never_third : never_one 8192 third ≡ true
unfolding never_one third
never_third = refl

never_fourth : never_one 8192 fourth ≡ true
unfolding never_one fourth
never_fourth = refl

to_second : times_x_to 8192 first ≡ second
unfolding times_x_to first second
to_second = refl

to_third : times_x_to 8192 second ≡ third
unfolding times_x_to second third
to_third = refl

to_fourth : times_x_to 8192 third ≡ fourth
unfolding times_x_to third fourth
to_fourth = refl

-- the first 8,192 remainders from here on are none, and no later one is
either_part : (m n r s : ℕ) → never_one 8192 r ≡ true → times_x_to 8192 r ≡ s → m < 8192 + n →
    ((k : ℕ) → k < n → times_x_to k s ≡ 1 → ⊥) → times_x_to m r ≡ 1 → ⊥
either_part m n r s never next lt later e = elim (cases_lt m 8192) [
  | inl here ↦ not_there 8192 m r never here e
  | inr behind ↦
      let parts : 8192 + (m - 8192) ≡ m = omega arith in
      later (m - 8192) (omega arith)
      (ap (times_x_to (m - 8192)) (sym next) ∙ sym (times_x_to-add 8192 (m - 8192) r)
      ∙ ap (λ (i : ℕ). times_x_to i r) parts ∙ e)
]

from_fourth : (k : ℕ) → k < 8192 → times_x_to k fourth ≡ 1 → ⊥
from_fourth k lt e = not_there 8192 k fourth never_fourth lt e

from_third : (k : ℕ) → k < 16384 → times_x_to k third ≡ 1 → ⊥
from_third k lt e = either_part k 8192 third fourth never_third to_fourth (omega arith) from_fourth e

from_second : (k : ℕ) → k < 24576 → times_x_to k second ≡ 1 → ⊥
from_second k lt e = either_part k 16384 second third never_second to_third (omega arith) from_third e

from_first : (k : ℕ) → k < 32768 → times_x_to k first ≡ 1 → ⊥
from_first k lt e = either_part k 24576 first second never_first to_second (omega arith) from_second e

first_is : times_x 1 ≡ first
unfolding first
first_is = refl

once : (n : ℕ) → times_x_to 1 n ≡ times_x n
unfolding times_x_to
once n = refl

-- two bits that aren't the same
one_apart : (a b : ℕ) → a < 2 → b < 2 → (a ≡ b → ⊥) → bit_xor a b ≡ 1
one_apart zero zero p q n = absurd (n refl)
one_apart zero (suc zero) p q n = refl
one_apart (suc zero) zero p q n = refl
one_apart (suc zero) (suc zero) p q n = absurd (n refl)
one_apart (suc (suc a)) b p q n = absurd (omega arith)
one_apart zero (suc (suc b)) p q n = absurd (omega arith)
one_apart (suc zero) (suc (suc b)) p q n = absurd (omega arith)

-- a bit more, which differs, on remainders that may differ
stepped : (r s a b : ℕ) → bit_xor a b ≡ 1 →
    bit_xor (times_x (bit_xor r a)) (times_x (bit_xor s b)) ≡ times_x (bit_xor (bit_xor r s) 1)
stepped r s a b e =
    sym (times_x-xor (bit_xor r a) (bit_xor s b))
    ∙ ap times_x (xor_swap r a s b ∙ ap (bit_xor (bit_xor r s)) e)

pub pair_found : (old new : List ℕ) → IsBytes old → IsBytes new → IsPair 32766 old new →
    checksum_of old ≡ checksum_of new → ⊥
pair_found old new fits_old fits_new p e =
    let r = after_bits all_ones p.front in
    let m = p.between in
    let bits_old = are_bits-parts p.front (p.a ∷ (m ++ (p.b ∷ p.back))) (subst AreBits p.old_is (are_bits-of old)) in
    let bits_new = are_bits-parts p.front (p.c ∷ (m ++ (p.d ∷ p.back))) (subst AreBits p.new_is (are_bits-of new)) in
    let behind_old = are_bits-parts m (p.b ∷ p.back) bits_old.1.1 in
    let behind_new = are_bits-parts m (p.d ∷ p.back) bits_new.1.1 in
    let a_small = bits_old.1.0 in let b_small = behind_old.1.0 in
    let c_small = bits_new.1.0 in let d_small = behind_new.1.0 in
    let below = after_bits-below all_ones p.front (omega arith) bits_old.0 in
    let r1 = times_x (bit_xor r p.a) in
    let s1 = times_x (bit_xor r p.c) in
    let r1_below = times_x-below (bit_xor r p.a) (xor_lt 32 r p.a below (omega arith)) in
    let s1_below = times_x-below (bit_xor r p.c) (xor_lt 32 r p.c below (omega arith)) in
    let r2 = after_bits r1 m in
    let s2 = after_bits s1 m in
    let r2_below = after_bits-below r1 m r1_below behind_old.0 in
    let s2_below = after_bits-below s1 m s1_below behind_old.0 in
    let r3 = times_x (bit_xor r2 p.b) in
    let s3 = times_x (bit_xor s2 p.d) in
    let r3_below = times_x-below (bit_xor r2 p.b) (xor_lt 32 r2 p.b r2_below (omega arith)) in
    let s3_below = times_x-below (bit_xor s2 p.d) (xor_lt 32 s2 p.d s2_below (omega arith)) in
    let whole : after_bits r3 p.back ≡ after_bits s3 p.back =
    sym (after_bits-append all_ones p.front (p.a ∷ (m ++ (p.b ∷ p.back))) ∙ after_bits-append r1 m (p.b ∷ p.back))
    ∙ ap (after_bits all_ones) (sym p.old_is) ∙ remainders_are old new fits_old fits_new e
    ∙ ap (after_bits all_ones) p.new_is
    ∙ after_bits-append all_ones p.front (p.c ∷ (m ++ (p.d ∷ p.back))) ∙ after_bits-append s1 m (p.d ∷ p.back) in
    let same : r3 ≡ s3 = same_before r3 s3 p.back r3_below s3_below whole in
    let begun : bit_xor r1 s1 ≡ first =
    stepped r r p.a p.c (one_apart p.a p.c a_small c_small p.first_differs)
    ∙ ap times_x (ap (λ (n : ℕ). bit_xor n 1) (xor_self r)) ∙ first_is in
    let far : bit_xor r2 s2 ≡ times_x_to (length m) first = apart_after r1 s1 m ∙ ap (times_x_to (length m)) begun in
    let none : times_x (bit_xor (bit_xor r2 s2) 1) ≡ 0 =
    sym (stepped r2 s2 p.b p.d (one_apart p.b p.d b_small d_small p.second_differs))
    ∙ ap (λ (n : ℕ). bit_xor n s3) same ∙ xor_self s3 in
    let gone : bit_xor (bit_xor r2 s2) 1 ≡ 0 =
    none_before_all 1 (bit_xor (bit_xor r2 s2) 1)
    (xor_lt 32 (bit_xor r2 s2) 1 (xor_lt 32 r2 s2 r2_below s2_below) (omega arith)) (once (bit_xor (bit_xor r2 s2) 1)
    ∙ none) in
    let few = p.near in
    from_first (length m) (omega arith) (sym far ∙ xor_none (bit_xor r2 s2) 1 gone)
