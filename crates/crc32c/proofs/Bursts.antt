-- A change of at most 32 successive bits changes the remainder.
use Rattle.std.proofs.Common.{◌≡◌, ℕ, zero, suc, ◌+◌, ◌*◌, ◌/◌, ◌%◌, ◌^◌, ◌<◌, ◌≤◌, List, [], ◌∷◌, ◌++◌, length}
use Rattle.std.proofs.Common.{refl, sym, ◌∙◌, ap, subst, arith}
use Rattle.std.specs.Prelude.{bit_xor}
use Rattle.std.proofs.Math.Nat.{pow-suc}
use Rattle.std.proofs.lemmas.Nat.{xor_comm, xor_lt, pow_pos}
use lib.Bits.{xor_assoc, xor_self, xor_zero_l}
use Rattle.crc32c.specs.Remainders.{times_x_to, all_ones, checksum_of}
use Rattle.crc32c.specs.Changes.{IsBytes, low_bits, IsBurst}
use Rattle.crc32c.proofs.Linear.{times_x_to-xor}
use Rattle.crc32c.proofs.BitLemmas.{AreBits, after_bits, are_bits-of, are_bits-parts, low_bits_read, after_bits-append}
use Rattle.crc32c.proofs.BitLemmas.{after_bits-below, xor_none, none_before_all, same_before, remainders_are}

-- the number of these bits, the lowest first
abbrev number_of : List ℕ → ℕ
number_of [] = 0
number_of (bit ∷ bits) = bit + 2 * number_of bits

number_below : (bits : List ℕ) (n : ℕ) → AreBits bits → length bits ≤ n → number_of bits < 2 ^ n
number_below [] n are few = pow_pos n
number_below (bit ∷ bits) zero are few = absurd (omega arith)
number_below (bit ∷ bits) (suc n) are few =
    let rest = number_below bits n are.1 (omega arith) in
    let b = are.0 in
    let e = pow-suc 2 n in
    omega arith

bits_again : (bits : List ℕ) → AreBits bits → low_bits (length bits) (number_of bits) ≡ bits
unfolding low_bits
bits_again [] are = refl
bits_again (bit ∷ bits) are =
    let m = number_of bits in
    let b = are.0 in
    let low : (bit + 2 * m) % 2 ≡ bit = omega arith in
    let high : (bit + 2 * m) / 2 ≡ m = omega arith in
    ap (λ (x : ℕ). x ∷ low_bits (length bits) ((bit + 2 * m) / 2)) low
    ∙ ap (λ (x : ℕ). bit ∷ low_bits (length bits) x) high ∙ ap (λ (l : List ℕ). bit ∷ l) (bits_again bits are.1)

-- bits are read as their number is
read_as : (r : ℕ) (bits : List ℕ) → AreBits bits →
    after_bits r bits ≡ times_x_to (length bits) (bit_xor r (number_of bits))
read_as r bits are =
    ap (after_bits r) (sym (bits_again bits are))
    ∙ sym (low_bits_read (length bits) r (number_of bits) (number_below bits (length bits) are (omega arith)))

cancelled : (r a b : ℕ) → bit_xor (bit_xor r a) (bit_xor r b) ≡ bit_xor a b
cancelled r a b =
    ap (λ (n : ℕ). bit_xor n (bit_xor r b)) (xor_comm r a) ∙ xor_assoc a r (bit_xor r b)
    ∙ ap (bit_xor a) (sym (xor_assoc r r b) ∙ ap (λ (n : ℕ). bit_xor n b) (xor_self r) ∙ xor_zero_l b)

same_window : (r : ℕ) (a b : List ℕ) → AreBits a → AreBits b → length a ≡ length b → length a ≤ 32 →
    after_bits r a ≡ after_bits r b → a ≡ b
same_window r a b are_a are_b same few e =
    let n = length a in
    let x = number_of a in
    let y = number_of b in
    let right : after_bits r b ≡ times_x_to n (bit_xor r y) =
    read_as r b are_b ∙ ap (λ (k : ℕ). times_x_to k (bit_xor r y)) (sym same) in
    let equal : times_x_to n (bit_xor r x) ≡ times_x_to n (bit_xor r y) = sym (read_as r a are_a) ∙ e ∙ right in
    let none : times_x_to n (bit_xor x y) ≡ 0 =
    ap (times_x_to n) (sym (cancelled r x y)) ∙ times_x_to-xor n (bit_xor r x) (bit_xor r y)
    ∙ ap (λ (k : ℕ). bit_xor k (times_x_to n (bit_xor r y))) equal ∙ xor_self (times_x_to n (bit_xor r y)) in
    let numbers : x ≡ y = xor_none x y (none_before_all n (bit_xor x y)
    (xor_lt 32 x y (number_below a 32 are_a few) (number_below b 32 are_b (omega arith))) none) in
    sym (bits_again a are_a) ∙ ap (low_bits n) numbers ∙ ap (λ (k : ℕ). low_bits k y) same ∙ bits_again b are_b

pub burst_found : (old new : List ℕ) → IsBytes old → IsBytes new → IsBurst 32 old new →
    checksum_of old ≡ checksum_of new → ⊥
burst_found old new fits_old fits_new c e =
    let r = after_bits all_ones c.front in
    let bits_old = are_bits-parts c.front (c.before ++ c.back) (subst AreBits c.old_is (are_bits-of old)) in
    let bits_new = are_bits-parts c.front (c.after ++ c.back) (subst AreBits c.new_is (are_bits-of new)) in
    let before = are_bits-parts c.before c.back bits_old.1 in
    let after = are_bits-parts c.after c.back bits_new.1 in
    let below = after_bits-below all_ones c.front (omega arith) bits_old.0 in
    let split : (xs : List ℕ) → after_bits all_ones (c.front ++ (xs ++ c.back)) ≡ after_bits (after_bits r xs) c.back =
    λ xs. after_bits-append all_ones c.front (xs ++ c.back) ∙ after_bits-append r xs c.back in
    let joined : after_bits (after_bits r c.before) c.back ≡ after_bits (after_bits r c.after) c.back =
    sym (split c.before) ∙ ap (after_bits all_ones) (sym c.old_is) ∙ remainders_are old new fits_old fits_new e
    ∙ ap (after_bits all_ones) c.new_is ∙ split c.after in
    let same = same_before (after_bits r c.before) (after_bits r c.after) c.back
    (after_bits-below r c.before below before.0) (after_bits-below r c.after below after.0) joined in
    c.changed (same_window r c.before c.after before.0 after.0 c.same_length c.few same)
