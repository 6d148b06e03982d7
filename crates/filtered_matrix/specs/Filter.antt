-- A filter of places: words of 64 bits. A place has one of the words, by its hash, and three bits in it.
--     hash              the hash of a place
--     slot, bits_of     the number of the word among n, and the bits in it, that go with a hash
--     may_have          whether all bits of a place are set. Without a word every place passes
--     Covers            the places that don't pass have no entry
--     Marks             the bits of a place are set, and none is cleared
use Rattle.std.specs.Prelude.{◌≡◌, ℕ, ◌-◌, ◌*◌, ◌/◌, ◌%◌, ◌^◌, Bool, true, false, ◌||◌, ◌==◌, List, length, None}
use Rattle.std.specs.Prelude.{bit_and, bit_or, bit_xor, slice_index}
use Rattle.std.specs.FinMap.{get}
use Rattle.hyper_matrix.specs.Counts.{Place, Counts}

unfoldable pub folded : ℕ → ℕ
folded x = bit_xor x (x / 2 ^ 32)

unfoldable pub hash : Place → ℕ
hash p =
    folded (bit_xor (p.0 * 0x9e37_79b9_7f4a_7c15 % 2 ^ 64) (p.1 * 0xc2b2_ae3d_27d4_eb4f % 2 ^ 64))
    * 0x9fb2_1c65_1e98_df25 % 2 ^ 64

unfoldable pub slot : ℕ → ℕ → ℕ
slot n h = bit_and (h / 2 ^ 32) (n - 1)

unfoldable pub bits_of : ℕ → ℕ
bits_of h = bit_or (bit_or (2 ^ (h / 2 ^ 58)) (2 ^ bit_and (h / 2 ^ 26) 63)) (2 ^ bit_and (h / 2 ^ 20) 63)

-- whether the bits are set in a word
abbrev pub has_bits : ℕ → ℕ → Bool
has_bits word bits = bit_and word bits == bits

unfoldable pub may_have : List ℕ → Place → Bool
may_have words p =
    (length words == 0) || has_bits (slice_index words (slot (length words) (hash p))) (bits_of (hash p))

abbrev pub Covers : List ℕ → Counts → Type 0
Covers words counts = (p : Place) → may_have words p ≡ false → get counts p ≡ None

pub record Marks (old new : List ℕ) (p : Place) : Type 0 where
  pub kept : length new ≡ length old
  pub marked : may_have new p ≡ true
  pub others : (q : Place) → may_have new q ≡ false → may_have old q ≡ false
