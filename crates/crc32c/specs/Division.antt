-- Division of polynomials with coefficients 0 and 1. A polynomial is the list of its bits, the highest power first.
use Rattle.std.specs.Prelude.{◌≡◌, ℕ, zero, suc, ◌+◌, ◌*◌, ◌%◌, List, [], ◌∷◌, ◌++◌, length}
use Rattle.crc32c.specs.Remainders.{generator}
use Rattle.crc32c.specs.Changes.{low_bits}

-- so many bits that are not set
unfoldable pub zeros : ℕ → List ℕ
zeros zero = []
zeros (suc n) = 0 ∷ zeros n

unfoldable pub ones : ℕ → List ℕ
ones zero = []
ones (suc n) = 1 ∷ ones n

-- the sum of two polynomials of one length
unfoldable pub plus : List ℕ → List ℕ → List ℕ
plus [] ys = []
plus (x ∷ xs) [] = []
plus (x ∷ xs) (y ∷ ys) = (x + y) % 2 ∷ plus xs ys

-- a bit times a polynomial
unfoldable pub scaled : ℕ → List ℕ → List ℕ
scaled bit [] = []
scaled bit (x ∷ xs) = bit * x ∷ scaled bit xs

-- the generator, from x^32 on
abbrev pub generator_bits : List ℕ
generator_bits = 1 ∷ low_bits 32 generator

-- A polynomial times the generator: each of its bits times the generator, moved up by as many powers as bits follow.
unfoldable pub times_generator : List ℕ → List ℕ
times_generator [] = zeros 32
times_generator (bit ∷ bits) =
    plus (scaled bit (generator_bits ++ zeros (length bits))) (0 ∷ times_generator bits)

-- A message, to whose first 32 bits ones are added, times x^32 is the quotient times the generator and this remainder.
pub record IsDivided (message quotient remainder : List ℕ) : Type 0 where
  pub same_length : length quotient ≡ length message
  pub short : length remainder ≡ 32
  pub sum : plus (message ++ zeros 32) (ones 32 ++ zeros (length message)) ≡
      plus (times_generator quotient) (zeros (length message) ++ remainder)
