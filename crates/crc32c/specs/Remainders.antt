-- CRC-32C, the checksum of RFC 3720 (B.4): the remainder of a division of polynomials with coefficients 0 and 1.
use Rattle.std.specs.Prelude.{ℕ, zero, suc, ◌-◌, ◌/◌, ◌%◌, ◌^◌, ◌==◌, if◌then◌else◌, List, [], ◌∷◌, bit_xor}

-- A polynomial of degree below 32 is a number below 2^32, whose bit 31 - k is the coefficient of x^k: the order in
-- which the bits of a byte come, the lowest first, is that of falling powers. The generator is x^32 and these, which in
-- the order of rising bits are 1EDC6F41.
abbrev pub generator : ℕ
generator = 0x82f6_3b78

-- a number by its lowest bit and the half of it: the remainder of x times the polynomial, where that bit is the
-- coefficient of x^31, so that x^32 is taken off by the generator
abbrev pub reduced : ℕ → ℕ → ℕ
reduced bit half = if bit == 1 then bit_xor half generator else half

abbrev pub times_x : ℕ → ℕ
times_x r = reduced (r % 2) (r / 2)

-- the remainder of x^n times the polynomial
unfoldable pub times_x_to : ℕ → ℕ → ℕ
times_x_to zero r = r
times_x_to (suc n) r = times_x_to n (times_x r)

-- The remainder once these bytes were read behind a text with the remainder r. Each byte adds its bits to the eight
-- highest powers, and then all move up by x^8.
abbrev pub after_bytes : ℕ → List ℕ → ℕ
after_bytes r [] = r
after_bytes r (byte ∷ bytes) = after_bytes (times_x_to 8 (bit_xor r byte)) bytes

-- each bit turned over
abbrev pub complement : ℕ → ℕ
complement r = 2 ^ 32 - 1 - r

-- the remainder before any byte
abbrev pub all_ones : ℕ
all_ones = 2 ^ 32 - 1

-- the remainder begins with all bits set, and its complement is the checksum
abbrev pub checksum_of : List ℕ → ℕ
checksum_of bytes = complement (after_bytes all_ones bytes)
