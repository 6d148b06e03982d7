-- Changes of bytes, bit by bit.
use Rattle.std.specs.Prelude.{◌≡◌, ◌≢◌, ℕ, zero, suc, ◌+◌, ◌/◌, ◌%◌, ◌<◌, ◌≤◌, ◌==◌, if◌then◌else◌, List, [], ◌∷◌, ◌++◌}
use Rattle.std.specs.Prelude.{length, slice_index}

-- each element is a byte
abbrev pub IsBytes : List ℕ → Type 0
IsBytes bytes = (i : ℕ) → slice_index bytes i < 256

-- the n lowest bits of a number, the lowest first
unfoldable pub low_bits : ℕ → ℕ → List ℕ
low_bits zero x = []
low_bits (suc n) x = x % 2 ∷ low_bits n (x / 2)

-- the bits of bytes in the order in which the checksum takes them: of each byte the lowest first
unfoldable pub bits_of : List ℕ → List ℕ
bits_of [] = []
bits_of (byte ∷ bytes) = low_bits 8 byte ++ bits_of bytes

-- The bits differ in at most n successive places, and somewhere there.
pub record IsBurst (n : ℕ) (old new : List ℕ) : Type 0 where
  pub front : List ℕ
  pub back : List ℕ
  pub before : List ℕ
  pub after : List ℕ
  pub old_is : bits_of old ≡ front ++ (before ++ back)
  pub new_is : bits_of new ≡ front ++ (after ++ back)
  pub same_length : length before ≡ length after
  pub few : length before ≤ n
  pub changed : before ≢ after

-- Two bits differ, and at most n stand between them.
pub record IsPair (n : ℕ) (old new : List ℕ) : Type 0 where
  pub front : List ℕ
  pub between : List ℕ
  pub back : List ℕ
  pub a : ℕ
  pub b : ℕ
  pub c : ℕ
  pub d : ℕ
  pub old_is : bits_of old ≡ front ++ (a ∷ (between ++ (b ∷ back)))
  pub new_is : bits_of new ≡ front ++ (c ∷ (between ++ (d ∷ back)))
  pub first_differs : a ≢ c
  pub second_differs : b ≢ d
  pub near : length between ≤ n

-- at how many places two lists of one length differ
unfoldable pub differing : List ℕ → List ℕ → ℕ
differing [] ys = 0
differing (x ∷ xs) [] = 0
differing (x ∷ xs) (y ∷ ys) = (if x == y then 0 else 1) + differing xs ys

-- as many bytes, and an odd number of bits differ
pub record HasOddChanges (old new : List ℕ) : Type 0 where
  pub same_length : length old ≡ length new
  pub odd : differing (bits_of old) (bits_of new) % 2 ≡ 1
