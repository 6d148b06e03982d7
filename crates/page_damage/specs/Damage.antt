-- Changes of a page, bit by bit.
use Rattle.std.specs.Prelude.{◌≡◌, ℕ, List, length}
use Rattle.crc32c.specs.Changes.{bits_of, differing}

-- as many bytes, and two bits differ
pub record HasTwoChanges (old new : List ℕ) : Type 0 where
  pub same_length : length old ≡ length new
  pub two : differing (bits_of old) (bits_of new) ≡ 2
