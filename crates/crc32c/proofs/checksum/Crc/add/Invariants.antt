use Rattle.std.proofs.Common.{◌≡◌, ◌<◌, ℕ, length, drop, get_or}
use Rattle.crc32c.specs.Remainders.{after_bytes}
use Rattle.crc32c.proofs.checksum.Crc.add.Given as goal

-- what is left, behind what was read, gives the remainder of all
abbrev pub invariant-loop-word : goal.invariant-loop-word
invariant-loop-word l =
    record {
      all : after_bytes l.remainder l.rest ≡ after_bytes l.fn.self l.bytes;
      fits : (i : ℕ) → get_or l.rest i 0 < 256;
    }

abbrev pub decreases-loop-word : goal.decreases-loop-word
decreases-loop-word l = length l.rest

abbrev pub invariant-loop-byte : goal.invariant-loop-byte
invariant-loop-byte l = after_bytes l.remainder (drop l.byte-index l.byte-items) ≡ after_bytes l.fn.self l.bytes
