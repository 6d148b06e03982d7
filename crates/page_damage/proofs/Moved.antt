-- Bytes with their own remainder behind them leave no remainder, so lists of such bytes have one checksum.
use Rattle.std.proofs.Common.{◌≡◌, ℕ, zero, suc, ◌*◌, ◌/◌, ◌%◌, ◌^◌, ◌<◌, List, [], ◌∷◌, ◌++◌}
use Rattle.std.proofs.Common.{◌∙◌, ap, arith}
use Rattle.std.specs.Prelude.{bit_xor}
use Rattle.std.proofs.lemmas.Nat.{xor_comm, xor_lt}
use lib.Bits.{xor_assoc, xor_self, xor_zero_r}
use Rattle.crc32c.specs.Remainders.{generator, reduced, times_x, times_x_to, after_bytes, all_ones, complement, checksum_of}
use Rattle.crc32c.specs.Changes.{IsBytes}
use Rattle.crc32c.proofs.Linear.{after_bytes-append, parted, times_x_to-shifted}

-- the bytes of a remainder, the lowest first
unfoldable pub bytes_of : ℕ → List ℕ
bytes_of r = r % 256 ∷ r / 256 % 256 ∷ r / 256 / 256 % 256 ∷ r / 256 / 256 / 256 % 256 ∷ []

unfoldable pub moved : List ℕ → List ℕ
moved body = body ++ bytes_of (after_bytes all_ones body)

byte_off : (r : ℕ) → times_x_to 8 (bit_xor r (r % 256)) ≡ r / 256
byte_off r =
    let low = r % 256 in
    let high = r / 2 ^ 8 * 2 ^ 8 in
    let split : r ≡ bit_xor low high = parted r 8 in
    let left : bit_xor r low ≡ high =
    ap (λ (n : ℕ). bit_xor n low) split ∙ ap (λ (n : ℕ). bit_xor n low) (xor_comm low high)
    ∙ xor_assoc high low low ∙ ap (bit_xor high) (xor_self low) ∙ xor_zero_r high in
    ap (times_x_to 8) left ∙ times_x_to-shifted 8 (r / 2 ^ 8)

none_left : (r : ℕ) → r < 2 ^ 32 → after_bytes r (bytes_of r) ≡ 0
unfolding bytes_of
none_left r lt =
    let r1 = r / 256 in
    let r2 = r1 / 256 in
    let r3 = r2 / 256 in
    let gone : r3 / 256 ≡ 0 = omega arith in
    ap (λ (n : ℕ). after_bytes n (r1 % 256 ∷ r2 % 256 ∷ r3 % 256 ∷ [])) (byte_off r)
    ∙ ap (λ (n : ℕ). after_bytes n (r2 % 256 ∷ r3 % 256 ∷ [])) (byte_off r1)
    ∙ ap (λ (n : ℕ). after_bytes n (r3 % 256 ∷ [])) (byte_off r2)
    ∙ byte_off r3 ∙ gone

reduced-below : (bit half : ℕ) → bit < 2 → half < 2 ^ 31 → reduced bit half < 2 ^ 32
reduced-below zero half p q = omega arith
reduced-below (suc zero) half p q = xor_lt 32 half generator (omega arith) (omega arith)
reduced-below (suc (suc bit)) half p q = absurd (omega arith)

times_x_to-below : (n r : ℕ) → r < 2 ^ 32 → times_x_to n r < 2 ^ 32
unfolding times_x_to
times_x_to-below zero r lt = lt
times_x_to-below (suc n) r lt =
    times_x_to-below n (times_x r) (reduced-below (r % 2) (r / 2) (omega arith) (omega arith))

pub after-below : (r : ℕ) (bytes : List ℕ) → r < 2 ^ 32 → IsBytes bytes → after_bytes r bytes < 2 ^ 32
after-below r [] lt are = lt
after-below r (byte ∷ bytes) lt are =
    let small = are 0 in
    after-below (times_x_to 8 (bit_xor r byte)) bytes
    (times_x_to-below 8 (bit_xor r byte) (xor_lt 32 r byte lt (omega arith))) (λ i. are (suc i))

pub checksum_moved : (body : List ℕ) → IsBytes body → checksum_of (moved body) ≡ complement 0
unfolding moved
checksum_moved body are =
    let r = after_bytes all_ones body in
    ap complement (after_bytes-append all_ones body (bytes_of r)
    ∙ none_left r (after-below all_ones body (omega arith) are))

are_bytes-append : (xs ys : List ℕ) → IsBytes xs → IsBytes ys → IsBytes (xs ++ ys)
are_bytes-append [] ys a b i = b i
are_bytes-append (x ∷ xs) ys a b zero = a 0
are_bytes-append (x ∷ xs) ys a b (suc i) = are_bytes-append xs ys (λ j. a (suc j)) b i

are_bytes_of : (r : ℕ) → IsBytes (bytes_of r)
unfolding bytes_of
are_bytes_of r zero = omega arith
are_bytes_of r (suc zero) = omega arith
are_bytes_of r (suc (suc zero)) = omega arith
are_bytes_of r (suc (suc (suc zero))) = omega arith
are_bytes_of r (suc (suc (suc (suc i)))) = omega arith

pub are_bytes-moved : (body : List ℕ) → IsBytes body → IsBytes (moved body)
unfolding moved
are_bytes-moved body are = are_bytes-append body (bytes_of (after_bytes all_ones body)) are
    (are_bytes_of (after_bytes all_ones body))
