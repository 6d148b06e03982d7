-- What a number leaves when divided by a power of two.
use Rattle.std.proofs.Common.{◌≡◌, ℕ, ◌-◌, ◌*◌, ◌<◌, ◌%◌, ◌^◌, bit_and, sym, ◌∙◌, ap, arith}
use Rattle.std.proofs.Math.Nat.{mod-eq_of_lt}
use Rattle.std.proofs.Math.Pow.{pow-lt}
use Rattle.std.proofs.lemmas.Nat.{and_mask}

-- that is its low bits
pub low_bits : (row k bits : ℕ) → bits < 64 → k ≡ 1 * 2 ^ bits % 2 ^ 64 → bit_and row (k - 1) ≡ row % k
low_bits row k bits within is =
    let once : 1 * 2 ^ bits ≡ 2 ^ bits = omega arith in
    let power : k ≡ 2 ^ bits = is ∙ ap (λ n. n % 2 ^ 64) once ∙ mod-eq_of_lt (pow-lt within) in
    ap (λ p. bit_and row (p - 1)) power ∙ and_mask row bits ∙ ap (λ p. row % p) (sym power)
