use Rattle.std.proofs.Common.{◌≡◌, ℕ, ◌<◌, ◌⊎◌, length, subst, inl, inr, arith}
use Rattle.hyper_matrix.specs.Merge.{AppendsSum}
use Rattle.hyper_matrix.proofs.ListMergeLaws.{sums_run, sums_run_right, sums_all}
use Rattle.hyper_matrix.proofs.merge.push_merged.Goals as goal

pub push_both-i-requires-clause-room : goal.push_both-i-requires-clause-room
push_both-i-requires-clause-room c = omega (
  arith,
  c.in_ok-front.ensures.len,
  c.in_ok-front.ensures.capacity,
  c.in_ok-reserve.ensures.ok,
)

-- one list is at its end, so the next of both aren't there
over : (i j m n : ℕ) → (m ≡ i) ⊎ (n ≡ j) → i < m → j < n → ⊥
over i j m n (inl left) more other = omega (arith, left, more)
over i j m n (inr right) more other = omega (arith, right, other)

pub returns : goal.returns
returns c =
    let left = c.args.left.now in
    let right = c.args.right.now in
    let old = c.reserve.new.self.items in
    let i = c.push_both-i.result.0 in
    let j = c.push_both-i.result.1 in
    let both = c.push_both-i.ensures.sums old c.in_ok-front.ensures.sums in
    let to_left = sums_run old c.push_both-i.new.out.items c.extend_from_slice.new.self.items left right i j (length left)
    c.requires.left both.left_within (omega arith) (λ d more other. absurd (over i j (length left) (length right) c.push_both-i.ensures.ends more other))
    c.in_ok-extend_from_slice.ensures.items both in
    let to_right = sums_run_right old c.extend_from_slice.new.self.items c.extend_from_slice-2.new.self.items left right
    (length left) j (length right) c.requires.right both.right_within (omega arith)
    (λ d more other. absurd (omega (arith, other))) c.in_ok-extend_from_slice-2.ensures.items to_left in
    subst (λ begun. AppendsSum begun c.extend_from_slice-2.new.self.items left right) c.reserve.ensures.items
    (sums_all old c.extend_from_slice-2.new.self.items left right to_right)
