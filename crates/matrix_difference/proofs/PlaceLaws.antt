-- The difference at one place, and of whole matrices.
use Rattle.std.proofs.Common.{◌≡◌, ◌⊎◌, ℕ, ◌+◌, ◌-◌, Bool, true, false, cond, not, ltb, eqb, Option, Some, None}
use Rattle.std.proofs.Common.{sym, ◌∙◌, ap, refl, inl, inr, arith}
use Rattle.std.specs.Prelude.{IsSome}
use Rattle.std.specs.FinMap.{get, retain_keys, get-retain_keys}
use Rattle.std.proofs.lemmas.Bool.{le-ltb, eq-eqb, ne_eqb}
use Rattle.std.proofs.lemmas.Option.{none-some, same_Some}
use borrow.Author.Tests.{ltb-false, eqb-true, eqb-false}
use Rattle.hyper_matrix.specs.Counts.{Counts, Place, plus, ewise_add, total}
use Rattle.hyper_matrix.proofs.CountLaws.{same_counts, get-ewise_add, total-ewise_add, exact_places}
use Rattle.matrix_difference.specs.Difference.{left_over, minus, IsDifference, HasFewerZeros}

-- of two counts, by the tests
left_cases : (m n : ℕ) (x : Option ℕ) (b c : Bool) → ltb m n ≡ b → eqb m n ≡ c →
    cond b None (cond c (Some None) (Some (Some (m - n)))) ≡ Some x → plus (Some n) x ≡ Some m
left_cases m n x true c p q e = absurd (none-some x e)
left_cases m n x false true p q e =
    ap (plus (Some n)) (sym (same_Some None x e)) ∙ ap (λ (k : ℕ). Some k) (sym (eqb-true m n q))
left_cases m n x false false p q e =
    ap (plus (Some n)) (sym (same_Some (Some (m - n)) x e))
    ∙ (let more : n + (m - n) ≡ m = omega (arith, ltb-false m n p) in ap (λ (k : ℕ). Some k) more)

-- added to the earlier count, what is left over gives the later one
pub minus_adds_back : (a b x : Option ℕ) → minus a b ≡ Some x → plus b x ≡ a
minus_adds_back a None x e = sym (same_Some a x e)
minus_adds_back None (Some n) x e = absurd (none-some x e)
minus_adds_back (Some m) (Some n) x e = left_cases m n x (ltb m n) (eqb m n) refl refl e

pub adds_back : (a b x : Counts) → IsDifference a b x → ewise_add b x ≡ a
adds_back a b x d = same_counts _ _ (λ q. get-ewise_add b x q ∙ minus_adds_back (get a q) (get b q) (get x q) (d q))

pub total_rises : (a b x : Counts) → IsDifference a b x → total b + total x ≡ total a
total_rises a b x d = sym (total-ewise_add b x) ∙ ap total (adds_back a b x d)

pub at_most_one : (a b x y : Counts) → IsDifference a b x → IsDifference a b y → y ≡ x
at_most_one a b x y d e = same_counts _ _ (λ q. same_Some (get y q) (get x q) (sym (e q) ∙ d q))

-- an entry stays, unless it is a stored zero where there was one before
abbrev pub stays : Option ℕ → Option ℕ → Bool
stays None y = true
stays (Some n) None = true
stays (Some n) (Some m) = not (eqb m 0)

-- whatever was added, what has risen is that, but for such zeros
pub minus-plus : (o y : Option ℕ) → minus (plus o y) o ≡ Some (cond (stays o y) y None)
minus-plus None y = refl
minus-plus (Some n) None =
    let less : ltb n n ≡ false = le-ltb n n (omega arith) in
    let same : eqb n n ≡ true = eq-eqb n n refl in rw (less, same) refl
minus-plus (Some n) (Some m) = step (eqb m 0) refl
  where
    less : ltb (n + m) n ≡ false
    less = le-ltb (n + m) n (omega arith)

    rest : m ≡ n + m - n
    rest = omega arith

    step : (z : Bool) → eqb m 0 ≡ z →
        left_over (n + m) n ≡ Some (cond (not z) (Some m) None)
    step true e =
        let same : eqb (n + m) n ≡ true = eq-eqb (n + m) n (omega (arith, eqb-true m 0 e)) in rw (less, same) refl
    step false e =
        let other : eqb (n + m) n ≡ false = ne_eqb (n + m) n (λ s. eqb-false m 0 e (omega (arith, s))) in
        rw (less, other) (ap (λ (k : ℕ). Some (Some k)) (sym rest))

-- that with such zeros left out
abbrev pub without_zeros : Counts → Counts → Counts
without_zeros b y = retain_keys y (λ p. stays (get b p) (get y p))

pub get-without_zeros : (b y : Counts) (q : Place) →
    get (without_zeros b y) q ≡ cond (stays (get b q) (get y q)) (get y q) None
get-without_zeros b y q = get-retain_keys y (λ p. stays (get b p) (get y p)) q (λ x same.
    ap (λ (p : Place). stays (get b p) (get y p)) (sym (exact_places q x same)))

pub is_left : (a b y : Counts) → ewise_add b y ≡ a → IsDifference a b (without_zeros b y)
is_left a b y is q =
    ap (λ (m : Counts). minus (get m q) (get b q)) (sym is)
    ∙ ap (λ o. minus o (get b q)) (get-ewise_add b y q)
    ∙ minus-plus (get b q) (get y q)
    ∙ ap (λ (o : Option ℕ). Some o) (sym (get-without_zeros b y q))

-- what is left out, at one place
left_out : (o y x : Option ℕ) → x ≡ cond (stays o y) y None → (y ≡ x) ⊎ (IsSome o × (x ≡ None) × (y ≡ Some 0))
left_out None y x e = inl (sym e)
left_out (Some n) None x e = inl (sym e)
left_out (Some n) (Some m) x e = step (eqb m 0) refl e
  where
    step : (z : Bool) → eqb m 0 ≡ z → x ≡ cond (not z) (Some m) None →
        (Some m ≡ x) ⊎ (IsSome (Some n) × (x ≡ None) × (Some m ≡ Some 0))
    step true z e = inr (refl, e, ap (λ (k : ℕ). Some k) (eqb-true m 0 z))
    step false z e = inl (sym e)

pub has_fewer : (b y : Counts) → HasFewerZeros b (without_zeros b y) y
has_fewer b y p = left_out (get b p) (get y p) (get (without_zeros b y) p) (get-without_zeros b y p)

-- where the count falls, nothing adds back
pub falls_rightly : (a b y : Counts) (p : Place) → minus (get a p) (get b p) ≡ None → ewise_add b y ≡ a → ⊥
falls_rightly a b y p e is = none-some (get (without_zeros b y) p) (sym e ∙ is_left a b y is p)
