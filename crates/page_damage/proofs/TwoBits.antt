-- Lists that differ in two places, taken apart there.
use Rattle.std.proofs.Common.{◌≡◌, ℕ, suc, ◌+◌, ◌<◌, List, [], ◌∷◌, ◌++◌, length}
use Rattle.std.proofs.Common.{refl, sym, ◌∙◌, ap, arith, inl, inr}
use Rattle.std.specs.Prelude.{◌==◌, if◌then◌else◌}
use Rattle.std.proofs.lemmas.Bool.{cases_eq, eq-eqb, ne_eqb, cond-true, cond-false}
use Rattle.crc32c.specs.Changes.{differing}

pub record Apart (xs ys : List ℕ) : Type 0 where
  pub front : List ℕ
  pub a : ℕ
  pub c : ℕ
  pub back : List ℕ
  pub back' : List ℕ
  pub xs_is : xs ≡ front ++ (a ∷ back)
  pub ys_is : ys ≡ front ++ (c ∷ back')
  pub differs : a ≡ c → ⊥
  pub same_length : length back ≡ length back'
  pub more : differing xs ys ≡ suc (differing back back')

one_is : (x y : ℕ) (xs ys : List ℕ) → differing (x ∷ xs) (y ∷ ys) ≡ (if x == y then 0 else 1) + differing xs ys
unfolding differing
one_is x y xs ys = refl

none_added : (o d t : ℕ) → t ≡ o + d → o ≡ 0 → t ≡ d
none_added o d t e z = omega arith

one_added : (o d t : ℕ) → t ≡ o + d → o ≡ 1 → t ≡ suc d
one_added o d t e z = omega arith

same_first : (x y : ℕ) (xs ys : List ℕ) → x ≡ y → differing (x ∷ xs) (y ∷ ys) ≡ differing xs ys
same_first x y xs ys e =
    none_added (if x == y then 0 else 1) (differing xs ys) (differing (x ∷ xs) (y ∷ ys)) (one_is x y xs ys)
    (cond-true (x == y) 0 1 (eq-eqb x y e))

other_first : (x y : ℕ) (xs ys : List ℕ) → (x ≡ y → ⊥) → differing (x ∷ xs) (y ∷ ys) ≡ suc (differing xs ys)
other_first x y xs ys n =
    one_added (if x == y then 0 else 1) (differing xs ys) (differing (x ∷ xs) (y ∷ ys)) (one_is x y xs ys)
    (cond-false (x == y) 0 1 (ne_eqb x y n))

nothing : (ys : List ℕ) → differing [] ys ≡ 0
unfolding differing
nothing ys = refl

pub none_differ : (xs ys : List ℕ) → length xs ≡ length ys → differing xs ys ≡ 0 → xs ≡ ys
none_differ [] [] e z = refl
none_differ [] (y ∷ ys) e z = absurd (omega arith)
none_differ (x ∷ xs) [] e z = absurd (omega arith)
none_differ (x ∷ xs) (y ∷ ys) e z =
    elim (cases_eq x y) [
      | inl same ↦
          let rest = none_differ xs ys (omega arith) (sym (same_first x y xs ys same) ∙ z) in
          cc
      | inr other ↦ absurd (let more = other_first x y xs ys other in omega arith)
    ]

pub first_apart : (xs ys : List ℕ) → length xs ≡ length ys → 0 < differing xs ys → Apart xs ys
first_apart [] [] e lt = absurd (let none = nothing [] in omega arith)
first_apart [] (y ∷ ys) e lt = absurd (omega arith)
first_apart (x ∷ xs) [] e lt = absurd (omega arith)
first_apart (x ∷ xs) (y ∷ ys) e lt =
    elim (cases_eq x y) [
      | inl same ↦
          let is = same_first x y xs ys same in
          let rest = first_apart xs ys (omega arith) (omega arith) in
          record {
            front = x ∷ rest.front;
            a = rest.a;
            c = rest.c;
            back = rest.back;
            back' = rest.back';
            xs_is = ap (λ (l : List ℕ). x ∷ l) rest.xs_is;
            ys_is = let p = rest.ys_is in cc;
            differs = rest.differs;
            same_length = rest.same_length;
            more = is ∙ rest.more;
          }
      | inr other ↦ record {
        front = [];
        a = x;
        c = y;
        back = xs;
        back' = ys;
        xs_is = refl;
        ys_is = refl;
        differs = other;
        same_length = omega arith;
        more = other_first x y xs ys other;
      }
    ]
