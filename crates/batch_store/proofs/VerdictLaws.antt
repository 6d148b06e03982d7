-- What a verdict says of the list.
use Rattle.std.proofs.Common.{◌≡◌, ℕ, suc, ◌+◌, ◌<◌, ◌≤◌, Bool, true, false, cond, not, eqb, ◌&&◌, List, [], ◌∷◌, ◌++◌}
use Rattle.std.proofs.Common.{length, take, Option, None, Some, position, refl, sym, ◌∙◌, arith}
use Rattle.std.specs.Prelude.{nat_lt, nat_le, if◌then◌else◌}
use Rattle.std.specs.List.{IsDistinct, AllByRecursion, position_or_len}
use Rattle.std.proofs.lemmas.Bool.Decides.{nat_tests}
use Rattle.batch_store.specs.declared.verdict.Entry.{Entry}
use Rattle.batch_store.specs.declared.verdict.Verdict.TheVariants.{Fresh, Known, NumberReused, OverTotal, BookFull}
use Rattle.batch_store.specs.Verdicts.{verdict_of, verdict_at, same_pair, total_of_entries, kept}

-- what a list says of a batch that may be accepted
pub record IsFresh (limit most : ℕ) (es : List Entry) (b : Entry) : Type 0 where
  pub new_pair : position (same_pair b) es ≡ None
  pub fits : total_of_entries es + b.total ≤ limit
  pub room : length es < most

ends : (limit most i t n : ℕ) (x y : Bool) → nat_lt limit (t + n) ≡ x → nat_le most i ≡ y →
    (if x then OverTotal t else if y then BookFull else Fresh) ≡ Fresh → (t + n ≤ limit) × (i < most)
ends limit most i t n true y p q e = cc
ends limit most i t n false true p q e = cc
ends limit most i t n false false p q e = (grind (arith, nat_tests), grind (arith, nat_tests))

not_repeat : (index after : ℕ) (x : Bool) → (if x then Known (kept index after) else NumberReused) ≡ Fresh → ⊥
not_repeat index after true h = cc
not_repeat index after false h = cc

fresh_at : (limit most : ℕ) (es : List Entry) (b : Entry) (o : Option ℕ) → position (same_pair b) es ≡ o →
    verdict_at limit most es b o ≡ Fresh → IsFresh limit most es b
fresh_at limit most es b None is h =
    let p = ends limit most (length es) (total_of_entries es) b.total (nat_lt limit (total_of_entries es + b.total))
    (nat_le most (length es)) refl refl h in
    record { new_pair = is; fits = p.0; room = p.1 }
fresh_at limit most es b (Some i) is h = absurd (not_repeat i (total_of_entries (take (i + 1) es)) _ h)

-- a fresh batch has a new pair and fits under both limits
pub fresh_is : (limit most : ℕ) (es : List Entry) (b : Entry) → verdict_of limit most es b ≡ Fresh →
    IsFresh limit most es b
fresh_is limit most es b h = fresh_at limit most es b (position (same_pair b) es) refl h

eqb_flips : (a b : ℕ) → eqb a b ≡ eqb b a
eqb_flips a b = grind (arith, nat_tests)

pub same_pair_flips : (b e : Entry) → same_pair b e ≡ same_pair e b
same_pair_flips b e = λ i. eqb_flips b.client e.client i && eqb_flips b.number e.number i

none_before : (b : Entry) (es : List Entry) → length es ≤ position_or_len (same_pair b) es →
    AllByRecursion (λ (e : Entry). same_pair e b ≡ false) es
none_before b [] h = tt
none_before b (e ∷ es) h = by (same_pair b e) refl h (none_before b es)
  where
    by : (x : Bool) → same_pair b e ≡ x → suc (length es) ≤ cond (not x) (1 + position_or_len (same_pair b) es) 0 →
        (length es ≤ position_or_len (same_pair b) es → AllByRecursion (λ (e : Entry). same_pair e b ≡ false) es) →
        AllByRecursion (λ (e : Entry). same_pair e b ≡ false) (e ∷ es)
    by true is h rest = absurd (omega arith)
    by false is h rest = (sym (same_pair_flips b e) ∙ is, rest (omega arith))

past_end : (n l : ℕ) (x : Bool) → nat_lt n l ≡ x → cond x (Some n) None ≡ None → l ≤ n
past_end n l true is h = cc
past_end n l false is h = grind (arith, nat_tests)

pub none_same : (b : Entry) (es : List Entry) → position (same_pair b) es ≡ None →
    AllByRecursion (λ (e : Entry). same_pair e b ≡ false) es
none_same b es h = none_before b es (past_end (position_or_len (same_pair b) es) (length es) _ refl h)

all_push : (P : Entry → Type 0) (es : List Entry) (b : Entry) → AllByRecursion P es → P b →
    AllByRecursion P (es ++ b ∷ [])
all_push P [] b h p = (p, tt)
all_push P (e ∷ es) b h p = (h.0, all_push P es b h.1 p)

pub distinct_nil : IsDistinct same_pair []
unfolding IsDistinct
distinct_nil = tt

-- a new pair at the end of distinct ones
pub distinct_push : (es : List Entry) (b : Entry) → IsDistinct same_pair es →
    AllByRecursion (λ (e : Entry). same_pair e b ≡ false) es → IsDistinct same_pair (es ++ b ∷ [])
unfolding IsDistinct
distinct_push [] b h none = (tt, tt)
distinct_push (e ∷ es) b h none = (
  all_push (λ (y : Entry). same_pair e y ≡ false) es b h.0 none.0,
  distinct_push es b h.1 none.1,
)

pub total_push : (es : List Entry) (b : Entry) → total_of_entries (es ++ b ∷ []) ≡ total_of_entries es + b.total
total_push [] b = omega arith
total_push (e ∷ es) b = omega (arith, total_push es b)

pub total_of-append : (xs ys : List Entry) →
    total_of_entries (xs ++ ys) ≡ total_of_entries xs + total_of_entries ys
total_of-append [] ys = omega arith
total_of-append (x ∷ xs) ys = omega (arith, total_of-append xs ys)
