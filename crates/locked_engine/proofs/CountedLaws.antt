-- Answers of puts, and what was accepted.
use Rattle.std.proofs.Common.{◌≡◌, ℕ, zero, suc, ◌+◌, Bool, true, false, List, [], ◌∷◌, ◌++◌}
use Rattle.std.proofs.Common.{take, slice_get, Some, Ok, refl, sym, ◌∙◌, ap, subst, arith}
use Rattle.std.specs.Prelude.{Contains}
use Rattle.std.proofs.lemmas.Option.{slice_get-get_or}
use Rattle.std.specs.List.{IsDistinct, AllByRecursion}
use mathlib.Core.List.{IsPrefix}
use Rattle.batch_store.specs.declared.verdict.Entry.{Entry}
use Rattle.batch_store.specs.declared.verdict.Kept.{Kept}
use Rattle.batch_store.specs.Setups.{Setting}
use Rattle.batch_store.specs.Accepted.{Accepted, entries_in}
use Rattle.batch_store.specs.Books.{AreAccepted}
use Rattle.batch_store.specs.Verdicts.{same_pair, total_of_entries, kept}
use Rattle.batch_store.proofs.VerdictLaws.{same_pair_flips}
use Rattle.locked_engine.specs.Counted.{Answered, CountsOnce}
use Rattle.locked_engine.specs.Told.{AreShown, IsTold}
use Rattle.locked_engine.specs.Views.{SeatView}
use Rattle.locked_engine.proofs.PrefixLaws.{prefix_trans}

differs : {P : Type 0} (b : Bool) → b ≡ false → b ≡ true → P
differs true p q = absurd (cc p)
differs false p q = absurd (cc q)

all_there : (e : Entry) (es : List Entry) (i : ℕ) (f : Entry) →
    AllByRecursion (λ (x : Entry). same_pair e x ≡ false) es → slice_get es i ≡ Some f → same_pair e f ≡ false
all_there e [] i f h at = absurd (cc at)
all_there e (x ∷ xs) zero f h at = let same : x ≡ f = cc at in subst (λ (y : Entry). same_pair e y ≡ false) same h.0
all_there e (x ∷ xs) (suc i) f h at = all_there e xs i f h.1 at

-- in a list of distinct pairs each stands at one place
one_place : (es : List Entry) (i j : ℕ) (e f : Entry) → IsDistinct same_pair es → slice_get es i ≡ Some e →
    slice_get es j ≡ Some f → same_pair e f ≡ true → i ≡ j
unfolding IsDistinct
one_place [] i j e f h a b same = absurd (cc a)
one_place (x ∷ xs) zero zero e f h a b same = refl
one_place (x ∷ xs) zero (suc j) e f h a b same =
    let is : x ≡ e = cc a in
    differs (same_pair e f) (subst (λ (y : Entry). same_pair y f ≡ false) is (all_there x xs j f h.0 b)) same
one_place (x ∷ xs) (suc i) zero e f h a b same =
    let is : x ≡ f = cc b in
    differs (same_pair e f)
    (same_pair_flips e f ∙ subst (λ (y : Entry). same_pair y e ≡ false) is (all_there x xs i e h.0 a)) same
one_place (x ∷ xs) (suc i) (suc j) e f h a b same = ap suc (one_place xs i j e f h.1 a b same)

-- what stands in a beginning stands there in the whole
get_longer : (xs ys : List Entry) (i : ℕ) (e : Entry) → slice_get xs i ≡ Some e → slice_get (xs ++ ys) i ≡ Some e
get_longer [] ys i e h = absurd (cc h)
get_longer (x ∷ xs) ys zero e h = h
get_longer (x ∷ xs) ys (suc i) e h = get_longer xs ys i e h

take_longer : (xs ys : List Entry) (i : ℕ) (e : Entry) → slice_get xs i ≡ Some e →
    take (suc i) (xs ++ ys) ≡ take (suc i) xs
take_longer [] ys i e h = absurd (cc h)
take_longer (x ∷ xs) ys zero e h = refl
take_longer (x ∷ xs) ys (suc i) e h = ap (λ (l : List Entry). x ∷ l) (take_longer xs ys i e h)

-- an answer is true of what goes on
told_longer : (v : Setting) (seen es : List Entry) (e : Entry) (k : Kept) → IsPrefix seen es →
    IsTold v e seen (Ok k) → IsTold v e es (Ok k)
told_longer v seen es e k p h =
    let n : k.index + 1 ≡ suc k.index = omega arith in
    let same : take (k.index + 1) (seen ++ p.0) ≡ take (k.index + 1) seen =
    ap (λ (m : ℕ). take m (seen ++ p.0)) n ∙ take_longer seen p.0 k.index e h.0
    ∙ ap (λ (m : ℕ). take m seen) (sym n) in
    subst (λ (l : List Entry). IsTold v e l (Ok k)) p.1
    (get_longer seen p.0 k.index e h.0, h.1 ∙ ap total_of_entries (sym same))

shown_at : (seats : List SeatView) (i : ℕ) (s : SeatView) (es : List Entry) → AreShown seats es →
    slice_get seats i ≡ Some s → IsPrefix s.seen es
shown_at [] i s es h at = absurd (cc at)
shown_at (t ∷ ts) zero s es h at =
    let same : t ≡ s = cc at in subst (λ (u : SeatView). IsPrefix u.seen es) same h.0
shown_at (t ∷ ts) (suc i) s es h at = shown_at ts i s es h.1 at

contained : (seats : List SeatView) (s : SeatView) → Contains seats s → (i : ℕ) × (slice_get seats i ≡ Some s)
contained seats s h = (h.0, slice_get-get_or seats h.0 s h.1 ∙ ap Some h.2)

-- an answer that a seat was given is true of all that was accepted
answered_told : (v : Setting) (seats : List SeatView) (es : List Entry) (e : Entry) (k : Kept) → AreShown seats es →
    Answered v seats e k → IsTold v e es (Ok k)
answered_told v seats es e k shown h =
    let at = contained seats h.seat h.among in
    let all = shown_at seats at.0 h.seat es shown at.1 in
    told_longer v h.seen es e k (prefix_trans h.seen h.seat.seen es h.later all) h.told

pub counts_once : (v : Setting) (seats : List SeatView) (a : Accepted) (e : Entry) (k : Kept) → AreAccepted v a →
    AreShown seats (entries_in a) → Answered v seats e k → CountsOnce (entries_in a) e k
counts_once v seats a e k held shown h =
    let told = answered_told v seats (entries_in a) e k shown h in
    record {
      stands = told.0;
      reply = told.1;
      once = λ i f at same. sym (one_place (entries_in a) k.index i e f held.distinct told.0 at same);
    }

pub one_answer : (v : Setting) (seats : List SeatView) (a : Accepted) (e f : Entry) (k l : Kept) → AreAccepted v a →
    AreShown seats (entries_in a) → Answered v seats e k → Answered v seats f l → same_pair e f ≡ true →
    (e ≡ f) × (k ≡ l)
one_answer v seats a e f k l held shown h j same =
    let es = entries_in a in
    let told = answered_told v seats es e k shown h in
    let other = answered_told v seats es f l shown j in
    let index : k.index ≡ l.index = one_place es k.index l.index e f held.distinct told.0 other.0 same in
    let total : k.total_after ≡ l.total_after = told.1 ∙ ap (λ (n : ℕ). total_of_entries (take (n + 1) es)) index
    ∙ sym other.1 in
    let both : Some e ≡ Some f = sym told.0 ∙ ap (λ (n : ℕ). slice_get es n) index ∙ other.0 in
    (cc both, λ i. kept (index i) (total i))
