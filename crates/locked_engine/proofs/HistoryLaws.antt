-- The steps of a history keep its rule.
use Rattle.std.proofs.Common.{◌∙◌, ◌≡◌, ℕ, zero, suc, ◌<◌, ◌==◌, Bool, true, false, List, [], ◌∷◌, ◌++◌}
use Rattle.std.proofs.Common.{length, refl, ap, sym, subst, arith, inl, length-append, None}
use Rattle.std.specs.Prelude.{slice_set}
use Rattle.std.proofs.lemmas.List.{append-nil}
use Rattle.std.proofs.lemmas.Bool.Decides.{nat_tests}
use mathlib.Core.List.{IsPrefix}
use prog.Atomic.{either}
use Rattle.logbook.specs.Pages.{Cell, cell, keeps, gives, adds, Nib, nib, no_nib, may_write, step, Moves, Goes, View}
use Rattle.batch_store.specs.declared.verdict.Entry.{Entry}
use Rattle.batch_store.specs.Batches.{Submission}
use Rattle.locked_engine.specs.declared.history.Line.{Line}
use Rattle.locked_engine.specs.Histories.{place_from, AreTaken, IsKept, line, Begins, Places, Adds, Looks, added_in, entries_of_lines}
use Rattle.locked_engine.specs.Histories.{given_in, batches_of_lines}

abbrev pub shown : List Line → List Line
shown log = []

abbrev pub moved : List Line → List Line → ℕ → Type 0
moved xs ys n = Unit {0}

abbrev pub lifted : ℕ → ℕ
lifted n = either (n == 0) 1 n

abbrev IsHome : List Cell → ℕ → Type 0
IsHome cs k = (cell cs k).1 ≡ true

not_home : {P : Type 0} (b : Bool) → b ≡ true → b ≡ false → P
not_home true h k = absurd (cc k)
not_home false h k = absurd (cc h)

home_set : (cs : List Cell) (i j n : ℕ) → IsHome cs j → IsHome (slice_set cs i (n, true)) j
home_set [] i j n h = h
home_set (c ∷ cs) zero zero n h = refl
home_set (c ∷ cs) zero (suc j) n h = h
home_set (c ∷ cs) (suc i) zero n h = h
home_set (c ∷ cs) (suc i) (suc j) n h = home_set cs i j n h

home_here : (cs : List Cell) (i n : ℕ) → i < length cs → IsHome (slice_set cs i (n, true)) i
home_here [] i n h = absurd (omega arith)
home_here (c ∷ cs) zero n h = refl
home_here (c ∷ cs) (suc i) n h = home_here cs i n (omega arith)

home_longer : (cs : List Cell) (c : Cell) (j : ℕ) → IsHome cs j → IsHome (cs ++ c ∷ []) j
home_longer [] c j h = not_home false h refl
home_longer (x ∷ xs) c zero h = h
home_longer (x ∷ xs) c (suc j) h = home_longer xs c j h

value_here : (cs : List Cell) (n : ℕ) → 0 < length cs → (cell (slice_set cs 0 (n, true)) 0).0 ≡ n
value_here [] n h = absurd (omega arith)
value_here (c ∷ cs) n h = refl

value_else : (cs : List Cell) (i : ℕ) (c : Cell) → (i ≡ 0 → ⊥) → (cell (slice_set cs i c) 0).0 ≡ (cell cs 0).0
value_else [] i c apart = refl
value_else (x ∷ xs) zero c apart = absurd (apart refl)
value_else (x ∷ xs) (suc i) c apart = refl

value_longer : (cs : List Cell) (c : Cell) → 0 < length cs → (cell (cs ++ c ∷ []) 0).0 ≡ (cell cs 0).0
value_longer [] c h = absurd (omega arith)
value_longer (x ∷ xs) c h = refl

length_set : (cs : List Cell) (i : ℕ) (c : Cell) → length (slice_set cs i c) ≡ length cs
length_set [] i c = refl
length_set (x ∷ xs) zero c = refl
length_set (x ∷ xs) (suc i) c = omega (arith, length_set xs i c)

lifted_by : (n : ℕ) (b : Bool) → (n == 0) ≡ b → either b 1 n ≡ 0 → ⊥
lifted_by n true is h = omega arith
lifted_by n false is h = let same : n ≡ 0 = h in
    let no : (0 == 0) ≡ false = subst (λ (k : ℕ). (k == 0) ≡ false) same is in cc no

lifted_some : (n : ℕ) → lifted n ≡ 0 → ⊥
lifted_some n = lifted_by n (n == 0) refl

-- what is at home stays there, and so do the lines that it keeps
taken_later : (cs ds : List Cell) (k : ℕ) (ls : List Line) → ((j : ℕ) → IsHome cs j → IsHome ds j) → AreTaken cs k ls →
    AreTaken ds k ls
taken_later cs ds k [] more h = tt
taken_later cs ds k (l ∷ ls) more h = (more k h.0, taken_later cs ds l.next ls more h.1)

taken_push : (cs : List Cell) (k : ℕ) (ls : List Line) (l : Line) → AreTaken cs k ls → IsHome cs (place_from k ls) →
    AreTaken cs k (ls ++ l ∷ [])
taken_push cs k [] l h home = (home, tt)
taken_push cs k (m ∷ ms) l h home = (h.0, taken_push cs m.next ms l h.1 home)

-- whose next place is not at home is the whole
none_behind : (cs : List Cell) (k : ℕ) (ls more : List Line) → AreTaken cs k (ls ++ more) →
    (cell cs (place_from k ls)).1 ≡ false → more ≡ []
none_behind cs k [] [] h away = refl
none_behind cs k [] (m ∷ ms) h away = not_home (cell cs k).1 h.0 away
none_behind cs k (l ∷ ls) more h away = none_behind cs l.next ls more h.1 away

whole : (cs : List Cell) (log xs : List Line) (p : ℕ) → AreTaken cs 0 log → IsPrefix xs log → place_from 0 xs ≡ p →
    (cell cs p).1 ≡ false → xs ≡ log
whole cs log xs p taken pre at away =
    let all = subst (AreTaken cs 0) (sym pre.1) taken in
    let none : pre.0 ≡ [] = none_behind cs 0 xs pre.0 all
    (subst (λ (k : ℕ). (cell cs k).1 ≡ false) (sym at) away) in
    sym (append-nil xs) ∙ ap (λ (r : List Line). xs ++ r) (sym none) ∙ pre.1

abbrev word_set : List Cell → List Cell
word_set cs = slice_set cs 0 (lifted (cell cs 0).0, true)

set_kept : (cs : List Cell) (log : List Line) → IsKept cs log → IsKept (word_set cs) log
set_kept cs log kept = record {
  some = omega (arith, kept.some, length_set cs 0 (lifted (cell cs 0).0, true));
  home = home_here cs 0 (lifted (cell cs 0).0) kept.some;
  unopened = λ e. absurd (lifted_some (cell cs 0).0 (sym (value_here cs (lifted (cell cs 0).0) kept.some) ∙ e));
  taken = taken_later cs (word_set cs) 0 log (λ j. home_set cs 0 j (lifted (cell cs 0).0)) kept.taken;
}

longer_kept : (cs : List Cell) (c : Cell) (log : List Line) → IsKept cs log → IsKept (cs ++ c ∷ []) log
longer_kept cs c log kept = record {
  some = omega (arith, kept.some, length-append cs (c ∷ []));
  home = home_longer cs c 0 kept.home;
  unopened = λ e. kept.unopened (sym (value_longer cs c kept.some) ∙ e);
  taken = taken_later cs (cs ++ c ∷ []) 0 log (home_longer cs c) kept.taken;
}

-- the place is at home, and a line more is there
taken_kept : (cs : List Cell) (n : Nib) (log : List Line) (e : Line) → IsKept cs log → n.key < length cs →
    (cell cs n.key).1 ≡ false → place_from 0 log ≡ n.key →
    IsKept (slice_set (word_set cs) n.key (n.value, true)) (log ++ e ∷ [])
taken_kept cs n log e kept room away at =
    let ds = word_set cs in
    let fs = slice_set ds n.key (n.value, true) in
    let had = set_kept cs log kept in
    let other : n.key ≡ 0 → ⊥ = λ z.
    not_home (cell cs 0).1 kept.home (subst (λ (k : ℕ). (cell cs k).1 ≡ false) z away) in
    let here : IsHome fs n.key = home_here ds n.key n.value
    (omega (arith, room, length_set cs 0 (lifted (cell cs 0).0, true))) in
    let keeps_home : (j : ℕ) → IsHome ds j → IsHome fs j = λ j. home_set ds n.key j n.value in
    record {
      some = omega (arith, had.some, length_set ds n.key (n.value, true));
      home = keeps_home 0 had.home;
      unopened = λ z. absurd (lifted_some (cell cs 0).0
          (sym (value_here cs (lifted (cell cs 0).0) kept.some) ∙ sym (value_else ds n.key (n.value, true) other) ∙ z));
      taken = taken_push fs 0 log e (taken_later ds fs 0 log keeps_home had.taken) (subst (IsHome fs) (sym at) here);
    }

opened_kept : (cs : List Cell) (l : Line) → IsKept cs [] → IsKept (word_set cs ++ (0, false) ∷ []) (l ∷ [])
opened_kept cs l kept =
    let had = longer_kept (word_set cs) (0, false) [] (set_kept cs [] kept) in
    record {
      some = had.some;
      home = had.home;
      unopened = λ z. absurd (lifted_some (cell cs 0).0
          (sym (value_here cs (lifted (cell cs 0).0) kept.some)
          ∙ sym (value_longer (word_set cs) (0, false) (set_kept cs [] kept).some) ∙ z));
      taken = (had.home, tt);
    }

module _ (then : ℕ → View Line ℕ → Type 0) (v : List Line) (n : Nib) where
  abbrev pub GoesBy : List Cell → List Line → Type 0
  GoesBy cs log = Goes IsKept shown moved 0 (v, (n, None)) lifted then cs log

  abbrev pub MovesBy : Type 0
  MovesBy = Moves IsKept shown moved 0 (v, (n, None)) lifted then

begin_goes : (cs : List Cell) (e : Line) (b : Bool) → ((cell cs 0).0 == 0) ≡ b → (log : List Line) → IsKept cs log →
    (b ≡ true → log ≡ []) → GoesBy (Begins (step 0 0 1 e) ([], (no_nib, None))) [] no_nib cs log
begin_goes cs e true is [] kept nil =
    let k = length cs in (
      adds,
      line e.entry e.batch k ∷ [],
      None,
      tt,
      opened_kept cs (line e.entry e.batch k) kept,
      inl (refl, refl),
      rw is (k, refl, refl),
    )
begin_goes cs e true is (l ∷ ls) kept nil = absurd (cc (nil refl))
begin_goes cs e false is log kept nil = (
  keeps,
  [],
  None,
  tt,
  subst (IsKept (word_set cs)) (sym (append-nil log)) (set_kept cs log kept),
  inl (refl, refl),
  rw is tt,
)

zero_of : (n : ℕ) (b : Bool) → (n == 0) ≡ b → b ≡ true → n ≡ 0
zero_of n b is h = grind (arith, nat_tests, is, h)

pub begin_moves : (e : Line) → MovesBy (Begins (step 0 0 1 e) ([], (no_nib, None))) [] no_nib
begin_moves e cs log kept pre away = (
  kept.some,
  kept.home,
  begin_goes cs e ((cell cs 0).0 == 0) refl log kept
      (λ h. kept.unopened (zero_of (cell cs 0).0 ((cell cs 0).0 == 0) refl h)),
)

pub place_moves : (v : List Line) (e : Line) → MovesBy (Places (step 0 0 1 e) (v, (no_nib, None))) v no_nib
place_moves v e cs log kept pre away = (
  kept.some,
  kept.home,
  (
    adds,
    [],
    None,
    tt,
    subst (IsKept (word_set cs ++ (0, false) ∷ [])) (sym (append-nil log))
        (longer_kept (word_set cs) (0, false) log (set_kept cs log kept)),
    inl (refl, refl),
    (length cs, refl),
  ),
)

pub add_moves : (v : List Line) (e : Line) (n : Nib) → n ≡ nib may_write (place_from 0 v) 0 →
    MovesBy (Adds (step 0 0 1 e) (v, (n, None))) v n
add_moves v e n at cs log kept pre away =
    let right : n.right ≡ may_write = ap (λ (m : Nib). m.right) at in
    let key : place_from 0 v ≡ n.key = sym (ap (λ (m : Nib). m.key) at) in
    let gone = away right in
    let same : v ≡ log = whole cs log v n.key kept.taken pre key gone.1 in (
      kept.some,
      kept.home,
      (
        gives,
        e ∷ [],
        None,
        right,
        taken_kept cs n log e kept gone.0 gone.1 (ap (place_from 0) (sym same) ∙ key),
        inl (refl, refl),
        ap (λ (w : List Line). w ++ e ∷ []) (sym same),
      ),
    )

pub look_moves : (v : List Line) (e : Line) (n : Nib) → n.right ≡ may_write →
    MovesBy (Looks (step 0 0 1 e) (v, (n, None))) v n
look_moves v e n right cs log kept pre away =
    let all : log ++ [] ≡ log = append-nil log in (
      kept.some,
      kept.home,
      (
        keeps,
        [],
        None,
        tt,
        subst (IsKept (word_set cs)) (sym all) (set_kept cs log kept),
        inl (refl, refl),
        (
          refl,
          λ xs begins at. whole cs log xs n.key kept.taken (subst (IsPrefix xs) all begins) at (away right).1 ∙ sym all,
        ),
      ),
    )

pub place_push : (k : ℕ) (ls : List Line) (l : Line) → place_from k (ls ++ l ∷ []) ≡ l.next
place_push k [] l = refl
place_push k (m ∷ ms) l = place_push m.next ms l

entries_push : (ls : List Line) (l : Line) → entries_of_lines (ls ++ l ∷ []) ≡ entries_of_lines ls ++ l.entry ∷ []
entries_push [] l = refl
entries_push (m ∷ ms) l = ap (λ (es : List Entry). m.entry ∷ es) (entries_push ms l)

pub added_push : (ls : List Line) (l : Line) → 0 < length ls → added_in (ls ++ l ∷ []) ≡ added_in ls ++ l.entry ∷ []
added_push [] l some = absurd (omega arith)
added_push (m ∷ ms) l some = entries_push ms l

entries_append : (xs ys : List Line) → entries_of_lines (xs ++ ys) ≡ entries_of_lines xs ++ entries_of_lines ys
entries_append [] ys = refl
entries_append (x ∷ xs) ys = ap (λ (es : List Entry). x.entry ∷ es) (entries_append xs ys)

-- the entries of a beginning begin the entries
pub added_prefix : (xs ys : List Line) → IsPrefix xs ys → IsPrefix (added_in xs) (added_in ys)
added_prefix [] ys p = (added_in ys, refl)
added_prefix (x ∷ xs) ys p = (entries_of_lines p.0, sym (entries_append xs p.0) ∙ ap added_in p.1)

batches_append : (xs ys : List Line) → batches_of_lines (xs ++ ys) ≡ batches_of_lines xs ++ batches_of_lines ys
batches_append [] ys = refl
batches_append (x ∷ xs) ys = ap (λ (bs : List Submission). x.batch ∷ bs) (batches_append xs ys)

-- one batch more, and the batches of a beginning
pub given_push : (ls : List Line) (l : Line) → 0 < length ls → given_in (ls ++ l ∷ []) ≡ given_in ls ++ l.batch ∷ []
given_push [] l some = absurd (omega arith)
given_push (m ∷ ms) l some = batches_append ms (l ∷ [])

pub given_prefix : (xs ys : List Line) → IsPrefix xs ys → IsPrefix (given_in xs) (given_in ys)
given_prefix [] ys p = (given_in ys, refl)
given_prefix (x ∷ xs) ys p = (batches_of_lines p.0, sym (batches_append xs p.0) ∙ ap given_in p.1)
