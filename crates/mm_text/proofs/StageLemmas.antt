-- One more line that counts: its fault is the definition's, and what it adds is what the definition adds.
use Rattle.std.proofs.Common.{◌≡◌, ℕ, ◌≤◌, length, Bool, true, false, cond, List, [], ◌∷◌, ◌++◌, refl, sym, ◌∙◌, ap}
use Rattle.std.proofs.Common.{subst, arith, append_assoc, length-append}
use Rattle.std.proofs.lemmas.Bool.Decides.{nat_tests}
use Rattle.std.proofs.lemmas.List.{append-nil, map-append}
use Rattle.std.specs.Prelude.{Option, Some, None, Result, Ok, Err, map, flat_map, nat_lt}
use Rattle.mm_text.specs.Judging.{◌>>=◌, banner, size, entry, cells_of, fault_of}
use Rattle.mm_text.specs.Texts.{fault_behind}
use Rattle.mm_text.specs.Stages.{step, EntriesSoFar, StageIs, added, after_entry}
use Rattle.mm_text.specs.declared.fault.MmKind.{MmKind}
use Rattle.mm_text.specs.declared.fault.MmKind.TheVariants.{ExtraText}
use Rattle.cells.specs.declared.cell.Cell.{Cell}
use Rattle.mm_text.specs.declared.size.Size.{Size}
use Rattle.mm_text.specs.declared.limits.TextLimits.{TextLimits}
use Rattle.mm_text.specs.declared.stages.Stage.{Stage}
use Rattle.mm_text.specs.declared.stages.Stage.TheVariants.{AtBanner, AtSize, AtEntries}

pub bind_err : {A B : Type 0} (r : Result A MmKind) (g : A → B) (k : MmKind) → (r >>= λ x. Ok (g x)) ≡ Err k → r ≡ Err k
bind_err (Ok x) g k e = cc
bind_err (Err j) g k e = cc

pub bind_ok : {A B : Type 0} (r : Result A MmKind) (g : A → B) (y : B) → (r >>= λ x. Ok (g x)) ≡ Ok y → (x : A) ×
    (r ≡ Ok x) × (g x ≡ y)
bind_ok (Ok x) g y e = (x, refl, cc)
bind_ok (Err j) g y e = cc

push : {A : Type 0} (xs : List A) (y : A) → List A
push xs y = xs ++ y ∷ []

-- the fault of a further line, where the first two are known
behind_two : (limits : TextLimits) (ls : List (List ℕ)) (line : List ℕ) (symmetric : Bool) (s : Size) (seen : ℕ)
    (cells : List Cell) →
    EntriesSoFar limits ls symmetric s seen cells →
    fault_behind limits ls line ≡ fault_of (cond (nat_lt seen s.entries) (entry s.rows s.cols line) (Err ExtraText))
behind_two limits ls line symmetric s seen cells e = rw (e.lines_are, e.is_banner) (rw (e.is_size, e.seen_is) refl)

pub step_err : (limits : TextLimits) (ls : List (List ℕ)) (cells : List Cell) (stage : Stage) (line : List ℕ)
    (k : MmKind) →
    StageIs limits ls cells stage → step limits stage line ≡ Err k → fault_behind limits ls line ≡ Some k
step_err limits ls cells AtBanner line k h e =
    rw h.0 (ap fault_of (bind_err {B = Stage × Option Cell} (banner line) _ k e))
step_err limits ls cells (AtSize symmetric) line k h e =
    rw (h.1, h.2) (ap fault_of (bind_err (size symmetric limits.max_entries line) _ k e))
step_err limits ls cells (AtEntries symmetric s seen) line k h e =
    behind_two limits ls line symmetric s seen cells h ∙ test (nat_lt seen s.entries) e
  where
    test : (b : Bool) → cond b (entry s.rows s.cols line >>= λ cell. Ok (after_entry symmetric s seen cell))
        (Err ExtraText) ≡ Err k →
        fault_of (cond b (entry s.rows s.cols line) (Err ExtraText)) ≡ Some k
    test true f = ap fault_of (bind_err (entry s.rows s.cols line) _ k f)
    test false f = cc

pub step_right : (limits : TextLimits) (ls : List (List ℕ)) (cells : List Cell) (stage : Stage) (line : List ℕ)
    (y : Stage × Option Cell) →
    StageIs limits ls cells stage → step limits stage line ≡ Ok y → fault_behind limits ls line ≡ None
step_right limits ls cells AtBanner line y h e = rw h.0 (ap fault_of (bind_ok (banner line) _ y e).1)
step_right limits ls cells (AtSize symmetric) line y h e =
    rw (h.1, h.2) (ap fault_of (bind_ok (size symmetric limits.max_entries line) _ y e).1)
step_right limits ls cells (AtEntries symmetric s seen) line y h e =
    behind_two limits ls line symmetric s seen cells h ∙ test (nat_lt seen s.entries) e
  where
    test : (b : Bool) → cond b (entry s.rows s.cols line >>= λ cell. Ok (after_entry symmetric s seen cell))
        (Err ExtraText) ≡ Ok y →
        fault_of (cond b (entry s.rows s.cols line) (Err ExtraText)) ≡ None
    test true f = ap fault_of (bind_ok (entry s.rows s.cols line) _ y f).1
    test false f = cc

flat_push : (f : Cell → List Cell) (xs : List Cell) (x : Cell) → flat_map f (xs ++ x ∷ []) ≡ flat_map f xs ++ f x
flat_push f [] x = append-nil (f x)
flat_push f (y ∷ ys) x = rw (flat_push f ys x, append_assoc (f y) (flat_map f ys) (f x)) refl

entries_push : (f : List ℕ → Result Cell MmKind) (xs : List (List ℕ)) (ys : List Cell) (x : List ℕ) (y : Cell) →
    map f xs ≡ map Ok ys → f x ≡ Ok y → map f (xs ++ x ∷ []) ≡ map Ok (ys ++ y ∷ [])
entries_push f xs ys x y all one = map-append f xs (x ∷ []) ∙ rw (all, one) (sym (map-append Ok ys (y ∷ [])))

-- what step_ok shows, of a pair
abbrev Goes : TextLimits → List (List ℕ) → List Cell → List ℕ → Stage × Option Cell → Type 0
Goes limits ls cells line p = StageIs limits (ls ++ line ∷ []) (cells ++ added p.0 p.1) p.0

pub step_ok : (limits : TextLimits) (ls : List (List ℕ)) (cells : List Cell) (stage : Stage) (line : List ℕ)
    (y : Stage × Option Cell) →
    StageIs limits ls cells stage → step limits stage line ≡ Ok y →
    StageIs limits (ls ++ line ∷ []) (cells ++ added y.0 y.1) y.0
step_ok limits ls cells AtBanner line y h e =
    let b = bind_ok (banner line) _ y e in
    subst (Goes limits ls cells line) b.2 (line, rw h.0 refl, b.1, rw h.1 refl)
step_ok limits ls cells (AtSize symmetric) line y h e =
    let b = bind_ok (size symmetric limits.max_entries line) _ y e in
    subst (Goes limits ls cells line) b.2 (record {
      first = h.0;
      second = line;
      others = [];
      lines_are = rw h.1 refl;
      is_banner = h.2;
      is_size = b.1;
      entries = [];
      are_entries = refl;
      cells_are = rw h.3 refl;
      seen_is = refl;
      within = omega arith;
    })
step_ok limits ls cells (AtEntries symmetric s seen) line y h e = test (nat_lt seen s.entries) refl e
  where
    test : (b : Bool) → nat_lt seen s.entries ≡ b →
        cond b (entry s.rows s.cols line >>= λ cell. Ok (after_entry symmetric s seen cell)) (Err ExtraText) ≡ Ok y →
        Goes limits ls cells line y
    test false t f = cc
    test true t f =
        let b = bind_ok (entry s.rows s.cols line) _ y f in
        subst (Goes limits ls cells line) b.2 (record {
          first = h.first;
          second = h.second;
          others = h.others ++ line ∷ [];
          lines_are = rw h.lines_are refl;
          is_banner = h.is_banner;
          is_size = h.is_size;
          entries = h.entries ++ b.0 ∷ [];
          are_entries = entries_push (entry s.rows s.cols) h.others h.entries line b.0 h.are_entries b.1;
          cells_are = ap (λ c. c ++ cells_of symmetric b.0) h.cells_are
              ∙ sym (flat_push (cells_of symmetric) h.entries b.0);
          seen_is = let i = h.seen_is in omega (arith, length-append h.others (line ∷ []));
          within = grind (arith, nat_tests);
        })

-- a line that adds a cell stands behind a banner and a size line
pub step_entry : (limits : TextLimits) (ls : List (List ℕ)) (cells : List Cell) (stage : Stage) (line : List ℕ)
    (y : Stage × Option Cell) (cell : Cell) →
    StageIs limits ls cells stage → step limits stage line ≡ Ok y → y.1 ≡ Some cell → 2 ≤ length ls
step_entry limits ls cells AtBanner line y cell h e f = let b = bind_ok (banner line) _ y e in
    let n = ap (λ p. p.1) b.2 in cc
step_entry limits ls cells (AtSize symmetric) line y cell h e f = let b =
    bind_ok (size symmetric limits.max_entries line) _ y e in let n = ap (λ p. p.1) b.2 in cc
step_entry limits ls cells (AtEntries symmetric s seen) line y cell h e f = let n = ap length h.lines_are in omega arith
