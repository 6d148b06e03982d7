-- The seats of an engine that was just opened, and what seats were shown.
use Rattle.std.proofs.Common.{◌≡◌, ℕ, ◌<◌, zero, suc, List, ◌∷◌, [], ◌++◌, length, length-append, refl, ap, sym, subst}
use Rattle.std.proofs.Common.{slice_set, arith}
use Rattle.std.specs.Prelude.{Some, slice_get, take, drop}
use mathlib.Core.List.{IsPrefix}
use Rattle.batch_store.specs.declared.verdict.Entry.{Entry}
use Rattle.batch_store.specs.Batches.{Submission}
use Rattle.locked_engine.specs.Opened.{opened_seat, opened_seats}
use Rattle.locked_engine.specs.Told.{AreShown}
use Rattle.locked_engine.specs.Views.{SeatView}
use Rattle.locked_engine.proofs.PrefixLaws.{prefix_trans}

-- they are as many as were asked for
pub opened_count : (shown : List Entry) (known : List Submission) (total n : ℕ) →
    length (opened_seats shown known total n) ≡ n
opened_count shown known total zero = refl
opened_count shown known total (suc n) = omega (
  arith,
  length-append (opened_seats shown known total n) (opened_seat shown known total n ∷ []),
  opened_count shown known total n,
)

-- each of these seats was shown just this
abbrev HaveSeen : List Entry → List SeatView → Type 0
HaveSeen es [] = Unit {0}
HaveSeen es (s ∷ ss) = (s.seen ≡ es) × HaveSeen es ss

have_seen_append : (es : List Entry) (xs ys : List SeatView) → HaveSeen es xs → HaveSeen es ys → HaveSeen es (xs ++ ys)
have_seen_append es [] ys xh yh = yh
have_seen_append es (x ∷ xs) ys xh yh = (xh.0, have_seen_append es xs ys xh.1 yh)

opened_seen : (shown : List Entry) (known : List Submission) (total n : ℕ) →
    HaveSeen shown (opened_seats shown known total n)
opened_seen shown known total zero = tt
opened_seen shown known total (suc n) =
    have_seen_append shown (opened_seats shown known total n) (opened_seat shown known total n ∷ [])
    (opened_seen shown known total n) (refl, tt)

head_seen : (es : List Entry) (seats : List SeatView) (s : SeatView) → HaveSeen es seats → Some s ≡ slice_get seats 0
    → s.seen ≡ es
head_seen es [] s h is = absurd (cc is)
head_seen es (x ∷ xs) s h is = let same : s ≡ x = cc is in subst (λ (y : SeatView). y.seen ≡ es) (sym same) h.0

-- the first was shown what the engine was opened with
pub first_seen : (shown : List Entry) (known : List Submission) (total n : ℕ) (seats : List SeatView) (s : SeatView) →
    seats ≡ opened_seats shown known total n → Some s ≡ slice_get seats 0 → s.seen ≡ shown
first_seen shown known total n seats s opened is =
    head_seen shown seats s (subst (λ (l : List SeatView). HaveSeen shown l) (sym opened)
    (opened_seen shown known total n)) is

front_begins : {A : Type 0} (n : ℕ) (xs : List A) → IsPrefix (take n xs) xs
front_begins zero xs = (xs, refl)
front_begins (suc n) [] = ([], refl)
front_begins (suc n) (x ∷ xs) = let r = front_begins n xs in (r.0, ap (λ ys. x ∷ ys) r.1)

-- a front of a list begins it
pub begins_whole : (es whole : List Entry) → es ≡ take (length es) whole → IsPrefix es whole
begins_whole es whole is =
    subst (λ (l : List Entry). IsPrefix l whole) (sym is) (front_begins (length es) whole)

-- what the first seat was shown the beginning of begins all that the seats were shown the beginnings of
pub within_all : (seats : List SeatView) (s : SeatView) (es : List Entry) → 0 < length seats → IsPrefix es s.seen →
    (all : List Entry) → AreShown (slice_set seats 0 s) all → IsPrefix es all
within_all [] s es some begins all shown = absurd (omega (arith, some))
within_all (x ∷ xs) s es some begins all shown = prefix_trans es s.seen all begins shown.0

-- a list of seats into which as many were written back
pub written_back : (n : ℕ) (seats old : List SeatView) → n ≡ length old → length seats ≡ length old →
    take n (seats ++ drop (length seats) old) ≡ seats
written_back zero [] [] has long = refl
written_back (suc n) [] old has long = absurd (omega (arith, has, long))
written_back zero [] (y ∷ old) has long = absurd (omega (arith, has))
written_back zero (x ∷ seats) old has long = absurd (omega (arith, has, long))
written_back (suc n) (x ∷ seats) [] has long = absurd (omega (arith, has))
written_back (suc n) (x ∷ seats) (y ∷ old) has long =
    ap (λ (l : List SeatView). x ∷ l) (written_back n seats old (omega (arith, has)) (omega (arith, long)))
