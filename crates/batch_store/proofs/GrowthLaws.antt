-- What was accepted, under a setup that allows more.
use Rattle.std.proofs.Common.{◌≡◌, ◌≢◌, inl, inr, ℕ, zero, suc, ◌+◌, ◌<◌, ◌≤◌, Bool, true, false, cond, List, [], ◌∷◌, ◌++◌, map, length, take, drop}
use Rattle.std.proofs.Common.{Option, None, Some, slice_get, position, get_or, refl, sym, ◌∙◌, ap, subst, arith}
use Rattle.std.specs.Prelude.{nat_lt, nat_le, if◌then◌else◌}
use Rattle.std.specs.List.{IsDistinct}
use Rattle.std.specs.Arc.{arc_value}
use Rattle.std.specs.declared.sync.Arc.{Arc}
use Rattle.std.specs.declared.alloc.Global.{Global}
use Rattle.std.proofs.lemmas.Bool.Decides.{nat_tests}
use Rattle.std.proofs.lemmas.List.{map-append, take_more, take-append-drop}
use Rattle.hyper_matrix.specs.Counts.{ewise_add}
use Rattle.hyper_matrix.specs.Matrix.{matrix}
use Rattle.batch_store.specs.declared.verdict.Entry.{Entry}
use Rattle.batch_store.specs.declared.verdict.Verdict.{Verdict}
use Rattle.batch_store.specs.declared.verdict.Verdict.TheVariants.{Fresh, OverTotal, BookFull}
use Rattle.batch_store.specs.declared.fault.GrowthFault.{GrowthFault}
use Rattle.batch_store.specs.declared.fault.GrowthFault.TheVariants.{TooSmall, Memory}
use Rattle.batch_store.specs.declared.misfit.Misfit.{Misfit}
use Rattle.batch_store.specs.declared.misfit.Number.{Number}
use Rattle.batch_store.specs.Setups.{Setting, IsSetting}
use Rattle.batch_store.specs.Batches.{Submission, submission, batch_total, entry_of, entries_of, values}
use Rattle.batch_store.specs.Verdicts.{AllFresh, verdict_of, verdict_at, same_pair, total_of_entries}
use Rattle.batch_store.specs.Accepted.{Accepted, count_in, entries_in, total_in, list_sum, summed}
use Rattle.batch_store.specs.Books.{Listing, listing, accepted_in, AreAccepted, HaveDims, list_total}
use Rattle.batch_store.proofs.VerdictLaws.{total_of-append}
use Rattle.batch_store.specs.Growth.{AllLieIn, AllowsNoLess, FitsIn, IsBelow, IsGrowthMisfit, IsRoomFor, LiesIn}
use Rattle.batch_store.specs.Growth.{RefusesGrowth, widened, all_widened, grown_to}

-- ---- verdicts

new_grows : (l m l' m' i t n : ℕ) (r : Verdict) (x y : Bool) → nat_lt l (t + n) ≡ x → nat_le m i ≡ y → l ≤ l' →
    m ≤ m' → ((accepted : ℕ) → r ≢ OverTotal accepted) → r ≢ BookFull →
    (if x then OverTotal t else if y then BookFull else Fresh) ≡ r →
    (if nat_lt l' (t + n) then OverTotal t else if nat_le m' i then BookFull else Fresh) ≡ r
new_grows l m l' m' i t n r true y p q limit most over full is = absurd (over t (sym is))
new_grows l m l' m' i t n r false true p q limit most over full is = absurd (full (sym is))
new_grows l m l' m' i t n r false false p q limit most over full is =
    let within : nat_lt l' (t + n) ≡ false = grind (arith, nat_tests) in
    let room : nat_le m' i ≡ false = grind (arith, nat_tests) in
    (λ j. cond (within j) (OverTotal t) (cond (room j) BookFull Fresh)) ∙ is

verdict_grows_at : (l m l' m' : ℕ) (es : List Entry) (b : Entry) (o : Option ℕ) (r : Verdict) → l ≤ l' → m ≤ m' →
    ((accepted : ℕ) → r ≢ OverTotal accepted) → r ≢ BookFull → verdict_at l m es b o ≡ r → verdict_at l' m' es b o ≡ r
verdict_grows_at l m l' m' es b (Some i) r limit most over full is = is
verdict_grows_at l m l' m' es b None r limit most over full is =
    new_grows l m l' m' (length es) (total_of_entries es) b.total r (nat_lt l (total_of_entries es + b.total))
    (nat_le m (length es)) refl refl limit most over full is

pub verdict_grows : (s t : Setting) (es : List Entry) (b : Entry) (r : Verdict) → AllowsNoLess s t →
    ((accepted : ℕ) → r ≢ OverTotal accepted) → r ≢ BookFull →
    verdict_of s.limit s.max_batches es b ≡ r → verdict_of t.limit t.max_batches es b ≡ r
verdict_grows s t es b r more over full is =
    verdict_grows_at s.limit s.max_batches t.limit t.max_batches es b (position (same_pair b) es) r more.limit
    more.batches over full is

fresh_not_over : (n : ℕ) → Fresh ≢ OverTotal n
fresh_not_over n h = cc

fresh_not_full : Fresh ≢ BookFull
fresh_not_full h = cc

pub fresh_grows : (s t : Setting) (es more : List Entry) → AllowsNoLess s t →
    AllFresh s.limit s.max_batches es more → AllFresh t.limit t.max_batches es more
fresh_grows s t es [] allows all = tt
fresh_grows s t es (e ∷ more) allows all = (
  verdict_grows s t es e Fresh allows fresh_not_over fresh_not_full all.0,
  fresh_grows s t (es ++ e ∷ []) more allows all.1,
)

-- ---- batches in other dimensions

pub entries-widened : (s : Setting) (list : List Submission) → entries_of (all_widened s list) ≡ entries_of list
entries-widened s [] = refl
entries-widened s (b ∷ bs) = ap (λ es. entry_of b ∷ es) (entries-widened s bs)

pub dims_widened : (s : Setting) (list : List Submission) → HaveDims s.rows s.cols (all_widened s list)
dims_widened s [] = tt
dims_widened s (b ∷ bs) = (refl, refl, dims_widened s bs)

sum-widened : (s : Setting) (list : List Submission) → list_sum (all_widened s list) ≡ list_sum list
sum-widened s [] = refl
sum-widened s (b ∷ bs) = ap (ewise_add b.matrix.counts) (sum-widened s bs)

pub widened_same : (s : Setting) (b : Submission) → b.matrix.rows ≡ s.rows → b.matrix.cols ≡ s.cols → widened s b ≡ b
widened_same s b rows cols = λ i. submission b.client b.number (matrix (sym rows i) (sym cols i) b.matrix.counts)

pub all_widened_same : (s : Setting) (list : List Submission) → HaveDims s.rows s.cols list → all_widened s list ≡ list
all_widened_same s [] h = refl
all_widened_same s (b ∷ bs) h = λ i. widened_same s b h.0 h.1 i ∷ all_widened_same s bs h.2 i

widened_twice : (s t : Setting) (list : List Submission) → all_widened t (all_widened s list) ≡ all_widened t list
widened_twice s t [] = refl
widened_twice s t (b ∷ bs) = ap (λ l. widened t b ∷ l) (widened_twice s t bs)

-- batches of dimensions that fit
pub all_lie_in : (s t : Setting) (list : List Submission) → FitsIn s t → HaveDims s.rows s.cols list → AllLieIn t list
all_lie_in s t [] fits h i b here = absurd cc
all_lie_in s t (x ∷ xs) fits h zero b here =
    let e : x ≡ b = cc here in
    subst (λ (y : Submission). LiesIn t y) e (omega (arith, h.0, fits.rows), omega (arith, h.1, fits.cols))
all_lie_in s t (x ∷ xs) fits h (suc i) b here = all_lie_in s t xs fits h.2 i b here

-- one batch more of a walk
pub widened_more : (s : Setting) (items : List (Arc Submission Global)) (i : ℕ) (a : Arc Submission Global) →
    i < length items → a ≡ get_or items i a →
    all_widened s (values (take i items)) ++ widened s (arc_value a) ∷ [] ≡ all_widened s (values (take (i + 1) items))
widened_more s items i a below is =
    (λ j. all_widened s (values (take i items)) ++ widened s (arc_value (is j)) ∷ [])
    ∙ sym (map-append (widened s) (values (take i items)) (arc_value (get_or items i a) ∷ []))
    ∙ ap (all_widened s) (sym (map-append arc_value (take i items) (get_or items i a ∷ [])))
    ∙ ap (λ l. all_widened s (values l)) (sym (take_more items i a below))

-- the batch at a place of a walk
pub item_here : (items : List (Arc Submission Global)) (i : ℕ) (a : Arc Submission Global) → i < length items →
    a ≡ get_or items i a → slice_get (values items) i ≡ Some (arc_value a)
item_here [] i a below is = absurd (omega arith)
item_here (x ∷ xs) zero a below is = ap (λ (b : Arc Submission Global). Some (arc_value b)) (sym is)
item_here (x ∷ xs) (suc i) a below is = item_here xs i a (omega arith) is

-- ---- totals
totals_join : (xs ys : List (Arc Submission Global)) →
    list_total (values (xs ++ ys)) ≡ list_total (values xs) + list_total (values ys)
totals_join xs ys =
    ap list_total (map-append arc_value xs ys)
    ∙ ap total_of_entries (map-append entry_of (values xs) (values ys))
    ∙ total_of-append (entries_of (values xs)) (entries_of (values ys))

pub totals_more : (items : List (Arc Submission Global)) (i : ℕ) (a : Arc Submission Global) → i < length items →
    a ≡ get_or items i a →
    list_total (values (take (i + 1) items)) ≡ list_total (values (take i items)) + batch_total (arc_value a)
totals_more items i a below is =
    let more = ap (λ l. list_total (values l)) (take_more items i a below) in
    let join = totals_join (take i items) (get_or items i a ∷ []) in
    let same = ap (λ (b : Arc Submission Global). batch_total (arc_value b)) is in
    omega (arith, more, join, same)

pub totals_part : (items : List (Arc Submission Global)) (i : ℕ) →
    list_total (values (take i items)) ≤ list_total (values items)
totals_part items i =
    let parts = ap (λ l. list_total (values l)) (take-append-drop i items) in
    let join = totals_join (take i items) (drop i items) in
    omega (arith, parts, join)

-- ---- lists that grow

pub entries-grown : (s : Setting) (v : Listing) → entries_in (accepted_in (grown_to s v)) ≡ entries_in (accepted_in v)
entries-grown s v = ap (λ es. v.folded ++ es) (entries-widened s v.list)

pub total-grown : (s : Setting) (v : Listing) → total_in (accepted_in (grown_to s v)) ≡ total_in (accepted_in v)
total-grown s v = ap total_of_entries (entries-grown s v)

pub counts-grown : (s : Setting) (v : Listing) → summed (accepted_in (grown_to s v)) ≡ summed (accepted_in v)
counts-grown s v = ap (ewise_add v.base.counts) (sum-widened s v.list)

pub grown_same : (s : Setting) (v : Listing) → v.base.rows ≡ s.rows → v.base.cols ≡ s.cols →
    HaveDims s.rows s.cols v.list → grown_to s v ≡ v
grown_same s v rows cols dims =
    λ i. listing (matrix (sym rows i) (sym cols i) v.base.counts) v.folded (all_widened_same s v.list dims i)

pub grown_own : (s t : Setting) (v : Listing) → t.rows ≡ s.rows → t.cols ≡ s.cols → v.base.rows ≡ s.rows →
    v.base.cols ≡ s.cols → HaveDims s.rows s.cols v.list → v ≡ grown_to t v
grown_own s t v same_rows same_cols rows cols dims =
    sym (grown_same s v rows cols dims)
    ∙ (λ i. listing (matrix (sym same_rows i) (sym same_cols i) v.base.counts) v.folded
    (map (λ (b : Submission). submission b.client b.number (matrix (sym same_rows i) (sym same_cols i) b.matrix.counts))
    v.list))

pub grown_twice : (s t : Setting) (v : Listing) → grown_to t (grown_to s v) ≡ grown_to t v
grown_twice s t v = ap (listing (matrix t.rows t.cols v.base.counts) v.folded) (widened_twice s t v.list)

pub accepted_grown : (s t : Setting) (v : Listing) → IsSetting t → AreAccepted s (accepted_in v) →
    IsRoomFor t s (accepted_in v) → AreAccepted t (accepted_in (grown_to t v))
accepted_grown s t v sound held room =
    let same = entries-grown t v in
    record {
      sound = sound;
      distinct = subst (IsDistinct same_pair) (sym same) held.distinct;
      dims = dims_widened t v.list;
      few = omega (arith, ap length same, room.few);
      within = omega (arith, ap total_of_entries same, room.within);
      based = held.based;
    }

pub accepted_under : (s t : Setting) (v : Listing) → FitsIn s t → AllowsNoLess s t → IsSetting t →
    AreAccepted s (accepted_in v) → AreAccepted t (accepted_in (grown_to t v))
accepted_under s t v fits allows sound held =
    accepted_grown s t v sound held (record {
      fits = fits;
      within = omega (arith, held.within, allows.limit);
      few = omega (arith, held.few, allows.batches);
    })

-- ---- one outcome

no_misfit : (to from : Setting) (a : Accepted) (m : Misfit) → IsRoomFor to from a → IsGrowthMisfit from to a m → ⊥
no_misfit to from a m room (inl (inl h)) = omega (arith, h.1.below, room.fits.rows)
no_misfit to from a m room (inl (inr h)) = omega (arith, h.2.below, room.fits.cols)
no_misfit to from a m room (inr (fits, inl h)) = omega (arith, h.1.below, room.within)
no_misfit to from a m room (inr (fits, inr h)) = omega (arith, h.2.below, room.few)

pub no_growth_fault : (to from : Setting) (a : Accepted) (f : GrowthFault) → f ≢ Memory → IsRoomFor to from a →
    RefusesGrowth to from a f → ⊥
no_growth_fault to from a (TooSmall m) n room h = no_misfit to from a m room h
no_growth_fault to from a Memory n room h = n refl

same_misfit : (m n : Misfit) (number : Number) (has given : ℕ) → m.number ≡ number → n.number ≡ number →
    IsBelow m has given → IsBelow n has given → m ≡ n
same_misfit m n number has given p q x y = λ i. record {
  number = (p ∙ sym q) i;
  has = (x.has_is ∙ sym y.has_is) i;
  given = (x.given_is ∙ sym y.given_is) i;
}

one_misfit : (to from : Setting) (a : Accepted) (m n : Misfit) → IsGrowthMisfit from to a m →
    IsGrowthMisfit from to a n → m ≡ n
one_misfit to from a m n (inl (inl x)) (inl (inl y)) = same_misfit m n _ from.rows to.rows x.0 y.0 x.1 y.1
one_misfit to from a m n (inl (inl x)) (inl (inr y)) = absurd (omega (arith, x.1.below, y.0))
one_misfit to from a m n (inl (inl x)) (inr y) = absurd (omega (arith, x.1.below, y.0.rows))
one_misfit to from a m n (inl (inr x)) (inl (inl y)) = absurd (omega (arith, x.0, y.1.below))
one_misfit to from a m n (inl (inr x)) (inl (inr y)) = same_misfit m n _ from.cols to.cols x.1 y.1 x.2 y.2
one_misfit to from a m n (inl (inr x)) (inr y) = absurd (omega (arith, x.2.below, y.0.cols))
one_misfit to from a m n (inr x) (inl (inl y)) = absurd (omega (arith, x.0.rows, y.1.below))
one_misfit to from a m n (inr x) (inl (inr y)) = absurd (omega (arith, x.0.cols, y.2.below))
one_misfit to from a m n (inr (fits, inl x)) (inr (room, inl y)) =
    same_misfit m n _ (total_in a) to.limit x.0 y.0 x.1 y.1
one_misfit to from a m n (inr (fits, inl x)) (inr (room, inr y)) = absurd (omega (arith, x.1.below, y.0))
one_misfit to from a m n (inr (fits, inr x)) (inr (room, inl y)) = absurd (omega (arith, x.0, y.1.below))
one_misfit to from a m n (inr (fits, inr x)) (inr (room, inr y)) =
    same_misfit m n _ (count_in a) to.max_batches x.1 y.1 x.2 y.2

pub one_growth_fault : (to from : Setting) (a : Accepted) (f g : GrowthFault) → f ≢ Memory → g ≢ Memory →
    RefusesGrowth to from a f → RefusesGrowth to from a g → f ≡ g
one_growth_fault to from a Memory g n m x y = absurd (n refl)
one_growth_fault to from a f Memory n m x y = absurd (m refl)
one_growth_fault to from a (TooSmall x) (TooSmall y) n m p q = ap TooSmall (one_misfit to from a x y p q)
