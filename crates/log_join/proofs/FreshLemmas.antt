-- Which entries are fresh behind a list, by the pairs, the number and the total of the list.
use Rattle.std.proofs.Common.{◌≡◌, ◌≢◌, ℕ, suc, ◌+◌, ◌<◌, ◌≤◌, Bool, true, false, cond, not, eqb, ◌&&◌, ◌||◌, List}
use Rattle.std.proofs.Common.{[], ◌∷◌, ◌++◌}
use Rattle.std.proofs.Common.{length, take, Option, None, Some, position, refl, sym, ap, subst, ◌∙◌, append_assoc}
use Rattle.std.proofs.Common.{append-nil, arith}
use Rattle.std.specs.Prelude.{◌==◌, nat_lt, nat_le, if◌then◌else◌}
use Rattle.std.specs.List.{AllByRecursion}
use Rattle.std.proofs.lemmas.Bool.{or_from, or_parts}
use Rattle.std.proofs.lemmas.Bool.Decides.{nat_tests}
use Rattle.batch_store.specs.declared.verdict.Entry.{Entry}
use Rattle.batch_store.specs.declared.verdict.Verdict.{Verdict}
use Rattle.batch_store.specs.declared.verdict.Verdict.TheVariants.{Fresh, OverTotal, BookFull}
use Rattle.batch_store.specs.Verdicts.{AllFresh, verdict_of, verdict_at, same_pair, total_of_entries}
use Rattle.batch_store.proofs.VerdictLaws.{fresh_is, none_same, same_pair_flips, total_push}
use Rattle.batch_store.proofs.FoldLaws.{found_nowhere}
use Rattle.snap_file.specs.Spelling.{stands_in}
use Rattle.log_join.specs.Joins.{StaleAt}

none_stands : (b : Entry) (es : List Entry) → stands_in b.client b.number es ≡ false →
    AllByRecursion (λ (e : Entry). same_pair b e ≡ false) es
none_stands b [] h = tt
none_stands b (e ∷ es) h =
    let parts = or_parts (same_pair e b) (stands_in b.client b.number es) h in
    (same_pair_flips b e ∙ parts.0, none_stands b es parts.1)

stands_none : (b : Entry) (es : List Entry) → AllByRecursion (λ (e : Entry). same_pair e b ≡ false) es →
    stands_in b.client b.number es ≡ false
stands_none b [] h = refl
stands_none b (e ∷ es) h = or_from (same_pair e b) (stands_in b.client b.number es) h.0 (stands_none b es h.1)

new_verdict : (limit most t n i : ℕ) → t + n ≤ limit → i < most →
    (if nat_lt limit (t + n) then OverTotal t else if nat_le most i then BookFull else Fresh) ≡ Fresh
new_verdict limit most t n i fits room =
    let p : nat_lt limit (t + n) ≡ false = grind (arith, nat_tests) in
    let q : nat_le most i ≡ false = grind (arith, nat_tests) in
    λ j. cond (p j) (OverTotal t) (cond (q j) BookFull Fresh)

pub fresh_by : (limit most : ℕ) (es : List Entry) (b : Entry) → stands_in b.client b.number es ≡ false →
    total_of_entries es + b.total ≤ limit → length es < most → verdict_of limit most es b ≡ Fresh
fresh_by limit most es b new fits room =
    ap (verdict_at limit most es b) (found_nowhere b es (none_stands b es new))
    ∙ new_verdict limit most (total_of_entries es) b.total (length es) fits room

-- the pair stands there, the total passes the limit, or the list is full
pub stale_pair : (limit most : ℕ) (es : List Entry) (b : Entry) → stands_in b.client b.number es ≡ true →
    verdict_of limit most es b ≢ Fresh
stale_pair limit most es b there fresh =
    let none = stands_none b es (none_same b es (fresh_is limit most es b fresh).new_pair) in
    absurd (cc (there, none))

pub stale_limits : (limit most t n : ℕ) (es : List Entry) (b : Entry) → t ≡ total_of_entries es → n ≡ length es →
    (t + b.total ≤ limit → n < most → ⊥) → verdict_of limit most es b ≢ Fresh
stale_limits limit most t n es b is_total is_count out fresh =
    let f = fresh_is limit most es b fresh in
    let a = f.fits in
    let c = f.room in
    out (omega arith) (omega arith)

pub all_fresh_more : (limit most : ℕ) (es xs : List Entry) (b : Entry) → AllFresh limit most es xs →
    verdict_of limit most (es ++ xs) b ≡ Fresh → AllFresh limit most es (xs ++ b ∷ [])
all_fresh_more limit most es [] b all fresh =
    (subst (λ (l : List Entry). verdict_of limit most l b ≡ Fresh) (append-nil es) fresh, tt)
all_fresh_more limit most es (x ∷ xs) b all fresh = (
  all.0,
  all_fresh_more limit most (es ++ x ∷ []) xs b all.1
      (subst (λ (l : List Entry). verdict_of limit most l b ≡ Fresh) (sym (append_assoc es (x ∷ []) xs)) fresh),
)

-- all are fresh, or one isn't
pub never_stale : (limit most : ℕ) (es front behind : List Entry) (b : Entry) →
    AllFresh limit most es (front ++ b ∷ behind) → verdict_of limit most (es ++ front) b ≢ Fresh → ⊥
never_stale limit most es [] behind b all stale =
    stale (subst (λ (l : List Entry). verdict_of limit most l b ≡ Fresh) (sym (append-nil es)) all.0)
never_stale limit most es (x ∷ front) behind b all stale =
    never_stale limit most (es ++ x ∷ []) front behind b all.1
    (λ fresh. stale (subst (λ (l : List Entry). verdict_of limit most l b ≡ Fresh) (append_assoc es
    (x ∷ []) front) fresh))

pub one_stale : (limit most : ℕ) (es f g e d : List Entry) (b c : Entry) → f ++ b ∷ e ≡ g ++ c ∷ d →
    AllFresh limit most es f → AllFresh limit most es g → verdict_of limit most (es ++ f) b ≢ Fresh →
    verdict_of limit most (es ++ g) c ≢ Fresh → length f ≡ length g
one_stale limit most es [] [] e d b c same all other stale old = refl
one_stale limit most es [] (y ∷ g) e d b c same all other stale old =
    let first : y ≡ b = cc same in
    absurd (stale (subst (λ (l : List Entry). verdict_of limit most l b ≡ Fresh) (sym (append-nil es))
    (subst (λ (x : Entry). verdict_of limit most es x ≡ Fresh) first other.0)))
one_stale limit most es (x ∷ f) [] e d b c same all other stale old =
    let first : x ≡ c = cc same in
    absurd (old (subst (λ (l : List Entry). verdict_of limit most l c ≡ Fresh) (sym (append-nil es))
    (subst (λ (y : Entry). verdict_of limit most es y ≡ Fresh) first all.0)))
one_stale limit most es (x ∷ f) (y ∷ g) e d b c same all other stale old =
    let first : y ≡ x = cc same in
    let rest : f ++ b ∷ e ≡ g ++ c ∷ d = cc same in
    ap suc (one_stale limit most (es ++ x ∷ []) f g e d b c rest all.1
    (subst (λ (z : Entry). AllFresh limit most (es ++ z ∷ []) g) first other.1)
    (λ fresh. stale (subst (λ (l : List Entry). verdict_of limit most l b ≡ Fresh) (append_assoc es (x ∷ []) f) fresh))
    (λ fresh. old (subst (λ (z : Entry). verdict_of limit most (es ++ z ∷ g) c ≡ Fresh) (sym first)
    (subst (λ (l : List Entry). verdict_of limit most l c ≡ Fresh) (append_assoc es (x ∷ []) g) fresh))))
