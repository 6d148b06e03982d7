-- One refusal at most, and none where a list is made.
use Rattle.std.proofs.Common.{◌≡◌, ◌≢◌, ℕ, ◌+◌, ◌≤◌, List, length, slice_get, refl, sym, ap}
use Rattle.std.proofs.Common.{subst, ◌∙◌, inl, inr, arith}
use Rattle.std.proofs.lemmas.Bool.{cases_lt}
use mathlib.Core.List.{IsPrefix}
use Rattle.batch_store.specs.declared.verdict.Entry.{Entry}
use Rattle.batch_store.specs.Setups.{Setting}
use Rattle.batch_store.specs.Batches.{Submission, entries_of}
use Rattle.batch_store.specs.Books.{Listing}
use Rattle.log_head.specs.declared.head.LogHead.{LogHead}
use Rattle.log_lives.proofs.Prefixes.{prefix_push}
use Rattle.batch_store.specs.Verdicts.{AllFresh}
use Rattle.log_join.specs.Joins.{Agrees, DiffersAt, HasGap, IsLinked, IsUnlinked, Joins, StaleAt}
use Rattle.log_join.specs.Joins.{RefusesJoin, RefusesLists}
use Rattle.snap_file.specs.Origins.{IsOtherBook}
use Rattle.snap_file.specs.declared.origin.Identity.{Identity}
use Rattle.log_join.specs.Joins.{behind_end, known_entries}
use Rattle.log_join.specs.declared.fault.JoinFault.{JoinFault}
use Rattle.log_join.specs.declared.fault.JoinFault.TheVariants.{SetupDiffers, Gap, LinkDiffers, EntryDiffers, NotFresh}
use Rattle.log_join.specs.declared.fault.JoinFault.TheVariants.{Memory, OtherBook}
use Rattle.log_join.proofs.FreshLemmas.{never_stale, one_stale}

never_gap : (s : Setting) (es : List Entry) (h : LogHead) (first : ℕ) → HasGap s es h first → h.first ≤ length es → ⊥
never_gap s es h first g no_gap = let a = g.gap in omega arith

never_unlinked : (s : Setting) (es : List Entry) (h : LogHead) → IsUnlinked s es h → IsLinked s es h → ⊥
never_unlinked s es h u l = u.differs l.total l.link

never_differs : (first : ℕ) (es entries : List Entry) (at : ℕ) → DiffersAt first es entries at →
    Agrees first es entries → ⊥
never_differs first es entries at d same =
    let within = d.within in
    let is = d.at_is in
    d.differs (ap (slice_get es) d.at_is ∙ same d.index (omega arith) d.logged)

differs_once : (first : ℕ) (es entries : List Entry) (at to : ℕ) → DiffersAt first es entries at →
    DiffersAt first es entries to → at ≡ to
differs_once first es entries at to d e = elim (cases_lt d.index e.index) [
  | inl less ↦ absurd (d.differs (ap (slice_get es) d.at_is ∙ e.same d.index less))
  | inr ge ↦ elim (cases_lt e.index d.index) [
    | inl more ↦ absurd (e.differs (ap (slice_get es) e.at_is ∙ d.same e.index more))
    | inr le ↦ (let a = d.at_is in let b = e.at_is in omega arith)
  ]
]

stale_once : (limit most : ℕ) (es more : List Entry) (at to : ℕ) → StaleAt limit most es more at →
    StaleAt limit most es more to → at ≡ to
stale_once limit most es more at to a b =
    let same = one_stale limit most es a.front b.front a.behind b.behind a.entry b.entry (sym a.parts ∙ b.parts)
    a.fresh b.fresh a.stale b.stale in
    a.at_is ∙ ap (λ (n : ℕ). length es + n) same ∙ sym b.at_is

never_fresh : (limit most : ℕ) (es more : List Entry) (at : ℕ) → StaleAt limit most es more at →
    AllFresh limit most es more → ⊥
never_fresh limit most es more at a all =
    never_stale limit most es a.front a.behind a.entry (subst (AllFresh limit most es) a.parts all) a.stale

one_refusal : (s : Setting) (v : Listing) (h : LogHead) (bs : List Submission) (f g : JoinFault) → f ≢ Memory →
    g ≢ Memory → RefusesLists s v h bs f → RefusesLists s v h bs g → f ≡ g
one_refusal s v h bs Memory g n m a b = absurd (n refl)
one_refusal s v h bs f Memory n m a b = absurd (m refl)
one_refusal s v h bs OtherBook g n m a b = absurd a
one_refusal s v h bs f OtherBook n m a b = absurd b
one_refusal s v h bs SetupDiffers SetupDiffers n m a b = refl
one_refusal s v h bs SetupDiffers (Gap first) n m a b = absurd (a b.setup)
one_refusal s v h bs SetupDiffers LinkDiffers n m a b = absurd (a b.setup)
one_refusal s v h bs SetupDiffers (EntryDiffers at) n m a b = absurd (a b.0.setup)
one_refusal s v h bs SetupDiffers (NotFresh at) n m a b = absurd (a b.0.linked.setup)
one_refusal s v h bs (Gap first) SetupDiffers n m a b = absurd (b a.setup)
one_refusal s v h bs (Gap first) (Gap other) n m a b = ap (λ (i : ℕ). Gap i) (a.first_is ∙ sym b.first_is)
one_refusal s v h bs (Gap first) LinkDiffers n m a b = absurd (never_gap s (known_entries v) h first a b.no_gap)
one_refusal s v h bs (Gap first) (EntryDiffers at) n m a b =
    absurd (never_gap s (known_entries v) h first a b.0.no_gap)
one_refusal s v h bs (Gap first) (NotFresh at) n m a b =
    absurd (never_gap s (known_entries v) h first a b.0.linked.no_gap)
one_refusal s v h bs LinkDiffers SetupDiffers n m a b = absurd (b a.setup)
one_refusal s v h bs LinkDiffers (Gap first) n m a b = absurd (never_gap s (known_entries v) h first b a.no_gap)
one_refusal s v h bs LinkDiffers LinkDiffers n m a b = refl
one_refusal s v h bs LinkDiffers (EntryDiffers at) n m a b = absurd (never_unlinked s (known_entries v) h a b.0)
one_refusal s v h bs LinkDiffers (NotFresh at) n m a b = absurd (never_unlinked s (known_entries v) h a b.0.linked)
one_refusal s v h bs (EntryDiffers at) SetupDiffers n m a b = absurd (b a.0.setup)
one_refusal s v h bs (EntryDiffers at) (Gap first) n m a b =
    absurd (never_gap s (known_entries v) h first b a.0.no_gap)
one_refusal s v h bs (EntryDiffers at) LinkDiffers n m a b = absurd (never_unlinked s (known_entries v) h b a.0)
one_refusal s v h bs (EntryDiffers at) (EntryDiffers to) n m a b =
    ap (λ (i : ℕ). EntryDiffers i) (differs_once h.first (known_entries v) (entries_of bs) at to a.1 b.1)
one_refusal s v h bs (EntryDiffers at) (NotFresh to) n m a b =
    absurd (never_differs h.first (known_entries v) (entries_of bs) at a.1 b.0.same)
one_refusal s v h bs (NotFresh at) SetupDiffers n m a b = absurd (b a.0.linked.setup)
one_refusal s v h bs (NotFresh at) (Gap first) n m a b =
    absurd (never_gap s (known_entries v) h first b a.0.linked.no_gap)
one_refusal s v h bs (NotFresh at) LinkDiffers n m a b = absurd (never_unlinked s (known_entries v) h b a.0.linked)
one_refusal s v h bs (NotFresh at) (EntryDiffers to) n m a b =
    absurd (never_differs h.first (known_entries v) (entries_of bs) to b.1 a.0.same)
one_refusal s v h bs (NotFresh at) (NotFresh to) n m a b =
    ap (λ (i : ℕ). NotFresh i)
    (stale_once s.limit s.max_batches (known_entries v) (behind_end (known_entries v) h (entries_of bs)) at to a.1 b.1)

pub one_list : (s : Setting) (v : Listing) (h : LogHead) (bs : List Submission) (a b : Listing) → Joins s v h bs a →
    Joins s v h bs b → a ≡ b
one_list s v h bs a b x y = x.list_is ∙ sym y.list_is

never_refused : (s : Setting) (v : Listing) (h : LogHead) (bs : List Submission) (list : Listing) (f : JoinFault) →
    f ≢ Memory → Joins s v h bs list → RefusesLists s v h bs f → ⊥
never_refused s v h bs list SetupDiffers n j a = a j.beside.linked.setup
never_refused s v h bs list (Gap first) n j a = never_gap s (known_entries v) h first a j.beside.linked.no_gap
never_refused s v h bs list LinkDiffers n j a = never_unlinked s (known_entries v) h a j.beside.linked
never_refused s v h bs list (EntryDiffers at) n j a =
    never_differs h.first (known_entries v) (entries_of bs) at a.1 j.beside.same
never_refused s v h bs list (NotFresh at) n j a =
    never_fresh s.limit s.max_batches (known_entries v) (behind_end (known_entries v) h (entries_of bs)) at a.1 j.fresh
never_refused s v h bs list Memory n j a = n refl
never_refused s v h bs list OtherBook n j a = a

pub goes_on : (s : Setting) (v : Listing) (h : LogHead) (bs : List Submission) (list : Listing) → Joins s v h bs list →
    IsPrefix (known_entries v) (known_entries list)
goes_on s v h bs list j =
    subst (λ (l : List Entry). IsPrefix (known_entries v) l) (sym j.restored_is) (prefix_push (known_entries v) _)

pub one_fault : (s : Setting) (i : Identity) (v : Listing) (h : LogHead) (bs : List Submission) (f g : JoinFault) →
    f ≢ Memory → g ≢ Memory → RefusesJoin s i v h bs f → RefusesJoin s i v h bs g → f ≡ g
one_fault s i v h bs f g n m (inl a) (inl b) = a.0 ∙ sym b.0
one_fault s i v h bs f g n m (inl a) (inr b) = absurd (b.0 a.1)
one_fault s i v h bs f g n m (inr a) (inl b) = absurd (a.0 b.1)
one_fault s i v h bs f g n m (inr a) (inr b) = one_refusal s v h bs f g n m a.1 b.1

pub never_faulty : (s : Setting) (i : Identity) (v : Listing) (h : LogHead) (bs : List Submission) (list : Listing)
    (f : JoinFault) → f ≢ Memory → (IsOtherBook i h.identity → ⊥) → Joins s v h bs list → RefusesJoin s i v h bs f → ⊥
never_faulty s i v h bs list f n own j (inl a) = own a.1
never_faulty s i v h bs list f n own j (inr a) = never_refused s v h bs list f n j a.1
