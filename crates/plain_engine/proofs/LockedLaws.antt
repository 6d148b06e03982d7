-- What every locked run keeps.
use Rattle.std.proofs.Common.{◌≡◌, ℕ, zero, suc, ◌+◌, ◌<◌, ◌≤◌, inl, inr, Bool, true, false, cond, eqb, List, [], ◌∷◌}
use Rattle.std.proofs.Common.{◌++◌, length, refl, sym, ◌∙◌, ap, subst, arith, length-append, append_assoc, append-nil}
use Rattle.std.proofs.lemmas.List.Elements.{filter-append}
use Rattle.std.proofs.lemmas.Bool.{cases_lt}
use Rattle.std.proofs.lemmas.Bool.Decides.{nat_tests}
use Rattle.batch_store.specs.Setups.{Setting}
use Rattle.batch_store.specs.Batches.{Submission}
use Rattle.batch_store.specs.Parts.{concerns, concerned}
use Rattle.batch_store.specs.declared.verdict.Verdict.TheVariants.{Fresh}
use Rattle.batch_store.specs.Accepted.{Accepted, with_batch}
use Rattle.plain_engine.specs.Object.{verdict_in}
use Rattle.plain_engine.specs.World.{Part, World, Event, part_for, parts_for, record_at, append_at, Delivers, Admits}
use Rattle.plain_engine.specs.World.{RunsLocked, FindsFree, AllFollow, Starts, world, deliveries}
use Rattle.plain_engine.specs.World.Event.{Admit, Deliver}
use Rattle.plain_engine.proofs.WalkLaws.{no_items}
use Rattle.plain_engine.proofs.WorldLaws.{record_at-same, record_at-other, length-append_at}

-- the batches in flight for shard s
abbrev waiting : ℕ → List Part → List Submission
waiting s [] = []
waiting s (p ∷ ps) = cond (eqb p.shard s) (p.batch ∷ waiting s ps) (waiting s ps)

waiting-append : (s : ℕ) (xs ys : List Part) → waiting s (xs ++ ys) ≡ waiting s xs ++ waiting s ys
waiting-append s [] ys = refl
waiting-append s (p ∷ ps) ys = by (eqb p.shard s) (waiting-append s ps ys)
  where
    by : (x : Bool) → waiting s (ps ++ ys) ≡ waiting s ps ++ waiting s ys →
        cond x (p.batch ∷ waiting s (ps ++ ys)) (waiting s (ps ++ ys)) ≡ cond x (p.batch ∷ waiting s ps)
        (waiting s ps) ++ waiting s ys
    by true rest = ap (λ bs. p.batch ∷ bs) rest
    by false rest = rest

same_number : (m s : ℕ) → eqb m s ≡ true → m ≡ s
same_number m s h = grind (arith, nat_tests)

-- none waits for a shard that is found free
free_waits : (k : ℕ) (b : Submission) (s : ℕ) (ps : List Part) → FindsFree k b ps →
    concerns s k b.matrix.counts ≡ true → waiting s ps ≡ []
free_waits k b s [] h here = refl
free_waits k b s (p ∷ ps) h here = by (eqb p.shard s) refl (free_waits k b s ps h.1 here)
  where
    by : (x : Bool) → eqb p.shard s ≡ x → waiting s ps ≡ [] → cond x (p.batch ∷ waiting s ps) (waiting s ps) ≡ []
    by true is rest =
        let no : false ≡ true = sym h.0 ∙ ap (λ (n : ℕ). concerns n k b.matrix.counts) (same_number p.shard s is)
        ∙ here in
        absurd cc
    by false is rest = rest

waits_none : (s : ℕ) (b : Submission) (k m : ℕ) → m ≤ s → waiting s (parts_for b k m) ≡ []
waits_none s b k zero h = refl
waits_none s b k (suc m) h = by (concerns m k b.matrix.counts) (waits_none s b k m (omega arith))
  where
    other : eqb m s ≡ false
    other = grind (arith, nat_tests)

    by : (x : Bool) → waiting s (parts_for b k m) ≡ [] →
        waiting s (cond x (parts_for b k m ++ part_for b m ∷ []) (parts_for b k m)) ≡ []
    by true rest = waiting-append s (parts_for b k m) (part_for b m ∷ []) ∙ (λ i. rest i ++ cond (other i) (b ∷ []) [])
    by false rest = rest

-- of a batch's parts the one for a shard that it concerns waits there
waits_one : (s : ℕ) (b : Submission) (k m : ℕ) → s < m →
    waiting s (parts_for b k m) ≡ cond (concerns s k b.matrix.counts) (b ∷ []) []
waits_one s b k zero h = absurd (omega arith)
waits_one s b k (suc m) h = elim (cases_lt s m) [
  | inl below ↦ earlier (concerns m k b.matrix.counts) (waits_one s b k m below) (grind (arith, nat_tests))
  | inr above ↦
      let same : m ≡ s = omega arith in
      last (concerns m k b.matrix.counts) refl same (waits_none s b k m above)
]
  where
    earlier : (x : Bool) → waiting s (parts_for b k m) ≡ cond (concerns s k b.matrix.counts) (b ∷ []) [] →
        eqb m s ≡ false → waiting s (cond x (parts_for b k m ++ part_for b m ∷ []) (parts_for b k m)) ≡ cond
        (concerns s k b.matrix.counts) (b ∷ []) []
    earlier true rest other =
        waiting-append s (parts_for b k m) (part_for b m ∷ []) ∙ (λ i. rest i ++ cond (other i) (b ∷ []) [])
        ∙ append-nil (cond (concerns s k b.matrix.counts) (b ∷ []) [])
    earlier false rest other = rest

    last : (x : Bool) → concerns m k b.matrix.counts ≡ x → m ≡ s → waiting s (parts_for b k m) ≡ [] →
        waiting s (cond x (parts_for b k m ++ part_for b m ∷ []) (parts_for b k m)) ≡ cond
        (concerns s k b.matrix.counts) (b ∷ []) []
    last true is same none =
        let here : eqb m s ≡ true = grind (arith, nat_tests) in
        waiting-append s (parts_for b k m) (part_for b m ∷ []) ∙ (λ i. none i ++ cond (here i) (b ∷ []) [])
        ∙ ap (λ (x : Bool). cond x (b ∷ []) []) (sym is ∙ ap (λ (n : ℕ). concerns n k b.matrix.counts) same)
    last false is same none = none ∙ ap (λ (x : Bool). cond x (b ∷ []) []) (sym is
        ∙ ap (λ (n : ℕ). concerns n k b.matrix.counts) same)

-- a locked run keeps at most one part in flight for a shard, and its record with that part follows the book
record KeepsOrder (v : Setting) (w : World) : Type 0 where
  count : length w.records ≡ v.shards
  few : (s : ℕ) → s < v.shards → length (waiting s w.flight) ≤ 1
  follow : (s : ℕ) → s < v.shards → record_at w.records s ++ waiting s w.flight ≡ concerned s v.shards w.book.list

order-start : (v : Setting) (w : World) → Starts v w → KeepsOrder v w
order-start v w st = record {
  count = st.count;
  few = λ s below. omega (arith, ap (λ (ps : List Part). length (waiting s ps)) st.flight);
  follow = λ s below. ap (λ (ps : List Part). record_at w.records s ++ waiting s ps) st.flight
      ∙ append-nil (record_at w.records s) ∙ st.follow s below;
}

order-admit : (v : Setting) (w : World) (b : Submission) (u : World) → FindsFree v.shards b w.flight → Admits v w b u →
    KeepsOrder v w → KeepsOrder v u
order-admit v w b u free a inv =
    let k = v.shards in
    let more = parts_for b k k in
    subst (λ (x : World). KeepsOrder v x) (sym a.now) (record {
      count = inv.count;
      few = λ s below. omega (
        arith,
        ap length (waiting-append s w.flight more),
        length-append (waiting s w.flight) (waiting s more),
        one s below (concerns s k b.matrix.counts) refl,
      );
      follow = λ s below.
          ap (λ bs. record_at w.records s ++ bs) (waiting-append s w.flight more)
          ∙ sym (append_assoc (record_at w.records s) (waiting s w.flight) (waiting s more))
          ∙ ap (λ bs. bs ++ waiting s more) (inv.follow s below)
          ∙ ap (λ bs. concerned s k w.book.list ++ bs) (waits_one s b k k below)
          ∙ sym (filter-append (λ (x : Submission). concerns s k x.matrix.counts) w.book.list (b ∷ []));
    })
  where
    one : (s : ℕ) → s < v.shards → (x : Bool) → concerns s v.shards b.matrix.counts ≡ x →
        length (waiting s w.flight) + length (waiting s (parts_for b v.shards v.shards)) ≤ 1
    one s below true is = omega (
      arith,
      ap length (free_waits v.shards b s w.flight free is),
      ap length (waits_one s b v.shards v.shards below ∙ ap (λ (x : Bool). cond x (b ∷ []) []) is),
    )
    one s below false is = omega (
      arith,
      inv.few s below,
      ap length (waits_one s b v.shards v.shards below ∙ ap (λ (x : Bool). cond x (b ∷ []) []) is),
    )

order-deliver : (v : Setting) (w : World) (b : Submission) (s : ℕ) (u : World) → Delivers w b s u → KeepsOrder v w →
    KeepsOrder v u
order-deliver v w b s u d inv =
    subst (λ (x : World). KeepsOrder v x) (sym d.now) (record {
      count = length-append_at w.records s b ∙ inv.count;
      few = λ t below. (at t below (eqb s t) refl).0;
      follow = λ t below. (at t below (eqb s t) refl).1;
    })
  where
    split : (t : ℕ) → waiting t w.flight ≡ waiting t d.before ++ cond (eqb s t) (b ∷ waiting t d.behind)
        (waiting t d.behind)
    split t = ap (waiting t) d.was ∙ waiting-append t d.before (part_for b s ∷ d.behind)

    at : (t : ℕ) → t < v.shards → (x : Bool) → eqb s t ≡ x → (length (waiting t (d.before ++ d.behind)) ≤ 1) ×
        (record_at (append_at w.records s b) t ++ waiting t (d.before ++ d.behind) ≡ concerned t v.shards w.book.list)
    at t below true is =
        let same : s ≡ t = same_number s t is in
        let now : waiting t w.flight ≡ waiting t d.before ++ b ∷ waiting t d.behind = split t
        ∙ ap (λ (x : Bool). waiting t d.before ++ cond x (b ∷ waiting t d.behind) (waiting t d.behind)) is in
        let long : length (waiting t d.before) + suc (length (waiting t d.behind)) ≤ 1 =
        omega (arith, inv.few t below, ap length now, length-append (waiting t d.before) (b ∷ waiting t d.behind))
        in
        let before : waiting t d.before ≡ [] = no_items (waiting t d.before) (omega (arith, long)) in
        let behind : waiting t d.behind ≡ [] = no_items (waiting t d.behind) (omega (arith, long)) in
        let none : waiting t (d.before ++ d.behind) ≡ [] = waiting-append t d.before d.behind
        ∙ (λ i. before i ++ behind i) in
        let grown : record_at (append_at w.records s b) t ≡ record_at w.records t ++ b ∷ [] =
        (λ i. record_at (append_at w.records (same i) b) t)
        ∙ record_at-same w.records t b (omega (arith, below, inv.count)) in (
          omega (arith, ap length none),
          (λ i. grown i ++ none i) ∙ append-nil (record_at w.records t ++ b ∷ [])
              ∙ ap (λ bs. record_at w.records t ++ bs) (sym (now ∙ (λ i. before i ++ b ∷ behind i)))
              ∙ inv.follow t below,
        )
    at t below false is =
        let other : s ≡ t → ⊥ = λ e. grind (arith, nat_tests) in
        let now : waiting t (d.before ++ d.behind) ≡ waiting t w.flight = waiting-append t d.before d.behind
        ∙ sym (split t ∙ ap (λ (x : Bool). waiting t d.before ++ cond x (b ∷ waiting t d.behind)
        (waiting t d.behind)) is) in (
          omega (arith, ap length now, inv.few t below),
          (λ i. record_at-other w.records s t b other i ++ now i) ∙ inv.follow t below,
        )

order-run : (v : Setting) (es : List Event) (w u : World) → RunsLocked v w es u → KeepsOrder v w → KeepsOrder v u
order-run v [] w u run inv = subst (λ (x : World). KeepsOrder v x) (sym run) inv
order-run v (Admit b ∷ es) w u run inv = order-run v es run.0 u run.1.1
    (order-admit v w b run.0 run.1.0.0 run.1.0.1 inv)
order-run v (Deliver b s ∷ es) w u run inv = order-run v es run.0 u run.1.1 (order-deliver v w b s run.0 run.1.0 inv)

-- with nothing in flight each record follows the book
pub run_follows : (v : Setting) (w : World) (es : List Event) (u : World) → Starts v w → RunsLocked v w es u →
    u.flight ≡ [] → AllFollow v.shards u.records u.book.list
run_follows v w es u st run none = λ s below.
    sym (ap (λ (ps : List Part). record_at u.records s ++ waiting s ps) none ∙ append-nil (record_at u.records s))
    ∙ (order-run v es w u run (order-start v w st)).follow s below

-- the parts of one batch delivered in turn
deliver-all : (v : Setting) (book : Accepted) (records : List (List Submission)) (ps : List Part) →
    (u : World) × (RunsLocked v (world book records ps) (deliveries ps) u × (u.book ≡ book) × (u.flight ≡ []))
deliver-all v book records [] = (world book records [], (refl, refl, refl))
deliver-all v book records (p ∷ ps) =
    let next = world book (append_at records p.shard p.batch) ps in
    let rest = deliver-all v book (append_at records p.shard p.batch) ps in
    let step : Delivers (world book records (p ∷ ps)) p.batch p.shard next = record {
      before = [];
      behind = ps;
      was = refl;
      now = refl;
    } in
    (rest.0, ((next, (step, rest.1.0)), rest.1.1, rest.1.2))

-- a batch that is put alone: its admission and the deliveries of its parts are a locked run, which ends with nothing in
-- flight
pub put_is_run : (v : Setting) (w : World) (b : Submission) → Starts v w → verdict_in v w.book b ≡ Fresh
    → (u : World) × (RunsLocked v w (Admit b ∷ deliveries (parts_for b v.shards v.shards)) u ×
    (u.book ≡ with_batch w.book b) × (u.flight ≡ []))
put_is_run v w b st fresh =
    let k = v.shards in
    let ps = parts_for b k k in
    let next = world (with_batch w.book b) w.records ps in
    let rest = deliver-all v (with_batch w.book b) w.records ps in
    let admit : Admits v w b next = record {
      fresh = fresh;
      now = ap (λ (fl : List Part). world (with_batch w.book b) w.records (fl ++ ps)) (sym st.flight);
    } in
    let free : FindsFree k b w.flight = subst (FindsFree k b) (sym st.flight) tt in
    (rest.0, ((next, ((free, admit), rest.1.0)), rest.1.1, rest.1.2))
