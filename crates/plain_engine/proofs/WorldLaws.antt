-- What every lawful run keeps.
use Rattle.std.proofs.Common.{◌≡◌, ℕ, zero, suc, ◌+◌, ◌<◌, ◌≤◌, inl, inr, Bool, true, false, cond, eqb, ◌&&◌, List, []}
use Rattle.std.proofs.Common.{◌∷◌, ◌++◌, length, refl, sym, ◌∙◌, ap, subst, arith}
use Rattle.std.specs.List.{IsDistinct, AllByRecursion}
use Rattle.std.proofs.lemmas.Bool.{cases_lt}
use Rattle.std.proofs.lemmas.Bool.Decides.{nat_tests}
use Rattle.hyper_matrix.specs.Counts.{Counts, ewise_add, part, parts}
use Rattle.hyper_matrix.proofs.CountLaws.{ewise_add-empty, ewise_add_comm, ewise_add_assoc, parts_whole}
use Rattle.layer_compaction.proofs.LayerLemmas.{empty-ewise_add}
use Rattle.batch_store.specs.declared.verdict.Entry.{Entry}
use Rattle.batch_store.specs.declared.verdict.Verdict.TheVariants.{Fresh}
use Rattle.batch_store.specs.Setups.{Setting}
use Rattle.batch_store.specs.Batches.{Submission, entry_of, entries_of}
use Rattle.batch_store.specs.Verdicts.{same_pair}
use Rattle.batch_store.specs.Accepted.{Accepted, entries_in, with_batch, summed}
use Rattle.batch_store.specs.Parts.{concerns, record_content, concerned}
use Rattle.batch_store.specs.Books.{AreDistinct}
use Rattle.batch_store.proofs.VerdictLaws.{fresh_is, none_same, distinct_push}
use Rattle.batch_store.proofs.ShardLaws.{record_content-push}
use Rattle.batch_store.proofs.BookLaws.{entries-with}
use Rattle.batch_store.proofs.SumLaws.{summed-with, record-whole}
use Rattle.plain_engine.specs.Object.{verdict_in}
use Rattle.plain_engine.specs.World.{Part, World, Event, part_for, parts_for, record_at, append_at, Delivers, Admits}
use Rattle.plain_engine.specs.World.{Runs, AllFollow, Starts, records_content, flight_content}
use Rattle.plain_engine.specs.World.Event.{Admit, Deliver}
use Rattle.plain_engine.proofs.SumLaws.{move_middle}
use Rattle.batch_store.proofs.PartLaws.{part-unconcerned}

-- == The sums

pub flight_content-append : (k : ℕ) (xs ys : List Part) →
    flight_content k (xs ++ ys) ≡ ewise_add (flight_content k xs) (flight_content k ys)
flight_content-append k [] ys = sym (empty-ewise_add (flight_content k ys))
flight_content-append k (p ∷ ps) ys =
    let m = part p.batch.matrix.counts p.shard k in
    ap (ewise_add m) (flight_content-append k ps ys)
    ∙ sym (ewise_add_assoc m (flight_content k ps) (flight_content k ys))

-- the parts of a batch for the first n shards are its parts
flight_content-parts_for : (b : Submission) (k n : ℕ) → flight_content k (parts_for b k n) ≡ parts b.matrix.counts n k
flight_content-parts_for b k zero = refl
flight_content-parts_for b k (suc n) = by (concerns n k b.matrix.counts) refl (flight_content-parts_for b k n)
  where
    by : (x : Bool) → concerns n k b.matrix.counts ≡ x →
        flight_content k (parts_for b k n) ≡ parts b.matrix.counts n k →
        flight_content k (cond x (parts_for b k n ++ part_for b n ∷ []) (parts_for b k n)) ≡ ewise_add
        (parts b.matrix.counts n k) (part b.matrix.counts n k)
    by true is rest =
        flight_content-append k (parts_for b k n) (part_for b n ∷ [])
        ∙ ap (ewise_add (flight_content k (parts_for b k n))) (ewise_add-empty (part b.matrix.counts n k))
        ∙ ap (λ (m : Counts). ewise_add m (part b.matrix.counts n k)) rest
    by false is rest =
        rest ∙ sym (ewise_add-empty (parts b.matrix.counts n k))
        ∙ ap (ewise_add (parts b.matrix.counts n k)) (sym (part-unconcerned n k b.matrix.counts is))

-- a batch more in record s adds its part
records_content-append_at : (i k : ℕ) (base : Counts) (rs : List (List Submission)) (s : ℕ) (b : Submission) →
    s < length rs →
    records_content i k base (append_at rs s b) ≡ ewise_add (records_content i k base rs) (part b.matrix.counts (i + s) k)
records_content-append_at i k base [] s b h = absurd (omega arith)
records_content-append_at i k base (r ∷ rs) zero b h =
    let rest = records_content (i + 1) k base rs in
    let m = part b.matrix.counts i k in
    let own = record_content i k (part base i k) r in
    ap (λ (c : Counts). ewise_add c rest) (record_content-push i k (part base i k) r b)
    ∙ ewise_add_assoc own m rest ∙ ap (ewise_add own) (ewise_add_comm m rest) ∙ sym (ewise_add_assoc own rest m)
    ∙ ap (λ (n : ℕ). ewise_add (ewise_add own rest) (part b.matrix.counts n k)) {x = i} {y = i + 0} (omega arith)
records_content-append_at i k base (r ∷ rs) (suc s) b h =
    let own = record_content i k (part base i k) r in
    let rest = records_content (i + 1) k base rs in
    ap (ewise_add own) (records_content-append_at (i + 1) k base rs s b (omega arith))
    ∙ sym (ewise_add_assoc own rest (part b.matrix.counts ((i + 1) + s) k))
    ∙ ap (λ (n : ℕ). ewise_add (ewise_add own rest) (part b.matrix.counts n k)) {x = (i + 1) + s} {y = i + suc s}
    (omega arith)

pub length-append_at : (rs : List (List Submission)) (s : ℕ) (b : Submission) → length (append_at rs s b) ≡ length rs
length-append_at [] s b = refl
length-append_at (r ∷ rs) zero b = refl
length-append_at (r ∷ rs) (suc s) b = ap suc (length-append_at rs s b)

-- records that follow what was accepted have its parts
records_content-follow : (i k : ℕ) (rs : List (List Submission)) (a : Accepted) →
    ((s : ℕ) → s < length rs → record_at rs s ≡ concerned (i + s) k a.list)
    → ewise_add (parts (summed a) i k) (records_content i k a.base rs) ≡ parts (summed a) (i + length rs) k
records_content-follow i k [] a h =
    ewise_add-empty (parts (summed a) i k) ∙ ap (λ (n : ℕ). parts (summed a) n k) {x = i} {y = i + 0} (omega arith)
records_content-follow i k (r ∷ rs) a h =
    let m = summed a in
    let own = record_content i k (part a.base i k) r in
    let here : own ≡ part m i k =
    ap (record_content i k (part a.base i k)) (h 0 (omega arith) ∙ ap (λ (n : ℕ). concerned n k a.list) {x = i + 0}
    {y = i} (omega arith)) ∙ record-whole i k a in
    let next : (s : ℕ) → s < length rs → record_at rs s ≡ concerned ((i + 1) + s) k a.list =
    λ s below. h (suc s) (omega arith) ∙ ap (λ (n : ℕ). concerned n k a.list) {x = i + suc s} {y = (i + 1) + s}
    (omega arith) in
    sym (ewise_add_assoc (parts m i k) own (records_content (i + 1) k a.base rs))
    ∙ ap (λ (c : Counts). ewise_add (ewise_add (parts m i k) c) (records_content (i + 1) k a.base rs)) here
    ∙ ap (λ (n : ℕ). ewise_add (parts m n k) (records_content (i + 1) k a.base rs)) {x = suc i} {y = i + 1}
    (omega arith)
    ∙ records_content-follow (i + 1) k rs a next
    ∙ ap (λ (n : ℕ). parts m n k) {x = (i + 1) + length rs} {y = i + suc (length rs)} (omega arith)

pub records_content-whole : (k : ℕ) (rs : List (List Submission)) (a : Accepted) → 0 < k → length rs ≡ k →
    AllFollow k rs a.list → records_content 0 k a.base rs ≡ summed a
records_content-whole k rs a pos count follow =
    let at : (s : ℕ) → s < length rs → record_at rs s ≡ concerned (0 + s) k a.list = λ s below. follow s (omega arith)
    ∙ ap (λ (n : ℕ). concerned n k a.list) {x = s} {y = 0 + s} (omega arith) in
    sym (empty-ewise_add (records_content 0 k a.base rs))
    ∙ records_content-follow 0 k rs a at
    ∙ ap (λ (n : ℕ). parts (summed a) n k) {x = 0 + length rs} {y = k} (omega arith)
    ∙ parts_whole (summed a) k pos

-- each part in flight is for one of n shards
abbrev AreBelow : ℕ → List Part → Type 0
AreBelow n [] = Unit {0}
AreBelow n (p ∷ ps) = (p.shard < n) × AreBelow n ps

below-append : (n : ℕ) (xs ys : List Part) → AreBelow n xs → AreBelow n ys → AreBelow n (xs ++ ys)
below-append n [] ys h g = g
below-append n (p ∷ ps) ys h g = (h.0, below-append n ps ys h.1 g)

below-split : (n : ℕ) (xs : List Part) (p : Part) (ys : List Part) → AreBelow n (xs ++ p ∷ ys) → (p.shard < n) ×
    AreBelow n (xs ++ ys)
below-split n [] p ys h = (h.0, h.1)
below-split n (x ∷ xs) p ys h =
    let rest = below-split n xs p ys h.1 in
    (rest.0, (h.0, rest.1))

below-parts_for : (b : Submission) (k n m : ℕ) → m ≤ n → AreBelow n (parts_for b k m)
below-parts_for b k n zero h = tt
below-parts_for b k n (suc m) h = by (concerns m k b.matrix.counts) (below-parts_for b k n m (omega arith))
  where
    by : (x : Bool) → AreBelow n (parts_for b k m) →
        AreBelow n (cond x (parts_for b k m ++ part_for b m ∷ []) (parts_for b k m))
    by true rest = below-append n (parts_for b k m) (part_for b m ∷ []) rest (omega arith, tt)
    by false rest = rest

-- what a run keeps of the sums
pub record Agrees (v : Setting) (w : World) : Type 0 where
  pub count : length w.records ≡ v.shards
  pub below : AreBelow v.shards w.flight
  pub sums : summed w.book ≡ ewise_add (records_content 0 v.shards w.book.base w.records) (flight_content v.shards w.flight)

agrees-start : (v : Setting) (w : World) → Starts v w → Agrees v w
agrees-start v w st = record {
  count = st.count;
  below = subst (AreBelow v.shards) (sym st.flight) tt;
  sums =
      sym (records_content-whole v.shards w.records w.book st.some st.count st.follow)
      ∙ sym (ewise_add-empty (records_content 0 v.shards w.book.base w.records))
      ∙ ap (λ (ps : List Part). ewise_add (records_content 0 v.shards w.book.base w.records) (flight_content v.shards ps))
      (sym st.flight);
}

agrees-admit : (v : Setting) (w : World) (b : Submission) (u : World) → 0 < v.shards → Admits v w b u → Agrees v w →
    Agrees v u
agrees-admit v w b u pos a inv =
    let k = v.shards in
    let rs = records_content 0 k w.book.base w.records in
    let fl = flight_content k w.flight in
    let m = b.matrix.counts in
    let own : flight_content k (parts_for b k k) ≡ m = flight_content-parts_for b k k ∙ parts_whole m k pos in
    subst (λ (x : World). Agrees v x) (sym a.now) (record {
      count = inv.count;
      below = below-append k w.flight (parts_for b k k) inv.below (below-parts_for b k k k (omega arith));
      sums =
          summed-with w.book b ∙ ap (λ (c : Counts). ewise_add c m) inv.sums ∙ ewise_add_assoc rs fl m
          ∙ ap (ewise_add rs) (ap (ewise_add fl) (sym own) ∙ sym (flight_content-append k w.flight (parts_for b k k)));
    })

agrees-deliver : (v : Setting) (w : World) (b : Submission) (s : ℕ) (u : World) → Delivers w b s u → Agrees v w →
    Agrees v u
agrees-deliver v w b s u d inv =
    let k = v.shards in
    let rs = records_content 0 k w.book.base w.records in
    let m = part b.matrix.counts s k in
    let fst = flight_content k d.before in
    let snd = flight_content k d.behind in
    let there = below-split k d.before (part_for b s) d.behind (subst (AreBelow k) d.was inv.below) in
    let flight : flight_content k w.flight ≡ ewise_add fst (ewise_add m snd) = ap (flight_content k) d.was
    ∙ flight_content-append k d.before (part_for b s ∷ d.behind) in
    let grown : records_content 0 k w.book.base (append_at w.records s b) ≡ ewise_add rs m =
    records_content-append_at 0 k w.book.base w.records s b (omega (arith, there.0, inv.count))
    ∙ ap (λ (n : ℕ). ewise_add rs (part b.matrix.counts n k)) {x = 0 + s} {y = s} (omega arith) in
    subst (λ (x : World). Agrees v x) (sym d.now) (record {
      count = length-append_at w.records s b ∙ inv.count;
      below = there.1;
      sums =
          inv.sums ∙ ap (ewise_add rs) flight ∙ move_middle rs m fst snd
          ∙ ap (λ (c : Counts). ewise_add c (ewise_add fst snd)) (sym grown)
          ∙ ap (ewise_add (records_content 0 k w.book.base (append_at w.records s b)))
          (sym (flight_content-append k d.before d.behind));
    })

agrees-run : (v : Setting) (es : List Event) (w u : World) → 0 < v.shards → Runs v w es u → Agrees v w → Agrees v u
agrees-run v [] w u pos run inv = subst (λ (x : World). Agrees v x) (sym run) inv
agrees-run v (Admit b ∷ es) w u pos run inv =
    agrees-run v es run.0 u pos run.1.1 (agrees-admit v w b run.0 pos run.1.0 inv)
agrees-run v (Deliver b s ∷ es) w u pos run inv =
    agrees-run v es run.0 u pos run.1.1 (agrees-deliver v w b s run.0 run.1.0 inv)

pub run_agrees : (v : Setting) (w : World) (es : List Event) (u : World) → Starts v w → Runs v w es u → Agrees v u
run_agrees v w es u st run = agrees-run v es w u st.some run (agrees-start v w st)

pub run_lands : (v : Setting) (w : World) (es : List Event) (u : World) → Starts v w → Runs v w es u → u.flight ≡ [] →
    records_content 0 v.shards u.book.base u.records ≡ summed u.book
run_lands v w es u st run none =
    let rs = records_content 0 v.shards u.book.base u.records in
    sym ((run_agrees v w es u st run).sums ∙ ap (λ (ps : List Part). ewise_add rs (flight_content v.shards ps)) none
    ∙ ewise_add-empty rs)

-- == Distinct pairs, by counting

abbrev is_pair : ℕ → ℕ → Submission → Bool
is_pair c n b = eqb c b.client && eqb n b.number

abbrev one_if : Bool → ℕ
one_if true = 1
one_if false = 0

-- how often a pair stands in a list
abbrev pair_count : ℕ → ℕ → List Submission → ℕ
pair_count c n [] = 0
pair_count c n (b ∷ bs) = one_if (is_pair c n b) + pair_count c n bs

-- how often it is in flight for shard s
abbrev flight_count : ℕ → ℕ → ℕ → List Part → ℕ
flight_count c n s [] = 0
flight_count c n s (p ∷ ps) = one_if (eqb p.shard s && is_pair c n p.batch) + flight_count c n s ps

count-append : (c n : ℕ) (xs ys : List Submission) → pair_count c n (xs ++ ys) ≡ pair_count c n xs + pair_count c n ys
count-append c n [] ys = omega arith
count-append c n (x ∷ xs) ys = omega (arith, count-append c n xs ys)

flight-append : (c n s : ℕ) (xs ys : List Part) →
    flight_count c n s (xs ++ ys) ≡ flight_count c n s xs + flight_count c n s ys
flight-append c n s [] ys = omega arith
flight-append c n s (x ∷ xs) ys = omega (arith, flight-append c n s xs ys)

both_same : (a b c d : ℕ) → (eqb a c && eqb b d) ≡ true → (a ≡ c) × (b ≡ d)
both_same a b c d h = (grind (arith, nat_tests), grind (arith, nat_tests))

none_counted : (x : Submission) (xs : List Submission) →
    AllByRecursion (λ (e : Entry). same_pair (entry_of x) e ≡ false) (entries_of xs) →
    pair_count x.client x.number xs ≡ 0
none_counted x [] h = refl
none_counted x (y ∷ ys) h = omega (arith, ap one_if h.0, none_counted x ys h.1)

distinct_counted : (c n : ℕ) (list : List Submission) → AreDistinct list → pair_count c n list ≤ 1
unfolding IsDistinct
distinct_counted c n [] h = omega arith
distinct_counted c n (x ∷ xs) h = by (is_pair c n x) refl (distinct_counted c n xs h.1)
  where
    by : (t : Bool) → is_pair c n x ≡ t → pair_count c n xs ≤ 1 → one_if t + pair_count c n xs ≤ 1
    by true is rest =
        let p = both_same c n x.client x.number is in
        let none : pair_count c n xs ≡ 0 = (λ i. pair_count (p.0 i) (p.1 i) xs) ∙ none_counted x xs h.0 in
        omega (arith, none)
    by false is rest = omega (arith, rest)

zero_none : (t : Bool) (m : ℕ) → one_if t + m ≡ 0 → (t ≡ false) × (m ≡ 0)
zero_none true m h = absurd (omega arith)
zero_none false m h = (refl, omega arith)

counted_none : (x : Submission) (xs : List Submission) → pair_count x.client x.number xs ≡ 0 →
    AllByRecursion (λ (e : Entry). same_pair (entry_of x) e ≡ false) (entries_of xs)
counted_none x [] h = tt
counted_none x (y ∷ ys) h =
    let p = zero_none (is_pair x.client x.number y) (pair_count x.client x.number ys) h in
    (p.0, counted_none x ys p.1)

pair_itself : (x : Submission) → is_pair x.client x.number x ≡ true
pair_itself x = grind (arith, nat_tests)

counted_distinct : (list : List Submission) → ((c n : ℕ) → pair_count c n list ≤ 1) → AreDistinct list
unfolding IsDistinct
counted_distinct [] h = tt
counted_distinct (x ∷ xs) h =
    let own : pair_count x.client x.number xs ≡ 0 = omega (arith, h x.client x.number, ap one_if (pair_itself x)) in
    let rest : (c n : ℕ) → pair_count c n xs ≤ 1 = λ c n. omega (arith, h c n) in
    (counted_none x xs own, counted_distinct xs rest)

-- what was accepted has distinct pairs behind a fresh batch too
pub distinct-fresh : (v : Setting) (a : Accepted) (b : Submission) → IsDistinct same_pair (entries_in a) →
    verdict_in v a b ≡ Fresh → IsDistinct same_pair (entries_in (with_batch a b))
distinct-fresh v a b h fresh =
    subst (IsDistinct same_pair) (sym (entries-with a b))
    (distinct_push (entries_in a) (entry_of b) h
    (none_same (entry_of b) (entries_in a) (fresh_is v.limit v.max_batches (entries_in a) (entry_of b) fresh).new_pair))

-- so have those that aren't folded
pub distinct_behind : (es fs : List Entry) → IsDistinct same_pair (es ++ fs) → IsDistinct same_pair fs
unfolding IsDistinct
distinct_behind [] fs h = h
distinct_behind (e ∷ es) fs h = distinct_behind es fs h.1

-- the parts of one batch are for different shards
parts_none : (c n s : ℕ) (b : Submission) (k m : ℕ) → m ≤ s → flight_count c n s (parts_for b k m) ≡ 0
parts_none c n s b k zero h = refl
parts_none c n s b k (suc m) h = by (concerns m k b.matrix.counts) (parts_none c n s b k m (omega arith))
  where
    other : eqb m s ≡ false
    other = grind (arith, nat_tests)

    by : (x : Bool) → flight_count c n s (parts_for b k m) ≡ 0 →
        flight_count c n s (cond x (parts_for b k m ++ part_for b m ∷ []) (parts_for b k m)) ≡ 0
    by true rest = omega (
      arith,
      flight-append c n s (parts_for b k m) (part_for b m ∷ []),
      ap (λ (t : Bool). one_if (t && is_pair c n b)) other,
      rest,
    )
    by false rest = rest

parts_once : (c n s : ℕ) (b : Submission) (k m : ℕ) → flight_count c n s (parts_for b k m) ≤ one_if (is_pair c n b)
parts_once c n s b k zero = omega arith
parts_once c n s b k (suc m) = by (concerns m k b.matrix.counts) (parts_once c n s b k m)
  where
    here : (t : Bool) → eqb m s ≡ t → flight_count c n s (parts_for b k m) ≤ one_if (is_pair c n b) →
        flight_count c n s (parts_for b k m) + one_if (t && is_pair c n b) ≤ one_if (is_pair c n b)
    here true is rest =
        let same : m ≡ s = grind (arith, nat_tests) in
        omega (arith, parts_none c n s b k m (omega arith))
    here false is rest = omega (arith, rest)

    by : (x : Bool) → flight_count c n s (parts_for b k m) ≤ one_if (is_pair c n b) →
        flight_count c n s (cond x (parts_for b k m ++ part_for b m ∷ []) (parts_for b k m)) ≤ one_if (is_pair c n b)
    by true rest = omega (arith, flight-append c n s (parts_for b k m) (part_for b m ∷ []), here (eqb m s) refl rest)
    by false rest = rest

pub record_at-same : (rs : List (List Submission)) (s : ℕ) (b : Submission) → s < length rs →
    record_at (append_at rs s b) s ≡ record_at rs s ++ b ∷ []
record_at-same [] s b h = absurd (omega arith)
record_at-same (r ∷ rs) zero b h = refl
record_at-same (r ∷ rs) (suc s) b h = record_at-same rs s b (omega arith)

pub record_at-other : (rs : List (List Submission)) (s t : ℕ) (b : Submission) → (s ≡ t → ⊥) →
    record_at (append_at rs s b) t ≡ record_at rs t
record_at-other [] s t b h = refl
record_at-other (r ∷ rs) zero zero b h = absurd (h refl)
record_at-other (r ∷ rs) zero (suc t) b h = refl
record_at-other (r ∷ rs) (suc s) zero b h = refl
record_at-other (r ∷ rs) (suc s) (suc t) b h = record_at-other rs s t b (λ e. h (ap suc e))

-- a batch more in record s, counted in record t
append_counted : (c n : ℕ) (rs : List (List Submission)) (s t : ℕ) (b : Submission) →
    pair_count c n (record_at (append_at rs s b) t) ≤ pair_count c n (record_at rs t) + one_if
    (eqb s t && is_pair c n b)
append_counted c n [] s t b = omega arith
append_counted c n (r ∷ rs) zero zero b = omega (arith, count-append c n r (b ∷ []))
append_counted c n (r ∷ rs) zero (suc t) b = omega arith
append_counted c n (r ∷ rs) (suc s) zero b = omega arith
append_counted c n (r ∷ rs) (suc s) (suc t) b =
    omega (arith, append_counted c n rs s t b, ap (λ (x : Bool). one_if (x && is_pair c n b)) (shift s t))
  where
    shift : (s t : ℕ) → eqb (suc s) (suc t) ≡ eqb s t
    shift s t = grind (arith, nat_tests)

-- no pair stands more often in a record and in flight for its shard than in the book's batches, where it stands once at
-- most
pub record AreCounted (w : World) : Type 0 where
  pub distinct : IsDistinct same_pair (entries_in w.book)
  pub counted : (c n s : ℕ) → pair_count c n (record_at w.records s) + flight_count c n s w.flight ≤ pair_count c n
      w.book.list

filter_counted : (c n s k : ℕ) (list : List Submission) → pair_count c n (concerned s k list) ≤ pair_count c n list
filter_counted c n s k [] = omega arith
filter_counted c n s k (b ∷ bs) = by (concerns s k b.matrix.counts) (filter_counted c n s k bs)
  where
    by : (x : Bool) → pair_count c n (concerned s k bs) ≤ pair_count c n bs →
        pair_count c n (cond x (b ∷ concerned s k bs) (concerned s k bs)) ≤ one_if (is_pair c n b) + pair_count c n bs
    by true rest = omega (arith, rest)
    by false rest = omega (arith, rest)

past_all : (rs : List (List Submission)) (s : ℕ) → length rs ≤ s → record_at rs s ≡ []
past_all [] s h = refl
past_all (r ∷ rs) zero h = absurd (omega arith)
past_all (r ∷ rs) (suc s) h = past_all rs s (omega arith)

counted-start : (v : Setting) (w : World) → Starts v w → AreCounted w
counted-start v w st = record {
  distinct = st.distinct;
  counted = λ c n s.
      let none : flight_count c n s w.flight ≡ 0 = ap (flight_count c n s) st.flight in
      elim (cases_lt s v.shards) [
        | inl below ↦ omega (arith, ap (pair_count c n) (st.follow s below), filter_counted c n s v.shards w.book.list, none)
        | inr above ↦ omega (arith, ap (pair_count c n) (past_all w.records s (omega (arith, st.count, above))), none)
      ];
}

counted-admit : (v : Setting) (w : World) (b : Submission) (u : World) → Admits v w b u → AreCounted w → AreCounted u
counted-admit v w b u a inv =
    subst AreCounted (sym a.now) (record {
      distinct = distinct-fresh v w.book b inv.distinct a.fresh;
      counted = λ c n s. omega (
        arith,
        inv.counted c n s,
        count-append c n w.book.list (b ∷ []),
        flight-append c n s w.flight (parts_for b v.shards v.shards),
        parts_once c n s b v.shards v.shards,
      );
    })

counted-deliver : (w : World) (b : Submission) (s : ℕ) (u : World) → Delivers w b s u → AreCounted w → AreCounted u
counted-deliver w b s u d inv =
    subst AreCounted (sym d.now) (record {
      distinct = inv.distinct;
      counted = λ c n t. omega (
        arith,
        inv.counted c n t,
        append_counted c n w.records s t b,
        ap (flight_count c n t) d.was,
        flight-append c n t d.before (part_for b s ∷ d.behind),
        flight-append c n t d.before d.behind,
      );
    })

counted-run : (v : Setting) (es : List Event) (w u : World) → Runs v w es u → AreCounted w → AreCounted u
counted-run v [] w u run inv = subst AreCounted (sym run) inv
counted-run v (Admit b ∷ es) w u run inv = counted-run v es run.0 u run.1.1 (counted-admit v w b run.0 run.1.0 inv)
counted-run v (Deliver b s ∷ es) w u run inv =
    counted-run v es run.0 u run.1.1 (counted-deliver w b s run.0 run.1.0 inv)

pub run_distinct : (v : Setting) (w : World) (es : List Event) (u : World) (s : ℕ) → Starts v w → Runs v w es u →
    AreDistinct (record_at u.records s)
run_distinct v w es u s st run =
    let inv = counted-run v es w u run (counted-start v w st) in
    counted_distinct (record_at u.records s) (λ c n. omega (
      arith,
      inv.counted c n s,
      distinct_counted c n u.book.list (distinct_behind u.book.folded (entries_of u.book.list) inv.distinct),
    ))
