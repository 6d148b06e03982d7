-- What a shard's fields come to.
use Rattle.std.proofs.lemmas.Bool.{or_parts}
use Rattle.std.proofs.Common.{◌≡◌, ℕ, zero, suc, ◌+◌, ◌<◌, ◌≤◌, Bool, true, false, cond, eqb, ◌&&◌, ◌||◌, List, [], ◌∷◌}
use Rattle.std.proofs.Common.{◌++◌, length, replicate, Option, None, Some, is_some, refl, sym, ◌∙◌, ap, subst, arith}
use Rattle.std.specs.List.{AllByRecursion}
use Rattle.std.specs.Arc.{arc_value}
use Rattle.std.specs.declared.sync.Arc.{Arc}
use Rattle.std.specs.declared.alloc.Global.{Global}
use Rattle.std.specs.FinMap.{empty}
use Rattle.std.specs.Map.{lookup}
use Rattle.std.proofs.lemmas.List.{map-append, length-map, length-append}
use Rattle.hyper_matrix.specs.Counts.{Counts, ewise_add, total, part}
use Rattle.hyper_matrix.specs.Matrix.{Matrix, matrix}
use Rattle.hyper_matrix.proofs.CountLaws.{ewise_add_assoc, ewise_add-empty, total-ewise_add, total-empty}
use Rattle.layer_compaction.specs.Shared.{content}
use Rattle.layer_cascade.specs.Cascade.{cascade, KeepsCuts}
use Rattle.layer_cascade.specs.Layering.{Layering, layering, no_layers, layers_on}
use Rattle.layer_cascade.proofs.CascadeLaws.{content-cascade, cuts-cascade, length-cascade}
use Rattle.layer_cascade.proofs.KeptLemmas.{cuts-replicate, content-on, cuts-on, length-on}
use Rattle.layer_compaction.proofs.LayerLemmas.{empty-ewise_add}
use Rattle.batch_store.specs.declared.pair.Pair.{Pair}
use Rattle.batch_store.specs.declared.verdict.Entry.{Entry}
use Rattle.batch_store.specs.Setups.{Setting, IsSetting}
use Rattle.batch_store.specs.Batches.{Submission, entry_of, entries_of}
use Rattle.batch_store.specs.Verdicts.{same_pair}
use Rattle.batch_store.specs.Parts.{part_of, parts_of, record_content}
use Rattle.batch_store.specs.Books.{same_key}
use Rattle.batch_store.specs.Shards.{Holding, holding, Preparation, shard_total, AreHeld, stands, IsReady, recorded}
use Rattle.batch_store.specs.Shards.{AreKeyed, KeepsShard}
use Rattle.batch_store.proofs.VerdictLaws.{distinct_nil, distinct_push, same_pair_flips}
use Rattle.batch_store.proofs.BookLaws.{dims_push}
use Rattle.batch_store.proofs.SumLaws.{part-empty, record-own}

abbrev pub Held : Type 0
Held = List (Pair × Arc Submission Global)

-- empty layers hold nothing
content-empty : (n : ℕ) → content (replicate n empty) ≡ empty
content-empty zero = refl
content-empty (suc n) = empty-ewise_add (content (replicate n empty)) ∙ content-empty n

-- one matrix more at the end
pub content-push : (ms : List Counts) (m : Counts) → content (ms ++ m ∷ []) ≡ ewise_add (content ms) m
content-push [] m = ewise_add-empty m ∙ sym (empty-ewise_add m)
content-push (x ∷ xs) m = ap (ewise_add x) (content-push xs m) ∙ sym (ewise_add_assoc x (content xs) m)

-- one batch more adds its part
pub record_content-push : (s k : ℕ) (base : Counts) (list : List Submission) (b : Submission) →
    record_content s k base (list ++ b ∷ []) ≡ ewise_add (record_content s k base list) (part b.matrix.counts s k)
record_content-push s k base list b =
    ap (λ ms. ewise_add base (content ms)) (map-append (λ (x : Submission). part x.matrix.counts s k) list (b ∷ []))
    ∙ ap (ewise_add base) (content-push (parts_of s k list) (part b.matrix.counts s k))
    ∙ sym (ewise_add_assoc base (content (parts_of s k list)) (part b.matrix.counts s k))

-- the key that is looked up stands among the batches, or not
pub stands_is : (p : Pair) (client number : ℕ) (held : Held) → p.client ≡ client → p.number ≡ number → AreKeyed held →
    is_some (lookup (same_key p) held) ≡ stands client number (recorded held)
stands_is p client number [] c n h = refl
stands_is p client number (e ∷ es) c n h =
    (λ i. is_some (cond (eqb (c i) (h.0 i) && eqb (n i) (h.1 i)) (Some e.1) (lookup (same_key p) es)))
    ∙ by (eqb client (arc_value e.1).client && eqb number (arc_value e.1).number) (stands_is p client number es c n h.2)
  where
    by : (b : Bool) → is_some (lookup (same_key p) es) ≡ stands client number (recorded es) →
        is_some (cond b (Some e.1) (lookup (same_key p) es)) ≡ (b || stands client number (recorded es))
    by true rest = refl
    by false rest = rest

no_value : {X : Type 0} (o : Option X) → is_some o ≡ false → o ≡ None
no_value None h = refl
no_value (Some x) h = cc

pub none_stands : (b : Submission) (list : List Submission) → stands b.client b.number list ≡ false →
    AllByRecursion (λ (e : Entry). same_pair e (entry_of b) ≡ false) (entries_of list)
none_stands b [] h = tt
none_stands b (x ∷ xs) h =
    let p = or_parts (eqb b.client x.client && eqb b.number x.number) (stands b.client b.number xs) h in
    (same_pair_flips (entry_of x) (entry_of b) ∙ p.0, none_stands b xs p.1)

keyed_push : (held : Held) (e : Pair × Arc Submission Global) → AreKeyed held → e.0.client ≡ (arc_value e.1).client →
    e.0.number ≡ (arc_value e.1).number → AreKeyed (held ++ e ∷ [])
keyed_push [] e h c n = (c, n, tt)
keyed_push (x ∷ xs) e h c n = (h.0, h.1, keyed_push xs e h.2 c n)

-- empty layers keep any cuts
abbrev no_layer : Counts
no_layer = empty

count_none : (n : ℕ) → length (replicate n no_layer) ≡ n
count_none zero = refl
count_none (suc n) = ap suc (count_none n)

-- a shard of a base alone, which its layers hold
begins : (v : Setting) (s : ℕ) (ls : List Counts) (b : Counts) (base : Matrix) → IsSetting v → s < v.shards → base.rows ≡ v.rows →
    base.cols ≡ v.cols → part base.counts s v.shards ≡ base.counts → total base.counts ≤ v.limit →
    content ls ≡ base.counts → KeepsCuts ls v.cuts → length ls ≡ length v.cuts + 1 →
    KeepsShard v s (layering v.rows v.cols v.cuts ls b) base []
begins v s ls b base sound here rows cols own within held kept count = record {
  told = record {
    sound = sound;
    here = here;
    sums = held ∙ sym (ewise_add-empty base.counts);
    own = own;
    cuts_kept = kept;
    distinct = distinct_nil;
    dims = tt;
    within = omega (arith, ap total held, within);
  };
  base_rows = rows;
  base_cols = cols;
  rows = refl;
  cols = refl;
  cuts = refl;
  count = count;
  keyed = tt;
  few = omega arith;
}

-- a shard without batches
pub shard_begins : (v : Setting) (s : ℕ) (layers : Layering) (base : Matrix) → IsSetting v → s < v.shards →
    layers ≡ no_layers v.rows v.cols v.cuts → base ≡ matrix v.rows v.cols empty → KeepsShard v s layers base []
shard_begins v s layers base sound here is based =
    subst (λ (l : Layering). KeepsShard v s l base []) (sym is)
    (subst (λ (m : Matrix). KeepsShard v s (no_layers v.rows v.cols v.cuts) m []) (sym based)
    (begins v s (replicate (length v.cuts + 1) empty) empty (matrix v.rows v.cols empty) sound here refl refl
    (part-empty s v.shards) (omega (arith, total-empty)) (content-empty (length v.cuts + 1))
    (cuts-replicate (length v.cuts + 1) v.cuts) (count_none (length v.cuts + 1))))

-- a shard of a base
pub shard_based : (v : Setting) (s : ℕ) (layers : Layering) (base : Matrix) → IsSetting v → s < v.shards →
    base.rows ≡ v.rows → base.cols ≡ v.cols → part base.counts s v.shards ≡ base.counts → total base.counts ≤ v.limit →
    layers ≡ layers_on v.rows v.cols v.cuts base.counts → KeepsShard v s layers base []
shard_based v s layers base sound here rows cols own within is =
    let n = length v.cuts in
    subst (λ (l : Layering). KeepsShard v s l base []) (sym is)
    (begins v s (replicate n empty ++ base.counts ∷ []) base.counts base sound here rows cols own within
    (content-on n base.counts) (cuts-on v.cuts base.counts) (length-on n base.counts))

-- a shard whose layers were handed down
pub shard_handed : (v : Setting) (s : ℕ) (layers after : Layering) (base : Matrix) (held : Held) →
    KeepsShard v s layers base held → after ≡ layers_on layers.rows layers.cols layers.cuts (content layers.layers) →
    KeepsShard v s after base held
shard_handed v s layers after base held keeps is =
    let h = keeps.told in
    let all = content layers.layers in
    let same : after ≡ layers_on v.rows v.cols v.cuts all =
    is ∙ (λ i. layers_on (keeps.rows i) (keeps.cols i) (keeps.cuts i) all) in
    subst (λ (l : Layering). KeepsShard v s l base held) (sym same) (record {
      told = record {
        sound = h.sound;
        here = h.here;
        sums = content-on (length v.cuts) all ∙ h.sums;
        own = h.own;
        cuts_kept = cuts-on v.cuts all;
        distinct = h.distinct;
        dims = h.dims;
        within = omega (arith, h.within, ap total (content-on (length v.cuts) all));
      };
      base_rows = keeps.base_rows;
      base_cols = keeps.base_cols;
      rows = refl;
      cols = refl;
      cuts = refl;
      count = length-on (length v.cuts) all;
      keyed = keeps.keyed;
      few = keeps.few;
    })

-- a shard whose base is what its layers hold
pub shard_rebased : (v : Setting) (s free : ℕ) (layers : Layering) (base new : Matrix) (held none : Held)
    (x : Holding) → KeepsShard v s layers base held →
    holding v s layers.layers layers.below base.counts (recorded held) free ≡ x →
    new ≡ matrix x.setup.rows x.setup.cols (content x.layers) → none ≡ [] → KeepsShard v s layers new none
shard_rebased v s free layers base new held none x keeps view is nothing =
    let is' : new ≡ matrix v.rows v.cols (content layers.layers) =
    is ∙ sym (ap (λ (y : Holding). matrix y.setup.rows y.setup.cols (content y.layers)) view) in
    let h = keeps.told in
    let counts = ap (λ (m : Matrix). m.counts) is' in
    subst (KeepsShard v s layers new) (sym nothing) (record {
      told = record {
        sound = h.sound;
        here = h.here;
        sums = sym counts ∙ sym (ewise_add-empty new.counts);
        own = ap (λ (m : Counts). part m s v.shards) (counts ∙ h.sums)
            ∙ record-own s v.shards base.counts (recorded held) h.own ∙ sym (counts ∙ h.sums);
        cuts_kept = h.cuts_kept;
        distinct = distinct_nil;
        dims = tt;
        within = h.within;
      };
      base_rows = ap (λ (m : Matrix). m.rows) is';
      base_cols = ap (λ (m : Matrix). m.cols) is';
      rows = keeps.rows;
      cols = keeps.cols;
      cuts = keeps.cuts;
      count = keeps.count;
      keyed = tt;
      few = omega arith;
    })

-- the record after a batch that wasn't there
pub held_push : (s : Setting) (n : ℕ) (layers : List Counts) (base : Counts) (list : List Submission)
    (b : Submission) → AreHeld s n layers base list → length layers ≡ length s.cuts + 1 → stands b.client b.number list ≡ false →
    b.matrix.rows ≡ s.rows → b.matrix.cols ≡ s.cols
    → total (content layers) + part_of n s.shards b.matrix.counts ≤ s.limit →
    AreHeld s n (cascade layers s.cuts (part b.matrix.counts n s.shards)) base (list ++ b ∷ [])
held_push s n layers base list b h count absent rows cols fits =
    let m = part b.matrix.counts n s.shards in
    let added = content-cascade layers s.cuts m count in
    let more : entries_of (list ++ b ∷ []) ≡ entries_of list ++ entry_of b ∷ [] = map-append entry_of list (b ∷ []) in
    record {
      sound = h.sound;
      here = h.here;
      sums = added ∙ ap (λ x. ewise_add x m) h.sums ∙ sym (record_content-push n s.shards base list b);
      own = h.own;
      cuts_kept = cuts-cascade layers s.cuts m h.cuts_kept;
      distinct = rw more (distinct_push (entries_of list) (entry_of b) h.distinct (none_stands b list absent));
      dims = dims_push s.rows s.cols list b h.dims rows cols;
      within = omega (arith, ap total added, total-ewise_add (content layers) m, fits);
    }

module _ (s : Setting) (n free : ℕ) (layers : Layering) (base : Matrix) (held : Held) (v : Holding)
    (keeps : KeepsShard s n layers base held)
    (view : holding s n layers.layers layers.below base.counts (recorded held) free ≡ v) where
  -- a pair that isn't in the record is under no key
  pub absent_held : (p : Pair) (q : Preparation) → p.client ≡ q.batch.client → p.number ≡ q.batch.number →
      stands q.batch.client q.batch.number v.record_list ≡ false → lookup (same_key p) held ≡ None
  absent_held p q client number absent =
      no_value (lookup (same_key p) held) (stands_is p q.batch.client q.batch.number held client number keeps.keyed
      ∙ ap (λ (w : Holding). stands q.batch.client q.batch.number w.record_list) view ∙ absent)

  -- what the shard will keep once a preparation is put in place
  pub held_after : (q : Preparation) → IsReady v q → AreHeld v.setup v.number
      (cascade v.layers v.setup.cuts (part q.batch.matrix.counts v.number v.setup.shards)) v.base
      (v.record_list ++ q.batch ∷ [])
  held_after q ready =
      let r = subst (λ (w : Holding). IsReady w q) (sym view) ready in
      subst (λ (w : Holding). AreHeld w.setup w.number
      (cascade w.layers w.setup.cuts (part q.batch.matrix.counts w.number w.setup.shards)) w.base
      (w.record_list ++ q.batch ∷ [])) view
      (held_push s n layers.layers base.counts (recorded held) q.batch keeps.told keeps.count r.absent r.rows r.cols
      (omega (arith, r.fits, r.amount)))

  -- the shard after a preparation was put in place
  module _ (q : Preparation) (ready : IsReady v q) (after plan : Layering) (told : plan ≡ q.planned)
      (is : after ≡ plan) where
    ready_now : IsReady (holding s n layers.layers layers.below base.counts (recorded held) free) q
    ready_now = subst (λ (w : Holding). IsReady w q) (sym view) ready

    after_is : after ≡ layering s.rows s.cols s.cuts
        (cascade layers.layers s.cuts (part q.batch.matrix.counts n s.shards)) layers.below
    after_is = is ∙ told ∙ ready_now.planned

    pub below_committed : after.below ≡ layers.below
    below_committed = ap (λ (l : Layering). l.below) after_is

    pub total_committed : total (content after.layers) ≡ shard_total v + q.amount
    total_committed =
        let m = part q.batch.matrix.counts n s.shards in
        ap (λ (l : Layering). total (content l.layers)) after_is
        ∙ ap total (content-cascade layers.layers s.cuts m keeps.count)
        ∙ total-ewise_add (content layers.layers) m
        ∙ ap (λ (k : ℕ). total (content layers.layers) + k) (sym ready_now.amount)
        ∙ ap (λ (w : Holding). shard_total w + q.amount) view

    pub keeps_committed : (held' : Held) (p : Pair) (batch : Arc Submission Global) → arc_value batch ≡ q.batch →
        p.client ≡ q.batch.client → p.number ≡ q.batch.number → held' ≡ held ++ (p, batch) ∷ [] →
        KeepsShard s n after base held'
    keeps_committed held' p batch same client number more =
        let r = ready_now in
        let list : recorded held' ≡ recorded held ++ q.batch ∷ [] = ap recorded more
        ∙ map-append (λ (e : Pair × Arc Submission Global). arc_value e.1) held ((p, batch) ∷ [])
        ∙ ap (λ (b : Submission). recorded held ++ b ∷ []) same in
        let layers' = ap (λ (l : Layering). l.layers) after_is in
        record {
          told = subst (λ (bs : List Submission). AreHeld s n after.layers base.counts bs) (sym list)
              (subst (λ (l : List Counts). AreHeld s n l base.counts (recorded held ++ q.batch ∷ [])) (sym layers')
              (held_push s n layers.layers base.counts (recorded held) q.batch keeps.told keeps.count r.absent r.rows r.cols
              (omega (arith, r.fits, r.amount))));
          base_rows = keeps.base_rows;
          base_cols = keeps.base_cols;
          rows = ap (λ (l : Layering). l.rows) after_is;
          cols = ap (λ (l : Layering). l.cols) after_is;
          cuts = ap (λ (l : Layering). l.cuts) after_is;
          count = ap length layers' ∙ length-cascade layers.layers s.cuts (part q.batch.matrix.counts n s.shards)
              ∙ keeps.count;
          keyed = subst AreKeyed (sym more) (keyed_push held (p, batch) keeps.keyed (client
              ∙ sym (ap (λ (b : Submission). b.client) same)) (number ∙ sym (ap (λ (b : Submission). b.number) same)));
          few = omega (
            arith,
            r.few,
            ap length more,
            length-append held ((p, batch) ∷ []),
            length-map held (λ (e : Pair × Arc Submission Global). arc_value e.1),
          );
        }
