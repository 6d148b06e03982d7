-- What a shard's fields come to where its record is sealed, and where the sealed front has gone into the base.
use Rattle.std.proofs.lemmas.List.Folds.{list_any-append}
use Rattle.std.proofs.lemmas.Option.{none-some, same_Some}
use Rattle.std.proofs.Common.{◌≡◌, ℕ, zero, suc, slice_get, ◌-◌, ◌+◌, ◌≤◌, Bool, true, false, cond, ◌||◌, true≢false, List, [], ◌∷◌, ◌++◌, length}
use Rattle.std.proofs.Common.{take, drop, replicate, Option, None, Some, is_some, IfSome, refl, sym, ◌∙◌, ap, subst, arith, length-append}
use Rattle.std.proofs.Common.{append-nil}
use Rattle.std.proofs.Math.Seq.{take-append_seam, drop-append_seam}
use Rattle.std.proofs.lemmas.List.{map-append, length-map}
use Rattle.std.specs.List.{IsDistinct}
use Rattle.std.specs.Map.{lookup}
use Rattle.std.specs.Arc.{arc_value}
use Rattle.std.specs.declared.sync.Arc.{Arc}
use Rattle.std.specs.declared.alloc.Global.{Global}
use Rattle.hyper_matrix.specs.Counts.{Counts, ewise_add, part}
use Rattle.hyper_matrix.specs.Matrix.{Matrix, matrix}
use Rattle.hyper_matrix.proofs.CountLaws.{ewise_add_assoc}
use Rattle.layer_compaction.specs.Shared.{content}
use Rattle.layer_compaction.specs.Due.{numbers_of}
use Rattle.layer_compaction.proofs.DueLemmas.{numbers_same}
use Rattle.layer_compaction.proofs.LayerLemmas.{empty-ewise_add}
use Rattle.layer_cascade.specs.Layering.{Layering, layers_on}
use Rattle.layer_cascade.proofs.KeptLemmas.{content-on}
use Rattle.std.specs.FinMap.{empty}
use Rattle.batch_store.specs.declared.pair.Pair.{Pair}
use Rattle.batch_store.specs.declared.verdict.Entry.{Entry}
use Rattle.batch_store.specs.Setups.{Setting}
use Rattle.batch_store.specs.Batches.{Submission, entry_of, entries_of}
use Rattle.batch_store.specs.Verdicts.{same_pair}
use Rattle.batch_store.specs.Parts.{parts_of, record_content}
use Rattle.batch_store.specs.Books.{same_key, HaveDims}
use Rattle.batch_store.specs.Shards.{Holding, holding, stands, recorded, AreKeyed, KeepsShard}
use Rattle.batch_store.specs.ShardFolds.{Seals, HandsDown, FoldsFront, IsSealed}
use Rattle.batch_store.proofs.SumLaws.{record-own}
use Rattle.batch_store.proofs.ShardLaws.{Held, stands_is}

-- ---- lists one behind another
pub content-append : (xs ys : List Counts) → content (xs ++ ys) ≡ ewise_add (content xs) (content ys)
content-append [] ys = sym (empty-ewise_add (content ys))
content-append (x ∷ xs) ys = ap (ewise_add x) (content-append xs ys) ∙ sym (ewise_add_assoc x (content xs) (content ys))

-- a record's content is that of what is behind its front, over a base that the front has gone into
pub record_content-append : (s k : ℕ) (base : Counts) (xs ys : List Submission) →
    record_content s k base (xs ++ ys) ≡ record_content s k (record_content s k base xs) ys
record_content-append s k base xs ys =
    ap (λ ms. ewise_add base (content ms)) (map-append (λ (x : Submission). part x.matrix.counts s k) xs ys)
    ∙ ap (ewise_add base) (content-append (parts_of s k xs) (parts_of s k ys))
    ∙ sym (ewise_add_assoc base (content (parts_of s k xs)) (content (parts_of s k ys)))

pub recorded-append : (xs ys : Held) → recorded (xs ++ ys) ≡ recorded xs ++ recorded ys
recorded-append xs ys = map-append (λ (e : Pair × Arc Submission Global). arc_value e.1) xs ys

pub length-recorded : (xs : Held) → length (recorded xs) ≡ length xs
length-recorded xs = length-map xs (λ (e : Pair × Arc Submission Global). arc_value e.1)

keyed_behind : (xs ys : Held) → AreKeyed (xs ++ ys) → AreKeyed ys
keyed_behind [] ys h = h
keyed_behind (x ∷ xs) ys h = keyed_behind xs ys h.2

keyed_front : (xs ys : Held) → AreKeyed (xs ++ ys) → AreKeyed xs
keyed_front [] ys h = tt
keyed_front (x ∷ xs) ys h = (h.0, h.1, keyed_front xs ys h.2)

pub dims_behind : (r c : ℕ) (xs ys : List Submission) → HaveDims r c (xs ++ ys) → HaveDims r c ys
dims_behind r c [] ys h = h
dims_behind r c (x ∷ xs) ys h = dims_behind r c xs ys h.2

distinct_behind : (xs ys : List Entry) → IsDistinct same_pair (xs ++ ys) → IsDistinct same_pair ys
unfolding IsDistinct
distinct_behind [] ys h = h
distinct_behind (x ∷ xs) ys h = distinct_behind xs ys h.1

pub lookup_behind : (p : Pair) (xs ys : Held) → lookup (same_key p) (xs ++ ys) ≡ None → lookup (same_key p) ys ≡ None
lookup_behind p [] ys h = h
lookup_behind p (x ∷ xs) ys h = by (same_key p x.0) (lookup_behind p xs ys) h
  where
    by : (b : Bool) → (lookup (same_key p) (xs ++ ys) ≡ None → lookup (same_key p) ys ≡ None) →
        cond b (Some x.1) (lookup (same_key p) (xs ++ ys)) ≡ None → lookup (same_key p) ys ≡ None
    by true rest h = cc
    by false rest h = rest h

-- ---- look-ups in both
module _ (v : Setting) (s : ℕ) (layers : Layering) (base : Matrix) (sealed held : Held)
    (keeps : KeepsShard v s layers base (sealed ++ held)) (p : Pair) (client number : ℕ)
    (c : p.client ≡ client) (n : p.number ≡ number) where
  pub stands_both : (is_some (lookup (same_key p) sealed) || is_some (lookup (same_key p) held)) ≡
      stands client number (recorded (sealed ++ held))
  stands_both =
      (λ i. stands_is p client number sealed c n (keyed_front sealed held keeps.keyed) i
      || stands_is p client number held c n (keyed_behind sealed held keeps.keyed) i)
      ∙ sym (list_any-append _ (recorded sealed) (recorded held))
      ∙ ap (stands client number) (sym (recorded-append sealed held))

pub found_front : (r a b : Bool) → r ≡ a → r ≡ true → r ≡ (a || b)
found_front r a b is found = found ∙ ap (λ x. x || b) (sym found ∙ is)

pub found_behind : (q r a b : Bool) → q ≡ a → q ≡ false → r ≡ b → r ≡ (a || b)
found_behind q r a b is none found = found ∙ ap (λ x. x || b) (sym none ∙ is)

-- ---- the batch at a place
get_behind : {X : Type 0} (xs ys : List X) (i j : ℕ) → i ≡ length xs + j → slice_get (xs ++ ys) i ≡ slice_get ys j
get_behind [] ys i j h = ap (slice_get ys) {x = i} {y = j} (omega (arith, h))
get_behind (x ∷ xs) ys zero j h = absurd (omega (arith, h))
get_behind (x ∷ xs) ys (suc i) j h = get_behind xs ys i j (omega (arith, h))

get_recorded : (held : Held) (j : ℕ) (k : Pair) (b : Arc Submission Global) → Some (k, b) ≡ slice_get held j →
    Some (arc_value b) ≡ slice_get (recorded held) j
get_recorded [] j k b h = absurd (none-some _ (sym h))
get_recorded (e ∷ es) zero k b h = ap (λ (x : Pair × Arc Submission Global). Some (arc_value x.1)) (same_Some (k, b) e h)
get_recorded (e ∷ es) (suc j) k b h = get_recorded es j k b h

pub batch_behind : (sealed held : Held) (i n : ℕ) (k : Pair) (b : Arc Submission Global) → n ≡ length sealed → n ≤ i →
    Some (k, b) ≡ slice_get held (i - n) → Some (arc_value b) ≡ slice_get (recorded (sealed ++ held)) i
batch_behind sealed held i n k b is behind h =
    get_recorded held (i - n) k b h
    ∙ sym (get_behind (recorded sealed) (recorded held) i (i - n) (omega (arith, is, behind, length-recorded sealed)))
    ∙ ap (λ (l : List Submission). slice_get l i) (sym (recorded-append sealed held))

-- ---- sealing
pub none_there : {X : Type 0} (xs : List X) (n : ℕ) → n ≡ length xs → n ≤ 0 → xs ≡ []
none_there [] n is h = refl
none_there (x ∷ xs) n is h = absurd (omega (arith, is, h))

-- a matrix that has the numbers that are due is what was handed down
pub made_due : (v : Setting) (s : ℕ) (below : Counts) (base new : Matrix) (list : List Submission)
    (due : Option (Arc (List ℕ) Global)) → IsSealed v s below base list due →
    IfSome due (λ (place : Arc (List ℕ) Global). numbers_of new ≡ arc_value place) → is_some due ≡ true →
    (new ≡ matrix v.rows v.cols below) × (below ≡ record_content s v.shards base.counts list)
made_due v s below base new list None sealed made some = absurd (true≢false (sym some))
made_due v s below base new list (Some place) sealed made some =
    (numbers_same new (matrix v.rows v.cols below) (made ∙ sealed.0), sealed.1)

-- nothing was sealed: what was held is, and nothing is held beside it
pub swapped : (sealed held now then' : Held) → sealed ≡ [] → now ≡ held → then' ≡ sealed → now ++ then' ≡ sealed ++ held
swapped sealed held now then' none is other =
    (λ i. is i ++ (other ∙ none) i) ∙ append-nil held ∙ ap (λ (l : Held). l ++ held) (sym none)

-- and back
pub swapped_back : (sealed held now then' : Held) → held ≡ [] → now ≡ held → then' ≡ sealed → now ++ then' ≡ sealed ++ held
swapped_back sealed held now then' none is other =
    (λ i. (is ∙ none) i ++ other i) ∙ sym (append-nil sealed) ∙ ap (λ (l : Held). sealed ++ l) (sym none)

-- the layers were handed down: what lies below them is the base and what was held, which is sealed
pub sealed_now : (v : Setting) (s : ℕ) (layers after : Layering) (base all : Matrix) (sealed held now : Held)
    (told : List ℕ) → KeepsShard v s layers base (sealed ++ held) →
    after ≡ layers_on layers.rows layers.cols layers.cuts (content layers.layers) →
    all ≡ matrix layers.rows layers.cols (content layers.layers) → told ≡ numbers_of all → sealed ≡ [] → now ≡ held →
    (told ≡ numbers_of (matrix v.rows v.cols after.below))
    × (after.below ≡ record_content s v.shards base.counts (recorded now))
sealed_now v s layers after base all sealed held now told keeps handed is numbers none moved =
    let low : after.below ≡ content layers.layers = ap (λ (l : Layering). l.below) handed in (
      numbers ∙ ap numbers_of (is ∙ (λ i. matrix (keeps.rows i) (keeps.cols i) (sym low i))),
      low ∙ keeps.told.sums ∙ ap (λ (l : Held). record_content s v.shards base.counts (recorded l))
          (ap (λ (x : Held). x ++ held) none ∙ sym moved),
    )

module _ (v : Setting) (s free free' : ℕ) (layers after : Layering) (base : Matrix) (held held' : Held) (x : Holding)
    (keeps : KeepsShard v s layers base held)
    (handed : after ≡ layers_on layers.rows layers.cols layers.cuts (content layers.layers)) (same : held' ≡ held)
    (view : holding v s layers.layers layers.below base.counts (recorded held) free ≡ x) where
  pub seals_handed : Seals x (holding v s after.layers after.below base.counts (recorded held') free')
  seals_handed =
      subst (λ (y : Holding). Seals y (holding v s after.layers after.below base.counts (recorded held') free')) view
      (record {
        setup = refl;
        number = refl;
        sum = ap (λ (l : Layering). content l.layers) handed
            ∙ content-on (length layers.cuts) (content layers.layers);
        base = refl;
        record_list = ap recorded same;
      })

  pub hands_down : HandsDown x (holding v s after.layers after.below base.counts (recorded held') free')
  hands_down =
      subst (λ (y : Holding). HandsDown y (holding v s after.layers after.below base.counts (recorded held') free')) view
      (record {
        layers = ap (λ (l : Layering). l.layers) handed
            ∙ ap (λ (k : List ℕ). replicate (length k) empty ++ content layers.layers ∷ []) keeps.cuts;
        below = ap (λ (l : Layering). l.below) handed ∙ keeps.told.sums;
      })

-- ---- the sealed front goes into the base
module _ (v : Setting) (s : ℕ) (layers : Layering) (base new : Matrix) (sealed held none : Held)
    (keeps : KeepsShard v s layers base (sealed ++ held))
    (new_is : new ≡ matrix v.rows v.cols (record_content s v.shards base.counts (recorded sealed)))
    (nothing : none ≡ []) where
  counts_are : new.counts ≡ record_content s v.shards base.counts (recorded sealed)
  counts_are = ap (λ (m : Matrix). m.counts) new_is

  pub shard_settled : KeepsShard v s layers new (none ++ held)
  shard_settled =
      let h = keeps.told in
      let all = recorded-append sealed held in
      let list : entries_of (recorded (sealed ++ held)) ≡ entries_of (recorded sealed) ++ entries_of (recorded held) =
      ap entries_of all ∙ map-append entry_of (recorded sealed) (recorded held) in
      subst (λ (l : Held). KeepsShard v s layers new (l ++ held)) (sym nothing) (record {
        told = record {
          sound = h.sound;
          here = h.here;
          sums = h.sums ∙ ap (record_content s v.shards base.counts) all
              ∙ record_content-append s v.shards base.counts (recorded sealed) (recorded held)
              ∙ ap (λ (m : Counts). record_content s v.shards m (recorded held)) (sym counts_are);
          own = ap (λ (m : Counts). part m s v.shards) counts_are
              ∙ record-own s v.shards base.counts (recorded sealed) h.own ∙ sym counts_are;
          cuts_kept = h.cuts_kept;
          distinct = distinct_behind (entries_of (recorded sealed)) (entries_of (recorded held))
              (subst (IsDistinct same_pair) list h.distinct);
          dims = dims_behind v.rows v.cols (recorded sealed) (recorded held)
              (subst (HaveDims v.rows v.cols) all h.dims);
          within = h.within;
        };
        base_rows = ap (λ (m : Matrix). m.rows) new_is;
        base_cols = ap (λ (m : Matrix). m.cols) new_is;
        rows = keeps.rows;
        cols = keeps.cols;
        cuts = keeps.cuts;
        count = keeps.count;
        keyed = keyed_behind sealed held keeps.keyed;
        few = omega (arith, keeps.few, length-append sealed held);
      })

  -- what contracts see of that
  pub folds_front : (free : ℕ) (x : Holding) →
      holding v s layers.layers layers.below base.counts (recorded (sealed ++ held)) free ≡ x →
      FoldsFront (length sealed) x
      (holding v s layers.layers layers.below new.counts (recorded (none ++ held)) free)
  folds_front free x view =
      let all = recorded-append sealed held in
      let n = length-recorded sealed in
      let front : take (length sealed) (recorded (sealed ++ held)) ≡ recorded sealed =
      (λ i. take (sym n i) (all i)) ∙ take-append_seam (recorded sealed) (recorded held) in
      let behind : drop (length sealed) (recorded (sealed ++ held)) ≡ recorded held =
      (λ i. drop (sym n i) (all i)) ∙ drop-append_seam (recorded sealed) (recorded held) in
      subst (λ (y : Holding). FoldsFront (length sealed) y
      (holding v s layers.layers layers.below new.counts (recorded (none ++ held)) free)) view (record {
        setup = refl;
        number = refl;
        layers = refl;
        below = refl;
        free = refl;
        within = omega (arith, length-recorded (sealed ++ held), length-append sealed held);
        base = counts_are ∙ ap (record_content s v.shards base.counts) (sym front);
        record_list = ap (λ (l : Held). recorded (l ++ held)) nothing ∙ sym behind;
      })
