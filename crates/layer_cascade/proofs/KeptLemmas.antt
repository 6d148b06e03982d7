-- Layers that are made keep what layers are to keep: the empty ones, and those after an addition.
use Rattle.std.proofs.Common.{◌≡◌, ℕ, zero, suc, ◌+◌, ◌<◌, ◌^◌, List, [], ◌∷◌, ◌++◌, length, take, drop, replicate, get_or, sym, ◌∙◌}
use Rattle.std.proofs.Common.{◌≤◌, Bool, true, false, cond, leb, ap, subst, refl, arith, Some, slice_get}
use Rattle.std.proofs.Math.ListN.{set}
use Rattle.std.proofs.lemmas.Option.{none-some, same_Some}
use Rattle.std.specs.FinMap.{empty, len, len-empty}
use Rattle.std.proofs.lemmas.List.{map-append, length-append, length-map, length-replicate, length-drop, drop-map, take_all}
use Rattle.cells.specs.Bounds.{IsDimension}
use Rattle.hyper_matrix.specs.Counts.{Counts, place_cmp, ewise_add, total}
use Rattle.hyper_matrix.specs.Matrix.{Matrix, matrix}
use Rattle.hyper_matrix.proofs.CountLaws.{ewise_add-empty, ewise_add_assoc, total-ewise_add, total-empty}
use Rattle.layer_compaction.specs.Shared.{content, values, all_counts, HaveDims}
use Rattle.layer_cascade.specs.Cascade.{cascade, with_first, KeepsCuts, EndsAt, layers_after}
use Rattle.layer_cascade.specs.Cuts.{AreCuts}
use Rattle.layer_cascade.specs.Layering.{Layering, layering, no_layers, layers_on, IsUnder, IsLayering}
use Rattle.std.specs.declared.sync.Arc.{Arc}
use Rattle.std.specs.Arc.{arc_value}
use Rattle.layer_cascade.specs.Stored.{KeepsLayers, seen_layers, lowest}
use Rattle.layer_cascade.proofs.CascadeLaws.{content-cascade, cuts-cascade, length-cascade, layers_after-cascade}
use Rattle.layer_compaction.proofs.LayerLemmas.{dims-append, dims-replicate, dims-drop, layer_dims}
use Rattle.layer_compaction.proofs.LayerLemmas.{content-append, empty-ewise_add, replicate-more, length-counts}
use Rattle.layer_compaction.proofs.RunLemmas.{dims-parts, have_parts, total-parts}

pub counts-replicate : (n : ℕ) (m : Matrix) → all_counts (replicate n m) ≡ replicate n m.counts
counts-replicate zero m = refl
counts-replicate (suc n) m = ap (λ s. m.counts ∷ s) (counts-replicate n m)

pub content-no_layers : (n : ℕ) → content (replicate n empty) ≡ empty
content-no_layers zero = refl
content-no_layers (suc n) = ap (ewise_add empty) (content-no_layers n) ∙ ewise_add-empty empty

pub cuts-replicate : (n : ℕ) (cuts : List ℕ) → KeepsCuts (replicate n empty) cuts
cuts-replicate zero cuts = tt
cuts-replicate (suc n) [] = tt
cuts-replicate (suc n) (cut ∷ cuts) = (omega (arith, len-empty place_cmp ℕ), cuts-replicate n cuts)

-- ---- the last two of the stored layers are one to contracts
pub seen_next : (l : Counts) (ls : List Counts) → 2 ≤ length ls → seen_layers (l ∷ ls) ≡ l ∷ seen_layers ls
seen_next l [] h = absurd (omega (arith, h))
seen_next l (x ∷ []) h = absurd (omega (arith, h))
seen_next l (x ∷ y ∷ ls) h = refl

pub content-seen : (ls : List Counts) → content (seen_layers ls) ≡ content ls
content-seen [] = refl
content-seen (l ∷ []) = refl
content-seen (l ∷ b ∷ []) = ewise_add_assoc l b empty
content-seen (l ∷ m ∷ b ∷ ls) = ap (ewise_add l) (content-seen (m ∷ b ∷ ls))

pub length-seen : (ls : List Counts) → 2 ≤ length ls → length (seen_layers ls) + 1 ≡ length ls
length-seen [] h = absurd (omega (arith, h))
length-seen (l ∷ []) h = absurd (omega (arith, h))
length-seen (l ∷ b ∷ []) h = refl
length-seen (l ∷ m ∷ b ∷ ls) h = omega (arith, length-seen (m ∷ b ∷ ls) (omega arith))

pub lowest_next : (l : Counts) (ls : List Counts) → 1 ≤ length ls → lowest (l ∷ ls) ≡ lowest ls
lowest_next l [] h = absurd (omega (arith, h))
lowest_next l (x ∷ ls) h = refl

lowest-push : (ls : List Counts) (b : Counts) → lowest (ls ++ b ∷ []) ≡ b
lowest-push [] b = refl
lowest-push (l ∷ []) b = refl
lowest-push (l ∷ m ∷ ls) b = lowest-push (m ∷ ls) b

length-push : (ls : List Counts) (b : Counts) → length (ls ++ b ∷ []) ≡ length ls + 1
length-push ls b = length-append ls (b ∷ [])

under-push : (ls : List Counts) (b : Counts) → 1 ≤ length ls → IsUnder b (seen_layers (ls ++ b ∷ []))
under-push [] b h = absurd (omega (arith, h))
under-push (l ∷ []) b h = ([], l, refl)
under-push (l ∷ m ∷ ls) b h =
    let (before, own, is) = under-push (m ∷ ls) b (omega arith) in (
      l ∷ before,
      own,
      seen_next l (m ∷ ls ++ b ∷ []) (omega (arith, length-push ls b)) ∙ ap (λ (k : List Counts). l ∷ k) is,
    )

-- empty layers over b
seen-empty : (n : ℕ) (b : Counts) → seen_layers (replicate (suc n) empty ++ b ∷ []) ≡ replicate n empty ++ b ∷ []
seen-empty zero b = ap (λ (m : Counts). m ∷ []) (empty-ewise_add b)
seen-empty (suc n) b =
    seen_next empty (replicate (suc n) empty ++ b ∷ [])
    (omega (arith, length-push (replicate (suc n) empty) b, length-replicate (suc n) (empty {X = ℕ} {R = place_cmp})))
    ∙ ap (λ (k : List Counts). empty ∷ k) (seen-empty n b)

-- the cascade goes past what lies below
cascade-seen : (ls : List Counts) (cuts : List ℕ) (m b : Counts) → length ls ≡ length cuts + 1 →
    seen_layers (cascade ls cuts m ++ b ∷ []) ≡ cascade (seen_layers (ls ++ b ∷ [])) cuts m
cascade-seen [] cuts m b k = absurd (omega (arith, k))
cascade-seen (l ∷ []) [] m b k = ap (λ (x : Counts). x ∷ []) (ewise_add_assoc m l b)
cascade-seen (l ∷ []) (cut ∷ cuts) m b k = absurd (omega (arith, k))
cascade-seen (l ∷ x ∷ ls) [] m b k = absurd (omega (arith, k))
cascade-seen (l ∷ x ∷ ls) (cut ∷ cuts) m b k =
    step (cascade-seen (x ∷ ls) cuts (ewise_add m l) b (omega (arith, k))) (leb (len (ewise_add m l)) cut)
    ∙ sym (ap (λ (s : List Counts). cascade s (cut ∷ cuts) m)
    (seen_next l (x ∷ ls ++ b ∷ []) (omega (arith, length-push ls b))))
  where
    rest : List Counts
    rest = cascade (x ∷ ls) cuts (ewise_add m l)

    step : seen_layers (rest ++ b ∷ []) ≡ cascade (seen_layers (x ∷ ls ++ b ∷ [])) cuts (ewise_add m l) → (t : Bool) →
        seen_layers (cond t (ewise_add m l ∷ x ∷ ls) (empty ∷ rest) ++ b ∷ []) ≡ cond t
        (ewise_add m l ∷ seen_layers (x ∷ ls ++ b ∷ []))
        (empty ∷ cascade (seen_layers (x ∷ ls ++ b ∷ [])) cuts (ewise_add m l))
    step later true = seen_next (ewise_add m l) (x ∷ ls ++ b ∷ []) (omega (arith, length-push ls b))
    step later false =
        seen_next empty (rest ++ b ∷ [])
        (omega (arith, length-push rest b, length-cascade (x ∷ ls) cuts (ewise_add m l)))
        ∙ ap (λ (s : List Counts). empty ∷ s) later

-- ---- layers as they are made
pub cuts-on : (cuts : List ℕ) (b : Counts) → KeepsCuts (replicate (length cuts) empty ++ b ∷ []) cuts
cuts-on [] b = tt
cuts-on (cut ∷ cuts) b = (omega (arith, len-empty place_cmp ℕ), cuts-on cuts b)

pub length-on : (n : ℕ) (b : Counts) → length (replicate n empty ++ b ∷ []) ≡ n + 1
length-on n b = length-push (replicate n empty) b
    ∙ ap (λ (k : ℕ). k + 1) (length-replicate n (empty {X = ℕ} {R = place_cmp}))

pub content-on : (n : ℕ) (b : Counts) → content (replicate n empty ++ b ∷ []) ≡ b
content-on n b = content-append (replicate n empty) (b ∷ [])
    ∙ ap (λ (m : Counts). ewise_add m (ewise_add b empty)) (content-no_layers n)
    ∙ empty-ewise_add (ewise_add b empty) ∙ ewise_add-empty b

-- the total of what is stored
pub stored_fits : (r c : ℕ) (cuts : List ℕ) (layers : List Matrix) (none : Matrix) → KeepsLayers r c cuts layers none →
    total (content (all_counts layers)) < 2 ^ 64
stored_fits r c cuts layers none keeps =
    omega (arith, keeps.told.fits, ap total (content-seen (all_counts layers)))

pub on_nothing : (r c : ℕ) (cuts : List ℕ) → layers_on r c cuts empty ≡ no_layers r c cuts
on_nothing r c cuts = ap (λ (l : List Counts). layering r c cuts l empty) (replicate-more (length cuts) empty)

pub is_layers_on : (r c : ℕ) (cuts : List ℕ) (b : Counts) → IsDimension r → IsDimension c → AreCuts cuts →
    total b < 2 ^ 64 → IsLayering (layers_on r c cuts b)
is_layers_on r c cuts b rows cols are fits = record {
  rows = rows;
  cols = cols;
  cuts = are;
  count = length-on (length cuts) b;
  kept = cuts-on cuts b;
  fits = omega (arith, fits, ap total (content-on (length cuts) b));
  under = (
    replicate (length cuts) empty,
    empty,
    ap (λ (m : Counts). replicate (length cuts) empty ++ m ∷ []) (sym (empty-ewise_add b)),
  );
}

-- the layers as they are made over a base
module _ (r c : ℕ) (cuts cuts' : List ℕ) (layers : List Matrix) (none base : Matrix) (same : cuts' ≡ cuts)
    (empty_one : none ≡ matrix r c empty) (made : layers ≡ replicate (length cuts + 1) none ++ base ∷ []) where
  made_counts : all_counts layers ≡ replicate (suc (length cuts)) empty ++ base.counts ∷ []
  made_counts =
      let counts : Matrix → Counts = λ m. m.counts in
      ap all_counts made ∙ map-append counts (replicate (length cuts + 1) none) (base ∷ [])
      ∙ ap (λ (l : List Counts). l ++ base.counts ∷ []) (counts-replicate (length cuts + 1) none
      ∙ ap (λ (m : Matrix). replicate (length cuts + 1) m.counts) empty_one
      ∙ ap (λ (n : ℕ). replicate n empty) {x = length cuts + 1} {y = suc (length cuts)} (omega arith))

  pub first_layers : layering r c cuts' (seen_layers (all_counts layers)) (lowest (all_counts layers)) ≡ layers_on r c
      cuts base.counts
  first_layers =
      (λ i. layering r c (same i) (seen_layers (made_counts i)) (lowest (made_counts i)))
      ∙ (λ i. layering r c cuts (seen-empty (length cuts) base.counts i)
      (lowest-push (replicate (suc (length cuts)) empty) base.counts i))

  pub keeps_first : IsDimension r → IsDimension c → AreCuts cuts → base.rows ≡ r → base.cols ≡ c →
      total base.counts < 2 ^ 64 → len base.counts < 2 ^ 64 → KeepsLayers r c cuts' layers none
  keeps_first rows cols are base_rows base_cols fits few = record {
    told = subst IsLayering (sym first_layers) (is_layers_on r c cuts base.counts rows cols are fits);
    count = ap length made ∙ length-append (replicate (length cuts + 1) none) (base ∷ [])
        ∙ ap (λ (n : ℕ). n + 1) (length-replicate (length cuts + 1) none)
        ∙ omega (arith, ap length same);
    dims = subst (HaveDims r c) (sym made) (dims-append r c (replicate (length cuts + 1) none) (base ∷ [])
        (dims-replicate r c (length cuts + 1) none (ap (λ (m : Matrix). m.rows) empty_one)
        (ap (λ (m : Matrix). m.cols) empty_one)) (base_rows, base_cols, tt));
    few = omega (
      arith,
      few,
      ap (λ (l : List Counts). len (lowest (seen_layers l))) made_counts,
      ap (λ (l : List Counts). len (lowest l)) (seen-empty (length cuts) base.counts),
      ap len (lowest-push (replicate (length cuts) empty) base.counts),
    );
    none = empty_one;
  }

-- ---- an addition
-- what it leaves are layers
is_added : (r c : ℕ) (cuts : List ℕ) (ls : List Counts) (b m : Counts) → length ls ≡ length cuts + 1 →
    IsLayering (layering r c cuts (seen_layers (ls ++ b ∷ [])) b) →
    total (content (seen_layers (ls ++ b ∷ []))) + total m < 2 ^ 64 →
    IsLayering (layering r c cuts (cascade (seen_layers (ls ++ b ∷ [])) cuts m) b)
is_added r c cuts ls b m size told fits =
    let all = seen_layers (ls ++ b ∷ []) in
    record {
      rows = told.rows;
      cols = told.cols;
      cuts = told.cuts;
      count = length-cascade all cuts m ∙ told.count;
      kept = cuts-cascade all cuts m told.kept;
      fits = omega (
        arith,
        fits,
        ap total (content-cascade all cuts m told.count),
        total-ewise_add (content all) m,
      );
      under = subst (IsUnder b) (cascade-seen ls cuts m b size)
          (under-push (cascade ls cuts m) b (omega (arith, length-cascade ls cuts m, size)));
    }

one_alone : {X : Type 0} (l : List X) → length l ≡ 1 → (x : X) × (l ≡ x ∷ [])
one_alone [] h = absurd (omega (arith, h))
one_alone (x ∷ []) h = (x, refl)
one_alone (x ∷ y ∷ l) h = absurd (omega (arith, h))

-- the layers after it: `live` are those that it may reach, and one lies below
module _ (r c : ℕ) (cuts cuts' : List ℕ) (layers live rest after : List Matrix) (none none' m sum : Matrix) (j : ℕ)
    (keeps : KeepsLayers r c cuts layers none) (parted : layers ≡ live ++ rest) (size : length live ≡ length cuts + 1)
    (ends : EndsAt (all_counts live) cuts m.counts j)
    (sum_is : sum ≡ matrix m.rows m.cols (with_first (all_counts live) m.counts j))
    (made : after ≡ (replicate j none ++ sum ∷ drop (suc j) live) ++ rest) (same : cuts' ≡ cuts) where
  abbrev counts : Matrix → Counts
  counts x = x.counts

  abbrev own : List Counts
  own = all_counts live

  own_size : length own ≡ length cuts + 1
  own_size = length-map live counts ∙ size

  one_below : (x : Matrix) × (rest ≡ x ∷ [])
  one_below = one_alone rest
      (omega (arith, ap length parted, length-append live rest, size, keeps.count))

  abbrev low : Counts
  low = one_below.0.counts

  with_low : (ls : List Matrix) → all_counts (ls ++ rest) ≡ all_counts ls ++ low ∷ []
  with_low ls = map-append counts ls rest ∙ ap (λ (l : List Matrix). all_counts ls ++ all_counts l) one_below.1

  before_counts : all_counts layers ≡ own ++ low ∷ []
  before_counts = ap all_counts parted ∙ with_low live

  after_counts : all_counts after ≡ cascade own cuts m.counts ++ low ∷ []
  after_counts =
      ap all_counts made ∙ with_low (replicate j none ++ sum ∷ drop (suc j) live)
      ∙ ap (λ (l : List Counts). l ++ low ∷ [])
      (map-append counts (replicate j none) (sum ∷ drop (suc j) live)
      ∙ ap (λ s. s ++ all_counts (sum ∷ drop (suc j) live))
      (counts-replicate j none ∙ ap (λ (x : Matrix). replicate j x.counts) keeps.none)
      ∙ ap (λ (x : Matrix). replicate j empty ++ x.counts ∷ all_counts (drop (suc j) live)) sum_is
      ∙ ap (λ s. replicate j empty ++ with_first own m.counts j ∷ s) (sym (drop-map counts (suc j) live))
      ∙ sym (layers_after-cascade own cuts m.counts j own_size ends))

  pub after_layers : layering r c cuts' (seen_layers (all_counts after)) (lowest (all_counts after)) ≡ layering r c cuts
      (cascade (seen_layers (all_counts layers)) cuts m.counts) (lowest (all_counts layers))
  after_layers =
      (λ i. layering r c (same i) (seen_layers (after_counts i)) (lowest (after_counts i)))
      ∙ (λ i. layering r c cuts (cascade-seen own cuts m.counts low own_size i)
      ((lowest-push (cascade own cuts m.counts) low ∙ sym (lowest-push own low)) i))
      ∙ (λ i. layering r c cuts (cascade (seen_layers (sym before_counts i)) cuts m.counts)
      (lowest (sym before_counts i)))

  pub keeps_after : m.rows ≡ r → m.cols ≡ c → total (content (all_counts layers)) + total m.counts < 2 ^ 64 →
      none' ≡ none → len (lowest (seen_layers (all_counts after))) < 2 ^ 64 → KeepsLayers r c cuts' after none'
  keeps_after rows cols fits empty_one few =
      let told : IsLayering (layering r c cuts (seen_layers (own ++ low ∷ [])) low) =
      subst IsLayering ((λ i. layering r c cuts (seen_layers (before_counts i)) (lowest (before_counts i)))
      ∙ ap (layering r c cuts (seen_layers (own ++ low ∷ []))) (lowest-push own low)) keeps.told in
      let parts = dims-parts r c live rest (subst (HaveDims r c) parted keeps.dims) in
      record {
        told = subst IsLayering (sym after_layers)
            (subst IsLayering (λ i. layering r c cuts (cascade (seen_layers (sym before_counts i)) cuts m.counts)
            ((sym (lowest-push own low) ∙ ap lowest (sym before_counts)) i))
            (is_added r c cuts own low m.counts own_size told
            (omega (arith, fits, ap total (content-seen (own ++ low ∷ []) ∙ sym (ap content before_counts))))));
        count = ap length made ∙ length-append (replicate j none ++ sum ∷ drop (suc j) live) rest ∙ sized;
        dims = subst (HaveDims r c) (sym made) (dims-append r c (replicate j none ++ sum ∷ drop (suc j) live) rest
            (dims-append r c (replicate j none) (sum ∷ drop (suc j) live)
            (dims-replicate r c j none (ap (λ (x : Matrix). x.rows) keeps.none) (ap (λ (x : Matrix). x.cols) keeps.none)) (
              ap (λ (x : Matrix). x.rows) sum_is ∙ rows,
              ap (λ (x : Matrix). x.cols) sum_is ∙ cols,
              dims-drop r c (suc j) live parts.0,
            )) parts.1);
        few = few;
        none = empty_one ∙ keeps.none;
      }
    where
      sized : length (replicate j none ++ sum ∷ drop (suc j) live) + length rest ≡ length cuts' + 2
      sized = omega (
        arith,
        length-append (replicate j none) (sum ∷ drop (suc j) live),
        length-replicate j none,
        length-drop (suc j) live,
        ends.0,
        own_size,
        size,
        ap length one_below.1,
        ap length same,
      )

-- what the plan of an addition is made of, at the lists that are read behind references
module _ {Z : Type 0} (r c : ℕ) (cuts cuts' cuts-2 : List ℕ) (layers layers-2 live rest after : List (Arc Matrix Z))
    (none none' m sum : Matrix) (j : ℕ) (keeps : KeepsLayers r c cuts (values layers) none)
    (parted : layers-2 ≡ live ++ rest) (size : length live ≡ length cuts + 1)
    (ends : EndsAt (all_counts (values live)) cuts-2 m.counts j)
    (sum_is : sum ≡ matrix m.rows m.cols (with_first (all_counts (values live)) m.counts j))
    (made : values after ≡ (replicate j none ++ sum ∷ values (drop (suc j) live)) ++ values rest) (same : cuts' ≡ cuts)
    (read : layers-2 ≡ layers) (read_cuts : cuts-2 ≡ cuts) where
  ends_there : EndsAt (all_counts (values live)) cuts m.counts j
  ends_there = subst (λ k. EndsAt (all_counts (values live)) k m.counts j) read_cuts ends

  parted_there : values layers ≡ values live ++ values rest
  parted_there = ap values (sym read ∙ parted) ∙ map-append arc_value live rest

  made_there : values after ≡ (replicate j none ++ sum ∷ drop (suc j) (values live)) ++ values rest
  made_there = made ∙ ap (λ s. (replicate j none ++ sum ∷ s) ++ values rest) (sym (drop-map arc_value (suc j) live))

  pub planned_layers : (v : Layering) → layering r c cuts (seen_layers (all_counts (values layers)))
      (lowest (all_counts (values layers))) ≡ v → layering r c cuts' (seen_layers (all_counts (values after)))
      (lowest (all_counts (values after))) ≡ layering v.rows v.cols v.cuts (cascade v.layers v.cuts m.counts) v.below
  planned_layers v view =
      after_layers r c cuts cuts' (values layers) (values live) (values rest) (values after) none none' m sum j keeps
      parted_there (length-map live arc_value ∙ size) ends_there sum_is made_there same
      ∙ ap (λ (w : Layering). layering w.rows w.cols w.cuts (cascade w.layers w.cuts m.counts) w.below) view

  pub keeps_planned : (v : Layering) → layering r c cuts (seen_layers (all_counts (values layers)))
      (lowest (all_counts (values layers))) ≡ v → m.rows ≡ v.rows → m.cols ≡ v.cols →
      total (content v.layers) + total m.counts < 2 ^ 64 → none' ≡ none →
      len (lowest (seen_layers (all_counts (values after)))) < 2 ^ 64 → KeepsLayers r c cuts' (values after) none'
  keeps_planned v view rows cols fits empty_one few =
      keeps_after r c cuts cuts' (values layers) (values live) (values rest) (values after) none none' m sum j keeps
      parted_there (length-map live arc_value ∙ size) ends_there sum_is made_there same
      (rows ∙ sym (ap (λ (w : Layering). w.rows) view)) (cols ∙ sym (ap (λ (w : Layering). w.cols) view))
      (omega (
        arith,
        fits,
        ap (λ (w : Layering). total (content w.layers)) view,
        ap total (content-seen (all_counts (values layers))),
      )) empty_one few

-- the layers that an addition may reach
module _ {Z : Type 0} (r c : ℕ) (cuts : List ℕ) (layers layers-2 live rest : List (Arc Matrix Z)) (none m : Matrix)
    (v : Layering) (keeps : KeepsLayers r c cuts (values layers) none) (parted : layers-2 ≡ live ++ rest)
    (read : layers-2 ≡ layers) (view : layering r c cuts (seen_layers (all_counts (values layers)))
    (lowest (all_counts (values layers))) ≡ v) where
  pub live_dims : m.rows ≡ v.rows → m.cols ≡ v.cols → HaveDims m.rows m.cols (values live)
  live_dims rows cols =
      subst (λ n. HaveDims n m.cols (values live)) (ap (λ (w : Layering). w.rows) view ∙ sym rows)
      (subst (λ n. HaveDims r n (values live)) (ap (λ (w : Layering). w.cols) view ∙ sym cols)
      (have_parts layers live rest (sym read ∙ parted) r c keeps.dims).0)

  pub live_fits : total (content v.layers) + total m.counts < 2 ^ 64 →
      total (content (all_counts (values live))) + total m.counts < 2 ^ 64
  live_fits fits = omega (
    arith,
    fits,
    ap (λ (w : Layering). total (content w.layers)) view,
    ap total (content-seen (all_counts (values layers))),
    total-parts layers live rest (sym read ∙ parted),
  )

-- a layer that is read behind a reference has the dimensions that contracts see
pub seen_dims : {Z : Type 0} (layers items : List (Arc Matrix Z)) (i : ℕ) (item : Arc Matrix Z) (x : Matrix) (r c : ℕ)
    (cuts : List ℕ) (ls : List Counts) (b : Counts) (v : Layering) → items ≡ layers → i < length items →
    item ≡ get_or items i item → x ≡ arc_value item → HaveDims r c (values layers) → layering r c cuts ls b ≡ v →
    (x.rows ≡ v.rows) × (x.cols ≡ v.cols)
seen_dims layers items i item x r c cuts ls b v read h at is dims view =
    let there = layer_dims items i item x h at is r c (subst (λ s. HaveDims r c (values s)) (sym read) dims) in
    (there.0 ∙ ap (λ (w : Layering). w.rows) view, there.1 ∙ ap (λ (w : Layering). w.cols) view)

-- a layer in the place of one that holds the same
pub exchanged : {Z : Type 0} (layers : List (Arc Matrix Z)) (i : ℕ) (new : Arc Matrix Z) (m : Matrix) →
    slice_get (values layers) i ≡ Some m → arc_value new ≡ m → values (set layers i new) ≡ values layers
exchanged [] i new m at same = absurd (none-some m at)
exchanged (x ∷ layers) zero new m at same =
    ap (λ (v : Matrix). v ∷ values layers) (same ∙ sym (same_Some (arc_value x) m at))
exchanged (x ∷ layers) (suc i) new m at same =
    ap (λ (l : List Matrix). arc_value x ∷ l) (exchanged layers i new m at same)

-- what lies below, among the stored ones
pub lowest_at : (r c n : ℕ) (layers : List Matrix) → HaveDims r c layers → length layers ≡ suc n →
    slice_get layers n ≡ Some (matrix r c (lowest (all_counts layers)))
lowest_at r c n [] dims k = absurd (omega (arith, k))
lowest_at r c zero (m ∷ []) dims k = λ i. Some (matrix (dims.0 i) (dims.1 i) m.counts)
lowest_at r c zero (m ∷ x ∷ layers) dims k = absurd (omega (arith, k))
lowest_at r c (suc n) (m ∷ []) dims k = absurd (omega (arith, k))
lowest_at r c (suc n) (m ∷ x ∷ layers) dims k = lowest_at r c n (x ∷ layers) dims.2 (omega (arith, k))

-- once all stored layers were read
pub all_read : {Z : Type 0} (layers items : List (Arc Matrix Z)) (i r c : ℕ) (cuts : List ℕ) (v : Layering) →
    items ≡ layers → length items ≤ i → layering r c cuts (seen_layers (all_counts (values layers)))
    (lowest (all_counts (values layers))) ≡ v → content (take i (all_counts (values items))) ≡ content v.layers
all_read layers items i r c cuts v read all view =
    ap content (take_all i (all_counts (values items)) (omega (arith, all, length-counts items)))
    ∙ ap (λ s. content (all_counts (values s))) read ∙ sym (content-seen (all_counts (values layers)))
    ∙ ap (λ (w : Layering). content w.layers) view
