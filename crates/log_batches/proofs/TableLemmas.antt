-- The table of a block's batches: what is next of it, which batches it reads, and where its faults show.
use Rattle.std.proofs.Common.{◌≡◌, ℕ, zero, suc, ◌+◌, ◌-◌, ◌*◌, ◌^◌, ◌<◌, ◌≤◌, Bool, true, false, List, [], ◌∷◌, ◌++◌, length, map, flat_map}
use Rattle.std.proofs.Common.{Result, Ok, Err, refl, sym, ap, subst, ◌∙◌, append_assoc, arith}
use Rattle.std.proofs.lemmas.List.{append-nil}
use Rattle.std.specs.Int.{w64}
use Rattle.std.specs.List.{AllByRecursion}
use Rattle.std.specs.FinMap.{entries, len, len-entries, entries_sorted}
use Rattle.byte_io.specs.declared.fault.DeviceFault.{DeviceFault}
use Rattle.hyper_matrix.specs.Counts.{Place, Counts, count_sum, total, built}
use Rattle.hyper_matrix.specs.Shared.{LiesWithin}
use Rattle.hyper_matrix.specs.Matrix.{Matrix, matrix}
use Rattle.hyper_matrix.specs.Cells.{entry_of, built_of}
use Rattle.batch_store.specs.Batches.{Submission, submission, batch_total}
use Rattle.snap_file.specs.Spelling.{IsBytes, IsBatch, number_bytes, cells_bytes, matrix_bytes, batch_bytes}
use Rattle.snap_file.specs.Table.{Input, Contents, Reading, Tally, number, outside, no_cells, cells_behind, give, nothing_yet, with_cells}
use Rattle.snap_file.specs.Outcomes.{Task, ReaderState, HasJudged, IsBehindHead}
use Rattle.snap_file.specs.declared.head.Head.{Head}
use Rattle.snap_file.specs.declared.fault.SnapFault.TheVariants.{BadBatch}
use Rattle.snap_file.proofs.Fields.{Skips, skips_give, skips_bind, skips_test, skips_number, wide64, inside, within, Stands, field_then, passed_then}
use Rattle.snap_file.proofs.Again.{tally_after, skips_cells, cell_of, cells_after, counted_after}
use Rattle.snap_file.proofs.Order.{rise_all}
use Rattle.snap_file.proofs.Whole.{total_is, read_as}
use Rattle.snap_file.proofs.Steady.{IsSteady, steady_number, steady_test, steady_cells}
use Rattle.snap_file.proofs.Spelled.{Came, CellsRead, cells_then, came_here, came_behind, entries_are}
use Rattle.snap_file.proofs.BehindLemmas.{behind_field, field, tested, from_here, behind_pair, bad_batch}
use Rattle.log_batches.specs.Payloads.{payload_bytes}
use Rattle.log_batches.specs.Tables.{one_batch, more_batches, counted_batches}
use Rattle.log_batches.specs.Held.{IsFor, IsLogged}

-- ---- what is next

more_step : (h : Head) (n : ℕ) (list : List Submission) (k : List Submission → Reading) →
    more_batches h (suc n) list k ≡ one_batch h list (λ next. more_batches h n next k)
unfolding more_batches
more_step h n list k = refl

more_none : (h : Head) (list : List Submission) (k : List Submission → Reading) → more_batches h 0 list k ≡ k list
unfolding more_batches
more_none h list k = refl

module _ {S : Type 0} (gives : S → Result (List ℕ) DeviceFault → S → Type 0) (failures : S → ℕ) (m : Task) (s t : S)
    (reader : ReaderState) (h : Head) (k : List Submission → Reading) where
  pub one_next : (left rest : ℕ) (list : List Submission) → left ≡ suc rest →
      HasJudged gives failures m s t reader (more_batches h left list k) →
      HasJudged gives failures m s t reader (one_batch h list (λ next. more_batches h rest next k))
  one_next left rest list e a =
      subst (λ (r : Reading). HasJudged gives failures m s t reader r)
      (ap (λ (i : ℕ). more_batches h i list k) e ∙ more_step h rest list k) a

  pub none_next : (left : ℕ) (list : List Submission) → left ≡ 0 →
      HasJudged gives failures m s t reader (more_batches h left list k) →
      HasJudged gives failures m s t reader (k list)
  none_next left list e a =
      subst (λ (r : Reading). HasJudged gives failures m s t reader r)
      (ap (λ (i : ℕ). more_batches h i list k) e ∙ more_none h list k) a

-- ---- where faults show

behind_one : (h : Head) (list : List Submission) (k : List Submission → Reading) →
    ((l : List Submission) → IsBehindHead (k l)) → IsBehindHead (one_batch h list k)
unfolding one_batch
behind_one h list k each =
    behind_field w64 _ (omega arith) (λ client. field w64 _ (omega arith) (λ batch_number.
    from_here _ (behind_pair h h.total (λ _. no_cells 0) _ (λ t. each _))))

pub behind_more : (h : Head) (n : ℕ) (list : List Submission) (k : List Submission → Reading) →
    ((l : List Submission) → IsBehindHead (k l)) → IsBehindHead (more_batches h n list k)
unfolding more_batches
behind_more h zero list k each = each list
behind_more h (suc n) list k each = behind_one h list _ (λ l. behind_more h n l k each)

steady_one : (h : Head) (list : List Submission) (k : List Submission → Reading) →
    ((l : List Submission) → IsSteady (k l)) → IsSteady (one_batch h list k)
unfolding one_batch
steady_one h list k each =
    steady_number _ _ (λ client. steady_number _ _ (λ batch_number. steady_number _ _ (λ entry_count.
    steady_cells h h.total entry_count _ _ (λ t. each _))))

steady_more : (h : Head) (n : ℕ) (list : List Submission) (k : List Submission → Reading) →
    ((l : List Submission) → IsSteady (k l)) → IsSteady (more_batches h n list k)
unfolding more_batches
steady_more h zero list k each = each list
steady_more h (suc n) list k each = steady_one h list _ (λ l. steady_more h n l k each)

pub steady_counted : (h : Head) (k : List Submission → Reading) → ((l : List Submission) → IsSteady (k l)) →
    IsSteady (counted_batches h k)
unfolding counted_batches
steady_counted h k each = steady_number _ _ (λ n. steady_test _ _ _ (steady_more h n [] k each))

-- ---- what is written is read

abbrev pub batch_read : Head → ℕ → ℕ → List (Place × ℕ) → Submission
batch_read h client batch_number es =
    submission client batch_number (matrix h.setup.rows h.setup.cols (built_of (tally_after (no_cells 0) es).cells))

-- what is read of a batch's fields is the batch
same_read : (h : Head) (b : Submission) → IsBatch h.setup.rows h.setup.cols b →
    batch_read h b.client b.number (entries b.matrix.counts) ≡ b
same_read h b is =
    let both = ap (λ p. p.state.list) (read_as h nothing_yet b is) in
    cc

skips_one : (h : Head) (list : List Submission) (b : Submission) → h.setup.rows ≤ 2 ^ 60 → h.setup.cols ≤ 2 ^ 60 →
    h.total < 2 ^ 64 → IsBatch h.setup.rows h.setup.cols b → total b.matrix.counts ≤ h.total →
    Skips (one_batch h list) (list ++ b ∷ []) (batch_bytes b)
unfolding one_batch
skips_one h list b rows cols most is fits =
    let m = b.matrix.counts in
    let es = entries m in
    let y = list ++ batch_read h b.client b.number es ∷ [] in
    let cells : Skips (cells_behind h h.total (length es) (no_cells 0)) (tally_after (no_cells 0) es) (cells_bytes es) =
    skips_cells h h.total es (no_cells 0) rows cols most is.within (rise_all es (entries_sorted m))
    (let e = total_is m in omega arith) in
    subst (λ (x : List Submission). Skips (one_batch h list) x (batch_bytes b))
    (ap (λ (x : Submission). list ++ x ∷ []) (same_read h b is))
    (skips_number w64 (2 ^ 64) wide64 b.client _ y _ is.client
    (skips_number w64 (2 ^ 64) wide64 b.number _ y _ is.number
    (skips_number w64 (2 ^ 64) wide64 (len m) _ y _ is.few
    (skips_bind (cells_behind h h.total (len m) (no_cells 0)) _ (tally_after (no_cells 0) es) y
    (cells_bytes es) []
    (subst (λ (n : ℕ). Skips (cells_behind h h.total n (no_cells 0)) (tally_after (no_cells 0) es)
    (cells_bytes es)) (sym (len-entries m)) cells)
    (skips_give y)))))

skips_more : (h : Head) → IsFor h → (list done : List Submission) → AllByRecursion (IsLogged h.setup) list →
    Skips (more_batches h (length list) done) (done ++ list) (flat_map batch_bytes list)
unfolding more_batches
skips_more h for [] done each =
    subst (λ (l : List Submission). Skips (give done) l []) (sym (append-nil done)) (skips_give done)
skips_more h for (b ∷ list) done each =
    let limit = for.limit in let below = for.below in let fits = each.0.fits in
    let one = skips_one h done b for.rows for.cols (omega arith) each.0.batch (omega arith) in
    let rest = skips_more h for list (done ++ b ∷ []) each.1 in
    subst (λ (l : List Submission). Skips (more_batches h (suc (length list)) done) l
    (batch_bytes b ++ flat_map batch_bytes list))
    (append_assoc done (b ∷ []) list)
    (skips_bind (one_batch h done) (more_batches h (length list)) (done ++ b ∷ []) _ (batch_bytes b)
    (flat_map batch_bytes list) one rest)

pub skips_counted : (h : Head) → IsFor h → (list : List Submission) → AllByRecursion (IsLogged h.setup) list →
    0 < length list → length list < 2 ^ 64 → Skips (counted_batches h) list (payload_bytes list)
unfolding counted_batches
skips_counted h for list each some fits =
    skips_number w64 (2 ^ 64) wide64 (length list) _ list _ fits
    (skips_test (outside 1 (2 ^ 64 - 1) (length list)) BadBatch _ list _
    (inside 1 (2 ^ 64 - 1) (length list) (omega arith) (omega arith))
    (skips_more h for list [] each))

-- ---- what is read was written

pub record OneRead (k : List Submission → Reading) (v : Contents) (before rest : List ℕ) (h : Head)
    (list : List Submission) : Type 0 where
  pub b : Submission
  pub is : IsBatch h.setup.rows h.setup.cols b
  pub fits : total b.matrix.counts ≤ h.total
  pub came : Came k v before rest (list ++ b ∷ []) (batch_bytes b)

equal_le : (a b c : ℕ) → a ≡ b → b ≤ c → a ≤ c
equal_le a b c e h = omega arith

equal_lt : (a b c : ℕ) → a ≡ b → b < c → a < c
equal_lt a b c e h = omega arith

from_none : (a b c : ℕ) → a ≡ b → 0 + b ≤ c → a ≤ c
from_none a b c e h = omega arith

one_read : (h : Head) (list : List Submission) (k : List Submission → Reading) (v : Contents) (before rest : List ℕ) →
    IsBytes rest → one_batch h list k (record { before = before; rest = rest }) ≡ Ok v →
    OneRead k v before rest h list
unfolding one_batch
one_read h list k v before rest fits e =
    field_then w64 (2 ^ 64) wide64 _ v before rest fits e (λ f1.
    field_then w64 (2 ^ 64) wide64 _ v f1.before f1.left f1.fits f1.goes (λ f2.
    field_then w64 (2 ^ 64) wide64 _ v f2.before f2.left f2.fits f2.goes (λ f3.
    cells_then h h.total f3.value (no_cells 0) _ v f3.before f3.left f3.fits (omega arith) f3.goes (λ c.
    let t = tally_after (no_cells 0) c.es in
    let m : Counts = built_of t.cells in
    let cells_are : built_of t.cells ≡ built (map entry_of (map cell_of c.es)) = ap built_of
    (cells_after c.es (no_cells 0)) in
    let same : entries m ≡ c.es = ap entries cells_are ∙ entries_are c.es c.rise in
    let len_is : len m ≡ f3.value = len-entries m ∙ ap length same ∙ c.count in
    let sum_is : total m ≡ count_sum c.es = sym (total_is m) ∙ ap count_sum same in
    let b : Submission = batch_read h f1.value f2.value c.es in
    let y = list ++ b ∷ [] in
    record {
      b = b;
      is = record {
        client = f1.below;
        number = f2.below;
        rows_are = refl;
        cols_are = refl;
        few = equal_lt (len m) f3.value (2 ^ 64) len_is f3.below;
        within = subst (AllByRecursion (LiesWithin h.setup.rows h.setup.cols)) (sym same) c.inner;
      };
      fits = from_none (total m) (count_sum c.es) h.total sum_is c.fits;
      came =
          came_behind k v before rest (number_bytes w64 f1.value) f1.before f1.left y _ f1.stands
          (came_behind k v f1.before f1.left (number_bytes w64 f2.value) f2.before f2.left y _ f2.stands
          (came_behind k v f2.before f2.left (number_bytes w64 (len m)) f3.before f3.left y _
          (subst (λ (n : ℕ). Stands f2.before f2.left (number_bytes w64 n) f3.before f3.left) (sym len_is) f3.stands)
          (came_behind k v f3.before f3.left (cells_bytes (entries m)) c.came.before c.came.left y []
          (subst (λ (l : List (Place × ℕ)). Stands f3.before f3.left (cells_bytes l) c.came.before c.came.left)
          (sym same) c.came.stands)
          (came_here k v c.came.before c.came.left y c.came.fits c.came.goes))));
    }))))

pub record MoreRead (k : List Submission → Reading) (v : Contents) (before rest : List ℕ) (h : Head) (n : ℕ)
    (done : List Submission) : Type 0 where
  pub list : List Submission
  pub count : length list ≡ n
  pub each : AllByRecursion (IsLogged h.setup) list
  pub came : Came k v before rest (done ++ list) (flat_map batch_bytes list)

more_read : (h : Head) → IsFor h → (n : ℕ) (done : List Submission) (k : List Submission → Reading) (v : Contents)
    (before rest : List ℕ) → IsBytes rest → more_batches h n done k (record { before = before; rest = rest }) ≡ Ok v →
    MoreRead k v before rest h n done
unfolding more_batches
more_read h for zero done k v before rest fits e = record {
  list = [];
  count = refl;
  each = tt;
  came = subst (λ (l : List Submission). Came k v before rest l []) (sym (append-nil done))
      (came_here k v before rest done fits e);
}
more_read h for (suc n) done k v before rest fits e =
    let one = one_read h done _ v before rest fits e in
    let more = more_read h for n (done ++ one.b ∷ []) k v one.came.before one.came.left one.came.fits one.came.goes in
    let limit = for.limit in let below = one.fits in
    record {
      list = one.b ∷ more.list;
      count = ap (λ (i : ℕ). suc i) more.count;
      each = (record { batch = one.is; fits = omega arith }, more.each);
      came = came_behind k v before rest (batch_bytes one.b) one.came.before one.came.left (done ++ one.b ∷ more.list)
          (flat_map batch_bytes more.list) one.came.stands
          (subst (λ (l : List Submission). Came k v one.came.before one.came.left l (flat_map batch_bytes more.list))
          (append_assoc done (one.b ∷ []) more.list) more.came);
    }

pub record CountedRead (k : List Submission → Reading) (v : Contents) (before rest : List ℕ) (h : Head) : Type 0 where
  pub list : List Submission
  pub some : 0 < length list
  pub few : length list < 2 ^ 64
  pub each : AllByRecursion (IsLogged h.setup) list
  pub came : Came k v before rest list (payload_bytes list)

pub counted_read : (h : Head) → IsFor h → (k : List Submission → Reading) (v : Contents) (before rest : List ℕ) →
    IsBytes rest → counted_batches h k (record { before = before; rest = rest }) ≡ Ok v →
    CountedRead k v before rest h
unfolding counted_batches
counted_read h for k v before rest fits e =
    field_then w64 (2 ^ 64) wide64 _ v before rest fits e (λ f1.
    passed_then _ _ _ v _ f1.goes (λ t1.
    let bounds = within 1 (2 ^ 64 - 1) f1.value t1.0 in
    let low = bounds.0 in
    let more = more_read h for f1.value [] k v f1.before f1.left f1.fits t1.1 in
    let count = more.count in let below = f1.below in
    record {
      list = more.list;
      some = omega arith;
      few = omega arith;
      each = more.each;
      came = came_behind k v before rest (number_bytes w64 (length more.list)) f1.before f1.left more.list
          (flat_map batch_bytes more.list)
          (subst (λ (n : ℕ). Stands before rest (number_bytes w64 n) f1.before f1.left) (sym count) f1.stands)
          more.came;
    }))
