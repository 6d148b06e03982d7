-- Several snapshots that are asked together, and files whose batches are counted as they are loaded.
use Rattle.std.proofs.Common.{◌≡◌, ◌⊎◌, ℕ, ◌+◌, ◌-◌, ◌≤◌, ◌^◌, List, [], ◌∷◌, Result, Ok, Err, Option, Some, None}
use Rattle.std.proofs.Common.{unwrap_or, min, map, inl, inr, sym, ap, ◌∙◌, arith, IfOk, IfErr}
use Rattle.std.specs.FinMap.{entries, len}
use Rattle.cells.specs.Order.{Rise}
use Rattle.cells.specs.declared.cell.Cell.{Cell}
use Rattle.hyper_matrix.specs.Cells.{built_of, entry_of}
use Rattle.hyper_matrix.specs.Counts.{total}
use Rattle.hyper_matrix.specs.Matrix.{Matrix, matrix}
use Rattle.mm_text.specs.Canonical.{canonical}
use Rattle.mm_laws.specs.MatrixText.{cell_of}
use Rattle.cell_queries.specs.declared.range.CellRange.{CellRange}
use Rattle.cell_queries.specs.Ranges.{cells_in}
use Rattle.snap_file.specs.Snapshots.{Saved}
use Rattle.snap_report.specs.Checks.{line_of}
use Rattle.snap_report.specs.Kept.{most_bytes}
use Rattle.snap_report.specs.declared.fault.CheckFault.{CheckFault}
use Rattle.snap_report.specs.declared.fault.CheckFault.TheVariants as check
use Rattle.snap_export.specs.Several.{added_up, HaveLoaded, AddUp, TellsSum}
use Rattle.snap_export.specs.declared.fault.ExportFault.{ExportFault}
use Rattle.snap_export.specs.declared.fault.ExportFault.TheVariants as fault
use Rattle.snap_query.specs.Spans.{IsCounted, counted, batches_in, shards_in, first_of, span_line, span_text}
use Rattle.snap_query.proofs.RangeLaws.{range_written}

pub if_ok_with : {T E : Type 0} (r : Result T E) {P Q : T → Type 0} → ((x : T) → P x → Q x) → IfOk r P → IfOk r Q
if_ok_with (Ok x) f h = f x h
if_ok_with (Err e) f h = tt

-- ---- files that are lent

-- each load is one of the files below, which stay the ones that were lent, and is counted
module _ {F S A : Type 0} (inner : F → ℕ → Result Saved CheckFault → F → Type 0) (files : S → F) (name : S → A)
    (batches : S → ℕ) (shards : S → Option ℕ) where
  abbrev pub outer : S → ℕ → Result Saved CheckFault → S → Type 0
  outer s n answer t = (name t ≡ name s) × inner (files s) n answer (files t)
      × IsCounted (batches s) (shards s) answer (batches t) (shards t)

  step : (s t : S) (n : ℕ) (answer : Result Saved CheckFault) → outer s n answer t →
      (name t ≡ name s) × inner (files s) n answer (files t)
  step s t n answer h = (h.0, h.1)

  counts : (s t : S) (n : ℕ) (answer : Result Saved CheckFault) → outer s n answer t →
      IsCounted (batches s) (shards s) answer (batches t) (shards t)
  counts s t n answer h = h.2

  pub loaded_below : (s t : S) (rows cols : ℕ) (xs : List Saved) → HaveLoaded outer s t rows cols xs →
      (name t ≡ name s) × HaveLoaded inner (files s) (files t) rows cols xs
  loaded_below s t rows cols [] same = (ap name (sym same), ap files same)
  loaded_below s t rows cols (x ∷ xs) h =
      let first = step s h.0 most_bytes (Ok x) h.1.0 in
      let rest = loaded_below h.0 t rows cols xs h.4 in
      (rest.0 ∙ first.0, (files h.0, (first.1, h.1.1), h.2, h.3, rest.1))

  pub added_below : (s t : S) (count rows cols : ℕ) (xs : List Saved) → AddUp outer s t count rows cols xs →
      (name t ≡ name s) × AddUp inner (files s) (files t) count rows cols xs
  added_below s t count rows cols xs h =
      let below = loaded_below s t rows cols xs h.loaded in
      (below.0, record { count_is = h.count_is; loaded = below.1; fits = h.fits })

  pub told_below : (s t : S) (count : ℕ) (told : ExportFault) → TellsSum outer s t count told →
      (name t ≡ name s) × TellsSum inner (files s) (files t) count told
  told_below s t count (fault.File number why) h =
      let r = h.1 in
      let b = r.before in
      let below = loaded_below s r.behind b.rows b.cols b.xs b.loaded in
      let last = step r.behind t most_bytes (Err why) r.refused in (
        last.0 ∙ below.0,
        (
          h.0,
          record {
            behind = files r.behind;
            before = record { rows = b.rows; cols = b.cols; xs = b.xs; count_is = b.count_is; loaded = below.1 };
            refused = last.1;
          },
        ),
      )
  told_below s t count (fault.DimensionsDiffer number) r =
      let b = r.before in
      let below = loaded_below s r.behind b.rows b.cols b.xs b.loaded in
      let last = step r.behind t most_bytes (Ok r.x) r.loaded.0 in (
        last.0 ∙ below.0,
        record {
          behind = files r.behind;
          before = record { rows = b.rows; cols = b.cols; xs = b.xs; count_is = b.count_is; loaded = below.1 };
          some = r.some;
          x = r.x;
          loaded = (last.1, r.loaded.1);
          differs = r.differs;
        },
      )
  told_below s t count fault.Memory r =
      let below = loaded_below s r.behind r.rows r.cols r.xs r.loaded in
      let rest = behind r.place in (
        rest.0 ∙ below.0,
        record {
          behind = files r.behind;
          rows = r.rows;
          cols = r.cols;
          xs = r.xs;
          loaded = below.1;
          place = rest.1;
        },
      )
    where
      behind : {P : Type 0} → ((r.behind ≡ t) × P) ⊎ outer r.behind most_bytes (Err check.Memory) t →
          (name t ≡ name r.behind)
          × (((files r.behind ≡ files t) × P) ⊎ inner (files r.behind) most_bytes (Err check.Memory) (files t))
      behind (inl p) = (ap name (sym p.0), inl (ap files p.0, p.1))
      behind (inr p) =
          let last = step r.behind t most_bytes (Err check.Memory) p in
          (last.0, inr last.1)
  told_below s t count fault.SumTooLarge r =
      let below = loaded_below s t r.rows r.cols r.xs r.loaded in (
        below.0,
        record {
          rows = r.rows;
          cols = r.cols;
          xs = r.xs;
          count_is = r.count_is;
          loaded = below.1;
          passes = r.passes;
        },
      )
  told_below s t count (fault.Output why) h = absurd h
  told_below s t count (fault.Save why) h = absurd h

  -- files that are lent stay the same ones, whatever comes of the loads
  pub name_kept : (r : Result Matrix ExportFault) (s t : S) (count : ℕ) →
      IfOk r (λ m. (rows : ℕ) × (cols : ℕ) × (xs : List Saved) × AddUp outer s t count rows cols xs
      × (m ≡ matrix rows cols (added_up xs))) →
      IfErr r (λ told. TellsSum outer s t count told) → name t ≡ name s
  name_kept (Ok m) s t count ok err = (added_below s t count ok.0 ok.1 ok.2 ok.3).0
  name_kept (Err told) s t count ok err = (told_below s t count told err).0

  -- ---- what is counted

  all_counted : (s t : S) (rows cols : ℕ) (xs : List Saved) → batches s ≤ 2 ^ 64 - 1 →
      HaveLoaded outer s t rows cols xs → batches t ≡ min (batches s + counted xs) (2 ^ 64 - 1)
  all_counted s t rows cols [] few same = omega (arith, few, ap batches same)
  all_counted s t rows cols (x ∷ xs) few h =
      let first = (counts s h.0 most_bytes (Ok x) h.1.0).0 in
      let rest = all_counted h.0 t rows cols xs (omega (arith, first)) h.4 in
      omega (arith, first, rest)

  kept_first : (s t : S) (rows cols k : ℕ) (xs : List Saved) → shards s ≡ Some k → HaveLoaded outer s t rows cols xs →
      shards t ≡ Some k
  kept_first s t rows cols k [] is same = ap shards (sym same) ∙ is
  kept_first s t rows cols k (x ∷ xs) is h =
      kept_first h.0 t rows cols k xs
      ((counts s h.0 most_bytes (Ok x) h.1.0).1 ∙ ap (λ (o : Option ℕ). first_of o x.setup.shards) is) h.4

  pub batches_counted : (s t : S) (rows cols : ℕ) (xs : List Saved) → batches s ≡ 0 →
      HaveLoaded outer s t rows cols xs → batches t ≡ batches_in xs
  batches_counted s t rows cols xs none h =
      omega (arith, none, all_counted s t rows cols xs (omega (arith, none)) h)

  pub shards_counted : (s t : S) (rows cols : ℕ) (xs : List Saved) → shards s ≡ None →
      HaveLoaded outer s t rows cols xs → unwrap_or (shards t) 0 ≡ shards_in xs
  shards_counted s t rows cols [] none same = ap (λ (o : Option ℕ). unwrap_or o 0) (ap shards (sym same) ∙ none)
  shards_counted s t rows cols (x ∷ xs) none h =
      ap (λ (o : Option ℕ). unwrap_or o 0)
      (kept_first h.0 t rows cols x.setup.shards xs
      ((counts s h.0 most_bytes (Ok x) h.1.0).1 ∙ ap (λ (o : Option ℕ). first_of o x.setup.shards) none) h.4)

-- ---- what is written

pub line_of_all : (rows cols : ℕ) (xs : List Saved) (m : Matrix) (dims : ℕ × ℕ) (k b n e : ℕ) →
    m ≡ matrix rows cols (added_up xs) → dims ≡ (m.rows, m.cols) → k ≡ shards_in xs → b ≡ batches_in xs →
    n ≡ total m.counts → e ≡ len m.counts → line_of dims.0 dims.1 k b n e ≡ span_line rows cols xs
line_of_all rows cols xs m dims k b n e is same shards batches sums counts =
    (λ i. line_of ((same i).0) ((same i).1) (shards i) (batches i) (sums i) (counts i))
    ∙ ap (λ (x : Matrix). line_of x.rows x.cols (shards_in xs) (batches_in xs) (total x.counts) (len x.counts)) is

pub text_of_all : (rows cols : ℕ) (xs : List Saved) (m : Matrix) (dims : ℕ × ℕ) (r : CellRange)
    (cells list lent : List Cell) → m ≡ matrix rows cols (added_up xs) → dims ≡ (m.rows, m.cols) → Rise cells →
    built_of cells ≡ m.counts → map entry_of list ≡ cells_in r (map entry_of cells) → lent ≡ list →
    canonical dims.0 dims.1 lent ≡ span_text rows cols r xs
text_of_all rows cols xs m dims r cells list lent is same rises builds kept lends =
    (λ i. canonical ((same i).0) ((same i).1) (lends i))
    ∙ range_written m.rows m.cols r m.counts cells list rises builds kept
    ∙ ap (λ (x : Matrix). canonical x.rows x.cols (map cell_of (cells_in r (entries x.counts)))) is
