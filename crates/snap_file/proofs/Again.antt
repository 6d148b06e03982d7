-- What was spelled is read again: the head, cells, batches, and the whole file.
use Rattle.std.proofs.Common.{◌≡◌, ℕ, suc, ◌+◌, ◌-◌, ◌^◌, ◌<◌, ◌≤◌, false, List, [], ◌∷◌, ◌++◌, length, map, flat_map}
use Rattle.std.proofs.Common.{refl, sym, ap, subst, ◌∙◌, append_assoc, arith}
use Rattle.std.specs.Prelude.{nat_lt, nat_le}
use Rattle.std.specs.List.{AllByRecursion}
use Rattle.std.specs.Int.{w8, w32, w64}
use Rattle.std.proofs.lemmas.List.{append-nil}
use Rattle.std.proofs.lemmas.Bool.{le-ltb, lt-leb}
use Rattle.cells.specs.declared.cell.Cell.{Cell}
use Rattle.hyper_matrix.specs.Counts.{Place, count_sum}
use Rattle.hyper_matrix.specs.Shared.{LiesWithin}
use Rattle.batch_store.specs.Setups.{Setting}
use Rattle.snap_file.proofs.Kept.{IsSetup, CutsFrom}
use Rattle.snap_file.specs.Spelling.{number_bytes, mark, old_version, version, most_batches_of, head_bytes, cell_bytes}
use Rattle.snap_file.specs.Spelling.{cells_bytes}
use Rattle.snap_file.specs.Table.{give, outside, is_below, head, cuts_behind, Tally, cells_behind}
use Rattle.snap_file.specs.declared.head.Head.{Head}
use Rattle.snap_file.specs.declared.fault.SnapFault.TheVariants.{BadMark, BadVersion, BadHead, BadBatch, OutOfOrder}
use Rattle.snap_file.specs.declared.fault.SnapFault.TheVariants.{TotalDiffers}
use Rattle.snap_file.proofs.Fields.{Skips, skips_give, skips_bind, skips_test, skips_number, wide8, wide32, wide64}
use Rattle.snap_file.proofs.Fields.{inside}

pub skips_cuts : (least : ℕ) (done cuts : List ℕ) → CutsFrom least cuts →
    Skips (cuts_behind (length cuts) least done) (done ++ cuts) (flat_map (number_bytes w64) cuts)
unfolding cuts_behind
skips_cuts least done [] h = subst (λ (l : List ℕ). Skips (give done) l []) (sym (append-nil done)) (skips_give done)
skips_cuts least done (cut ∷ cuts) h =
    skips_number w64 (2 ^ 64) wide64 cut _ (done ++ cut ∷ cuts) (flat_map (number_bytes w64) cuts)
    (let below = h.1 in omega arith)
    (skips_test (outside least (2 ^ 40) cut) BadHead _ (done ++ cut ∷ cuts) (flat_map (number_bytes w64) cuts)
    (inside least (2 ^ 40) cut h.0 h.1)
    (subst (λ (l : List ℕ). Skips (cuts_behind (length cuts) (cut + 1) (done ++ cut ∷ [])) l
    (flat_map (number_bytes w64) cuts)) (append_assoc done (cut ∷ []) cuts)
    (skips_cuts (cut + 1) (done ++ cut ∷ []) cuts h.2)))

abbrev pub head_of : ℕ → Setting → ℕ → ℕ → Head
head_of v s batches total_all = record { setup = s; version = v; batches = batches; total = total_all }

pub skips_head : (v : ℕ) (s : Setting) (batches total_all : ℕ) → old_version ≤ v → v ≤ version → IsSetup s →
    s.max_batches ≤ most_batches_of v → batches ≤ s.max_batches → total_all ≤ s.limit →
    Skips head (head_of v s batches total_all) (head_bytes v s batches total_all)
unfolding head
skips_head v s batches total_all low high h allowed few fits =
    let few_cuts = h.few_cuts in let shards = h.shards.1 in let limit = h.limit.1 in let most = h.batches.1 in
    let x = head_of v s batches total_all in
    let r = h.rows.1 in let c = h.cols.1 in
    skips_number w64 (2 ^ 64) wide64 mark _ x _ (omega arith) (skips_test (outside mark mark mark) BadMark _ x _ refl
    (skips_number w32 (2 ^ 32) wide32 v _ x _ (omega arith)
    (skips_test (outside old_version version v) BadVersion _ x _ (inside old_version version v low high)
    (skips_number w64 (2 ^ 64) wide64 s.rows _ x _ (omega arith)
    (skips_test (outside 1 (2 ^ 60) s.rows) BadHead _ x _ (inside 1 (2 ^ 60) s.rows h.rows.0 h.rows.1)
    (skips_number w64 (2 ^ 64) wide64 s.cols _ x _ (omega arith)
    (skips_test (outside 1 (2 ^ 60) s.cols) BadHead _ x _ (inside 1 (2 ^ 60) s.cols h.cols.0 h.cols.1)
    (skips_number w8 (2 ^ 8) wide8 (length s.cuts) _ x _ (omega arith)
    (skips_test (outside 0 7 (length s.cuts)) BadHead _ x _ (inside 0 7 (length s.cuts) (omega arith) few_cuts)
    (skips_bind (cuts_behind (length s.cuts) 1 []) _ s.cuts x (flat_map (number_bytes w64) s.cuts) _
    (skips_cuts 1 [] s.cuts h.cuts)
    (skips_number w8 (2 ^ 8) wide8 s.shards _ x _ (omega arith)
    (skips_test (outside 1 64 s.shards) BadHead _ x _ (inside 1 64 s.shards h.shards.0 h.shards.1)
    (skips_number w64 (2 ^ 64) wide64 s.limit _ x _ limit (skips_test (outside 1 (2 ^ 64 - 1) s.limit) BadHead _ x _
    (inside 1 (2 ^ 64 - 1) s.limit h.limit.0 (omega arith))
    (skips_number w64 (2 ^ 64) wide64 s.max_batches _ x _ (omega arith)
    (skips_test (outside 1 (most_batches_of v) s.max_batches) BadHead _ x _
    (inside 1 (most_batches_of v) s.max_batches h.batches.0 allowed)
    (skips_number w64 (2 ^ 64) wide64 batches _ x _ (omega arith)
    (skips_test (outside 0 s.max_batches batches) BadHead _ x _ (inside 0 s.max_batches batches (omega arith) few)
    (skips_number w64 (2 ^ 64) wide64 total_all _ x _ (omega arith)
    (skips_test (outside 0 s.limit total_all) BadHead _ x _ (inside 0 s.limit total_all (omega arith) fits)
    (skips_give x)))))))))))))))))))))

-- ---- cells

abbrev pub cell_of : Place × ℕ → Cell
cell_of e = record { row = e.0.0; col = e.0.1; count = e.1 }

abbrev pub tally_with : Tally → Place × ℕ → Tally
tally_with tally e = record {
  cells = tally.cells ++ cell_of e ∷ [];
  least_row = e.0.0;
  least_col = e.0.1 + 1;
  counted = tally.counted + e.1;
}

abbrev pub tally_after : Tally → List (Place × ℕ) → Tally
tally_after tally [] = tally
tally_after tally (e ∷ es) = tally_after (tally_with tally e) es

-- each cell stands at or behind the least place, the first's, and each next one's behind the one before
abbrev pub RiseFrom : ℕ → ℕ → List (Place × ℕ) → Type 0
RiseFrom row col [] = Unit {0}
RiseFrom row col (e ∷ es) = (is_below e.0.0 e.0.1 row col ≡ false) × RiseFrom e.0.0 (e.0.1 + 1) es

pub cells_after : (es : List (Place × ℕ)) (tally : Tally) → (tally_after tally es).cells ≡ tally.cells ++ map cell_of es
cells_after [] tally = sym (append-nil tally.cells)
cells_after (e ∷ es) tally = cells_after es (tally_with tally e) ∙
    append_assoc tally.cells (cell_of e ∷ []) (map cell_of es)

pub counted_after : (es : List (Place × ℕ)) (tally : Tally) →
    (tally_after tally es).counted ≡ tally.counted + count_sum es
counted_after [] tally = omega arith
counted_after (e ∷ es) tally = let h = counted_after es (tally_with tally e) in omega arith

pub cell_joined : (e : Place × ℕ) (l : List ℕ) → cell_bytes e ++ l ≡ number_bytes w64 e.0.0 ++
    (number_bytes w64 e.0.1 ++ (number_bytes w64 e.1 ++ l))
cell_joined e l =
    append_assoc (number_bytes w64 e.0.0) (number_bytes w64 e.0.1 ++ (number_bytes w64 e.1 ++ [])) l
    ∙ ap (λ (x : List ℕ). number_bytes w64 e.0.0 ++ x) (append_assoc (number_bytes w64 e.0.1)
    (number_bytes w64 e.1 ++ []) l
    ∙ ap (λ (x : List ℕ). number_bytes w64 e.0.1 ++ x) (append_assoc (number_bytes w64 e.1) [] l))

pub skips_cells : (h : Head) (top : ℕ) (es : List (Place × ℕ)) (tally : Tally) → h.setup.rows ≤ 2 ^ 60 →
    h.setup.cols ≤ 2 ^ 60 → top < 2 ^ 64 →
    AllByRecursion (LiesWithin h.setup.rows h.setup.cols) es → RiseFrom tally.least_row tally.least_col es →
    tally.counted + count_sum es ≤ top →
    Skips (cells_behind h top (length es) tally) (tally_after tally es) (cells_bytes es)
unfolding cells_behind
skips_cells h top [] tally rows cols most inner rise fits = skips_give tally
skips_cells h top (e ∷ es) tally rows cols most inner rise fits =
    let y = tally_after tally (e ∷ es) in
    let in_row = inner.0.0 in let in_col = inner.0.1 in
    let rest = skips_cells h top es (tally_with tally e) rows cols most inner.1 rise.1 (omega arith) in
    let step : Skips (cells_behind h top (suc (length es)) tally) y
    (number_bytes w64 e.0.0 ++ (number_bytes w64 e.0.1 ++ (number_bytes w64 e.1 ++ cells_bytes es))) =
    skips_number w64 (2 ^ 64) wide64 e.0.0 _ y _ (omega arith)
    (skips_test (nat_le h.setup.rows e.0.0) BadBatch _ y _ (lt-leb h.setup.rows e.0.0 in_row)
    (skips_number w64 (2 ^ 64) wide64 e.0.1 _ y _ (omega arith)
    (skips_test (nat_le h.setup.cols e.0.1) BadBatch _ y _ (lt-leb h.setup.cols e.0.1 in_col)
    (skips_test (is_below e.0.0 e.0.1 tally.least_row tally.least_col) OutOfOrder _ y _ rise.0
    (skips_number w64 (2 ^ 64) wide64 e.1 _ y _ (omega arith)
    (skips_test (nat_lt top (tally.counted + e.1)) TotalDiffers _ y _
    (le-ltb top (tally.counted + e.1) (omega arith)) rest)))))) in
    subst (λ (l : List ℕ). Skips (cells_behind h top (suc (length es)) tally) y l)
    (sym (cell_joined e (cells_bytes es))) step
