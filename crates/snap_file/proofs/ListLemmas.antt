-- The batches that were read, their pairs, and the cells of one.
use Rattle.std.proofs.Common.{◌≡◌, ℕ, suc, Bool, true, false, cond, not, eqb, ◌&&◌, ◌||◌, List, [], ◌∷◌}
use Rattle.std.proofs.Common.{◌++◌, Result, refl, sym, ap, subst, ◌∙◌}
use Rattle.std.specs.Prelude.{◌==◌}
use Rattle.std.specs.List.{list_any}
use Rattle.std.specs.Ordering.{is_eq}
use Rattle.std.specs.BTreeSet.{BTreeSet, contains, Updates}
use Rattle.byte_io.specs.declared.fault.DeviceFault.{DeviceFault}
use Rattle.cells.specs.declared.cell.Cell.{Cell}
use Rattle.hyper_matrix.proofs.CellLaws.{same_place}
use Rattle.hyper_matrix.specs.Counts.{Counts}
use Rattle.hyper_matrix.specs.Cells.{built_of}
use Rattle.hyper_matrix.specs.Matrix.{Matrix, matrix}
use Rattle.batch_store.specs.Accepted.{accepted}
use Rattle.batch_store.specs.Batches.{Submission, submission}
use Rattle.batch_store.specs.declared.verdict.Entry.{Entry}
use Rattle.snap_file.specs.Spelling.{stands_in}
use Rattle.snap_file.specs.Table.{Reading, Tally, Progress, number, with_cells}
use Rattle.snap_file.specs.Table.{entry, entries_behind, batch, batches_behind, check_in}
use Rattle.snap_file.specs.Outcomes.{Task, ReaderState, HasJudged}
use Rattle.snap_file.specs.Lists.{pair_cmp, HasPairs}
use Rattle.snap_file.specs.declared.head.Head.{Head}
use Rattle.snap_file.proofs.Kept.{stands_more}

-- ---- pairs

chosen : (a b d : Bool) → cond (cond a b false) true d ≡ (d || (a && b))
chosen true true true = refl
chosen true true false = refl
chosen true false true = refl
chosen true false false = refl
chosen false b true = refl
chosen false b false = refl

pub pairs_noted : (old new : BTreeSet (ℕ × ℕ)) (client number : ℕ) → Updates pair_cmp old new (client, number) true →
    (es : List Entry) (e : Entry) →
    HasPairs old es → e.client ≡ client → e.number ≡ number → HasPairs new (es ++ e ∷ [])
pairs_noted old new client number u es e h is_client is_number c n =
    u.0 (c, n)
    ∙ ap (λ (t : Bool). cond t true (contains pair_cmp old (c, n))) (same_place client number c n)
    ∙ chosen (eqb client c) (eqb number n) (contains pair_cmp old (c, n))
    ∙ ap (λ (t : Bool). t || ((client == c) && (number == n))) (h c n)
    ∙ ap (λ (x : ℕ). stands_in c n es || ((x == c) && (number == n))) (sym is_client)
    ∙ ap (λ (x : ℕ). stands_in c n es || ((e.client == c) && (x == n))) (sym is_number)
    ∙ sym (stands_more c n es e)

pub pairs_none : (pairs : BTreeSet (ℕ × ℕ)) (es : List Entry) → pairs.keys ≡ [] → es ≡ [] → HasPairs pairs es
pairs_none pairs es none empty c n =
    ap (λ (l : List (ℕ × ℕ)). list_any (λ q. is_eq (pair_cmp (c, n) q)) l) none ∙ ap (stands_in c n) (sym empty)

-- ---- the cells of a matrix

abbrev pub tally_at : List Cell → ℕ → ℕ → ℕ → Tally
tally_at cells row col counted = record { cells = cells; least_row = row; least_col = col; counted = counted }

-- ---- batches

pub progress_is : (h : Head) (base : Counts) (folded : List Entry) (list : List Submission) (sum client number : ℕ)
    (t : Tally) (m : Matrix) (after : List Submission) (counted : ℕ) →
    m ≡ matrix h.setup.rows h.setup.cols (built_of t.cells) → t.counted ≡ counted →
    after ≡ list ++ submission client number m ∷ [] →
    ◌≡◌ {A = Progress} (with_cells h (record { state = accepted base folded list; counted = sum }) client number t)
    (record { state = accepted base folded after; counted = counted })
progress_is h base folded list sum client number t m after counted is counts pushed =
    let list_is : list ++ submission client number (matrix h.setup.rows h.setup.cols (built_of t.cells)) ∷ [] ≡
    after =
    ap (λ (x : Matrix). list ++ submission client number x ∷ []) (sym is) ∙ sym pushed in
    (λ i. record { state = accepted base folded (list_is i); counted = counts i })

batch_step : (h : Head) (n : ℕ) (p : Progress) (k : Progress → Reading) →
    batches_behind h (suc n) p k ≡ batch h p (λ q. check_in h.version (λ _. batches_behind h n q k))
unfolding batches_behind
batch_step h n p k = refl

batch_none : (h : Head) (p : Progress) (k : Progress → Reading) → batches_behind h 0 p k ≡ k p
unfolding batches_behind
batch_none h p k = refl

module _ {S : Type 0} (gives : S → Result (List ℕ) DeviceFault → S → Type 0) (failures : S → ℕ) (m : Task) (s t : S)
    (reader : ReaderState) (h : Head) (k : Progress → Reading) where
  pub batch_next : (left rest : ℕ) (p : Progress) → left ≡ suc rest →
      HasJudged gives failures m s t reader (batches_behind h left p k) →
      HasJudged gives failures m s t reader (batch h p (λ q. check_in h.version (λ _. batches_behind h rest q k)))
  batch_next left rest p e a = subst (λ (r : Reading). HasJudged gives failures m s t reader r)
      (ap (λ (i : ℕ). batches_behind h i p k) e ∙ batch_step h rest p k) a

  pub batch_last : (left : ℕ) (p : Progress) → left ≡ 0 → HasJudged gives failures m s t reader
      (batches_behind h left p k) → HasJudged gives failures m s t reader (k p)
  batch_last left p e a = subst (λ (r : Reading). HasJudged gives failures m s t reader r)
      (ap (λ (i : ℕ). batches_behind h i p k) e ∙ batch_none h p k) a

-- ---- the entries of folded batches

entry_step : (h : Head) (n : ℕ) (p : Progress) (k : Progress → Reading) →
    entries_behind h (suc n) p k ≡ entry h p (λ q. entries_behind h n q k)
unfolding entries_behind
entry_step h n p k = refl

entry_none : (h : Head) (p : Progress) (k : Progress → Reading) → entries_behind h 0 p k ≡ k p
unfolding entries_behind
entry_none h p k = refl

module _ {S : Type 0} (gives : S → Result (List ℕ) DeviceFault → S → Type 0) (failures : S → ℕ) (m : Task) (s t : S)
    (reader : ReaderState) (h : Head) (k : Progress → Reading) where
  pub entry_next : (left rest : ℕ) (p : Progress) → left ≡ suc rest →
      HasJudged gives failures m s t reader (entries_behind h left p k) →
      HasJudged gives failures m s t reader (entry h p (λ q. entries_behind h rest q k))
  entry_next left rest p e a = subst (λ (r : Reading). HasJudged gives failures m s t reader r)
      (ap (λ (i : ℕ). entries_behind h i p k) e ∙ entry_step h rest p k) a

  pub entry_last : (left : ℕ) (p : Progress) → left ≡ 0 → HasJudged gives failures m s t reader
      (entries_behind h left p k) → HasJudged gives failures m s t reader (k p)
  entry_last left p e a = subst (λ (r : Reading). HasJudged gives failures m s t reader r)
      (ap (λ (i : ℕ). entries_behind h i p k) e ∙ entry_none h p k) a

pub differ_tells : (a b : ℕ) (test : Bool) → test ≡ not (a == b) → not (a == b) ≡ test
differ_tells a b test e = sym e
