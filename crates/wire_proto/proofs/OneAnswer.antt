-- Over the engine of one thread each message has one answer, and leaves one state.
use Rattle.std.proofs.Common.{◌≡◌, ◌≢◌, ◌⊎◌, inl, inr, ℕ, ◌+◌, ◌<◌, ◌^◌, List, [], ◌∷◌, ◌++◌, refl, sym, ◌∙◌, ap, subst}
use Rattle.std.proofs.Common.{◌≤◌, arith, Some, Result, Ok, Err}
use Rattle.cells.specs.declared.cell.Cell.{Cell}
use Rattle.std.proofs.lemmas.Bool.{cases_lt}
use Rattle.std.proofs.lemmas.Option.{same_Some}
use Rattle.mm_text.specs.Texts.{Spells}
use Rattle.mm_text.proofs.OneFile.{one_file}
use Rattle.mm_text.proofs.OneFirst.{one_first}
use Rattle.mm_text.proofs.Faultless.{spells_faultless}
use Rattle.mm_laws.proofs.EveryText.{spells_or_faulty}
use Rattle.hyper_matrix.specs.Cells.{built_of, cell_total}
use Rattle.hyper_matrix.specs.Matrix.{Matrix, matrix}
use Rattle.std.specs.declared.alloc.AllocError.{AllocError}
use Rattle.batch_store.specs.Setups.{Setting}
use Rattle.batch_store.specs.Batches.{Submission, submission, batch_total}
use Rattle.batch_store.specs.Accepted.{Accepted, count_in, total_in, summed, folded_into}
use Rattle.batch_store.specs.Verdicts.{kept}
use Rattle.batch_store.specs.Lists.{RefusesList}
use Rattle.batch_store.specs.declared.fault.CellsFault.{CellsFault}
use Rattle.batch_store.specs.declared.fault.CellsFault.TheVariants as cells_fault
use Rattle.batch_store.proofs.ListLaws.{never_refused, one_fault, makes_or_refused}
use Rattle.batch_store.specs.declared.verdict.Verdict.{Verdict}
use Rattle.batch_store.specs.declared.verdict.Verdict.TheVariants as verdict
use Rattle.batch_store.specs.declared.verdict.Kept.{Kept}
use Rattle.plain_engine.specs.Object.{answer_of, state_after, verdict_in, answer_to, state_by, cell_of}
use Rattle.plain_engine.specs.Object.{row_sum_of, export_of, status_of}
use Rattle.plain_engine.specs.declared.fault.PutFault.{PutFault}
use Rattle.plain_engine.specs.declared.fault.PutFault.TheVariants as fault
use Rattle.wire_proto.specs.declared.keeper.PutRefusal.{PutRefusal}
use Rattle.wire_proto.specs.declared.keeper.PutRefusal.TheVariants.{Put as Refuses, LogFull, LogFailed}
use Rattle.wire_frames.specs.Frames.{Message}
use Rattle.wire_proto.specs.Keeping.{Event, put, cell, row, status, export, save, stored, stats, fold}
use Rattle.wire_proto.specs.Telling.{Telling}
use Rattle.wire_proto.specs.Replies.{put_reply, reply_of, refused}
use Rattle.wire_proto.specs.Answering.{put_limits, kind_number, PutsBatch, RefusesText, faulty, exceeds, too_large}
use Rattle.wire_proto.specs.Answering.{Answers, asked, unasked, of_sum, PutsCells, RefusesCells, too_many, outside, sum_passes}
use Rattle.wire_proto.specs.CellBytes.{cells_of}
use Rattle.wire_proto.specs.Plain.{PlainGives, IsAnswered, plain_told}
use Rattle.wire_proto.specs.declared.keeper.SaveRefusal.TheVariants.{SaveOff}
use Rattle.wire_proto.specs.declared.keeper.FoldRefusal.{FoldRefusal}
use Rattle.wire_proto.specs.declared.keeper.FoldRefusal.TheVariants as no_fold
use Rattle.wire_frames.specs.declared.request.Request.{Request}
use Rattle.wire_frames.specs.declared.request.Request.TheVariants.{Put, Cell as CellAt, Row, Status, Export, Save, Stop}
use Rattle.wire_frames.specs.declared.request.Request.TheVariants.{PutCells, Stored, Range, Top, Stats, Fold, Groups}
use Rattle.std.specs.FinMap.{entries, entries_sorted}
use Rattle.cell_queries.specs.Tallies.{tallies}
use Rattle.cell_queries.specs.Tops.{IsTop}
use Rattle.cell_queries.specs.declared.top.TopBy.{TopBy}
use Rattle.cell_queries.proofs.OneTop.{one_top}
use Rattle.cell_queries.proofs.GroupLaws.{groups_rise}
use Rattle.cell_queries.specs.Groups.{grouped}
use Rattle.cell_queries.specs.declared.groups.RowGroups.{RowGroups}
use Rattle.cell_queries.proofs.RowLaws.{rows_rise}
use Rattle.wire_proto.specs.Questions.{AreBounds, IsCount, range_between, by_number, range_reply, rows_reply, TellsTop}
use Rattle.wire_proto.specs.Questions.{AreRows, AreGroups, groups_of, TellsGroups}
use Rattle.wire_proto.proofs.HasTop.{has_top}

-- a text spells one file at most: its cells
same_cells : (bytes : List ℕ) (rows cols rows' cols' : ℕ) (cells cells' : List Cell) →
    Spells bytes put_limits rows cols cells → Spells bytes put_limits rows' cols' cells' → cells ≡ cells'
same_cells bytes rows cols rows' cols' cells cells' a b =
    (one_file bytes put_limits rows cols rows' cols' cells cells' a b).2

-- so it doesn't both pass a setup's rows or columns and fit them
never_exceeds : (setup : Setting) (bytes : List ℕ) (rows cols rows' cols' : ℕ) (cells cells' : List Cell) →
    Spells bytes put_limits rows cols cells → Spells bytes put_limits rows' cols' cells' →
    (setup.rows < rows) ⊎ (setup.cols < cols) → rows' ≤ setup.rows → cols' ≤ setup.cols → ⊥
never_exceeds setup bytes rows cols rows' cols' cells cells' a b (inl more) r c =
    let one = one_file bytes put_limits rows cols rows' cols' cells cells' a b in omega (arith, more, r, one.0)
never_exceeds setup bytes rows cols rows' cols' cells cells' a b (inr more) r c =
    let one = one_file bytes put_limits rows cols rows' cols' cells cells' a b in omega (arith, more, c, one.1)

pub one_batch : (setup : Setting) (client n : ℕ) (bytes : List ℕ) (b b' : Submission) →
    PutsBatch setup client n bytes b → PutsBatch setup client n bytes b' → b ≡ b'
one_batch setup client n bytes b b' p q =
    p.batch_is ∙ ap (λ cells. submission client n (matrix setup.rows setup.cols (built_of cells)))
    (same_cells bytes p.rows p.cols q.rows q.cols p.cells q.cells p.spells q.spells) ∙ sym q.batch_is

-- a text that makes a batch isn't refused
pub never_both : (setup : Setting) (client n : ℕ) (bytes : List ℕ) (b : Submission) (code detail : ℕ) →
    PutsBatch setup client n bytes b → RefusesText setup bytes code detail → ⊥
never_both setup client n bytes b code detail p
    (faulty kind line f i j) = spells_faultless bytes put_limits p.rows p.cols p.cells p.spells kind line f
never_both setup client n bytes b code detail p (exceeds rows cols cells s more i j) =
    never_exceeds setup bytes rows cols p.rows p.cols cells p.cells s p.spells more p.few_rows p.few_cols
never_both setup client n bytes b code detail p (too_large rows cols cells s x y l i j) =
    let e = ap cell_total (same_cells bytes rows cols p.rows p.cols cells p.cells s p.spells) in let fits = p.fits in
    omega (arith, l, fits, e)

-- a text has one refusal
one_refusal : (setup : Setting) (bytes : List ℕ) (code detail code' detail' : ℕ) → RefusesText setup bytes code detail →
    RefusesText setup bytes code' detail' → (code ≡ code') × (detail ≡ detail')
one_refusal setup bytes c d c' d' (faulty k l f i j) (faulty k' l' f' i' j') =
    let one = one_first bytes put_limits k k' l l' f f' in (
      i ∙ ap (λ x. 100 + kind_number x) one.0 ∙ sym i',
      j ∙
          one.1 ∙ sym j',
    )
one_refusal setup bytes c d c' d' (faulty k l f i j) (exceeds rows cols cells s n i' j') = absurd
    (spells_faultless bytes put_limits rows cols cells s k l f)
one_refusal setup bytes c d c' d' (faulty k l f i j) (too_large rows cols cells s x y n i' j') = absurd
    (spells_faultless bytes put_limits rows cols cells s k l f)
one_refusal setup bytes c d c' d' (exceeds rows cols cells s n i j) (faulty k l f i' j') = absurd
    (spells_faultless bytes put_limits rows cols cells s k l f)
one_refusal setup bytes c d c' d' (exceeds rows cols cells s n i j) (exceeds rows' cols' cells' s' n' i' j') =
    (i ∙ sym i', j ∙ sym j')
one_refusal setup bytes c d c' d' (exceeds rows cols cells s n i j) (too_large rows' cols' cells' s' x y n' i' j') =
    absurd (never_exceeds setup bytes rows cols rows' cols' cells cells' s s' n x y)
one_refusal setup bytes c d c' d' (too_large rows cols cells s x y n i j) (faulty k l f i' j') = absurd
    (spells_faultless bytes put_limits rows cols cells s k l f)
one_refusal setup bytes c d c' d' (too_large rows cols cells s x y n i j) (exceeds rows' cols' cells' s' n' i' j') =
    absurd (never_exceeds setup bytes rows' cols' rows cols cells' cells s' s n' x y)
one_refusal setup bytes c d c' d' (too_large rows cols cells s x y n i j)
    (too_large rows' cols' cells' s' x' y' n' i' j') = (i ∙ sym i', j ∙ sym j')

-- ---- cells
pub one_cells_batch : (setup : Setting) (client n : ℕ) (bytes : List ℕ) (b b' : Submission) →
    PutsCells setup client n bytes b → PutsCells setup client n bytes b' → b ≡ b'
one_cells_batch setup client n bytes b b' p q = p.batch_is ∙ sym q.batch_is

code_of_cells : CellsFault → ℕ
code_of_cells cells_fault.Memory = 1
code_of_cells cells_fault.TooManyCells = 23
code_of_cells (cells_fault.IndexOutOfRange at) = 22
code_of_cells cells_fault.SumTooLarge = 21

detail_of_cells : CellsFault → ℕ
detail_of_cells cells_fault.Memory = 0
detail_of_cells cells_fault.TooManyCells = 0
detail_of_cells (cells_fault.IndexOutOfRange at) = at
detail_of_cells cells_fault.SumTooLarge = 0

refuses_cells : (setup : Setting) (bytes : List ℕ) (f : CellsFault) → (f ≢ cells_fault.Memory) →
    RefusesList setup (cells_of bytes) f → RefusesCells setup bytes (code_of_cells f) (detail_of_cells f)
unfolding code_of_cells detail_of_cells
refuses_cells setup bytes cells_fault.Memory n h = absurd (n refl)
refuses_cells setup bytes cells_fault.TooManyCells n h = too_many h refl refl
refuses_cells setup bytes (cells_fault.IndexOutOfRange at) n h = outside at h refl refl
refuses_cells setup bytes cells_fault.SumTooLarge n h = sum_passes h refl refl

-- which fault of the list a refusal tells
fault_told : (setup : Setting) (bytes : List ℕ) (code detail : ℕ) → RefusesCells setup bytes code detail →
    (f : CellsFault) × (f ≢ cells_fault.Memory) × RefusesList setup (cells_of bytes) f × (code ≡ code_of_cells f)
    × (detail ≡ detail_of_cells f)
unfolding code_of_cells detail_of_cells
fault_told setup bytes code detail (too_many h i j) = (cells_fault.TooManyCells, (λ e. cc), h, i, j)
fault_told setup bytes code detail (outside at h i j) = (cells_fault.IndexOutOfRange at, (λ e. cc), h, i, j)
fault_told setup bytes code detail (sum_passes h i j) = (cells_fault.SumTooLarge, (λ e. cc), h, i, j)

pub never_both_cells : (setup : Setting) (client n : ℕ) (bytes : List ℕ) (b : Submission) (code detail : ℕ) →
    PutsCells setup client n bytes b → RefusesCells setup bytes code detail → ⊥
never_both_cells setup client n bytes b code detail p r =
    let f = fault_told setup bytes code detail r in never_refused setup (cells_of bytes) f.0 p.makes f.1 f.2

one_cells_refusal : (setup : Setting) (bytes : List ℕ) (code detail code' detail' : ℕ) →
    RefusesCells setup bytes code detail → RefusesCells setup bytes code' detail' →
    (code ≡ code') × (detail ≡ detail')
one_cells_refusal setup bytes code detail code' detail' r r' =
    let f = fault_told setup bytes code detail r in let g = fault_told setup bytes code' detail' r' in
    let one = one_fault setup (cells_of bytes) f.0 g.0 f.2 g.1 g.2 in
    (f.3 ∙ ap code_of_cells one ∙ sym g.3, f.4 ∙ ap detail_of_cells one ∙ sym g.4)

-- a put that is replied to is the object's
abbrev pub told : Result Kept PutFault → Result Kept PutRefusal
told (Ok k) = Ok k
told (Err f) = Err (Refuses f)

pub put_is : (v : Setting) (state : Accepted) (b : Submission) (answer : Result Kept PutRefusal)
    (t : Accepted) (w : List ℕ) →
    PlainGives v state (put b answer) t → put_reply answer ≡ Some w →
    (answer ≡ told (answer_of v state b)) × (t ≡ state_after v state b)
put_is v state b (Ok k) t w h e = (ap told h.0, h.1)
put_is v state b (Err (Refuses fault.Memory)) t w h e = absurd (cc)
put_is v state b (Err (Refuses fault.NumberReused)) t w h e = (ap told h.0, h.1)
put_is v state b (Err (Refuses (fault.OverTotal total))) t w h e = (ap told h.0, h.1)
put_is v state b (Err (Refuses fault.BookFull)) t w h e = (ap told h.0, h.1)
put_is v state b (Err (Refuses fault.RecordsDiffer)) t w h e = (ap told h.0, h.1)
put_is v state b (Err LogFull) t w h e = absurd h
put_is v state b (Err LogFailed) t w h e = absurd h

abbrev Same : List ℕ → List ℕ → Accepted → Accepted → Type 0
Same w w' t t' = (w ≡ w') × (t ≡ t')

-- of one event, one reply
event_once : (v : Setting) (state : Accepted) (e e' : Event) (w w' : List ℕ) (t t' : Accepted) → e ≡ e' →
    t ≡ t' →
    reply_of e ≡ Some w → reply_of e' ≡ Some w' → Same w w' t t'
event_once v state e e' w w' t t' i j h k = (same_Some w w' (sym h ∙ ap reply_of i ∙ k), j)

-- an exported matrix that is replied to is the object's
export_is : (v : Setting) (state : Accepted) (a : Result Matrix AllocError) (t : Accepted) (w : List ℕ) →
    PlainGives v state (export a) t → reply_of (export a) ≡ Some w → (a ≡ Ok (export_of v state)) × (t ≡ state)
export_is v state (Ok m) t w h e = (ap (λ x. Ok x) h.0, h.1)
export_is v state (Err x) t w h e = absurd (cc)

-- so are the numbers
told_is : (v : Setting) (state : Accepted) (a : Result Telling AllocError) (t : Accepted) (w : List ℕ) →
    PlainGives v state (stats a) t → reply_of (stats a) ≡ Some w → (a ≡ Ok (plain_told v state)) × (t ≡ state)
told_is v state (Ok told) t w h i = (ap (λ x. Ok x) h.0, h.1)
told_is v state (Err e) t w h i = absurd (cc)

-- a fold that is replied to has folded all
fold_is : (v : Setting) (state : Accepted) (a : Result ℕ FoldRefusal) (t : Accepted) (w : List ℕ) →
    PlainGives v state (fold a) t → reply_of (fold a) ≡ Some w →
    (a ≡ Ok (count_in state)) × (t ≡ folded_into (summed state) state)
fold_is v state (Ok n) t w h i = (ap (λ x. Ok x) h.0, h.1)
fold_is v state (Err refusal) t w h i =
    let none = subst (λ (x : FoldRefusal). reply_of (fold (Err x)) ≡ Some w) h.0 i in absurd (cc)

-- of puts of one batch, one reply
one_put : (v : Setting) (state : Accepted) (e e' : Event) (b b' : Submission) (a a' : Result Kept PutRefusal)
    (w w' : List ℕ) (t t' : Accepted) → b ≡ b' → e ≡ put b a → e' ≡ put b' a' → PlainGives v state e t →
    PlainGives v state e' t' → reply_of e ≡ Some w → reply_of e' ≡ Some w' → Same w w' t t'
one_put v state e e' b b' a a' w w' t t' same ev ev' h h' i i' =
    let one = put_is v state b a t w (subst (λ x. PlainGives v state x t) ev h)
    (subst (λ x. reply_of x ≡ Some w) ev i) in
    let two = put_is v state b' a' t' w' (subst (λ x. PlainGives v state x t') ev' h')
    (subst (λ x. reply_of x ≡ Some w') ev' i') in
    let answers = one.0 ∙ ap (λ x. told (answer_of v state x)) same ∙ sym two.0 in
    event_once v state e e' w w' t t' (ev ∙ ap (λ x. put x a) same ∙ ap (λ x. put b' x) answers ∙ sym ev')
    (one.1 ∙ ap (state_after v state) same ∙ sym two.1) i i'

-- where the sum wasn't had there is no reply
lacks : (e : Event) (lack : AllocError) (w : List ℕ) → e ≡ export (Err lack) → reply_of e ≡ Some w → ⊥
lacks e lack w is h = let none = subst (λ x. reply_of x ≡ Some w) is h in cc

-- of one sum, one top
one_telling : (by : TopBy) (most : ℕ) (m m' : Matrix) (w w' : List ℕ) → m ≡ m' → TellsTop by most m w →
    TellsTop by most m' w' → w ≡ w'
one_telling by most m m' w w' e a b =
    let first = subst (λ (x : Matrix). IsTop by most (tallies (entries x.counts)) a.0) e a.1 in
    a.2 ∙ ap rows_reply (one_top by most (tallies (entries m'.counts)) a.0 b.0
    (rows_rise (entries m'.counts) (entries_sorted m'.counts)) first b.1) ∙ sym b.2

one_of_groups : (by : TopBy) (g : RowGroups) (most : ℕ) (m m' : Matrix) (w w' : List ℕ) → m ≡ m' →
    TellsGroups by g most m w → TellsGroups by g most m' w' → w ≡ w'
one_of_groups by g most m m' w w' e a b =
    let first = subst (λ (x : Matrix). IsTop by most (tallies (grouped g (entries x.counts))) a.0) e a.1 in
    a.2 ∙ ap rows_reply (one_top by most (tallies (grouped g (entries m'.counts))) a.0 b.0
    (groups_rise g (entries m'.counts) (entries_sorted m'.counts)) first b.1) ∙ sym b.2

pub one_answer : (v : Setting) (state : Accepted) (r : Request) (w w' : List ℕ) (t t' : Accepted) →
    Answers (PlainGives v) v r w state t → Answers (PlainGives v) v r w' state t' → Same w w' t t'
one_answer v state (Put c n bytes) w w' t t' (asked e a h i) (asked e' a' h' i') =
    one_put v state e e' a.0 a'.0 a.1 a'.1 w w' t t' (one_batch v c n bytes a.0 a'.0 a.2 a'.2) a.3 a'.3 h h' i i'
one_answer v state (Put c n bytes) w w' t t' (asked e a h i) (unasked a' i') = absurd
    (never_both v c n bytes a.0 a'.0 a'.1 a.2 a'.2)
one_answer v state (Put c n bytes) w w' t t' (unasked a i) (asked e' a' h' i') = absurd
    (never_both v c n bytes a'.0 a.0 a.1 a'.2 a.2)
one_answer v state (Put c n bytes) w w' t t' (unasked a i) (unasked a' i') =
    let one = one_refusal v bytes a.0 a.1 a'.0 a'.1 a.2 a'.2 in
    (a.3 ∙ ap (λ x. refused x a.1) one.0 ∙ ap (λ x. refused a'.0 x) one.1 ∙ sym a'.3, i ∙ sym i')
one_answer v state (CellAt r c) w w' t t' (asked e a h i) (asked e' a' h' i') =
    let g = subst (λ x. PlainGives v state x t) a.3 h in let g' = subst (λ x. PlainGives v state x t') a'.3 h' in
    event_once v state e e' w w' t t' (a.3 ∙ ap (cell r c) (g.0 ∙ sym g'.0) ∙ sym a'.3) (g.1 ∙ sym g'.1) i i'
one_answer v state (CellAt r c) w w' t t' (asked e a h i) (unasked a' i') = absurd (a'.0 (a.1, a.2))
one_answer v state (CellAt r c) w w' t t' (unasked a i) (asked e' a' h' i') = absurd (a.0 (a'.1, a'.2))
one_answer v state (CellAt r c) w w' t t' (unasked a i) (unasked a' i') = (a.1 ∙ sym a'.1, i ∙ sym i')
one_answer v state (Row r) w w' t t' (asked e a h i) (asked e' a' h' i') =
    let g = subst (λ x. PlainGives v state x t) a.2 h in let g' = subst (λ x. PlainGives v state x t') a'.2 h' in
    event_once v state e e' w w' t t' (a.2 ∙ ap (row r) (g.0 ∙ sym g'.0) ∙ sym a'.2) (g.1 ∙ sym g'.1) i i'
one_answer v state (Row r) w w' t t' (asked e a h i) (unasked a' i') = absurd (a'.0 a.1)
one_answer v state (Row r) w w' t t' (unasked a i) (asked e' a' h' i') = absurd (a.0 a'.1)
one_answer v state (Row r) w w' t t' (unasked a i) (unasked a' i') = (a.1 ∙ sym a'.1, i ∙ sym i')
one_answer v state Status w w' t t' (asked e a h i) (asked e' a' h' i') =
    let g = subst (λ x. PlainGives v state x t) a.1 h in let g' = subst (λ x. PlainGives v state x t') a'.1 h' in
    event_once v state e e' w w' t t' (a.1 ∙ ap status (g.0 ∙ sym g'.0) ∙ sym a'.1) (g.1 ∙ sym g'.1) i i'
one_answer v state Status w w' t t' (asked e a h i) (unasked a' i') = absurd a'
one_answer v state Status w w' t t' (unasked a i) other = absurd a
one_answer v state Export w w' t t' (asked e a h i) (asked e' a' h' i') =
    let g = export_is v state a.0 t w (subst (λ x. PlainGives v state x t) a.1 h)
    (subst (λ x. reply_of x ≡ Some w) a.1 i) in
    let g' = export_is v state a'.0 t' w' (subst (λ x. PlainGives v state x t') a'.1 h')
    (subst (λ x. reply_of x ≡ Some w') a'.1 i') in
    event_once v state e e' w w' t t' (a.1 ∙ ap export (g.0 ∙ sym g'.0) ∙ sym a'.1) (g.1 ∙ sym g'.1) i i'
one_answer v state Export w w' t t' (asked e a h i) (unasked a' i') = absurd a'
one_answer v state Export w w' t t' (unasked a i) other = absurd a
one_answer v state Save w w' t t' (asked e a h i) (asked e' a' h' i') =
    let g = subst (λ x. PlainGives v state x t) a.1 h in let g' = subst (λ x. PlainGives v state x t') a'.1 h' in
    event_once v state e e' w w' t t' (a.1 ∙ ap save (g.0 ∙ sym g'.0) ∙ sym a'.1) (g.1 ∙ sym g'.1) i i'
one_answer v state Save w w' t t' (asked e a h i) (unasked a' i') = absurd a'
one_answer v state Save w w' t t' (unasked a i) other = absurd a
one_answer v state Stored w w' t t' (asked e a h i) (asked e' a' h' i') =
    let g = subst (λ x. PlainGives v state x t) a.1 h in let g' = subst (λ x. PlainGives v state x t') a'.1 h' in
    event_once v state e e' w w' t t' (a.1 ∙ ap stored (g.0 ∙ sym g'.0) ∙ sym a'.1) (g.1 ∙ sym g'.1) i i'
one_answer v state Stored w w' t t' (asked e a h i) (unasked a' i') = absurd a'
one_answer v state Stored w w' t t' (unasked a i) other = absurd a
one_answer v state Stats w w' t t' (asked e a h i) (asked e' a' h' i') =
    let g = told_is v state a.0 t w (subst (λ x. PlainGives v state x t) a.1 h)
    (subst (λ x. reply_of x ≡ Some w) a.1 i) in
    let g' = told_is v state a'.0 t' w' (subst (λ x. PlainGives v state x t') a'.1 h')
    (subst (λ x. reply_of x ≡ Some w') a'.1 i') in
    event_once v state e e' w w' t t' (a.1 ∙ ap stats (g.0 ∙ sym g'.0) ∙ sym a'.1) (g.1 ∙ sym g'.1) i i'
one_answer v state Stats w w' t t' (asked e a h i) (unasked a' i') = absurd a'
one_answer v state Stats w w' t t' (unasked a i) other = absurd a
one_answer v state Fold w w' t t' (asked e a h i) (asked e' a' h' i') =
    let g = fold_is v state a.0 t w (subst (λ x. PlainGives v state x t) a.1 h)
    (subst (λ x. reply_of x ≡ Some w) a.1 i) in
    let g' = fold_is v state a'.0 t' w' (subst (λ x. PlainGives v state x t') a'.1 h')
    (subst (λ x. reply_of x ≡ Some w') a'.1 i') in
    event_once v state e e' w w' t t' (a.1 ∙ ap fold (g.0 ∙ sym g'.0) ∙ sym a'.1) (g.1 ∙ sym g'.1) i i'
one_answer v state Fold w w' t t' (asked e a h i) (unasked a' i') = absurd a'
one_answer v state Fold w w' t t' (unasked a i) other = absurd a
one_answer v state Fold w w' t t' (of_sum m b g) other = absurd b
one_answer v state Fold w w' t t' (asked e a h i) (of_sum m b g) = absurd b
one_answer v state Stop w w' t t' (asked e a h i) other = absurd a
one_answer v state Stop w w' t t' (unasked a i) other = absurd a
one_answer v state (PutCells c n bytes) w w' t t' (asked e a h i) (asked e' a' h' i') =
    one_put v state e e' a.0 a'.0 a.1 a'.1 w w' t t' (one_cells_batch v c n bytes a.0 a'.0 a.2 a'.2) a.3 a'.3 h h' i i'
one_answer v state (PutCells c n bytes) w w' t t' (asked e a h i) (unasked a' i') = absurd
    (never_both_cells v c n bytes a.0 a'.0 a'.1 a.2 a'.2)
one_answer v state (PutCells c n bytes) w w' t t' (unasked a i) (asked e' a' h' i') = absurd
    (never_both_cells v c n bytes a'.0 a.0 a.1 a'.2 a.2)
one_answer v state (PutCells c n bytes) w w' t t' (unasked a i) (unasked a' i') =
    let one = one_cells_refusal v bytes a.0 a.1 a'.0 a'.1 a.2 a'.2 in
    (a.3 ∙ ap (λ x. refused x a.1) one.0 ∙ ap (λ x. refused a'.0 x) one.1 ∙ sym a'.3, i ∙ sym i')
one_answer v state (Put c n bytes) w w' t t' (of_sum m b g) other = absurd b
one_answer v state (Put c n bytes) w w' t t' (asked e a h i) (of_sum m b g) = absurd b
one_answer v state (Put c n bytes) w w' t t' (unasked a i) (of_sum m b g) = absurd b
one_answer v state (PutCells c n bytes) w w' t t' (of_sum m b g) other = absurd b
one_answer v state (PutCells c n bytes) w w' t t' (asked e a h i) (of_sum m b g) = absurd b
one_answer v state (PutCells c n bytes) w w' t t' (unasked a i) (of_sum m b g) = absurd b
one_answer v state (CellAt r c) w w' t t' (of_sum m b g) other = absurd b
one_answer v state (CellAt r c) w w' t t' (asked e a h i) (of_sum m b g) = absurd b
one_answer v state (CellAt r c) w w' t t' (unasked a i) (of_sum m b g) = absurd b
one_answer v state (Row r) w w' t t' (of_sum m b g) other = absurd b
one_answer v state (Row r) w w' t t' (asked e a h i) (of_sum m b g) = absurd b
one_answer v state (Row r) w w' t t' (unasked a i) (of_sum m b g) = absurd b
one_answer v state Status w w' t t' (of_sum m b g) other = absurd b
one_answer v state Status w w' t t' (asked e a h i) (of_sum m b g) = absurd b
one_answer v state Export w w' t t' (of_sum m b g) other = absurd b
one_answer v state Export w w' t t' (asked e a h i) (of_sum m b g) = absurd b
one_answer v state Save w w' t t' (of_sum m b g) other = absurd b
one_answer v state Save w w' t t' (asked e a h i) (of_sum m b g) = absurd b
one_answer v state Stored w w' t t' (of_sum m b g) other = absurd b
one_answer v state Stored w w' t t' (asked e a h i) (of_sum m b g) = absurd b
one_answer v state Stats w w' t t' (of_sum m b g) other = absurd b
one_answer v state Stats w w' t t' (asked e a h i) (of_sum m b g) = absurd b
one_answer v state Stop w w' t t' (of_sum m b g) other = absurd b
one_answer v state (Range x y z n) w w' t t' (asked e a h i) other = absurd (lacks e a.2 w a.3 i)
one_answer v state (Range x y z n) w w' t t' (unasked a i) (asked e' a' h' i') = absurd (lacks e' a'.2 w' a'.3 i')
one_answer v state (Range x y z n) w w' t t' (of_sum m b g) (asked e' a' h' i') = absurd (lacks e' a'.2 w' a'.3 i')
one_answer v state (Range x y z n) w w' t t' (unasked (inl a) i) (unasked (inl a') i') = (a.1 ∙ sym a'.1, i ∙ sym i')
one_answer v state (Range x y z n) w w' t t' (unasked (inl a) i) (unasked (inr a') i') = absurd (a.0 a'.0)
one_answer v state (Range x y z n) w w' t t' (unasked (inr a) i) (unasked (inl a') i') = absurd (a'.0 a.0)
one_answer v state (Range x y z n) w w' t t' (unasked (inr a) i) (unasked (inr a') i') = (a.2 ∙ sym a'.2, i ∙ sym i')
one_answer v state (Range x y z n) w w' t t' (unasked (inl a) i) (of_sum m b g) = absurd (a.0 b.0)
one_answer v state (Range x y z n) w w' t t' (unasked (inr a) i) (of_sum m b g) = absurd (a.1 b.1)
one_answer v state (Range x y z n) w w' t t' (of_sum m b g) (unasked (inl a) i) = absurd (a.0 b.0)
one_answer v state (Range x y z n) w w' t t' (of_sum m b g) (unasked (inr a) i) = absurd (a.1 b.1)
one_answer v state (Range x y z n) w w' t t' (of_sum m b g) (of_sum m' b' g') = (
  b.2 ∙ ap (range_reply (range_between x y z) n) (g.0 ∙ sym g'.0) ∙ sym b'.2,
  g.1 ∙ sym g'.1,
)
one_answer v state (Groups x s n r) w w' t t' (asked e a h i) other = absurd (lacks e a.2 w a.3 i)
one_answer v state (Groups x s n r) w w' t t' (unasked a i) (asked e' a' h' i') = absurd (lacks e' a'.2 w' a'.3 i')
one_answer v state (Groups x s n r) w w' t t' (of_sum m b g) (asked e' a' h' i') = absurd (lacks e' a'.2 w' a'.3 i')
one_answer v state (Groups x s n r) w w' t t' (unasked (inl a) i) (unasked (inl a') i') = (a.1 ∙ sym a'.1, i ∙ sym i')
one_answer v state (Groups x s n r) w w' t t' (unasked (inl a) i) (unasked (inr a') i') = absurd (a.0 a'.0)
one_answer v state (Groups x s n r) w w' t t' (unasked (inr a) i) (unasked (inl a') i') = absurd (a'.0 a.0)
one_answer v state (Groups x s n r) w w' t t' (unasked (inr a) i) (unasked (inr a') i') = (a.2 ∙ sym a'.2, i ∙ sym i')
one_answer v state (Groups x s n r) w w' t t' (unasked (inl a) i) (of_sum m b g) = absurd (a.0 b.0)
one_answer v state (Groups x s n r) w w' t t' (unasked (inr a) i) (of_sum m b g) = absurd (a.1 b.1)
one_answer v state (Groups x s n r) w w' t t' (of_sum m b g) (unasked (inl a) i) = absurd (a.0 b.0)
one_answer v state (Groups x s n r) w w' t t' (of_sum m b g) (unasked (inr a) i) = absurd (a.1 b.1)
one_answer v state (Groups x s n r) w w' t t' (of_sum m b g) (of_sum m' b' g') = (
  one_of_groups (by_number x) (groups_of r s) n m m' w w' (g.0 ∙ sym g'.0) b.2 b'.2,
  g.1 ∙ sym g'.1,
)
one_answer v state (Top x n) w w' t t' (asked e a h i) other = absurd (lacks e a.2 w a.3 i)
one_answer v state (Top x n) w w' t t' (unasked a i) (asked e' a' h' i') = absurd (lacks e' a'.2 w' a'.3 i')
one_answer v state (Top x n) w w' t t' (of_sum m b g) (asked e' a' h' i') = absurd (lacks e' a'.2 w' a'.3 i')
one_answer v state (Top x n) w w' t t' (unasked a i) (unasked a' i') = (a.1 ∙ sym a'.1, i ∙ sym i')
one_answer v state (Top x n) w w' t t' (unasked a i) (of_sum m b g) = absurd (a.0 (b.0, b.1))
one_answer v state (Top x n) w w' t t' (of_sum m b g) (unasked a i) = absurd (a.0 (b.0, b.1))
one_answer v state (Top x n) w w' t t' (of_sum m b g) (of_sum m' b' g') = (
  one_telling (by_number x) n m m' w w' (g.0 ∙ sym g'.0) b.2 b'.2,
  g.1 ∙ sym g'.1,
)

-- messages one after another
then_one : (v : Setting) (state : Accepted) (r : Request) (ms : List Message) (w w' : List ℕ)
    (t t' : Accepted) →
    ((m : Accepted) (x x' : List ℕ) → IsAnswered v m ms x t → IsAnswered v m ms x' t' → Same x x' t t') →
    (m : Accepted) × (reply : List ℕ) × (more : List ℕ) × Answers (PlainGives v) v r reply state m ×
    (w ≡ reply ++ more) × IsAnswered v m ms more t →
    (m : Accepted) × (reply : List ℕ) × (more : List ℕ) × Answers (PlainGives v) v r reply state m ×
    (w' ≡ reply ++ more) × IsAnswered v m ms more t' →
    Same w w' t t'
then_one v state r ms w w' t t' again a b =
    let one = one_answer v state r a.1 b.1 a.0 b.0 a.3 b.3 in
    let more = again b.0 a.2 b.2 (subst (λ m. IsAnswered v m ms a.2 t) one.1 a.5) b.5 in
    (a.4 ∙ ap (λ x. x ++ a.2) one.0 ∙ ap (λ x. b.1 ++ x) more.0 ∙ sym b.4, more.1)

pub answered_once : (v : Setting) (state : Accepted) (ms : List Message) (w w' : List ℕ)
    (t t' : Accepted) →
    IsAnswered v state ms w t → IsAnswered v state ms w' t' → Same w w' t t'
answered_once v state [] w w' t t' a b = (a.0 ∙ sym b.0, a.1 ∙ sym b.1)
answered_once v state (Ok Stop ∷ ms) w w' t t' a b = (a.0 ∙ sym b.0, a.1 ∙ sym b.1)
answered_once v state (Err f ∷ ms) w w' t t' a b = (a.0 ∙ sym b.0, a.1 ∙ sym b.1)
answered_once v state (Ok (Put x y z) ∷ ms) w w' t t' a b = then_one v state (Put x y z) ms w w' t t'
    (λ m p q c d. answered_once v m ms p q t t' c d) a b
answered_once v state (Ok (CellAt x y) ∷ ms) w w' t t' a b = then_one v state (CellAt x y) ms w w' t t'
    (λ m p q c d. answered_once v m ms p q t t' c d) a b
answered_once v state (Ok (Row x) ∷ ms) w w' t t' a b = then_one v state (Row x) ms w w' t t'
    (λ m p q c d. answered_once v m ms p q t t' c d) a b
answered_once v state (Ok Status ∷ ms) w w' t t' a b = then_one v state Status ms w w' t t'
    (λ m p q c d. answered_once v m ms p q t t' c d) a b
answered_once v state (Ok Export ∷ ms) w w' t t' a b = then_one v state Export ms w w' t t'
    (λ m p q c d. answered_once v m ms p q t t' c d) a b
answered_once v state (Ok Save ∷ ms) w w' t t' a b = then_one v state Save ms w w' t t'
    (λ m p q c d. answered_once v m ms p q t t' c d) a b
answered_once v state (Ok Stored ∷ ms) w w' t t' a b = then_one v state Stored ms w w' t t'
    (λ m p q c d. answered_once v m ms p q t t' c d) a b
answered_once v state (Ok (PutCells x y z) ∷ ms) w w' t t' a b = then_one v state (PutCells x y z) ms w w' t t'
    (λ m p q c d. answered_once v m ms p q t t' c d) a b
answered_once v state (Ok (Range x y z n) ∷ ms) w w' t t' a b = then_one v state (Range x y z n) ms w w' t t'
    (λ m p q c d. answered_once v m ms p q t t' c d) a b
answered_once v state (Ok (Groups x s n r) ∷ ms) w w' t t' a b = then_one v state (Groups x s n r) ms w w' t t'
    (λ m p q c d. answered_once v m ms p q t t' c d) a b
answered_once v state (Ok (Top x n) ∷ ms) w w' t t' a b = then_one v state (Top x n) ms w w' t t'
    (λ m p q c d. answered_once v m ms p q t t' c d) a b
answered_once v state (Ok Stats ∷ ms) w w' t t' a b = then_one v state Stats ms w w' t t'
    (λ m p q c d. answered_once v m ms p q t t' c d) a b
answered_once v state (Ok Fold ∷ ms) w w' t t' a b = then_one v state Fold ms w w' t t'
    (λ m p q c d. answered_once v m ms p q t t' c d) a b

-- ---- and there is one
abbrev HasAnswer : Setting → Accepted → Request → Type 0
HasAnswer v state r = (w : List ℕ) × (t : Accepted) × Answers (PlainGives v) v r w state t

by_verdict : (v : Setting) (state : Accepted) (b : Submission) (vd : Verdict) → verdict_in v state b ≡ vd →
    (w : List ℕ) × (t : Accepted) × (a : Result Kept PutRefusal) × PlainGives v state (put b a) t ×
    (put_reply a ≡ Some w)
by_verdict v state b verdict.Fresh e = (
  _,
  _,
  Ok (kept (count_in state) (total_in state + batch_total b)),
  (ap (answer_to state b) (sym e), ap (state_by state b) (sym e)),
  refl,
)
by_verdict v state b (verdict.Known k) e = (
  _,
  _,
  Ok k,
  (ap (answer_to state b) (sym e), ap (state_by state b) (sym e)),
  refl,
)
by_verdict v state b verdict.NumberReused e = (
  _,
  _,
  Err (Refuses fault.NumberReused),
  (ap (answer_to state b) (sym e), ap (state_by state b) (sym e)),
  refl,
)
by_verdict v state b (verdict.OverTotal total) e = (
  _,
  _,
  Err (Refuses (fault.OverTotal total)),
  (ap (answer_to state b) (sym e), ap (state_by state b) (sym e)),
  refl,
)
by_verdict v state b verdict.BookFull e = (
  _,
  _,
  Err (Refuses fault.BookFull),
  (ap (answer_to state b) (sym e), ap (state_by state b) (sym e)),
  refl,
)

refuses : (v : Setting) (state : Accepted) (c n : ℕ) (bytes : List ℕ) (code detail : ℕ) →
    RefusesText v bytes code detail → HasAnswer v state (Put c n bytes)
refuses v state c n bytes code detail h = (refused code detail, state, unasked (code, detail, h, refl) refl)

puts : (v : Setting) (state : Accepted) (c n : ℕ) (bytes : List ℕ) (rows cols : ℕ) (cells : List Cell) →
    Spells bytes put_limits rows cols cells → rows ≤ v.rows → cols ≤ v.cols → cell_total cells < 2 ^ 64 →
    HasAnswer v state (Put c n bytes)
puts v state c n bytes rows cols cells s x y fits =
    let b = submission c n (matrix v.rows v.cols (built_of cells)) in
    let p : PutsBatch v c n bytes b = record {
      rows = rows;
      cols = cols;
      cells = cells;
      spells = s;
      few_rows = x;
      few_cols = y;
      fits = fits;
      batch_is = refl;
    } in
    let h = by_verdict v state b (verdict_in v state b) refl in
    (h.0, h.1, asked (put b h.2) (b, h.2, p, refl) h.3 h.4)

of_spelled : (v : Setting) (state : Accepted) (c n : ℕ) (bytes : List ℕ) (rows cols : ℕ) (cells : List Cell) →
    Spells bytes put_limits rows cols cells → HasAnswer v state (Put c n bytes)
of_spelled v state c n bytes rows cols cells s = elim (cases_lt v.rows rows) [
  | inl more ↦ refuses v state c n bytes 20 0 (exceeds rows cols cells s (inl more) refl refl)
  | inr x ↦ elim (cases_lt v.cols cols) [
    | inl more ↦ refuses v state c n bytes 20 0 (exceeds rows cols cells s (inr more) refl refl)
    | inr y ↦ elim (cases_lt (cell_total cells) (2 ^ 64)) [
      | inl small ↦ puts v state c n bytes rows cols cells s x y small
      | inr large ↦ refuses v state c n bytes 21 0 (too_large rows cols cells s x y large refl refl)
    ]
  ]
]

has_put : (v : Setting) (state : Accepted) (c n : ℕ) (bytes : List ℕ) → HasAnswer v state (Put c n bytes)
has_put v state c n bytes = elim (spells_or_faulty bytes put_limits) [
  | inl h ↦ of_spelled v state c n bytes h.0 h.1 h.2 h.3
  | inr h ↦ refuses v state c n bytes (100 + kind_number h.0) h.1 (faulty h.0 h.1 h.2 refl refl)
]

-- the same of a list of cells
has_cells : (v : Setting) (state : Accepted) (c n : ℕ) (bytes : List ℕ) → HasAnswer v state (PutCells c n bytes)
has_cells v state c n bytes = elim (makes_or_refused v (cells_of bytes)) [
  | inl m ↦
      let b = submission c n (matrix v.rows v.cols (built_of (cells_of bytes))) in
      let p : PutsCells v c n bytes b = record { makes = m; batch_is = refl } in
      let h = by_verdict v state b (verdict_in v state b) refl in
      (h.0, h.1, asked (put b h.2) (b, h.2, p, refl) h.3 h.4)
  | inr r ↦ (
    refused (code_of_cells r.0) (detail_of_cells r.0),
    state,
    unasked (code_of_cells r.0, detail_of_cells r.0, refuses_cells v bytes r.0 r.1 r.2, refl) refl,
  )
]

has_cell : (v : Setting) (state : Accepted) (r c : ℕ) → HasAnswer v state (CellAt r c)
has_cell v state r c = elim (cases_lt r v.rows) [
  | inl a ↦ elim (cases_lt c v.cols) [
    | inl b ↦ (_, state, asked (cell r c (cell_of state r c)) (_, a, b, refl) (refl, refl) refl)
    | inr b ↦ (_, state, unasked ((λ h. let k = h.1 in omega (arith, b, k)), refl) refl)
  ]
  | inr a ↦ (_, state, unasked ((λ h. let k = h.0 in omega (arith, a, k)), refl) refl)
]

has_row : (v : Setting) (state : Accepted) (r : ℕ) → HasAnswer v state (Row r)
has_row v state r = elim (cases_lt r v.rows) [
  | inl a ↦ (_, state, asked (row r (row_sum_of state r)) (_, a, refl) (refl, refl) refl)
  | inr a ↦ (_, state, unasked ((λ h. omega (arith, a, h)), refl) refl)
]

bounds_or_not : (v : Setting) (rows cols : ℕ × ℕ) → AreBounds v rows cols ⊎ (AreBounds v rows cols → ⊥)
bounds_or_not v rows cols = elim (cases_lt rows.1 rows.0) [
  | inl a ↦ inr (λ h. let k = h.rows_rise in omega (arith, a, k))
  | inr a ↦ elim (cases_lt rows.1 v.rows) [
    | inr b ↦ inr (λ h. let k = h.rows_within in omega (arith, b, k))
    | inl b ↦ elim (cases_lt cols.1 cols.0) [
      | inl c ↦ inr (λ h. let k = h.cols_rise in omega (arith, c, k))
      | inr c ↦ elim (cases_lt cols.1 v.cols) [
        | inr d ↦ inr (λ h. let k = h.cols_within in omega (arith, d, k))
        | inl d ↦ inl (record { rows_rise = a; rows_within = b; cols_rise = c; cols_within = d })
      ]
    ]
  ]
]

count_or_not : (most : ℕ) → IsCount most ⊎ (IsCount most → ⊥)
count_or_not most = elim (cases_lt 0 most) [
  | inr a ↦ inr (λ h. let k = h.0 in omega (arith, a, k))
  | inl a ↦ elim (cases_lt 1000000 most) [
    | inl b ↦ inr (λ h. let k = h.1 in omega (arith, b, k))
    | inr b ↦ inl (omega (arith, a), b)
  ]
]

has_range : (v : Setting) (state : Accepted) (rows cols start : ℕ × ℕ) (most : ℕ) →
    HasAnswer v state (Range rows cols start most)
has_range v state rows cols start most = elim (bounds_or_not v rows cols) [
  | inr bad ↦ (refused 41 0, state, unasked (inl (bad, refl)) refl)
  | inl b ↦ elim (count_or_not most) [
    | inr bad ↦ (refused 44 0, state, unasked (inr (b, bad, refl)) refl)
    | inl c ↦ (
      range_reply (range_between rows cols start) most (export_of v state),
      state,
      of_sum (export_of v state) (b, c, refl) (refl, refl),
    )
  ]
]

has_rows : (v : Setting) (state : Accepted) (by most : ℕ) → HasAnswer v state (Top by most)
has_rows v state by most = elim (cases_lt 1 by) [
  | inl a ↦ (refused 44 0, state, unasked ((λ h. let k = h.0 in omega (arith, a, k)), refl) refl)
  | inr a ↦ elim (count_or_not most) [
    | inr bad ↦ (refused 44 0, state, unasked ((λ h. bad h.1), refl) refl)
    | inl c ↦
        let top = has_top (by_number by) most (tallies (entries (export_of v state).counts)) in
        (rows_reply top.0, state, of_sum (export_of v state) (a, c, (top.0, top.1, refl)) (refl, refl))
  ]
]

rows_or_not : (v : Setting) (rows : ℕ × ℕ) → AreRows v rows ⊎ (AreRows v rows → ⊥)
rows_or_not v rows = elim (cases_lt rows.1 rows.0) [
  | inl a ↦ inr (λ h. let k = h.0 in omega (arith, a, k))
  | inr a ↦ elim (cases_lt rows.1 v.rows) [
    | inl b ↦ inl (omega (arith, a), b)
    | inr b ↦ inr (λ h. let k = h.1 in omega (arith, b, k))
  ]
]

groups_or_not : (by shift most : ℕ) → AreGroups by shift most ⊎ (AreGroups by shift most → ⊥)
groups_or_not by shift most = elim (cases_lt 1 by) [
  | inl a ↦ inr (λ h. let k = h.0 in omega (arith, a, k))
  | inr a ↦ elim (cases_lt shift 64) [
    | inr b ↦ inr (λ h. let k = h.1 in omega (arith, b, k))
    | inl b ↦ elim (count_or_not most) [
      | inr bad ↦ inr (λ h. bad h.2)
      | inl c ↦ inl (a, b, c)
    ]
  ]
]

has_groups : (v : Setting) (state : Accepted) (by shift most : ℕ) (rows : ℕ × ℕ) →
    HasAnswer v state (Groups by shift most rows)
has_groups v state by shift most rows = elim (rows_or_not v rows) [
  | inr bad ↦ (refused 41 0, state, unasked (inl (bad, refl)) refl)
  | inl b ↦ elim (groups_or_not by shift most) [
    | inr bad ↦ (refused 44 0, state, unasked (inr (b, bad, refl)) refl)
    | inl c ↦
        let top = has_top (by_number by) most
        (tallies (grouped (groups_of rows shift) (entries (export_of v state).counts))) in
        (rows_reply top.0, state, of_sum (export_of v state) (b, c, (top.0, top.1, refl)) (refl, refl))
  ]
]

then_some : (v : Setting) (state : Accepted) (r : Request) (ms : List Message) → HasAnswer v state r →
    ((m : Accepted) → (w : List ℕ) × (t : Accepted) × IsAnswered v m ms w t) →
    (w : List ℕ) × (t : Accepted) × (m : Accepted) × (reply : List ℕ) × (more : List ℕ) ×
    Answers (PlainGives v) v r reply state m × (w ≡ reply ++ more) × IsAnswered v m ms more t
then_some v state r ms h again = let more = again h.1 in (h.0 ++ more.0, more.1, h.1, h.0, more.0, h.2, refl, more.2)

pub has_answers : (v : Setting) (state : Accepted) (ms : List Message) →
    (w : List ℕ) × (t : Accepted) × IsAnswered v state ms w t
has_answers v state [] = ([], state, (refl, refl))
has_answers v state (Ok Stop ∷ ms) = (_, state, (refl, refl))
has_answers v state (Err f ∷ ms) = (_, state, (refl, refl))
has_answers v state (Ok (Put x y z) ∷ ms) = let h = then_some v state (Put x y z) ms (has_put v state x y z)
    (λ m. has_answers v m ms) in (h.0, h.1, (h.2, h.3, h.4, h.5, h.6, h.7))
has_answers v state (Ok (CellAt x y) ∷ ms) = let h = then_some v state (CellAt x y) ms (has_cell v state x y)
    (λ m. has_answers v m ms) in (h.0, h.1, (h.2, h.3, h.4, h.5, h.6, h.7))
has_answers v state (Ok (Row x) ∷ ms) = let h = then_some v state (Row x) ms (has_row v state x)
    (λ m. has_answers v m ms) in (h.0, h.1, (h.2, h.3, h.4, h.5, h.6, h.7))
has_answers v state (Ok Status ∷ ms) = let h = then_some v state Status ms
    (_, state, asked (status (status_of state)) (_, refl) (refl, refl) refl) (λ m. has_answers v m ms) in
    (h.0, h.1, (h.2, h.3, h.4, h.5, h.6, h.7))
has_answers v state (Ok Stored ∷ ms) = let h = then_some v state Stored ms
    (_, state, asked (stored (status_of state)) (_, refl) (refl, refl) refl) (λ m. has_answers v m ms) in
    (h.0, h.1, (h.2, h.3, h.4, h.5, h.6, h.7))
has_answers v state (Ok Export ∷ ms) = let h = then_some v state Export ms
    (_, state, asked (export (Ok (export_of v state))) (_, refl) (refl, refl) refl) (λ m. has_answers v m ms) in
    (h.0, h.1, (h.2, h.3, h.4, h.5, h.6, h.7))
has_answers v state (Ok Save ∷ ms) = let h = then_some v state Save ms
    (_, state, asked (save (Err SaveOff)) (_, refl) (refl, refl) refl) (λ m. has_answers v m ms) in
    (h.0, h.1, (h.2, h.3, h.4, h.5, h.6, h.7))
has_answers v state (Ok (PutCells x y z) ∷ ms) = let h = then_some v state (PutCells x y z) ms (has_cells v state x y z)
    (λ m. has_answers v m ms) in (h.0, h.1, (h.2, h.3, h.4, h.5, h.6, h.7))
has_answers v state (Ok (Range x y z n) ∷ ms) = let h = then_some v state (Range x y z n) ms (has_range v state x y z n)
    (λ m. has_answers v m ms) in (h.0, h.1, (h.2, h.3, h.4, h.5, h.6, h.7))
has_answers v state (Ok (Groups x s n r) ∷ ms) = let h = then_some v state (Groups x s n r) ms
    (has_groups v state x s n r) (λ m. has_answers v m ms) in (h.0, h.1, (h.2, h.3, h.4, h.5, h.6, h.7))
has_answers v state (Ok (Top x n) ∷ ms) = let h = then_some v state (Top x n) ms (has_rows v state x n)
    (λ m. has_answers v m ms) in (h.0, h.1, (h.2, h.3, h.4, h.5, h.6, h.7))
has_answers v state (Ok Stats ∷ ms) = let h = then_some v state Stats ms
    (_, state, asked (stats (Ok (plain_told v state))) (_, refl) (refl, refl) refl) (λ m. has_answers v m ms) in
    (h.0, h.1, (h.2, h.3, h.4, h.5, h.6, h.7))
has_answers v state (Ok Fold ∷ ms) = let h = then_some v state Fold ms
    (_, folded_into (summed state) state, asked (fold (Ok (count_in state))) (_, refl) (refl, refl) refl)
    (λ m. has_answers v m ms) in (h.0, h.1, (h.2, h.3, h.4, h.5, h.6, h.7))
