-- What a book's fields come to where the first batches that aren't folded have gone into the base.
use Rattle.std.proofs.Common.{◌≡◌, ℕ, zero, suc, ◌+◌, ◌≤◌, ◌<◌, List, [], ◌∷◌, ◌++◌, length, take, drop, slice_get}
use Rattle.std.proofs.Common.{get_or, None, Some, sym, ◌∙◌, ap, subst, arith, append_assoc, append-nil}
use Rattle.std.proofs.lemmas.List.{map-append, take-append-drop, length-append, length-take-le, take_more, take_all}
use Rattle.std.proofs.Math.Seq.{take-append-add, drop-append-add, take-append_seam, drop-append_seam}
use Rattle.std.specs.declared.sync.Arc.{Arc}
use Rattle.std.specs.declared.alloc.Global.{Global}
use Rattle.std.specs.List.{IsDistinct}
use Rattle.std.specs.Arc.{arc_value}
use Rattle.hyper_matrix.specs.Counts.{ewise_add}
use Rattle.hyper_matrix.specs.Matrix.{Matrix, matrix}
use Rattle.batch_store.specs.declared.pair.Pair.{Pair}
use Rattle.batch_store.specs.declared.line.Line.{Line}
use Rattle.batch_store.specs.Setups.{Setting}
use Rattle.batch_store.specs.Batches.{Submission, entry_of, entries_of, values}
use Rattle.batch_store.specs.Verdicts.{same_pair, total_of_entries}
use Rattle.batch_store.specs.Accepted.{Accepted, accepted, entries_in, total_in, list_sum, summed, folded_into, count_in}
use Rattle.batch_store.specs.Folds.{Fold}
use Rattle.batch_store.specs.Books.{Register, register, line_entry, line_entries, AreAccepted, AreLines, HaveDims, state_of, KeepsBook}
use Rattle.batch_store.specs.BookFolds.{front_sum, folded_to, Rest, rest_list, due_list, IsBookDue, DueFold, numbers_with}
use Rattle.layer_compaction.specs.Due.{numbers_of}
use Rattle.layer_compaction.proofs.DueLemmas.{numbers_same}
use Rattle.batch_store.proofs.SumLaws.{base-folded, list_sum-push}
use Rattle.batch_store.proofs.BookLaws.{length-lines, length-entries_of, next_item}
use Rattle.batch_store.proofs.ShardFoldLaws.{dims_behind}

-- ---- what was accepted, with a front folded
pub entries-to : (m : ℕ) (a : Accepted) → entries_in (folded_to m a) ≡ entries_in a
entries-to m a =
    append_assoc a.folded (entries_of (take m a.list)) (entries_of (drop m a.list))
    ∙ ap (λ es. a.folded ++ es) (sym (map-append entry_of (take m a.list) (drop m a.list))
    ∙ ap entries_of (take-append-drop m a.list))

pub accepted_to : (v : Setting) (m : ℕ) (a : Accepted) → AreAccepted v a → AreAccepted v (folded_to m a)
accepted_to v m a h =
    let same = entries-to m a in
    record {
      sound = h.sound;
      distinct = subst (IsDistinct same_pair) (sym same) h.distinct;
      dims = dims_behind v.rows v.cols (take m a.list) (drop m a.list)
          (subst (HaveDims v.rows v.cols) (sym (take-append-drop m a.list)) h.dims);
      few = omega (arith, ap length same, h.few);
      within = omega (arith, ap total_of_entries same, h.within);
      based = base-folded (accepted a.base a.folded (take m a.list)) h.based;
    }

-- ---- the batches that aren't folded
pub rest_pushed : (r new : Rest) (b : Submission) → new.due ≡ r.due → new.behind ≡ r.behind ++ b ∷ [] →
    rest_list new ≡ rest_list r ++ b ∷ []
rest_pushed r new b due more =
    (λ i. due_list (due i) ++ more i) ∙ sym (append_assoc (due_list r.due) r.behind (b ∷ []))

pub rest_same : (r new : Rest) → new.due ≡ r.due → new.behind ≡ r.behind → rest_list new ≡ rest_list r
rest_same r new due behind = λ i. due_list (due i) ++ behind i

pub due_same : (m : Matrix) (r new : Rest) → new.due ≡ r.due → IsBookDue m r.due → IsBookDue m new.due
due_same m r new due h = subst (IsBookDue m) (sym due) h

-- one entry more
pub next_entry : (lines : List (Pair × Line)) (place : ℕ) (k : Pair) (line : Line) → Some (k, line) ≡ slice_get lines place →
    line_entries (take place lines) ++ line_entry (k, line) ∷ [] ≡ line_entries (take (place + 1) lines)
next_entry lines place k line h =
    sym (map-append line_entry (take place lines) ((k, line) ∷ []))
    ∙ ap line_entries (next_item lines place (k, line) h)

-- ---- a walk over batches
pub front_more : (items : List (Arc Submission Global)) (i : ℕ) (a : Arc Submission Global) → i < length items →
    a ≡ get_or items i a →
    list_sum (values (take (i + 1) items)) ≡ ewise_add (list_sum (values (take i items))) (arc_value a).matrix.counts
front_more items i a below is =
    ap (λ l. list_sum (values l)) (take_more items i a below)
    ∙ ap list_sum (map-append arc_value (take i items) (get_or items i a ∷ []))
    ∙ list_sum-push (values (take i items)) (arc_value (get_or items i a))
    ∙ ap (λ (b : Arc Submission Global). ewise_add (list_sum (values (take i items))) (arc_value b).matrix.counts) (sym is)

pub dims_at : (r c : ℕ) (items : List (Arc Submission Global)) (i : ℕ) (a : Arc Submission Global) →
    HaveDims r c (values items) → i < length items → a ≡ get_or items i a →
    ((arc_value a).matrix.rows ≡ r) × ((arc_value a).matrix.cols ≡ c)
dims_at r c [] i a h below is = absurd (omega arith)
dims_at r c (x ∷ xs) zero a h below is = (
  ap (λ (b : Arc Submission Global). (arc_value b).matrix.rows) is ∙ h.0,
  ap (λ (b : Arc Submission Global). (arc_value b).matrix.cols) is ∙ h.1,
)
dims_at r c (x ∷ xs) (suc i) a h below is = dims_at r c xs i a h.2 (omega arith) is

-- ---- the lines
same_front : {X : Type 0} (xs ys us vs : List X) → length xs ≡ length ys → xs ++ us ≡ ys ++ vs → xs ≡ ys
same_front xs ys us vs long h =
    sym (take-append_seam xs us) ∙ (λ i. take (long i) (h i)) ∙ take-append_seam ys vs

same_behind : {X : Type 0} (xs ys us vs : List X) → length xs ≡ length ys → xs ++ us ≡ ys ++ vs → us ≡ vs
same_behind xs ys us vs long h =
    sym (drop-append_seam xs us) ∙ (λ i. drop (long i) (h i)) ∙ drop-append_seam ys vs

pub cut_further : {X : Type 0} (g m : ℕ) (xs : List X) → g + m ≤ length xs →
    (take (g + m) xs ≡ take g xs ++ take m (drop g xs)) × (drop (g + m) xs ≡ drop m (drop g xs))
cut_further g m xs within =
    let n : length (take g xs) ≡ g = length-take-le g xs (omega (arith, within)) in
    let all : xs ≡ take g xs ++ drop g xs = sym (take-append-drop g xs) in (
      (λ i. take (sym n i + m) (all i)) ∙ take-append-add (take g xs) (drop g xs) m,
      (λ i. drop (sym n i + m) (all i)) ∙ drop-append-add (take g xs) (drop g xs) m,
    )

module _ (s : Setting) (t g : ℕ) (past now : Fold) (lines : List (Pair × Line)) (front rest : List Submission)
    (new : Matrix) (keeps : KeepsBook s t past g lines (front ++ rest))
    (made : new ≡ matrix past.base.rows past.base.cols (ewise_add past.base.counts (list_sum front)))
    (is_base : now.base ≡ new) (is_es : now.entries ≡ past.entries) where
  abbrev pub m : ℕ
  m = length front

  front_is : take m (front ++ rest) ≡ front
  front_is = take-append_seam front rest

  rest_is : drop m (front ++ rest) ≡ rest
  rest_is = drop-append_seam front rest

  pub here : g + m ≤ length lines
  here =
      omega (
        arith,
        keeps.within,
        ap length keeps.same,
        length-entries_of (front ++ rest),
        length-lines (drop g lines),
        length-append front rest,
        ap length (take-append-drop g lines),
        length-append (take g lines) (drop g lines),
        length-take-le g lines keeps.within,
      )

  cut : entries_of front ++ entries_of rest ≡ line_entries (take m (drop g lines)) ++ line_entries (drop m (drop g lines))
  cut = sym (map-append entry_of front rest) ∙ keeps.same
      ∙ ap line_entries (sym (take-append-drop m (drop g lines)))
      ∙ map-append line_entry (take m (drop g lines)) (drop m (drop g lines))

  enough : m ≤ length (drop g lines)
  enough =
      omega (
        arith,
        ap length keeps.same,
        length-entries_of (front ++ rest),
        length-lines (drop g lines),
        length-append front rest,
      )

  long : length (entries_of front) ≡ length (line_entries (take m (drop g lines)))
  long =
      omega (
        arith,
        length-entries_of front,
        length-lines (take m (drop g lines)),
        length-take-le m (drop g lines) enough,
      )

  front_lines : entries_of front ≡ line_entries (take m (drop g lines))
  front_lines = same_front (entries_of front) (line_entries (take m (drop g lines))) _ _ long cut

  rest_lines : entries_of rest ≡ line_entries (drop (g + m) lines)
  rest_lines = same_behind (entries_of front) (line_entries (take m (drop g lines))) _ _ long cut
      ∙ ap line_entries (sym (cut_further g m lines here).1)

  pub state_settled : state_of now (g + m) lines rest ≡ folded_to m (state_of past g lines (front ++ rest))
  state_settled =
      let es : now.entries ++ line_entries (take (g + m) lines) ≡
      (past.entries ++ line_entries (take g lines)) ++ entries_of (take m (front ++ rest)) =
      (λ i. is_es i ++ (ap line_entries (cut_further g m lines here).0
      ∙ map-append line_entry (take g lines) (take m (drop g lines))
      ∙ ap (λ l. line_entries (take g lines) ++ l) (sym front_lines)
      ∙ ap (λ l. line_entries (take g lines) ++ entries_of l) (sym front_is)) i)
      ∙ sym (append_assoc past.entries (line_entries (take g lines)) (entries_of (take m (front ++ rest)))) in
      let base : now.base.counts ≡ front_sum m (state_of past g lines (front ++ rest)) =
      ap (λ (x : Matrix). x.counts) (is_base ∙ made)
      ∙ ap (λ l. ewise_add past.base.counts (list_sum l)) (sym front_is) in
      (λ i. accepted (base i) (es i) (sym rest_is i))

  pub keeps_settled : KeepsBook s t now (g + m) lines rest
  keeps_settled = record {
    told = subst (AreAccepted s) (sym state_settled) (accepted_to s m (state_of past g lines (front ++ rest)) keeps.told);
    rows = ap (λ (x : Matrix). x.rows) (is_base ∙ made) ∙ keeps.rows;
    cols = ap (λ (x : Matrix). x.cols) (is_base ∙ made) ∙ keeps.cols;
    kept = subst (λ es. AreLines (total_of_entries es) lines) (sym is_es) keeps.kept;
    adds_up = keeps.adds_up ∙ sym (ap total_of_entries (entries-to m (state_of past g lines (front ++ rest))))
        ∙ sym (ap total_in state_settled);
    within = here;
    same = rest_lines;
    count = omega (
      arith,
      keeps.count,
      ap count_in state_settled,
      ap length (entries-to m (state_of past g lines (front ++ rest))),
      ap length is_es,
    );
  }

-- all batches folded
pub all_settled : (a : Accepted) → folded_to (length a.list) a ≡ folded_into (summed a) a
all_settled a =
    let all = take_all (length a.list) a.list (omega arith) in
    let none : drop (length a.list) a.list ≡ [] =
    ap (λ l. drop (length a.list) l) (sym (append-nil a.list)) ∙ drop-append_seam a.list [] in
    (λ i. accepted (ewise_add a.base (list_sum (all i))) (a.folded ++ entries_of (all i)) (none i))

-- ---- settling, in the words of the calls
module _ (s : Setting) (t g free : ℕ) (past now : Fold) (lines : List (Pair × Line)) (r new : Rest) (base : Matrix)
    (v : Register) (keeps : KeepsBook s t past g lines (rest_list r)) (view : register s (state_of past g lines (rest_list r)) free ≡ v)
    (is_base : now.base ≡ base) (is_es : now.entries ≡ past.entries) (none : new.due ≡ None) where
  -- the front that was sealed
  module _ (sealed : IsBookDue past.base r.due) (d : DueFold) (here : r.due ≡ Some d) (made : numbers_of base ≡ d.told)
      (behind : new.behind ≡ r.behind) (n : ℕ) (long : n ≡ length (due_list r.due)) where
    cut_list : rest_list r ≡ d.list ++ r.behind
    cut_list = ap (λ o. due_list o ++ r.behind) here

    rest_is_behind : rest_list new ≡ r.behind
    rest_is_behind = λ i. due_list (none i) ++ behind i

    is_long : n ≡ length d.list
    is_long = long ∙ ap (λ o. length (due_list o)) here

    told : d.told ≡ numbers_with past.base d.list
    told = subst (IsBookDue past.base) here sealed

    base_is : base ≡ matrix past.base.rows past.base.cols (ewise_add past.base.counts (list_sum d.list))
    base_is = numbers_same base _ (made ∙ told)

    keeps_cut : KeepsBook s t past g lines (d.list ++ r.behind)
    keeps_cut = subst (KeepsBook s t past g lines) cut_list keeps

    pub front_kept : KeepsBook s t now (g + n) lines (rest_list new)
    front_kept =
        subst (λ j. KeepsBook s t now (g + j) lines (rest_list new)) (sym is_long)
        (subst (KeepsBook s t now (g + length d.list) lines) (sym rest_is_behind)
        (keeps_settled s t g past now lines d.list r.behind base keeps_cut base_is is_base is_es))

    pub front_folded : (m : ℕ) × (m ≤ length v.state.list) ×
        (state_of now (g + n) lines (rest_list new) ≡ folded_to m v.state)
    front_folded = (
      length d.list,
      omega (arith, ap (λ (w : Register). length w.state.list) view, ap length cut_list, length-append d.list r.behind),
      (λ i. state_of now (g + is_long i) lines (rest_is_behind i))
          ∙ state_settled s t g past now lines d.list r.behind base keeps_cut base_is is_base is_es
          ∙ ap (λ l. folded_to (length d.list) (state_of past g lines l)) (sym cut_list)
          ∙ ap (λ (w : Register). folded_to (length d.list) w.state) view,
    )

  -- all of them
  module _ (made : base ≡ matrix v.setup.rows v.setup.cols (summed v.state)) (behind : new.behind ≡ []) (n : ℕ)
      (all : n ≡ length lines) where
    abbrev list : List Submission
    list = rest_list r

    nothing : rest_list new ≡ []
    nothing = λ i. due_list (none i) ++ behind i

    all_here : n ≡ g + length list
    all_here =
        omega (
          arith,
          all,
          keeps.within,
          ap length keeps.same,
          length-entries_of list,
          length-lines (drop g lines),
          ap length (take-append-drop g lines),
          length-append (take g lines) (drop g lines),
          length-take-le g lines keeps.within,
        )

    whole_is : base ≡ matrix past.base.rows past.base.cols (ewise_add past.base.counts (list_sum list))
    whole_is = made ∙ ap (λ (w : Register). matrix w.setup.rows w.setup.cols (summed w.state)) (sym view)
        ∙ (λ i. matrix (sym keeps.rows i) (sym keeps.cols i) (ewise_add past.base.counts (list_sum list)))

    keeps_all : KeepsBook s t past g lines (list ++ [])
    keeps_all = subst (KeepsBook s t past g lines) (sym (append-nil list)) keeps

    pub all_kept : KeepsBook s t now n lines (rest_list new)
    all_kept =
        subst (λ j. KeepsBook s t now j lines (rest_list new)) (sym all_here)
        (subst (KeepsBook s t now (g + length list) lines) (sym nothing)
        (keeps_settled s t g past now lines list [] base keeps_all whole_is is_base is_es))

    pub all_folded : state_of now n lines (rest_list new) ≡ folded_into base.counts v.state
    all_folded =
        (λ i. state_of now (all_here i) lines (nothing i))
        ∙ state_settled s t g past now lines list [] base keeps_all whole_is is_base is_es
        ∙ ap (λ l. folded_to (length list) (state_of past g lines l)) (append-nil list)
        ∙ all_settled (state_of past g lines list)
        ∙ ap (λ (w : Register). folded_into (summed w.state) w.state) view
        ∙ ap (λ m. folded_into m v.state) (sym (ap (λ (m : Matrix). m.counts) made))

pub none_due : (m : Matrix) (r : Rest) → r.due ≡ None → IsBookDue m r.due
none_due m r none = subst (IsBookDue m) (sym none) tt

-- one shared batch more
pub values_more : (items : List (Arc Submission Global)) (i : ℕ) (a : Arc Submission Global) → i < length items →
    a ≡ get_or items i a → values (take i items) ++ arc_value a ∷ [] ≡ values (take (i + 1) items)
values_more items i a below is =
    sym (ap values (take_more items i a below)
    ∙ map-append arc_value (take i items) (get_or items i a ∷ [])
    ∙ ap (λ (b : Arc Submission Global). values (take i items) ++ arc_value b ∷ []) (sym is))
