-- What the book's lines say of the accepted batches.
use Rattle.std.proofs.Common.{◌≡◌, ℕ, zero, suc, ◌+◌, false, cond, not, eqb, ◌&&◌, List, [], ◌∷◌, ◌++◌, length}
use Rattle.std.proofs.Common.{take, drop, slice_get, None, Some, position, refl, sym, ◌∙◌, ap, subst, arith, length-append}
use Rattle.std.proofs.Common.{append_assoc, append-nil, ◌-◌, ◌≤◌}
use Rattle.std.specs.Prelude.{slice_index_or, nat_lt}
use Rattle.std.specs.FinMap.{empty}
use Rattle.std.specs.List.{position_or_len, AllByRecursion}
use Rattle.std.specs.Map.{keys_of, lookup}
use Rattle.std.proofs.lemmas.List.{map-append, take-append-drop, take-append-le, drop-append-le}
use Rattle.std.proofs.lemmas.Option.{none-some, same_Some}
use Rattle.hyper_matrix.specs.Matrix.{Matrix}
use Rattle.hyper_matrix.proofs.CountLaws.{total-empty}
use Rattle.batch_store.specs.declared.pair.Pair.{Pair}
use Rattle.batch_store.specs.declared.line.Line.{Line}
use Rattle.batch_store.specs.declared.verdict.Entry.{Entry}
use Rattle.batch_store.specs.declared.verdict.Verdict.{Verdict}
use Rattle.batch_store.specs.declared.verdict.Verdict.TheVariants.{Fresh}
use Rattle.batch_store.specs.Setups.{Setting, IsSetting}
use Rattle.batch_store.specs.Batches.{Submission, entry_of, entries_of, batch_total}
use Rattle.batch_store.specs.Accepted.{count_in}
use Rattle.batch_store.specs.Accepted.{Accepted, accepted, entries_in, total_in, with_batch}
use Rattle.batch_store.specs.Verdicts.{verdict_of, verdict_on_new, repeat_of, same_pair, total_of_entries}
use Rattle.batch_store.specs.Folds.{Fold, repeat_in}
use Rattle.batch_store.specs.Books.{line_entry, line_entries}
use Rattle.batch_store.specs.Books.{Register, register, AreLines, AreAccepted, HaveDims, state_of}
use Rattle.batch_store.specs.Books.{KeepsBook, same_key}
use Rattle.batch_store.proofs.VerdictLaws.{fresh_is, none_same, distinct_nil, distinct_push, total_push}
use Rattle.batch_store.proofs.VerdictLaws.{same_pair_flips, total_of-append}
use Rattle.batch_store.proofs.TwoLists.{known_before, known_behind, new_to_both}

abbrev pub all_entries : List (Pair × Line) → List Entry
all_entries lines = line_entries lines

-- the entries of all, whether folded or not
pub entries_same : (past : Fold) (g : ℕ) (lines : List (Pair × Line)) (list : List Submission) →
    entries_of list ≡ line_entries (drop g lines) →
    entries_in (state_of past g lines list) ≡ past.entries ++ all_entries lines
entries_same past g lines list same =
    append_assoc past.entries (line_entries (take g lines)) (entries_of list)
    ∙ ap (λ es. past.entries ++ es) (ap (λ es. line_entries (take g lines) ++ es) same
    ∙ sym (map-append line_entry (take g lines) (drop g lines))
    ∙ ap line_entries (take-append-drop g lines))

-- nothing was accepted
pub accepted_none : (v : Setting) → IsSetting v → AreAccepted v (accepted empty [] [])
accepted_none v sound = record {
  sound = sound;
  distinct = distinct_nil;
  dims = tt;
  few = omega (arith, sound.batches.0);
  within = omega (arith, sound.limit);
  based = record { adds_up = total-empty; none = λ h. refl };
}

-- no line
pub state_none : (past : Fold) (base : Matrix) (es : List Entry) (lines : List (Pair × Line)) (list : List Submission) →
    past.base ≡ base → past.entries ≡ es → lines ≡ [] → list ≡ [] → state_of past 0 lines list ≡ accepted base.counts es []
state_none past base es lines list is_base is_es none nothing = (λ i. state_of past 0 (none i) (nothing i))
    ∙ ap (λ l. accepted past.base.counts l []) (append-nil past.entries)
    ∙ (λ i. accepted (is_base i).counts (is_es i) [])

-- a book of folded batches alone
pub book_begins : (v : Setting) (t : ℕ) (past : Fold) (base : Matrix) (es : List Entry) (lines : List (Pair × Line))
    (list : List Submission) → AreAccepted v (accepted base.counts es []) → base.rows ≡ v.rows → base.cols ≡ v.cols →
    past.base ≡ base → past.entries ≡ es → t ≡ total_of_entries past.entries → lines ≡ [] → list ≡ [] →
    KeepsBook v t past 0 lines list
book_begins v t past base es lines list held rows cols is_base is_es is none nothing =
    let same : state_of past 0 lines list ≡ accepted base.counts es [] =
    state_none past base es lines list is_base is_es none nothing in
    record {
      told = subst (AreAccepted v) (sym same) held;
      rows = ap (λ (m : Matrix). m.rows) is_base ∙ rows;
      cols = ap (λ (m : Matrix). m.cols) is_base ∙ cols;
      kept = subst (AreLines (total_of_entries past.entries)) (sym none) tt;
      adds_up = is ∙ ap total_of_entries is_es ∙ ap total_of_entries (sym (append-nil es)) ∙ sym (ap total_in same);
      within = omega arith;
      same = ap entries_of nothing ∙ sym (ap (λ l. line_entries (drop 0 l)) none);
      count = omega (arith, ap count_in same, ap length (append-nil es), ap length is_es, ap length none);
    }

length-all_entries : (lines : List (Pair × Line)) → length (keys_of lines) ≡ length (all_entries lines)
length-all_entries [] = refl
length-all_entries (e ∷ es) = ap suc (length-all_entries es)

pub length-lines : (lines : List (Pair × Line)) → length lines ≡ length (line_entries lines)
length-lines [] = refl
length-lines (e ∷ es) = ap suc (length-lines es)

pub length-entries_of : (list : List Submission) → length (entries_of list) ≡ length list
length-entries_of [] = refl
length-entries_of (b ∷ bs) = ap suc (length-entries_of bs)

-- a pair stands under the keys where it stands among the entries
module _ (p : Pair) (b : Entry) (client : p.client ≡ b.client) (number : p.number ≡ b.number) where
  place_among : (lines : List (Pair × Line)) →
      position_or_len (same_key p) (keys_of lines) ≡ position_or_len (same_pair b) (all_entries lines)
  place_among [] = refl
  place_among (e ∷ es) =
      let rest = place_among es in
      λ i. cond (not (eqb (client i) e.0.client && eqb (number i) e.0.number)) (1 + rest i) 0

  pub place_is : (lines : List (Pair × Line)) →
      position (same_key p) (keys_of lines) ≡ position (same_pair b) (all_entries lines)
  place_is lines =
      let same = place_among lines in
      let long = length-all_entries lines in
      λ i. cond (nat_lt (same i) (long i)) (Some (same i)) None

-- what holds of entries one behind another holds of those behind
pub all_behind : (P : Entry → Type 0) (es fs : List Entry) → AllByRecursion P (es ++ fs) → AllByRecursion P fs
all_behind P [] fs h = h
all_behind P (e ∷ es) fs h = all_behind P es fs h.1

-- no key is that of a new pair
pub absent_key : (p : Pair) (b : Entry) (lines : List (Pair × Line)) → p.client ≡ b.client → p.number ≡ b.number →
    AllByRecursion (λ (e : Entry). same_pair e b ≡ false) (all_entries lines) → lookup (same_key p) lines ≡ None
absent_key p b [] client number none = refl
absent_key p b (e ∷ es) client number none =
    let here : same_key p e.0 ≡ false = (λ i. eqb (client i) e.0.client && eqb (number i) e.0.number)
    ∙ same_pair_flips b (line_entry e) ∙ none.0 in
    ap (λ x. cond x (Some e.1) (lookup (same_key p) es)) here ∙ absent_key p b es client number none.1

-- the line at a place: its entry, and the total up to it
pub line_at : (t : ℕ) (lines : List (Pair × Line)) (i : ℕ) (k : Pair) (line : Line) (d : Entry) → AreLines t lines →
    slice_get lines i ≡ Some (k, line) → (slice_index_or (all_entries lines) i d ≡ line_entry (k, line)) ×
    (line.total_after ≡ t + total_of_entries (take (suc i) (all_entries lines)))
line_at t [] i k line d h is = absurd (none-some _ is)
line_at t (e ∷ es) zero k line d h is =
    let same = same_Some e (k, line) is in
    (ap line_entry same, sym (ap (λ (x : Pair × Line). x.1.total_after) same) ∙ h.0 ∙ omega arith)
line_at t (e ∷ es) (suc i) k line d h is =
    let rest = line_at (t + e.1.total) es i k line d h.1 is in
    (rest.0, omega (arith, rest.1))

-- ---- the verdict on a pair that the folded batches don't have
module _ (s : Setting) (t free : ℕ) (past : Fold) (g : ℕ) (lines : List (Pair × Line)) (list : List Submission)
    (v : Register) (p : Pair) (b c : Submission) (keeps : KeepsBook s t past g lines list)
    (view : register s (state_of past g lines list) free ≡ v)
    (client : p.client ≡ b.client) (number : p.number ≡ b.number) (same : b ≡ c) where
  by_view : (r : Verdict) → r ≡ verdict_of s.limit s.max_batches (past.entries ++ all_entries lines) (entry_of c) →
      r ≡ verdict_of v.setup.limit v.setup.max_batches (entries_in v.state) (entry_of c)
  by_view r is = is
      ∙ ap (λ es. verdict_of s.limit s.max_batches es (entry_of c)) (sym (entries_same past g lines list keeps.same))
      ∙ ap (λ (w : Register). verdict_of w.setup.limit w.setup.max_batches (entries_in w.state) (entry_of c)) view

  place_same : position (same_key p) (keys_of lines) ≡ position (same_pair (entry_of c)) (all_entries lines)
  place_same = place_is p (entry_of b) client number lines
      ∙ ap (λ (x : Submission). position (same_pair (entry_of x)) (all_entries lines)) same

  -- where the folded batches have it
  pub look_folded : (r : Verdict) → Some r ≡ repeat_in past.entries (entry_of c) →
      r ≡ verdict_of v.setup.limit v.setup.max_batches (entries_in v.state) (entry_of c)
  look_folded r h = by_view r
      (known_before s.limit s.max_batches past.entries (all_entries lines) (entry_of c) r h)

  -- where it stands behind them
  pub look_known : (i index : ℕ) (k : Pair) (line : Line) (r : Verdict) → None ≡ repeat_in past.entries (entry_of c) →
      Some i ≡ position (same_key p) (keys_of lines) → slice_get lines i ≡ Some (k, line) →
      index ≡ length past.entries + i →
      r ≡ repeat_of (line_entry (k, line)) (entry_of c) index line.total_after →
      r ≡ verdict_of v.setup.limit v.setup.max_batches (entries_in v.state) (entry_of c)
  look_known i index k line r none at found is told =
      let here = line_at (total_of_entries past.entries) lines i k line (entry_of c) keeps.kept found in
      by_view r (told
      ∙ ap (λ (n : ℕ). repeat_of (line_entry (k, line)) (entry_of c) n line.total_after) is
      ∙ known_behind s.limit s.max_batches past.entries (all_entries lines) (entry_of c)
      (line_entry (k, line)) i line.total_after none (at ∙ place_same) here.0 here.1)

  -- where it is new
  pub look_new : (limit most count : ℕ) (r : Verdict) → None ≡ repeat_in past.entries (entry_of c) →
      None ≡ position (same_key p) (keys_of lines) → limit ≡ s.limit → most ≡ s.max_batches →
      count ≡ length (entries_in (state_of past g lines list)) → r ≡ verdict_on_new limit most count t (entry_of c) →
      r ≡ verdict_of v.setup.limit v.setup.max_batches (entries_in v.state) (entry_of c)
  look_new limit most count r none at is_limit is_most is_count told =
      by_view r (told
      ∙ (λ j. verdict_on_new (is_limit j) (is_most j) count t (entry_of c))
      ∙ new_to_both s.limit s.max_batches past.entries (all_entries lines) (entry_of c) count t none (at ∙ place_same)
      (is_count ∙ ap length (entries_same past g lines list keeps.same))
      (keeps.adds_up ∙ ap total_of_entries (entries_same past g lines list keeps.same)))

lines_push : (t : ℕ) (lines : List (Pair × Line)) (e : Pair × Line) → AreLines t lines →
    e.1.total_after ≡ t + total_of_entries (all_entries lines) + e.1.total → AreLines t (lines ++ e ∷ [])
lines_push t [] e h after = (omega (arith, after), tt)
lines_push t (x ∷ xs) e h after = (h.0, lines_push (t + x.1.total) xs e h.1 (omega (arith, after)))

pub dims_push : (r c : ℕ) (list : List Submission) (b : Submission) → HaveDims r c list → b.matrix.rows ≡ r →
    b.matrix.cols ≡ c → HaveDims r c (list ++ b ∷ [])
dims_push r c [] b h rows cols = (rows, cols, tt)
dims_push r c (x ∷ xs) b h rows cols = (h.0, h.1, dims_push r c xs b h.2 rows cols)

-- a fresh batch more
pub entries-with : (a : Accepted) (b : Submission) → entries_in (with_batch a b) ≡ entries_in a ++ entry_of b ∷ []
entries-with a b = ap (λ es. a.folded ++ es) (map-append entry_of a.list (b ∷ []))
    ∙ sym (append_assoc a.folded (entries_of a.list) (entry_of b ∷ []))

pub total-with : (a : Accepted) (b : Submission) → total_in (with_batch a b) ≡ total_in a + batch_total b
total-with a b = ap total_of_entries (entries-with a b) ∙ total_push (entries_in a) (entry_of b)

pub accepted_push : (s : Setting) (a : Accepted) (b : Submission) → AreAccepted s a →
    verdict_of s.limit s.max_batches (entries_in a) (entry_of b) ≡ Fresh → b.matrix.rows ≡ s.rows →
    b.matrix.cols ≡ s.cols → AreAccepted s (with_batch a b)
accepted_push s a b held fresh rows cols =
    let f = fresh_is s.limit s.max_batches (entries_in a) (entry_of b) fresh in
    let more = entries-with a b in
    record {
      sound = held.sound;
      distinct = rw more (distinct_push (entries_in a) (entry_of b) held.distinct
          (none_same (entry_of b) (entries_in a) f.new_pair));
      dims = dims_push s.rows s.cols a.list b held.dims rows cols;
      few = omega (arith, ap length more, length-append (entries_in a) (entry_of b ∷ []), f.room);
      within = omega (arith, total-with a b, f.fits);
      based = held.based;
    }

-- what is told with a line more
pub state_push : (past : Fold) (g : ℕ) (lines : List (Pair × Line)) (list : List Submission) (e : Pair × Line)
    (b : Submission) → g ≤ length lines →
    state_of past g (lines ++ e ∷ []) (list ++ b ∷ []) ≡ with_batch (state_of past g lines list) b
state_push past g lines list e b within =
    let front = take-append-le g lines (e ∷ []) within in
    (λ i. accepted past.base.counts (past.entries ++ line_entries (front i)) (list ++ b ∷ []))

pub keeps_push : (s : Setting) (t after : ℕ) (past : Fold) (g : ℕ) (lines : List (Pair × Line)) (list : List Submission)
    (e : Pair × Line) (b : Submission) → entry_of b ≡ line_entry e → KeepsBook s t past g lines list →
    verdict_of s.limit s.max_batches (entries_in (state_of past g lines list)) (entry_of b) ≡ Fresh
    → b.matrix.rows ≡ s.rows → b.matrix.cols ≡ s.cols →
    after ≡ t + batch_total b → e.1.total_after ≡ after → KeepsBook s after past g (lines ++ e ∷ []) (list ++ b ∷ [])
keeps_push s t after past g lines list e b is_line keeps fresh rows cols is told =
    let a = state_of past g lines list in
    let more = state_push past g lines list e b keeps.within in
    record {
      told = rw more (accepted_push s a b keeps.told fresh rows cols);
      rows = keeps.rows;
      cols = keeps.cols;
      kept = lines_push (total_of_entries past.entries) lines e keeps.kept (omega (
        arith,
        is,
        told,
        keeps.adds_up,
        ap (λ (x : Entry). x.total) is_line,
        ap total_of_entries (entries_same past g lines list keeps.same),
        total_of-append past.entries (all_entries lines),
      ));
      adds_up = omega (arith, is, keeps.adds_up, ap total_in more, total-with a b);
      within = omega (arith, keeps.within, length-append lines (e ∷ []));
      same = map-append entry_of list (b ∷ [])
          ∙ (λ i. keeps.same i ++ is_line i ∷ [])
          ∙ sym (map-append line_entry (drop g lines) (e ∷ []))
          ∙ ap line_entries (sym (drop-append-le g lines (e ∷ []) keeps.within));
      count = omega (
        arith,
        keeps.count,
        ap count_in more,
        ap length (entries-with a b),
        length-append (entries_in a) (entry_of b ∷ []),
        length-append lines (e ∷ []),
      );
    }

-- a new pair is under no key
pub absent_new : (s : Setting) (t free : ℕ) (past : Fold) (g : ℕ) (lines : List (Pair × Line)) (list : List Submission)
    (v : Register) (p : Pair) (b : Submission) → KeepsBook s t past g lines list →
    register s (state_of past g lines list) free ≡ v → p.client ≡ b.client → p.number ≡ b.number →
    verdict_of v.setup.limit v.setup.max_batches (entries_in v.state) (entry_of b) ≡ Fresh →
    lookup (same_key p) lines ≡ None
absent_new s t free past g lines list v p b keeps view client number fresh =
    let all = entries_in (state_of past g lines list) in
    let f = fresh_is s.limit s.max_batches all (entry_of b)
    (ap (λ (w : Register). verdict_of w.setup.limit w.setup.max_batches (entries_in w.state) (entry_of b)) view
    ∙ fresh) in
    absent_key p (entry_of b) lines client number
    (all_behind (λ (e : Entry). same_pair e (entry_of b) ≡ false) past.entries (all_entries lines)
    (subst (AllByRecursion (λ (e : Entry). same_pair e (entry_of b) ≡ false)) (entries_same past g lines list keeps.same)
    (none_same (entry_of b) all f.new_pair)))

abbrev entry4 : ℕ → ℕ → ℕ → ℕ → Entry
entry4 c n m k = record { client = c; number = n; cells = m; total = k }

-- the line of a batch, in the words of the call
pub is_line : (p : Pair) (line : Line) (b c : Submission) (n m : ℕ) → c ≡ b → p.client ≡ c.client →
    p.number ≡ c.number → n ≡ batch_total c → m ≡ (entry_of c).cells → line.cells ≡ m → line.total ≡ n →
    entry_of b ≡ line_entry (p, line)
is_line p line b c n m same client number total cells is_cells is_total =
    ap entry_of (sym same) ∙ sym (λ i. entry4 (client i) (number i) ((is_cells ∙ cells) i) ((is_total ∙ total) i))

-- the book with a fresh batch more, in the words of the call
pub keeps_admitted : (s : Setting) (t free n : ℕ) (past : Fold) (g : ℕ) (lines lines' : List (Pair × Line))
    (list list' : List Submission) (v : Register) (p : Pair) (line : Line) (b c : Submission) →
    entry_of b ≡ line_entry (p, line) → KeepsBook s t past g lines list →
    register s (state_of past g lines list) free ≡ v →
    verdict_of v.setup.limit v.setup.max_batches (entries_in v.state) (entry_of b) ≡ Fresh →
    b.matrix.rows ≡ v.setup.rows → b.matrix.cols ≡ v.setup.cols →
    c ≡ b → n ≡ batch_total c → line.total_after ≡ t + n → lines' ≡ lines ++ (p, line) ∷ [] → list' ≡ list ++ b ∷ [] →
    KeepsBook s (t + n) past g lines' list'
keeps_admitted s t free n past g lines lines' list list' v p line b c is_line keeps view fresh rows cols same is told more
    also =
    let fresh' = ap (λ (w : Register). verdict_of w.setup.limit w.setup.max_batches (entries_in w.state) (entry_of b))
    view ∙ fresh in
    let rows' = rows ∙ sym (ap (λ (w : Register). w.setup.rows) view) in
    let cols' = cols ∙ sym (ap (λ (w : Register). w.setup.cols) view) in
    let counted : t + n ≡ t + batch_total b = ap (λ j. t + j) (is ∙ ap batch_total same) in
    subst (λ (l : List (Pair × Line)). KeepsBook s (t + n) past g l list') (sym more)
    (subst (λ (l : List Submission). KeepsBook s (t + n) past g (lines ++ (p, line) ∷ []) l) (sym also)
    (keeps_push s t (t + n) past g lines list (p, line) b is_line keeps fresh' rows' cols' counted told))

-- the state with a fresh batch more
pub state_admitted : (s : Setting) (free : ℕ) (past : Fold) (g : ℕ) (lines lines' : List (Pair × Line))
    (list list' : List Submission) (v : Register) (p : Pair) (line : Line) (b : Submission) → g ≤ length lines →
    register s (state_of past g lines list) free ≡ v → lines' ≡ lines ++ (p, line) ∷ [] → list' ≡ list ++ b ∷ [] →
    state_of past g lines' list' ≡ with_batch v.state b
state_admitted s free past g lines lines' list list' v p line b within view more also =
    (λ i. state_of past g (more i) (also i)) ∙ state_push past g lines list (p, line) b within
    ∙ ap (λ (w : Register). with_batch w.state b) view

-- ---- a walk by place
-- one item more
one_more : {X : Type 0} (xs : List X) (i : ℕ) (x : X) → Some x ≡ slice_get xs i →
    take i xs ++ x ∷ [] ≡ take (suc i) xs
one_more [] i x h = absurd (none-some _ (sym h))
one_more (y ∷ xs) zero x h = ap (λ z. z ∷ []) (same_Some x y h)
one_more (y ∷ xs) (suc i) x h = ap (λ l. y ∷ l) (one_more xs i x h)

pub next_item : {X : Type 0} (xs : List X) (i : ℕ) (x : X) → Some x ≡ slice_get xs i →
    take i xs ++ x ∷ [] ≡ take (i + 1) xs
next_item xs i x h = one_more xs i x h ∙ ap (λ k. take k xs) {x = suc i} {y = i + 1} (omega arith)

-- past the last there is none
pub none_past : {X : Type 0} (xs : List X) (i : ℕ) → None ≡ slice_get xs i → length xs ≤ i
none_past [] i h = omega arith
none_past (x ∷ xs) zero h = absurd (none-some _ h)
none_past (x ∷ xs) (suc i) h = omega (arith, none_past xs i h)

-- ---- the entry at a place behind the folded batches
get_behind : (xs ys : List Entry) (i j : ℕ) → i ≡ length xs + j → slice_get (xs ++ ys) i ≡ slice_get ys j
get_behind [] ys i j h = ap (slice_get ys) {x = i} {y = j} (omega (arith, h))
get_behind (x ∷ xs) ys zero j h = absurd (omega (arith, h))
get_behind (x ∷ xs) ys (suc i) j h = get_behind xs ys i j (omega (arith, h))

-- past the last there is none
pub none_there_from : {X : Type 0} (xs : List X) (i : ℕ) → length xs ≤ i → None ≡ slice_get xs i
none_there_from [] i h = refl
none_there_from (x ∷ xs) zero h = absurd (omega (arith, h))
none_there_from (x ∷ xs) (suc i) h = none_there_from xs i (omega (arith, h))

pub get_entry : (lines : List (Pair × Line)) (j : ℕ) (k : Pair) (line : Line) → Some (k, line) ≡ slice_get lines j →
    Some (line_entry (k, line)) ≡ slice_get (all_entries lines) j
get_entry [] j k line h = absurd (none-some _ (sym h))
get_entry (e ∷ es) zero k line h = ap (λ (x : Pair × Line). Some (line_entry x)) (same_Some (k, line) e h)
get_entry (e ∷ es) (suc j) k line h = get_entry es j k line h

pub entry_behind : (past : List Entry) (lines : List (Pair × Line)) (i n : ℕ) (k : Pair) (line : Line) →
    n ≡ length past → n ≤ i → Some (k, line) ≡ slice_get lines (i - n) →
    Some (line_entry (k, line)) ≡ slice_get (past ++ all_entries lines) i
entry_behind past lines i n k line is behind h =
    get_entry lines (i - n) k line h
    ∙ sym (get_behind past (all_entries lines) i (i - n) (omega (arith, is, behind)))

-- behind all lines there is no entry
pub entry_none : (past : List Entry) (lines : List (Pair × Line)) (i n : ℕ) → n ≡ length past → n ≤ i →
    None ≡ slice_get lines (i - n) → None ≡ slice_get (past ++ all_entries lines) i
entry_none past lines i n is behind h =
    none_there_from (past ++ all_entries lines) i (omega (
      arith,
      is,
      behind,
      none_past lines (i - n) h,
      length-append past (all_entries lines),
      length-lines lines,
    ))
