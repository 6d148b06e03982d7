-- What the lines of folded batches say.
use Rattle.std.proofs.Common.{◌≡◌, ℕ, zero, suc, ◌+◌, ◌<◌, false, cond, not, eqb, ◌&&◌, List, [], ◌∷◌, ◌++◌, length}
use Rattle.std.proofs.Common.{append_assoc, drop, take, slice_get, None, Some, position, refl, sym, ◌∙◌, ap, subst, arith, option_map}
use Rattle.std.specs.Prelude.{slice_index_or, nat_lt}
use Rattle.std.specs.List.{position_from, position_or_len, AllByRecursion, IsDistinct}
use Rattle.std.specs.Map.{keys_of, lookup}
use Rattle.std.proofs.lemmas.List.{map-append}
use Rattle.std.proofs.lemmas.Iterator.Adapters.{position_from-zero}
use Rattle.std.proofs.lemmas.Option.{none-some, same_Some}
use Rattle.batch_store.specs.declared.pair.Pair.{Pair}
use Rattle.batch_store.specs.declared.folded.FoldedLine.{FoldedLine}
use Rattle.batch_store.specs.declared.verdict.Entry.{Entry}
use Rattle.batch_store.specs.declared.verdict.Verdict.{Verdict}
use Rattle.batch_store.specs.Batches.{Submission, entry_of}
use Rattle.batch_store.specs.Verdicts.{repeat_of, same_pair, total_of_entries}
use Rattle.batch_store.specs.Folds.{entry_under, entries_under, repeat_in, repeat_at, AreFoldedLines, KeepsFold}
use Rattle.batch_store.specs.Books.{same_key}
use Rattle.batch_store.proofs.VerdictLaws.{none_same, same_pair_flips, total_push, total_of-append}

abbrev pub Lines : Type 0
Lines = List (Pair × FoldedLine)

length-under : (lines : Lines) → length (keys_of lines) ≡ length (entries_under lines)
length-under [] = refl
length-under (e ∷ es) = ap suc (length-under es)

pub length-lines : (lines : Lines) → length lines ≡ length (entries_under lines)
length-lines [] = refl
length-lines (e ∷ es) = ap suc (length-lines es)

-- a pair stands under the keys where it stands among the entries
module _ (p : Pair) (b : Entry) (client : p.client ≡ b.client) (number : p.number ≡ b.number) where
  place_among : (lines : Lines) →
      position_or_len (same_key p) (keys_of lines) ≡ position_or_len (same_pair b) (entries_under lines)
  place_among [] = refl
  place_among (e ∷ es) =
      let rest = place_among es in
      λ i. cond (not (eqb (client i) e.0.client && eqb (number i) e.0.number)) (1 + rest i) 0

  pub place_under : (lines : Lines) →
      position (same_key p) (keys_of lines) ≡ position (same_pair b) (entries_under lines)
  place_under lines =
      let same = place_among lines in
      let long = length-under lines in
      λ i. cond (nat_lt (same i) (long i)) (Some (same i)) None

  absent_under : (lines : Lines) → AllByRecursion (λ (e : Entry). same_pair e b ≡ false) (entries_under lines) →
      lookup (same_key p) lines ≡ None
  absent_under [] h = refl
  absent_under (e ∷ es) h =
      let here : same_key p e.0 ≡ false = (λ i. eqb (client i) e.0.client && eqb (number i) e.0.number)
      ∙ same_pair_flips b (entry_under e) ∙ h.0 in
      ap (λ x. cond x (Some e.1) (lookup (same_key p) es)) here ∙ absent_under es h.1

  -- a pair that stands nowhere is under no key
  pub absent_new : (lines : Lines) → position (same_pair b) (entries_under lines) ≡ None → lookup (same_key p) lines ≡ None
  absent_new lines none = absent_under lines (none_same b (entries_under lines) none)

-- the line at a place: its entry, and the total up to it
line_at : (t : ℕ) (lines : Lines) (i : ℕ) (k : Pair) (line : FoldedLine) (d : Entry) → AreFoldedLines t lines →
    slice_get lines i ≡ Some (k, line) → (slice_index_or (entries_under lines) i d ≡ entry_under (k, line)) ×
    (line.total_after ≡ t + total_of_entries (take (suc i) (entries_under lines)))
line_at t [] i k line d h is = absurd (none-some _ is)
line_at t (e ∷ es) zero k line d h is =
    let same = same_Some e (k, line) is in
    (ap entry_under same, sym (ap (λ (x : Pair × FoldedLine). x.1.total_after) same) ∙ h.0 ∙ omega arith)
line_at t (e ∷ es) (suc i) k line d h is =
    let rest = line_at (t + e.1.total) es i k line d h.1 is in
    (rest.0, omega (arith, rest.1))

-- the verdict on a batch whose pair stands there
pub repeat_known : (t : ℕ) (lines : Lines) (p : Pair) (b c : Submission) (i : ℕ) (k : Pair) (line : FoldedLine)
    (r : Verdict) → KeepsFold t lines → p.client ≡ b.client → p.number ≡ b.number → b ≡ c →
    Some i ≡ position (same_key p) (keys_of lines) → slice_get lines i ≡ Some (k, line) →
    ((e : Entry) → e.cells ≡ line.cells → e.total ≡ line.total → r ≡ repeat_of e (entry_of c) i line.total_after) →
    Some r ≡ repeat_in (entries_under lines) (entry_of c)
repeat_known t lines p b c i k line r keeps client number same at found told =
    let es = entries_under lines in
    let place = at ∙ place_under p (entry_of b) client number lines
    ∙ ap (λ (x : Submission). position (same_pair (entry_of x)) es) same in
    let here = line_at 0 lines i k line (entry_of c) keeps.kept found in
    let after : line.total_after ≡ total_of_entries (take (i + 1) es) = here.1
    ∙ omega (arith, ap (λ (n : ℕ). total_of_entries (take n es)) {x = suc i} {y = i + 1} (omega arith)) in
    ap Some (told (entry_under (k, line)) refl refl
    ∙ (λ j. repeat_of (sym here.0 j) (entry_of c) i (after j)))
    ∙ ap (option_map (repeat_at es (entry_of c))) place

-- and where it doesn't
pub repeat_none : (lines : Lines) (p : Pair) (b c : Submission) → p.client ≡ b.client → p.number ≡ b.number → b ≡ c →
    None ≡ position (same_key p) (keys_of lines) → None ≡ repeat_in (entries_under lines) (entry_of c)
repeat_none lines p b c client number same at =
    let es = entries_under lines in
    ap (option_map (repeat_at es (entry_of c))) (at ∙ place_under p (entry_of b) client number lines
    ∙ ap (λ (x : Submission). position (same_pair (entry_of x)) es) same)

lines_push : (t : ℕ) (lines : Lines) (e : Pair × FoldedLine) → AreFoldedLines t lines →
    e.1.total_after ≡ t + total_of_entries (entries_under lines) + e.1.total → AreFoldedLines t (lines ++ e ∷ [])
lines_push t [] e h after = (omega (arith, after), tt)
lines_push t (x ∷ xs) e h after = (h.0, lines_push (t + x.1.total) xs e h.1 (omega (arith, after)))

-- a line more
pub fold_push : (t after : ℕ) (lines lines' : Lines) (e : Pair × FoldedLine) → KeepsFold t lines →
    after ≡ t + e.1.total → e.1.total_after ≡ after → lines' ≡ lines ++ e ∷ [] → KeepsFold after lines'
fold_push t after lines lines' e keeps is told more =
    let es = entries_under lines in
    let entries : entries_under (lines ++ e ∷ []) ≡ es ++ entry_under e ∷ [] = map-append entry_under lines (e ∷ []) in
    subst (λ (l : Lines). KeepsFold after l) (sym more) (record {
      kept = lines_push 0 lines e keeps.kept (omega (arith, is, told, keeps.adds_up));
      adds_up = omega (arith, is, keeps.adds_up, ap total_of_entries entries, total_push es (entry_under e));
    })

pub entries_push : (lines lines' : Lines) (e : Pair × FoldedLine) → lines' ≡ lines ++ e ∷ [] →
    entries_under lines' ≡ entries_under lines ++ entry_under e ∷ []
entries_push lines lines' e more = ap entries_under more ∙ map-append entry_under lines (e ∷ [])

pub fold_none : (lines : Lines) → lines ≡ [] → KeepsFold 0 lines
fold_none lines none = subst (λ (l : Lines). KeepsFold 0 l) (sym none) (record { kept = tt; adds_up = refl })

-- ---- entries put behind others one by one
cut_at : (ys : List Entry) (i : ℕ) (d : Entry) → i < length ys →
    ys ≡ take i ys ++ slice_index_or ys i d ∷ drop (suc i) ys
cut_at [] i d h = absurd (omega arith)
cut_at (y ∷ ys) zero d h = refl
cut_at (y ∷ ys) (suc i) d h = ap (λ l. y ∷ l) (cut_at ys i d (omega arith))

take_more : (ys : List Entry) (i : ℕ) (d : Entry) → i < length ys →
    take (suc i) ys ≡ take i ys ++ slice_index_or ys i d ∷ []
take_more [] i d h = absurd (omega arith)
take_more (y ∷ ys) zero d h = refl
take_more (y ∷ ys) (suc i) d h = ap (λ l. y ∷ l) (take_more ys i d (omega arith))

all_middle : (P : Entry → Type 0) (xs : List Entry) (e : Entry) (ys : List Entry) → AllByRecursion P (xs ++ e ∷ ys) → P e
all_middle P [] e ys h = h.0
all_middle P (x ∷ xs) e ys h = all_middle P xs e ys h.1

-- in a list of distinct entries none before an entry has its pair
pub before_apart : (xs : List Entry) (e : Entry) (ys : List Entry) → IsDistinct same_pair (xs ++ e ∷ ys) →
    AllByRecursion (λ (x : Entry). same_pair e x ≡ false) xs
unfolding IsDistinct
before_apart [] e ys h = tt
before_apart (x ∷ xs) e ys h = (
  same_pair_flips e x ∙ all_middle (λ (y : Entry). same_pair x y ≡ false) xs e ys h.0,
  before_apart xs e ys h.1,
)

nowhere : (e : Entry) (n : ℕ) (xs : List Entry) → AllByRecursion (λ (x : Entry). same_pair e x ≡ false) xs →
    position_from (same_pair e) n xs ≡ None
nowhere e n [] h = refl
nowhere e n (x ∷ xs) h =
    ap (λ t. cond t (Some n) (position_from (same_pair e) (n + 1) xs)) h.0 ∙ nowhere e (n + 1) xs h.1

-- a pair that none has stands nowhere
pub found_nowhere : (e : Entry) (xs : List Entry) → AllByRecursion (λ (x : Entry). same_pair e x ≡ false) xs →
    position (same_pair e) xs ≡ None
found_nowhere e xs h = position_from-zero (same_pair e) xs ∙ nowhere e 0 xs h

module _ (xs ys now : List Entry) (i : ℕ) (d : Entry) (told : now ≡ xs ++ take i ys) (here : i < length ys) where
  all_is : xs ++ ys ≡ now ++ slice_index_or ys i d ∷ drop (suc i) ys
  all_is = ap (λ l. xs ++ l) (cut_at ys i d here)
      ∙ sym (append_assoc xs (take i ys) (slice_index_or ys i d ∷ drop (suc i) ys))
      ∙ ap (λ l. l ++ slice_index_or ys i d ∷ drop (suc i) ys) (sym told)

  pub next_new : IsDistinct same_pair (xs ++ ys) → position (same_pair (slice_index_or ys i d)) now ≡ None
  next_new distinct =
      let e = slice_index_or ys i d in
      found_nowhere e now (before_apart now e (drop (suc i) ys) (subst (IsDistinct same_pair) all_is distinct))

  pub next_fits : (m : ℕ) → total_of_entries (xs ++ ys) < m →
      total_of_entries now + (slice_index_or ys i d).total < m
  next_fits m fits =
      omega (
        arith,
        fits,
        ap total_of_entries all_is,
        total_of-append now (slice_index_or ys i d ∷ drop (suc i) ys),
      )

  pub next_told : (later : List Entry) → later ≡ now ++ slice_index_or ys i d ∷ [] → later ≡ xs ++ take (i + 1) ys
  next_told later is = is
      ∙ ap (λ l. l ++ slice_index_or ys i d ∷ []) told
      ∙ append_assoc xs (take i ys) (slice_index_or ys i d ∷ [])
      ∙ ap (λ l. xs ++ l) (sym (take_more ys i d here))
      ∙ ap (λ n. xs ++ take n ys) {x = suc i} {y = i + 1} (omega arith)
