-- A whole file that was spelled is read again.
use Rattle.std.proofs.Common.{◌≡◌, ℕ, suc, ◌+◌, ◌-◌, ◌^◌, ◌<◌, ◌≤◌, Bool, true, false, cond, not, eqb, List, [], ◌∷◌}
use Rattle.std.proofs.Common.{◌++◌, length, flat_map, refl, sym, ap, subst, ◌∙◌, append_assoc, arith, inl, inr}
use Rattle.std.specs.Prelude.{◌==◌, ◌&&◌, nat_lt, nat_le}
use Rattle.std.specs.List.{AllByRecursion}
use Rattle.std.specs.Int.{w8, w32, w64}
use Rattle.crc32c.specs.Remainders.{all_ones, after_bytes, complement, checksum_of}
use Rattle.std.specs.FinMap.{empty, entries, len, len-entries, len-empty, entries_sorted}
use Rattle.std.proofs.lemmas.List.{append-nil}
use Rattle.std.proofs.lemmas.Bool.{cases_order, eq-eqb, eqb-false, ne_eqb, le-ltb}
use Rattle.hyper_matrix.specs.Counts.{Counts, place_cmp, count_sum, total, built}
use Rattle.hyper_matrix.specs.Matrix.{Matrix, matrix}
use Rattle.hyper_matrix.specs.Cells.{built_of}
use Rattle.batch_store.specs.Setups.{Setting}
use Rattle.batch_store.specs.Accepted.{Accepted, accepted, unfolded, entries_in, with_batch, total_in}
use Rattle.batch_store.specs.Batches.{Submission, entries_of}
use Rattle.batch_store.specs.Books.{list_total}
use Rattle.batch_store.specs.Verdicts.{total_of_entries}
use Rattle.batch_store.specs.declared.verdict.Entry.{Entry}
use Rattle.batch_store.proofs.BookLaws.{entries-with}
use Rattle.hyper_matrix.specs.Shared.{LiesWithin}
use Rattle.snap_file.proofs.Kept.{AreNew, IsReadable, total_parts}
use Rattle.snap_file.specs.Origins.{origin, unknown, IsIdentity}
use Rattle.snap_file.specs.Spelling.{flag, origin_bytes, origin_in, checked_version, most_batches_of}
use Rattle.snap_file.specs.declared.origin.Origin.{Origin}
use Rattle.snap_file.specs.Spelling.{old_version, version, head_bytes, cells_bytes, matrix_bytes, batch_bytes, entry_bytes}
use Rattle.snap_file.specs.Spelling.{past_bytes, number_bytes, past_in, check_bytes, checked_bytes, batches_bytes, file_in}
use Rattle.snap_file.specs.Spelling.{stands_in, IsBatch, IsEntry, IsSpelled}
use Rattle.snap_file.specs.Table.{Input, Reading, give, refuse_if, outside, head, cells_behind, Progress, no_cells}
use Rattle.snap_file.specs.Table.{with_entry, entry, entries_behind, with_base, base, folded_past, past, with_cells}
use Rattle.snap_file.specs.Table.{batch, batches_behind, end, body, nothing_yet, contents, contents_of, ending, rest_of}
use Rattle.snap_file.specs.Table.{reading_of, Part, check, check_in, named, origin_by}
use Rattle.snap_file.specs.declared.head.Head.{Head}
use Rattle.snap_file.specs.declared.fault.SnapFault.TheVariants.{BadHead, BadBatch, RepeatedNumber, TotalDiffers}
use Rattle.snap_file.specs.declared.fault.SnapFault.TheVariants.{BadCheck}
use Rattle.snap_file.proofs.Fields.{Skips, skips_give, skips_bind, skips_test, skips_field, skips_number, wide8, wide32, wide64, inside}
use Rattle.snap_file.proofs.Again.{tally_after, cells_after, counted_after, skips_cells, skips_head, head_of}
use Rattle.snap_file.proofs.Order.{built-entries, entries_again, rise_all}

pub total_is : (m : Counts) → count_sum (entries m) ≡ total m
unfolding total
total_is m = refl

same_batch : (rows cols : ℕ) (b : Submission) (counts : Counts) → b.matrix.rows ≡ rows → b.matrix.cols ≡ cols →
    counts ≡ b.matrix.counts →
    ◌≡◌ {A = Submission} (record { client = b.client; number = b.number; matrix = matrix rows cols counts }) b
same_batch rows cols b counts r c m =
    ap (λ (x : Matrix). let y : Submission = record { client = b.client; number = b.number; matrix = x } in y)
    (ap (λ (n : ℕ). matrix n cols counts) (sym r) ∙ ap (λ (n : ℕ). matrix b.matrix.rows n counts) (sym c) ∙
    ap (matrix b.matrix.rows b.matrix.cols) m)

-- the cells of a matrix make it again, and were counted
built_is : (m : Counts) (c : ℕ) → built_of (tally_after (no_cells c) (entries m)).cells ≡ m
built_is m c = ap built_of (cells_after (entries m) (no_cells c)) ∙ ap built (entries_again (entries m)) ∙
    built-entries m

counted_is : (m : Counts) (c : ℕ) → (tally_after (no_cells c) (entries m)).counted ≡ c + total m
counted_is m c = counted_after (entries m) (no_cells c) ∙ ap (λ (n : ℕ). c + n) (total_is m)

-- ---- what is folded

skips_entry : (h : Head) (p : Progress) (e : Entry) → h.total < 2 ^ 64 → IsEntry e →
    stands_in e.client e.number p.state.folded ≡ false → p.counted + e.total ≤ h.total →
    Skips (entry h p) (with_entry p e) (entry_bytes e)
unfolding entry
skips_entry h p e most is new fits =
    let y = with_entry p e in
    skips_number w64 (2 ^ 64) wide64 e.client _ y _ is.client
    (skips_number w64 (2 ^ 64) wide64 e.number _ y _ is.number
    (skips_test (stands_in e.client e.number p.state.folded) RepeatedNumber _ y _ new
    (skips_number w64 (2 ^ 64) wide64 e.cells _ y _ is.cells
    (skips_number w64 (2 ^ 64) wide64 e.total _ y _ is.total
    (skips_test (nat_lt h.total (p.counted + e.total)) TotalDiffers _ y _
    (le-ltb h.total (p.counted + e.total) fits)
    (skips_give y))))))

abbrev pub entries_after : Progress → List Entry → Progress
entries_after p es = record {
  state = accepted p.state.base (p.state.folded ++ es) p.state.list;
  counted = p.counted + total_of_entries es;
}

pub entries_none : (p : Progress) → p ≡ entries_after p []
entries_none p =
    ap (λ (l : List Entry). let y : Progress = record {
      state = accepted p.state.base l p.state.list;
      counted = p.counted;
    } in y) (sym (append-nil p.state.folded))
    ∙ ap (λ (n : ℕ). let y : Progress = record {
      state = accepted p.state.base (p.state.folded ++ []) p.state.list;
      counted = n;
    } in y) (omega arith)

pub entries_more : (p : Progress) (e : Entry) (es : List Entry) →
    entries_after (with_entry p e) es ≡ entries_after p (e ∷ es)
entries_more p e es =
    ap (λ (l : List Entry). let y : Progress = record {
      state = accepted p.state.base l p.state.list;
      counted = p.counted + e.total + total_of_entries es;
    } in y) (append_assoc p.state.folded (e ∷ []) es)
    ∙ ap (λ (n : ℕ). let y : Progress = record {
      state = accepted p.state.base (p.state.folded ++ e ∷ es) p.state.list;
      counted = n;
    } in y) (omega arith)

skips_entries : (h : Head) (es : List Entry) (p : Progress) → h.total < 2 ^ 64 → AllByRecursion IsEntry es →
    AreNew p.state.folded es → p.counted + total_of_entries es ≤ h.total →
    Skips (entries_behind h (length es) p) (entries_after p es) (flat_map entry_bytes es)
unfolding entries_behind
skips_entries h [] p most each new fits =
    subst (λ (x : Progress). Skips (give p) x []) (entries_none p) (skips_give p)
skips_entries h (e ∷ es) p most each new fits =
    let q = with_entry p e in
    let one = skips_entry h p e most each.0 new.0 (omega arith) in
    let rest = skips_entries h es q most each.1 new.1 (omega arith) in
    subst (λ (x : Progress). Skips (entries_behind h (suc (length es)) p) x (entry_bytes e ++ flat_map entry_bytes es))
    (entries_more p e es)
    (skips_bind (entry h p) _ q (entries_after q es) (entry_bytes e) (flat_map entry_bytes es) one rest)

abbrev pub based_on : Progress → Counts → Progress
based_on p m = record { state = accepted m p.state.folded p.state.list; counted = p.counted }

-- a base has no cell where nothing is folded
founded : (folded : List Entry) (m : Counts) → (folded ≡ [] → m ≡ empty) →
    ((length folded == 0) && not (len m == 0)) ≡ false
founded [] m h = ap (λ (n : ℕ). (length {A = Entry} [] == 0) && not (n == 0)) (ap len (h refl) ∙ len-empty place_cmp ℕ)
founded (x ∷ xs) m h =
    let some : eqb (length (x ∷ xs)) 0 ≡ false = ne_eqb (length (x ∷ xs)) 0 (λ e. omega arith) in
    ap (λ (t : Bool). t && not (len m == 0)) some

skips_base : (h : Head) (p : Progress) (m : Counts) → h.setup.rows ≤ 2 ^ 60 → h.setup.cols ≤ 2 ^ 60 →
    p.counted < 2 ^ 64 → len m < 2 ^ 64 → AllByRecursion (LiesWithin h.setup.rows h.setup.cols) (entries m) →
    total m ≡ p.counted → (p.state.folded ≡ [] → m ≡ empty) → Skips (base h p) (based_on p m) (matrix_bytes m)
unfolding base
skips_base h p m rows cols most few inner sum none =
    let es = entries m in
    let t = tally_after (no_cells 0) es in
    let y = with_base p t.cells in
    let cells : Skips (cells_behind h p.counted (length es) (no_cells 0)) t (cells_bytes es) =
    skips_cells h p.counted es (no_cells 0) rows cols most inner (rise_all es (entries_sorted m))
    (let e = total_is m in omega arith) in
    let met : not (t.counted == p.counted) ≡ false = ap not (eq-eqb t.counted p.counted
    (omega (arith, counted_is m 0, sum))) in
    subst (λ (x : Progress). Skips (base h p) x (matrix_bytes m))
    (ap (based_on p) (built_is m 0))
    (skips_number w64 (2 ^ 64) wide64 (len m) _ y _ few
    (skips_test ((length p.state.folded == 0) && not (len m == 0)) BadBatch _ y _
    (founded p.state.folded m none)
    (skips_bind (cells_behind h p.counted (len m) (no_cells 0)) _ t y (cells_bytes es) []
    (subst (λ (n : ℕ). Skips (cells_behind h p.counted n (no_cells 0)) t (cells_bytes es)) (sym (len-entries m)) cells)
    (skips_test (not (t.counted == p.counted)) TotalDiffers _ y [] met (skips_give y)))))

-- what a file has of folded batches
abbrev folded_of : Accepted → Progress
folded_of a = record { state = accepted a.base a.folded []; counted = 0 + total_of_entries a.folded }

-- the head of the file of this version
abbrev head_in : ℕ → Setting → Accepted → Head
head_in v s a = head_of v s (length a.list) (total_in a)

skips_folded : (v : ℕ) (s : Setting) (a : Accepted) → IsReadable s a →
    Skips (folded_past (head_in v s a)) (folded_of a) (past_bytes a.base a.folded)
unfolding folded_past
skips_folded v s a kept =
    let h = head_in v s a in
    let n = length a.folded in
    let y = folded_of a in
    let q = entries_after nothing_yet a.folded in
    let limit = kept.setup.limit.1 in let most = kept.setup.batches.1 in
    let total_is = total_parts a in let fits = kept.fits in let few = kept.few in
    let entries_read : Skips (entries_behind h n nothing_yet) q (flat_map entry_bytes a.folded) =
    skips_entries h a.folded nothing_yet (omega arith) kept.folded kept.distinct (omega arith) in
    let base_read : Skips (base h q) y (matrix_bytes a.base) =
    skips_base h q a.base kept.setup.rows.1 kept.setup.cols.1 (omega arith) kept.few_cells kept.within
    (let sum = kept.based.adds_up in omega arith) kept.based.none in
    skips_number w64 (2 ^ 64) wide64 n _ y _ (omega arith)
    (skips_test (outside 0 (s.max_batches - length a.list) n) BadHead _ y _
    (inside 0 (s.max_batches - length a.list) n (omega arith) (omega arith))
    (skips_bind (entries_behind h n nothing_yet) _ q y (flat_map entry_bytes a.folded) (matrix_bytes a.base)
    entries_read base_read))

-- in a file of version 1 nothing is folded
pub past_none : (h : Head) (k : Progress → Reading) → h.version ≡ old_version → past h k ≡ k nothing_yet
unfolding past
past_none h k e = ap (λ (n : ℕ). cond (n == old_version) (k nothing_yet) (folded_past h k)) e

pub past_some : (h : Head) (k : Progress → Reading) → (h.version ≡ old_version → ⊥) → past h k ≡ folded_past h k
unfolding past
past_some h k new_one =
    ap (λ (t : Bool). cond t (k nothing_yet) (folded_past h k)) (ne_eqb h.version old_version new_one)

pub past_missing : (v : ℕ) (m : Counts) (es : List Entry) → v ≡ old_version → past_in v m es ≡ []
unfolding past_in
past_missing v m es e = ap (λ (n : ℕ). cond (n == old_version) [] (past_bytes m es)) e

pub past_there : (v : ℕ) (m : Counts) (es : List Entry) → (v ≡ old_version → ⊥) → past_in v m es ≡ past_bytes m es
unfolding past_in
past_there v m es new_one = ap (λ (t : Bool). cond t [] (past_bytes m es)) (ne_eqb v old_version new_one)

-- what is folded, in any version
record PastAgain (v : ℕ) (s : Setting) (a : Accepted) : Type 0 where
  p : Progress
  state_is : p.state ≡ accepted a.base a.folded []
  counted_is : p.counted ≡ total_of_entries a.folded
  again : Skips (past (head_in v s a)) p (past_in v a.base a.folded)

past_again : (v : ℕ) (s : Setting) (a : Accepted) → IsReadable s a → (v ≡ old_version → a ≡ unfolded a.list) →
    PastAgain v s a
past_again v s a kept none = elim (cases_order v old_version) [
  | inl same ↦ old same
  | inr (inl less) ↦ new (λ e. omega arith)
  | inr (inr more) ↦ new (λ e. omega arith)
]
  where
    new : (v ≡ old_version → ⊥) → PastAgain v s a
    new newer =
        let f = skips_folded v s a kept in
        record {
          p = folded_of a;
          state_is = refl;
          counted_is = omega arith;
          again = subst (λ (l : List ℕ). Skips (past (head_in v s a)) (folded_of a) l)
              (sym (past_there v a.base a.folded newer))
              (record {
                reads = λ k before more. ap (λ (r : Reading). r (record {
                  before = before;
                  rest = past_bytes a.base a.folded ++ more;
                })) (past_some (head_in v s a) k newer) ∙ f.reads k before more;
              });
        }

    old : v ≡ old_version → PastAgain v s a
    old same =
        let all = none same in
        record {
          p = nothing_yet;
          state_is = ap (λ (x : Accepted). accepted x.base x.folded []) (sym all);
          counted_is = ap (λ (x : Accepted). total_of_entries x.folded) (sym all);
          again = subst (λ (l : List ℕ). Skips (past (head_in v s a)) nothing_yet l)
              (sym (past_missing v a.base a.folded same))
              (record {
                reads = λ k before more.
                    ap (λ (r : Reading). r (record { before = before; rest = more }))
                    (past_none (head_in v s a) k same)
                    ∙ ap (λ (l : List ℕ). k nothing_yet (record { before = l; rest = more })) (sym (append-nil before));
              });
        }

-- ---- batches

abbrev pub progress_with : Progress → Submission → Progress
progress_with p b = record { state = with_batch p.state b; counted = p.counted + total b.matrix.counts }

pub read_as : (h : Head) (p : Progress) (b : Submission) → IsBatch h.setup.rows h.setup.cols b →
    with_cells h p b.client b.number (tally_after (no_cells p.counted) (entries b.matrix.counts)) ≡ progress_with p b
read_as h p b is =
    let t = tally_after (no_cells p.counted) (entries b.matrix.counts) in
    ap (λ (x : Submission). let y : Progress = record { state = with_batch p.state x; counted = t.counted } in y)
    (same_batch h.setup.rows h.setup.cols b (built_of t.cells) is.rows_are is.cols_are
    (built_is b.matrix.counts p.counted))
    ∙ ap (λ (n : ℕ). let y : Progress = record { state = with_batch p.state b; counted = n } in y)
    (counted_is b.matrix.counts p.counted)

skips_batch : (h : Head) (p : Progress) (b : Submission) → h.setup.rows ≤ 2 ^ 60 → h.setup.cols ≤ 2 ^ 60 →
    h.total < 2 ^ 64 → IsBatch h.setup.rows h.setup.cols b →
    stands_in b.client b.number (entries_in p.state) ≡ false → p.counted + total b.matrix.counts ≤ h.total →
    Skips (batch h p) (progress_with p b) (batch_bytes b)
unfolding batch
skips_batch h p b rows cols most is new fits =
    let m = b.matrix.counts in
    let es = entries m in
    let y = with_cells h p b.client b.number (tally_after (no_cells p.counted) es) in
    let cells : Skips (cells_behind h h.total (length es) (no_cells p.counted)) (tally_after (no_cells p.counted) es)
    (cells_bytes es) =
    skips_cells h h.total es (no_cells p.counted) rows cols most is.within (rise_all es (entries_sorted m))
    (let e = total_is m in omega arith) in
    subst (λ (x : Progress). Skips (batch h p) x (batch_bytes b)) (read_as h p b is)
    (skips_number w64 (2 ^ 64) wide64 b.client _ y _ is.client
    (skips_number w64 (2 ^ 64) wide64 b.number _ y _ is.number
    (skips_test (stands_in b.client b.number (entries_in p.state)) RepeatedNumber _ y _ new
    (skips_number w64 (2 ^ 64) wide64 (len m) _ y _ is.few
    (skips_bind (cells_behind h h.total (len m) (no_cells p.counted)) _ (tally_after (no_cells p.counted) es) y
    (cells_bytes es) []
    (subst (λ (n : ℕ). Skips (cells_behind h h.total n (no_cells p.counted)) (tally_after (no_cells p.counted) es)
    (cells_bytes es)) (sym (len-entries m)) cells)
    (skips_give y))))))

abbrev pub progress_after : Progress → List Submission → Progress
progress_after p list = record {
  state = accepted p.state.base p.state.folded (p.state.list ++ list);
  counted = p.counted + list_total list;
}

pub progress_none : (p : Progress) → p ≡ progress_after p []
progress_none p =
    ap (λ (l : List Submission). let y : Progress = record {
      state = accepted p.state.base p.state.folded l;
      counted = p.counted;
    } in y) (sym (append-nil p.state.list))
    ∙ ap (λ (n : ℕ). let y : Progress = record {
      state = accepted p.state.base p.state.folded (p.state.list ++ []);
      counted = n;
    } in y) (omega arith)

pub progress_more : (p : Progress) (b : Submission) (list : List Submission) →
    progress_after (progress_with p b) list ≡ progress_after p (b ∷ list)
progress_more p b list =
    ap (λ (l : List Submission). let y : Progress = record {
      state = accepted p.state.base p.state.folded l;
      counted = p.counted + total b.matrix.counts + list_total list;
    } in y) (append_assoc p.state.list (b ∷ []) list)
    ∙ ap (λ (n : ℕ). let y : Progress = record {
      state = accepted p.state.base p.state.folded (p.state.list ++ b ∷ list);
      counted = n;
    } in y) (omega arith)

total_met : (n m : ℕ) (kind : _) (k : Unit {0} → Reading) (input : Input) → n ≡ m →
    refuse_if (not (n == m)) kind k input ≡ k tt input
unfolding refuse_if
total_met n m kind k input e = rw (eq-eqb n m e) refl

-- ---- checksums

sum_below : (bytes : List ℕ) → checksum_of bytes < 2 ^ 32
sum_below bytes = below (after_bytes all_ones bytes)
  where
    below : (r : ℕ) → complement r < 2 ^ 32
    below r = omega arith

check_again : (v : ℕ) (k : Unit {0} → Reading) (before more : List ℕ) →
    check_in v k (record { before = before; rest = check_bytes v before ++ more }) ≡
    k tt (record { before = before ++ check_bytes v before; rest = more })
unfolding check_in check check_bytes
check_again v k before more = either (nat_le checked_version v)
  where
    there : check k (record { before = before; rest = number_bytes w32 (checksum_of before) ++ more }) ≡
        k tt (record { before = before ++ number_bytes w32 (checksum_of before); rest = more })
    there =
        let c = checksum_of before in
        let field = skips_field w32 (2 ^ 32) wide32 c (sum_below before) in
        field.reads (λ n. refuse_if (not (n == c)) BadCheck k) before more
        ∙ total_met c c BadCheck k (record { before = before ++ number_bytes w32 c; rest = more }) refl

    either : (test : Bool) → cond test (check k) (k tt) (record {
      before = before;
      rest = cond test (number_bytes w32 (checksum_of before)) [] ++ more;
    }) ≡
        k tt (record { before = before ++ cond test (number_bytes w32 (checksum_of before)) []; rest = more })
    either true = there
    either false = ap (λ (l : List ℕ). k tt (record { before = l; rest = more })) (sym (append-nil before))

-- a part and the checksum of all bytes up to its end
checked_again : {A : Type 0} (p : Part A) (x : A) (bytes : List ℕ) (v : A → ℕ) (k : A → Reading)
    (before more : List ℕ) → Skips p x bytes →
    p (λ (y : A). check_in (v y) (λ _. k y)) (record {
      before = before;
      rest = checked_bytes (v x) before bytes ++ more;
    }) ≡
    k x (record { before = before ++ checked_bytes (v x) before bytes; rest = more })
checked_again p x bytes v k before more s =
    let sum = check_bytes (v x) (before ++ bytes) in
    ap (λ (l : List ℕ). p (λ y. check_in (v y) (λ _. k y)) (record { before = before; rest = l }))
    (append_assoc bytes sum more)
    ∙ s.reads (λ y. check_in (v y) (λ _. k y)) before (sum ++ more)
    ∙ check_again (v x) (λ _. k x) (before ++ bytes) more
    ∙ ap (λ (l : List ℕ). k x (record { before = l; rest = more })) (append_assoc before bytes sum)

-- ---- whose the file is

flag_again : (b : Bool) → (flag b == 1) ≡ b
flag_again true = refl
flag_again false = refl

flag_below : (b : Bool) → flag b < 2 ^ 8
flag_below true = omega arith
flag_below false = omega arith

flag_inside : (b : Bool) → outside 0 1 (flag b) ≡ false
flag_inside true = refl
flag_inside false = refl

skips_named : (o : Origin) → IsIdentity o.identity → Skips named o (origin_bytes o)
unfolding named
skips_named o is =
    let i = o.identity in
    let n = flag o.has_log in
    let y = origin i (n == 1) in
    let parts : Skips named y (number_bytes w64 i.book_high ++ (number_bytes w64 i.book_low ++
    (number_bytes w64 i.window ++ (number_bytes w8 n ++ [])))) =
    skips_number w64 (2 ^ 64) wide64 i.book_high _ y _ is.high
    (skips_number w64 (2 ^ 64) wide64 i.book_low _ y _ is.low
    (skips_number w64 (2 ^ 64) wide64 i.window _ y _ is.window
    (skips_number w8 (2 ^ 8) wide8 n _ y _ (flag_below o.has_log)
    (skips_test (outside 0 1 n) BadHead _ y _ (flag_inside o.has_log) (skips_give y))))) in
    let bytes_are : number_bytes w64 i.book_high ++ (number_bytes w64 i.book_low ++
    (number_bytes w64 i.window ++ (number_bytes w8 n ++ []))) ≡ origin_bytes o =
    ap (λ (l : List ℕ). number_bytes w64 i.book_high ++ (number_bytes w64 i.book_low ++
    (number_bytes w64 i.window ++ l))) (append-nil (number_bytes w8 n))
    ∙ ap (λ (l : List ℕ). number_bytes w64 i.book_high ++ l)
    (sym (append_assoc (number_bytes w64 i.book_low) (number_bytes w64 i.window) (number_bytes w8 n)))
    ∙ sym (append_assoc (number_bytes w64 i.book_high) (number_bytes w64 i.book_low ++ number_bytes w64 i.window)
    (number_bytes w8 n)) in
    subst (λ (l : List ℕ). Skips named o l) bytes_are
    (subst (λ (x : Origin). Skips named x (number_bytes w64 i.book_high ++ (number_bytes w64 i.book_low ++
    (number_bytes w64 i.window ++ (number_bytes w8 n ++ [])))))
    (ap (origin i) (flag_again o.has_log)) parts)

-- in any version
origin_again : (v : ℕ) (o : Origin) → IsIdentity o.identity → v ≤ version → (v < version → o ≡ unknown) →
    Skips (origin_by v) o (origin_in v o)
unfolding origin_by origin_in
origin_again v o is high old = either (v == version) refl
  where
    either : (test : Bool) → (v == version) ≡ test →
        Skips (λ (k : Origin → Reading). cond test (named k) (k unknown)) o (cond test (origin_bytes o) [])
    either true e = skips_named o is
    either false e = subst (λ (x : Origin). Skips (give unknown) x []) (sym (old (omega (arith, eqb-false v version e))))
        (skips_give unknown)

-- the head, and whose the file is
abbrev front : Part (Head × Origin)
front k = head (λ h. origin_by h.version (λ o. k (h, o)))

skips_front : (h : Head) (o : Origin) (a b : List ℕ) → Skips head h a → Skips (origin_by h.version) o b →
    Skips front (h, o) (a ++ b)
skips_front h o a b first second =
    skips_bind head (λ (g : Head). λ (k : Head × Origin → Reading). origin_by g.version (λ x. k (g, x))) h (h, o) a b
    first (record { reads = λ k before more. second.reads (λ x. k (h, x)) before more })

-- ---- the whole file

batches_again : (h : Head) (list : List Submission) (p : Progress) (k : Progress → Reading) (before more : List ℕ) →
    h.setup.rows ≤ 2 ^ 60 → h.setup.cols ≤ 2 ^ 60 →
    h.total < 2 ^ 64 → AllByRecursion (IsBatch h.setup.rows h.setup.cols) list →
    AreNew (entries_in p.state) (entries_of list) → p.counted + list_total list ≤ h.total →
    batches_behind h (length list) p k (record {
      before = before;
      rest = batches_bytes h.version before list ++ more;
    }) ≡
    k (progress_after p list) (record { before = before ++ batches_bytes h.version before list; rest = more })
unfolding batches_behind
batches_again h [] p k before more rows cols most each new fits =
    ap (λ (x : Progress). k x (record { before = before; rest = more })) (progress_none p)
    ∙ ap (λ (l : List ℕ). k (progress_after p []) (record { before = l; rest = more })) (sym (append-nil before))
batches_again h (b ∷ list) p k before more rows cols most each new fits =
    let q = progress_with p b in
    let one = skips_batch h p b rows cols most each.0 new.0 (omega arith) in
    let part = checked_bytes h.version before (batch_bytes b) in
    let behind = batches_bytes h.version (before ++ part) list in
    ap (λ (l : List ℕ). batch h p (λ (y : Progress). check_in h.version (λ _. batches_behind h (length list) y k))
    (record { before = before; rest = l })) (append_assoc part behind more)
    ∙ checked_again (batch h p) q (batch_bytes b) (λ _. h.version) (λ y. batches_behind h (length list) y k)
    before (behind ++ more) one
    ∙ batches_again h list q k (before ++ part) more rows cols most each.1
    (subst (λ (l : List Entry). AreNew l (entries_of list)) (sym (entries-with p.state b)) new.1) (omega arith)
    ∙ ap (λ (l : List ℕ). k (progress_after q list) (record { before = l; rest = more }))
    (append_assoc before part behind)
    ∙ ap (λ (x : Progress). k x (record { before = before ++ (part ++ behind); rest = more })) (progress_more p b list)

-- the batches and the end, behind what is folded
rest_again : (v : ℕ) (o : Origin) (s : Setting) (a : Accepted) (p : Progress) (before more : List ℕ) → IsReadable s a →
    p.state ≡ accepted a.base a.folded [] → p.counted ≡ total_of_entries a.folded →
    rest_of (head_in v s a) o p (record { before = before; rest = batches_bytes v before a.list ++ more }) ≡
    end (contents o s a) (record { before = before ++ batches_bytes v before a.list; rest = more })
rest_again v o s a p before more kept state counted =
    let h = head_in v s a in
    let c = batches_bytes v before a.list in
    let limit = kept.setup.limit.1 in let fits = kept.fits in let total_is = total_parts a in
    let new : AreNew (entries_in p.state) (entries_of a.list) =
    subst (λ (l : List Entry). AreNew l (entries_of a.list)) (sym (ap entries_in state ∙ append-nil a.folded))
    kept.behind in
    let last = progress_after p a.list in
    batches_again h a.list p (ending h o) before more kept.setup.rows.1 kept.setup.cols.1 (omega arith) kept.each new
    (omega arith)
    ∙ total_met last.counted h.total TotalDiffers (λ (_ : Unit {0}). end (contents_of h o last))
    (record { before = before ++ c; rest = more }) (omega arith)
    ∙ ap (λ (x : Accepted). end (contents o s (accepted x.base x.folded (x.list ++ a.list)))
    (record { before = before ++ c; rest = more })) state

file_in_again : (v : ℕ) (o : Origin) (s : Setting) (a : Accepted) (more : List ℕ) → IsIdentity o.identity →
    IsReadable s a → old_version ≤ v → v ≤ version → (v ≡ old_version → a ≡ unfolded a.list) →
    (v < version → o ≡ unknown) → s.max_batches ≤ most_batches_of v →
    reading_of (file_in v o s a ++ more) ≡ end (contents o s a) (record { before = file_in v o s a; rest = more })
unfolding reading_of
file_in_again v o s a more is kept low high none old allowed =
    let n = length a.list in let t = total_in a in
    let h = head_in v s a in
    let first_bytes = head_bytes v s n t ++ origin_in v o in
    let past_is = past_again v s a kept none in
    let folded = past_in v a.base a.folded in
    let x = checked_bytes v [] first_bytes in
    let y = checked_bytes v x folded in
    let z = batches_bytes v (x ++ y) a.list in
    let few = kept.few in let fits = kept.fits in let total_is = total_parts a in
    let first = skips_front h o (head_bytes v s n t) (origin_in v o)
    (skips_head v s n t low high kept.setup allowed (omega arith) (omega arith)) (origin_again v o is high old) in
    ap (λ (l : List ℕ). front (λ (f : Head × Origin). check_in f.0.version (λ _. body f.0 f.1))
    (record { before = []; rest = l })) (append_assoc x (y ++ z) more)
    ∙ checked_again front (h, o) first_bytes (λ (f : Head × Origin). f.0.version)
    (λ (f : Head × Origin). body f.0 f.1) [] ((y ++ z) ++ more) first
    ∙ ap (λ (l : List ℕ). body h o (record { before = x; rest = l })) (append_assoc y z more)
    ∙ checked_again (past h) past_is.p folded (λ _. v) (rest_of h o) x (z ++ more) past_is.again
    ∙ rest_again v o s a past_is.p (x ++ y) more kept past_is.state_is past_is.counted_is
    ∙ ap (λ (l : List ℕ). end (contents o s a) (record { before = l; rest = more })) (append_assoc x y z)

-- what was spelled is read again, in any version
pub file_again : (bytes : List ℕ) (o : Origin) (s : Setting) (a : Accepted) (more : List ℕ) →
    IsIdentity o.identity → IsReadable s a → IsSpelled bytes o s a →
    reading_of (bytes ++ more) ≡ end (contents o s a) (record { before = bytes; rest = more })
file_again bytes o s a more named kept is =
    ap (λ (l : List ℕ). reading_of (l ++ more)) is.bytes_are
    ∙ file_in_again is.file_version o s a more named kept is.low is.high is.unfolded_is is.origin_is is.most
    ∙ ap (λ (l : List ℕ). end (contents o s a) (record { before = l; rest = more })) (sym is.bytes_are)
