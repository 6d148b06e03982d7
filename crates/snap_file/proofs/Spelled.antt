-- What is read was spelled so: the head, cells, batches, and the whole file.
use Rattle.std.proofs.Common.{◌≡◌, ℕ, zero, suc, ◌+◌, ◌-◌, ◌^◌, ◌<◌, ◌≤◌, ◌⊎◌, Bool, true, false, cond, not, List, []}
use Rattle.std.proofs.Common.{◌∷◌, ◌++◌, length, map, flat_map, Result, Ok, Err, refl, sym, ap, subst, ◌∙◌}
use Rattle.std.proofs.Common.{append_assoc, arith, inl, inr}
use Rattle.std.specs.Prelude.{◌==◌, ◌&&◌, nat_le}
use Rattle.std.specs.List.{AllByRecursion}
use Rattle.std.specs.Int.{w8, w32, w64}
use Rattle.std.specs.FinMap.{empty, entries, len, len-entries, len-empty, empty_of_len}
use Rattle.std.proofs.lemmas.List.{append-nil}
use Rattle.std.proofs.lemmas.Bool.{cases_order, ltb-false, leb-false}
use Rattle.std.proofs.lemmas.Bool.Decides.{nat_tests}
use Rattle.hyper_matrix.specs.Counts.{Place, place_cmp, Counts, count_sum, total, built}
use Rattle.hyper_matrix.specs.Shared.{LiesWithin}
use Rattle.hyper_matrix.specs.Matrix.{matrix}
use Rattle.hyper_matrix.specs.Cells.{entry_of, built_of}
use Rattle.hyper_matrix.proofs.CountLaws.{total-empty}
use Rattle.batch_store.specs.declared.verdict.Entry.{Entry}
use Rattle.batch_store.specs.Accepted.{Accepted, accepted, unfolded, entries_in, total_in, IsBase}
use Rattle.batch_store.specs.Batches.{Submission, entries_of}
use Rattle.batch_store.specs.Books.{list_total}
use Rattle.batch_store.specs.Setups.{Setting}
use Rattle.batch_store.specs.Verdicts.{total_of_entries}
use Rattle.batch_store.proofs.BookLaws.{entries-with}
use Rattle.snap_file.proofs.Kept.{IsSetup, CutsFrom, AreNew, IsReadable, total_parts}
use Rattle.crc32c.specs.Remainders.{checksum_of}
use Rattle.snap_file.specs.Origins.{identity, origin, unknown, IsIdentity}
use Rattle.snap_file.specs.Spelling.{flag, origin_bytes, origin_in, checked_version, old_most_batches, most_batches_of}
use Rattle.snap_file.specs.declared.origin.Origin.{Origin}
use Rattle.snap_file.specs.Spelling.{IsBytes, number_bytes, mark, old_version, version, head_bytes, cells_bytes}
use Rattle.snap_file.specs.Spelling.{matrix_bytes, batch_bytes, entry_bytes, stands_in, IsBatch, IsEntry}
use Rattle.snap_file.specs.Spelling.{past_in, check_bytes, checked_bytes, batches_bytes, file_in, IsSpelled}
use Rattle.snap_file.specs.Table.{Fault, Contents, Reading, head, cuts_behind, Tally, cells_behind, Progress, no_cells}
use Rattle.snap_file.specs.Table.{with_entry, entry, entries_behind, base, folded_past, past, with_cells, batch}
use Rattle.snap_file.specs.Table.{batches_behind, end, nothing_yet, contents, reading_of, check, check_in, body, rest_of}
use Rattle.snap_file.specs.Table.{ending, named, origin_by}
use Rattle.snap_file.specs.declared.head.Head.{Head}
use Rattle.snap_file.specs.declared.fault.SnapFault.TheVariants.{ExtraBytes}
use Rattle.snap_file.proofs.Fields.{Stands, field_then, passed, passed_then, within, one_value, same_number, wide8, wide32}
use Rattle.snap_file.proofs.Fields.{wide64}
use Rattle.snap_file.proofs.Again.{cell_of, tally_with, tally_after, cells_after, counted_after, RiseFrom, cell_joined}
use Rattle.snap_file.proofs.Order.{entries-built, entries_again, sorted_rising}
use Rattle.snap_file.proofs.Whole.{total_is, read_as, progress_with, progress_after, progress_none, progress_more}
use Rattle.snap_file.proofs.Whole.{entries_after, entries_none, entries_more, based_on, past_none, past_some}
use Rattle.snap_file.proofs.Whole.{past_there, past_missing}

-- These bytes stand in front of the rest, and what follows them gives the same.
pub record Came {A : Type 0} (k : A → Reading) (v : Contents) (start rest : List ℕ) (x : A)
    (bytes : List ℕ) : Type 0 where
  pub before : List ℕ
  pub left : List ℕ
  pub stands : Stands start rest bytes before left
  pub fits : IsBytes left
  pub goes : k x (record { before = before; rest = left }) ≡ Ok v

pub came_here : {A : Type 0} (k : A → Reading) (v : Contents) (before rest : List ℕ) (x : A) → IsBytes rest →
    k x (record { before = before; rest = rest }) ≡ Ok v → Came k v before rest x []
came_here k v before rest x fits e = record {
  before = before;
  left = rest;
  stands = record { before_is = sym (append-nil before); parts = refl };
  fits = fits;
  goes = e;
}

stands_more : (start rest a mid left b end behind : List ℕ) → Stands start rest a mid left →
    Stands mid left b end behind →
    Stands start rest (a ++ b) end behind
stands_more start rest a mid left b end behind s t = record {
  before_is = t.before_is ∙ ap (λ (l : List ℕ). l ++ b) s.before_is ∙ append_assoc start a b;
  parts = s.parts ∙ ap (λ (l : List ℕ). a ++ l) t.parts ∙ sym (append_assoc a b behind);
}

pub came_behind : {A : Type 0} (k : A → Reading) (v : Contents) (start rest a mid left : List ℕ) (x : A) (b : List ℕ) →
    Stands start rest a mid left → Came k v mid left x b → Came k v start rest x (a ++ b)
came_behind k v start rest a mid left x b s c = record {
  before = c.before;
  left = c.left;
  stands = stands_more start rest a mid left b c.before c.left s c.stands;
  fits = c.fits;
  goes = c.goes;
}

-- ---- checksums

check_read : (n : ℕ) (k : Unit {0} → Reading) (v : Contents) (before rest : List ℕ) → IsBytes rest →
    check_in n k (record { before = before; rest = rest }) ≡ Ok v → Came k v before rest tt (check_bytes n before)
unfolding check_in check check_bytes
check_read n k v before rest fits e = either (nat_le checked_version n) e
  where
    there : check k (record { before = before; rest = rest }) ≡ Ok v →
        Came k v before rest tt (number_bytes w32 (checksum_of before))
    there h =
        field_then w32 (2 ^ 32) wide32 _ v before rest fits h (λ f.
        passed_then _ _ _ v _ f.goes (λ t. record {
          before = f.before;
          left = f.left;
          stands = subst (λ (c : ℕ). Stands before rest (number_bytes w32 c) f.before f.left)
              (same_number f.value (checksum_of before) t.0) f.stands;
          fits = f.fits;
          goes = t.1;
        }))

    either : (test : Bool) → cond test (check k) (k tt) (record { before = before; rest = rest }) ≡ Ok v →
        Came k v before rest tt (cond test (number_bytes w32 (checksum_of before)) [])
    either true h = there h
    either false h = came_here k v before rest tt fits h

-- a part that was read, and the checksum of all bytes up to its end
came_checked : {A : Type 0} (n : A → ℕ) (k : A → Reading) (v : Contents) (start rest : List ℕ) (x : A)
    (bytes : List ℕ) → Came (λ (y : A). check_in (n y) (λ _. k y)) v start rest x bytes →
    Came k v start rest x (checked_bytes (n x) start bytes)
came_checked n k v start rest x bytes c =
    let d = check_read (n x) (λ _. k x) v c.before c.left c.fits c.goes in
    record {
      before = d.before;
      left = d.left;
      stands = stands_more start rest bytes c.before c.left (check_bytes (n x) (start ++ bytes)) d.before d.left
          c.stands
          (subst (λ (l : List ℕ). Stands c.before c.left (check_bytes (n x) l) d.before d.left) c.stands.before_is
          d.stands);
      fits = d.fits;
      goes = d.goes;
    }

pub record CutsRead (k : List ℕ → Reading) (v : Contents) (before rest : List ℕ) (n least : ℕ) (done : List ℕ) : Type 0
  where
    pub cuts : List ℕ
    pub count : length cuts ≡ n
    pub are : CutsFrom least cuts
    pub came : Came k v before rest (done ++ cuts) (flat_map (number_bytes w64) cuts)

cuts_read : (n least : ℕ) (done : List ℕ) (k : List ℕ → Reading) (v : Contents) (before rest : List ℕ) →
    IsBytes rest → cuts_behind n least done k (record { before = before; rest = rest }) ≡ Ok v →
    CutsRead k v before rest n least done
unfolding cuts_behind
cuts_read zero least done k v before rest fits e = record {
  cuts = [];
  count = refl;
  are = tt;
  came = subst (λ (l : List ℕ). Came k v before rest l []) (sym (append-nil done))
      (came_here k v before rest done fits e);
}
cuts_read (suc n) least done k v before rest fits e =
    field_then w64 (2 ^ 64) wide64 _ v before rest fits e (λ f.
    passed_then _ _ _ v _ f.goes (λ t.
    let bounds = within least (2 ^ 40) f.value t.0 in
    let more = cuts_read n (f.value + 1) (done ++ f.value ∷ []) k v f.before f.left f.fits t.1 in
    record {
      cuts = f.value ∷ more.cuts;
      count = ap (λ (i : ℕ). suc i) more.count;
      are = (bounds.0, bounds.1, more.are);
      came = came_behind k v before rest (number_bytes w64 f.value) f.before f.left (done ++ f.value ∷ more.cuts)
          (flat_map (number_bytes w64) more.cuts) f.stands
          (subst (λ (l : List ℕ). Came k v f.before f.left l (flat_map (number_bytes w64) more.cuts))
          (append_assoc done (f.value ∷ []) more.cuts) more.came);
    }))

-- arithmetic apart from the chains below, which have many facts
moved : (a b c t : ℕ) → (a + b) + c ≤ t → a + (b + c) ≤ t
moved a b c t h = omega arith

equal_le : (a b c : ℕ) → a ≡ b → b ≤ c → a ≤ c
equal_le a b c e h = omega arith

equal_lt : (a b c : ℕ) → a ≡ b → b < c → a < c
equal_lt a b c e h = omega arith

cuts_then : {P : Type 0} (n least : ℕ) (done : List ℕ) (k : List ℕ → Reading) (v : Contents) (before rest : List ℕ) →
    IsBytes rest → cuts_behind n least done k (record { before = before; rest = rest }) ≡ Ok v →
    (CutsRead k v before rest n least done → P) → P
cuts_then n least done k v before rest fits e f = f (cuts_read n least done k v before rest fits e)

pub record HeadRead (k : Head → Reading) (v : Contents) (before rest : List ℕ) : Type 0 where
  pub h : Head
  pub setup : IsSetup h.setup
  pub few : h.batches ≤ h.setup.max_batches
  pub fits : h.total ≤ h.setup.limit
  pub low : old_version ≤ h.version
  pub high : h.version ≤ version
  pub most : h.setup.max_batches ≤ most_batches_of h.version
  pub came : Came k v before rest h (head_bytes h.version h.setup h.batches h.total)

-- no version allows more batches than the last
fits_most : (n v : ℕ) → n ≤ most_batches_of v → n ≤ 2 ^ 30
fits_most n v h = either (v == version) h
  where
    either : (test : Bool) → n ≤ cond test (2 ^ 30) old_most_batches → n ≤ 2 ^ 30
    either true h = h
    either false h = omega arith

head_read : (k : Head → Reading) (v : Contents) (before rest : List ℕ) → IsBytes rest →
    head k (record { before = before; rest = rest }) ≡ Ok v → HeadRead k v before rest
unfolding head
head_read k v before rest fits e =
    field_then w64 (2 ^ 64) wide64 _ v before rest fits e (λ f1.
    passed_then _ _ _ v _ f1.goes (λ t1.
    field_then w32 (2 ^ 32) wide32 _ v f1.before f1.left f1.fits t1.1 (λ f2.
    passed_then _ _ _ v _ f2.goes (λ t2.
    field_then w64 (2 ^ 64) wide64 _ v f2.before f2.left f2.fits t2.1 (λ f3.
    passed_then _ _ _ v _ f3.goes (λ t3.
    field_then w64 (2 ^ 64) wide64 _ v f3.before f3.left f3.fits t3.1 (λ f4.
    passed_then _ _ _ v _ f4.goes (λ t4.
    field_then w8 (2 ^ 8) wide8 _ v f4.before f4.left f4.fits t4.1 (λ f5.
    passed_then _ _ _ v _ f5.goes (λ t5.
    cuts_then f5.value 1 [] _ v f5.before f5.left f5.fits t5.1 (λ c.
    field_then w8 (2 ^ 8) wide8 _ v c.came.before c.came.left c.came.fits c.came.goes (λ f6.
    passed_then _ _ _ v _ f6.goes (λ t6.
    field_then w64 (2 ^ 64) wide64 _ v f6.before f6.left f6.fits t6.1 (λ f7.
    passed_then _ _ _ v _ f7.goes (λ t7.
    field_then w64 (2 ^ 64) wide64 _ v f7.before f7.left f7.fits t7.1 (λ f8.
    passed_then _ _ _ v _ f8.goes (λ t8.
    field_then w64 (2 ^ 64) wide64 _ v f8.before f8.left f8.fits t8.1 (λ f9.
    passed_then _ _ _ v _ f9.goes (λ t9.
    field_then w64 (2 ^ 64) wide64 _ v f9.before f9.left f9.fits t9.1 (λ f10.
    passed_then _ _ _ v _ f10.goes (λ t10.
    let s : Setting = record {
      rows = f3.value;
      cols = f4.value;
      cuts = c.cuts;
      shards = f6.value;
      limit = f7.value;
      max_batches = f8.value;
    } in
    let h : Head = record { setup = s; version = f2.value; batches = f9.value; total = f10.value } in
    record {
      h = h;
      setup = record {
        rows = within 1 (2 ^ 60) f3.value t3.0;
        cols = within 1 (2 ^ 60) f4.value t4.0;
        few_cuts = equal_le (length c.cuts) f5.value 7 c.count ((within 0 7 f5.value t5.0).1);
        cuts = c.are;
        shards = within 1 64 f6.value t6.0;
        limit = ((within 1 (2 ^ 64 - 1) f7.value t7.0).0, f7.below);
        batches = (
          (within 1 (most_batches_of f2.value) f8.value t8.0).0,
          fits_most f8.value f2.value ((within 1 (most_batches_of f2.value) f8.value t8.0).1),
        );
      };
      few = (within 0 f8.value f9.value t9.0).1;
      fits = (within 0 f7.value f10.value t10.0).1;
      low = (within old_version version f2.value t2.0).0;
      high = (within old_version version f2.value t2.0).1;
      most = (within 1 (most_batches_of f2.value) f8.value t8.0).1;
      came =
          came_behind k v before rest (number_bytes w64 mark) f1.before f1.left h _
          (subst (λ (n : ℕ). Stands before rest (number_bytes w64 n) f1.before f1.left) (one_value mark f1.value t1.0)
          f1.stands)
          (came_behind k v f1.before f1.left (number_bytes w32 f2.value) f2.before f2.left h _ f2.stands
          (came_behind k v f2.before f2.left (number_bytes w64 f3.value) f3.before f3.left h _ f3.stands
          (came_behind k v f3.before f3.left (number_bytes w64 f4.value) f4.before f4.left h _ f4.stands
          (came_behind k v f4.before f4.left (number_bytes w8 (length c.cuts)) f5.before f5.left h _
          (subst (λ (n : ℕ). Stands f4.before f4.left (number_bytes w8 n) f5.before f5.left) (sym c.count) f5.stands)
          (came_behind k v f5.before f5.left (flat_map (number_bytes w64) c.cuts) c.came.before c.came.left h _
          c.came.stands
          (came_behind k v c.came.before c.came.left (number_bytes w8 f6.value) f6.before f6.left h _ f6.stands
          (came_behind k v f6.before f6.left (number_bytes w64 f7.value) f7.before f7.left h _ f7.stands
          (came_behind k v f7.before f7.left (number_bytes w64 f8.value) f8.before f8.left h _ f8.stands
          (came_behind k v f8.before f8.left (number_bytes w64 f9.value) f9.before f9.left h _ f9.stands
          (came_behind k v f9.before f9.left (number_bytes w64 f10.value) f10.before f10.left h _ f10.stands
          (came_here k v f10.before f10.left h f10.fits t10.1)))))))))));
    })))))))))))))))))))))

-- whose the file is
pub record OriginRead (n : ℕ) (k : Origin → Reading) (v : Contents) (before rest : List ℕ) : Type 0 where
  pub o : Origin
  pub is : IsIdentity o.identity
  pub old : n < version → o ≡ unknown
  pub came : Came k v before rest o (origin_in n o)

-- a flag is 0 or 1
flag_is : (n : ℕ) → n ≤ 1 → flag (n == 1) ≡ n
flag_is zero h = refl
flag_is (suc zero) h = refl
flag_is (suc (suc n)) h = absurd (omega arith)

named_read : (k : Origin → Reading) (v : Contents) (before rest : List ℕ) → IsBytes rest →
    named k (record { before = before; rest = rest }) ≡ Ok v →
    (o : Origin) × IsIdentity o.identity × Came k v before rest o (origin_bytes o)
unfolding named
named_read k v before rest fits e =
    field_then w64 (2 ^ 64) wide64 _ v before rest fits e (λ f1.
    field_then w64 (2 ^ 64) wide64 _ v f1.before f1.left f1.fits f1.goes (λ f2.
    field_then w64 (2 ^ 64) wide64 _ v f2.before f2.left f2.fits f2.goes (λ f3.
    field_then w8 (2 ^ 8) wide8 _ v f3.before f3.left f3.fits f3.goes (λ f4.
    passed_then _ _ _ v _ f4.goes (λ t4.
    let o = origin (identity f1.value f2.value f3.value) (f4.value == 1) in
    let flag_same : f4.value ≡ flag (f4.value == 1) = sym (flag_is f4.value ((within 0 1 f4.value t4.0).1)) in (
      o,
      record { high = f1.below; low = f2.below; window = f3.below },
      came_behind k v before rest
          (number_bytes w64 f1.value ++ (number_bytes w64 f2.value ++ number_bytes w64 f3.value)) f3.before f3.left o _
          (stands_more before rest (number_bytes w64 f1.value) f1.before f1.left
          (number_bytes w64 f2.value ++ number_bytes w64 f3.value) f3.before f3.left f1.stands
          (stands_more f1.before f1.left (number_bytes w64 f2.value) f2.before f2.left (number_bytes w64 f3.value)
          f3.before f3.left f2.stands f3.stands))
          (subst (λ (l : List ℕ). Came k v f3.before f3.left o l)
          (append-nil (number_bytes w8 (flag (f4.value == 1))))
          (came_behind k v f3.before f3.left (number_bytes w8 (flag (f4.value == 1))) f4.before f4.left o []
          (subst (λ (n : ℕ). Stands f3.before f3.left (number_bytes w8 n) f4.before f4.left) flag_same f4.stands)
          (came_here k v f4.before f4.left o f4.fits t4.1))),
    ))))))

origin_read : (n : ℕ) (k : Origin → Reading) (v : Contents) (before rest : List ℕ) → IsBytes rest → n ≤ version →
    origin_by n k (record { before = before; rest = rest }) ≡ Ok v → OriginRead n k v before rest
unfolding origin_by origin_in
origin_read n k v before rest fits high e = either (n == version) refl e
  where
    none : IsIdentity unknown.identity
    none = record { high = omega arith; low = omega arith; window = omega arith }

    given : (test : Bool) (o : Origin) → (n == version) ≡ test → IsIdentity o.identity → (n < version → o ≡ unknown) →
        Came k v before rest o (cond test (origin_bytes o) []) → OriginRead n k v before rest
    given test o t is old came = record {
      o = o;
      is = is;
      old = old;
      came = subst (λ (b : Bool). Came k v before rest o (cond b (origin_bytes o) [])) (sym t) came;
    }

    either : (test : Bool) → (n == version) ≡ test →
        cond test (named k) (k unknown) (record { before = before; rest = rest }) ≡ Ok v → OriginRead n k v before rest
    either true t h =
        let r = named_read k v before rest fits h in
        let same : n ≡ version = same_number n version (ap not t) in
        given true r.0 t r.1 (λ less. absurd (omega arith)) r.2
    either false t h = given false unknown t none (λ less. refl) (came_here k v before rest unknown fits h)

pub record CellsRead (k : Tally → Reading) (v : Contents) (before rest : List ℕ) (h : Head) (top n : ℕ)
    (tally : Tally) : Type 0 where
  pub es : List (Place × ℕ)
  pub count : length es ≡ n
  pub inner : AllByRecursion (LiesWithin h.setup.rows h.setup.cols) es
  pub rise : RiseFrom tally.least_row tally.least_col es
  pub fits : tally.counted + count_sum es ≤ top
  pub came : Came k v before rest (tally_after tally es) (cells_bytes es)

pub cells_read : (h : Head) (top n : ℕ) (tally : Tally) (k : Tally → Reading) (v : Contents) (before rest : List ℕ) →
    IsBytes rest → tally.counted ≤ top →
    cells_behind h top n tally k (record { before = before; rest = rest }) ≡ Ok v →
    CellsRead k v before rest h top n tally
unfolding cells_behind
cells_read h top zero tally k v before rest fits below e = record {
  es = [];
  count = refl;
  inner = tt;
  rise = tt;
  fits = omega arith;
  came = came_here k v before rest tally fits e;
}
cells_read h top (suc n) tally k v before rest fits below e =
    field_then w64 (2 ^ 64) wide64 _ v before rest fits e (λ f1.
    passed_then _ _ _ v _ f1.goes (λ t1.
    field_then w64 (2 ^ 64) wide64 _ v f1.before f1.left f1.fits t1.1 (λ f2.
    passed_then _ _ _ v _ f2.goes (λ t2.
    passed_then _ _ _ v _ t2.1 (λ t3.
    field_then w64 (2 ^ 64) wide64 _ v f2.before f2.left f2.fits t3.1 (λ f3.
    passed_then _ _ _ v _ f3.goes (λ t4.
    let entry : Place × ℕ = ((f1.value, f2.value), f3.value) in
    let room = ltb-false top (tally.counted + f3.value) t4.0 in
    let more = cells_read h top n (tally_with tally entry) k v f3.before f3.left f3.fits room t4.1 in
    record {
      es = entry ∷ more.es;
      count = ap (λ (i : ℕ). suc i) more.count;
      inner = ((leb-false h.setup.rows f1.value t1.0, leb-false h.setup.cols f2.value t2.0), more.inner);
      rise = (t3.0, more.rise);
      fits = moved tally.counted f3.value (count_sum more.es) top more.fits;
      came = subst (λ (l : List ℕ). Came k v before rest (tally_after tally (entry ∷ more.es)) l)
          (sym (cell_joined entry (cells_bytes more.es)))
          (came_behind k v before rest (number_bytes w64 f1.value) f1.before f1.left _ _ f1.stands
          (came_behind k v f1.before f1.left (number_bytes w64 f2.value) f2.before f2.left _ _ f2.stands
          (came_behind k v f2.before f2.left (number_bytes w64 f3.value) f3.before f3.left _ _ f3.stands more.came)));
    })))))))

pub cells_then : {P : Type 0} (h : Head) (top n : ℕ) (tally : Tally) (k : Tally → Reading) (v : Contents)
    (before rest : List ℕ) → IsBytes rest → tally.counted ≤ top →
    cells_behind h top n tally k (record { before = before; rest = rest }) ≡ Ok v →
    (CellsRead k v before rest h top n tally → P) → P
cells_then h top n tally k v before rest fits below e f = f (cells_read h top n tally k v before rest fits below e)

-- cells that rise are the entries of what they build
pub entries_are : (es : List (Place × ℕ)) → RiseFrom 0 0 es → entries (built (map entry_of (map cell_of es))) ≡ es
entries_are es rise = ap (λ (l : List (Place × ℕ)). entries (built l)) (entries_again es) ∙
    entries-built es (sorted_rising 0 0 es rise)

-- ---- what is folded

pub record EntryRead (k : Progress → Reading) (v : Contents) (before rest : List ℕ) (h : Head) (p : Progress) : Type 0
  where
    pub e : Entry
    pub is : IsEntry e
    pub new : stands_in e.client e.number p.state.folded ≡ false
    pub fits : p.counted + e.total ≤ h.total
    pub came : Came k v before rest (with_entry p e) (entry_bytes e)

entry_read : (h : Head) (p : Progress) (k : Progress → Reading) (v : Contents) (before rest : List ℕ) →
    IsBytes rest → entry h p k (record { before = before; rest = rest }) ≡ Ok v → EntryRead k v before rest h p
unfolding entry
entry_read h p k v before rest fits e =
    field_then w64 (2 ^ 64) wide64 _ v before rest fits e (λ f1.
    field_then w64 (2 ^ 64) wide64 _ v f1.before f1.left f1.fits f1.goes (λ f2.
    passed_then _ _ _ v _ f2.goes (λ t2.
    field_then w64 (2 ^ 64) wide64 _ v f2.before f2.left f2.fits t2.1 (λ f3.
    field_then w64 (2 ^ 64) wide64 _ v f3.before f3.left f3.fits f3.goes (λ f4.
    passed_then _ _ _ v _ f4.goes (λ t4.
    let one : Entry = record { client = f1.value; number = f2.value; cells = f3.value; total = f4.value } in
    let y = with_entry p one in
    record {
      e = one;
      is = record { client = f1.below; number = f2.below; cells = f3.below; total = f4.below };
      new = t2.0;
      fits = ltb-false h.total (p.counted + f4.value) t4.0;
      came =
          came_behind k v before rest (number_bytes w64 f1.value) f1.before f1.left y _ f1.stands
          (came_behind k v f1.before f1.left (number_bytes w64 f2.value) f2.before f2.left y _ f2.stands
          (came_behind k v f2.before f2.left (number_bytes w64 f3.value) f3.before f3.left y _ f3.stands
          (came_behind k v f3.before f3.left (number_bytes w64 f4.value) f4.before f4.left y [] f4.stands
          (came_here k v f4.before f4.left y f4.fits t4.1))));
    }))))))

pub record EntriesRead (k : Progress → Reading) (v : Contents) (before rest : List ℕ) (h : Head) (n : ℕ)
    (p : Progress) : Type 0 where
  pub es : List Entry
  pub count : length es ≡ n
  pub each : AllByRecursion IsEntry es
  pub new : AreNew p.state.folded es
  pub fits : p.counted + total_of_entries es ≤ h.total
  pub came : Came k v before rest (entries_after p es) (flat_map entry_bytes es)

entries_read : (h : Head) (n : ℕ) (p : Progress) (k : Progress → Reading) (v : Contents) (before rest : List ℕ) →
    IsBytes rest → p.counted ≤ h.total →
    entries_behind h n p k (record { before = before; rest = rest }) ≡ Ok v → EntriesRead k v before rest h n p
unfolding entries_behind
entries_read h zero p k v before rest fits below e = record {
  es = [];
  count = refl;
  each = tt;
  new = tt;
  fits = omega arith;
  came = subst (λ (x : Progress). Came k v before rest x []) (entries_none p) (came_here k v before rest p fits e);
}
entries_read h (suc n) p k v before rest fits below e =
    let one = entry_read h p _ v before rest fits e in
    let room = one.fits in
    let x = one.e in
    let more = entries_read h n (with_entry p x) k v one.came.before one.came.left one.came.fits room one.came.goes in
    let more_fits = more.fits in
    record {
      es = x ∷ more.es;
      count = ap (λ (i : ℕ). suc i) more.count;
      each = (one.is, more.each);
      new = (one.new, more.new);
      fits = omega arith;
      came = came_behind k v before rest (entry_bytes x) one.came.before one.came.left (entries_after p (x ∷ more.es))
          (flat_map entry_bytes more.es) one.came.stands
          (subst (λ (y : Progress). Came k v one.came.before one.came.left y (flat_map entry_bytes more.es))
          (entries_more p x more.es) more.came);
    }

pub record BaseRead (k : Progress → Reading) (v : Contents) (before rest : List ℕ) (h : Head) (p : Progress) : Type 0
  where
    pub m : Counts
    pub few : len m < 2 ^ 64
    pub inner : AllByRecursion (LiesWithin h.setup.rows h.setup.cols) (entries m)
    pub sum : total m ≡ p.counted
    pub none : p.state.folded ≡ [] → m ≡ empty
    pub came : Came k v before rest (based_on p m) (matrix_bytes m)

unfounded : (folded : List Entry) (n : ℕ) → ((length folded == 0) && not (n == 0)) ≡ false → folded ≡ [] → n ≡ 0
unfounded [] n e h = grind (arith, nat_tests)
unfounded (x ∷ xs) n e h = absurd cc

base_read : (h : Head) (p : Progress) (k : Progress → Reading) (v : Contents) (before rest : List ℕ) →
    IsBytes rest → base h p k (record { before = before; rest = rest }) ≡ Ok v → BaseRead k v before rest h p
unfolding base
base_read h p k v before rest fits e =
    field_then w64 (2 ^ 64) wide64 _ v before rest fits e (λ f1.
    passed_then _ _ _ v _ f1.goes (λ t1.
    cells_then h p.counted f1.value (no_cells 0) _ v f1.before f1.left f1.fits (omega arith) t1.1 (λ c.
    passed_then _ _ _ v _ c.came.goes (λ t2.
    let t = tally_after (no_cells 0) c.es in
    let m : Counts = built_of t.cells in
    let cells_are : built_of t.cells ≡ built (map entry_of (map cell_of c.es)) = ap built_of
    (cells_after c.es (no_cells 0)) in
    let same : entries m ≡ c.es = ap entries cells_are ∙ entries_are c.es c.rise in
    let len_is : len m ≡ f1.value = len-entries m ∙ ap length same ∙ c.count in
    let sum_is : total m ≡ count_sum c.es = sym (total_is m) ∙ ap count_sum same in
    let counted : t.counted ≡ p.counted = same_number t.counted p.counted t2.0 in
    let counted_is = counted_after c.es (no_cells 0) in
    record {
      m = m;
      few = equal_lt (len m) f1.value (2 ^ 64) len_is f1.below;
      inner = subst (AllByRecursion (LiesWithin h.setup.rows h.setup.cols)) (sym same) c.inner;
      sum = sum_met (total m) (count_sum c.es) t.counted p.counted sum_is counted_is counted;
      none = λ none. empty_of_len m (len_is ∙ unfounded p.state.folded f1.value t1.0 none);
      came =
          came_behind k v before rest (number_bytes w64 (len m)) f1.before f1.left (based_on p m) _
          (subst (λ (n : ℕ). Stands before rest (number_bytes w64 n) f1.before f1.left) (sym len_is) f1.stands)
          (came_behind k v f1.before f1.left (cells_bytes (entries m)) c.came.before c.came.left (based_on p m) []
          (subst (λ (l : List (Place × ℕ)). Stands f1.before f1.left (cells_bytes l) c.came.before c.came.left)
          (sym same) c.came.stands)
          (came_here k v c.came.before c.came.left (based_on p m) c.came.fits t2.1));
    }))))
  where
    sum_met : (a b c d : ℕ) → a ≡ b → c ≡ 0 + b → c ≡ d → a ≡ d
    sum_met a b c d x y z = omega arith

pub record PastRead (k : Progress → Reading) (v : Contents) (before rest : List ℕ) (h : Head) : Type 0 where
  pub m : Counts
  pub es : List Entry
  pub few : length es ≤ h.setup.max_batches - h.batches
  pub each : AllByRecursion IsEntry es
  pub new : AreNew [] es
  pub fits : total_of_entries es ≤ h.total
  pub few_cells : len m < 2 ^ 64
  pub inner : AllByRecursion (LiesWithin h.setup.rows h.setup.cols) (entries m)
  pub based : IsBase m es
  pub none_old : h.version ≡ old_version → (m ≡ empty) × (es ≡ [])
  pub p : Progress
  pub state_is : p.state ≡ accepted m es []
  pub counted_is : p.counted ≡ total_of_entries es
  pub came : Came k v before rest p (past_in h.version m es)

folded_read : (h : Head) (k : Progress → Reading) (v : Contents) (before rest : List ℕ) → IsBytes rest →
    (h.version ≡ old_version → ⊥) → folded_past h k (record { before = before; rest = rest }) ≡ Ok v →
    PastRead k v before rest h
unfolding folded_past
folded_read h k v before rest fits new_one e =
    field_then w64 (2 ^ 64) wide64 _ v before rest fits e (λ f1.
    passed_then _ _ _ v _ f1.goes (λ t1.
    let all = entries_read h f1.value nothing_yet _ v f1.before f1.left f1.fits (omega arith) t1.1 in
    let q = entries_after nothing_yet all.es in
    let b = base_read h q k v all.came.before all.came.left all.came.fits all.came.goes in
    record {
      m = b.m;
      es = all.es;
      few = equal_le (length all.es) f1.value (h.setup.max_batches - h.batches) all.count
          ((within 0 (h.setup.max_batches - h.batches) f1.value t1.0).1);
      each = all.each;
      new = all.new;
      fits = from_zero (total_of_entries all.es) h.total all.fits;
      few_cells = b.few;
      inner = b.inner;
      based = record { adds_up = b.sum ∙ zero_plus (total_of_entries all.es); none = b.none };
      none_old = λ old. absurd (new_one old);
      p = based_on q b.m;
      state_is = refl;
      counted_is = zero_plus (total_of_entries all.es);
      came = subst (λ (l : List ℕ). Came k v before rest (based_on q b.m) l)
          (sym (past_there h.version b.m all.es new_one))
          (came_behind k v before rest (number_bytes w64 (length all.es)) f1.before f1.left (based_on q b.m) _
          (subst (λ (n : ℕ). Stands before rest (number_bytes w64 n) f1.before f1.left) (sym all.count) f1.stands)
          (came_behind k v f1.before f1.left (flat_map entry_bytes all.es) all.came.before all.came.left
          (based_on q b.m) (matrix_bytes b.m)
          all.came.stands b.came));
    }))
  where
    from_zero : (a b : ℕ) → 0 + a ≤ b → a ≤ b
    from_zero a b h = omega arith

    zero_plus : (a : ℕ) → 0 + a ≡ a
    zero_plus a = omega arith

either_version : (v : ℕ) → (v ≡ old_version → ⊥) ⊎ (v ≡ old_version)
either_version v = elim (cases_order v old_version) [
  | inl same ↦ inr same
  | inr (inl less) ↦ inl (λ e. omega arith)
  | inr (inr more) ↦ inl (λ e. omega arith)
]

past_read : (h : Head) (k : Progress → Reading) (v : Contents) (before rest : List ℕ) → IsBytes rest →
    (h.version ≡ old_version → ⊥) ⊎ (h.version ≡ old_version) →
    past h k (record { before = before; rest = rest }) ≡ Ok v →
    PastRead k v before rest h
past_read h k v before rest fits (inl is) e =
    folded_read h k v before rest fits is
    (sym (ap (λ (r : Reading). r (record { before = before; rest = rest })) (past_some h k is)) ∙ e)
past_read h k v before rest fits (inr is) e = record {
  m = empty;
  es = [];
  few = omega arith;
  each = tt;
  new = tt;
  fits = omega arith;
  few_cells = omega (arith, len-empty place_cmp ℕ);
  inner = subst (AllByRecursion (LiesWithin h.setup.rows h.setup.cols)) (sym no_entries) tt;
  based = record { adds_up = total-empty; none = λ none. refl };
  none_old = λ old. (refl, refl);
  p = nothing_yet;
  state_is = refl;
  counted_is = refl;
  came = subst (λ (l : List ℕ). Came k v before rest nothing_yet l) (sym (past_missing h.version empty [] is))
      (came_here k v before rest nothing_yet fits
      (sym (ap (λ (r : Reading). r (record { before = before; rest = rest })) (past_none h k is)) ∙ e));
}
  where
    none : (es : List (Place × ℕ)) → length es ≡ 0 → es ≡ []
    none [] h = refl
    none (x ∷ xs) h = absurd (omega arith)

    no_entries : ◌≡◌ {A = List (Place × ℕ)} (entries (empty {R = place_cmp})) []
    no_entries = none (entries (empty {R = place_cmp})) (sym (len-entries (empty {R = place_cmp}))
        ∙ len-empty place_cmp ℕ)

-- ---- batches

pub record BatchRead (k : Progress → Reading) (v : Contents) (before rest : List ℕ) (h : Head) (p : Progress) : Type 0
  where
    pub b : Submission
    pub is : IsBatch h.setup.rows h.setup.cols b
    pub new : stands_in b.client b.number (entries_in p.state) ≡ false
    pub fits : p.counted + total b.matrix.counts ≤ h.total
    pub came : Came k v before rest (progress_with p b) (batch_bytes b)

batch_read : (h : Head) (p : Progress) (k : Progress → Reading) (v : Contents) (before rest : List ℕ) → IsBytes rest →
    p.counted ≤ h.total →
    batch h p k (record { before = before; rest = rest }) ≡ Ok v → BatchRead k v before rest h p
unfolding batch
batch_read h p k v before rest fits below e =
    field_then w64 (2 ^ 64) wide64 _ v before rest fits e (λ f1.
    field_then w64 (2 ^ 64) wide64 _ v f1.before f1.left f1.fits f1.goes (λ f2.
    passed_then _ _ _ v _ f2.goes (λ t2.
    field_then w64 (2 ^ 64) wide64 _ v f2.before f2.left f2.fits t2.1 (λ f3.
    cells_then h h.total f3.value (no_cells p.counted) _ v f3.before f3.left f3.fits below f3.goes (λ c.
    let counts : Counts = built (map entry_of (map cell_of c.es)) in
    let b : Submission = record {
      client = f1.value;
      number = f2.value;
      matrix = matrix h.setup.rows h.setup.cols counts;
    } in
    let same : entries counts ≡ c.es = entries_are c.es c.rise in
    let len_is : len counts ≡ f3.value = len-entries counts ∙ ap length same ∙ c.count in
    let total_are : total counts ≡ count_sum c.es = sym (total_is counts) ∙ ap count_sum same in
    let is : IsBatch h.setup.rows h.setup.cols b = record {
      client = f1.below;
      number = f2.below;
      rows_are = refl;
      cols_are = refl;
      few = equal_lt (len counts) f3.value (2 ^ 64) len_is f3.below;
      within = subst (AllByRecursion (LiesWithin h.setup.rows h.setup.cols)) (sym same) c.inner;
    } in
    let y_is : with_cells h p f1.value f2.value (tally_after (no_cells p.counted) c.es) ≡ progress_with p b =
    ap (λ (l : List (Place × ℕ)). with_cells h p f1.value f2.value (tally_after (no_cells p.counted) l))
    (sym same) ∙ read_as h p b is in
    record {
      b = b;
      is = is;
      new = t2.0;
      fits = subst (λ (n : ℕ). p.counted + n ≤ h.total) (sym total_are) c.fits;
      came =
          came_behind k v before rest (number_bytes w64 f1.value) f1.before f1.left (progress_with p b) _ f1.stands
          (came_behind k v f1.before f1.left (number_bytes w64 f2.value) f2.before f2.left (progress_with p b) _
          f2.stands
          (came_behind k v f2.before f2.left (number_bytes w64 (len counts)) f3.before f3.left (progress_with p b) _
          (subst (λ (n : ℕ). Stands f2.before f2.left (number_bytes w64 n) f3.before f3.left) (sym len_is) f3.stands)
          (came_behind k v f3.before f3.left (cells_bytes (entries counts)) c.came.before c.came.left
          (progress_with p b) []
          (subst (λ (l : List (Place × ℕ)). Stands f3.before f3.left (cells_bytes l) c.came.before c.came.left)
          (sym same) c.came.stands)
          (came_here k v c.came.before c.came.left (progress_with p b) c.came.fits
          (subst (λ (x : Progress). k x (record { before = c.came.before; rest = c.came.left }) ≡ Ok v) y_is
          c.came.goes)))));
    })))))

pub record BatchesRead (k : Progress → Reading) (v : Contents) (before rest : List ℕ) (h : Head) (n : ℕ)
    (p : Progress) : Type 0 where
  pub list : List Submission
  pub count : length list ≡ n
  pub each : AllByRecursion (IsBatch h.setup.rows h.setup.cols) list
  pub new : AreNew (entries_in p.state) (entries_of list)
  pub fits : p.counted + list_total list ≤ h.total
  pub came : Came k v before rest (progress_after p list) (batches_bytes h.version before list)

batches_read : (h : Head) (n : ℕ) (p : Progress) (k : Progress → Reading) (v : Contents) (before rest : List ℕ) →
    IsBytes rest → p.counted ≤ h.total →
    batches_behind h n p k (record { before = before; rest = rest }) ≡ Ok v → BatchesRead k v before rest h n p
unfolding batches_behind
batches_read h zero p k v before rest fits below e = record {
  list = [];
  count = refl;
  each = tt;
  new = tt;
  fits = omega arith;
  came = subst (λ (x : Progress). Came k v before rest x []) (progress_none p) (came_here k v before rest p fits e);
}
batches_read h (suc n) p k v before rest fits below e =
    let one = batch_read h p (λ (y : Progress). check_in h.version (λ _. batches_behind h n y k)) v before rest fits
    below e in
    let room = one.fits in
    let b = one.b in
    let q = progress_with p b in
    let came = came_checked (λ _. h.version) (λ (y : Progress). batches_behind h n y k) v before rest q (batch_bytes b)
    one.came in
    let more = batches_read h n q k v came.before came.left came.fits room came.goes in
    let more_fits = more.fits in
    record {
      list = b ∷ more.list;
      count = ap (λ (i : ℕ). suc i) more.count;
      each = (one.is, more.each);
      new = (
        one.new,
        subst (λ (l : List Entry). AreNew l (entries_of more.list)) (entries-with p.state b) more.new,
      );
      fits = omega arith;
      came = came_behind k v before rest (checked_bytes h.version before (batch_bytes b)) came.before came.left
          (progress_after p (b ∷ more.list))
          (batches_bytes h.version (before ++ checked_bytes h.version before (batch_bytes b)) more.list) came.stands
          (subst (λ (x : Progress). Came k v came.before came.left x
          (batches_bytes h.version (before ++ checked_bytes h.version before (batch_bytes b)) more.list))
          (progress_more p b more.list)
          (subst (λ (l : List ℕ). Came k v came.before came.left (progress_after q more.list)
          (batches_bytes h.version l more.list)) came.stands.before_is more.came));
    }

nothing_left : (l : List ℕ) → (length l == 0) ≡ true → l ≡ []
nothing_left [] e = refl
nothing_left (x ∷ l) e = absurd (grind (arith, nat_tests))

chosen : (b : Bool) (c : Contents) (f : Fault) (v : Contents) → cond b (Ok c) (Err f) ≡ Ok v → (b ≡ true) × (c ≡ v)
chosen true c f v e = let same : ◌≡◌ {A = Result Contents Fault} (Ok c) (Ok v) = e in (refl, cc)
chosen false c f v e = absurd cc

pub ended : (c v : Contents) (before rest : List ℕ) → end c (record { before = before; rest = rest }) ≡ Ok v →
    (rest ≡ []) × (c ≡ v)
unfolding end
ended c v before rest e =
    let h = chosen (length rest == 0) c (record { kind = ExtraBytes; place = length before + 1 }) v e in
    (nothing_left rest h.0, h.1)

pub record FileRead (v : Contents) (bytes : List ℕ) : Type 0 where
  pub named : IsIdentity v.origin.identity
  pub kept : IsReadable v.setup v.state
  pub spelled : IsSpelled bytes v.origin v.setup v.state

-- a version in which nothing is folded has no base and no entry
nothing_folded : (n : ℕ) (m : Counts) (es : List Entry) (list : List Submission) →
    (n ≡ old_version → (m ≡ empty) × (es ≡ [])) → n ≡ old_version → accepted m es list ≡ unfolded list
nothing_folded n m es list none old = let e = none old in (λ i. accepted (e.0 i) (e.1 i) list)

pub file_read : (v : Contents) (bytes : List ℕ) → IsBytes bytes → reading_of bytes ≡ Ok v → FileRead v bytes
unfolding reading_of
file_read v bytes fits e =
    let first = head_read (λ (y : Head). origin_by y.version (λ z. check_in y.version (λ _. body y z))) v [] bytes
    fits e in
    let h = first.h in
    let second = origin_read h.version (λ (z : Origin). check_in h.version (λ _. body h z)) v first.came.before
    first.came.left first.came.fits first.high first.came.goes in
    let o = second.o in
    let head_is = head_bytes h.version h.setup h.batches h.total in
    let head_bytes_are = head_is ++ origin_in h.version o in
    let x = checked_bytes h.version [] head_bytes_are in
    let both : Came (λ (z : Origin). check_in h.version (λ _. body h z)) v [] bytes o head_bytes_are =
    came_behind (λ (z : Origin). check_in h.version (λ _. body h z)) v [] bytes head_is first.came.before
    first.came.left o (origin_in h.version o) first.came.stands second.came in
    let first_came = came_checked (λ (_ : Origin). h.version) (body h) v [] bytes o head_bytes_are both in
    let past_is = past_read h (λ (y : Progress). check_in h.version (λ _. rest_of h o y)) v first_came.before
    first_came.left first_came.fits (either_version h.version) first_came.goes in
    let p = past_is.p in
    let past_came = came_checked (λ _. h.version) (rest_of h o) v first_came.before first_came.left p
    (past_in h.version past_is.m past_is.es) past_is.came in
    let y = checked_bytes h.version x (past_in h.version past_is.m past_is.es) in
    let counted = past_is.counted_is in let below = past_is.fits in
    let all = batches_read h h.batches p (ending h o) v past_came.before past_came.left past_came.fits
    (omega arith) past_came.goes in
    let met = passed _ _ _ v _ all.came.goes in
    let last = ended _ v _ _ met.1 in
    let t : p.counted + list_total all.list ≡ h.total =
    same_number (p.counted + list_total all.list) h.total met.0 in
    let a = accepted past_is.m past_is.es all.list in
    let total_is : h.total ≡ total_in a = let parts = total_parts a in omega arith in
    let c : Contents = contents o h.setup a in
    let few = first.few in let limit = first.fits in let count = all.count in let folded = past_is.few in
    let kept : IsReadable h.setup a = record {
      setup = first.setup;
      few = omega arith;
      fits = omega arith;
      each = all.each;
      folded = past_is.each;
      distinct = past_is.new;
      behind = subst (λ (l : List Entry). AreNew l (entries_of all.list))
          (ap entries_in past_is.state_is ∙ append-nil past_is.es) all.new;
      few_cells = past_is.few_cells;
      within = past_is.inner;
      based = past_is.based;
    } in
    let z = batches_bytes h.version (x ++ y) all.list in
    let first_is : first_came.before ≡ x = first_came.stands.before_is in
    let past_stands = subst
    (λ (l : List ℕ). Stands l first_came.left (checked_bytes h.version l (past_in h.version past_is.m past_is.es))
    past_came.before past_came.left) first_is past_came.stands in
    let all_stands = subst (λ (l : List ℕ). Stands l past_came.left (batches_bytes h.version l all.list)
    all.came.before all.came.left) past_stands.before_is all.came.stands in
    let parts : bytes ≡ x ++ (y ++ z) =
    first_came.stands.parts ∙ ap (λ (l : List ℕ). x ++ l)
    (past_stands.parts ∙ ap (λ (l : List ℕ). y ++ l)
    (all_stands.parts ∙ ap (λ (l : List ℕ). z ++ l) last.0 ∙ append-nil z)) in
    let counted_as : x ++ (y ++ z) ≡ file_in h.version o h.setup a =
    counted_file h.version o h.setup h.batches (length all.list) h.total (total_in a) past_is.m past_is.es all.list
    (sym all.count) total_is in
    let spelled : IsSpelled bytes o h.setup a = record {
      file_version = h.version;
      low = first.low;
      high = first.high;
      unfolded_is = nothing_folded h.version past_is.m past_is.es all.list past_is.none_old;
      origin_is = second.old;
      most = first.most;
      bytes_are = parts ∙ counted_as;
    } in
    let same : c ≡ v = ap (λ (x : Accepted). contents o h.setup (accepted x.base x.folded (x.list ++ all.list)))
    (sym past_is.state_is) ∙ last.1 in
    subst (λ (x : Contents). FileRead x bytes) same (record { named = second.is; kept = kept; spelled = spelled })
  where
    -- a file by the numbers that its head has
    file_with : ℕ → Origin → Setting → ℕ → ℕ → Counts → List Entry → List Submission → List ℕ
    file_with n o s batches sum m es list =
        let x = checked_bytes n [] (head_bytes n s batches sum ++ origin_in n o) in
        let y = checked_bytes n x (past_in n m es) in
        x ++ (y ++ batches_bytes n (x ++ y) list)

    counted_file : (n : ℕ) (o : Origin) (s : Setting) (b c t u : ℕ) (m : Counts) (es : List Entry)
        (list : List Submission) → b ≡ c → t ≡ u → file_with n o s b t m es list ≡ file_with n o s c u m es list
    counted_file n o s b c t u m es list e f = (λ i. file_with n o s (e i) (f i) m es list)
