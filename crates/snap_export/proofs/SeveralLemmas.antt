-- What one snapshot more does to those before it.
use Rattle.std.proofs.Common.{◌≡◌, ◌≢◌, ℕ, ◌+◌, ◌<◌, ◌≤◌, ◌^◌, List, [], ◌∷◌, ◌++◌, length, Result, Ok, Err, Option}
use Rattle.std.proofs.Common.{Some, None}
use Rattle.std.proofs.Common.{refl, sym, ◌∙◌, ap, subst, arith, inl, inr}
use Rattle.std.proofs.Common.{Bool, true, false, ltb, IsTrue, ◌↔◌, OnErr, IfSome}
use Rattle.std.proofs.lemmas.Bool.{ltb-false, ltb-true}
use Rattle.std.proofs.lemmas.List.{length-append}
use Rattle.std.specs.FinMap.{empty}
use Rattle.hyper_matrix.specs.Counts.{Counts, ewise_add, total}
use Rattle.hyper_matrix.specs.Matrix.{Matrix, matrix}
use Rattle.hyper_matrix.proofs.CountLaws.{total-ewise_add, ewise_add-empty, ewise_add_assoc}
use Rattle.layer_compaction.proofs.LayerLemmas.{empty-ewise_add}
use Rattle.batch_store.specs.Accepted.{summed}
use Rattle.batch_store.specs.Books.{accepted_in}
use Rattle.snap_file.specs.Snapshots.{Saved}
use Rattle.snap_report.specs.Kept.{HasLoaded, most_bytes}
use Rattle.snap_report.specs.Logged.{IsReadFault}
use Rattle.snap_report.specs.declared.fault.CheckFault.{CheckFault}
use Rattle.snap_report.specs.declared.fault.CheckFault.TheVariants as check
use Rattle.snap_export.specs.Several.{added_up, HaveLoaded, AddUp, AreUnsummed, CountsPass, TellsSum, Tells}
use Rattle.snap_export.specs.Steps.{IsSumOf, AddsNext, TellsNext, HaveSummed, TellsRead, IsUnread}
use Rattle.snap_export.specs.Told.{CompactTells}
use Rattle.snap_export.specs.declared.fault.ExportFault.{ExportFault}
use Rattle.snap_export.specs.declared.fault.ExportFault.TheVariants as fault

-- what a test that failed says
pub not_below : (b : Bool) (m n : ℕ) → (IsTrue b ↔ (m < n)) → b ≡ false → n ≤ m
not_below b m n h e = step (ltb m n) refl
  where
    step : (v : Bool) → ltb m n ≡ v → n ≤ m
    step false p = ltb-false m n p
    step true p = let t : b ≡ true = h.1 (ltb-true m n p) in absurd (cc)

-- what holds of every Err, whatever it is
pub on_err : {T E : Type 0} (r : Result T E) (P : Type 0) → P → OnErr r P
on_err (Ok x) P h = tt
on_err (Err e) P h = h

-- what a snapshot adds up to by itself
abbrev pub own : Saved → Counts
own x = summed (accepted_in x.list)

pub added_behind : (xs : List Saved) (x : Saved) → added_up (xs ++ x ∷ []) ≡ ewise_add (added_up xs) (own x)
added_behind [] x = ewise_add-empty (own x) ∙ sym (empty-ewise_add (own x))
added_behind (y ∷ ys) x =
    ap (ewise_add (own y)) (added_behind ys x) ∙ sym (ewise_add_assoc (own y) (added_up ys) (own x))

pub total_behind : (xs : List Saved) (x : Saved) → total (added_up (xs ++ x ∷ [])) ≡ total (added_up xs) + total (own x)
total_behind xs x = ap total (added_behind xs x) ∙ total-ewise_add (added_up xs) (own x)

-- what the counts of a sum are together
pub sum_total : (rows cols : ℕ) (xs : List Saved) (m : Matrix) → m ≡ matrix rows cols (added_up xs) →
    total m.counts ≡ total (added_up xs)
sum_total rows cols xs m is = ap (λ (n : Matrix). total n.counts) is

-- a sum that is held
pub summed_some : (rows cols : ℕ) (xs : List Saved) (sum : Option Matrix) (m : Matrix) → sum ≡ Some m →
    IsSumOf rows cols xs sum → m ≡ matrix rows cols (added_up xs)
summed_some rows cols xs sum m is h = subst (IsSumOf rows cols xs) is h

-- a sum that is held has the dimensions in which it was summed
pub rows_of_sum : (rows cols n : ℕ) (xs : List Saved) (sum : Option Matrix) → IsSumOf rows cols xs sum → n ≡ rows →
    IfSome sum (λ m. n ≡ m.rows)
rows_of_sum rows cols n xs (Some m) is same = same ∙ sym (ap (λ (x : Matrix). x.rows) is)
rows_of_sum rows cols n xs None is same = tt

pub cols_of_sum : (rows cols n : ℕ) (xs : List Saved) (sum : Option Matrix) → IsSumOf rows cols xs sum → n ≡ cols →
    IfSome sum (λ m. n ≡ m.cols)
cols_of_sum rows cols n xs (Some m) is same = same ∙ sym (ap (λ (x : Matrix). x.cols) is)
cols_of_sum rows cols n xs None is same = tt

-- a snapshot was added to a sum
pub sum_grown : (rows cols : ℕ) (xs : List Saved) (x : Saved) (m next : Matrix) (counts : Counts) → counts ≡ own x →
    next ≡ record m { counts = ewise_add m.counts counts } → m ≡ matrix rows cols (added_up xs) →
    next ≡ matrix rows cols (added_up (xs ++ x ∷ []))
sum_grown rows cols xs x m next counts same added is =
    added ∙ ap (λ (n : Matrix). matrix n.rows n.cols (ewise_add n.counts counts)) is
    ∙ ap (λ (c : Counts). matrix rows cols (ewise_add (added_up xs) c)) same
    ∙ ap (matrix rows cols) (sym (added_behind xs x))

pub sum_passes : (rows cols : ℕ) (xs : List Saved) (x : Saved) (m : Matrix) (n : ℕ) → n ≡ total (own x) →
    2 ^ 64 ≤ total m.counts + n → m ≡ matrix rows cols (added_up xs) → 2 ^ 64 ≤ total (added_up (xs ++ x ∷ []))
sum_passes rows cols xs x m n same passes is =
    omega (arith, same, passes, sum_total rows cols xs m is, total_behind xs x)

pub sum_fits : (rows cols : ℕ) (xs : List Saved) (x : Saved) (m : Matrix) (n : ℕ) → n ≡ total (own x) →
    total m.counts + n < 2 ^ 64 → m ≡ matrix rows cols (added_up xs) → total (added_up (xs ++ x ∷ [])) < 2 ^ 64
sum_fits rows cols xs x m n same fits is =
    omega (arith, same, fits, sum_total rows cols xs m is, total_behind xs x)

pub stays_passed : (xs : List Saved) (x : Saved) → 2 ^ 64 ≤ total (added_up xs) →
    2 ^ 64 ≤ total (added_up (xs ++ x ∷ []))
stays_passed xs x h = omega (arith, h, total_behind xs x)

-- nothing, in these dimensions
pub nothing_summed : (rows cols : ℕ) (m : Matrix) → m ≡ matrix rows cols empty → IsSumOf rows cols [] (Some m)
nothing_summed rows cols m is = is

module _ {F : Type 0} (loads : F → ℕ → Result Saved CheckFault → F → Type 0) where
  pub unread_of : (s t : F) (number : ℕ) (told : CheckFault) → (told ≢ check.Memory → IsReadFault told) →
      told ≢ check.Memory → loads s most_bytes (Err told) t → IsUnread loads s t number (fault.File number told)
  unread_of s t number told read not h = (refl, read not, h)

  loaded_behind : (s t u : F) (rows cols : ℕ) (xs : List Saved) (x : Saved) → HaveLoaded loads s t rows cols xs →
      HasLoaded loads t u x → x.setup.rows ≡ rows → x.setup.cols ≡ cols →
      HaveLoaded loads s u rows cols (xs ++ x ∷ [])
  loaded_behind s t u rows cols [] x is h r c =
      (u, subst (λ (y : F). HasLoaded loads y u x) (sym is) h, r, c, refl)
  loaded_behind s t u rows cols (y ∷ ys) x before h r c =
      (before.0, before.1, before.2, before.3, loaded_behind before.0 t u rows cols ys x before.4 h r c)

  -- one more was loaded and added
  pub next_summed : (s t u : F) (number rows cols : ℕ) (xs : List Saved) (sum : Option Matrix) →
      length xs ≡ number → HaveLoaded loads s t rows cols xs → AddsNext loads xs t u rows cols sum →
      HaveSummed loads s u (number + 1) rows cols sum
  next_summed s t u number rows cols xs sum count before adds = record {
    xs = xs ++ adds.x ∷ [];
    count_is = omega (arith, length-append xs (adds.x ∷ []), count);
    loaded = loaded_behind s t u rows cols xs adds.x before adds.loaded adds.rows_are adds.cols_are;
    sum_is = adds.sum_is;
  }

  -- what is told of a file is told behind those before it
  pub told_behind : (s t u : F) (number rows cols : ℕ) (xs : List Saved) → 0 < number → length xs ≡ number →
      HaveLoaded loads s t rows cols xs → (told : ExportFault) → TellsNext loads xs t u rows cols number told →
      TellsRead loads s u told
  told_behind s t u number rows cols xs some count before (fault.File at told) h = (
    h.1,
    record {
      behind = t;
      before = record { rows = rows; cols = cols; xs = xs; count_is = count ∙ sym h.0; loaded = before };
      refused = h.2;
    },
  )
  told_behind s t u number rows cols xs some count before (fault.DimensionsDiffer at) h = record {
    behind = t;
    before = record { rows = rows; cols = cols; xs = xs; count_is = count ∙ sym h.0; loaded = before };
    some = omega (arith, some, h.0);
    x = h.1.0;
    loaded = h.1.1;
    differs = h.1.2;
  }
  told_behind s t u number rows cols xs some count before fault.Memory (inl h) = record {
    behind = t;
    rows = rows;
    cols = cols;
    xs = xs;
    loaded = before;
    place = inr h;
  }
  told_behind s t u number rows cols xs some count before fault.Memory (inr h) = record {
    behind = u;
    rows = rows;
    cols = cols;
    xs = xs ++ h.x ∷ [];
    loaded = loaded_behind s t u rows cols xs h.x before h.loaded h.rows_are h.cols_are;
    place = inl (refl, h.fits);
  }
  told_behind s t u number rows cols xs some count before fault.SumTooLarge h = absurd h
  told_behind s t u number rows cols xs some count before (fault.Output told) h = absurd h
  told_behind s t u number rows cols xs some count before (fault.Save told) h = absurd h

  -- what is told of the next
  pub next_unread : (s t : F) (number rows cols : ℕ) (xs : List Saved) (told : ExportFault) →
      IsUnread loads s t number told → TellsNext loads xs s t rows cols number told
  next_unread s t number rows cols xs (fault.File at why) h = h
  next_unread s t number rows cols xs fault.Memory h = inl h
  next_unread s t number rows cols xs (fault.DimensionsDiffer at) h = absurd h
  next_unread s t number rows cols xs fault.SumTooLarge h = absurd h
  next_unread s t number rows cols xs (fault.Output why) h = absurd h
  next_unread s t number rows cols xs (fault.Save why) h = absurd h

  -- what is told of the first
  pub first_unread : (s t : F) (told : ExportFault) → IsUnread loads s t 0 told → TellsRead loads s t told
  first_unread s t (fault.File at told) h = (
    h.1,
    record {
      behind = s;
      before = record { rows = 0; cols = 0; xs = []; count_is = sym h.0; loaded = refl };
      refused = h.2;
    },
  )
  first_unread s t fault.Memory h = record {
    behind = s;
    rows = 0;
    cols = 0;
    xs = [];
    loaded = refl;
    place = inr h;
  }
  first_unread s t (fault.DimensionsDiffer at) h = absurd h
  first_unread s t fault.SumTooLarge h = absurd h
  first_unread s t (fault.Output told) h = absurd h
  first_unread s t (fault.Save told) h = absurd h

  pub first_unsummed : (s t : F) (x : Saved) → HasLoaded loads s t x → total (added_up ([] ++ x ∷ [])) < 2 ^ 64 →
      AreUnsummed loads s t
  first_unsummed s t x h fits = record {
    behind = t;
    rows = x.setup.rows;
    cols = x.setup.cols;
    xs = x ∷ [];
    loaded = (t, h, refl, refl, refl);
    place = inl (refl, fits);
  }

  pub first_summed : (s t : F) (x : Saved) (rows cols : ℕ) (sum : Option Matrix) → x.setup.rows ≡ rows →
      x.setup.cols ≡ cols → HasLoaded loads s t x → IsSumOf rows cols ([] ++ x ∷ []) sum →
      HaveSummed loads s t 1 rows cols sum
  first_summed s t x rows cols sum r c h is = record {
    xs = x ∷ [];
    count_is = refl;
    loaded = (t, h, r, c, refl);
    sum_is = is;
  }

  -- all were loaded, and there is no sum
  pub all_passed : (s t : F) (count rows cols : ℕ) (sum : Option Matrix) → sum ≡ None →
      HaveSummed loads s t count rows cols sum → CountsPass loads s t count
  all_passed s t count rows cols sum none h = record {
    rows = rows;
    cols = cols;
    xs = h.xs;
    count_is = h.count_is;
    loaded = h.loaded;
    passes = subst (IsSumOf rows cols h.xs) none h.sum_is;
  }

  -- what is told of the loads is told of their sum
  pub read_told : (s t : F) (count : ℕ) (told : ExportFault) → TellsRead loads s t told → TellsSum loads s t count told
  read_told s t count (fault.File number why) h = h
  read_told s t count (fault.DimensionsDiffer number) h = h
  read_told s t count fault.Memory h = h
  read_told s t count fault.SumTooLarge h = absurd h
  read_told s t count (fault.Output why) h = absurd h
  read_told s t count (fault.Save why) h = absurd h

  -- what is told of the sum is told of what is written of it
  pub sum_told : (s t : F) (count : ℕ) (told : ExportFault) → TellsSum loads s t count told → Tells loads s t count told
  sum_told s t count (fault.File number why) h = h
  sum_told s t count (fault.DimensionsDiffer number) h = h
  sum_told s t count fault.Memory h = h
  sum_told s t count fault.SumTooLarge h = h
  sum_told s t count (fault.Output why) h = absurd h
  sum_told s t count (fault.Save why) h = h

  -- and of what is saved
  pub compact_told : (s t : F) (count : ℕ) (told : ExportFault) → TellsSum loads s t count told →
      CompactTells loads s t count told
  compact_told s t count (fault.File number why) h = h
  compact_told s t count (fault.DimensionsDiffer number) h = h
  compact_told s t count fault.Memory h = h
  compact_told s t count fault.SumTooLarge h = h
  compact_told s t count (fault.Output why) h = h
  compact_told s t count (fault.Save why) h = absurd h

  -- there was no memory for what is made of a sum
  pub unsummed : (s t : F) (count rows cols : ℕ) (xs : List Saved) → AddUp loads s t count rows cols xs →
      AreUnsummed loads s t
  unsummed s t count rows cols xs h = record {
    behind = t;
    rows = rows;
    cols = cols;
    xs = xs;
    loaded = h.loaded;
    place = inl (refl, h.fits);
  }

  -- the sum that is held
  pub holds_sum : (s t : F) (count rows cols : ℕ) (sum : Option Matrix) (m : Matrix) → sum ≡ Some m →
      HaveSummed loads s t count rows cols sum → total m.counts < 2 ^ 64 →
      (xs : List Saved) × AddUp loads s t count rows cols xs × (m ≡ matrix rows cols (added_up xs))
  holds_sum s t count rows cols sum m some h fits =
      let is = summed_some rows cols h.xs sum m some h.sum_is in (
        h.xs,
        record {
          count_is = h.count_is;
          loaded = h.loaded;
          fits = omega (arith, fits, sum_total rows cols h.xs m is);
        },
        is,
      )
