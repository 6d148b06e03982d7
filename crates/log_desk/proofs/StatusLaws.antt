-- The status of entries with one batch more behind them.
use Rattle.std.proofs.Common.{◌≡◌, ℕ, ◌+◌, ◌<◌, ◌≤◌, ◌^◌, List, [], ◌∷◌, ◌++◌, length, take, drop, ap, sym, ◌∙◌, arith}
use Rattle.std.proofs.Common.{append_assoc}
use Rattle.std.proofs.Common.{length-append}
use Rattle.std.specs.Arc.{arc_value}
use Rattle.std.specs.declared.sync.Arc.{Arc}
use Rattle.std.proofs.lemmas.List.{take_more, map-append, take-append-drop}
use mathlib.Core.List.{IsPrefix}
use Rattle.batch_store.specs.declared.verdict.Entry.{Entry}
use Rattle.batch_store.specs.Batches.{Submission, entry_of, entries_of, values}
use Rattle.batch_store.specs.Verdicts.{total_of_entries}
use Rattle.batch_store.proofs.VerdictLaws.{total_push}
use Rattle.plain_engine.specs.declared.status.Status.{Status}
use Rattle.batch_store.specs.Setups.{Setting}
use Rattle.locked_engine.specs.Versions.{IsVersion, version_status}
use lib.ListN.{get_or}

abbrev status : ℕ → ℕ → Status
status batches total = record { batches = batches; total = total }

totals-append : (xs ys : List Entry) → total_of_entries (xs ++ ys) ≡ total_of_entries xs + total_of_entries ys
totals-append [] ys = omega arith
totals-append (x ∷ xs) ys = omega (arith, totals-append xs ys)

module _ {Z : Type 0} (old : List Entry) (batches : List (Arc Submission Z)) (i : ℕ) (b : Arc Submission Z)
    (within : i < length batches) (is : b ≡ get_or batches i b) where
  one_more : entries_of (values (take (i + 1) batches)) ≡
      entries_of (values (take i batches)) ++ entry_of (arc_value b) ∷ []
  one_more =
      ap (λ l. entries_of (values l)) (take_more batches i b within ∙ ap (λ x. take i batches ++ x ∷ []) (sym is))
      ∙ ap entries_of (map-append arc_value (take i batches) (b ∷ []))
      ∙ map-append entry_of (values (take i batches)) (arc_value b ∷ [])

  all_more : old ++ entries_of (values (take (i + 1) batches)) ≡
      (old ++ entries_of (values (take i batches))) ++ entry_of (arc_value b) ∷ []
  all_more =
      ap (λ l. old ++ l) one_more
      ∙ sym (append_assoc old (entries_of (values (take i batches))) (entry_of (arc_value b) ∷ []))

  pub status_more : (s : Status) → s ≡ version_status (old ++ entries_of (values (take i batches))) → (n m : ℕ) →
      n ≡ s.batches + 1 → m ≡ s.total + (entry_of (arc_value b)).total →
      status n m ≡ version_status (old ++ entries_of (values (take (i + 1) batches)))
  status_more s same n m count sum =
      let before = old ++ entries_of (values (take i batches)) in
      let counted : n ≡ length (old ++ entries_of (values (take (i + 1) batches))) = omega (
        arith,
        count,
        ap (λ (x : Status). x.batches) same,
        ap length all_more,
        length-append before (entry_of (arc_value b) ∷ []),
      ) in
      let summed : m ≡ total_of_entries (old ++ entries_of (values (take (i + 1) batches))) = omega (
        arith,
        sum,
        ap (λ (x : Status). x.total) same,
        ap total_of_entries all_more,
        total_push before (entry_of (arc_value b)),
      ) in
      λ j. status (counted j) (summed j)

  split_here : old ++ entries_of (values batches) ≡
      (old ++ entries_of (values (take (i + 1) batches))) ++ entries_of (values (drop (i + 1) batches))
  split_here =
      let xs = take (i + 1) batches in
      let ys = drop (i + 1) batches in
      ap (λ l. old ++ entries_of (values l)) (sym (take-append-drop (i + 1) batches))
      ∙ ap (λ l. old ++ entries_of l) (map-append arc_value xs ys)
      ∙ ap (λ l. old ++ l) (map-append entry_of (values xs) (values ys))
      ∙ sym (append_assoc old (entries_of (values xs)) (entries_of (values ys)))

  -- where a version has all of them at its front, one more is counted within its limits
  pub status_fits : (v : Setting) (whole : List Entry) → IsVersion v whole →
      IsPrefix (old ++ entries_of (values batches)) whole → (s : Status) →
      s ≡ version_status (old ++ entries_of (values (take i batches))) →
      (s.batches + 1 < 2 ^ 64) × (s.total + (entry_of (arc_value b)).total < 2 ^ 64)
  status_fits v whole legal begins s same =
      let before = old ++ entries_of (values (take i batches)) in
      let e = entry_of (arc_value b) in
      let rest = entries_of (values (drop (i + 1) batches)) in
      let is_whole : ((before ++ e ∷ []) ++ rest) ++ begins.0 ≡ whole =
      ap (λ l. (l ++ rest) ++ begins.0) (sym all_more) ∙ ap (λ l. l ++ begins.0) (sym split_here) ∙ begins.1 in
      let count : length before + 1 ≤ length whole = omega (
        arith,
        ap length is_whole,
        length-append ((before ++ e ∷ []) ++ rest) begins.0,
        length-append (before ++ e ∷ []) rest,
        length-append before (e ∷ []),
      ) in
      let sum : total_of_entries before + e.total ≤ total_of_entries whole = omega (
        arith,
        ap total_of_entries is_whole,
        totals-append ((before ++ e ∷ []) ++ rest) begins.0,
        totals-append (before ++ e ∷ []) rest,
        total_push before e,
      ) in (
        omega (arith, count, ap (λ (x : Status). x.batches) same, legal.few, legal.sound.batches),
        omega (arith, sum, ap (λ (x : Status). x.total) same, legal.within, legal.sound.fits),
      )
