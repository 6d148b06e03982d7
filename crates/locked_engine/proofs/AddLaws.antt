-- A version with one fresh entry more is one.
use Rattle.std.proofs.Common.{append_assoc, ◌∙◌, ◌≡◌, ℕ, ◌+◌, List, [], ◌∷◌, ◌++◌, length, ap, sym, subst, arith}
use Rattle.std.proofs.Common.{length-append}
use Rattle.batch_store.specs.declared.verdict.Entry.{Entry}
use Rattle.batch_store.specs.declared.verdict.Verdict.TheVariants.{Fresh}
use Rattle.batch_store.specs.Setups.{Setting}
use Rattle.batch_store.specs.Verdicts.{total_of_entries}
use Rattle.batch_store.proofs.VerdictLaws.{fresh_is, none_same, distinct_push, total_push}
use Rattle.plain_engine.specs.declared.status.Status.{Status}
use Rattle.locked_engine.specs.Versions.{IsVersion, version_status, entry_verdict}

abbrev status : ℕ → ℕ → Status
status batches total = record { batches = batches; total = total }

-- a fresh entry behind a version
version_push : (v : Setting) (es : List Entry) (e : Entry) → IsVersion v es → entry_verdict v es e ≡ Fresh →
    IsVersion v (es ++ e ∷ [])
version_push v es e held verdict =
    let fresh = fresh_is v.limit v.max_batches es e verdict in
    record {
      sound = held.sound;
      distinct = distinct_push es e held.distinct (none_same e es fresh.new_pair);
      few = omega (arith, length-append es (e ∷ []), fresh.room);
      within = omega (arith, total_push es e, fresh.fits);
    }

-- one entry more in the history behind what was opened
module _ (v : Setting) (opened old now : List Entry) (e : Entry) (more : now ≡ old ++ e ∷ []) where
  pub all_more : opened ++ now ≡ (opened ++ old) ++ e ∷ []
  all_more = ap (λ (l : List Entry). opened ++ l) more ∙ sym (append_assoc opened old (e ∷ []))

  pub more_is_version : IsVersion v (opened ++ old) → entry_verdict v (opened ++ old) e ≡ Fresh →
      IsVersion v (opened ++ now)
  more_is_version held fresh = subst (IsVersion v) (sym all_more) (version_push v (opened ++ old) e held fresh)

  pub more_status : (s : Status) → s ≡ version_status (opened ++ old) →
      status (s.batches + 1) (s.total + e.total) ≡ version_status (opened ++ now)
  more_status s is =
      let l = opened ++ old in
      let count : s.batches + 1 ≡ length (opened ++ now) = omega (
        arith,
        ap (λ (x : Status). x.batches) is,
        ap length all_more,
        length-append l (e ∷ []),
      ) in
      let summed : s.total + e.total ≡ total_of_entries (opened ++ now) = omega (
        arith,
        ap (λ (x : Status). x.total) is,
        ap total_of_entries all_more,
        total_push l e,
      ) in
      λ i. status (count i) (summed i)
