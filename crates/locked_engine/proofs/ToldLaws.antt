-- What an answer says of the version that a seat was shown.
use Rattle.std.proofs.Common.{◌≡◌, ℕ, suc, ◌+◌, List, [], ◌∷◌, ◌++◌, length, take, slice_get, Some, refl, sym, ◌∙◌}
use Rattle.std.proofs.Common.{ap, subst, arith}
use Rattle.std.specs.Prelude.{Result, Ok, Err, IfOk, IfErr, OnOk, OnErr}
use mathlib.Core.List.{IsPrefix}
use Rattle.batch_store.specs.declared.verdict.Entry.{Entry}
use Rattle.batch_store.specs.declared.verdict.Kept.{Kept}
use Rattle.batch_store.specs.declared.verdict.Verdict.{Verdict}
use Rattle.batch_store.specs.declared.verdict.Verdict.TheVariants.{Fresh, Known, NumberReused, OverTotal, BookFull}
use Rattle.batch_store.specs.Setups.{Setting}
use Rattle.batch_store.specs.Accepted.{Accepted, entries_in, count_in, total_in, with_batch}
use Rattle.batch_store.specs.Batches.{Submission, entry_of, batch_total}
use Rattle.batch_store.specs.Verdicts.{IsVerdict, kept, total_of_entries}
use Rattle.batch_store.specs.Books.{Register, verdict_on}
use Rattle.batch_store.proofs.BookLaws.{entries-with}
use Rattle.batch_store.proofs.VerdictMeaning.{verdict_means}
use Rattle.plain_engine.specs.declared.fault.PutFault.{PutFault}
use Rattle.locked_engine.specs.declared.fault.NotAdmitted.{NotAdmitted}
use Rattle.locked_engine.specs.Versions.{IsVersion, entry_verdict}
use Rattle.locked_engine.specs.Views.{SeatView}
use Rattle.locked_engine.specs.Told.{Answers, IsTold, AreShown, answer_of}
use Rattle.locked_engine.proofs.PrefixLaws.{prefix_trans, prefix_push}

-- the answer to a verdict follows from the version
pub told_by : (v : Setting) (es : List Entry) (e : Entry) (r : Verdict) (u : Result Kept PutFault) →
    r ≡ entry_verdict v es e → IsVersion v es → Answers r u → IsTold v e es u
told_by v es e Fresh u is legal h = absurd h
told_by v es e (Known k) u is legal h =
    let means = verdict_means v.limit v.max_batches es e legal.distinct in
    subst (λ (w : Result Kept PutFault). IsTold v e es w) (sym h)
    (subst (IsVerdict v.limit v.max_batches es e) (sym is) means)
told_by v es e NumberReused u is legal h = subst (λ (w : Result Kept PutFault). IsTold v e es w) (sym h) (sym is)
told_by v es e (OverTotal n) u is legal h = subst (λ (w : Result Kept PutFault). IsTold v e es w) (sym h) (sym is)
told_by v es e BookFull u is legal h = subst (λ (w : Result Kept PutFault). IsTold v e es w) (sym h) (sym is)

-- the same for a version that is the book's
pub judged : {T : Type 0} (v : Setting) (w : Register) (b : Submission) (r : Verdict) (es : List Entry)
    (res : Result T NotAdmitted) → w.setup ≡ v → es ≡ entries_in w.state → IsVersion v (entries_in w.state) →
    r ≡ verdict_on w b → IfErr res (λ (u : NotAdmitted). Answers r (answer_of u)) →
    IfErr res (λ (u : NotAdmitted). IsTold v (entry_of b) es (answer_of u))
judged v w b r es (Ok x) setup same legal is h = tt
judged v w b r es (Err u) setup same legal is h =
    let all = entries_in w.state in
    let here : r ≡ entry_verdict v all (entry_of b) = is
    ∙ ap (λ (s : Setting). entry_verdict s all (entry_of b)) setup in
    subst (λ (l : List Entry). IsTold v (entry_of b) l (answer_of u)) (sym same)
    (told_by v all (entry_of b) r (answer_of u) here legal h)

-- a batch that the book calls fresh is fresh in a version that is the book's
pub judged_new : {T : Type 0} (v : Setting) (w : Register) (b : Submission) (r : Verdict) (es : List Entry)
    (res : Result T NotAdmitted) → w.setup ≡ v → es ≡ entries_in w.state → r ≡ verdict_on w b →
    OnOk res (r ≡ Fresh) → OnOk res (entry_verdict v es (entry_of b) ≡ Fresh)
judged_new v w b r es (Err u) setup same is h = tt
judged_new v w b r es (Ok x) setup same is h =
    let all = entries_in w.state in
    let here : r ≡ entry_verdict v all (entry_of b) = is
    ∙ ap (λ (s : Setting). entry_verdict s all (entry_of b)) setup in
    ap (λ (l : List Entry). entry_verdict v l (entry_of b)) same ∙ sym here ∙ h

-- an entry that was added last stands there
last_entry : (es : List Entry) (e : Entry) → slice_get (es ++ e ∷ []) (length es) ≡ Some e
last_entry [] e = refl
last_entry (x ∷ xs) e = last_entry xs e

last_total : (es : List Entry) (e : Entry) →
    total_of_entries (take (suc (length es)) (es ++ e ∷ [])) ≡ total_of_entries es + e.total
last_total [] e = omega arith
last_total (x ∷ xs) e = omega (arith, last_total xs e)

added_told : (v : Setting) (es : List Entry) (e : Entry) →
    IsTold v e (es ++ e ∷ []) (Ok (kept (length es) (total_of_entries es + e.total)))
added_told v es e = (
  last_entry es e,
  sym (ap (λ (n : ℕ). total_of_entries (take n (es ++ e ∷ []))) {x = length es + 1} {y = suc (length es)} (omega arith)
      ∙ last_total es e),
)

pub admitted_told : {R : Type 0} (reply : R → Kept) (v : Setting) (a now : Accepted) (seen : List Entry)
    (b : Submission) (res : Result R NotAdmitted) → OnOk res (seen ≡ entries_in now) → OnOk res (now ≡ with_batch a b)
    → IfOk res (λ (r : R). reply r ≡ kept (count_in a) (total_in a + batch_total b))
    → IfOk res (λ (r : R). IsTold v (entry_of b) seen (Ok (reply r)))
admitted_told reply v a now seen b (Err u) same more is = tt
admitted_told reply v a now seen b (Ok r) same more is =
    let es = entries_in a in
    let e = entry_of b in
    let shown : seen ≡ es ++ e ∷ [] = same ∙ ap entries_in more ∙ entries-with a b in
    subst (λ (l : List Entry). IsTold v e l (Ok (reply r))) (sym shown)
    (subst (λ (n : Kept). IsTold v e (es ++ e ∷ []) (Ok n)) (sym is) (added_told v es e))

-- what was shown before an admission begins what is shown after it
pub admitted_later : {R : Type 0} (res : Result R NotAdmitted) (before seen after : List Entry) (a now : Accepted)
    (b : Submission) → IsPrefix before seen → seen ≡ entries_in a → OnOk res (after ≡ entries_in now)
    → OnOk res (now ≡ with_batch a b) → OnErr res (after ≡ seen) → IsPrefix before after
admitted_later (Err u) before seen after a now b begins shown same more kept =
    subst (IsPrefix before) (sym kept) begins
admitted_later (Ok k) before seen after a now b begins shown same more kept =
    let longer = seen ++ entry_of b ∷ [] in
    let is : after ≡ longer = same ∙ ap entries_in more ∙ entries-with a b
    ∙ ap (λ (l : List Entry). l ++ entry_of b ∷ []) (sym shown) in
    subst (IsPrefix before) (sym is) (prefix_trans before seen longer begins (prefix_push seen (entry_of b ∷ [])))

-- what was shown begins what is longer
pub shown_later : (seats : List SeatView) (old now : List Entry) → IsPrefix old now → AreShown seats old →
    AreShown seats now
shown_later [] old now p h = tt
shown_later (s ∷ ss) old now p h = (prefix_trans s.seen old now h.0 p, shown_later ss old now p h.1)
