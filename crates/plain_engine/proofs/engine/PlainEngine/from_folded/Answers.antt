use Rattle.std.proofs.Common.{◌≡◌, ◌∙◌, ◌++◌, [], List, ap, sym, append-nil}
use Rattle.std.specs.Prelude.{None}
use Rattle.std.proofs.lemmas.Result.{err_from_is_err_and}
use Rattle.batch_store.specs.declared.verdict.Entry.{Entry}
use Rattle.batch_store.specs.Accepted.{entries_in}
use Rattle.batch_store.specs.Batches.{Submission, entries_of, values}
use Rattle.batch_store.specs.Books.{Listing, accepted_in}
use Rattle.plain_engine.specs.Loads.{first_refusal}
use Rattle.plain_engine.proofs.LoadLaws.{none_refused, memory_alone}
use Rattle.plain_engine.proofs.engine.PlainEngine.from_folded.Goals as goal

pub returns-in_err-judge_folded-clause-accepted : goal.returns-in_err-judge_folded-clause-accepted
returns-in_err-judge_folded-clause-accepted g c = λ accepted.
    let p = err_from_is_err_and c.from_residual.result c.from_residual.ensures.1 in
    rw (p.1, p.2) (memory_alone _ c.in_err-judge_folded.field-0.0
    (none_refused c.args.setup (accepted_in c.args.list.now) accepted)
    (λ other. ap (λ (l : List Entry). first_refusal c.args.setup [] (l ++ entries_of c.args.list.now.list))
    (sym (c.deref.ensures.value ∙ ap (λ (l : Listing). l.folded) c.list.view_is)) ∙ c.in_err-judge_folded.ensures.err other (entries_of c.args.list.now.list)))

pub returns-clause-accepted : goal.returns-clause-accepted
returns-clause-accepted g c = λ accepted.
    let made = c.in_ok-engine.ensures in
    let folded = c.args.list.now.folded in
    let es = entries_of c.args.list.now.list in
    let is : c.list.inside.folded.items ≡ folded = ap (λ (l : Listing). l.folded) c.list.view_is in
    let told : c.deref.result.now ≡ folded = c.deref.ensures.value ∙ is in
    let none : first_refusal c.in_ok-engine.engine.setup (entries_in c.in_ok-engine.engine.book.state) es ≡ None =
    (λ i. first_refusal (made.setup i) (entries_in (made.state i)) es)
    ∙ ap (λ (l : List Entry). first_refusal c.args.setup l es) (append-nil c.deref-2.result.now ∙ c.deref-2.ensures.value ∙ is
    ∙ sym told)
    ∙ sym (c.in_ok-judge_folded.ensures.ok es)
    ∙ ap (λ (l : List Entry). first_refusal c.args.setup [] (l ++ es)) told
    ∙ none_refused c.args.setup (accepted_in c.args.list.now) accepted in
    let batches : values c.deref-3.result.now ≡ c.args.list.now.list = ap values c.deref-3.ensures.value
    ∙ ap (λ (l : Listing). l.list) c.list.view_is in
    c.with_batches.ensures.accepted
    (ap (λ (l : List Submission). first_refusal c.in_ok-engine.engine.setup
    (entries_in c.in_ok-engine.engine.book.state) (entries_of l)) batches ∙ none)
