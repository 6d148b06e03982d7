use Rattle.std.proofs.Common.{◌≡◌, ◌∙◌, ◌∷◌, ◌++◌, [], List, refl, sym, ap, subst}
use Rattle.std.specs.Arc.{arc_value}
use Rattle.batch_store.specs.declared.verdict.Entry.{Entry}
use Rattle.batch_store.specs.Batches.{entry_of}
use Rattle.batch_store.specs.Books.{Listing, AreAccepted, accepted_in}
use Rattle.batch_store.specs.declared.verdict.Verdict.TheVariants.{Fresh}
use Rattle.batch_store.specs.Growth.{widened}
use Rattle.batch_store.specs.Verdicts.{verdict_of}
use Rattle.batch_store.proofs.BookLaws.{entries-with, accepted_push}
use Rattle.log_join.specs.Entries.{HasSeen}
use Rattle.log_join.specs.Joins.{known_entries}
use Rattle.log_join.proofs.JoinLemmas.{on_ok_map}
use Rattle.log_join.proofs.join.take_batch.Goals as goal

pub returns-in-Ok-true-clause-seen : goal.returns-in-Ok-true-clause-seen
returns-in-Ok-true-clause-seen c =
    let old = c.args.list.now in
    let b = arc_value c.args.batch.now in
    let es = known_entries old in
    let is_entry = c.entry.ensures ∙ ap entry_of c.deref.ensures in
    let took = c.in-Ok-true.ensures.fresh c.in-Ok-true.field-0-test es c.requires.seen in
    on_ok_map c.push_widened.result
    (λ is. subst (HasSeen c.take_fresh.new.seen)
    (ap (λ (e : Entry). es ++ e ∷ []) is_entry
    ∙ sym (ap known_entries is ∙ entries-with (accepted_in old) (widened c.args.setup.now b))) took.1)
    c.push_widened.ensures.ok

pub returns-in-Ok-true-clause-accepted : goal.returns-in-Ok-true-clause-accepted
returns-in-Ok-true-clause-accepted c =
    let old = c.args.list.now in
    let b = arc_value c.args.batch.now in
    let s = c.args.setup.now in
    let es = known_entries old in
    let is_entry = c.entry.ensures ∙ ap entry_of c.deref.ensures in
    let took = c.in-Ok-true.ensures.fresh c.in-Ok-true.field-0-test es c.requires.seen in
    let fresh = subst (λ (e : Entry). verdict_of s.limit s.max_batches es e ≡ Fresh) is_entry took.0 in
    on_ok_map c.push_widened.result
    (λ is. subst (λ (l : Listing). AreAccepted s (accepted_in l)) (sym is)
    (accepted_push s (accepted_in old) (widened s b) c.requires.accepted fresh refl refl))
    c.push_widened.ensures.ok
