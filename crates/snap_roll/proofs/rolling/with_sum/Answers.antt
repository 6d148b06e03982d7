use Rattle.std.proofs.Common.{◌++◌, ◌∷◌, [], ◌∙◌, ap, sym, subst}
use Rattle.hyper_matrix.specs.Counts.{ewise_add}
use Rattle.hyper_matrix.specs.Matrix.{Matrix}
use Rattle.batch_store.specs.Accepted.{Accepted, IsBase, accepted}
use Rattle.batch_store.specs.Books.{AreAccepted, Listing, accepted_in}
use Rattle.batch_store.specs.Pieces.{Cut}
use Rattle.snap_roll.proofs.RollLemmas.{accepted_more, with_sum_is}
use Rattle.snap_roll.proofs.rolling.with_sum.Goals as goal

pub invariant_of-result : goal.invariant_of-result
invariant_of-result c =
    let a = accepted_in c.args.list in
    let e = c.args.entry in
    let base = ap (λ (m : Matrix). m.counts) (c.in_ok-one.ensures ∙ c.in_ok-both.ensures)
    ∙ ap (λ (m : Matrix). ewise_add m.counts c.args.sum.counts)
    (c.in_ok-before.ensures ∙ ap (λ (x : Cut). x.whole) c.deref.ensures ∙ ap (λ (l : Listing). l.base) c.list.view_is) in
    let folded = c.in_ok-push.ensures.items ∙ ap (λ (l : Listing). l.folded ++ e ∷ []) c.list.view_is in
    let state = (λ i. accepted (base i) (folded i) []) ∙ with_sum_is a e c.args.sum.counts c.requires.folded in
    subst (λ (b : Accepted). IsBase b.base b.folded) (sym state)
    (accepted_more c.args.setup.now a e c.args.sum.counts c.requires.accepted c.requires.room c.requires.total).based

pub returns-clause-state : goal.returns-clause-state
returns-clause-state c =
    let a = accepted_in c.args.list in
    let e = c.args.entry in
    let base = ap (λ (m : Matrix). m.counts) (c.in_ok-one.ensures ∙ c.in_ok-both.ensures)
    ∙ ap (λ (m : Matrix). ewise_add m.counts c.args.sum.counts)
    (c.in_ok-before.ensures ∙ ap (λ (x : Cut). x.whole) c.deref.ensures ∙ ap (λ (l : Listing). l.base) c.list.view_is) in
    let folded = c.in_ok-push.ensures.items ∙ ap (λ (l : Listing). l.folded ++ e ∷ []) c.list.view_is in
    let list = ap (λ (l : Listing). l.list) c.list.view_is ∙ c.requires.folded in
    (λ i. accepted (base i) (folded i) (list i)) ∙ with_sum_is a e c.args.sum.counts c.requires.folded

pub returns-clause-accepted : goal.returns-clause-accepted
returns-clause-accepted c =
    let a = accepted_in c.args.list in
    let e = c.args.entry in
    let base = ap (λ (m : Matrix). m.counts) (c.in_ok-one.ensures ∙ c.in_ok-both.ensures)
    ∙ ap (λ (m : Matrix). ewise_add m.counts c.args.sum.counts)
    (c.in_ok-before.ensures ∙ ap (λ (x : Cut). x.whole) c.deref.ensures ∙ ap (λ (l : Listing). l.base) c.list.view_is) in
    let folded = c.in_ok-push.ensures.items ∙ ap (λ (l : Listing). l.folded ++ e ∷ []) c.list.view_is in
    let list = ap (λ (l : Listing). l.list) c.list.view_is ∙ c.requires.folded in
    let state = (λ i. accepted (base i) (folded i) (list i)) ∙ with_sum_is a e c.args.sum.counts c.requires.folded in
    subst (λ (b : Accepted). AreAccepted c.args.setup.now b) (sym state)
    (accepted_more c.args.setup.now a e c.args.sum.counts c.requires.accepted c.requires.room c.requires.total)
