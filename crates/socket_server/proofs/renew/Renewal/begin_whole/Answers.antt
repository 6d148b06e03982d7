use Rattle.std.proofs.Common.{inr, sym, ap, ◌∙◌}
use Rattle.std.proofs.lemmas.Result.{IfOk-weaker}
use Rattle.batch_store.specs.Books.{Listing}
use Rattle.batch_store.specs.Batches.{values}
use Rattle.socket_server.proofs.RenewLaws.{all_appended, begun_with, none_where, some_held}
use Rattle.socket_server.proofs.renew.Renewal.begin_whole.Goals as goal

-- nothing is folded, so all is appended
pub returns-clause-durable : goal.returns-clause-durable
returns-clause-durable g c =
    IfOk-weaker c.begin-2.result _ _ (λ log is. is ∙ all_appended c.args.self.now.setup.now c.in-Ok.front c.args.list.now
    (values c.deref.result.now) c.in-Ok.ensures.list
    (ap values c.deref.ensures.value ∙ ap (λ (l : Listing). l.list) c.list.view_is)
    (c.requires.unfolded (none_where c.args.self.now.snapshot (sym c.is_some.ensures ∙ c.if-is_some.false))))
    c.begin-2.ensures.durable

pub returns-clause-begun : goal.returns-clause-begun
returns-clause-begun g c =
    let r = c.args.self.now in
    begun_with c.begin-2.result (g.R.LogPlace.begins c.args.rt.now r.log.now r.setup.now r.identity) _
    c.begin-2.ensures.begun

-- the snapshot has the list
pub begin-requires-clause-held : goal.begin-requires-clause-held
begin-requires-clause-held g c =
    inr (some_held c.args.self.now.snapshot _ (sym c.is_some.ensures ∙ c.if-is_some.true) c.requires.held)
