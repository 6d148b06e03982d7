use Rattle.std.proofs.Common.{ap, subst, ◌∙◌}
use Rattle.std.specs.Prelude.{Bool, Option}
use Rattle.std.proofs.lemmas.Result.{err_from_is_err_and}
use Rattle.batch_store.specs.Books.{accepted_in}
use Rattle.snap_file.specs.Origins.{origin, own}
use Rattle.snap_file.specs.declared.origin.Identity.{Identity}
use Rattle.snap_file.specs.declared.origin.Origin.{Origin}
use Rattle.socket_server.specs.Starts.{IsMarked, identity_in}
use Rattle.socket_server.proofs.StartLaws.{starts_under}
use Rattle.socket_server.proofs.RefusalLaws.{draw_refused, join_refused, renew_refused, serving_refused}
use Rattle.socket_server.proofs.start.start_first.Goals as goal

pub returns-in_err-drawn-clause-refused : goal.returns-in_err-drawn-clause-refused
returns-in_err-drawn-clause-refused g c =
    let p = err_from_is_err_and c.from_residual.result c.from_residual.ensures.1 in
    let s = c.args.settings.now in
    rw (p.1, p.2) (draw_refused g.R.Host.loads g.R.Host.locks g.R.LogHost.log_heads g.R.LogHost.log_starts
    c.args.rt.now s.snapshot s.log s.must_load s.numbers _ c.in_err-drawn.ensures.err)

pub returns-in_err-joined-clause-refused : goal.returns-in_err-joined-clause-refused
returns-in_err-joined-clause-refused g c =
    let p = err_from_is_err_and c.from_residual-in_err-joined.result c.from_residual-in_err-joined.ensures.1 in
    let s = c.args.settings.now in
    let plan = c.args.plan.now in
    let loaded = c.args.loaded in
    rw (p.1, p.2) (join_refused g.R.Host.loads g.R.Host.locks g.R.LogHost.log_heads g.R.LogHost.log_starts
    c.args.rt.now s.snapshot s.log s.must_load s.numbers plan.files plan.first plan.last loaded.list loaded.origin
    c.in_ok-drawn.drawn _ c.requires.based c.requires.loaded c.requires.plan c.in_err-joined.ensures.met
    c.in_err-joined.ensures.told c.in_err-joined.ensures.no_file)

pub returns-in_err-mark_snapshot-clause-refused : goal.returns-in_err-mark_snapshot-clause-refused
returns-in_err-mark_snapshot-clause-refused g c =
    let p =
    err_from_is_err_and c.from_residual-in_err-mark_snapshot.result c.from_residual-in_err-mark_snapshot.ensures.1 in
    let s = c.args.settings.now in
    rw (p.1, p.2) (serving_refused g.R.Host.loads g.R.Host.locks g.R.LogHost.log_heads g.R.LogHost.log_starts
    c.args.rt.now s.snapshot s.log s.must_load s.numbers _ c.in_err-mark_snapshot.ensures.met)

pub returns-in_err-marked-clause-refused : goal.returns-in_err-marked-clause-refused
returns-in_err-marked-clause-refused g c =
    let p = err_from_is_err_and c.from_residual-in_err-marked.result c.from_residual-in_err-marked.ensures.1 in
    let s = c.args.settings.now in
    let plan = c.args.plan.now in
    let loaded = c.args.loaded in
    let joined = c.in_ok-joined.joined in
    rw (p.1, p.2) (renew_refused g.R.Host.loads g.R.Host.locks g.R.LogHost.log_heads g.R.LogHost.log_starts
    c.args.rt.now s.snapshot s.log s.must_load s.numbers plan.files plan.first plan.last loaded.list joined.list
    loaded.origin c.in_ok-drawn.drawn joined.head _ c.requires.based c.requires.loaded c.requires.plan
    c.in_ok-joined.ensures.joined c.in_err-marked.ensures.there c.in_err-marked.ensures.told)

-- each file says whose it is and the first setup of the plan
pub returns-clause-under : goal.returns-clause-under
returns-clause-under g c =
    let s = c.args.settings.now in
    let plan = c.args.plan.now in
    let loaded = c.args.loaded in
    let joined = c.in_ok-joined.joined in
    let drawn = c.in_ok-drawn.drawn in
    let i = c.or_else-identity.result in
    let h = c.args.rt.now in
    let saves = g.R.Disk.saves in
    let same = c.in_ok-joined.ensures.origin in
    let a = accepted_in joined.list in
    starts_under g.R.Host.loads g.R.LogHost.log_heads g.R.LogHost.log_starts saves g.R.LogPlace.begins
    g.R.LogPlace.names h s.snapshot s.log s.must_load s.numbers plan.files plan.first loaded.list joined.list
    loaded.origin drawn i joined.head (accepted_in c.in_ok-marked.marked.list) c.in_ok-drawn.ensures.book
    c.requires.based c.in_ok-joined.ensures.based c.requires.loaded c.requires.files c.requires.asks
    c.in_ok-joined.ensures.joined
    (c.or_else-identity.ensures ∙ ap (λ (x : Identity). own x c.head_identity.result drawn)
    (c.identity_in.ensures ∙ ap identity_in same) ∙ ap (λ (x : Identity). own (identity_in loaded.origin) x drawn)
    c.head_identity.ensures)
    (subst (λ (b : Bool). IsMarked saves h s.snapshot plan.files plan.first loaded.origin (origin i b) a)
    c.is_some.ensures
    (subst (λ (o : Option Origin). IsMarked saves h s.snapshot plan.files plan.first o (origin i c.is_some.result) a)
    same c.in_ok-mark_snapshot.ensures.marked))
    c.in_ok-marked.ensures.marked (ap accepted_in c.in_ok-marked.ensures.list)
