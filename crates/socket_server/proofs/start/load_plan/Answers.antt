use Rattle.std.proofs.Common.{ap, subst, sym, ◌∙◌}
use Rattle.std.proofs.lemmas.Result.{err_from_is_err_and}
use Rattle.batch_store.specs.Setups.{Setting}
use Rattle.socket_server.specs.Starts.{IsFiles, asks_log, needs_file}
use Rattle.socket_server.proofs.StartLaws.{files_of, is_loaded, none_found, origin_found, some_files}
use Rattle.socket_server.proofs.RefusalLaws.{found_refused, growth_refused, head_refused, needs_refused, plan_refused}
use Rattle.socket_server.proofs.start.load_plan.Goals as goal

pub returns-in_err-found-clause-refused : goal.returns-in_err-found-clause-refused
returns-in_err-found-clause-refused g c =
    let p = err_from_is_err_and c.from_residual.result c.from_residual.ensures.1 in
    let s = c.args.settings.now in
    rw (p.1, p.2) (found_refused g.R.Host.loads g.R.Host.locks g.R.LogHost.log_heads g.R.LogHost.log_starts
    c.args.rt.now s.snapshot s.log s.must_load s.numbers _ c.in_err-found.ensures.met c.in_err-found.ensures.told
    c.in_err-found.ensures.no_log)

pub returns-in_err-judge_log-clause-refused : goal.returns-in_err-judge_log-clause-refused
returns-in_err-judge_log-clause-refused g c =
    let p = err_from_is_err_and c.from_residual-in_err-judge_log.result c.from_residual-in_err-judge_log.ensures.1 in
    let s = c.args.settings.now in
    rw (p.1, p.2) (needs_refused g.R.Host.loads g.R.Host.locks g.R.LogHost.log_heads g.R.LogHost.log_starts
    c.args.rt.now s.snapshot s.log s.must_load s.numbers (needs_file s.must_load s.log) c.in_ok-found.found _
    c.in_ok-found.ensures.found c.in_err-judge_log.ensures.told)

pub returns-in_err-files-clause-refused : goal.returns-in_err-files-clause-refused
returns-in_err-files-clause-refused g c =
    let p = err_from_is_err_and c.from_residual-in_err-files.result c.from_residual-in_err-files.ensures.1 in
    let s = c.args.settings.now in
    rw (p.1, p.2) (head_refused g.R.Host.loads g.R.Host.locks g.R.LogHost.log_heads g.R.LogHost.log_starts
    c.args.rt.now s.snapshot s.log s.must_load s.numbers (needs_file s.must_load s.log) c.in_ok-found.found _
    c.in_ok-found.ensures.found c.in_err-files.ensures.met c.in_err-files.ensures.told c.in_err-files.ensures.no_file)

pub returns-in_err-plan-clause-refused : goal.returns-in_err-plan-clause-refused
returns-in_err-plan-clause-refused g c =
    let p = err_from_is_err_and c.from_residual-in_err-plan.result c.from_residual-in_err-plan.ensures.1 in
    let s = c.args.settings.now in
    rw (p.1, p.2) (plan_refused g.R.Host.loads g.R.Host.locks g.R.LogHost.log_heads g.R.LogHost.log_starts
    c.args.rt.now s.snapshot s.log s.must_load s.numbers (needs_file s.must_load s.log) c.in_ok-found.found
    c.in_ok-files.files _ c.in_ok-found.ensures.found c.in_ok-files.ensures.files c.in_err-plan.ensures.met
    c.in_err-plan.ensures.err)

pub returns-in_err-loaded-clause-refused : goal.returns-in_err-loaded-clause-refused
returns-in_err-loaded-clause-refused g c =
    let p = err_from_is_err_and c.from_residual-in_err-loaded.result c.from_residual-in_err-loaded.ensures.1 in
    let s = c.args.settings.now in
    let plan = c.in_ok-plan.plan in
    rw (p.1, p.2) (growth_refused g.R.Host.loads g.R.Host.locks g.R.LogHost.log_heads g.R.LogHost.log_starts
    c.args.rt.now s.snapshot s.log s.must_load s.numbers (needs_file s.must_load s.log) c.in_ok-found.found plan.first
    plan.last plan.files _ c.in_ok-found.ensures.found
    (some_files g.R.LogHost.log_heads c.args.rt.now s.log s.numbers c.in_ok-found.found c.in_ok-files.files
    plan.files c.in_ok-files.ensures.files c.in_ok-plan.ensures.files) c.in_ok-plan.ensures.plan
    c.in_err-loaded.ensures.err)

-- under no path nothing is loaded
pub returns-clause-folded : goal.returns-clause-folded
returns-clause-folded g c none =
    let s = c.args.settings.now in
    c.in_ok-loaded.ensures.folded (none_found g.R.Host.loads g.R.Host.locks c.args.rt.now s.snapshot
    (needs_file s.must_load s.log) c.in_ok-found.found c.in_ok-found.ensures.found none)

pub returns-clause-loaded : goal.returns-clause-loaded
returns-clause-loaded g c =
    let s = c.args.settings.now in
    let plan = c.in_ok-plan.plan in
    let loaded = c.in_ok-loaded.loaded in
    is_loaded g.R.Host.loads g.R.Host.locks c.args.rt.now s.snapshot (needs_file s.must_load s.log)
    c.in_ok-found.found plan.files plan.first plan.last loaded.origin loaded.list c.in_ok-found.ensures.found
    (some_files g.R.LogHost.log_heads c.args.rt.now s.log s.numbers c.in_ok-found.found c.in_ok-files.files
    plan.files c.in_ok-files.ensures.files c.in_ok-plan.ensures.files) c.in_ok-plan.ensures.plan.first
    c.in_ok-loaded.ensures.based c.in_ok-loaded.ensures.list

pub returns-clause-files : goal.returns-clause-files
returns-clause-files g c =
    let s = c.args.settings.now in
    let heads = g.R.LogHost.log_heads in
    let found = c.in_ok-found.found in
    let loaded = c.in_ok-loaded.loaded in
    files_of heads c.args.rt.now s.log s.numbers found loaded.origin c.in_ok-plan.plan.files
    (origin_found found loaded.origin loaded.list c.in_ok-loaded.ensures.list)
    (subst (λ (f : Setting). IsFiles heads c.args.rt.now s.log s.numbers found f) (sym c.in_ok-plan.ensures.files)
    c.in_ok-files.ensures.files)

pub returns-clause-asks : goal.returns-clause-asks
returns-clause-asks g c none =
    let loaded = c.in_ok-loaded.loaded in
    ap asks_log (origin_found c.in_ok-found.found loaded.origin loaded.list c.in_ok-loaded.ensures.list)
    ∙ c.in_ok-judge_log.ensures.ok none
