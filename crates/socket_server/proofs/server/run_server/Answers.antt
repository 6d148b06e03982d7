use Rattle.socket_server.specs.declared.fault.ServerFault.TheVariants.{BadLogPath, SamePath, BadCompactors}
use Rattle.socket_server.proofs.FaultLaws.{never_met}
use Rattle.socket_server.proofs.server.run_server.Goals as goal

pub returns-clause-log_path : goal.returns-clause-log_path
returns-clause-log_path g c =
    never_met c.args.settings.must_load c.serve_settings.result BadLogPath _ (λ m. m) c.serve_settings.ensures.met
    (λ h. cc (c.in_ok-judge.ensures.log_path.1 h))

pub returns-clause-one_path : goal.returns-clause-one_path
returns-clause-one_path g c =
    never_met c.args.settings.must_load c.serve_settings.result SamePath _ (λ m. m) c.serve_settings.ensures.met
    (λ h. cc (c.in_ok-judge.ensures.one_path.1 h))

pub returns-clause-compactors : goal.returns-clause-compactors
returns-clause-compactors g c =
    never_met c.args.settings.must_load c.serve_settings.result BadCompactors _ (λ m. m) c.serve_settings.ensures.met
    (λ h. cc (c.in_ok-judge.ensures.compactors.1 h))
