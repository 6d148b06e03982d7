use Rattle.std.proofs.Common.{◌∙◌, inl, inr, ℕ, refl, sym, subst}
use Rattle.log_start.specs.Starts.{RefusesFound}
use Rattle.log_start.proofs.Reading.{if_err_map, if_none_at, if_some_at}
use Rattle.log_start.proofs.start.start_log.Goals as goal

pub returns-in-Ok-None-clause-why : goal.returns-in-Ok-None-clause-why
returns-in-Ok-None-clause-why g c = inr (
  c.find_log.new.folder,
  c.in-Ok-None.ensures.order,
  inr (inl (record {
    fault_is = refl;
    none = λ tells. sym (let kept = c.in-Ok-None.ensures.same tells in kept.same)
        ∙ if_none_at _ c.in-Ok-None.field-0 c.in-Ok-None.field-0-is (c.in-Ok-None.ensures.none tells);
    asked = c.if-owner.true;
  })),
)

-- the file that was found
pub returns-clause-why : goal.returns-clause-why
returns-clause-why g c =
    let file = c.in-Ok-Some.found in
    if_err_map c.start_from.result c.start_from.ensures.why (λ fault why. inr (
      c.find_log.new.folder,
      c.in-Ok-Some.ensures.order,
      inr (inr (
        file.file.disk,
        file.length,
        λ tells. let told = if_some_at _ c.in-Ok-Some.field-0 file c.in-Ok-Some.field-0-is (c.in-Ok-Some.ensures.found tells)
            in (told.0, told.2),
        subst (λ (n : ℕ). RefusesFound g.F.Disk.LogDisk file.file.disk file.length g.kept.0 g.kept.1
            c.args.setup.now c.args.owner.now c.args.known n (g.F.LogFolder.failure_count c.start_from.new.folder) fault)
            c.in-Ok-Some.ensures.no_failure why,
      )),
    ))
