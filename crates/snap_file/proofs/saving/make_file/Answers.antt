use Rattle.std.proofs.Common.{◌≡◌, ◌∙◌, sym, false, is_err, refl, arith}
use Rattle.file_folder.proofs.FileLemmas.{told_then, told_map, made_holds, others_then}
use Rattle.file_folder.proofs.RunLemmas.{taken_holds, stopped_keeps}
use Rattle.batch_store.specs.Books.{accepted_in}
use Rattle.snap_file.specs.Spelling.{file}
use Rattle.file_folder.proofs.MemoryLemmas.{on_ok}
use Rattle.file_folder.specs.Calls.{create}
use Rattle.snap_file.proofs.SaveLemmas.{done_gives}
use Rattle.snap_file.proofs.saving.make_file.Goals as goal

pub returns-in-Err-clause-kept : goal.returns-in-Err-clause-kept
returns-in-Err-clause-kept g c =
    let fine : is_err c.create.result ≡ false = sym c.is_err.ensures.value ∙ c.if-is_err.false in
    let made = on_ok c.create.result _ fine c.create.ensures.made in
    let created = on_ok c.create.result _ fine c.create.ensures.created in
    let begun = told_map _ _ (made_holds c.args.name.now) (g.F.Folder.files c.args.f.now)
    (g.F.Folder.files c.create.new.self) made in
    stopped_keeps g.F.Folder.write_takes g.F.Folder.files g.F.Folder.last_created g.met.F.Folder.write_appends
    g.F.Folder.failure_count c.args.name.now (file c.args.origin c.args.setup.now (accepted_in c.args.list.now))
    c.in-Err.fault.written
    (g.F.Folder.files c.args.f.now) c.create.new.self c.write_new.new.f c.in-Err.ensures.err created begun

pub sync-requires-clause-created : goal.sync-requires-clause-created
sync-requires-clause-created g c =
    let fine : is_err c.create.result ≡ false = sym c.is_err.ensures.value ∙ c.if-is_err.false in
    let made = on_ok c.create.result _ fine c.create.ensures.made in
    let created = on_ok c.create.result _ fine c.create.ensures.created in
    let begun = told_map _ _ (made_holds c.args.name.now) (g.F.Folder.files c.args.f.now)
    (g.F.Folder.files c.create.new.self) made in
    let whole = taken_holds g.F.Folder.write_takes g.F.Folder.files g.F.Folder.last_created
    g.met.F.Folder.write_appends g.F.Folder.failure_count c.args.name.now
    (file c.args.origin c.args.setup.now (accepted_in c.args.list.now)) (g.F.Folder.files c.args.f.now) c.create.new.self
    c.write_new.new.f c.in_default.ensures.ok created begun in
    rw whole.0 refl

pub returns-in-Ok-clause-made : goal.returns-in-Ok-clause-made
returns-in-Ok-clause-made g c =
    let fine : is_err c.create.result ≡ false = sym c.is_err.ensures.value ∙ c.if-is_err.false in
    let made = on_ok c.create.result _ fine c.create.ensures.made in
    let created = on_ok c.create.result _ fine c.create.ensures.created in
    let begun = told_map _ _ (made_holds c.args.name.now) (g.F.Folder.files c.args.f.now)
    (g.F.Folder.files c.create.new.self) made in
    let whole = taken_holds g.F.Folder.write_takes g.F.Folder.files g.F.Folder.last_created
    g.met.F.Folder.write_appends g.F.Folder.failure_count c.args.name.now
    (file c.args.origin c.args.setup.now (accepted_in c.args.list.now)) (g.F.Folder.files c.args.f.now) c.create.new.self
    c.write_new.new.f c.in_default.ensures.ok created begun in
    rw c.in-Ok.ensures.same whole.1

pub returns-in-Err-sync-clause-kept : goal.returns-in-Err-sync-clause-kept
returns-in-Err-sync-clause-kept g c =
    let fine : is_err c.create.result ≡ false = sym c.is_err.ensures.value ∙ c.if-is_err.false in
    let made = on_ok c.create.result _ fine c.create.ensures.made in
    let created = on_ok c.create.result _ fine c.create.ensures.created in
    let begun = told_map _ _ (made_holds c.args.name.now) (g.F.Folder.files c.args.f.now)
    (g.F.Folder.files c.create.new.self) made in
    let whole = taken_holds g.F.Folder.write_takes g.F.Folder.files g.F.Folder.last_created
    g.met.F.Folder.write_appends g.F.Folder.failure_count c.args.name.now
    (file c.args.origin c.args.setup.now (accepted_in c.args.list.now)) (g.F.Folder.files c.args.f.now) c.create.new.self
    c.write_new.new.f c.in_default.ensures.ok created begun in
    told_then _ _ _ (λ x y z p q. others_then c.args.name.now x y z p.1 q) (g.F.Folder.files c.args.f.now)
    (g.F.Folder.files c.write_new.new.f) (g.F.Folder.files c.sync.new.self) whole.1
    (c.in-Err-sync.ensures.others c.args.name.now whole.0)

pub write_new-requires-clause-failures : goal.write_new-requires-clause-failures
write_new-requires-clause-failures g c =
    let fine : is_err c.create.result ≡ false = sym c.is_err.ensures.value ∙ c.if-is_err.false in
    omega (arith, c.requires.failures, on_ok c.create.result _ fine c.create.ensures.ok)

pub returns-in-Err-clause-why : goal.returns-in-Err-clause-why
returns-in-Err-clause-why g c =
    let fine : is_err c.create.result ≡ false = sym c.is_err.ensures.value ∙ c.if-is_err.false in (
      c.create.new.self,
      done_gives c.create.result (λ r. g.F.Folder.call_gives c.args.f.now (create c.args.name.now) r c.create.new.self)
          fine c.create.ensures.answer,
      on_ok c.create.result _ fine c.create.ensures.ok,
      c.in-Err.ensures.err,
    )

pub sync-requires-clause-failures : goal.sync-requires-clause-failures
sync-requires-clause-failures g c =
    let fine : is_err c.create.result ≡ false = sym c.is_err.ensures.value ∙ c.if-is_err.false in
    omega (
      arith,
      c.requires.failures,
      on_ok c.create.result _ fine c.create.ensures.ok,
      c.in_default.ensures.ok.none_failed,
    )

pub returns-in-Ok-clause-no_failure : goal.returns-in-Ok-clause-no_failure
returns-in-Ok-clause-no_failure g c =
    let fine : is_err c.create.result ≡ false = sym c.is_err.ensures.value ∙ c.if-is_err.false in
    c.in-Ok.ensures.ok ∙ c.in_default.ensures.ok.none_failed ∙ on_ok c.create.result _ fine c.create.ensures.ok

pub returns-in-Err-sync-clause-why : goal.returns-in-Err-sync-clause-why
returns-in-Err-sync-clause-why g c =
    let fine : is_err c.create.result ≡ false = sym c.is_err.ensures.value ∙ c.if-is_err.false in
    let none_failed = on_ok c.create.result _ fine c.create.ensures.ok in (
      c.write_new.new.f,
      record {
        made = c.create.new.self;
        is_made = done_gives c.create.result
            (λ r. g.F.Folder.call_gives c.args.f.now (create c.args.name.now) r c.create.new.self) fine
            c.create.ensures.answer;
        none_failed = none_failed;
        all_taken = c.in_default.ensures.ok;
      },
      (_, c.in-Err-sync.ensures.answer),
      omega (arith, c.in-Err-sync.ensures.err, c.in_default.ensures.ok.none_failed, none_failed),
    )

pub returns-in-Ok-clause-calls : goal.returns-in-Ok-clause-calls
returns-in-Ok-clause-calls g c =
    let fine : is_err c.create.result ≡ false = sym c.is_err.ensures.value ∙ c.if-is_err.false in
    record {
      written = c.write_new.new.f;
      is_written = record {
        made = c.create.new.self;
        is_made = done_gives c.create.result
            (λ r. g.F.Folder.call_gives c.args.f.now (create c.args.name.now) r c.create.new.self) fine
            c.create.ensures.answer;
        none_failed = on_ok c.create.result _ fine c.create.ensures.ok;
        all_taken = c.in_default.ensures.ok;
      };
      is_synced = c.in-Ok.ensures.answer;
    }
