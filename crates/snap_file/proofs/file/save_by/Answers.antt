use Rattle.std.proofs.Common.{subst}
use Rattle.std.proofs.lemmas.Result.{IfOk-weaker}
use Rattle.batch_store.specs.Books.{accepted_in}
use Rattle.snap_file.specs.Spelling.{file}
use Rattle.snap_file.specs.System.{HasReplaced}
use Rattle.snap_file.proofs.SystemLaws.{saved_by}
use Rattle.snap_file.proofs.file.save_by.Goals as goal

-- the calls of the folder are calls of the file system
pub returns : goal.returns
returns g c =
    let did = g.S.FileSystem.did in
    let path = c.args.path.now in
    let text = file c.args.origin c.args.setup.now (accepted_in c.args.list.now) in
    IfOk-weaker c.save_in-saved.result _ _ (λ done saved. subst (λ s. HasReplaced did s path text)
    c.new-folder.ensures.system (saved_by did (λ b. b.system) _ _ _ (λ s call answer t h. h)
    (λ s offered answer t h. h.1) c.new-folder.result c.save_in-saved.new.f path text saved))
    c.save_in-saved.ensures.calls
