use Rattle.std.proofs.Common.{◌≡◌, ◌∙◌, sym, subst}
use Rattle.file_folder.specs.Files.{WhereTold, HasFile, IsMoved}
use Rattle.file_folder.proofs.FileLemmas.{told_then, told_there, moved_replaces}
use Rattle.batch_store.specs.Books.{accepted_in}
use Rattle.snap_file.specs.Spelling.{file}
use Rattle.snap_file.specs.Saving.{unfinished}
use Rattle.snap_file.proofs.SaveLemmas.{unfinished_differs}
use Rattle.snap_file.proofs.saving.save_in.Goals as goal

pub rename-requires-clause-is_there : goal.rename-requires-clause-is_there
rename-requires-clause-is_there g c =
    let same : c.as_str-2.result.now ≡ c.as_str.result.now = c.as_str-2.ensures.value ∙ sym c.as_str.ensures.value in
    rw same (told_there c.as_str.result.now (file c.args.origin c.args.setup.now (accepted_in c.args.list.now))
    (g.F.Folder.files c.args.f.now) (g.F.Folder.files c.make_file.new.f) c.in_ok-make_file.ensures.made)

pub returns-in-Ok-rename-clause-saved : goal.returns-in-Ok-rename-clause-saved
returns-in-Ok-rename-clause-saved g c =
    let text = file c.args.origin c.args.setup.now (accepted_in c.args.list.now) in
    let path = c.args.path.now in
    let before = g.F.Folder.files c.args.f.now in
    let between = g.F.Folder.files c.make_file.new.f in
    let after = g.F.Folder.files c.rename.new.self in
    let name : c.as_str.result.now ≡ unfinished path = c.as_str.ensures.value ∙ c.in-Ok.ensures in
    let name' : c.as_str-2.result.now ≡ unfinished path = c.as_str-2.ensures.value ∙ c.in-Ok.ensures in
    let made = subst (λ n. WhereTold (HasFile n text) before between) name c.in_ok-make_file.ensures.made in
    let moved = subst (λ n. WhereTold (IsMoved n path) between after) name' c.in-Ok-rename.ensures.moved in
    told_then _ _ _ (λ x y z p q. moved_replaces path (unfinished path) text x y z (unfinished_differs path) p q)
    before between after made moved
