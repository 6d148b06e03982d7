use Rattle.std.proofs.Common.{◌≡◌, ◌∙◌, rules, None, IsSome}
use Rattle.std.specs.Cmp.Lexicographic.{nat_list_cmp_total}
use Rattle.std.specs.FinMap.{get-from_entries, get}
use Rattle.file_folder.specs.Memory.{listed, files_of}
use Rattle.file_folder.proofs.MemoryLemmas.{moved_first}
use Rattle.file_folder.proofs.memory.move_first.Goals as goal

pub unreachable-requires : goal.unreachable-requires
unreachable-requires c =
    let none : get (files_of c.args.files.now.items) c.args.from.now ≡ None =
    get-from_entries nat_list_cmp_total (listed c.args.files.now.items) c.args.from.now
    ∙ c.in_default.ensures.none in
    let there : IsSome (get (files_of c.args.files.now.items) c.args.from.now) = c.requires in
    let gone = rw none at there in search rules

pub returns-clause-ok : goal.returns-clause-ok
returns-clause-ok c =
    moved_first c.args.from.now c.args.to.now c.in-Some.bytes.items (listed c.args.files.now.items)
    (listed c.insert.new.self.items) c.in-Some.ensures.some
    (search (rules, c.in-Ok.ensures.items, c.in-Some.ensures.rest, c.in_ok-name.ensures.ok))
