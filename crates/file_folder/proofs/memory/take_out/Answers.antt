use Rattle.std.proofs.Common.{◌≡◌, ◌∙◌, ap, rules, not, bytes_eq, string_bytes, filter, false, add-one, get_or, length, ◌<◌, take, drop, suc, ◌++◌}
use Rattle.std.proofs.lemmas.Fn.{filter_same}
use Rattle.std.proofs.lemmas.Slice.Eq.{bytes_eq-Decides}
use Rattle.file_folder.specs.Memory.{listed}
use Rattle.file_folder.proofs.MemoryLemmas.{filter_without, listed_filter}
use Rattle.file_folder.proofs.memory.take_out.Goals as goal

pub returns-clause-rest : goal.returns-clause-rest
returns-clause-rest c =
    let kept : c.retain.new.self.items ≡ filter (λ f. not (bytes_eq (string_bytes f.0) c.args.name.now)) c.remove-bytes.new.self.items =
    filter_same _ (λ f. not (bytes_eq (string_bytes f.0) c.args.name.now)) _ (λ x b f' k. search rules)
    c.remove-bytes.new.self.items c.retain.new.self.items c.retain.ensures.filtered in
    let inside : c.in_ok-at.at < length c.args.files.now.items = rw (← c.deref.ensures.value) c.in_ok-at.ensures.within in
    let named : string_bytes (get_or c.args.files.now.items c.in_ok-at.at c.remove-bytes.result).0 ≡ c.args.name.now =
    rw (← c.deref.ensures.value) (c.in_ok-at.ensures.named c.remove-bytes.result) in
    let refused : not (bytes_eq (string_bytes (get_or c.args.files.now.items c.in_ok-at.at c.remove-bytes.result).0)
    c.args.name.now) ≡ false = ap not ((bytes_eq-Decides _ _).1 named) in
    let parts : c.remove-bytes.new.self.items ≡ take c.in_ok-at.at c.args.files.now.items
    ++ drop (suc c.in_ok-at.at) c.args.files.now.items = rw (← add-one) c.remove-bytes.ensures.by_index.2 in
    ap listed (kept ∙ ap (λ l. filter (λ f. not (bytes_eq (string_bytes f.0) c.args.name.now)) l) parts
    ∙ filter_without (λ f. not (bytes_eq (string_bytes f.0) c.args.name.now)) c.args.files.now.items c.in_ok-at.at
    c.remove-bytes.result inside refused)
    ∙ listed_filter (λ k. not (bytes_eq k c.args.name.now)) c.args.files.now.items
