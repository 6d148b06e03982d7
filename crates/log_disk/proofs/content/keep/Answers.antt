use Rattle.std.proofs.Common.{◌≡◌, rules}
use Rattle.log_disk.proofs.content.keep.Goals as goal

pub returns-clause-ok : goal.returns-clause-ok
returns-clause-ok c =
    let first : c.in_ok-to_vec.field-0.items ≡ c.args.durable.now = search rules in
    let second : c.in_ok-to_vec-2.field-0.items ≡ c.args.written.now = search rules in
    ((c.in_ok-to_vec.field-0, c.in_ok-to_vec-2.field-0), first, second, search rules)
