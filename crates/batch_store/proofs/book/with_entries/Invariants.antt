use Rattle.std.proofs.Common.{◌≡◌, ◌≤◌, ◌-◌, ◌++◌, take}
use Rattle.batch_store.specs.Books.{line_entries}
use Rattle.batch_store.proofs.book.with_entries.Given as goal

abbrev pub invariant-lines : goal.invariant-lines
invariant-lines l = record {
  within : l.place ≤ l.count;
  told : l.list.items ≡ l.fn.before.items ++ line_entries (take l.place l.lines.entries);
}

abbrev pub decreases-lines : goal.decreases-lines
decreases-lines l = l.count - l.place
