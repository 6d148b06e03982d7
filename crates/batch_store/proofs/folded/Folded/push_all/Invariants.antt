use Rattle.std.proofs.Common.{◌≡◌, ◌+◌, ◌≤◌, ◌++◌, take}
use Rattle.batch_store.proofs.folded.Folded.push_all.Given as goal

abbrev pub invariant-entries : goal.invariant-entries
invariant-entries l = record {
  base : l.self.base ≡ l.fn.self.base;
  told : l.self.entries ≡ l.fn.self.entries ++ take l.entry-index l.entries;
  room : l.fn.self.free ≤ l.self.free + l.entry-index;
}
