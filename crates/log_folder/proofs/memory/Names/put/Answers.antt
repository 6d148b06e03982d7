use Rattle.std.proofs.Common.{◌≡◌, ◌++◌, ◌∷◌, [], rules}
use Rattle.log_folder.proofs.MemoryLemmas.{left_pushed}
use Rattle.log_folder.proofs.memory.Names.put.Goals as goal

pub returns-clause-crash : goal.returns-clause-crash
returns-clause-crash c =
    let is : c.push.new.self.items ≡ c.args.self.now.older.items ++ c.args.self.now.named ∷ [] = search rules in
    let old = c.args.self.now in
    λ x left. left_pushed old.named old.older.items c.push.new.self.items c.args.number x is left
