-- What a Put's text leads to, and what the cells of a PutCells lead to.
use Rattle.std.specs.Prelude.{ℕ, List, Result, Ok, Err}
use Rattle.std.specs.Arc.{arc_value}
use Rattle.std.specs.declared.sync.Arc.{Arc}
use Rattle.batch_store.specs.Setups.{Setting}
use Rattle.batch_store.specs.Batches.{Submission}
use Rattle.wire_proto.specs.Answering.{PutsBatch, RefusesText, PutsCells, RefusesCells}
use Rattle.wire_proto.specs.declared.texts.BodyRefusal.{BodyRefusal}
use Rattle.wire_proto.specs.declared.texts.BodyRefusal.TheVariants.{Memory, Refused}

-- what a Put's text leads to
abbrev pub Leads : {Z : Type 0} → Setting → ℕ → ℕ → List ℕ → Result (Arc Submission Z) BodyRefusal → Type 0
Leads setup client n bytes (Ok batch) = PutsBatch setup client n bytes (arc_value batch)
Leads setup client n bytes (Err Memory) = Unit {0}
Leads setup client n bytes (Err (Refused code detail)) = RefusesText setup bytes code detail

-- what the cells of a PutCells lead to
abbrev pub CellsLead : {Z : Type 0} → Setting → ℕ → ℕ → List ℕ → Result (Arc Submission Z) BodyRefusal → Type 0
CellsLead setup client n bytes (Ok batch) = PutsCells setup client n bytes (arc_value batch)
CellsLead setup client n bytes (Err Memory) = Unit {0}
CellsLead setup client n bytes (Err (Refused code detail)) = RefusesCells setup bytes code detail
