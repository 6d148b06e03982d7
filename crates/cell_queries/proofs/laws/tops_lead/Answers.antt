use Rattle.cell_queries.proofs.TopLaws.{top_leads}
use Rattle.cell_queries.proofs.laws.tops_lead.Goals as goal

pub returns : goal.returns
returns c = top_leads
