use Rattle.page_damage.proofs.Pages.{burst_behind, burst_within}
use Rattle.page_damage.proofs.laws.bursts_in_pages_are_found.Goals as goal

pub returns-clause-behind : goal.returns-clause-behind
returns-clause-behind c = burst_behind c.bursts_are_found.ensures

pub returns-clause-within : goal.returns-clause-within
returns-clause-within c = burst_within
