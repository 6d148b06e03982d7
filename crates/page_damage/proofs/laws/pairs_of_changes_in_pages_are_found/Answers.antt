use Rattle.page_damage.proofs.Pages.{pair_page}
use Rattle.page_damage.proofs.laws.pairs_of_changes_in_pages_are_found.Goals as goal

pub returns : goal.returns
returns c = pair_page c.pairs_are_found.ensures
