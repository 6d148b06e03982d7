use Rattle.page_damage.proofs.Pages.{odd_page}
use Rattle.page_damage.proofs.laws.odd_changes_of_pages_are_found.Goals as goal

pub returns : goal.returns
returns c = odd_page c.odd_changes_are_found.ensures
