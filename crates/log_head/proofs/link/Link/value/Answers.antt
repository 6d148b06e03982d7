use Rattle.std.proofs.Common.{◌∙◌, ℕ, ap}
use Rattle.crc32c.specs.Remainders.{complement}
use Rattle.log_head.specs.Links.{link_in}
use Rattle.log_head.proofs.link.Link.value.Goals as goal

pub returns : goal.returns
unfolding link_in
returns c = λ es has. c.value.ensures ∙ ap (λ (r : ℕ). complement r) (c.self.view_is ∙ has)
