use Rattle.std.proofs.Common.{◌∙◌}
use Rattle.batch_store.specs.Books.{accepted_in}
use Rattle.batch_store.proofs.SumLaws.{total-summed}
use Rattle.snap_salvage.proofs.salvage.total_of.Goals as goal

pub returns : goal.returns
returns c = c.total_of_list.ensures ∙ total-summed (accepted_in c.args.list.now) c.requires.based
