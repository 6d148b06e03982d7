use Rattle.std.proofs.Common.{refl}
use Rattle.mm_text.proofs.EightLemmas.{eight_value_is}
use Rattle.mm_text.proofs.plain.eight_value.Goals as goal

pub returns : goal.returns
returns c = eight_value_is c.args.digits c.ranges.digits.fits c.requires _ _ refl refl
