use Rattle.std.proofs.Common.{◌<◌, arith}
use Rattle.std.specs.Prelude.{Some}
use Rattle.log_folder.proofs.MemoryLemmas.{none_among}
use Rattle.log_folder.proofs.memory.is_among.Goals as goal

pub returns : goal.returns
returns c = λ ended among.
    none_among (Some c.args.number) c.args.names.now
    (λ j lt d. c.loop-i.invariant j (let inside : j < c.loop-i.i = omega arith in inside) d)
    among
