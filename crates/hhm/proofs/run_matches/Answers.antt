use Rattle.std.proofs.Common.{rules}
use Rattle.clap.specs.Words.{found_of}
use Rattle.hhm.proofs.run_matches.Goals as goal

pub returns-in_ok-order_of-in-Some-serve-default : goal.returns-in_ok-order_of-in-Some-serve-default
returns-in_ok-order_of-in-Some-serve-default c =
    let word = c.in-Some-serve-default in
    record {
      found = found_of word.given.now;
      word = search rules;
      rows = search rules;
      ordered = c.in_ok-order_of-in-Some-serve-default.ensures;
    }
