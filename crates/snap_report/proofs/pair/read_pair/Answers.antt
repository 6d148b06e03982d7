use Rattle.snap_report.proofs.MadeLemmas.{found_left}
use Rattle.snap_report.proofs.pair.read_pair.Goals as goal

pub returns-clause-read : goal.returns-clause-read
returns-clause-read g c = record {
  found = c.in_ok-found.found;
  loaded = c.in_ok-found.ensures.ok;
  read = c.in_ok-logged.ensures.answer;
  known_is = c.in_ok-known.ensures;
}

pub returns-clause-left : goal.returns-clause-left
returns-clause-left g c =
    found_left g.F.SnapshotFile.load_gives c.args.file.now c.load_if_any.new.file c.in_ok-found.found
    c.in_ok-found.ensures.ok

pub returns-in_err-known-clause-left : goal.returns-in_err-known-clause-left
returns-in_err-known-clause-left g c =
    found_left g.F.SnapshotFile.load_gives c.args.file.now c.load_if_any.new.file c.in_ok-found.found
    c.in_ok-found.ensures.ok
