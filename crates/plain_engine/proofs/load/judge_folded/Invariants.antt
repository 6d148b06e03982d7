use Rattle.std.proofs.Common.{take, drop}
use Rattle.plain_engine.proofs.LoadLaws.{AreJudged}
use Rattle.plain_engine.proofs.load.judge_folded.Given as goal

abbrev pub invariant-entries : goal.invariant-entries
invariant-entries l =
    AreJudged l.setup l.pairs l.total l.at (take l.entry-index l.folded) (drop l.entry-index l.folded) l.folded
