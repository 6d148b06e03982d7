use Rattle.std.proofs.Common.{◌≡◌, ◌+◌, ◌*◌, ◌-◌, ◌≤◌, length}
use Rattle.log_head.specs.declared.head.LogHead.{LogHead}
use Rattle.log_blocks.specs.Scanning.{IsBounded}
use Rattle.log_read.specs.Outcomes.{IsReading}
use Rattle.log_read.proofs.read.read_pages.Given as goal

abbrev pub invariant-pages : goal.invariant-pages
invariant-pages g l = record {
  limit : l.source.max_bytes ≡ l.fn.source.max_bytes;
  within : l.source.came ≤ l.source.max_bytes;
  failures : g.R.Source.failure_count l.r ≡ g.R.Source.failure_count l.fn.r;
  bounded : IsBounded l.log.scan;
  came : 4096 * (l.log.scan.page + l.log.scan.made) + length l.source.buffer ≡ l.source.came;
  read : (s : g.row.R.Denot) (h : LogHead) →
      IsReading {S = g.row.R.Denot} g.R.Source.read_gives g.R.Source.failure_count s l.fn.r l.fn.source h l.fn.log →
      IsReading {S = g.row.R.Denot} g.R.Source.read_gives g.R.Source.failure_count s l.r l.source h l.log;
}

abbrev pub decreases-pages : goal.decreases-pages
decreases-pages g l = l.fn.source.max_bytes - 4096 * (l.log.scan.page + l.log.scan.made)
