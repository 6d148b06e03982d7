use Rattle.std.proofs.Common.{◌≡◌, ◌*◌, ◌≤◌, ◌^◌}
use Rattle.snap_salvage.specs.LeftPages.{IsCounted}
use Rattle.snap_salvage.proofs.SumLemmas.{IsCounting}
use Rattle.snap_salvage.proofs.count.count_pages.Given as goal

abbrev pub invariant-pages : goal.invariant-pages
invariant-pages g l = record {
  counting : IsCounting {S = g.row.S.Denot} g.S.Source.read_gives l.fn.source l.source l.buffer l._i l.left;
  counted : IsCounted l.left;
  pages : l.left.pages ≤ l._i;
  whole : l.left.whole ≤ l._i;
  batches : l.left.batches ≤ 2 ^ 30 * l._i;
  failures : g.S.Source.failure_count l.source ≡ g.S.Source.failure_count l.fn.source;
}
