use Rattle.std.proofs.Common.{◌≡◌, ◌+◌, ◌-◌, ◌*◌, ◌<◌, ◌≤◌, ℕ, length, take, drop}
use Rattle.log_blocks.specs.Blocks.{pages_from}
use Rattle.log_blocks.specs.Files.{joined}
use Rattle.log_batches.specs.Payloads.{chunks_from}
use Rattle.log_batches.proofs.pages.seal_pages.Given as goal

abbrev pub invariant-pages : goal.invariant-pages
invariant-pages l = record {
  within : l.left ≤ l.pages;
  long : length l.out ≡ length l.fn.out;
  same : take (4096 * l.left) l.out ≡ take (4096 * l.left) l.fn.out;
  made : drop (4096 * l.left) l.out ≡
      joined (pages_from l.place l.left l.pages (chunks_from l.left (l.pages - l.left) l.fn.out));
}

abbrev pub decreases-pages : goal.decreases-pages
decreases-pages l = l.left
