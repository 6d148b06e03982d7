use Rattle.std.proofs.Common.{◌≡◌, ◌+◌, List, length}
use Rattle.log_blocks.specs.Blocks.{Block}
use Rattle.log_blocks.specs.Files.{pages_of}
use Rattle.log_blocks.specs.Scanning.{HasTaken, IsBounded}
use Rattle.log_blocks.proofs.file.find_blocks.Given as goal

abbrev pub invariant-loop-i : goal.invariant-loop-i
invariant-loop-i l =
    record {
      long : length l.page ≡ 4096;
      bounded : IsBounded l.scan;
      counted : l.scan.page + l.scan.made ≡ 1 + l.i;
      taken : (blocks : List Block) × ((made : Block) × HasTaken l.first l.scan blocks made (pages_of 0 l.i l.bytes));
    }
