-- The pages of the blocks of a log that was read.
use Rattle.std.proofs.Common.{◌≡◌, ℕ, ◌+◌, ◌^◌, ◌<◌, ◌≤◌, List, length, take, get_or, sym, ap, ◌∙◌, arith}
use Rattle.std.proofs.lemmas.List.{take_more}
use Rattle.std.proofs.lemmas.List.Sums.{sum_by_push, sum_by-take-le}
use Rattle.batch_store.specs.Batches.{values}
use Rattle.log_batches.specs.Payloads.{block_of}
use Rattle.log_read.specs.Logs.{pages_in}
use Rattle.log_read.specs.declared.file.Block.{Block}
use Rattle.log_read.specs.declared.file.LogFile.{LogFile}
use Rattle.log_read.proofs.LogFacts.{few_pages}
use Rattle.snap_report.specs.Kept.{most_bytes}
use Rattle.snap_report.specs.Logged.{IsRead}

pub pages_more : (blocks : List Block) (i : ℕ) (d : Block) → i < length blocks → d ≡ get_or blocks i d →
    pages_in (take (i + 1) blocks) ≡ pages_in (take i blocks) + length (block_of (values d.batches.items))
pages_more blocks i d lt is =
    ap pages_in (take_more blocks i d lt)
    ∙ sum_by_push (λ (b : Block). length (block_of (values b.batches.items))) (take i blocks) (get_or blocks i d)
    ∙ ap (λ (b : Block). pages_in (take i blocks) + length (block_of (values b.batches.items))) (sym is)

pub pages_part : (blocks : List Block) (i : ℕ) → pages_in (take i blocks) ≤ pages_in blocks
pages_part blocks i = sum_by-take-le (λ (b : Block). length (block_of (values b.batches.items))) blocks i

-- they are in the file
pub read_pages : (logged : LogFile) → IsRead most_bytes logged → pages_in logged.blocks.items < 2 ^ 40
read_pages logged h = omega (arith, few_pages h.bytes logged h.are_bytes h.holds, h.within)
