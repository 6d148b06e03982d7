-- Puts whose files make no batch.
use Rattle.std.proofs.Common.{ℕ, List, refl}
use Rattle.mm_text.specs.Texts.{Spells}
use Rattle.batch_store.specs.Setups.{Setting}
use Rattle.batch_store.specs.Files.{RefusesFile}
use Rattle.batch_store.specs.declared.fault.BatchFault.TheVariants.{DimensionsTooLarge, SumTooLarge}
use Rattle.mm_text.specs.declared.file.MmFile.{MmFile}
use Rattle.wire_proto.specs.Answering.{put_limits, RefusesText, exceeds, too_large}

pub larger_dimensions : (setup : Setting) (bytes : List ℕ) (file : MmFile) →
    Spells bytes put_limits file.rows file.cols file.cells.items →
    RefusesFile setup file DimensionsTooLarge → RefusesText setup bytes 20 0
larger_dimensions setup bytes file spells h = exceeds file.rows file.cols file.cells.items spells h refl refl

pub sum_too_large : (setup : Setting) (bytes : List ℕ) (file : MmFile) →
    Spells bytes put_limits file.rows file.cols file.cells.items →
    RefusesFile setup file SumTooLarge → RefusesText setup bytes 21 0
sum_too_large setup bytes file spells h =
    too_large file.rows file.cols file.cells.items spells h.0.0 h.0.1 h.1 refl refl
