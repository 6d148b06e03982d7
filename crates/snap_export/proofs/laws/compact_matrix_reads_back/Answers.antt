use Rattle.snap_export.proofs.CompactLemmas.{reads_back, has_read}
use Rattle.snap_export.proofs.laws.compact_matrix_reads_back.Goals as goal

pub returns : goal.returns
returns c = λ m n rows cols h p count. (reads_back m n rows cols h p count, has_read m n rows cols h p count)
