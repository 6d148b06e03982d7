use Rattle.std.proofs.Common.{◌≡◌, ◌≤◌, ◌<◌, ℕ, length, get_or}
use Rattle.hyper_matrix.specs.Parts.{shard_cells, count_below}
use Rattle.hyper_matrix.proofs.hyper.parts.find_begins.Given as goal

abbrev pub invariant-loop-i : goal.invariant-loop-i
invariant-loop-i l = record {
  end : l.end ≡ count_below l.i (length l.fn.begins) l.cells;
  done : (s : ℕ) → s < l.i → get_or l.begins s 0 ≡ count_below s (length l.fn.begins) l.cells;
  left : (s : ℕ) → l.i ≤ s → s < length l.fn.begins →
      get_or l.begins s 0 ≡ length (shard_cells s (length l.fn.begins) l.cells);
}
