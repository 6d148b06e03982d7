use Rattle.std.proofs.Common.{◌≡◌, List, ℕ, length, subst, set, arith}
use Rattle.std.specs.Prelude.{bit_or}
use Rattle.hyper_matrix.specs.Counts.{Place}
use Rattle.filtered_matrix.specs.Filter.{Marks}
use Rattle.filtered_matrix.proofs.FilterLaws.{written_marks}
use Rattle.filtered_matrix.proofs.filter.PlaceFilter.mark.Goals as goal

pub returns : goal.returns
returns c =
    let words = c.self.inside.words in
    let i = c.slot-slot.result in
    let p : Place = (c.args.row, c.args.col) in
    let all : c.len.result ≡ length words.items = omega (arith, c.len.ensures, words.ok) in
    subst (λ (old : List ℕ). Marks old (set words.items i (bit_or c.index_mut.result.now c.bits_of.result)) p)
    c.self.view_is
    (written_marks words.items p c.hash-hash.result c.bits_of.result c.len.result i c.index_mut.result.now
    c.hash-hash.ensures c.bits_of.ensures c.slot-slot.ensures.value all c.slot-slot.ensures.within
    c.index_mut.ensures.value)
