use Rattle.std.proofs.Common.{◌≡◌, sym, ap, ◌∙◌, length, arith}
use Rattle.std.proofs.lemmas.Bool.{eqb-true}
use Rattle.hyper_matrix.specs.Counts.{Place}
use Rattle.filtered_matrix.specs.Filter.{may_have}
use Rattle.filtered_matrix.proofs.FilterLaws.{all_pass, read_tells}
use Rattle.filtered_matrix.proofs.filter.PlaceFilter.may_have.Goals as goal

pub returns-then-is_empty : goal.returns-then-is_empty
returns-then-is_empty c = sym (all_pass c.args.self.now (c.args.row, c.args.col)
    (omega (
      arith,
      ap length c.self.view_is,
      eqb-true _ _ (sym c.is_empty.ensures ∙ c.if-is_empty.true),
      c.self.inside.words.ok,
    )))

pub returns : goal.returns
returns c =
    let words = c.self.inside.words in
    let p : Place = (c.args.row, c.args.col) in
    let all : c.len.result ≡ length words.items = omega (arith, c.len.ensures, words.ok) in
    read_tells words.items p c.hash-hash.result c.bits_of-bits.result c.len.result c.slot.result c.index.result.now
    c.hash-hash.ensures c.bits_of-bits.ensures c.slot.ensures.value all c.slot.ensures.within c.index.ensures
    ∙ ap (λ ws. may_have ws p) c.self.view_is
