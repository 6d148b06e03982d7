use Rattle.std.proofs.Common.{◌∙◌, ap, filter_map, map}
use Rattle.hhm.specs.Options.{option_number}
use Rattle.hhm.proofs.NumberLemmas.{filter_map-map}
use Rattle.hhm.proofs.numbers.collect_numbers.Goals as goal

pub returns : goal.returns
returns c =
    c.in_ok-list.ensures
    ∙ filter_map-map option_number (λ piece. piece.now) c.as_slice.result.now
    ∙ ap (λ pieces. filter_map option_number (map (λ piece. piece.now) pieces)) c.as_slice.ensures.value
    ∙ ap (filter_map option_number) c.in_ok-pieces.ensures
