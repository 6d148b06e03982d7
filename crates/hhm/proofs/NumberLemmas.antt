-- What one more digit does to a number, as the texts' reader has it.
pub use Rattle.mm_text.proofs.NumberLemmas.{value_more}
use Rattle.std.specs.Prelude.{◌≡◌, List, [], ◌∷◌, Option, Some, None, map, filter_map, refl}
use Rattle.std.specs.List.{cons_option}
use Rattle.std.proofs.Common.{ap}

-- what a test of a list's images finds
pub filter_map-map : {X Y Z : Type 0} (f : Y → Option Z) (g : X → Y) (xs : List X) →
    filter_map (λ x. f (g x)) xs ≡ filter_map f (map g xs)
filter_map-map f g [] = refl
filter_map-map f g (x ∷ xs) =
    elim (f (g x)) as (λ o. cons_option o (filter_map (λ y. f (g y)) xs) ≡ cons_option o (filter_map f (map g xs))) [
      | None ↦ filter_map-map f g xs
      | Some z ↦ ap (λ zs. z ∷ zs) (filter_map-map f g xs)
    ]
