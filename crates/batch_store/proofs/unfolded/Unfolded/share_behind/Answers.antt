use Rattle.std.proofs.Common.{◌≡◌, ℕ, zero, suc, ◌+◌, List, [], ◌∷◌, ◌++◌, take, drop}
use Rattle.std.proofs.Common.{slice_get, refl, sym, ◌∙◌, ap, arith, vec_len}
use Rattle.std.specs.Arc.{arc_value}
use Rattle.std.proofs.lemmas.List.{map-append}
use Rattle.std.proofs.lemmas.Option.{slice_get_within}
use Rattle.batch_store.specs.Batches.{values}
use Rattle.batch_store.specs.BookFolds.{rest_list}
use Rattle.batch_store.proofs.BookLaws.{next_item, none_past}
use Rattle.batch_store.proofs.unfolded.Unfolded.share_behind.Goals as goal

-- what stands at a place behind others
get_dropped : {A : Type 0} (k : ℕ) (xs : List A) (n place : ℕ) → place ≡ k + n →
    slice_get xs place ≡ slice_get (drop k xs) n
get_dropped zero xs n place h = ap (slice_get xs) {x = place} {y = n} (omega (arith, h))
get_dropped (suc k) [] n place h = refl
get_dropped (suc k) (x ∷ xs) n zero h = absurd (omega (arith, h))
get_dropped (suc k) (x ∷ xs) n (suc place) h = get_dropped k xs n place (omega (arith, h))

pub overflow_add-place : goal.overflow_add-place
overflow_add-place c =
    let list = rest_list c.args.self.now in
    omega (arith, slice_get_within list _ _ (sym c.in-Some.ensures), c.requires.few)

pub batches-smaller : goal.batches-smaller
batches-smaller c =
    let list = rest_list c.args.self.now in
    omega (arith, slice_get_within list _ _ (sym c.in-Some.ensures))

pub batches-preserved : goal.batches-preserved
batches-preserved c =
    let list = rest_list c.args.self.now in
    let behind = drop c.args.from list in
    let n = vec_len c.batches.out in
    let there = c.in-Some.ensures ∙ get_dropped c.args.from list n c.batches.place c.batches.invariant.counted in
    record {
      counted = omega (arith, c.push_reserved.ensures.len, c.batches.invariant.counted);
      within = omega (arith, c.push_reserved.ensures.len, c.push_reserved.ensures.capacity);
      capacity = c.push_reserved.ensures.capacity ∙ c.batches.invariant.capacity;
      told = ap values c.push_reserved.ensures.items
          ∙ map-append arc_value c.batches.out.items (c.in-Ok.shared ∷ [])
          ∙ (λ j. c.batches.invariant.told j ++ c.in-Ok.ensures j ∷ [])
          ∙ next_item behind n _ there
          ∙ ap (λ k. take k behind) (sym c.push_reserved.ensures.len);
    }

pub returns-in_default-clause-some : goal.returns-in_default-clause-some
returns-in_default-clause-some c less =
    let list = rest_list c.args.self.now in
    omega (arith, less, none_past list _ c.in_default.ensures, c.batches.invariant.counted)
