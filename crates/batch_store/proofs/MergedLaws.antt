-- What is left of all pieces of a matrix comes to one list, in order.
use Rattle.std.proofs.Common.{◌≡◌, ℕ, suc, zero, ◌+◌, ◌<◌, ◌≤◌, T, List, [], ◌∷◌, ◌++◌, length, map, refl, sym, ◌∙◌}
use Rattle.std.proofs.Common.{ap, subst, arith, Option, None, Some, option_map, MatchOption, get_or, set, take, Bor}
use Rattle.std.proofs.lemmas.List.{length-map, map-append, take-append-le, take_all, take_more, take_more_set}
use Rattle.std.specs.Iterator.{MakesProgress, item_count}
use Rattle.cells.specs.Order.{Rise}
use Rattle.std.specs.FinMap.{empty, entries, entries_sorted, from_entries, is_sorted}
use Rattle.cells.specs.declared.cell.Cell.{Cell}
use Rattle.hyper_matrix.specs.Cells.{built_of, entry_of}
use Rattle.hyper_matrix.specs.Counts.{Counts, Place, built, ewise_add, part, parts, place_cmp}
use Rattle.hyper_matrix.specs.Matrix.{Matrix}
use Rattle.hyper_matrix.specs.Parts.{part_entries, parts_below, shard_part}
use Rattle.hyper_matrix.proofs.CountLaws.{T_second, ewise_add-empty, ewise_add_assoc, parts_whole}
use Rattle.hyper_matrix.proofs.PartLaws.{built-entries, entries-part, length-parts_below}
use Rattle.hyper_matrix.proofs.SortedListLaws.{built-in_order, entries-in_order}
use Rattle.hyper_matrix.proofs.PlaceOrderLaws.{sorted_rising}
use Rattle.layer_compaction.specs.Shared.{all_counts, content}
use Rattle.layer_compaction.proofs.LayerLemmas.{empty-ewise_add}
use Rattle.batch_store.specs.Pieces.{ArePieces, whole_of}
use Rattle.batch_store.specs.Walks.{AreParts, IsWalk, entries_each, entries_left, merged}

-- the parts of n shards from s on, added up
abbrev span : Counts → ℕ → ℕ → ℕ → Counts
span m s zero k = empty
span m s (suc n) k = ewise_add (part m s k) (span m (s + 1) n k)

span_last : (m : Counts) (s n k : ℕ) → span m s (suc n) k ≡ ewise_add (span m s n k) (part m (s + n) k)
span_last m s zero k =
    ewise_add-empty (part m s k) ∙ sym (empty-ewise_add (part m s k))
    ∙ ap (λ (x : ℕ). ewise_add empty (part m x k)) {x = s} {y = s + zero} (omega arith)
span_last m s (suc n) k =
    ap (ewise_add (part m s k)) (span_last m (s + 1) n k)
    ∙ sym (ewise_add_assoc (part m s k) (span m (s + 1) n k) (part m (s + 1 + n) k))
    ∙ ap (λ (x : ℕ). ewise_add (span m s (suc n) k) (part m x k)) {x = s + 1 + n} {y = s + suc n} (omega arith)

spans : (m : Counts) (n k : ℕ) → span m 0 n k ≡ parts m n k
spans m zero k = refl
spans m (suc n) k =
    span_last m 0 n k ∙ ap (λ (x : Counts). ewise_add x (part m (0 + n) k)) (spans m n k)
    ∙ ap (λ (x : ℕ). ewise_add (parts m n k) (part m x k)) {x = 0 + n} {y = n} (omega arith)

built_parts : (s k : ℕ) (ls : List (List (Place × ℕ))) (m : Counts) → AreParts s k ls (entries m) →
    content (map built ls) ≡ span m s (length ls) k
built_parts s k [] m h = refl
built_parts s k (l ∷ ls) m h =
    let first : built l ≡ part m s k = ap built (h.0 ∙ sym (entries-part m s k)) ∙ built-entries (part m s k) in
    let rest = built_parts (s + 1) k ls m h.1 in
    λ i. ewise_add (first i) (rest i)

-- what lists of entries come to of which each has those of its shard
pub merged_is : (k : ℕ) (ls : List (List (Place × ℕ))) (es : List (Place × ℕ)) → 0 < k → length ls ≡ k →
    T (is_sorted place_cmp es) → AreParts 0 k ls es → merged ls ≡ es
merged_is k ls es some many sorted are =
    let m : Counts = from_entries es in
    let is : entries m ≡ es = entries-in_order es sorted in
    let own : AreParts 0 k ls (entries m) = subst (AreParts 0 k ls) (sym is) are in
    ap entries (built_parts 0 k ls m own ∙ ap (λ (n : ℕ). span m 0 n k) many ∙ spans m k k ∙ parts_whole m k some)
    ∙ is

built_each : (ms : List Matrix) → map built (entries_each ms) ≡ all_counts ms
built_each [] = refl
built_each (m ∷ ms) =
    let first = built-entries m.counts in
    let rest = built_each ms in
    λ i. first i ∷ rest i

pub merged_each : (ms : List Matrix) → merged (entries_each ms) ≡ entries (content (all_counts ms))
merged_each ms = ap (λ (ns : List Counts). entries (content ns)) (built_each ms)

one_more : (s k : ℕ) (ls : List (List (Place × ℕ))) (l es : List (Place × ℕ)) → AreParts s k ls es →
    l ≡ part_entries (s + length ls) k es → AreParts s k (ls ++ l ∷ []) es
one_more s k [] l es h is = (is ∙ ap (λ (n : ℕ). part_entries n k es) {x = s + 0} {y = s} (omega arith), tt)
one_more s k (x ∷ ls) l es h is = (
  h.0,
  one_more (s + 1) k ls l es h.1
      (is ∙ ap (λ (n : ℕ). part_entries n k es) {x = s + suc (length ls)} {y = s + 1 + length ls} (omega arith)),
)

part_lists : (n k : ℕ) (m : Matrix) → AreParts 0 k (entries_each (parts_below n k m)) (entries m.counts)
part_lists zero k m = tt
part_lists (suc n) k m =
    let f : Matrix → List (Place × ℕ) = λ x. entries x.counts in
    let below = parts_below n k m in
    let many : length (entries_each below) ≡ n = length-map below f ∙ length-parts_below n k m in
    subst (λ (ls : List (List (Place × ℕ))). AreParts 0 k ls (entries m.counts))
    (sym (map-append f below (shard_part n k m ∷ [])))
    (one_more 0 k (entries_each below) (entries (part m.counts n k)) (entries m.counts) (part_lists n k m)
    (entries-part m.counts n k
    ∙ ap (λ (x : ℕ). part_entries x k (entries m.counts)) {x = n} {y = 0 + length (entries_each below)}
    (omega (arith, many))))

-- a walk begins with all entries
pub walk_begins : (r c : ℕ) (ms : List Matrix) → 0 < length ms → length ms ≤ 64 → ArePieces r c ms →
    IsWalk (length ms) (entries_each ms)
walk_begins r c ms some few pieces =
    let f : Matrix → List (Place × ℕ) = λ x. entries x.counts in
    let m = whole_of r c ms in
    let are = subst (λ (xs : List Matrix). AreParts 0 (length ms) (entries_each xs) (entries m.counts)) (sym pieces)
    (part_lists (length ms) (length ms) m) in
    (some, few, length-map ms f, (entries m.counts, entries_sorted m.counts, are))

-- the step that `next` makes
module _ (k : ℕ) (old new : List (List (Place × ℕ))) (r : Option Cell) (walk : IsWalk k old) (many : length new ≡ k)
    (none : AreParts 0 k old [] → (r ≡ None) × (new ≡ old))
    (some : (e : Place × ℕ) (es : List (Place × ℕ)) → T (is_sorted place_cmp (e ∷ es)) → AreParts 0 k old (e ∷ es) →
    (option_map entry_of r ≡ Some e) × AreParts 0 k new es) where
  abbrev pub Steps : Option Cell → Type 0
  Steps o = MatchOption o ((merged old ≡ []) × (merged new ≡ [])) (λ x. merged old ≡ entry_of x ∷ merged new)

  with_first : (e : Place × ℕ) → (o : Option Cell) → option_map entry_of o ≡ Some e → merged old ≡ e ∷ merged new → Steps o
  with_first e None is first = absurd cc
  with_first e (Some x) is first =
      let same : entry_of x ≡ e = cc in
      first ∙ ap (λ (y : Place × ℕ). y ∷ merged new) (sym same)

  step : (es : List (Place × ℕ)) → T (is_sorted place_cmp es) → AreParts 0 k old es → IsWalk k new × Steps r
  step [] sorted are =
      let n = none are in
      let nothing = merged_is k old [] walk.0 walk.2 tt are in
      (subst (IsWalk k) (sym n.1) walk, subst Steps (sym n.0) (nothing, ap merged n.1 ∙ nothing))
  step (e ∷ es) sorted are =
      let s = some e es sorted are in
      let rest : T (is_sorted place_cmp es) = T_second _ _ sorted in (
        (walk.0, walk.1, many, (es, rest, s.1)),
        with_first e r s.0 (merged_is k old (e ∷ es) walk.0 walk.2 sorted are
            ∙ ap (λ (xs : List (Place × ℕ)). e ∷ xs) (sym (merged_is k new es walk.0 many rest s.1))),
      )

  pub walk_step : IsWalk k new × Steps r
  walk_step = step walk.3.0 walk.3.1 walk.3.2

-- the same in the memory of a walk, of which the first so many places are used
module _ (left new rest : List (Bor (List Cell))) (count : ℕ) (r : Option Cell) (view : List (Place × ℕ))
    (is : merged (entries_left (take count left)) ≡ view) (walk : IsWalk count (entries_left (take count left)))
    (many : length new ≡ length (take count left))
    (none : AreParts 0 (length (take count left)) (entries_left (take count left)) [] →
    (r ≡ None) × (new ≡ take count left))
    (some : (e : Place × ℕ) (es : List (Place × ℕ)) → T (is_sorted place_cmp (e ∷ es)) →
    AreParts 0 (length (take count left)) (entries_left (take count left)) (e ∷ es) →
    (option_map entry_of r ≡ Some e) × AreParts 0 (length (take count left)) (entries_left new) es) where
  used : length (take count left) ≡ count
  used = sym (length-map (take count left) (λ (x : Bor (List Cell)). map entry_of x.now)) ∙ walk.2

  front : take count (new ++ rest) ≡ new
  front = take-append-le count new rest (omega (arith, many, used)) ∙ take_all count new (omega (arith, many, used))

  abbrev pub Left : List (Place × ℕ) → Type 0
  Left xs = MatchOption r ((view ≡ []) × (xs ≡ [])) (λ x. view ≡ entry_of x ∷ xs)

  pub memory_step : IsWalk count (entries_left (take count (new ++ rest)))
      × Left (merged (entries_left (take count (new ++ rest))))
  memory_step =
      let both = walk_step count (entries_left (take count left)) (entries_left new) r walk
      (length-map new (λ (x : Bor (List Cell)). map entry_of x.now) ∙ many ∙ used)
      (λ are. let n = none (subst (λ (k : ℕ). AreParts 0 k (entries_left (take count left)) []) (sym used) are) in
      (n.0, ap entries_left n.1))
      (λ e es sorted are.
      let s = some e es sorted (subst (λ (k : ℕ). AreParts 0 k (entries_left (take count left)) (e ∷ es)) (sym used) are) in
      (s.0, subst (λ (k : ℕ). AreParts 0 k (entries_left new) es) used s.1)) in
      let steps : Left (merged (entries_left new)) = subst (λ (v : List (Place × ℕ)). MatchOption r
      ((v ≡ []) × (merged (entries_left new) ≡ [])) (λ x. v ≡ entry_of x ∷ merged (entries_left new))) is both.1 in (
        subst (λ (xs : List (Bor (List Cell))). IsWalk count (entries_left xs)) (sym front) both.0,
        subst (λ (xs : List (Bor (List Cell))). Left (merged (entries_left xs))) (sym front) steps,
      )

-- it ends
pub goes_on : (can : List (Place × ℕ) → Type 0) → ((l : List (Place × ℕ)) → can l) → (s t : List (Place × ℕ))
    (r : Option Cell) → MatchOption r ((s ≡ []) × (t ≡ [])) (λ x. s ≡ entry_of x ∷ t) →
    MakesProgress can (item_count (λ rest. rest)) s r t
goes_on can always s t None h = record { on = λ _. tt; keeps = tt; rests = λ _. tt }
goes_on can always s t (Some x) h = record {
  on = λ _. (always t, tt, subst (λ (l : List (Place × ℕ)). length t < length l) (sym h) (omega arith));
  keeps = always t;
  rests = λ _. tt;
}

-- the entries of what one matrix more is begun with
pub began_next : (list : List Matrix) (left : List (Bor (List Cell))) (i : ℕ) (cells : Bor (List Cell)) (m : Matrix) →
    i < length list → i < length left → m ≡ get_or list i m → Rise cells.now → built_of cells.now ≡ m.counts →
    entries_left (take i left) ≡ entries_each (take i list) →
    entries_left (take (i + 1) (set left i cells)) ≡ entries_each (take (i + 1) list)
began_next list left i cells m here room is rises builds before =
    let f : Bor (List Cell) → List (Place × ℕ) = λ x. map entry_of x.now in
    let g : Matrix → List (Place × ℕ) = λ x. entries x.counts in
    let own : f cells ≡ g m = sym (entries-in_order (map entry_of cells.now) (sorted_rising cells.now rises))
    ∙ ap entries (sym (built-in_order (map entry_of cells.now) (sorted_rising cells.now rises)) ∙ builds) in
    ap entries_left (take_more_set left i cells room) ∙ map-append f (take i left) (cells ∷ [])
    ∙ (λ j. before j ++ own j ∷ []) ∙ sym (map-append g (take i list) (m ∷ []))
    ∙ ap (λ (x : Matrix). entries_each (take i list ++ x ∷ [])) is
    ∙ ap entries_each (sym (take_more list i m here))

-- a walk in memory begins
module _ (new rest : List (Bor (List Cell))) (ms : List Matrix) (r c : ℕ)
    (some : 0 < length ms) (few : length ms ≤ 64) (pieces : ArePieces r c ms) (is : entries_left new ≡ entries_each ms)
    (count : ℕ) (counted : count ≡ length ms) where
  many : length new ≡ length ms
  many = sym (length-map new (λ (x : Bor (List Cell)). map entry_of x.now)) ∙ ap length is
      ∙ length-map ms (λ (x : Matrix). entries x.counts)

  begun : entries_left (take count (new ++ rest)) ≡ entries_each ms
  begun = ap entries_left (take-append-le count new rest (omega (arith, many, counted))
      ∙ take_all count new (omega (arith, many, counted))) ∙ is

  pub memory_begins : IsWalk count (entries_left (take count (new ++ rest)))
  memory_begins = subst (λ (ls : List (List (Place × ℕ))). IsWalk count ls) (sym begun)
      (subst (λ (k : ℕ). IsWalk k (entries_each ms)) (sym counted) (walk_begins r c ms some few pieces))

  pub memory_has : merged (entries_left (take count (new ++ rest))) ≡ entries (content (all_counts ms))
  memory_has = ap merged begun ∙ merged_each ms
