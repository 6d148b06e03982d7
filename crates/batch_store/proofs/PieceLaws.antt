-- The pieces of a matrix make the whole.
use Rattle.std.proofs.Common.{◌≡◌, ℕ, suc, zero, ◌<◌, ◌^◌, T, List, [], ◌∷◌, length, map, refl, sym, ◌∙◌}
use Rattle.std.proofs.Common.{ap, subst, arith, get_or}
use Rattle.std.proofs.lemmas.List.{get_or-map, length-map, map-append}
use Rattle.std.specs.Arc.{arc_value}
use Rattle.std.specs.declared.sync.Arc.{Arc}
use Rattle.std.specs.FinMap.{entries, entries_sorted, is_sorted}
use Rattle.std.specs.List.{AllByRecursion}
use Rattle.cells.specs.Bounds.{AreWithin}
use Rattle.cells.specs.Order.{Rise}
use Rattle.cells.specs.declared.cell.Cell.{Cell}
use Rattle.hyper_matrix.specs.Cells.{built_of, cell_total, entry_of}
use Rattle.hyper_matrix.specs.Counts.{Counts, Place, built, count_sum, ewise_add, part, parts, place_cmp}
use Rattle.hyper_matrix.specs.Matrix.{Matrix, matrix}
use Rattle.hyper_matrix.specs.Parts.{parts_below, shard_part}
use Rattle.hyper_matrix.specs.Shared.{LiesWithin}
use Rattle.hyper_matrix.proofs.BuiltOfLaws.{entries_total}
use Rattle.hyper_matrix.proofs.CountLaws.{ewise_add-empty, parts_whole}
use Rattle.hyper_matrix.proofs.MatrixLaws.{cells_within}
use Rattle.hyper_matrix.proofs.PartLaws.{built-entries, length-parts_below, part-whole, part_read, total-entries}
use Rattle.hyper_matrix.proofs.PlaceOrderLaws.{rises}
use Rattle.layer_compaction.specs.Shared.{all_counts, content, values}
use Rattle.layer_compaction.proofs.LayerLemmas.{content-append}
use Rattle.batch_store.specs.Pieces.{ArePieces, Cut, KeepsPieces, cut_in, whole_of}

content_parts : (n k : ℕ) (m : Matrix) → content (all_counts (parts_below n k m)) ≡ parts m.counts n k
content_parts zero k m = refl
content_parts (suc n) k m =
    ap content (map-append (λ (x : Matrix). x.counts) (parts_below n k m) (shard_part n k m ∷ []))
    ∙ content-append (all_counts (parts_below n k m)) (part m.counts n k ∷ [])
    ∙ ap (ewise_add (content (all_counts (parts_below n k m)))) (ewise_add-empty (part m.counts n k))
    ∙ ap (λ (x : Counts). ewise_add x (part m.counts n k)) (content_parts n k m)

-- the parts of a matrix are its pieces
pub parts_are_whole : (k : ℕ) (m : Matrix) → 0 < k → whole_of m.rows m.cols (parts_below k k m) ≡ m
parts_are_whole k m some = ap (matrix m.rows m.cols) (content_parts k k m ∙ parts_whole m.counts k some)

module _ (r c k : ℕ) (m : Matrix) (list : List Matrix) (rows : r ≡ m.rows) (cols : c ≡ m.cols) (some : 0 < k)
    (is : list ≡ parts_below k k m) where
  pub cut_whole : whole_of r c list ≡ m
  cut_whole = (λ i. matrix (rows i) (cols i) (content (all_counts (is i)))) ∙ parts_are_whole k m some

  many : length list ≡ k
  many = ap length is ∙ length-parts_below k k m

  pub cut_is : cut_in (length list) (whole_of r c list) ≡ cut_in k m
  cut_is = λ i. cut_in (many i) (cut_whole i)

  pub cut_pieces : ArePieces r c list
  cut_pieces = is ∙ ap (λ (n : ℕ). parts_below n n m) (sym many)
      ∙ ap (parts_below (length list) (length list)) (sym cut_whole)

-- one piece
pub piece_is : (s k : ℕ) (m p : Matrix) (list : List Matrix) → length list ≡ k → s < k →
    list ≡ parts_below (length list) (length list) m → p ≡ get_or list s p → p ≡ shard_part s k m
piece_is s k m p list many here are is =
    part_read k s m p list (are ∙ ap (λ (n : ℕ). parts_below n n m) many) here is

pub piece_read : {Z : Type 0} (s r c : ℕ) (cut : Cut) (items : List (Arc Matrix Z)) (x : Arc Matrix Z) →
    cut_in (length (values items)) (whole_of r c (values items)) ≡ cut → s < cut.count → ArePieces r c (values items) →
    x ≡ get_or items s x → arc_value x ≡ shard_part s cut.count cut.whole
piece_read s r c cut items x is here pieces read =
    let many : cut.count ≡ length (values items) = ap (λ (y : Cut). y.count) (sym is) in
    let at : arc_value x ≡ get_or (values items) s (arc_value x) =
    ap arc_value read ∙ sym (get_or-map arc_value items s x (arc_value x) (omega (arith, many, here, length-map items arc_value))) in
    piece_is s (length (values items)) (whole_of r c (values items)) (arc_value x) (values items) refl
    (omega (arith, many, here)) pieces at ∙ ap (λ (y : Cut). shard_part s y.count y.whole) is

-- the only piece is the whole
pub only_piece : (k : ℕ) (m : Matrix) → k ≡ 1 → shard_part 0 k m ≡ m
only_piece k m one = ap (matrix m.rows m.cols) (part-whole m.counts 0 k (omega (arith, one)) one)

-- a list of the entries of pieces
module _ (r c : ℕ) (cut : Cut) (ms : List Matrix) (cells : List Cell) (n t : ℕ)
    (view : cut_in (length ms) (whole_of r c ms) ≡ cut) (keeps : KeepsPieces r c n t ms)
    (told : map entry_of cells ≡ entries cut.whole.counts) where
  own : map entry_of cells ≡ entries (whole_of r c ms).counts
  own = told ∙ ap (λ (x : Cut). entries x.whole.counts) (sym view)

  pub cells_rise : Rise cells
  cells_rise = rises cells (subst (λ (es : List (Place × ℕ)). T (is_sorted place_cmp es)) (sym own)
      (entries_sorted (whole_of r c ms).counts))

  pub cells_lie : AreWithin r c cells
  cells_lie = cells_within r c cells (subst (AllByRecursion (LiesWithin r c)) (sym own) keeps.within)

  pub cells_fit : cell_total cells < 2 ^ 64
  cells_fit = omega (
    arith,
    sym (entries_total cells) ∙ ap count_sum own ∙ sym (total-entries (whole_of r c ms).counts) ∙ sym keeps.total,
    keeps.fits,
  )

  pub cells_build : matrix r c (built_of cells) ≡ cut.whole
  cells_build = ap (matrix r c) (ap built own ∙ built-entries (whole_of r c ms).counts) ∙ ap (λ (x : Cut). x.whole) view
