-- Two runs of a layer that are added up while the others stay.
use Rattle.std.proofs.Common.{◌≡◌, ℕ, zero, suc, ◌<◌, List, [], ◌∷◌, ◌++◌, length, take, get_or, sym, ◌∙◌}
use Rattle.std.proofs.Common.{ap, subst, arith}
use Rattle.std.proofs.Math.ListN.{set}
use Rattle.std.specs.declared.sync.Arc.{Arc}
use Rattle.std.specs.Arc.{arc_value}
use Rattle.std.proofs.lemmas.List.{map-append, length-map}
use Rattle.hyper_matrix.specs.Counts.{ewise_add}
use Rattle.hyper_matrix.specs.Matrix.{Matrix, matrix}
use Rattle.hyper_matrix.proofs.CountLaws.{ewise_add-empty}
use Rattle.layer_compaction.specs.Shared.{content, values, all_counts, HaveDims}
use Rattle.layer_compaction.proofs.LayerLemmas.{content-append, dims-append, pushed, take-front, value_at}
use Rattle.layer_compaction.proofs.RunLemmas.{content-parts, have_parts}

pub content-both : (a b : List Matrix) →
    content (all_counts (a ++ b)) ≡ ewise_add (content (all_counts a)) (content (all_counts b))
content-both a b = ap content (map-append (λ (m : Matrix). m.counts) a b)
    ∙ content-append (all_counts a) (all_counts b)

-- the runs before a pair, the pair, and those behind it; the pair's sum stands in a run of its own
module _ {Z : Type 0} (runs before from pair behind : List (Arc Matrix Z)) (cut : runs ≡ before ++ from)
    (cut_again : from ≡ pair ++ behind) (all : List (Arc Matrix Z)) (run : Arc Matrix Z) (r c : ℕ)
    (made : values all ≡ values before ++ arc_value run ∷ values behind)
    (sum : arc_value run ≡ matrix r c (content (all_counts (values pair)))) where
  pub content-paired : content (all_counts (values all)) ≡ content (all_counts (values runs))
  content-paired =
      let left = content (all_counts (values before)) in
      let right = content (all_counts (values behind)) in
      ap (λ l. content (all_counts l)) made
      ∙ content-both (values before) (arc_value run ∷ values behind)
      ∙ ap (λ (x : Matrix). ewise_add left (ewise_add x.counts right)) sum
      ∙ ap (ewise_add left) (sym (content-parts from pair behind cut_again))
      ∙ sym (content-parts runs before from cut)

  pub dims-paired : HaveDims r c (values runs) → HaveDims r c (values all)
  dims-paired dims =
      let here = have_parts runs before from cut r c dims in
      let there = have_parts from pair behind cut_again r c here.1 in
      subst (HaveDims r c) (sym made) (dims-append r c (values before) (arc_value run ∷ values behind) here.0
      (ap (λ (x : Matrix). x.rows) sum, ap (λ (x : Matrix). x.cols) sum, there.1))

-- the runs in front, and the sum of those behind them in a run of its own
module _ {Z : Type 0} (runs front rest : List (Arc Matrix Z)) (cut : runs ≡ front ++ rest)
    (first all : List (Arc Matrix Z)) (run : Arc Matrix Z) (m : Matrix) (r c : ℕ)
    (shared : values first ≡ values front) (push : all ≡ first ++ run ∷ []) (run_is : arc_value run ≡ m)
    (sum : m ≡ matrix r c (content (all_counts (values rest)))) where
  values-settled : values all ≡ values front ++ m ∷ []
  values-settled = pushed first all run push ∙ ap (λ (x : Matrix). values first ++ x ∷ []) run_is
      ∙ ap (λ l. l ++ m ∷ []) shared

  pub before-settled : (n : ℕ) → n ≡ length front → take n (values all) ≡ take n (values runs)
  before-settled n size =
      let fits : n ≡ length (values front) = omega (arith, size, length-map front arc_value) in
      take-front n (values all) (values front) (m ∷ []) values-settled fits
      ∙ sym (take-front n (values runs) (values front) (values rest) (ap values cut ∙ map-append arc_value front rest) fits)

  pub content-settled : content (all_counts (values all)) ≡ content (all_counts (values runs))
  content-settled =
      ap (λ l. content (all_counts l)) values-settled
      ∙ content-both (values front) (m ∷ [])
      ∙ ap (ewise_add (content (all_counts (values front)))) (ewise_add-empty m.counts
      ∙ ap (λ (x : Matrix). x.counts) sum)
      ∙ sym (content-parts runs front rest cut)

  pub dims-settled : HaveDims r c (values runs) → HaveDims r c (values all)
  dims-settled dims = subst (HaveDims r c) (sym values-settled)
      (dims-append r c (values front) (m ∷ []) (have_parts runs front rest cut r c dims).0
      (ap (λ (x : Matrix). x.rows) sum, ap (λ (x : Matrix). x.cols) sum, tt))

-- a run exchanged for one that holds what the list has there
set_same : {Z : Type 0} (runs : List (Arc Matrix Z)) (i : ℕ) (new : Arc Matrix Z) → i < length runs →
    arc_value new ≡ get_or (values runs) i (arc_value new) → values (set runs i new) ≡ values runs
set_same [] i new h same = absurd (omega arith)
set_same (x ∷ runs) zero new h same = ap (λ (m : Matrix). m ∷ values runs) same
set_same (x ∷ runs) (suc i) new h same =
    ap (λ (l : List Matrix). arc_value x ∷ l) (set_same runs i new (omega arith) same)

-- a run that holds what the one in its place holds, among runs that are shared
pub values-set : {Z : Type 0} (runs shared : List (Arc Matrix Z)) (i : ℕ) (old new : Arc Matrix Z) → i < length runs →
    values shared ≡ values runs → old ≡ get_or runs i old → arc_value new ≡ arc_value old →
    values (set shared i new) ≡ values runs
values-set runs shared i old new h are at same =
    set_same shared i new
    (omega (arith, h, ap length are, length-map shared arc_value, length-map runs arc_value))
    (same ∙ ap arc_value at ∙ sym (value_at runs i old h) ∙ ap (get_or (values runs) i) (sym same)
    ∙ ap (λ l. get_or l i (arc_value new)) (sym are))
    ∙ are
