use Rattle.std.proofs.Common.{◌≡◌, T, length, map, take, sym, ap, subst, ◌∙◌, arith}
use Rattle.std.proofs.lemmas.Grind.{common_steps}
use Rattle.std.proofs.lemmas.List.{length-map, take_all}
use Rattle.std.specs.FinMap.{is_sorted}
use Rattle.hyper_matrix.specs.Cells.{entry_of}
use Rattle.hyper_matrix.specs.Counts.{place_cmp}
use Rattle.layer_compaction.specs.Shared.{content, values, all_counts}
use Rattle.layer_compaction.specs.Runs.{without}
use Rattle.layer_compaction.proofs.LayerLemmas.{sum_more, length-counts}
use Rattle.layer_compaction.proofs.WithoutLemmas.{length-without, without-empty, without-sum, rises-without}
use Rattle.layer_compaction.proofs.runs.new_in_list.Goals as goal

pub runs-init : goal.runs-init
runs-init c = sym (without-empty (map entry_of c.args.cells.items))

pub keep_new-kept-requires : goal.keep_new-kept-requires
keep_new-kept-requires c =
    let done = content (take c.runs.run-index (all_counts (values c.args.before.now))) in
    let all = map entry_of c.args.cells.items in
    record {
      order = subst (λ l. T (is_sorted place_cmp l)) (sym (ap (map entry_of) c.deref_mut.ensures.value
          ∙ c.runs.invariant)) (rises-without done all c.requires.order);
    }

pub runs-preserved : goal.runs-preserved
runs-preserved c =
    let runs = c.args.before.now in
    let done = content (take c.runs.run-index (all_counts (values runs))) in
    let all = map entry_of c.args.cells.items in
    let here = c.matrix.result.now in
    let kept : c.truncate.new.self.items ≡ take c.keep_new-kept.result c.keep_new-kept.new.cells =
    grind (arith, common_steps) in
    ap (map entry_of) kept ∙ c.keep_new-kept.ensures.kept
    ∙ ap (λ l. without here.counts (map entry_of l)) c.deref_mut.ensures.value
    ∙ ap (without here.counts) c.runs.invariant
    ∙ sym (without-sum done here.counts all)
    ∙ ap (λ m. without m all) (sym (sum_more runs c.runs.run-index c.run-item.result here (omega arith) c.run-item.is
    (c.matrix.ensures ∙ c.deref.ensures)))

pub returns : goal.returns
returns c =
    let runs = c.args.before.now in
    let all = map entry_of c.args.cells.items in
    let every : take c.runs.run-index (all_counts (values runs)) ≡ all_counts (values runs) =
    take_all c.runs.run-index (all_counts (values runs)) (omega (arith, c.runs-test.false, length-counts runs)) in
    omega (
      arith,
      c.len.ensures,
      c.runs.cells.ok,
      length-map c.runs.cells.items entry_of,
      ap length c.runs.invariant,
      length-without (content (all_counts (values runs))) all,
      ap (λ l. length (without (content l) all)) every,
    )
