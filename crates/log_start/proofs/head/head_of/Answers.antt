use Rattle.std.proofs.Common.{◌≡◌, ◌∙◌, ◌^◌, ◌<◌, List, [], ◌++◌, ap, refl, rules, arith}
use Rattle.batch_store.specs.Batches.{Submission, entries_of, values}
use Rattle.batch_store.specs.Books.{Listing}
use Rattle.batch_store.specs.Verdicts.{total_of_entries}
use Rattle.log_join.specs.Joins.{known_entries}
use Rattle.log_start.proofs.Summed.{is_head, is_log, parts_fit, whole_summed}
use Rattle.log_start.proofs.head.head_of.Goals as goal

pub add_folded-requires : goal.add_folded-requires
add_folded-requires c =
    let folded : c.deref.result.now ≡ c.args.list.now.folded =
    c.deref.ensures.value ∙ ap (λ (v : Listing). v.folded) c.list.view_is in
    record {
      fits = omega (
        arith,
        c.new-front.ensures.total,
        ap total_of_entries folded,
        parts_fit c.args.setup.now c.args.list.now c.requires.accepted,
      );
    }

pub add_batches-requires : goal.add_batches-requires
add_batches-requires c =
    let folded : c.deref.result.now ≡ c.args.list.now.folded =
    c.deref.ensures.value ∙ ap (λ (v : Listing). v.folded) c.list.view_is in
    let list : values c.deref-2.result.now ≡ c.args.list.now.list =
    ap values c.deref-2.ensures.value ∙ ap (λ (v : Listing). v.list) c.list.view_is in
    record {
      fits = omega (
        arith,
        c.new-front.ensures.total,
        c.add_folded.ensures.total,
        ap total_of_entries folded,
        ap (λ (l : List Submission). total_of_entries (entries_of l)) list,
        parts_fit c.args.setup.now c.args.list.now c.requires.accepted,
      );
    }

pub returns-clause-total : goal.returns-clause-total
returns-clause-total c =
    let folded : c.deref.result.now ≡ c.args.list.now.folded =
    c.deref.ensures.value ∙ ap (λ (v : Listing). v.folded) c.list.view_is in
    let list : values c.deref-2.result.now ≡ c.args.list.now.list =
    ap values c.deref-2.ensures.value ∙ ap (λ (v : Listing). v.list) c.list.view_is in
    let whole = whole_summed c.args.list.now c.add_batches.new.front c.deref.result.now (values c.deref-2.result.now)
    folded list (c.add_batches.ensures.summed ([] ++ c.deref.result.now)
    (c.add_folded.ensures.summed [] c.new-front.ensures.summed)) in
    whole.total

pub returns-clause-link : goal.returns-clause-link
returns-clause-link c =
    let folded : c.deref.result.now ≡ c.args.list.now.folded =
    c.deref.ensures.value ∙ ap (λ (v : Listing). v.folded) c.list.view_is in
    let list : values c.deref-2.result.now ≡ c.args.list.now.list =
    ap values c.deref-2.ensures.value ∙ ap (λ (v : Listing). v.list) c.list.view_is in
    let whole = whole_summed c.args.list.now c.add_batches.new.front c.deref.result.now (values c.deref-2.result.now)
    folded list (c.add_batches.ensures.summed ([] ++ c.deref.result.now)
    (c.add_folded.ensures.summed [] c.new-front.ensures.summed)) in
    c.value.ensures (known_entries c.args.list.now) whole.link

pub returns-clause-head : goal.returns-clause-head
returns-clause-head c =
    let folded : c.deref.result.now ≡ c.args.list.now.folded =
    c.deref.ensures.value ∙ ap (λ (v : Listing). v.folded) c.list.view_is in
    let list : values c.deref-2.result.now ≡ c.args.list.now.list =
    ap values c.deref-2.ensures.value ∙ ap (λ (v : Listing). v.list) c.list.view_is in
    let whole = whole_summed c.args.list.now c.add_batches.new.front c.deref.result.now (values c.deref-2.result.now)
    folded list (c.add_batches.ensures.summed ([] ++ c.deref.result.now)
    (c.add_folded.ensures.summed [] c.new-front.ensures.summed)) in
    let fits : c.value.result < 2 ^ 32 = search rules in
    is_head c.args.setup.now c.args.list.now c.add_batches.new.front _ c.requires.accepted whole refl
    c.count_of.ensures refl (c.value.ensures (known_entries c.args.list.now) whole.link) fits
    (search rules)

pub returns-clause-log : goal.returns-clause-log
returns-clause-log c =
    let folded : c.deref.result.now ≡ c.args.list.now.folded =
    c.deref.ensures.value ∙ ap (λ (v : Listing). v.folded) c.list.view_is in
    let list : values c.deref-2.result.now ≡ c.args.list.now.list =
    ap values c.deref-2.ensures.value ∙ ap (λ (v : Listing). v.list) c.list.view_is in
    let whole = whole_summed c.args.list.now c.add_batches.new.front c.deref.result.now (values c.deref-2.result.now)
    folded list (c.add_batches.ensures.summed ([] ++ c.deref.result.now)
    (c.add_folded.ensures.summed [] c.new-front.ensures.summed)) in
    let fits : c.value.result < 2 ^ 32 = search rules in
    is_log c.args.setup.now c.args.list.now c.add_batches.new.front (record {
      setup = c.args.setup.now;
      first = c.count_of.result;
      total = c.add_batches.new.front.total;
      link = c.value.result;
      identity = c.args.identity;
    }) c.requires.accepted whole refl c.count_of.ensures refl
    (c.value.ensures (known_entries c.args.list.now) whole.link) fits
    (search rules)
