use Rattle.std.proofs.Common.{◌≡◌, ◌∙◌, ◌∷◌, [], refl, sym, length-append, arith}
use Rattle.batch_store.proofs.VerdictLaws.{total_push}
use Rattle.log_join.proofs.FreshLemmas.{fresh_by, stale_pair}
use Rattle.log_join.proofs.seen.take_fresh.Goals as goal

pub returns-then-branch-clause-stale : goal.returns-then-branch-clause-stale
returns-then-branch-clause-stale c = λ same es has fresh.
    stale_pair c.args.setup.now.limit c.args.setup.now.max_batches es c.args.entry.now
    (sym (c.in_ok-note_pair.ensures.told es has.pairs) ∙ c.if-branch.true) fresh

pub returns-clause-fresh : goal.returns-clause-fresh
returns-clause-fresh c = λ same es has.
    let e = c.args.entry.now in (
      fresh_by c.args.setup.now.limit c.args.setup.now.max_batches es e
          (sym (c.in_ok-note_pair.ensures.told es has.pairs) ∙ c.if-branch.false)
          (omega (arith, c.if-entry-limit.false, c.limit.ensures.value, has.total, c.requires.total))
          (omega (arith, c.if-seen-max_batches.false, c.max_batches.ensures.value, has.count)),
      record {
        pairs = c.in_ok-note_pair.ensures.noted es e has.pairs refl refl;
        count = omega (arith, has.count, length-append es (e ∷ []));
        total = omega (arith, has.total, total_push es e);
      },
    )
