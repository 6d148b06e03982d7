use Rattle.std.proofs.Common.{◌≡◌, rules, inl, inr, refl, sym, ap, ◌∙◌}
use Rattle.std.proofs.lemmas.Result.{err_from_is_err_and}
use Rattle.batch_store.specs.Batches.{values}
use Rattle.log_batches.proofs.BlockLemmas.{holds, none_held, not_filled}
use Rattle.log_batches.proofs.block.BlockReader.read.Goals as goal

pub returns-in_err-list-clause-err : goal.returns-in_err-list-clause-err
returns-in_err-list-clause-err c =
    let p = err_from_is_err_and c.from_residual.result c.from_residual.ensures.1 in
    rw (p.1, p.2, ← c.self.view_is) (elim c.in_err-list.ensures.err [
      | inl memory ↦ inl memory
      | inr bad ↦ inr (
        bad.0,
        λ block list fills is holds. none_held c.self.inside.head.setup c.args.bytes.now bad.1 block list fills is
            holds,
      )
    ])

pub returns-then-not-is_filled-clause-err : goal.returns-then-not-is_filled-clause-err
returns-then-not-is_filled-clause-err c = rw (← c.self.view_is) (inr (
  refl,
  λ block other fills is holds. not_filled c.self.inside.head c.self.invariant c.args.bytes.now
      (values c.in_ok-list.list.items) c.in_ok-list.taken c.in_ok-list.ensures.ok (first_of (cc, search rules)) block
      other
      fills is holds,
))

pub returns-clause-ok : goal.returns-clause-ok
returns-clause-ok c = rw (← c.self.view_is) (λ block fills is.
    holds c.self.inside.head.setup c.args.bytes.now (values c.in_ok-list.list.items) c.in_ok-list.taken
    c.in_ok-list.ensures.ok (first_of (cc, search rules)) block fills is)
