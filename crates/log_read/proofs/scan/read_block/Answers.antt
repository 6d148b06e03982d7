use Rattle.std.proofs.Common.{inl, refl}
use Rattle.std.proofs.lemmas.Result.{err_from_is_err_and}
use Rattle.log_read.proofs.scan.read_block.Goals as goal

pub returns-in_err-push_block-clause-err : goal.returns-in_err-push_block-clause-err
returns-in_err-push_block-clause-err c =
    let p = err_from_is_err_and c.from_residual-in_err-push_block.result c.from_residual-in_err-push_block.ensures.1 in
    rw (p.1, p.2) (inl c.in_err-push_block.ensures.err)

pub returns-clause-ok : goal.returns-clause-ok
returns-clause-ok c = λ block fills is. record {
  block = record { page = c.args.at; batches = c.in_ok-batches.batches };
  is = c.in_ok-push_block.ensures.ok;
  page_is = refl;
  holds = c.in_ok-batches.ensures.ok block fills is;
}
