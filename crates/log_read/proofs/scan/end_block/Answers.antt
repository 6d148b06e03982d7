use Rattle.std.proofs.Common.{inl, inr, ◌++◌, ◌∷◌, []}
use Rattle.std.proofs.lemmas.Result.{err_from_is_err_and}
use Rattle.log_page.specs.Pages.{chunk_field}
use Rattle.log_read.proofs.ComeLemmas.{kept_bytes}
use Rattle.log_read.proofs.scan.end_block.Goals as goal

pub returns-in_err-read_block-clause-err : goal.returns-in_err-read_block-clause-err
returns-in_err-read_block-clause-err c =
    let p = err_from_is_err_and c.from_residual-in_err-read_block.result c.from_residual-in_err-read_block.ensures.1 in
    let chunk = chunk_field c.args.page.now in
    rw (p.1, p.2) (elim c.in_err-read_block.ensures.err [
      | inl memory ↦ inl memory
      | inr bad ↦ inr (
        bad.0,
        λ made list is fills holds. bad.1 (made ++ chunk ∷ []) list fills
            (kept_bytes made chunk c.args.chunks.now.items c.keep_chunk.new.chunks.items c.deref.result.now is
            c.in_ok-keep_chunk.ensures.ok c.deref.ensures.value) holds,
      )
    ])

pub returns-clause-ok : goal.returns-clause-ok
returns-clause-ok c = λ made is fills.
    let chunk = chunk_field c.args.page.now in
    c.in_ok-read_block.ensures.ok (made ++ chunk ∷ []) fills
    (kept_bytes made chunk c.args.chunks.now.items c.keep_chunk.new.chunks.items c.deref.result.now is
    c.in_ok-keep_chunk.ensures.ok c.deref.ensures.value)
