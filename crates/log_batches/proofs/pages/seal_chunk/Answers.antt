use Rattle.std.proofs.Common.{◌≡◌, ◌+◌, ◌*◌, ◌++◌, ◌∙◌, List, ℕ, ap, sym, take, drop, length, arith}
use Rattle.log_page.specs.Pages.{page_of, chunk_field}
use Rattle.log_batches.proofs.pages.seal_chunk.Goals as goal

pub returns-clause-behind : goal.returns-clause-behind
returns-clause-behind c =
    let chunk = take 4072 (drop (4072 * c.args.number) c.args.out.now) in
    let chunk_is : c.split_at-2.result.0.now ≡ chunk =
    c.split_at-2.ensures.front ∙ ap (λ (l : List ℕ). take 4072 l) c.split_at.ensures.back in
    let page_is = c.seal_page.ensures
    ∙ ap (page_of c.args.place c.args.number c.args.pages) (c.put_chunk.ensures ∙ chunk_is) in
    let end : 4096 * c.args.number + length c.seal_page.new.page ≡ 4096 * (c.args.number + 1) =
    omega (arith, c.seal_page.array_long) in
    c.put.ensures.behind
    ∙ ap (λ (l : List ℕ). l ++ drop (4096 * c.args.number + length c.seal_page.new.page) c.args.out.now) page_is
    ∙ ap (λ (n : ℕ). page_of c.args.place c.args.number c.args.pages chunk ++ drop n c.args.out.now) end
