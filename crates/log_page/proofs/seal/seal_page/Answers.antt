use Rattle.std.proofs.Common.{rules}
use Rattle.log_page.specs.Pages.{chunk_field}
use Rattle.log_page.proofs.SealedLemmas.{body_by_parts, page_by_parts}
use Rattle.log_page.proofs.seal.seal_page.Goals as goal

pub returns : goal.returns
returns c =
    let chunk = chunk_field c.args.page.now in
    let body = body_by_parts c.args.place c.args.number c.args.pages chunk c.put.new.page c.put-2.new.page
    c.put-3.new.page c.put-4.new.page c.put-5.new.page c.put-6.new.page
    (search rules) (search rules) (search rules) (search rules) in
    page_by_parts c.args.place c.args.number c.args.pages chunk c.put.new.page c.put-2.new.page c.put-3.new.page
    c.put-4.new.page c.put-5.new.page c.put-6.new.page
    body (search rules) (search rules)
