use Rattle.log_head.proofs.TellLemmas.{head_same}
use Rattle.log_head.proofs.decode.head_of.Goals as goal

pub returns-clause-value : goal.returns-clause-value
returns-clause-value c =
    head_same c.args.page.now c.args.count c.behind-rest.result.now c.requires.count c.behind-rest.ensures c.args.setup
    c.u64_at-first.result c.u64_at-total.result c.u32_at-link.result c.identity_of-identity.result c.requires.setup
    c.u64_at-first.ensures c.u64_at-total.ensures c.u32_at-link.ensures.value c.identity_of-identity.ensures.value
