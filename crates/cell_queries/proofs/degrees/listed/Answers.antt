use Rattle.cell_queries.proofs.DegreeLaws.{listed_all, listed_more}
use Rattle.cell_queries.proofs.degrees.listed.Goals as goal

pub degrees-preserved : goal.degrees-preserved
degrees-preserved c = λ ts h.
    listed_more _ _ ts c.degrees.k _ _ c.degrees-test.true (h c.degrees.k c.degrees-test.true)
    c.in_ok-push_degree.ensures
    (c.degrees.invariant ts h)

pub returns : goal.returns
returns c = λ ts h. listed_all _ ts c.degrees.k _ c.degrees-test.false (c.degrees.invariant ts h)
