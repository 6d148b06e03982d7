mod SumLemmas
mod PartLemmas
mod BlockLemmas
mod FrontLemmas
mod PageLemmas
mod SalvageLemmas
