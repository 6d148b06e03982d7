-- Which batch of a list, put in order, is the first that isn't fresh, read off the entries: the folded ones first. Places
-- count from 0 over all.
--     refusal_of r at rest      the fault that the verdict on the batch at this place means, and the rest if it is Fresh
--     first_refusal v done es   the fault of the first of these that isn't fresh, where those that are done were accepted
--                               before, and None where each is fresh
--     HavePairs pairs es        a set of clients and numbers has exactly those of these entries
--     stands_among es e         whether one of these entries has the client and number of e
use Rattle.std.specs.Prelude.{◌≡◌, ℕ, ◌==◌, ◌&&◌, Bool, List, [], ◌∷◌, ◌++◌, length, Option, Some, None}
use Rattle.std.specs.declared.cmp.Ordering.{Ordering}
use Rattle.std.specs.Ordering.{nat_cmp, ordering_then}
use Rattle.std.specs.BTreeSet.{BTreeSet, contains}
use Rattle.std.specs.List.{list_any}
use Rattle.batch_store.specs.declared.verdict.Entry.{Entry}
use Rattle.batch_store.specs.declared.verdict.Verdict.{Verdict}
use Rattle.batch_store.specs.declared.verdict.Verdict.TheVariants.{Fresh, Known, NumberReused, OverTotal, BookFull}
use Rattle.batch_store.specs.Setups.{Setting}
use Rattle.batch_store.specs.Verdicts.{same_pair, verdict_of}
use Rattle.plain_engine.specs.declared.fault.LoadFault.{LoadFault}
use Rattle.plain_engine.specs.declared.fault.LoadFault.TheVariants as fault

abbrev pub refusal_of : Verdict → ℕ → Option LoadFault → Option LoadFault
refusal_of Fresh at rest = rest
refusal_of (Known k) at rest = Some (fault.RepeatedNumber at)
refusal_of NumberReused at rest = Some (fault.RepeatedNumber at)
refusal_of (OverTotal accepted) at rest = Some (fault.OverTotal at)
refusal_of BookFull at rest = Some (fault.BookFull at)

abbrev pub first_refusal : Setting → List Entry → List Entry → Option LoadFault
first_refusal v done [] = None
first_refusal v done (e ∷ es) =
    refusal_of (verdict_of v.limit v.max_batches done e) (length done) (first_refusal v (done ++ e ∷ []) es)

-- by client, and then by number
abbrev pub pair_cmp : ℕ × ℕ → ℕ × ℕ → Ordering
pair_cmp p q = ordering_then (nat_cmp p.0 q.0) (nat_cmp p.1 q.1)

abbrev pub HavePairs : BTreeSet (ℕ × ℕ) → List Entry → Type 0
HavePairs pairs es = (client number : ℕ) → contains pair_cmp pairs (client, number)
    ≡ list_any (λ (e : Entry). (e.client == client) && (e.number == number)) es

abbrev pub stands_among : List Entry → Entry → Bool
stands_among es e = list_any (λ (x : Entry). same_pair x e) es
