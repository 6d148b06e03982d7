-- What a folded list keeps.
use Rattle.std.proofs.Common.{◌≡◌, ◌+◌, ◌<◌, ◌^◌, List, [], Result, Ok, Err, IfOk, sym, subst, arith}
use Rattle.hyper_matrix.specs.Counts.{Counts, total}
use Rattle.batch_store.specs.declared.verdict.Entry.{Entry}
use Rattle.batch_store.specs.Setups.{Setting}
use Rattle.batch_store.specs.Accepted.{Accepted, accepted, IsBase, entries_in, summed}
use Rattle.batch_store.specs.Batches.{entries_of}
use Rattle.batch_store.specs.Books.{AreAccepted, Listing, list_total}
use Rattle.batch_store.specs.Growth.{grown_to}
use Rattle.batch_store.proofs.GrowthLaws.{counts-grown, entries-grown}
use Rattle.batch_store.proofs.VerdictLaws.{total_of-append}
use Rattle.batch_store.proofs.SumLaws.{base-folded}
use Rattle.snap_report.specs.Kept.{folded_in}

-- the totals of a base and of the batches behind it fit together
pub fits_all : (v : Setting) (a : Accepted) → AreAccepted v a → total a.base + list_total a.list < 2 ^ 64
fits_all v a h =
    omega (arith, h.within, h.sound.fits, h.based.adds_up, total_of-append a.folded (entries_of a.list))

-- the sum of all is a base of all
pub base_of_all : (v : Setting) (a : Accepted) (base : Counts) (folded : List Entry) → AreAccepted v a →
    base ≡ summed a → folded ≡ entries_in a → IsBase base folded
base_of_all v a base folded h is told =
    subst (λ (m : Counts). IsBase m folded) (sym is)
    (subst (λ (es : List Entry). IsBase (summed a) es) (sym told) (base-folded a h.based))

-- a list that grows is folded into the same
pub folded-grown : (s : Setting) (v : Listing) → folded_in (grown_to s v) ≡ folded_in v
folded-grown s v = λ i. accepted (counts-grown s v i) (entries-grown s v i) []

-- what is so of an answer, in other words
pub if_ok_weaker : {T E : Type 0} {P Q : T → Type 0} (r : Result T E) → ((x : T) → P x → Q x) → IfOk r P → IfOk r Q
if_ok_weaker (Ok x) f h = f x h
if_ok_weaker (Err e) f h = tt
