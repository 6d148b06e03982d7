-- The batches that a book hands out from a place on.
use Rattle.std.proofs.Common.{◌≡◌, ℕ, zero, suc, ◌+◌, ◌-◌, ◌≤◌, List, [], ◌∷◌, ◌++◌, length, take, drop, refl, ap, sym}
use Rattle.std.proofs.Common.{◌∙◌, subst, append_assoc, arith}
use Rattle.std.proofs.lemmas.List.{take-append-drop}
use Rattle.batch_store.specs.declared.verdict.Entry.{Entry}
use Rattle.batch_store.specs.Accepted.{Accepted, entries_in}
use Rattle.batch_store.specs.Batches.{Submission, entry_of, entries_of}
use Rattle.locked_engine.specs.Queues.{Follows}

-- a front that reaches beyond the first list
take_behind : {A : Type 0} (es fs : List A) (k from : ℕ) → from ≡ length es + k →
    take from (es ++ fs) ≡ es ++ take k fs
take_behind [] fs k from h = ap (λ n. take n fs) {x = from} {y = k} (omega (arith, h))
take_behind (e ∷ es) fs k zero h = absurd (omega (arith, h))
take_behind (e ∷ es) fs k (suc from) h = ap (λ l. e ∷ l) (take_behind es fs k from (omega (arith, h)))

entries_take : (n : ℕ) (list : List Submission) → entries_of (take n list) ≡ take n (entries_of list)
entries_take zero list = refl
entries_take (suc n) [] = refl
entries_take (suc n) (b ∷ bs) = ap (λ l. entry_of b ∷ l) (entries_take n bs)

entries_drop : (n : ℕ) (list : List Submission) → entries_of (drop n list) ≡ drop n (entries_of list)
entries_drop zero list = refl
entries_drop (suc n) [] = refl
entries_drop (suc n) (b ∷ bs) = entries_drop n bs

-- they stand in all entries from that place on
pub shared_follow : (a : Accepted) (from n : ℕ) (out : List Submission) (seen : List Entry) →
    seen ≡ entries_in a → length a.folded ≤ from → from ≤ length (entries_in a) →
    out ≡ take n (drop (from - length a.folded) a.list) → Follows from (entries_of out) seen
shared_follow a from n out seen shown unfolded within is =
    let k = from - length a.folded in
    let es = entries_of a.list in
    let those : entries_of out ≡ take n (drop k es) =
    ap entries_of is ∙ (entries_take n (drop k a.list) ∙ ap (λ l. take n l) (entries_drop k a.list)) in
    let front : take from (entries_in a) ≡ a.folded ++ take k es =
    take_behind a.folded es k from (omega (arith, unfolded)) in
    let rest = drop n (drop k es) in
    let whole : (take from (entries_in a) ++ entries_of out) ++ rest ≡ entries_in a =
    (λ i. (front i ++ those i) ++ rest)
    ∙ (append_assoc (a.folded ++ take k es) (take n (drop k es)) rest
    ∙ (append_assoc a.folded (take k es) (take n (drop k es) ++ rest)
    ∙ ap (λ l. a.folded ++ l)
    (ap (λ l. take k es ++ l) (take-append-drop n (drop k es)) ∙ take-append-drop k es))) in
    subst (λ (l : List Entry). Follows from (entries_of out) l) (sym shown)
    record { within = within; next = (rest, whole) }
