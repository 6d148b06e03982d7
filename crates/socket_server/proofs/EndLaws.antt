-- What is stored at the end of a server.
use Rattle.std.proofs.Common.{◌≡◌, ◌+◌, ◌≤◌, List, [], ◌∷◌, ◌++◌, length, length-append, refl, sym, ap, ◌∙◌, arith}
use Rattle.std.proofs.Common.{inl, inr}
use Rattle.std.proofs.lemmas.List.{append-nil}
use Rattle.std.specs.Prelude.{◌⊎◌, true, Option, Some, None, String}
use mathlib.Core.List.{IsPrefix}
use Rattle.batch_store.specs.declared.verdict.Entry.{Entry}
use Rattle.batch_store.specs.Accepted.{Accepted, entries_in, count_in}
use Rattle.plain_engine.specs.declared.status.Status.{Status}
use Rattle.plain_engine.specs.Object.{status_of}
use Rattle.locked_engine.specs.Versions.{version_status}
use Rattle.socket_server.specs.Ends.{IsSynced, IsStored, IsWhole, stopped}
use Rattle.socket_server.specs.declared.opened.LogEnd.{LogEnd}
use Rattle.socket_server.specs.declared.opened.LogEnd.TheVariants as log_end
use Rattle.socket_server.specs.declared.stopped.Stopped.{Stopped}

prefix_short : (es xs : List Entry) → IsPrefix es xs → length es ≤ length xs
prefix_short es xs p = omega (arith, length-append es p.0, ap length p.1)

no_more : (xs zs : List Entry) → length (xs ++ zs) ≤ length xs → xs ++ zs ≡ xs
no_more xs [] h = append-nil xs
no_more xs (z ∷ zs) h = absurd (omega (arith, length-append xs (z ∷ zs)))

-- a beginning that is no shorter is the whole
pub whole_by : (es : List Entry) (b : Accepted) → IsPrefix es (entries_in b) → count_in b ≤ length es →
    es ≡ entries_in b
whole_by es b p long =
    sym (no_more es p.0 (omega (arith, ap length p.1, long))) ∙ p.1

-- a log that has all entries, or has reported why not
pub whole_unless : (failed full : Type 0) (b : Accepted) (es : List Entry) (end : LogEnd)
    (accepted durable : Status) → IsPrefix es (entries_in b) → accepted ≡ status_of b → durable ≡ version_status es →
    (accepted.batches ≤ durable.batches) ⊎ ((end ≡ log_end.Failed) ⊎ (end ≡ log_end.Full)) →
    (end ≡ log_end.Failed → failed) → (end ≡ log_end.Full → full) → IsWhole failed full b es
whole_unless failed full b es end accepted durable p is was (inl more) f g =
    let count : durable.batches ≡ length es = ap (λ (n : Status). n.batches) was in
    let all : accepted.batches ≡ count_in b = ap (λ (n : Status). n.batches) is in
    inl (whole_by es b p (omega (arith, count, all, more)))
whole_unless failed full b es end accepted durable p is was (inr (inl x)) f g = inr (inl (f x))
whole_unless failed full b es end accepted durable p is was (inr (inr x)) f g = inr (inr (g x))

-- what a log has made durable is stored where nothing is saved; else what was accepted is
pub stored_by : {Z : Type 0} (synced : List Entry → Type 0) (failed full : Type 0) (path : Option (String Z))
    (a b : Accepted) (es : List Entry) (s : Stopped) (accepted durable : Status) → IsSynced synced a b es →
    IsWhole failed full b es → accepted ≡ status_of b → durable ≡ version_status es → ((path ≡ None → ⊥) → (s.status ≡ accepted) × (s.missing ≡ 0)) →
    (path ≡ None → (s.status ≡ durable)
    × (durable.batches ≤ accepted.batches → durable.batches + s.missing ≡ accepted.batches)) →
    IsStored synced failed full true path a b s
stored_by synced failed full (Some path) a b es s accepted durable h whole is was saved logged =
    let x = saved (λ e. cc e) in (λ i. stopped ((x.0 ∙ is) i) (x.1 i), es, h, whole)
stored_by synced failed full None a b es s accepted durable h whole is was saved logged =
    let x = logged refl in
    let count : durable.batches ≡ length es = ap (λ (n : Status). n.batches) was in
    let all : accepted.batches ≡ count_in b = ap (λ (n : Status). n.batches) is in
    let counted = x.1 (omega (arith, count, all, prefix_short es (entries_in b) h.2)) in (
      es,
      h,
      x.0 ∙ was,
      omega (arith, count, all, counted),
    )
