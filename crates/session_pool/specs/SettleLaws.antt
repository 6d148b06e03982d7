-- That a put over a seat is begun and settled as the laws of a keeper say.
use Rattle.std.specs.Prelude.{◌≡◌, ℕ, zero, suc, List, [], ◌∷◌, ◌++◌, slice_get, Option, Some, None, Result, Ok, Err}
use Rattle.std.specs.Prelude.{refl}
use Rattle.std.proofs.Common.{inl, inr}
use Rattle.std.proofs.Common.{sym, subst, ◌∙◌}
use Rattle.std.proofs.lemmas.Option.{none-some}
use Rattle.std.proofs.lemmas.List.{append-nil}
use mathlib.Core.List.{IsPrefix}
use Rattle.batch_store.specs.Setups.{Setting}
use Rattle.batch_store.specs.declared.verdict.Entry.{Entry}
use Rattle.batch_store.specs.declared.verdict.Kept.{Kept}
use Rattle.batch_store.specs.Accepted.{Accepted}
use Rattle.batch_store.specs.Batches.{Submission, entry_of}
use Rattle.plain_engine.specs.declared.fault.PutFault.{PutFault}
use Rattle.plain_engine.specs.declared.fault.PutFault.TheVariants as fault
use Rattle.locked_engine.specs.Told.{IsTold}
use Rattle.locked_engine.specs.Views.{SeatView}
use Rattle.wire_proto.specs.Keeping.{put, settled}
use Rattle.wire_proto.specs.declared.keeper.PutRefusal.{PutRefusal}
use Rattle.wire_proto.specs.declared.keeper.PutRefusal.TheVariants.{Put as Refuses, LogFull, LogFailed}
use Rattle.wire_proto.specs.declared.keeper.Settled.{Settled}
use Rattle.wire_proto.specs.declared.keeper.Settled.TheVariants as place_is
use Rattle.session_pool.specs.Seats.{Sight, sight, LooksOn, MayRise, Grows, IsLogged, IsDurable, StaysRefused, HasPlace}
use Rattle.session_pool.specs.Seats.{IsNew, IsLeftOut, SeatBegins, SeatSettles, SeatGives}

stays_there : {A : Type 0} (xs zs : List A) (k : ℕ) (x : A) → slice_get xs k ≡ Some x → slice_get (xs ++ zs) k ≡ Some x
stays_there [] zs k x h = absurd (none-some x h)
stays_there (y ∷ xs) zs zero x h = h
stays_there (y ∷ xs) zs (suc k) x h = stays_there xs zs k x h

-- what stands at a place stands there in each longer list
pub place_later : {A : Type 0} (xs ys : List A) (k : ℕ) (x : A) → IsPrefix xs ys → slice_get xs k ≡ Some x →
    slice_get ys k ≡ Some x
place_later xs ys k x p h = subst (λ l. slice_get l k ≡ Some x) p.1 (stays_there xs p.0 k x h)

grows_all : (k : Option (List Entry)) → Grows k k
grows_all None = refl
grows_all (Some es) = ([], append-nil es)

grows_same : (k l : Option (List Entry)) → l ≡ k → Grows k l
grows_same k l h = subst (Grows k) (sym h) (grows_all k)

logged_later : (k l : Option (List Entry)) → Grows k l → IsLogged k → IsLogged l
logged_later None l g h = absurd h
logged_later (Some es) None g h = absurd g
logged_later (Some es) (Some fs) g h = tt

-- the share after a refusal of the engine, and of a place that couldn't be settled
no_reply : Kept
no_reply = record { index = 0; total_after = 0 }

module _ (opened : Accepted) where
  stays_refused : (k : Option (List Entry)) (f : PutFault) (batch : Submission) (s t : SeatView) →
      t.first ≡ s.first → StaysRefused opened k f batch s t
  stays_refused None f batch s t h = h
  stays_refused (Some es) fault.Memory batch s t h = h
  stays_refused (Some es) fault.NumberReused batch s t h = h
  stays_refused (Some es) (fault.OverTotal total) batch s t h = h
  stays_refused (Some es) fault.BookFull batch s t h = h
  stays_refused (Some es) fault.RecordsDiffer batch s t h = (no_reply, inr h)

  rises_unsettled : (k : Option (List Entry)) (batch : Submission) (kept : Kept) (s t : SeatView) → IsLogged k →
      MayRise opened batch kept s t → StaysRefused opened k fault.RecordsDiffer batch s t
  rises_unsettled None batch kept s t logged h = absurd logged
  rises_unsettled (Some es) batch kept s t logged h = (kept, h)

module _ (synced : List Entry → Type 0) where
  durable_there : (k : Option (List Entry)) (seen : List Entry) (place : ℕ) (e : Entry) →
      slice_get seen place ≡ Some e → HasPlace synced seen place k → IsDurable synced e place k
  durable_there None seen place e there h = tt
  durable_there (Some es) seen place e there h = (h.0 e there, h.1)

  place_before : (k : Option (List Entry)) (earlier seen : List Entry) (place : ℕ) → IsPrefix earlier seen →
      HasPlace synced seen place k → HasPlace synced earlier place k
  place_before None earlier seen place p h = tt
  place_before (Some es) earlier seen place p h = (
    λ e there. h.0 e (place_later earlier seen place e p there),
    h.1,
  )

  settles_before : (failed : Type 0) (s m t : Sight) (place : ℕ) (known : Settled) → m.known ≡ s.known →
      IsPrefix s.seat.seen m.seat.seen → SeatSettles synced failed m place known t →
      SeatSettles synced failed s place known (sight s.seat t.known)
  settles_before failed s m t place place_is.Durable same later h = (
    refl,
    subst (λ k. Grows k t.known) same h.1,
    place_before t.known s.seat.seen m.seat.seen place later h.2,
  )
  settles_before failed s m t place place_is.LogFailed same later h = (
    refl,
    subst (λ k. Grows k t.known) same h.1,
    h.2,
    h.3,
  )
  settles_before failed s m t place place_is.RecordsDiffer same later h = (
    refl,
    subst (λ k. Grows k t.known) same h.1,
    h.2,
  )

  settles_seat : (failed : Type 0) (m t : Sight) (place : ℕ) (known : Settled) →
      SeatSettles synced failed m place known t → (t.seat ≡ m.seat) × Grows m.known t.known
  settles_seat failed m t place place_is.Durable h = (h.0, h.1)
  settles_seat failed m t place place_is.LogFailed h = (h.0, h.1)
  settles_seat failed m t place place_is.RecordsDiffer h = (h.0, h.1)

module _ (v : Setting) (opened : Accepted) (failed full : Type 0) where
  -- a put that is begun leaves what is known, and shows the seat no less
  begins_seat : (s m : Sight) (batch : Submission) (answer : Result Kept PutRefusal) →
      SeatBegins v opened failed full s batch answer m → (m.known ≡ s.known) × IsPrefix s.seat.seen m.seat.seen
  begins_seat s m batch (Ok kept) b = (b.0, b.1.1)
  begins_seat s m batch (Err (Refuses f)) b = (b.0, b.1.1)
  begins_seat s m batch (Err LogFull) b = (b.0, b.1.1)
  begins_seat s m batch (Err LogFailed) b = (b.0, b.1.1)

  left_later : (s m t : Sight) (batch : Submission) (told : Type 0) → m.known ≡ s.known → LooksOn s.seat m.seat →
      IsLeftOut v batch s.seat m.seat → IsLogged s.known → told → t.seat ≡ m.seat → Grows m.known t.known →
      (t.known ≡ t.known) × LooksOn s.seat t.seat × IsLeftOut v batch s.seat t.seat × IsLogged t.known × told
  left_later s m t batch told kept looks out logged h same grows = (
    refl,
    subst (LooksOn s.seat) (sym same) looks,
    subst (IsLeftOut v batch s.seat) (sym same) out,
    logged_later m.known t.known grows (subst IsLogged (sym kept) logged),
    h,
  )

  -- what is known more by then changes nothing of it
  begins_later : (s m t : Sight) (batch : Submission) (answer : Result Kept PutRefusal) →
      SeatBegins v opened failed full s batch answer m → t.seat ≡ m.seat → Grows m.known t.known →
      SeatBegins v opened failed full (sight s.seat t.known) batch answer t
  begins_later s m t batch (Ok kept) b same grows =
      subst (λ (x : SeatView). (t.known ≡ t.known) × LooksOn s.seat x × MayRise opened batch kept s.seat x
      × IsTold v (entry_of batch) x.seen (Ok kept)) (sym same) (refl, b.1, b.2, b.3)
  begins_later s m t batch (Err (Refuses f)) b same grows =
      subst (λ (x : SeatView). (t.known ≡ t.known) × LooksOn s.seat x × (x.first ≡ s.seat.first)
      × IsTold v (entry_of batch) x.seen (Err f)) (sym same) (refl, b.1, b.2, b.3)
  begins_later s m t batch (Err LogFull) b same grows =
      left_later s m t batch full b.0 b.1 b.2 b.3 b.4 same grows
  begins_later s m t batch (Err LogFailed) b same grows =
      left_later s m t batch failed b.0 b.1 b.2 b.3 b.4 same grows

module _ (v : Setting) (opened : Accepted) (saved : Accepted → Type 0) (synced : List Entry → Type 0)
    (failed full : Type 0) where
  -- a refusal is what the put is answered
  pub refused_gives : (s t : Sight) (batch : Submission) (refusal : PutRefusal) →
      SeatBegins v opened failed full s batch (Err refusal) t →
      SeatGives v opened saved synced failed full s (put batch (Err refusal)) t
  refused_gives s t batch (Refuses f) b = (
    grows_same s.known t.known b.0,
    b.1,
    stays_refused opened t.known f batch s.seat t.seat b.2,
    b.3,
  )
  refused_gives s t batch LogFull b = (
    grows_same s.known t.known b.0,
    b.1,
    b.2,
    subst IsLogged (sym b.0) b.3,
    b.4,
  )
  refused_gives s t batch LogFailed b = (
    grows_same s.known t.known b.0,
    b.1,
    inr b.2,
    subst IsLogged (sym b.0) b.3,
    b.4,
  )

  -- what was accepted is answered once its place was settled
  pub answered_gives : (s m t : Sight) (batch : Submission) (kept : Kept) (known : Settled) →
      SeatBegins v opened failed full s batch (Ok kept) m → SeatSettles synced failed m kept.index known t →
      SeatGives v opened saved synced failed full s (put batch (settled kept known)) t
  answered_gives s m t batch kept place_is.Durable b h = (
    subst (λ k. Grows k t.known) b.0 h.1,
    subst (LooksOn s.seat) (sym h.0) b.1,
    subst (MayRise opened batch kept s.seat) (sym h.0) b.2,
    subst (λ (x : SeatView). IsTold v (entry_of batch) x.seen (Ok kept)) (sym h.0) b.3,
    durable_there synced t.known m.seat.seen kept.index (entry_of batch) b.3.0 h.2,
  )
  answered_gives s m t batch kept place_is.LogFailed b h = (
    subst (λ k. Grows k t.known) b.0 h.1,
    subst (LooksOn s.seat) (sym h.0) b.1,
    inl (
      kept,
      subst (MayRise opened batch kept s.seat) (sym h.0) b.2,
      subst (λ (x : SeatView). IsTold v (entry_of batch) x.seen (Ok kept)) (sym h.0) b.3,
    ),
    h.2,
    h.3,
  )
  answered_gives s m t batch kept place_is.RecordsDiffer b h = (
    subst (λ k. Grows k t.known) b.0 h.1,
    subst (LooksOn s.seat) (sym h.0) b.1,
    rises_unsettled opened t.known batch kept s.seat t.seat h.2 (subst (MayRise opened batch kept s.seat) (sym h.0) b.2),
    tt,
  )

  -- what is settled behind a put that was begun could have been settled before it
  pub settled_earlier : (s m t : Sight) (batch : Submission) (answer : Result Kept PutRefusal) (place : ℕ)
      (known : Settled) → SeatBegins v opened failed full s batch answer m → SeatSettles synced failed m place known t →
      SeatSettles synced failed s place known (sight s.seat t.known) ×
      SeatBegins v opened failed full (sight s.seat t.known) batch answer t
  settled_earlier s m t batch answer place known b h =
      let begun = begins_seat v opened failed full s m batch answer b in
      let seat = settles_seat synced failed m t place known h in (
        settles_before synced failed s m t place known begun.0 begun.1 h,
        begins_later v opened failed full s m t batch answer b seat.0 seat.1,
      )
