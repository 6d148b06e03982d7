-- What a keeper over a seat gives.
use Rattle.std.proofs.Common.{◌≡◌, ◌≤◌, ◌%◌, ℕ, List, [], length, Option, Some, None, refl, sym, ◌∙◌, subst}
use Rattle.std.proofs.lemmas.List.{append-nil}
use Rattle.std.specs.Prelude.{IfSome, IfOk, Result, Ok, Err, String, string_bytes}
use mathlib.Core.List.{IsPrefix}
use Rattle.std.specs.FinMap.{get}
use Rattle.layer_compaction.specs.Shared.{content}
use Rattle.batch_store.specs.Setups.{Setting}
use Rattle.batch_store.specs.declared.verdict.Entry.{Entry}
use Rattle.batch_store.specs.Accepted.{Accepted, entries_in, count_in}
use Rattle.batch_store.specs.Batches.{Submission}
use Rattle.batch_store.specs.Books.{AreAccepted}
use Rattle.batch_store.specs.Shards.{Holding}
use Rattle.locked_engine.specs.Moments.{IsShardOf}
use Rattle.locked_engine.specs.Opened.{SharePast}
use Rattle.wire_proto.specs.Keeping.{cell, save, stats, fold}
use Rattle.wire_proto.specs.Telling.{telling}
use Rattle.wire_proto.specs.declared.figures.Figure.{Figure}
use Rattle.std.specs.declared.alloc.AllocError.{AllocError}
use Rattle.plain_engine.specs.declared.status.Status.{Status}
use Rattle.locked_engine.specs.Versions.{version_status}
use Rattle.wire_proto.specs.declared.keeper.SaveRefusal.{SaveRefusal}
use Rattle.session_pool.specs.Saves.{IsSaved}
use Rattle.session_pool.specs.Seats.{Sight, Grows, SeatGives}

pub same_begins : (xs ys : List Submission) → ys ≡ xs → IsPrefix xs ys
same_begins xs ys same = ([], append-nil xs ∙ sym same)

module _ (v : Setting) (opened : Accepted) (saved : Accepted → Type 0) (synced : List Entry → Type 0)
    (failed full : Type 0) where
  -- a cell is what a shard of its row held, and leaves the seat
  pub gives_cell : (s : Sight) (r c : ℕ) (o : Option ℕ) →
      IfSome o (λ n. (x : Holding) × IsShardOf v opened (r % v.shards) x
      × (get (content x.layers) (r, c) ≡ Some n)) →
      SeatGives v opened saved synced failed full s (cell r c o) s
  gives_cell s r c None h = refl
  gives_cell s r c (Some n) h = (refl, h.0, h.1, h.2)

  -- a save shows the seat the entries of what was saved
  pub gives_save : (s t : Sight) (r : Result ℕ SaveRefusal) → t.known ≡ s.known → t.seat.number ≡ s.seat.number →
      IsPrefix s.seat.seen t.seat.seen → t.seat.known ≡ s.seat.known → t.seat.first ≡ s.seat.first →
      IfOk r (λ n. (a : Accepted) × AreAccepted v a × (entries_in a ≡ t.seat.seen) × SharePast a opened
      × (n ≡ count_in a) × saved a) → SeatGives v opened saved synced failed full s (save r) t
  gives_save s t (Err e) known number later knows first h =
      (known, (number, later, same_begins s.seat.known t.seat.known knows), first)
  gives_save s t (Ok n) known number later knows first h = (
    known,
    (number, later, same_begins s.seat.known t.seat.known knows),
    first,
    h.0,
    h.1,
    h.2,
    h.3,
    h.4,
    h.5,
  )

  -- a Stats shows the seat the entries that its status is of
  pub gives_told : (s t : Sight) (setup : Setting) (status : Status) (folded : ℕ) (figures : List Figure) →
      t.known ≡ s.known → t.seat.number ≡ s.seat.number → IsPrefix s.seat.seen t.seat.seen →
      t.seat.known ≡ s.seat.known → t.seat.first ≡ s.seat.first → setup ≡ v → status ≡ version_status t.seat.seen →
      (a : Accepted) × AreAccepted v a × (entries_in a ≡ t.seat.seen) × SharePast a opened
      × (folded ≡ length a.folded) →
      SeatGives v opened saved synced failed full s (stats (Ok (telling setup status folded figures))) t
  gives_told s t setup status folded figures known number later knows first is told h = (
    known,
    (number, later, same_begins s.seat.known t.seat.known knows),
    first,
    is,
    told,
    h.0,
    h.1,
    h.2,
    h.3,
    h.4,
  )

  -- a Fold shows the seat the entries of a list, of which at least as many are folded as the seat had been shown
  pub gives_folded : (s t : Sight) (folded : ℕ) → Grows s.known t.known → t.seat.number ≡ s.seat.number →
      IsPrefix s.seat.seen t.seat.seen → t.seat.known ≡ s.seat.known → t.seat.first ≡ s.seat.first →
      (a : Accepted) × AreAccepted v a × (entries_in a ≡ t.seat.seen) × SharePast a opened
      × (folded ≡ length a.folded) → length s.seat.seen ≤ folded →
      SeatGives v opened saved synced failed full s (fold (Ok folded)) t
  gives_folded s t folded grows number later knows first h shown = (
    grows,
    (number, later, same_begins s.seat.known t.seat.known knows),
    first,
    h.0,
    h.1,
    h.2,
    h.3,
    h.4,
    shown,
  )

  pub gives_untold : (s t : Sight) (e : AllocError) → t.known ≡ s.known → t.seat.number ≡ s.seat.number →
      IsPrefix s.seat.seen t.seat.seen → t.seat.known ≡ s.seat.known → t.seat.first ≡ s.seat.first →
      SeatGives v opened saved synced failed full s (stats (Err e)) t
  gives_untold s t e known number later knows first =
      (known, (number, later, same_begins s.seat.known t.seat.known knows), first)

-- what a disk has answered as saved, in the words of the saver
pub is_saved : {D Z : Type 0} (saves : D → List ℕ → Setting → Accepted → Type 0) (d : D) (o : Option (String Z))
    (path : String Z) (bytes : List ℕ) (w v : Setting) (a : Accepted) → o ≡ Some path → bytes ≡ string_bytes path →
    w ≡ v → saves d bytes w a → IsSaved saves d o v a
is_saved saves d o path bytes w v a there told same h =
    subst (λ (p : Option (String _)). IsSaved saves d p v a) (sym there)
    (subst (λ (b : List ℕ). saves d b v a) told (subst (λ (x : Setting). saves d bytes x a) same h))
