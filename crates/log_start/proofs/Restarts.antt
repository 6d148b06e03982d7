-- What a loss of power has left, and the start after it.
use Rattle.std.proofs.Common.{◌≡◌, ◌≢◌, ⊎_elim, ℕ, List, sym, subst}
use Rattle.std.specs.Prelude.{Option, None}
use Rattle.batch_store.specs.Setups.{Setting}
use Rattle.batch_store.specs.Books.{Listing}
use Rattle.snap_file.specs.declared.origin.Identity.{Identity}
use Rattle.log_blocks.specs.Blocks.{Block}
use Rattle.log_disk.specs.declared.disk.LogDisk.{Ghosts as Device}
use Rattle.log_file.specs.Logs.{Log, MayHoldNext, IsBeforeOrAfter}
use Rattle.log_file.specs.Writer.{IsSettled}
use Rattle.log_file.specs.declared.writer.LogWriter.{LogWriter}
use Rattle.log_file.proofs.LogLemmas.{held_is_read, log_held}
use Rattle.log_start.specs.Restarts.{CanTake, HasNextOrNot, IsLeftOf}
use Rattle.log_start.specs.Starts.{IsList, MayGoOn, WasLeft}
use Rattle.log_start.specs.declared.owner.LogOwner.{LogOwner}

-- ---- what was left of a log

pub left_takes : {D : Type 0} (d : Device D) (disk : D) (l : Log) (block : Block) → WasLeft d disk l block
    → CanTake l block
left_takes d disk l block was = record {
  is_log = was.is_log;
  block_is = was.block_is;
  places = was.places;
  own = record { head = was.head; has_head = was.has_head; first_is = was.first_is };
}

-- of one that is settled
pub settled_left : {D : Type 0} (d : Device D) (disk : D) (writer : LogWriter) (l whole : Log) (block : Block)
    → l ≡ whole → ((left : List ℕ) → d.left_since disk (d.moment disk) left → d.may_leave disk left)
    → IsSettled d.written d.may_leave disk writer whole → (left : List ℕ) → d.left_since disk (d.moment disk) left
    → MayHoldNext l block left
settled_left d disk writer l whole block is only_now settled left was =
    subst (λ (log : Log). MayHoldNext log block left) (sym is)
    (log_held whole block left (settled.durable left (only_now left was)))

-- ---- the start after it

module _ {D : Type 0} (d : Device D) (since : ℕ) (lost : D) (l : Log) (block : Block) (takes : CanTake l block)
    (held : (left : List ℕ) → d.left_since lost since left → MayHoldNext l block left) where
  pub was_left : (found : D) → IsLeftOf d since lost found → WasLeft d found l block
  was_left found is =
      let own = takes.own in
      record {
        unsettled = record {
          file = held (d.written found) is.file;
          left = λ left now. held left (is.again left now);
        };
        is_log = takes.is_log;
        block_is = takes.block_is;
        places = takes.places;
        head = own.head;
        has_head = own.has_head;
        first_is = own.first_is;
      }

  pub may_go_on : (found : D) → IsLeftOf d since lost found → MayGoOn d found l block
  may_go_on found is = λ head lists read. was_left found is

  pub is_before_or_after : (found : D) → IsLeftOf d since lost found → IsBeforeOrAfter l block (d.written found)
  is_before_or_after found is = held_is_read l block (d.written found) takes.is_log takes.block_is
      (held (d.written found) is.file)

  pub found_list : (folder_tells : Type 0) (stored : D → Type 0) (named : Option ℕ) → folder_tells
      → ((found : D) → stored found → IsLeftOf d since lost found) → named ≢ None
      → (s : Setting) (o : LogOwner) (v list : Listing) (i : Identity) (t : Setting)
      → IsList d folder_tells stored named s o v list i t → HasNextOrNot l block s o v list i t
  found_list folder_tells stored named tells is_left stands s o v list i t is =
      ⊎_elim
      (λ none. absurd (stands (none.1 tells)))
      (λ found.
      let at = found.2 tells in (
        found.0,
        subst (λ (bytes : List ℕ). IsBeforeOrAfter l block bytes) (sym at.2)
            (is_before_or_after at.0 (is_left at.0 at.1)),
        found.1,
      ))
      is
