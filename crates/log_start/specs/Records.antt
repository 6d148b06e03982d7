-- What a log tells: the entries of what was accepted up to its end.
--     joined lists    the batches of several blocks, one block after another
--     log_in p f ls   the log of this head page, whose first batch has this place, of blocks of these batches
--     IsLogOf l es    these are the entries: those before the log, to which its head is linked, and those of its blocks
--     IsLogAs l s i es
--                     and the head has this setup and this identity
use Rattle.std.specs.Prelude.{◌≡◌, ℕ, List, ◌++◌, length, map, flat_map}
use Rattle.batch_store.specs.declared.verdict.Entry.{Entry}
use Rattle.batch_store.specs.Batches.{Submission, entries_of}
use Rattle.batch_store.specs.Verdicts.{total_of_entries}
use Rattle.batch_store.specs.Setups.{Setting}
use Rattle.snap_file.specs.declared.origin.Identity.{Identity}
use Rattle.log_head.specs.Heads.{HasHead}
use Rattle.log_head.specs.Links.{link_in}
use Rattle.log_head.specs.declared.head.LogHead.{LogHead}
use Rattle.log_batches.specs.Payloads.{block_of}
use Rattle.log_file.specs.Logs.{Log}

abbrev pub joined : List (List Submission) → List Submission
joined lists = flat_map (λ list. list) lists

abbrev pub log_in : List ℕ → ℕ → List (List Submission) → Log
log_in page first lists = record { head = page; first = first; blocks = map block_of lists }

pub record IsLogOf (l : Log) (es : List Entry) : Type 0 where
  pub head : LogHead
  pub before : List Entry
  pub lists : List (List Submission)
  pub has_head : HasHead l.head head
  pub first_is : l.first ≡ head.first
  pub before_is : length before ≡ head.first
  pub total_is : total_of_entries before ≡ head.total
  pub link_is : link_in before ≡ head.link
  pub blocks_are : l.blocks ≡ map block_of lists
  pub entries_are : es ≡ before ++ entries_of (joined lists)

pub record IsLogAs (l : Log) (s : Setting) (i : Identity) (es : List Entry) : Type 0 where
  pub log : IsLogOf l es
  pub setup : log.head.setup ≡ s
  pub identity : log.head.identity ≡ i
