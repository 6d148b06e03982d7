-- What is counted of the pages of a log after its front.
--     begins_block p      the page says that it is the first one of a block
--     claimed k p         how many batches a page of this kind says that its block has: that of a whole page with which
--                         a block begins, where a book may have so many
--     left_with left p    one page more
--     left_in pages       how many of these pages aren't empty, how many are whole, and how many batches those claim
--     HasRead gives s t bytes
--                         the calls from s to t gave these bytes
--     HasNext gives s t pending done n page
--                         after the bytes that were done with, n came that are the front of this page, which has 00 after
--                         them, and others are pending
--     HasCountedAll gives ended s t left
--                         the calls gave some bytes to their end, and this is the count of their pages
use Rattle.std.specs.Prelude.{◌≡◌, ℕ, ◌+◌, ◌<◌, ◌++◌, length, ◌^◌, ◌==◌, ◌&&◌, nat_le, Bool, List, [], ◌∷◌, take, slice_index, if◌then◌else◌}
use Rattle.std.specs.Int.{w64, from_be_bytes}
use Rattle.byte_io.specs.Streams.{Answer, Calls, bytes_of_calls}
use Rattle.log_page.specs.Pages.{chunk_field, is_whole, kind_of}
use Rattle.log_page.specs.declared.page.PageKind.{PageKind}
use Rattle.log_page.specs.declared.page.PageKind.TheVariants.{Empty, Whole, Short, Spoilt}
use Rattle.log_blocks.specs.Blocks.{Page, ArePages}
use Rattle.log_blocks.specs.Files.{page_count, pages_of}
use Rattle.log_blocks.specs.Reading.{used_by}
use Rattle.snap_salvage.specs.declared.left.Left.{Left}

-- a page of a block says kind 1, and its number in the block, which is 0
abbrev pub begins_block : Page → Bool
begins_block p = (slice_index p 6 == 0) && (slice_index p 7 == 1) && (slice_index p 16 == 0) &&
    (slice_index p 17 == 0) && (slice_index p 18 == 0) && (slice_index p 19 == 0)

abbrev pub whole_by : PageKind → ℕ
whole_by Whole = 1
whole_by Empty = 0
whole_by Short = 0
whole_by Spoilt = 0

abbrev pub claimed_number : Page → ℕ
claimed_number p = from_be_bytes w64 (take 8 (chunk_field p))

abbrev pub claimed : PageKind → Page → ℕ
claimed kind p =
    if is_whole kind && begins_block p && nat_le (claimed_number p) (2 ^ 30) then claimed_number p else 0

abbrev pub left_none : Left
left_none = record { pages = 0; whole = 0; batches = 0 }

abbrev pub left_with : Left → Page → Left
left_with left p = record {
  pages = left.pages + used_by (kind_of p);
  whole = left.whole + whole_by (kind_of p);
  batches = left.batches + claimed (kind_of p) p;
}

-- these pages after others that were counted
unfoldable pub left_after : Left → List Page → Left
left_after left [] = left
left_after left (p ∷ ps) = left_after (left_with left p) ps

abbrev pub left_in : List Page → Left
left_in pages = left_after left_none pages

-- what was counted is this of some pages
pub record IsCounted (left : Left) : Type 0 where
  pub pages : List Page
  pub are_pages : ArePages pages
  pub left_is : left ≡ left_in pages

pub record HasRead {S : Type 0} (gives : S → Answer → S → Type 0) (s t : S) (bytes : List ℕ) : Type 0 where
  pub answers : List Answer
  pub calls : Calls gives s answers t
  pub bytes_are : bytes_of_calls answers ≡ bytes

pub record HasNext {S : Type 0} (gives : S → Answer → S → Type 0) (s t : S) (pending done : List ℕ) (n : ℕ)
    (page : List ℕ) : Type 0 where
  pub piece : List ℕ
  pub long : length piece ≡ n
  pub same : (k : ℕ) → k < 4096 → slice_index page k ≡ slice_index piece k
  pub read : HasRead gives s t ((done ++ piece) ++ pending)

pub record HasCountedAll {S : Type 0} (gives : S → Answer → S → Type 0) (ended : Type 0) (s t : S) (left : Left) :
    Type 0 where
  pub bytes : List ℕ
  pub read : HasRead gives s t bytes
  pub at_end : ended
  pub left_is : left ≡ left_in (pages_of 0 (page_count bytes) bytes)
