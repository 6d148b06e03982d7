-- Pages of 4,096 bytes: 4 of the checksum of all behind them, 2 of the number of zero bytes behind them, 2 of the kind,
-- 8 of the place of the block, 4 of the page's number in its block, 4 of how many pages that has, 4,072 of the block's
-- own bytes, its chunk.
use Rattle.std.specs.Prelude.{◌≡◌, ◌⊎◌, ℕ, zero, suc, ◌+◌, ◌*◌, ◌<◌, ◌==◌, nat_lt, Bool, true, false, ◌&&◌, ◌||◌, if◌then◌else◌, List, [], ◌∷◌, ◌++◌, take, drop, slice_index, count_by}
use Rattle.std.specs.List.{AllZip, list_all}
use Rattle.std.specs.Int.{w16, w32, w64, to_be_bytes, from_be_bytes}
use Rattle.crc32c.specs.Remainders.{checksum_of}
use Rattle.log_page.specs.declared.page.PageKind.{PageKind}
use Rattle.log_page.specs.declared.page.PageKind.TheVariants.{Empty, Whole, Short, Spoilt}

abbrev pub zeros_in : List ℕ → ℕ
zeros_in bytes = count_by (λ byte. byte == 0) bytes

abbrev pub is_blank : List ℕ → Bool
is_blank bytes = list_all (λ byte. byte == 0) bytes

abbrev pub same_at : List ℕ → List ℕ → ℕ → Bool
same_at found right i = slice_index found i == slice_index right i

abbrev pub lost_at : List ℕ → List ℕ → ℕ → Bool
lost_at found right i = (slice_index found i == 0) || same_at found right i

abbrev pub is_same_check : List ℕ → List ℕ → Bool
is_same_check found right = same_at found right 0 && same_at found right 1 && same_at found right 2 && same_at found
    right 3

abbrev pub is_lost_check : List ℕ → List ℕ → Bool
is_lost_check found right = lost_at found right 0 && lost_at found right 1 && lost_at found right 2 && lost_at found
    right 3

-- four bytes of a check, by the right ones
abbrev pub check_kind : List ℕ → List ℕ → PageKind
check_kind found right = if is_same_check found right then Whole
    else (if is_lost_check found right then Short else Spoilt)

-- the number of zero bytes that a page tells, the number that it has, and the check that it should have
abbrev pub told : List ℕ → ℕ
told page = slice_index page 4 * 256 + slice_index page 5

abbrev pub right_check : List ℕ → List ℕ
right_check page = to_be_bytes w32 (checksum_of (drop 4 page))

abbrev pub kind_of : List ℕ → PageKind
kind_of page =
    if is_blank page then Empty
    else (if nat_lt (told page) (zeros_in (drop 6 page)) then Short
    else (if nat_lt (zeros_in (drop 6 page)) (told page) then Spoilt
    else check_kind page (right_check page)))

-- the second arises from the first by setting bytes to 00
abbrev pub Lost : List ℕ → List ℕ → Type 0
Lost page left = AllZip (λ byte kept. (kept ≡ byte) ⊎ (kept ≡ 0)) page left

-- A page by what stands behind its number of zero bytes: with that number before it, and then with the check.
abbrev pub counted : List ℕ → List ℕ
counted body = to_be_bytes w16 (zeros_in body) ++ body

abbrev pub sealed : List ℕ → List ℕ
sealed body = to_be_bytes w32 (checksum_of (counted body)) ++ counted body

-- page number `page` of the `pages` of the block at this place, with its chunk
abbrev pub body_of : ℕ → ℕ → ℕ → List ℕ → List ℕ
body_of place page pages chunk =
    to_be_bytes w16 1 ++ (to_be_bytes w64 place ++ (to_be_bytes w32 page ++ (to_be_bytes w32 pages ++ chunk)))

unfoldable pub page_of : ℕ → ℕ → ℕ → List ℕ → List ℕ
page_of place page pages chunk = sealed (body_of place page pages chunk)

-- what a page says of itself
abbrev pub kind_field : List ℕ → ℕ
kind_field page = from_be_bytes w16 (take 2 (drop 6 page))

abbrev pub place_field : List ℕ → ℕ
place_field page = from_be_bytes w64 (take 8 (drop 8 page))

abbrev pub page_field : List ℕ → ℕ
page_field page = from_be_bytes w32 (take 4 (drop 16 page))

abbrev pub pages_field : List ℕ → ℕ
pages_field page = from_be_bytes w32 (take 4 (drop 20 page))

abbrev pub chunk_field : List ℕ → List ℕ
chunk_field page = drop 24 page

-- What page number `page` of the `pages` of the block at this place says of itself, which are its bytes 6 to 23: its
-- kind, the place, its number, and how many pages the block has.
abbrev pub fields_of : ℕ → ℕ → ℕ → List ℕ
fields_of place page pages =
    to_be_bytes w16 1 ++ (to_be_bytes w64 place ++ (to_be_bytes w32 page ++ to_be_bytes w32 pages))

-- n bytes of a page, from this one on
abbrev pub bytes_at : ℕ → ℕ → List ℕ → List ℕ
bytes_at at zero p = []
bytes_at at (suc n) p = slice_index p at ∷ bytes_at (at + 1) n p

abbrev pub fields_in : List ℕ → List ℕ
fields_in p = bytes_at 6 18 p

abbrev pub pages_bytes : List ℕ → List ℕ
pages_bytes p = bytes_at 20 4 p

-- whether a byte is the right one, or was lost
abbrev pub is_left : ℕ → ℕ → Bool
is_left byte right = (byte == 0) || (byte == right)

-- byte i of those from this one on, by that of the right ones
abbrev pub left_at : List ℕ → ℕ → List ℕ → ℕ → Bool
left_at p at right i = is_left (slice_index p (at + i)) (slice_index right i)

-- whether each byte of what a page says of its kind, its place and its number is the right one or 00
abbrev pub is_left_kind : List ℕ → Bool
is_left_kind p = left_at p 6 (to_be_bytes w16 1) 0 && left_at p 6 (to_be_bytes w16 1) 1

abbrev pub is_left_front : ℕ → List ℕ → Bool
is_left_front place p =
    left_at p 8 (to_be_bytes w64 place) 0 && left_at p 8 (to_be_bytes w64 place) 1 &&
    left_at p 8 (to_be_bytes w64 place) 2 && left_at p 8 (to_be_bytes w64 place) 3

abbrev pub is_left_back : ℕ → List ℕ → Bool
is_left_back place p =
    left_at p 8 (to_be_bytes w64 place) 4 && left_at p 8 (to_be_bytes w64 place) 5 &&
    left_at p 8 (to_be_bytes w64 place) 6 && left_at p 8 (to_be_bytes w64 place) 7

abbrev pub is_left_place : ℕ → List ℕ → Bool
is_left_place place p = is_left_front place p && is_left_back place p

abbrev pub is_left_number : ℕ → List ℕ → Bool
is_left_number page p =
    left_at p 16 (to_be_bytes w32 page) 0 && left_at p 16 (to_be_bytes w32 page) 1 &&
    left_at p 16 (to_be_bytes w32 page) 2 && left_at p 16 (to_be_bytes w32 page) 3

abbrev pub is_left_page : ℕ → ℕ → List ℕ → Bool
is_left_page place page p = is_left_kind p && is_left_place place p && is_left_number page p

-- Whether a page says that it is page number `page` of the block at this place, which has `pages` pages, or any number
-- above this one where `pages` is 0, as it is while no page of the block has told how many there are.
abbrev pub is_next : ℕ → ℕ → ℕ → List ℕ → Bool
is_next place page pages p =
    (kind_field p == 1) && (place_field p == place) && (page_field p == page) && nat_lt page (pages_field p) &&
    ((pages == 0) || (pages_field p == pages))

abbrev pub is_whole : PageKind → Bool
is_whole Whole = true
is_whole Empty = false
is_whole Short = false
is_whole Spoilt = false

-- numbers that are bytes
abbrev pub IsBytes : List ℕ → Type 0
IsBytes bytes = (i : ℕ) → slice_index bytes i < 256
