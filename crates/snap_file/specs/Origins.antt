-- Whose a file is, and whether a log goes with it.
use Rattle.std.specs.Prelude.{◌≡◌, ◌≢◌, ℕ, ◌-◌, ◌<◌, ◌^◌, ◌||◌, nat_le, Bool, true, false, refl, if◌then◌else◌}
use Rattle.std.specs.Coded.{Coded, code_by, coded×, coded_ℕ, coded_bool}
use Rattle.snap_file.specs.declared.origin.Identity.{Identity}
use Rattle.snap_file.specs.declared.origin.Origin.{Origin}

-- a book of 128 bits, the high half first, and a window of it
abbrev pub identity : ℕ → ℕ → ℕ → Identity
identity high low window = record { book_high = high; book_low = low; window = window }

abbrev pub origin : Identity → Bool → Origin
origin i has_log = record { identity = i; has_log = has_log }

-- the number that says that there is no window
abbrev pub no_window : ℕ
no_window = 2 ^ 64 - 1

-- A book that isn't known, no window, and no log: what a file of an older version says.
abbrev pub unknown : Origin
unknown = origin (identity 0 0 no_window) false

-- an identity whose numbers fit their fields
pub record IsIdentity (i : Identity) : Type 0 where
  pub high : i.book_high < 2 ^ 64
  pub low : i.book_low < 2 ^ 64
  pub window : i.window < 2 ^ 64

-- the book is known: its number isn't 0
abbrev pub has_book : Identity → Bool
has_book i = nat_le 1 i.book_high || nat_le 1 i.book_low

-- both books are known, and they or their windows differ
pub record IsOtherBook (i j : Identity) : Type 0 where
  pub known : has_book i ≡ true
  pub other_known : has_book j ≡ true
  pub differ : i ≢ j

-- whose the files of a server are: as the snapshot says, or else the log, and where neither does, as was drawn
abbrev pub own : Identity → Identity → Identity → Identity
own known found drawn = if has_book known then known else if has_book found then found else drawn

abbrev pub coded_origin : Coded Origin
coded_origin = code_by (ℕ × (ℕ × (ℕ × Bool))) (coded× coded_ℕ (coded× coded_ℕ (coded× coded_ℕ coded_bool)))
    (λ o. (o.identity.book_high, (o.identity.book_low, (o.identity.window, o.has_log))))
    (λ p. origin (identity p.0 p.1.0 p.1.1.0) p.1.1.1) (λ _. refl)
