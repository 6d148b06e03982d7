-- The head page of a log, 4,096 bytes: how it is spelled, what a page says, and what is wrong with one.
--     head_page h         the page of a head, as it is written
--     head_page_in v h    the same in version v
--     head_in p           the head of which a page has the fields, wherever they lie within their ranges or not
--     IsHeadIn v h        the fields of a head lie within the ranges that they have in version v
--     HasHead p h         the page is that of this head, whose fields lie within their ranges
--     RefusesPage p k     by cases: what is so where a page has this fault, and that no earlier one stands
use Rattle.std.specs.Prelude.{◌≡◌, ◌≢◌, ℕ, zero, suc, ◌+◌, ◌-◌, ◌*◌, ◌<◌, ◌≤◌, ◌^◌, true, false, List, [], ◌∷◌, ◌++◌}
use Rattle.std.specs.Prelude.{◌==◌, if◌then◌else◌}
use Rattle.std.specs.Prelude.{length, take, drop, replicate, slice_index, flat_map}
use Rattle.std.specs.Int.{w8, w32, w64, from_be_bytes}
use Rattle.crc32c.specs.Remainders.{checksum_of}
use Rattle.batch_store.specs.Setups.{Setting, setting, IsSetting}
use Rattle.snap_file.specs.Origins.{identity, unknown, IsIdentity}
use Rattle.snap_file.specs.Spelling.{number_bytes, identity_bytes, old_most_batches}
use Rattle.snap_file.specs.declared.origin.Identity.{Identity}
use Rattle.log_page.specs.Pages.{is_blank}
use Rattle.log_blocks.specs.declared.fault.LogKind.{LogKind}
use Rattle.log_blocks.specs.declared.fault.LogKind.TheVariants.{Read, Memory, Truncated, BadMark, BadVersion, BadHead}
use Rattle.log_blocks.specs.declared.fault.LogKind.TheVariants.{HeadCheck, Damaged, BadBlock, TooLong}
use Rattle.log_head.specs.declared.head.LogHead.{LogHead}

-- the first eight bytes of each log: HHM-LOG and LF
abbrev pub mark : ℕ
mark = 0x48484d2d4c4f470a

-- the version of logs that don't say whose they are, and the version that is written
abbrev pub old_version : ℕ
old_version = 1

abbrev pub version : ℕ
version = 2

-- the most batches that a setup may allow in a head of this version
abbrev pub most_batches_of : ℕ → ℕ
most_batches_of v = if v == version then 2 ^ 30 else old_most_batches

-- the fields of a setup, as a snapshot has them, and those of a head
abbrev pub setup_bytes : Setting → List ℕ
setup_bytes s =
    number_bytes w64 s.rows ++ (number_bytes w64 s.cols ++ (number_bytes w8 (length s.cuts)
    ++ (flat_map (number_bytes w64) s.cuts ++ (number_bytes w8 s.shards ++ (number_bytes w64 s.limit
    ++ number_bytes w64 s.max_batches)))))

-- whose the log is, in a head of this version: nothing in the old one
abbrev pub named_bytes : ℕ → Identity → List ℕ
named_bytes v i = if v == version then identity_bytes i else []

abbrev pub named_length : ℕ → ℕ
named_length v = if v == version then 24 else 0

abbrev pub field_bytes : ℕ → LogHead → List ℕ
field_bytes v h =
    number_bytes w64 mark ++ (number_bytes w32 v ++ (setup_bytes h.setup
    ++ (number_bytes w64 h.first ++ (number_bytes w64 h.total ++ (number_bytes w32 h.link
    ++ named_bytes v h.identity)))))

-- where the fields end, after this number of cuts
abbrev pub fields_end : ℕ → ℕ → ℕ
fields_end v cuts = 66 + 8 * cuts + named_length v

-- all up to the checksum: the fields, and 00
abbrev pub front_of : ℕ → LogHead → List ℕ
front_of v h = field_bytes v h ++ replicate (4092 - fields_end v (length h.setup.cuts)) 0

abbrev pub head_page_in : ℕ → LogHead → List ℕ
head_page_in v h = front_of v h ++ number_bytes w32 (checksum_of (front_of v h))

abbrev pub head_page : LogHead → List ℕ
head_page h = head_page_in version h

-- numbers in a page
abbrev pub u64_in : List ℕ → ℕ → ℕ
u64_in bytes at = from_be_bytes w64 (take 8 (drop at bytes))

abbrev pub u32_in : List ℕ → ℕ → ℕ
u32_in bytes at = from_be_bytes w32 (take 4 (drop at bytes))

unfoldable pub cuts_of : ℕ → List ℕ → List ℕ
cuts_of zero bytes = []
cuts_of (suc n) bytes = u64_in bytes 0 ∷ cuts_of n (drop 8 bytes)

abbrev pub cut_count : List ℕ → ℕ
cut_count p = slice_index p 28

-- what stands behind the cuts
abbrev pub behind_cuts : List ℕ → List ℕ
behind_cuts p = drop (29 + 8 * cut_count p) p

abbrev pub setup_in : List ℕ → Setting
setup_in p =
    setting (u64_in p 12) (u64_in p 20) (cuts_of (cut_count p) (drop 29 p)) (slice_index (behind_cuts p) 0)
    (u64_in (behind_cuts p) 1) (u64_in (behind_cuts p) 9)

abbrev pub version_in : List ℕ → ℕ
version_in p = u32_in p 8

abbrev pub identity_in : List ℕ → Identity
identity_in p = if version_in p == version
    then identity (u64_in (behind_cuts p) 37) (u64_in (behind_cuts p) 45) (u64_in (behind_cuts p) 53)
    else unknown.identity

abbrev pub head_in : List ℕ → LogHead
head_in p = record {
  setup = setup_in p;
  first = u64_in (behind_cuts p) 17;
  total = u64_in (behind_cuts p) 25;
  link = u32_in (behind_cuts p) 33;
  identity = identity_in p;
}

-- the bytes between the fields and the checksum
abbrev pub filler : List ℕ → List ℕ
filler p = take (4092 - fields_end (version_in p) (cut_count p)) (drop (fields_end (version_in p) (cut_count p)) p)

abbrev pub HasCheck : List ℕ → Type 0
HasCheck p = u32_in p 4092 ≡ checksum_of (take 4092 p)

-- a head whose fields lie within their ranges
pub record IsHead (h : LogHead) : Type 0 where
  pub setup : IsSetting h.setup
  pub first : h.first ≤ h.setup.max_batches
  pub total : h.total ≤ h.setup.limit
  pub link : h.link < 2 ^ 32
  pub named : IsIdentity h.identity

-- and the setup allows no more batches than the version
abbrev pub IsHeadIn : ℕ → LogHead → Type 0
IsHeadIn v h = IsHead h × (h.setup.max_batches ≤ most_batches_of v)

pub record HasHead (p : List ℕ) (h : LogHead) : Type 0 where
  pub is : IsHead h
  pub page_version : ℕ
  pub low : old_version ≤ page_version
  pub high : page_version ≤ version
  pub old : page_version < version → h.identity ≡ unknown.identity
  pub most : h.setup.max_batches ≤ most_batches_of page_version
  pub spelled : p ≡ head_page_in page_version h

abbrev pub HasMark : List ℕ → Type 0
HasMark p = u64_in p 0 ≡ mark

abbrev pub IsKnownVersion : ℕ → Type 0
IsKnownVersion v = (old_version ≤ v) × (v ≤ version)

abbrev pub HasVersion : List ℕ → Type 0
HasVersion p = HasMark p × IsKnownVersion (version_in p)

abbrev pub HasFields : List ℕ → Type 0
HasFields p = HasVersion p × IsHeadIn (version_in p) (head_in p)

-- BadHead: a field is out of its range, or all else is right and there are other bytes than 00 behind the fields.
abbrev pub RefusesPage : List ℕ → LogKind → Type 0
RefusesPage p BadMark = HasMark p → ⊥
RefusesPage p BadVersion = HasMark p × (IsKnownVersion (version_in p) → ⊥)
RefusesPage p BadHead =
    HasVersion p × (IsHeadIn (version_in p) (head_in p) → HasCheck p × (is_blank (filler p) ≡ false))
RefusesPage p HeadCheck = HasFields p × (HasCheck p → ⊥)
RefusesPage p Read = ⊥
RefusesPage p Memory = ⊥
RefusesPage p Truncated = ⊥
RefusesPage p Damaged = ⊥
RefusesPage p BadBlock = ⊥
RefusesPage p TooLong = ⊥
