-- The page of a head is read as that head.
use Rattle.std.proofs.Common.{◌≡◌, ℕ, zero, suc, ◌+◌, ◌-◌, ◌*◌, ◌%◌, ◌^◌, ◌<◌, ◌≤◌, true, List, [], ◌∷◌, ◌++◌}
use Rattle.std.proofs.Common.{Bool, false, cond}
use Rattle.std.proofs.Common.{length, take, drop, replicate, flat_map, refl, sym, ap, subst, ◌∙◌, append_assoc, arith}
use Rattle.std.specs.Prelude.{slice_index, ◌==◌}
use Rattle.std.proofs.lemmas.Bool.{eq-eqb, eqb-true, eqb-false}
use Rattle.std.specs.Int.{w8, w32, w64, from_be_bytes}
use Rattle.std.specs.List.{AllByRecursion}
use Rattle.std.proofs.lemmas.List.{length-append, length-replicate, drop-drop, drop_at, take_at, append-nil}
use Rattle.std.proofs.lemmas.Nat.{from_be_bytes-to_be_bytes_4, from_be_bytes-to_be_bytes_8}
use Rattle.crc32c.specs.Remainders.{checksum_of}
use Rattle.snap_file.specs.Origins.{identity, unknown, IsIdentity}
use Rattle.snap_file.specs.Spelling.{number_bytes, identity_bytes}
use Rattle.snap_file.specs.declared.origin.Identity.{Identity}
use Rattle.snap_file.proofs.Fields.{wide32, wide64}
use Rattle.snap_file.proofs.Kept.{CutsFrom, cuts_of as cuts_from_one}
use Rattle.log_page.specs.Pages.{is_blank}
use Rattle.log_head.specs.declared.head.LogHead.{LogHead}
use Rattle.log_head.specs.Heads.{mark, old_version, version, setup_bytes, field_bytes, fields_end, front_of, u64_in}
use Rattle.log_head.specs.Heads.{head_page, head_page_in, named_bytes, named_length, version_in, identity_in, HasHead}
use Rattle.log_head.specs.Heads.{IsKnownVersion, most_batches_of}
use Rattle.log_head.specs.Heads.{u32_in}
use Rattle.log_head.specs.Heads.{cuts_of, cut_count, behind_cuts, head_in, filler, HasCheck, IsHead}
use Rattle.log_head.proofs.PageParts.{zeros_blank}

-- ---- cuts

pub length-cuts : (cuts : List ℕ) → length (flat_map (number_bytes w64) cuts) ≡ 8 * length cuts
length-cuts [] = refl
length-cuts (cut ∷ cuts) =
    length-append (number_bytes w64 cut) (flat_map (number_bytes w64) cuts)
    ∙ (let a = wide64.len cut in let b = length-cuts cuts in omega arith)

cuts_again : (least : ℕ) (cuts : List ℕ) (rest : List ℕ) → CutsFrom least cuts →
    cuts_of (length cuts) (flat_map (number_bytes w64) cuts ++ rest) ≡ cuts
unfolding cuts_of
cuts_again least [] rest h = refl
cuts_again least (cut ∷ cuts) rest h =
    let first = number_bytes w64 cut in
    let behind = flat_map (number_bytes w64) cuts ++ rest in
    let long = wide64.len cut in
    let parts : flat_map (number_bytes w64) (cut ∷ cuts) ++ rest ≡ first ++ behind =
    append_assoc first (flat_map (number_bytes w64) cuts) rest in
    let most = h.1 in
    let front : u64_in (first ++ behind) 0 ≡ cut =
    ap (λ (l : List ℕ). from_be_bytes w64 l) (take_at first behind 8 long) ∙ wide64.again cut (omega arith) in
    let left : drop 8 (first ++ behind) ≡ behind = drop_at first behind 8 long in
    ap (λ (l : List ℕ). u64_in l 0 ∷ cuts_of (length cuts) (drop 8 l)) parts
    ∙ ap (λ (x : ℕ). x ∷ cuts_of (length cuts) (drop 8 (first ++ behind))) front
    ∙ ap (λ (l : List ℕ). cut ∷ cuts_of (length cuts) l) left
    ∙ ap (λ (l : List ℕ). cut ∷ l) (cuts_again (cut + 1) cuts rest h.2)

-- ---- the fields

apart : (f a b c d : List ℕ) → (((f ++ a) ++ b) ++ c) ++ d ≡ f ++ (((a ++ b) ++ c) ++ d)
apart f a b c d =
    ap (λ (l : List ℕ). (l ++ c) ++ d) (append_assoc f a b)
    ∙ ap (λ (l : List ℕ). l ++ d) (append_assoc f (a ++ b) c)
    ∙ append_assoc f ((a ++ b) ++ c) d

-- a head by its numbers
by_numbers : (h : LogHead) (rows cols : ℕ) (cuts : List ℕ) (shards limit most first total link : ℕ)
    (whose : Identity) →
    rows ≡ h.setup.rows → cols ≡ h.setup.cols → cuts ≡ h.setup.cuts → shards ≡ h.setup.shards →
    limit ≡ h.setup.limit → most ≡ h.setup.max_batches → first ≡ h.first → total ≡ h.total → link ≡ h.link →
    whose ≡ h.identity →
    ◌≡◌ {A = LogHead} (record {
      setup = record { rows = rows; cols = cols; cuts = cuts; shards = shards; limit = limit; max_batches = most };
      first = first;
      total = total;
      link = link;
      identity = whose;
    }) h
by_numbers h rows cols cuts shards limit most first total link whose a b c d e f g i j k =
    rw (a, b, c, d, e, f, g, i, j, k) refl

-- what the page of a head says
pub record Says (p : List ℕ) (h : LogHead) : Type 0 where
  pub mark_is : u64_in p 0 ≡ mark
  pub version_is : IsKnownVersion (version_in p)
  pub head_is : head_in p ≡ h
  pub most : h.setup.max_batches ≤ most_batches_of (version_in p)
  pub check : HasCheck p
  pub blank : is_blank (filler p) ≡ true

-- whose the log is takes these bytes
length-named : (v : ℕ) (i : Identity) → length (named_bytes v i) ≡ named_length v
unfolding number_bytes
length-named v i = either (v == version)
  where
    either : (test : Bool) → length (cond test (identity_bytes i) []) ≡ cond test 24 0
    either true = refl
    either false = refl

few_named : (v : ℕ) → named_length v ≤ 24
few_named v = either (v == version)
  where
    either : (test : Bool) → cond test 24 0 ≤ 24
    either true = omega arith
    either false = omega arith

module _ (v : ℕ) (known : IsKnownVersion v) (h : LogHead) (is : IsHead h)
    (old : v < version → h.identity ≡ unknown.identity) (allowed : h.setup.max_batches ≤ most_batches_of v) where
  cuts : List ℕ
  cuts = h.setup.cuts

  -- the parts of the page behind the cuts
  abbrev shards_on : List ℕ
  shards_on = number_bytes w8 h.setup.shards ++ (number_bytes w64 h.setup.limit ++ number_bytes w64 h.setup.max_batches)

  abbrev first_on : List ℕ
  first_on = number_bytes w64 h.first ++ (number_bytes w64 h.total ++ (number_bytes w32 h.link ++ named_bytes v h.identity))

  abbrev zeros : List ℕ
  zeros = replicate (4092 - fields_end v (length h.setup.cuts)) 0

  abbrev check_on : List ℕ
  check_on = number_bytes w32 (checksum_of (front_of v h))

  abbrev page : List ℕ
  page = head_page_in v h

  few : length h.setup.cuts ≤ 7
  few = is.setup.cuts.few

  count_is : cut_count page ≡ length h.setup.cuts
  unfolding number_bytes
  count_is = let c = few in let e : length h.setup.cuts % 256 ≡ length h.setup.cuts = omega arith in e

  at_29 : drop 29 page ≡ flat_map (number_bytes w64) h.setup.cuts ++ (((shards_on ++ first_on) ++ zeros) ++ check_on)
  unfolding number_bytes
  at_29 = apart (flat_map (number_bytes w64) h.setup.cuts) shards_on first_on zeros check_on

  behind_is : behind_cuts page ≡ ((shards_on ++ first_on) ++ zeros) ++ check_on
  behind_is =
      ap (λ (i : ℕ). drop (29 + 8 * i) page) count_is
      ∙ sym (drop-drop (8 * length h.setup.cuts) 29 page)
      ∙ ap (λ (l : List ℕ). drop (8 * length h.setup.cuts) l) at_29
      ∙ drop_at (flat_map (number_bytes w64) h.setup.cuts) (((shards_on ++ first_on) ++ zeros) ++ check_on)
      (8 * length h.setup.cuts) (length-cuts h.setup.cuts)

  cuts_are : cuts_of (cut_count page) (drop 29 page) ≡ h.setup.cuts
  cuts_are =
      ap (λ (i : ℕ). cuts_of i (drop 29 page)) count_is
      ∙ ap (λ (l : List ℕ). cuts_of (length h.setup.cuts) l) at_29
      ∙ cuts_again 1 h.setup.cuts (((shards_on ++ first_on) ++ zeros) ++ check_on)
      (cuts_from_one h.setup.cuts is.setup.cuts)

  mark_read : u64_in page 0 ≡ mark
  unfolding number_bytes
  mark_read = from_be_bytes-to_be_bytes_8 mark (omega arith)

  version_read : u32_in page 8 ≡ v
  unfolding number_bytes
  version_read = let b = known.1 in from_be_bytes-to_be_bytes_4 v (omega arith)

  rows_read : u64_in page 12 ≡ h.setup.rows
  unfolding number_bytes
  rows_read = let b = is.setup.dims.0.1 in from_be_bytes-to_be_bytes_8 h.setup.rows (omega arith)

  cols_read : u64_in page 20 ≡ h.setup.cols
  unfolding number_bytes
  cols_read = let b = is.setup.dims.1.1 in from_be_bytes-to_be_bytes_8 h.setup.cols (omega arith)

  abbrev behind : List ℕ
  behind = ((shards_on ++ first_on) ++ zeros) ++ check_on

  shards_read : slice_index behind 0 ≡ h.setup.shards
  unfolding number_bytes
  shards_read = let b = is.setup.shards.1 in let e : h.setup.shards % 256 ≡ h.setup.shards = omega arith in e

  limit_read : u64_in behind 1 ≡ h.setup.limit
  unfolding number_bytes
  limit_read = from_be_bytes-to_be_bytes_8 h.setup.limit is.setup.fits

  most_read : u64_in behind 9 ≡ h.setup.max_batches
  unfolding number_bytes
  most_read = let b = is.setup.batches.1 in from_be_bytes-to_be_bytes_8 h.setup.max_batches (omega arith)

  first_read : u64_in behind 17 ≡ h.first
  unfolding number_bytes
  first_read = let b = is.setup.batches.1 in let c = is.first in from_be_bytes-to_be_bytes_8 h.first (omega arith)

  total_read : u64_in behind 25 ≡ h.total
  unfolding number_bytes
  total_read = let b = is.setup.fits in let c = is.total in from_be_bytes-to_be_bytes_8 h.total (omega arith)

  link_read : u32_in behind 33 ≡ h.link
  unfolding number_bytes
  link_read = from_be_bytes-to_be_bytes_4 h.link is.link

  -- what follows the cuts, with these bytes after the link
  abbrev behind_with : List ℕ → List ℕ
  behind_with l = ((shards_on ++ (number_bytes w64 h.first ++ (number_bytes w64 h.total ++
      (number_bytes w32 h.link ++ l)))) ++ zeros) ++ check_on

  high_read : u64_in (behind_with (identity_bytes h.identity)) 37 ≡ h.identity.book_high
  unfolding number_bytes
  high_read = from_be_bytes-to_be_bytes_8 h.identity.book_high is.named.high

  low_read : u64_in (behind_with (identity_bytes h.identity)) 45 ≡ h.identity.book_low
  unfolding number_bytes
  low_read = from_be_bytes-to_be_bytes_8 h.identity.book_low is.named.low

  window_read : u64_in (behind_with (identity_bytes h.identity)) 53 ≡ h.identity.window
  unfolding number_bytes
  window_read = from_be_bytes-to_be_bytes_8 h.identity.window is.named.window

  identity_at : List ℕ → Identity
  identity_at l = identity (u64_in l 37) (u64_in l 45) (u64_in l 53)

  identity_there : identity_at (behind_with (identity_bytes h.identity)) ≡ h.identity
  unfolding identity_at
  identity_there = λ i. identity (high_read i) (low_read i) (window_read i)

  identity_read : identity_in page ≡ h.identity
  unfolding identity_at
  identity_read =
      ap (λ (l : List ℕ). cond (version_in page == version) (identity_at l) unknown.identity) behind_is
      ∙ ap (λ (x : ℕ). cond (x == version) (identity_at behind) unknown.identity) version_read
      ∙ either (v == version) refl
    where
      either : (test : Bool) → (v == version) ≡ test →
          cond test (identity_at (behind_with (cond test (identity_bytes h.identity) []))) unknown.identity ≡ h.identity
      either true e = identity_there
      either false e = sym (old (let n = eqb-false v version e in let b = known.1 in omega arith))

  head_read : head_in page ≡ h
  head_read =
      by_numbers h (u64_in page 12) (u64_in page 20) (cuts_of (cut_count page) (drop 29 page))
      (slice_index (behind_cuts page) 0) (u64_in (behind_cuts page) 1) (u64_in (behind_cuts page) 9)
      (u64_in (behind_cuts page) 17) (u64_in (behind_cuts page) 25) (u32_in (behind_cuts page) 33) (identity_in page)
      rows_read cols_read cuts_are
      (ap (λ (l : List ℕ). slice_index l 0) behind_is ∙ shards_read)
      (ap (λ (l : List ℕ). u64_in l 1) behind_is ∙ limit_read)
      (ap (λ (l : List ℕ). u64_in l 9) behind_is ∙ most_read)
      (ap (λ (l : List ℕ). u64_in l 17) behind_is ∙ first_read)
      (ap (λ (l : List ℕ). u64_in l 25) behind_is ∙ total_read)
      (ap (λ (l : List ℕ). u32_in l 33) behind_is ∙ link_read)
      identity_read

  length-fields : length (field_bytes v h) ≡ fields_end v (length h.setup.cuts)
  unfolding number_bytes
  length-fields =
      let a = length-append (flat_map (number_bytes w64) h.setup.cuts) shards_on in
      let b = length-append (flat_map (number_bytes w64) h.setup.cuts ++ shards_on) first_on in
      let c = length-cuts h.setup.cuts in
      let d = length-named v h.identity in
      omega arith

  length-front : length (front_of v h) ≡ 4092
  length-front =
      let a = length-append (field_bytes v h) zeros in
      let b = length-fields in
      let c : length zeros ≡ 4092 - fields_end v (length h.setup.cuts) =
      length-replicate (4092 - fields_end v (length h.setup.cuts)) 0 in
      let d = few in
      let e = few_named v in
      omega arith

  check_read : HasCheck page
  check_read =
      let front = front_of v h in
      let sum = checksum_of front in
      let long = length-front in
      let small : sum < 2 ^ 32 = omega arith in
      let last : take 4 (drop 4092 page) ≡ number_bytes w32 sum =
      ap (λ (l : List ℕ). take 4 l) (drop_at front check_on 4092 long ∙ sym (append-nil check_on))
      ∙ take_at check_on [] 4 (wide32.len sum) in
      ap (λ (l : List ℕ). from_be_bytes w32 l) last ∙ wide32.again sum small
      ∙ ap (λ (l : List ℕ). checksum_of l) (sym (take_at front check_on 4092 long))

  filler_read : is_blank (filler page) ≡ true
  filler_read =
      let end = fields_end v (length h.setup.cuts) in
      let rest : drop end page ≡ zeros ++ check_on =
      ap (λ (l : List ℕ). drop end l) (append_assoc (field_bytes v h) zeros check_on)
      ∙ drop_at (field_bytes v h) (zeros ++ check_on) end length-fields in
      let is : filler page ≡ zeros =
      ap (λ (i : ℕ). take (4092 - fields_end (version_in page) i) (drop (fields_end (version_in page) i) page)) count_is
      ∙ ap (λ (x : ℕ). take (4092 - fields_end x (length h.setup.cuts)) (drop (fields_end x (length h.setup.cuts)) page))
      version_read
      ∙ ap (λ (l : List ℕ). take (4092 - end) l) rest
      ∙ take_at zeros check_on (4092 - end) (length-replicate (4092 - end) 0) in
      ap (λ (l : List ℕ). is_blank l) is ∙ zeros_blank (4092 - end)

  pub says : Says page h
  says = record {
    mark_is = mark_read;
    version_is = subst IsKnownVersion (sym version_read) known;
    head_is = head_read;
    most = subst (λ (x : ℕ). h.setup.max_batches ≤ most_batches_of x) (sym version_read) allowed;
    check = check_read;
    blank = filler_read;
  }

-- the page of a head as it is written
pub written_head : (h : LogHead) → IsHead h → HasHead (head_page h) h
written_head h is = record {
  is = is;
  page_version = version;
  low = omega arith;
  high = omega arith;
  old = λ less. absurd (omega arith);
  most = is.setup.batches.1;
  spelled = refl;
}
