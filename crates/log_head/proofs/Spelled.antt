-- A page whose mark, version and checksum are right, whose fields lie within their ranges, and which has 00 behind
-- them,
-- is the page of its head.
use Rattle.std.proofs.Common.{◌≡◌, ℕ, suc, ◌+◌, ◌-◌, ◌*◌, ◌^◌, ◌<◌, ◌≤◌, true, List, [], ◌∷◌, ◌++◌}
use Rattle.std.proofs.Common.{length, take, drop, replicate, flat_map, refl, sym, ap, subst, ◌∙◌, append_assoc, arith}
use Rattle.std.specs.Prelude.{slice_index, ◌==◌}
use Rattle.std.proofs.Common.{Bool, false, cond}
use Rattle.std.proofs.lemmas.Bool.{eqb-true}
use Rattle.std.specs.Int.{w8, w32, w64, from_be_bytes}
use Rattle.std.proofs.lemmas.List.{take-append-drop, length-append, length-take, length-drop, drop-drop, drop_all}
use Rattle.std.proofs.lemmas.List.{take_at}
use Rattle.std.proofs.lemmas.List.{append-nil, get_or-drop}
use Rattle.byte_io.proofs.BufferLemmas.{bytes_behind}
use Rattle.crc32c.specs.Remainders.{checksum_of}
use Rattle.snap_file.specs.Origins.{identity, unknown}
use Rattle.snap_file.specs.Spelling.{IsBytes, number_bytes, identity_bytes}
use Rattle.snap_file.specs.declared.origin.Identity.{Identity}
use Rattle.snap_file.proofs.Fields.{wide32, wide64}
use Rattle.log_page.specs.Pages.{is_blank}
use Rattle.log_head.specs.Heads.{mark, version, setup_bytes, field_bytes, fields_end, front_of, head_page_in, u64_in}
use Rattle.log_head.specs.Heads.{named_bytes, named_length, version_in, identity_in, IsKnownVersion}
use Rattle.log_head.specs.Heads.{u32_in}
use Rattle.log_head.specs.Heads.{cuts_of, cut_count, behind_cuts, setup_in, head_in, filler, HasCheck, IsHead, HasHead}
use Rattle.log_head.specs.Heads.{HasFields}
use Rattle.log_head.proofs.PageParts.{Stands, stands_on, number_stands, byte_stands, stands_as, length-cuts_of}
use Rattle.log_head.proofs.PageParts.{cuts_stand}
use Rattle.log_head.proofs.PageParts.{blank_is}

module _ (p : List ℕ) (bytes : IsBytes p) (len : length p ≡ 4096) (few : cut_count p ≤ 7) where
  abbrev n : ℕ
  n = cut_count p

  number64 : (a b : ℕ) → b ≡ a + 8 → b ≤ 4096 → Stands p a (number_bytes w64 (u64_in p a)) b
  number64 a b e within = number_stands w64 (2 ^ 64) wide64 p bytes a b e (omega arith)

  number32 : (a b : ℕ) → b ≡ a + 4 → b ≤ 4096 → Stands p a (number_bytes w32 (u32_in p a)) b
  number32 a b e within = number_stands w32 (2 ^ 32) wide32 p bytes a b e (omega arith)

  -- a number behind the cuts, by its place there
  behind64 : (i a b : ℕ) → a ≡ 29 + 8 * n + i → b ≡ a + 8 → b ≤ 4096 →
      Stands p a (number_bytes w64 (u64_in (behind_cuts p) i)) b
  behind64 i a b at e within =
      subst (λ (l : List ℕ). Stands p a (number_bytes w64 (from_be_bytes w64 (take 8 l))) b)
      (ap (λ (j : ℕ). drop j p) at ∙ sym (drop-drop i (29 + 8 * n) p)) (number64 a b e within)

  behind32 : (i a b : ℕ) → a ≡ 29 + 8 * n + i → b ≡ a + 4 → b ≤ 4096 →
      Stands p a (number_bytes w32 (u32_in (behind_cuts p) i)) b
  behind32 i a b at e within =
      subst (λ (l : List ℕ). Stands p a (number_bytes w32 (from_be_bytes w32 (take 4 l))) b)
      (ap (λ (j : ℕ). drop j p) at ∙ sym (drop-drop i (29 + 8 * n) p)) (number32 a b e within)

  shards_is : slice_index p (29 + 8 * n) ≡ slice_index (behind_cuts p) 0
  shards_is =
      ap (λ (i : ℕ). slice_index p i) {x = 29 + 8 * n} {y = 29 + 8 * n + 0} (omega arith)
      ∙ sym (get_or-drop (29 + 8 * n) p 0 0)

  cuts_part : Stands p 29 (flat_map (number_bytes w64) (cuts_of n (drop 29 p))) (29 + 8 * n)
  cuts_part = record {
    parts = cuts_stand n (drop 29 p) (bytes_behind 29 p bytes) (omega (arith, length-drop 29 p))
        ∙ ap (λ (l : List ℕ). flat_map (number_bytes w64) (cuts_of n (drop 29 p)) ++ l) (drop-drop (8 * n) 29 p);
  }

  setup_part : Stands p 12 (setup_bytes (setup_in p)) (46 + 8 * n)
  setup_part =
      stands_on p 12 20 (46 + 8 * n) _ _ (number64 12 20 refl (omega arith))
      (stands_on p 20 28 (46 + 8 * n) _ _ (number64 20 28 refl (omega arith))
      (stands_on p 28 29 (46 + 8 * n) _ _
      (stands_as p 28 29 w8 n _ (sym (length-cuts_of n (drop 29 p))) (byte_stands p bytes 28 29 refl (omega arith)))
      (stands_on p 29 (29 + 8 * n) (46 + 8 * n) _ _ cuts_part
      (stands_on p (29 + 8 * n) (30 + 8 * n) (46 + 8 * n) _ _
      (stands_as p (29 + 8 * n) (30 + 8 * n) w8 _ _ shards_is (byte_stands p bytes (29 + 8 * n) (30 + 8 * n)
      (omega arith) (omega arith)))
      (stands_on p (30 + 8 * n) (38 + 8 * n) (46 + 8 * n) _ _
      (behind64 1 (30 + 8 * n) (38 + 8 * n) (omega arith) (omega arith) (omega arith))
      (behind64 9 (38 + 8 * n) (46 + 8 * n) (omega arith) (omega arith) (omega arith)))))))

  abbrev v : ℕ
  v = version_in p

  -- whose the log is
  named_part : Stands p (66 + 8 * n) (named_bytes v (identity_in p)) (fields_end v n)
  named_part = either (v == version)
    where
      there : Stands p (66 + 8 * n)
          (identity_bytes (identity (u64_in (behind_cuts p) 37) (u64_in (behind_cuts p) 45) (u64_in (behind_cuts p) 53)))
          (66 + 8 * n + 24)
      there =
          stands_on p (66 + 8 * n) (74 + 8 * n) (66 + 8 * n + 24) _ _
          (behind64 37 (66 + 8 * n) (74 + 8 * n) (omega arith) (omega arith) (omega arith))
          (stands_on p (74 + 8 * n) (82 + 8 * n) (66 + 8 * n + 24) _ _
          (behind64 45 (74 + 8 * n) (82 + 8 * n) (omega arith) (omega arith) (omega arith))
          (behind64 53 (82 + 8 * n) (66 + 8 * n + 24) (omega arith) (omega arith) (omega arith)))

      either : (test : Bool) → Stands p (66 + 8 * n)
          (cond test (identity_bytes (cond test (identity (u64_in (behind_cuts p) 37) (u64_in (behind_cuts p) 45)
          (u64_in (behind_cuts p) 53)) unknown.identity)) []) (66 + 8 * n + cond test 24 0)
      either true = there
      either false = record { parts = ap (λ (i : ℕ). drop i p) {x = 66 + 8 * n} {y = 66 + 8 * n + 0} (omega arith) }

  within : fields_end v n ≤ 4092
  within = either (v == version)
    where
      either : (test : Bool) → 66 + 8 * n + cond test 24 0 ≤ 4092
      either true = omega arith
      either false = omega arith

  field_part : u64_in p 0 ≡ mark → Stands p 0 (field_bytes v (head_in p)) (fields_end v n)
  field_part mark_is =
      stands_on p 0 8 (fields_end v n) _ _ (stands_as p 0 8 w64 _ _ mark_is (number64 0 8 refl (omega arith)))
      (stands_on p 8 12 (fields_end v n) _ _ (number32 8 12 refl (omega arith))
      (stands_on p 12 (46 + 8 * n) (fields_end v n) _ _ setup_part
      (stands_on p (46 + 8 * n) (54 + 8 * n) (fields_end v n) _ _
      (behind64 17 (46 + 8 * n) (54 + 8 * n) (omega arith) (omega arith) (omega arith))
      (stands_on p (54 + 8 * n) (62 + 8 * n) (fields_end v n) _ _
      (behind64 25 (54 + 8 * n) (62 + 8 * n) (omega arith) (omega arith) (omega arith))
      (stands_on p (62 + 8 * n) (66 + 8 * n) (fields_end v n) _ _
      (behind32 33 (62 + 8 * n) (66 + 8 * n) (omega arith) (omega arith) (omega arith)) named_part)))))

  filler_part : is_blank (filler p) ≡ true → Stands p (fields_end v n) (replicate (4092 - fields_end v n) 0) 4092
  filler_part blank =
      let end = fields_end v n in
      let rest = drop end p in
      let low = within in
      let long : length (filler p) ≡ 4092 - end =
      omega (arith, length-take (4092 - end) rest, length-drop end p) in
      let zeros : filler p ≡ replicate (4092 - end) 0 =
      blank_is (filler p) blank ∙ ap (λ (i : ℕ). replicate i 0) long in
      record {
        parts = sym (take-append-drop (4092 - end) rest)
            ∙ ap (λ (l : List ℕ). l ++ drop (4092 - end) rest) zeros
            ∙ ap (λ (l : List ℕ). replicate (4092 - end) 0 ++ l)
            (drop-drop (4092 - end) end p
            ∙ ap (λ (i : ℕ). drop i p) {x = end + (4092 - end)} {y = 4092} (omega arith));
      }

  front_part : u64_in p 0 ≡ mark → is_blank (filler p) ≡ true → Stands p 0 (front_of v (head_in p)) 4092
  front_part mark_is blank =
      subst (λ (i : ℕ). Stands p 0 (field_bytes v (head_in p) ++ replicate (4092 - fields_end v i) 0) 4092)
      (sym (length-cuts_of n (drop 29 p)))
      (stands_on p 0 (fields_end v n) 4092 _ _ (field_part mark_is) (filler_part blank))

  page_is : u64_in p 0 ≡ mark → HasCheck p → is_blank (filler p) ≡ true → p ≡ head_page_in v (head_in p)
  page_is mark_is check blank =
      let front = front_of v (head_in p) in
      let parts : p ≡ front ++ drop 4092 p = (front_part mark_is blank).parts in
      let whole : length p ≡ length front + length (drop 4092 p) =
      ap (λ (l : List ℕ). length l) parts ∙ length-append front (drop 4092 p) in
      let long : length front ≡ 4092 = omega (arith, length-drop 4092 p) in
      let front_is : take 4092 p ≡ front = ap (λ (l : List ℕ). take 4092 l) parts
      ∙ take_at front (drop 4092 p) 4092 long in
      let last = (number32 4092 4096 refl (omega arith)).parts in
      let none : drop 4096 p ≡ [] = drop_all 4096 p (omega arith) in
      let sum : u32_in p 4092 ≡ checksum_of front = check ∙ ap (λ (l : List ℕ). checksum_of l) front_is in
      parts ∙ ap (λ (l : List ℕ). front ++ l)
      (last ∙ ap (λ (l : List ℕ). number_bytes w32 (u32_in p 4092) ++ l) none ∙ append-nil _
      ∙ ap (λ (i : ℕ). number_bytes w32 i) sum)

-- the number of cuts of fields that lie within their ranges
pub few_cuts : (p : List ℕ) → IsHead (head_in p) → cut_count p ≤ 7
few_cuts p is = subst (λ (i : ℕ). i ≤ 7) (length-cuts_of (cut_count p) (drop 29 p)) is.setup.cuts.few

pub spelled : (p : List ℕ) → IsBytes p → length p ≡ 4096 → HasFields p → HasCheck p → is_blank (filler p) ≡ true →
    HasHead p (head_in p)
spelled p bytes len fields check blank = record {
  is = fields.1.0;
  page_version = version_in p;
  low = fields.0.1.0;
  high = fields.0.1.1;
  old = old_is (version_in p == version) refl;
  most = fields.1.1;
  spelled = page_is p bytes len (few_cuts p fields.1.0) fields.0.0 check blank;
}
  where
    old_is : (test : Bool) → (version_in p == version) ≡ test → version_in p < version →
        cond test (identity (u64_in (behind_cuts p) 37) (u64_in (behind_cuts p) 45) (u64_in (behind_cuts p) 53))
        unknown.identity ≡ unknown.identity
    old_is true e less = absurd (let same = eqb-true (version_in p) version e in omega arith)
    old_is false e less = refl
