-- A whole page has its checksum in front. With the remainder behind instead the same number of bits differ, and what is
-- known of bytes says the rest.
use Rattle.std.proofs.Common.{◌≡◌, ◌≢◌, ℕ, zero, suc, ◌+◌, ◌-◌, ◌/◌, ◌%◌, ◌^◌, ◌<◌, ◌≤◌, List, [], ◌∷◌, ◌++◌}
use Rattle.std.proofs.Common.{length, get_or, take, drop, refl, sym, ◌∙◌, ap, arith, length-append}
use Rattle.std.specs.Int.{w32, to_be_bytes, from_be_bytes}
use Rattle.std.proofs.lemmas.Nat.{be_bytes_4, from_be_bytes-to_be_bytes_4}
use Rattle.crc32c.specs.Remainders.{after_bytes, all_ones, complement, checksum_of}
use Rattle.crc32c.specs.Changes.{IsBytes, bits_of, HasOddChanges, IsBurst, IsPair}
use Rattle.log_page.specs.Pages.{kind_of, right_check}
use Rattle.log_page.specs.declared.page.PageKind.TheVariants.{Whole}
use Rattle.log_page.proofs.Losses.{whole_parts, same_parts, by_check}
use Rattle.page_damage.specs.Damage.{HasTwoChanges}
use Rattle.page_damage.proofs.Distances.{distance, distance_is, distance-cons, distance-append, distance-none, turned_bytes, length-bits_of}
use Rattle.page_damage.proofs.Moved.{bytes_of, moved, after-below, checksum_moved, are_bytes-moved}
use Rattle.page_damage.proofs.TwoBits.{first_apart, none_differ}

abbrev pub OddLaw : Type 0
OddLaw = (old new : List ℕ) → IsBytes old → IsBytes new → HasOddChanges old new → checksum_of old ≢ checksum_of new

abbrev pub PairLaw : Type 0
PairLaw = (old new : List ℕ) → IsBytes old → IsBytes new → IsPair 32766 old new → checksum_of old ≢ checksum_of new

-- the bytes behind the checksum, and the remainder of those
body : List ℕ → List ℕ
body page = drop 4 page

rest_of : List ℕ → ℕ
rest_of page = after_bytes all_ones (drop 4 page)

are_bytes-drop : (n : ℕ) (xs : List ℕ) → IsBytes xs → IsBytes (drop n xs)
are_bytes-drop zero xs are = are
are_bytes-drop (suc n) [] are = are
are_bytes-drop (suc n) (x ∷ xs) are = are_bytes-drop n xs (λ i. are (suc i))

-- the bytes of a checksum are those of the remainder, turned over, the highest first
turned_over : ℕ → List ℕ
turned_over r =
    (255 - r / 256 / 256 / 256 % 256) ∷ (255 - r / 256 / 256 % 256) ∷ (255 - r / 256 % 256) ∷ (255 - r % 256) ∷ []

turned_small : (r i : ℕ) → get_or (turned_over r) i 0 < 256
unfolding turned_over
turned_small r zero = omega arith
turned_small r (suc zero) = omega arith
turned_small r (suc (suc zero)) = omega arith
turned_small r (suc (suc (suc zero))) = omega arith
turned_small r (suc (suc (suc (suc i)))) = omega arith

check_is : (r : ℕ) → r < 2 ^ 32 → to_be_bytes w32 (complement r) ≡ turned_over r
unfolding turned_over
check_is r lt = be_bytes_4 (turned_over r) (complement r) refl (turned_small r) (omega arith)

-- of a whole page: its check is that of its remainder, and the rest of it behind that
record Checked (page : List ℕ) : Type 0 where
  pub is : page ≡ turned_over (rest_of page) ++ body page
  pub below : rest_of page < 2 ^ 32

checked : (page : List ℕ) → IsBytes page → length page ≡ 4096 → kind_of page ≡ Whole → Checked page
unfolding body rest_of turned_over
checked page are long whole =
    let r = after_bytes all_ones (drop 4 page) in
    let lt = after-below all_ones (drop 4 page) (omega arith) (are_bytes-drop 4 page are) in
    let parts = same_parts page (right_check page) (whole_parts page whole).1 in
    let right = check_is r lt in
    let e0 : get_or page 0 0 ≡ 255 - r / 256 / 256 / 256 % 256 = parts.0 ∙ ap (λ (l : List ℕ). get_or l 0 0) right in
    let e1 : get_or page 1 0 ≡ 255 - r / 256 / 256 % 256 = parts.1 ∙ ap (λ (l : List ℕ). get_or l 1 0) right in
    let e2 : get_or page 2 0 ≡ 255 - r / 256 % 256 = parts.2 ∙ ap (λ (l : List ℕ). get_or l 2 0) right in
    let e3 : get_or page 3 0 ≡ 255 - r % 256 = parts.3 ∙ ap (λ (l : List ℕ). get_or l 3 0) right in
    let p = by_check page (omega arith) in
    record { is = cc; below = lt }

-- the bytes of two remainders differ in as many bits as those of their checksums
four_bytes : (r s : ℕ) → distance (turned_over r) (turned_over s) ≡ distance (bytes_of r) (bytes_of s)
unfolding turned_over bytes_of
four_bytes r s =
    let a0 = r % 256 in let a1 = r / 256 % 256 in let a2 = r / 256 / 256 % 256 in let a3 = r / 256 / 256 / 256 % 256 in
    let b0 = s % 256 in let b1 = s / 256 % 256 in let b2 = s / 256 / 256 % 256 in let b3 = s / 256 / 256 / 256 % 256 in
    let t0 = turned_bytes a0 b0 (omega arith) (omega arith) in
    let t1 = turned_bytes a1 b1 (omega arith) (omega arith) in
    let t2 = turned_bytes a2 b2 (omega arith) (omega arith) in
    let t3 = turned_bytes a3 b3 (omega arith) (omega arith) in
    let none = distance-none in
    let x0 = distance-cons (255 - a0) (255 - b0) [] [] in
    let x1 = distance-cons (255 - a1) (255 - b1) ((255 - a0) ∷ []) ((255 - b0) ∷ []) in
    let x2 = distance-cons (255 - a2) (255 - b2) ((255 - a1) ∷ (255 - a0) ∷ []) ((255 - b1) ∷ (255 - b0) ∷ []) in
    let x3 = distance-cons (255 - a3) (255 - b3) ((255 - a2) ∷ (255 - a1) ∷ (255 - a0) ∷ [])
    ((255 - b2) ∷ (255 - b1) ∷ (255 - b0) ∷ []) in
    let y3 = distance-cons a3 b3 [] [] in
    let y2 = distance-cons a2 b2 (a3 ∷ []) (b3 ∷ []) in
    let y1 = distance-cons a1 b1 (a2 ∷ a3 ∷ []) (b2 ∷ b3 ∷ []) in
    let y0 = distance-cons a0 b0 (a1 ∷ a2 ∷ a3 ∷ []) (b1 ∷ b2 ∷ b3 ∷ []) in
    omega arith

four_long : (r : ℕ) → length (turned_over r) ≡ 4
unfolding turned_over
four_long r = refl

bytes_long : (r : ℕ) → length (bytes_of r) ≡ 4
unfolding bytes_of
bytes_long r = refl

length-body : (p : List ℕ) → length p ≡ 4096 → length (body p) ≡ 4092
unfolding body
length-body (a ∷ b ∷ c ∷ d ∷ p) l = omega arith
length-body [] l = absurd (omega arith)
length-body (a ∷ []) l = absurd (omega arith)
length-body (a ∷ b ∷ []) l = absurd (omega arith)
length-body (a ∷ b ∷ c ∷ []) l = absurd (omega arith)

module _ (page changed : List ℕ) (are : IsBytes page) (are' : IsBytes changed) (long : length page ≡ 4096)
    (long' : length changed ≡ 4096) (whole : kind_of page ≡ Whole) (whole' : kind_of changed ≡ Whole) where
  -- as many bits differ of the pages as of what stands behind their checksums with the remainders behind
  moved_distance : distance (moved (body page)) (moved (body changed)) ≡ distance page changed
  unfolding moved rest_of body
  moved_distance =
      let c = checked page are long whole in
      let d = checked changed are' long' whole' in
      let r = rest_of page in
      let s = rest_of changed in
      let front = distance-append (turned_over r) (turned_over s) (body page) (body changed)
      (four_long r ∙ sym (four_long s)) in
      let behind = distance-append (body page) (body changed) (bytes_of r) (bytes_of s)
      (length-body page long ∙ sym (length-body changed long')) in
      let four = four_bytes r s in
      let pages : distance page changed ≡ distance (turned_over r ++ body page) (turned_over s ++ body changed) =
      ap (λ (l : List ℕ). distance l changed) c.is
      ∙ ap (λ (l : List ℕ). distance (turned_over r ++ body page) l) d.is in
      behind ∙ sum_of (distance (body page) (body changed)) (distance (bytes_of r) (bytes_of s))
      (distance (turned_over r) (turned_over s)) _ _ four front (sym pages)
    where
      sum_of : (b f t w p : ℕ) → t ≡ f → w ≡ t + b → w ≡ p → b + f ≡ p
      sum_of b f t w p e g h = omega arith

  same_checksum : checksum_of (moved (body page)) ≡ checksum_of (moved (body changed))
  unfolding body
  same_checksum =
      checksum_moved (drop 4 page) (are_bytes-drop 4 page are)
      ∙ sym (checksum_moved (drop 4 changed) (are_bytes-drop 4 changed are'))

  moved_bytes : IsBytes (moved (body page))
  unfolding body
  moved_bytes = are_bytes-moved (drop 4 page) (are_bytes-drop 4 page are)

  moved_bytes' : IsBytes (moved (body changed))
  unfolding body
  moved_bytes' = are_bytes-moved (drop 4 changed) (are_bytes-drop 4 changed are')

  length-moved : (p : List ℕ) → length p ≡ 4096 → length (moved (body p)) ≡ 4096
  unfolding moved rest_of body
  length-moved p l =
      let r = rest_of p in
      let all = length-append (body p) (bytes_of r) in
      let b = length-body p l in
      let f = bytes_long r in
      omega arith

  no_odd : OddLaw → distance page changed % 2 ≡ 1 → ⊥
  no_odd law odd =
      let e = moved_distance in
      let d = distance_is (moved (body page)) (moved (body changed)) in
      law (moved (body page)) (moved (body changed)) moved_bytes moved_bytes' (record {
        same_length = length-moved page long ∙ sym (length-moved changed long');
        odd = omega arith;
      }) same_checksum

  no_pair : PairLaw → distance page changed ≡ 2 → ⊥
  no_pair law two =
      let xs = bits_of (moved (body page)) in
      let ys = bits_of (moved (body changed)) in
      let e = moved_distance in
      let d = distance_is (moved (body page)) (moved (body changed)) in
      let n = length-bits_of (moved (body page)) in
      let n' = length-bits_of (moved (body changed)) in
      let m = length-moved page long in
      let m' = length-moved changed long' in
      let one = first_apart xs ys (omega arith) (omega arith) in
      let more = one.more in
      let other = first_apart one.back one.back' one.same_length (omega arith) in
      let last = other.more in
      let rest : other.back ≡ other.back' = none_differ other.back other.back' other.same_length (omega arith) in
      let all = length-append one.front (one.a ∷ one.back) in
      let behind = length-append other.front (other.a ∷ other.back) in
      let whole_length : length xs ≡ length (one.front ++ (one.a ∷ one.back)) = ap length one.xs_is in
      let back_length : length one.back ≡ length (other.front ++ (other.a ∷ other.back)) = ap length other.xs_is in
      law (moved (body page)) (moved (body changed)) moved_bytes moved_bytes' (record {
        front = one.front;
        between = other.front;
        back = other.back;
        a = one.a;
        b = other.a;
        c = one.c;
        d = other.c;
        old_is = one.xs_is ∙ ap (λ (l : List ℕ). one.front ++ (one.a ∷ l)) other.xs_is;
        new_is = one.ys_is ∙ ap (λ (l : List ℕ). one.front ++ (one.c ∷ l)) (other.ys_is
            ∙ ap (λ (l : List ℕ). other.front ++ (other.c ∷ l)) (sym rest));
        first_differs = one.differs;
        second_differs = other.differs;
        near = omega arith;
      }) same_checksum

pub odd_page : OddLaw → (page changed : List ℕ) → IsBytes page → IsBytes changed → length page ≡ 4096 →
    kind_of page ≡ Whole → HasOddChanges page changed → kind_of changed ≡ Whole → ⊥
odd_page law page changed are are' long whole odd whole' =
    let d = distance_is page changed in
    let o = odd.odd in
    no_odd page changed are are' long (sym odd.same_length ∙ long) whole whole' law (omega arith)

pub pair_page : PairLaw → (page changed : List ℕ) → IsBytes page → IsBytes changed → length page ≡ 4096 →
    kind_of page ≡ Whole → HasTwoChanges page changed → kind_of changed ≡ Whole → ⊥
pair_page law page changed are are' long whole pair whole' =
    let d = distance_is page changed in
    let t = pair.two in
    no_pair page changed are are' long (sym pair.same_length ∙ long) whole whole' law (omega arith)

-- the four bytes of a check, and those of a page
four_bytes_of : (xs : List ℕ) → length xs ≡ 4 →
    xs ≡ get_or xs 0 0 ∷ get_or xs 1 0 ∷ get_or xs 2 0 ∷ get_or xs 3 0 ∷ []
four_bytes_of (a ∷ b ∷ c ∷ d ∷ []) e = refl
four_bytes_of [] e = absurd (omega arith)
four_bytes_of (a ∷ []) e = absurd (omega arith)
four_bytes_of (a ∷ b ∷ []) e = absurd (omega arith)
four_bytes_of (a ∷ b ∷ c ∷ []) e = absurd (omega arith)
four_bytes_of (a ∷ b ∷ c ∷ d ∷ e ∷ xs) h = absurd (omega arith)

first_four : List ℕ → List ℕ
first_four page = get_or page 0 0 ∷ get_or page 1 0 ∷ get_or page 2 0 ∷ get_or page 3 0 ∷ []

taken : (page : List ℕ) → 4 ≤ length page → take 4 page ≡ first_four page
unfolding first_four
taken (a ∷ b ∷ c ∷ d ∷ page) e = refl
taken [] e = absurd (omega arith)
taken (a ∷ []) e = absurd (omega arith)
taken (a ∷ b ∷ []) e = absurd (omega arith)
taken (a ∷ b ∷ c ∷ []) e = absurd (omega arith)

-- a whole page begins with the check that it should have
begins : (page : List ℕ) → kind_of page ≡ Whole → first_four page ≡ right_check page
unfolding first_four
begins page whole =
    let parts = same_parts page (right_check page) (whole_parts page whole).1 in
    let e0 = parts.0 in let e1 = parts.1 in let e2 = parts.2 in let e3 = parts.3 in
    let right = four_bytes_of (right_check page) refl in
    cc

complement-below : (r : ℕ) → complement r < 2 ^ 32
complement-below r = omega arith

abbrev pub BurstLaw : Type 0
BurstLaw = (old new : List ℕ) → IsBytes old → IsBytes new → IsBurst 32 old new → checksum_of old ≢ checksum_of new

pub burst_behind : BurstLaw → (page changed : List ℕ) → IsBytes page → IsBytes changed → length page ≡ 4096 →
    length changed ≡ 4096 → kind_of page ≡ Whole → take 4 page ≡ take 4 changed →
    IsBurst 32 (drop 4 page) (drop 4 changed) → kind_of changed ≡ Whole → ⊥
burst_behind law page changed are are' long long' whole front burst whole' =
    let same : right_check page ≡ right_check changed =
    sym (begins page whole) ∙ sym (taken page (omega arith)) ∙ front ∙ taken changed (omega arith)
    ∙ begins changed whole' in
    let numbers : checksum_of (drop 4 page) ≡ checksum_of (drop 4 changed) =
    sym (from_be_bytes-to_be_bytes_4 (checksum_of (drop 4 page)) (complement-below _))
    ∙ ap (from_be_bytes w32) same
    ∙ from_be_bytes-to_be_bytes_4 (checksum_of (drop 4 changed)) (complement-below _) in
    law (drop 4 page) (drop 4 changed) (are_bytes-drop 4 page are) (are_bytes-drop 4 changed are') burst numbers

pub burst_within : (page changed : List ℕ) → length page ≡ 4096 → length changed ≡ 4096 → kind_of page ≡ Whole →
    drop 4 page ≡ drop 4 changed → (page ≡ changed → ⊥) → kind_of changed ≡ Whole → ⊥
unfolding first_four
burst_within page changed long long' whole rest other whole' =
    let same : first_four page ≡ first_four changed =
    begins page whole ∙ ap (λ (l : List ℕ). to_be_bytes w32 (checksum_of l)) rest ∙ sym (begins changed whole') in
    let p = by_check page (omega arith) in
    let q = by_check changed (omega arith) in
    let e0 : get_or page 0 0 ≡ get_or changed 0 0 = ap (λ (l : List ℕ). get_or l 0 0) same in
    let e1 : get_or page 1 0 ≡ get_or changed 1 0 = ap (λ (l : List ℕ). get_or l 1 0) same in
    let e2 : get_or page 2 0 ≡ get_or changed 2 0 = ap (λ (l : List ℕ). get_or l 2 0) same in
    let e3 : get_or page 3 0 ≡ get_or changed 3 0 = ap (λ (l : List ℕ). get_or l 3 0) same in
    other (cc)
