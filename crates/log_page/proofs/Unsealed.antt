-- A page that is whole is the page of what it says, and what is read is the log of it.
use Rattle.std.proofs.Common.{◌≡◌, ℕ, ◌+◌, ◌/◌, ◌%◌, ◌<◌, ◌≤◌, Bool, true, nat_lt, List, ◌∷◌, ◌++◌, length, get_or, take, drop, refl, sym, ◌∙◌, ap, subst, arith, inl, inr, take-append-drop}
use Rattle.std.specs.Prelude.{◌==◌, ◌&&◌, ◌||◌}
use Rattle.std.specs.Int.{w16, w32, w64, to_be_bytes, from_be_bytes}
use Rattle.std.proofs.lemmas.Bool.{and_parts, eqb-true, cases_lt}
use Rattle.std.proofs.lemmas.List.{drop-drop, length-take, length-take-le, get_or_past, length-drop, get_or-take, get_or-drop}
use Rattle.std.proofs.lemmas.Nat.{be_bytes_2, be_bytes_4, be_bytes_8}
use Rattle.crc32c.specs.Remainders.{checksum_of}
use Rattle.log_page.specs.Pages.{zeros_in, right_check, kind_of, page_of, body_of, sealed, counted, kind_field, place_field, page_field, pages_field, chunk_field, is_next, IsBytes}
use Rattle.log_page.specs.declared.page.PageKind.TheVariants.{Whole}
use Rattle.log_page.proofs.Losses.{whole_parts, same_parts, by_check, by_count}

-- a part of a page has bytes
pub few : (p : List ℕ) (at n i : ℕ) → IsBytes p → get_or (take n (drop at p)) i 0 < 256
few p at n i bytes =
    elim (cases_lt i n) [
      | inl within ↦ subst (λ x. x < 256) (sym (get_or-take n (drop at p) i 0 within ∙ get_or-drop at p i 0))
          (bytes (at + i))
      | inr past ↦
          let none : get_or (take n (drop at p)) i 0 ≡ 0 =
          get_or_past (take n (drop at p)) i 0 (omega (arith, length-take n (drop at p))) in
          omega arith
    ]

-- n bytes of a page, by the number that they are
module _ (p : List ℕ) (bytes : IsBytes p) (at n : ℕ) where
  field_2 : at + 2 ≤ length p → from_be_bytes w16 (take 2 (drop at p)) ≡ n → take 2 (drop at p) ≡ to_be_bytes w16 n
  field_2 room is = sym (be_bytes_2 (take 2 (drop at p)) n
      (length-take-le 2 (drop at p) (omega (arith, length-drop at p))) (λ i. few p at 2 i bytes) (sym is))

  field_4 : at + 4 ≤ length p → from_be_bytes w32 (take 4 (drop at p)) ≡ n → take 4 (drop at p) ≡ to_be_bytes w32 n
  field_4 room is = sym (be_bytes_4 (take 4 (drop at p)) n
      (length-take-le 4 (drop at p) (omega (arith, length-drop at p))) (λ i. few p at 4 i bytes) (sym is))

  field_8 : at + 8 ≤ length p → from_be_bytes w64 (take 8 (drop at p)) ≡ n → take 8 (drop at p) ≡ to_be_bytes w64 n
  field_8 room is = sym (be_bytes_8 (take 8 (drop at p)) n
      (length-take-le 8 (drop at p) (omega (arith, length-drop at p))) (λ i. few p at 8 i bytes) (sym is))

-- a part and what stands behind it
parted_at : (p : List ℕ) (at n : ℕ) → drop at p ≡ take n (drop at p) ++ drop (at + n) p
parted_at p at n = sym (take-append-drop n (drop at p))
    ∙ ap (λ (l : List ℕ). take n (drop at p) ++ l) (drop-drop n at p)

next_fields : (a b c d e : Bool) → (a && b && c && d && e) ≡ true → (a ≡ true) × (b ≡ true) × (c ≡ true)
next_fields a b c d e all =
    let four = and_parts (a && b && c && d) e all in
    let three = and_parts (a && b && c) d four.0 in
    let two = and_parts (a && b) c three.0 in
    let one = and_parts a b two.0 in
    (one.0, one.1, two.1)

module _ (place page known : ℕ) (p : List ℕ) (long : length p ≡ 4096) (bytes : IsBytes p) where
  body_is : is_next place page known p ≡ true → drop 6 p ≡ body_of place page (pages_field p) (chunk_field p)
  body_is next =
      let fields = next_fields (kind_field p == 1) (place_field p == place) (page_field p == page)
      (nat_lt page (pages_field p)) ((known == 0) || (pages_field p == known)) next in
      let k = field_2 p bytes 6 1 (omega arith) (eqb-true (kind_field p) 1 fields.0) in
      let l = field_8 p bytes 8 place (omega arith) (eqb-true (place_field p) place fields.1) in
      let m = field_4 p bytes 16 page (omega arith) (eqb-true (page_field p) page fields.2) in
      let n = field_4 p bytes 20 (pages_field p) (omega arith) refl in
      let rest = chunk_field p in
      let behind_20 : drop 20 p ≡ to_be_bytes w32 (pages_field p) ++ rest = parted_at p 20 4
      ∙ ap (λ (x : List ℕ). x ++ rest) n in
      let behind_16 : drop 16 p ≡ to_be_bytes w32 page ++ drop 20 p = parted_at p 16 4
      ∙ ap (λ (x : List ℕ). x ++ drop 20 p) m in
      let behind_8 : drop 8 p ≡ to_be_bytes w64 place ++ drop 16 p = parted_at p 8 8
      ∙ ap (λ (x : List ℕ). x ++ drop 16 p) l in
      let behind_6 : drop 6 p ≡ to_be_bytes w16 1 ++ drop 8 p = parted_at p 6 2 ∙ ap (λ (x : List ℕ). x ++ drop 8 p) k
      in
      behind_6 ∙ ap (λ (x : List ℕ). to_be_bytes w16 1 ++ x) (behind_8
      ∙ ap (λ (x : List ℕ). to_be_bytes w64 place ++ x) (behind_16
      ∙ ap (λ (x : List ℕ). to_be_bytes w32 page ++ x) behind_20))

  counted_is : kind_of p ≡ Whole → drop 4 p ≡ counted (drop 6 p)
  counted_is whole =
      let parts = whole_parts p whole in
      let z = zeros_in (drop 6 p) in
      let high : get_or p 4 0 ≡ z / 256 % 256 = omega (arith, parts.0, bytes 4, bytes 5) in
      let low : get_or p 5 0 ≡ z % 256 = omega (arith, parts.0, bytes 4, bytes 5) in
      by_count p (omega arith) ∙ ap (λ x. x ∷ get_or p 5 0 ∷ drop 6 p) high
      ∙ ap (λ x. (z / 256 % 256) ∷ x ∷ drop 6 p) low

  sealed_is : kind_of p ≡ Whole → p ≡ sealed (drop 6 p)
  sealed_is whole =
      let checks = same_parts p (right_check p) (whole_parts p whole).1 in
      let v = checksum_of (drop 4 p) in
      let front : p ≡ to_be_bytes w32 (checksum_of (drop 4 p)) ++ drop 4 p =
      by_check p (omega arith)
      ∙ ap (λ x. x ∷ get_or p 1 0 ∷ get_or p 2 0 ∷ get_or p 3 0 ∷ drop 4 p) checks.0
      ∙ ap (λ x. get_or (right_check p) 0 0 ∷ x ∷ get_or p 2 0 ∷ get_or p 3 0 ∷ drop 4 p) checks.1
      ∙ ap (λ x. get_or (right_check p) 0 0 ∷ get_or (right_check p) 1 0 ∷ x ∷ get_or p 3 0 ∷ drop 4 p) checks.2
      ∙ ap (λ x. get_or (right_check p) 0 0 ∷ get_or (right_check p) 1 0 ∷ get_or (right_check p) 2 0 ∷ x ∷ drop 4 p)
      checks.3 in
      front ∙ ap (λ (l : List ℕ). to_be_bytes w32 (checksum_of l) ++ l) (counted_is whole)

  -- the page is the one that it says
  pub unsealed : kind_of p ≡ Whole → is_next place page known p ≡ true →
      p ≡ page_of place page (pages_field p) (chunk_field p)
  unfolding page_of
  unsealed whole next = sealed_is whole ∙ ap sealed (body_is next)
