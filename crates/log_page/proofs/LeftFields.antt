-- What a loss of bytes leaves of what a page says of itself.
use Rattle.std.proofs.Common.{◌≡◌, ◌⊎◌, inl, inr, ⊎_elim, ℕ, ◌<◌, Bool, true, List, get_or, arith}
use Rattle.std.specs.Prelude.{◌==◌, ◌&&◌}
use Rattle.std.specs.Int.{w16, w32, w64, to_be_bytes}
use Rattle.std.proofs.lemmas.Bool.{and_parts, and_from, or_left, or_right, or_cases, eq-eqb, eqb-true}
use Rattle.std.proofs.lemmas.List.Elements.{AllZip-get_or}
use Rattle.log_page.specs.Pages.{pages_bytes, Lost, page_of, fields_of, fields_in, is_left, is_left_kind, is_left_front, is_left_back, is_left_place, is_left_number, is_left_page, left_at}
use Rattle.log_page.proofs.PageFields.{PageFits, length-page_of}

-- a byte, and what is left of it
abbrev pub LeftOf : ℕ → ℕ → Type 0
LeftOf byte kept = (kept ≡ byte) ⊎ (kept ≡ 0)

pub left_true : (byte kept : ℕ) → LeftOf byte kept → is_left kept byte ≡ true
left_true byte kept (inl same) = or_right (kept == 0) (kept == byte) (eq-eqb kept byte same)
left_true byte kept (inr gone) = or_left (kept == 0) (kept == byte) (eq-eqb kept 0 gone)

pub true_left : (byte kept : ℕ) → is_left kept byte ≡ true → LeftOf byte kept
true_left byte kept left =
    ⊎_elim (λ gone. inr (eqb-true kept 0 gone)) (λ same. inl (eqb-true kept byte same))
    (or_cases (kept == 0) (kept == byte) left)

-- ---- several tests

pub all_four : (a b c d : Bool) → a ≡ true → b ≡ true → c ≡ true → d ≡ true → (a && b && c && d) ≡ true
all_four a b c d pa pb pc pd = and_from (a && b && c) d (and_from (a && b) c (and_from a b pa pb) pc) pd

pub four_parts : (a b c d : Bool) → (a && b && c && d) ≡ true → (a ≡ true) × (b ≡ true) × (c ≡ true) × (d ≡ true)
four_parts a b c d all =
    let three = and_parts (a && b && c) d all in
    let two = and_parts (a && b) c three.0 in
    let one = and_parts a b two.0 in
    (one.0, one.1, two.1, three.1)

-- the four bytes of a number, of which these are left
abbrev pub AreLeftOf : ℕ → List ℕ → Type 0
AreLeftOf number kept =
    LeftOf (get_or (to_be_bytes w32 number) 0 0) (get_or kept 0 0) ×
    LeftOf (get_or (to_be_bytes w32 number) 1 0) (get_or kept 1 0) ×
    LeftOf (get_or (to_be_bytes w32 number) 2 0) (get_or kept 2 0) ×
    LeftOf (get_or (to_be_bytes w32 number) 3 0) (get_or kept 3 0)

-- ---- the fields, byte by byte

module _ (place page pages : ℕ) (p : List ℕ) where
  -- what is left of the fields passes the tests
  pub left_fields : Lost (fields_of place page pages) (fields_in p) →
      (is_left_page place page p ≡ true) × AreLeftOf pages (pages_bytes p)
  left_fields lost =
      let l6 = lost in
      let l7 = l6.1 in
      let l8 = l7.1 in
      let l9 = l8.1 in
      let l10 = l9.1 in
      let l11 = l10.1 in
      let l12 = l11.1 in
      let l13 = l12.1 in
      let l14 = l13.1 in
      let l15 = l14.1 in
      let l16 = l15.1 in
      let l17 = l16.1 in
      let l18 = l17.1 in
      let l19 = l18.1 in
      let l20 = l19.1 in
      let l21 = l20.1 in
      let l22 = l21.1 in
      let l23 = l22.1 in
      let kind : is_left_kind p ≡ true = and_from (left_at p 6 (to_be_bytes w16 1) 0)
      (left_at p 6 (to_be_bytes w16 1) 1) (left_true _ _ l6.0) (left_true _ _ l7.0) in
      let front : is_left_front place p ≡ true =
      all_four (left_at p 8 (to_be_bytes w64 place) 0) (left_at p 8 (to_be_bytes w64 place) 1)
      (left_at p 8 (to_be_bytes w64 place) 2) (left_at p 8 (to_be_bytes w64 place) 3)
      (left_true _ _ l8.0) (left_true _ _ l9.0) (left_true _ _ l10.0) (left_true _ _ l11.0) in
      let back : is_left_back place p ≡ true =
      all_four (left_at p 8 (to_be_bytes w64 place) 4) (left_at p 8 (to_be_bytes w64 place) 5)
      (left_at p 8 (to_be_bytes w64 place) 6) (left_at p 8 (to_be_bytes w64 place) 7)
      (left_true _ _ l12.0) (left_true _ _ l13.0) (left_true _ _ l14.0) (left_true _ _ l15.0) in
      let place_is : is_left_place place p ≡ true =
      and_from (is_left_front place p) (is_left_back place p) front back in
      let number : is_left_number page p ≡ true =
      all_four (left_at p 16 (to_be_bytes w32 page) 0) (left_at p 16 (to_be_bytes w32 page) 1)
      (left_at p 16 (to_be_bytes w32 page) 2) (left_at p 16 (to_be_bytes w32 page) 3)
      (left_true _ _ l16.0) (left_true _ _ l17.0) (left_true _ _ l18.0) (left_true _ _ l19.0) in (
        and_from (is_left_kind p && is_left_place place p) (is_left_number page p)
            (and_from (is_left_kind p) (is_left_place place p) kind place_is) number,
        (l20.0, l21.0, l22.0, l23.0),
      )

  -- what passes them is left of the fields
  pub fields_left : is_left_page place page p ≡ true → AreLeftOf pages (pages_bytes p) →
      Lost (fields_of place page pages) (fields_in p)
  fields_left tests bytes =
      let outer = and_parts (is_left_kind p && is_left_place place p) (is_left_number page p) tests in
      let inner = and_parts (is_left_kind p) (is_left_place place p) outer.0 in
      let kind = and_parts (left_at p 6 (to_be_bytes w16 1) 0) (left_at p 6 (to_be_bytes w16 1) 1) inner.0 in
      let halves = and_parts (is_left_front place p) (is_left_back place p) inner.1 in
      let four = four_parts (left_at p 8 (to_be_bytes w64 place) 0) (left_at p 8 (to_be_bytes w64 place) 1)
      (left_at p 8 (to_be_bytes w64 place) 2) (left_at p 8 (to_be_bytes w64 place) 3) halves.0 in
      let last = four_parts (left_at p 8 (to_be_bytes w64 place) 4) (left_at p 8 (to_be_bytes w64 place) 5)
      (left_at p 8 (to_be_bytes w64 place) 6) (left_at p 8 (to_be_bytes w64 place) 7) halves.1 in
      let number = four_parts (left_at p 16 (to_be_bytes w32 page) 0) (left_at p 16 (to_be_bytes w32 page) 1)
      (left_at p 16 (to_be_bytes w32 page) 2) (left_at p 16 (to_be_bytes w32 page) 3) outer.1 in (
        true_left _ _ kind.0,
        (
          true_left _ _ kind.1,
          (
            true_left _ _ four.0,
            (
              true_left _ _ four.1,
              (
                true_left _ _ four.2,
                (
                  true_left _ _ four.3,
                  (
                    true_left _ _ last.0,
                    (
                      true_left _ _ last.1,
                      (
                        true_left _ _ last.2,
                        (
                          true_left _ _ last.3,
                          (
                            true_left _ _ number.0,
                            (
                              true_left _ _ number.1,
                              (true_left _ _ number.2, (true_left _ _ number.3, (bytes.0, (bytes.1, (bytes.2, (bytes.3, tt)))))),
                            ),
                          ),
                        ),
                      ),
                    ),
                  ),
                ),
              ),
            ),
          ),
        ),
      )

-- ---- a page that lost bytes

left_byte : (place page pages : ℕ) (chunk : List ℕ) (fits : PageFits place page pages chunk) (left : List ℕ) →
    Lost (page_of place page pages chunk) left → (i : ℕ) → i < 4096 →
    LeftOf (get_or (page_of place page pages chunk) i 0) (get_or left i 0)
left_byte place page pages chunk fits left lost i lt =
    AllZip-get_or (λ byte kept. (kept ≡ byte) ⊎ (kept ≡ 0)) (page_of place page pages chunk) left i 0 0 lost
    (omega (arith, length-page_of place page pages chunk fits))

-- its fields lost bytes alone
pub page_left : (place page pages : ℕ) (chunk : List ℕ) (fits : PageFits place page pages chunk) (left : List ℕ) →
    Lost (page_of place page pages chunk) left → Lost (fields_of place page pages) (fields_in left)
unfolding page_of
page_left place page pages chunk fits left lost =
    let at = left_byte place page pages chunk fits left lost in (
      at 6 (omega arith),
      (
        at 7 (omega arith),
        (
          at 8 (omega arith),
          (
            at 9 (omega arith),
            (
              at 10 (omega arith),
              (
                at 11 (omega arith),
                (
                  at 12 (omega arith),
                  (
                    at 13 (omega arith),
                    (
                      at 14 (omega arith),
                      (
                        at 15 (omega arith),
                        (
                          at 16 (omega arith),
                          (
                            at 17 (omega arith),
                            (
                              at 18 (omega arith),
                              (
                                at 19 (omega arith),
                                (
                                  at 20 (omega arith),
                                  (at 21 (omega arith), (at 22 (omega arith), (at 23 (omega arith), tt))),
                                ),
                              ),
                            ),
                          ),
                        ),
                      ),
                    ),
                  ),
                ),
              ),
            ),
          ),
        ),
      ),
    )
