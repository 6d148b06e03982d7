-- Pages that an append may have left pass the test page by page, and pages that pass it are such.
use Rattle.std.proofs.Common.{◌≡◌, ◌≢◌, ◌⊎◌, inl, inr, ⊎_elim, ℕ, zero, suc, ◌+◌, ◌^◌, ◌<◌, ◌≤◌, Bool, true, false, nat_lt, List, [], ◌∷◌, ◌++◌, get_or, refl, sym, ◌∙◌, ap, subst, arith}
use Rattle.std.specs.Prelude.{◌==◌, ◌&&◌, ◌||◌}
use Rattle.std.specs.Int.{w32, to_be_bytes}
use Rattle.std.proofs.lemmas.Bool.{and_parts, and_from, or_left, or_right, or_cases, cases_eq, eq-eqb, eqb-true, ne_eqb, ltb-true, lt-ltb, cond-true, cond-false}
use Rattle.std.proofs.lemmas.Nat.{be_bytes_4, from_be_bytes-to_be_bytes_4}
use Rattle.log_page.specs.Pages.{kind_of, kind_field, place_field, page_field, pages_field, pages_bytes, is_next, is_lost_check, lost_at, is_left_page, IsBytes}
use Rattle.log_page.specs.declared.page.PageKind.{PageKind}
use Rattle.log_page.specs.declared.page.PageKind.TheVariants.{Empty, Whole, Short, Spoilt}
use Rattle.log_page.proofs.LeftFields.{LeftOf, AreLeftOf, left_true, true_left, all_four, four_parts, left_fields, fields_left}
use Rattle.log_page.proofs.Unsealed.{few}
use Rattle.log_blocks.specs.Blocks.{Page, ArePages}
use Rattle.log_blocks.specs.Reading.{shown_byte, shown_with, agrees_byte, agrees, most_byte, most_shown, most_pages, is_left_part, is_allowed, known_pages, known_shown, could_be_torn, IsLeft, AreLeft, IsTorn}

-- ---- what a page says of itself

pub small : (p : Page) → IsBytes p → pages_field p < 2 ^ 32
small p bytes = omega (arith, few p 20 4 0 bytes, few p 20 4 1 bytes, few p 20 4 2 bytes, few p 20 4 3 bytes)

pub next_pages : (place page known : ℕ) (p : Page) → is_next place page known p ≡ true →
    (page < pages_field p) × ((known ≡ 0) ⊎ (pages_field p ≡ known))
next_pages place page known p next =
    let last = and_parts ((kind_field p == 1) && (place_field p == place) && (page_field p == page) && nat_lt page
    (pages_field p)) ((known == 0) || (pages_field p == known)) next in
    let lt = and_parts ((kind_field p == 1) && (place_field p == place) && (page_field p == page))
    (nat_lt page (pages_field p)) last.0 in (
      ltb-true page (pages_field p) lt.1,
      ⊎_elim (λ none. inl (eqb-true known 0 none)) (λ is. inr (eqb-true (pages_field p) known is))
          (or_cases (known == 0) (pages_field p == known) last.1),
    )

-- where another number of pages is known, or none
next_known : (place page known other : ℕ) (p : Page) → is_next place page known p ≡ true →
    (other ≡ 0) ⊎ (pages_field p ≡ other) → is_next place page other p ≡ true
next_known place page known other p next which =
    let last = and_parts ((kind_field p == 1) && (place_field p == place) && (page_field p == page) && nat_lt page
    (pages_field p)) ((known == 0) || (pages_field p == known)) next in
    and_from ((kind_field p == 1) && (place_field p == place) && (page_field p == page) && nat_lt page (pages_field p))
    ((other == 0) || (pages_field p == other)) last.0
    (⊎_elim (λ none. or_left (other == 0) (pages_field p == other) (eq-eqb other 0 none))
    (λ is. or_right (other == 0) (pages_field p == other) (eq-eqb (pages_field p) other is)) which)

-- ---- a byte of the number of pages

merge_left : (byte old new : ℕ) → LeftOf byte old → LeftOf byte new → LeftOf byte (shown_byte old new)
merge_left byte old new before now =
    let P : ℕ → Type 0 = λ x. LeftOf byte x in
    elim (cases_eq new 0) [
      | inl none ↦ subst P (sym (cond-true (new == 0) old new (eq-eqb new 0 none))) before
      | inr some ↦ subst P (sym (cond-false (new == 0) old new (ne_eqb new 0 some))) now
    ]

merge_same : (byte old new : ℕ) → old ≡ byte → LeftOf byte new → shown_byte old new ≡ byte
merge_same byte old new is (inl same) =
    elim (cases_eq new 0) [
      | inl none ↦ cond-true (new == 0) old new (eq-eqb new 0 none) ∙ is
      | inr some ↦ cond-false (new == 0) old new (ne_eqb new 0 some) ∙ same
    ]
merge_same byte old new is (inr gone) = cond-true (new == 0) old new (eq-eqb new 0 gone) ∙ is

agrees_true : (byte old new : ℕ) (free : Bool) → LeftOf byte old → LeftOf byte new → (free ≡ true) ⊎ (old ≡ byte) →
    agrees_byte free old new ≡ true
agrees_true byte old new free before (inr gone) which =
    or_left ((new == 0) || (new == old)) (free && (old == 0)) (or_left (new == 0) (new == old) (eq-eqb new 0 gone))
agrees_true byte old new free before (inl same) (inr is) =
    or_left ((new == 0) || (new == old)) (free && (old == 0))
    (or_right (new == 0) (new == old) (eq-eqb new old (same ∙ sym is)))
agrees_true byte old new free (inl was) (inl same) (inl any) =
    or_left ((new == 0) || (new == old)) (free && (old == 0))
    (or_right (new == 0) (new == old) (eq-eqb new old (same ∙ sym was)))
agrees_true byte old new free (inr none) (inl same) (inl any) =
    or_right ((new == 0) || (new == old)) (free && (old == 0)) (and_from free (old == 0) any (eq-eqb old 0 none))

-- what agrees is left of a byte of which both are left
split_left : (byte old new : ℕ) (free : Bool) → agrees_byte free old new ≡ true → LeftOf byte (shown_byte old new) →
    LeftOf byte old × LeftOf byte new
split_left byte old new free agree merged =
    let P : ℕ → Type 0 = λ x. LeftOf byte x in
    elim (cases_eq new 0) [
      | inl none ↦ (subst P (cond-true (new == 0) old new (eq-eqb new 0 none)) merged, inr none)
      | inr some ↦
          let now : LeftOf byte new = subst P (cond-false (new == 0) old new (ne_eqb new 0 some)) merged in
          elim (or_cases ((new == 0) || (new == old)) (free && (old == 0)) agree) [
            | inl first ↦
                elim (or_cases (new == 0) (new == old) first) [
                  | inl none ↦ absurd (some (eqb-true new 0 none))
                  | inr same ↦ (subst P (eqb-true new old same) now, now)
                ]
            | inr last ↦ (inr (eqb-true old 0 (and_parts free (old == 0) last).1), now)
          ]
    ]

-- of a number that is known, what agrees changes nothing
kept_same : (old new : ℕ) (free : Bool) → agrees_byte free old new ≡ true → free ≡ false → shown_byte old new ≡ old
kept_same old new free agree none =
    elim (cases_eq new 0) [
      | inl gone ↦ cond-true (new == 0) old new (eq-eqb new 0 gone)
      | inr some ↦
          let same : new ≡ old =
          elim (or_cases ((new == 0) || (new == old)) (free && (old == 0)) agree) [
            | inl first ↦
                elim (or_cases (new == 0) (new == old) first) [
                  | inl gone ↦ absurd (some (eqb-true new 0 gone))
                  | inr is ↦ eqb-true new old is
                ]
            | inr last ↦ absurd (wrong (sym (and_parts free (old == 0) last).0 ∙ none))
          ] in
          cond-false (new == 0) old new (ne_eqb new 0 some) ∙ same
    ]
  where
    wrong : true ≡ false → ⊥
    wrong h = cc

most_left : (byte old : ℕ) → LeftOf byte old → byte < 256 → byte ≤ most_byte old
most_left byte old left within =
    elim (cases_eq old 0) [
      | inl none ↦ omega (arith, cond-true (old == 0) 255 old (eq-eqb old 0 none))
      | inr some ↦
          let is : most_byte old ≡ old = cond-false (old == 0) 255 old (ne_eqb old 0 some) in
          elim left [ inl same ↦ omega arith | inr none ↦ absurd (some none) ]
    ]

most_within : (old : ℕ) → old < 256 → most_byte old < 256
most_within old within =
    elim (cases_eq old 0) [
      | inl none ↦ omega (arith, cond-true (old == 0) 255 old (eq-eqb old 0 none))
      | inr some ↦ omega (arith, cond-false (old == 0) 255 old (ne_eqb old 0 some))
    ]

left_of_most : (byte old : ℕ) → byte ≡ most_byte old → LeftOf byte old
left_of_most byte old is =
    elim (cases_eq old 0) [
      | inl none ↦ inr none
      | inr some ↦ inl (sym (is ∙ cond-false (old == 0) 255 old (ne_eqb old 0 some)))
    ]

merge_within : (old new : ℕ) → old < 256 → new < 256 → shown_byte old new < 256
merge_within old new before now =
    let P : ℕ → Type 0 = λ x. x < 256 in
    elim (cases_eq new 0) [
      | inl none ↦ subst P (sym (cond-true (new == 0) old new (eq-eqb new 0 none))) before
      | inr some ↦ subst P (sym (cond-false (new == 0) old new (ne_eqb new 0 some))) now
    ]

-- ---- the number of pages

-- these are its bytes
abbrev AreBytesOf : ℕ → List ℕ → Type 0
AreBytesOf n bytes =
    (get_or bytes 0 0 ≡ get_or (to_be_bytes w32 n) 0 0) × (get_or bytes 1 0 ≡ get_or (to_be_bytes w32 n) 1 0) ×
    (get_or bytes 2 0 ≡ get_or (to_be_bytes w32 n) 2 0) × (get_or bytes 3 0 ≡ get_or (to_be_bytes w32 n) 3 0)

-- a block of n pages may have told this of their number
pub record Agreed (n pages : ℕ) (shown : List ℕ) : Type 0 where
  pub left : AreLeftOf n shown
  pub exact : (pages ≡ 0) ⊎ ((pages ≡ n) × AreBytesOf n shown)

pub agreed_start : (n known : ℕ) → (known ≡ 0) ⊎ (known ≡ n) → Agreed n known (to_be_bytes w32 known)
agreed_start n known (inl none) = record {
  left = (inr (at 0), inr (at 1), inr (at 2), inr (at 3));
  exact = inl none;
}
  where
    at : (i : ℕ) → get_or (to_be_bytes w32 known) i 0 ≡ get_or (to_be_bytes w32 0) i 0
    at i = ap (λ k. get_or (to_be_bytes w32 k) i 0) none
agreed_start n known (inr is) = record {
  left = (inl (at 0), inl (at 1), inl (at 2), inl (at 3));
  exact = inr (is, (at 0, at 1, at 2, at 3));
}
  where
    at : (i : ℕ) → get_or (to_be_bytes w32 known) i 0 ≡ get_or (to_be_bytes w32 n) i 0
    at i = ap (λ k. get_or (to_be_bytes w32 k) i 0) is

-- the bytes that are shown are of this number
pub shown_lost : (n : ℕ) (shown : List ℕ) → AreLeftOf n shown → is_lost_check shown (to_be_bytes w32 n) ≡ true
shown_lost n shown left =
    let right = to_be_bytes w32 n in
    all_four (lost_at shown right 0) (lost_at shown right 1) (lost_at shown right 2) (lost_at shown right 3)
    (left_true _ _ left.0) (left_true _ _ left.1) (left_true _ _ left.2) (left_true _ _ left.3)

lost_shown : (n : ℕ) (shown : List ℕ) → is_lost_check shown (to_be_bytes w32 n) ≡ true → AreLeftOf n shown
lost_shown n shown lost =
    let right = to_be_bytes w32 n in
    let parts = four_parts (lost_at shown right 0) (lost_at shown right 1) (lost_at shown right 2)
    (lost_at shown right 3) lost in
    (true_left _ _ parts.0, true_left _ _ parts.1, true_left _ _ parts.2, true_left _ _ parts.3)

-- it is no more than may be
number_within : (n : ℕ) (shown : List ℕ) → n < 2 ^ 32 → AreLeftOf n shown → n ≤ most_shown shown
number_within n shown few left =
    let b0 = most_left (get_or (to_be_bytes w32 n) 0 0) (get_or shown 0 0) left.0 (omega arith) in
    let b1 = most_left (get_or (to_be_bytes w32 n) 1 0) (get_or shown 1 0) left.1 (omega arith) in
    let b2 = most_left (get_or (to_be_bytes w32 n) 2 0) (get_or shown 2 0) left.2 (omega arith) in
    let b3 = most_left (get_or (to_be_bytes w32 n) 3 0) (get_or shown 3 0) left.3 (omega arith) in
    omega (arith, from_be_bytes-to_be_bytes_4 n few, b0, b1, b2, b3)

most_agreed : (n pages : ℕ) (shown : List ℕ) → n < 2 ^ 32 → 0 < n → Agreed n pages shown → n ≤ most_pages pages shown
most_agreed n pages shown few some agreed =
    elim agreed.exact [
      | inl none ↦
          omega (
            arith,
            number_within n shown few agreed.left,
            cond-true (pages == 0) (most_shown shown) pages (eq-eqb pages 0 none),
          )
      | inr is ↦
          let not_none : pages ≢ 0 = λ none. omega (arith, is.0) in
          omega (arith, is.0, cond-false (pages == 0) (most_shown shown) pages (ne_eqb pages 0 not_none))
    ]

-- ---- what an append may have left passes

merged_left : (n : ℕ) (shown found : List ℕ) → AreLeftOf n shown → AreLeftOf n found →
    AreLeftOf n (shown_with shown found)
merged_left n shown found before now = (
  merge_left _ _ _ before.0 now.0,
  merge_left _ _ _ before.1 now.1,
  merge_left _ _ _ before.2 now.2,
  merge_left _ _ _ before.3 now.3,
)

merged_same : (n : ℕ) (shown found : List ℕ) → AreBytesOf n shown → AreLeftOf n found →
    AreBytesOf n (shown_with shown found)
merged_same n shown found before now = (
  merge_same _ _ _ before.0 now.0,
  merge_same _ _ _ before.1 now.1,
  merge_same _ _ _ before.2 now.2,
  merge_same _ _ _ before.3 now.3,
)

agrees_all : (n pages : ℕ) (shown found : List ℕ) → Agreed n pages shown → AreLeftOf n found →
    agrees (pages == 0) shown found ≡ true
agrees_all n pages shown found agreed now =
    let free = pages == 0 in
    let old0 = get_or shown 0 0 in
    let old1 = get_or shown 1 0 in
    let old2 = get_or shown 2 0 in
    let old3 = get_or shown 3 0 in
    let new0 = get_or found 0 0 in
    let new1 = get_or found 1 0 in
    let new2 = get_or found 2 0 in
    let new3 = get_or found 3 0 in
    elim agreed.exact [
      | inl none ↦
          let any : (pages == 0) ≡ true = eq-eqb pages 0 none in
          all_four (agrees_byte free old0 new0) (agrees_byte free old1 new1) (agrees_byte free old2 new2)
          (agrees_byte free old3 new3)
          (agrees_true _ old0 new0 free agreed.left.0 now.0 (inl any))
          (agrees_true _ old1 new1 free agreed.left.1 now.1 (inl any))
          (agrees_true _ old2 new2 free agreed.left.2 now.2 (inl any))
          (agrees_true _ old3 new3 free agreed.left.3 now.3 (inl any))
      | inr is ↦
          all_four (agrees_byte free old0 new0) (agrees_byte free old1 new1) (agrees_byte free old2 new2)
          (agrees_byte free old3 new3)
          (agrees_true _ old0 new0 free agreed.left.0 now.0 (inr is.1.0))
          (agrees_true _ old1 new1 free agreed.left.1 now.1 (inr is.1.1))
          (agrees_true _ old2 new2 free agreed.left.2 now.2 (inr is.1.2))
          (agrees_true _ old3 new3 free agreed.left.3 now.3 (inr is.1.3))
    ]

short_left : (place page pages n : ℕ) (shown : List ℕ) (p : Page) → n < 2 ^ 32 → Agreed n pages shown →
    IsLeft Short place page n p →
    (is_left_part place page pages shown p ≡ true) × Agreed n pages (shown_with shown (pages_bytes p))
short_left place page pages n shown p few agreed left =
    let fields = left_fields place page n p left.1 in
    let after : Agreed n pages (shown_with shown (pages_bytes p)) = record {
      left = merged_left n shown (pages_bytes p) agreed.left fields.1;
      exact = ⊎_elim (λ none. inl none) (λ is. inr (is.0, merged_same n shown (pages_bytes p) is.1 fields.1)) agreed.exact;
    } in
    let most = most_agreed n pages (shown_with shown (pages_bytes p)) few (omega (arith, left.0)) after in
    let within : nat_lt page (most_pages pages (shown_with shown (pages_bytes p))) ≡ true =
    lt-ltb _ _ (omega (arith, left.0, most)) in (
      and_from (agrees (pages == 0) shown (pages_bytes p) && nat_lt page (most_pages pages (shown_with shown
          (pages_bytes p)))) (is_left_page place page p)
          (and_from (agrees (pages == 0) shown (pages_bytes p)) (nat_lt page (most_pages pages (shown_with shown
          (pages_bytes p)))) (agrees_all n pages shown (pages_bytes p) agreed fields.1) within) fields.0,
      after,
    )

whole_left : (place page pages n : ℕ) (shown : List ℕ) (p : Page) → Agreed n pages shown → IsLeft Whole place page n p →
    (is_allowed Whole place page pages shown p ≡ true) × Agreed n (pages_field p) (to_be_bytes w32 (pages_field p))
whole_left place page pages n shown p agreed left =
    let fields = next_pages place page n p left.1 in
    let is : pages_field p ≡ n = ⊎_elim (λ none. absurd (omega (arith, left.0, none))) (λ same. same) fields.1 in
    let which : (pages ≡ 0) ⊎ (pages_field p ≡ pages) =
    ⊎_elim (λ none. inl none) (λ known. inr (is ∙ sym known.0)) agreed.exact in (
      and_from (is_next place page pages p) (is_lost_check shown (to_be_bytes w32 (pages_field p)))
          (next_known place page n pages p left.1 which)
          (subst (λ m. is_lost_check shown (to_be_bytes w32 m) ≡ true) (sym is) (shown_lost n shown agreed.left)),
      agreed_start n (pages_field p) (inr is),
    )

step_left : (k : PageKind) (place page pages n : ℕ) (shown : List ℕ) (p : Page) → n < 2 ^ 32 → Agreed n pages shown →
    IsLeft k place page n p →
    (is_allowed k place page pages shown p ≡ true) × Agreed n (known_pages k pages p) (known_shown k shown p)
step_left Empty place page pages n shown p few agreed left = (refl, agreed)
step_left Short place page pages n shown p few agreed left = short_left place page pages n shown p few agreed left
step_left Whole place page pages n shown p few agreed left = whole_left place page pages n shown p agreed left
step_left Spoilt place page pages n shown p few agreed left = absurd left

pub left_is_torn : (place page pages n : ℕ) (shown : List ℕ) (ps : List Page) → n < 2 ^ 32 → Agreed n pages shown →
    AreLeft place page n ps → could_be_torn place page pages shown ps ≡ true
unfolding could_be_torn
left_is_torn place page pages n shown [] few agreed left = refl
left_is_torn place page pages n shown (p ∷ ps) few agreed left =
    let here = step_left (kind_of p) place page pages n shown p few agreed left.0 in
    and_from _ _ here.0 (left_is_torn place (page + 1) (known_pages (kind_of p) pages p) n
    (known_shown (kind_of p) shown p) ps few here.1 left.1)

-- ---- what passes may be left by an append

abbrev AreSmall : List ℕ → Type 0
AreSmall bytes = (get_or bytes 0 0 < 256) × (get_or bytes 1 0 < 256) × (get_or bytes 2 0 < 256) × (get_or bytes 3 0 < 256)

-- what is known fits its types
record Fits (pages : ℕ) (shown : List ℕ) : Type 0 where
  small_bytes : AreSmall shown
  few_pages : pages < 2 ^ 32
  same_bytes : (pages ≡ 0) ⊎ AreBytesOf pages shown

fits_start : (known : ℕ) → known < 2 ^ 32 → Fits known (to_be_bytes w32 known)
fits_start known lt = record {
  small_bytes = (omega arith, omega arith, omega arith, omega arith);
  few_pages = lt;
  same_bytes = inr (refl, refl, refl, refl);
}

-- the number of pages that is taken where no page tells more
least_known : (pages : ℕ) (shown : List ℕ) → Fits pages shown →
    (most_pages pages shown < 2 ^ 32) × Agreed (most_pages pages shown) pages shown
least_known pages shown fits =
    let m0 = most_byte (get_or shown 0 0) in
    let m1 = most_byte (get_or shown 1 0) in
    let m2 = most_byte (get_or shown 2 0) in
    let m3 = most_byte (get_or shown 3 0) in
    let w0 = most_within (get_or shown 0 0) fits.small_bytes.0 in
    let w1 = most_within (get_or shown 1 0) fits.small_bytes.1 in
    let w2 = most_within (get_or shown 2 0) fits.small_bytes.2 in
    let w3 = most_within (get_or shown 3 0) fits.small_bytes.3 in
    let P : ℕ → Type 0 = λ n. (n < 2 ^ 32) × Agreed n pages shown in
    elim (cases_eq pages 0) [
      | inl none ↦
          let n = most_shown shown in
          let bytes : to_be_bytes w32 (most_shown shown) ≡ m0 ∷ m1 ∷ m2 ∷ m3 ∷ [] =
          be_bytes_4 (m0 ∷ m1 ∷ m2 ∷ m3 ∷ []) (most_shown shown) refl
          (few_of_four m0 m1 m2 m3 w0 w1 w2 w3) refl in
          let is : most_pages pages shown ≡ most_shown shown =
          cond-true (pages == 0) (most_shown shown) pages (eq-eqb pages 0 none) in
          let at : (i : ℕ) → get_or (to_be_bytes w32 (most_shown shown)) i 0 ≡ get_or (m0 ∷ m1 ∷ m2 ∷ m3 ∷ []) i 0 =
          λ i. ap (λ (l : List ℕ). get_or l i 0) bytes in
          subst P (sym is) (
            omega (arith, w0, w1, w2, w3),
            record {
              left = (
                left_of_most _ _ (at 0),
                left_of_most _ _ (at 1),
                left_of_most _ _ (at 2),
                left_of_most _ _ (at 3),
              );
              exact = inl none;
            },
          )
      | inr some ↦
          let is : most_pages pages shown ≡ pages =
          cond-false (pages == 0) (most_shown shown) pages (ne_eqb pages 0 some) in
          let same : AreBytesOf pages shown = ⊎_elim (λ none. absurd (some none)) (λ s. s) fits.same_bytes in
          subst P (sym is) (
            fits.few_pages,
            record { left = (inl same.0, inl same.1, inl same.2, inl same.3); exact = inr (refl, same) },
          )
    ]
  where
    few_of_four : (a b c d : ℕ) → a < 256 → b < 256 → c < 256 → d < 256 → (i : ℕ) →
        get_or (a ∷ b ∷ c ∷ d ∷ []) i 0 < 256
    few_of_four a b c d la lb lc ld zero = la
    few_of_four a b c d la lb lc ld (suc zero) = lb
    few_of_four a b c d la lb lc ld (suc (suc zero)) = lc
    few_of_four a b c d la lb lc ld (suc (suc (suc zero))) = ld
    few_of_four a b c d la lb lc ld (suc (suc (suc (suc i)))) = omega arith

-- the first number of pages that no page of this kind rules out
bound_after : PageKind → ℕ → ℕ → ℕ
bound_after Empty page least = least
bound_after Short page least = page + 1
bound_after Whole page least = page + 1
bound_after Spoilt page least = least

part_tests : (place page pages : ℕ) (shown : List ℕ) (p : Page) → is_left_part place page pages shown p ≡ true →
    (agrees (pages == 0) shown (pages_bytes p) ≡ true) ×
    (page < most_pages pages (shown_with shown (pages_bytes p))) × (is_left_page place page p ≡ true)
part_tests place page pages shown p left =
    let outer = and_parts (agrees (pages == 0) shown (pages_bytes p) && nat_lt page (most_pages pages (shown_with shown
    (pages_bytes p)))) (is_left_page place page p) left in
    let inner = and_parts (agrees (pages == 0) shown (pages_bytes p)) (nat_lt page (most_pages pages (shown_with shown
    (pages_bytes p)))) outer.0 in
    (inner.0, ltb-true _ _ inner.1, outer.1)

agreed_parts : (free : Bool) (shown found : List ℕ) → agrees free shown found ≡ true →
    (agrees_byte free (get_or shown 0 0) (get_or found 0 0) ≡ true) ×
    (agrees_byte free (get_or shown 1 0) (get_or found 1 0) ≡ true) ×
    (agrees_byte free (get_or shown 2 0) (get_or found 2 0) ≡ true) ×
    (agrees_byte free (get_or shown 3 0) (get_or found 3 0) ≡ true)
agreed_parts free shown found all =
    four_parts (agrees_byte free (get_or shown 0 0) (get_or found 0 0))
    (agrees_byte free (get_or shown 1 0) (get_or found 1 0)) (agrees_byte free (get_or shown 2 0) (get_or found 2 0))
    (agrees_byte free (get_or shown 3 0) (get_or found 3 0)) all

-- what is known still fits
fits_short : (place page pages : ℕ) (shown : List ℕ) (p : Page) → IsBytes p → Fits pages shown →
    is_left_part place page pages shown p ≡ true → Fits pages (shown_with shown (pages_bytes p))
fits_short place page pages shown p bytes fits left =
    let tests = part_tests place page pages shown p left in
    let agree = agreed_parts (pages == 0) shown (pages_bytes p) tests.0 in
    record {
      small_bytes = (
        merge_within _ _ fits.small_bytes.0 (bytes 20),
        merge_within _ _ fits.small_bytes.1 (bytes 21),
        merge_within _ _ fits.small_bytes.2 (bytes 22),
        merge_within _ _ fits.small_bytes.3 (bytes 23),
      );
      few_pages = fits.few_pages;
      same_bytes = elim (cases_eq pages 0) [
        | inl none ↦ inl none
        | inr some ↦
            let bound : (pages == 0) ≡ false = ne_eqb pages 0 some in
            let same : AreBytesOf pages shown = ⊎_elim (λ none. absurd (some none)) (λ s. s) fits.same_bytes in
            inr (
              kept_same _ _ (pages == 0) agree.0 bound ∙ same.0,
              kept_same _ _ (pages == 0) agree.1 bound ∙ same.1,
              kept_same _ _ (pages == 0) agree.2 bound ∙ same.2,
              kept_same _ _ (pages == 0) agree.3 bound ∙ same.3,
            )
      ];
    }

fits_after : (k : PageKind) (place page pages : ℕ) (shown : List ℕ) (p : Page) → IsBytes p → Fits pages shown →
    is_allowed k place page pages shown p ≡ true → Fits (known_pages k pages p) (known_shown k shown p)
fits_after Empty place page pages shown p bytes fits stands = fits
fits_after Short place page pages shown p bytes fits stands = fits_short place page pages shown p bytes fits stands
fits_after Whole place page pages shown p bytes fits stands = fits_start (pages_field p) (small p bytes)
fits_after Spoilt place page pages shown p bytes fits stands = fits

most_after : (k : PageKind) (place page pages least : ℕ) (shown : List ℕ) (p : Page) → least ≤ most_pages pages shown →
    is_allowed k place page pages shown p ≡ true →
    bound_after k page least ≤ most_pages (known_pages k pages p) (known_shown k shown p)
unfolding bound_after
most_after Empty place page pages least shown p most stands = most
most_after Short place page pages least shown p most stands =
    let tests = part_tests place page pages shown p stands in omega (arith, tests.1)
most_after Whole place page pages least shown p most stands =
    let parts = and_parts (is_next place page pages p) (is_lost_check shown (to_be_bytes w32 (pages_field p))) stands in
    let fields = next_pages place page pages p parts.0 in
    let some : pages_field p ≢ 0 = λ none. omega (arith, fields.0) in
    omega (
      arith,
      fields.0,
      cond-false (pages_field p == 0) (most_shown (to_be_bytes w32 (pages_field p))) (pages_field p)
          (ne_eqb (pages_field p) 0 some),
    )
most_after Spoilt place page pages least shown p most stands = most

-- a block of n pages that may have told what is known with a page may have told what was known before it
same_of : (n pages : ℕ) (shown : List ℕ) → pages ≡ n → (pages ≡ 0) ⊎ AreBytesOf pages shown →
    (pages ≡ 0) ⊎ ((pages ≡ n) × AreBytesOf n shown)
same_of n pages shown is (inl none) = inl none
same_of n pages shown is (inr same) = inr (is, subst (λ m. AreBytesOf m shown) is same)

before_short : (place page pages n : ℕ) (shown : List ℕ) (p : Page) → Fits pages shown →
    is_left_part place page pages shown p ≡ true → page + 1 ≤ n → Agreed n pages (shown_with shown (pages_bytes p)) →
    Agreed n pages shown × IsLeft Short place page n p
before_short place page pages n shown p fits left within after =
    let tests = part_tests place page pages shown p left in
    let agree = agreed_parts (pages == 0) shown (pages_bytes p) tests.0 in
    let s0 = split_left _ _ _ (pages == 0) agree.0 after.left.0 in
    let s1 = split_left _ _ _ (pages == 0) agree.1 after.left.1 in
    let s2 = split_left _ _ _ (pages == 0) agree.2 after.left.2 in
    let s3 = split_left _ _ _ (pages == 0) agree.3 after.left.3 in
    let exact : (pages ≡ 0) ⊎ ((pages ≡ n) × AreBytesOf n shown) =
    ⊎_elim (λ none. inl none) (λ is. same_of n pages shown is.0 fits.same_bytes) after.exact in (
      record { left = (s0.0, s1.0, s2.0, s3.0); exact = exact },
      (omega (arith, within), fields_left place page n p tests.2 (s0.1, s1.1, s2.1, s3.1)),
    )

before_whole : (place page pages n : ℕ) (shown : List ℕ) (p : Page) → Fits pages shown →
    is_allowed Whole place page pages shown p ≡ true → page + 1 ≤ n →
    Agreed n (pages_field p) (to_be_bytes w32 (pages_field p)) → Agreed n pages shown × IsLeft Whole place page n p
before_whole place page pages n shown p fits stands within after =
    let parts = and_parts (is_next place page pages p) (is_lost_check shown (to_be_bytes w32 (pages_field p))) stands in
    let fields = next_pages place page pages p parts.0 in
    let is : pages_field p ≡ n =
    ⊎_elim (λ none. absurd (omega (arith, fields.0, none))) (λ same. same.0) after.exact in
    let left : AreLeftOf n shown = subst (λ m. AreLeftOf m shown) is (lost_shown (pages_field p) shown parts.1) in
    let exact : (pages ≡ 0) ⊎ ((pages ≡ n) × AreBytesOf n shown) =
    ⊎_elim (λ none. inl none) (λ same. same_of n pages shown (sym same ∙ is) fits.same_bytes) fields.1 in (
      record { left = left; exact = exact },
      (omega (arith, within), next_known place page pages n p parts.0 (inr is)),
    )

before_page : (k : PageKind) (place page pages n least : ℕ) (shown : List ℕ) (p : Page) → Fits pages shown →
    is_allowed k place page pages shown p ≡ true → bound_after k page least ≤ n →
    Agreed n (known_pages k pages p) (known_shown k shown p) → Agreed n pages shown × IsLeft k place page n p
unfolding bound_after
before_page Empty place page pages n least shown p fits stands within after = (after, tt)
before_page Short place page pages n least shown p fits stands within after =
    before_short place page pages n shown p fits stands within after
before_page Whole place page pages n least shown p fits stands within after =
    before_whole place page pages n shown p fits stands within after
before_page Spoilt place page pages n least shown p fits stands within after = absurd (wrong stands)
  where
    wrong : false ≡ true → ⊥
    wrong h = cc

least_before : (k : PageKind) (page least : ℕ) → least ≤ page → least ≤ bound_after k page least
unfolding bound_after
least_before Empty page least le = omega arith
least_before Short page least le = omega arith
least_before Whole page least le = omega arith
least_before Spoilt page least le = omega arith

bound_within : (k : PageKind) (page least : ℕ) → least ≤ page → bound_after k page least ≤ page + 1
unfolding bound_after
bound_within Empty page least le = omega arith
bound_within Short page least le = omega arith
bound_within Whole page least le = omega arith
bound_within Spoilt page least le = omega arith

-- the number of pages of a block of which these may be left
record Counted (place page least pages : ℕ) (shown : List ℕ) (ps : List Page) : Type 0 where
  number : ℕ
  few_pages : number < 2 ^ 32
  enough : least ≤ number
  agreed : Agreed number pages shown
  each : AreLeft place page number ps

counted : (place page least pages : ℕ) (shown : List ℕ) (ps : List Page) → ArePages ps → Fits pages shown →
    least ≤ page → least ≤ most_pages pages shown → could_be_torn place page pages shown ps ≡ true →
    Counted place page least pages shown ps
unfolding could_be_torn
counted place page least pages shown [] are fits le most torn =
    let last = least_known pages shown fits in
    record { number = most_pages pages shown; few_pages = last.0; enough = most; agreed = last.1; each = tt }
counted place page least pages shown (p ∷ ps) are fits le most torn =
    let parts = and_parts (is_allowed (kind_of p) place page pages shown p)
    (could_be_torn place (page + 1) (known_pages (kind_of p) pages p) (known_shown (kind_of p) shown p) ps) torn in
    let rest = counted place (page + 1) (bound_after (kind_of p) page least) (known_pages (kind_of p) pages p)
    (known_shown (kind_of p) shown p) ps are.1
    (fits_after (kind_of p) place page pages shown p are.0.1 fits parts.0)
    (bound_within (kind_of p) page least le)
    (most_after (kind_of p) place page pages least shown p most parts.0) parts.1 in
    let here = before_page (kind_of p) place page pages rest.number least shown p fits parts.0 rest.enough rest.agreed
    in
    record {
      number = rest.number;
      few_pages = rest.few_pages;
      enough = omega (arith, least_before (kind_of p) page least le, rest.enough);
      agreed = here.0;
      each = (here.1, rest.each);
    }

pub torn_is_left : (place : ℕ) (ps : List Page) → ArePages ps →
    could_be_torn place 0 0 (to_be_bytes w32 0) ps ≡ true → IsTorn place ps
torn_is_left place ps are torn =
    let all = counted place 0 0 0 (to_be_bytes w32 0) ps are (fits_start 0 (omega arith)) (omega arith) (omega arith)
    torn in
    record { pages = all.number; few = all.few_pages; each = all.each }

pub torn_passes : (place : ℕ) (ps : List Page) → IsTorn place ps →
    could_be_torn place 0 0 (to_be_bytes w32 0) ps ≡ true
torn_passes place ps torn =
    left_is_torn place 0 0 torn.pages (to_be_bytes w32 0) ps torn.few (agreed_start torn.pages 0 (inl refl)) torn.each

-- ---- fronts of such pages

left_front : (place page n : ℕ) (xs ys : List Page) → AreLeft place page n (xs ++ ys) → AreLeft place page n xs
left_front place page n [] ys left = tt
left_front place page n (x ∷ xs) ys left = (left.0, left_front place (page + 1) n xs ys left.1)

pub torn_front : (place : ℕ) (xs ys : List Page) → IsTorn place (xs ++ ys) → IsTorn place xs
torn_front place xs ys torn =
    record { pages = torn.pages; few = torn.few; each = left_front place 0 torn.pages xs ys torn.each }
