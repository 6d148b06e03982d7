-- What a page says of itself.
use Rattle.std.proofs.Common.{◌≡◌, ◌⊎◌, ⊎_elim, ℕ, ◌^◌, ◌<◌, Bool, true, false, nat_lt, List, [], ◌∷◌, length, get_or, drop, refl, sym, ◌∙◌, subst, arith}
use Rattle.std.specs.Prelude.{◌==◌, ◌&&◌, ◌||◌}
use Rattle.std.proofs.lemmas.Bool.{and_from, eq-eqb, lt-ltb, or_left, or_right, cond-true}
use Rattle.std.proofs.lemmas.Nat.{from_be_bytes-to_be_bytes_4, from_be_bytes-to_be_bytes_8}
use Rattle.std.proofs.lemmas.List.Sums.{count_by-le-length}
use Rattle.std.proofs.lemmas.List.Folds.{list_all_at}
use Rattle.log_page.specs.Pages.{zeros_in, is_blank, told, right_check, kind_of, is_same_check, page_of, body_of, counted, kind_field, place_field, page_field, pages_field, chunk_field, is_next}
use Rattle.log_page.specs.declared.page.PageKind.TheVariants.{Whole}
use Rattle.log_page.proofs.Judging.{by_its_check}

-- a page that fits its fields
pub record PageFits (place page pages : ℕ) (chunk : List ℕ) : Type 0 where
  pub place_fits : place < 2 ^ 64
  pub within : page < pages
  pub pages_fits : pages < 2 ^ 32
  pub chunk_fits : length chunk ≡ 4072

same_front : (a b c d : ℕ) (rest : List ℕ) → is_same_check (a ∷ b ∷ c ∷ d ∷ rest) (a ∷ b ∷ c ∷ d ∷ []) ≡ true
same_front a b c d rest =
    and_from ((a == a) && (b == b) && (c == c)) (d == d)
    (and_from ((a == a) && (b == b)) (c == c) (and_from (a == a) (b == b) (eq-eqb a a refl) (eq-eqb b b refl))
    (eq-eqb c c refl))
    (eq-eqb d d refl)

next_parts : (a b c d e : Bool) → a ≡ true → b ≡ true → c ≡ true → d ≡ true → e ≡ true → (a && b && c && d && e) ≡ true
next_parts a b c d e pa pb pc pd pe =
    and_from (a && b && c && d) e (and_from (a && b && c) d (and_from (a && b) c (and_from a b pa pb) pc) pd) pe

module _ (place page pages : ℕ) (chunk : List ℕ) (fits : PageFits place page pages chunk) where
  body : List ℕ
  body = body_of place page pages chunk

  pub length-page_of : length (page_of place page pages chunk) ≡ 4096
  unfolding page_of
  length-page_of = omega (arith, fits.chunk_fits)

  pub pages_field_is : pages_field (page_of place page pages chunk) ≡ pages
  unfolding page_of
  pages_field_is = from_be_bytes-to_be_bytes_4 pages fits.pages_fits

  pub chunk_field_is : chunk_field (page_of place page pages chunk) ≡ chunk
  unfolding page_of
  chunk_field_is = refl

  page_field_is : page_field (page_of place page pages chunk) ≡ page
  unfolding page_of
  page_field_is = from_be_bytes-to_be_bytes_4 page (omega (arith, fits.pages_fits, fits.within))

  place_field_is : place_field (page_of place page pages chunk) ≡ place
  unfolding page_of
  place_field_is = from_be_bytes-to_be_bytes_8 place fits.place_fits

  kind_field_is : kind_field (page_of place page pages chunk) ≡ 1
  unfolding page_of
  kind_field_is = refl

  few_zeros : zeros_in body < 2 ^ 16
  unfolding body
  few_zeros = omega (arith, count_by-le-length (λ byte. byte == 0) body, fits.chunk_fits)

  pub told_is : told (page_of place page pages chunk) ≡ zeros_in (drop 6 (page_of place page pages chunk))
  unfolding page_of body
  told_is = let few = few_zeros in omega arith

  pub not_blank : is_blank (page_of place page pages chunk) ≡ false
  unfolding page_of
  not_blank = list_all_at (λ byte. byte == 0) (page_of place page pages chunk) 7 0 (omega arith) refl

  pub check_is : is_same_check (page_of place page pages chunk) (right_check (page_of place page pages chunk)) ≡ true
  unfolding page_of
  check_is =
      let p = page_of place page pages chunk in
      same_front (get_or p 0 0) (get_or p 1 0) (get_or p 2 0) (get_or p 3 0) (counted (body_of place page pages chunk))

  pub is_whole_page : kind_of (page_of place page pages chunk) ≡ Whole
  is_whole_page =
      let p = page_of place page pages chunk in
      let same = told_is in
      by_its_check p (told p) (zeros_in (drop 6 p)) not_blank refl refl (omega arith) (omega arith)
      ∙ cond-true (is_same_check p (right_check p)) Whole _ check_is

  -- it is the next page of its block, whether the number of pages is known or not
  pub next_is : (known : ℕ) → (known ≡ 0) ⊎ (known ≡ pages) →
      is_next place page known (page_of place page pages chunk) ≡ true
  next_is known which =
      let p = page_of place page pages chunk in
      let within : page < pages_field p = subst (λ n. page < n) (sym pages_field_is) fits.within in
      next_parts (kind_field p == 1) (place_field p == place) (page_field p == page) (nat_lt page (pages_field p))
      ((known == 0) || (pages_field p == known))
      (eq-eqb _ _ kind_field_is) (eq-eqb _ _ place_field_is) (eq-eqb _ _ page_field_is) (lt-ltb _ _ within)
      (⊎_elim (λ zero_is. or_left (known == 0) (pages_field p == known) (eq-eqb _ _ zero_is))
      (λ is. or_right (known == 0) (pages_field p == known) (eq-eqb _ _ (pages_field_is ∙ sym is))) which)
