-- A page that is written from its end to its head: each part stands before what was written so far.
use Rattle.std.proofs.Common.{◌≡◌, ℕ, List, ◌++◌, drop, ◌∙◌, ap}
use Rattle.std.specs.Int.{w16, w32, w64, to_be_bytes}
use Rattle.crc32c.specs.Remainders.{checksum_of}
use Rattle.log_page.specs.Pages.{zeros_in, page_of, body_of, counted}

module _ (place number pages : ℕ) (chunk : List ℕ) (page1 page2 page3 page4 page5 page6 : List ℕ) where
  pub body_by_parts : drop 20 page1 ≡ to_be_bytes w32 pages ++ chunk
      → drop 16 page2 ≡ to_be_bytes w32 number ++ drop 20 page1
      → drop 8 page3 ≡ to_be_bytes w64 place ++ drop 16 page2
      → drop 6 page4 ≡ to_be_bytes w16 1 ++ drop 8 page3
      → drop 6 page4 ≡ body_of place number pages chunk
  body_by_parts at_20 at_16 at_8 at_6 =
      at_6
      ∙ ap (λ (l : List ℕ). to_be_bytes w16 1 ++ l) (at_8
      ∙ ap (λ (l : List ℕ). to_be_bytes w64 place ++ l) (at_16
      ∙ ap (λ (l : List ℕ). to_be_bytes w32 number ++ l) at_20))

  pub page_by_parts : drop 6 page4 ≡ body_of place number pages chunk
      → drop 4 page5 ≡ to_be_bytes w16 (zeros_in (drop 6 page4)) ++ drop 6 page4
      → page6 ≡ to_be_bytes w32 (checksum_of (drop 4 page5)) ++ drop 4 page5
      → page6 ≡ page_of place number pages chunk
  unfolding page_of
  page_by_parts body_is at_4 at_0 =
      let whole : drop 4 page5 ≡ counted (body_of place number pages chunk) = at_4 ∙ ap counted body_is in
      at_0 ∙ ap (λ (l : List ℕ). to_be_bytes w32 (checksum_of l) ++ l) whole
