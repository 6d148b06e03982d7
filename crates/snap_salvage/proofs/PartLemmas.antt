-- The first pages of a file.
use Rattle.std.proofs.Common.{◌≡◌, ℕ, ◌+◌, ◌-◌, ◌*◌, ◌<◌, ◌≤◌, List, ◌++◌, length, get_or}
use Rattle.std.proofs.Common.{take, drop, sym, ap, ◌∙◌, arith}
use Rattle.std.proofs.lemmas.List.{get_or-drop, get_or-take, length-drop, length-take, take-append-drop, take-append-le}
use Rattle.log_blocks.specs.Blocks.{Page}
use Rattle.log_blocks.specs.Files.{page_count, pages_of}
use Rattle.log_blocks.proofs.FilePages.{pages_same, pages_split}
use Rattle.log_read.specs.Logs.{pages_behind}
use Rattle.log_read.proofs.LogFacts.{length-pages}
use Rattle.std.specs.Prelude.{min}

-- the head's page is that of all
pub same_head : (m : ℕ) (bytes : List ℕ) → 4096 ≤ length (take m bytes) → take 4096 (take m bytes) ≡ take 4096 bytes
same_head m bytes long =
    sym (take-append-le 4096 (take m bytes) (drop m bytes) long)
    ∙ ap (λ (l : List ℕ). take 4096 l) (take-append-drop m bytes)

-- The bytes of the head's page and of n others.
module _ (n : ℕ) (bytes : List ℕ) where
  same_byte : (i : ℕ) → i < 4096 * n →
      get_or (drop 4096 (take (4096 * (n + 1)) bytes)) i 0 ≡ get_or (drop 4096 bytes) i 0
  same_byte i lt =
      get_or-drop 4096 (take (4096 * (n + 1)) bytes) i 0
      ∙ get_or-take (4096 * (n + 1)) bytes (4096 + i) 0 (omega arith)
      ∙ sym (get_or-drop 4096 bytes i 0)

  part_count : page_count (drop 4096 (take (4096 * (n + 1)) bytes)) ≡ min n (page_count (drop 4096 bytes))
  part_count =
      omega (
        arith,
        length-drop 4096 (take (4096 * (n + 1)) bytes),
        length-take (4096 * (n + 1)) bytes,
        length-drop 4096 bytes,
      )

  pub part_long : length (pages_behind (take (4096 * (n + 1)) bytes)) ≡ min n (length (pages_behind bytes))
  part_long =
      let part = drop 4096 (take (4096 * (n + 1)) bytes) in
      let all = drop 4096 bytes in
      length-pages 0 (page_count part) part ∙ part_count
      ∙ ap (λ (k : ℕ). min n k) (sym (length-pages 0 (page_count all) all))

  -- all pages are those of the part and others
  pub part_pages : (rest : List Page) × (pages_behind bytes ≡ pages_behind (take (4096 * (n + 1)) bytes) ++ rest)
  part_pages =
      let part = drop 4096 (take (4096 * (n + 1)) bytes) in
      let all = drop 4096 bytes in
      let m = page_count part in
      let more : m + (page_count all - m) ≡ page_count all = omega (arith, part_count) in (
        pages_of (0 + m) (page_count all - m) all,
        ap (λ (k : ℕ). pages_of 0 k all) (sym more)
            ∙ pages_split 0 m (page_count all - m) all
            ∙ ap (λ (l : List Page). l ++ pages_of (0 + m) (page_count all - m) all)
            (sym (pages_same 0 m part all (λ i low high. same_byte i (omega (arith, part_count))))),
      )
