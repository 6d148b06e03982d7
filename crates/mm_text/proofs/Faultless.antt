-- A text that spells a file bears no fault.
use Rattle.std.proofs.Common.{◌≡◌, ℕ, ◌+◌, Bool, true, false, not, cond, List, [], ◌∷◌, ◌++◌, length, refl, sym, ◌∙◌}
use Rattle.std.proofs.Common.{ap, arith, length-append}
use Rattle.std.proofs.lemmas.Bool.Decides.{nat_tests}
use Rattle.std.proofs.lemmas.List.{map-append}
use Rattle.std.specs.Prelude.{None, Result, Ok, map, filter, nat_lt}
use Rattle.mm_text.specs.Lines.{lines_of, counted, counts, content, is_skipped}
use Rattle.mm_text.specs.Judging.{fault_of, entry}
use Rattle.mm_text.specs.Texts.{fault_behind, lack_of, Spells, FirstFault}
use Rattle.mm_text.specs.Stages.{Clean}
use Rattle.mm_text.proofs.Clean.{faultless}
use Rattle.mm_text.specs.declared.fault.MmKind.{MmKind}
use Rattle.cells.specs.declared.cell.Cell.{Cell}
use Rattle.mm_text.specs.declared.limits.TextLimits.{TextLimits}

filter-append : (p : List ℕ → Bool) (xs ys : List (List ℕ)) → filter p (xs ++ ys) ≡ filter p xs ++ filter p ys
filter-append p [] ys = refl
filter-append p (x ∷ xs) ys = elim (p x) as (λ v. cond v (x ∷ filter p (xs ++ ys)) (filter p (xs ++ ys)) ≡ cond v
    (x ∷ filter p xs) (filter p xs) ++ filter p ys) [
      | true ↦ ap (λ l. x ∷ l) (filter-append p xs ys)
      | false ↦ filter-append p xs ys
    ]

abbrev kept_line : List ℕ → Bool
kept_line line = not (is_skipped line)

counted_split : (before after : List (List ℕ)) (line : List ℕ) → counts before line ≡ true →
    (more : List (List ℕ)) × (counted (before ++ line ∷ after) ≡ counted before ++ content line ∷ more)
counted_split [] after line h = (map content (filter kept_line after), refl)
counted_split (x ∷ xs) after line h = (
  map content (filter kept_line after),
  ap (λ l. content x ∷ map content l) (filter-append kept_line xs (line ∷ after) ∙ rw h refl)
      ∙ ap (λ l. content x ∷ l) (map-append content (filter kept_line xs) (line ∷ filter kept_line after)),
)

one_ok : (f : List ℕ → Result Cell MmKind) (xs : List (List ℕ)) (x : List ℕ) (more : List (List ℕ)) (ys : List Cell) →
    map f (xs ++ x ∷ more) ≡ map Ok ys → (y : Cell) × (f x ≡ Ok y)
one_ok f [] x more [] e = cc
one_ok f [] x more (y ∷ ys) e = (y, cc)
one_ok f (z ∷ zs) x more [] e = cc
one_ok f (z ∷ zs) x more (y ∷ ys) e = let t : map f (zs ++ x ∷ more) ≡ map Ok ys = cc in one_ok f zs x more ys t

module _ (text : List ℕ) (limits : TextLimits) (rows cols : ℕ) (cells : List Cell)
    (s : Spells text limits rows cols cells) where
  right_at : (ls more : List (List ℕ)) (line : List ℕ) → ls ++ line ∷ more ≡ s.first ∷ s.second ∷ s.others →
      fault_behind limits ls line ≡ None
  right_at [] more line e = let f : line ≡ s.first = cc in rw (f, s.is_banner) refl
  right_at (a ∷ []) more line e =
      let f : a ≡ s.first = cc in let g : line ≡ s.second = cc in rw (f, s.is_banner) (rw (g, s.is_size) refl)
  right_at (a ∷ b ∷ ls) more line e =
      let f : a ≡ s.first = cc in let g : b ≡ s.second = cc in
      let o : s.others ≡ ls ++ line ∷ more = cc in
      let l : length s.others ≡ length ls + (length more + 1) = ap length o
      ∙ (omega (arith, length-append ls (line ∷ more))) in
      let test : nat_lt (length ls) (length s.others) ≡ true = grind (arith, nat_tests) in
      let one = one_ok (entry rows cols) ls line more s.entries (sym (ap (map (entry rows cols)) o) ∙ s.are_entries) in
      rw (f, s.is_banner) (rw (g, s.is_size) (rw test (ap fault_of one.1)))

  pub spells_clean : Clean limits (lines_of text)
  spells_clean = record {
    each = λ before after line cut. record {
      short = s.short before after line cut;
      right = λ h. let c = counted_split before after line h in
          right_at (counted before) c.0 (content line) (sym c.1 ∙ sym (ap counted cut) ∙ s.lines);
    };
  }

  nothing_lacks : lack_of limits (counted (lines_of text)) ≡ None
  nothing_lacks =
      let test : nat_lt (length s.others) (length s.others) ≡ false = grind (arith, nat_tests) in
      rw (s.lines, s.is_banner) (rw s.is_size (rw test refl))

  pub spells_faultless : (k : MmKind) (n : ℕ) → FirstFault text limits k n → ⊥
  spells_faultless k n f = faultless text limits spells_clean s.fits nothing_lacks f.first.turn f.place k n
      f.first.stands
