-- A text spells one file at most.
use Rattle.std.proofs.Common.{◌≡◌, ℕ, Bool, List, [], ◌∷◌, length, refl, sym, ◌∙◌, ap}
use Rattle.std.specs.Prelude.{Result, Ok, map, flat_map}
use Rattle.mm_text.specs.Judging.{banner, size, entry, cells_of}
use Rattle.mm_text.specs.Texts.{Spells}
use Rattle.mm_text.specs.declared.fault.MmKind.{MmKind}
use Rattle.cells.specs.declared.cell.Cell.{Cell}
use Rattle.mm_text.specs.declared.size.Size.{Size}
use Rattle.mm_text.specs.declared.limits.TextLimits.{TextLimits}

abbrev ok_cell : Cell → Result Cell MmKind
ok_cell c = Ok c

same_oks : (xs ys : List Cell) → map ok_cell xs ≡ map ok_cell ys → xs ≡ ys
same_oks [] [] e = refl
same_oks [] (y ∷ ys) e = cc
same_oks (x ∷ xs) [] e = cc
same_oks (x ∷ xs) (y ∷ ys) e =
    let rest : map ok_cell xs ≡ map ok_cell ys = cc in
    let t = same_oks xs ys rest in cc

module _ (text : List ℕ) (limits : TextLimits) (rows cols rows' cols' : ℕ) (cells cells' : List Cell)
    (s : Spells text limits rows cols cells) (t : Spells text limits rows' cols' cells') where
  lines_same : s.first ∷ s.second ∷ s.others ≡ t.first ∷ t.second ∷ t.others
  lines_same = sym s.lines ∙ t.lines

  symmetric_same : s.symmetric ≡ t.symmetric
  symmetric_same =
      let l : s.first ≡ t.first = let e = lines_same in cc in
      let b : ◌≡◌ {A = Result Bool MmKind} (Ok s.symmetric) (Ok t.symmetric) = sym s.is_banner ∙ ap banner l
      ∙ t.is_banner in cc

  dims_same : (rows ≡ rows') × (cols ≡ cols')
  dims_same =
      let l : s.second ≡ t.second = let e = lines_same in cc in
      let a : Size = record { rows = rows; cols = cols; entries = length s.others } in
      let b : Size = record { rows = rows'; cols = cols'; entries = length t.others } in
      let e : ◌≡◌ {A = Result Size MmKind} (Ok a) (Ok b) = sym s.is_size
      ∙ ap (λ v. size v limits.max_entries s.second) symmetric_same
      ∙ ap (λ x. size t.symmetric limits.max_entries x) l ∙ t.is_size in
      let f : a ≡ b = cc in (ap (λ z. z.rows) f, ap (λ z. z.cols) f)

  pub one_file : (rows ≡ rows') × (cols ≡ cols') × (cells ≡ cells')
  one_file =
      let o : s.others ≡ t.others = let e = lines_same in cc in
      let m : map ok_cell s.entries ≡ map ok_cell t.entries =
      sym s.are_entries ∙ ap (λ r. map (entry r cols) s.others) dims_same.0
      ∙ ap (λ c. map (entry rows' c) s.others) dims_same.1 ∙ ap (map (entry rows' cols')) o ∙ t.are_entries in (
        dims_same.0,
        dims_same.1,
        s.cells_are ∙ ap (λ v. flat_map (cells_of v) s.entries) symmetric_same
            ∙ ap (flat_map (cells_of t.symmetric)) (same_oks s.entries t.entries m) ∙ sym t.cells_are,
      )
