-- The carried front of a line, and what it says of the line.
use Rattle.std.proofs.Common.{inl, inr, ◌≡◌, ℕ, ◌+◌, ◌<◌, ◌≤◌, Bool, true, false, not, ◌||◌, ◌&&◌, List, [], ◌∷◌, ◌++◌}
use Rattle.std.proofs.Common.{length, refl, sym, ◌∙◌, ap, arith, length-append}
use Rattle.std.proofs.lemmas.Bool.Decides.{nat_tests}
use Rattle.std.proofs.lemmas.List.{append-nil}
use Rattle.std.specs.Prelude.{nat_eq, nat_lt, Ok, None}
use Rattle.mm_text.specs.Lines.{is_comment, content}
use Rattle.mm_text.specs.Stages.{at, IsCarried, EndsCarried, cut_kind, judged, AddsLine, Keeps, IsOverlong}
use Rattle.mm_text.specs.declared.fault.MmKind.TheVariants.{LineTooLong, TooLong}
use Rattle.cells.specs.declared.cell.Cell.{Cell}
use Rattle.mm_text.specs.declared.limits.TextLimits.{TextLimits}
use Rattle.mm_text.specs.declared.stages.Stage.{Stage}
use Rattle.mm_text.proofs.Clean.{content_ge}
use Rattle.mm_text.proofs.ProgressLemmas.{limited_is, keeps_skip}

comment_longer : (rest bytes : List ℕ) → is_comment rest ≡ true → is_comment (rest ++ bytes) ≡ true
comment_longer [] bytes e = cc
comment_longer (b ∷ bs) bytes e = e

both_true : (v w : Bool) → (not v && w) ≡ true → (v ≡ false) × (w ≡ true)
both_true true w e = cc
both_true false w e = (refl, e)

not_both : (v w : Bool) → (not v && w) ≡ false → (v || not w) ≡ true
not_both true w e = refl
not_both false true e = cc
not_both false false e = refl

some_lines : (count : ℕ) → nat_eq count 0 ≡ false → 0 < count
some_lines count e = grind (arith, nat_tests)

no_zero : (count : ℕ) → 0 < count → nat_eq count 0 ≡ false
no_zero count e = grind (arith, nat_tests)

-- the present line is a comment
module _ (count : ℕ) (rest carry bytes : List ℕ) (c : IsCarried count rest carry)
    (test : (not (nat_eq count 0) && is_comment (carry ++ bytes)) ≡ true) where
  pub comment_is : (0 < count) × (is_comment (rest ++ bytes) ≡ true)
  comment_is =
      let t = both_true (nat_eq count 0) (is_comment (carry ++ bytes)) test in (
        some_lines count t.0,
        elim c [ inl e ↦ rw (← e) t.1 | inr m ↦ comment_longer rest bytes m.1 ],
      )

  pub mark_carried : IsCarried count (rest ++ bytes) (37 ∷ [])
  mark_carried = inr (comment_is.0, comment_is.1, refl)

  pub comment_short : cut_kind (nat_eq count 0) (rest ++ bytes) ≡ TooLong
  comment_short = let z = no_zero count comment_is.0 in rw (z, comment_is.1) refl

-- the present line has a limit of length
module _ (count : ℕ) (rest carry bytes : List ℕ) (c : IsCarried count rest carry)
    (test : (not (nat_eq count 0) && is_comment (carry ++ bytes)) ≡ false) where
  pub carried_all : carry ≡ rest
  carried_all = elim c [
    | inl e ↦ e
    | inr m ↦ absurd (
        let z = no_zero count m.0 in
        let l = comment_longer carry bytes m.2 in
        let t : (not (nat_eq count 0) && is_comment (carry ++ bytes)) ≡ true = rw (z, l) refl in cc)
  ]

  pub limited_here : (nat_eq count 0 || not (is_comment (rest ++ bytes))) ≡ true
  limited_here =
      let t = not_both (nat_eq count 0) (is_comment (carry ++ bytes)) test in
      rw (← carried_all) t

  pub cut_long : 1024 < length (content (rest ++ bytes)) → cut_kind (nat_eq count 0) (rest ++ bytes) ≡ LineTooLong
  cut_long long = let t : nat_lt 1024 (length (content (rest ++ bytes))) ≡ true = grind (arith, nat_tests) in
      rw (limited_here, t) refl

  pub cut_short : length (content (rest ++ bytes)) ≤ 1024 → cut_kind (nat_eq count 0) (rest ++ bytes) ≡ TooLong
  cut_short short = let t : nat_lt 1024 (length (content (rest ++ bytes))) ≡ false = grind (arith, nat_tests) in
      rw (limited_here, t) refl

  pub long_here : 1025 < length carry + length bytes → 1024 < length (content (rest ++ bytes))
  long_here h = let e = ap length carried_all in let g = content_ge (rest ++ bytes) in
      omega (arith, length-append rest bytes)

  pub overlong_here : (limits : TextLimits) (done : List (List ℕ)) (stage : Stage) (given : List Cell) →
      Keeps limits done stage given count →
      1024 < length (content (rest ++ bytes)) → IsOverlong done (rest ++ bytes) LineTooLong
  overlong_here limits done stage given k long = record {
    kind_is = refl;
    limited = limited_is done (rest ++ bytes) ∙ ap (λ n. nat_eq n 0 || not (is_comment (rest ++ bytes)))
        (sym k.lines_are) ∙ limited_here;
    long = long;
  }

judged_comment : (limits : TextLimits) (stage : Stage) (count : ℕ) (line : List ℕ) → 0 < count →
    is_comment line ≡ true → judged limits stage (nat_eq count 0) line ≡ Ok None
judged_comment limits stage count line some comment = let z = no_zero count some in rw (z, comment) refl

pub adds_comment : (limits : TextLimits) (count : ℕ) (carry bytes : List ℕ) (stage : Stage) (block : List Cell)
    (stage' : Stage) (count' : ℕ) →
    (not (nat_eq count 0) && is_comment (carry ++ bytes)) ≡ true → stage' ≡ stage → count' ≡ count + 1 →
    AddsLine limits (EndsCarried count carry bytes) (at stage count) block (at stage' count') block
adds_comment limits count carry bytes stage block stage' count' test s n = rw (s, n) (record {
  cells = [];
  block_is = sym (append-nil block);
  few = omega arith;
  keeps = λ line done given is k.
      let m = comment_is count is.0 carry bytes is.1 test in
      let comment : is_comment line ≡ true = rw is.2 m.1 in
      rw (append-nil given) (keeps_skip limits done stage given count line k
      (judged_comment limits stage count line m.0 comment));
  size_kept = λ z e. e;
})

-- a line that was judged whole, where all of its front was carried
pub adds_carried : (limits : TextLimits) (count : ℕ) (carry bytes whole : List ℕ) (stage : Stage) (block : List Cell)
    (stage' : Stage) (count' : ℕ) (block' : List Cell) →
    ((rest : List ℕ) → IsCarried count rest carry → whole ≡ rest ++ bytes) →
    AddsLine limits (λ l. l ≡ whole) (at stage count) block (at stage' count') block' →
    AddsLine limits (EndsCarried count carry bytes) (at stage count) block (at stage' count') block'
adds_carried limits count carry bytes whole stage block stage' count' block' same a = record {
  cells = a.cells;
  block_is = a.block_is;
  few = a.few;
  keeps = λ line done given is k. a.keeps line done given (is.2 ∙ sym (same is.0 is.1)) k;
  size_kept = a.size_kept;
}

-- where nothing is carried, there is nothing before these bytes
pub carried_none : (count : ℕ) (rest carry : List ℕ) → length carry ≡ 0 → IsCarried count rest carry → rest ≡ []
carried_none count [] carry n c = refl
carried_none count (b ∷ bs) [] n c = elim c [ inl e ↦ cc | inr m ↦ absurd (let e = m.2 in cc) ]
carried_none count (b ∷ bs) (x ∷ xs) n c = absurd (omega arith)
