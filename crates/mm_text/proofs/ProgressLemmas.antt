-- One more line, judged: its fault, or what is kept behind it.
use Rattle.std.proofs.Common.{inl, inr, ◌≡◌, ℕ, ◌+◌, ◌<◌, ◌≤◌, Bool, true, false, not, ◌||◌, ◌&&◌, ◌⊎◌, cond, List, []}
use Rattle.std.proofs.Common.{◌∷◌, ◌++◌, length, refl, sym, ◌∙◌, ap, arith, length-append}
use Rattle.std.proofs.lemmas.Bool.Decides.{nat_tests}
use Rattle.std.proofs.lemmas.Bool.{cases_lt}
use Rattle.std.specs.Prelude.{Option, Some, None, Result, Ok, Err, nat_lt, nat_eq}
use Rattle.mm_text.specs.Lines.{counted, counts, is_limited, content, is_comment, is_skipped}
use Rattle.mm_text.specs.Judging.{◌>>=◌, entry}
use Rattle.mm_text.specs.declared.size.Size.{Size}
use Rattle.mm_text.specs.declared.stages.Stage.TheVariants.{AtBanner, AtSize, AtEntries}
use Rattle.std.proofs.lemmas.List.{append-nil}
use Rattle.mm_text.specs.Stages.{at, step, judged, added, Keeps, LineFault, AddsLine, declared_size, after_entry}
use Rattle.mm_text.specs.Stages.{is_symmetric}
use Rattle.mm_text.proofs.StageLemmas.{bind_err, bind_ok, step_err, step_ok, step_right, step_entry}
use Rattle.mm_text.specs.Texts.{IsGoodEntry}
use Rattle.mm_text.proofs.Clean.{clean_more}
use Rattle.mm_text.proofs.Cuts.{counted-push_yes, counted-push_no}
use Rattle.mm_text.specs.declared.fault.MmKind.{MmKind}
use Rattle.mm_text.specs.declared.fault.MmKind.TheVariants.{LineTooLong, ExtraText, Memory}
use Rattle.cells.specs.declared.cell.Cell.{Cell}
use Rattle.mm_text.specs.declared.limits.TextLimits.{TextLimits}
use Rattle.mm_text.specs.declared.stages.Stage.{Stage}

counts_is : (done : List (List ℕ)) (line : List ℕ) →
    counts done line ≡ (nat_eq (length done) 0 || not (is_skipped line))
counts_is [] line = refl
counts_is (x ∷ xs) line = let e : nat_eq (length (x ∷ xs)) 0 ≡ false = grind (arith, nat_tests) in rw e refl

pub limited_is : (done : List (List ℕ)) (line : List ℕ) →
    is_limited done line ≡ (nat_eq (length done) 0 || not (is_comment line))
limited_is [] line = refl
limited_is (x ∷ xs) line = let e : nat_eq (length (x ∷ xs)) 0 ≡ false = grind (arith, nat_tests) in rw e refl

-- what judged says, with its two tests as variables
abbrev judged_by : TextLimits → Stage → Bool → Bool → List ℕ → Result (Option (Stage × Option Cell)) MmKind
judged_by limits stage limited counting line =
    cond (limited && nat_lt 1024 (length (content line))) (Err LineTooLong)
    (cond counting (step limits stage (content line) >>= λ next. Ok (Some next)) (Ok None))

-- where a line is not too long
judged_short : TextLimits → Stage → Bool → List ℕ → Result (Option (Stage × Option Cell)) MmKind
judged_short limits stage counting line = cond counting (step limits stage (content line) >>= λ next. Ok (Some next))
    (Ok None)

long_or_short : (limits : TextLimits) (stage : Stage) (limited counting : Bool) (line : List ℕ) →
    ((limited ≡ true) × (1024 < length (content line)) ×
    (judged_by limits stage limited counting line ≡ Err LineTooLong))
    ⊎ ((limited ≡ true → length (content line) ≤ 1024) ×
    (judged_by limits stage limited counting line ≡ judged_short limits stage counting line))
unfolding judged_short
long_or_short limits stage false counting line = inr (λ e. cc, refl)
long_or_short limits stage true counting line = elim (cases_lt 1024 (length (content line))) [
  | inl more ↦ inl (
    refl,
    more,
    let t : nat_lt 1024 (length (content line)) ≡ true = grind (arith, nat_tests) in
        rw t refl,
  )
  | inr fits ↦ inr (
    λ e. fits,
    let t : nat_lt 1024 (length (content line)) ≡ false = grind (arith, nat_tests) in
        rw t refl,
  )
]

counting_or_not : (limits : TextLimits) (stage : Stage) (counting : Bool) (line : List ℕ) →
    ((counting ≡ true) × (judged_short limits stage counting
    line ≡ (step limits stage (content line) >>= λ next. Ok (Some next))))
    ⊎ ((counting ≡ false) × (judged_short limits stage counting line ≡ Ok None))
unfolding judged_short
counting_or_not limits stage true line = inl (refl, refl)
counting_or_not limits stage false line = inr (refl, refl)

module _ (limits : TextLimits) (done : List (List ℕ)) (stage : Stage) (cells : List Cell) (lines : ℕ) (line : List ℕ)
    (kept : Keeps limits done stage cells lines) where
  first_is : nat_eq lines 0 ≡ nat_eq (length done) 0
  first_is = ap (λ n. nat_eq n 0) kept.lines_are

  by_tests : judged limits stage (nat_eq lines 0) line ≡ judged_by limits stage (is_limited done line)
      (counts done line) line
  by_tests = rw (first_is, limited_is done line, counts_is done line) refl

  pub keeps_fault : (kind : MmKind) → judged limits stage (nat_eq lines 0) line ≡ Err kind →
      LineFault limits done line kind
  keeps_fault kind e = elim (long_or_short limits stage (is_limited done line) (counts done line) line) [
    | inl l ↦ inl (record { kind_is = let f = by_tests in let g = l.2 in cc; limited = l.0; long = l.1 })
    | inr s ↦ elim (counting_or_not limits stage (counts done line) line) [
      | inl c ↦
          let r : (step limits stage (content line) >>= λ next. Ok (Some next)) ≡ Err kind = sym c.1 ∙ sym s.1
          ∙ sym by_tests ∙ e in
          inr (inl (record {
            short = s.0;
            counted_too = c.0;
            wrong = step_err limits (counted done) cells stage (content line) kind kept.stage_is
                (bind_err (step limits stage (content line)) Some kind r);
          }))
      | inr c ↦ absurd (let f = by_tests in let g = s.1 in let h = c.1 in cc)
    ]
  ]

  pub keeps_skip : judged limits stage (nat_eq lines 0) line ≡ Ok None →
      Keeps limits (done ++ line ∷ []) stage cells (lines + 1)
  keeps_skip e = elim (long_or_short limits stage (is_limited done line) (counts done line) line) [
    | inl l ↦ absurd (let f = by_tests in let g = l.2 in cc)
    | inr s ↦ elim (counting_or_not limits stage (counts done line) line) [
      | inl c ↦
          let r : (step limits stage (content line) >>= λ next. Ok (Some next)) ≡ Ok None = sym c.1 ∙ sym s.1
          ∙ sym by_tests ∙ e in
          absurd (let b = bind_ok (step limits stage (content line)) Some None r in let x = b.2 in cc)
      | inr c ↦ record {
        clean = clean_more limits done line kept.clean (record {
          short = s.0;
          right = λ t. absurd (let u = c.0 in cc);
        });
        stage_is = rw (counted-push_no done line c.0) kept.stage_is;
        lines_are = let l = kept.lines_are in omega (arith, length-append done (line ∷ []));
      }
    ]
  ]

  pub keeps_next : (y : Stage × Option Cell) → judged limits stage (nat_eq lines 0) line ≡ Ok (Some y) →
      Keeps limits (done ++ line ∷ []) y.0 (cells ++ added y.0 y.1) (lines + 1)
  keeps_next y e = elim (long_or_short limits stage (is_limited done line) (counts done line) line) [
    | inl l ↦ absurd (let f = by_tests in let g = l.2 in cc)
    | inr s ↦ elim (counting_or_not limits stage (counts done line) line) [
      | inl c ↦
          let r : (step limits stage (content line) >>= λ next. Ok (Some next)) ≡ Ok (Some y) = sym c.1 ∙ sym s.1
          ∙ sym by_tests ∙ e in
          let b = bind_ok (step limits stage (content line)) Some (Some y) r in
          let same : b.0 ≡ y = let x = b.2 in cc in
          let stepped : step limits stage (content line) ≡ Ok y = b.1 ∙ ap Ok same in
          record {
            clean = clean_more limits done line kept.clean (record {
              short = s.0;
              right = λ t. step_right limits (counted done) cells stage (content line) y kept.stage_is
                  stepped;
            });
            stage_is = rw (counted-push_yes done line c.0)
                (step_ok limits (counted done) cells stage (content line) y kept.stage_is stepped);
            lines_are = let l = kept.lines_are in omega (arith, length-append done (line ∷ []));
          }
      | inr c ↦ absurd (let f = by_tests in let g = s.1 in let h = c.1 in cc)
    ]
  ]

  -- a line that was judged right is not too long
  pub keeps_short : (y : Option (Stage × Option Cell)) → judged limits stage (nat_eq lines 0) line ≡ Ok y →
      is_limited done line ≡ true → length (content line) ≤ 1024
  keeps_short y e = elim (long_or_short limits stage (is_limited done line) (counts done line) line) [
    | inl l ↦ absurd (let f = by_tests in let g = l.2 in cc)
    | inr s ↦ s.0
  ]

  -- a line that was judged right and adds a cell is a good entry
  pub keeps_entry : (y : Stage × Option Cell) (cell : Cell) → judged limits stage (nat_eq lines 0) line ≡ Ok (Some y) →
      y.1 ≡ Some cell → IsGoodEntry limits done line
  keeps_entry y cell e f = elim (long_or_short limits stage (is_limited done line) (counts done line) line) [
    | inl l ↦ absurd (let f = by_tests in let g = l.2 in cc)
    | inr s ↦ elim (counting_or_not limits stage (counts done line) line) [
      | inl c ↦
          let r : (step limits stage (content line) >>= λ next. Ok (Some next)) ≡ Ok (Some y) = sym c.1 ∙ sym s.1
          ∙ sym by_tests ∙ e in
          let b = bind_ok (step limits stage (content line)) Some (Some y) r in
          let same : b.0 ≡ y = let x = b.2 in cc in
          let stepped : step limits stage (content line) ≡ Ok y = b.1 ∙ ap Ok same in
          record {
            counted_too = c.0;
            behind_size = step_entry limits (counted done) cells stage (content line) y cell kept.stage_is stepped f;
            right = step_right limits (counted done) cells stage (content line) y kept.stage_is stepped;
          }
      | inr c ↦ absurd (let f = by_tests in let g = s.1 in let h = c.1 in cc)
    ]
  ]

step_size : (limits : TextLimits) (stage : Stage) (line : List ℕ) (y : Stage × Option Cell) (s : Size) →
    step limits stage line ≡ Ok y → declared_size stage ≡ Some s → declared_size y.0 ≡ Some s
step_size limits AtBanner line y s e f = cc
step_size limits (AtSize symmetric) line y s e f = cc
step_size limits (AtEntries symmetric t seen) line y s e f = test (nat_lt seen t.entries) e
  where
    test : (b : Bool) → cond b (entry t.rows t.cols line >>= λ cell. Ok (after_entry symmetric t seen cell))
        (Err ExtraText) ≡ Ok y → declared_size y.0 ≡ Some s
    test false g = cc
    test true g = let r = bind_ok (entry t.rows t.cols line) (after_entry symmetric t seen) y g in
        ap (λ p. declared_size p.0) (sym r.2) ∙ f

judged_size : (limits : TextLimits) (stage : Stage) (a b : Bool) (line : List ℕ) (y : Stage × Option Cell) (s : Size) →
    cond a (Err LineTooLong) (cond b (step limits stage (content line) >>= λ next. Ok (Some next)) (Ok None)) ≡ Ok
    (Some y) → declared_size stage ≡ Some s → declared_size y.0 ≡ Some s
judged_size limits stage true b line y s e f = cc
judged_size limits stage false false line y s e f = cc
judged_size limits stage false true line y s e f =
    let r = bind_ok (step limits stage (content line)) Some (Some y) e in
    let same : r.0 ≡ y = let x = r.2 in cc in
    step_size limits stage (content line) y s (r.1 ∙ ap Ok same) f

pub few_of : (v : Bool) (c d : Cell) → length (cond v (c ∷ d ∷ []) (c ∷ [])) ≤ 2
few_of true c d = omega arith
few_of false c d = omega arith

few_added : (stage : Stage) (cell : Option Cell) → length (added stage cell) ≤ 2
few_added stage None = omega arith
few_added stage (Some c) = few_of (is_symmetric stage && not (nat_eq c.row c.col)) c
    (record c { row = c.col; col = c.row })

pub adds_none : (limits : TextLimits) (stage : Stage) (lines : ℕ) (line : List ℕ) (block : List Cell) →
    judged limits stage (nat_eq lines 0) line ≡ Ok None →
    AddsLine limits (λ l. l ≡ line) (at stage lines) block (at stage (lines + 1)) block
adds_none limits stage lines line block e = record {
  cells = [];
  block_is = sym (append-nil block);
  few = omega arith;
  keeps = λ l done given is k. rw (is, append-nil given) (keeps_skip limits done stage given lines line k e);
  size_kept = λ s f. f;
}

pub adds_some : (limits : TextLimits) (stage : Stage) (lines : ℕ) (line : List ℕ) (block block' : List Cell)
    (y : Stage × Option Cell) → judged limits stage (nat_eq lines 0) line ≡ Ok (Some y) →
    block' ≡ block ++ added y.0 y.1 → AddsLine limits (λ l. l ≡ line) (at stage lines) block (at y.0 (lines + 1)) block'
adds_some limits stage lines line block block' y e b = record {
  cells = added y.0 y.1;
  block_is = b;
  few = few_added y.0 y.1;
  keeps = λ l done given is k. rw is (keeps_next limits done stage given lines line k y e);
  size_kept = λ s f. judged_size limits stage _ _ line y s e f;
}

pub unstored : (limits : TextLimits) (done : List (List ℕ)) (stage : Stage) (given : List Cell) (lines : ℕ)
    (line : List ℕ) (y : Stage × Option Cell) (cell : Cell) → Keeps limits done stage given lines →
    judged limits stage (nat_eq lines 0) line ≡ Ok (Some y) → y.1 ≡ Some cell → LineFault limits done line Memory
unstored limits done stage given lines line y cell k e f = inr (inr (record {
  kind_is = refl;
  short = keeps_short limits done stage given lines line k (Some y) e;
  entry = keeps_entry limits done stage given lines line k y cell e f;
}))
