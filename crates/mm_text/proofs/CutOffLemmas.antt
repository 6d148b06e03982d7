-- A text of which only the first bytes are within the limit, and the number of lines.
use Rattle.std.proofs.Common.{inl, inr, ◌≡◌, ℕ, zero, suc, ◌+◌, ◌<◌, ◌≤◌, Bool, true, false, ◌&&◌, cond, List, [], ◌∷◌}
use Rattle.std.proofs.Common.{◌++◌, length, take, refl, sym, ◌∙◌, ap, subst, arith, append_assoc, length-append}
use Rattle.std.proofs.lemmas.Bool.{cases_lt}
use Rattle.std.proofs.lemmas.Bool.Decides.{nat_tests}
use Rattle.std.proofs.lemmas.List.{append-nil, take-append-le, take_all}
use Rattle.std.proofs.lemmas.List.Elements.{All-append}
use Rattle.std.proofs.lemmas.List.Sums.{sum_by-append, sum_by-cons}
use Rattle.std.specs.Prelude.{nat_eq, nat_lt, All, count_by}
use Rattle.std.specs.List.{AllByRecursion}
use Rattle.mm_text.specs.Lines.{lines_of, is_limited, content, IsLine, joined, bytes_of, line_at, is_line_feed}
use Rattle.mm_text.specs.Lines.{OverrunsAt}
use Rattle.mm_text.specs.Texts.{FirstFault}
use Rattle.mm_text.specs.Stages.{TakesLines, cut_kind}
use Rattle.mm_text.proofs.Clean.{first_overrun, first_too_long, overrun_of, overrun_long, overrun_some}
use Rattle.mm_text.proofs.ProgressLemmas.{limited_is}
use Rattle.mm_text.proofs.Cuts.{lines_of-joined, lines_of-line, lines_of-last, length-joined}
use Rattle.mm_text.specs.declared.fault.MmKind.TheVariants.{LineTooLong, TooLong}
use Rattle.cells.specs.declared.cell.Cell.{Cell}
use Rattle.mm_text.specs.declared.limits.TextLimits.{TextLimits}
use Rattle.mm_text.specs.declared.stages.Stage.{Stage}

zero_of : (v : Bool) → v ≡ false → ◌≡◌ {A = ℕ} (cond v 1 0) 0
zero_of true e = cc
zero_of false e = refl

count_none : (line : List ℕ) → IsLine line → count_by is_line_feed line ≡ 0
count_none [] h = refl
count_none (b ∷ bs) h =
    let one : is_line_feed b ≡ false = h.no_feed 0 0 (omega arith) in
    let o = zero_of (is_line_feed b) one in
    let rest : IsLine bs = record { no_feed = λ k d l. h.no_feed (suc k) d (omega arith) } in
    sum_by-cons (λ x. cond (is_line_feed x) 1 0) b bs ∙ (let n = count_none bs rest in omega arith)

count-joined : (lines : List (List ℕ)) → AllByRecursion IsLine lines →
    count_by is_line_feed (joined lines) ≡ length lines
count-joined [] h = refl
count-joined (line ∷ lines) h =
    sum_by-append (λ x. cond (is_line_feed x) 1 0) line (10 ∷ joined lines)
    ∙ (let a = count_none line h.0 in let b = sum_by-cons (λ x. cond (is_line_feed x) 1 0) 10 (joined lines) in
    let c = count-joined lines h.1 in omega arith)

-- the number of LF in whole lines and a rest
pub count_lines : (lines : List (List ℕ)) (rest : List ℕ) → AllByRecursion IsLine lines → IsLine rest →
    count_by is_line_feed (joined lines ++ rest) ≡ length lines
count_lines lines rest h r = sum_by-append (λ x. cond (is_line_feed x) 1 0) (joined lines) rest
    ∙ (let a = count_none rest r in let b = count-joined lines h in omega arith)

push_line : (rest : List ℕ) (b : ℕ) → IsLine rest → is_line_feed b ≡ false → IsLine (rest ++ b ∷ [])
push_line rest b h f = record { no_feed = All-append (λ x. is_line_feed x ≡ false) rest (b ∷ []) h.no_feed (only b f) }
  where
    only : (b : ℕ) → is_line_feed b ≡ false → All (λ x. is_line_feed x ≡ false) (b ∷ [])
    only b f zero d l = f
    only b f (suc k) d l = absurd (omega arith)

-- however the text goes on, its present line begins with these bytes
pub continues : (rest more : List ℕ) → IsLine rest → 0 < length rest + length more →
    (tail : List ℕ) × (after : List (List ℕ)) × (lines_of (rest ++ more) ≡ (rest ++ tail) ∷ after)
continues rest [] h some = ([], [], rw (append-nil rest) (lines_of-last rest h (omega arith)))
continues rest (b ∷ more) h some =
    ends (is_line_feed b) refl (λ e. continues (rest ++ b ∷ []) more (push_line rest b h e)
    (omega (arith, length-append rest (b ∷ []))))
  where
    ends : (v : Bool) → is_line_feed b ≡ v →
        (is_line_feed b ≡ false → (tail : List ℕ) × (after : List (List ℕ)) ×
        (lines_of ((rest ++ b ∷ []) ++ more) ≡ ((rest ++ b ∷ []) ++ tail) ∷ after)) →
        (tail : List ℕ) × (after : List (List ℕ)) × (lines_of (rest ++ b ∷ more) ≡ (rest ++ tail) ∷ after)
    ends true e again =
        let ten : b ≡ 10 = grind (arith, nat_tests) in
        ([], lines_of more, rw (ten, append-nil rest) (lines_of-line rest more h))
    ends false e again =
        let r = again e in (
          b ∷ r.0,
          r.1,
          sym (ap lines_of (append_assoc rest (b ∷ []) more)) ∙ r.2
              ∙ ap (λ l. l ∷ r.1) (append_assoc rest (b ∷ []) r.0),
        )

pub overrun_longer : (rest tail : List ℕ) (c : ℕ) → OverrunsAt rest c → OverrunsAt (rest ++ tail) c
overrun_longer rest tail c o = record {
  within = let w = o.within in omega (arith, length-append rest tail);
  long = rw (take-append-le c rest tail o.within) o.long;
  shortest = λ m l. let w = o.within in rw (take-append-le m rest tail (omega arith)) (o.shortest m l);
}

pub overrun_shorter : (rest tail : List ℕ) (c : ℕ) → c ≤ length rest → OverrunsAt (rest ++ tail) c → OverrunsAt rest c
overrun_shorter rest tail c h o = record {
  within = h;
  long = let l = o.long in rw (take-append-le c rest tail h) at l;
  shortest = λ m l. let s = o.shortest m l in rw (take-append-le m rest tail (omega arith)) at s;
}

pub limited_longer : (done : List (List ℕ)) (rest tail : List ℕ) → 0 < length rest →
    is_limited done (rest ++ tail) ≡ is_limited done rest
limited_longer [] rest tail h = refl
limited_longer (x ∷ xs) [] tail h = absurd (omega arith)
limited_longer (x ∷ xs) (b ∷ bs) tail h = refl

pub first_cut : (text : List ℕ) (limits : TextLimits) (stage : Stage) (cells : List Cell) (count : ℕ)
    (visible more rest : List ℕ) →
    TakesLines limits [] visible rest stage cells count → text ≡ visible ++ more → length visible ≡ limits.max_bytes →
    0 < length more →
    FirstFault text limits (cut_kind (nat_eq count 0) rest) (count + 1)
first_cut text limits stage cells count visible more rest t whole size_is some =
    let c = continues rest more t.partial (omega arith) in
    let text_is : text ≡ joined t.lines ++ (rest ++ more) = whole ∙ ap (λ v. v ++ more) t.whole
    ∙ append_assoc (joined t.lines) rest more in
    let cut : lines_of text ≡ t.lines ++ (rest ++ c.0) ∷ c.1 = ap lines_of text_is
    ∙ lines_of-joined t.lines (rest ++ more) t.all ∙ ap (λ l. t.lines ++ l) c.2 in
    let bytes : bytes_of t.lines + length rest ≡ limits.max_bytes = let e = ap length t.whole in
    let j = length-joined t.lines in omega (arith, length-append (joined t.lines) rest, e) in
    let longer : limits.max_bytes < length text = let e = ap length whole in
    omega (arith, length-append visible more, e) in
    let visible_is : take limits.max_bytes text ≡ visible =
    rw (whole, ← size_is) (take-append-le (length visible) visible more (omega arith)
    ∙ take_all (length visible) visible (omega arith)) in
    let number : line_at text limits.max_bytes ≡ count + 1 =
    let k = t.keeps.lines_are in let n : count_by is_line_feed (take limits.max_bytes text) ≡ length t.lines =
    ap (count_by is_line_feed) (visible_is ∙ t.whole) ∙ count_lines t.lines rest t.all t.partial in omega arith in
    let first_is : nat_eq count 0 ≡ nat_eq (length t.lines) 0 = ap (λ n. nat_eq n 0) t.keeps.lines_are in
    let tests : cut_kind (nat_eq count 0) rest ≡ cond (is_limited t.lines rest && nat_lt 1024 (length (content rest)))
    LineTooLong TooLong = rw (first_is, limited_is t.lines rest) refl in
    let total : bytes_of t.lines + length rest ≤ length text = omega arith in
    rw tests (decide (is_limited t.lines rest) refl c cut bytes longer number)
  where
    decide : (v : Bool) → is_limited t.lines rest ≡ v →
        (c : (tail : List ℕ) × (after : List (List ℕ)) × (lines_of (rest ++ more) ≡ (rest ++ tail) ∷ after)) →
        lines_of text ≡ t.lines ++ (rest ++ c.0) ∷ c.1 → bytes_of t.lines + length rest ≡ limits.max_bytes →
        limits.max_bytes < length text → line_at text limits.max_bytes ≡ count + 1 →
        FirstFault text limits (cond (v && nat_lt 1024 (length (content rest))) LineTooLong TooLong) (count + 1)
    decide false limited c cut bytes longer number =
        subst (λ n. FirstFault text limits TooLong n) number
        (first_too_long text limits t.lines (rest ++ c.0) c.1 t.keeps.clean cut longer
        (omega (arith, length-append rest c.0))
        (λ n lim o. elim (cases_lt limits.max_bytes (bytes_of t.lines + n)) [
          | inl far ↦ far
          | inr near ↦ absurd (
              let some_bytes = overrun_some (rest ++ c.0) n o in
              let e = limited_longer t.lines rest c.0 (omega arith) in cc)
        ]))
    decide true limited c cut bytes longer number = elim (cases_lt 1024 (length (content rest))) [
      | inl long ↦
          let test : nat_lt 1024 (length (content rest)) ≡ true = grind (arith, nat_tests) in
          let o = overrun_of rest long in
          let within = o.1.within in
          let some_bytes = overrun_some rest o.0 o.1 in
          let e = limited_longer t.lines rest c.0 (omega arith) in
          let k = t.keeps.lines_are in
          let n : length t.lines + 1 ≡ count + 1 = omega arith in
          rw test (subst (λ n. FirstFault text limits LineTooLong n) n
          (first_overrun text limits t.lines (rest ++ c.0) c.1 t.keeps.clean cut o.0 (e ∙ limited)
          (overrun_longer rest c.0 o.0 o.1) (λ l. omega arith) (omega arith)))
      | inr fits ↦
          let test : nat_lt 1024 (length (content rest)) ≡ false = grind (arith, nat_tests) in
          rw test (subst (λ n. FirstFault text limits TooLong n) number
          (first_too_long text limits t.lines (rest ++ c.0) c.1 t.keeps.clean cut longer
          (omega (arith, length-append rest c.0))
          (λ n lim o. elim (cases_lt limits.max_bytes (bytes_of t.lines + n)) [
            | inl far ↦ far
            | inr near ↦ absurd (let short = overrun_shorter rest c.0 n (omega arith) o in
                let l = overrun_long rest n short in omega arith)
          ])))
    ]
