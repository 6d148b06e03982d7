-- Every fault that the reader tells, explained by the bytes that were read.
use Rattle.std.proofs.Common.{inl, inr, ◌≡◌, ℕ, ◌+◌, ◌<◌, ◌≤◌, true, List, [], ◌∷◌, ◌++◌, length, take, refl, ◌∙◌, ap}
use Rattle.std.proofs.Common.{arith, length-append}
use Rattle.std.proofs.lemmas.List.{append-nil, take-append-le, take_all}
use Rattle.std.specs.List.{AllByRecursion}
use Rattle.mm_text.specs.Lines.{lines_of, joined, bytes_of, is_limited, content, IsLine}
use Rattle.mm_text.specs.Texts.{FirstFaultAt, NoFaultWithin}
use Rattle.mm_text.specs.Stages.{Clean, LineFault}
use Rattle.mm_text.specs.Faults.{Explains, IsTold, IsMemoryFault}
use Rattle.mm_text.specs.declared.fault.MmKind.{MmKind}
use Rattle.mm_text.specs.declared.fault.MmKind.TheVariants.{Read, Memory, BadBanner, Unsupported, LineTooLong, BadSize}
use Rattle.mm_text.specs.declared.fault.MmKind.TheVariants.{BadDimension, NotSquare, TooManyEntries, BadEntry, Negative}
use Rattle.mm_text.specs.declared.fault.MmKind.TheVariants.{NumberTooLarge, IndexOutOfRange, TooFewEntries, ExtraText}
use Rattle.mm_text.specs.declared.fault.MmKind.TheVariants.{TooLong}
use Rattle.mm_text.specs.declared.limits.TextLimits.{TextLimits}
use Rattle.mm_text.proofs.Clean.{first_wrong_at, first_overrun_at, overrun_of, no_overrun_of, none_within}
use Rattle.mm_text.proofs.Clean.{none_within_lines}
use Rattle.mm_text.proofs.Cuts.{lines_of-joined, lines_of-last, length-joined}
use Rattle.mm_text.proofs.FaultLemmas.{IsPlain, plain_behind}

pub told : (text : List ℕ) (limits : TextLimits) (ended : Type 0) (place : ℕ) (kind : MmKind) (line : ℕ) →
    FirstFaultAt text limits place kind line → (length text < place → ended) → IsTold text limits ended kind line
told text limits ended place kind line f e = record { first = record { place = place; first = f }; at_end = e }

pub explains_plain : (text : List ℕ) (limits : TextLimits) (ended failed : Type 0) (kind : MmKind) (line : ℕ) →
    IsPlain kind → IsTold text limits ended kind line → Explains text limits ended failed kind line
explains_plain text limits ended failed Read line p t = absurd p
explains_plain text limits ended failed Memory line p t = absurd p
explains_plain text limits ended failed BadBanner line p t = t
explains_plain text limits ended failed Unsupported line p t = t
explains_plain text limits ended failed LineTooLong line p t = t
explains_plain text limits ended failed BadSize line p t = t
explains_plain text limits ended failed BadDimension line p t = t
explains_plain text limits ended failed NotSquare line p t = t
explains_plain text limits ended failed TooManyEntries line p t = t
explains_plain text limits ended failed BadEntry line p t = t
explains_plain text limits ended failed Negative line p t = t
explains_plain text limits ended failed NumberTooLarge line p t = t
explains_plain text limits ended failed IndexOutOfRange line p t = t
explains_plain text limits ended failed TooFewEntries line p t = t
explains_plain text limits ended failed ExtraText line p t = t
explains_plain text limits ended failed TooLong line p t = t

told_weaker : (text : List ℕ) (limits : TextLimits) (ended ended' : Type 0) (kind : MmKind) (line : ℕ) →
    (ended → ended') → IsTold text limits ended kind line → IsTold text limits ended' kind line
told_weaker text limits ended ended' kind line f t = record { first = t.first; at_end = λ h. f (t.at_end h) }

memory_weaker : (text : List ℕ) (limits : TextLimits) (ended ended' : Type 0) (line : ℕ) → (ended → ended') →
    IsMemoryFault text limits ended line → IsMemoryFault text limits ended' line
memory_weaker text limits ended ended' line f t = record {
  before = t.before;
  this = t.this;
  after = t.after;
  lines = t.lines;
  entry = t.entry;
  place = t.place;
  place_is = t.place_is;
  none_within = t.none_within;
  at_end = λ h. f (t.at_end h);
  line_is = t.line_is;
}

-- what is explained without an end or a failure is explained with them
pub explains_weaker : (text : List ℕ) (limits : TextLimits) (ended ended' failed : Type 0) (kind : MmKind) (line : ℕ) →
    (ended → ended') → Explains text limits ended ⊥ kind line → Explains text limits ended' failed kind line
explains_weaker text limits ended ended' failed Read line f t = absurd t.failed_now
explains_weaker text limits ended ended' failed Memory line f t = memory_weaker text limits ended ended' line f t
explains_weaker text limits ended ended' failed BadBanner line f t = told_weaker _ _ _ _ _ _ f t
explains_weaker text limits ended ended' failed Unsupported line f t = told_weaker _ _ _ _ _ _ f t
explains_weaker text limits ended ended' failed LineTooLong line f t = told_weaker _ _ _ _ _ _ f t
explains_weaker text limits ended ended' failed BadSize line f t = told_weaker _ _ _ _ _ _ f t
explains_weaker text limits ended ended' failed BadDimension line f t = told_weaker _ _ _ _ _ _ f t
explains_weaker text limits ended ended' failed NotSquare line f t = told_weaker _ _ _ _ _ _ f t
explains_weaker text limits ended ended' failed TooManyEntries line f t = told_weaker _ _ _ _ _ _ f t
explains_weaker text limits ended ended' failed BadEntry line f t = told_weaker _ _ _ _ _ _ f t
explains_weaker text limits ended ended' failed Negative line f t = told_weaker _ _ _ _ _ _ f t
explains_weaker text limits ended ended' failed NumberTooLarge line f t = told_weaker _ _ _ _ _ _ f t
explains_weaker text limits ended ended' failed IndexOutOfRange line f t = told_weaker _ _ _ _ _ _ f t
explains_weaker text limits ended ended' failed TooFewEntries line f t = told_weaker _ _ _ _ _ _ f t
explains_weaker text limits ended ended' failed ExtraText line f t = told_weaker _ _ _ _ _ _ f t
explains_weaker text limits ended ended' failed TooLong line f t = told_weaker _ _ _ _ _ _ f t

-- Clean lines, and the front of a line that isn't too long yet, bear no fault.
pub none_before : (limits : TextLimits) (done : List (List ℕ)) (rest : List ℕ) → Clean limits done →
    AllByRecursion IsLine done → IsLine rest →
    (is_limited done rest ≡ true → length (content rest) ≤ 1024) → length (joined done ++ rest) ≤ limits.max_bytes →
    NoFaultWithin (joined done ++ rest) limits
none_before limits done [] clean all partial short fits =
    let lines : lines_of (joined done ++ []) ≡ done = lines_of-joined done [] all ∙ append-nil done in
    none_within_lines (joined done ++ []) limits (rw lines clean) fits
none_before limits done (b ∷ bs) clean all partial short fits =
    let lines : lines_of (joined done ++ b ∷ bs) ≡ done ++ (b ∷ bs) ∷ [] = lines_of-joined done (b ∷ bs) all
    ∙ ap (λ l. done ++ l) (lines_of-last (b ∷ bs) partial (omega arith)) in
    let size_is : length (joined done ++ b ∷ bs) ≡ bytes_of done + length (b ∷ bs) =
    length-append (joined done) (b ∷ bs) ∙ ap (λ n. n + length (b ∷ bs)) (length-joined done) in
    none_within (joined done ++ b ∷ bs) limits done (b ∷ bs) [] clean lines fits size_is refl
    (λ c lim o. no_overrun_of (b ∷ bs) c (short lim) o)

-- A line of the text stops the reading.
module _ (text : List ℕ) (limits : TextLimits) (ended : Type 0) (done : List (List ℕ)) (line : List ℕ)
    (after : List (List ℕ)) (tail : List ℕ) where
  pub explains_line : (kind : MmKind) (number : ℕ) → Clean limits done → AllByRecursion IsLine done → IsLine line →
      LineFault limits done line kind →
      lines_of text ≡ done ++ line ∷ after → text ≡ (joined done ++ line) ++ tail →
      bytes_of done + length line ≤ limits.max_bytes →
      (limits.max_bytes < length text → bytes_of done + length line + 1 ≤ limits.max_bytes) →
      (length text < bytes_of done + length line + 1 → ended) → number ≡ length done + 1 →
      Explains text limits ended ⊥ kind number
  explains_line kind number clean all is_line fault cut whole fits room end number_is =
      let front_size : length (joined done ++ line) ≡ bytes_of done + length line = length-append (joined done) line
      ∙ ap (λ n. n + length line) (length-joined done) in
      let size_is : length text ≡ bytes_of done + length line + length tail = ap length whole
      ∙ length-append (joined done ++ line) tail ∙ ap (λ n. n + length tail) front_size in
      rw number_is (elim fault [
        | inl o ↦
            let c = overrun_of line o.long in
            let in_line = c.1.within in
            rw o.kind_is (told text limits ended (bytes_of done + c.0) LineTooLong (length done + 1)
            (first_overrun_at text limits done line after clean cut c.0 o.limited c.1 (λ l. let f = room l in
            omega arith) (omega arith))
            (λ h. absurd (omega arith)))
        | inr w ↦ elim w [
          | inl w ↦ explains_plain text limits ended ⊥ kind (length done + 1) (plain_behind limits _ _ kind w.wrong)
              (told text limits ended (bytes_of done + length line + 1) kind (length done + 1)
              (first_wrong_at text limits done line after clean cut w.short kind w.counted_too w.wrong room
              (omega arith)) end)
          | inr m ↦
              let front : take (bytes_of done + length line) text ≡ joined done ++ line =
              rw (whole, ← front_size) (take-append-le (length (joined done ++ line)) (joined done ++ line) tail
              (omega arith) ∙ take_all (length (joined done ++ line)) (joined done ++ line) (omega arith)) in
              rw m.kind_is (record {
                before = done;
                this = line;
                after = after;
                lines = cut;
                entry = m.entry;
                place = bytes_of done + length line;
                place_is = refl;
                none_within = rw front (none_before limits done line clean all is_line m.short (omega arith));
                at_end = end;
                line_is = refl;
              })
        ]
      ])
