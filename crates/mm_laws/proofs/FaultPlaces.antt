-- A fault that shows within some bytes doesn't hang on those that follow, and its line is counted by the LF before it.
use Rattle.std.proofs.Common.{inl, inr, ◌≡◌, ℕ, ◌+◌, ◌-◌, ◌<◌, ◌≤◌, false, List, [], ◌∷◌, ◌++◌, length, take, refl, sym}
use Rattle.std.proofs.Common.{◌∙◌, ap, arith, length-append}
use Rattle.std.proofs.lemmas.Bool.{cases_lt}
use Rattle.std.proofs.lemmas.List.{append-nil, take-append-le}
use Rattle.std.specs.Prelude.{count_by}
use Rattle.mm_text.specs.Lines.{lines_of, bytes_of, line_at, is_line_feed, IsLine}
use Rattle.mm_text.specs.Texts.{Turn, FaultAt, turn_number, moment, FirstFault, NoFaultWithin}
use Rattle.mm_text.specs.Texts.Turn.{at_limit, in_line, at_line_end, at_text_end}
use Rattle.mm_text.proofs.Clean.{overrun_some}
use Rattle.std.proofs.Math.Seq.{take-append-add}
use Rattle.std.proofs.lemmas.List.Elements.{All-take}
use Rattle.mm_text.proofs.Cuts.{length-joined}
use Rattle.mm_text.proofs.CutOffLemmas.{limited_longer, overrun_shorter, overrun_longer, count_lines}
use Rattle.mm_laws.proofs.EveryText.{line_bytes}
use Rattle.mm_text.specs.Lines.{joined}
use Rattle.mm_laws.proofs.TextCuts.{goes_on, came_from, stands_in}
use Rattle.mm_text.specs.declared.fault.MmKind.{MmKind}
use Rattle.mm_text.specs.declared.limits.TextLimits.{TextLimits}

same_line : (text more : List ℕ) (n : ℕ) → n ≤ length text → line_at (text ++ more) n ≡ line_at text n
same_line text more n h = ap (λ t. count_by is_line_feed t + 1) (take-append-le n text more h)

as_it_was : (front tail : List ℕ) → tail ≡ [] → front ++ tail ≡ front
as_it_was front tail e = ap (λ t. front ++ t) e ∙ append-nil front

turn_bound : (t : Turn) → turn_number t ≤ 3
turn_bound at_limit = omega arith
turn_bound in_line = omega arith
turn_bound at_line_end = omega arith
turn_bound at_text_end = omega arith

later : (p q : ℕ) (s t : Turn) → p < q → moment p s ≤ moment q t
later p q s t l = let b = turn_bound s in omega arith

-- what shows within the bytes shows there too where more follow
pub fault_stays : (t : Turn) (text more : List ℕ) (limits : TextLimits) (place : ℕ) (kind : MmKind) (line : ℕ) →
    place ≤ length text →
    FaultAt t text limits place kind line → FaultAt t (text ++ more) limits place kind line
fault_stays at_limit text more limits place kind line h w = record {
  longer = let l = w.longer in omega (arith, length-append text more);
  place_is = w.place_is;
  kind_is = w.kind_is;
  line_is = let l = w.longer in w.line_is ∙ sym (same_line text more limits.max_bytes (omega arith));
}
fault_stays in_line text more limits place kind line h w =
    let g = goes_on text more w.before w.this w.after w.lines in
    let i = w.overruns.within in
    let some = overrun_some w.this w.count w.overruns in
    record {
      before = w.before;
      this = w.this ++ g.tail;
      after = g.after;
      lines = g.lines;
      limited = limited_longer w.before w.this g.tail (omega arith) ∙ w.limited;
      count = w.count;
      overruns = overrun_longer w.this g.tail w.count w.overruns;
      place_is = w.place_is;
      kind_is = w.kind_is;
      line_is = w.line_is;
    }
fault_stays at_line_end text more limits place kind line h w =
    let g = goes_on text more w.before w.this w.after w.lines in
    let p = w.place_is in
    let same = as_it_was w.this g.tail (g.ended (omega arith)) in
    record {
      before = w.before;
      this = w.this;
      after = g.after;
      lines = g.lines ∙ ap (λ l. w.before ++ l ∷ g.after) same;
      counted_too = w.counted_too;
      wrong = w.wrong;
      place_is = w.place_is;
      line_is = w.line_is;
    }
fault_stays at_text_end text more limits place kind line h w = absurd (let p = w.place_is in omega arith)

-- and the other way round
pub fault_came : (t : Turn) (text more : List ℕ) (limits : TextLimits) (place : ℕ) (kind : MmKind) (line : ℕ) →
    place ≤ length text →
    FaultAt t (text ++ more) limits place kind line → FaultAt t text limits place kind line
fault_came at_limit text more limits place kind line h w = record {
  longer = let p = w.place_is in omega arith;
  place_is = w.place_is;
  kind_is = w.kind_is;
  line_is = let p = w.place_is in w.line_is ∙ same_line text more limits.max_bytes (omega arith);
}
fault_came in_line text more limits place kind line h w =
    let i = w.overruns.within in
    let some = overrun_some w.this w.count w.overruns in
    let p = w.place_is in
    let c = came_from text more w.before w.this w.after w.lines (omega arith) in
    let within = c.within w.count i (omega arith) in
    record {
      before = w.before;
      this = c.front;
      after = c.after;
      lines = c.lines;
      limited = sym (limited_longer w.before c.front c.tail (omega arith)) ∙ (let l = w.limited in rw c.line_is at l);
      count = w.count;
      overruns = overrun_shorter c.front c.tail w.count within (let o = w.overruns in rw c.line_is at o);
      place_is = w.place_is;
      kind_is = w.kind_is;
      line_is = w.line_is;
    }
fault_came at_line_end text more limits place kind line h w =
    let p = w.place_is in
    let c = came_from text more w.before w.this w.after w.lines (omega arith) in
    let same : w.this ≡ c.front = c.line_is ∙ as_it_was c.front c.tail (c.ended (omega arith)) in
    record {
      before = w.before;
      this = w.this;
      after = c.after;
      lines = c.lines ∙ ap (λ l. w.before ++ l ∷ c.after) (sym same);
      counted_too = w.counted_too;
      wrong = w.wrong;
      place_is = w.place_is;
      line_is = w.line_is;
    }
fault_came at_text_end text more limits place kind line h w =
    absurd (let p = w.place_is in omega (arith, length-append text more))

-- So the first fault of some bytes is the first of each text that begins with them, if it shows within them.
pub first_stays : (text more : List ℕ) (limits : TextLimits) (kind : MmKind) (line : ℕ)
    (f : FirstFault text limits kind line) → f.place ≤ length text →
    (g : FirstFault (text ++ more) limits kind line) × (g.place ≡ f.place)
first_stays text more limits kind line f h = (
  record {
    place = f.place;
    first = record {
      turn = f.first.turn;
      stands = fault_stays f.first.turn text more limits f.place kind line h f.first.stands;
      least = λ t p k n w. elim (cases_lt (length text) p) [
        | inl far ↦ later f.place p f.first.turn t (omega arith)
        | inr near ↦ f.first.least t p k n (fault_came t text more limits p k n near w)
      ];
    };
  },
  refl,
)

pub first_came : (text more : List ℕ) (limits : TextLimits) (kind : MmKind) (line : ℕ)
    (f : FirstFault (text ++ more) limits kind line) → f.place ≤ length text →
    (g : FirstFault text limits kind line) × (g.place ≡ f.place)
first_came text more limits kind line f h = (
  record {
    place = f.place;
    first = record {
      turn = f.first.turn;
      stands = fault_came f.first.turn text more limits f.place kind line h f.first.stands;
      least = λ t p k n w. elim (cases_lt (length text) p) [
        | inl far ↦ later f.place p f.first.turn t (omega arith)
        | inr near ↦ f.first.least t p k n (fault_stays t text more limits p k n near w)
      ];
    };
  },
  refl,
)

-- Bytes that bear no fault within them bear none there however the text goes on.
pub none_stays : (text more : List ℕ) (limits : TextLimits) → NoFaultWithin text limits →
    (t : Turn) (p : ℕ) (k : MmKind) (n : ℕ) → FaultAt t (text ++ more) limits p k n → length text < p
none_stays text more limits none t p k n w = elim (cases_lt (length text) p) [
  | inl far ↦ far
  | inr near ↦ none.none_within t p k n (fault_came t text more limits p k n near w)
]

-- The bytes of a line stand behind as many LF as lines before it.
line_number : (text : List ℕ) (before : List (List ℕ)) (line : List ℕ) (after : List (List ℕ)) (n : ℕ) →
    lines_of text ≡ before ++ line ∷ after → n ≤ length line →
    line_at text (bytes_of before + n) ≡ length before + 1
line_number text before line after n e h =
    let s = stands_in text before line after e in
    let front : take (bytes_of before + n) text ≡ joined before ++ take n line =
    ap (λ t. take (bytes_of before + n) t) s.whole
    ∙ ap (λ b. take (b + n) (joined before ++ (line ++ s.tail))) (sym (length-joined before))
    ∙ take-append-add (joined before) (line ++ s.tail) n
    ∙ ap (λ t. joined before ++ t) (take-append-le n line s.tail h) in
    let is_line : IsLine (take n line) = record {
      no_feed = All-take (λ b. is_line_feed b ≡ false) n line s.is_line.no_feed;
    } in
    let feeds = ap (count_by is_line_feed) front ∙ count_lines before (take n line) s.all is_line in
    ap (λ n. n + 1) feeds

-- The line of a fault is one more than the number of LF before the byte that shows it.
pub fault_line : (t : Turn) (text : List ℕ) (limits : TextLimits) (place : ℕ) (kind : MmKind) (line : ℕ) →
    FaultAt t text limits place kind line → line ≡ line_at text (place - 1)
fault_line at_limit text limits place kind line w =
    let p : place - 1 ≡ limits.max_bytes = let p = w.place_is in omega arith in w.line_is ∙ ap (line_at text) (sym p)
fault_line in_line text limits place kind line w =
    let some = overrun_some w.this w.count w.overruns in
    let i = w.overruns.within in
    let p : place - 1 ≡ bytes_of w.before + (w.count - 1) = let p = w.place_is in omega arith in
    w.line_is ∙ sym (line_number text w.before w.this w.after (w.count - 1) w.lines (omega arith))
    ∙ ap (line_at text) (sym p)
fault_line at_line_end text limits place kind line w =
    let p : place - 1 ≡ bytes_of w.before + length w.this = let p = w.place_is in omega arith in
    w.line_is ∙ sym (line_number text w.before w.this w.after (length w.this) w.lines (omega arith))
    ∙ ap (line_at text) (sym p)
fault_line at_text_end text limits place kind line w =
    let p : place - 1 ≡ length text = let p = w.place_is in omega arith in w.line_is ∙ ap (line_at text) (sym p)

-- A fault shows at a byte of the text, or at its end, which counts as one byte more.
pub fault_place : (t : Turn) (text : List ℕ) (limits : TextLimits) (place : ℕ) (kind : MmKind) (line : ℕ) →
    FaultAt t text limits place kind line → (1 ≤ place) × (place ≤ length text + 1)
fault_place at_limit text limits place kind line w = let p = w.place_is in let l = w.longer in
    (omega arith, omega arith)
fault_place in_line text limits place kind line w =
    let p = w.place_is in
    let some = overrun_some w.this w.count w.overruns in
    let i = w.overruns.within in
    let b = line_bytes text w.before w.this w.after w.lines in
    (omega arith, omega arith)
fault_place at_line_end text limits place kind line w = let p = w.place_is in
    let b = line_bytes text w.before w.this w.after w.lines in (omega arith, omega arith)
fault_place at_text_end text limits place kind line w = let p = w.place_is in (omega arith, omega arith)
