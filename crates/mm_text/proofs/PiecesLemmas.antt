-- Bytes that were judged behind a text: what is held then, or the fault that they show.
use Rattle.std.proofs.Common.{inl, inr, ◌≡◌, ℕ, ◌+◌, ◌<◌, ◌≤◌, Bool, true, false, not, ◌||◌, ◌&&◌, cond, List, [], ◌∷◌}
use Rattle.std.proofs.Common.{◌++◌, length, take, drop, refl, sym, ◌∙◌, ap, subst, arith, append_assoc, length-append}
use Rattle.std.proofs.Common.{length-drop}
use Rattle.std.proofs.lemmas.List.{append-nil, take_all, take-take, take-append-drop, drop-take}
use Rattle.std.proofs.lemmas.Bool.{cases_lt}
use Rattle.std.proofs.lemmas.Bool.Decides.{nat_tests}
use Rattle.std.specs.Prelude.{nat_eq, nat_lt, count_by}
use Rattle.mm_text.specs.Lines.{lines_of, joined, bytes_of, line_at, is_line_feed, is_limited, is_comment, content}
use Rattle.mm_text.specs.Lines.{IsLine}
use Rattle.mm_text.specs.Texts.{NoFaultWithin}
use Rattle.mm_text.specs.Stages.{at, state, Keeps, LineFault, IsCarried, EndsCarried, Holds, AddsLine, Advances}
use Rattle.mm_text.specs.Stages.{StopsWithin, BeginsWith, cut_kind}
use Rattle.mm_text.specs.Faults.{Explains, Shows, IsReadFault}
use Rattle.mm_text.specs.declared.fault.MmKind.{MmKind}
use Rattle.mm_text.specs.declared.fault.MmKind.TheVariants.{LineTooLong, TooLong}
use Rattle.cells.specs.declared.cell.Cell.{Cell}
use Rattle.mm_text.specs.declared.limits.TextLimits.{TextLimits}
use Rattle.mm_text.specs.declared.stages.Stage.{Stage}
use Rattle.mm_text.specs.declared.stages.Stage.TheVariants.{AtBanner}
use Rattle.mm_text.proofs.Clean.{clean_none, first_overrun_at, overrun_of}
use Rattle.mm_text.proofs.Cuts.{lines_of-joined, lines_of-line, length-joined, joined-append, all_lines-append}
use Rattle.mm_text.proofs.ProgressLemmas.{limited_is}
use Rattle.mm_text.proofs.CutOffLemmas.{count_lines, continues, overrun_longer, limited_longer, first_cut}
use Rattle.mm_text.proofs.FeedLemmas.{both_lines}
use Rattle.mm_text.proofs.ExplainLemmas.{told, explains_line, none_before}

no_line : IsLine []
no_line = record { no_feed = λ k d l. absurd (omega arith) }

short_of : (v : Bool) (n : ℕ) → cond (v && nat_lt 1024 n) LineTooLong TooLong ≡ TooLong → v ≡ true → n ≤ 1024
short_of true n e t = elim (cases_lt 1024 n) [
  | inl more ↦ absurd (let test : nat_lt 1024 n ≡ true = grind (arith, nat_tests) in
      let f : cond (nat_lt 1024 n) LineTooLong TooLong ≡ LineTooLong = rw test refl in
      let g : LineTooLong ≡ TooLong = sym f ∙ e in cc)
  | inr fits ↦ fits
]
short_of false n e t = cc

long_of : (v : Bool) (n : ℕ) → cond (v && nat_lt 1024 n) LineTooLong TooLong ≡ LineTooLong → (v ≡ true) × (1024 < n)
long_of true n e = (
  refl,
  elim (cases_lt 1024 n) [
    | inl more ↦ more
    | inr fits ↦ absurd (let test : nat_lt 1024 n ≡ false = grind (arith, nat_tests) in
        let f : cond (nat_lt 1024 n) LineTooLong TooLong ≡ TooLong = rw test refl in
        let g : TooLong ≡ LineTooLong = sym f ∙ e in cc)
  ],
)
long_of false n e = cc

cut_none : (v : Bool) → cond ((v || not (is_comment [])) && nat_lt 1024 (length (content []))) LineTooLong
    TooLong ≡ TooLong
cut_none true = refl
cut_none false = refl

-- what is held bears no fault
module _ (limits : TextLimits) (text carry : List ℕ) (stage : Stage) (given : List Cell) (count : ℕ)
    (h : Holds limits text (state carry stage count) given) where
  first_is : nat_eq count 0 ≡ nat_eq (length h.takes.lines) 0
  first_is = ap (λ n. nat_eq n 0) h.takes.keeps.lines_are

  held_limited : is_limited h.takes.lines h.rest ≡ (nat_eq count 0 || not (is_comment h.rest))
  held_limited = limited_is h.takes.lines h.rest ∙ ap (λ v. v || not (is_comment h.rest)) (sym first_is)

  pub held_short : is_limited h.takes.lines h.rest ≡ true → length (content h.rest) ≤ 1024
  held_short l = short_of (nat_eq count 0 || not (is_comment h.rest)) (length (content h.rest)) h.short
      (sym held_limited ∙ l)

  pub held_none : NoFaultWithin text limits
  held_none =
      let fits : length (joined h.takes.lines ++ h.rest) ≤ limits.max_bytes = let f = h.fits in
      let e = ap length h.takes.whole in omega arith in
      subst (λ t. NoFaultWithin t limits) (sym h.takes.whole)
      (none_before limits h.takes.lines h.rest h.takes.keeps.clean h.takes.all h.takes.partial held_short fits)

  pub held_line : line_at text (length text) ≡ count + 1
  held_line =
      let n = h.takes.keeps.lines_are in
      let feeds : count_by is_line_feed (take (length text) text) ≡ length h.takes.lines =
      ap (count_by is_line_feed) (take_all (length text) text (omega arith) ∙ h.takes.whole)
      ∙ count_lines h.takes.lines h.rest h.takes.all h.takes.partial in
      omega arith

  pub held_size : length text ≡ bytes_of h.takes.lines + length h.rest
  held_size = ap length h.takes.whole ∙ length-append (joined h.takes.lines) h.rest
      ∙ ap (λ n. n + length h.rest) (length-joined h.takes.lines)

  -- so a failed read is explained
  pub explains_read : (ended failed : Type 0) (line : ℕ) → failed → line ≡ count + 1 →
      IsReadFault text limits failed line
  explains_read ended failed line f e = record { failed_now = f; none_within = held_none; line_is = e ∙ sym held_line }

  -- and so is byte number max_bytes + 1
  pub explains_cut : (beyond : List ℕ) (ended failed : Type 0) (line : ℕ) → length text ≡ limits.max_bytes →
      0 < length beyond → line ≡ count + 1 →
      Explains (text ++ beyond) limits ended failed TooLong line
  explains_cut beyond ended failed line full some e =
      let f = first_cut (text ++ beyond) limits stage given count text beyond h.rest h.takes refl full some in
      let longer : limits.max_bytes < length (text ++ beyond) = omega (arith, length-append text beyond) in
      let l = f.first.least Rattle.mm_text.specs.Texts.Turn.at_limit (limits.max_bytes + 1) TooLong
      (line_at (text ++ beyond) limits.max_bytes) (record {
        longer = longer;
        place_is = refl;
        kind_is = refl;
        line_is = refl;
      }) in
      rw e (subst (λ k. Rattle.mm_text.specs.Faults.IsTold (text ++ beyond) limits ended k (count + 1)) h.short
      (record { first = f; at_end = λ g. absurd (omega arith) }))

pub advances_none : (limits : TextLimits) (carry : List ℕ) (stage : Stage) (count : ℕ) (block : List Cell) →
    Advances limits [] (state carry stage count) block (state carry stage count) block
advances_none limits carry stage count block = record {
  cells = [];
  block_is = sym (append-nil block);
  holds = λ text given fits h. rw (append-nil text, append-nil given) h;
  size_kept = λ s e. e;
}

pub advances_append : (limits : TextLimits) (a b c0 c1 c2 : List ℕ) (s0 s1 s2 : Stage) (n0 n1 n2 : ℕ)
    (k0 k1 k2 : List Cell) →
    Advances limits a (state c0 s0 n0) k0 (state c1 s1 n1) k1 →
    Advances limits b (state c1 s1 n1) k1 (state c2 s2 n2) k2 →
    Advances limits (a ++ b) (state c0 s0 n0) k0 (state c2 s2 n2) k2
advances_append limits a b c0 c1 c2 s0 s1 s2 n0 n1 n2 k0 k1 k2 x y = record {
  cells = x.cells ++ y.cells;
  block_is = y.block_is ∙ ap (λ k. k ++ y.cells) x.block_is ∙ append_assoc k0 x.cells y.cells;
  holds = λ text given fits h.
      let first = x.holds text given (omega (arith, length-append a b)) h in
      let second = y.holds (text ++ a) (given ++ x.cells) (omega (arith, length-append a b, length-append text a))
      first in
      rw (← append_assoc text a b, ← append_assoc given x.cells y.cells) second;
  size_kept = λ s e. y.size_kept s (x.size_kept s e);
}

-- before a fault of the first line nothing was judged
pub stops_at_once : (limits : TextLimits) (bytes carry : List ℕ) (stage : Stage) (count : ℕ)
    (block block' : List Cell) → block' ≡ block →
    StopsWithin limits bytes (state carry stage count) block block'
stops_at_once limits bytes carry stage count block block' e = rw e (record {
  front = 0;
  within = omega arith;
  reached = state carry stage count;
  advances = advances_none limits carry stage count block;
})

-- the first bytes, and then more of them
pub take_two : (bytes : List ℕ) (s n : ℕ) → take (s + n) bytes ≡ take s bytes ++ take n (drop s bytes)
take_two bytes s n =
    let e : take s (take (s + n) bytes) ≡ take s bytes = take-take s (s + n) bytes (omega arith) in
    sym (take-append-drop s (take (s + n) bytes)) ∙ rw (e, drop-take s n bytes) refl

pub stops_later : (limits : TextLimits) (bytes : List ℕ) (s : ℕ) (c0 c1 : List ℕ) (s0 s1 : Stage) (n0 n1 : ℕ)
    (k0 k1 k2 : List Cell) → s ≤ length bytes →
    Advances limits (take s bytes) (state c0 s0 n0) k0 (state c1 s1 n1) k1 →
    StopsWithin limits (drop s bytes) (state c1 s1 n1) k1 k2 → StopsWithin limits bytes (state c0 s0 n0) k0 k2
stops_later limits bytes s c0 c1 s0 s1 n0 n1 k0 k1 k2 fits a b = record {
  front = s + b.front;
  within = let w = b.within in omega (arith, length-drop s bytes);
  reached = b.reached;
  advances = rw (take_two bytes s b.front) (advances_append limits (take s bytes) (take b.front (drop s bytes)) c0 c1
      b.reached.carry s0 s1 b.reached.stage n0 n1 b.reached.count k0 k1 k2 a b.advances);
}

-- a text begins with the lines that are held of a front of it
pub holds_begin : (limits : TextLimits) (front more carry : List ℕ) (stage : Stage) (cells : List Cell) (count : ℕ) →
    Holds limits front (state carry stage count) cells →
    BeginsWith limits (front ++ more) cells
holds_begin limits front more carry stage cells count h = record {
  done = h.takes.lines;
  after = lines_of (h.rest ++ more);
  lines = ap (λ t. lines_of (t ++ more)) h.takes.whole ∙ ap lines_of (append_assoc (joined h.takes.lines) h.rest more)
      ∙ lines_of-joined h.takes.lines (h.rest ++ more) h.takes.all;
  stage = stage;
  count = count;
  keeps = h.takes.keeps;
}

-- a whole line, of which the front may be carried
pub advances_line : (limits : TextLimits) (front carry : List ℕ) (stage : Stage) (count : ℕ) (block : List Cell)
    (carry' : List ℕ) (stage' : Stage) (count' : ℕ) (block' : List Cell) →
    AddsLine limits (EndsCarried count carry front) (at stage count) block (at stage' count') block' → IsLine front →
    carry' ≡ [] →
    Advances limits (front ++ 10 ∷ []) (state carry stage count) block (state carry' stage' count') block'
advances_line limits front carry stage count block carry' stage' count' block' a is_line none = record {
  cells = a.cells;
  block_is = a.block_is;
  holds = λ text given fits h. record {
    rest = [];
    takes = record {
      lines = h.takes.lines ++ (h.rest ++ front) ∷ [];
      all = all_lines-append h.takes.lines ((h.rest ++ front) ∷ []) h.takes.all
          (both_lines h.rest front h.takes.partial is_line, tt);
      whole = ap (λ t. t ++ (front ++ 10 ∷ [])) h.takes.whole ∙ regroup (joined h.takes.lines) h.rest front
          ∙ ap (λ t. t ++ []) (sym (joined-append h.takes.lines ((h.rest ++ front) ∷ [])));
      partial = no_line;
      keeps = a.keeps (h.rest ++ front) h.takes.lines given (h.rest, h.carried, refl) h.takes.keeps;
    };
    carried = inl none;
    fits = omega (arith, length-append text (front ++ 10 ∷ []));
    short = cut_none (nat_eq count' 0);
  };
  size_kept = a.size_kept;
}
  where
    regroup : (a b c : List ℕ) → (a ++ b) ++ (c ++ 10 ∷ []) ≡ (a ++ ((b ++ c) ++ 10 ∷ [])) ++ []
    regroup a b c = simp (append_assoc, append-nil)

-- the front of a line
pub advances_front : (limits : TextLimits) (bytes carry : List ℕ) (stage : Stage) (count : ℕ) (block : List Cell)
    (carry' : List ℕ) (stage' : Stage) (count' : ℕ) → stage' ≡ stage → count' ≡ count → IsLine bytes →
    ((rest : List ℕ) → IsCarried count rest carry → IsCarried count (rest ++ bytes) carry' ×
    (cut_kind (nat_eq count 0) (rest ++ bytes) ≡ TooLong)) →
    Advances limits bytes (state carry stage count) block (state carry' stage' count') block
advances_front limits bytes carry stage count block carry' stage' count' s n is_line goes = rw (s, n) (record {
  cells = [];
  block_is = sym (append-nil block);
  holds = λ text given fits h. let g = goes h.rest h.carried in rw (append-nil given) (record {
    rest = h.rest ++ bytes;
    takes = record {
      lines = h.takes.lines;
      all = h.takes.all;
      whole = ap (λ t. t ++ bytes) h.takes.whole ∙ append_assoc (joined h.takes.lines) h.rest bytes;
      partial = both_lines h.rest bytes h.takes.partial is_line;
      keeps = h.takes.keeps;
    };
    carried = g.0;
    fits = omega (arith, length-append text bytes);
    short = g.1;
  });
  size_kept = λ s e. e;
})

-- a line with its LF among the bytes that has a fault
pub shows_line : (limits : TextLimits) (bytes front after carry : List ℕ) (stage : Stage) (count : ℕ) (kind : MmKind)
    (number : ℕ) → bytes ≡ front ++ 10 ∷ after → IsLine front → number ≡ count + 1 →
    ((rest : List ℕ) (done : List (List ℕ)) (given : List Cell) → IsCarried count rest carry →
    Keeps limits done stage given count → LineFault limits done (rest ++ front) kind) →
    Shows limits bytes (state carry stage count) kind number
shows_line limits bytes front after carry stage count kind number cut is_line number_is faulty =
    λ text more given fits h.
    let t = h.takes in
    let fault = faulty h.rest t.lines given h.carried t.keeps in
    let tail : List ℕ = 10 ∷ (after ++ more) in
    let whole : (text ++ bytes) ++ more ≡ (joined t.lines ++ (h.rest ++ front)) ++ (10 ∷ (after ++ more)) =
    ap (λ x. (x ++ bytes) ++ more) t.whole ∙ ap (λ x. ((joined t.lines ++ h.rest) ++ x) ++ more) cut
    ∙ regroup (joined t.lines) h.rest front after more in
    let lines : lines_of ((text ++ bytes) ++ more) ≡ t.lines ++ (h.rest ++ front) ∷ lines_of (after ++ more) =
    ap lines_of (whole ∙ append_assoc (joined t.lines) (h.rest ++ front) (10 ∷ (after ++ more)))
    ∙ lines_of-joined t.lines ((h.rest ++ front) ++ 10 ∷ (after ++ more)) t.all
    ∙ ap (λ l. t.lines ++ l) (lines_of-line (h.rest ++ front) (after ++ more)
    (both_lines h.rest front t.partial is_line)) in
    let size = held_size limits text carry stage given count h in
    let bytes_are : length bytes ≡ length front + 1 + length after = ap length cut
    ∙ (omega (arith, length-append front (10 ∷ after))) in
    let line_is = length-append h.rest front in
    let n = t.keeps.lines_are in
    explains_line ((text ++ bytes) ++ more) limits ⊥ t.lines (h.rest ++ front) (lines_of (after ++ more))
    (10 ∷ (after ++ more)) kind number
    t.keeps.clean t.all (both_lines h.rest front t.partial is_line) fault lines whole (omega arith) (λ l. omega arith)
    (λ l. absurd (omega (arith, length-append (text ++ bytes) more, length-append text bytes))) (omega arith)
  where
    regroup : (a b c d e : List ℕ) → ((a ++ b) ++ (c ++ 10 ∷ d)) ++ e ≡ (a ++ (b ++ c)) ++ (10 ∷ (d ++ e))
    regroup a b c d e = simp append_assoc

-- the front of a line that is too long already
pub shows_overrun : (limits : TextLimits) (bytes carry : List ℕ) (stage : Stage) (count : ℕ) (kind : MmKind)
    (number : ℕ) → IsLine bytes → kind ≡ LineTooLong → number ≡ count + 1 →
    ((rest : List ℕ) → IsCarried count rest carry → cut_kind (nat_eq count 0) (rest ++ bytes) ≡ LineTooLong) →
    Shows limits bytes (state carry stage count) kind number
shows_overrun limits bytes carry stage count kind number is_line kind_is number_is long = λ text more given fits h.
    let t = h.takes in
    let l = long_of (nat_eq count 0 || not (is_comment (h.rest ++ bytes))) (length (content (h.rest ++ bytes)))
    (long h.rest h.carried) in
    let partial = both_lines h.rest bytes t.partial is_line in
    let o = overrun_of (h.rest ++ bytes) l.1 in
    let o_within = o.1.within in
    let o_some = Rattle.mm_text.proofs.Clean.overrun_some (h.rest ++ bytes) o.0 o.1 in
    let c = continues (h.rest ++ bytes) more partial (omega arith) in
    let whole : (text ++ bytes) ++ more ≡ joined t.lines ++ ((h.rest ++ bytes) ++ more) =
    ap (λ x. (x ++ bytes) ++ more) t.whole ∙ regroup (joined t.lines) h.rest bytes more in
    let cut : lines_of ((text ++ bytes) ++ more) ≡ t.lines ++ ((h.rest ++ bytes) ++ c.0) ∷ c.1 =
    ap lines_of whole ∙ lines_of-joined t.lines ((h.rest ++ bytes) ++ more) t.all ∙ ap (λ x. t.lines ++ x) c.2 in
    let limited : is_limited t.lines ((h.rest ++ bytes) ++ c.0) ≡ true =
    limited_longer t.lines (h.rest ++ bytes) c.0 (omega arith) ∙ limited_is t.lines (h.rest ++ bytes)
    ∙ ap (λ v. nat_eq v 0 || not (is_comment (h.rest ++ bytes))) (sym t.keeps.lines_are) ∙ l.0 in
    let size = held_size limits text carry stage given count h in
    let line_size = length-append h.rest bytes in
    let n = t.keeps.lines_are in
    let number_here : number ≡ length t.lines + 1 = omega arith in
    rw (kind_is, number_here) (told ((text ++ bytes) ++ more) limits ⊥ (bytes_of t.lines + o.0) LineTooLong
    (length t.lines + 1)
    (first_overrun_at ((text ++ bytes) ++ more) limits t.lines ((h.rest ++ bytes) ++ c.0) c.1 t.keeps.clean cut o.0
    limited (overrun_longer (h.rest ++ bytes) c.0 o.0 o.1)
    (λ x. omega arith) (omega (arith, length-append (text ++ bytes) more, length-append text bytes)))
    (λ x. absurd (omega (arith, length-append (text ++ bytes) more, length-append text bytes))))
  where
    regroup : (a b c d : List ℕ) → ((a ++ b) ++ c) ++ d ≡ a ++ ((b ++ c) ++ d)
    regroup a b c d = simp append_assoc

-- a fault behind bytes that were judged
pub shows_later : (limits : TextLimits) (a b c0 c1 : List ℕ) (s0 s1 : Stage) (n0 n1 : ℕ) (k0 k1 : List Cell)
    (kind : MmKind) (number : ℕ) →
    Advances limits a (state c0 s0 n0) k0 (state c1 s1 n1) k1 → Shows limits b (state c1 s1 n1) kind number →
    Shows limits (a ++ b) (state c0 s0 n0) kind number
shows_later limits a b c0 c1 s0 s1 n0 n1 k0 k1 kind number x y = λ text more given fits h.
    let first = x.holds text given (omega (arith, length-append a b)) h in
    let e = y (text ++ a) more (given ++ x.cells) (omega (arith, length-append a b, length-append text a)) first in
    rw (← append_assoc text a b) e

-- before the first byte
pub holds_none : (limits : TextLimits) → Holds limits [] (state [] AtBanner 0) []
holds_none limits = record {
  rest = [];
  takes = record {
    lines = [];
    all = tt;
    whole = refl;
    partial = no_line;
    keeps = record { clean = clean_none limits; stage_is = (refl, refl); lines_are = refl };
  };
  carried = inl refl;
  fits = omega arith;
  short = cut_none true;
}
