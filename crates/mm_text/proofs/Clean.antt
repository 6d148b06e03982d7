-- Lines that bear no fault, and the first fault behind them.
use Rattle.std.proofs.Common.{◌≡◌, ℕ, zero, suc, ◌+◌, ◌-◌, ◌<◌, ◌≤◌, true, false, cond, ◌⊎◌, List, [], ◌∷◌, ◌++◌}
use Rattle.std.proofs.Common.{length, refl, sym, ◌∙◌, ap, inl, inr, arith, length-take, take, get_or}
use Rattle.std.proofs.lemmas.Bool.{cases_lt}
use Rattle.std.proofs.lemmas.List.{append-nil, take_all, take-take}
use Rattle.std.specs.Prelude.{Some, None, nat_eq}
use Rattle.mm_text.proofs.Cuts.{cut_cases, bytes_of-append}
use Rattle.mm_text.specs.Lines.{lines_of, bytes_of, line_at, counted, counts, is_limited, content, OverrunsAt}
use Rattle.mm_text.specs.Texts.{fault_behind, lack_of, LineOverruns, LineIsWrong, LineIsMissing, Turn, FaultAt}
use Rattle.mm_text.specs.Texts.{turn_number, moment, FirstFaultAt, FirstFault, NoFaultWithin}
use Rattle.mm_text.specs.Texts.Turn.{at_limit, in_line, at_line_end, at_text_end}
use Rattle.mm_text.specs.Stages.{IsFine, Clean}
use Rattle.mm_text.specs.declared.fault.MmKind.{MmKind}
use Rattle.mm_text.specs.declared.fault.MmKind.TheVariants.{TooLong, LineTooLong}
use Rattle.mm_text.specs.declared.limits.TextLimits.{TextLimits}

pub nil_not : {A B : Type 0} (before : List A) (line : A) (after : List A) → [] ≡ before ++ line ∷ after → B
nil_not [] line after e = cc
nil_not (x ∷ xs) line after e = cc

pub one_cut : {A : Type 0} (x : A) (before : List A) (line : A) (after : List A) → x ∷ [] ≡ before ++ line ∷ after →
    (before ≡ []) × (line ≡ x)
one_cut x [] line after e = (refl, cc)
one_cut x (y ∷ ys) line after e = let t : [] ≡ ys ++ line ∷ after = cc in nil_not ys line after t

pub clean_none : (limits : TextLimits) → Clean limits []
clean_none limits = record { each = λ before after line e. nil_not before line after e }

pub clean_more : (limits : TextLimits) (lines : List (List ℕ)) (line : List ℕ) → Clean limits lines →
    IsFine limits lines line → Clean limits (lines ++ line ∷ [])
clean_more limits lines line h fine = record {
  each = λ before after l e.
      elim (cut_cases lines (line ∷ []) before l after e) [
        | inl w ↦ h.each before w.0 l w.1
        | inr w ↦ let one = one_cut line w.0 l after w.2 in
            let same : before ≡ lines = w.1 ∙ ap (λ t. lines ++ t) one.0 ∙ append-nil lines in
            rw (same, one.1) fine
      ];
}

-- the content is the line, or the line less its last byte
pub content_le : (line : List ℕ) → length (content line) ≤ length line
content_le line =
    elim (nat_eq (get_or line (length line - 1) 0) 13) as (λ v. length
    (cond v (take (length line - 1) line) line) ≤ length line) [
      | true ↦ omega (arith, length-take (length line - 1) line)
      | false ↦ omega arith
    ]

pub content_ge : (line : List ℕ) → length line ≤ length (content line) + 1
content_ge line =
    elim (nat_eq (get_or line (length line - 1) 0) 13) as (λ v. length line ≤ length
    (cond v (take (length line - 1) line) line) + 1) [
      | true ↦ omega (arith, length-take (length line - 1) line)
      | false ↦ omega arith
    ]

pub content-take : (line : List ℕ) (n : ℕ) → n ≤ length line → length (content (take n line)) ≤ length (content line)
content-take line n h = elim (cases_lt n (length line)) [
  | inl l ↦ omega (arith, content_le (take n line), content_ge line, length-take n line)
  | inr g ↦ rw (take_all n line g) (omega arith)
]

pub overrun_long : (line : List ℕ) (n : ℕ) → OverrunsAt line n → 1024 < length (content line)
overrun_long line n o = let m : length (content (take n line)) ≤ length (content line) = content-take line n o.within
    in let l : 1024 < length (content (take n line)) = o.long in omega arith

pub overrun_some : (line : List ℕ) (n : ℕ) → OverrunsAt line n → 0 < n
overrun_some line n o = let l : 1024 < length (content (take n line)) = o.long in let m = content_le (take n line) in
    omega (arith, length-take n line)

-- Behind clean lines, no fault of a line stands at a place that they take.
module _ (text : List ℕ) (limits : TextLimits) (done rest : List (List ℕ)) (clean : Clean limits done)
    (cut : lines_of text ≡ done ++ rest) where
  pub wrong_behind : (place : ℕ) (kind : MmKind) (line : ℕ) (w : LineIsWrong text limits place kind line) →
      (cs : List (List ℕ)) × (w.before ≡ done ++ cs) × (rest ≡ cs ++ w.this ∷ w.after)
  wrong_behind place kind line w =
      elim (cut_cases done rest w.before w.this w.after (sym cut ∙ w.lines)) [
        | inl i ↦ absurd (let f = (clean.each w.before i.0 w.this i.1).right w.counted_too in let g = w.wrong in cc)
        | inr i ↦ i
      ]

  pub overrun_behind : (place : ℕ) (kind : MmKind) (line : ℕ) (w : LineOverruns text place kind line) →
      (cs : List (List ℕ)) × (w.before ≡ done ++ cs) × (rest ≡ cs ++ w.this ∷ w.after)
  overrun_behind place kind line w =
      elim (cut_cases done rest w.before w.this w.after (sym cut ∙ w.lines)) [
        | inl i ↦ absurd (let f = (clean.each w.before i.0 w.this i.1).short w.limited in
            let g = overrun_long w.this w.count w.overruns in omega arith)
        | inr i ↦ i
      ]

  -- so every fault of the text stands behind them
  pub behind : (t : Turn) (p : ℕ) (k : MmKind) (n : ℕ) →
      (limits.max_bytes < length text → bytes_of done ≤ limits.max_bytes) →
      bytes_of done ≤ length text + 1 → FaultAt t text limits p k n → bytes_of done ≤ p
  behind at_limit p k n fits within w = let l = w.longer in let i = w.place_is in let f = fits w.longer in omega arith
  behind in_line p k n fits within w =
      let b = overrun_behind p k n w in
      let i = w.place_is in let j = ap bytes_of b.1 ∙ bytes_of-append done b.0 in omega arith
  behind at_line_end p k n fits within w =
      let b = wrong_behind p k n w in
      let i = w.place_is in let j = ap bytes_of b.1 ∙ bytes_of-append done b.0 in omega arith
  behind at_text_end p k n fits within w = let i = w.place_is in omega arith

-- The first fault is that of a line's words.
module _ (text : List ℕ) (limits : TextLimits) (done : List (List ℕ)) (line : List ℕ) (after : List (List ℕ))
    (clean : Clean limits done) (cut : lines_of text ≡ done ++ line ∷ after)
    (short : is_limited done line ≡ true → length (content line) ≤ 1024) where
  -- a fault of a line stands behind this line, or is that of its words
  overrun_after : (place : ℕ) (kind : MmKind) (n : ℕ) → LineOverruns text place kind n →
      bytes_of done + length line + 1 < place
  overrun_after place kind n w =
      let b = overrun_behind text limits done (line ∷ after) clean cut place kind n w in
      let i = w.place_is in let j = ap bytes_of b.1 ∙ bytes_of-append done b.0 in
      let some = overrun_some w.this w.count w.overruns in
      elim (b.0) as (λ cs. b.0 ≡ cs → bytes_of done + length line + 1 < place) [
        | [] ↦ λ e. absurd (
            let same : w.before ≡ done = b.1 ∙ ap (λ t. done ++ t) e ∙ append-nil done in
            let here : line ∷ after ≡ w.this ∷ w.after = b.2 ∙ ap (λ t. t ++ w.this ∷ w.after) e in
            let it : w.this ≡ line = cc in
            let lim : is_limited done line ≡ true = rw (← same, ← it) w.limited in
            let long = overrun_long w.this w.count w.overruns in
            let s = short lim in let le : length (content w.this) ≡ length (content line) =
            ap (λ l. length (content l)) it in omega arith)
        | c ∷ cs ↦ λ e.
            let here : line ∷ after ≡ (c ∷ cs) ++ w.this ∷ w.after = b.2 ∙ ap (λ t. t ++ w.this ∷ w.after) e in
            let it : c ≡ line = cc in
            let l : length c ≡ length line = ap length it in
            let n : bytes_of b.0 ≡ length c + 1 + bytes_of cs = ap bytes_of e in omega arith
      ] refl

  wrong_after : (place : ℕ) (kind : MmKind) (n : ℕ) → LineIsWrong text limits place kind n →
      bytes_of done + length line + 1 ≤ place
  wrong_after place kind n w =
      let b = wrong_behind text limits done (line ∷ after) clean cut place kind n w in
      let i = w.place_is in let j = ap bytes_of b.1 ∙ bytes_of-append done b.0 in
      elim (b.0) as (λ cs. b.0 ≡ cs → bytes_of done + length line + 1 ≤ place) [
        | [] ↦ λ e.
            let here : line ∷ after ≡ w.this ∷ w.after = b.2 ∙ ap (λ t. t ++ w.this ∷ w.after) e in
            let it : w.this ≡ line = cc in
            let l : length w.this ≡ length line = ap length it in
            let n : bytes_of b.0 ≡ 0 = ap bytes_of e in omega arith
        | c ∷ cs ↦ λ e.
            let here : line ∷ after ≡ (c ∷ cs) ++ w.this ∷ w.after = b.2 ∙ ap (λ t. t ++ w.this ∷ w.after) e in
            let it : c ≡ line = cc in
            let l : length c ≡ length line = ap length it in
            let n : bytes_of b.0 ≡ length c + 1 + bytes_of cs = ap bytes_of e in omega arith
      ] refl

  pub first_wrong_at : (kind : MmKind) → counts done line ≡ true →
      fault_behind limits (counted done) (content line) ≡ Some kind →
      (limits.max_bytes < length text → bytes_of done + length line + 1 ≤ limits.max_bytes) →
      bytes_of done + length line + 1 ≤ length text + 1 →
      FirstFaultAt text limits (bytes_of done + length line + 1) kind (length done + 1)
  first_wrong_at kind counted_too wrong fits within = record {
    turn = at_line_end;
    stands = record {
      before = done;
      this = line;
      after = after;
      lines = cut;
      counted_too = counted_too;
      wrong = wrong;
      place_is = refl;
      line_is = refl;
    };
    least = λ t p k n. elim t as (λ t. FaultAt t text limits p k n →
        moment (bytes_of done + length line + 1) at_line_end ≤ moment p t) [
          | at_limit ↦ λ w. let l = w.longer in let i = w.place_is in let f = fits w.longer in omega arith
          | in_line ↦ λ w. let a = overrun_after p k n w in omega arith
          | at_line_end ↦ λ w. let a = wrong_after p k n w in omega arith
          | at_text_end ↦ λ w. let i = w.place_is in omega arith
        ];
  }

  pub first_wrong : (kind : MmKind) → counts done line ≡ true →
      fault_behind limits (counted done) (content line) ≡ Some kind →
      (limits.max_bytes < length text → bytes_of done + length line + 1 ≤ limits.max_bytes) →
      bytes_of done + length line + 1 ≤ length text + 1 → FirstFault text limits kind (length done + 1)
  first_wrong kind counted_too wrong fits within = record {
    place = _;
    first = first_wrong_at kind counted_too wrong fits within;
  }

-- A line at hand behind clean lines: another line is this one, or stands behind it.
here_or_after : (done : List (List ℕ)) (line : List ℕ) (after before : List (List ℕ)) (this : List ℕ)
    (more cs : List (List ℕ)) →
    before ≡ done ++ cs → line ∷ after ≡ cs ++ this ∷ more → ((before ≡ done) × (this ≡ line)) ⊎
    (bytes_of done + length line + 1 ≤ bytes_of before)
here_or_after done line after before this more [] e f = inl (e ∙ append-nil done, cc)
here_or_after done line after before this more (c ∷ cs) e f =
    let it : c ≡ line = cc in
    let l : length c ≡ length line = ap length it in
    inr (let j = ap bytes_of e ∙ bytes_of-append done (c ∷ cs) in omega arith)

shortest_first : (line this : List ℕ) (c d : ℕ) → this ≡ line → OverrunsAt line c → OverrunsAt this d → c ≤ d
shortest_first line this c d same o q = elim (cases_lt d c) [
  | inl l ↦ absurd (let s = o.shortest d l in let long = q.long in
      let e : length (content (take d this)) ≡ length (content (take d line)) =
      ap (λ l. length (content (take d l))) same in omega arith)
  | inr g ↦ g
]

same_overrun : (line this : List ℕ) (c : ℕ) → this ≡ line → OverrunsAt this c → OverrunsAt line c
same_overrun line this c same o = rw (← same) o

module _ (text : List ℕ) (limits : TextLimits) (done : List (List ℕ)) (line : List ℕ) (after : List (List ℕ))
    (clean : Clean limits done) (cut : lines_of text ≡ done ++ line ∷ after) where
  -- The first fault is that this line is too long.
  pub first_overrun_at : (count : ℕ) → is_limited done line ≡ true → OverrunsAt line count →
      (limits.max_bytes < length text → bytes_of done + count ≤ limits.max_bytes) →
      bytes_of done + count ≤ length text → FirstFaultAt text limits (bytes_of done + count) LineTooLong
      (length done + 1)
  first_overrun_at count limited overruns fits within = record {
    turn = in_line;
    stands = record {
      before = done;
      this = line;
      after = after;
      lines = cut;
      limited = limited;
      count = count;
      overruns = overruns;
      place_is = refl;
      kind_is = refl;
      line_is = refl;
    };
    least = λ t p k n. elim t as (λ t. FaultAt t text limits p k n →
        moment (bytes_of done + count) in_line ≤ moment p t) [
          | at_limit ↦ λ w. let l = w.longer in let i = w.place_is in let f = fits w.longer in omega arith
          | in_line ↦ λ w.
              let b = overrun_behind text limits done (line ∷ after) clean cut p k n w in
              let i = w.place_is in let in_it = overruns.within in
              elim (here_or_after done line after w.before w.this w.after b.0 b.1 b.2) [
                | inl s ↦ let f = shortest_first line w.this count w.count s.1 overruns w.overruns in
                    let e = ap bytes_of s.0 in omega arith
                | inr g ↦ omega arith
              ]
          | at_line_end ↦ λ w.
              let b = wrong_behind text limits done (line ∷ after) clean cut p k n w in
              let i = w.place_is in let in_it = overruns.within in
              elim (here_or_after done line after w.before w.this w.after b.0 b.1 b.2) [
                | inl s ↦ let e = ap bytes_of s.0 in let l : length w.this ≡ length line = ap length s.1 in omega arith
                | inr g ↦ omega arith
              ]
          | at_text_end ↦ λ w. let i = w.place_is in omega arith
        ];
  }

  pub first_overrun : (count : ℕ) → is_limited done line ≡ true → OverrunsAt line count →
      (limits.max_bytes < length text → bytes_of done + count ≤ limits.max_bytes) →
      bytes_of done + count ≤ length text → FirstFault text limits LineTooLong (length done + 1)
  first_overrun count limited overruns fits within = record {
    place = _;
    first = first_overrun_at count limited overruns fits within;
  }

  -- The first fault is that the text is too long.
  pub first_too_long_at : limits.max_bytes < length text → limits.max_bytes < bytes_of done + length line + 1 →
      ((c : ℕ) → is_limited done line ≡ true → OverrunsAt line c → limits.max_bytes < bytes_of done + c) →
      FirstFaultAt text limits (limits.max_bytes + 1) TooLong (line_at text limits.max_bytes)
  first_too_long_at longer beyond no_overrun = record {
    turn = at_limit;
    stands = record { longer = longer; place_is = refl; kind_is = refl; line_is = refl };
    least = λ t p k n. elim t as (λ t. FaultAt t text limits p k n →
        moment (limits.max_bytes + 1) at_limit ≤ moment p t) [
          | at_limit ↦ λ w. let i = w.place_is in omega arith
          | in_line ↦ λ w.
              let b = overrun_behind text limits done (line ∷ after) clean cut p k n w in
              let i = w.place_is in
              elim (here_or_after done line after w.before w.this w.after b.0 b.1 b.2) [
                | inl s ↦
                    let lim : is_limited done line ≡ true = rw (← s.0, ← s.1) w.limited in
                    let o = no_overrun w.count lim (same_overrun line w.this w.count s.1 w.overruns) in
                    let e = ap bytes_of s.0 in omega arith
                | inr g ↦ let some = overrun_some w.this w.count w.overruns in omega arith
              ]
          | at_line_end ↦ λ w.
              let b = wrong_behind text limits done (line ∷ after) clean cut p k n w in
              let i = w.place_is in
              elim (here_or_after done line after w.before w.this w.after b.0 b.1 b.2) [
                | inl s ↦ let e = ap bytes_of s.0 in let l : length w.this ≡ length line = ap length s.1 in omega arith
                | inr g ↦ omega arith
              ]
          | at_text_end ↦ λ w. let i = w.place_is in omega arith
        ];
  }

  pub first_too_long : limits.max_bytes < length text → limits.max_bytes < bytes_of done + length line + 1 →
      ((c : ℕ) → is_limited done line ≡ true → OverrunsAt line c → limits.max_bytes < bytes_of done + c) →
      FirstFault text limits TooLong (line_at text limits.max_bytes)
  first_too_long longer beyond no_overrun = record { place = _; first = first_too_long_at longer beyond no_overrun }

  -- While a line is being read, no fault stands within what was read.
  pub none_within : length text ≤ limits.max_bytes → length text ≡ bytes_of done + length line → after ≡ [] →
      ((c : ℕ) → is_limited done line ≡ true → OverrunsAt line c → length text < bytes_of done + c) →
      NoFaultWithin text limits
  none_within fits all last no_overrun = record {
    none_within = λ t p k n. elim t as (λ t. FaultAt t text limits p k n → length text < p) [
      | at_limit ↦ λ w. let l = w.longer in omega arith
      | in_line ↦ λ w.
          let b = overrun_behind text limits done (line ∷ after) clean cut p k n w in
          let i = w.place_is in
          elim (here_or_after done line after w.before w.this w.after b.0 b.1 b.2) [
            | inl s ↦
                let lim : is_limited done line ≡ true = rw (← s.0, ← s.1) w.limited in
                let o = no_overrun w.count lim (same_overrun line w.this w.count s.1 w.overruns) in
                let e = ap bytes_of s.0 in omega arith
            | inr g ↦ let some = overrun_some w.this w.count w.overruns in omega arith
          ]
      | at_line_end ↦ λ w.
          let b = wrong_behind text limits done (line ∷ after) clean cut p k n w in
          let i = w.place_is in
          elim (here_or_after done line after w.before w.this w.after b.0 b.1 b.2) [
            | inl s ↦ let e = ap bytes_of s.0 in let l : length w.this ≡ length line = ap length s.1 in omega arith
            | inr g ↦ omega arith
          ]
      | at_text_end ↦ λ w. let i = w.place_is in omega arith
    ];
  }

-- All lines are clean, and the limit holds.
module _ (text : List ℕ) (limits : TextLimits) (clean : Clean limits (lines_of text))
    (fits : length text ≤ limits.max_bytes) where
  cut_here : lines_of text ≡ lines_of text ++ []
  cut_here = sym (append-nil (lines_of text))

  no_line : {B : Type 0} (cs : List (List ℕ)) (this : List ℕ) (more : List (List ℕ)) → [] ≡ cs ++ this ∷ more → B
  no_line cs this more e = nil_not cs this more e

  only_missing : (t : Turn) (p : ℕ) (k : MmKind) (n : ℕ) → FaultAt t text limits p k n →
      LineIsMissing text limits p k n × (t ≡ at_text_end)
  only_missing at_limit p k n w = absurd (let l = w.longer in omega arith)
  only_missing in_line p k n w = let b = overrun_behind text limits (lines_of text) [] clean cut_here p k n w in
      no_line b.0 w.this w.after b.2
  only_missing at_line_end p k n w = let b = wrong_behind text limits (lines_of text) [] clean cut_here p k n w in
      no_line b.0 w.this w.after b.2
  only_missing at_text_end p k n w = (w, refl)

  -- The first fault is that a line is missing.
  pub first_missing_at : (kind : MmKind) → lack_of limits (counted (lines_of text)) ≡ Some kind →
      FirstFaultAt text limits (length text + 1) kind (line_at text (length text))
  first_missing_at kind missing = record {
    turn = at_text_end;
    stands = record { missing = missing; place_is = refl; line_is = refl };
    least = λ t p k n w. let m = only_missing t p k n w in let i = m.0.place_is in let e = ap turn_number m.1 in
        omega arith;
  }

  pub first_missing : (kind : MmKind) → lack_of limits (counted (lines_of text)) ≡ Some kind →
      FirstFault text limits kind (line_at text (length text))
  first_missing kind missing = record { place = _; first = first_missing_at kind missing }

  -- No fault stands within whole clean lines.
  pub none_within_lines : NoFaultWithin text limits
  none_within_lines = record {
    none_within = λ t p k n w. let m = only_missing t p k n w in let i = m.0.place_is in
        omega arith;
  }

  -- Where nothing is missing there is no fault.
  pub faultless : lack_of limits (counted (lines_of text)) ≡ None → (t : Turn) (p : ℕ) (k : MmKind) (n : ℕ) →
      FaultAt t text limits p k n → ⊥
  faultless none t p k n w = let m = only_missing t p k n w in let i = m.0.missing in cc

take_monotone : (line : List ℕ) (m n : ℕ) → m ≤ n → n ≤ length line →
    length (content (take m line)) ≤ length (content (take n line))
take_monotone line m n h l =
    let e : take m (take n line) ≡ take m line = take-take m n line h in
    rw (← e) (content-take (take n line) m (omega (arith, length-take n line)))

least_overrun : (line : List ℕ) (n : ℕ) → n ≤ length line → 1024 < length (content (take n line)) → (c : ℕ) ×
    OverrunsAt line c
least_overrun line zero l h = absurd (omega arith)
least_overrun line (suc n) l h = elim (cases_lt 1024 (length (content (take n line)))) [
  | inl more ↦ least_overrun line n (omega arith) more
  | inr fits ↦ (
    suc n,
    record {
      within = l;
      long = h;
      shortest = λ m lt. let t = take_monotone line m n (omega arith) (omega arith) in omega arith;
    },
  )
]

-- a line that is too long shows it somewhere
pub overrun_of : (line : List ℕ) → 1024 < length (content line) → (c : ℕ) × OverrunsAt line c
overrun_of line h = least_overrun line (length line) (omega arith) (rw (take_all (length line) line (omega arith)) h)

-- and one that is not shows it nowhere
pub no_overrun_of : {B : Type 0} (line : List ℕ) (c : ℕ) → length (content line) ≤ 1024 → OverrunsAt line c → B
no_overrun_of line c h o = absurd (let l = overrun_long line c o in omega arith)
