-- A text has one first fault at most.
use Rattle.std.proofs.Common.{inl, inr, ◌≡◌, ℕ, ◌+◌, ◌≤◌, ◌⊎◌, List, [], ◌∷◌, ◌++◌, length, sym, ◌∙◌, ap, subst, arith}
use Rattle.std.proofs.lemmas.List.{append-nil}
use Rattle.std.specs.Prelude.{Some}
use Rattle.mm_text.specs.Lines.{bytes_of, counted, content}
use Rattle.mm_text.specs.Texts.{LineOverruns, LineIsWrong, Turn, FaultAt, moment, FirstFault, fault_behind}
use Rattle.mm_text.specs.Texts.Turn.{at_limit, in_line, at_line_end, at_text_end}
use Rattle.mm_text.specs.declared.fault.MmKind.{MmKind}
use Rattle.mm_text.specs.declared.limits.TextLimits.{TextLimits}
use Rattle.mm_text.proofs.Cuts.{cut_cases, bytes_of-append}
use Rattle.mm_text.proofs.Clean.{overrun_some}

-- Two lines of one text: the first stands behind the second, they are one, or the second stands behind the first.
two_cuts : (a : List (List ℕ)) (x : List ℕ) (b c : List (List ℕ)) (y : List ℕ) (d : List (List ℕ)) →
    a ++ x ∷ b ≡ c ++ y ∷ d →
    (bytes_of c + length y + 1 ≤ bytes_of a) ⊎ (((a ≡ c) × (x ≡ y)) ⊎ (bytes_of a + length x + 1 ≤ bytes_of c))
two_cuts a x b c y d e = elim (cut_cases a (x ∷ b) c y d e) [
  | inl w ↦ inl (let j = ap bytes_of w.1 ∙ bytes_of-append c (y ∷ w.0) in omega arith)
  | inr w ↦ inr (rest w.0 w.1 w.2)
]
  where
    rest : (cs : List (List ℕ)) → c ≡ a ++ cs → x ∷ b ≡ cs ++ y ∷ d → ((a ≡ c) × (x ≡ y)) ⊎
        (bytes_of a + length x + 1 ≤ bytes_of c)
    rest [] f g = inl (sym (f ∙ append-nil a), cc)
    rest (z ∷ zs) f g =
        let it : z ≡ x = cc in
        let l : length z ≡ length x = ap length it in
        inr (let j = ap bytes_of f ∙ bytes_of-append a (z ∷ zs) in omega arith)

one_overrun : (text : List ℕ) (p : ℕ) (j k : MmKind) (m n : ℕ) → LineOverruns text p j m → LineOverruns text p k n →
    (j ≡ k) × (m ≡ n)
one_overrun text p j k m n v w =
    let a = v.place_is in let b = w.place_is in
    let some_v = overrun_some v.this v.count v.overruns in let some_w = overrun_some w.this w.count w.overruns in
    let in_v = v.overruns.within in let in_w = w.overruns.within in (
      v.kind_is ∙ sym w.kind_is,
      elim (two_cuts v.before v.this v.after w.before w.this w.after (sym v.lines ∙ w.lines)) [
        | inl h ↦ absurd (omega arith)
        | inr r ↦ elim r [
          | inl s ↦ v.line_is ∙ ap (λ l. length l + 1) s.0 ∙ sym w.line_is
          | inr h ↦
              absurd (omega arith)
        ]
      ],
    )

one_wrong : (text : List ℕ) (limits : TextLimits) (p : ℕ) (j k : MmKind) (m n : ℕ) → LineIsWrong text limits p j m →
    LineIsWrong text limits p k n → (j ≡ k) × (m ≡ n)
one_wrong text limits p j k m n v w =
    let a = v.place_is in let b = w.place_is in
    elim (two_cuts v.before v.this v.after w.before w.this w.after (sym v.lines ∙ w.lines)) [
      | inl h ↦ absurd (omega arith)
      | inr r ↦ elim r [
        | inl s ↦
            let same : fault_behind limits (counted v.before) (content v.this) ≡ fault_behind limits (counted w.before)
            (content w.this) =
            ap (λ l. fault_behind limits (counted l) (content v.this)) s.0
            ∙ ap (λ x. fault_behind limits (counted w.before) (content x)) s.1 in
            let some : Some j ≡ Some k = sym v.wrong ∙ same ∙ w.wrong in
            (cc, v.line_is ∙ ap (λ l. length l + 1) s.0 ∙ sym w.line_is)
        | inr h ↦ absurd (omega arith)
      ]
    ]

same_turn : (text : List ℕ) (limits : TextLimits) (t u : Turn) (p q : ℕ) (j k : MmKind) (m n : ℕ) →
    moment p t ≡ moment q u →
    FaultAt t text limits p j m → FaultAt u text limits q k n → (j ≡ k) × (m ≡ n)
same_turn text limits at_limit at_limit p q j k m n e v w = (v.kind_is ∙ sym w.kind_is, v.line_is ∙ sym w.line_is)
same_turn text limits in_line in_line p q j k m n e v w = let s : q ≡ p = omega arith in
    one_overrun text p j k m n v (subst (λ x. LineOverruns text x k n) s w)
same_turn text limits at_line_end at_line_end p q j k m n e v w = let s : q ≡ p = omega arith in
    one_wrong text limits p j k m n v (subst (λ x. LineIsWrong text limits x k n) s w)
same_turn text limits at_text_end at_text_end p q j k m n e v w = let some : Some j ≡ Some k = sym v.missing
    ∙ w.missing in (cc, v.line_is ∙ sym w.line_is)
same_turn text limits at_limit in_line p q j k m n e v w = absurd (omega arith)
same_turn text limits at_limit at_line_end p q j k m n e v w = absurd (omega arith)
same_turn text limits at_limit at_text_end p q j k m n e v w = absurd (omega arith)
same_turn text limits in_line at_limit p q j k m n e v w = absurd (omega arith)
same_turn text limits in_line at_line_end p q j k m n e v w = absurd (omega arith)
same_turn text limits in_line at_text_end p q j k m n e v w = absurd (omega arith)
same_turn text limits at_line_end at_limit p q j k m n e v w = absurd (omega arith)
same_turn text limits at_line_end in_line p q j k m n e v w = absurd (omega arith)
same_turn text limits at_line_end at_text_end p q j k m n e v w = absurd (omega arith)
same_turn text limits at_text_end at_limit p q j k m n e v w = absurd (omega arith)
same_turn text limits at_text_end in_line p q j k m n e v w = absurd (omega arith)
same_turn text limits at_text_end at_line_end p q j k m n e v w = absurd (omega arith)

pub one_first : (text : List ℕ) (limits : TextLimits) (j k : MmKind) (m n : ℕ) → FirstFault text limits j m →
    FirstFault text limits k n → (j ≡ k) × (m ≡ n)
one_first text limits j k m n v w =
    let a = v.first.least w.first.turn w.place k n w.first.stands in
    let b = w.first.least v.first.turn v.place j m v.first.stands in
    let e : moment v.place v.first.turn ≡ moment w.place w.first.turn = omega arith in
    same_turn text limits v.first.turn w.first.turn v.place w.place j k m n e v.first.stands w.first.stands
