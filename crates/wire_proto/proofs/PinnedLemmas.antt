-- Of a pinned name the text of a Stats has the lines of the setup and of the status alone.
use Rattle.std.proofs.Common.{◌≡◌, refl, sym, ◌∙◌, ap, rules, ℕ, ◌==◌, ◌||◌, not, Bool, true, false, cond, List, []}
use Rattle.std.proofs.Common.{◌∷◌, ◌++◌, filter, codes, decimal, bytes_eq, Contains, append_assoc, append-nil}
use Rattle.std.specs.List.{list_any}
use Rattle.std.proofs.lemmas.List.Elements.{filter-append}
use Rattle.std.proofs.lemmas.List.Folds.{list_any_at}
use Rattle.std.proofs.lemmas.Slice.Eq.{bytes_eq-Decides}
use Rattle.batch_store.specs.Setups.{Setting}
use Rattle.plain_engine.specs.declared.status.Status.{Status}
use Rattle.wire_proto.specs.declared.figures.Figure.{Figure}
use Rattle.wire_proto.specs.Telling.{Telling, pinned_names, is_pinned, line_name, is_further, figure_line, figure_text}
use Rattle.wire_proto.specs.Telling.{figures_text, number_line, setup_text, status_text, stats_text}
use Rattle.wire_proto.specs.Telling.{lines_from, lines_named}

abbrev is_named : List ℕ → List ℕ → Bool
is_named name line = bytes_eq (line_name line) name

none_of_two : (p q : Bool) → not (p || q) ≡ true → (p ≡ false) × (q ≡ false)
none_of_two true q h = cc
none_of_two false true h = cc
none_of_two false false h = (refl, refl)

neither : (p q : Bool) → (p || q) ≡ false → (p ≡ false) × (q ≡ false)
neither true q h = cc
neither false q h = (refl, h)

-- a step over a byte
at_byte : (is_end : Bool) (front : List ℕ) (ended ended' going going' more : List (List ℕ)) →
    ended ≡ ended' ++ more → going ≡ going' ++ more →
    cond is_end (front ∷ ended) going ≡ cond is_end (front ∷ ended') going' ++ more
at_byte true front _ _ _ _ _ e g = ap (λ lines. front ∷ lines) e
at_byte false front _ _ _ _ _ e g = g

-- the lines of two texts, of which the first ends with an LF
lines_append : (front a b : List ℕ) →
    lines_from front (a ++ 10 ∷ b) ≡ lines_from front (a ++ 10 ∷ []) ++ lines_from [] b
lines_append front [] b = refl
lines_append front (x ∷ a) b =
    at_byte (x == 10) front _ _ _ _ _ (lines_append [] a b) (lines_append (front ++ x ∷ []) a b)

one_line : (front line rest : List ℕ) → list_any (λ b. b == 10) line ≡ false →
    lines_from front (line ++ 10 ∷ rest) ≡ (front ++ line) ∷ lines_from [] rest
one_line front [] rest h = ap (λ l. l ∷ lines_from [] rest) (sym (append-nil front))
one_line front (b ∷ line) rest h =
    let parts : ((b == 10) ≡ false) × (list_any (λ b. b == 10) line ≡ false) = neither _ _ h in
    rw (parts.0) (one_line (front ++ b ∷ []) line rest parts.1 ∙ rw append_assoc refl)

differs : (a b : List ℕ) → is_pinned a ≡ false → is_pinned b ≡ true → bytes_eq a b ≡ false
differs a b p q = grind (rules, bytes_eq-Decides a b)

contained : (name : List ℕ) → Contains pinned_names name → is_pinned name ≡ true
unfolding is_pinned
contained name (k, below, same) =
    list_any_at (λ pinned. bytes_eq pinned name) pinned_names k name below ((bytes_eq-Decides _ _).1 same)

-- a line more changes nothing
left_out : (further : Bool) (line rest name : List ℕ) → is_further line ≡ further → is_pinned name ≡ true →
    filter (is_named name) (lines_from [] (cond further (line ++ 10 ∷ []) [] ++ rest)) ≡
    filter (is_named name) (lines_from [] rest)
unfolding is_further
left_out false line rest name h p = refl
left_out true line rest name h p =
    let parts : (list_any (λ b. b == 10) line ≡ false) × (is_pinned (line_name line) ≡ false) = none_of_two _ _ h in
    ap (λ t. filter (is_named name) (lines_from [] t)) (append_assoc line (10 ∷ []) rest)
    ∙ ap (filter (is_named name)) (one_line [] line rest parts.0)
    ∙ rw (differs (line_name line) name parts.1 p) refl

-- no further line has a pinned name
none_named : (name : List ℕ) (figures : List Figure) → is_pinned name ≡ true →
    filter (is_named name) (lines_from [] (figures_text figures)) ≡ []
unfolding figures_text figure_text
none_named name [] p = refl
none_named name (f ∷ figures) p =
    left_out (is_further (figure_line f)) (figure_line f) _ name refl p ∙ none_named name figures p

-- the setup and the status up to their last LF
before_end : Setting → Status → ℕ → List ℕ
before_end v s folded =
    setup_text v ++ ((number_line (codes "batches") s.batches ++ number_line (codes "folded") folded)
    ++ (codes "total" ++ 32 ∷ decimal s.total))

number_ends : (name : List ℕ) (n : ℕ) (rest : List ℕ) →
    number_line name n ++ rest ≡ (name ++ 32 ∷ decimal n) ++ 10 ∷ rest
unfolding number_line
number_ends name n rest = simp append_assoc

last_of_three : (a b c d rest more : List ℕ) → c ++ rest ≡ d ++ more →
    (a ++ (b ++ c)) ++ rest ≡ (a ++ (b ++ d)) ++ more
last_of_three a b c d rest more e = simp append_assoc (ap (λ l. a ++ (b ++ l)) e)

ends_line : (v : Setting) (s : Status) (folded : ℕ) (rest : List ℕ) →
    (setup_text v ++ status_text s folded) ++ rest ≡ before_end v s folded ++ 10 ∷ rest
unfolding before_end status_text
ends_line v s folded rest =
    last_of_three (setup_text v) (number_line (codes "batches") s.batches ++ number_line (codes "folded") folded)
    (number_line (codes "total") s.total) (codes "total" ++ 32 ∷ decimal s.total) rest (10 ∷ rest)
    (number_ends (codes "total") s.total rest)

-- more lines, of no pinned name
same_named : (a name : List ℕ) (figures : List Figure) → Contains pinned_names name →
    lines_named name (a ++ 10 ∷ figures_text figures) ≡ lines_named name (a ++ 10 ∷ [])
unfolding lines_named
same_named a name figures h =
    ap (filter (is_named name)) (lines_append [] a (figures_text figures))
    ∙ filter-append (is_named name) (lines_from [] (a ++ 10 ∷ [])) (lines_from [] (figures_text figures))
    ∙ ap (λ more. filter (is_named name) (lines_from [] (a ++ 10 ∷ [])) ++ more)
    (none_named name figures (contained name h))
    ∙ append-nil _

pub just_pinned : (t : Telling) (name : List ℕ) → Contains pinned_names name →
    lines_named name (stats_text t) ≡ lines_named name (setup_text t.setup ++ status_text t.status t.folded)
unfolding stats_text
just_pinned t name h =
    ap (lines_named name) (ends_line t.setup t.status t.folded (figures_text t.figures))
    ∙ same_named (before_end t.setup t.status t.folded) name t.figures h
    ∙ ap (lines_named name) (sym (ends_line t.setup t.status t.folded []))
    ∙ ap (lines_named name) (append-nil (setup_text t.setup ++ status_text t.status t.folded))
