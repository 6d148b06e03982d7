-- A list in order whose equal places are being added up: the sums at the front, and the cells that are to come.
use Rattle.std.proofs.Common.{◌≡◌, ℕ, ◌+◌, ◌<◌, ◌≤◌, ◌&&◌, Bool, true, false, cond, eqb, List, [], ◌∷◌, ◌++◌, Some}
use Rattle.std.proofs.Common.{length, length-set, get_or, take, drop, sym, ◌∙◌, ap, subst, refl, inl, inr, arith}
use Rattle.std.proofs.Common.{append_assoc}
use Rattle.std.specs.Prelude.{unwrap_or}
use Rattle.std.proofs.Math.ListN.{set}
use Rattle.std.proofs.lemmas.List.{get_or-set_same, get_or-set_other, drop-set-lt}
use Rattle.std.proofs.lemmas.Bool.{cases_lt}
use Rattle.std.proofs.lemmas.Grind.{drop_more_same}
use Rattle.std.proofs.lemmas.List.{take_more, take_more_set, drop_more, get_or-drop, get_or_default}
use Rattle.cells.specs.declared.cell.Cell.{Cell}
use Rattle.cells.specs.Order.{Follows, NeverFall, Precedes}
use Rattle.cells.specs.Sums.{cell_total, stands_at, sum_at}
use Rattle.cells.proofs.SumLaws.{total-append}

-- cells up to `last` are sums of the first cells of a list, and those from i on are still as they were
pub record AreSums (whole cells : List Cell) (last i : ℕ) : Type 0 where
  pub order : last < i
  pub rises : (k : ℕ) (d : Cell) → k < last → Precedes (get_or cells k d) (get_or cells (k + 1) d)
  pub left : drop i cells ≡ drop i whole
  pub next : (d : Cell) → i < length cells → Follows (get_or cells last d) (get_or cells i d)
  pub sums : (q : ℕ × ℕ) → sum_at q (take (last + 1) cells ++ drop i cells) ≡ sum_at q whole
  pub total : cell_total (take (last + 1) cells ++ drop i cells) ≡ cell_total whole

-- what stands in front doesn't matter
behind_sum : (q : ℕ × ℕ) (xs ys zs : List Cell) → sum_at q ys ≡ sum_at q zs → sum_at q (xs ++ ys) ≡ sum_at q (xs ++ zs)
behind_sum q [] ys zs e = e
behind_sum q (x ∷ xs) ys zs e = ap (λ o. cond (stands_at q x) (Some (x.count + unwrap_or o 0)) o)
    (behind_sum q xs ys zs e)

-- two cells at one place come to what one with both counts comes to
module _ (a b m : Cell) (row : a.row ≡ b.row) (col : a.col ≡ b.col) (m_row : m.row ≡ a.row) (m_col : m.col ≡ a.col)
    (count : m.count ≡ a.count + b.count) where
  both : (q : ℕ × ℕ) (rest : List Cell) → sum_at q (m ∷ rest) ≡ sum_at q (a ∷ b ∷ rest)
  both q rest =
      ap (λ t. cond t (Some (m.count + unwrap_or (sum_at q rest) 0)) (sum_at q rest))
      (ap (λ r. (eqb q.0 r) && (eqb q.1 m.col)) m_row ∙ ap (λ c. (eqb q.0 a.row) && (eqb q.1 c)) m_col)
      ∙ step (stands_at q a)
      ∙ ap (λ t. cond (stands_at q a) (Some (a.count + unwrap_or
      (cond t (Some (b.count + unwrap_or (sum_at q rest) 0)) (sum_at q rest)) 0))
      (cond t (Some (b.count + unwrap_or (sum_at q rest) 0)) (sum_at q rest)))
      (ap (λ r. (eqb q.0 r) && (eqb q.1 a.col)) row ∙ ap (λ c. (eqb q.0 b.row) && (eqb q.1 c)) col)
    where
      step : (t : Bool) → cond t (Some (m.count + unwrap_or (sum_at q rest) 0)) (sum_at q rest) ≡ cond t
          (Some (a.count + unwrap_or (cond t (Some (b.count + unwrap_or (sum_at q rest) 0)) (sum_at q rest)) 0))
          (cond t (Some (b.count + unwrap_or (sum_at q rest) 0)) (sum_at q rest))
      step true = ap (λ n. Some n) (omega (arith, count))
      step false = refl

-- the cells at the front and to come, with the last sum and the next cell told apart
parts : (cells : List Cell) (last i : ℕ) (d : Cell) → last < i → i < length cells →
    take (last + 1) cells ++ drop i cells ≡ take last cells ++ get_or cells last d ∷ get_or cells i d ∷ drop (i + 1)
    cells
parts cells last i d o lt =
    ap (λ (r : List Cell). r ++ drop i cells) (take_more cells last d (omega arith))
    ∙ append_assoc (take last cells) (get_or cells last d ∷ []) (drop i cells)
    ∙ ap (λ (r : List Cell). take last cells ++ get_or cells last d ∷ r) (drop_more cells i d lt)

-- the cell behind follows
then_follows : (whole cells : List Cell) (i : ℕ) (d : Cell) → NeverFall whole → length cells ≡ length whole →
    drop i cells ≡ drop i whole → i + 1 < length cells → Follows (get_or cells i d) (get_or cells (i + 1) d)
then_follows whole cells i d order long left lt =
    let here : get_or cells i d ≡ get_or whole i d = ap (λ k. get_or cells k d) {x = i} {y = i + 0} (omega arith)
    ∙ sym (get_or-drop i cells 0 d) ∙ ap (λ (r : List Cell). get_or r 0 d) left ∙ get_or-drop i whole 0 d
    ∙ ap (λ k. get_or whole k d) {x = i + 0} {y = i} (omega arith) in
    let there : get_or cells (i + 1) d ≡ get_or whole (i + 1) d = sym (get_or-drop i cells 1 d)
    ∙ ap (λ (r : List Cell). get_or r 1 d) left ∙ get_or-drop i whole 1 d in
    subst (λ (x : Cell). Follows x (get_or cells (i + 1) d)) (sym here)
    (subst (Follows (get_or whole i d)) (sym there) (order i d (omega (arith, long))))

still_left : (whole cells after : List Cell) (k i : ℕ) (v : Cell) → k < i + 1 → drop i cells ≡ drop i whole →
    after ≡ set cells k v → drop (i + 1) after ≡ drop (i + 1) whole
still_left whole cells after k i v o left is = ap (drop (i + 1)) is ∙ drop-set-lt (i + 1) cells k v o
    ∙ drop_more_same cells whole i left

at_same_place : (a b c : Cell) → a.row ≡ b.row → a.col ≡ b.col → Follows b c → Follows a c
at_same_place a b c row col (inl h) = inl (omega (arith, h, row))
at_same_place a b c row col (inr h) = inr (row ∙ h.0, omega (arith, h.1, col))

above : (a b : Cell) → ((a.row ≡ b.row) × (a.col ≡ b.col) → ⊥) → Follows a b → Precedes a b
above a b other (inl h) = inl h
above a b other (inr h) = inr (
  h.0,
  elim (cases_lt a.col b.col) [
    | inl less ↦ less
    | inr le ↦
        absurd (other (h.0, omega (arith, h.1, le)))
  ],
)

module _ (whole cells after : List Cell) (last i : ℕ) (d : Cell) (order : NeverFall whole)
    (long : length cells ≡ length whole) (lt : i < length cells) (s : AreSums whole cells last i) where
  -- the next cell stands at the place of the last sum
  pub more_at_place : (m : Cell) → m.row ≡ (get_or cells last d).row → m.col ≡ (get_or cells last d).col →
      m.count ≡ (get_or cells last d).count + (get_or cells i d).count →
      ((get_or cells last d).row ≡ (get_or cells i d).row) × ((get_or cells last d).col ≡ (get_or cells i d).col) →
      after ≡ set cells last m → AreSums whole after last (i + 1)
  more_at_place m row col count same is =
      let same_length : length after ≡ length cells = ap length is ∙ length-set cells last m in
      let inside : last < length cells = omega (arith, s.order) in
      let here : (e : Cell) → get_or after last e ≡ m = λ e. ap (λ (r : List Cell). get_or r last e) is
      ∙ get_or-set_same cells last m e inside in
      let other : (k : ℕ) (e : Cell) → (k ≡ last → ⊥) → get_or after k e ≡ get_or cells k e =
      λ k e n. ap (λ (r : List Cell). get_or r k e) is ∙ get_or-set_other cells last k m e n in
      let whole_now : take (last + 1) after ++ drop (i + 1) after ≡ take last cells ++ m ∷ drop (i + 1) cells =
      ap (λ (r : List Cell). take (last + 1) r ++ drop (i + 1) r) is
      ∙ ap (λ (r : List Cell). r ++ drop (i + 1) (set cells last m)) (take_more_set cells last m inside)
      ∙ append_assoc (take last cells) (m ∷ []) (drop (i + 1) (set cells last m))
      ∙ ap (λ (r : List Cell). take last cells ++ m ∷ r)
      (drop-set-lt (i + 1) cells last m (omega (arith, s.order))) in
      record {
        order = omega (arith, s.order);
        rises = λ k e h. elim (cases_lt (k + 1) last) [
          | inl less ↦ subst (λ (x : Cell). Precedes x (get_or after (k + 1) e))
              (sym (other k e (λ n. omega (arith, n, h)))) (subst (Precedes (get_or cells k e))
              (sym (other (k + 1) e (λ n. omega (arith, n, less)))) (s.rises k e h))
          | inr more ↦
              let at_last : k + 1 ≡ last = omega (arith, h, more) in
              subst (λ (x : Cell). Precedes x (get_or after (k + 1) e)) (sym (other k e (λ n. omega (arith, n, h))))
              (subst (Precedes (get_or cells k e)) (sym (ap (λ n. get_or after n e) at_last ∙ here e))
              (precedes_place (get_or cells k e) (get_or cells (k + 1) e) m (row
              ∙ ap (λ (x : Cell). x.row) (last_is k e at_last)) (col
              ∙ ap (λ (x : Cell). x.col) (last_is k e at_last)) (s.rises k e h)))
        ];
        left = still_left whole cells after last i m (omega (arith, s.order)) s.left is;
        next = λ e h.
            subst (λ (x : Cell). Follows x (get_or after (i + 1) e)) (sym (here e))
            (subst (Follows m) (sym (other (i + 1) e (λ n. omega (arith, n, s.order))))
            (at_same_place m (get_or cells i e) (get_or cells (i + 1) e) (row ∙ same.0
            ∙ ap (λ (x : Cell). x.row) (get_or_default cells i d e lt)) (col ∙ same.1
            ∙ ap (λ (x : Cell). x.col) (get_or_default cells i d e lt))
            (then_follows whole cells i e order long s.left (omega (arith, h, same_length)))));
        sums = λ q. ap (sum_at q) whole_now
            ∙ behind_sum q (take last cells) (m ∷ drop (i + 1) cells)
            (get_or cells last d ∷ get_or cells i d ∷ drop (i + 1) cells)
            (both (get_or cells last d) (get_or cells i d) m same.0 same.1 row col count q (drop (i + 1) cells))
            ∙ sym (ap (sum_at q) (parts cells last i d s.order lt)) ∙ s.sums q;
        total = ap cell_total whole_now ∙ total-append (take last cells) (m ∷ drop (i + 1) cells)
            ∙ omega (
              arith,
              total-append (take last cells)
                  (get_or cells last d ∷ get_or cells i d ∷ drop (i + 1) cells),
              count,
            )
            ∙ sym (ap cell_total (parts cells last i d s.order lt)) ∙ s.total;
      }
    where
      last_is : (k : ℕ) (e : Cell) → k + 1 ≡ last → get_or cells last d ≡ get_or cells (k + 1) e
      last_is k e at_last = get_or_default cells last d e (omega (arith, s.order, lt))
          ∙ ap (λ n. get_or cells n e) (sym at_last)

      precedes_place : (a b m : Cell) → m.row ≡ b.row → m.col ≡ b.col → Precedes a b → Precedes a m
      precedes_place a b m row col (inl h) = inl (omega (arith, h, row))
      precedes_place a b m row col (inr h) = inr (h.0 ∙ sym row, omega (arith, h.1, col))

  -- the next cell stands behind the last sum
  pub more_behind : (((get_or cells last d).row ≡ (get_or cells i d).row) ×
      ((get_or cells last d).col ≡ (get_or cells i d).col) → ⊥) → after ≡ set cells (last + 1) (get_or cells i d) →
      AreSums whole after (last + 1) (i + 1)
  more_behind differ is =
      let c = get_or cells i d in
      let same_length : length after ≡ length cells = ap length is ∙ length-set cells (last + 1) c in
      let inside : last + 1 < length cells = omega (arith, s.order) in
      let here : (e : Cell) → get_or after (last + 1) e ≡ c = λ e. ap (λ (r : List Cell). get_or r (last + 1) e) is
      ∙ get_or-set_same cells (last + 1) c e inside in
      let other : (k : ℕ) (e : Cell) → (k ≡ last + 1 → ⊥) → get_or after k e ≡ get_or cells k e =
      λ k e n. ap (λ (r : List Cell). get_or r k e) is ∙ get_or-set_other cells (last + 1) k c e n in
      let whole_now : take (last + 1 + 1) after ++ drop (i + 1) after ≡ take (last + 1) cells ++ drop i cells =
      ap (λ (r : List Cell). take (last + 1 + 1) r ++ drop (i + 1) r) is
      ∙ ap (λ (r : List Cell). r ++ drop (i + 1) (set cells (last + 1) c)) (take_more_set cells (last + 1) c inside)
      ∙ append_assoc (take (last + 1) cells) (c ∷ []) (drop (i + 1) (set cells (last + 1) c))
      ∙ ap (λ (r : List Cell). take (last + 1) cells ++ c ∷ r)
      (drop-set-lt (i + 1) cells (last + 1) c (omega (arith, s.order)))
      ∙ ap (λ (r : List Cell). take (last + 1) cells ++ r) (sym (drop_more cells i d lt)) in
      record {
        order = omega (arith, s.order);
        rises = λ k e h. elim (cases_lt k last) [
          | inl less ↦ subst (λ (x : Cell). Precedes x (get_or after (k + 1) e))
              (sym (other k e (λ n. omega (arith, n, less))))
              (subst (Precedes (get_or cells k e)) (sym (other (k + 1) e (λ n. omega (arith, n, less))))
              (s.rises k e less))
          | inr more ↦
              let at_last : k ≡ last = omega (arith, h, more) in
              subst (λ (x : Cell). Precedes x (get_or after (k + 1) e)) (sym (other k e (λ n. omega (arith, n, h))))
              (subst (Precedes (get_or cells k e)) (sym (ap (λ n. get_or after (n + 1) e) at_last ∙ here e))
              (subst (λ (x : Cell). Precedes x c) (get_or_default cells last d e (omega (arith, s.order, lt))
              ∙ ap (λ n. get_or cells n e) (sym at_last)) (above (get_or cells last d) c differ (s.next d lt))))
        ];
        left = still_left whole cells after (last + 1) i c (omega (arith, s.order)) s.left is;
        next = λ e h.
            subst (λ (x : Cell). Follows x (get_or after (i + 1) e)) (sym (here e))
            (subst (Follows c) (sym (other (i + 1) e (λ n. omega (arith, n, s.order))))
            (subst (λ (x : Cell). Follows x (get_or cells (i + 1) e)) (sym (get_or_default cells i d e lt))
            (then_follows whole cells i e order long s.left (omega (arith, h, same_length)))));
        sums = λ q. ap (sum_at q) whole_now ∙ s.sums q;
        total = ap cell_total whole_now ∙ s.total;
      }

  -- the two counts are part of the total
  pub both_fit : (get_or cells last d).count + (get_or cells i d).count ≤ cell_total whole
  both_fit = omega (
    arith,
    s.total,
    ap cell_total (parts cells last i d s.order lt),
    total-append (take last cells) (get_or cells last d ∷ get_or cells i d ∷ drop (i + 1) cells),
  )
