-- Pieces of bytes: what a read leaves of them, and what runs of calls moved.
use Rattle.std.proofs.Common.{◌≡◌, ◌⊎◌, ℕ, min, List, [], ◌∷◌, ◌++◌, length, take, drop, Ok, Err, refl, sym, ap, ◌∙◌}
use Rattle.std.proofs.Common.{arith, append_assoc, inl, inr}
use Rattle.std.proofs.lemmas.Bool.{cases_lt}
use Rattle.std.proofs.lemmas.List.{append-nil, take-append-drop, drop_all}
use Rattle.std.proofs.Math.Seq.{drop-nil, take-nil}
use Rattle.std.specs.List.{concat}
use Rattle.byte_io.specs.Streams.{Answer, Calls, bytes_of_calls}
use Rattle.byte_io.specs.Scripts.{ScriptState, before_pieces, nonempty_pieces, first_piece, pieces_behind, limit_less}
use Rattle.byte_io.specs.Scripts.{IsRead, IsWrite, LacksMemory, script_gives, script_takes}
use Rattle.byte_io.specs.Writing.{AnyOffer}

drop_at_most : (k n : ℕ) (bytes : List ℕ) → k ≡ min (length bytes) n → drop k bytes ≡ drop n bytes
drop_at_most k n bytes e = elim (cases_lt n (length bytes)) [
  | inl below ↦ let same : k ≡ n = omega arith in ap (λ i. drop i bytes) same
  | inr past ↦ drop_all k bytes (omega arith) ∙ sym (drop_all n bytes past)
]

pub pieces_after_read : (k n : ℕ) (bytes : List ℕ) (later : List (List ℕ)) → k ≡ min (length bytes) n →
    (length bytes ≡ 0 → later ≡ []) →
    before_pieces (drop k bytes) later ≡ pieces_behind n (before_pieces bytes later)
pieces_after_read k n [] later e last = rw (drop-nil k, last refl) refl
pieces_after_read k n (b ∷ bs) later e last = ap (λ l. before_pieces l later) (drop_at_most k n (b ∷ bs) e)

joined-before_pieces : (piece : List ℕ) (pieces : List (List ℕ)) →
    concat (before_pieces piece pieces) ≡ piece ++ concat pieces
joined-before_pieces [] pieces = refl
joined-before_pieces (b ∷ bs) pieces = refl

pub joined-nonempty_pieces : (pieces : List (List ℕ)) → concat (nonempty_pieces pieces) ≡ concat pieces
joined-nonempty_pieces [] = refl
joined-nonempty_pieces (piece ∷ pieces) =
    joined-before_pieces piece (nonempty_pieces pieces) ∙ ap (λ l. piece ++ l) (joined-nonempty_pieces pieces)

joined-pieces_behind : (n : ℕ) (pieces : List (List ℕ)) →
    concat pieces ≡ take n (first_piece pieces) ++ concat (pieces_behind n pieces)
joined-pieces_behind n [] = sym (ap (λ l. l ++ []) (take-nil n))
joined-pieces_behind n (piece ∷ pieces) =
    ap (λ l. l ++ concat pieces) (sym (take-append-drop n piece))
    ∙ append_assoc (take n piece) (drop n piece) (concat pieces)
    ∙ ap (λ l. take n piece ++ l) (sym (joined-before_pieces (drop n piece) pieces))

-- what runs of reads gave, and then what is left
pub script_reads : (s t : ScriptState) (answers : List Answer) → Calls script_gives s answers t →
    concat s.pieces ≡ bytes_of_calls answers ++ concat t.pieces
script_reads s t [] e = ap (λ v. concat v.pieces) e
script_reads s t (Ok bytes ∷ answers) c =
    let n = c.1.0 in
    let bytes_are = c.1.1.1 in
    let next = c.1.1.2 in
    joined-pieces_behind n s.pieces
    ∙ ap (λ l. l ++ concat (pieces_behind n s.pieces)) (sym bytes_are)
    ∙ ap (λ v. bytes ++ concat v.pieces) (sym next)
    ∙ ap (λ l. bytes ++ l) (script_reads c.0 t answers c.2)
    ∙ sym (append_assoc bytes (bytes_of_calls answers) (concat t.pieces))
script_reads s t (Err fault ∷ answers) c =
    ap (λ v. concat v.pieces) (sym c.1.1.1) ∙ script_reads c.0 t answers c.2

pub script_read_whole : (s t : ScriptState) (answers : List Answer) → Calls script_gives s answers t → t.pieces ≡ [] →
    bytes_of_calls answers ≡ concat s.pieces
script_read_whole s t answers c end =
    sym (append-nil (bytes_of_calls answers)) ∙ ap (λ l. bytes_of_calls answers ++ concat l) (sym end)
    ∙ sym (script_reads s t answers c)

pub script_writes : (s t : ScriptState) (answers : List Answer) → Calls (AnyOffer script_takes) s answers t →
    t.written ≡ s.written ++ bytes_of_calls answers
script_writes s t [] e = ap (λ v. v.written) (sym e) ∙ sym (append-nil s.written)
script_writes s t (Ok bytes ∷ answers) c =
    script_writes c.0 t answers c.2 ∙ ap (λ v. v.written ++ bytes_of_calls answers) c.1.1.2
    ∙ append_assoc s.written bytes (bytes_of_calls answers)
script_writes s t (Err fault ∷ answers) c =
    script_writes c.0 t answers c.2 ∙ ap (λ v. v.written ++ bytes_of_calls answers) c.1.1.1

pub script_reads_one_way : (n : ℕ) (s t u : ScriptState) (a b : Answer) → IsRead n s a t → IsRead n s b u → (a ≡ b) ×
    (t ≡ u)
script_reads_one_way n s t u (Ok x) (Ok y) p q = (ap (λ l. Ok l) (p.1 ∙ sym q.1), p.2 ∙ sym q.2)
script_reads_one_way n s t u (Ok x) (Err y) p q = absurd (p.0 q.0)
script_reads_one_way n s t u (Err x) (Ok y) p q = absurd (q.0 p.0)
script_reads_one_way n s t u (Err x) (Err y) p q = (refl, p.1 ∙ sym q.1)

pub script_writes_one_way : (offered : List ℕ) (s t u : ScriptState) (a b : Answer) → IsWrite offered s a t →
    IsWrite offered s b u →
    ((a ≡ b) × (t ≡ u)) ⊎ (LacksMemory offered s a t ⊎ LacksMemory offered s b u)
script_writes_one_way offered s t u (Ok x) (Ok y) p q =
    let same : x ≡ y = p.0 ∙ sym q.0 in
    inl (
      ap (λ l. Ok l) same,
      p.2 ∙ ap (λ l. record s {
        written = s.written ++ l;
        room = limit_less s.room (length l);
      }) same ∙ sym q.2,
    )
script_writes_one_way offered s t u (Ok x) (Err f) p q =
    let some = p.1 q.0 in
    let e = ap length p.0 in
    inr (inr (omega arith, q.1))
script_writes_one_way offered s t u (Err f) (Ok y) p q =
    let some = q.1 p.0 in
    let e = ap length q.0 in
    inr (inl (omega arith, p.1))
script_writes_one_way offered s t u (Err f) (Err g) p q = inl (refl, p.1 ∙ sym q.1)
