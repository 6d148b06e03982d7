-- Buffers: what is pending before a sink handed on, more appended, and a stop; bytes of a source moved and used.
use Rattle.std.proofs.Common.{◌≡◌, ℕ, ◌+◌, ◌-◌, ◌<◌, ◌≤◌, List, [], ◌++◌, length, get_or, take, drop, Ok, sym, ap, subst, ◌∙◌, arith}
use Rattle.std.proofs.Common.{append_assoc, length-append, length-take, length-drop, inl, inr}
use Rattle.std.proofs.lemmas.Bool.{cases_lt}
use Rattle.std.specs.List.{CopiedTo}
use Rattle.std.proofs.lemmas.List.{append-nil, same_lists, length-take-le, get_or-take, get_or-drop}
use Rattle.std.proofs.lemmas.List.{get_or_past, drop-drop, drop-take}
use Rattle.byte_io.specs.Streams.{Answer}
use Rattle.byte_io.specs.Writing.{HasTaken, HasStopped}
use Rattle.byte_io.specs.Buffers.{HasWritten, Unwritten, IsBytes, Fills}
use Rattle.byte_io.proofs.SinkLemmas.{has_taken_nothing, has_taken_append, stopped_behind, take_further}

pub written_handed_on : {S : Type 0} (step : S → List ℕ → Answer → S → Type 0) (failures : S → ℕ) (s m t : S)
    (text : List ℕ) (old new : Unwritten) →
    HasWritten step failures s m text old → HasTaken step failures m t old.pending →
    new.taken ≡ old.taken + length old.pending → new.pending ≡ [] →
    HasWritten step failures s t text new
written_handed_on step failures s m t text old new a b taken none = record {
  front = a.front ++ old.pending;
  has_taken = has_taken_append step failures s m t a.front old.pending a.has_taken b;
  taken_is = let e = length-append a.front old.pending in let h = a.taken_is in omega arith;
  whole = a.whole ∙ sym (append-nil (a.front ++ old.pending)) ∙ ap (λ l. (a.front ++ old.pending) ++ l) (sym none);
}

pub written_stopped : {S : Type 0} (step : S → List ℕ → Answer → S → Type 0) (failures : S → ℕ) (s m t : S)
    (text : List ℕ) (old : Unwritten) (n : ℕ) →
    HasWritten step failures s m text old → HasStopped step failures m t old.pending n →
    HasStopped step failures s t text (old.taken + n)
written_stopped step failures s m t text old n a b =
    subst (λ v. HasStopped step failures s t v (old.taken + n)) (sym a.whole)
    (subst (λ k. HasStopped step failures s t (a.front ++ old.pending) (k + n)) (sym a.taken_is)
    (stopped_behind step failures s m t a.front old.pending n a.has_taken b))

pub written_whole : {S : Type 0} (step : S → List ℕ → Answer → S → Type 0) (failures : S → ℕ) (s t : S) (text : List ℕ)
    (buffer : Unwritten) →
    HasWritten step failures s t text buffer → buffer.pending ≡ [] → HasTaken step failures s t text
written_whole step failures s t text buffer a none =
    subst (λ v. HasTaken step failures s t v) (sym (a.whole ∙ ap (λ l. a.front ++ l) none ∙ append-nil a.front))
    a.has_taken

pub written_more : {S : Type 0} (step : S → List ℕ → Answer → S → Type 0) (failures : S → ℕ) (s t : S)
    (text more : List ℕ) (old new : Unwritten) →
    HasWritten step failures s t text old → new.taken ≡ old.taken → new.pending ≡ old.pending ++ more →
    HasWritten step failures s t (text ++ more) new
written_more step failures s t text more old new a taken pending = record {
  front = a.front;
  has_taken = a.has_taken;
  taken_is = taken ∙ a.taken_is;
  whole = ap (λ l. l ++ more) a.whole ∙ append_assoc a.front old.pending more ∙ ap (λ l. a.front ++ l) (sym pending);
}

-- before the first call all of the text is pending
pub written_nothing : {S : Type 0} (step : S → List ℕ → Answer → S → Type 0) (failures : S → ℕ) (s : S) (text : List ℕ)
    (buffer : Unwritten) →
    buffer.taken ≡ 0 → buffer.pending ≡ text → HasWritten step failures s s text buffer
written_nothing step failures s text buffer taken pending = record {
  front = [];
  has_taken = has_taken_nothing step failures s;
  taken_is = taken;
  whole = sym pending;
}

-- ---- bytes that came from a source

-- bytes that were copied to the front
pub moved_front : (old new : List ℕ) (start count n : ℕ) → start + count ≤ length old → length new ≡ length old →
    n ≡ count → CopiedTo old new start 0 n → take count new ≡ take count (drop start old)
moved_front old new start count n within len same copied =
    let fits : count ≤ length new = omega arith in
    let far : count ≤ length (drop start old) = omega (arith, length-drop start old) in
    same_lists (take count new) (take count (drop start old))
    (length-take-le count new fits ∙ sym (length-take-le count (drop start old) far))
    (λ k d h.
    let less : k < count = omega (arith, length-take-le count new fits) in
    let there : start + (k - 0) ≡ start + k = omega arith in
    get_or-take count new k d less ∙ copied k d (omega arith) (omega arith) ∙ ap (λ i. get_or old i d) there ∙
    sym (get_or-drop start old k d) ∙ sym (get_or-take count (drop start old) k d less))

pub bytes_behind : (n : ℕ) (bytes : List ℕ) → IsBytes bytes → IsBytes (drop n bytes)
bytes_behind n bytes h i = rw get_or-drop (h (n + i))

pub bytes_before : (n : ℕ) (bytes : List ℕ) → IsBytes bytes → IsBytes (take n bytes)
bytes_before n bytes h i =
    elim (cases_lt i n) [
      | inl lt ↦ rw (get_or-take n bytes i 0 lt) (h i)
      | inr le ↦ rw (get_or_past (take n bytes) i 0 (omega (arith, length-take n bytes))) (omega arith)
    ]

-- the bytes behind those that were used
pub bytes_left : (p pending : List ℕ) (start end n : ℕ) → pending ≡ take (end - start) (drop start p) →
    n ≤ length pending → take (end - (start + n)) (drop (start + n) p) ≡ drop n pending
bytes_left p pending start end n is long =
    let le : n ≤ length (take (end - start) (drop start p)) = rw (← is) long in
    let far : n ≤ end - start = omega (arith, length-take (end - start) (drop start p)) in
    ap (take (end - (start + n))) (sym (drop-drop n start p)) ∙ sym (drop-take n (end - (start + n)) (drop start p)) ∙
    ap (λ (i : ℕ). drop n (take i (drop start p))) (omega arith) ∙ ap (drop n) (sym is)

-- one read behind what is pending
pub filled : {S : Type 0} (gives : S → Answer → S → Type 0) (s t : S) (p old : List ℕ) (count n : ℕ) →
    old ≡ take count p → count + n ≤ length p → gives s (Ok (take n (drop count p))) t → IsBytes p →
    Fills gives s t old (take (count + n - 0) p) n
filled gives s t p old count n is fits gave bytes = record {
  bytes = take n (drop count p);
  gave = gave;
  count = length-take-le n (drop count p) (let e = length-drop count p in omega arith);
  are_bytes = bytes_before n (drop count p) (bytes_behind count p bytes);
  pending_is = ap (λ (i : ℕ). take i p) (omega arith) ∙ take_further count n p (omega arith) ∙
      ap (λ (l : List ℕ). l ++ take n (drop count p)) (sym is);
}
