-- What is counted of pages, one page after the other.
use Rattle.std.proofs.Common.{◌≡◌, ℕ, ◌+◌, ◌*◌, ◌<◌, ◌≤◌, List, [], ◌∷◌, ◌++◌, length, take, drop, get_or, Ok}
use Rattle.std.proofs.Common.{refl, sym, ap, subst, ◌∙◌, append_assoc, length-append, arith}
use Rattle.std.proofs.lemmas.List.{append-nil, get_or_append_left, get_or-append-add, take-append-drop, length-take-le}
use Rattle.byte_io.specs.Streams.{Answer, bytes_of_calls}
use Rattle.byte_io.specs.Buffers.{Fills}
use Rattle.byte_io.proofs.StreamLemmas.{calls-append, calls_one, bytes_of_calls-append}
use Rattle.log_page.specs.Pages.{IsBytes}
use Rattle.log_blocks.specs.Blocks.{Page, ArePages}
use Rattle.log_blocks.specs.Files.{bytes_from, page_count, pages_of}
use Rattle.log_blocks.proofs.FilePages.{listed_bytes, pages_same, pages_step}
use Rattle.snap_salvage.specs.LeftPages.{HasCountedAll, HasNext, HasRead, IsCounted, left_after, left_in, left_none}
use Rattle.snap_salvage.specs.LeftPages.{left_with}
use Rattle.snap_salvage.specs.declared.left.Left.{Left}

left_more : (left : Left) (ps : List Page) (p : Page) →
    left_after left (ps ++ p ∷ []) ≡ left_with (left_after left ps) p
unfolding left_after
left_more left [] p = refl
left_more left (q ∷ ps) p = left_more (left_with left q) ps p

pages_more : (ps : List Page) (p : Page) → ArePages ps → length p ≡ 4096 → IsBytes p → ArePages (ps ++ p ∷ [])
pages_more [] p are long bytes = ((long, bytes), tt)
pages_more (q ∷ ps) p are long bytes = (are.0, pages_more ps p are.1 long bytes)

-- no page
pub counted_none : (left : Left) → left ≡ left_none → IsCounted left
unfolding left_after
counted_none left is = record { pages = []; are_pages = tt; left_is = is }

-- one page more
pub counted_more : (left more : Left) (p : Page) → IsCounted left → length p ≡ 4096 → IsBytes p →
    more ≡ left_with left p → IsCounted more
counted_more left more p counted long bytes is = record {
  pages = counted.pages ++ p ∷ [];
  are_pages = pages_more counted.pages p counted.are_pages long bytes;
  left_is = is ∙ ap (λ (l : Left). left_with l p) counted.left_is ∙ sym (left_more left_none counted.pages p);
}

-- ---- what came

module _ {S : Type 0} (gives : S → Answer → S → Type 0) where
  -- one read more
  pub read_more : (s m t : S) (old new done : List ℕ) (n : ℕ) → HasRead gives s m (done ++ old) →
      Fills gives m t old new n → HasRead gives s t (done ++ new)
  read_more s m t old new done n was fills =
      let one : List Answer = Ok fills.bytes ∷ [] in
      record {
        answers = was.answers ++ one;
        calls = calls-append gives was.answers one s m t was.calls (calls_one gives m t (Ok fills.bytes) fills.gave);
        bytes_are = bytes_of_calls-append was.answers one
            ∙ ap (λ (l : List ℕ). bytes_of_calls was.answers ++ l) (append-nil fills.bytes)
            ∙ ap (λ (l : List ℕ). l ++ fills.bytes) was.bytes_are
            ∙ append_assoc done old fills.bytes
            ∙ ap (λ (l : List ℕ). done ++ l) (sym fills.pending_is);
      }

  -- the first bytes that are pending were handed on
  pub next_read : (s t : S) (old new done page : List ℕ) (n : ℕ) → HasRead gives s t (done ++ old) →
      n ≤ length old → new ≡ drop n old →
      ((k : ℕ) → k < 4096 → get_or page k 0 ≡ get_or (take n old) k 0) → HasNext gives s t new done n page
  next_read s t old new done page n was within rest same = record {
    piece = take n old;
    long = length-take-le n old within;
    same = same;
    read = subst (λ (l : List ℕ). HasRead gives s t l)
        (sym (append_assoc done (take n old) new
        ∙ ap (λ (l : List ℕ). done ++ l) (ap (λ (l : List ℕ). take n old ++ l) rest ∙ take-append-drop n old))) was;
  }

  -- So many whole pages were counted, and other bytes are pending.
  pub record IsCounting (s t : S) (pending : List ℕ) (i : ℕ) (left : Left) : Type 0 where
    pub done : List ℕ
    pub long : length done ≡ 4096 * i
    pub read : HasRead gives s t (done ++ pending)
    pub left_is : left ≡ left_in (pages_of 0 i done)

  pub counting_none : (s : S) (pending : List ℕ) (left : Left) → pending ≡ [] → left ≡ left_none →
      IsCounting s s pending 0 left
  unfolding left_after pages_of
  counting_none s pending left none is = record {
    done = [];
    long = omega arith;
    read = record { answers = []; calls = refl; bytes_are = sym none };
    left_is = is;
  }

  module _ (s m t : S) (old new : List ℕ) (i n : ℕ) (page : Page) (left more : Left)
      (was : IsCounting s m old i left) (next : HasNext gives s t new was.done n page) (long : length page ≡ 4096)
      (is : more ≡ left_with left page) where
    kept : pages_of 0 i (was.done ++ next.piece) ≡ pages_of 0 i was.done
    kept = pages_same 0 i (was.done ++ next.piece) was.done
        (λ k low high. get_or_append_left was.done next.piece 0 k (omega (arith, was.long, high)))

    page_is : page ≡ bytes_from (4096 * i) 4096 (was.done ++ next.piece)
    page_is = listed_bytes 4096 (4096 * i) page (was.done ++ next.piece) long (λ k lt.
        next.same k lt ∙ sym (get_or-append-add was.done next.piece k 0)
        ∙ ap (λ (j : ℕ). get_or (was.done ++ next.piece) (j + k) 0) was.long)

    one_more : more ≡ left_in (pages_of 0 (i + 1) (was.done ++ next.piece))
    one_more = is ∙ ap (λ (l : Left). left_with l page) was.left_is
        ∙ sym (left_more left_none (pages_of 0 i was.done) page)
        ∙ ap left_in (ap (λ (l : List Page). l ++ page ∷ []) (sym kept)
        ∙ ap (λ (p : Page). pages_of 0 i (was.done ++ next.piece) ++ p ∷ []) page_is
        ∙ sym (pages_step i (was.done ++ next.piece)))

    pub counting_more : n ≡ 4096 → IsCounting s t new (i + 1) more
    counting_more whole = record {
      done = was.done ++ next.piece;
      long = omega (arith, was.long, next.long, length-append was.done next.piece);
      read = next.read;
      left_is = one_more;
    }

    pub counted_last : (ended : Type 0) → ended → new ≡ [] → 1 ≤ n → n < 4096 → HasCountedAll gives ended s t more
    counted_last ended at_end none some few =
        let bytes = was.done ++ next.piece in
        let count : page_count bytes ≡ i + 1 =
        omega (arith, was.long, next.long, length-append was.done next.piece) in
        record {
          bytes = bytes;
          read = subst (λ (l : List ℕ). HasRead gives s t l)
              (ap (λ (l : List ℕ). bytes ++ l) none ∙ append-nil bytes) next.read;
          at_end = at_end;
          left_is = one_more ∙ ap (λ (k : ℕ). left_in (pages_of 0 k bytes)) (sym count);
        }

  no_bytes : (l : List ℕ) → length l ≡ 0 → l ≡ []
  no_bytes [] e = refl
  no_bytes (x ∷ l) e = absurd (omega arith)

  pub counted_all : (s m t : S) (old new : List ℕ) (i n : ℕ) (page : Page) (left : Left)
      (was : IsCounting s m old i left) → HasNext gives s t new was.done n page → (ended : Type 0) → ended →
      new ≡ [] → n ≡ 0 → HasCountedAll gives ended s t left
  counted_all s m t old new i n page left was next ended at_end none empty =
      let bytes : was.done ++ next.piece ≡ was.done =
      ap (λ (l : List ℕ). was.done ++ l) (no_bytes next.piece (next.long ∙ empty)) ∙ append-nil was.done in
      let count : page_count was.done ≡ i = omega (arith, was.long) in
      record {
        bytes = was.done;
        read = subst (λ (l : List ℕ). HasRead gives s t l)
            (ap (λ (l : List ℕ). (was.done ++ next.piece) ++ l) none ∙ append-nil (was.done ++ next.piece) ∙ bytes)
            next.read;
        at_end = at_end;
        left_is = was.left_is ∙ ap (λ (k : ℕ). left_in (pages_of 0 k was.done)) (sym count);
      }
