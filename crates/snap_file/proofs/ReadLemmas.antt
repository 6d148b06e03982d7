-- One read more: bytes came, the source ended, or it failed.
use Rattle.std.proofs.Common.{◌≡◌, ℕ, ◌+◌, ◌-◌, ◌<◌, ◌≤◌, List, [], ◌∷◌, ◌++◌, length, Result, Ok}
use Rattle.std.proofs.Common.{refl, sym, ap, subst, ◌∙◌, append_assoc, length-append, arith, inl, inr}
use Rattle.std.proofs.lemmas.List.{append-nil}
use Rattle.std.proofs.lemmas.List.{get_or_append_left, get_or-append_right}
use Rattle.std.proofs.lemmas.Bool.{cases_lt}
use Rattle.byte_io.specs.Streams.{bytes_of_calls}
use Rattle.byte_io.specs.declared.fault.DeviceFault.{DeviceFault}
use Rattle.byte_io.proofs.StreamLemmas.{calls-append, calls_one, bytes_of_calls-append}
use Rattle.byte_io.proofs.SinkLemmas.{each_takes-append}
use Rattle.byte_io.proofs.KnownLemmas.{calls_at_most_bytes}
use Rattle.snap_file.specs.Spelling.{IsBytes}
use Rattle.snap_file.specs.Table.{Reading}
use Rattle.snap_file.specs.Outcomes.{Task, ReaderState, HasRead, HasJudged, HasAsked, HasEnded, piece_bytes}
use Rattle.byte_io.specs.Buffers.{Fills}

are_bytes-append : (xs ys : List ℕ) → IsBytes xs → IsBytes ys → IsBytes (xs ++ ys)
are_bytes-append xs ys a b i = elim (cases_lt i (length xs)) [
  | inl lt ↦ rw (get_or_append_left xs ys 0 i lt) (a i)
  | inr le ↦ rw (get_or-append_right xs ys (length xs) i 0 refl le) (b (i - length xs))
]

-- bytes came for a field of which some were missing
pub read_more : {S : Type 0} (gives : S → Result (List ℕ) DeviceFault → S → Type 0) (failures : S → ℕ) (task : Task)
    (s m t : S) (old new : ReaderState) (left : Reading) (n want : ℕ) →
    HasRead gives failures task s m old left → Fills gives m t old.pending new.pending n → 0 < n →
    n ≤ piece_bytes → length old.pending < want →
    old.taken + length old.pending ≤ old.max_bytes →
    new.taken ≡ old.taken → new.remainder ≡ old.remainder → new.max_bytes ≡ old.max_bytes → failures t ≡ failures m →
    HasAsked gives failures task s t new left want
read_more gives failures task s m t old new left n want a f some most short small taken remainder limit same =
    let one : List (Result (List ℕ) DeviceFault) = Ok f.bytes ∷ [] in
    let joined : bytes_of_calls (a.answers ++ one) ≡ bytes_of_calls a.answers ++
    f.bytes = bytes_of_calls-append a.answers one ∙ ap (λ (l : List ℕ). bytes_of_calls a.answers ++ l)
    (append-nil f.bytes) in
    record {
      has_read = record {
        answers = a.answers ++ one;
        calls = calls-append gives a.answers one s m t a.calls (calls_one gives m t (Ok f.bytes) f.gave);
        each = each_takes-append a.answers one a.each (subst (λ (k : ℕ). 0 < k) (sym f.count) some, tt);
        front = a.front;
        bytes_are = joined ∙ ap (λ (l : List ℕ). l ++ f.bytes) a.bytes_are ∙ append_assoc a.front old.pending f.bytes ∙
            ap (λ (l : List ℕ). a.front ++ l) (sym f.pending_is);
        are_bytes = subst IsBytes (sym joined) (are_bytes-append
            (bytes_of_calls a.answers) f.bytes a.are_bytes f.are_bytes);
        taken_is = taken ∙ a.taken_is;
        remainder_is = remainder ∙ a.remainder_is;
        limit_is = limit ∙ a.limit_is;
        within = a.within;
        few = bounded a.answers one a.front old.pending task.max_bytes (calls_at_most_bytes a.answers a.each)
            (ap length a.bytes_are) refl
            (counted a.front old.pending task.max_bytes old.taken old.max_bytes a.taken_is a.limit_is small);
        none_failed = same ∙ a.none_failed;
        resumes = a.resumes;
        keeps = a.keeps;
      };
      reaches = inr (record {
        before = a.answers;
        last = f.bytes;
        answers_are = refl;
        most = let c = f.count in omega arith;
        behind = let e = ap length a.bytes_are ∙ length-append a.front old.pending in omega arith;
      });
    }
  where
    counted : (front pending : List ℕ) (max_bytes taken limit : ℕ) → taken ≡ length front → limit ≡ max_bytes →
        taken + length pending ≤ limit → length front + length pending ≤ max_bytes
    counted front pending max_bytes taken limit a b h = omega arith

    bounded : (answers one : List (Result (List ℕ) DeviceFault)) (front pending : List ℕ) (max_bytes : ℕ) →
        length answers ≤ length (bytes_of_calls answers) → length (bytes_of_calls answers) ≡ length (front ++ pending) →
        length one ≡ 1 → length front + length pending ≤ max_bytes → length (answers ++ one) ≤ max_bytes + 1
    bounded answers one front pending max_bytes a b o h = let e = length-append answers one in
        let f = length-append front pending in omega arith

-- nothing was asked for yet
pub asked_none : {S : Type 0} (gives : S → Result (List ℕ) DeviceFault → S → Type 0) (failures : S → ℕ) (task : Task)
    (s t : S) (reader : ReaderState) (left : Reading) (want : ℕ) →
    HasJudged gives failures task s t reader left → HasAsked gives failures task s t reader left want
asked_none gives failures task s t reader left want h = record {
  has_read = h.has_read;
  reaches = elim h.reaches [
    | inl none ↦ inl none
    | inr r ↦ inr (record {
      before = r.before;
      last = r.last;
      answers_are = r.answers_are;
      most = r.most;
      behind = let b = r.behind in omega arith;
    })
  ];
}

-- the same reading, with the same bytes pending
pub read_same : {S : Type 0} (gives : S → Result (List ℕ) DeviceFault → S → Type 0) (failures : S → ℕ) (task : Task)
    (s t : S) (old new : ReaderState) (left : Reading) →
    HasRead gives failures task s t old left → new.pending ≡ old.pending → new.taken ≡ old.taken →
    new.remainder ≡ old.remainder → new.max_bytes ≡ old.max_bytes → HasRead gives failures task s t new left
read_same gives failures task s t old new left a pending taken remainder limit = record {
  answers = a.answers;
  calls = a.calls;
  each = a.each;
  front = a.front;
  bytes_are = a.bytes_are ∙ ap (λ (l : List ℕ). a.front ++ l) (sym pending);
  are_bytes = a.are_bytes;
  taken_is = taken ∙ a.taken_is;
  remainder_is = remainder ∙ a.remainder_is;
  limit_is = limit ∙ a.limit_is;
  within = a.within;
  few = a.few;
  none_failed = a.none_failed;
  resumes = a.resumes;
  keeps = a.keeps;
}

no_bytes : (l : List ℕ) → length l ≡ 0 → l ≡ []
no_bytes [] e = refl
no_bytes (x ∷ l) e = absurd (omega arith)

pub read_ended : {S : Type 0} (gives : S → Result (List ℕ) DeviceFault → S → Type 0) (failures : S → ℕ) (ended : Type 0)
    (task : Task) (s m t : S) (old new : ReaderState) (left : Reading) (n : ℕ) →
    HasRead gives failures task s m old left → Fills gives m t old.pending new.pending n → n ≡ 0 → ended →
    new.taken ≡ old.taken → new.remainder ≡ old.remainder → new.max_bytes ≡ old.max_bytes → failures t ≡ failures m →
    HasEnded gives failures ended task s t new left
read_ended gives failures ended task s m t old new left n a f none at_end taken remainder limit same =
    let empty = no_bytes f.bytes (f.count ∙ none) in
    record {
      before = m;
      has_read = read_same gives failures task s m old new left a
          (f.pending_is ∙ ap (λ (l : List ℕ). old.pending ++ l) empty ∙ append-nil old.pending) taken remainder limit;
      gave = subst (λ (l : List ℕ). gives m (Ok l) t) empty f.gave;
      at_end = at_end;
      none_failed = same;
    }
