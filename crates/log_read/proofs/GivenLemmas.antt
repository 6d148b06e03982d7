-- One read more: bytes came, the source ended, or it failed.
use Rattle.std.proofs.Common.{◌≡◌, ℕ, ◌+◌, ◌-◌, ◌<◌, ◌≤◌, List, [], ◌∷◌, ◌++◌, length, Ok, Err}
use Rattle.std.proofs.Common.{inl, inr, refl, sym, ap, subst, ◌∙◌, append_assoc, length-append, arith}
use Rattle.std.proofs.Common.{Bool, true, false, IsTrue, IsFalse, take, drop, get_or}
use Rattle.std.proofs.lemmas.List.{append-nil, get_or_append_left, get_or-append_right, drop_all, take_all}
use Rattle.std.proofs.lemmas.List.{take-append-drop, length-take-le, get_or_past}
use Rattle.std.proofs.lemmas.Bool.{cases_lt}
use Rattle.byte_io.specs.Streams.{Answer, bytes_of_calls}
use Rattle.byte_io.specs.Buffers.{IsBytes, Fills}
use Rattle.byte_io.specs.declared.fault.DeviceFault.{DeviceFault}
use Rattle.byte_io.proofs.StreamLemmas.{calls-append, calls_one, bytes_of_calls-append}
use Rattle.byte_io.proofs.SinkLemmas.{each_takes-append}
use Rattle.byte_io.proofs.KnownLemmas.{calls_at_most_bytes}
use Rattle.log_blocks.specs.declared.fault.LogKind.TheVariants.{Read, TooLong}
use Rattle.log_read.specs.Given.{HasGiven, HasEnded, HasFailed, IsAt, HasNext, HasDrained, HasPassed}
use Rattle.log_read.specs.declared.source.PageSource.{PageSource}

bytes_joined : (xs ys : List ℕ) → IsBytes xs → IsBytes ys → IsBytes (xs ++ ys)
bytes_joined xs ys a b i = elim (cases_lt i (length xs)) [
  | inl lt ↦ rw (get_or_append_left xs ys 0 i lt) (a i)
  | inr le ↦ rw (get_or-append_right xs ys (length xs) i 0 refl le) (b (i - length xs))
]

module _ {S : Type 0} (gives : S → Answer → S → Type 0) (failures : S → ℕ) (s m t : S) (bytes : List ℕ)
    (g : HasGiven gives failures s m bytes) where
  few_calls : length g.answers ≤ length bytes
  few_calls = let a = calls_at_most_bytes g.answers g.each in let b = ap length g.bytes_are in omega arith

  given_more : (more : List ℕ) → gives m (Ok more) t → 0 < length more → IsBytes more → failures t ≡ failures m →
      HasGiven gives failures s t (bytes ++ more)
  given_more more gave some are same =
      let one : List Answer = Ok more ∷ [] in
      record {
        answers = g.answers ++ one;
        calls = calls-append gives g.answers one s m t g.calls (calls_one gives m t (Ok more) gave);
        each = each_takes-append g.answers one g.each (some, tt);
        bytes_are = bytes_of_calls-append g.answers one
            ∙ ap (λ (l : List ℕ). bytes_of_calls g.answers ++ l) (append-nil more)
            ∙ ap (λ (l : List ℕ). l ++ more) g.bytes_are;
        are_bytes = bytes_joined bytes more g.are_bytes are;
        none_failed = same ∙ g.none_failed;
      }

  pub ended_now : (ended : Type 0) (max_bytes : ℕ) → gives m (Ok []) t → ended → failures t ≡ failures m →
      length bytes ≤ max_bytes → HasEnded gives failures ended max_bytes s t bytes
  ended_now ended max_bytes gave at_end same within =
      let last : List Answer = Ok [] ∷ [] in
      let few = few_calls in
      record {
        answers = g.answers ++ last;
        calls = calls-append gives g.answers last s m t g.calls (calls_one gives m t (Ok []) gave);
        bytes_are = bytes_of_calls-append g.answers last ∙ append-nil (bytes_of_calls g.answers) ∙ g.bytes_are;
        are_bytes = g.are_bytes;
        within = within;
        few = let e = length-append g.answers last in omega arith;
        at_end = at_end;
        none_failed = same ∙ g.none_failed;
      }

  pub failed_now : (max_bytes : ℕ) (fault : DeviceFault) → gives m (Err fault) t → failures t ≡ failures m + 1 →
      length bytes ≤ max_bytes → HasFailed gives failures max_bytes s t Read
  failed_now max_bytes fault gave more within =
      let last : List Answer = Err fault ∷ [] in
      let few = few_calls in
      record {
        answers = g.answers ++ last;
        calls = calls-append gives g.answers last s m t g.calls (calls_one gives m t (Err fault) gave);
        few = let e = length-append g.answers last in omega arith;
        why = inl (refl, more ∙ ap (λ (n : ℕ). n + 1) g.none_failed);
      }

pub too_long : {S : Type 0} (gives : S → Answer → S → Type 0) (failures : S → ℕ) (s t : S) (bytes : List ℕ)
    (max_bytes : ℕ) → HasGiven gives failures s t bytes → length bytes ≡ max_bytes + 1 →
    HasFailed gives failures max_bytes s t TooLong
too_long gives failures s t bytes max_bytes g long =
    let few = few_calls gives failures s t t bytes g in
    record {
      answers = g.answers;
      calls = g.calls;
      few = omega arith;
      why = inr (refl, (let e = ap length g.bytes_are in omega arith), g.none_failed);
    }

-- bytes came, which are pending behind those that were
pub came_more : {S : Type 0} (gives : S → Answer → S → Type 0) (failures : S → ℕ) (s m t : S) (old new done : List ℕ)
    (n : ℕ) → HasGiven gives failures s m (done ++ old) → Fills gives m t old new n → 0 < n →
    failures t ≡ failures m → HasGiven gives failures s t (done ++ new)
came_more gives failures s m t old new done n g f some same =
    subst (λ (l : List ℕ). HasGiven gives failures s t l)
    (append_assoc done old f.bytes ∙ ap (λ (l : List ℕ). done ++ l) (sym f.pending_is))
    (given_more gives failures s m t (done ++ old) g f.bytes f.gave (let c = f.count in omega arith) f.are_bytes same)

no_bytes : (l : List ℕ) → length l ≡ 0 → l ≡ []
no_bytes [] e = refl
no_bytes (x ∷ l) e = absurd (omega arith)

-- no bytes came: the source has ended
pub came_none : {S : Type 0} (gives : S → Answer → S → Type 0) (failures : S → ℕ) (ended : Type 0) (max_bytes : ℕ)
    (s m t : S) (old new done : List ℕ) (n : ℕ) → HasGiven gives failures s m (done ++ old) →
    Fills gives m t old new n → n ≡ 0 → ended → failures t ≡ failures m → length (done ++ old) ≤ max_bytes →
    HasEnded gives failures ended max_bytes s t (done ++ new)
came_none gives failures ended max_bytes s m t old new done n g f none at_end same within =
    let empty = no_bytes f.bytes (f.count ∙ none) in
    let new_is : new ≡ old = f.pending_is ∙ ap (λ (l : List ℕ). old ++ l) empty ∙ append-nil old in
    subst (λ (l : List ℕ). HasEnded gives failures ended max_bytes s t (done ++ l)) (sym new_is)
    (ended_now gives failures s m t (done ++ old) g ended max_bytes
    (subst (λ (l : List ℕ). gives m (Ok l) t) empty f.gave) at_end same within)

-- a source of which nothing was read
pub none_given : {S : Type 0} (gives : S → Answer → S → Type 0) (failures : S → ℕ) (s : S) (source : PageSource) →
    source.buffer ≡ [] → source.came ≡ 0 → IsAt gives failures s s source []
none_given gives failures s source empty none = record {
  given = subst (λ (l : List ℕ). HasGiven gives failures s s l) (sym empty) (record {
    answers = [];
    calls = refl;
    each = tt;
    bytes_are = refl;
    are_bytes = λ i. (let e = get_or_past {X = ℕ} [] i 0 (omega arith) in omega arith);
    none_failed = refl;
  });
  came = none ∙ sym (ap length empty);
  within = omega arith;
}

-- what is pending is passed over
pub passed_over : {S : Type 0} (gives : S → Answer → S → Type 0) (failures : S → ℕ) (s t : S)
    (source new : PageSource) (done : List ℕ) → IsAt gives failures s t source done →
    new.buffer ≡ drop (length source.buffer) source.buffer → new.came ≡ source.came →
    new.max_bytes ≡ source.max_bytes → IsAt gives failures s t new (done ++ source.buffer)
passed_over gives failures s t source new done at rest came limit =
    let empty : new.buffer ≡ [] = rest ∙ drop_all (length source.buffer) source.buffer (omega arith) in
    let same : (done ++ source.buffer) ++ new.buffer ≡ done ++ source.buffer =
    ap (λ (l : List ℕ). (done ++ source.buffer) ++ l) empty ∙ append-nil (done ++ source.buffer) in
    record {
      given = subst (λ (l : List ℕ). HasGiven gives failures s t l) (sym same) at.given;
      came = came ∙ at.came ∙ sym (ap length same);
      within = omega (arith, at.within);
    }

-- the source ended behind what was passed over
pub drained : {S : Type 0} (gives : S → Answer → S → Type 0) (failures : S → ℕ) (ended : Type 0) (max_bytes most : ℕ)
    (s m t : S) (source : PageSource) (came last : List ℕ) (p : HasPassed gives failures s m source came) →
    most ≡ max_bytes → HasEnded gives failures ended most s t ((p.done ++ source.buffer) ++ last) →
    HasDrained gives failures ended max_bytes s t came
drained gives failures ended max_bytes most s m t source came last p same end = record {
  more = p.more ++ last;
  end = subst (λ (n : ℕ). HasEnded gives failures ended n s t (came ++ (p.more ++ last))) same
      (subst (λ (l : List ℕ). HasEnded gives failures ended most s t l)
      (ap (λ (l : List ℕ). l ++ last) p.bytes_are ∙ append_assoc came p.more last) end);
}

-- the first bytes that are pending were handed on
module _ {S : Type 0} (gives : S → Answer → S → Type 0) (failures : S → ℕ) (ended : Type 0) (s t : S)
    (source new : PageSource) (done page : List ℕ) (n : ℕ) (within : n ≤ length source.buffer)
    (short : length source.buffer < 4096 → n ≡ length source.buffer) (rest : new.buffer ≡ drop n source.buffer)
    (came : new.came ≡ source.came) (limit : new.max_bytes ≡ source.max_bytes)
    (same : (k : ℕ) → k < 4096 → get_or page k 0 ≡ get_or (take n source.buffer) k 0) where
  both : (done ++ take n source.buffer) ++ new.buffer ≡ done ++ source.buffer
  both = append_assoc done (take n source.buffer) new.buffer
      ∙ ap (λ (l : List ℕ). done ++ l) (ap (λ (l : List ℕ). take n source.buffer ++ l) rest ∙ take-append-drop n
      source.buffer)

  handed_on : IsAt gives failures s t source done → IsAt gives failures s t new (done ++ take n source.buffer)
  handed_on at = record {
    given = subst (λ (l : List ℕ). HasGiven gives failures s t l) (sym both) at.given;
    came = came ∙ at.came ∙ sym (ap length both);
    within = omega (arith, at.within);
  }

  pub next_piece : (b : Bool) (long : 4096 ≤ length source.buffer → n ≡ 4096) →
      (IsTrue b → 4096 ≤ length source.buffer) →
      (IsFalse b → length source.buffer < 4096) → (IsTrue b → IsAt gives failures s t source done) →
      (IsFalse b → (most : ℕ) × (most ≡ source.max_bytes) × HasEnded gives failures ended most s t
      (done ++ source.buffer)) →
      HasNext gives failures ended s t new done n page
  next_piece true long many few at end = record {
    piece = take n source.buffer;
    long = length-take-le n source.buffer within;
    same = same;
    whole = λ is. handed_on (at refl);
    last = λ less. absurd (let e = long (many refl) in omega arith);
  }
  next_piece false long many few at end =
      let all : take n source.buffer ≡ source.buffer =
      take_all n source.buffer (let e = short (few refl) in omega arith) in
      let it = end refl in
      record {
        piece = take n source.buffer;
        long = length-take-le n source.buffer within;
        same = same;
        whole = λ is. absurd (let e = short (few refl) in let f = few refl in omega arith);
        last = λ less. subst (λ (k : ℕ). HasEnded gives failures ended k s t (done ++ take n source.buffer))
            (it.1 ∙ sym limit)
            (subst (λ (l : List ℕ). HasEnded gives failures ended it.0 s t (done ++ l)) (sym all) it.2);
      }
