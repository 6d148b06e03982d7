-- What a reader has read, after each of its steps.
use Rattle.std.proofs.Common.{inl, inr, ◌≡◌, ℕ, zero, suc, ◌+◌, ◌<◌, ◌≤◌, ◌⊎◌, List, [], ◌∷◌, ◌++◌, length, take}
use Rattle.std.proofs.Common.{drop, refl, sym, ◌∙◌, ap, arith, append_assoc, length-append, length-take, length-drop}
use Rattle.std.proofs.lemmas.List.{append-nil, take-append-drop}
use Rattle.std.specs.Prelude.{Ok, Err, Some}
use Rattle.mm_text.specs.Stages.{state_of, Holds, Advances, StopsWithin, BeginsWith, EndsText, EndsWithin}
use Rattle.mm_text.specs.Stages.{declared_size}
use Rattle.byte_io.specs.Streams.{Answer, bytes_of_calls}
use Rattle.mm_text.specs.Faults.{Explains, Shows}
use Rattle.mm_text.specs.Readings.{HasRead, pending, size_of, TakesPending, Fills, Finishes, ShowsRead, AddsFirst}
use Rattle.mm_text.specs.Readings.{GoesOn, Ends, Stops}
use Rattle.byte_io.specs.declared.fault.DeviceFault.{DeviceFault}
use Rattle.mm_text.specs.declared.fault.MmKind.{MmKind}
use Rattle.mm_text.specs.declared.fault.MmKind.TheVariants.{Read, TooLong}
use Rattle.cells.specs.declared.cell.Cell.{Cell}
use Rattle.mm_text.specs.declared.size.Size.{Size}
use Rattle.mm_text.specs.declared.limits.TextLimits.{TextLimits}
use Rattle.mm_text.specs.declared.stages.Stage.TheVariants.{AtBanner}
use Rattle.mm_text.specs.declared.text_reader.TextReader.{TextReader}
use Rattle.mm_text.proofs.PiecesLemmas.{explains_read, explains_cut, holds_none, holds_begin}
use Rattle.mm_text.proofs.ExplainLemmas.{explains_weaker}
use Rattle.byte_io.proofs.StreamLemmas.{calls-append, bytes_of_calls-append}

module _ (reader : TextReader) (limits : TextLimits) (answers : List Answer) (given : List Cell)
    (h : HasRead limits answers given reader) where
  pub read_fits : length h.judged + length (pending reader) ≤ limits.max_bytes
  read_fits = elim (cases reader.room) [
    | inl some ↦ let b = ap length (h.none_beyond some) in let e = ap length h.text_is in let r = h.room_is in
        omega (arith, length-append (h.judged ++ pending reader) h.beyond, length-append h.judged (pending reader))
    | inr none ↦ let b = h.one_beyond none in let e = ap length h.text_is in let r = h.room_is in
        omega (arith, length-append (h.judged ++ pending reader) h.beyond, length-append h.judged (pending reader))
  ]
    where
      cases : (n : ℕ) → (0 < n) ⊎ (n ≡ 0)
      cases zero = inr refl
      cases (suc n) = inl (omega arith)

-- the reader has judged n of the bytes that were pending
pub takes_pending : (reader reader' : TextReader) (n : ℕ) (block block' : List Cell) → reader'.limits ≡ reader.limits →
    reader'.room ≡ reader.room → pending reader' ≡ drop n (pending reader) → n ≤ length (pending reader) →
    Advances reader.limits (take n (pending reader)) (state_of reader.lines) block (state_of reader'.lines) block' →
    TakesPending reader reader' block block'
unfolding size_of
takes_pending reader reader' n block block' limits_e room_e rest n_fits a = record {
  cells = a.cells;
  block_is = a.block_is;
  has_read = λ limits answers given h.
      let fits = read_fits reader limits answers given h in
      let a' = rw h.limits_are at a.holds in
      record {
        limits_are = limits_e ∙ h.limits_are;
        judged = h.judged ++ take n (pending reader);
        beyond = h.beyond;
        text_is = h.text_is ∙ ap (λ t. t ++ h.beyond)
            (ap (λ t. h.judged ++ t) (sym (take-append-drop n (pending reader))
            ∙ ap (λ t. take n (pending reader) ++ t) (sym rest))
            ∙ sym (append_assoc h.judged (take n (pending reader)) (pending reader')));
        holds = a' h.judged given (omega (arith, length-take n (pending reader))) h.holds;
        room_is = rw room_e h.room_is;
        none_beyond = λ s. h.none_beyond (rw room_e at s);
        one_beyond = λ s. h.one_beyond (sym room_e ∙ s);
        reads = h.reads;
      };
  size_kept = a.size_kept;
}

-- a fault among the bytes that were pending
pub shows_pending : (reader : TextReader) (kind : MmKind) (line : ℕ) →
    Shows reader.limits (pending reader) (state_of reader.lines) kind line → ShowsRead reader ⊥ ⊥ kind line
shows_pending reader kind line s = λ limits answers given h.
    let fits = read_fits reader limits answers given h in
    let s' = rw h.limits_are at s in
    rw h.text_is (s' h.judged h.beyond given fits h.holds)

-- what was read begins with the lines that are judged
pub read_begins : (limits : TextLimits) (answers : List Answer) (given : List Cell) (reader : TextReader) →
    HasRead limits answers given reader →
    BeginsWith limits (bytes_of_calls answers) given
read_begins limits answers given reader h =
    rw (h.text_is, append_assoc h.judged (pending reader) h.beyond)
    (holds_begin limits h.judged (pending reader ++ h.beyond) _ _ given _ h.holds)

-- the block before a fault among the bytes that were pending
pub first_pending : (reader : TextReader) (block block' : List Cell) →
    StopsWithin reader.limits (pending reader) (state_of reader.lines) block block' →
    AddsFirst reader block block'
first_pending reader block block' s = record {
  cells = s.advances.cells;
  block_is = s.advances.block_is;
  begins = λ limits answers given h.
      let fits = read_fits reader limits answers given h in
      let a = rw h.limits_are at s.advances.holds in
      let held = a h.judged given (omega (arith, length-take s.front (pending reader))) h.holds in
      let text : bytes_of_calls answers ≡ (h.judged ++ take s.front (pending reader))
      ++ (drop s.front (pending reader) ++ h.beyond) =
      h.text_is ∙ ap (λ t. (h.judged ++ t) ++ h.beyond) (sym (take-append-drop s.front (pending reader)))
      ∙ regroup h.judged (take s.front (pending reader)) (drop s.front (pending reader)) h.beyond in
      rw text (holds_begin limits (h.judged ++ take s.front (pending reader))
      (drop s.front (pending reader) ++ h.beyond) s.reached.carry s.reached.stage (given ++ s.advances.cells)
      s.reached.count held);
}
  where
    regroup : (a b c d : List ℕ) → (a ++ (b ++ c)) ++ d ≡ (a ++ b) ++ (c ++ d)
    regroup a b c d = simp append_assoc

-- and where the fault stands behind all of them
pub first_taken : (reader reader' : TextReader) (block block' : List Cell) → TakesPending reader reader' block block' →
    AddsFirst reader block block'
first_taken reader reader' block block' t = record {
  cells = t.cells;
  block_is = t.block_is;
  begins = λ limits answers given h. read_begins limits answers (given ++ t.cells) reader'
      (t.has_read limits answers given h);
}

pub shows_through : (reader reader' : TextReader) (block block' : List Cell) (ended failed : Type 0) (kind : MmKind)
    (line : ℕ) → TakesPending reader reader' block block' →
    ShowsRead reader' ended failed kind line → ShowsRead reader ended failed kind line
shows_through reader reader' block block' ended failed kind line t s =
    λ limits answers given h. s limits answers (given ++ t.cells) (t.has_read limits answers given h)

pub takes_twice : (r0 r1 r2 : TextReader) (b0 b1 b2 : List Cell) → TakesPending r0 r1 b0 b1 →
    TakesPending r1 r2 b1 b2 → TakesPending r0 r2 b0 b2
takes_twice r0 r1 r2 b0 b1 b2 x y = record {
  cells = x.cells ++ y.cells;
  block_is = y.block_is ∙ ap (λ k. k ++ y.cells) x.block_is ∙ append_assoc b0 x.cells y.cells;
  has_read = λ limits answers given h. rw (← append_assoc given x.cells y.cells)
      (y.has_read limits answers (given ++ x.cells) (x.has_read limits answers given h));
  size_kept = λ s e. y.size_kept s (x.size_kept s e);
}

-- byte number max_bytes + 1 was read, and all before it is judged
pub shows_too_long : (reader : TextReader) (line : ℕ) → pending reader ≡ [] → reader.room ≡ 0 →
    line ≡ reader.lines.progress.lines + 1 → ShowsRead reader ⊥ ⊥ TooLong line
shows_too_long reader line e none line_is = λ limits answers given h.
    let p = e in
    let text : bytes_of_calls answers ≡ h.judged ++ h.beyond = h.text_is
    ∙ ap (λ t. t ++ h.beyond) (ap (λ t. h.judged ++ t) p ∙ append-nil h.judged) in
    let one = h.one_beyond none in
    let full : length h.judged ≡ limits.max_bytes = let s = ap length text in let r = h.room_is in
    omega (arith, length-append h.judged h.beyond) in
    rw text (explains_cut limits h.judged reader.lines.carry.items reader.lines.progress.stage given
    reader.lines.progress.lines h.holds h.beyond ⊥ ⊥ line full (omega arith) line_is)

-- where nothing is pending and more may come, all that was read is judged
read_all : (reader : TextReader) (limits : TextLimits) (answers : List Answer) (given : List Cell)
    (h : HasRead limits answers given reader) → pending reader ≡ [] → 0 < reader.room →
    bytes_of_calls answers ≡ h.judged
read_all reader limits answers given h e some =
    h.text_is ∙ ap (λ t. t ++ h.beyond) (ap (λ t. h.judged ++ t) e ∙ append-nil h.judged)
    ∙ ap (λ t. h.judged ++ t) (h.none_beyond some) ∙ append-nil h.judged

pub first_end : (reader : TextReader) (block block' : List Cell) → pending reader ≡ [] → 0 < reader.room →
    EndsWithin reader.limits (state_of reader.lines) block block' → AddsFirst reader block block'
first_end reader block block' e some t = record {
  cells = t.cells;
  block_is = t.block_is;
  begins = λ limits answers given h. let s = rw h.limits_are at t.begins in
      rw (read_all reader limits answers given h e some) (s h.judged given h.holds);
}

pub shows_failure : (reader : TextReader) (line : ℕ) → pending reader ≡ [] → 0 < reader.room →
    line ≡ reader.lines.progress.lines + 1 → ShowsRead reader ⊥ (Unit {0}) Read line
shows_failure reader line e some line_is = λ limits answers given h.
    rw (read_all reader limits answers given h e some)
    (explains_read limits h.judged reader.lines.carry.items reader.lines.progress.stage given
    reader.lines.progress.lines h.holds ⊥ (Unit {0}) line tt line_is)

pub finishes : (reader reader' : TextReader) (block block' : List Cell) → pending reader ≡ [] → 0 < reader.room →
    EndsText reader.limits (state_of reader.lines) block reader'.lines.progress.stage block' →
    Finishes reader reader' block block'
unfolding size_of
finishes reader reader' block block' e some t = record {
  cells = t.cells;
  block_is = t.block_is;
  size = t.size;
  size_is = t.size_is;
  spells = λ limits answers given h. let s = rw h.limits_are at t.spells in
      rw (read_all reader limits answers given h e some) (s h.judged given h.holds);
  size_kept = t.size_kept;
}

pub shows_end : (reader : TextReader) (kind : MmKind) (line : ℕ) → pending reader ≡ [] → 0 < reader.room →
    ((text : List ℕ) (given : List Cell) → Holds reader.limits text (state_of reader.lines) given →
    Explains text reader.limits (Unit {0}) ⊥ kind line) →
    ShowsRead reader (Unit {0}) ⊥ kind line
shows_end reader kind line e some f = λ limits answers given h. let s = rw h.limits_are at f in
    rw (read_all reader limits answers given h e some) (s h.judged given h.holds)

-- n bytes came, of which the last may be the one that is too many, and the first m are pending
module _ {S : Type 0} (gives : S → Answer → S → Type 0) (source source' : S) (reader reader' : TextReader) (n m : ℕ)
    (bytes : List ℕ) where
  pub fills : gives source (Ok bytes) source' → length bytes ≡ n → pending reader' ≡ take m bytes →
      reader'.limits ≡ reader.limits → reader'.lines.carry.items ≡ reader.lines.carry.items →
      reader'.lines.progress ≡ reader.lines.progress →
      pending reader ≡ [] → 0 < reader.room → reader'.room + n ≡ reader.room →
      (0 < reader'.room → m ≡ n) → (reader'.room ≡ 0 → m + 1 ≡ n) →
      Fills gives source source' reader reader' n
  fills gave size_is front limits_e carry_e reading_e empty some room_e more last = record {
    bytes = bytes;
    gave = gave;
    size_is = size_is;
    some = λ n_some limits answers given h. record {
      limits_are = limits_e ∙ h.limits_are;
      judged = h.judged;
      beyond = drop m bytes;
      text_is = calls answers ∙ ap (λ t. t ++ bytes) (read_all reader limits answers given h empty some)
          ∙ ap (λ t. h.judged ++ t) (sym (take-append-drop m bytes)
          ∙ ap (λ t. t ++ drop m bytes) (sym front))
          ∙ sym (append_assoc h.judged (pending reader') (drop m bytes));
      holds = rw (carry_e, reading_e) h.holds;
      room_is = let c = ap length (calls answers) in let r = h.room_is in
          omega (arith, length-append (bytes_of_calls answers) bytes);
      none_beyond = λ s. let same = more s in drop_end bytes m (omega arith);
      one_beyond = λ s. let less = last s in omega (arith, length-drop m bytes);
      reads = let c = ap length (calls answers) in let r = h.reads in
          omega (arith, length-append (bytes_of_calls answers) bytes, length-append answers (Ok bytes ∷ []));
    };
    none = λ none limits answers given h.
        let some' : 0 < reader'.room = omega arith in
        let zero_m : m ≡ 0 = let same = more some' in omega arith in
        let empty' : pending reader' ≡ [] = front ∙ ap (λ k. take k bytes) zero_m in
        record {
          limits_are = limits_e ∙ h.limits_are;
          judged = h.judged;
          beyond = [];
          text_is = read_all reader limits answers given h empty some ∙ sym (append-nil h.judged)
              ∙ ap (λ t. h.judged ++ t) (sym empty')
              ∙ sym (append-nil (h.judged ++ pending reader'));
          holds = rw (carry_e, reading_e) h.holds;
          room_is = let r = h.room_is in omega arith;
          none_beyond = λ s. refl;
          one_beyond = λ s. absurd (omega arith);
          reads = h.reads;
        };
  }
    where
      drop_end : (xs : List ℕ) (k : ℕ) → length xs ≤ k → drop k xs ≡ []
      drop_end [] zero l = refl
      drop_end [] (suc k) l = refl
      drop_end (x ∷ xs) zero l = absurd (omega arith)
      drop_end (x ∷ xs) (suc k) l = drop_end xs k (omega arith)

      calls : (answers : List Answer) → bytes_of_calls (answers ++ Ok bytes ∷ []) ≡ bytes_of_calls answers ++ bytes
      calls answers = bytes_of_calls-append answers (Ok bytes ∷ [])
          ∙ ap (λ t. bytes_of_calls answers ++ t) (append-nil bytes)

pub has_read_none : (limits : TextLimits) (reader : TextReader) → reader.limits ≡ limits → pending reader ≡ [] →
    reader.lines.carry.items ≡ [] → reader.lines.progress.stage ≡ AtBanner → reader.lines.progress.lines ≡ 0 →
    reader.room ≡ limits.max_bytes + 1 → HasRead limits [] [] reader
has_read_none limits reader limits_e empty carry_e stage_e lines_e room_e = record {
  limits_are = limits_e;
  judged = [];
  beyond = [];
  text_is = rw empty refl;
  holds = rw (carry_e, stage_e, lines_e) (holds_none limits);
  room_is = omega arith;
  none_beyond = λ s. refl;
  one_beyond = λ s. absurd (omega arith);
  reads = omega arith;
}

-- One step of a reading behind those before it.
module _ {S : Type 0} (gives : S → Answer → S → Type 0) where
  pub goes_none : (source : S) (reader : TextReader) (block : List Cell) →
      GoesOn gives source source reader reader block block
  goes_none source reader block = record {
    answers = [];
    calls = refl;
    cells = [];
    block_is = sym (append-nil block);
    has_read = λ limits before given h. rw (append-nil before, append-nil given) h;
  }

  module _ (s0 s1 : S) (r0 r1 : TextReader) (b0 b1 : List Cell) (go : GoesOn gives s0 s1 r0 r1 b0 b1) where
    pub goes_take : (r2 : TextReader) (b2 : List Cell) → TakesPending r1 r2 b1 b2 → GoesOn gives s0 s1 r0 r2 b0 b2
    goes_take r2 b2 t = record {
      answers = go.answers;
      calls = go.calls;
      cells = go.cells ++ t.cells;
      block_is = t.block_is ∙ ap (λ k. k ++ t.cells) go.block_is ∙ append_assoc b0 go.cells t.cells;
      has_read = λ limits before given h. rw (← append_assoc given go.cells t.cells)
          (t.has_read limits (before ++ go.answers) (given ++ go.cells) (go.has_read limits before given h));
    }

    pub goes_fill : (s2 : S) (r2 : TextReader) (n : ℕ) → Fills gives s1 s2 r1 r2 n → 0 < n →
        GoesOn gives s0 s2 r0 r2 b0 b1
    goes_fill s2 r2 n f some = record {
      answers = go.answers ++ Ok f.bytes ∷ [];
      calls = calls-append gives go.answers (Ok f.bytes ∷ []) s0 s1 s2 go.calls (s2, f.gave, refl);
      cells = go.cells;
      block_is = go.block_is;
      has_read = λ limits before given h. rw (← append_assoc before go.answers (Ok f.bytes ∷ []))
          (f.some some limits (before ++ go.answers) (given ++ go.cells) (go.has_read limits before given h));
    }

    -- one more call that gave no byte
    few_reads : (limits : TextLimits) (before : List Answer) (given : List Cell) (a : Answer) →
        HasRead limits before given r0 →
        length (before ++ (go.answers ++ a ∷ [])) ≤ limits.max_bytes + 2
    few_reads limits before given a h =
        let g = go.has_read limits before given h in
        let r = g.reads in let m = g.room_is in
        omega (
          arith,
          length-append before (go.answers ++ a ∷ []),
          length-append go.answers (a ∷ []),
          length-append before go.answers,
        )

    no_byte : (before : List Answer) (a : Answer) → bytes_of_calls (a ∷ []) ≡ [] →
        bytes_of_calls (before ++ (go.answers ++ a ∷ [])) ≡ bytes_of_calls (before ++ go.answers)
    no_byte before a e =
        ap bytes_of_calls (sym (append_assoc before go.answers (a ∷ [])))
        ∙ bytes_of_calls-append (before ++ go.answers) (a ∷ [])
        ∙ ap (λ t. bytes_of_calls (before ++ go.answers) ++ t) e
        ∙ append-nil (bytes_of_calls (before ++ go.answers))

    no_bytes : (bytes : List ℕ) → length bytes ≡ 0 → bytes_of_calls (Ok bytes ∷ []) ≡ []
    no_bytes [] e = refl
    no_bytes (b ∷ bs) e = absurd (omega arith)

    pub ends_fill : (at_end : S → Type 0) (s2 : S) (r2 r3 : TextReader) (b2 : List Cell) (n : ℕ) →
        Fills gives s1 s2 r1 r2 n → n ≡ 0 → at_end s2 → Finishes r2 r3 b1 b2 → Ends gives at_end s0 s2 r0 r3 b0 b2
    ends_fill at_end s2 r2 r3 b2 n f none end t = record {
      answers = go.answers ++ Ok f.bytes ∷ [];
      calls = calls-append gives go.answers (Ok f.bytes ∷ []) s0 s1 s2 go.calls (s2, f.gave, refl);
      ended = end;
      cells = go.cells ++ t.cells;
      block_is = t.block_is ∙ ap (λ k. k ++ t.cells) go.block_is ∙ append_assoc b0 go.cells t.cells;
      spelled = λ limits before given h.
          let g = f.none none limits (before ++ go.answers) (given ++ go.cells) (go.has_read limits before given h) in
          record {
            size = t.size;
            size_is = t.size_is;
            spells = rw (
              no_byte before (Ok f.bytes) (no_bytes f.bytes (f.size_is ∙ none)),
              ← append_assoc given go.cells t.cells,
            ) (t.spells limits (before ++ go.answers) (given ++ go.cells) g);
            reads = few_reads limits before given (Ok f.bytes) h;
          };
    }

    pub stops_here : (ended failed : Type 0) (b2 : List Cell) (kind : MmKind) (line : ℕ) → AddsFirst r1 b1 b2 →
        ShowsRead r1 ⊥ ⊥ kind line → Stops gives ended failed s0 s1 r0 b0 b2 kind line
    stops_here ended failed b2 kind line a s = record {
      answers = go.answers;
      calls = go.calls;
      cells = go.cells ++ a.cells;
      block_is = a.block_is ∙ ap (λ k. k ++ a.cells) go.block_is ∙ append_assoc b0 go.cells a.cells;
      explained = λ limits before given h. let g = go.has_read limits before given h in record {
        explains = explains_weaker (bytes_of_calls (before ++ go.answers)) limits ⊥ ended failed kind line
            (λ x. absurd x) (s limits (before ++ go.answers) (given ++ go.cells) g);
        begins = rw (← append_assoc given go.cells a.cells)
            (a.begins limits (before ++ go.answers) (given ++ go.cells) g);
        reads = let r = g.reads in let m = g.room_is in omega arith;
      };
    }

    pub stops_failed : (ended failed : Type 0) (s2 : S) (e : DeviceFault) (line : ℕ) → gives s1 (Err e) s2 → failed →
        ShowsRead r1 ⊥ (Unit {0}) Read line → Stops gives ended failed s0 s2 r0 b0 b1 Read line
    stops_failed ended failed s2 e line gave now s = record {
      answers = go.answers ++ Err e ∷ [];
      calls = calls-append gives go.answers (Err e ∷ []) s0 s1 s2 go.calls (s2, gave, refl);
      cells = go.cells;
      block_is = go.block_is;
      explained = λ limits before given h.
          let g = go.has_read limits before given h in
          let x = s limits (before ++ go.answers) (given ++ go.cells) g in
          record {
            explains = rw (no_byte before (Err e) refl) (record {
              failed_now = now;
              none_within = x.none_within;
              line_is = x.line_is;
            });
            begins = rw (no_byte before (Err e) refl) (read_begins limits (before ++ go.answers) (given ++ go.cells) r1
                g);
            reads = few_reads limits before given (Err e) h;
          };
    }

    pub stops_end : (ended failed : Type 0) (s2 : S) (r2 : TextReader) (b2 : List Cell) (n : ℕ) (kind : MmKind)
        (line : ℕ) → Fills gives s1 s2 r1 r2 n → n ≡ 0 → ended → AddsFirst r2 b1 b2 →
        ShowsRead r2 (Unit {0}) ⊥ kind line →
        Stops gives ended failed s0 s2 r0 b0 b2 kind line
    stops_end ended failed s2 r2 b2 n kind line f none end a s = record {
      answers = go.answers ++ Ok f.bytes ∷ [];
      calls = calls-append gives go.answers (Ok f.bytes ∷ []) s0 s1 s2 go.calls (s2, f.gave, refl);
      cells = go.cells ++ a.cells;
      block_is = a.block_is ∙ ap (λ k. k ++ a.cells) go.block_is ∙ append_assoc b0 go.cells a.cells;
      explained = λ limits before given h.
          let g = f.none none limits (before ++ go.answers) (given ++ go.cells) (go.has_read limits before given h) in
          record {
            explains = rw (no_byte before (Ok f.bytes) (no_bytes f.bytes (f.size_is ∙ none)))
                (explains_weaker (bytes_of_calls (before ++ go.answers)) limits (Unit {0}) ended failed kind line
                (λ x. end) (s limits (before ++ go.answers) (given ++ go.cells) g));
            begins = rw (
              no_byte before (Ok f.bytes) (no_bytes f.bytes (f.size_is ∙ none)),
              ← append_assoc given go.cells a.cells,
            ) (a.begins limits (before ++ go.answers) (given ++ go.cells) g);
            reads = few_reads limits before given (Ok f.bytes) h;
          };
    }

pub same_size : (r r' : TextReader) → r'.lines.progress ≡ r.lines.progress → (s : Size) → size_of r ≡ Some s →
    size_of r' ≡ Some s
unfolding size_of
same_size r r' e s h = ap (λ x. declared_size x.stage) e ∙ h
