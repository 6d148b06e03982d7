-- A whole reading: one block that holds all cells.
use Rattle.std.proofs.Common.{◌≡◌, ◌≢◌, ◌⊎◌, inl, inr, ℕ, ◌+◌, ◌<◌, ◌≤◌, List, [], ◌++◌, length, take, drop, refl, ◌∙◌}
use Rattle.std.proofs.Common.{ap, subst, arith, Bool, true, false, length-take, length-drop}
use Rattle.std.proofs.lemmas.List.{take-append-drop}
use Rattle.std.specs.Prelude.{Some, nat_eq}
use Rattle.cells.specs.Bounds.{IsDimension, AreWithin}
use Rattle.mm_text.specs.Texts.{Spells, FirstFault}
use Rattle.mm_text.specs.Lines.{IsLine}
use Rattle.mm_text.specs.Stages.{LineState, state, state_of, Holds, Advances, EndsText, declared_size, IsCarried}
use Rattle.mm_text.specs.Stages.{cut_kind}
use Rattle.mm_text.specs.declared.line_reader.LineReader.{LineReader}
use Rattle.mm_text.specs.declared.stages.Stage.{Stage}
use Rattle.mm_text.specs.declared.stages.Stage.TheVariants.{AtBanner}
use Rattle.byte_io.specs.Streams.{Answer, Calls, bytes_of_calls}
use Rattle.mm_text.specs.Faults.{Explains, IsUnread, IsTold, IsMemoryFault, Shows}
use Rattle.mm_text.specs.Readings.{HasRead, size_of, Ends, Stops, ReadsBlock}
use Rattle.mm_text.specs.declared.fault.MmKind.{MmKind}
use Rattle.cells.specs.declared.cell.Cell.{Cell}
use Rattle.mm_text.specs.declared.size.Size.{Size}
use Rattle.mm_text.specs.declared.limits.TextLimits.{TextLimits}
use Rattle.mm_text.specs.declared.text_reader.TextReader.{TextReader}
use Rattle.mm_text.proofs.BoundLemmas.{spells_bounds}
use Rattle.mm_text.specs.declared.fault.MmKind.TheVariants as kinds
use Rattle.mm_text.specs.declared.fault.MmKind.TheVariants.{Memory, Read, TooLong}
use Rattle.mm_text.proofs.PiecesLemmas.{holds_none, explains_cut, advances_front, advances_append}
use Rattle.mm_text.proofs.ExplainLemmas.{explains_weaker}

-- what a whole reading answers
abbrev pub IsWhole : {S : Type 0} → (S → Answer → S → Type 0) → (S → Type 0) → S → S → TextLimits → Size → List Cell →
    Type 0
IsWhole gives at_end source source' limits size cells = (answers : List Answer) × Calls gives source answers source' ×
    (length answers ≤ limits.max_bytes + 2) × at_end source'
    × Spells (bytes_of_calls answers) limits size.rows size.cols cells

pub whole_reading : {S : Type 0} (gives : S → Answer → S → Type 0) (at_end : S → Type 0) (source source' : S)
    (reader reader' : TextReader) (block block' : List Cell) (limits : TextLimits) (size : Size) →
    block ≡ [] → HasRead limits [] [] reader → Ends gives at_end source source' reader reader' block block' →
    Some size ≡ size_of reader' →
    IsWhole gives at_end source source' limits size block'
whole_reading gives at_end source source' reader reader' block block' limits size none h e size_is =
    let s = e.spelled limits [] [] h in
    let same : s.size ≡ size = let x = s.size_is in cc in
    let cells : block' ≡ e.cells = e.block_is ∙ ap (λ b. b ++ e.cells) none in
    let spells : Spells (bytes_of_calls e.answers) limits size.rows size.cols block' =
    rw cells (subst (λ z. Spells (bytes_of_calls e.answers) limits z.rows z.cols e.cells) same s.spells) in
    (e.answers, e.calls, s.reads, e.ended, spells)

pub whole_block : {S : Type 0} (gives : S → Answer → S → Type 0) (at_end : S → Type 0) (source source' : S)
    (reader reader' : TextReader) (block block' : List Cell) (limits : TextLimits) (size : Size) (more : Bool) →
    block ≡ [] → HasRead limits [] [] reader → more ≡ false →
    ReadsBlock gives at_end source source' reader reader' block block' more → Some size ≡ size_of reader' →
    IsWhole gives at_end source source' limits size block'
whole_block gives at_end source source' reader reader' block block' limits size true none h m e size_is = cc
whole_block gives at_end source source' reader reader' block block' limits size false none h m e size_is =
    whole_reading gives at_end source source' reader reader' block block' limits size none h e size_is

pub whole_bounds : {S : Type 0} (gives : S → Answer → S → Type 0) (at_end : S → Type 0) (source source' : S)
    (limits : TextLimits) (size : Size) (cells : List Cell) → IsWhole gives at_end source source' limits size cells →
    IsDimension size.rows × IsDimension size.cols × AreWithin size.rows size.cols cells
whole_bounds gives at_end source source' limits size cells w =
    spells_bounds (bytes_of_calls w.0) limits size.rows size.cols cells w.4

pub whole_fault : {S : Type 0} (gives : S → Answer → S → Type 0) (ended failed : Type 0) (source source' : S)
    (reader : TextReader) (block block' : List Cell) (limits : TextLimits) (kind : MmKind) (line : ℕ) →
    HasRead limits [] [] reader → Stops gives ended failed source source' reader block block' kind line →
    (answers : List Answer) × Calls gives source answers source' × (length answers ≤ limits.max_bytes + 2)
    × (Explains (bytes_of_calls answers) limits ended failed kind line ⊎ IsUnread answers kind line)
whole_fault gives ended failed source source' reader block block' limits kind line h s =
    let e = s.explained limits [] [] h in (s.answers, s.calls, e.reads, inl e.explains)

-- no reader could be made
pub whole_unread : {S : Type 0} (gives : S → Answer → S → Type 0) (ended failed : Type 0) (source : S)
    (limits : TextLimits) →
    (answers : List Answer) × Calls gives source answers source × (length answers ≤ limits.max_bytes + 2)
    × (Explains (bytes_of_calls answers) limits ended failed Memory 1 ⊎ IsUnread answers Memory 1)
whole_unread gives ended failed source limits =
    ([], refl, omega arith, inr (record { none = refl; kind_is = refl; line_is = refl }))

-- ---- a text that lies in memory

-- nothing was judged yet
pub held_at_start : (limits : TextLimits) (carry : List ℕ) (stage : Stage) (count : ℕ) → carry ≡ [] →
    stage ≡ AtBanner → count ≡ 0 → Holds limits [] (state carry stage count) []
held_at_start limits carry stage count c s n = rw (c, s, n) (holds_none limits)

-- what is held of bytes that were judged from the start
pub held_from_start : (limits : TextLimits) (bytes carry : List ℕ) (stage : Stage) (count : ℕ) (block : List Cell)
    (now : LineState) (cells : List Cell) → carry ≡ [] → stage ≡ AtBanner → count ≡ 0 → block ≡ [] →
    length bytes ≤ limits.max_bytes → Advances limits bytes (state carry stage count) block now cells →
    Holds limits bytes now cells
held_from_start limits bytes carry stage count block now cells c s n b fits a =
    let first : Holds limits [] (state carry stage count) block = rw b (held_at_start limits carry stage count c s n) in
    rw a.block_is (a.holds [] block (omega arith) first)

-- what is held of bytes of which the last are the front of a line
pub held_whole : (limits : TextLimits) (bytes : List ℕ) (n : ℕ) (r0 r1 r2 : LineReader) (k0 k1 : List Cell) →
    r0.carry.items ≡ [] → r0.progress.stage ≡ AtBanner → r0.progress.lines ≡ 0 → k0 ≡ [] →
    length bytes ≤ limits.max_bytes → Advances limits (take n bytes) (state_of r0) k0 (state_of r1) k1 →
    IsLine (drop n bytes) → r2.progress ≡ r1.progress →
    ((rest : List ℕ) → IsCarried r1.progress.lines rest r1.carry.items →
    IsCarried r1.progress.lines (rest ++ drop n bytes) r2.carry.items ×
    (cut_kind (nat_eq r1.progress.lines 0) (rest ++ drop n bytes) ≡ TooLong)) →
    Holds limits bytes (state_of r2) k1
held_whole limits bytes n r0 r1 r2 k0 k1 c s l b fits a is_line p goes =
    let last : Advances limits (drop n bytes) (state_of r1) k1 (state_of r2) k1 =
    advances_front limits (drop n bytes) r1.carry.items r1.progress.stage r1.progress.lines k1 r2.carry.items
    r2.progress.stage r2.progress.lines (ap (λ q. q.stage) p) (ap (λ q. q.lines) p) is_line goes in
    let both = advances_append limits (take n bytes) (drop n bytes) r0.carry.items r1.carry.items r2.carry.items
    r0.progress.stage r1.progress.stage r2.progress.stage r0.progress.lines r1.progress.lines r2.progress.lines
    k0 k1 k1 a last in
    held_from_start limits bytes r0.carry.items r0.progress.stage r0.progress.lines k0 (state_of r2) k1 c s l b fits
    (subst (λ t. Advances limits t (state_of r0) k0 (state_of r2) k1) (take-append-drop n bytes) both)

-- a fault that bytes of the text show, behind those that are held
pub shown_within : (limits : TextLimits) (text front bytes more : List ℕ) (now : LineState) (given : List Cell)
    (kind : MmKind) (line : ℕ) → text ≡ (front ++ bytes) ++ more → length front + length bytes ≤ limits.max_bytes →
    Holds limits front now given → Shows limits bytes now kind line → Explains text limits (Unit {0}) ⊥ kind line
shown_within limits text front bytes more now given kind line e fits h s =
    rw e (explains_weaker ((front ++ bytes) ++ more) limits ⊥ (Unit {0}) ⊥ kind line (λ x. absurd x)
    (s front more given fits h))

-- the text is longer than the limit, and what is within it is held
pub shown_too_long : (limits : TextLimits) (text : List ℕ) (m : ℕ) (carry : List ℕ) (stage : Stage) (count : ℕ)
    (given : List Cell) (line : ℕ) → m < length text → m ≡ limits.max_bytes →
    Holds limits (take m text) (state carry stage count) given → line ≡ count + 1 →
    Explains text limits (Unit {0}) ⊥ TooLong line
shown_too_long limits text m carry stage count given line less full h e =
    subst (λ t. Explains t limits (Unit {0}) ⊥ TooLong line) (take-append-drop m text)
    (explains_cut limits (take m text) carry stage given count h (drop m text) (Unit {0}) ⊥ line
    (omega (arith, length-take m text)) (omega (arith, length-drop m text)) e)

-- the text has ended, and nothing is missing
pub spelled_to_end : (limits : TextLimits) (text : List ℕ) (now : LineState) (given : List Cell) (stage : Stage)
    (cells : List Cell) → Holds limits text now given → EndsText limits now given stage cells →
    (size : Size) × (declared_size stage ≡ Some size) × Spells text limits size.rows size.cols cells
spelled_to_end limits text now given stage cells h t =
    (t.size, t.size_is, rw t.block_is (t.spells text given h))

-- what the fault of a whole text is
pub record IsFaultOf (text : List ℕ) (limits : TextLimits) (kind : MmKind) (line : ℕ) : Type 0 where
  pub first : kind ≢ Memory → FirstFault text limits kind line
  pub memory : kind ≡ Memory → IsMemoryFault text limits (Unit {0}) line ⊎ (line ≡ 1)
  pub no_read : kind ≢ Read

plain_fault : (text : List ℕ) (limits : TextLimits) (kind : MmKind) (line : ℕ) → kind ≢ Memory → kind ≢ Read →
    IsTold text limits (Unit {0}) kind line → IsFaultOf text limits kind line
plain_fault text limits kind line m r t = record { first = λ n. t.first; memory = λ e. absurd (m e); no_read = r }

pub fault_of_whole : (text : List ℕ) (limits : TextLimits) (kind : MmKind) (line : ℕ) →
    Explains text limits (Unit {0}) ⊥ kind line → IsFaultOf text limits kind line
fault_of_whole text limits kinds.Read line h = absurd h.failed_now
fault_of_whole text limits kinds.Memory line h =
    record { first = λ n. absurd (n refl); memory = λ e. inl h; no_read = λ e. cc }
fault_of_whole text limits kinds.BadBanner line h = plain_fault text limits _ line (λ e. cc) (λ e. cc) h
fault_of_whole text limits kinds.Unsupported line h = plain_fault text limits _ line (λ e. cc) (λ e. cc) h
fault_of_whole text limits kinds.LineTooLong line h = plain_fault text limits _ line (λ e. cc) (λ e. cc) h
fault_of_whole text limits kinds.BadSize line h = plain_fault text limits _ line (λ e. cc) (λ e. cc) h
fault_of_whole text limits kinds.BadDimension line h = plain_fault text limits _ line (λ e. cc) (λ e. cc) h
fault_of_whole text limits kinds.NotSquare line h = plain_fault text limits _ line (λ e. cc) (λ e. cc) h
fault_of_whole text limits kinds.TooManyEntries line h = plain_fault text limits _ line (λ e. cc) (λ e. cc) h
fault_of_whole text limits kinds.BadEntry line h = plain_fault text limits _ line (λ e. cc) (λ e. cc) h
fault_of_whole text limits kinds.Negative line h = plain_fault text limits _ line (λ e. cc) (λ e. cc) h
fault_of_whole text limits kinds.NumberTooLarge line h = plain_fault text limits _ line (λ e. cc) (λ e. cc) h
fault_of_whole text limits kinds.IndexOutOfRange line h = plain_fault text limits _ line (λ e. cc) (λ e. cc) h
fault_of_whole text limits kinds.TooFewEntries line h = plain_fault text limits _ line (λ e. cc) (λ e. cc) h
fault_of_whole text limits kinds.ExtraText line h = plain_fault text limits _ line (λ e. cc) (λ e. cc) h
fault_of_whole text limits kinds.TooLong line h = plain_fault text limits _ line (λ e. cc) (λ e. cc) h
