-- What was taken of bytes in memory, and what they can't be.
use Rattle.std.proofs.Common.{◌≡◌, ℕ, zero, suc, ◌+◌, ◌-◌, ◌*◌, ◌^◌, ◌<◌, ◌≤◌, ◌⊎◌, Bool, true, false, List, [], ◌∷◌, ◌++◌, length, take, drop, get_or}
use Rattle.std.proofs.Common.{Result, Ok, Err, refl, sym, ap, subst, ◌∙◌, append_assoc, length-append, arith, inl, inr}
use Rattle.std.proofs.lemmas.List.{append-nil, append_cancel_left, get_or_append_left, get_or_past, drop_at}
use Rattle.std.proofs.lemmas.Bool.{cases_lt}
use Rattle.std.specs.List.{AllByRecursion}
use Rattle.byte_io.specs.Streams.{Answer, Calls, bytes_of_calls}
use Rattle.byte_io.specs.declared.fault.DeviceFault.{DeviceFault}
use Rattle.crc32c.specs.Remainders.{all_ones}
use Rattle.batch_store.specs.Accepted.{unfolded}
use Rattle.batch_store.specs.Batches.{Submission}
use Rattle.batch_store.specs.Setups.{Setting}
use Rattle.snap_file.specs.Spelling.{IsBytes}
use Rattle.snap_file.specs.Origins.{unknown}
use Rattle.snap_file.specs.Table.{Input, Fault, Contents, Reading, fault_at, contents, end, from_front}
use Rattle.snap_file.specs.Outcomes.{Turn, Task, KeepsFaults, FaultIn, FirstFaultIn, IsTold, Explains, ReaderState, HasJudged, IsBehindHead, Stops}
use Rattle.snap_file.specs.Outcomes.Turn.{at_limit, in_field}
use Rattle.snap_file.specs.declared.head.Head.{Head}
use Rattle.snap_file.specs.declared.fault.SnapFault.{SnapFault}
use Rattle.snap_file.specs.declared.fault.SnapFault.TheVariants.{Read, Memory}
use Rattle.snap_file.proofs.Steady.{IsSteady, steady_end, end_more}
use Rattle.snap_file.proofs.EndLemmas.{end_here}
use Rattle.snap_file.proofs.StartLemmas.{begun}
use Rattle.log_batches.specs.Payloads.{payload_bytes}
use Rattle.log_batches.specs.Tables.{counted_batches}
use Rattle.log_blocks.specs.declared.fault.LogKind.{LogKind}
use Rattle.log_batches.specs.Held.{refusal_of, IsFor, IsLogged, IsTaken, HasNoBatches, gives_front}
use Rattle.log_batches.proofs.TableLemmas.{steady_counted, skips_counted, counted_read}

-- ---- what a run of reads gave

pub given_all : (answers : List Answer) (s t : List ℕ) → Calls gives_front s answers t → s ≡ bytes_of_calls answers ++ t
given_all [] s t is = is
given_all (Ok bytes ∷ answers) s t calls =
    calls.1
    ∙ ap (λ (l : List ℕ). bytes ++ l) (given_all answers calls.0 t calls.2)
    ∙ sym (append_assoc bytes (bytes_of_calls answers) t)
given_all (Err fault ∷ answers) s t calls = absurd calls.1

-- ---- the two readings: one has no bytes behind the batches, the other any

abbrev pub ends : Head → List Submission → Reading
ends h list = end (contents unknown h.setup (unfolded list))

abbrev pub goes : Head → List Submission → Reading
goes h list = λ input. Ok (contents unknown h.setup (unfolded list))

abbrev pub task_of : Head → ℕ → (List Submission → Reading) → Task
task_of h n k = record { max_bytes = n; reads = λ bytes. counted_batches h k (from_front bytes) }

keeps_of : (r : Reading) → IsSteady r → KeepsFaults (λ bytes. r (from_front bytes))
keeps_of r steady bytes kind place e within =
    let s = steady.shows [] bytes kind place e (omega arith) in
    let p = s.place_is in
    (s.front, s.behind, s.parts, omega arith, s.stays)

abbrev outcome : Type 0
outcome = Result Contents Fault

apart : (v : Contents) (f : Fault) → ◌≡◌ {A = outcome} (Ok v) (Err f) → ⊥
apart v f e = absurd cc

steady_goes : (h : Head) (list : List Submission) → IsSteady (goes h list)
steady_goes h list = record {
  shows = λ before rest kind place e within.
      absurd (apart (contents unknown h.setup (unfolded list)) (record { kind = kind; place = place }) e);
}

pub behind_goes : (h : Head) (list : List Submission) → IsBehindHead (goes h list)
behind_goes h list = record {
  shows = λ input kind shown e.
      absurd (apart (contents unknown h.setup (unfolded list)) (record { kind = kind; place = shown }) e);
}

abbrev no_failures : List ℕ → ℕ
no_failures s = 0

module _ (h : Head) (bytes : List ℕ) (reader : ReaderState) (pending : reader.pending ≡ []) (taken : reader.taken ≡ 0)
    (remainder : reader.remainder ≡ all_ones) (limit : reader.max_bytes ≡ length bytes) where
  pub begun_with : (k : List Submission → Reading) → ((list : List Submission) → IsSteady (k list)) →
      HasJudged gives_front (λ s. 0) (task_of h (length bytes) k) bytes bytes reader (counted_batches h k)
  begun_with k each =
      begun gives_front (λ s. 0) (task_of h (length bytes) k) bytes reader (counted_batches h k)
      (keeps_of (counted_batches h k) (steady_counted h k each)) (λ more. refl) pending taken remainder limit

  pub begun_ends : HasJudged gives_front (λ s. 0) (task_of h (length bytes) (ends h)) bytes bytes reader
      (counted_batches h (ends h))
  begun_ends = begun_with (ends h) (λ list. steady_end _)

  pub begun_goes : HasJudged gives_front (λ s. 0) (task_of h (length bytes) (goes h)) bytes bytes reader
      (counted_batches h (goes h))
  begun_goes = begun_with (goes h) (λ list. steady_goes h list)

-- ---- what was read is there

front_bytes : (front rest : List ℕ) → IsBytes (front ++ rest) → IsBytes front
front_bytes front rest all i = elim (cases_lt i (length front)) [
  | inl lt ↦ subst (λ (b : ℕ). b < 256) (get_or_append_left front rest 0 i lt) (all i)
  | inr le ↦ subst (λ (b : ℕ). b < 256) (sym (get_or_past front i 0 le)) (omega arith)
]

ended : (c v : Contents) (before left : List ℕ) → end c (record { before = before; rest = left }) ≡ Ok v →
    (left ≡ []) × (c ≡ v)
ended c v before [] e = (refl, let whole : ◌≡◌ {A = outcome} (Ok c) (Ok v) = sym (end_here c before) ∙ e in cc)
ended c v before (x ∷ left) e =
    absurd (apart v (record { kind = SnapFault.ExtraBytes; place = length before + 1 })
    (sym e ∙ end_more c before x left))

same_list : (s : Setting) (xs ys : List Submission) → contents unknown s (unfolded xs) ≡ contents unknown s (unfolded ys) → xs ≡ ys
same_list s xs ys e = ap (λ (c : Contents). c.state.list) e

pub list_taken : (h : Head) → IsFor h → (bytes t : List ℕ) (reader : ReaderState) (list : List Submission) →
    HasJudged gives_front (λ s. 0) (task_of h (length bytes) (ends h)) bytes t reader (ends h list) →
    IsTaken h.setup bytes list reader.taken
list_taken h for bytes t reader list j =
    let a = j.has_read in
    let v = contents unknown h.setup (unfolded list) in
    let read : counted_batches h (ends h) (record { before = []; rest = a.front }) ≡ Ok v =
    ap (λ (l : List ℕ). counted_batches h (ends h) (record { before = []; rest = l })) (sym (append-nil a.front))
    ∙ a.resumes [] ∙ end_here v a.front in
    let fits = front_bytes a.front reader.pending (subst IsBytes a.bytes_are a.are_bytes) in
    let r = counted_read h for (ends h) v [] a.front fits read in
    let last = ended (contents unknown h.setup (unfolded r.list)) v r.came.before r.came.left r.came.goes in
    let same : r.list ≡ list = same_list h.setup r.list list last.1 in
    let front_is : a.front ≡ payload_bytes list =
    r.came.stands.parts ∙ ap (λ (l : List ℕ). payload_bytes r.list ++ l) last.0 ∙ append-nil (payload_bytes r.list)
    ∙ ap payload_bytes same in
    let some = r.some in let few = r.few in let count = ap length same in
    record {
      some = omega arith;
      few = omega arith;
      each = subst (λ (l : List Submission). AllByRecursion (IsLogged h.setup) l) same r.each;
      rest = reader.pending ++ t;
      taken_is = a.taken_is ∙ ap length front_is;
      whole = given_all a.answers bytes t a.calls
          ∙ ap (λ (l : List ℕ). l ++ t) a.bytes_are
          ∙ append_assoc a.front reader.pending t
          ∙ ap (λ (l : List ℕ). l ++ (reader.pending ++ t)) front_is;
    }

pub taken_within : (h : Head) (n : ℕ) (k : List Submission → Reading) (s t : List ℕ) (reader : ReaderState)
    (left : Reading) →
    HasJudged gives_front (λ s. 0) (task_of h n k) s t reader left → reader.taken ≤ n
taken_within h n k s t reader left j =
    let a = j.has_read in let is = a.taken_is in let within = a.within in omega arith

-- ---- what is told isn't there

told_of : (m : Task) (answers : List Answer) (ended failed : Type 0) (kind : SnapFault) → (kind ≡ Read → ⊥) →
    (kind ≡ Memory → ⊥) → Explains m answers ended failed kind → IsTold m (bytes_of_calls answers) ended kind
told_of m answers ended failed Read no_read no_memory t = absurd (no_read refl)
told_of m answers ended failed Memory no_read no_memory t = absurd (no_memory refl)
told_of m answers ended failed kind no_read no_memory t = t

failed_of : (m : Task) (answers : List Answer) (ended failed : Type 0) (kind : SnapFault) → kind ≡ Read →
    Explains m answers ended failed kind → failed
failed_of m answers ended failed Read is t = t.failed_now
failed_of m answers ended failed kind is t = absurd cc

-- a fault of what was given is one of all the bytes
fault_of_all : (m : Task) → KeepsFaults m.reads → (given t bytes : List ℕ) (kind : SnapFault) → bytes ≡ given ++ t →
    m.max_bytes ≡ length bytes → IsTold m given (t ≡ []) kind → (place : ℕ) × (m.reads bytes ≡ fault_at kind place)
fault_of_all m keeps given t bytes kind whole limit told = (told.place, turned told.first.turn told.first.stands)
  where
    inner : m.reads given ≡ fault_at kind told.place → told.place ≤ length given →
        m.reads bytes ≡ fault_at kind told.place
    inner e within =
        let s = keeps given kind told.place e within in
        ap m.reads (whole ∙ ap (λ (l : List ℕ). l ++ t) s.2 ∙ append_assoc s.0 s.1 t) ∙ s.4 (s.1 ++ t)

    turned : (turn : Turn) → FaultIn turn m given told.place kind → m.reads bytes ≡ fault_at kind told.place
    turned at_limit f =
        let long = f.longer in
        let len = ap length whole ∙ length-append given t in
        absurd (omega arith)
    turned in_field f = elim (cases_lt (length given) told.place) [
      | inl outside ↦ ap m.reads (whole ∙ ap (λ (l : List ℕ). given ++ l) (told.at_end outside) ∙ append-nil given) ∙ f
      | inr inside ↦ inner f inside
    ]

-- batches are read of bytes that begin with them
pub all_read : (h : Head) → IsFor h → (k : List Submission → Reading) (list : List Submission) (rest : List ℕ) →
    AllByRecursion (IsLogged h.setup) list → 0 < length list → length list < 2 ^ 64 →
    counted_batches h k (from_front (payload_bytes list ++ rest)) ≡
    k list (record { before = payload_bytes list; rest = rest })
all_read h for k list rest each some few = (skips_counted h for list each some few).reads k [] rest

pub none_taken : (h : Head) → IsFor h → (bytes t : List ℕ) (kind : SnapFault) → (kind ≡ Memory → ⊥) →
    Stops gives_front (λ s. 0) (t ≡ []) (task_of h (length bytes) (goes h)) bytes t kind → HasNoBatches h.setup bytes
none_taken h for bytes t kind no_memory stops list rest some few each whole =
    let m = task_of h (length bytes) (goes h) in
    let told = told_of m stops.answers (t ≡ []) (0 ≡ 0 + 1) kind
    (λ e. absurd (one_failed (failed_of m stops.answers (t ≡ []) (0 ≡ 0 + 1) kind e stops.explains)))
    no_memory stops.explains in
    let f = fault_of_all m (keeps_of (counted_batches h (goes h)) (steady_counted h (goes h) (λ l. steady_goes h l)))
    (bytes_of_calls stops.answers) t bytes kind (given_all stops.answers bytes t stops.calls) refl told in
    apart (contents unknown h.setup (unfolded list)) (record { kind = kind; place = f.0 })
    (sym (all_read h for (goes h) list rest each some few) ∙ ap m.reads (sym whole) ∙ f.1)
  where
    one_failed : 0 ≡ 0 + 1 → ⊥
    one_failed e = omega arith

pub refused : (fault : SnapFault) (P : Type 0) → ((fault ≡ Memory → ⊥) → P) →
    (refusal_of fault ≡ LogKind.Memory) ⊎ ((refusal_of fault ≡ LogKind.BadBlock) × P)
refused Memory P p = inl refl
refused fault P p = inr (refl, p (λ e. absurd cc))

-- ---- one list

pub one_list : (h : Head) → IsFor h → (list other : List Submission) (rest more : List ℕ) →
    AllByRecursion (IsLogged h.setup) list → 0 < length list → length list < 2 ^ 64 →
    AllByRecursion (IsLogged h.setup) other → 0 < length other → length other < 2 ^ 64 →
    payload_bytes list ++ rest ≡ payload_bytes other ++ more → (list ≡ other) × (rest ≡ more)
one_list h for list other rest more each some few each_other some_other few_other e =
    let both : ◌≡◌ {A = outcome} (Ok (contents unknown h.setup (unfolded list))) (Ok (contents unknown h.setup (unfolded other))) =
    sym (all_read h for (goes h) list rest each some few)
    ∙ ap (λ (l : List ℕ). counted_batches h (goes h) (from_front l)) e
    ∙ all_read h for (goes h) other more each_other some_other few_other in
    let contents_are : contents unknown h.setup (unfolded list) ≡ contents unknown h.setup (unfolded other) = cc in
    let same = same_list h.setup list other contents_are in (
      same,
      append_cancel_left (payload_bytes other) rest more
          (ap (λ (l : List Submission). payload_bytes l ++ rest) (sym same) ∙ e),
    )
