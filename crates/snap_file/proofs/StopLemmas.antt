-- Where a reading ends: short of bytes, with too many, with a failed read, or with a judgement.
use Rattle.std.proofs.Common.{◌≡◌, ℕ, ◌+◌, ◌<◌, ◌≤◌, ◌⊎◌, Bool, true, false, cond, not, List, [], ◌∷◌, ◌++◌, length, take, drop}
use Rattle.std.proofs.Common.{Result, Ok, Err, refl, sym, ap, subst, ◌∙◌, append_assoc, length-append, arith, inl, inr}
use Rattle.std.proofs.lemmas.List.{append-nil, length-take-le, take-append-drop}
use Rattle.std.proofs.lemmas.Bool.{cases_lt, le-leb, lt-leb}
use Rattle.std.specs.Int.{Width, w32, byte_len, from_be_bytes}
use Rattle.std.specs.Prelude.{◌==◌, nat_le}
use Rattle.crc32c.specs.Remainders.{all_ones, after_bytes, complement, checksum_of}
use Rattle.crc32c.proofs.Linear.{after_bytes-append}
use Rattle.byte_io.specs.Streams.{Answer, bytes_of_calls}
use Rattle.byte_io.specs.declared.fault.DeviceFault.{DeviceFault}
use Rattle.byte_io.proofs.StreamLemmas.{calls-append, calls_one, bytes_of_calls-append}
use Rattle.snap_file.specs.Table.{Input, Fault, Reading, fault_at, number, refuse_if, check, check_in, Contents}
use Rattle.snap_file.specs.Spelling.{checked_version}
use Rattle.snap_file.specs.Outcomes.{Turn, Task, KeepsFaults, FaultIn, IsTold, IsOfBytes, ShowsBehind, ReachesLast, Explains, ReaderState}
use Rattle.snap_file.specs.Outcomes.{HasRead, HasJudged, HasAsked, IsBehindHead, HasEnded, HasFailed, Stops}
use Rattle.snap_file.specs.Outcomes.Turn.{at_limit, in_field}
use Rattle.snap_file.specs.declared.fault.SnapFault.{SnapFault}
use Rattle.snap_file.specs.declared.fault.SnapFault.TheVariants.{Read, Memory, Truncated, TooLong, BadCheck}
use Rattle.snap_file.proofs.FileLaws.{first_in_field, first_at_limit}
use Rattle.snap_file.proofs.Steady.{number_short, number_there, goes_on, refused_at, place_same, kind_same}

pub split : (front pending a b : List ℕ) → front ++ pending ≡ a ++ b →
    (c : List ℕ) × ((front ≡ a ++ c) ⊎ (a ≡ front ++ c))
split [] pending a b e = (a, inr refl)
split (x ∷ front) pending [] b e = (x ∷ front, inl refl)
split (x ∷ front) pending (y ∷ a) b e =
    let same : x ≡ y = cc in
    let rest : front ++ pending ≡ a ++ b = cc in
    let r = split front pending a b rest in (
      r.0,
      elim r.1 [
        | inl h ↦ inl (ap (λ (z : ℕ). z ∷ front) same ∙ ap (λ (l : List ℕ). y ∷ l) h)
        | inr h ↦ inr (ap (λ (z : ℕ). z ∷ a) (sym same) ∙ ap (λ (l : List ℕ). x ∷ l) h)
      ],
    )

-- a fault of what follows a field shows behind the field
pub never_before : (reads : List ℕ → Result Contents Fault) → KeepsFaults reads →
    (front pending : List ℕ) (w : Width) (k : ℕ → Reading) → 0 < byte_len w →
    ((more : List ℕ) → reads (front ++ more) ≡ number w k (record { before = front; rest = more })) →
    (kind : SnapFault) (p : ℕ) → reads (front ++ pending) ≡ fault_at kind p → p ≤ length (front ++ pending) →
    length front + byte_len w ≤ p
never_before reads steady front pending w k wide resumes kind p e within = elim
    (cases_lt p (length front + byte_len w)) [ inr le ↦ le | inl lt ↦ absurd (early lt) ]
  where
    early : p < length front + byte_len w → ⊥
    early lt =
        let s = steady (front ++ pending) kind p e within in
        let a = s.0 in
        let len : length a ≡ p = s.3 in
        let c = split front pending a s.1 s.2 in
        elim c.1 [
          | inl h ↦
              let whole : fault_at kind p ≡ fault_at Truncated (length front + 0 + 1) =
              sym (s.4 c.0) ∙ ap reads (sym h ∙ sym (append-nil front)) ∙ resumes [] ∙
              number_short w k front [] wide in
              let q = place_same kind Truncated p _ whole in
              let l = ap length h ∙ length-append a c.0 in
              omega arith
          | inr h ↦
              let l = ap length h ∙ length-append front c.0 in
              let short : length c.0 < byte_len w = omega arith in
              let whole : fault_at kind p ≡ fault_at Truncated (length front + length c.0 + 1) =
              sym (s.4 []) ∙ ap reads (append-nil a ∙ h) ∙ resumes c.0 ∙
              number_short w k front c.0 short in
              let q = place_same kind Truncated p _ whole in
              omega arith
        ]

told_as : (m : Task) (answers : List Answer) (ended failed : Type 0) (kind : SnapFault) → IsOfBytes kind →
    IsTold m (bytes_of_calls answers) ended kind → Explains m answers ended failed kind
told_as m answers ended failed Read judged t = absurd (judged.0 refl)
told_as m answers ended failed Memory judged t = absurd (judged.1 refl)
told_as m answers ended failed kind judged t = t

pub stops_refused : {S : Type 0} (gives : S → Result (List ℕ) DeviceFault → S → Type 0) (failures : S → ℕ)
    (ended : Type 0) (m : Task) (s t : S) (reader : ReaderState) (test : Bool) (kind : SnapFault)
    (k : Unit {0} → Reading) →
    HasJudged gives failures m s t reader (refuse_if test kind k) → test ≡ true → IsOfBytes kind →
    Stops gives failures ended m s t kind
stops_refused gives failures ended m s t reader test kind k h bad judged =
    let a = h.has_read in
    let bytes = bytes_of_calls a.answers in
    let shows : m.reads bytes ≡ fault_at kind (length a.front) = ap m.reads a.bytes_are ∙
    a.resumes reader.pending ∙ refused_at k test kind (record { before = a.front; rest = reader.pending }) bad in
    let longer : length a.front ≤ length bytes = let e = ap length a.bytes_are ∙ length-append a.front reader.pending in
    omega arith in
    record {
      answers = a.answers;
      calls = a.calls;
      few = let f = a.few in omega arith;
      explains = told_as m a.answers ended (failures t ≡ failures s + 1) kind judged
          (record {
            place = length a.front;
            first = first_in_field m bytes
                (record { kind = kind; place = length a.front }) shows (λ long. a.within);
            at_end = λ h. absurd (omega arith);
          });
      unfailed = λ n. a.none_failed;
    }

-- the bytes that were judged, and those that are pending, where what is still to be read is read as something else
left_as : {S : Type 0} (gives : S → Result (List ℕ) DeviceFault → S → Type 0) (failures : S → ℕ) (m : Task) (s t : S)
    (reader : ReaderState) (old new : Reading) → HasJudged gives failures m s t reader old →
    ((input : Input) → old input ≡ new input) → HasJudged gives failures m s t reader new
left_as gives failures m s t reader old new h same =
    let a = h.has_read in
    record {
      has_read = record {
        answers = a.answers;
        calls = a.calls;
        each = a.each;
        front = a.front;
        bytes_are = a.bytes_are;
        are_bytes = a.are_bytes;
        taken_is = a.taken_is;
        remainder_is = a.remainder_is;
        limit_is = a.limit_is;
        within = a.within;
        few = a.few;
        none_failed = a.none_failed;
        resumes = λ more. a.resumes more ∙ same (record { before = a.front; rest = more });
        keeps = a.keeps;
      };
      reaches = h.reaches;
    }

pub read_passed : {S : Type 0} (gives : S → Result (List ℕ) DeviceFault → S → Type 0) (failures : S → ℕ) (m : Task)
    (s t : S) (reader : ReaderState) (test : Bool) (kind : SnapFault) (k : Unit {0} → Reading) →
    HasJudged gives failures m s t reader (refuse_if test kind k) → test ≡ false →
    HasJudged gives failures m s t reader (k tt)
read_passed gives failures m s t reader test kind k h good =
    left_as gives failures m s t reader (refuse_if test kind k) (k tt) h (λ input. goes_on k test kind input good)

pub read_field : {S : Type 0} (gives : S → Result (List ℕ) DeviceFault → S → Type 0) (failures : S → ℕ) (m : Task)
    (s t : S) (old new : ReaderState) (w : Width) (k : ℕ → Reading) →
    HasAsked gives failures m s t old (number w k) (byte_len w) → byte_len w ≤ length old.pending →
    old.taken + byte_len w ≤ old.max_bytes →
    new.pending ≡ drop (byte_len w) old.pending → new.taken ≡ old.taken + byte_len w →
    new.remainder ≡ after_bytes old.remainder (take (byte_len w) old.pending) → new.max_bytes ≡ old.max_bytes →
    HasJudged gives failures m s t new (k (from_be_bytes w (take (byte_len w) old.pending)))
read_field gives failures m s t old new w k h long room pending taken remainder limit =
    let a = h.has_read in
    let field = take (byte_len w) old.pending in
    let len : length field ≡ byte_len w = length-take-le (byte_len w) old.pending long in
    let l = a.limit_is in let i = a.taken_is in
    let more_front : length (a.front ++ field) ≡ length a.front + byte_len w = length-append a.front field ∙
    ap (λ (n : ℕ). length a.front + n) len in
    record {
      has_read = record {
        answers = a.answers;
        calls = a.calls;
        each = a.each;
        front = a.front ++ field;
        bytes_are = a.bytes_are ∙ ap (λ (l : List ℕ). a.front ++ l)
            (sym (take-append-drop (byte_len w) old.pending) ∙ ap (λ (l : List ℕ). field ++ l) (sym pending)) ∙
            sym (append_assoc a.front field new.pending);
        are_bytes = a.are_bytes;
        taken_is = omega arith;
        remainder_is = remainder ∙ ap (λ (n : ℕ). after_bytes n field) a.remainder_is ∙
            sym (after_bytes-append all_ones a.front field);
        limit_is = limit ∙ a.limit_is;
        within = omega arith;
        few = a.few;
        none_failed = a.none_failed;
        resumes = λ more. ap m.reads (append_assoc a.front field more) ∙ a.resumes (field ++ more) ∙
            number_there w k a.front field more len;
        keeps = a.keeps;
      };
      reaches = elim h.reaches [
        | inl none ↦ inl none
        | inr r ↦ inr (subst (λ (n : ℕ). ReachesLast a.answers n) (sym more_front) r)
      ];
    }

pub stops_long : {S : Type 0} (gives : S → Result (List ℕ) DeviceFault → S → Type 0) (failures : S → ℕ) (ended : Type 0)
    (m : Task) (s t : S) (reader : ReaderState) (w : Width) (k : ℕ → Reading) →
    HasRead gives failures m s t reader (number w k) → reader.max_bytes < reader.taken + byte_len w →
    reader.max_bytes < reader.taken + length reader.pending → Stops gives failures ended m s t TooLong
stops_long gives failures ended m s t reader w k a room long =
    let bytes = bytes_of_calls a.answers in
    let l = a.limit_is in let i = a.taken_is in let f = a.few in let in_front = a.within in
    let all : length bytes ≡ length a.front + length reader.pending = ap length a.bytes_are ∙
    length-append a.front reader.pending in
    let over : m.max_bytes < length a.front + byte_len w = omega arith in
    let more : m.max_bytes < length bytes = omega arith in
    record {
      answers = a.answers;
      calls = a.calls;
      few = omega arith;
      explains = record {
        place = m.max_bytes + 1;
        first = first_at_limit m bytes more
            (λ g e. later m a.keeps a.front reader.pending w k bytes a.bytes_are a.resumes over
            (omega arith) more g e);
        at_end = λ h. absurd (omega arith);
      };
      unfailed = λ n. a.none_failed;
    }
  where
    later : (m : Task) → KeepsFaults m.reads → (front pending : List ℕ) (w : Width) (k : ℕ → Reading) (bytes : List ℕ) →
        bytes ≡ front ++ pending →
        ((more : List ℕ) → m.reads (front ++ more) ≡ number w k (record { before = front; rest = more })) →
        m.max_bytes < length front + byte_len w → 0 < byte_len w → m.max_bytes < length bytes → (g : Fault) →
        m.reads bytes ≡ Err g →
        m.max_bytes < g.place
    later m keeps front pending w k bytes is resumes over wide more g e = elim (cases_lt (length bytes) g.place) [
      | inl outside ↦ omega arith
      | inr inside ↦
          let le = never_before m.reads keeps front pending w k wide resumes g.kind g.place (ap m.reads (sym is) ∙ e)
          (let q = ap length is in omega arith) in
          omega arith
    ]

pub stops_short : {S : Type 0} (gives : S → Result (List ℕ) DeviceFault → S → Type 0) (failures : S → ℕ)
    (ended : Type 0) (m : Task) (s t : S) (reader : ReaderState) (w : Width) (k : ℕ → Reading) →
    HasEnded gives failures ended m s t reader (number w k) → length reader.pending < byte_len w →
    reader.taken + length reader.pending ≤ reader.max_bytes → Stops gives failures ended m s t Truncated
stops_short gives failures ended m s t reader w k x short room =
    let a = x.has_read in
    let last : List (Result (List ℕ) DeviceFault) = Ok [] ∷ [] in
    let bytes = bytes_of_calls (a.answers ++ last) in
    let bytes_are : bytes ≡ a.front ++ reader.pending = bytes_of_calls-append a.answers last ∙
    append-nil (bytes_of_calls a.answers) ∙ a.bytes_are in
    let all : length bytes ≡ length a.front + length reader.pending = ap length bytes_are ∙
    length-append a.front reader.pending in
    let l = a.limit_is in let i = a.taken_is in let f = a.few in
    let place = length a.front + length reader.pending + 1 in
    let shows : m.reads bytes ≡ fault_at Truncated place = ap m.reads bytes_are ∙ a.resumes reader.pending ∙
    number_short w k a.front reader.pending short in
    record {
      answers = a.answers ++ last;
      calls = calls-append gives a.answers last s x.before t a.calls (calls_one gives x.before t (Ok []) x.gave);
      few = let e = length-append a.answers last in omega arith;
      explains = record {
        place = place;
        first = first_in_field m bytes
            (record { kind = Truncated; place = place }) shows (λ long. absurd (omega arith));
        at_end = λ h. x.at_end;
      };
      unfailed = λ n. x.none_failed ∙ a.none_failed;
    }

pub stops_failed : {S : Type 0} (gives : S → Result (List ℕ) DeviceFault → S → Type 0) (failures : S → ℕ)
    (ended : Type 0) (m : Task) (s t : S) (want : ℕ) (w : Width) (k : ℕ → Reading) →
    HasFailed gives failures m s t want (number w k) → want ≤ byte_len w → Stops gives failures ended m s t Read
stops_failed gives failures ended m s t want w k x wanted =
    let a = x.has_read in
    let last : List (Result (List ℕ) DeviceFault) = Err x.fault ∷ [] in
    let bytes = bytes_of_calls (a.answers ++ last) in
    let bytes_are : bytes ≡ a.front ++ x.reader.pending = bytes_of_calls-append a.answers last ∙
    append-nil (bytes_of_calls a.answers) ∙ a.bytes_are in
    let all : length bytes ≡ length a.front + length x.reader.pending = ap length bytes_are ∙
    length-append a.front x.reader.pending in
    let l = a.limit_is in let i = a.taken_is in let f = a.few in let short = x.short in let room = x.room in
    let place = length a.front + length x.reader.pending + 1 in
    let shows : m.reads bytes ≡ fault_at Truncated place = ap m.reads bytes_are ∙ a.resumes x.reader.pending ∙
    number_short w k a.front x.reader.pending (omega arith) in
    record {
      answers = a.answers ++ last;
      calls = calls-append gives a.answers last s x.before t a.calls (calls_one gives x.before t (Err x.fault) x.gave);
      few = let e = length-append a.answers last in omega arith;
      explains = record {
        failed_now = x.failed ∙ ap (λ (n : ℕ). n + 1) a.none_failed;
        none_but = λ p kind h. only m bytes place shows (omega arith) h.turn p kind h.stands;
      };
      unfailed = λ n. absurd (n refl);
    }
  where
    only : (m : Task) (bytes : List ℕ) (place : ℕ) → m.reads bytes ≡ fault_at Truncated place →
        length bytes ≤ m.max_bytes →
        (turn : Turn) (p : ℕ) (kind : SnapFault) → FaultIn turn m bytes p kind → kind ≡ Truncated
    only m bytes place shows fits at_limit p kind h = let long = h.longer in absurd (omega arith)
    only m bytes place shows fits in_field p kind h = kind_same kind Truncated p place (sym h ∙ shows)

-- memory was refused
pub stops_memory : {S : Type 0} (gives : S → Result (List ℕ) DeviceFault → S → Type 0) (failures : S → ℕ)
    (ended : Type 0) (m : Task) (s t : S) (reader : ReaderState) (left : Reading) →
    HasJudged gives failures m s t reader left → IsBehindHead left → Stops gives failures ended m s t Memory
stops_memory gives failures ended m s t reader left h behind =
    let a = h.has_read in
    record {
      answers = a.answers;
      calls = a.calls;
      few = let f = a.few in omega arith;
      explains = elim h.reaches [
        | inl none ↦ inl none
        | inr r ↦ inr (record {
          place = length a.front;
          reaches = r;
          within = let e = ap length a.bytes_are ∙ length-append a.front reader.pending in omega arith;
          each = a.each;
          none_before = λ more shown kind f. later m a.front reader.pending left (bytes_of_calls a.answers) a.bytes_are
              a.within a.resumes behind more f.turn shown kind f.stands;
        })
      ];
      unfailed = λ n. a.none_failed;
    }
  where
    later : (m : Task) (front pending : List ℕ) (left : Reading) (bytes : List ℕ) → bytes ≡ front ++ pending →
        length front ≤ m.max_bytes →
        ((more : List ℕ) → m.reads (front ++ more) ≡ left (record { before = front; rest = more })) →
        IsBehindHead left → (more : List ℕ) (turn : Turn) (shown : ℕ) (kind : SnapFault) →
        FaultIn turn m (bytes ++ more) shown kind → ShowsBehind (length front) shown kind
    later m front pending left bytes is within resumes behind more at_limit shown kind h =
        let place = h.place_is in
        record {
          no_mark = λ e. absurd (let k = sym h.kind_is ∙ e in cc);
          no_version = λ e. absurd (let k = sym h.kind_is ∙ e in cc);
          no_head = λ e. absurd (let k = sym h.kind_is ∙ e in cc);
          not_before = omega arith;
          total_alone = λ e. absurd (omega arith);
        }
    later m front pending left bytes is within resumes behind more in_field shown kind h =
        behind.shows (record { before = front; rest = pending ++ more }) kind shown
        (sym (ap m.reads (ap (λ (l : List ℕ). l ++ more) is ∙ append_assoc front pending more) ∙
        resumes (pending ++ more)) ∙ h)

-- ---- checksums

-- The bytes that were judged have the checksum that the reader makes of them.
pub read_check : {S : Type 0} (gives : S → Result (List ℕ) DeviceFault → S → Type 0) (failures : S → ℕ) (m : Task)
    (s t : S) (reader : ReaderState) (sum : ℕ) (k : Unit {0} → Reading) → sum ≡ complement reader.remainder →
    HasJudged gives failures m s t reader (check k) →
    HasJudged gives failures m s t reader (number w32 (λ n. refuse_if (not (n == sum)) BadCheck k))
unfolding check
read_check gives failures m s t reader sum k is h =
    let a = h.has_read in
    let same : checksum_of a.front ≡ sum = sym (is ∙ ap complement a.remainder_is) in
    record {
      has_read = record {
        answers = a.answers;
        calls = a.calls;
        each = a.each;
        front = a.front;
        bytes_are = a.bytes_are;
        are_bytes = a.are_bytes;
        taken_is = a.taken_is;
        remainder_is = a.remainder_is;
        limit_is = a.limit_is;
        within = a.within;
        few = a.few;
        none_failed = a.none_failed;
        resumes = λ more. a.resumes more ∙
            ap (λ (c : ℕ). number w32 (λ n. refuse_if (not (n == c)) BadCheck k)
            (record { before = a.front; rest = more })) same;
        keeps = a.keeps;
      };
      reaches = h.reaches;
    }

chosen_check : (v : ℕ) (k : Unit {0} → Reading) (test : Bool) → nat_le checked_version v ≡ test →
    check_in v k ≡ cond test (check k) (k tt)
unfolding check_in
chosen_check v k test e = ap (λ (b : Bool). cond b (check k) (k tt)) e

-- a file of this version has a checksum here, or none
pub check_due : {S : Type 0} (gives : S → Result (List ℕ) DeviceFault → S → Type 0) (failures : S → ℕ) (m : Task)
    (s t : S) (reader : ReaderState) (v : ℕ) (k : Unit {0} → Reading) → checked_version ≤ v →
    HasJudged gives failures m s t reader (check_in v k) → HasJudged gives failures m s t reader (check k)
check_due gives failures m s t reader v k e h =
    subst (λ (r : Reading). HasJudged gives failures m s t reader r) (chosen_check v k true (le-leb checked_version v e)) h

pub check_none : {S : Type 0} (gives : S → Result (List ℕ) DeviceFault → S → Type 0) (failures : S → ℕ) (m : Task)
    (s t : S) (reader : ReaderState) (v : ℕ) (k : Unit {0} → Reading) → v < checked_version →
    HasJudged gives failures m s t reader (check_in v k) → HasJudged gives failures m s t reader (k tt)
check_none gives failures m s t reader v k n h =
    subst (λ (r : Reading). HasJudged gives failures m s t reader r) (chosen_check v k false (lt-leb checked_version v n)) h
