-- The end of a file: no byte is left, or one that is too many.
use Rattle.std.proofs.Common.{◌≡◌, ℕ, ◌+◌, ◌<◌, ◌≤◌, List, [], ◌∷◌, ◌++◌, length, Result, Ok, Err, refl, sym, ap, subst}
use Rattle.std.proofs.Common.{◌∙◌, length-append, arith}
use Rattle.std.proofs.lemmas.List.{append-nil}
use Rattle.byte_io.specs.Streams.{bytes_of_calls}
use Rattle.byte_io.specs.declared.fault.DeviceFault.{DeviceFault}
use Rattle.byte_io.proofs.StreamLemmas.{calls-append, calls_one, bytes_of_calls-append}
use Rattle.snap_file.specs.Spelling.{IsBytes}
use Rattle.snap_file.specs.Table.{Contents, fault_at, end, reading_of}
use Rattle.snap_file.specs.Outcomes.{snapshot_task, ReaderState, HasRead, HasEnded, HasFailed, Stops, ReadsSnapshot}
use Rattle.snap_file.specs.declared.fault.SnapFault.TheVariants.{Read, TooLong, ExtraBytes}
use Rattle.snap_file.proofs.FileLaws.{first_in_field, first_at_limit, no_fault}
use Rattle.snap_file.proofs.Kept.{kept_of}
use Rattle.snap_file.proofs.Spelled.{file_read}
use Rattle.snap_file.proofs.Steady.{end_more, place_same}

none : (l : List ℕ) → length l < 1 → l ≡ []
none [] h = refl
none (x ∷ l) h = absurd (omega arith)

pub end_here : (c : Contents) (before : List ℕ) → end c (record { before = before; rest = [] }) ≡ Ok c
unfolding end
end_here c before = refl

pub reads_whole : {S : Type 0} (gives : S → Result (List ℕ) DeviceFault → S → Type 0) (failures : S → ℕ)
    (ended : Type 0) (m : ℕ) (s t : S) (reader : ReaderState) (c : Contents) →
    HasEnded gives failures ended (snapshot_task m) s t reader (end c) → length reader.pending < 1 →
    ReadsSnapshot gives failures ended m s t c.origin c.setup c.state
reads_whole gives failures ended m s t reader c x short =
    let a = x.has_read in
    let last : List (Result (List ℕ) DeviceFault) = Ok [] ∷ [] in
    let bytes = bytes_of_calls (a.answers ++ last) in
    let same : bytes ≡ bytes_of_calls a.answers = bytes_of_calls-append a.answers last ∙
    append-nil (bytes_of_calls a.answers) in
    let bytes_are : bytes ≡ a.front ++ [] = same ∙ a.bytes_are ∙
    ap (λ (l : List ℕ). a.front ++ l) (none reader.pending short) in
    let read : reading_of bytes ≡ Ok c = ap reading_of bytes_are ∙ a.resumes [] ∙ end_here c a.front in
    let f = file_read c bytes (subst IsBytes (sym same) a.are_bytes) read in
    let few = a.few in let within = a.within in
    record {
      answers = a.answers ++ last;
      calls = calls-append gives a.answers last s x.before t a.calls (calls_one gives x.before t (Ok []) x.gave);
      few = let e = length-append a.answers last in omega arith;
      at_end = x.at_end;
      none_failed = x.none_failed ∙ a.none_failed;
      snapshot = record {
        fits = let e = ap length bytes_are ∙ length-append a.front [] in
            omega arith;
        named = f.named;
        kept = kept_of c.setup c.state f.kept;
        spelled = f.spelled;
      };
    }

pub fails_at_end : {S : Type 0} (gives : S → Result (List ℕ) DeviceFault → S → Type 0) (failures : S → ℕ)
    (ended : Type 0) (m : ℕ) (s t : S) (c : Contents) →
    HasFailed gives failures (snapshot_task m) s t 1 (end c) → Stops gives failures ended (snapshot_task m) s t Read
fails_at_end gives failures ended m s t c x =
    let a = x.has_read in
    let last : List (Result (List ℕ) DeviceFault) = Err x.fault ∷ [] in
    let bytes = bytes_of_calls (a.answers ++ last) in
    let bytes_are : bytes ≡ a.front ++ [] = bytes_of_calls-append a.answers last ∙
    append-nil (bytes_of_calls a.answers) ∙ a.bytes_are ∙
    ap (λ (l : List ℕ). a.front ++ l) (none x.reader.pending x.short) in
    let read : reading_of bytes ≡ Ok c = ap reading_of bytes_are ∙ a.resumes [] ∙ end_here c a.front in
    let few = a.few in let within = a.within in
    let fits : length bytes ≤ m = let e = ap length bytes_are ∙ length-append a.front [] in omega arith in
    record {
      answers = a.answers ++ last;
      calls = calls-append gives a.answers last s x.before t a.calls (calls_one gives x.before t (Err x.fault) x.gave);
      few = let e = length-append a.answers last in omega arith;
      explains = record {
        failed_now = x.failed ∙ ap (λ (n : ℕ). n + 1) a.none_failed;
        none_but = λ p kind h. absurd (no_fault m bytes c read fits h.turn p kind h.stands);
      };
      unfailed = λ n. absurd (n refl);
    }

extra : (c : Contents) (before rest : List ℕ) → 1 ≤ length rest →
    end c (record { before = before; rest = rest }) ≡ fault_at ExtraBytes (length before + 1)
extra c before [] h = absurd (omega arith)
extra c before (x ∷ rest) h = end_more c before x rest

pub stops_extra : {S : Type 0} (gives : S → Result (List ℕ) DeviceFault → S → Type 0) (failures : S → ℕ)
    (ended : Type 0) (m : ℕ) (s t : S) (reader : ReaderState) (c : Contents) →
    HasRead gives failures (snapshot_task m) s t reader (end c) → 1 ≤ length reader.pending →
    reader.taken < reader.max_bytes →
    Stops gives failures ended (snapshot_task m) s t ExtraBytes
stops_extra gives failures ended m s t reader c a some room =
    let bytes = bytes_of_calls a.answers in
    let shows : reading_of bytes ≡ fault_at ExtraBytes (length a.front + 1) = ap reading_of a.bytes_are ∙
    a.resumes reader.pending ∙ extra c a.front reader.pending some in
    let all = ap length a.bytes_are ∙ length-append a.front reader.pending in
    let l = a.limit_is in let i = a.taken_is in let few = a.few in
    record {
      answers = a.answers;
      calls = a.calls;
      few = omega arith;
      explains = record {
        place = length a.front + 1;
        first = first_in_field (snapshot_task m) bytes
            (record { kind = ExtraBytes; place = length a.front + 1 }) shows (λ long. omega arith);
        at_end = λ h. absurd (omega arith);
      };
      unfailed = λ n. a.none_failed;
    }

pub stops_over : {S : Type 0} (gives : S → Result (List ℕ) DeviceFault → S → Type 0) (failures : S → ℕ) (ended : Type 0)
    (m : ℕ) (s t : S) (reader : ReaderState) (c : Contents) →
    HasRead gives failures (snapshot_task m) s t reader (end c) → 1 ≤ length reader.pending →
    reader.taken ≡ reader.max_bytes →
    Stops gives failures ended (snapshot_task m) s t TooLong
stops_over gives failures ended m s t reader c a some room =
    let bytes = bytes_of_calls a.answers in
    let shows : reading_of bytes ≡ fault_at ExtraBytes (length a.front + 1) = ap reading_of a.bytes_are ∙
    a.resumes reader.pending ∙ extra c a.front reader.pending some in
    let all = ap length a.bytes_are ∙ length-append a.front reader.pending in
    let l = a.limit_is in let i = a.taken_is in let few = a.few in
    let more : m < length bytes = omega arith in
    record {
      answers = a.answers;
      calls = a.calls;
      few = omega arith;
      explains = record {
        place = m + 1;
        first = first_at_limit (snapshot_task m) bytes more
            (λ g e. let p = place_same ExtraBytes g.kind (length a.front + 1) g.place (sym shows ∙ e) in omega arith);
        at_end = λ h. absurd (omega arith);
      };
      unfailed = λ n. a.none_failed;
    }
