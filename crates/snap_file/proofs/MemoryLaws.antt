-- What want of memory says of the bytes that were read, and worked rows of it.
use Rattle.std.proofs.Common.{◌≡◌, ℕ, ◌+◌, ◌<◌, ◌≤◌, List, [], ◌∷◌, ◌++◌, length, Ok, refl, sym, ap, subst, ◌∙◌}
use Rattle.std.proofs.Common.{length-append, arith}
use Rattle.std.specs.Prelude.{◌≢◌}
use Rattle.std.proofs.lemmas.List.{append-nil}
use Rattle.byte_io.specs.Streams.{Answer, bytes_of_calls}
use Rattle.byte_io.proofs.StreamLemmas.{bytes_of_calls-append}
use Rattle.snap_file.specs.Table.{fault_at, reading_of, head, number, refuse_if}
use Rattle.snap_file.specs.Outcomes.{snapshot_task, FirstFaultAt, ShowsBehind, IsMemoryFault, piece_bytes}
use Rattle.snap_file.specs.declared.fault.SnapFault.{SnapFault}
use Rattle.snap_file.specs.declared.fault.SnapFault.TheVariants.{BadMark, BadVersion, BadHead}
use Rattle.snap_file.proofs.FileLaws.{first_in_field}

-- the first fault of what was read, beside the place where memory was refused
beside : (m : ℕ) (answers : List Answer) (h : IsMemoryFault (snapshot_task m) answers) (shown : ℕ) (kind : SnapFault) →
    FirstFaultAt m (bytes_of_calls answers) shown kind → ShowsBehind h.place shown kind
beside m answers h shown kind f = h.none_before [] shown kind
    (subst (λ (l : List ℕ). FirstFaultAt m l shown kind) (sym (append-nil (bytes_of_calls answers))) f)

-- all but the bytes of the last call stand before this place
reached : (m : ℕ) (answers : List Answer) (h : IsMemoryFault (snapshot_task m) answers) →
    length (bytes_of_calls answers) < h.place + piece_bytes
reached m answers h =
    let r = h.reaches in
    let most = r.most in
    let behind = r.behind in
    let all = ap (λ (l : List Answer). length (bytes_of_calls l)) r.answers_are ∙
    ap length (bytes_of_calls-append r.before (Ok r.last ∷ [])) ∙
    length-append (bytes_of_calls r.before) (r.last ++ []) in
    let last = ap length (append-nil r.last) in
    omega arith

pub late_fault : (m : ℕ) (answers : List Answer) (shown : ℕ) (kind : SnapFault) →
    IsMemoryFault (snapshot_task m) answers →
    FirstFaultAt m (bytes_of_calls answers) shown kind →
    (length (bytes_of_calls answers) < shown + 65536) × (kind ≢ BadMark) × (kind ≢ BadVersion) × (kind ≢ BadHead)
late_fault m answers shown kind h f =
    let s = beside m answers h shown kind f in
    let all = reached m answers h in
    let from = s.not_before in
    (omega arith, s.no_mark, s.no_version, s.no_head)

-- ---- rows

-- eight bytes of another mark, in whichever calls they came
other_mark : List ℕ
other_mark = 104 ∷ 104 ∷ 109 ∷ 115 ∷ 110 ∷ 97 ∷ 112 ∷ 10 ∷ []

mark_read : reading_of other_mark ≡ fault_at BadMark 8
unfolding reading_of head number refuse_if other_mark
mark_read = refl

bad_mark_told : (m : ℕ) → 8 ≤ m → (answers : List Answer) → bytes_of_calls answers ≡ other_mark →
    IsMemoryFault (snapshot_task m) answers → ⊥
bad_mark_told m room answers is h =
    let f = first_in_field (snapshot_task m) other_mark (record { kind = BadMark; place = 8 }) mark_read (λ _. room) in
    (beside m answers h 8 BadMark (subst (λ (l : List ℕ). FirstFaultAt m l 8 BadMark) (sym is) f)).no_mark refl

-- a call that gave nothing: the end was seen
end_seen : (m : ℕ) (answers : List Answer) → IsMemoryFault (snapshot_task m) (Ok [] ∷ answers) → ⊥
end_seen m answers h = let e = h.each in let some : 0 < 0 = e.0 in absurd (omega arith)
