-- A fault that shows within the bytes stays the first, however they go on.
use Rattle.std.proofs.Common.{◌≡◌, ℕ, ◌+◌, ◌<◌, ◌≤◌, ◌⊎◌, List, ◌++◌, length, Err, refl, sym, ap, subst, ◌∙◌}
use Rattle.std.proofs.Common.{append_assoc, length-append, arith, inl, inr}
use Rattle.std.proofs.lemmas.Bool.{cases_lt}
use Rattle.snap_file.specs.Table.{Fault, fault_at, reading_of}
use Rattle.snap_file.specs.Outcomes.{Turn, snapshot_task, FaultAt, FirstFaultAt, moment}
use Rattle.snap_file.specs.Outcomes.Turn.{at_limit, in_field}
use Rattle.snap_file.specs.declared.fault.SnapFault.{SnapFault}
use Rattle.snap_file.specs.declared.fault.SnapFault.TheVariants.{TooLong}
use Rattle.snap_file.proofs.FileLaws.{first_in_field, first_at_limit}
use Rattle.snap_file.proofs.Steady.{steady}
use Rattle.snap_file.proofs.StopLemmas.{split}

-- of bytes that go on, a fault that shows within the first of them is theirs
within_first : (bytes more : List ℕ) (kind : SnapFault) (p : ℕ) → reading_of (bytes ++ more) ≡ fault_at kind p →
    p < length bytes → reading_of bytes ≡ fault_at kind p
within_first bytes more kind p e short =
    let s = steady (bytes ++ more) kind p e (let l = length-append bytes more in omega arith) in
    let len : length s.0 ≡ p = s.3 in
    let c = split bytes more s.0 s.1 s.2 in
    elim c.1 [
      | inl h ↦ ap reading_of h ∙ s.4 c.0
      | inr h ↦ absurd (let l = ap length h ∙ length-append bytes c.0 in omega arith)
    ]

stays_in : (turn : Turn) (m : ℕ) (bytes more : List ℕ) (p : ℕ) (kind : SnapFault) → FaultAt turn m bytes p kind →
    ((t : Turn) (q : ℕ) (k : SnapFault) → FaultAt t m bytes q k → moment p turn ≤ moment q t) → p ≤ length bytes →
    (q : ℕ) × (k : SnapFault) × FirstFaultAt m (bytes ++ more) q k × (p ≡ q) × (kind ≡ k)
stays_in at_limit m bytes more p kind h least within =
    let long = h.longer in (
      m + 1,
      TooLong,
      first_at_limit (snapshot_task m) (bytes ++ more) (let l = length-append bytes more in omega arith)
          (λ f e. later f e (cases_lt m f.place)),
      h.place_is,
      h.kind_is,
    )
  where
    later : (f : Fault) → reading_of (bytes ++ more) ≡ Err f → (m < f.place) ⊎ (f.place ≤ m) → m < f.place
    later f e (inl lt) = lt
    later f e (inr le) =
        let long = h.longer in let place = h.place_is in
        absurd (let i = least in_field f.place f.kind (within_first bytes more f.kind f.place e (omega arith)) in
        omega arith)
stays_in in_field m bytes more p kind h least within =
    let s = steady bytes kind p h within in
    let shows : reading_of (bytes ++ more) ≡ fault_at kind p = ap reading_of
    (ap (λ (l : List ℕ). l ++ more) s.2 ∙ append_assoc s.0 s.1 more) ∙ s.4 (s.1 ++ more) in (
      p,
      kind,
      first_in_field (snapshot_task m) (bytes ++ more) (record { kind = kind; place = p }) shows
          (λ _. before (cases_lt m (length bytes))),
      refl,
      refl,
    )
  where
    before : (m < length bytes) ⊎ (length bytes ≤ m) → p ≤ m
    before (inl long) = let i = least at_limit (m + 1) TooLong
        (record { longer = long; place_is = refl; kind_is = refl }) in omega arith
    before (inr short) = omega arith

pub stays : (m : ℕ) (bytes more : List ℕ) (p : ℕ) (kind : SnapFault) → FirstFaultAt m bytes p kind → p ≤ length bytes →
    FirstFaultAt m (bytes ++ more) p kind
stays m bytes more p kind f within =
    let r = stays_in f.turn m bytes more p kind f.stands f.least within in
    subst (λ (q : ℕ). FirstFaultAt m (bytes ++ more) q kind) (sym r.3)
    (subst (λ (k : SnapFault). FirstFaultAt m (bytes ++ more) r.0 k) (sym r.4) r.2)
