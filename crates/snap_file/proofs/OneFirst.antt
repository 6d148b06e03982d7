-- Bytes have one first fault at most.
use Rattle.std.proofs.Common.{◌≡◌, ℕ, List, sym, ◌∙◌, ap, arith}
use Rattle.snap_file.specs.Table.{Fault, fault_at}
use Rattle.snap_file.specs.Outcomes.{Turn, FaultAt, FirstFaultAt, moment}
use Rattle.snap_file.specs.Outcomes.Turn.{at_limit, in_field}
use Rattle.snap_file.specs.declared.fault.SnapFault.{SnapFault}

same_turn : (m : ℕ) (bytes : List ℕ) (t u : Turn) (p q : ℕ) (j k : SnapFault) → moment p t ≡ moment q u →
    FaultAt t m bytes p j → FaultAt u m bytes q k → (p ≡ q) × (j ≡ k)
same_turn m bytes at_limit at_limit p q j k e v w = (omega arith, v.kind_is ∙ sym w.kind_is)
same_turn m bytes in_field in_field p q j k e v w =
    let same : fault_at j p ≡ fault_at k q = sym v ∙ w in
    let fault : ◌≡◌ {A = Fault} (record { kind = j; place = p }) (record { kind = k; place = q }) = cc in
    (ap (λ (f : Fault). f.place) fault, ap (λ (f : Fault). f.kind) fault)
same_turn m bytes at_limit in_field p q j k e v w = absurd (omega arith)
same_turn m bytes in_field at_limit p q j k e v w = absurd (omega arith)

pub one_first : (m : ℕ) (bytes : List ℕ) (p q : ℕ) (j k : SnapFault) → FirstFaultAt m bytes p j →
    FirstFaultAt m bytes q k → (p ≡ q) × (j ≡ k)
one_first m bytes p q j k v w =
    let a = v.least w.turn q k w.stands in
    let b = w.least v.turn p j v.stands in
    same_turn m bytes v.turn w.turn p q j k (omega arith) v.stands w.stands
