-- Bytes are a snapshot of one setup and list, or have one first fault, and no snapshot begins another.
use Rattle.std.proofs.Common.{◌≡◌, ℕ, ◌+◌, ◌<◌, ◌≤◌, ◌⊎◌, List, [], ◌++◌, length, Result, Ok, Err, refl, sym, ap, ◌∙◌}
use Rattle.std.proofs.Common.{arith, inl, inr}
use Rattle.std.proofs.lemmas.List.{append-nil}
use Rattle.std.proofs.lemmas.Bool.{cases_lt}
use Rattle.batch_store.specs.Setups.{Setting}
use Rattle.snap_file.specs.Spelling.{IsBytes, IsSnapshot}
use Rattle.snap_file.specs.Table.{Contents, Fault, fault_at, contents, end, reading_of}
use Rattle.snap_file.specs.Outcomes.{Turn, Task, snapshot_task, FaultIn, FirstFaultIn, FaultAt, FirstFaultAt, moment}
use Rattle.snap_file.specs.Outcomes.Turn.{at_limit, in_field}
use Rattle.batch_store.specs.Accepted.{Accepted}
use Rattle.snap_file.specs.declared.fault.SnapFault.{SnapFault}
use Rattle.snap_file.specs.declared.origin.Origin.{Origin}
use Rattle.snap_file.specs.declared.fault.SnapFault.TheVariants.{TooLong}
use Rattle.snap_file.proofs.Kept.{readable_of, kept_of}
use Rattle.snap_file.proofs.Whole.{file_again}
use Rattle.snap_file.proofs.Spelled.{file_read, ended}

abbrev outcome : Type 0
outcome = Result Contents Fault

pub snapshot_read : (m : ℕ) (bytes : List ℕ) (o : Origin) (s : Setting) (a : Accepted) → IsSnapshot m bytes o s a →
    reading_of bytes ≡ Ok (contents o s a)
unfolding end
snapshot_read m bytes o s a is = ap reading_of (sym (append-nil bytes)) ∙
    file_again bytes o s a [] is.named (readable_of s a is.kept) is.spelled

apart : (v : Contents) (f : Fault) → ◌≡◌ {A = outcome} (Ok v) (Err f) → ⊥
apart v f e = absurd cc

pub no_fault : (m : ℕ) (bytes : List ℕ) (v : Contents) → reading_of bytes ≡ Ok v → length bytes ≤ m →
    (t : Turn) (p : ℕ) (k : SnapFault) → FaultAt t m bytes p k → ⊥
no_fault m bytes v e short at_limit p k f = let h = f.longer in omega arith
no_fault m bytes v e short in_field p k f = apart v (record { kind = k; place = p }) (sym e ∙ f)

pub never_both : (m : ℕ) (bytes : List ℕ) (o : Origin) (s : Setting) (a : Accepted) (p : ℕ) (k : SnapFault) →
    IsSnapshot m bytes o s a → FirstFaultAt m bytes p k → ⊥
never_both m bytes o s a p k is f = no_fault m bytes (contents o s a)
    (snapshot_read m bytes o s a is) is.fits f.turn p k f.stands

pub one_contents : (m : ℕ) (bytes : List ℕ) (o q : Origin) (s t : Setting) (a b : Accepted) →
    IsSnapshot m bytes o s a → IsSnapshot m bytes q t b → (o ≡ q) × (s ≡ t) × (a ≡ b)
one_contents m bytes o q s t a b x y =
    let both : ◌≡◌ {A = outcome} (Ok (contents o s a)) (Ok (contents q t b)) =
    sym (snapshot_read m bytes o s a x) ∙ snapshot_read m bytes q t b y in
    let same : contents o s a ≡ contents q t b = cc in (
      ap (λ (c : Contents). c.origin) same,
      ap (λ (c : Contents). c.setup) same,
      ap (λ (c : Contents). c.state) same,
    )

pub no_prefix : (m n : ℕ) (bytes more : List ℕ) (o q : Origin) (s t : Setting) (a b : Accepted) →
    IsSnapshot m bytes o s a → IsSnapshot n (bytes ++ more) q t b → more ≡ []
no_prefix m n bytes more o q s t a b x y =
    (ended (contents o s a) (contents q t b) bytes more
    (sym (file_again bytes o s a more x.named (readable_of s a x.kept) x.spelled) ∙
    snapshot_read n (bytes ++ more) q t b y)).0

-- ---- every list of bytes

abbrev pub IsSomeSnapshot : ℕ → List ℕ → Type 0
IsSomeSnapshot m bytes = (o : Origin) × (s : Setting) × (a : Accepted) × IsSnapshot m bytes o s a

abbrev pub HasFirstFault : ℕ → List ℕ → Type 0
HasFirstFault m bytes = (place : ℕ) × (kind : SnapFault) × FirstFaultAt m bytes place kind

-- the place of a fault in a field
same_fault : (reads : List ℕ → outcome) (bytes : List ℕ) (f : Fault) (p : ℕ) (k : SnapFault) → reads bytes ≡ Err f →
    reads bytes ≡ fault_at k p → p ≡ f.place
same_fault reads bytes f p k e h =
    let both : ◌≡◌ {A = outcome} (Err f) (Err (record { kind = k; place = p })) = sym e ∙ h in
    let same : ◌≡◌ {A = Fault} f (record { kind = k; place = p }) = cc in
    sym (ap (λ (x : Fault). x.place) same)

pub first_in_field : (m : Task) (bytes : List ℕ) (f : Fault) → m.reads bytes ≡ Err f →
    (m.max_bytes < length bytes → f.place ≤ m.max_bytes) → FirstFaultIn m bytes f.place f.kind
first_in_field m bytes f e within = record {
  turn = in_field;
  stands = e;
  least = least;
}
  where
    least : (t : Turn) (p : ℕ) (k : SnapFault) → FaultIn t m bytes p k → moment f.place in_field ≤ moment p t
    least at_limit p k h = let j = within h.longer in let i = h.place_is in omega arith
    least in_field p k h = let j = same_fault m.reads bytes f p k e h in omega arith

pub first_at_limit : (m : Task) (bytes : List ℕ) → m.max_bytes < length bytes →
    ((f : Fault) → m.reads bytes ≡ Err f → m.max_bytes < f.place) → FirstFaultIn m bytes (m.max_bytes + 1) TooLong
first_at_limit m bytes long later = record {
  turn = at_limit;
  stands = record { longer = long; place_is = refl; kind_is = refl };
  least = least;
}
  where
    least : (t : Turn) (p : ℕ) (k : SnapFault) → FaultIn t m bytes p k → moment (m.max_bytes + 1) at_limit ≤ moment p t
    least at_limit p k h = let i = h.place_is in omega arith
    least in_field p k h = let i : m.max_bytes < p = later (record { kind = k; place = p }) h in omega arith

told : (m : ℕ) (bytes : List ℕ) (r : outcome) → IsBytes bytes → reading_of bytes ≡ r →
    IsSomeSnapshot m bytes ⊎ HasFirstFault m bytes
told m bytes (Ok v) fits e = elim (cases_lt m (length bytes)) [
  | inl long ↦ inr (m + 1, TooLong, first_at_limit (snapshot_task m) bytes long (λ f h. absurd (apart v f (sym e ∙ h))))
  | inr short ↦ let r = file_read v bytes fits e in inl (
    v.origin,
    v.setup,
    v.state,
    record { fits = short; named = r.named; kept = kept_of v.setup v.state r.kept; spelled = r.spelled },
  )
]
told m bytes (Err f) fits e = elim (cases_lt m (length bytes)) [
  | inl long ↦ elim (cases_lt m f.place) [
    | inl later ↦ inr (
      m + 1,
      TooLong,
      first_at_limit (snapshot_task m) bytes long
          (λ g h. let i = same_fault reading_of bytes f g.place g.kind e h in omega arith),
    )
    | inr within ↦ inr (f.place, f.kind, first_in_field (snapshot_task m) bytes f e (λ _. within))
  ]
  | inr short ↦ inr (f.place, f.kind, first_in_field (snapshot_task m) bytes f e (λ long. absurd (omega arith)))
]

pub every : (m : ℕ) (bytes : List ℕ) → IsBytes bytes → IsSomeSnapshot m bytes ⊎ HasFirstFault m bytes
every m bytes fits = told m bytes (reading_of bytes) fits refl
