use Rattle.std.proofs.Common.{◌≡◌, ℕ, Result, List, ◌∙◌, sym, subst, arith}
use Rattle.std.proofs.lemmas.Result.{err_from_is_err_and}
use Rattle.std.specs.Int.{w64}
use Rattle.byte_io.specs.declared.fault.DeviceFault.{DeviceFault}
use Rattle.batch_store.specs.Setups.{Setting}
use Rattle.snap_file.specs.Table.{Reading, field_in, setup_fields, head}
use Rattle.snap_file.specs.Outcomes.{Task, ReaderState, HasJudged, IsOfBytes}
use Rattle.snap_file.specs.declared.head.Head.{Head}
use Rattle.snap_file.specs.declared.fault.SnapFault.TheVariants.{BadMark, BadVersion, BadHead}
use Rattle.snap_file.proofs.head.read_head.Goals as goal

mark_judged : IsOfBytes BadMark
mark_judged = (λ e. absurd cc, λ e. absurd cc)

version_judged : IsOfBytes BadVersion
version_judged = (λ e. absurd cc, λ e. absurd cc)

head_judged : IsOfBytes BadHead
head_judged = (λ e. absurd cc, λ e. absurd cc)

-- what follows the number of batches
abbrev total_field : (Head → Reading) → ℕ → Setting → ℕ → Reading
total_field k version setup batches = field_in w64 0 setup.limit BadHead (λ total.
    k (record { setup = setup; version = version; batches = batches; total = total }))

-- what follows the setup
abbrev batch_fields : (Head → Reading) → ℕ → Setting → Reading
batch_fields k version setup = field_in w64 0 setup.max_batches BadHead (total_field k version setup)

-- what follows the version
abbrev setup_part : (Head → Reading) → ℕ → ℕ → Reading
setup_part k version most = setup_fields most (batch_fields k version)

-- the most batches, which the code has from a call
allowed_as : {S : Type 0} (gives : S → Result (List ℕ) DeviceFault → S → Type 0) (failures : S → ℕ) (m : Task) (s t : S)
    (reader : ReaderState) (version n n' : ℕ) (k : Head → Reading) → n' ≡ n →
    HasJudged gives failures m s t reader (setup_part k version n) →
    HasJudged gives failures m s t reader (setup_part k version n')
allowed_as gives failures m s t reader version n n' k e h =
    subst (λ (x : ℕ). HasJudged gives failures m s t reader (setup_part k version x)) (sym e) h

-- a number that the code has from a call
most_as : {S : Type 0} (gives : S → Result (List ℕ) DeviceFault → S → Type 0) (failures : S → ℕ) (m : Task) (s t : S)
    (reader : ReaderState) (n n' : ℕ) (k : ℕ → Reading) → n' ≡ n →
    HasJudged gives failures m s t reader (field_in w64 0 n BadHead k) →
    HasJudged gives failures m s t reader (field_in w64 0 n' BadHead k)
most_as gives failures m s t reader n n' k e h =
    subst (λ (x : ℕ). HasJudged gives failures m s t reader (field_in w64 0 x BadHead k)) (sym e) h

pub next_u64_in-requires-clause-judged : goal.next_u64_in-requires-clause-judged
next_u64_in-requires-clause-judged g c = mark_judged

pub next_u32_in-requires-clause-judged : goal.next_u32_in-requires-clause-judged
next_u32_in-requires-clause-judged g c = version_judged

pub next_u64_in-requires-2-clause-judged : goal.next_u64_in-requires-2-clause-judged
next_u64_in-requires-2-clause-judged g c = head_judged

pub next_u64_in-requires-3-clause-judged : goal.next_u64_in-requires-3-clause-judged
next_u64_in-requires-3-clause-judged g c = head_judged

-- no call has failed before the next one
pub next_u32_in-requires-clause-failures : goal.next_u32_in-requires-clause-failures
next_u32_in-requires-clause-failures g c = omega (arith, c.requires.failures, c.in_ok-_mark.ensures.no_failure)

pub read_setup-requires : goal.read_setup-requires
read_setup-requires g c = record {
  failures = omega (
    arith,
    c.requires.failures,
    c.in_ok-_mark.ensures.no_failure,
    c.in_ok-version.ensures.no_failure,
  );
  most = c.most_batches-most.ensures.fits;
}

pub next_u64_in-requires-2-clause-failures : goal.next_u64_in-requires-2-clause-failures
next_u64_in-requires-2-clause-failures g c =
    omega (
      arith,
      c.requires.failures,
      c.in_ok-_mark.ensures.no_failure,
      c.in_ok-version.ensures.no_failure,
      c.in_ok-setup.ensures.no_failure,
    )

pub next_u64_in-requires-3-clause-failures : goal.next_u64_in-requires-3-clause-failures
next_u64_in-requires-3-clause-failures g c =
    omega (
      arith,
      c.requires.failures,
      c.in_ok-_mark.ensures.no_failure,
      c.in_ok-version.ensures.no_failure,
      c.in_ok-setup.ensures.no_failure,
      c.in_ok-batches.ensures.no_failure,
    )

pub returns-in_err-_mark-clause-err : goal.returns-in_err-_mark-clause-err
unfolding head
returns-in_err-_mark-clause-err g c =
    let p = err_from_is_err_and c.from_residual.result c.from_residual.ensures.1 in
    rw (p.1, p.2) (λ s m k h. c.in_err-_mark.ensures.err s m _ h)

pub returns-in_err-version-clause-err : goal.returns-in_err-version-clause-err
unfolding head
returns-in_err-version-clause-err g c =
    let p = err_from_is_err_and c.from_residual-in_err-version.result c.from_residual-in_err-version.ensures.1 in
    rw (p.1, p.2) (λ s m k h. c.in_err-version.ensures.err s m _ (c.in_ok-_mark.ensures.ok s m _ h))

pub returns-in_err-setup-clause-err : goal.returns-in_err-setup-clause-err
unfolding head
returns-in_err-setup-clause-err g c =
    let p = err_from_is_err_and c.from_residual-in_err-setup.result c.from_residual-in_err-setup.ensures.1 in
    rw (p.1, p.2) (λ s m k h.
    c.in_err-setup.ensures.err s m (batch_fields k c.in_ok-version.version)
    (allowed_as {S = g.row.R.Denot} g.R.Source.read_gives g.R.Source.failure_count m s c.next_u32_in.new.r
    c.next_u32_in.new.self c.in_ok-version.version _ _ k c.most_batches-most.ensures.value
    (c.in_ok-version.ensures.ok s m _ (c.in_ok-_mark.ensures.ok s m _ h))))

pub returns-in_err-batches-clause-err : goal.returns-in_err-batches-clause-err
unfolding head
returns-in_err-batches-clause-err g c =
    let p = err_from_is_err_and c.from_residual-in_err-batches.result c.from_residual-in_err-batches.ensures.1 in
    rw (p.1, p.2) (λ s m k h.
    c.in_err-batches.ensures.err s m (total_field k c.in_ok-version.version c.in_ok-setup.setup)
    (most_as {S = g.row.R.Denot} g.R.Source.read_gives g.R.Source.failure_count m s c.read_setup.new.r
    c.read_setup.new.reader _ _ _ c.max_batches.ensures.value
    (c.in_ok-setup.ensures.ok s m (batch_fields k c.in_ok-version.version)
    (allowed_as {S = g.row.R.Denot} g.R.Source.read_gives g.R.Source.failure_count m s c.next_u32_in.new.r
    c.next_u32_in.new.self c.in_ok-version.version _ _ k c.most_batches-most.ensures.value
    (c.in_ok-version.ensures.ok s m _ (c.in_ok-_mark.ensures.ok s m _ h))))))

pub returns-in_err-total-clause-err : goal.returns-in_err-total-clause-err
unfolding head
returns-in_err-total-clause-err g c =
    let p = err_from_is_err_and c.from_residual-in_err-total.result c.from_residual-in_err-total.ensures.1 in
    rw (p.1, p.2) (λ s m k h.
    c.in_err-total.ensures.err s m _
    (most_as {S = g.row.R.Denot} g.R.Source.read_gives g.R.Source.failure_count m s c.next_u64_in-2.new.r
    c.next_u64_in-2.new.self _ _ _ c.limit.ensures.value
    (c.in_ok-batches.ensures.ok s m (total_field k c.in_ok-version.version c.in_ok-setup.setup)
    (most_as {S = g.row.R.Denot} g.R.Source.read_gives g.R.Source.failure_count m s c.read_setup.new.r
    c.read_setup.new.reader _ _ _ c.max_batches.ensures.value
    (c.in_ok-setup.ensures.ok s m (batch_fields k c.in_ok-version.version)
    (allowed_as {S = g.row.R.Denot} g.R.Source.read_gives g.R.Source.failure_count m s c.next_u32_in.new.r
    c.next_u32_in.new.self c.in_ok-version.version _ _ k c.most_batches-most.ensures.value
    (c.in_ok-version.ensures.ok s m _ (c.in_ok-_mark.ensures.ok s m _ h))))))))

pub returns-clause-ok : goal.returns-clause-ok
unfolding head
returns-clause-ok g c = λ s m k h.
    c.in_ok-total.ensures.ok s m _
    (most_as {S = g.row.R.Denot} g.R.Source.read_gives g.R.Source.failure_count m s c.next_u64_in-2.new.r
    c.next_u64_in-2.new.self _ _ _ c.limit.ensures.value
    (c.in_ok-batches.ensures.ok s m (total_field k c.in_ok-version.version c.in_ok-setup.setup)
    (most_as {S = g.row.R.Denot} g.R.Source.read_gives g.R.Source.failure_count m s c.read_setup.new.r
    c.read_setup.new.reader _ _ _ c.max_batches.ensures.value
    (c.in_ok-setup.ensures.ok s m (batch_fields k c.in_ok-version.version)
    (allowed_as {S = g.row.R.Denot} g.R.Source.read_gives g.R.Source.failure_count m s c.next_u32_in.new.r
    c.next_u32_in.new.self c.in_ok-version.version _ _ k c.most_batches-most.ensures.value
    (c.in_ok-version.ensures.ok s m _ (c.in_ok-_mark.ensures.ok s m _ h)))))))

pub returns-clause-few : goal.returns-clause-few
returns-clause-few g c = omega (arith, c.in_ok-batches.ensures.bounds.1, c.max_batches.ensures.value)

pub returns-clause-no_failure : goal.returns-clause-no_failure
returns-clause-no_failure g c =
    c.in_ok-total.ensures.no_failure ∙ c.in_ok-batches.ensures.no_failure ∙ c.in_ok-setup.ensures.no_failure
    ∙ c.in_ok-version.ensures.no_failure ∙ c.in_ok-_mark.ensures.no_failure
