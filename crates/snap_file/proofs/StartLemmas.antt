-- A reading that begins.
use Rattle.std.proofs.Common.{◌≡◌, ℕ, List, [], ◌++◌, Result, refl, sym, arith, inl}
use Rattle.crc32c.specs.Remainders.{all_ones}
use Rattle.byte_io.specs.declared.fault.DeviceFault.{DeviceFault}
use Rattle.snap_file.specs.Table.{Reading, whole, reading_of}
use Rattle.snap_file.specs.Outcomes.{Task, snapshot_task, KeepsFaults, ReaderState, HasJudged, Stops}
use Rattle.snap_file.proofs.Steady.{steady}
use Rattle.snap_file.specs.declared.fault.SnapFault.TheVariants.{Memory}

starts : (more : List ℕ) → reading_of ([] ++ more) ≡ whole (record { before = []; rest = more })
unfolding reading_of
starts more = refl

-- nothing was read yet
pub begun : {S : Type 0} (gives : S → Result (List ℕ) DeviceFault → S → Type 0) (failures : S → ℕ) (task : Task) (s : S)
    (reader : ReaderState) (first : Reading) → KeepsFaults task.reads →
    ((more : List ℕ) → task.reads more ≡ first (record { before = []; rest = more })) →
    reader.pending ≡ [] → reader.taken ≡ 0 → reader.remainder ≡ all_ones → reader.max_bytes ≡ task.max_bytes →
    HasJudged gives failures task s s reader first
begun gives failures task s reader first keeps is pending taken remainder limit = record {
  has_read = record {
    answers = [];
    calls = refl;
    each = tt;
    front = [];
    bytes_are = sym pending;
    are_bytes = λ i. omega arith;
    taken_is = taken;
    remainder_is = remainder;
    limit_is = limit;
    within = omega arith;
    few = omega arith;
    none_failed = refl;
    resumes = is;
    keeps = keeps;
  };
  reaches = inl refl;
}

pub read_begun : {S : Type 0} (gives : S → Result (List ℕ) DeviceFault → S → Type 0) (failures : S → ℕ) (m : ℕ) (s : S)
    (reader : ReaderState) →
    reader.pending ≡ [] → reader.taken ≡ 0 → reader.remainder ≡ all_ones → reader.max_bytes ≡ m →
    HasJudged gives failures (snapshot_task m) s s reader whole
read_begun gives failures m s reader pending taken remainder limit =
    begun gives failures (snapshot_task m) s reader whole steady starts pending taken remainder limit

-- memory was refused before the first read
pub stops_first : {S : Type 0} (gives : S → Result (List ℕ) DeviceFault → S → Type 0) (failures : S → ℕ)
    (ended : Type 0) (m : Task) (s : S) → Stops gives failures ended m s s Memory
stops_first gives failures ended m s = record {
  answers = [];
  calls = refl;
  few = omega arith;
  explains = inl refl;
  unfailed = λ n. refl;
}
