-- A version: what was shown of the accepted batches, an entry of each, in order. It reads no cells.
--     IsVersion v es      the setup is a legal one, no client and number stands twice, and both limits hold
--     version_status es   how many entries there are, and the sum of their totals
--     entry_verdict v es e
--                         what the version says of a batch of this entry, under the setup's limits
use Rattle.std.specs.Prelude.{◌≤◌, List, length}
use Rattle.std.specs.List.{IsDistinct}
use Rattle.batch_store.specs.declared.verdict.Entry.{Entry}
use Rattle.batch_store.specs.declared.verdict.Verdict.{Verdict}
use Rattle.batch_store.specs.Setups.{Setting, IsSetting}
use Rattle.batch_store.specs.Verdicts.{same_pair, total_of_entries, verdict_of}
use Rattle.plain_engine.specs.declared.status.Status.{Status}

pub record IsVersion (setup : Setting) (es : List Entry) : Type 0 where
  pub sound : IsSetting setup
  pub distinct : IsDistinct same_pair es
  pub few : length es ≤ setup.max_batches
  pub within : total_of_entries es ≤ setup.limit

abbrev pub version_status : List Entry → Status
version_status es = record { batches = length es; total = total_of_entries es }

abbrev pub entry_verdict : Setting → List Entry → Entry → Verdict
entry_verdict v es e = verdict_of v.limit v.max_batches es e
