-- How the reading of a log ends.
use Rattle.std.specs.Prelude.{◌≡◌, ◌⊎◌, ℕ, ◌*◌, ◌/◌, ◌<◌, ◌≤◌, List, ◌++◌, length, take}
use Rattle.byte_io.specs.Streams.{Answer}
use Rattle.log_blocks.specs.Files.{pages_of, page_count}
use Rattle.log_blocks.specs.declared.fault.LogFault.{LogFault}
use Rattle.log_blocks.specs.declared.fault.LogKind.TheVariants.{Memory, TooLong, Truncated}
use Rattle.log_head.specs.Heads.{HasHead, RefusesPage}
use Rattle.log_head.specs.declared.head.LogHead.{LogHead}
use Rattle.log_read.specs.Given.{HasEnded, HasFailed, IsAt}
use Rattle.log_read.specs.Logs.{HoldsLog, HasFaultBehind, pages_behind}
use Rattle.log_read.specs.Scans.{HasCome}
use Rattle.log_read.specs.declared.file.LogFile.{LogFile}
use Rattle.log_read.specs.declared.scan.LogScan.{LogScan}
use Rattle.log_read.specs.declared.source.PageSource.{PageSource}
use Rattle.log_read.specs.declared.stop.Stop.{Stop}
use Rattle.log_read.specs.declared.stop.Stop.TheVariants.{Told, Judged}

-- the bytes have no head page
pub record IsTruncated (bytes : List ℕ) (fault : LogFault) : Type 0 where
  pub short : length bytes < 4096
  pub kind_is : fault.kind ≡ Truncated
  pub page_is : fault.page ≡ 0

-- the first page is no head
pub record HasNoHead (bytes : List ℕ) (fault : LogFault) : Type 0 where
  pub long : 4096 ≤ length bytes
  pub refuses : RefusesPage (take 4096 bytes) fault.kind
  pub page_is : fault.page ≡ 0

-- the pages behind the head are no blocks with batches
pub record HasNoBlocks (bytes : List ℕ) (fault : LogFault) : Type 0 where
  pub long : 4096 ≤ length bytes
  pub head : LogHead
  pub has_head : HasHead (take 4096 bytes) head
  pub behind : HasFaultBehind head.setup head.first (pages_behind bytes) fault

-- what is wrong with bytes that aren't a log
abbrev pub HasLogFault : List ℕ → LogFault → Type 0
HasLogFault bytes fault = IsTruncated bytes fault ⊎ (HasNoHead bytes fault ⊎ HasNoBlocks bytes fault)

-- The source gave these bytes and ended, and the bytes are this log.
pub record ReadsLog {S : Type 0} (gives : S → Answer → S → Type 0) (failures : S → ℕ) (ended : Type 0)
    (max_bytes : ℕ) (s t : S) (file : LogFile) : Type 0 where
  pub bytes : List ℕ
  pub end : HasEnded gives failures ended max_bytes s t bytes
  pub holds : HoldsLog bytes file

-- A read failed, or byte number max_bytes + 1 came; then the fault has its page.
pub record IsOfSource {S : Type 0} (gives : S → Answer → S → Type 0) (failures : S → ℕ) (max_bytes : ℕ) (s t : S)
    (fault : LogFault) : Type 0 where
  pub failed : HasFailed gives failures max_bytes s t fault.kind
  pub page_is : fault.kind ≡ TooLong → fault.page ≡ max_bytes / 4096

-- The source gave these bytes and ended, and this is wrong with all of them.
pub record ReadsFault {S : Type 0} (gives : S → Answer → S → Type 0) (failures : S → ℕ) (ended : Type 0)
    (max_bytes : ℕ) (s t : S) (fault : LogFault) : Type 0 where
  pub bytes : List ℕ
  pub end : HasEnded gives failures ended max_bytes s t bytes
  pub wrong : HasLogFault bytes fault

-- memory was refused; or a read failed, or too many bytes came; or something is wrong with the bytes
abbrev pub Explains : {S : Type 0} → (S → Answer → S → Type 0) → (S → ℕ) → Type 0 → ℕ → S → S → LogFault → Type 0
Explains gives failures ended max_bytes s t fault =
    (fault.kind ≡ Memory) ⊎ (IsOfSource gives failures max_bytes s t fault
    ⊎ ReadsFault gives failures ended max_bytes s t fault)

-- This is wrong with what came, whatever may follow.
pub record IsJudged {S : Type 0} (gives : S → Answer → S → Type 0) (failures : S → ℕ) (s t : S) (source : PageSource)
    (fault : LogFault) : Type 0 where
  pub done : List ℕ
  pub at : IsAt gives failures s t source done
  pub wrong : (more : List ℕ) → HasLogFault ((done ++ source.buffer) ++ more) fault

-- why the reading stopped
abbrev pub HasStopped : {S : Type 0} → (S → Answer → S → Type 0) → (S → ℕ) → Type 0 → ℕ → S → S → PageSource → Stop
    → Type 0
HasStopped gives failures ended max_bytes s t source (Told fault) = Explains gives failures ended max_bytes s t fault
HasStopped gives failures ended max_bytes s t source (Judged fault) = IsJudged gives failures s t source fault

-- what is so where more bytes may come
abbrev pub OnJudged : Stop → Type 0 → Type 0
OnJudged (Told fault) so = Unit {0}
OnJudged (Judged fault) so = so

-- The head was read.
pub record HasReadHead {S : Type 0} (gives : S → Answer → S → Type 0) (failures : S → ℕ) (s t : S)
    (source : PageSource) (h : LogHead) : Type 0 where
  pub page : List ℕ
  pub long : length page ≡ 4096
  pub head : HasHead page h
  pub at : IsAt gives failures s t source page

-- The head was read, and so many whole pages behind it.
pub record IsReading {S : Type 0} (gives : S → Answer → S → Type 0) (failures : S → ℕ) (s t : S) (source : PageSource)
    (h : LogHead) (log : LogScan) : Type 0 where
  pub page : List ℕ
  pub long : length page ≡ 4096
  pub head : HasHead page h
  pub setup : log.reader ≡ h.setup
  pub behind : List ℕ
  pub count : ℕ
  pub behind_long : length behind ≡ 4096 * count
  pub come : HasCome h.first log (pages_of 0 count behind)
  pub at : IsAt gives failures s t source (page ++ behind)

-- The head was read, and all pages behind it.
pub record HasReadAll {S : Type 0} (gives : S → Answer → S → Type 0) (failures : S → ℕ) (ended : Type 0)
    (max_bytes : ℕ) (s t : S) (h : LogHead) (log : LogScan) : Type 0 where
  pub page : List ℕ
  pub long : length page ≡ 4096
  pub head : HasHead page h
  pub setup : log.reader ≡ h.setup
  pub behind : List ℕ
  pub come : HasCome h.first log (pages_of 0 (page_count behind) behind)
  pub end : HasEnded gives failures ended max_bytes s t (page ++ behind)
