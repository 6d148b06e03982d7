-- The settings of a server that the words of `serve` spell, of which clap found these entries.
--     IsNamed arg name
--                     clap finds the words of this argument under this name, and the command line has it as --NAME
--     IsNumber f name n
--                     the option has a word, which writes n
--     IsNumberOr f name default n
--                     the word of the option writes n; where there is none, n is the default
--     IsLimit f name limit
--                     the word of the option writes a limit, where 0 is none; without a word there is none either
--     IsFlag f name b the flag is there or not
--     path_in f name  the path that the option names, if it has a word
--     AreNumbersGiven f g
--                     the numbers of a setup: each is said to be given exactly where its option has a word, and is what
--                     that writes, or the default
--     AreGiven f s    each setting is what its option says: a field for each option, under its name with _ for -
--     IsLed leads h path target
--                     there is a path exactly where there is a target, and the host h has answered that it leads there
--     IsResolved leads h s t
--                     t is s with the paths of the snapshot and of the log that these lead to
--     IsOrdered leads h f t
--                     t is what these entries spell, with the paths of the files that links lead to
use Rattle.std.specs.Prelude.{◌≡◌, ℕ, ◌-◌, ◌^◌, Bool, true, false, List, Option, Some, None, MatchOption, is_some, ⊤}
use Rattle.std.specs.Prelude.{String, string_bytes, option_map, option_and_then, unwrap_or, codes}
use Rattle.std.specs.Int.NonZero.{non_zero_u64_get}
use Rattle.std.specs.declared.num.NonZeroU64.{NonZeroU64}
use Rattle.clap.specs.Words.{first_value, one_text}
use Rattle.clap.specs.declared.builder.arg.Arg.{Arg}
use Rattle.clap.specs.declared.parser.matches.Found.{Found}
use Rattle.batch_store.specs.declared.given_numbers.GivenNumbers.{GivenNumbers}
use Rattle.socket_server.specs.declared.settings.Settings.{Settings}
use Rattle.hhm.specs.Options.{option_number, option_list}

abbrev pub IsNamed : Arg → List ℕ → Type 0
IsNamed arg name = (arg.id.now ≡ name) × (option_map (λ word. word.now) arg.long ≡ Some name)

abbrev pub IsNumber : Found → List ℕ → ℕ → Type 0
IsNumber f name n = option_and_then option_number (first_value f name) ≡ Some n

abbrev pub IsNumberOr : Found → List ℕ → ℕ → ℕ → Type 0
IsNumberOr f name default n = MatchOption (first_value f name) (n ≡ default) (λ word. option_number word ≡ Some n)

-- no limit is the number 0
abbrev pub IsLimitOf : Option NonZeroU64 → ℕ → Type 0
IsLimitOf limit n = MatchOption limit (n ≡ 0) (λ x. non_zero_u64_get x ≡ n)

abbrev pub IsLimit : Found → List ℕ → Option NonZeroU64 → Type 0
IsLimit f name limit =
    MatchOption (first_value f name) (limit ≡ None)
    (λ word. (n : ℕ) × (option_number word ≡ Some n) × IsLimitOf limit n)

pub record IsFlag (f : Found) (name : List ℕ) (b : Bool) : Type 0 where
  pub left_out : one_text f name ≡ None → b ≡ false
  pub given : one_text f name ≡ Some (codes "true") → b ≡ true
  pub not_given : one_text f name ≡ Some (codes "false") → b ≡ false

abbrev pub path_in : {Z : Type 0} → Option (String Z) → Option (List ℕ)
path_in path = option_map string_bytes path

abbrev pub IsGiven : Found → List ℕ → Bool → Type 0
IsGiven f name b = b ≡ is_some (first_value f name)

abbrev pub default_cuts : List ℕ
default_cuts = codes "4096,65536,1048576"

pub record AreNumbersGiven (f : Found) (g : GivenNumbers) : Type 0 where
  pub rows : IsNumberOr f (codes "rows") 1 g.setup.rows × IsGiven f (codes "rows") g.rows
  pub cols : IsNumberOr f (codes "cols") 1 g.setup.cols × IsGiven f (codes "cols") g.cols
  pub cuts : (option_list (unwrap_or (first_value f (codes "cuts")) default_cuts) ≡ Some g.setup.cuts)
      × IsGiven f (codes "cuts") g.cuts
  pub shards : IsNumberOr f (codes "shards") 8 g.setup.shards × IsGiven f (codes "shards") g.shards
  pub limit : IsNumberOr f (codes "limit") (2 ^ 64 - 1) g.setup.limit × IsGiven f (codes "limit") g.limit
  pub max_batches : IsNumberOr f (codes "max-batches") 1000000 g.setup.max_batches
      × IsGiven f (codes "max-batches") g.max_batches

pub record AreGiven (f : Found) (s : Settings) : Type 0 where
  pub tcp : path_in s.tcp ≡ first_value f (codes "tcp")
  pub unix : path_in s.unix ≡ first_value f (codes "unix")
  pub snapshot : path_in s.snapshot ≡ first_value f (codes "snapshot")
  pub log : path_in s.log ≡ first_value f (codes "log")
  pub numbers : AreNumbersGiven f s.numbers
  pub workers : IsNumber f (codes "workers") s.workers
  pub compactors : IsNumber f (codes "compactors") s.compactors
  pub sessions : IsNumber f (codes "sessions") s.sessions
  pub fold_above : IsNumber f (codes "fold-above") s.fold_above
  pub save_log_above : IsNumber f (codes "save-log-above") s.save_log_above
  pub save_every : IsLimit f (codes "save-every") s.save_every
  pub lock_wait : IsLimit f (codes "lock-wait") s.lock_wait
  pub idle : IsLimit f (codes "idle") s.idle
  pub drain : IsLimit f (codes "drain") s.drain
  pub must_load : IsFlag f (codes "must-load") s.must_load
  pub must_save : IsFlag f (codes "must-save") s.must_save
  pub events : IsFlag f (codes "events") (is_some s.events)

abbrev pub IsLed : {H Z : Type 0} → (H → List ℕ → List ℕ → Type 0) → H → Option (String Z) → Option (String Z) →
    Type 0
IsLed leads h None None = ⊤
IsLed leads h (Some path) (Some target) = leads h (string_bytes path) (string_bytes target)
IsLed leads h _ _ = ⊥

pub record IsResolved {H : Type 0} (leads : H → List ℕ → List ℕ → Type 0) (h : H) (s t : Settings) : Type 0 where
  pub snapshot : IsLed leads h s.snapshot t.snapshot
  pub log : IsLed leads h s.log t.log
  pub others : t ≡ record s { snapshot = t.snapshot; log = t.log }

pub record IsOrdered {H : Type 0} (leads : H → List ℕ → List ℕ → Type 0) (h : H) (f : Found) (t : Settings) : Type 0 where
  pub settings : Settings
  pub given : AreGiven f settings
  pub resolved : IsResolved leads h settings t
