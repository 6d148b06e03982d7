-- What a command line asks for that clap has read.
--     AsksToServe leads h m t
--                     the word is `serve`, and t is what its options spell, with the paths of the files that links lead to
--     IsAsked leads h m o
--                     a server is to be run only where that is so of its settings
use Rattle.std.specs.Prelude.{◌≡◌, ℕ, List, Some, option_map, codes, ⊤}
use Rattle.clap.specs.Words.{rows_of, subcommand_name_of, subcommand_rows_of}
use Rattle.clap.specs.declared.parser.matches.ArgMatches.{ArgMatches}
use Rattle.clap.specs.declared.parser.matches.Found.{Found}
use Rattle.socket_server.specs.declared.settings.Settings.{Settings}
use Rattle.hhm.specs.Given.{IsOrdered}
use Rattle.hhm.specs.declared.Outcome.{Outcome}
use Rattle.hhm.specs.declared.Outcome.TheVariants.{Ended, Serve}

pub record AsksToServe {H : Type 0} (leads : H → List ℕ → List ℕ → Type 0) (h : H) (m : ArgMatches) (t : Settings) :
    Type 0 where
  pub found : Found
  pub word : subcommand_name_of m ≡ Some (codes "serve")
  pub rows : option_map (λ p. p.1) (subcommand_rows_of m) ≡ Some (rows_of found)
  pub ordered : IsOrdered leads h found t

abbrev pub IsAsked : {H : Type 0} → (H → List ℕ → List ℕ → Type 0) → H → ArgMatches → Outcome → Type 0
IsAsked leads h m (Ended code) = ⊤
IsAsked leads h m (Serve order) = AsksToServe leads h m order.settings
