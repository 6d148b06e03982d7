-- What contracts see of a disk that doesn't tell what it holds.
use Rattle.std.specs.Prelude.{ℕ, List, []}

pub no_bytes : List ℕ
no_bytes = []
