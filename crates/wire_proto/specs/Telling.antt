-- What a store tells of itself, and its text: ASCII lines, each a name, a space, a number and LF.
--     Telling         the setup, one status, how many of its batches are folded, and further lines
--     figure_line     a further line, without LF: between name and space may stand one or two labels in braces, each a
--                     key, =, and its value in quotation marks
--     pinned_names    the names of the lines of the setup and of the status; figure_text leaves out a further line that
--                     has such a name, and one with an LF inside
--     stats_text      the lines of all, those of the setup and of the status in front
--     lines_named     the lines of a text that have a name
use Rattle.std.specs.Prelude.{ℕ, ◌+◌, ◌/◌, ◌%◌, ◌==◌, ◌||◌, not, Bool, cond, List, [], ◌∷◌, ◌++◌, length, take, filter}
use Rattle.std.specs.Prelude.{flat_map, codes, decimal, bytes_eq}
use Rattle.std.specs.List.{list_any, position_or_len}
use Rattle.batch_store.specs.Setups.{Setting}
use Rattle.plain_engine.specs.declared.status.Status.{Status}
use Rattle.hex.specs.Hex.{encode_lower}
use Rattle.wire_proto.specs.declared.figures.Amount.{Amount}
use Rattle.wire_proto.specs.declared.figures.Amount.TheVariants.{Count, Millis, Word, Hex}
use Rattle.wire_proto.specs.declared.figures.Label.{Label}
use Rattle.wire_proto.specs.declared.figures.Labels.{Labels}
use Rattle.wire_proto.specs.declared.figures.Labels.TheVariants.{None as NoLabel, One, Two}
use Rattle.wire_proto.specs.declared.figures.Figure.{Figure}

pub record Telling : Type 0 where
  pub setup : Setting
  pub status : Status
  pub folded : ℕ
  pub figures : List Figure

abbrev pub telling : Setting → Status → ℕ → List Figure → Telling
telling setup status folded figures = record { setup = setup; status = status; folded = folded; figures = figures }

-- the last decimal digit
abbrev pub digit : ℕ → ℕ
digit n = 48 + n % 10

abbrev pub amount_text : Amount → List ℕ
amount_text (Count n) = decimal n
amount_text (Millis n) = decimal (n / 1000) ++ 46 ∷ digit (n / 100) ∷ digit (n / 10) ∷ digit n ∷ []
amount_text (Word word) = word.now
amount_text (Hex bytes) = encode_lower bytes

abbrev pub label_text : Label → List ℕ
label_text l = l.key.now ++ 61 ∷ 34 ∷ amount_text l.value ++ 34 ∷ []

abbrev pub labels_text : Labels → List ℕ
labels_text NoLabel = []
labels_text (One l) = 123 ∷ label_text l ++ 125 ∷ []
labels_text (Two l m) = 123 ∷ label_text l ++ 44 ∷ label_text m ++ 125 ∷ []

unfoldable pub figure_line : Figure → List ℕ
figure_line f = f.name.now ++ labels_text f.labels ++ 32 ∷ amount_text f.amount

abbrev pub pinned_names : List (List ℕ)
pinned_names =
    codes "rows" ∷ codes "cols" ∷ codes "cuts" ∷ codes "layer_cut_entries" ∷ codes "shards" ∷ codes "limit"
    ∷ codes "max_batches" ∷ codes "batches" ∷ codes "folded" ∷ codes "total" ∷ []

unfoldable pub is_pinned : List ℕ → Bool
is_pinned name = list_any (λ pinned. bytes_eq pinned name) pinned_names

-- a space or a brace
abbrev pub ends_name : ℕ → Bool
ends_name b = b == 32 || b == 123

-- what stands before the first space or brace of a line
abbrev pub line_name : List ℕ → List ℕ
line_name line = take (position_or_len ends_name line) line

-- whether these bytes are one line, and its name isn't pinned
unfoldable pub is_further : List ℕ → Bool
is_further line = not (list_any (λ b. b == 10) line || is_pinned (line_name line))

unfoldable pub figure_text : Figure → List ℕ
figure_text f = cond (is_further (figure_line f)) (figure_line f ++ 10 ∷ []) []

-- a line without labels
unfoldable pub number_line : List ℕ → ℕ → List ℕ
number_line name n = name ++ 32 ∷ decimal n ++ 10 ∷ []

-- a line whose last label is the number of a layer: what stands before that number, and the cut
unfoldable pub cut_line : List ℕ → ℕ → ℕ → List ℕ
cut_line front layer cut = front ++ decimal layer ++ 34 ∷ 125 ∷ 32 ∷ decimal cut ++ 10 ∷ []

-- the cut of each layer, from this one on
abbrev pub cut_lines : ℕ → List ℕ → List ℕ
cut_lines layer [] = []
cut_lines layer (cut ∷ cuts) =
    cut_line (codes "layer_cut_entries{layer=\"") layer cut ++ cut_lines (layer + 1) cuts

unfoldable pub setup_text : Setting → List ℕ
setup_text v =
    number_line (codes "rows") v.rows
    ++ number_line (codes "cols") v.cols
    ++ number_line (codes "cuts") (length v.cuts)
    ++ cut_lines 1 v.cuts
    ++ number_line (codes "shards") v.shards
    ++ number_line (codes "limit") v.limit
    ++ number_line (codes "max_batches") v.max_batches

unfoldable pub status_text : Status → ℕ → List ℕ
status_text s folded =
    number_line (codes "batches") s.batches
    ++ number_line (codes "folded") folded
    ++ number_line (codes "total") s.total

unfoldable pub figures_text : List Figure → List ℕ
figures_text figures = flat_map figure_text figures

unfoldable pub stats_text : Telling → List ℕ
stats_text t = setup_text t.setup ++ status_text t.status t.folded ++ figures_text t.figures

-- the lines of a text, each without its LF, where the first begins with `front`; after the last LF is no line
abbrev pub lines_from : List ℕ → List ℕ → List (List ℕ)
lines_from front [] = []
lines_from front (b ∷ rest) = cond (b == 10) (front ∷ lines_from [] rest) (lines_from (front ++ b ∷ []) rest)

unfoldable pub lines_named : List ℕ → List ℕ → List (List ℕ)
lines_named name text = filter (λ line. bytes_eq (line_name line) name) (lines_from [] text)
