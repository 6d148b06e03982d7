-- What a list of accepted entries says of a batch.
--     verdict_of limit most es b
--         the verdict as a program finds it: if the batch's client and number stand in the list, what is kept at their
--         first place, if cells and total agree in number, else NumberReused; else OverTotal where the list's total and
--         the batch's pass the limit; else BookFull where the list has as many entries as it may; else Fresh
--     AllFresh limit most es more
--         each of these is Fresh after the list and those before it
--     IsVerdict limit most es b r
--         the same told by what each verdict means, in any order
--     coded_entry, total_of_entries
--         how entries are told apart, and the totals of a list of them together
-- All numbers are whole numbers: no sum wraps.
use Rattle.std.specs.Prelude.{◌≡◌, ℕ, ◌+◌, ◌<◌, ◌≤◌, Bool, ◌==◌, ◌&&◌, nat_lt, nat_le, if◌then◌else◌, List, [], ◌∷◌}
use Rattle.std.specs.Prelude.{◌++◌, length, take, map, position, slice_index_or, slice_get, Option, Some, None, Contains}
use Rattle.std.specs.Prelude.{refl}
use Rattle.std.specs.Coded.{Coded, code_by, coded×, coded_ℕ}
use Rattle.batch_store.specs.declared.verdict.Entry.{Entry}
use Rattle.batch_store.specs.declared.verdict.Kept.{Kept}
use Rattle.batch_store.specs.declared.verdict.Verdict.{Verdict}
use Rattle.batch_store.specs.declared.verdict.Verdict.TheVariants.{Fresh, Known, NumberReused, OverTotal, BookFull}

abbrev pub kept : ℕ → ℕ → Kept
kept index total = record { index = index; total_after = total }

abbrev pub coded_entry : Coded Entry
coded_entry =
    code_by (ℕ × (ℕ × (ℕ × ℕ))) (coded× coded_ℕ (coded× coded_ℕ (coded× coded_ℕ coded_ℕ)))
    (λ e. (e.client, (e.number, (e.cells, e.total))))
    (λ p. record { client = p.0; number = p.1.0; cells = p.1.1.0; total = p.1.1.1 }) (λ _. refl)

-- the totals of a list together; a recursion from the front, since std's `sum` is a fold from the left
abbrev pub total_of_entries : List Entry → ℕ
total_of_entries [] = 0
total_of_entries (e ∷ es) = e.total + total_of_entries es

-- whether two entries have the same client and number
abbrev pub same_pair : Entry → Entry → Bool
same_pair b e = (b.client == e.client) && (b.number == e.number)

-- the verdict on a pair that stands there, of which e was accepted
abbrev pub repeat_of : Entry → Entry → ℕ → ℕ → Verdict
repeat_of e b index after =
    if (e.cells == b.cells) && (e.total == b.total) then Known (kept index after) else NumberReused

-- the verdict on a pair that is new, where this many were accepted, with this total
abbrev pub verdict_on_new : ℕ → ℕ → ℕ → ℕ → Entry → Verdict
verdict_on_new limit most count total b =
    if nat_lt limit (total + b.total) then OverTotal total else if nat_le most count then BookFull else Fresh

-- the same, where the pair stands at this place, if at any
abbrev pub verdict_at : ℕ → ℕ → List Entry → Entry → Option ℕ → Verdict
verdict_at limit most es b (Some i) = repeat_of (slice_index_or es i b) b i (total_of_entries (take (i + 1) es))
verdict_at limit most es b None = verdict_on_new limit most (length es) (total_of_entries es) b

abbrev pub verdict_of : ℕ → ℕ → List Entry → Entry → Verdict
verdict_of limit most es b = verdict_at limit most es b (position (same_pair b) es)

-- each of these entries is of a fresh batch after those before it
abbrev pub AllFresh : ℕ → ℕ → List Entry → List Entry → Type 0
AllFresh limit most es [] = Unit {0}
AllFresh limit most es (e ∷ more) = (verdict_of limit most es e ≡ Fresh) × AllFresh limit most (es ++ e ∷ []) more

abbrev pub pair_of : Entry → ℕ × ℕ
pair_of e = (e.client, e.number)

-- some entry of the list has the batch's client and number
abbrev pub HasPair : List Entry → Entry → Type 0
HasPair es b = Contains (map pair_of es) (pair_of b)

-- no entry has them, and the totals together are within the limit
abbrev pub IsNewWithin : ℕ → List Entry → Entry → Type 0
IsNewWithin limit es b = (HasPair es b → ⊥) × (total_of_entries es + b.total ≤ limit)

-- Known: the batch's own entry, of the same client, number, cells and total, stands at that place, and the totals up to
-- it are told. NumberReused: client and number stand in the list, but the batch's entry doesn't. OverTotal, BookFull,
-- Fresh: client and number are new; the totals pass the limit, or they don't and the list is full, or there is room.
abbrev pub IsVerdict : ℕ → ℕ → List Entry → Entry → Verdict → Type 0
IsVerdict limit most es b (Known k) =
    (slice_get es k.index ≡ Some b) × (k.total_after ≡ total_of_entries (take (k.index + 1) es))
IsVerdict limit most es b NumberReused = HasPair es b × (Contains es b → ⊥)
IsVerdict limit most es b (OverTotal accepted) =
    (HasPair es b → ⊥) × (limit < total_of_entries es + b.total) × (accepted ≡ total_of_entries es)
IsVerdict limit most es b BookFull = IsNewWithin limit es b × (most ≤ length es)
IsVerdict limit most es b Fresh = IsNewWithin limit es b × (length es < most)
