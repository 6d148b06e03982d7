-- What one text more does to those before it.
use Rattle.std.proofs.Common.{◌≡◌, ℕ, ◌+◌, ◌≤◌, ◌^◌, List, [], ◌∷◌, ◌++◌, length, Result, Ok, refl, sym}
use Rattle.std.proofs.Common.{◌∙◌, ap, subst, arith, inl, inr, append_assoc, Bool, Some}
use Rattle.std.proofs.lemmas.List.{length-append, append-nil}
use Rattle.byte_io.specs.declared.fault.DeviceFault.{DeviceFault}
use Rattle.cells.proofs.SumLaws.{total-append}
use Rattle.cells.specs.declared.cell.Cell.{Cell}
use Rattle.mm_text.specs.declared.size.Size.{Size}
use Rattle.mm_text.specs.declared.text_reader.TextReader.{TextReader}
use Rattle.mm_sum.proofs.ReadLemmas.{begun_summed}
use Rattle.hyper_matrix.specs.Cells.{cell_total}
use Rattle.mm_sum.specs.Running.{IsSumOf, RefusesSum}
use Rattle.mm_sum.specs.Reading.{Begins, IsSummed, Excuses, AddsText, HasSummed}
use Rattle.mm_sum.specs.Several.{joined, ReadsTexts, AreUnsummed, Tells}
use Rattle.mm_sum.specs.Steps.{IsOpening, AddsNext, TellsNext, HaveSummed, TellsRead}
use Rattle.mm_sum.specs.Faults.{fault_within}
use Rattle.mm_sum.specs.Sum.{ReadsText}
use Rattle.mm_sum.specs.declared.running_sum.RunningSum.{RunningSum}
use Rattle.mm_sum.specs.declared.fault.OpenFault.{OpenFault}
use Rattle.mm_sum.specs.declared.fault.SumFault.{SumFault}
use Rattle.mm_sum.specs.declared.fault.SumFault.TheVariants as one
use Rattle.mm_sum.specs.declared.fault.TextsFault.{TextsFault}
use Rattle.mm_sum.specs.declared.fault.TextsFault.TheVariants as fault

-- a cell whose count alone passes 64 bits
abbrev pub passing : List Cell
passing = record { row = 0; col = 0; count = 2 ^ 64 } ∷ []

pub passing_total : (cells : List Cell) → 2 ^ 64 ≤ cell_total (passing ++ cells)
passing_total cells = omega (arith, total-append passing cells)

joined_behind : (lists : List (List Cell)) (list : List Cell) → joined (lists ++ list ∷ []) ≡ joined lists ++ list
joined_behind [] list = append-nil list
joined_behind (first ∷ lists) list =
    ap (λ (rest : List Cell). first ++ rest) (joined_behind lists list) ∙ sym (append_assoc first (joined lists) list)

module _ {S : Type 0} (gives : S → Result (List ℕ) DeviceFault → S → Type 0) (at_end : S → Type 0)
    (failures : S → ℕ) where
  -- What is told of a text behind cells that pass is told behind any: it is no want of memory.
  pub told_behind_any : (earlier : List Cell) (s t : S) (told : SumFault) →
      Excuses gives at_end failures passing s t told → Excuses gives at_end failures earlier s t told
  told_behind_any earlier s t (one.Text text) h = h
  told_behind_any earlier s t one.Memory h = absurd (omega (arith, h.fits, passing_total h.unsummed.cells))
  told_behind_any earlier s t one.BadCuts h = absurd h
  told_behind_any earlier s t one.SumTooLarge h = absurd h
  told_behind_any earlier s t (one.Output text) h = absurd h

  -- The first block of a text of these dimensions was added to the sum of those before it.
  pub next_begun : (earlier : List Cell) (s t : S) (reader : TextReader) (own size : Size) (block : List Cell)
      (added : RunningSum) (more : Bool) → (own.rows ≡ size.rows) × (own.cols ≡ size.cols) →
      Begins gives at_end failures s t reader own block more →
      IsSumOf size.rows size.cols (earlier ++ block) added →
      IsSummed gives at_end failures earlier s t reader own added more
  next_begun earlier s t reader own size block added more same begun is =
      begun_summed gives at_end failures earlier s t reader own block added more begun
      (subst (λ (n : ℕ). IsSumOf n own.cols (earlier ++ block) added) (sym same.0)
      (subst (λ (n : ℕ). IsSumOf size.rows n (earlier ++ block) added) (sym same.1) is))

  -- It was read to its end.
  pub next_ended : (earlier : List Cell) (s t : S) (own size : Size) (sum : RunningSum) →
      (own.rows ≡ size.rows) × (own.cols ≡ size.cols) → HasSummed gives at_end failures earlier s t own sum →
      AddsText gives at_end failures earlier s t size (Some sum)
  next_ended earlier s t own size sum same held = (
    held.cells,
    subst (λ (n : ℕ). ReadsText gives at_end failures s t n size.cols held.cells) same.0
        (subst (λ (n : ℕ). ReadsText gives at_end failures s t own.rows n held.cells) same.1 held.reads_text),
    subst (λ (n : ℕ). IsSumOf n size.cols (earlier ++ held.cells) sum) same.0
        (subst (λ (n : ℕ). IsSumOf own.rows n (earlier ++ held.cells) sum) same.1 held.sum_is),
  )

  module _ (opens : S → Result (Unit {0}) OpenFault → S → Type 0) where
    reads_behind : (s t opened u : S) (rows cols : ℕ) (lists : List (List Cell)) (list : List Cell) →
        ReadsTexts gives at_end failures opens s t rows cols lists → opens t (Ok tt) opened →
        ReadsText gives at_end failures opened u rows cols list →
        ReadsTexts gives at_end failures opens s u rows cols (lists ++ list ∷ [])
    reads_behind s t opened u rows cols [] list is opens_it reads =
        (opened, u, subst (λ (x : S). opens x (Ok tt) opened) (sym is) opens_it, reads, refl)
    reads_behind s t opened u rows cols (first ∷ lists) list h opens_it reads =
        (h.0, h.1, h.2, h.3, reads_behind h.1 t opened u rows cols lists list h.4 opens_it reads)

    -- A text that wasn't opened, or was and wasn't summed.
    pub told_opening : (earlier : List Cell) (s t : S) (size : Size) (text : ℕ) (told : TextsFault) →
        IsOpening opens s t text told → TellsNext gives at_end failures opens earlier s t size text told
    told_opening earlier s t size text (fault.File at told) h = h
    told_opening earlier s t size text fault.Memory h = inr h
    told_opening earlier s t size text fault.BadCuts h = absurd h
    told_opening earlier s t size text (fault.Text at told) h = absurd h
    told_opening earlier s t size text (fault.DimensionsDiffer at) h = absurd h
    told_opening earlier s t size text fault.SumTooLarge h = absurd h
    told_opening earlier s t size text (fault.Output told) h = absurd h

    pub told_reading : (earlier : List Cell) (s opened t : S) (size : Size) (text : ℕ) (told : SumFault) →
        opens s (Ok tt) opened → Excuses gives at_end failures earlier opened t told →
        TellsNext gives at_end failures opens earlier s t size text (fault_within text told)
    told_reading earlier s opened t size text (one.Text told) opens_it h = (refl, (opened, opens_it, h))
    told_reading earlier s opened t size text one.Memory opens_it h = inl (opened, opens_it, h)
    told_reading earlier s opened t size text one.BadCuts opens_it h = absurd h
    told_reading earlier s opened t size text one.SumTooLarge opens_it h = absurd h
    told_reading earlier s opened t size text (one.Output told) opens_it h = absurd h

    -- The first text, and each behind those before it.
    pub first_read : (s t : S) (size : Size) (sum : RunningSum) → AddsNext gives at_end failures opens [] s t size sum →
        (lists : List (List Cell)) × (length lists ≡ 1)
        × ReadsTexts gives at_end failures opens s t size.rows size.cols lists
        × IsSumOf size.rows size.cols (joined lists) sum
    first_read s t size sum adds = (
      adds.list ∷ [],
      refl,
      (adds.opened, t, adds.opens_it, adds.reads_it, refl),
      subst (λ (all : List Cell). IsSumOf size.rows size.cols all sum) (sym (append-nil adds.list)) adds.sum_is,
    )

    pub next_read : (s t u : S) (size : Size) (text : ℕ) (sum : RunningSum) (lists : List (List Cell)) →
        length lists ≡ text → ReadsTexts gives at_end failures opens s t size.rows size.cols lists →
        AddsNext gives at_end failures opens (joined lists) t u size sum →
        (lists' : List (List Cell)) × (length lists' ≡ text + 1)
        × ReadsTexts gives at_end failures opens s u size.rows size.cols lists'
        × IsSumOf size.rows size.cols (joined lists') sum
    next_read s t u size text sum lists count reads adds = (
      lists ++ adds.list ∷ [],
      omega (arith, length-append lists (adds.list ∷ []), count),
      reads_behind s t adds.opened u size.rows size.cols lists adds.list reads adds.opens_it adds.reads_it,
      subst (λ (all : List Cell). IsSumOf size.rows size.cols all sum) (sym (joined_behind lists adds.list))
          adds.sum_is,
    )

    -- what is told of a text is told behind those before it
    pub told_behind : (s t u : S) (size : Size) (text : ℕ) (lists : List (List Cell)) → length lists ≡ text →
        ReadsTexts gives at_end failures opens s t size.rows size.cols lists → (told : TextsFault) →
        TellsNext gives at_end failures opens (joined lists) t u size text told →
        TellsRead gives at_end failures opens s u told
    told_behind s t u size text lists count reads (fault.File at told) h = record {
      ended = t;
      before = record { rows = size.rows; cols = size.cols; lists = lists; count_is = count ∙ sym h.0; reads = reads };
      refused = h.1;
    }
    told_behind s t u size text lists count reads (fault.Text at told) h = record {
      ended = t;
      opened = h.1.0;
      before = record { rows = size.rows; cols = size.cols; lists = lists; count_is = count ∙ sym h.0; reads = reads };
      opens_it = h.1.1;
      stops = h.1.2;
    }
    told_behind s t u size text lists count reads (fault.DimensionsDiffer at) h = record {
      ended = t;
      opened = h.2.0;
      before = record { rows = size.rows; cols = size.cols; lists = lists; count_is = count ∙ sym h.0; reads = reads };
      some = omega (arith, h.0, h.1);
      opens_it = h.2.1;
      rows = h.2.2.0;
      cols = h.2.2.1;
      list = h.2.2.2;
      reads_it = h.2.2.3;
      differs = h.2.2.4;
    }
    told_behind s t u size text lists count reads fault.Memory h = record {
      rows = size.rows;
      cols = size.cols;
      lists = lists;
      ended = t;
      reads = reads;
      place = inr h;
    }
    told_behind s t u size text lists count reads fault.BadCuts h = absurd h
    told_behind s t u size text lists count reads fault.SumTooLarge h = absurd h
    told_behind s t u size text lists count reads (fault.Output told) h = absurd h

    -- There was no memory to begin with.
    pub told_none : (s : S) → AreUnsummed gives at_end failures opens s s
    told_none s = record {
      rows = 0;
      cols = 0;
      lists = [];
      ended = s;
      reads = refl;
      place = inl (refl, omega arith);
    }

    -- what is told of the first text
    pub told_first : (s u : S) (told : TextsFault) →
        ((size : Size) → TellsNext gives at_end failures opens [] s u size 0 told) →
        TellsRead gives at_end failures opens s u told
    told_first s u told h =
        let size : Size = record { rows = 0; cols = 0; entries = 0 } in
        told_behind s s u size 0 [] refl refl told (h size)

    -- All texts were read, and their sum has no list.
    pub told_at_end : (s t : S) (count : ℕ) (sum : RunningSum)
        (held : HaveSummed gives at_end failures opens s t count sum) (told : SumFault) →
        RefusesSum (joined held.lists) told → Tells gives at_end failures opens s t count (fault_within 0 told)
    told_at_end s t count sum held one.SumTooLarge h = record {
      rows = held.rows;
      cols = held.cols;
      lists = held.lists;
      count_is = held.count_is;
      reads = held.reads;
      passes = h;
    }
    told_at_end s t count sum held one.Memory h = record {
      rows = held.rows;
      cols = held.cols;
      lists = held.lists;
      ended = t;
      reads = held.reads;
      place = inl (refl, h);
    }
    told_at_end s t count sum held one.BadCuts h = absurd h
    told_at_end s t count sum held (one.Text text) h = absurd h
    told_at_end s t count sum held (one.Output text) h = absurd h
