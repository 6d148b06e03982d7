-- What a book hands out behind a place of what was shown, and the durable entries with it.
use Rattle.std.proofs.Common.{◌≡◌, ℕ, ◌+◌, ◌≤◌, List, ◌++◌, length, take, ap, sym, ◌∙◌, arith}
use Rattle.std.proofs.Common.{length-append}
use Rattle.std.proofs.lemmas.List.{take_at, length-take-le}
use mathlib.Core.List.{IsPrefix}
use Rattle.batch_store.specs.declared.verdict.Entry.{Entry}
use Rattle.batch_store.specs.Batches.{Submission, entries_of}
use Rattle.plain_engine.specs.declared.status.Status.{Status}
use Rattle.locked_engine.specs.Queues.{Follows}
use Rattle.locked_engine.specs.Versions.{version_status}
use Rattle.log_desk.specs.Standings.{IsGroup}

module _ (from : ℕ) (es seen : List Entry) (h : Follows from es seen) where
  front_length : length (take from seen ++ es) ≡ from + length es
  front_length = omega (arith, length-append (take from seen) es, length-take-le from seen h.within)

  -- they lie within it
  follows_within : from + length es ≤ length seen
  follows_within = omega (
    arith,
    front_length,
    length-append (take from seen ++ es) (h.next.0),
    ap length h.next.1,
  )

  -- with them its front is longer
  follows_front : take (from + length es) seen ≡ take from seen ++ es
  follows_front =
      ap (λ l. take (from + length es) l) (sym h.next.1)
      ∙ take_at (take from seen ++ es) h.next.0 (from + length es) front_length

-- what is durable stands at the front of what was shown, if that is long enough
abbrev Begins : List Entry → List Entry → Type 0
Begins old seen = length old ≤ length seen → old ≡ take (length old) seen

-- what is durable, and a group after it, begin what was shown
pub group_prefix : (old es seen : List Entry) (from : ℕ) → from ≡ length old → Follows from es seen →
    Begins old seen → IsPrefix (old ++ es) seen
group_prefix old es seen from len h begins = (
  h.next.0,
  ap (λ l. (l ++ es) ++ h.next.0)
      (begins (omega (arith, len, h.within)) ∙ ap (λ n. take n seen) (sym len)) ∙ h.next.1,
)

-- a group behind what is durable, with the status of both
module _ (old es seen : List Entry) (from : ℕ) (len : from ≡ length old) (h : Follows from es seen)
    (s : Status) (is : s ≡ version_status (old ++ es)) where
  counted : s.batches ≡ from + length es
  counted = omega (arith, ap (λ (x : Status). x.batches) is, length-append old es, len)

  pub group_within : s.batches ≤ length seen
  group_within = omega (arith, counted, follows_within from es seen h)

  pub group_front : Begins old seen → take s.batches seen ≡ old ++ es
  group_front begins =
      ap (λ n. take n seen) counted
      ∙ (follows_front from es seen h
      ∙ ap (λ l. l ++ es) (ap (λ n. take n seen) len ∙ sym (begins (omega (arith, len, h.within)))))

  pub group_status : Begins old seen → s ≡ version_status (take s.batches seen)
  group_status begins = is ∙ ap version_status (sym (group_front begins))

  pub group_extends : (now : List Entry) → Begins old seen → now ≡ take s.batches seen → IsPrefix old now
  group_extends now begins same = (es, sym (group_front begins) ∙ sym same)

  pub group_is : (takes : List Submission → ℕ) (list : List Submission) (now : List Entry) (before after : ℕ) →
      es ≡ entries_of list → Begins old seen → now ≡ take s.batches seen → before ≤ after + takes list →
      IsGroup takes old now before after
  group_is takes list now before after entries begins same room = record {
    list = list;
    entries = same ∙ (group_front begins ∙ ap (λ l. old ++ l) entries);
    room = room;
  }
