-- What the book and the shards of an engine have folded since it was opened.
use Rattle.std.proofs.Common.{slice_get, Some}
use Rattle.std.proofs.Common.{◌≡◌, ℕ, ◌+◌, ◌-◌, ◌≤◌, Bool, true, false, List, [], ◌∷◌, ◌++◌, length, take, drop}
use Rattle.std.proofs.Common.{refl, sym, ◌∙◌, ap, subst, arith, append-nil, append_assoc, length-append}
use Rattle.std.proofs.lemmas.List.{take-append-drop, length-drop}
use Rattle.std.specs.List.{IsDistinct}
use mathlib.Core.List.{IsPrefix}
use Rattle.hyper_matrix.specs.Counts.{part, total}
use Rattle.hyper_matrix.proofs.CountLaws.{ewise_add-empty}
use Rattle.layer_compaction.specs.Shared.{content}
use Rattle.batch_store.specs.declared.verdict.Entry.{Entry}
use Rattle.batch_store.specs.Setups.{Setting}
use Rattle.batch_store.specs.Verdicts.{same_pair, total_of_entries}
use Rattle.batch_store.specs.declared.verdict.Kept.{Kept}
use Rattle.batch_store.specs.Accepted.{Accepted, accepted, entries_in, count_in, total_in, with_batch}
use Rattle.batch_store.specs.Batches.{Submission, entries_of}
use Rattle.batch_store.specs.Books.{AreDistinct}
use Rattle.batch_store.specs.BookFolds.{folded_to}
use Rattle.batch_store.specs.Parts.{record_content}
use Rattle.batch_store.specs.Shards.{Holding, shard_total}
use Rattle.batch_store.specs.ShardFolds.{FoldsFront}
use Rattle.batch_store.proofs.BookFoldLaws.{entries-to}
use Rattle.batch_store.proofs.BookLaws.{length-entries_of}
use Rattle.batch_store.proofs.ShardFoldLaws.{record_content-append}
use Rattle.plain_engine.specs.Known.{AreFrom, IsBased, IsBasedOn}
use Rattle.plain_engine.proofs.FoldTogetherLaws.{admit_stays}
use Rattle.plain_engine.proofs.RoundLaws.{folded_twice}
use Rattle.plain_engine.proofs.KnownLaws.{distinct_behind, from_behind, from_later, from_push}
use Rattle.locked_engine.specs.Given.{IsGiven}
use Rattle.locked_engine.specs.Opened.{SharePast, HasFolded}
use Rattle.locked_engine.specs.Moments.{KeepsLocked}

-- a list's last one
last_there : (all : List Submission) (b : Submission) → slice_get (all ++ b ∷ []) (length all) ≡ Some b
last_there [] b = refl
last_there (x ∷ xs) b = last_there xs b

-- ---- the book
module _ (o : Accepted) where
  -- as it is opened
  pub folded_none : (a : Accepted) (all : List Submission) → a ≡ o → all ≡ o.list → HasFolded o all a
  folded_none a all same list = record {
    count = 0;
    within = omega arith;
    state = same
        ∙ (λ i. accepted (sym (ewise_add-empty o.base) i) (sym (append-nil o.folded) i) (sym list i));
  }

  pub folded_more : (all : List Submission) (a : Accepted) (b : Submission) → HasFolded o all a →
      HasFolded o (all ++ b ∷ []) (with_batch a b)
  folded_more all a b h = record {
    count = h.count;
    within = omega (arith, h.within, length-append all (b ∷ []));
    state = ap (λ x. with_batch x b) h.state
        ∙ sym (admit_stays h.count (accepted o.base o.folded all) b h.within);
  }

  -- a batch that is added last is at the index of its reply
  pub given_last : (all : List Submission) (a : Accepted) (b : Submission) (k : Kept) → HasFolded o all a →
      k.index ≡ count_in a → IsGiven o b (all ++ b ∷ []) k
  given_last all a b k h at =
      let entries : entries_in a ≡ o.folded ++ entries_of all = ap entries_in h.state
      ∙ entries-to h.count (accepted o.base o.folded all) in
      let index : k.index ≡ length o.folded + length all = omega (
        arith,
        at,
        ap length entries,
        length-append o.folded (entries_of all),
        length-entries_of all,
      ) in
      record {
        later = omega (arith, index);
        there = ap (λ (n : ℕ). slice_get (all ++ b ∷ []) n) {x = k.index - length o.folded} {y = length all}
            (omega (arith, index)) ∙ last_there all b;
      }

  pub folded_further : (all : List Submission) (a now : Accepted) (m : ℕ) → HasFolded o all a →
      m ≤ length a.list → now ≡ folded_to m a → HasFolded o all now
  folded_further all a now m h within same =
      let more : h.count + m ≤ length all =
      omega (
        arith,
        h.within,
        within,
        ap (λ (x : Accepted). length x.list) h.state,
        length-drop h.count all,
      ) in
      record {
        count = h.count + m;
        within = more;
        state = same ∙ ap (folded_to m) h.state ∙ folded_twice h.count m (accepted o.base o.folded all) more;
      }

  pub past_of : (all : List Submission) (a : Accepted) → HasFolded o all a → SharePast a o
  past_of all a h = record {
    since = take h.count all;
    base = ap (λ (x : Accepted). x.base) h.state;
    folded = ap (λ (x : Accepted). x.folded) h.state;
  }

  -- no client and number stands twice in the history
  pub all_distinct : (all : List Submission) (a : Accepted) (es : List Entry) → HasFolded o all a → es ≡ entries_in a →
      IsDistinct same_pair es → AreDistinct all
  all_distinct all a es h same distinct =
      let is : es ≡ o.folded ++ entries_of all =
      same ∙ ap entries_in h.state ∙ entries-to h.count (accepted o.base o.folded all) in
      distinct_behind o.folded all (subst (IsDistinct same_pair) is distinct)

  -- the batches that aren't folded stand behind those that are
  pub known_behind : (known all : List Submission) (a : Accepted) → HasFolded o all a → AreDistinct all →
      IsPrefix known all →
      (before : List Submission) × AreDistinct (before ++ a.list) × IsPrefix known (before ++ a.list)
  known_behind known all a h distinct begins =
      let front = take h.count all in
      let whole : front ++ a.list ≡ all =
      ap (λ (x : Accepted). front ++ x.list) h.state ∙ take-append-drop h.count all in (
        front,
        subst AreDistinct (sym whole) distinct,
        subst (λ (l : List Submission). IsPrefix known l) (sym whole) begins,
      )

-- folding leaves the entries, and the total
pub entries_to : (m : ℕ) (a now : Accepted) → now ≡ folded_to m a → entries_in now ≡ entries_in a
entries_to m a now same = ap entries_in same ∙ entries-to m a

pub total_to : (m : ℕ) (a now : Accepted) → now ≡ folded_to m a → total_in now ≡ total_in a
total_to m a now same = ap total_of_entries (entries_to m a now same)

-- ---- a shard
-- what is based on nothing else
pub based_alone : (a : Accepted) (k : ℕ) (x : Holding) → IsBased a k x → IsBasedOn a k [] x
based_alone a k x h = h ∙ sym (ewise_add-empty (part a.base x.number k))

pub based_same : (a : Accepted) (k : ℕ) (since : List Submission) (x y : Holding) → y.number ≡ x.number →
    y.base ≡ x.base → IsBasedOn a k since x → IsBasedOn a k since y
based_same a k since x y number base h =
    base ∙ h ∙ (λ i. record_content (sym number i) k (part a.base (sym number i) k) since)

module _ (v : Setting) (o : Accepted) (known : List Submission) (rebased : Bool) (parts amount : ℕ) (x : Holding)
    (h : KeepsLocked v o known rebased parts amount x) where
  pub stays_locked : (y : Holding) → y.setup ≡ x.setup → y.number ≡ x.number → content y.layers ≡ content x.layers →
      y.base ≡ x.base → y.record_list ≡ x.record_list → KeepsLocked v o known rebased parts amount y
  stays_locked y setup number sum base list = record {
    setup = setup ∙ h.setup;
    one = h.one;
    same = h.same ∙ ap total (sym sum);
    since = h.since;
    based = based_same o v.shards h.since x y number base h.based;
    from = subst (λ (l : List Submission). AreFrom known (h.since ++ l)) (sym list) h.from;
    kept = h.kept;
  }

  -- with a batch more, which is known to be the book's, and its part
  pub delivered_locked : (y : Holding) (all : List Submission) (b : Submission) (held more : ℕ) → IsPrefix known all →
      AreFrom all (b ∷ []) → y.setup ≡ x.setup → y.number ≡ x.number → y.base ≡ x.base →
      y.record_list ≡ x.record_list ++ b ∷ [] → shard_total y ≡ shard_total x + more → held ≡ amount + more →
      (share : ℕ) → share ≡ parts → KeepsLocked v o all rebased share held y
  delivered_locked y all b held more begins last setup number base list sums amounts share same =
      let behind : AreFrom all ((h.since ++ x.record_list) ++ b ∷ []) =
      from_push all (h.since ++ x.record_list) b
      (from_later known all (h.since ++ x.record_list) begins h.from) last in
      record {
        setup = setup ∙ h.setup;
        one = same ∙ h.one;
        same = omega (arith, amounts, sums, h.same);
        since = h.since;
        based = based_same o v.shards h.since x y number base h.based;
        from = subst (AreFrom all) (append_assoc h.since x.record_list (b ∷ [])
            ∙ ap (λ (l : List Submission). h.since ++ l) (sym list)) behind;
        kept = h.kept;
      }

  -- with the first batches of the record in its base
  pub settled_locked : (y : Holding) (m : ℕ) → FoldsFront m x y → KeepsLocked v o known true parts amount y
  settled_locked y m f =
      let front = take m x.record_list in
      let here = part o.base x.number v.shards in
      let k : x.setup.shards ≡ v.shards = ap (λ (w : Setting). w.shards) h.setup in
      let whole : h.since ++ x.record_list ≡ (h.since ++ front) ++ drop m x.record_list =
      ap (λ (l : List Submission). h.since ++ l) (sym (take-append-drop m x.record_list))
      ∙ sym (append_assoc h.since front (drop m x.record_list)) in
      let base : y.base ≡ record_content x.number v.shards here (h.since ++ front) =
      f.base ∙ (λ i. record_content x.number (k i) (h.based i) front)
      ∙ sym (record_content-append x.number v.shards here h.since front) in
      record {
        setup = f.setup ∙ h.setup;
        one = h.one;
        same = h.same ∙ ap (λ l. total (content l)) (sym f.layers);
        since = h.since ++ front;
        based = base ∙ (λ i. record_content (sym f.number i) v.shards (part o.base (sym f.number i) v.shards)
            (h.since ++ front));
        from = subst (AreFrom known) (whole ∙ ap (λ (l : List Submission). (h.since ++ front) ++ l) (sym f.record_list))
            h.from;
        kept = λ e. absurd (cc e);
      }

  pub record_from : AreFrom known x.record_list
  record_from = from_behind known h.since x.record_list h.from

  pub never_rebased : rebased ≡ false → IsBased o v.shards x
  never_rebased e =
      subst (λ (l : List Submission). IsBasedOn o v.shards l x) (h.kept e) h.based
      ∙ ewise_add-empty (part o.base x.number v.shards)

-- a shard with a new share
pub opened_locked : (v : Setting) (o : Accepted) (known : List Submission) (parts amount : ℕ) (x : Holding) →
    x.setup ≡ v → parts ≡ 1 → amount ≡ shard_total x → IsBased o v.shards x → AreFrom known x.record_list →
    KeepsLocked v o known false parts amount x
opened_locked v o known parts amount x setup one same based from = record {
  setup = setup;
  one = one;
  same = same;
  since = [];
  based = based_alone o v.shards x based;
  from = from;
  kept = λ e. refl;
}
