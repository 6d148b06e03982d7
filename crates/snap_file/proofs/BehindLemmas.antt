-- What is read behind the head: where its faults show.
use Rattle.std.proofs.Common.{◌≡◌, ℕ, zero, suc, ◌+◌, ◌<◌, ◌≤◌, Bool, true, false, cond, not, List, [], ◌∷◌, ◌++◌, length, length-append}
use Rattle.std.proofs.Common.{take, drop, Result, Ok, refl, sym, ◌∙◌, arith, inl, inr}
use Rattle.std.specs.Prelude.{◌==◌, ◌≢◌, nat_lt, nat_le}
use Rattle.std.specs.Int.{Width, w32, w64, byte_len, from_be_bytes}
use Rattle.crc32c.specs.Remainders.{checksum_of}
use Rattle.std.proofs.lemmas.Bool.{cases_lt, le-ltb}
use Rattle.std.proofs.lemmas.List.{length-take-le}
use Rattle.snap_file.specs.Table.{Input, Fault, Contents, Reading, fault_at, number, refuse_if, Tally, cells_behind}
use Rattle.snap_file.specs.Table.{Progress, entry, entries_behind, base, batch, batches_behind, end, contents_of, ending}
use Rattle.snap_file.specs.Table.{rest_of, check, check_in}
use Rattle.snap_file.specs.Spelling.{checked_version}
use Rattle.snap_file.specs.declared.origin.Origin.{Origin}
use Rattle.snap_file.specs.Outcomes.{ShowsBehind, IsBehindHead}
use Rattle.snap_file.specs.declared.head.Head.{Head}
use Rattle.snap_file.specs.declared.fault.SnapFault.{SnapFault}
use Rattle.snap_file.specs.declared.fault.SnapFault.TheVariants.{BadMark, BadVersion, BadHead, BadBatch, OutOfOrder}
use Rattle.snap_file.specs.declared.fault.SnapFault.TheVariants.{RepeatedNumber, TotalDiffers, Truncated, ExtraBytes}
use Rattle.snap_file.specs.declared.fault.SnapFault.TheVariants.{BadCheck}
use Rattle.snap_file.proofs.EndLemmas.{end_here}
use Rattle.snap_file.proofs.Steady.{place_same, kind_same, number_short, refused_at, goes_on, end_more}

abbrev outcome : Type 0
outcome = Result Contents Fault

-- none of the head's
pub record IsNotOfHead (kind : SnapFault) : Type 0 where
  pub no_mark : kind ≢ BadMark
  pub no_version : kind ≢ BadVersion
  pub no_head : kind ≢ BadHead

-- A fault of this reading is none of the head's, and shows no earlier than where the reading begins.
pub record IsFromHere (left : Reading) : Type 0 where
  pub shows : (input : Input) (kind : SnapFault) (shown : ℕ) → left input ≡ fault_at kind shown →
      IsNotOfHead kind × (length input.before ≤ shown)

truncated : IsNotOfHead Truncated
truncated = record { no_mark = λ e. absurd cc; no_version = λ e. absurd cc; no_head = λ e. absurd cc }

pub bad_batch : IsNotOfHead BadBatch
bad_batch = record { no_mark = λ e. absurd cc; no_version = λ e. absurd cc; no_head = λ e. absurd cc }

out_of_order : IsNotOfHead OutOfOrder
out_of_order = record { no_mark = λ e. absurd cc; no_version = λ e. absurd cc; no_head = λ e. absurd cc }

repeated : IsNotOfHead RepeatedNumber
repeated = record { no_mark = λ e. absurd cc; no_version = λ e. absurd cc; no_head = λ e. absurd cc }

differs : IsNotOfHead TotalDiffers
differs = record { no_mark = λ e. absurd cc; no_version = λ e. absurd cc; no_head = λ e. absurd cc }

bad_check : IsNotOfHead BadCheck
bad_check = record { no_mark = λ e. absurd cc; no_version = λ e. absurd cc; no_head = λ e. absurd cc }

extra : IsNotOfHead ExtraBytes
extra = record { no_mark = λ e. absurd cc; no_version = λ e. absurd cc; no_head = λ e. absurd cc }

same_kind : (j k : SnapFault) → j ≡ k → IsNotOfHead j → IsNotOfHead k
same_kind j k e n = record {
  no_mark = λ h. n.no_mark (e ∙ h);
  no_version = λ h. n.no_version (e ∙ h);
  no_head = λ h. n.no_head (e ∙ h);
}

-- behind where the reading begins
farther : (at shown : ℕ) (kind : SnapFault) → IsNotOfHead kind → at < shown → ShowsBehind at shown kind
farther at shown kind n h = record {
  no_mark = n.no_mark;
  no_version = n.no_version;
  no_head = n.no_head;
  not_before = omega arith;
  total_alone = λ e. absurd (omega arith);
}

-- the fault that shows where the reading begins, where the total differs
here : (at shown : ℕ) (kind : SnapFault) → TotalDiffers ≡ kind → at ≡ shown → ShowsBehind at shown kind
here at shown kind e h =
    let n = same_kind TotalDiffers kind e differs in
    record {
      no_mark = n.no_mark;
      no_version = n.no_version;
      no_head = n.no_head;
      not_before = omega arith;
      total_alone = λ _. sym e;
    }

-- behind the head, so from here
pub from_here : (left : Reading) → IsBehindHead left → IsFromHere left
from_here left b = record {
  shows = λ input kind shown e.
      let s = b.shows input kind shown e in
      (record { no_mark = s.no_mark; no_version = s.no_version; no_head = s.no_head }, s.not_before);
}

pub tested : (test : Bool) (kind : SnapFault) (k : Unit {0} → Reading) → IsNotOfHead kind → IsFromHere (k tt) →
    IsFromHere (refuse_if test kind k)
tested true kind k n f = record {
  shows = λ input j shown e.
      let same = sym (refused_at k true kind input refl) ∙ e in
      let place = place_same kind j (length input.before) shown same in
      (same_kind kind j (kind_same kind j (length input.before) shown same) n, omega arith);
}
tested false kind k n f = record {
  shows = λ input j shown e. f.shows input j shown (sym (goes_on k false kind input refl) ∙ e);
}

-- a field that is there
field_there : (w : Width) (k : ℕ → Reading) (input : Input) → byte_len w ≤ length input.rest →
    number w k input ≡ k (from_be_bytes w (take (byte_len w) input.rest))
    (record { before = input.before ++ take (byte_len w) input.rest; rest = drop (byte_len w) input.rest })
unfolding number
field_there w k input long = rw (le-ltb (length input.rest) (byte_len w) long) refl

pub behind_field : (w : Width) (k : ℕ → Reading) → 0 < byte_len w → ((n : ℕ) → IsFromHere (k n)) →
    IsBehindHead (number w k)
behind_field w k wide each = record {
  shows = λ input kind shown e. elim (cases_lt (length input.rest) (byte_len w)) [
    | inl short ↦
        let same : fault_at Truncated (length input.before + length input.rest + 1) ≡ fault_at kind shown =
        sym (number_short w k input.before input.rest short) ∙ e in
        let place = place_same Truncated kind _ shown same in
        farther (length input.before) shown kind
        (same_kind Truncated kind (kind_same Truncated kind _ shown same) truncated)
        (omega arith)
    | inr long ↦
        let s = (each (from_be_bytes w (take (byte_len w) input.rest))).shows _ kind shown
        (sym (field_there w k input long) ∙ e) in
        let from = s.1 in
        let len = length-append input.before (take (byte_len w) input.rest) in
        let some = length-take-le (byte_len w) input.rest long in
        farther (length input.before) shown kind s.0 (omega arith)
  ];
}

pub field : (w : Width) (k : ℕ → Reading) → 0 < byte_len w → ((n : ℕ) → IsFromHere (k n)) → IsFromHere (number w k)
field w k wide each = from_here _ (behind_field w k wide each)

behind_choice : (test : Bool) (a b : Reading) → IsBehindHead a → IsBehindHead b → IsBehindHead (cond test a b)
behind_choice true a b s t = s
behind_choice false a b s t = t

behind_check : (k : Unit {0} → Reading) → IsBehindHead (k tt) → IsBehindHead (check k)
unfolding check
behind_check k b = record {
  shows = λ input kind shown e.
      let field = behind_field w32 (λ n. refuse_if (not (n == checksum_of input.before)) BadCheck k) (omega arith)
      (λ n. tested _ BadCheck k bad_check (from_here _ b)) in
      field.shows input kind shown e;
}

pub behind_check_in : (v : ℕ) (k : Unit {0} → Reading) → IsBehindHead (k tt) → IsBehindHead (check_in v k)
unfolding check_in
behind_check_in v k b = behind_choice (nat_le checked_version v) (check k) (k tt) (behind_check k b) b

pub behind_cells : (h : Head) (top n : ℕ) (tally : Tally) (k : Tally → Reading) →
    ((t : Tally) → IsBehindHead (k t)) → IsBehindHead (cells_behind h top n tally k)
unfolding cells_behind
behind_cells h top zero tally k each = each tally
behind_cells h top (suc n) tally k each =
    behind_field w64 _ (omega arith) (λ row. tested _ BadBatch _ bad_batch
    (field w64 _ (omega arith) (λ col. tested _ BadBatch _ bad_batch (tested _ OutOfOrder _ out_of_order
    (field w64 _ (omega arith) (λ count. tested _ TotalDiffers _ differs
    (from_here _ (behind_cells h top n _ k each))))))))

-- a batch whose pair was read
pub behind_pair : (h : Head) (top : ℕ) (n : ℕ → Tally) (k : Tally → Reading) → ((t : Tally) → IsBehindHead (k t)) →
    IsBehindHead (number w64 (λ entry_count. cells_behind h top entry_count (n entry_count) k))
behind_pair h top n k each =
    behind_field w64 _ (omega arith) (λ entry_count. from_here _ (behind_cells h top entry_count _ k each))

behind_batch : (h : Head) (p : Progress) (k : Progress → Reading) → ((q : Progress) → IsBehindHead (k q)) →
    IsBehindHead (batch h p k)
unfolding batch
behind_batch h p k each =
    behind_field w64 _ (omega arith) (λ client. field w64 _ (omega arith) (λ batch_number.
    tested _ RepeatedNumber _ repeated (from_here _ (behind_pair h h.total _ _ (λ t. each _)))))

pub behind_batches : (h : Head) (n : ℕ) (p : Progress) (k : Progress → Reading) →
    ((q : Progress) → IsBehindHead (k q)) → IsBehindHead (batches_behind h n p k)
unfolding batches_behind
behind_batches h zero p k each = each p
behind_batches h (suc n) p k each =
    behind_batch h p _ (λ q. behind_check_in h.version _ (behind_batches h n q k each))

ended : (c : Contents) (before rest : List ℕ) (kind : SnapFault) (shown : ℕ) →
    end c (record { before = before; rest = rest }) ≡ fault_at kind shown → ShowsBehind (length before) shown kind
ended c before [] kind shown e =
    absurd (let same : ◌≡◌ {A = outcome} (Ok c) (fault_at kind shown) = sym (end_here c before) ∙ e
    in cc)
ended c before (x ∷ rest) kind shown e =
    let same = sym (end_more c before x rest) ∙ e in
    let place = place_same ExtraBytes kind (length before + 1) shown same in
    farther (length before) shown kind
    (same_kind ExtraBytes kind (kind_same ExtraBytes kind (length before + 1) shown same) extra)
    (omega arith)

pub behind_end : (c : Contents) → IsBehindHead (end c)
behind_end c = record { shows = λ input kind shown e. ended c input.before input.rest kind shown e }

-- a sum is judged, and what follows is behind the head
pub behind_sum : (test : Bool) (left : Reading) → IsBehindHead left →
    IsBehindHead (refuse_if test TotalDiffers (λ _. left))
behind_sum true left b = record {
  shows = λ input kind shown e.
      let same = sym (refused_at (λ _. left) true TotalDiffers input refl) ∙ e in
      here (length input.before) shown kind (kind_same TotalDiffers kind (length input.before) shown same)
      (place_same TotalDiffers kind (length input.before) shown same);
}
behind_sum false left b = record {
  shows = λ input kind shown e. b.shows input kind shown
      (sym (goes_on (λ _. left) false TotalDiffers input refl) ∙ e);
}

pub behind_ending : (h : Head) (o : Origin) (p : Progress) → IsBehindHead (ending h o p)
behind_ending h o p = behind_sum (not (p.counted == h.total)) _ (behind_end (contents_of h o p))

-- ---- what is folded

-- an entry whose pair was read
pub behind_numbers : (h : Head) (counted : ℕ) (k : ℕ → ℕ → Reading) → ((m n : ℕ) → IsBehindHead (k m n)) →
    IsBehindHead (number w64 (λ cells. number w64 (λ total.
    refuse_if (nat_lt h.total (counted + total)) TotalDiffers (λ _. k cells total))))
behind_numbers h counted k each =
    behind_field w64 _ (omega arith) (λ cells. field w64 _ (omega arith) (λ total.
    tested _ TotalDiffers _ differs (from_here _ (each cells total))))

behind_entry : (h : Head) (p : Progress) (k : Progress → Reading) → ((q : Progress) → IsBehindHead (k q)) →
    IsBehindHead (entry h p k)
unfolding entry
behind_entry h p k each =
    behind_field w64 _ (omega arith) (λ client. field w64 _ (omega arith) (λ batch_number.
    tested _ RepeatedNumber _ repeated (from_here _ (behind_numbers h p.counted _ (λ m n. each _)))))

pub behind_entries : (h : Head) (n : ℕ) (p : Progress) (k : Progress → Reading) →
    ((q : Progress) → IsBehindHead (k q)) → IsBehindHead (entries_behind h n p k)
unfolding entries_behind
behind_entries h zero p k each = each p
behind_entries h (suc n) p k each = behind_entry h p _ (λ q. behind_entries h n q k each)

pub behind_base : (h : Head) (p : Progress) (k : Progress → Reading) → ((q : Progress) → IsBehindHead (k q)) →
    IsBehindHead (base h p k)
unfolding base
behind_base h p k each =
    behind_field w64 _ (omega arith) (λ entry_count. tested _ BadBatch _ bad_batch
    (from_here _ (behind_cells h p.counted entry_count _ _ (λ t. behind_sum _ _ (each _)))))

pub behind_rest : (h : Head) (o : Origin) (p : Progress) → IsBehindHead (rest_of h o p)
behind_rest h o p = behind_batches h h.batches p (ending h o) (λ q. behind_ending h o q)
