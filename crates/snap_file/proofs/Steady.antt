-- A fault that shows within the bytes stays the first, whatever follows the place where it shows.
use Rattle.std.proofs.Common.{◌≡◌, ℕ, zero, suc, ◌+◌, ◌<◌, ◌≤◌, Bool, true, false, cond, not, eqb, ltb, List, [], ◌∷◌, ◌++◌}
use Rattle.std.proofs.Common.{length, take, drop, Result, Ok, refl, sym, ap, ◌∙◌, append_assoc, length-append, arith}
use Rattle.std.proofs.Common.{inl, inr}
use Rattle.std.proofs.lemmas.Bool.{cases_lt, lt-ltb, le-ltb, ne_eqb}
use Rattle.std.proofs.lemmas.List.{take-append-drop, length-drop, take_at, drop_at, length-take-le}
use Rattle.std.specs.Prelude.{◌==◌, nat_le}
use Rattle.std.specs.Int.{Width, w32, byte_len, from_be_bytes}
use Rattle.snap_file.specs.Table.{Input, Fault, Contents, Reading, fault_at, number, refuse_if, head, cuts_behind}
use Rattle.snap_file.specs.Table.{Tally, cells_behind, Progress, entry, entries_behind, base, folded_past, past, batch}
use Rattle.snap_file.specs.Table.{batches_behind, end, nothing_yet, whole, reading_of, check, check_in, named, origin_by}
use Rattle.snap_file.specs.Spelling.{old_version, checked_version, version}
use Rattle.snap_file.specs.Origins.{unknown}
use Rattle.snap_file.specs.declared.origin.Origin.{Origin}
use Rattle.crc32c.specs.Remainders.{checksum_of}
use Rattle.snap_file.specs.declared.head.Head.{Head}
use Rattle.snap_file.specs.declared.fault.SnapFault.{SnapFault}
use Rattle.snap_file.specs.declared.fault.SnapFault.TheVariants.{Truncated, ExtraBytes, BadCheck}

-- The fault shows behind a front of the rest, which alone decides.
pub record ShowsIn (r : Reading) (before rest : List ℕ) (kind : SnapFault) (place : ℕ) : Type 0 where
  pub front : List ℕ
  pub behind : List ℕ
  pub parts : rest ≡ front ++ behind
  pub place_is : length before + length front ≡ place
  pub stays : (more : List ℕ) → r (record { before = before; rest = front ++ more }) ≡ fault_at kind place

pub record IsSteady (r : Reading) : Type 0 where
  pub shows : (before rest : List ℕ) (kind : SnapFault) (place : ℕ) →
      r (record { before = before; rest = rest }) ≡ fault_at kind place → place ≤ length before + length rest →
      ShowsIn r before rest kind place

abbrev outcome : Type 0
outcome = Result Contents Fault

pub place_same : (j k : SnapFault) (p q : ℕ) → fault_at j p ≡ fault_at k q → p ≡ q
place_same j k p q e =
    let whole : ◌≡◌ {A = outcome} (fault_at j p) (fault_at k q) = e in
    let same : ◌≡◌ {A = Fault} (record { kind = j; place = p }) (record { kind = k; place = q }) = cc in
    ap (λ (f : Fault). f.place) same

pub kind_same : (j k : SnapFault) (p q : ℕ) → fault_at j p ≡ fault_at k q → j ≡ k
kind_same j k p q e =
    let whole : ◌≡◌ {A = outcome} (fault_at j p) (fault_at k q) = e in
    let same : ◌≡◌ {A = Fault} (record { kind = j; place = p }) (record { kind = k; place = q }) = cc in
    ap (λ (f : Fault). f.kind) same

-- a field of which bytes are missing
pub number_short : (w : Width) (k : ℕ → Reading) (before rest : List ℕ) → length rest < byte_len w →
    number w k (record { before = before; rest = rest }) ≡ fault_at Truncated (length before + length rest + 1)
unfolding number
number_short w k before rest h = rw (lt-ltb (length rest) (byte_len w) h) refl

-- a field whose bytes are there, in front of others
pub number_there : (w : Width) (k : ℕ → Reading) (before field more : List ℕ) → length field ≡ byte_len w →
    number w k (record { before = before; rest = field ++ more }) ≡
    k (from_be_bytes w field) (record { before = before ++ field; rest = more })
unfolding number
number_there w k before field more len =
    let long : ltb (length (field ++ more)) (byte_len w) ≡ false = le-ltb _ _
    (omega (arith, length-append field more)) in
    rw (long, take_at field more (byte_len w) len, drop_at field more (byte_len w) len) refl

pub steady_number : (w : Width) (k : ℕ → Reading) → ((n : ℕ) → IsSteady (k n)) → IsSteady (number w k)
steady_number w k each = record {
  shows = λ before rest kind place e within. elim (cases_lt (length rest) (byte_len w)) [
    | inl short ↦ absurd (let p = place_same kind Truncated place (length before + length rest + 1)
        (sym e ∙ number_short w k before rest short) in omega arith)
    | inr long ↦ there before rest kind place e within long
  ];
}
  where
    there : (before rest : List ℕ) (kind : SnapFault) (place : ℕ) →
        number w k (record { before = before; rest = rest }) ≡ fault_at kind place →
        place ≤ length before + length rest →
        byte_len w ≤ length rest → ShowsIn (number w k) before rest kind place
    there before rest kind place e within long =
        let field = take (byte_len w) rest in
        let after = drop (byte_len w) rest in
        let len : length field ≡ byte_len w = length-take-le (byte_len w) rest long in
        let n = from_be_bytes w field in
        let whole : field ++ after ≡ rest = take-append-drop (byte_len w) rest in
        let inner : k n (record { before = before ++ field; rest = after }) ≡ fault_at kind place =
        sym (number_there w k before field after len) ∙ ap (λ (l : List ℕ). number w k
        (record { before = before; rest = l })) whole ∙ e in
        let b = length-append before field in
        let s = (each n).shows (before ++ field) after kind place inner
        (let d = length-drop (byte_len w) rest in omega arith) in
        let at_is = s.place_is in
        record {
          front = field ++ s.front;
          behind = s.behind;
          parts = sym whole ∙ ap (λ (l : List ℕ). field ++ l) s.parts ∙ sym (append_assoc field s.front s.behind);
          place_is = let a = length-append field s.front in omega arith;
          stays = λ more.
              ap (λ (l : List ℕ). number w k (record { before = before; rest = l })) (append_assoc field s.front more)
              ∙ number_there w k before field (s.front ++ more) len ∙ s.stays more;
        }

pub refused_at : (k : Unit {0} → Reading) (test : Bool) (kind : SnapFault) (input : Input) → test ≡ true →
    refuse_if test kind k input ≡ fault_at kind (length input.before)
unfolding refuse_if
refused_at k test kind input e = rw e refl

pub goes_on : (k : Unit {0} → Reading) (test : Bool) (kind : SnapFault) (input : Input) → test ≡ false →
    refuse_if test kind k input ≡ k tt input
unfolding refuse_if
goes_on k test kind input e = rw e refl

pub steady_test : (test : Bool) (kind : SnapFault) (k : Unit {0} → Reading) → IsSteady (k tt) →
    IsSteady (refuse_if test kind k)
unfolding refuse_if
steady_test true kind k s = record {
  shows = λ before rest j place e within.
      let p = place_same kind j (length before) place e in
      record { front = []; behind = rest; parts = refl; place_is = omega arith; stays = λ more. e };
}
steady_test false kind k s = record {
  shows = λ before rest j place e within.
      let x = s.shows before rest j place e within in
      record { front = x.front; behind = x.behind; parts = x.parts; place_is = x.place_is; stays = x.stays };
}

steady_choice : (test : Bool) (a b : Reading) → IsSteady a → IsSteady b → IsSteady (cond test a b)
steady_choice true a b s t = s
steady_choice false a b s t = t

-- a checksum of one front of the file, which is the bytes before the field
steady_check : (k : Unit {0} → Reading) → IsSteady (k tt) → IsSteady (check k)
unfolding check
steady_check k s = record {
  shows = λ before rest kind place e within.
      let field = steady_number w32 (λ n. refuse_if (not (n == checksum_of before)) BadCheck k)
      (λ n. steady_test _ _ _ s) in
      let x = field.shows before rest kind place e within in
      record { front = x.front; behind = x.behind; parts = x.parts; place_is = x.place_is; stays = x.stays };
}

steady_check_in : (v : ℕ) (k : Unit {0} → Reading) → IsSteady (k tt) → IsSteady (check_in v k)
unfolding check_in
steady_check_in v k s = steady_choice (nat_le checked_version v) (check k) (k tt) (steady_check k s) s

steady_cuts : (n least : ℕ) (done : List ℕ) (k : List ℕ → Reading) → ((l : List ℕ) → IsSteady (k l)) →
    IsSteady (cuts_behind n least done k)
unfolding cuts_behind
steady_cuts zero least done k each = each done
steady_cuts (suc n) least done k each =
    steady_number _ _ (λ cut. steady_test _ _ _ (steady_cuts n (cut + 1) (done ++ cut ∷ []) k each))

steady_head : (k : Head → Reading) → ((h : Head) → IsSteady (k h)) → IsSteady (head k)
unfolding head
steady_head k each =
    steady_number _ _ (λ first. steady_test _ _ _
    (steady_number _ _ (λ second. steady_test _ _ _
    (steady_number _ _ (λ rows. steady_test _ _ _
    (steady_number _ _ (λ cols. steady_test _ _ _
    (steady_number _ _ (λ cut_count. steady_test _ _ _
    (steady_cuts cut_count 1 [] _ (λ cuts.
    steady_number _ _ (λ shards. steady_test _ _ _
    (steady_number _ _ (λ limit. steady_test _ _ _
    (steady_number _ _ (λ max_batches. steady_test _ _ _
    (steady_number _ _ (λ batches. steady_test _ _ _
    (steady_number _ _ (λ total. steady_test _ _ _ (each _)))))))))))))))))))))

steady_named : (k : Origin → Reading) → ((o : Origin) → IsSteady (k o)) → IsSteady (named k)
unfolding named
steady_named k each =
    steady_number _ _ (λ high. steady_number _ _ (λ low. steady_number _ _ (λ window.
    steady_number _ _ (λ flag. steady_test _ _ _ (each _)))))

steady_origin : (v : ℕ) (k : Origin → Reading) → ((o : Origin) → IsSteady (k o)) → IsSteady (origin_by v k)
unfolding origin_by
steady_origin v k each = steady_choice (v == version) (named k) (k unknown) (steady_named k each) (each unknown)

pub steady_cells : (h : Head) (top n : ℕ) (tally : Tally) (k : Tally → Reading) → ((t : Tally) → IsSteady (k t)) →
    IsSteady (cells_behind h top n tally k)
unfolding cells_behind
steady_cells h top zero tally k each = each tally
steady_cells h top (suc n) tally k each =
    steady_number _ _ (λ row. steady_test _ _ _
    (steady_number _ _ (λ col. steady_test _ _ _ (steady_test _ _ _
    (steady_number _ _ (λ count. steady_test _ _ _ (steady_cells h top n _ k each)))))))

steady_entry : (h : Head) (p : Progress) (k : Progress → Reading) → ((q : Progress) → IsSteady (k q)) →
    IsSteady (entry h p k)
unfolding entry
steady_entry h p k each =
    steady_number _ _ (λ client. steady_number _ _ (λ batch_number. steady_test _ _ _
    (steady_number _ _ (λ cells. steady_number _ _ (λ total. steady_test _ _ _ (each _))))))

steady_entries : (h : Head) (n : ℕ) (p : Progress) (k : Progress → Reading) → ((q : Progress) → IsSteady (k q)) →
    IsSteady (entries_behind h n p k)
unfolding entries_behind
steady_entries h zero p k each = each p
steady_entries h (suc n) p k each = steady_entry h p _ (λ q. steady_entries h n q k each)

steady_base : (h : Head) (p : Progress) (k : Progress → Reading) → ((q : Progress) → IsSteady (k q)) →
    IsSteady (base h p k)
unfolding base
steady_base h p k each =
    steady_number _ _ (λ entry_count. steady_test _ _ _
    (steady_cells h p.counted entry_count _ _ (λ t. steady_test _ _ _ (each _))))

steady_folded : (h : Head) (k : Progress → Reading) → ((q : Progress) → IsSteady (k q)) → IsSteady (folded_past h k)
unfolding folded_past
steady_folded h k each =
    steady_number _ _ (λ folded. steady_test _ _ _
    (steady_entries h folded nothing_yet _ (λ q. steady_base h q k each)))

steady_past : (h : Head) (k : Progress → Reading) → ((q : Progress) → IsSteady (k q)) → IsSteady (past h k)
unfolding past
steady_past h k each = steady_choice (h.version == old_version) (k nothing_yet) (folded_past h k)
    (each nothing_yet) (steady_folded h k each)

steady_batch : (h : Head) (p : Progress) (k : Progress → Reading) → ((q : Progress) → IsSteady (k q)) →
    IsSteady (batch h p k)
unfolding batch
steady_batch h p k each =
    steady_number _ _ (λ client. steady_number _ _ (λ batch_number. steady_test _ _ _
    (steady_number _ _ (λ entry_count. steady_cells h h.total entry_count _ _ (λ t. each _)))))

steady_batches : (h : Head) (n : ℕ) (p : Progress) (k : Progress → Reading) → ((q : Progress) → IsSteady (k q)) →
    IsSteady (batches_behind h n p k)
unfolding batches_behind
steady_batches h zero p k each = each p
steady_batches h (suc n) p k each =
    steady_batch h p _ (λ q. steady_check_in h.version _ (steady_batches h n q k each))

pub end_more : (c : Contents) (before : List ℕ) (x : ℕ) (rest : List ℕ) →
    end c (record { before = before; rest = x ∷ rest }) ≡ fault_at ExtraBytes (length before + 1)
unfolding end
end_more c before x rest = let some : eqb (length (x ∷ rest)) 0 ≡ false =
    ne_eqb (length (x ∷ rest)) 0 (λ e. omega arith) in
    rw some refl

pub steady_end : (c : Contents) → IsSteady (end c)
unfolding end
steady_end c = record { shows = shows }
  where
    shows : (before rest : List ℕ) (kind : SnapFault) (place : ℕ) →
        end c (record { before = before; rest = rest }) ≡ fault_at kind place → place ≤ length before + length rest →
        ShowsIn (end c) before rest kind place
    shows before [] kind place e within = absurd (let same : ◌≡◌ {A = outcome} (Ok c) (fault_at kind place) = e in cc)
    shows before (x ∷ rest) kind place e within =
        let f = sym (end_more c before x rest) ∙ e in
        let p = place_same ExtraBytes kind (length before + 1) place f in record {
          front = x ∷ [];
          behind = rest;
          parts = refl;
          place_is = p;
          stays = λ more. end_more c before x more ∙ f;
        }

steady_whole : IsSteady whole
steady_whole = steady_head _ (λ h. steady_origin h.version _ (λ o. steady_check_in h.version _
    (steady_past h _ (λ p. steady_check_in h.version _ (steady_batches h h.batches p _
    (λ q. steady_test _ _ _ (steady_end _)))))))

pub steady : (bytes : List ℕ) (kind : SnapFault) (place : ℕ) → reading_of bytes ≡ fault_at kind place →
    place ≤ length bytes →
    (front behind : List ℕ) × (bytes ≡ front ++ behind) × (length front ≡ place) ×
    ((more : List ℕ) → reading_of (front ++ more) ≡ fault_at kind place)
unfolding reading_of
steady bytes kind place e within =
    let s = steady_whole.shows [] bytes kind place e (omega arith) in
    let p = s.place_is in
    (s.front, s.behind, s.parts, omega arith, s.stays)
