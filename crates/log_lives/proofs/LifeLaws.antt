-- What every lawful run keeps.
use Rattle.std.proofs.Common.{◌≡◌, ℕ, ◌+◌, ◌-◌, ◌<◌, ◌≤◌, ◌⊎◌, inl, inr, Bool, true, false, List, [], ◌∷◌, ◌++◌, length}
use Rattle.std.proofs.Common.{drop, slice_get, refl, ap, sym, ◌∙◌, subst, arith, append_assoc}
use Rattle.std.specs.List.{IsDistinct}
use Rattle.std.proofs.lemmas.Bool.{cases_lt}
use Rattle.std.proofs.lemmas.List.{append-nil, length-append}
use mathlib.Core.List.{IsPrefix}
use Rattle.batch_store.specs.declared.verdict.Entry.{Entry}
use Rattle.batch_store.specs.declared.verdict.Verdict.TheVariants.{Known}
use Rattle.batch_store.specs.Verdicts.{verdict_of, same_pair}
use Rattle.batch_store.proofs.VerdictLaws.{fresh_is, none_same, distinct_nil, distinct_push}
use Rattle.log_lives.specs.Lives.{Log, log, Answer, World, Event, IsAmong, IsTaken, Outcome, Begins, Steps, Runs, at_first}
use Rattle.log_lives.specs.Lives.{up_to_end, read_as, restored, snapshots_of, logs_of}
use Rattle.log_lives.specs.Lives.{Admits, Appends, Syncs, Acknowledges, RenamesSnapshot, RenamesLog, LosesPower, Settles}
use Rattle.log_lives.specs.Lives.Event.{Admit, Append, Sync, Fail, Acknowledge, RenameSnapshot, RenameLog}
use Rattle.log_lives.specs.Lives.Event.{SyncSnapshotName, SyncLogName, Kill, LosePower, Settle, Start}
use Rattle.log_lives.proofs.Prefixes.{prefix_self, prefix_push, prefix_trans, prefix_front, prefix_shorter, prefix_length}
use Rattle.log_lives.proofs.Prefixes.{prefixes_agree, joined_longer, joined_shorter}
use Rattle.log_lives.proofs.Kept.{IsKept, kept_of_known, known_of_kept, kept_longer, kept_shorter, distinct_prefix}

-- The book has distinct pairs, every snapshot and every log that a loss of power may leave begins it, each log begins
-- within each snapshot, and every batch that was acknowledged stands in the book and in each log.
pub record Keeps (book : List Entry) (answers : List Answer) (snapshots : List (List Entry)) (logs : List Log) : Type 0
  where
    pub distinct : IsDistinct same_pair book
    pub listed : (s : List Entry) → IsAmong s snapshots → IsPrefix s book
    pub logged : (l : Log) → IsAmong l logs → IsPrefix (up_to_end l ++ l.torn) book
    pub linked : (s : List Entry) (l : Log) → IsAmong s snapshots → IsAmong l logs → length l.before ≤ length s
    pub kept : (a : Answer) → IsAmong a answers → IsKept book a
    pub durable : (a : Answer) (l : Log) → IsAmong a answers → IsAmong l logs → a.kept.index < length (up_to_end l)

abbrev pub KeepsAll : World → Type 0
KeepsAll w = Keeps w.book w.answers (snapshots_of w) (logs_of w)

-- == One change after another

longer_book : (xs ys : List Entry) (ws : List Answer) (ss : List (List Entry)) (ls : List Log) → IsPrefix xs ys →
    IsDistinct same_pair ys → Keeps xs ws ss ls → Keeps ys ws ss ls
longer_book xs ys ws ss ls p distinct h = record {
  distinct = distinct;
  listed = λ s among. prefix_trans s xs ys (h.listed s among) p;
  logged = λ l among. prefix_trans (up_to_end l ++ l.torn) xs ys (h.logged l among) p;
  linked = h.linked;
  kept = λ a among. kept_longer xs ys a p (h.kept a among);
  durable = h.durable;
}

fewer : (book : List Entry) (ws : List Answer) (ss ts : List (List Entry)) (ls ms : List Log) →
    ((s : List Entry) → IsAmong s ts → IsAmong s ss) → ((l : Log) → IsAmong l ms → IsAmong l ls) →
    Keeps book ws ss ls → Keeps book ws ts ms
fewer book ws ss ts ls ms f g h = record {
  distinct = h.distinct;
  listed = λ s among. h.listed s (f s among);
  logged = λ l among. h.logged l (g l among);
  linked = λ s l x y. h.linked s l (f s x) (g l y);
  kept = h.kept;
  durable = λ a l x y. h.durable a l x (g l y);
}

one_log : (book : List Entry) (ws : List Answer) (ss : List (List Entry)) (ls : List Log) (l : Log) →
    IsPrefix (up_to_end l ++ l.torn) book → ((s : List Entry) → IsAmong s ss → length l.before ≤ length s) →
    ((a : Answer) → IsAmong a ws → a.kept.index < length (up_to_end l)) →
    Keeps book ws ss ls → Keeps book ws ss (l ∷ ls)
one_log book ws ss ls l begins within durable h = record {
  distinct = h.distinct;
  listed = h.listed;
  logged = logged;
  linked = linked;
  kept = h.kept;
  durable = lasting;
}
  where
    logged : (x : Log) → IsAmong x (l ∷ ls) → IsPrefix (up_to_end x ++ x.torn) book
    logged x (inl e) = subst (λ (y : Log). IsPrefix (up_to_end y ++ y.torn) book) (sym e) begins
    logged x (inr r) = h.logged x r

    linked : (s : List Entry) (x : Log) → IsAmong s ss → IsAmong x (l ∷ ls) → length x.before ≤ length s
    linked s x among (inl e) = subst (λ (y : Log). length y.before ≤ length s) (sym e) (within s among)
    linked s x among (inr r) = h.linked s x among r

    lasting : (a : Answer) (x : Log) → IsAmong a ws → IsAmong x (l ∷ ls) → a.kept.index < length (up_to_end x)
    lasting a x among (inl e) = subst (λ (y : Log). a.kept.index < length (up_to_end y)) (sym e) (durable a among)
    lasting a x among (inr r) = h.durable a x among r

one_snapshot : (book : List Entry) (ws : List Answer) (ss : List (List Entry)) (ls : List Log) (s : List Entry) →
    IsPrefix s book → ((l : Log) → IsAmong l ls → length l.before ≤ length s) →
    Keeps book ws ss ls → Keeps book ws (s ∷ ss) ls
one_snapshot book ws ss ls s begins within h = record {
  distinct = h.distinct;
  listed = listed;
  logged = h.logged;
  linked = linked;
  kept = h.kept;
  durable = h.durable;
}
  where
    listed : (x : List Entry) → IsAmong x (s ∷ ss) → IsPrefix x book
    listed x (inl e) = subst (λ y. IsPrefix y book) (sym e) begins
    listed x (inr r) = h.listed x r

    linked : (x : List Entry) (l : Log) → IsAmong x (s ∷ ss) → IsAmong l ls → length l.before ≤ length x
    linked x l (inl e) among = subst (λ y. length l.before ≤ length y) (sym e) (within l among)
    linked x l (inr r) among = h.linked x l r among

one_answer : (book : List Entry) (ws : List Answer) (ss : List (List Entry)) (ls : List Log) (a : Answer) →
    IsKept book a → ((l : Log) → IsAmong l ls → a.kept.index < length (up_to_end l)) →
    Keeps book ws ss ls → Keeps book (a ∷ ws) ss ls
one_answer book ws ss ls a is durable h = record {
  distinct = h.distinct;
  listed = h.listed;
  logged = h.logged;
  linked = h.linked;
  kept = kept;
  durable = lasting;
}
  where
    kept : (x : Answer) → IsAmong x (a ∷ ws) → IsKept book x
    kept x (inl e) = subst (λ (y : Answer). IsKept book y) (sym e) is
    kept x (inr r) = h.kept x r

    lasting : (x : Answer) (l : Log) → IsAmong x (a ∷ ws) → IsAmong l ls → x.kept.index < length (up_to_end l)
    lasting x l (inl e) among = subst (λ (y : Answer). y.kept.index < length (up_to_end l)) (sym e) (durable l among)
    lasting x l (inr r) among = h.durable x l r among

head_only : {X : Type 0} (x y : X) (ys : List X) → IsAmong y (x ∷ []) → IsAmong y (x ∷ ys)
head_only x y ys (inl e) = inl e
head_only x y ys (inr r) = absurd r

-- == The last block, read ws whole or left out

read_begins : (l : Log) (whole : Bool) (book : List Entry) → IsPrefix (up_to_end l ++ l.torn) book →
    IsPrefix (up_to_end (read_as l whole) ++ (read_as l whole).torn) book
read_begins l true book p =
    subst (λ x. IsPrefix x book)
    (append_assoc l.before l.whole l.torn ∙ sym (append-nil (l.before ++ (l.whole ++ l.torn)))) p
read_begins l false book p =
    subst (λ x. IsPrefix x book) (sym (append-nil (up_to_end l))) (prefix_front (up_to_end l) l.torn book p)

read_no_shorter : (l : Log) (whole : Bool) → length (up_to_end l) ≤ length (up_to_end (read_as l whole))
read_no_shorter l true =
    omega (
      arith,
      length-append l.before l.whole,
      length-append l.before (l.whole ++ l.torn),
      length-append l.whole l.torn,
    )
read_no_shorter l false = omega arith

read_before : (l : Log) (whole : Bool) → (read_as l whole).before ≡ l.before
read_before l true = refl
read_before l false = refl

-- the log in use takes another form, in which it has no less
reformed : (w : World) (l : Log) → l.before ≡ w.log.before → IsPrefix (up_to_end l ++ l.torn) w.book →
    length (up_to_end w.log) ≤ length (up_to_end l) → KeepsAll w →
    Keeps w.book w.answers (snapshots_of w) (l ∷ w.older_logs)
reformed w l same begins no_shorter h =
    one_log w.book w.answers (snapshots_of w) w.older_logs l begins
    (λ s among. let le = h.linked s w.log among (inl refl) in omega (arith, le, ap length same))
    (λ a among. let lt = h.durable a w.log among (inl refl) in omega (arith, lt, no_shorter))
    (fewer w.book w.answers (snapshots_of w) (snapshots_of w) (logs_of w) w.older_logs (λ s x. x) (λ l x. inr x) h)

-- == What a start gives

-- the list of a start is that of the snapshot or that of the log, whichever goes further
abbrev IsLonger : List Entry → Log → Type 0
IsLonger s l = ((restored s l ≡ s) × (length (up_to_end l) ≤ length s))
    ⊎ ((restored s l ≡ up_to_end l) × (length s ≤ length (up_to_end l)))

restored_is : (s : List Entry) (l : Log) (book : List Entry) → IsPrefix s book → IsPrefix (up_to_end l) book →
    length l.before ≤ length s → IsLonger s l
restored_is s l book p q le = by (cases_lt (length s) (length (up_to_end l)))
  where
    by : (length s < length (up_to_end l)) ⊎ (length (up_to_end l) ≤ length s) → IsLonger s l
    by (inl lt) = inr (joined_longer s l.before l.whole book p q le (omega arith), omega arith)
    by (inr ge) = inl (joined_shorter s l.before l.whole ge, ge)

-- it begins the book, and has all that the snapshot and the log have
pub record Covers (s : List Entry) (l : Log) (book list : List Entry) : Type 0 where
  pub begins : IsPrefix list book
  pub snapshot : IsPrefix s list
  pub log_in : IsPrefix (up_to_end l) list

restored_covers : (s : List Entry) (l : Log) (book : List Entry) → IsPrefix s book → IsPrefix (up_to_end l) book →
    length l.before ≤ length s → Covers s l book (restored s l)
restored_covers s l book p q le = by (restored_is s l book p q le)
  where
    by : IsLonger s l → Covers s l book (restored s l)
    by (inl (e, ge)) = subst (λ x. Covers s l book x) (sym e) (record {
      begins = p;
      snapshot = prefix_self s;
      log_in = prefix_shorter (up_to_end l) s book q p ge;
    })
    by (inr (e, up)) = subst (λ x. Covers s l book x) (sym e) (record {
      begins = q;
      snapshot = prefix_shorter s (up_to_end l) book p q up;
      log_in = prefix_self (up_to_end l);
    })

shorter_book : (xs ys : List Entry) (ws : List Answer) (ss : List (List Entry)) (ls : List Log) → IsPrefix xs ys →
    ((s : List Entry) → IsAmong s ss → IsPrefix s xs) →
    ((l : Log) → IsAmong l ls → IsPrefix (up_to_end l ++ l.torn) xs) →
    ((a : Answer) → IsAmong a ws → a.kept.index < length xs) → Keeps ys ws ss ls → Keeps xs ws ss ls
shorter_book xs ys ws ss ls p listed logged within h = record {
  distinct = distinct_prefix xs ys p h.distinct;
  listed = listed;
  logged = logged;
  linked = h.linked;
  kept = λ a among. kept_shorter xs ys a p (within a among) (h.kept a among);
  durable = h.durable;
}

-- where nothing else may be left under a name, what is left is what is there
pub alone : {X : Type 0} (x y : X) (ys : List X) → ys ≡ [] → IsAmong y (x ∷ ys) → y ≡ x
alone x y ys none (inl e) = e
alone {X} x y ys none (inr r) = absurd (subst (λ (zs : List X). IsAmong y zs) none r)

begun_keeps : (w : World) (list : List Entry) (u : World) → KeepsAll w → Begins w list u → KeepsAll u
begun_keeps w list u h b = subst KeepsAll (sym b.now) (shorter_book list w.book w.answers (snapshots_of w) (logs_of w)
    covers.begins listed logged within h)
  where
    found : Covers w.snapshot w.log w.book (restored w.snapshot w.log)
    found = restored_covers w.snapshot w.log w.book (h.listed w.snapshot (inl refl))
        (prefix_front (up_to_end w.log) w.log.torn w.book (h.logged w.log (inl refl)))
        (h.linked w.snapshot w.log (inl refl) (inl refl))

    covers : Covers w.snapshot w.log w.book list
    covers = subst (λ x. Covers w.snapshot w.log w.book x) (sym b.list_is) found

    listed : (s : List Entry) → IsAmong s (snapshots_of w) → IsPrefix s list
    listed s among =
        subst (λ x. IsPrefix x list) (sym (alone w.snapshot s w.older_snapshots b.snapshot_named among)) covers.snapshot

    whole : IsPrefix (up_to_end w.log ++ w.log.torn) list
    whole = subst (λ x. IsPrefix x list)
        (sym (append-nil (up_to_end w.log)) ∙ ap (λ x. up_to_end w.log ++ x) (sym b.settled)) covers.log_in

    logged : (l : Log) → IsAmong l (logs_of w) → IsPrefix (up_to_end l ++ l.torn) list
    logged l among =
        subst (λ (x : Log). IsPrefix (up_to_end x ++ x.torn) list) (sym (alone w.log l w.older_logs b.log_named among))
        whole

    within : (a : Answer) → IsAmong a w.answers → a.kept.index < length list
    within a among =
        let lt = h.durable a w.log among (inl refl) in
        let le = prefix_length (up_to_end w.log) list covers.log_in in
        omega (arith, lt, le)

renamed_keeps : (w : World) (before whole : List Entry) (u : World) → KeepsAll w → RenamesLog w before whole u →
    KeepsAll u
renamed_keeps w before whole u h r = subst KeepsAll (sym r.now)
    (one_log w.book w.answers (snapshots_of w) (logs_of w) (log before whole [])
    (subst (λ x. IsPrefix x w.book) (sym (append-nil (before ++ whole))) r.taken) within durable h)
  where
    within : (s : List Entry) → IsAmong s (snapshots_of w) → length before ≤ length s
    within s among =
        let is = alone w.snapshot s w.older_snapshots r.named among in
        let le = prefix_length before w.snapshot r.begins in
        omega (arith, le, ap length is)

    durable : (a : Answer) → IsAmong a w.answers → a.kept.index < length (before ++ whole)
    durable a among = let lt = h.durable a w.log among (inl refl) in omega (arith, lt, r.no_shorter)

lost_keeps : (w : World) (s : List Entry) (l : Log) (whole : Bool) (u : World) → KeepsAll w →
    LosesPower w s l whole u → KeepsAll u
lost_keeps w s l whole u h p = subst KeepsAll (sym p.now)
    (one_log w.book w.answers (s ∷ []) [] (read_as l whole) (read_begins l whole w.book (h.logged l p.log_is)) within
    durable
    (fewer w.book w.answers (snapshots_of w) (s ∷ []) (logs_of w) [] was (λ x none. absurd none) h))
  where
    was : (x : List Entry) → IsAmong x (s ∷ []) → IsAmong x (snapshots_of w)
    was x among = subst (λ y. IsAmong y (snapshots_of w)) (sym (alone s x [] refl among)) p.snapshot

    within : (x : List Entry) → IsAmong x (s ∷ []) → length (read_as l whole).before ≤ length x
    within x among =
        let le = h.linked x l (was x among) p.log_is in omega (arith, le, ap length (read_before l whole))

    durable : (a : Answer) → IsAmong a w.answers → a.kept.index < length (up_to_end (read_as l whole))
    durable a among =
        let lt = h.durable a l among p.log_is in
        let le = read_no_shorter l whole in
        omega (arith, lt, le)

steps_keep : (limit most : ℕ) (w : World) (e : Event) (u : World) → KeepsAll w → Steps limit most w e u → KeepsAll u
steps_keep limit most w (Admit b) u h s = subst KeepsAll (sym s.now)
    (longer_book w.book (w.book ++ b ∷ []) w.answers (snapshots_of w) (logs_of w) (prefix_push w.book (b ∷ []))
    (distinct_push w.book b h.distinct (none_same b w.book (fresh_is limit most w.book b s.fresh).new_pair)) h)
steps_keep limit most w (Append block) u h s =
    subst KeepsAll (sym s.now) (reformed w (log w.log.before w.log.whole block) refl s.next (omega arith) h)
steps_keep limit most w Sync u h s =
    subst KeepsAll (sym s.now) (reformed w (read_as w.log true) (read_before w.log true)
    (read_begins w.log true w.book (h.logged w.log (inl refl))) (read_no_shorter w.log true) h)
steps_keep limit most w Fail u h s = subst KeepsAll (sym s.now) h
steps_keep limit most w (Acknowledge a) u h s = subst KeepsAll (sym s.now)
    (one_answer w.book w.answers (snapshots_of w) (logs_of w) a
    (kept_of_known limit most w.book a h.distinct s.known) s.durable h)
steps_keep limit most w (RenameSnapshot x) u h s = subst KeepsAll (sym s.now)
    (one_snapshot w.book w.answers (snapshots_of w) (logs_of w) x s.taken
    (λ l among. let le = h.linked w.snapshot l (inl refl) among in omega (arith, le, s.no_shorter)) h)
steps_keep limit most w (RenameLog before whole) u h s = renamed_keeps w before whole u h s
steps_keep limit most w SyncSnapshotName u h s = subst KeepsAll (sym s)
    (fewer w.book w.answers (snapshots_of w) (w.snapshot ∷ []) (logs_of w) (logs_of w)
    (λ x among. head_only w.snapshot x w.older_snapshots among) (λ l among. among) h)
steps_keep limit most w SyncLogName u h s = subst KeepsAll (sym s)
    (fewer w.book w.answers (snapshots_of w) (snapshots_of w) (logs_of w) (w.log ∷ [])
    (λ x among. among) (λ l among. head_only w.log l w.older_logs among) h)
steps_keep limit most w Kill u h s = subst KeepsAll (sym s) h
steps_keep limit most w (LosePower x l whole) u h s = lost_keeps w x l whole u h s
steps_keep limit most w (Settle whole) u h s =
    subst KeepsAll (sym s.now) (reformed w (read_as w.log whole) (read_before w.log whole)
    (read_begins w.log whole w.book (h.logged w.log (inl refl))) (read_no_shorter w.log whole) h)
steps_keep limit most w (Start list) u h s = begun_keeps w list u h s

-- == Whole runs

runs_keep : (limit most : ℕ) (w : World) (es : List Event) (u : World) → KeepsAll w → Runs limit most w es u →
    KeepsAll u
runs_keep limit most w [] u h r = subst KeepsAll (sym r) h
runs_keep limit most w (e ∷ es) u h r = runs_keep limit most r.0 es u (steps_keep limit most w e r.0 h r.1.0) r.1.1

first_keeps : KeepsAll at_first
first_keeps = record {
  distinct = distinct_nil;
  listed = λ s among. subst (λ (x : List Entry). IsPrefix x []) (sym (alone [] s [] refl among)) (prefix_self []);
  logged = λ l among. subst (λ (x : Log). IsPrefix (up_to_end x ++ x.torn) [])
      (sym (alone (log [] [] []) l [] refl among)) (prefix_self []);
  linked = λ s l x y. omega (arith, ap (λ (m : Log). length m.before) (alone (log [] [] []) l [] refl y));
  kept = λ a none. absurd none;
  durable = λ a l none x. absurd none;
}

pub run_keeps : (limit most : ℕ) (es : List Event) (w : World) → Runs limit most at_first es w → KeepsAll w
run_keeps limit most es w r = runs_keep limit most at_first es w first_keeps r

-- == What a loss of power may leave

outcome_begins : (w : World) (s : List Entry) (l : Log) → KeepsAll w → Outcome w s l → IsPrefix (up_to_end l) w.book
outcome_begins w s l h o = subst (λ (x : Log). IsPrefix (up_to_end x) w.book) (sym o.log_is)
    (prefix_front (up_to_end (read_as o.log_was o.whole)) (read_as o.log_was o.whole).torn w.book
    (read_begins o.log_was o.whole w.book (h.logged o.log_was o.log_among)))

outcome_no_gap : (w : World) (s : List Entry) (l : Log) → KeepsAll w → Outcome w s l → length l.before ≤ length s
outcome_no_gap w s l h o =
    let le = h.linked s o.log_was o.snapshot o.log_among in
    let same = ap (λ (x : Log). length x.before) o.log_is in
    let was = ap length (read_before o.log_was o.whole) in
    omega (arith, le, same, was)

outcome_covers : (w : World) (s : List Entry) (l : Log) → KeepsAll w → Outcome w s l → Covers s l w.book (restored s l)
outcome_covers w s l h o = restored_covers s l w.book (h.listed s o.snapshot) (outcome_begins w s l h o)
    (outcome_no_gap w s l h o)

pub outcome_prefix : (w : World) (s : List Entry) (l : Log) → KeepsAll w → Outcome w s l →
    IsPrefix (restored s l) w.book
outcome_prefix w s l h o = (outcome_covers w s l h o).begins

pub outcome_taken : (w : World) (s : List Entry) (l : Log) → KeepsAll w → Outcome w s l → IsTaken s l
outcome_taken w s l h o =
    let begins = outcome_begins w s l h o in
    let no_gap = outcome_no_gap w s l h o in
    let listed = h.listed s o.snapshot in
    record {
      no_gap = no_gap;
      linked = prefix_shorter l.before s w.book (prefix_front l.before l.whole w.book begins) listed no_gap;
      same = λ i x y. prefixes_agree s (up_to_end l) w.book i listed begins x y;
      distinct = distinct_prefix (restored s l) w.book (outcome_prefix w s l h o) h.distinct;
    }

pub outcome_known : (limit most : ℕ) (w : World) (s : List Entry) (l : Log) (a : Answer) → KeepsAll w →
    Outcome w s l → IsAmong a w.answers → verdict_of limit most (restored s l) a.entry ≡ Known a.kept
outcome_known limit most w s l a h o among =
    let covers = outcome_covers w s l h o in
    let lt = h.durable a o.log_was among o.log_among in
    let le = read_no_shorter o.log_was o.whole in
    let same = ap (λ (x : Log). length (up_to_end x)) o.log_is in
    let up = prefix_length (up_to_end l) (restored s l) covers.log_in in
    known_of_kept limit most (restored s l) a (distinct_prefix (restored s l) w.book covers.begins h.distinct)
    (kept_shorter (restored s l) w.book a covers.begins (omega (arith, lt, le, same, up)) (h.kept a among))

pub started_prefix : (w u : World) (list : List Entry) → KeepsAll w → Begins w list u → IsPrefix list w.book
started_prefix w u list h b =
    let covers = restored_covers w.snapshot w.log w.book (h.listed w.snapshot (inl refl))
    (prefix_front (up_to_end w.log) w.log.torn w.book (h.logged w.log (inl refl)))
    (h.linked w.snapshot w.log (inl refl) (inl refl)) in
    subst (λ x. IsPrefix x w.book) (sym b.list_is) covers.begins

pub answer_known : (limit most : ℕ) (w : World) (a : Answer) → KeepsAll w → IsAmong a w.answers →
    verdict_of limit most w.book a.entry ≡ Known a.kept
answer_known limit most w a h among = known_of_kept limit most w.book a h.distinct (h.kept a among)
