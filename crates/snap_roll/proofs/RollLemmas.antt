-- What windows that are taken in do to a list.
use Rattle.std.proofs.Common.{◌≡◌, ℕ, suc, ◌≤◌, List, [], ◌∷◌, ◌++◌, length, map, Bool, true}
use Rattle.std.proofs.Common.{false, slice_get, Some, inl, inr, refl, sym, ◌∙◌, ap, subst, arith}
use Rattle.std.proofs.Common.{append_assoc, append-nil, eqb}
use Rattle.std.proofs.lemmas.Bool.{and_parts, eqb-true}
use Rattle.std.proofs.lemmas.List.{length-append}
use Rattle.std.proofs.lemmas.Option.{slice_get_within}
use Rattle.std.specs.List.{AllByRecursion}
use Rattle.hyper_matrix.specs.Counts.{Counts, ewise_add, total}
use Rattle.std.specs.FinMap.{empty}
use Rattle.hyper_matrix.proofs.CountLaws.{ewise_add-empty, ewise_add_assoc, total-empty, total-ewise_add}
use Rattle.batch_store.specs.declared.verdict.Entry.{Entry}
use Rattle.batch_store.specs.Accepted.{Accepted, IsBase, accepted, count_in, entries_in, folded_into, list_sum, summed}
use Rattle.batch_store.specs.Accepted.{total_in}
use Rattle.batch_store.specs.Batches.{Submission, entries_of}
use Rattle.batch_store.specs.Books.{AreAccepted}
use Rattle.batch_store.specs.Setups.{Setting}
use Rattle.batch_store.specs.Verdicts.{same_pair, total_of_entries}
use Rattle.batch_store.proofs.SumLaws.{base-folded, entries-folded, total-summed}
use Rattle.batch_store.proofs.VerdictLaws.{distinct_push, total_push}
use Rattle.log_join.proofs.PlaceLemmas.{get_before, get_behind}
use Rattle.snap_roll.specs.Rolls.{AreAdded, AreTakenIn, HasEntry, HasNumber, HasRoomFor, IsAddedTo, Window}
use Rattle.snap_roll.specs.Rolls.{entry_of_window, span, sum_of_window, with_sum}
use Rattle.snap_roll.specs.declared.has.Found.{Found}

-- ---- a list with a batch more

pub entries-with_sum : (a : Accepted) (e : Entry) (sum : Counts) → entries_in (with_sum a e sum) ≡ entries_in a ++ e ∷ []
entries-with_sum a e sum = append-nil (entries_in a ++ e ∷ [])

pub summed-with_sum : (a : Accepted) (e : Entry) (sum : Counts) → summed (with_sum a e sum) ≡ ewise_add (summed a) sum
summed-with_sum a e sum = ewise_add-empty (ewise_add (summed a) sum)

-- of a list, all of whose batches are folded
pub with_sum_is : (a : Accepted) (e : Entry) (sum : Counts) → a.list ≡ [] →
    accepted (ewise_add a.base sum) (a.folded ++ e ∷ []) [] ≡ with_sum a e sum
with_sum_is a e sum none =
    (λ i. accepted (ewise_add (sym (ewise_add-empty a.base) i) sum) (sym (append-nil a.folded) i ++ e ∷ []) [])
    ∙ ap (λ (l : List Submission). accepted (ewise_add (ewise_add a.base (list_sum l)) sum)
    ((a.folded ++ entries_of l) ++ e ∷ []) []) (sym none)

-- ---- a list is accepted

-- all its batches folded
pub accepted_folded : (t : Setting) (a : Accepted) → AreAccepted t a → AreAccepted t (folded_into (summed a) a)
accepted_folded t a h =
    let es = entries-folded (summed a) a in
    record {
      sound = h.sound;
      distinct = rw es h.distinct;
      dims = tt;
      few = omega (arith, ap length es, h.few);
      within = omega (arith, ap total_of_entries es, h.within);
      based = base-folded a h.based;
    }

-- no entry is of this client and number
all_new : (c n : ℕ) (e : Entry) (es : List Entry) → e.client ≡ c → e.number ≡ n →
    ((i : ℕ) (x : Entry) → slice_get es i ≡ Some x → x.client ≡ c → x.number ≡ n → ⊥) →
    AllByRecursion (λ (x : Entry). same_pair x e ≡ false) es
all_new c n e [] client number none = tt
all_new c n e (x ∷ es) client number none = (
  at (same_pair x e) refl,
  all_new c n e es client number (λ i y. none (suc i) y),
)
  where
    at : (b : Bool) → same_pair x e ≡ b → same_pair x e ≡ false
    at false is = is
    at true is =
        let p = and_parts (eqb x.client e.client) (eqb x.number e.number) is in
        absurd (none 0 x refl (eqb-true x.client e.client p.0 ∙ client) (eqb-true x.number e.number p.1 ∙ number))

abbrev found_at : ℕ → Entry → Found
found_at i e = record { index = i; entry = e }

new_entry : (a : Accepted) (e : Entry) → (HasNumber a e.client e.number → ⊥) →
    AllByRecursion (λ (x : Entry). same_pair x e ≡ false) (entries_in a)
new_entry a e none = all_new e.client e.number e (entries_in a) refl refl (λ i x at client number. none (
  found_at i x,
  record { entry = at; client_is = client; number_is = number },
))

never_none : (es : List Entry) (e : Entry) → es ++ e ∷ [] ≡ [] → ⊥
never_none [] e h = cc
never_none (x ∷ es) e h = cc

-- with a batch more
pub accepted_more : (t : Setting) (a : Accepted) (e : Entry) (sum : Counts) → AreAccepted t a → HasRoomFor t a e →
    e.total ≡ total sum → AreAccepted t (with_sum a e sum)
accepted_more t a e sum h room is =
    let es = entries-with_sum a e sum in
    let sums = total-summed a h.based in
    record {
      sound = h.sound;
      distinct = rw es (distinct_push (entries_in a) e h.distinct (new_entry a e room.new));
      dims = tt;
      few = omega (arith, ap length es, length-append (entries_in a) (e ∷ []), room.few);
      within = omega (arith, ap total_of_entries es, total_push (entries_in a) e, room.fits);
      based = record {
        adds_up = omega (arith, total-ewise_add (summed a) sum, total_push (entries_in a) e, sums, is);
        none = λ none. absurd (never_none (entries_in a) e none);
      };
    }

-- ---- entries stay

pub added_stays : (a : Accepted) (e : Entry) (sum : Counts) (b : Accepted) (x : Entry) → IsAddedTo a e sum b →
    HasEntry a x → HasEntry b x
added_stays a e sum b x (inl same) has = subst (λ (d : Accepted). HasEntry d x) (sym same.1) has
added_stays a e sum b x (inr more) (i, at) = subst (λ (d : Accepted). HasEntry d x) (sym more.1) (
  i,
  ap (λ es. slice_get es i) (entries-with_sum a e sum)
      ∙ get_before (entries_in a) (e ∷ []) i (slice_get_within (entries_in a) i x at) ∙ at,
)

-- and the one that was added is there
pub added_there : (a : Accepted) (e : Entry) (sum : Counts) (b : Accepted) → IsAddedTo a e sum b → HasEntry b e
added_there a e sum b (inl same) = subst (λ (d : Accepted). HasEntry d e) (sym same.1) same.0
added_there a e sum b (inr more) = subst (λ (d : Accepted). HasEntry d e) (sym more.1) (
  length (entries_in a),
  ap (λ es. slice_get es (length (entries_in a))) (entries-with_sum a e sum)
      ∙ get_behind (entries_in a) (e ∷ []) (length (entries_in a)) 0 (omega arith),
)

pub added_grows : (a : Accepted) (e : Entry) (sum : Counts) (b : Accepted) → IsAddedTo a e sum b →
    count_in a ≤ count_in b
added_grows a e sum b (inl same) = omega (arith, ap count_in same.1)
added_grows a e sum b (inr more) =
    omega (arith, ap count_in more.1, ap length (entries-with_sum a e sum), length-append (entries_in a) (e ∷ []))

pub taken_stays : (c : ℕ) (a : Accepted) (ws : List Window) (b : Accepted) (x : Entry) → AreTakenIn c a ws b →
    HasEntry a x → HasEntry b x
taken_stays c a [] b x is has = subst (λ (d : Accepted). HasEntry d x) (sym is) has
taken_stays c a (w ∷ ws) b x (next, first, rest) has =
    taken_stays c next ws b x rest (added_stays a (entry_of_window c w) (sum_of_window w) next x first has)

-- ---- laws

-- a list that has all that windows left is as it was
again : (c : ℕ) (a : Accepted) (ws : List Window) (b d : Accepted) → AreTakenIn c a ws b →
    ((x : Entry) → HasEntry b x → HasEntry d x) → AreTakenIn c d ws d
again c a [] b d taken all = refl
again c a (w ∷ ws) b d (next, first, rest) all = (
  d,
  inl (
    all (entry_of_window c w) (taken_stays c next ws b (entry_of_window c w) rest
        (added_there a (entry_of_window c w) (sum_of_window w) next first)),
    refl,
  ),
  again c next ws b d rest all,
)

pub taken_again : (c : ℕ) (a : Accepted) (ws : List Window) (b : Accepted) → AreTakenIn c a ws b → AreTakenIn c b ws b
taken_again c a ws b taken = again c a ws b b taken (λ x has. has)

pub taken_both : (c : ℕ) (a : Accepted) (vs ws : List Window) (m b : Accepted) → AreTakenIn c a vs m →
    AreTakenIn c m ws b → AreTakenIn c a (vs ++ ws) b
taken_both c a [] ws m b is rest = subst (λ (d : Accepted). AreTakenIn c d ws b) is rest
taken_both c a (v ∷ vs) ws m b (next, first, more) rest = (next, first, taken_both c next vs ws m b more rest)

pub taken_parts : (c : ℕ) (a : Accepted) (vs ws : List Window) (b : Accepted) → AreTakenIn c a (vs ++ ws) b →
    (m : Accepted) × AreTakenIn c a vs m × AreTakenIn c m ws b
taken_parts c a [] ws b taken = (a, refl, taken)
taken_parts c a (v ∷ vs) ws b (next, first, rest) =
    let p = taken_parts c next vs ws b rest in (p.0, (next, first, p.1), p.2)

-- windows are in the sum as their entries tell
pub taken_sums : (c : ℕ) (a : Accepted) (ws : List Window) (b : Accepted) → AreTakenIn c a ws b →
    (new : List Window) × AreAdded c a new b
taken_sums c a [] b is = (
  [],
  record {
    entries = ap entries_in is ∙ sym (append-nil (entries_in a));
    sum = ap summed is ∙ sym (ewise_add-empty (summed a));
  },
)
taken_sums c a (w ∷ ws) b (next, inl same, rest) =
    taken_sums c a ws b (subst (λ (d : Accepted). AreTakenIn c d ws b) same.1 rest)
taken_sums c a (w ∷ ws) b (next, inr more, rest) =
    let p = taken_sums c next ws b rest in
    let e = entry_of_window c w in
    let sum = sum_of_window w in (
      w ∷ p.0,
      record {
        entries = p.1.entries
            ∙ ap (λ es. es ++ map (entry_of_window c) p.0) (ap entries_in more.1 ∙ entries-with_sum a e sum)
            ∙ append_assoc (entries_in a) (e ∷ []) (map (entry_of_window c) p.0);
        sum = p.1.sum
            ∙ ap (λ m. ewise_add m (span p.0)) (ap summed more.1 ∙ summed-with_sum a e sum)
            ∙ ewise_add_assoc (summed a) sum (span p.0);
      },
    )

-- ---- of a list, all of whose batches are folded

pub base_total : (t : Setting) (a : Accepted) → AreAccepted t a → a.list ≡ [] → total a.base ≡ total_in a
base_total t a h none = h.based.adds_up ∙ ap total_of_entries (sym (append-nil a.folded))
    ∙ ap (λ (l : List Submission). total_of_entries (a.folded ++ entries_of l)) (sym none)

pub folded_count : (a : Accepted) → a.list ≡ [] → length a.folded ≡ count_in a
folded_count a none = ap length (sym (append-nil a.folded))
    ∙ ap (λ (l : List Submission). length (a.folded ++ entries_of l)) (sym none)

-- nothing is a base of nothing
pub nothing_based : (base : Counts) (es : List Entry) → base ≡ empty → es ≡ [] → IsBase base es
nothing_based base es is none = record {
  adds_up = ap total is ∙ total-empty ∙ ap total_of_entries (sym none);
  none = λ h. is;
}
