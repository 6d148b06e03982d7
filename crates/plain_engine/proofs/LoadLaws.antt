-- The first batch of a list that isn't fresh.
use Rattle.std.proofs.Common.{◌≡◌, ℕ, ◌+◌, ◌<◌, ◌≤◌, false, List, [], ◌∷◌, ◌++◌, length}
use Rattle.std.proofs.Common.{Option, Some, None, refl, sym, ◌∙◌, ap, subst, arith, append_assoc}
use Rattle.std.proofs.Common.{length-append}
use Rattle.std.proofs.Common.{zero, suc, Bool, not, true, cond, eqb, ◌&&◌, ◌||◌, take, drop}
use Rattle.std.specs.Prelude.{if◌then◌else◌, ◌==◌, position, slice_index_or}
use Rattle.std.specs.Ordering.{is_eq}
use Rattle.std.specs.BTreeSet.{BTreeSet, contains, Updates}
use Rattle.std.specs.List.{IsDistinct, AllByRecursion, list_any}
use Rattle.std.proofs.lemmas.List.Folds.{list_any-append}
use Rattle.hyper_matrix.proofs.CellLaws.{same_place}
use Rattle.std.proofs.lemmas.Bool.{le-ltb, lt-leb}
use Rattle.std.proofs.lemmas.Option.{none-some}
use Rattle.batch_store.specs.declared.verdict.Entry.{Entry}
use Rattle.batch_store.specs.declared.verdict.Verdict.{Verdict}
use Rattle.batch_store.specs.declared.verdict.Verdict.TheVariants.{Fresh, Known, NumberReused, OverTotal, BookFull}
use Rattle.batch_store.specs.Setups.{Setting}
use Rattle.batch_store.specs.Batches.{Submission, entry_of}
use Rattle.batch_store.specs.Accepted.{Accepted, entries_in}
use Rattle.batch_store.specs.Books.{AreAccepted}
use Rattle.batch_store.specs.Verdicts.{verdict_of, verdict_at, verdict_on_new, kept, same_pair, total_of_entries}
use Rattle.batch_store.proofs.VerdictLaws.{fresh_is, none_same, same_pair_flips, distinct_nil, distinct_push, total_push}
use Rattle.batch_store.proofs.FoldLaws.{before_apart, found_nowhere}
use Rattle.plain_engine.specs.declared.fault.LoadFault.{LoadFault}
use Rattle.plain_engine.specs.declared.fault.LoadFault.TheVariants as fault
use Rattle.plain_engine.specs.Object.{verdict_in}
use Rattle.plain_engine.specs.Loads.{refusal_of, first_refusal, pair_cmp, HavePairs, stands_among}

-- a refusal doesn't depend on what comes behind it
refused : (r : Verdict) (at : ℕ) (rest : Option LoadFault) (fault : LoadFault) → refusal_of r at None ≡ Some fault →
    refusal_of r at rest ≡ Some fault
refused Fresh at rest fault h = absurd cc
refused (Known k) at rest fault h = h
refused NumberReused at rest fault h = h
refused (OverTotal n) at rest fault h = h
refused BookFull at rest fault h = h

-- the first of what is left is refused
pub refused_here : (v w : Setting) (done es rest : List Entry) (e : Entry) (a : Accepted) (b : Submission) (at : ℕ)
    (fault : LoadFault) (whole : Option LoadFault) → w ≡ v → entries_in a ≡ done → entry_of b ≡ e → at ≡ length done
    → whole ≡ first_refusal v done es → es ≡ e ∷ rest → refusal_of (verdict_in w a b) at None ≡ Some fault →
    whole ≡ Some fault
refused_here v w done es rest e a b at fault whole setup same is count so_far cut h =
    so_far
    ∙ ap (first_refusal v done) cut
    ∙ refused (verdict_of v.limit v.max_batches done e) (length done) (first_refusal v (done ++ e ∷ []) rest) fault
    ((λ i. refusal_of (verdict_of (sym setup i).limit (sym setup i).max_batches (sym same i) (sym is i)) (sym count i)
    None) ∙ h)

-- behind a fresh one the rest is judged
pub passed_here : (v w : Setting) (done es rest more : List Entry) (e : Entry) (a : Accepted) (b : Submission)
    (whole : Option LoadFault) → w ≡ v → entries_in a ≡ done → entry_of b ≡ e → whole ≡ first_refusal v done es →
    es ≡ e ∷ rest → more ≡ done ++ e ∷ [] → verdict_in w a b ≡ Fresh → whole ≡ first_refusal v more rest
passed_here v w done es rest more e a b whole setup same is so_far cut next fresh =
    so_far
    ∙ ap (first_refusal v done) cut
    ∙ ap (λ (r : Verdict). refusal_of r (length done) (first_refusal v (done ++ e ∷ []) rest))
    ((λ i. verdict_of (sym setup i).limit (sym setup i).max_batches (sym same i) (sym is i)) ∙ fresh)
    ∙ ap (λ (l : List Entry). first_refusal v l rest) (sym next)

-- == A list that a book accepts

fresh_there : (limit most : ℕ) (es : List Entry) (b : Entry) →
    AllByRecursion (λ (e : Entry). same_pair b e ≡ false) es →
    total_of_entries es + b.total ≤ limit → length es < most → verdict_of limit most es b ≡ Fresh
fresh_there limit most es b none fits room =
    ap (verdict_at limit most es b) (found_nowhere b es none)
    ∙ (λ i. if le-ltb limit (total_of_entries es + b.total) fits i then OverTotal (total_of_entries es) else
    if lt-leb most (length es) room i then BookFull else Fresh)

total_through : (es rest : List Entry) (b : Entry) → total_of_entries es + b.total ≤ total_of_entries (es ++ b ∷ rest)
total_through [] rest b = omega arith
total_through (e ∷ es) rest b = omega (arith, total_through es rest b)

-- each entry of what was accepted is fresh behind those before it
fresh_in_turn : (v : Setting) (all done rest : List Entry) (e : Entry) → IsDistinct same_pair all →
    length all ≤ v.max_batches → total_of_entries all ≤ v.limit → all ≡ done ++ e ∷ rest →
    verdict_of v.limit v.max_batches done e ≡ Fresh
fresh_in_turn v all done rest e distinct few within cut =
    let total = ap total_of_entries cut in
    let through = total_through done rest e in
    let count = ap length cut ∙ length-append done (e ∷ rest) in
    fresh_there v.limit v.max_batches done e
    (before_apart done e rest (subst (IsDistinct same_pair) cut distinct))
    (omega (arith, total, through, within)) (omega (arith, count, few))

-- so none of them is refused
none_refused_from : (v : Setting) (all done es : List Entry) → IsDistinct same_pair all →
    length all ≤ v.max_batches → total_of_entries all ≤ v.limit → all ≡ done ++ es → first_refusal v done es ≡ None
none_refused_from v all done [] distinct few within cut = refl
none_refused_from v all done (e ∷ es) distinct few within cut =
    ap (λ (r : Verdict). refusal_of r (length done) (first_refusal v (done ++ e ∷ []) es))
    (fresh_in_turn v all done es e distinct few within cut)
    ∙ none_refused_from v all (done ++ e ∷ []) es distinct few within (cut ∙ sym (append_assoc done (e ∷ []) es))

pub none_refused : (v : Setting) (a : Accepted) → AreAccepted v a → first_refusal v [] (entries_in a) ≡ None
none_refused v a h = none_refused_from v (entries_in a) [] (entries_in a) h.distinct h.few h.within refl

-- where none is refused, the fault is want of memory
pub memory_alone : (o : Option LoadFault) (f : LoadFault) → o ≡ None → ((f ≡ fault.Memory → ⊥) → o ≡ Some f) →
    f ≡ fault.Memory
memory_alone o fault.Memory none h = refl
memory_alone o (fault.RepeatedNumber at) none h = absurd (none-some _ (sym none ∙ h (λ e. absurd cc)))
memory_alone o (fault.OverTotal at) none h = absurd (none-some _ (sym none ∙ h (λ e. absurd cc)))
memory_alone o (fault.BookFull at) none h = absurd (none-some _ (sym none ∙ h (λ e. absurd cc)))

-- == The folded entries, judged before a book is made of them

chosen : (a b d : Bool) → cond (cond a b false) true d ≡ (d || (a && b))
chosen true true true = refl
chosen true true false = refl
chosen true false true = refl
chosen true false false = refl
chosen false b true = refl
chosen false b false = refl

pub not_not : (t : Bool) → not (not t) ≡ t
not_not true = refl
not_not false = refl

or_false : (t : Bool) → (t || false) ≡ t
or_false true = refl
or_false false = refl

-- a set with one pair more
pub pairs_noted : (old new : BTreeSet (ℕ × ℕ)) (e : Entry) → Updates pair_cmp old new (e.client, e.number) true →
    (es : List Entry) → HavePairs old es → HavePairs new (es ++ e ∷ [])
pairs_noted old new e u es h c n =
    let is_there = λ (x : Entry). (x.client == c) && (x.number == n) in
    u.0 (c, n)
    ∙ ap (λ (t : Bool). cond t true (contains pair_cmp old (c, n))) (same_place e.client e.number c n)
    ∙ chosen (eqb e.client c) (eqb e.number n) (contains pair_cmp old (c, n))
    ∙ ap (λ (t : Bool). t || ((e.client == c) && (e.number == n))) (h c n)
    ∙ ap (λ (t : Bool). list_any is_there es || t) (sym (or_false (is_there e)))
    ∙ sym (list_any-append is_there es (e ∷ []))

pub pairs_none : (pairs : BTreeSet (ℕ × ℕ)) → pairs.keys ≡ [] → HavePairs pairs []
pairs_none pairs none c n = ap (λ (l : List (ℕ × ℕ)). list_any (λ q. is_eq (pair_cmp (c, n) q)) l) none

neither : (a b : Bool) → (a || b) ≡ false → (a ≡ false) × (b ≡ false)
neither true b h = absurd cc
neither false b h = (refl, h)

-- none has the pair, or one has
none_there : (e : Entry) (es : List Entry) → stands_among es e ≡ false →
    AllByRecursion (λ (x : Entry). same_pair e x ≡ false) es
none_there e [] h = tt
none_there e (x ∷ xs) h =
    let both = neither (same_pair x e) (stands_among xs e) h in
    (same_pair_flips e x ∙ both.0, none_there e xs both.1)

stands_nowhere : (e : Entry) (es : List Entry) → AllByRecursion (λ (x : Entry). same_pair x e ≡ false) es →
    stands_among es e ≡ false
stands_nowhere e [] h = refl
stands_nowhere e (x ∷ xs) h = ap (λ (t : Bool). t || stands_among xs e) h.0 ∙ stands_nowhere e xs h.1

-- a new pair is judged by the limits alone
new_judged : (v : Setting) (es : List Entry) (e : Entry) → stands_among es e ≡ false →
    verdict_of v.limit v.max_batches es e ≡ verdict_on_new v.limit v.max_batches (length es) (total_of_entries es) e
new_judged v es e none = ap (verdict_at v.limit v.max_batches es e) (found_nowhere e es (none_there e es none))

-- one that is there is refused
repeat_refused : (v : Setting) (es : List Entry) (e : Entry) (at : ℕ) → stands_among es e ≡ true →
    refusal_of (verdict_of v.limit v.max_batches es e) at None ≡ Some (fault.RepeatedNumber at)
repeat_refused v es e at there = by (position (same_pair e) es) refl
  where
    told : (r : Bool) (i after : ℕ) →
        refusal_of (if r then Known (kept i after) else NumberReused) at None ≡ Some (fault.RepeatedNumber at)
    told true i after = refl
    told false i after = refl

    by : (o : Option ℕ) → position (same_pair e) es ≡ o →
        refusal_of (verdict_at v.limit v.max_batches es e o) at None ≡ Some (fault.RepeatedNumber at)
    by None is =
        let no : true ≡ false = sym there ∙ stands_nowhere e es (none_same e es is) in
        absurd cc
    by (Some i) is = told ((slice_index_or es i e).cells == e.cells && (slice_index_or es i e).total == e.total) i
        (total_of_entries (take (i + 1) es))

-- the entry at a place begins what is left, and ends what is done then
pub left_at : (es : List Entry) (i : ℕ) (d : Entry) → i < length es → drop i es ≡ slice_index_or es i d ∷ drop (i + 1) es
left_at [] i d h = absurd (omega arith)
left_at (e ∷ es) zero d h = ap (λ (n : ℕ). e ∷ drop n (e ∷ es)) {x = 1} {y = 0 + 1} (omega arith)
left_at (e ∷ es) (suc i) d h = left_at es i d (omega arith)
    ∙ ap (λ (n : ℕ). slice_index_or es i d ∷ drop n (e ∷ es)) {x = suc (i + 1)} {y = suc i + 1} (omega arith)

pub done_at : (es : List Entry) (i : ℕ) (d : Entry) → i < length es → take (i + 1) es ≡ take i es ++ slice_index_or es i d ∷ []
done_at [] i d h = absurd (omega arith)
done_at (e ∷ es) zero d h = ap (λ (n : ℕ). take n (e ∷ es)) {x = 0 + 1} {y = 1} (omega arith)
done_at (e ∷ es) (suc i) d h = ap (λ (n : ℕ). take n (e ∷ es)) {x = suc i + 1} {y = suc (i + 1)} (omega arith)
    ∙ ap (λ (l : List Entry). e ∷ l) (done_at es i d (omega arith))

-- entries of which a set has the pairs, and which a book accepts, in front of those that are left
pub record AreJudged (v : Setting) (pairs : BTreeSet (ℕ × ℕ)) (total at : ℕ) (done left all : List Entry) : Type 0 where
  pub paired : HavePairs pairs done
  pub adds_up : total ≡ total_of_entries done
  pub count : at ≡ length done
  pub distinct : IsDistinct same_pair done
  pub few : length done ≤ v.max_batches
  pub within : total_of_entries done ≤ v.limit
  pub rest : (more : List Entry) → first_refusal v [] (all ++ more) ≡ first_refusal v done (left ++ more)

pub none_judged : (v : Setting) (pairs : BTreeSet (ℕ × ℕ)) (all : List Entry) → pairs.keys ≡ [] →
    AreJudged v pairs 0 0 [] all all
none_judged v pairs all none = record {
  paired = pairs_none pairs none;
  adds_up = refl;
  count = refl;
  distinct = distinct_nil;
  few = omega arith;
  within = omega arith;
  rest = λ more. refl;
}

module _ (v : Setting) (pairs : BTreeSet (ℕ × ℕ)) (total at : ℕ) (done left all : List Entry) (e : Entry)
    (rest : List Entry) (h : AreJudged v pairs total at done left all) (cut : left ≡ e ∷ rest) where
  refused_there : (f : LoadFault) → refusal_of (verdict_of v.limit v.max_batches done e) at None ≡ Some f →
      (more : List Entry) → first_refusal v [] (all ++ more) ≡ Some f
  refused_there f told more =
      h.rest more
      ∙ ap (λ (l : List Entry). first_refusal v done (l ++ more)) cut
      ∙ refused (verdict_of v.limit v.max_batches done e) (length done)
      (first_refusal v (done ++ e ∷ []) (rest ++ more)) f
      (ap (λ (n : ℕ). refusal_of (verdict_of v.limit v.max_batches done e) n None) (sym h.count) ∙ told)

  pub repeat_there : stands_among done e ≡ true → (more : List Entry) →
      first_refusal v [] (all ++ more) ≡ Some (fault.RepeatedNumber at)
  repeat_there there = refused_there (fault.RepeatedNumber at) (repeat_refused v done e at there)

  new_there : stands_among done e ≡ false →
      verdict_of v.limit v.max_batches done e ≡ verdict_on_new v.limit v.max_batches at total e
  new_there none = new_judged v done e none
      ∙ (λ i. verdict_on_new v.limit v.max_batches (sym h.count i) (sym h.adds_up i) e)

  pub limit_there : (f : LoadFault) → stands_among done e ≡ false →
      refusal_of (verdict_on_new v.limit v.max_batches at total e) at None ≡ Some f → (more : List Entry) →
      first_refusal v [] (all ++ more) ≡ Some f
  limit_there f none told = refused_there f
      (ap (λ (r : Verdict). refusal_of r at None) (new_there none) ∙ told)

  pub judged_next : (next : BTreeSet (ℕ × ℕ)) (later : List Entry) → stands_among done e ≡ false →
      verdict_on_new v.limit v.max_batches at total e ≡ Fresh → HavePairs next (done ++ e ∷ []) →
      later ≡ done ++ e ∷ [] → AreJudged v next (total + e.total) (at + 1) later rest all
  judged_next next later none fresh noted is =
      let new : verdict_of v.limit v.max_batches done e ≡ Fresh = new_there none ∙ fresh in
      let fits = fresh_is v.limit v.max_batches done e new in
      subst (λ (l : List Entry). AreJudged v next (total + e.total) (at + 1) l rest all) (sym is) (record {
        paired = noted;
        adds_up = omega (arith, total_push done e, h.adds_up);
        count = omega (arith, length-append done (e ∷ []), h.count);
        distinct = distinct_push done e h.distinct (none_same e done fits.new_pair);
        few = omega (arith, length-append done (e ∷ []), fits.room);
        within = omega (arith, total_push done e, fits.fits);
        rest = λ more.
            h.rest more
            ∙ ap (λ (l : List Entry). first_refusal v done (l ++ more)) cut
            ∙ ap (λ (r : Verdict). refusal_of r (length done) (first_refusal v (done ++ e ∷ []) (rest ++ more))) new;
      })
