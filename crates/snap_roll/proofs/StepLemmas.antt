-- One window more in a roll.
use Rattle.std.proofs.Common.{◌≡◌, ℕ, ◌+◌, ◌<◌, ◌≤◌, List, [], ◌∷◌, ◌++◌, length, take, get_or, Option, Some}
use Rattle.std.proofs.Common.{Result, slice_get, inr, refl, sym, ◌∙◌, ap, subst, arith}
use Rattle.std.proofs.lemmas.List.{take_all, take_more}
use Rattle.std.proofs.lemmas.Option.{slice_get-get_or}
use Rattle.batch_store.specs.Accepted.{Accepted, count_in, summed}
use Rattle.batch_store.specs.Books.{Listing, accepted_in}
use Rattle.batch_store.specs.declared.verdict.Entry.{Entry}
use Rattle.hyper_matrix.specs.Counts.{Counts}
use Rattle.hyper_matrix.specs.Matrix.{Matrix, matrix}
use Rattle.snap_file.specs.Origins.{own}
use Rattle.snap_file.specs.declared.origin.Identity.{Identity}
use Rattle.batch_store.specs.Setups.{Setting}
use Rattle.batch_store.proofs.SumLaws.{entries-folded}
use Rattle.snap_file.specs.Snapshots.{Saved, saved}
use Rattle.snap_file.specs.declared.fault.FileFault.{FileFault}
use Rattle.snap_file.specs.declared.origin.Origin.{Origin}
use Rattle.snap_report.specs.Kept.{HasLoaded}
use Rattle.snap_report.specs.declared.fault.CheckFault.{CheckFault}
use Rattle.snap_roll.specs.Held.{IsOf, Reads, roll_of}
use Rattle.snap_roll.specs.Rolls.{AreTakenIn, Begins, HaveRolled, IsRefused, Refuses, Roll, Takes, TellsAdded, TellsWindows}
use Rattle.snap_roll.specs.Rolls.{Window, begun_roll, entry_of_window, first_setup, sum_of_window, window_of}
use Rattle.snap_roll.specs.Rolls.{IsAddedTo, MayGo, RefusesEntry, RefusesTo, TellsTo, Untakes, UntakesEntry, book_in}
use Rattle.snap_roll.specs.Rolls.{IsUnread, TellsFile, entry_of_sum, roll}
use Rattle.snap_roll.specs.Steps.{GoesOn}
use Rattle.snap_roll.specs.declared.roll_fault.Untaken.{Untaken}
use Rattle.snap_roll.specs.declared.roll_fault.Untaken.TheVariants as untaken
use Rattle.snap_roll.specs.declared.roll_fault.RollFault.{RollFault}
use Rattle.snap_roll.specs.declared.roll_fault.RollFault.TheVariants as fault
use Rattle.snap_roll.specs.declared.rolling.Rolling.{Rolling}
use Rattle.snap_roll.proofs.RollLemmas.{added_grows}

-- a window's file was taken in
pub takes_of : (c : ℕ) (t : Setting) (g : Option ℕ) (o : Origin) (s : Setting) (l : Listing) (x : Saved)
    (i j f : Identity) (a b : Accepted) (n : ℕ) (e : Entry) (m : Matrix) → saved o s l ≡ x → MayGo g o s i t n →
    f ≡ book_in o.identity → j ≡ own i f i → m ≡ matrix s.rows s.cols (summed (accepted_in l)) →
    e ≡ entry_of_sum c n m.counts → IsAddedTo a e m.counts b → Takes c t g (window_of n x) (roll i a) (roll j b)
takes_of c t g o s l x i j f a b n e m is may found next sum entry added =
    let counts : m.counts ≡ summed (accepted_in l) = ap (λ (y : Matrix). y.counts) sum in
    let both : e ≡ entry_of_sum c n (summed (accepted_in l)) = entry ∙ ap (entry_of_sum c n) counts in
    subst (λ (y : Saved). Takes c t g (window_of n y) (roll i a) (roll j b)) is (record {
      may = may;
      book = next ∙ ap (λ (k : Identity). own i k i) found;
      taken = subst (λ (d : Entry). IsAddedTo a d (summed (accepted_in l)) b) both
          (subst (λ (k : Counts). IsAddedTo a e k b) counts added);
    })

-- or it wasn't
pub untakes_of : (c : ℕ) (t : Setting) (g : Option ℕ) (o : Origin) (s : Setting) (l : Listing) (x : Saved)
    (i : Identity) (a : Accepted) (n : ℕ) (e : Entry) (m : Matrix) (told : Untaken) → saved o s l ≡ x →
    MayGo g o s i t n → m ≡ matrix s.rows s.cols (summed (accepted_in l)) → e ≡ entry_of_sum c n m.counts →
    UntakesEntry t a e told → Untakes c t g x (roll i a) told
untakes_of c t g o s l x i a n e m (untaken.Refused why) is may sum entry h =
    let both : e ≡ entry_of_sum c n (summed (accepted_in l)) =
    entry ∙ ap (λ (y : Matrix). entry_of_sum c n y.counts) sum in
    subst (λ (y : Saved). Refuses c t g y (roll i a) why) is
    (inr (n, may, subst (λ (d : Entry). RefusesEntry t a d why) both h))
untakes_of c t g o s l x i a n e m untaken.Memory is may sum entry h = tt

-- what a coarser file is refused for
pub to_told : {F : Type 0} (loads : F → ℕ → Result Saved FileFault → F → Type 0) (s t : F) (x : Saved) (told : RollFault) →
    HasLoaded loads s t x → RefusesTo x told → TellsTo loads s t told
to_told loads s t x fault.ToHasWindow loaded h = (x, loaded, h)
to_told loads s t x fault.ToNotClosed loaded h = (x, loaded, h)
to_told loads s t x (fault.To why) loaded h = absurd h
to_told loads s t x (fault.File i why) loaded h = absurd h
to_told loads s t x (fault.Refused i why) loaded h = absurd h
to_told loads s t x fault.Memory loaded h = absurd h
to_told loads s t x (fault.Save why) loaded h = absurd h
to_told loads s t x (fault.Output why) loaded h = absurd h

got : (gs : List (Option ℕ)) (i : ℕ) (g : Option ℕ) → i < length gs → slice_get gs i ≡ Some g → g ≡ get_or gs i g
got gs i g lt is = let both : Some g ≡ Some (get_or gs i g) = sym is ∙ slice_get-get_or gs i g lt in cc

first_more : (ws : List Window) (w : Window) (f : Setting) → ((s : Setting) → first_setup ws s ≡ f) → (s : Setting) →
    first_setup (ws ++ w ∷ []) s ≡ f
first_more [] w f h s = h w.saved.setup
first_more (v ∷ vs) w f h s = h s

module _ {S : Type 0} (reads : S → ℕ → Result Saved CheckFault → S → Type 0) (c : ℕ) where
  rolled_more : (t : Setting) (gs : List (Option ℕ)) (ws : List Window) (u : S) (r : Roll) (m v : S) (q next : Roll)
      (g : Option ℕ) (w : Window) → HaveRolled reads c t gs ws u r m q → HasLoaded reads m v w.saved →
      Takes c t g w q next → HaveRolled reads c t (gs ++ g ∷ []) (ws ++ w ∷ []) u r v next
  rolled_more t [] [] u r m v q next g w is loaded takes = (
    v,
    next,
    subst (λ (y : S). HasLoaded reads y v w.saved) (sym is.0) loaded,
    subst (λ (y : Roll). Takes c t g w y next) (sym is.1) takes,
    (refl, refl),
  )
  rolled_more t (h ∷ hs) (x ∷ xs) u r m v q next g w before loaded takes = (
    before.0,
    before.1,
    before.2,
    before.3,
    rolled_more t hs xs before.0 before.1 m v q next g w before.4 loaded takes,
  )
  rolled_more t [] (x ∷ xs) u r m v q next g w before loaded takes = absurd before
  rolled_more t (h ∷ hs) [] u r m v q next g w before loaded takes = absurd before

  -- what was rolled was taken in
  pub rolled_taken : (t : Setting) (gs : List (Option ℕ)) (ws : List Window) (u : S) (r : Roll) (v : S) (q : Roll) →
      HaveRolled reads c t gs ws u r v q → AreTakenIn c r.state ws q.state
  rolled_taken t [] [] u r v q is = ap (λ (y : Roll). y.state) (sym is.1)
  rolled_taken t (g ∷ gs) (w ∷ ws) u r v q rolled =
      (rolled.1.state, rolled.3.taken, rolled_taken t gs ws rolled.0 rolled.1 v q rolled.4)
  rolled_taken t [] (w ∷ ws) u r v q rolled = absurd rolled
  rolled_taken t (g ∷ gs) [] u r v q rolled = absurd rolled

  takes_grows : (t : Setting) (g : Option ℕ) (w : Window) (r q : Roll) → Takes c t g w r q →
      count_in r.state ≤ count_in q.state
  takes_grows t g w r q takes = added_grows r.state (entry_of_window c w) (sum_of_window w) q.state takes.taken

  module _ (gs : List (Option ℕ)) (found : Option Saved) (u : S) where
    -- nothing is loaded yet
    pub goes_none : (begun : Saved) (first : Setting) (o : Origin) (had : ℕ) (r : Rolling) (v : S) (next : Rolling)
        (g : Option ℕ) (n : ℕ) (x : Saved) → Begins first found begun → IsOf begun o r →
        had ≡ count_in (accepted_in r.list) → first ≡ x.setup → 0 < length gs → slice_get gs 0 ≡ Some g →
        HasLoaded reads u v x → Takes c r.setup g (window_of n x) (roll_of r) (roll_of next) → next.setup ≡ r.setup →
        GoesOn reads c gs found u v o had next 1
    goes_none begun first o had r v next g n x begins of had_is first_is some given loaded takes same =
        let state = subst (λ (y : Roll). Takes c begun.setup g (window_of n x) y (roll_of next)) of.state
        (subst (λ (t : Setting). Takes c t g (window_of n x) (roll_of r) (roll_of next)) of.setup takes) in
        record {
          begun = begun;
          windows = window_of n x ∷ [];
          first = first;
          begins = begins;
          first_is = λ s. sym first_is;
          origin_is = of.origin;
          setup_is = same ∙ of.setup;
          had_is = had_is ∙ ap count_in (ap (λ (y : Roll). y.state) of.state)
              ∙ ap length (entries-folded (summed (accepted_in begun.list)) (accepted_in begun.list));
          grows = omega (arith, had_is, takes_grows r.setup g (window_of n x) (roll_of r) (roll_of next) takes);
          rolled = subst (λ hs. HaveRolled reads c begun.setup hs (window_of n x ∷ []) u (begun_roll begun) v (roll_of next))
              (ap (λ h. h ∷ []) (got gs 0 g some given) ∙ sym (take_more gs 0 g some))
              (v, roll_of next, loaded, state, (refl, refl));
        }

    -- one more
    pub goes_more : (m : S) (o : Origin) (had : ℕ) (r : Rolling) (at : ℕ) (v : S) (next : Rolling) (g : Option ℕ)
        (n : ℕ) (x : Saved) → GoesOn reads c gs found u m o had r at → at < length gs → slice_get gs at ≡ Some g →
        HasLoaded reads m v x → Takes c r.setup g (window_of n x) (roll_of r) (roll_of next) → next.setup ≡ r.setup →
        GoesOn reads c gs found u v o had next (at + 1)
    goes_more m o had r at v next g n x goes within given loaded takes same =
        let state = subst (λ (t : Setting). Takes c t g (window_of n x) (roll_of r) (roll_of next)) goes.setup_is takes in
        record {
          begun = goes.begun;
          windows = goes.windows ++ window_of n x ∷ [];
          first = goes.first;
          begins = goes.begins;
          first_is = first_more goes.windows (window_of n x) goes.first goes.first_is;
          origin_is = goes.origin_is;
          setup_is = same ∙ goes.setup_is;
          had_is = goes.had_is;
          grows = omega (arith, goes.grows, takes_grows r.setup g (window_of n x) (roll_of r) (roll_of next) takes);
          rolled = subst (λ hs. HaveRolled reads c goes.begun.setup hs (goes.windows ++ window_of n x ∷ []) u
              (begun_roll goes.begun) v (roll_of next))
              (ap (λ h. take at gs ++ h ∷ []) (got gs at g within given) ∙ sym (take_more gs at g within))
              (rolled_more goes.begun.setup (take at gs) goes.windows u (begun_roll goes.begun) m v (roll_of r)
              (roll_of next) g (window_of n x) goes.rolled loaded state);
        }

    -- a file is refused
    pub goes_refused : (m : S) (o : Origin) (had : ℕ) (r : Rolling) (at : ℕ) (v : S) (g : Option ℕ) (x : Saved)
        (told : RollFault) → GoesOn reads c gs found u m o had r at → at < length gs → slice_get gs at ≡ Some g →
        HasLoaded reads m v x → TellsAdded c r.setup g at x (roll_of r) told → TellsWindows reads c gs found u v told
    goes_refused m o had r at v g x (fault.Refused number why) goes within given loaded tells =
        subst (λ (i : ℕ). IsRefused reads c gs found u v i why) (sym tells.0) (record {
          begun = goes.begun;
          windows = goes.windows;
          state = roll_of r;
          place = m;
          given = g;
          file = x;
          begins = subst (λ (f : Setting). Begins f found goes.begun) (sym (goes.first_is x.setup)) goes.begins;
          rolled = goes.rolled;
          given_is = given;
          loaded = loaded;
          refused = subst (λ (t : Setting). Refuses c t g x (roll_of r) why) goes.setup_is tells.1;
        })
    goes_refused m o had r at v g x fault.Memory goes within given loaded tells = tt
    goes_refused m o had r at v g x (fault.To told) goes within given loaded tells = absurd tells
    goes_refused m o had r at v g x fault.ToHasWindow goes within given loaded tells = absurd tells
    goes_refused m o had r at v g x fault.ToNotClosed goes within given loaded tells = absurd tells
    goes_refused m o had r at v g x (fault.File i told) goes within given loaded tells = absurd tells
    goes_refused m o had r at v g x (fault.Save told) goes within given loaded tells = absurd tells
    goes_refused m o had r at v g x (fault.Output told) goes within given loaded tells = absurd tells

    -- the first file is refused
    pub first_refused : (begun : Saved) (first : Setting) (o : Origin) (r : Rolling) (v : S) (g : Option ℕ) (x : Saved)
        (told : RollFault) → Begins first found begun → IsOf begun o r → first ≡ x.setup → 0 < length gs →
        slice_get gs 0 ≡ Some g → HasLoaded reads u v x → TellsAdded c r.setup g 0 x (roll_of r) told →
        TellsWindows reads c gs found u v told
    first_refused begun first o r v g x (fault.Refused number why) begins of first_is some given loaded tells =
        subst (λ (i : ℕ). IsRefused reads c gs found u v i why) (sym tells.0) (record {
          begun = begun;
          windows = [];
          state = roll_of r;
          place = u;
          given = g;
          file = x;
          begins = subst (λ (f : Setting). Begins f found begun) first_is begins;
          rolled = (refl, sym of.state);
          given_is = given;
          loaded = loaded;
          refused = subst (λ (t : Setting). Refuses c t g x (roll_of r) why) of.setup tells.1;
        })
    first_refused begun first o r v g x fault.Memory begins of first_is some given loaded tells = tt
    first_refused begun first o r v g x (fault.To told) begins of first_is some given loaded tells = absurd tells
    first_refused begun first o r v g x fault.ToHasWindow begins of first_is some given loaded tells = absurd tells
    first_refused begun first o r v g x fault.ToNotClosed begins of first_is some given loaded tells = absurd tells
    first_refused begun first o r v g x (fault.File i told) begins of first_is some given loaded tells = absurd tells
    first_refused begun first o r v g x (fault.Save told) begins of first_is some given loaded tells = absurd tells
    first_refused begun first o r v g x (fault.Output told) begins of first_is some given loaded tells = absurd tells

    -- nor a further one
    pub goes_unread : (m : S) (o : Origin) (had : ℕ) (r : Rolling) (at : ℕ) (v : S) (told : RollFault) →
        GoesOn reads c gs found u m o had r at → TellsFile reads m v at told → TellsWindows reads c gs found u v told
    goes_unread m o had r at v (fault.File number why) goes h =
        subst (λ (i : ℕ). IsUnread reads c gs found u v i why) (sym h.0) (
          h.1,
          inr (
            goes.begun,
            goes.windows,
            roll_of r,
            m,
            subst (λ (f : Setting). Begins f found goes.begun) (sym (goes.first_is goes.begun.setup)) goes.begins,
            goes.rolled,
            h.2,
          ),
        )
    goes_unread m o had r at v fault.Memory goes h = tt
    goes_unread m o had r at v (fault.Refused number why) goes h = absurd h
    goes_unread m o had r at v (fault.To told) goes h = absurd h
    goes_unread m o had r at v fault.ToHasWindow goes h = absurd h
    goes_unread m o had r at v fault.ToNotClosed goes h = absurd h
    goes_unread m o had r at v (fault.Save told) goes h = absurd h
    goes_unread m o had r at v (fault.Output told) goes h = absurd h

    -- all were taken in
    pub goes_all : (v : S) (o : Origin) (had : ℕ) (r : Rolling) (at : ℕ) → GoesOn reads c gs found u v o had r at →
        length gs ≤ at → (x : Saved) × (ws : List Window) × Begins (first_setup ws x.setup) found x
        × Reads x (record { origin = o; had = had; rolling = r })
        × HaveRolled reads c x.setup gs ws u (begun_roll x) v (roll_of r)
    goes_all v o had r at goes end = (
      goes.begun,
      goes.windows,
      subst (λ (f : Setting). Begins f found goes.begun) (sym (goes.first_is goes.begun.setup)) goes.begins,
      record { origin = goes.origin_is; setup = goes.setup_is; had = goes.had_is; grows = goes.grows },
      subst (λ hs. HaveRolled reads c goes.begun.setup hs goes.windows u (begun_roll goes.begun) v (roll_of r))
          (take_all at gs end) goes.rolled,
    )
