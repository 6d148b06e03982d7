-- Cuts read one after the other.
use Rattle.std.proofs.Common.{◌≡◌, ℕ, suc, ◌+◌, ◌<◌, ◌≤◌, ◌^◌, List, [], ◌∷◌, ◌++◌, Result, length, take, get_or, refl}
use Rattle.std.proofs.Common.{sym, ap, subst, ◌∙◌, inl, inr, arith, get_or-set_same, get_or-set_other}
use Rattle.std.proofs.Math.ListN.{set}
use Rattle.std.proofs.lemmas.Bool.{cases_lt}
use Rattle.std.proofs.lemmas.List.{get_or-take, length-take-le}
use Rattle.layer_cascade.specs.Cuts.{AreCuts}
use Rattle.std.specs.Int.{w64}
use Rattle.byte_io.specs.declared.fault.DeviceFault.{DeviceFault}
use Rattle.snap_file.specs.Table.{Reading, field_in, cuts_behind}
use Rattle.snap_file.specs.Outcomes.{Task, ReaderState, HasJudged}
use Rattle.snap_file.specs.declared.fault.SnapFault.TheVariants.{BadHead}

step_is : (n least : ℕ) (done : List ℕ) (k : List ℕ → Reading) →
    cuts_behind (suc n) least done k ≡ field_in w64 least (2 ^ 40) BadHead
    (λ cut. cuts_behind n (cut + 1) (done ++ cut ∷ []) k)
unfolding cuts_behind
step_is n least done k = refl

done_is : (least : ℕ) (done : List ℕ) (k : List ℕ → Reading) → cuts_behind 0 least done k ≡ k done
unfolding cuts_behind
done_is least done k = refl

pub cuts_step : {S : Type 0} (gives : S → Result (List ℕ) DeviceFault → S → Type 0) (failures : S → ℕ) (m : Task)
    (s t : S)
    (reader : ReaderState) (n n' least : ℕ) (done : List ℕ) (k : List ℕ → Reading) →
    HasJudged gives failures m s t reader (cuts_behind n least done k) → n ≡ suc n' →
    HasJudged gives failures m s t reader (field_in w64 least (2 ^ 40) BadHead
    (λ cut. cuts_behind n' (cut + 1) (done ++ cut ∷ []) k))
cuts_step gives failures m s t reader n n' least done k a e =
    subst (λ (r : Reading). HasJudged gives failures m s t reader r) (step_is n' least done k)
    (subst (λ (i : ℕ). HasJudged gives failures m s t reader (cuts_behind i least done k)) e a)

pub cuts_done : {S : Type 0} (gives : S → Result (List ℕ) DeviceFault → S → Type 0) (failures : S → ℕ) (m : Task)
    (s t : S)
    (reader : ReaderState) (n least : ℕ) (done all : List ℕ) (k : List ℕ → Reading) →
    HasJudged gives failures m s t reader (cuts_behind n least done k) → n ≡ 0 → done ≡ all →
    HasJudged gives failures m s t reader (k all)
cuts_done gives failures m s t reader n least done all k a e d =
    subst (λ (l : List ℕ). HasJudged gives failures m s t reader (k l)) d
    (subst (λ (r : Reading). HasJudged gives failures m s t reader r) (done_is least done k)
    (subst (λ (i : ℕ). HasJudged gives failures m s t reader (cuts_behind i least done k)) e a))

-- ---- which lists of cuts are read

-- the first i are cuts, and the next is to be at least `least`
pub record Rising (cuts : List ℕ) (i least : ℕ) : Type 0 where
  pub some : 1 ≤ least
  pub range : (j : ℕ) → j < i → (1 ≤ get_or cuts j 0) × (get_or cuts j 0 ≤ 2 ^ 40)
  pub rising : (j : ℕ) → j + 1 < i → get_or cuts j 0 < get_or cuts (j + 1) 0
  pub next : (j : ℕ) → j + 1 ≡ i → get_or cuts j 0 < least

pub rising_none : (cuts : List ℕ) → Rising cuts 0 1
rising_none cuts = record {
  some = omega arith;
  range = λ j h. absurd (omega arith);
  rising = λ j h. absurd (omega arith);
  next = λ j h. absurd (omega arith);
}

pub rising_more : (cuts : List ℕ) (i least cut : ℕ) → Rising cuts i least → least ≤ cut → cut ≤ 2 ^ 40 →
    i < length cuts → Rising (set cuts i cut) (i + 1) (cut + 1)
rising_more cuts i least cut h low high lt =
    let same : get_or (set cuts i cut) i 0 ≡ cut = get_or-set_same cuts i cut 0 lt in
    let before : (j : ℕ) → j < i → get_or (set cuts i cut) j 0 ≡
    get_or cuts j 0 = λ j below. get_or-set_other cuts i j cut 0 (λ e. omega arith) in
    let some = h.some in
    record {
      some = omega arith;
      range = λ j below. elim (cases_lt j i) [
        | inl lt ↦ rw (before j lt) (h.range j lt)
        | inr ge ↦ let e : j ≡ i = omega arith in subst (λ (n : ℕ). (1 ≤ get_or (set cuts i cut) n 0) ×
            (get_or (set cuts i cut) n 0 ≤ 2 ^ 40)) (sym e) (rw same (omega arith, high))
      ];
      rising = λ j below. elim (cases_lt (j + 1) i) [
        | inl lt ↦ rw (before j (omega arith), before (j + 1) lt) (h.rising j lt)
        | inr ge ↦
            let e : j + 1 ≡ i = omega arith in
            let top = h.next j e in
            let here : get_or (set cuts i cut) (j + 1) 0 ≡ cut = ap (λ (n : ℕ). get_or (set cuts i cut) n 0) e ∙ same in
            rw (before j (omega arith), here) (omega arith)
      ];
      next = λ j e. let here : get_or (set cuts i cut) j 0 ≡
          cut = ap (λ (n : ℕ). get_or (set cuts i cut) n 0) (omega arith) ∙ same in rw here (omega arith);
    }

pub rising_cuts : (cuts : List ℕ) (i n least : ℕ) → Rising cuts i least → i ≡ n → n ≤ 7 → length cuts ≡ 7 →
    AreCuts (take n cuts)
rising_cuts cuts i n least h e few seven =
    let long : length (take n cuts) ≡ n = length-take-le n cuts (omega arith) in
    record {
      few = omega arith;
      range = λ j lt. let below : j < n = omega arith in rw (get_or-take n cuts j 0 below) (h.range j (omega arith));
      rising = λ j lt. let below : j < n = omega arith in let next : j + 1 < n = omega arith in
          rw (get_or-take n cuts j 0 below, get_or-take n cuts (j + 1) 0 next) (h.rising j (omega arith));
    }
