-- A run of reads of a log's file.
use Rattle.std.proofs.Common.{◌≡◌, inl, inr, ⊎_elim, ℕ, ◌≤◌, List, [], ◌∷◌, length, get_or, refl, sym}
use Rattle.std.proofs.Common.{◌∙◌, ap, subst, arith}
use Rattle.std.specs.Prelude.{Result, Ok, Err, OnOk, IfOk, IfErr, Option, Some, None, IfSome, IfNone}
use Rattle.std.proofs.lemmas.List.{ext_get_or}
use Rattle.byte_io.specs.Streams.{Answer, Calls, bytes_of_calls}
use Rattle.log_disk.specs.declared.disk.LogDisk.{Ghosts as Device}
use Rattle.log_source.specs.Sources.{GivesFrom, IsUntouched}
use Rattle.log_source.proofs.RunLemmas.{read_next, read_bytes}
use Rattle.log_start.specs.Found.{IsAsBefore}

pub if_ok_on : {T E : Type 0} {P : T → Type 0} {Q : Type 0} (r : Result T E) → IfOk r P → ((x : T) → P x → Q) → OnOk r Q
if_ok_on (Ok x) h f = f x h
if_ok_on (Err e) h f = tt

pub if_ok_map : {T E : Type 0} {P Q : T → Type 0} (r : Result T E) → IfOk r P → ((x : T) → P x → Q x) → IfOk r Q
if_ok_map (Ok x) h f = f x h
if_ok_map (Err e) h f = tt

pub if_err_map : {T E : Type 0} {P Q : E → Type 0} (r : Result T E) → IfErr r P → ((e : E) → P e → Q e) → IfErr r Q
if_err_map (Ok x) h f = tt
if_err_map (Err e) h f = f e h

pub if_ok_both : {T E : Type 0} {P Q R : T → Type 0} (r : Result T E) → IfOk r P → IfOk r Q →
    ((x : T) → P x → Q x → R x) → IfOk r R
if_ok_both (Ok x) g h f = f x g h
if_ok_both (Err e) g h f = tt

pub if_ok_all : {T E : Type 0} {P Q R S : T → Type 0} (r : Result T E) → IfOk r P → IfOk r Q → IfOk r R →
    ((x : T) → P x → Q x → R x → S x) → IfOk r S
if_ok_all (Ok x) g h k f = f x g h k
if_ok_all (Err e) g h k f = tt

pub if_some_at : {T : Type 0} (P : T → Type 0) (o : Option T) (x : T) → o ≡ Some x → IfSome o P → P x
if_some_at {T} P o x is h = subst (λ (p : Option T). IfSome p P) is h

pub if_none_at : {T : Type 0} (P : Type 0) (o : Option T) → o ≡ None → IfNone o P → P
if_none_at {T} P o is h = subst (λ (p : Option T). IfNone p P) is h

-- what one read does, of a source whose state has these parts
abbrev pub IsStep : {S D N : Type 0} → (S → Answer → S → Type 0) → (S → N) → (S → D) → (S → ℕ) → (S → ℕ)
    → Device D → Type 0
IsStep {S} gives name disk at end d =
    (s : S) (answer : Answer) (t : S) → gives s answer t → (name t ≡ name s) × (end t ≡ end s)
    × (d.tells (disk s) → IsUntouched d.tells d.written d.may_leave d.moment d.left_since (disk s) (disk t)
    × GivesFrom (d.written (disk s)) (at s) answer (at t))

module _ {S D N : Type 0} (gives : S → Answer → S → Type 0) (name : S → N) (disk : S → D) (at end : S → ℕ)
    (d : Device D) (step : IsStep gives name disk at end d) where
  name_of : (answers : List Answer) (s t : S) → Calls gives s answers t → name t ≡ name s
  name_of [] s t same = ap name (sym same)
  name_of (answer ∷ answers) s t calls =
      name_of answers calls.0 t calls.2 ∙ (step s answer calls.0 calls.1).0

  end_of : (answers : List Answer) (s t : S) → Calls gives s answers t → end t ≡ end s
  end_of [] s t same = ap end (sym same)
  end_of (answer ∷ answers) s t calls =
      end_of answers calls.0 t calls.2 ∙ (step s answer calls.0 calls.1).1

  kept_of : (answers : List Answer) (s t : S) → d.tells (disk s) → Calls gives s answers t →
      IsAsBefore d (disk s) (disk t)
  kept_of [] s t told same =
      subst (λ (u : S). IsAsBefore d (disk s) (disk u)) same (record {
        told = told;
        same = refl;
        fewer = λ left may. may;
        time = record {
          later = omega arith;
          nothing_else = λ n left le since. inl since;
          keeps = λ n left le past. past;
        };
      })
  kept_of (answer ∷ answers) s t told calls =
      let here = ((step s answer calls.0 calls.1).2 told).0 in
      let later = kept_of answers calls.0 t here.told calls.2 in
      record {
        told = later.told;
        same = later.same ∙ here.same;
        fewer = λ left may. here.fewer left (later.fewer left may);
        time = record {
          later = omega (arith, here.time.later, later.time.later);
          nothing_else = λ n left le since.
              ⊎_elim
              (λ mid. ⊎_elim (λ past. inl past) (λ now. inr (here.fewer left now))
              (here.time.nothing_else n left le mid))
              (λ now. inr (here.fewer left now))
              (later.time.nothing_else n left (omega (arith, le, here.time.later)) since);
          keeps = λ n left le past.
              later.time.keeps n left (omega (arith, le, here.time.later)) (here.time.keeps n left le past);
        };
      }

  abbrev Known : S → S → Type 0
  Known s u = d.tells (disk u) × (d.written (disk u) ≡ d.written (disk s))

  known_step : (s u : S) (answer : Answer) (v : S) → Known s u → gives u answer v →
      Known s v × GivesFrom (d.written (disk s)) (at u) answer (at v)
  known_step s u answer v k g =
      let here = (step u answer v g).2 k.0 in (
        (here.0.told, here.0.same ∙ k.1),
        subst (λ (file : List ℕ). GivesFrom file (at u) answer (at v)) k.1 here.1,
      )

-- a run, of which the calls say the rest
module _ {S : Type 0} {gives : S → Answer → S → Type 0} {s t : S} (answers : List Answer)
    (calls : Calls gives s answers t) {D N : Type 0} (name : S → N) (disk : S → D) (at end : S → ℕ)
    (d : Device D) (step : IsStep gives name disk at end d) where
  pub same_name : name t ≡ name s
  same_name = name_of gives name disk at end d step answers s t calls

  pub as_before : d.tells (disk s) → IsAsBefore d (disk s) (disk t)
  as_before told = kept_of gives name disk at end d step answers s t told calls

  module _ (told : d.tells (disk s)) (begins : at s ≡ 0) where
    -- how many bytes came
    pub read_so_far : at t ≡ length (bytes_of_calls answers)
    read_so_far =
        let next = read_next gives at (Known gives name disk at end d step s)
        (d.written (disk s)) (known_step gives name disk at end d step s)
        answers s t (told, refl) calls in
        omega (arith, begins, next)

    -- at the end it was all of the file
    pub read_whole : at t ≡ end t → end s ≡ length (d.written (disk s)) → bytes_of_calls answers ≡ d.written (disk s)
    read_whole ended long =
        let ends = end_of gives name disk at end d step answers s t calls in
        ext_get_or 0 (bytes_of_calls answers) (d.written (disk s)) (omega (arith, read_so_far, ended, long, ends))
        (λ j lt. read_bytes gives at (Known gives name disk at end d step s)
        (d.written (disk s)) (known_step gives name disk at end d step s)
        answers s t (told, refl) calls j lt
        ∙ ap (λ (i : ℕ). get_or (d.written (disk s)) i 0) (omega (arith, begins)))

    pub read_within : at t ≤ end t → length (bytes_of_calls answers) ≤ end s
    read_within within =
        let ends = end_of gives name disk at end d step answers s t calls in
        omega (arith, read_so_far, within, ends)
