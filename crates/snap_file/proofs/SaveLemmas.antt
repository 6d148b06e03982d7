-- Saves: what a writer did to the file that was lent to it, and the name of that file.
use Rattle.std.proofs.Common.{◌≡◌, ℕ, List, length, Result, Ok, Err, OnOk, IfErr, refl, ap, arith}
use Rattle.std.proofs.Common.{length-append, codes, ◌∙◌, is_err, false}
use Rattle.byte_io.specs.Streams.{Answer}
use Rattle.byte_io.specs.Writing.{AnyOffer, HasTaken, HasStopped}
use Rattle.byte_io.specs.declared.fault.WriteFault.{WriteFault}
use Rattle.file_folder.proofs.RunLemmas.{taken_mapped, stopped_mapped, calls_keep}
use Rattle.snap_file.specs.Saving.{unfinished}

pub unfinished_differs : (path : List ℕ) → unfinished path ≡ path → ⊥
unfinished_differs path e =
    let longer = length-append path (codes ".new") in
    let four : length (codes ".new") ≡ 4 = refl in
    let same = ap length e in
    omega arith

-- what a sink did, of what stands behind it
pub ok_mapped : {R S T : Type 0} (r : Result R WriteFault) (step : S → List ℕ → Answer → S → Type 0) (failures : S → ℕ)
    (s t : S) (bytes : List ℕ) → OnOk r (HasTaken step failures s t bytes) →
    (step' : T → List ℕ → Answer → T → Type 0) (failures' : T → ℕ) (g : S → T) →
    ((x : S) (offered : List ℕ) (answer : Answer) (y : S) → step x offered answer y →
    step' (g x) offered answer (g y)) →
    ((x : S) → failures' (g x) ≡ failures x) →
    OnOk r (HasTaken step' failures' (g s) (g t) bytes)
ok_mapped (Ok x) step failures s t bytes h step' failures' g moves same =
    taken_mapped step step' failures failures' g moves same s t bytes h
ok_mapped (Err x) step failures s t bytes h step' failures' g moves same = tt

pub err_mapped : {R S T : Type 0} (r : Result R WriteFault) (step : S → List ℕ → Answer → S → Type 0) (failures : S → ℕ)
    (s t : S) (text : List ℕ) → IfErr r (λ f. HasStopped step failures s t text f.written) →
    (step' : T → List ℕ → Answer → T → Type 0) (failures' : T → ℕ) (g : S → T) →
    ((x : S) (offered : List ℕ) (answer : Answer) (y : S) → step x offered answer y →
    step' (g x) offered answer (g y)) →
    ((x : S) → failures' (g x) ≡ failures x) →
    IfErr r (λ f. HasStopped step' failures' (g s) (g t) text f.written)
err_mapped (Ok x) step failures s t text h step' failures' g moves same = tt
err_mapped (Err x) step failures s t text h step' failures' g moves same =
    stopped_mapped step step' failures failures' g moves same s t text x.written h

-- what no call changes
pub sink_keeps : {R S A : Type 0} (r : Result R WriteFault) (step : S → List ℕ → Answer → S → Type 0) (failures : S → ℕ)
    (s t : S) (text : List ℕ) → OnOk r (HasTaken step failures s t text) →
    IfErr r (λ f. HasStopped step failures s t text f.written) → (key : S → A) →
    ((x : S) (offered : List ℕ) (answer : Answer) (y : S) → step x offered answer y → key y ≡ key x) → key t ≡ key s
sink_keeps (Ok x) step failures s t text ok err key keeps =
    calls_keep (AnyOffer step) key (λ x answer y c. keeps x c.0 answer y c.1) ok.answers s t ok.calls
sink_keeps (Err x) step failures s t text ok err key keeps =
    keeps err.before err.offered err.last t err.last_call
    ∙ calls_keep (AnyOffer step) key (λ x answer y c. keeps x c.0 answer y c.1) err.answers s err.before err.calls

-- what is so with any answer of a call, where the answer is only looked at for its kind
pub done_gives : {E : Type 0} (r : Result (Unit {0}) E) (P : Result (Unit {0}) E → Type 0) → is_err r ≡ false → P r →
    P (Ok tt)
done_gives (Ok x) P is h = h
done_gives (Err x) P is h = absurd (cc)
