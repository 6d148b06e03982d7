-- What a run of reads gave of a file, whatever else the source has.
use Rattle.std.proofs.Common.{◌≡◌, inl, inr, ℕ, ◌+◌, ◌-◌, ◌<◌, List, [], ◌∷◌, ◌++◌, length, length-append, get_or}
use Rattle.std.proofs.Common.{◌∙◌, ap, arith}
use Rattle.std.specs.Prelude.{Ok, Err}
use Rattle.std.proofs.lemmas.Bool.{cases_lt}
use Rattle.std.proofs.lemmas.List.{get_or_append_left, get_or-append-add}
use Rattle.byte_io.specs.Streams.{Answer, Calls, bytes_of_calls}
use Rattle.log_source.specs.Sources.{GivesFrom}

module _ {S : Type 0} (gives : S → Answer → S → Type 0) (at : S → ℕ) (Known : S → Type 0) (file : List ℕ)
    (step : (s : S) (answer : Answer) (t : S) → Known s → gives s answer t →
    Known t × GivesFrom file (at s) answer (at t)) where
  pub read_next : (answers : List Answer) (s t : S) → Known s → Calls gives s answers t →
      at t ≡ at s + length (bytes_of_calls answers)
  read_next [] s t known same = omega (arith, ap at same)
  read_next (Ok bytes ∷ answers) s t known calls =
      let here = step s (Ok bytes) calls.0 known calls.1 in
      let later = read_next answers calls.0 t here.0 calls.2 in
      omega (arith, here.1.0, later, length-append bytes (bytes_of_calls answers))
  read_next (Err fault ∷ answers) s t known calls =
      let here = step s (Err fault) calls.0 known calls.1 in
      let later = read_next answers calls.0 t here.0 calls.2 in
      omega (arith, here.1, later)

  pub read_bytes : (answers : List Answer) (s t : S) → Known s → Calls gives s answers t →
      (j : ℕ) → j < length (bytes_of_calls answers) → get_or (bytes_of_calls answers) j 0 ≡ get_or file (at s + j) 0
  read_bytes [] s t known same j lt = absurd (omega (arith, lt))
  read_bytes (Ok bytes ∷ answers) s t known calls j lt =
      let here = step s (Ok bytes) calls.0 known calls.1 in
      let later = read_bytes answers calls.0 t here.0 calls.2 in
      elim (cases_lt j (length bytes)) [
        | inl inside ↦ get_or_append_left bytes (bytes_of_calls answers) 0 j inside ∙ here.1.1 j inside
        | inr behind ↦
            let k = j - length bytes in
            let split : j ≡ length bytes + k = omega (arith, behind) in
            let place : at calls.0 + k ≡ at s + j = omega (arith, here.1.0, behind) in
            ap (λ n. get_or (bytes ++ bytes_of_calls answers) n 0) split
            ∙ get_or-append-add bytes (bytes_of_calls answers) k 0
            ∙ later k (omega (arith, lt, behind, length-append bytes (bytes_of_calls answers)))
            ∙ ap (λ n. get_or file n 0) place
      ]
  read_bytes (Err fault ∷ answers) s t known calls j lt =
      let here = step s (Err fault) calls.0 known calls.1 in
      let later = read_bytes answers calls.0 t here.0 calls.2 in
      later j lt ∙ ap (λ n. get_or file (n + j) 0) here.1
