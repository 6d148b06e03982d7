-- The bytes that a link has given.
use Rattle.std.proofs.Common.{◌≡◌, ℕ, List, [], ◌∷◌, ◌++◌, Ok, refl, sym, ap, ◌∙◌, append_assoc, append-nil}
use Rattle.byte_io.specs.Streams.{Answer, bytes_of_calls}
use Rattle.byte_io.proofs.StreamLemmas.{calls-append, calls_one, bytes_of_calls-append}
use Rattle.ask_server.specs.Asks.{HasGiven}

module _ {S : Type 0} (reads : S → Answer → S → Type 0) where
  pub given_none : (s : S) (old : List ℕ) → HasGiven reads s s old old
  given_none s old = record { answers = []; calls = refl; bytes_are = sym (append-nil old) }

  pub given_one : (s t : S) (old new bytes : List ℕ) → reads s (Ok bytes) t → new ≡ old ++ bytes →
      HasGiven reads s t old new
  given_one s t old new bytes step is = record {
    answers = Ok bytes ∷ [];
    calls = calls_one reads s t (Ok bytes) step;
    bytes_are = is ∙ ap (λ (b : List ℕ). old ++ b) (sym (append-nil bytes));
  }

  pub given_more : (s m t : S) (a b c : List ℕ) → HasGiven reads s m a b → HasGiven reads m t b c →
      HasGiven reads s t a c
  given_more s m t a b c one two = record {
    answers = one.answers ++ two.answers;
    calls = calls-append reads one.answers two.answers s m t one.calls two.calls;
    bytes_are = two.bytes_are ∙ ap (λ (x : List ℕ). x ++ bytes_of_calls two.answers) one.bytes_are
        ∙ append_assoc a (bytes_of_calls one.answers) (bytes_of_calls two.answers)
        ∙ ap (λ (x : List ℕ). a ++ x) (sym (bytes_of_calls-append one.answers two.answers));
  }
