-- What was saved as of an origin was saved by the book of its identity.
use Rattle.std.proofs.Common.{◌≡◌, ℕ, List, Option, Some, None, refl}
use Rattle.std.specs.Prelude.{IsSomeAnd, String}
use Rattle.batch_store.specs.Setups.{Setting}
use Rattle.batch_store.specs.Accepted.{Accepted}
use Rattle.snap_file.specs.declared.origin.Origin.{Origin}
use Rattle.session_pool.specs.Saves.{IsSaved, of_book, of_origin}

pub held_in : {D X : Type 0} (saves : D → List ℕ → Origin → Setting → Accepted → Type 0) (d : D) (bytes : X → List ℕ)
    (o : Option X) (x : Origin) (v : Setting) (a : Accepted) → IsSomeAnd o (λ p. saves d (bytes p) x v a) →
    IsSomeAnd o (λ p. of_book saves x.identity d (bytes p) v a)
held_in saves d bytes (Some p) x v a h = (x, refl, h)
held_in saves d bytes None x v a h = h

pub saved_in : {D Z : Type 0} (saves : D → List ℕ → Origin → Setting → Accepted → Type 0) (d : D) (o : Option (String Z))
    (x : Origin) (v : Setting) (a : Accepted) → IsSaved (of_origin saves x) d o v a →
    IsSaved (of_book saves x.identity) d o v a
saved_in saves d (Some p) x v a h = (x, refl, h)
saved_in saves d None x v a h = h
