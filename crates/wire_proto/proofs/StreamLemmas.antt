-- Streams: the messages that a session has answered.
use Rattle.std.proofs.Common.{◌≡◌, ℕ, List, [], ◌∷◌, ◌++◌, map, refl, ◌∙◌, ap, Ok}
use Rattle.wire_frames.specs.Frames.{Gives, Message, frames, messages, up_to_stop}
use Rattle.wire_frames.specs.declared.request.Request.{Request}
use Rattle.wire_frames.specs.declared.request.Request.TheVariants.{Put, Cell, Row, Status, Export, Save, Stop}
use Rattle.wire_frames.specs.declared.request.Request.TheVariants.{PutCells, Stored, Range, Top, Stats, Fold, Groups}
use Rattle.wire_frames.proofs.StreamLemmas.{gives_frames, up_more}
use Rattle.wire_proto.specs.Keeping.{Event}
use Rattle.wire_proto.specs.Answering.{Answers, asked, unasked, of_sum}
use Rattle.wire_proto.specs.Sessions.{AnswersAll}
use Rattle.wire_proto.specs.Plain.{GoOn}
use Rattle.batch_store.specs.Setups.{Setting}

-- a Stop is never answered in the middle
pub goes_on : {S : Type 0} (gives : S → Event → S → Type 0) (setup : Setting) (r : Request) (reply : List ℕ) (s t : S) →
    Answers gives setup r reply s t → r ≡ Stop → ⊥
goes_on gives setup Stop reply s t (asked e a h i) is = a
goes_on gives setup Stop reply s t (unasked a h) is = a
goes_on gives setup Stop reply s t (of_sum m a h) is = a
goes_on gives setup (Put x y z) reply s t h is = cc
goes_on gives setup (Cell x y) reply s t h is = cc
goes_on gives setup (Row x) reply s t h is = cc
goes_on gives setup Status reply s t h is = cc
goes_on gives setup Export reply s t h is = cc
goes_on gives setup Save reply s t h is = cc
goes_on gives setup (PutCells x y z) reply s t h is = cc
goes_on gives setup Stored reply s t h is = cc
goes_on gives setup (Range x y z n) reply s t h is = cc
goes_on gives setup (Top x n) reply s t h is = cc
goes_on gives setup (Groups x k n r) reply s t h is = cc
goes_on gives setup Stats reply s t h is = cc
goes_on gives setup Fold reply s t h is = cc

pub none_stops : {S : Type 0} (gives : S → Event → S → Type 0) (setup : Setting) (s t : S) (rs : List Request)
    (bytes : List ℕ) → AnswersAll gives setup s rs bytes t → GoOn rs
none_stops gives setup s t [] bytes a = tt
none_stops gives setup s t (r ∷ rs) bytes a = (
  goes_on gives setup r a.1 s a.0 a.3,
  none_stops gives setup a.0 t rs a.2 a.5,
)

up_all : (rs : List Request) (ms : List Message) → GoOn rs →
    up_to_stop (map (λ r. Ok r) rs ++ ms) ≡ map (λ r. Ok r) rs ++ up_to_stop ms
up_all [] ms h = refl
up_all (r ∷ rs) ms h = up_more r (map (λ r. Ok r) rs ++ ms) h.0 ∙ ap (λ l. Ok r ∷ l) (up_all rs ms h.1)

-- the messages of what a link gave: the requests that were answered, and then those of what is kept
pub answered_messages : {S : Type 0} (gives : S → Event → S → Type 0) (setup : Setting) (s t : S) (given : List ℕ)
    (rs : List Request) (replies kept : List ℕ) →
    Gives given rs kept → AnswersAll gives setup s rs replies t → messages given ≡ map (λ r. Ok r) rs ++ messages kept
unfolding messages
answered_messages gives setup s t given rs replies kept a b = ap up_to_stop (gives_frames given rs kept a) ∙
    up_all rs (frames kept) (none_stops gives setup s t rs replies b)
