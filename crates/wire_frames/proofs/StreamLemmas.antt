-- Streams: all frames of the bytes of a link.
use Rattle.std.proofs.Common.{◌≡◌, ℕ, zero, suc, ◌≤◌, List, [], ◌∷◌, ◌++◌, length, map, refl, sym, ◌∙◌, ap, arith}
use Rattle.std.proofs.Common.{Option, Some, None, Ok, Err}
use Rattle.wire_frames.specs.Frames.{front, Gives, Message, frames, frames_by, frames_then, frames_within, messages}
use Rattle.wire_frames.specs.Frames.{up_to_stop}
use Rattle.wire_frames.specs.declared.request.Request.{Request}
use Rattle.wire_frames.specs.declared.request.Request.TheVariants.{Put, Cell, Row, Status, Export, Save, Stop}
use Rattle.wire_frames.specs.declared.request.Request.TheVariants.{PutCells, Stored, Range, Top, Stats, Fold, Groups}
use Rattle.wire_frames.specs.declared.request.FrameFault.{FrameFault}
use Rattle.wire_frames.proofs.FrontLemmas.{front_more, front_short, front_shorter}

-- no bytes, no frames
within_none : (n : ℕ) (b : List ℕ) → front b ≡ None → frames_within n b ≡ []
within_none zero b e = refl
within_none (suc n) b e = ap (λ o. frames_then (frames_within n) o) e

none_short : (b : List ℕ) → length b ≤ 0 → front b ≡ None
none_short b h = front_short b (omega arith)

-- as many steps as bytes are enough
by_message : (n m : ℕ) → ((rest : List ℕ) → length rest ≤ n → length rest ≤ m →
    frames_within n rest ≡ frames_within m rest) →
    (b : List ℕ) (x : Message) (rest : List ℕ) → front b ≡ Some (x, rest) → length b ≤ suc n → length b ≤ suc m →
    frames_by (frames_within n) x rest ≡ frames_by (frames_within m) x rest
by_message n m again b (Ok r) rest e h k = let l = front_shorter b r rest e in
    ap (λ ms. Ok r ∷ ms) (again rest (omega arith) (omega arith))
by_message n m again b (Err f) rest e h k = refl

by_front : (n m : ℕ) → ((rest : List ℕ) → length rest ≤ n → length rest ≤ m →
    frames_within n rest ≡ frames_within m rest) →
    (b : List ℕ) (o : Option (Message × List ℕ)) → front b ≡ o → length b ≤ suc n → length b ≤ suc m →
    frames_then (frames_within n) o ≡ frames_then (frames_within m) o
by_front n m again b None e h k = refl
by_front n m again b (Some found) e h k = by_message n m again b found.0 found.1 e h k

enough : (n m : ℕ) (b : List ℕ) → length b ≤ n → length b ≤ m → frames_within n b ≡ frames_within m b
enough zero m b h k = sym (within_none m b (none_short b h))
enough (suc n) zero b h k = within_none (suc n) b (none_short b k)
enough (suc n) (suc m) b h k = by_front n m (λ rest. enough n m rest) b (front b) refl h k

pub frames_none : (b : List ℕ) → front b ≡ None → frames b ≡ []
unfolding frames
frames_none b e = within_none (length b) b e

pub frames_request : (b : List ℕ) (r : Request) (rest : List ℕ) → front b ≡ Some (Ok r, rest) →
    frames b ≡ Ok r ∷ frames rest
unfolding frames
frames_request b r rest e =
    let l = front_shorter b r rest e in
    enough (length b) (suc (length b)) b (omega arith) (omega arith) ∙
    ap (λ o. frames_then (frames_within (length b)) o) e
    ∙ ap (λ ms. Ok r ∷ ms) (enough (length b) (length rest) rest (omega arith) (omega arith))

pub frames_bad : (b : List ℕ) (f : FrameFault) (rest : List ℕ) → front b ≡ Some (Err f, rest) → frames b ≡ Err f ∷ []
unfolding frames
frames_bad b f rest e = enough (length b) (suc (length b)) b (omega arith) (omega arith) ∙
    ap (λ o. frames_then (frames_within (length b)) o) e

-- requests that were handed out, and then the frames of the rest
pub gives_frames : (bytes : List ℕ) (rs : List Request) (kept : List ℕ) → Gives bytes rs kept →
    frames bytes ≡ map (λ r. Ok r) rs ++ frames kept
gives_frames bytes [] kept e = ap frames e
gives_frames bytes (r ∷ rs) kept a = frames_request bytes r a.0 a.1 ∙
    ap (λ ms. Ok r ∷ ms) (gives_frames a.0 rs kept a.2)

-- requests, one more
pub gives_snoc : (bytes : List ℕ) (rs : List Request) (kept : List ℕ) (r : Request) (rest : List ℕ) →
    Gives bytes rs kept → front kept ≡ Some (Ok r, rest) → Gives bytes (rs ++ r ∷ []) rest
gives_snoc bytes [] kept r rest e h = (rest, ap front e ∙ h, refl)
gives_snoc bytes (x ∷ rs) kept r rest a h = (a.0, a.1, gives_snoc a.0 rs kept r rest a.2 h)

pub gives_more : (bytes more : List ℕ) (rs : List Request) (kept : List ℕ) → Gives bytes rs kept →
    Gives (bytes ++ more) rs (kept ++ more)
gives_more bytes more [] kept e = ap (λ l. l ++ more) e
gives_more bytes more (r ∷ rs) kept a = (a.0 ++ more, front_more bytes more r a.0 a.1, gives_more a.0 more rs kept a.2)

-- messages
pub up_more : (r : Request) (ms : List Message) → (r ≡ Stop → ⊥) → up_to_stop (Ok r ∷ ms) ≡ Ok r ∷ up_to_stop ms
up_more (Put x y z) ms h = refl
up_more (Cell x y) ms h = refl
up_more (Row x) ms h = refl
up_more Status ms h = refl
up_more Export ms h = refl
up_more Save ms h = refl
up_more (PutCells x y z) ms h = refl
up_more Stored ms h = refl
up_more (Range x y z n) ms h = refl
up_more (Top x n) ms h = refl
up_more (Groups x s n r) ms h = refl
up_more Stats ms h = refl
up_more Fold ms h = refl
up_more Stop ms h = absurd (h refl)

pub messages_none : (b : List ℕ) → front b ≡ None → messages b ≡ []
unfolding messages
messages_none b e = ap up_to_stop (frames_none b e)

pub messages_stop : (b rest : List ℕ) → front b ≡ Some (Ok Stop, rest) → messages b ≡ Ok Stop ∷ []
unfolding messages
messages_stop b rest e = ap up_to_stop (frames_request b Stop rest e)

pub messages_bad : (b : List ℕ) (f : FrameFault) (rest : List ℕ) → front b ≡ Some (Err f, rest) →
    messages b ≡ Err f ∷ []
unfolding messages
messages_bad b f rest e = ap up_to_stop (frames_bad b f rest e)

pub messages_request : (b : List ℕ) (r : Request) (rest : List ℕ) → front b ≡ Some (Ok r, rest) → (r ≡ Stop → ⊥) →
    messages b ≡ Ok r ∷ messages rest
unfolding messages
messages_request b r rest e h = ap up_to_stop (frames_request b r rest e) ∙ up_more r (frames rest) h
