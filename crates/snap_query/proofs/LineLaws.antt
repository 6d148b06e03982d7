-- Lines that are written one after the other.
use Rattle.std.proofs.Common.{◌≡◌, ℕ, ◌+◌, ◌<◌, List, ◌++◌, length, take, drop, get_or, flat_map, sym, ap, subst, ◌∙◌}
use Rattle.std.proofs.Common.{[], Result, Ok, Err, OnOk}
use Rattle.std.proofs.lemmas.List.{take-append-drop, take_more, flat_map_more}
use Rattle.std.proofs.lemmas.Grind.{flat_map-append}
use Rattle.byte_io.specs.Streams.{Answer}
use Rattle.byte_io.specs.Buffers.{HasWritten, Unwritten}
use Rattle.byte_io.specs.Writing.{HasStopped}
use Rattle.byte_io.proofs.SinkLemmas.{has_stopped_longer}

module _ {T : Type 0} (line : T → List ℕ) (told : List T) (i : ℕ) (d : T) (below : i < length told) where
  lines_more : flat_map line (take i told) ++ line (get_or told i d) ≡ flat_map line (take (i + 1) told)
  lines_more =
      flat_map_more line [] (take i told) (get_or told i d) ∙ ap (flat_map line) (sym (take_more told i d below))

  lines_cut : flat_map line (take i told) ++ flat_map line (drop i told) ≡ flat_map line told
  lines_cut = sym (flat_map-append line (take i told) (drop i told)) ∙ ap (flat_map line) (take-append-drop i told)

  module _ {S : Type 0} (step : S → List ℕ → Answer → S → Type 0) (failures : S → ℕ) (s t : S) where
    pub written_next : (buffer : Unwritten) →
        HasWritten step failures s t (flat_map line (take i told) ++ line (get_or told i d)) buffer →
        HasWritten step failures s t (flat_map line (take (i + 1) told)) buffer
    written_next buffer a = subst (λ v. HasWritten step failures s t v buffer) lines_more a

    pub stopped_before : (n : ℕ) → HasStopped step failures s t (flat_map line (take i told)) n →
        HasStopped step failures s t (flat_map line told) n
    stopped_before n a = subst (λ v. HasStopped step failures s t v n) lines_cut
        (has_stopped_longer step failures s t _ (flat_map line (drop i told)) n a)

pub on_ok_both : {T E P Q R : Type 0} (r : Result T E) → (P → Q → R) → OnOk r P → OnOk r Q → OnOk r R
on_ok_both (Ok x) f p q = f p q
on_ok_both (Err e) f p q = tt
