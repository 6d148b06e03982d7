-- Bytes without LF, and bytes that are cut at one.
use Rattle.std.proofs.Common.{◌≡◌, ℕ, ◌+◌, ◌<◌, List, ◌∷◌, ◌++◌, length, take, drop, get_or, sym, ◌∙◌, ap, arith, true}
use Rattle.std.proofs.Common.{false}
use Rattle.std.proofs.lemmas.List.{take-append-drop, drop_more}
use Rattle.std.proofs.lemmas.List.Elements.{All-append}
use Rattle.std.proofs.lemmas.Bool.Decides.{nat_tests}
use Rattle.std.specs.Prelude.{nat_eq}
use Rattle.mm_text.specs.Lines.{IsLine, is_line_feed}

pub both_lines : (a b : List ℕ) → IsLine a → IsLine b → IsLine (a ++ b)
both_lines a b p q = record { no_feed = All-append (λ x. is_line_feed x ≡ false) a b p.no_feed q.no_feed }

-- the piece, cut at its first LF
pub piece_cut : (piece : List ℕ) (i : ℕ) → i < length piece → nat_eq (get_or piece i 0) 10 ≡ true →
    piece ≡ take i piece ++ 10 ∷ drop (i + 1) piece
piece_cut piece i h e =
    let ten : get_or piece i 0 ≡ 10 = grind (arith, nat_tests) in
    sym (take-append-drop i piece) ∙ ap (λ t. take i piece ++ t) (drop_more piece i 0 h
    ∙ ap (λ b. b ∷ drop (i + 1) piece) ten)
