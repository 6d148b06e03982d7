use Rattle.std.proofs.Common.{◌∙◌, ◌<◌, ℕ, ap, sym, subst, arith, rules, get_or, drop, List, ◌+◌}
use Rattle.std.specs.Int.{w64, from_le_bytes}
use Rattle.std.proofs.lemmas.List.{get_or-drop}
use Rattle.crc32c.specs.Remainders.{after_bytes}
use Rattle.crc32c.proofs.Linear.{word_read}
use Rattle.crc32c.proofs.checksum.Crc.add.Goals as goal

pub loop-word-init : goal.loop-word-init
loop-word-init c = record {
  all = first_of (search rules, cc, grind (arith, c.self.view_is));
  fits =
      λ i. omega (arith, c.type_inv.bytes i);
}

pub loop-word-preserved : goal.loop-word-preserved
loop-word-preserved c =
    let rest = c.loop-word.rest.now in
    let parts = c.in-Some.ensures.cases in
    record {
      all =
          ap (after_bytes c.after_word-remainder.result) parts.1
          ∙ ap (λ n. after_bytes n (drop 8 rest)) c.after_word-remainder.ensures
          ∙ word_read c.loop-word.remainder c.from_le_bytes.result rest (omega (arith, parts.2))
          c.loop-word.invariant.fits
          (c.from_le_bytes.ensures ∙ ap (from_le_bytes w64) parts.0)
          ∙ c.loop-word.invariant.all;
      fits = λ i.
          subst (λ (l : List ℕ). get_or l i 0 < 256) (sym parts.1)
          (subst (λ n. n < 256) (sym (get_or-drop 8 rest i 0)) (c.loop-word.invariant.fits (8 + i)));
    }
