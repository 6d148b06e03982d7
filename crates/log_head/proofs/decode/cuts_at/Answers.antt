use Rattle.std.proofs.Common.{◌≡◌, ◌++◌, ◌∷◌, [], ◌∙◌, ℕ, List, take, sym, ap, subst, refl, arith}
use Rattle.std.proofs.lemmas.List.{take_more_set}
use Rattle.std.proofs.Math.ListN.{length-set}
use Rattle.log_head.specs.Heads.{cuts_of}
use Rattle.log_head.proofs.PageParts.{cuts_none, cuts_more}
use Rattle.log_head.proofs.decode.cuts_at.Goals as goal

pub places-init : goal.places-init
places-init c = record { seven = refl; read = sym (cuts_none c.args.bytes.now) }

pub places-preserved : goal.places-preserved
places-preserved c =
    let old = c.places.invariant in
    let i = c.places.i in
    let cut = c.u64_at-cut.result in
    record {
      seven = length-set c.places.cuts i cut ∙ old.seven;
      read = take_more_set c.places.cuts i cut (omega (arith, old.seven, c.places-test.true, c.requires.few))
          ∙ ap (λ (l : List ℕ). l ++ cut ∷ []) old.read
          ∙ ap (λ (x : ℕ). cuts_of i c.args.bytes.now ++ x ∷ []) c.u64_at-cut.ensures
          ∙ sym (cuts_more i c.args.bytes.now);
    }

pub returns : goal.returns
returns c =
    let last : c.places.i ≡ c.args.count = omega (arith, c.places-test.false, c.places.auto.i-end) in
    subst (λ (n : ℕ). take n c.places.cuts ≡ cuts_of n c.args.bytes.now) last c.places.invariant.read
