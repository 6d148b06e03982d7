use Rattle.std.proofs.Common.{◌∙◌, List, ℕ, length, length-drop, ap, refl, arith}
use Rattle.log_head.specs.Heads.{cuts_of}
use Rattle.log_head.proofs.TellLemmas.{setup_same, setup_refused}
use Rattle.log_head.proofs.decode.setup_told.Goals as goal

pub cuts_at-cuts-requires-clause-bytes : goal.cuts_at-cuts-requires-clause-bytes
cuts_at-cuts-requires-clause-bytes c =
    omega (arith, c.requires.few, ap (λ (l : List ℕ). length l) c.behind-listed.ensures, length-drop 29 c.args.page.now)

pub returns-in-Ok-clause-ok : goal.returns-in-Ok-clause-ok
returns-in-Ok-clause-ok c = (
  c.in-Ok.ensures.ok.0
      ∙ setup_same c.args.page.now c.args.count c.behind-rest.result.now c.requires.count c.behind-rest.ensures _ _ _
      _ _ _
      c.u64_at-rows.ensures c.u64_at-cols.ensures
      (c.cuts_at-cuts.ensures ∙ ap (λ (l : List ℕ). cuts_of c.args.count l) c.behind-listed.ensures)
      c.u8_at-shards.ensures c.u64_at-limit.ensures c.u64_at-most.ensures,
  c.in-Ok.ensures.ok.1,
)

pub returns-in-Err-clause-err : goal.returns-in-Err-clause-err
returns-in-Err-clause-err c = (
  refl,
  setup_refused c.args.page.now _ _
      (setup_same c.args.page.now c.args.count c.behind-rest.result.now c.requires.count c.behind-rest.ensures _ _ _
      _ _ _
      c.u64_at-rows.ensures c.u64_at-cols.ensures
      (c.cuts_at-cuts.ensures ∙ ap (λ (l : List ℕ). cuts_of c.args.count l) c.behind-listed.ensures)
      c.u8_at-shards.ensures c.u64_at-limit.ensures c.u64_at-most.ensures) c.in-Err.ensures.err,
)
