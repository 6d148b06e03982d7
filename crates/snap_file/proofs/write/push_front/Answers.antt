use Rattle.std.proofs.Common.{◌++◌, ◌∙◌, sym, ap, List, ℕ}
use Rattle.snap_file.specs.Spelling.{head_bytes, origin_bytes, version}
use Rattle.snap_file.proofs.OriginLemmas.{origin_written}
use Rattle.snap_file.proofs.write.push_front.Goals as goal

pub returns-clause-pending : goal.returns-clause-pending
returns-clause-pending c =
    let h = head_bytes version c.args.setup.now c.args.batches c.args.total in
    c.push_origin.ensures.pending
    ∙ ap (λ (l : List ℕ). l ++ origin_bytes c.args.origin) c.push_head.ensures.pending
    ∙ ap (λ (l : List ℕ). h ++ l) (sym (origin_written c.args.origin))

pub returns-clause-summed : goal.returns-clause-summed
returns-clause-summed c = λ r h. c.push_origin.ensures.summed r (c.push_head.ensures.summed r h)
