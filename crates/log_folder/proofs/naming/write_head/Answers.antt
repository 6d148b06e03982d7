use Rattle.std.proofs.Common.{ℕ, ◌+◌, ◌≤◌, List, length, get_or, ap, ◌∙◌, sym, subst}
use Rattle.log_folder.specs.Names.{HasBytes}
use Rattle.log_folder.proofs.Heads.{head_written, head_left}
use Rattle.log_folder.proofs.naming.write_head.Goals as goal

pub returns-clause-head : goal.returns-clause-head
returns-clause-head g c = λ t.
    let fresh = c.requires.fresh t in
    let head = c.args.head.now in
    let told = c.write_at.ensures.tells t in
    let old = g.D.LogDisk.written c.args.disk.now in
    let now = g.D.LogDisk.written c.write_at.new.self in
    let here : HasBytes head now = head_written head old now fresh.none (c.in-Ok.ensures.written t) in
    record {
      told = c.sync.ensures.tells told;
      file = record {
        long = subst (λ (l : List ℕ). length head ≤ length l) (sym (c.sync.ensures.same told)) here.long;
        same = λ i. ap (λ (l : List ℕ). get_or l i 0) (c.sync.ensures.same told) ∙ here.same i;
      };
      durable = λ left may.
          let from = c.write_at.ensures.crash t left (c.sync.ensures.crash told left may) in
          head_left head from.0 now left (fresh.durable from.0 from.1) from.2 here
          (λ j lt. c.in-Ok-sync.ensures.durable told left may (0 + j) (c.in-Ok.ensures.fresh t j lt))
          (c.in-Ok-sync.ensures.long told left may);
    }
