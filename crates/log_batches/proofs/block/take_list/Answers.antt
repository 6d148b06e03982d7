use Rattle.std.proofs.Common.{◌≡◌, ◌≤◌, List, ℕ, arith, inl, inr, refl, sym, ap, subst, ◌∙◌, length}
use Rattle.batch_store.specs.Batches.{values}
use Rattle.log_batches.specs.Held.{IsTaken, HasNoBatches}
use Rattle.log_batches.proofs.Taking.{ends, goes, task_of, begun_ends, begun_goes, list_taken, taken_within, none_taken, behind_goes, refused}
use Rattle.log_batches.proofs.block.take_list.Goals as goal

pub returns-in-Ok-clause-ok : goal.returns-in-Ok-clause-ok
returns-in-Ok-clause-ok c =
    let h = c.args.head.now in
    let s = c.new-source.result in
    let is = c.new-source.ensures in
    let limit = c.restart.ensures.limit ∙ ap length (sym is) in
    let j = c.in-Ok.ensures.ok s (task_of h (length s) (ends h)) (ends h)
    (begun_ends h s c.restart.new.self c.restart.ensures.pending c.restart.ensures.taken c.restart.ensures.remainder
    limit) in
    let t = list_taken h c.requires s c.read_list.new.r c.read_list.new.reader (values c.in-Ok.list.items) j in
    subst (λ (n : ℕ). IsTaken h.setup c.args.bytes.now (values c.in-Ok.list.items) n) (sym c.taken.ensures)
    (subst (λ (l : List ℕ). IsTaken h.setup l (values c.in-Ok.list.items) c.read_list.new.reader.taken) is t)

pub returns-in-Ok-clause-within : goal.returns-in-Ok-clause-within
returns-in-Ok-clause-within c =
    let h = c.args.head.now in
    let s = c.new-source.result in
    let is = c.new-source.ensures in
    let limit = c.restart.ensures.limit ∙ ap length (sym is) in
    let j = c.in-Ok.ensures.ok s (task_of h (length s) (ends h)) (ends h)
    (begun_ends h s c.restart.new.self c.restart.ensures.pending c.restart.ensures.taken c.restart.ensures.remainder
    limit) in
    let t = taken_within h (length s) (ends h) s c.read_list.new.r c.read_list.new.reader _ j in
    let same = ap length is in
    omega (arith, t, same, c.taken.ensures)

pub returns-in-Err-clause-err : goal.returns-in-Err-clause-err
returns-in-Err-clause-err c =
    let h = c.args.head.now in
    let s = c.new-source.result in
    let is = c.new-source.ensures in
    let limit = c.restart.ensures.limit ∙ ap length (sym is) in
    let stops = c.in-Err.ensures.err s (task_of h (length s) (goes h)) (goes h) (λ list. behind_goes h list)
    (begun_goes h s c.restart.new.self c.restart.ensures.pending c.restart.ensures.taken c.restart.ensures.remainder
    limit) in
    rw c.refusal.ensures (refused c.in-Err.fault (HasNoBatches h.setup c.args.bytes.now) (λ no_memory.
    subst (λ (l : List ℕ). HasNoBatches h.setup l) is
    (none_taken h c.requires s c.read_list.new.r c.in-Err.fault no_memory stops)))
