use Rattle.std.proofs.Common.{◌≡◌, ℕ, false, true, Some, None, sym, ◌∙◌, ap, arith, suc, ◌+◌, ◌++◌, length, take, add-one}
use Rattle.std.specs.Prelude.{slice_get}
use Rattle.std.specs.Arc.{arc_value}
use Rattle.std.proofs.lemmas.Option.{same_Some}
use Rattle.batch_store.specs.Batches.{Submission}
use Rattle.batch_store.specs.Parts.{concerns, concerned}
use Rattle.plain_engine.proofs.SameLaws.{behind_folded, held_next, next_taken, next_skipped, within_list}
use Rattle.plain_engine.proofs.KnownLaws.{place_after, same_known}
use Rattle.plain_engine.proofs.known.known_follows.Goals as goal
use Rattle.plain_engine.proofs.known.known_follows.Goals.{then-concerns+in-Some-at+else-not-same_pair, else-concerns}

pub returns-then-not-same_pair : goal.returns-then-not-same_pair
returns-then-not-same_pair c = (
  λ h. absurd cc,
  λ follows.
      let held = c.args.shard.now.record_list in
      let inv = c.batches.invariant in
      let b = arc_value c.in-Some.batch.now in
      let here : concerns c.args.s c.args.k b.matrix.counts ≡ true =
      ap (λ (x : Submission). concerns c.args.s c.args.k x.matrix.counts) (sym c.deref.ensures)
      ∙ sym c.concerns.ensures ∙ c.if-concerns.true in
      let at = sym (behind_folded c.args.book.now.state _ c.batches.i c.folded-folded.ensures) ∙ sym c.in-Some.ensures in
      let there = held_next c.args.s c.args.k c.args.book.now.state.list c.batches.i b at held
      c.batches.next inv.within inv.so_far here follows in
      let same : arc_value c.in-Some-at.held.now ≡ b = same_Some _ _ (c.in-Some-at.ensures ∙ there) in
      let both = c.deref-in-Some-at.ensures ∙ same ∙ sym c.deref-in-Some-at-2.ensures in
      sym c.if-not-same_pair.true ∙ c.same_pair.ensures.1 (
        ap (λ (x : Submission). x.client) both,
        ap (λ (x : Submission). x.number) both,
      ),
)

pub returns-in-None : goal.returns-in-None
returns-in-None c = (
  λ h. absurd cc,
  λ follows.
      let held = c.args.shard.now.record_list in
      let inv = c.batches.invariant in
      let b = arc_value c.in-Some.batch.now in
      let here : concerns c.args.s c.args.k b.matrix.counts ≡ true =
      ap (λ (x : Submission). concerns c.args.s c.args.k x.matrix.counts) (sym c.deref.ensures)
      ∙ sym c.concerns.ensures ∙ c.if-concerns.true in
      let at = sym (behind_folded c.args.book.now.state _ c.batches.i c.folded-folded.ensures) ∙ sym c.in-Some.ensures in
      let there = held_next c.args.s c.args.k c.args.book.now.state.list c.batches.i b at held
      c.batches.next inv.within inv.so_far here follows in
      let none : None ≡ Some b = c.in-None.ensures ∙ there in
      absurd cc,
)

pub batches-preserved : goal.batches-preserved
batches-preserved c =
    let s = c.args.s in
    let k = c.args.k in
    let list = c.args.book.now.state.list in
    let held = c.args.shard.now.record_list in
    let inv = c.batches.invariant in
    let i = c.batches.i in
    let n = c.batches.next in
    let b = arc_value c.in-Some.batch.now in
    let known = c.requires.known in
    let at : slice_get list i ≡ Some b =
    sym (behind_folded c.args.book.now.state _ i c.folded-folded.ensures) ∙ sym c.in-Some.ensures in
    let test : concerns s k b.matrix.counts ≡ c.concerns.result =
    ap (λ (x : Submission). concerns s k x.matrix.counts) (sym c.deref.ensures) ∙ sym c.concerns.ensures in
    let up : concerned s k (take (suc i) list) ≡ concerned s k (take (i + 1) list) =
    ap (λ (m : ℕ). concerned s k (take m list)) {x = suc i} {y = i + 1} (omega arith) in
    elim c.if-concerns.branch [
      | then-concerns+in-Some-at+else-not-same_pair w ↦
          let x = arc_value w.in-Some-at.held.now in
          let own : slice_get held n ≡ Some x = sym w.in-Some-at.ensures in
          let told = w.same_pair.ensures.0 w.if-not-same_pair.false in
          let clients : x.client ≡ b.client = ap (λ (z : Submission). z.client) (sym w.deref-in-Some-at.ensures)
          ∙ told.0 ∙ ap (λ (z : Submission). z.client) w.deref-in-Some-at-2.ensures in
          let numbers : x.number ≡ b.number = ap (λ (z : Submission). z.number) (sym w.deref-in-Some-at.ensures)
          ∙ told.1 ∙ ap (λ (z : Submission). z.number) w.deref-in-Some-at-2.ensures in
          let same : x ≡ b = same_known (known.0 ++ list) held n (length known.0 + i) x b known.1 known.2 own
          (place_after known.0 list i ∙ at) clients numbers in
          let there : slice_get held n ≡ Some b = own ∙ ap Some same in
          let here : concerns s k b.matrix.counts ≡ true = test ∙ w.if-concerns.true in
          record {
            within = omega (arith, within_list held n b there, w.next-is);
            few = omega (arith, w.next-is, inv.few);
            so_far = ap (λ (m : ℕ). take m held) (w.next-is ∙ add-one n)
                ∙ next_taken s k list i b at held n inv.so_far here there ∙ up;
          }
      | else-concerns w ↦
          let other : concerns s k b.matrix.counts ≡ false = test ∙ w.if-concerns.false in
          record {
            within = omega (arith, inv.within, w.next-is);
            few = omega (arith, inv.few, w.next-is);
            so_far = ap (λ (m : ℕ). take m held) w.next-is ∙ next_skipped s k list i b at held n inv.so_far other ∙ up;
          }
    ]
