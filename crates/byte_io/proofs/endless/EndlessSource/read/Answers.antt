use Rattle.std.proofs.Common.{length, drop, List, ℕ, sym, ap, ◌∙◌}
use Rattle.std.proofs.lemmas.List.{take_rest, drop-drop}
use Rattle.byte_io.specs.Wrappers.{EndlessState, first_bytes}
use Rattle.byte_io.proofs.WrapperLemmas.{read_of_endless, left_behind}
use Rattle.byte_io.proofs.endless.EndlessSource.read.Goals as goal

pub returns-clause-bytes : goal.returns-clause-bytes
returns-clause-bytes c =
    let n = length c.args.buf.now in
    let items = c.self.inside.front.items in
    let given = c.self.inside.given in
    let rest : List ℕ = drop given items in
    let count = rw (c.as_slice.ensures.value, take_rest items given) at c.min-count.ensures in
    let copied = rw (c.as_slice.ensures.value, take_rest items given) at c.copy_from_slice.ensures.after in (
      read_of_endless n c.min-count.result (length c.split_at_mut-front.result.1.now) c.self.inside.byte rest
          c.copy_from_slice.new.self c.fill.new.self count copied (c.fill.ensures.after (λ y e. e))
          c.split_at_mut-front.ensures.back_len
          ∙ ap (λ s. first_bytes n s) c.self.view_is,
      ap (λ l. record { front = l; byte = c.self.inside.byte }) (sym (drop-drop c.min-count.result given items)
          ∙ left_behind n c.min-count.result rest count)
          ∙ ap (λ (s : EndlessState). record { front = drop n s.front; byte = s.byte }) c.self.view_is,
    )
