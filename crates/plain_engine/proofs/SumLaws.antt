-- Sums whose order changes.
use Rattle.std.proofs.Common.{◌≡◌, sym, ◌∙◌, ap}
use Rattle.hyper_matrix.specs.Counts.{Counts, ewise_add}
use Rattle.hyper_matrix.proofs.CountLaws.{ewise_add_comm, ewise_add_assoc}

-- x joins the second of two sums, or the first
pub move_middle : (r x a b : Counts) → ewise_add r (ewise_add a (ewise_add x b)) ≡ ewise_add (ewise_add r x)
    (ewise_add a b)
move_middle r x a b =
    let inner : ewise_add a (ewise_add x b) ≡ ewise_add x (ewise_add a b) =
    sym (ewise_add_assoc a x b) ∙ ap (λ (m : Counts). ewise_add m b) (ewise_add_comm a x) ∙ ewise_add_assoc x a b in
    ap (ewise_add r) inner ∙ sym (ewise_add_assoc r x (ewise_add a b))
