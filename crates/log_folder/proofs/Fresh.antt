-- A new file in memory.
use Rattle.std.proofs.Common.{◌≡◌, inl, ⊎_elim, ℕ, List, [], get_or, sym, ◌∙◌, ap}
use Rattle.log_blocks.specs.Files.{IsSame}
use Rattle.log_disk.specs.Memory.{Between, IsPending}

module _ (durable written pending : List ℕ) (d : durable ≡ []) (w : written ≡ []) (p : pending ≡ []) where
  pub pends : IsPending durable written pending
  pends i = inl (ap (λ (l : List ℕ). get_or l i 0) (p ∙ sym d))

  pub empty : IsSame written []
  empty i = ap (λ (l : List ℕ). get_or l i 0) w

  pub loss : (left : List ℕ) → Between durable written left → IsSame left []
  loss left between i =
      ⊎_elim
      (λ e. e ∙ ap (λ (l : List ℕ). get_or l i 0) d)
      (λ e. e ∙ ap (λ (l : List ℕ). get_or l i 0) w)
      (between.bytes i)
