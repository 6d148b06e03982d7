-- What folding leaves, and shards that begin with their part of a base.
use Rattle.std.proofs.Common.{◌≡◌, ℕ, ◌+◌, List, [], ◌∷◌, ◌++◌, map, length, sym, ◌∙◌, ap, subst, arith}
use Rattle.std.proofs.Common.{length-append}
use Rattle.std.specs.Prelude.{Result, Ok, Err, OnOk, OnErr}
use Rattle.hyper_matrix.specs.Counts.{Counts, part}
use Rattle.batch_store.specs.declared.verdict.Entry.{Entry}
use Rattle.batch_store.specs.Setups.{Setting}
use Rattle.batch_store.specs.Accepted.{Accepted, accepted, folded_into, summed}
use Rattle.batch_store.specs.Parts.{record_content}
use Rattle.batch_store.specs.Books.{Register, AreAccepted}
use Rattle.batch_store.specs.Shards.{Holding, AreHeld}
use Rattle.plain_engine.specs.Folds.{AllHoldParts, shard_folded}
use Rattle.plain_engine.specs.Puts.{AreAllHeld}
use Rattle.plain_engine.specs.Standing.{StandsAt, Stand, KeepsEngine, bare_shard}
use Rattle.plain_engine.proofs.PutLaws.{length-alike, keeps_same}
use Rattle.plain_engine.proofs.StandLaws.{holds_part, stand_push}

-- == Folding

-- shards at their places hold their parts of all that was accepted
pub all_hold : (v : Setting) (a : Accepted) (i : ℕ) (xs : List Holding) → Stand v a i xs → AllHoldParts v (summed a) xs
all_hold v a i [] h = tt
all_hold v a i (x ∷ xs) h = (
  record {
    setup = h.0.setup;
    part_is = holds_part v a i x h.0 ∙ ap (λ (n : ℕ). part (summed a) n v.shards) (sym h.0.number);
  },
  all_hold v a (i + 1) xs h.1,
)

stands_folded : (v : Setting) (a : Accepted) (i : ℕ) (x y : Holding) → StandsAt v a i x →
    AreHeld y.setup y.number y.layers y.base y.record_list → bare_shard y ≡ shard_folded x →
    StandsAt v (folded_into (summed a) a) i y
stands_folded v a i x y h held is =
    let at = ap (λ (z : Holding). z.number) is ∙ h.number in
    let with = ap (λ (z : Holding). z.setup) is ∙ h.setup in
    record {
      number = at;
      setup = with;
      based = ap (λ (z : Holding). z.base) is ∙ holds_part v a i x h;
      follows = ap (λ (z : Holding). z.record_list) is;
      sums = held.sums ∙ (λ j. record_content (at j) (with j).shards y.base y.record_list);
    }

stand_folded : (v : Setting) (a : Accepted) (i : ℕ) (xs ys : List Holding) → Stand v a i xs → AreAllHeld ys →
    map bare_shard ys ≡ map shard_folded xs → Stand v (folded_into (summed a) a) i ys
stand_folded v a i [] [] h held is = tt
stand_folded v a i [] (y ∷ ys) h held is = absurd cc
stand_folded v a i (x ∷ xs) [] h held is = absurd cc
stand_folded v a i (x ∷ xs) (y ∷ ys) h held is =
    let first : bare_shard y ≡ shard_folded x = cc in
    let rest : map bare_shard ys ≡ map shard_folded xs = cc in
    (stands_folded v a i x y h.0 held.0 first, stand_folded v a (i + 1) xs ys h.1 held.1 rest)

pub keeps_folded : (v : Setting) (book after : Register) (xs ys : List Holding) → KeepsEngine v book xs →
    after.setup ≡ book.setup → AreAccepted after.setup after.state →
    after.state ≡ folded_into (summed book.state) book.state → AreAllHeld ys →
    map bare_shard ys ≡ map shard_folded xs → KeepsEngine v after ys
keeps_folded v book after xs ys keeps setup accepted now held is = record {
  of_setup = setup ∙ keeps.of_setup;
  accepted = subst (λ (w : Setting). AreAccepted w after.state) (setup ∙ keeps.of_setup) accepted;
  count = length-alike bare_shard shard_folded ys xs is ∙ keeps.count;
  stand = subst (λ (a : Accepted). Stand v a 0 ys) (sym now)
      (stand_folded v book.state 0 xs ys keeps.stand held is);
}

-- so an engine is kept, whether there was memory or not
pub left_by_folding : {T E : Type 0} (v : Setting) (book after : Register) (xs zs ys : List Holding) (r : Result T E) →
    KeepsEngine v book xs → after.setup ≡ book.setup → AreAccepted after.setup after.state → zs ≡ xs →
    OnOk r (after.state ≡ folded_into (summed book.state) book.state) → OnOk r (AreAllHeld ys) →
    OnOk r (map bare_shard ys ≡ map shard_folded zs) → OnErr r (after.state ≡ book.state) →
    OnErr r (map bare_shard ys ≡ map bare_shard zs) → KeepsEngine v after ys
left_by_folding v book after xs zs ys (Ok x) keeps setup accepted same now held is none still =
    keeps_folded v book after xs ys keeps setup accepted now held (is ∙ ap (map shard_folded) same)
left_by_folding v book after xs zs ys (Err e) keeps setup accepted same now held is none still =
    keeps_same v book after xs ys keeps setup none (still ∙ ap (map bare_shard) same)

-- == Shards over a base

-- the shards of the first n numbers, each with its part
pub record MakesBased (v : Setting) (base : Counts) (n : ℕ) (xs : List Holding) : Type 0 where
  pub count : length xs ≡ n
  pub stand : (folded : List Entry) → Stand v (accepted base folded []) 0 xs

pub based_next : (v : Setting) (base : Counts) (n : ℕ) (xs ys : List Holding) (x : Holding) → MakesBased v base n xs →
    ys ≡ xs ++ x ∷ [] → x.setup ≡ v → x.number ≡ n → x.record_list ≡ [] → x.base ≡ part base n v.shards →
    AreHeld x.setup x.number x.layers x.base x.record_list → MakesBased v base (n + 1) ys
based_next v base n xs ys x h is setup number none based held = record {
  count = ap length is ∙ omega (arith, length-append xs (x ∷ []), h.count);
  stand = λ folded.
      let a = accepted base folded [] in
      let here : StandsAt v a n x = record {
        number = number;
        setup = setup;
        based = based;
        follows = none;
        sums = held.sums ∙ (λ j. record_content (number j) (setup j).shards x.base x.record_list);
      } in
      subst (Stand v a 0) (sym is) (stand_push v a 0 xs x (h.stand folded)
      (subst (λ (m : ℕ). StandsAt v a m x) {x = n} {y = 0 + length xs} (omega (arith, h.count)) here));
}
