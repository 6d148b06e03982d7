-- What a put leaves.
use Rattle.std.proofs.Common.{◌≡◌, ℕ, zero, suc, ◌+◌, Bool, true, false, cond, ◌||◌, List, [], ◌∷◌, ◌++◌, map, length}
use Rattle.std.proofs.Common.{take, refl, sym, ◌∙◌, ap, subst, arith, append-nil}
use Rattle.std.specs.List.{AllByRecursion}
use Rattle.std.proofs.lemmas.List.Elements.{filter-append}
use Rattle.hyper_matrix.specs.Counts.{total}
use Rattle.layer_compaction.specs.Shared.{content}
use Rattle.layer_cascade.specs.Cascade.{cascade}
use Rattle.batch_store.specs.declared.verdict.Entry.{Entry}
use Rattle.batch_store.specs.declared.verdict.Verdict.TheVariants.{Fresh}
use Rattle.batch_store.specs.Setups.{Setting}
use Rattle.batch_store.specs.Accepted.{Accepted, entries_in, with_batch, summed, IsBase}
use Rattle.batch_store.specs.Batches.{Submission, entry_of, entries_of}
use Rattle.batch_store.specs.Verdicts.{same_pair}
use Rattle.batch_store.specs.Parts.{concerns, part_of, record_content, concerned}
use Rattle.batch_store.specs.Books.{Register, AreAccepted}
use Rattle.batch_store.specs.Shards.{Holding, holding, shard_total, part_in, amount_in, AreHeld, stands}
use Rattle.batch_store.proofs.BookLaws.{all_behind}
use Rattle.batch_store.proofs.PartLaws.{part_of-le}
use Rattle.batch_store.proofs.VerdictLaws.{fresh_is, none_same, same_pair_flips}
use Rattle.plain_engine.specs.Object.{verdict_in}
use Rattle.plain_engine.specs.Records.{Follows}
use Rattle.plain_engine.specs.Standing.{StandsAt, Stand, KeepsEngine, bare_shard}
use Rattle.plain_engine.specs.Puts.{shard_after, Takes, AllTake, AreAllHeld}
use Rattle.batch_store.proofs.SumLaws.{total-summed}
use Rattle.plain_engine.proofs.StandLaws.{holds_part}

-- == A shard can take what the book calls fresh

neither : (a b : Bool) → a ≡ false → b ≡ false → (a || b) ≡ false
neither a b p q = ap (λ x. x || b) p ∙ q

-- a pair that isn't in a list isn't among those that concern a shard
absent_there : (b : Submission) (s k : ℕ) (list : List Submission) →
    AllByRecursion (λ (e : Entry). same_pair e (entry_of b) ≡ false) (entries_of list) →
    stands b.client b.number (concerned s k list) ≡ false
absent_there b s k [] h = refl
absent_there b s k (x ∷ xs) h = by (concerns s k x.matrix.counts) (absent_there b s k xs h.1)
  where
    by : (t : Bool) → stands b.client b.number (concerned s k xs) ≡ false →
        stands b.client b.number (cond t (x ∷ concerned s k xs) (concerned s k xs)) ≡ false
    by true rest = neither _ _ (same_pair_flips (entry_of b) (entry_of x) ∙ h.0) rest
    by false rest = rest

pub takes_fresh : (v : Setting) (a : Accepted) (b : Submission) (i : ℕ) (x : Holding) → IsBase a.base a.folded →
    verdict_in v a b ≡ Fresh → StandsAt v a i x → Takes v b x
takes_fresh v a b i x based fresh h =
    let is = fresh_is v.limit v.max_batches (entries_in a) (entry_of b) fresh in
    let k = v.shards in
    let new = all_behind (λ (e : Entry). same_pair e (entry_of b) ≡ false) a.folded (entries_of a.list)
    (none_same (entry_of b) (entries_in a) is.new_pair) in
    let held : shard_total x ≡ part_of i k (summed a) = ap total (holds_part v a i x h) in
    let more : amount_in x b ≡ part_of i k b.matrix.counts =
    λ j. part_of (h.number j) (h.setup j).shards b.matrix.counts in
    record {
      setup = h.setup;
      absent = ap (stands b.client b.number) h.follows
          ∙ absent_there b i k a.list new;
      fits = omega (
        arith,
        held,
        more,
        part_of-le i k (summed a),
        part_of-le i k b.matrix.counts,
        total-summed a based,
        is.fits,
      );
    }

pub all_take : (v : Setting) (a : Accepted) (b : Submission) (i : ℕ) (xs : List Holding) → IsBase a.base a.folded →
    verdict_in v a b ≡ Fresh → Stand v a i xs → AllTake v b xs
all_take v a b i [] based fresh h = tt
all_take v a b i (x ∷ xs) based fresh h = (
  takes_fresh v a b i x based fresh h.0,
  all_take v a b (i + 1) xs based fresh h.1,
)

-- == The shards after it

module _ (v : Setting) (a : Accepted) (b : Submission) where
  more_concerned : (i : ℕ) → concerned i v.shards (a.list ++ b ∷ []) ≡ concerned i v.shards a.list ++ cond
      (concerns i v.shards b.matrix.counts) (b ∷ []) []
  more_concerned i = filter-append (λ (x : Submission). concerns i v.shards x.matrix.counts) a.list (b ∷ [])

  stands_after : (i : ℕ) (x y : Holding) → StandsAt v a i x → AreHeld y.setup y.number y.layers y.base y.record_list →
      bare_shard y ≡ shard_after b x → StandsAt v (with_batch a b) i y
  stands_after i x y h held is = by (concerns x.number x.setup.shards b.matrix.counts) refl is
    where
      placed : y.setup ≡ x.setup → y.number ≡ x.number → y.base ≡ x.base →
          Follows i v.shards y.record_list (a.list ++ b ∷ []) → StandsAt v (with_batch a b) i y
      placed setup number base follows =
          let at = number ∙ h.number in
          let with = setup ∙ h.setup in
          record {
            number = at;
            setup = with;
            based = base ∙ h.based;
            follows = follows;
            sums = held.sums ∙ (λ j. record_content (at j) (with j).shards y.base y.record_list);
          }

      by : (t : Bool) → concerns x.number x.setup.shards b.matrix.counts ≡ t
          → bare_shard y ≡ cond t (holding x.setup x.number (cascade x.layers x.setup.cuts (part_in x b)) x.below x.base
          (x.record_list ++ b ∷ []) 0) (bare_shard x) → StandsAt v (with_batch a b) i y
      by true here same =
          let this : concerns i v.shards b.matrix.counts ≡ true =
          (λ j. concerns (sym h.number j) (sym h.setup j).shards b.matrix.counts) ∙ here in
          placed (ap (λ (z : Holding). z.setup) same) (ap (λ (z : Holding). z.number) same)
          (ap (λ (z : Holding). z.base) same)
          (ap (λ (z : Holding). z.record_list) same ∙ ap (λ bs. bs ++ b ∷ []) h.follows
          ∙ sym (more_concerned i ∙ ap (λ (t : Bool). concerned i v.shards a.list ++ cond t (b ∷ []) []) this))
      by false other same =
          let this : concerns i v.shards b.matrix.counts ≡ false =
          (λ j. concerns (sym h.number j) (sym h.setup j).shards b.matrix.counts) ∙ other in
          placed (ap (λ (z : Holding). z.setup) same) (ap (λ (z : Holding). z.number) same)
          (ap (λ (z : Holding). z.base) same)
          (ap (λ (z : Holding). z.record_list) same ∙ h.follows
          ∙ sym (more_concerned i ∙ ap (λ (t : Bool). concerned i v.shards a.list ++ cond t (b ∷ []) []) this
          ∙ append-nil (concerned i v.shards a.list)))

  pub stand_after : (i : ℕ) (xs ys : List Holding) → Stand v a i xs → AreAllHeld ys →
      map bare_shard ys ≡ map (shard_after b) xs → Stand v (with_batch a b) i ys
  stand_after i [] [] h held is = tt
  stand_after i [] (y ∷ ys) h held is = absurd cc
  stand_after i (x ∷ xs) [] h held is = absurd cc
  stand_after i (x ∷ xs) (y ∷ ys) h held is =
      let first : bare_shard y ≡ shard_after b x = cc in
      let rest : map bare_shard ys ≡ map (shard_after b) xs = cc in
      (stands_after i x y h.0 held.0 first, stand_after (i + 1) xs ys h.1 held.1 rest)

module _ (v : Setting) (a : Accepted) where
  stands_same : (i : ℕ) (x y : Holding) → StandsAt v a i x → bare_shard y ≡ bare_shard x → StandsAt v a i y
  stands_same i x y h same = record {
    number = ap (λ (z : Holding). z.number) same ∙ h.number;
    setup = ap (λ (z : Holding). z.setup) same ∙ h.setup;
    based = ap (λ (z : Holding). z.base) same ∙ h.based;
    follows = ap (λ (z : Holding). z.record_list) same ∙ h.follows;
    sums = ap (λ (z : Holding). content z.layers) same ∙ h.sums
        ∙ sym (ap (λ (z : Holding). record_content i v.shards z.base z.record_list) same);
  }

  pub stand_same : (i : ℕ) (xs ys : List Holding) → Stand v a i xs → map bare_shard ys ≡ map bare_shard xs →
      Stand v a i ys
  stand_same i [] [] h is = tt
  stand_same i [] (y ∷ ys) h is = absurd cc
  stand_same i (x ∷ xs) [] h is = absurd cc
  stand_same i (x ∷ xs) (y ∷ ys) h is =
      let first : bare_shard y ≡ bare_shard x = cc in
      let rest : map bare_shard ys ≡ map bare_shard xs = cc in
      (stands_same i x y h.0 first, stand_same (i + 1) xs ys h.1 rest)

pub length-alike : {A B C : Type 0} (f : A → C) (g : B → C) (xs : List A) (ys : List B) → map f xs ≡ map g ys →
    length xs ≡ length ys
length-alike f g [] [] h = refl
length-alike f g [] (y ∷ ys) h = absurd cc
length-alike f g (x ∷ xs) [] h = absurd cc
length-alike f g (x ∷ xs) (y ∷ ys) h = let rest : map f xs ≡ map g ys = cc in ap suc (length-alike f g xs ys rest)

module _ (v : Setting) (book after : Register) (xs ys : List Holding) (keeps : KeepsEngine v book xs)
    (setup : after.setup ≡ book.setup) where
  pub keeps_after : (b : Submission) → AreAccepted after.setup after.state → after.state ≡ with_batch book.state b →
      AreAllHeld ys → map bare_shard ys ≡ map (shard_after b) xs → KeepsEngine v after ys
  keeps_after b accepted more held is = record {
    of_setup = setup ∙ keeps.of_setup;
    accepted = subst (λ (w : Setting). AreAccepted w after.state) (setup ∙ keeps.of_setup) accepted;
    count = length-alike bare_shard (shard_after b) ys xs is ∙ keeps.count;
    stand = subst (λ (a : Accepted). Stand v a 0 ys) (sym more)
        (stand_after v book.state b 0 xs ys keeps.stand held is);
  }

  pub keeps_same : after.state ≡ book.state → map bare_shard ys ≡ map bare_shard xs →
      KeepsEngine v after ys
  keeps_same same is = record {
    of_setup = setup ∙ keeps.of_setup;
    accepted = subst (AreAccepted v) (sym same) keeps.accepted;
    count = length-alike bare_shard bare_shard ys xs is ∙ keeps.count;
    stand = subst (λ (a : Accepted). Stand v a 0 ys) (sym same)
        (stand_same v book.state 0 xs ys keeps.stand is);
  }

-- a list that was written back whole
pub written : {A : Type 0} (n : ℕ) (xs rest : List A) → length xs ≡ n → take n (xs ++ rest) ≡ xs
written zero [] rest h = refl
written zero (x ∷ xs) rest h = absurd (omega arith)
written (suc n) [] rest h = absurd (omega arith)
written (suc n) (x ∷ xs) rest h = ap (λ ys. x ∷ ys) (written n xs rest (omega arith))
