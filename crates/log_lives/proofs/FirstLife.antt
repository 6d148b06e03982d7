-- A run of two lives, step by step.
use Rattle.std.proofs.Common.{◌≡◌, ℕ, ◌+◌, ◌<◌, ◌≤◌, inl, Bool, true, false, List, [], ◌∷◌, ◌++◌, length, refl, sym, subst}
use Rattle.std.proofs.Common.{lit<, lit≤, arith}
use Rattle.std.specs.List.{IsDistinct}
use Rattle.batch_store.specs.declared.verdict.Entry.{Entry}
use Rattle.batch_store.specs.declared.verdict.Verdict.TheVariants.{Fresh, Known}
use Rattle.batch_store.specs.Verdicts.{verdict_of, same_pair, kept}
use Rattle.batch_store.proofs.VerdictLaws.{distinct_nil, distinct_push}
use Rattle.batch_store.proofs.VerdictMeaning.{meant_verdict}
use Rattle.log_lives.specs.Lives.{Log, log, Answer, World, Event, Runs, IsAmong, at_first, up_to_end, logs_of}
use Rattle.log_lives.specs.Lives.{a_loss_of_power}
use Rattle.log_lives.proofs.Prefixes.{prefix_self}
use Rattle.log_lives.proofs.LifeLaws.{alone}

-- a world of these lives: there is no snapshot, and the log has these whole, and these torn
abbrev stage : Bool → List Entry → List Answer → List Entry → List Entry → World
stage running book answers whole torn = record {
  running = running;
  book = book;
  answers = answers;
  snapshot = [];
  older_snapshots = [];
  log = log [] whole torn;
  older_logs = [];
  failed = false;
}

abbrev first_answer : Entry → Answer
first_answer b = record { entry = b; kept = kept 0 b.total }

known_first : (limit most : ℕ) (b : Entry) → verdict_of limit most (b ∷ []) b ≡ Known (kept 0 b.total)
known_first limit most b =
    let same : b.total ≡ b.total + 0 = omega arith in
    meant_verdict limit most (b ∷ []) b (Known (kept 0 b.total)) (distinct_push [] b distinct_nil tt) (refl, same)

durable_first : (b : Entry) (l : Log) → IsAmong l (log [] (b ∷ []) [] ∷ []) → 0 < length (up_to_end l)
durable_first b l among =
    let P : Log → Type 0 = λ x. 0 < length (up_to_end x) in
    subst P (sym (alone (log [] (b ∷ []) []) l [] refl among)) (lit< tt)

pub first_life : (limit most : ℕ) (b : Entry) → verdict_of limit most [] b ≡ Fresh →
    (w : World) × Runs limit most at_first (a_loss_of_power b) w × (w.book ≡ b ∷ []) × (w.answers ≡ first_answer b ∷ [])
first_life limit most b fresh = (
  stage true (b ∷ []) (first_answer b ∷ []) (b ∷ []) [],
  (
    stage true [] [] [] [],
    (
      record {
        down = refl;
        snapshot_named = refl;
        log_named = refl;
        settled = refl;
        no_shorter = lit≤ tt;
        list_is = refl;
        now = refl;
      },
      (
        stage true (b ∷ []) [] [] [],
        (
          record { running = refl; fresh = fresh; now = refl },
          (
            stage true (b ∷ []) [] [] (b ∷ []),
            (
              record {
                running = refl;
                working = refl;
                named = refl;
                alone = refl;
                next = prefix_self (b ∷ []);
                now = refl;
              },
              (
                stage true (b ∷ []) [] (b ∷ []) [],
                (
                  record { running = refl; working = refl; now = refl },
                  (
                    stage true (b ∷ []) (first_answer b ∷ []) (b ∷ []) [],
                    (
                      record {
                        running = refl;
                        known = known_first limit most b;
                        durable = durable_first b;
                        now = refl;
                      },
                      (
                        stage false (b ∷ []) (first_answer b ∷ []) (b ∷ []) [],
                        (
                          record { snapshot = inl refl; log_is = inl refl; now = refl },
                          (
                            stage true (b ∷ []) (first_answer b ∷ []) (b ∷ []) [],
                            (
                              record {
                                down = refl;
                                snapshot_named = refl;
                                log_named = refl;
                                settled = refl;
                                no_shorter = lit≤ tt;
                                list_is = refl;
                                now = refl;
                              },
                              refl,
                            ),
                          ),
                        ),
                      ),
                    ),
                  ),
                ),
              ),
            ),
          ),
        ),
      ),
    ),
  ),
  refl,
  refl,
)
