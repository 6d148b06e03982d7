-- Sessions over a keeper whose state is what was accepted, and nothing else.
use Rattle.std.proofs.Common.{◌≡◌, ◌⊎◌, inl, inr, ℕ, ◌+◌, ◌≤◌, List, [], ◌∷◌, ◌++◌, length, take, map, refl, sym, ◌∙◌}
use Rattle.std.proofs.Common.{ap, subst, append_assoc, None, Ok, Err, arith}
use Rattle.std.proofs.lemmas.List.{append-nil}
use Rattle.byte_io.specs.Streams.{Answer}
use Rattle.batch_store.specs.Setups.{Setting}
use Rattle.batch_store.specs.Accepted.{Accepted}
use Rattle.wire_frames.specs.Frames.{Message, Gives, messages}
use Rattle.wire_proto.specs.Keeping.{Event, put, cell, row, status, export, save, stored, stats, fold}
use Rattle.plain_engine.specs.declared.fault.PutFault.TheVariants as fault
use Rattle.wire_proto.specs.declared.keeper.PutRefusal.TheVariants.{Put as Refuses, LogFull, LogFailed}
use Rattle.wire_proto.specs.Replies.{refused, reply_of}
use Rattle.wire_proto.specs.Answering.{Answers, asked, unasked, of_sum, RunsOut, before_call, in_call}
use Rattle.wire_proto.specs.Sessions.{Talks, AnswersAll, LacksMemory, NextReply, Then, Breaks, Rests, Ends}
use Rattle.wire_proto.specs.Sessions.{unasked as no_call, asked as a_call, answer as answered, stop, bad, out}
use Rattle.wire_proto.specs.Sessions.{AsksToPut, Unsent, CutOff, alone, among_puts}
use Rattle.wire_proto.specs.Plain.{PlainGives, AnswersMessages, IsAnswered, Between, WithLast, Partly, Broken}
use Rattle.wire_proto.specs.Plain.{PutsUnsent}
use Rattle.wire_proto.specs.Plain.{EndsPlain}
use Rattle.wire_frames.specs.declared.request.Request.{Request}
use Rattle.wire_frames.specs.declared.request.Request.TheVariants.{Put, Cell, Row, Status, Export, Save, Stop}
use Rattle.wire_frames.specs.declared.request.Request.TheVariants.{PutCells, Stored, Range, Top, Stats, Fold, Groups}
use Rattle.wire_proto.specs.declared.ended.Ended.{Ended}
use Rattle.wire_proto.specs.declared.ended.Ended.TheVariants.{Closed, ReadFault, WriteFault, BadFrame, Memory, Stopped}
use Rattle.wire_proto.specs.declared.ended.Ended.TheVariants.{TooManyTurns}
use Rattle.wire_frames.proofs.StreamLemmas.{messages_none, messages_stop, messages_bad, messages_request}
use Rattle.wire_proto.proofs.StreamLemmas.{answered_messages, goes_on, none_stops}

-- ---- answers to requests, and what stands behind them
module _ {S : Type 0} (gives : S → Event → S → Type 0) (setup : Setting) where
  -- one message more in front, which isn't a Stop
  pub one_more : (s m t : S) (r : Request) (reply more : List ℕ) (ms : List Message) (bytes : List ℕ) → (r ≡ Stop → ⊥) →
      Answers gives setup r reply s m → bytes ≡ reply ++ more → AnswersMessages gives setup m ms more t →
      AnswersMessages gives setup s (Ok r ∷ ms) bytes t
  one_more s m t (Put x y z) reply more ms bytes n a e b = (m, reply, more, a, e, b)
  one_more s m t (Cell x y) reply more ms bytes n a e b = (m, reply, more, a, e, b)
  one_more s m t (Row x) reply more ms bytes n a e b = (m, reply, more, a, e, b)
  one_more s m t Status reply more ms bytes n a e b = (m, reply, more, a, e, b)
  one_more s m t Export reply more ms bytes n a e b = (m, reply, more, a, e, b)
  one_more s m t Save reply more ms bytes n a e b = (m, reply, more, a, e, b)
  one_more s m t (PutCells x y z) reply more ms bytes n a e b = (m, reply, more, a, e, b)
  one_more s m t Stored reply more ms bytes n a e b = (m, reply, more, a, e, b)
  one_more s m t (Range x y z w) reply more ms bytes n a e b = (m, reply, more, a, e, b)
  one_more s m t (Top x w) reply more ms bytes n a e b = (m, reply, more, a, e, b)
  one_more s m t (Groups x k w r) reply more ms bytes n a e b = (m, reply, more, a, e, b)
  one_more s m t Stats reply more ms bytes n a e b = (m, reply, more, a, e, b)
  one_more s m t Fold reply more ms bytes n a e b = (m, reply, more, a, e, b)
  one_more s m t Stop reply more ms bytes n a e b = absurd (n refl)

  -- requests, and then other messages
  pub all_more : (s m t : S) (rs : List Request) (ms : List Message) (bytes more : List ℕ) →
      AnswersAll gives setup s rs bytes m →
      AnswersMessages gives setup m ms more t → AnswersMessages gives setup s (map (λ r. Ok r) rs ++ ms)
      (bytes ++ more) t
  all_more s m t [] ms bytes more a b = subst (λ v. AnswersMessages gives setup v ms (bytes ++ more) t) (sym a.0)
      (subst (λ v. AnswersMessages gives setup m ms (v ++ more) t) (sym a.1) b)
  all_more s m t (r ∷ rs) ms bytes more a b =
      one_more s a.0 t r a.1 (a.2 ++ more) (map (λ r. Ok r) rs ++ ms) (bytes ++ more)
      (goes_on gives setup r a.1 s a.0 a.3) a.3
      (ap (λ l. l ++ more) a.4 ∙ append_assoc a.1 a.2 more) (all_more a.0 m t rs ms a.2 more a.5 b)

  pub all_answered : (s t : S) (rs : List Request) (bytes : List ℕ) → AnswersAll gives setup s rs bytes t →
      AnswersMessages gives setup s (map (λ r. Ok r) rs) bytes t
  all_answered s t rs bytes a =
      subst (λ v. AnswersMessages gives setup s (map (λ r. Ok r) rs) v t) (append-nil bytes)
      (subst (λ v. AnswersMessages gives setup s v (bytes ++ []) t) (append-nil (map (λ r. Ok r) rs))
      (all_more s t t rs [] bytes [] a (refl, refl)))

-- ---- a keeper of which just what was accepted is seen
module _ {S N : Type 0} (name : S → N) (setup_of : S → Setting) (state : S → Accepted) where
  abbrev pub Steps : S → Event → S → Type 0
  Steps s e t = (name t ≡ name s) × (setup_of t ≡ setup_of s) × PlainGives (setup_of s) (state s) e (state t)

  -- the keeper is the same, with this setup
  pub record Is (v : Setting) (s t : S) : Type 0 where
    pub same : name t ≡ name s
    pub setup : setup_of t ≡ v

  one_seen : (v : Setting) (r : Request) (reply : List ℕ) (s t : S) → setup_of s ≡ v → Answers Steps v r reply s t →
      Answers (PlainGives v) v r reply (state s) (state t) × Is v s t
  one_seen v r reply s t e (asked ev a h i) = (
    asked ev a (subst (λ u. PlainGives u (state s) ev (state t)) e h.2) i,
    record { same = h.0; setup = h.1 ∙ e },
  )
  one_seen v r reply s t e (unasked h i) = (
    unasked h (ap state i),
    record { same = ap name i; setup = ap setup_of i ∙ e },
  )
  one_seen v r reply s t e (of_sum m b h) = (
    of_sum m b (subst (λ u. PlainGives u (state s) (export (Ok m)) (state t)) e h.2),
    record { same = h.0; setup = h.1 ∙ e },
  )

  pub all_seen : (v : Setting) (s t : S) (rs : List Request) (bytes : List ℕ) → setup_of s ≡ v →
      AnswersAll Steps v s rs bytes t → AnswersAll (PlainGives v) v (state s) rs bytes (state t) × Is v s t
  all_seen v s t [] bytes e a = (
    (ap state a.0, a.1),
    record {
      same = sym (ap name a.0);
      setup = sym (ap setup_of a.0) ∙ e;
    },
  )
  all_seen v s t (r ∷ rs) bytes e a =
      let one = one_seen v r a.1 s a.0 e a.3 in
      let more = all_seen v a.0 t rs a.2 one.1.setup a.5 in
      ((state a.0, a.1, a.2, one.0, a.4, more.0), record { same = more.1.same ∙ one.1.same; setup = more.1.setup })

-- memory ran out: what was accepted is as it was
pub memory_keeps : (v : Setting) (l l' : Accepted) (e : Event) → PlainGives v l e l' → reply_of e ≡ None → l' ≡ l
memory_keeps v l l' (put batch (Ok k)) h n = absurd (cc)
memory_keeps v l l' (put batch (Err (Refuses fault.Memory))) h n = h.1
memory_keeps v l l' (put batch (Err (Refuses fault.NumberReused))) h n = absurd (cc)
memory_keeps v l l' (put batch (Err (Refuses (fault.OverTotal total)))) h n = absurd (cc)
memory_keeps v l l' (put batch (Err (Refuses fault.BookFull))) h n = absurd (cc)
memory_keeps v l l' (put batch (Err (Refuses fault.RecordsDiffer))) h n = absurd (cc)
memory_keeps v l l' (put batch (Err LogFull)) h n = absurd h
memory_keeps v l l' (put batch (Err LogFailed)) h n = absurd h
memory_keeps v l l' (cell r c count) h n = h.1
memory_keeps v l l' (row r sum) h n = h.1
memory_keeps v l l' (status s) h n = h.1
memory_keeps v l l' (export (Ok m)) h n = h.1
memory_keeps v l l' (export (Err e)) h n = h
memory_keeps v l l' (save answer) h n = h.1
memory_keeps v l l' (stored s) h n = h.1
memory_keeps v l l' (stats (Ok told)) h n = h.1
memory_keeps v l l' (stats (Err e)) h n = h
memory_keeps v l l' (fold (Ok folded)) h n = absurd (cc)
memory_keeps v l l' (fold (Err refusal)) h n = h.1

module _ {S N : Type 0} (name : S → N) (setup_of : S → Setting) (state : S → Accepted) where
  runs_out_seen : (v : Setting) (r : Request) (s t : S) → setup_of s ≡ v → RunsOut (Steps name setup_of state) v r s t →
      (state t ≡ state s) × Is name setup_of state v s t
  runs_out_seen v r s t e (before_call i) = (ap state i, record { same = ap name i; setup = ap setup_of i ∙ e })
  runs_out_seen v r s t e (in_call ev a h n) = (
    memory_keeps (setup_of s) (state s) (state t) ev h.2 n,
    record { same = h.0; setup = h.1 ∙ e },
  )

  lacks_seen : (v : Setting) (kept : List ℕ) (s t : S) → setup_of s ≡ v →
      LacksMemory (Steps name setup_of state) v kept s t → (state t ≡ state s) × Is name setup_of state v s t
  lacks_seen v kept s t e (no_call i) = (ap state i, record { same = ap name i; setup = ap setup_of i ∙ e })
  lacks_seen v kept s t e (a_call r rest f h) = runs_out_seen v r s t e h

-- ---- ends
module _ {L S N : Type 0} (reads : L → Answer → L → Type 0) (writes : L → List ℕ → Answer → L → Type 0)
    (failures : L → ℕ)
    (name : S → N) (setup_of : S → Setting) (state : S → Accepted) (v : Setting) where
  split_is : (s t : S) (given kept replies : List ℕ) (rs : List Request) → Gives given rs kept →
      AnswersAll (Steps name setup_of state) v s rs replies t →
      messages given ≡ map (λ r. Ok r) rs ++ messages kept
  split_is s t given kept replies rs cut a = answered_messages
      (Steps name setup_of state) v s t given rs replies kept cut a

  pub rests_between : (l l' : L) (s t : S) (kept : List ℕ) (turns : ℕ) → setup_of s ≡ v →
      (a : Rests reads writes failures (Steps name setup_of state) v l l' s t kept turns) →
      (b : Between reads writes failures v l l' (state s) (state t) kept turns) × (b.exchange.given ≡ a.given) ×
      Is name setup_of state v s t
  rests_between l l' s t kept turns e a =
      let seen = all_seen name setup_of state v s t a.requests a.replies e a.answered in
      let all : messages a.given ≡ map
      (λ r. Ok r) a.requests = split_is s t a.given kept a.replies a.requests a.cut a.answered
      ∙ ap (λ ms. map (λ r. Ok r) a.requests ++ ms) (messages_none kept a.none) ∙
      append-nil (map (λ r. Ok r) a.requests) in (
        record {
          exchange = record {
            given = a.given;
            taken = a.replies;
            talks = a.talks;
            answers = subst (λ ms. IsAnswered v (state s) ms a.replies (state t)) (sym all)
                (all_answered (PlainGives v) v (state s) (state t) a.requests a.replies seen.0);
          };
          requests = a.requests;
          cut = a.cut;
          none = a.none;
          go_on = none_stops (Steps name setup_of state) v s t a.requests a.replies a.answered;
        },
        refl,
        seen.1,
      )

  -- a session whose last message has this reply
  last_seen : (l l' : L) (s m t : S) (kept reply : List ℕ) (written turns : ℕ) (last : Message) → setup_of s ≡ v →
      Then reads writes failures (Steps name setup_of state) v l l' s m kept reply written turns →
      messages kept ≡ last ∷ [] →
      IsAnswered v (state m) (last ∷ []) reply (state t) → name t ≡ name m → setup_of t ≡ setup_of m →
      WithLast reads writes failures v l l' (state s) (state t) turns last × Is name setup_of state v s t
  last_seen l l' s m t kept reply written turns last e a one h same setup =
      let seen = all_seen name setup_of state v s m a.requests a.replies e a.answered in
      let all = split_is s m a.given kept a.replies a.requests a.cut a.answered ∙
      ap (λ ms. map (λ r. Ok r) a.requests ++ ms) one in (
        record {
          exchange = record {
            given = a.given;
            taken = a.replies ++ reply;
            talks = a.talks;
            answers = subst (λ ms. IsAnswered v (state s) ms (a.replies ++ reply) (state t)) (sym all)
                (all_more (PlainGives v) v (state s) (state m) (state t) a.requests (last ∷ []) a.replies reply seen.0
                h);
          };
          before = map (λ r. Ok r) a.requests;
          last_is = all;
        },
        record { same = same ∙ seen.1.same; setup = setup ∙ seen.1.setup },
      )

  partly_seen : (l l' : L) (s m : S) (kept last last' : List ℕ) (written turns : ℕ) → setup_of s ≡ v → last ≡ last' →
      (a : Then reads writes failures (Steps name setup_of state) v l l' s m kept last written turns) →
      Partly reads writes failures v l l' (state s) turns a.replies last' (state m) (messages kept) ×
      Is name setup_of state v s m
  partly_seen l l' s m kept last last' written turns e same a =
      let seen = all_seen name setup_of state v s m a.requests a.replies e a.answered in (
        record {
          given = a.given;
          talks = subst (λ x. Talks reads writes l l' a.given (a.replies ++ x) turns) same a.talks;
          requests = a.requests;
          split = split_is s m a.given kept a.replies a.requests a.cut a.answered;
          answers = all_answered (PlainGives v) v (state s) (state m) a.requests a.replies seen.0;
        },
        seen.1,
      )

  reply_seen : (kept reply : List ℕ) (s t : S) → setup_of s ≡ v →
      NextReply (Steps name setup_of state) v kept reply s t →
      (((m : Message) × (others : List Message) × (messages kept ≡ m ∷ others) ×
      IsAnswered v (state s) (m ∷ []) reply (state t))
      ⊎ ((reply ≡ refused 1 0) × (state t ≡ state s))) × Is name setup_of state v s t
  reply_seen kept reply s t e (answered r rest f a) =
      let one = one_seen name setup_of state v r reply s t e a in
      let goes = goes_on (Steps name setup_of state) v r reply s t a in (
        inl (
          Ok r,
          messages rest,
          messages_request kept r rest f goes,
          one_more (PlainGives v) v (state s) (state t) (state t) r reply [] [] reply goes one.0
              (sym (append-nil reply)) (refl, refl),
        ),
        one.1,
      )
  reply_seen kept reply s t e (stop rest f i is) = (
    inl (Ok Stop, [], messages_stop kept rest f, (is, ap state i)),
    record { same = ap name i; setup = ap setup_of i ∙ e },
  )
  reply_seen kept reply s t e (bad fault f i is) = (
    inl (
      Err fault,
      [],
      messages_bad kept fault kept f,
      (is, ap state i),
    ),
    record { same = ap name i; setup = ap setup_of i ∙ e },
  )
  reply_seen kept reply s t e (out h is) = let k = lacks_seen name setup_of state v kept s t e h in (inr (is, k.0), k.1)

  put_goes_on : (r : Request) → AsksToPut r → r ≡ Stop → ⊥
  put_goes_on (Put x y z) h is = cc
  put_goes_on (PutCells x y z) h is = cc
  put_goes_on (Cell x y) h is = h
  put_goes_on (Row x) h is = h
  put_goes_on Status h is = h
  put_goes_on Export h is = h
  put_goes_on Save h is = h
  put_goes_on Stop h is = h
  put_goes_on Stored h is = h
  put_goes_on (Range x y z n) h is = h
  put_goes_on (Top x n) h is = h
  put_goes_on (Groups x s n r) h is = h
  put_goes_on Stats h is = h
  put_goes_on Fold h is = h

  ended_seen : (m t : S) → setup_of m ≡ v →
      ((t ≡ m) ⊎ ((r : Request) × RunsOut (Steps name setup_of state) v r m t)) →
      (state t ≡ state m) × Is name setup_of state v m t
  ended_seen m t e (inl is) = (ap state is, record { same = ap name is; setup = ap setup_of is ∙ e })
  ended_seen m t e (inr (r, h)) = runs_out_seen name setup_of state v r m t e h

  unsent_seen : (bytes : List ℕ) (s t : S) → setup_of s ≡ v →
      Unsent (Steps name setup_of state) v bytes s t →
      PutsUnsent v (state s) (state t) (messages bytes) × Is name setup_of state v s t
  unsent_seen bytes s t e a =
      let seen = all_seen name setup_of state v s a.mid a.puts a.replies e a.answered in
      let end = ended_seen a.mid t seen.1.setup a.end_is in (
        record {
          puts = a.puts;
          all_put = a.all_put;
          few = a.few;
          replies = a.replies;
          answered = subst (λ x. IsAnswered v (state s) (map (λ r. Ok r) a.puts) a.replies x) (sym end.0)
              (all_answered (PlainGives v) v (state s) (state a.mid) a.puts a.replies seen.0);
          rest = messages a.rest;
          stand = split_is s a.mid bytes a.rest a.replies a.puts a.stand a.answered;
        },
        record { same = end.1.same ∙ seen.1.same; setup = end.1.setup },
      )

  none_unsent : (state' : Accepted) (behind : List Message) → PutsUnsent v state' state' behind
  none_unsent state' behind = record {
    puts = [];
    all_put = tt;
    few = omega arith;
    replies = [];
    answered = (refl, refl);
    rest = behind;
    stand = refl;
  }

  -- what a reply that was cut off answers, of these messages, and what was accepted with it and behind it
  abbrev CutMessage : Accepted → Accepted → List Message → List ℕ → Type 0
  CutMessage mid after rest reply =
      ((m : Message) × (others : List Message) × (next : Accepted) × (rest ≡ m ∷ others) ×
      IsAnswered v mid (m ∷ []) reply next × PutsUnsent v next after others)
      ⊎ ((reply ≡ refused 1 0) × (after ≡ mid))

  next_cut : (mid after : Accepted) (rest : List Message) (reply : List ℕ) →
      ((m : Message) × (others : List Message) × (rest ≡ m ∷ others) × IsAnswered v mid (m ∷ []) reply after)
      ⊎ ((reply ≡ refused 1 0) × (after ≡ mid)) → CutMessage mid after rest reply
  next_cut mid after rest reply (inl a) = inl (a.0, a.1, after, a.2, a.3, none_unsent after a.1)
  next_cut mid after rest reply (inr a) = inr a

  cut_seen : (kept reply : List ℕ) (s t : S) → setup_of s ≡ v →
      CutOff (Steps name setup_of state) v kept reply s t →
      CutMessage (state s) (state t) (messages kept) reply × Is name setup_of state v s t
  cut_seen kept reply s t e (alone h) =
      let next = reply_seen kept reply s t e h in
      (next_cut (state s) (state t) (messages kept) reply next.0, next.1)
  cut_seen kept reply s t e (among_puts r rest m f is_put a behind) =
      let one = one_seen name setup_of state v r reply s m e a in
      let goes = put_goes_on r is_put in
      let unsent = unsent_seen rest m t one.1.setup behind in (
        inl (
          Ok r,
          messages rest,
          state m,
          messages_request kept r rest f goes,
          one_more (PlainGives v) v (state s) (state m) (state m) r reply [] [] reply goes one.0
              (sym (append-nil reply)) (refl, refl),
          unsent.0,
        ),
        record { same = unsent.1.same ∙ one.1.same; setup = unsent.1.setup },
      )

  breaks_seen : (l l' : L) (s t : S) (turns n : ℕ) → setup_of s ≡ v →
      Breaks reads writes failures (Steps name setup_of state) v l l' s t turns n →
      Broken reads writes failures v l l' (state s) (state t) turns n × Is name setup_of state v s t
  breaks_seen l l' s t turns n e a =
      let part = partly_seen l l' s a.mid a.kept (take a.some a.reply)
      (take a.some a.reply) a.written turns e refl a.before in
      let next = cut_seen a.kept a.reply a.mid t part.1.setup a.next in (
        record {
          replies = a.before.replies;
          reply = a.reply;
          some = a.some;
          mid = state a.mid;
          rest = messages a.kept;
          partly = part.0;
          proper = a.proper;
          count = a.count ∙ ap (λ k. k + a.some) a.before.written_is;
          reply_is = next.0;
          at = a.at;
          unfailed = a.unfailed;
          text = a.text;
          earlier = a.earlier;
          later = a.later;
          text_is = a.text_is;
          refused_by = a.refused_by;
        },
        record { same = next.1.same ∙ part.1.same; setup = next.1.setup },
      )

  pub ends_seen : (at_end : L → Type 0) (l l' : L) (s t : S) (most turns : ℕ) (ended : Ended) → setup_of s ≡ v →
      Ends reads writes failures (Steps name setup_of state) v at_end l l' s t most turns ended →
      EndsPlain reads writes failures v at_end l l' (state s) (state t) most turns ended × Is name setup_of state v s t
  ends_seen at_end l l' s t most turns (Closed n) e a = let b = rests_between l l' s t a.0 turns e a.3 in
      ((a.0, a.1, a.2, b.0), b.2)
  ends_seen at_end l l' s t most turns ReadFault e a =
      let b = rests_between l a.at s t a.kept a.before e a.rests in (
        record {
          kept = a.kept;
          at = a.at;
          before = a.before;
          between = b.0;
          unfailed = a.unfailed;
          fault = a.fault;
          failed = a.failed;
          count = a.count;
          turns_are = a.turns_are;
        },
        b.2,
      )
  ends_seen at_end l l' s t most turns TooManyTurns e a =
      let b = rests_between l l' s t a.0 turns e a.2 in (
        (a.0, a.1, b.0, subst (λ x. most ≤ length x) (sym b.1) a.3),
        b.2,
      )
  ends_seen at_end l l' s t most turns Stopped e a =
      let last = a.last in
      last_seen l l' s a.mid t a.kept a.reply a.written turns (Ok Stop) e a.before (messages_stop a.kept last.0 last.1)
      (last.3, ap state last.2) (ap name last.2) (ap setup_of last.2)
  ends_seen at_end l l' s t most turns BadFrame e a =
      let last = a.last in
      let b = last_seen l l' s a.mid t a.kept a.reply a.written turns (Err last.0) e a.before
      (messages_bad a.kept last.0 a.kept last.1) (last.3, ap state last.2) (ap name last.2) (ap setup_of last.2) in
      ((last.0, b.0), b.1)
  ends_seen at_end l l' s t most turns Memory e a =
      let part = partly_seen l l' s a.mid a.kept a.reply (refused 1 0) a.written turns e a.last.1 a.before in
      let k = lacks_seen name setup_of state v a.kept a.mid t part.1.setup a.last.0 in (
        record {
          replies = a.before.replies;
          rest = messages a.kept;
          partly = subst (λ x. Partly reads writes failures v l l' (state s) turns a.before.replies (refused 1 0) x
              (messages a.kept)) (sym k.0) part.0;
        },
        record { same = k.1.same ∙ part.1.same; setup = k.1.setup },
      )
  ends_seen at_end l l' s t most turns (WriteFault n) e a = breaks_seen l l' s t turns n e a
