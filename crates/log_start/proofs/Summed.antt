-- What a head names, as it is summed up.
use Rattle.std.proofs.Common.{◌≡◌, ℕ, ◌+◌, ◌^◌, ◌<◌, List, [], ◌∷◌, ◌++◌, take, slice_get}
use Rattle.std.proofs.Common.{Some, refl, sym, ap, subst, ◌∙◌, length, append_assoc, append-nil, arith}
use Rattle.batch_store.specs.declared.verdict.Entry.{Entry}
use Rattle.batch_store.specs.Batches.{Submission, entries_of}
use Rattle.batch_store.specs.Books.{AreAccepted, Listing, accepted_in}
use Rattle.batch_store.specs.Setups.{IsSetting, Setting}
use Rattle.batch_store.specs.Verdicts.{total_of_entries}
use Rattle.batch_store.proofs.BookLaws.{next_item}
use Rattle.batch_store.proofs.VerdictLaws.{total_of-append}
use Rattle.log_head.specs.Heads.{IsHead, head_page}
use Rattle.log_head.proofs.ReadAgain.{written_head}
use Rattle.snap_file.specs.Origins.{IsIdentity}
use Rattle.log_head.specs.Links.{link_in}
use Rattle.log_head.specs.declared.head.LogHead.{LogHead}
use Rattle.log_join.specs.Joins.{known_entries}
use Rattle.log_join.proofs.PlaceLemmas.{total_next, total_within}
use Rattle.open_log.specs.Rotations.{begun}
use Rattle.log_start.specs.Fronts.{HasSummed}
use Rattle.log_start.specs.Records.{IsLogAs}
use Rattle.log_start.specs.declared.head.Front.{Front}

-- the next of a list of entries
module _ (xs : List Entry) (i : ℕ) (e : Entry) (here : Some e ≡ slice_get xs i) where
  pub next_summed : (front : Front) (es : List Entry) → HasSummed front ((es ++ take i xs) ++ e ∷ []) →
      HasSummed front (es ++ take (i + 1) xs)
  next_summed front es has =
      subst (HasSummed front)
      (append_assoc es (take i xs) (e ∷ []) ∙ ap (λ (l : List Entry). es ++ l) (next_item xs i e here)) has

  pub next_fits : (old now : ℕ) → now ≡ old + total_of_entries (take i xs) →
      old + total_of_entries xs < 2 ^ 64 → now + e.total < 2 ^ 64
  next_fits old now is fits =
      let next = total_next xs i e here in
      let most = total_within xs (i + 1) in
      omega (arith, next, most, is, fits)

  pub next_total : (old now new : ℕ) → now ≡ old + total_of_entries (take i xs) → new ≡ now + e.total →
      new ≡ old + total_of_entries (take (i + 1) xs)
  next_total old now new is more =
      let next = total_next xs i e here in
      omega (arith, next, is, more)

-- ---- all of a list

pub parts_fit : (s : Setting) (v : Listing) → AreAccepted s (accepted_in v) →
    total_of_entries v.folded + total_of_entries (entries_of v.list) < 2 ^ 64
parts_fit s v accepted =
    let parts = total_of-append v.folded (entries_of v.list) in
    let sound = accepted.sound in
    omega (arith, parts, accepted.within, sound.fits)

pub whole_summed : (v : Listing) (front : Front) (folded : List Entry) (list : List Submission) →
    folded ≡ v.folded → list ≡ v.list → HasSummed front (([] ++ folded) ++ entries_of list) →
    HasSummed front (known_entries v)
whole_summed v front folded list same here has =
    subst (HasSummed front)
    (ap (λ (l : List Entry). l ++ entries_of list) same
    ∙ ap (λ (l : List Submission). v.folded ++ entries_of l) here) has

module _ (s : Setting) (v : Listing) (front : Front) (h : LogHead) (accepted : AreAccepted s (accepted_in v))
    (has : HasSummed front (known_entries v)) (setup : h.setup ≡ s) (first : h.first ≡ length (known_entries v))
    (total : h.total ≡ front.total) (link : h.link ≡ link_in (known_entries v)) (fits : h.link < 2 ^ 32)
    (named : IsIdentity h.identity) where
  pub is_head : IsHead h
  is_head = record {
    setup = subst IsSetting (sym setup) accepted.sound;
    first = omega (arith, first, accepted.few, ap (λ (x : Setting). x.max_batches) setup);
    total = omega (arith, total, has.total, accepted.within, ap (λ (x : Setting). x.limit) setup);
    link = fits;
    named = named;
  }

  pub is_log : IsLogAs (begun (head_page h) h.first) s h.identity (known_entries v)
  is_log = record {
    log = record {
      head = h;
      before = known_entries v;
      lists = [];
      has_head = written_head h is_head;
      first_is = refl;
      before_is = sym first;
      total_is = sym has.total ∙ sym total;
      link_is = sym link;
      blocks_are = refl;
      entries_are = sym (append-nil (known_entries v));
    };
    setup = setup;
    identity = refl;
  }
