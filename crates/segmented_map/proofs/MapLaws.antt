-- What a map's fields say of it, and what it keeps when it changes.
use Rattle.std.proofs.Common.{◌≡◌, ℕ, ◌+◌, ◌≤◌, ◌^◌, Bool, true, false, cond, ◌||◌, List, [], ◌∷◌, ◌++◌, length}
use Rattle.std.proofs.Common.{Option, None, Some, is_some, option_map, position, slice_get, refl, sym, ◌∙◌, ap, subst}
use Rattle.std.proofs.Common.{arith, length-append, append_assoc, append-nil}
use Rattle.std.specs.Prelude.{IfSome, Result, Ok, Err, IsOk, OnOk}
use Rattle.std.specs.Cmp.{IsEquivalence}
use Rattle.std.specs.List.{IsDistinct, list_any}
use Rattle.std.specs.Map.{keys_of, lookup}
use Rattle.std.proofs.lemmas.Map.Entries.{length-keys_of}
use Rattle.std.proofs.lemmas.Map.Keys.{IsDistinct-push}
use Rattle.std.proofs.lemmas.Option.{none-some}
use Rattle.indexmap.specs.IndexMap.{IndexMap}
use Rattle.indexmap.proofs.MapLemmas.{some_index}
use Rattle.segmented_map.specs.Segments.{entries_in, KeepsSegments}
use Rattle.segmented_map.proofs.Positions.{get-behind, position-after, position-first, distinct-front}
use Rattle.segmented_map.proofs.SegmentLaws.{keys-append, entries_in-append}

pub if_some : {X : Type 0} (r : Option X) (P Q : X → Type 0) → ((x : X) → P x → Q x) → IfSome r P → IfSome r Q
if_some None P Q f h = tt
if_some (Some x) P Q f h = f x h

pub on_ok_at : {T E : Type 0} (r : Result T E) (P : Type 0) → IsOk r → OnOk r P → P
on_ok_at (Ok x) P h p = p
on_ok_at (Err e) P h p = cc

is_some-map : {X Y : Type 0} (f : X → Y) (r : Option X) → is_some (option_map f r) ≡ is_some r
is_some-map f None = refl
is_some-map f (Some x) = refl

-- whether a key is there, by its index
pub found_is : {K V X : Type 0} (f : X → ℕ) (r : Option X) (test : K → Bool) (es : List (K × V)) →
    option_map f r ≡ position test (keys_of es) → is_some r ≡ is_some (lookup test es)
found_is f r test es h = sym (is_some-map f r) ∙ ap is_some h ∙ some_index test es

-- what isn't among the entries isn't among the last ones, nor a key of any
pub none_behind : {K V : Type 0} (test : K → Bool) (es fs : List (K × V)) → lookup test (es ++ fs) ≡ None →
    lookup test fs ≡ None
none_behind test [] fs h = h
none_behind test (e ∷ es) fs h = by (test e.0) h (none_behind test es fs)
  where
    by : (t : Bool) → cond t (Some e.1) (lookup test (es ++ fs)) ≡ None →
        (lookup test (es ++ fs) ≡ None → lookup test fs ≡ None) → lookup test fs ≡ None
    by true h rest = absurd (none-some _ (sym h))
    by false h rest = rest h

none_any : {K V : Type 0} (test : K → Bool) (es : List (K × V)) → lookup test es ≡ None →
    list_any test (keys_of es) ≡ false
none_any test [] h = refl
none_any test (e ∷ es) h = by (test e.0) h (none_any test es)
  where
    by : (t : Bool) → cond t (Some e.1) (lookup test es) ≡ None →
        (lookup test es ≡ None → list_any test (keys_of es) ≡ false) → (t || list_any test (keys_of es)) ≡ false
    by true h rest = absurd (none-some _ (sym h))
    by false h rest = rest h

module _ {K V S : Type 0} {eq : K → K → Bool} (laws : IsEquivalence eq) (full : List (IndexMap K V S))
    (last : IndexMap K V S) (count : ℕ) (keeps : KeepsSegments eq full last count) where
  abbrev earlier : List (K × V)
  earlier = entries_in full

  keys_all : keys_of (earlier ++ last.entries) ≡ keys_of earlier ++ keys_of last.entries
  keys_all = keys-append earlier last.entries

  distinct_all : IsDistinct eq (keys_of earlier ++ keys_of last.entries)
  distinct_all = subst (IsDistinct eq) keys_all keeps.unique

  pub distinct_earlier : IsDistinct eq (keys_of earlier)
  distinct_earlier = distinct-front laws (keys_of earlier) (keys_of last.entries) distinct_all

  -- a key of the last segment
  pub place_last : (k : K) (j : ℕ) → position (eq k) (keys_of last.entries) ≡ Some j →
      position (eq k) (keys_of (earlier ++ last.entries)) ≡ Some (count + j)
  place_last k j found = ap (position (eq k)) keys_all
      ∙ position-after laws (keys_of earlier) (keys_of last.entries) k j distinct_all found
      ∙ ap (λ n. Some (n + j)) (length-keys_of earlier ∙ sym keeps.earlier)

  pub entry_last : (i j : ℕ) → i ≡ count + j → slice_get (earlier ++ last.entries) i ≡ slice_get last.entries j
  entry_last i j is = get-behind earlier last.entries i j (omega (arith, is, keeps.earlier))

  -- one that it hasn't
  pub place_earlier : (k : K) → position (eq k) (keys_of last.entries) ≡ None →
      position (eq k) (keys_of (earlier ++ last.entries)) ≡ position (eq k) (keys_of earlier)
  place_earlier k none = ap (position (eq k)) keys_all
      ∙ position-first (eq k) (keys_of earlier) (keys_of last.entries) none

  -- a new entry
  pub entries_pushed : (last' : IndexMap K V S) (e : K × V) → last'.entries ≡ last.entries ++ e ∷ [] →
      earlier ++ last'.entries ≡ (earlier ++ last.entries) ++ e ∷ []
  entries_pushed last' e is = ap (λ es. earlier ++ es) is ∙ sym (append_assoc earlier last.entries (e ∷ []))

  pub keeps_push : (last' : IndexMap K V S) (k : K) (v : V) → lookup (eq k) (earlier ++ last.entries) ≡ None →
      last'.entries ≡ last.entries ++ (k, v) ∷ [] → KeepsSegments eq full last' count
  keeps_push last' k v none is =
      let keys = ap keys_of (entries_pushed last' (k, v) is) ∙ keys-append (earlier ++ last.entries) ((k, v) ∷ []) in
      record {
        unique = subst (IsDistinct eq) (sym keys)
            (IsDistinct-push laws (keys_of (earlier ++ last.entries)) k keeps.unique
            (none_any (eq k) (earlier ++ last.entries) none));
        earlier = keeps.earlier;
        few = keeps.few;
      }

  -- the last segment becomes a full one, before an empty one
  pub entries_added : (full' : List (IndexMap K V S)) (next : IndexMap K V S) → full' ≡ full ++ last ∷ [] →
      next.entries ≡ [] → entries_in full' ++ next.entries ≡ earlier ++ last.entries
  entries_added full' next is none = (λ j. entries_in (is j) ++ none j)
      ∙ append-nil (entries_in (full ++ last ∷ []))
      ∙ entries_in-append full (last ∷ [])
      ∙ ap (λ es. earlier ++ es) (append-nil last.entries)

  pub keeps_added : (full' : List (IndexMap K V S)) (next : IndexMap K V S) (held : ℕ) →
      full' ≡ full ++ last ∷ [] → next.entries ≡ [] → held ≡ count + length last.entries → held ≤ 2 ^ 62 →
      KeepsSegments eq full' next held
  keeps_added full' next held is none held_is few =
      let same = entries_added full' next is none in
      record {
        unique = subst (λ es. IsDistinct eq (keys_of es)) (sym same) keeps.unique;
        earlier = held_is ∙ omega (
          arith,
          keeps.earlier,
          ap length same,
          length-append earlier last.entries,
          length-append (entries_in full') next.entries,
          ap length none,
        );
        few = few;
      }
