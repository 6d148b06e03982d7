-- A list of files as a map.
use Rattle.std.proofs.Common.{◌≡◌, ℕ, zero, suc, ◌+◌, ◌<◌, List, [], ◌∷◌, ◌++◌, length, take, drop, get_or, filter}
use Rattle.std.proofs.Common.{Some, None, unwrap_or, Bool, true, false, cond, not, refl, sym, ap, ◌∙◌, arith, add-one}
use Rattle.std.proofs.Common.{drop-cons}
use Rattle.std.specs.Prelude.{String, Vec, string_bytes, Result, Ok, Err, OnOk, is_err}
use Rattle.std.proofs.lemmas.Bool.{cond-false}
use Rattle.std.specs.Ordering.{nat_cmp, eq_by_cmp}
use Rattle.std.specs.Cmp.Lexicographic.{slice_cmp, nat_list_cmp_total}
use Rattle.std.specs.FinMap.{get, find, insert, remove, from_entries, get-remove, get-insert, get-from_entries, same_map}
use Rattle.std.specs.FinMap.{slice_cmp-IsAntisymmetric, nat_cmp-IsAntisymmetric}
use Rattle.std.specs.FinMap.Entries.{find-where_key}
use Rattle.std.proofs.lemmas.Map.Text.{is_eq-slice_cmp}
use Rattle.std.specs.Str.{bytes_eq}
use Rattle.file_folder.specs.Files.{Files, HasMore, IsMoved}
use Rattle.file_folder.specs.Memory.{listed, first_name}
use Rattle.file_folder.proofs.FileLemmas.{get_same}

-- the look-up from the i-th file on
pub find_step : {Y Z : Type 0} (name : List ℕ) (files : List (String Y × Vec ℕ Z)) (i : ℕ) (d : String Y × Vec ℕ Z) →
    i < length files →
    find (slice_cmp nat_cmp) name (listed (drop i files)) ≡
    cond (bytes_eq name (string_bytes (get_or files i d).0)) (Some (get_or files i d).1.items)
    (find (slice_cmp nat_cmp) name (listed (drop (i + 1) files)))
find_step name files i d h =
    rw (add-one, ← is_eq-slice_cmp name (string_bytes (get_or files i d).0))
    (ap (λ l. find (slice_cmp nat_cmp) name (listed l)) (drop-cons files i d h))

-- an element that the test refuses can be left out before
pub filter_without : {X : Type 0} (p : X → Bool) (xs : List X) (i : ℕ) (d : X) → i < length xs →
    p (get_or xs i d) ≡ false → filter p (take i xs ++ drop (suc i) xs) ≡ filter p xs
filter_without p [] i d h e = absurd (omega arith)
filter_without p (x ∷ xs) zero d h e = sym (cond-false (p x) _ _ e)
filter_without p (x ∷ xs) (suc i) d h e =
    ap (λ l. cond (p x) (x ∷ l) l) (filter_without p xs i d (omega arith) e)

pub listed_filter : {Y Z : Type 0} (q : List ℕ → Bool) (files : List (String Y × Vec ℕ Z)) →
    listed (filter (λ f. q (string_bytes f.0)) files) ≡ filter (λ e. q e.0) (listed files)
listed_filter q [] = refl
listed_filter q (f ∷ files) =
    let rest = listed_filter q files in
    elim (q (string_bytes f.0)) as (λ b. listed (cond b (f ∷ filter (λ g. q (string_bytes g.0)) files)
    (filter (λ g. q (string_bytes g.0)) files)) ≡ cond b ((string_bytes f.0, f.1.items) ∷ filter (λ e. q e.0) (listed files))
    (filter (λ e. q e.0) (listed files))) [
      | true ↦ ap (λ l. (string_bytes f.0, f.1.items) ∷ l) rest
      | false ↦ rest
    ]

turned : {A : Type 0} (b : Bool) (x y : A) → cond (not b) x y ≡ cond b y x
turned true x y = refl
turned false x y = refl

-- without the files of this name
pub filter_removes : (name : List ℕ) (es : List (List ℕ × List ℕ)) →
    from_entries {R = slice_cmp nat_cmp} (filter (λ e. not (bytes_eq e.0 name)) es) ≡ remove (from_entries es) name
filter_removes name es =
    same_map nat_list_cmp_total (slice_cmp-IsAntisymmetric nat_cmp-IsAntisymmetric) _ _
    (λ q. get-from_entries nat_list_cmp_total _ q
    ∙ find-where_key (slice_cmp nat_cmp) (λ k. not (bytes_eq k name)) q
    (λ x tie. ap (λ k. not (bytes_eq k name)) (sym (slice_cmp-IsAntisymmetric nat_cmp-IsAntisymmetric q x tie))) es
    ∙ turned (bytes_eq q name) _ _
    ∙ ap (λ b. cond b None (find (slice_cmp nat_cmp) q es)) (sym (is_eq-slice_cmp q name))
    ∙ sym (get-remove nat_list_cmp_total (from_entries es) name q
    ∙ ap (λ o. cond (eq_by_cmp (slice_cmp nat_cmp) q name) None o) (get-from_entries nat_list_cmp_total es q)))

shadowed : {A : Type 0} (b : Bool) (x y z : A) → cond b x (cond b y z) ≡ cond b x z
shadowed true x y z = refl
shadowed false x y z = refl

pub insert_twice : (m : Files) (k v w : List ℕ) → insert (insert m k v) k w ≡ insert m k w
insert_twice m k v w =
    same_map nat_list_cmp_total (slice_cmp-IsAntisymmetric nat_cmp-IsAntisymmetric) _ _
    (λ q. get-insert nat_list_cmp_total (insert m k v) k w q
    ∙ ap (λ o. cond (eq_by_cmp (slice_cmp nat_cmp) q k) (Some w) o) (get-insert nat_list_cmp_total m k v q)
    ∙ shadowed (eq_by_cmp (slice_cmp nat_cmp) q k) (Some w) (Some v) (get m q)
    ∙ sym (get-insert nat_list_cmp_total m k w q))

-- bytes behind those of the first file, where that is the one last created
pub first_has_more : (created : Bool) (old new : List (List ℕ × List ℕ)) (bytes : List ℕ) →
    ((name front : List ℕ) (rest : List (List ℕ × List ℕ)) → old ≡ (name, front) ∷ rest →
    new ≡ (name, front ++ bytes) ∷ rest) →
    (name : List ℕ) → first_name created old ≡ Some name →
    (first_name created new ≡ Some name) × HasMore name bytes (from_entries old) (from_entries new)
first_has_more false old new bytes h name e = absurd (cc)
first_has_more true [] new bytes h name e = absurd (cc)
first_has_more true (f ∷ files) new bytes h name e =
    let is : new ≡ (f.0, f.1 ++ bytes) ∷ files = h f.0 f.1 files refl in
    let same : f.0 ≡ name = cc in
    rw is (
      e,
      rw (← same)
          (sym (insert_twice (from_entries files) f.0 f.1 (f.1 ++ bytes))
          ∙ ap (λ o. insert (insert (from_entries files) f.0 f.1) f.0 (unwrap_or o [] ++ bytes))
          (sym (get_same (from_entries files) f.0 f.1))),
    )

pub moved_first : (from to bytes : List ℕ) (old new : List (List ℕ × List ℕ)) →
    find (slice_cmp nat_cmp) from old ≡ Some bytes →
    new ≡ (to, bytes) ∷ filter (λ e. not (bytes_eq e.0 from)) old →
    IsMoved from to (from_entries old) (from_entries new)
moved_first from to bytes old new found is =
    rw (is, filter_removes from old)
    (ap (λ o. insert (remove (from_entries old) from) to (unwrap_or o []))
    (sym (get-from_entries nat_list_cmp_total old from ∙ found)))

pub on_ok : {T E : Type 0} (r : Result T E) (P : Type 0) → is_err r ≡ false → OnOk r P → P
on_ok (Ok x) P e h = h
on_ok (Err x) P e h = absurd (cc)
