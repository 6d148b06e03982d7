-- Three files that are made in a folder, and renamed one after the other.
use Rattle.std.proofs.Common.{◌≡◌, ◌≢◌, ℕ, List, [], Option, Some, None, IsSome, IfSome, unwrap_or, refl, sym}
use Rattle.std.proofs.Common.{ap, subst, ◌∙◌, arith, get_or, Result, Ok, Err, IfErr, IsErrAnd, OnOk, OnErr}
use Rattle.std.specs.FinMap.{get, remove}
use Rattle.byte_io.specs.Streams.{Answer}
use Rattle.file_folder.specs.Calls.{FolderCall, Done}
use Rattle.file_folder.specs.Files.{Files, WhereTold, HasFile, IsMoved, KeepsOthers}
use Rattle.file_folder.proofs.FileLemmas.{get_same, get_other, get_removed, get_unremoved, told_then, told_map}
use Rattle.snap_file.specs.Saving.{unfinished}
use Rattle.snap_file.specs.declared.fault.SaveFault.{SaveFault}
use Rattle.snap_file.specs.declared.fault.SaveFault.TheVariants.{Memory, Create, Write, Sync, Rename}
use Rattle.snap_file.proofs.SaveLemmas.{unfinished_differs}
use Rattle.snap_export.specs.Saved.{FilePart, IsNotMade, SaysWhy, HasAll, KeepsNamed}
use Rattle.snap_export.specs.Files.{rows_name, cols_name, matrix_name, parts_of, HaveNew, AreThere, AreMoved, named_in}

-- lists with other heads are others
heads : (a b : List ℕ) → (get_or a 0 0 ≡ get_or b 0 0 → ⊥) → a ≢ b
heads a b h e = h (ap (λ (l : List ℕ). get_or l 0 0) e)

-- r, c and m
abbrev r≢c : ◌≡◌ {A = ℕ} 114 99 → ⊥
r≢c e = absurd (omega (arith, e))

abbrev r≢m : ◌≡◌ {A = ℕ} 114 109 → ⊥
r≢m e = absurd (omega (arith, e))

abbrev c≢r : ◌≡◌ {A = ℕ} 99 114 → ⊥
c≢r e = absurd (omega (arith, e))

abbrev c≢m : ◌≡◌ {A = ℕ} 99 109 → ⊥
c≢m e = absurd (omega (arith, e))

abbrev m≢r : ◌≡◌ {A = ℕ} 109 114 → ⊥
m≢r e = absurd (omega (arith, e))

abbrev m≢c : ◌≡◌ {A = ℕ} 109 99 → ⊥
m≢c e = absurd (omega (arith, e))

-- ---- a file that is renamed

get_named : (m : Files) (name : List ℕ) → get (named_in m name) name ≡ Some (unwrap_or (get m (unfinished name)) [])
get_named m name = get_same (remove m (unfinished name)) name _

get_else : (m : Files) (name other : List ℕ) → other ≢ name → other ≢ unfinished name →
    get (named_in m name) other ≡ get m other
get_else m name other p q =
    get_other (remove m (unfinished name)) name _ other p ∙ get_unremoved m (unfinished name) other q

get_gone : (m : Files) (name : List ℕ) → get (named_in m name) (unfinished name) ≡ None
get_gone m name =
    get_other (remove m (unfinished name)) name _ (unfinished name) (unfinished_differs name)
    ∙ get_removed m (unfinished name)

-- ---- all three

pub three_made : (rows cols matrix : List ℕ) (w x y z : Files) → HasFile (unfinished rows_name) rows w x →
    HasFile (unfinished cols_name) cols x y → HasFile (unfinished matrix_name) matrix y z →
    HaveNew rows cols matrix w z
three_made rows cols matrix w x y z a b c = record {
  rows_are = c.1 (unfinished rows_name) (heads _ _ r≢m) ∙ b.1 (unfinished rows_name) (heads _ _ r≢c) ∙ a.0;
  cols_are = c.1 (unfinished cols_name) (heads _ _ c≢m) ∙ b.0;
  matrix_is = c.0;
  others = λ name no. c.1 name no.1.1.0 ∙ b.1 name no.1.0 ∙ a.1 name no.0;
}

pub all_there : (rows cols matrix : List ℕ) (m n : Files) → HaveNew rows cols matrix m n → AreThere n
all_there rows cols matrix m n h = (
  subst IsSome (sym h.rows_are) refl,
  subst IsSome (sym h.cols_are) refl,
  subst IsSome (sym h.matrix_is) refl,
)

pub all_moved : (rows cols matrix : List ℕ) (w z n : Files) → HaveNew rows cols matrix w z → AreMoved z n →
    HasAll (parts_of rows cols matrix) w n
all_moved rows cols matrix w z n h moved =
    let first = named_in z rows_name in
    let second = named_in first cols_name in
    let new_rows = unfinished rows_name in
    let new_cols = unfinished cols_name in
    let new_matrix = unfinished matrix_name in
    let rows_in : get n rows_name ≡ Some rows = ap (λ (y : Files). get y rows_name) moved
    ∙ get_else second matrix_name rows_name (heads _ _ r≢m) (heads _ _ r≢m)
    ∙ get_else first cols_name rows_name (heads _ _ r≢c) (heads _ _ r≢c) ∙ get_named z rows_name
    ∙ ap (λ (o : Option (List ℕ)). Some (unwrap_or o [])) h.rows_are in
    let rows_gone : get n new_rows ≡ None = ap (λ (y : Files). get y new_rows) moved
    ∙ get_else second matrix_name new_rows (heads _ _ r≢m) (heads _ _ r≢m)
    ∙ get_else first cols_name new_rows (heads _ _ r≢c) (heads _ _ r≢c) ∙ get_gone z rows_name in
    let cols_in : get n cols_name ≡ Some cols = ap (λ (y : Files). get y cols_name) moved
    ∙ get_else second matrix_name cols_name (heads _ _ c≢m) (heads _ _ c≢m) ∙ get_named first cols_name
    ∙ ap (λ (o : Option (List ℕ)). Some (unwrap_or o []))
    (get_else z rows_name new_cols (heads _ _ c≢r) (heads _ _ c≢r) ∙ h.cols_are) in
    let cols_gone : get n new_cols ≡ None = ap (λ (y : Files). get y new_cols) moved
    ∙ get_else second matrix_name new_cols (heads _ _ c≢m) (heads _ _ c≢m) ∙ get_gone first cols_name in
    let matrix_in : get n matrix_name ≡ Some matrix = ap (λ (y : Files). get y matrix_name) moved
    ∙ get_named second matrix_name ∙ ap (λ (o : Option (List ℕ)). Some (unwrap_or o []))
    (get_else first cols_name new_matrix (heads _ _ m≢c) (heads _ _ m≢c)
    ∙ get_else z rows_name new_matrix (heads _ _ m≢r) (heads _ _ m≢r) ∙ h.matrix_is) in
    let matrix_gone : get n new_matrix ≡ None = ap (λ (y : Files). get y new_matrix) moved
    ∙ get_gone second matrix_name in (
      (rows_in, rows_gone, (cols_in, cols_gone, (matrix_in, matrix_gone, tt))),
      λ name no. ap (λ (y : Files). get y name) moved
          ∙ get_else second matrix_name name no.2.2.0 no.2.2.1 ∙ get_else first cols_name name no.2.0 no.2.1
          ∙ get_else z rows_name name no.0 no.1 ∙ h.others name (no.1, (no.2.1, (no.2.2.1, tt))),
    )

-- where the folder tells its files

pub told_made : (rows cols matrix : List ℕ) (w x y z : Option Files) →
    WhereTold (HasFile (unfinished rows_name) rows) w x → WhereTold (HasFile (unfinished cols_name) cols) x y →
    WhereTold (HasFile (unfinished matrix_name) matrix) y z → WhereTold (HaveNew rows cols matrix) w z
told_made rows cols matrix None None None None a b c = tt
told_made rows cols matrix (Some w) (Some x) (Some y) (Some z) a b c = three_made rows cols matrix w x y z a b c
told_made rows cols matrix None None None (Some z) a b c = c
told_made rows cols matrix None None (Some y) z a b c = absurd b
told_made rows cols matrix None (Some x) y z a b c = absurd a
told_made rows cols matrix (Some w) None y z a b c = absurd a
told_made rows cols matrix (Some w) (Some x) None z a b c = absurd b
told_made rows cols matrix (Some w) (Some x) (Some y) None a b c = c

pub told_there : (rows cols matrix : List ℕ) (a b : Option Files) → WhereTold (HaveNew rows cols matrix) a b →
    IfSome b AreThere
told_there rows cols matrix a None h = tt
told_there rows cols matrix None (Some n) h = absurd h
told_there rows cols matrix (Some m) (Some n) h = all_there rows cols matrix m n h

pub told_moved : (rows cols matrix : List ℕ) (w z n : Option Files) → WhereTold (HaveNew rows cols matrix) w z →
    WhereTold AreMoved z n → WhereTold (HasAll (parts_of rows cols matrix)) w n
told_moved rows cols matrix w z n a b =
    told_then _ _ _ (λ x y u p q. all_moved rows cols matrix x y u p q) w z n a b

-- what is there behind the first rename, and behind the second
pub there_first : (a : Option Files) → IfSome a AreThere → IfSome a (λ m. IsSome (get m (unfinished rows_name)))
there_first None h = tt
there_first (Some m) h = h.0

pub there_second : (a b : Option Files) → IfSome a AreThere →
    WhereTold (IsMoved (unfinished rows_name) rows_name) a b →
    IfSome b (λ m. IsSome (get m (unfinished cols_name)))
there_second a None h moved = tt
there_second None (Some n) h moved = absurd moved
there_second (Some m) (Some n) h moved =
    subst IsSome (sym (ap (λ (y : Files). get y (unfinished cols_name)) moved
    ∙ get_else m rows_name (unfinished cols_name) (heads _ _ c≢r) (heads _ _ c≢r))) h.1

pub there_third : (a b c : Option Files) → IfSome a AreThere →
    WhereTold (IsMoved (unfinished rows_name) rows_name) a b →
    WhereTold (IsMoved (unfinished cols_name) cols_name) b c →
    IfSome c (λ m. IsSome (get m (unfinished matrix_name)))
there_third a b None h p q = tt
there_third a None (Some n) h p q = absurd q
there_third None (Some m) (Some n) h p q = absurd p
there_third (Some l) (Some m) (Some n) h p q =
    subst IsSome (sym (ap (λ (y : Files). get y (unfinished matrix_name)) q
    ∙ get_else m cols_name (unfinished matrix_name) (heads _ _ m≢c) (heads _ _ m≢c)
    ∙ ap (λ (y : Files). get y (unfinished matrix_name)) p
    ∙ get_else l rows_name (unfinished matrix_name) (heads _ _ m≢r) (heads _ _ m≢r))) h.2

pub told_all_moved : (a b c d : Option Files) → WhereTold (IsMoved (unfinished rows_name) rows_name) a b →
    WhereTold (IsMoved (unfinished cols_name) cols_name) b c →
    WhereTold (IsMoved (unfinished matrix_name) matrix_name) c d → WhereTold AreMoved a d
told_all_moved None None None None p q r = tt
told_all_moved None None None (Some d) p q r = r
told_all_moved None None (Some c) d p q r = absurd q
told_all_moved None (Some b) c d p q r = absurd p
told_all_moved (Some a) None c d p q r = absurd p
told_all_moved (Some a) (Some b) None d p q r = absurd q
told_all_moved (Some a) (Some b) (Some c) None p q r = r
told_all_moved (Some a) (Some b) (Some c) (Some d) p q r =
    r ∙ ap (λ (y : Files). named_in y matrix_name) (q ∙ ap (λ (y : Files). named_in y cols_name) p)

-- files that aren't all made leave every other as it was
pub kept_first : (rows cols matrix : List ℕ) (a b : Option Files) →
    WhereTold (KeepsOthers (unfinished rows_name)) a b → WhereTold (KeepsNamed (parts_of rows cols matrix)) a b
kept_first rows cols matrix a b h = told_map _ _ (λ m n k name no. k name no.0) a b h

pub kept_second : (rows cols matrix : List ℕ) (a b c : Option Files) →
    WhereTold (HasFile (unfinished rows_name) rows) a b → WhereTold (KeepsOthers (unfinished cols_name)) b c →
    WhereTold (KeepsNamed (parts_of rows cols matrix)) a c
kept_second rows cols matrix a b c p q =
    told_then _ _ _ (λ x y z h k name no. k name no.1.0 ∙ h.1 name no.0) a b c p q

pub kept_third : (rows cols matrix : List ℕ) (a b c d : Option Files) →
    WhereTold (HasFile (unfinished rows_name) rows) a b → WhereTold (HasFile (unfinished cols_name) cols) b c →
    WhereTold (KeepsOthers (unfinished matrix_name)) c d → WhereTold (KeepsNamed (parts_of rows cols matrix)) a d
kept_third rows cols matrix a b c d p q r =
    told_then
    (λ x y. (name : List ℕ) → name ≢ unfinished rows_name → name ≢ unfinished cols_name → get y name ≡ get x name)
    (KeepsOthers (unfinished matrix_name)) _ (λ x y z h k name no. k name no.1.1.0 ∙ h name no.0 no.1.0) a c d
    (told_then _ _ _ (λ x y z h k name one two. k.1 name two ∙ h.1 name one) a b c p q) r

-- ---- answers

pub passed_on : {T E : Type 0} (r : Result T E) (P : E → Type 0) (fault : E) → IsErrAnd r (λ e. e ≡ fault) →
    P fault → IfErr r P
passed_on (Ok x) P fault is h = absurd is
passed_on (Err e) P fault is h = subst P (sym is) h

pub on_ok_with : {T E : Type 0} (r : Result T E) {P Q : Type 0} → (P → Q) → OnOk r P → OnOk r Q
on_ok_with (Ok x) f h = f h
on_ok_with (Err e) f h = tt

pub on_err_with : {T E : Type 0} (r : Result T E) {P Q : Type 0} → (P → Q) → OnErr r P → OnErr r Q
on_err_with (Ok x) f h = tt
on_err_with (Err e) f h = f h

pub if_err_with : {T E : Type 0} (r : Result T E) {P Q : E → Type 0} → ((e : E) → P e → Q e) → IfErr r P → IfErr r Q
if_err_with (Ok x) f h = tt
if_err_with (Err e) f h = f e h

-- which fault was passed on
pub passed_is : {T E : Type 0} (r : Result T E) (fault other : E) → IsErrAnd r (λ e. e ≡ fault) → r ≡ Err other →
    fault ≡ other
passed_is (Ok x) fault other is told = absurd is
passed_is (Err e) fault other is told =
    let same : e ≡ other = cc in
    sym is ∙ same

-- ---- faults

module _ {S : Type 0} (calls : S → FolderCall → Done → S → Type 0) (takes : S → List ℕ → Answer → S → Type 0)
    (failures : S → ℕ) where
  pub not_made_told : (s t : S) (parts : List FilePart) (why : SaveFault) →
      IsNotMade calls takes failures s t parts why → SaysWhy calls takes failures s t parts why
  not_made_told s t parts Memory h = absurd h.why
  not_made_told s t parts Create h = h
  not_made_told s t parts (Write fault) h = h
  not_made_told s t parts Sync h = h
  not_made_told s t parts Rename h = absurd h.why

  pub not_made_kept : (s t : S) (parts : List FilePart) (why : SaveFault) →
      IsNotMade calls takes failures s t parts why → why ≢ Rename
  not_made_kept s t parts Rename h = absurd h.why
  not_made_kept s t parts Memory h = absurd h.why
  not_made_kept s t parts Create h = λ e. absurd (cc)
  not_made_kept s t parts (Write fault) h = λ e. absurd (cc)
  not_made_kept s t parts Sync h = λ e. absurd (cc)
