-- One call after another on the files of a folder.
use Rattle.std.proofs.Common.{◌≡◌, ◌≢◌, ℕ, List, [], ◌++◌, Option, Some, None, unwrap_or, true, false, refl}
use Rattle.std.proofs.Common.{ap, ◌∙◌, rules, IfSome, IsSome}
use Rattle.std.proofs.lemmas.Bool.{cond-true, cond-false}
use Rattle.std.specs.Ordering.{nat_cmp, eq_by_cmp}
use Rattle.std.specs.Cmp.Lexicographic.{slice_cmp, nat_list_cmp_total}
use Rattle.std.specs.FinMap.{get, insert, remove, get-insert, get-remove}
use Rattle.std.proofs.lemmas.Map.Text.{is_eq-slice_cmp}
use Rattle.std.proofs.lemmas.Slice.Eq.{bytes_eq-Decides}
use Rattle.file_folder.specs.Files.{Files, WhereTold, KeepsOthers, HasFile, IsMade, HasMore, IsMoved, IsReplaced}

pub tied : (q k : List ℕ) → q ≡ k → eq_by_cmp (slice_cmp nat_cmp) q k ≡ true
tied q k e = is_eq-slice_cmp q k ∙ grind (rules, bytes_eq-Decides q k)

pub apart : (q k : List ℕ) → q ≢ k → eq_by_cmp (slice_cmp nat_cmp) q k ≡ false
apart q k ne = is_eq-slice_cmp q k ∙ grind (rules, bytes_eq-Decides q k)

pub get_same : (m : Files) (name bytes : List ℕ) → get (insert m name bytes) name ≡ Some bytes
get_same m name bytes = get-insert nat_list_cmp_total m name bytes name ∙ cond-true _ _ _ (tied name name refl)

pub get_other : (m : Files) (name bytes other : List ℕ) → other ≢ name → get (insert m name bytes) other ≡ get m other
get_other m name bytes other ne = get-insert nat_list_cmp_total m name bytes other ∙ cond-false _ _ _ (apart other name ne)

pub get_removed : (m : Files) (name : List ℕ) → get (remove m name) name ≡ None
get_removed m name = get-remove nat_list_cmp_total m name name ∙ cond-true _ _ _ (tied name name refl)

pub get_unremoved : (m : Files) (name other : List ℕ) → other ≢ name → get (remove m name) other ≡ get m other
get_unremoved m name other ne = get-remove nat_list_cmp_total m name other ∙ cond-false _ _ _ (apart other name ne)

-- two calls, one after the other
pub told_then : (P Q R : Files → Files → Type 0) → ((x y z : Files) → P x y → Q y z → R x z) →
    (a b c : Option Files) → WhereTold P a b → WhereTold Q b c → WhereTold R a c
told_then P Q R f None None None p q = tt
told_then P Q R f None None (Some z) p q = q
told_then P Q R f None (Some y) c p q = absurd p
told_then P Q R f (Some x) None c p q = absurd p
told_then P Q R f (Some x) (Some y) None p q = q
told_then P Q R f (Some x) (Some y) (Some z) p q = f x y z p q

pub told_map : (P Q : Files → Files → Type 0) → ((x y : Files) → P x y → Q x y) →
    (a b : Option Files) → WhereTold P a b → WhereTold Q a b
told_map P Q f None None p = tt
told_map P Q f None (Some y) p = p
told_map P Q f (Some x) None p = p
told_map P Q f (Some x) (Some y) p = f x y p

-- the file is there
pub told_there : (name bytes : List ℕ) (a b : Option Files) → WhereTold (HasFile name bytes) a b →
    IfSome b (λ m. IsSome (get m name))
told_there name bytes a None h = tt
told_there name bytes None (Some n) h = absurd h
told_there name bytes (Some m) (Some n) h = rw h.0 refl

pub made_holds : (name : List ℕ) (m n : Files) → IsMade name m n → HasFile name [] m n
made_holds name m n e = (
  ap (λ x. get x name) e ∙ get_same m name [],
  λ other ne. ap (λ x. get x other) e ∙ get_other m name [] other ne,
)

pub more_holds : (name front bytes : List ℕ) (m x n : Files) →
    HasFile name front m x → HasMore name bytes x n → HasFile name (front ++ bytes) m n
more_holds name front bytes m x n h e = (
  ap (λ y. get y name) e ∙ get_same x name _ ∙ ap (λ o. Some (unwrap_or o [] ++ bytes)) h.0,
  λ other ne. ap (λ y. get y other) e ∙ get_other x name _ other ne ∙ h.1 other ne,
)

pub others_then : (name : List ℕ) (m x n : Files) → KeepsOthers name m x → KeepsOthers name x n → KeepsOthers name m n
others_then name m x n h k = λ other ne. k other ne ∙ h other ne

pub moved_replaces : (path beside bytes : List ℕ) (m x n : Files) → beside ≢ path →
    HasFile beside bytes m x → IsMoved beside path x n → IsReplaced path beside bytes m n
moved_replaces path beside bytes m x n ne h e = record {
  written = ap (λ y. get y path) e ∙ get_same (remove x beside) path _ ∙ ap (λ o. Some (unwrap_or o [])) h.0;
  gone = ap (λ y. get y beside) e ∙ get_other (remove x beside) path _ beside ne ∙ get_removed x beside;
  others = λ other far apart. ap (λ y. get y other) e ∙ get_other (remove x beside) path _ other far
      ∙ get_unremoved x beside other apart ∙ h.1 other apart;
}
