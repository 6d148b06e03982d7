-- One head at most, one fault at most, and never both.
use Rattle.std.proofs.Common.{◌≡◌, ℕ, true, false, List, Result, Ok, Err, IfOk, IfErr, refl, sym, ap, subst, ◌∙◌}
use Rattle.log_page.specs.Pages.{is_blank}
use Rattle.log_blocks.specs.declared.fault.LogKind.{LogKind}
use Rattle.log_blocks.specs.declared.fault.LogKind.TheVariants.{Read, Memory, Truncated, BadMark, BadVersion, BadHead}
use Rattle.log_blocks.specs.declared.fault.LogKind.TheVariants.{HeadCheck, Damaged, BadBlock, TooLong}
use Rattle.log_head.specs.declared.head.LogHead.{LogHead}
use Rattle.log_head.specs.Heads.{head_in, version_in, filler, HasCheck, IsHeadIn, HasHead, RefusesPage}
use Rattle.log_head.proofs.ReadAgain.{Says, says}
use Rattle.std.proofs.Common.{◌^◌, ◌<◌, arith}
use Rattle.snap_file.specs.Origins.{unknown, IsIdentity}
use Rattle.snap_file.specs.declared.origin.Identity.{Identity}

-- an identity that isn't known fits its fields
pub unknown_fits : (i : Identity) → i ≡ unknown.identity → IsIdentity i
unknown_fits i e = subst IsIdentity (sym e) (record { high = omega arith; low = omega arith; window = omega arith })

says_of : (p : List ℕ) (h : LogHead) → HasHead p h → Says p h
says_of p h has = subst (λ (l : List ℕ). Says l h) (sym has.spelled)
    (says has.page_version (has.low, has.high) h has.is has.old has.most)

pub one_head : (p : List ℕ) (h g : LogHead) → HasHead p h → HasHead p g → h ≡ g
one_head p h g a b = sym (says_of p h a).head_is ∙ (says_of p g b).head_is

not_blank : (p : List ℕ) → is_blank (filler p) ≡ true → is_blank (filler p) ≡ false → ⊥
not_blank p told refused = absurd cc

pub no_fault : (p : List ℕ) (h : LogHead) (kind : LogKind) → HasHead p h → RefusesPage p kind → ⊥
no_fault p h BadMark has refused = refused (says_of p h has).mark_is
no_fault p h BadVersion has refused = refused.1 (says_of p h has).version_is
no_fault p h BadHead has refused =
    let said = says_of p h has in
    not_blank p said.blank
    (refused.1 (subst (IsHeadIn (version_in p)) (sym said.head_is) (has.is, said.most))).1
no_fault p h HeadCheck has refused = refused.1 (says_of p h has).check
no_fault p h Read has refused = refused
no_fault p h Memory has refused = refused
no_fault p h Truncated has refused = refused
no_fault p h Damaged has refused = refused
no_fault p h BadBlock has refused = refused
no_fault p h TooLong has refused = refused

behind_mark : (p : List ℕ) (kind : LogKind) → RefusesPage p BadMark → RefusesPage p kind → BadMark ≡ kind
behind_mark p BadMark a b = refl
behind_mark p BadVersion a b = absurd (a b.0)
behind_mark p BadHead a b = absurd (a b.0.0)
behind_mark p HeadCheck a b = absurd (a b.0.0.0)
behind_mark p Read a b = absurd b
behind_mark p Memory a b = absurd b
behind_mark p Truncated a b = absurd b
behind_mark p Damaged a b = absurd b
behind_mark p BadBlock a b = absurd b
behind_mark p TooLong a b = absurd b

behind_version : (p : List ℕ) (kind : LogKind) → RefusesPage p BadVersion → RefusesPage p kind → BadVersion ≡ kind
behind_version p BadMark a b = absurd (b a.0)
behind_version p BadVersion a b = refl
behind_version p BadHead a b = absurd (a.1 b.0.1)
behind_version p HeadCheck a b = absurd (a.1 b.0.0.1)
behind_version p Read a b = absurd b
behind_version p Memory a b = absurd b
behind_version p Truncated a b = absurd b
behind_version p Damaged a b = absurd b
behind_version p BadBlock a b = absurd b
behind_version p TooLong a b = absurd b

behind_fields : (p : List ℕ) (kind : LogKind) → RefusesPage p BadHead → RefusesPage p kind → BadHead ≡ kind
behind_fields p BadMark a b = absurd (b a.0.0)
behind_fields p BadVersion a b = absurd (b.1 a.0.1)
behind_fields p BadHead a b = refl
behind_fields p HeadCheck a b = absurd (b.1 (a.1 b.0.1).0)
behind_fields p Read a b = absurd b
behind_fields p Memory a b = absurd b
behind_fields p Truncated a b = absurd b
behind_fields p Damaged a b = absurd b
behind_fields p BadBlock a b = absurd b
behind_fields p TooLong a b = absurd b

behind_check : (p : List ℕ) (kind : LogKind) → RefusesPage p HeadCheck → RefusesPage p kind → HeadCheck ≡ kind
behind_check p BadMark a b = absurd (b a.0.0.0)
behind_check p BadVersion a b = absurd (b.1 a.0.0.1)
behind_check p BadHead a b = absurd (a.1 (b.1 a.0.1).0)
behind_check p HeadCheck a b = refl
behind_check p Read a b = absurd b
behind_check p Memory a b = absurd b
behind_check p Truncated a b = absurd b
behind_check p Damaged a b = absurd b
behind_check p BadBlock a b = absurd b
behind_check p TooLong a b = absurd b

pub one_fault : (p : List ℕ) (kind other : LogKind) → RefusesPage p kind → RefusesPage p other → kind ≡ other
one_fault p BadMark other a b = behind_mark p other a b
one_fault p BadVersion other a b = behind_version p other a b
one_fault p BadHead other a b = behind_fields p other a b
one_fault p HeadCheck other a b = behind_check p other a b
one_fault p Read other a b = absurd a
one_fault p Memory other a b = absurd a
one_fault p Truncated other a b = absurd a
one_fault p Damaged other a b = absurd a
one_fault p BadBlock other a b = absurd a
one_fault p TooLong other a b = absurd a

-- ---- what a read answers

pub is_that_head : (p : List ℕ) (r : Result LogHead LogKind) → IfOk r (HasHead p) → IfErr r (RefusesPage p) →
    (h : LogHead) → HasHead p h → r ≡ Ok h
is_that_head p (Ok g) ok err h has = ap (λ (x : LogHead). Ok x) (one_head p g h ok has)
is_that_head p (Err kind) ok err h has = absurd (no_fault p h kind has err)

pub is_that_fault : (p : List ℕ) (r : Result LogHead LogKind) → IfOk r (HasHead p) → IfErr r (RefusesPage p) →
    (kind : LogKind) → RefusesPage p kind → r ≡ Err kind
is_that_fault p (Ok g) ok err kind refused = absurd (no_fault p g kind ok refused)
is_that_fault p (Err other) ok err kind refused = ap (λ (x : LogKind). Err x) (one_fault p other kind err refused)
