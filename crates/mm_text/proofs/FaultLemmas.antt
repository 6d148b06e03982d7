-- The words of a line never bear the fault Read or Memory.
use Rattle.std.proofs.Common.{◌≡◌, ℕ, ◌^◌, ◌||◌, ◌&&◌, Bool, true, false, not, cond, List, [], ◌∷◌, length, drop}
use Rattle.std.specs.Prelude.{Option, Some, None, Result, Ok, Err, nat_lt, nat_eq, slice_index, codes}
use Rattle.mm_text.specs.Lines.{is_blank, content}
use Rattle.mm_text.specs.Words.{words, word, has_word, number_of, is_negative}
use Rattle.mm_text.specs.Judging.{◌>>=◌, refuse_if, is_one_of, is_dimension, keyword, mark, object, format, field}
use Rattle.mm_text.specs.Judging.{symmetry, banner, number, size, index, entry, fault_of}
use Rattle.mm_text.specs.Texts.{fault_behind}
use Rattle.mm_text.specs.Stages.{lack_at, step, judged, after_entry}
use Rattle.mm_text.specs.declared.fault.MmKind.{MmKind}
use Rattle.mm_text.specs.declared.fault.MmKind.TheVariants.{Read, Memory, BadBanner, Unsupported, BadSize, BadDimension}
use Rattle.mm_text.specs.declared.fault.MmKind.TheVariants.{NotSquare, TooManyEntries, BadEntry, Negative}
use Rattle.mm_text.specs.declared.fault.MmKind.TheVariants.{NumberTooLarge, IndexOutOfRange, ExtraText, TooFewEntries}
use Rattle.mm_text.specs.declared.fault.MmKind.TheVariants.{LineTooLong}
use Rattle.mm_text.specs.declared.limits.TextLimits.{TextLimits}
use Rattle.mm_text.specs.declared.stages.Stage.{Stage}
use Rattle.mm_text.specs.declared.stages.Stage.TheVariants.{AtBanner, AtSize, AtEntries}

-- a fault of the text itself
abbrev pub IsPlain : MmKind → Type 0
IsPlain Read = ⊥
IsPlain Memory = ⊥
IsPlain _ = Unit {0}

abbrev PlainCase : {A : Type 0} → Result A MmKind → Type 0
PlainCase (Ok x) = Unit {0}
PlainCase (Err k) = IsPlain k

pub record Plain {A : Type 0} (r : Result A MmKind) : Type 0 where
  pub plain : PlainCase r

plain_ok : {A : Type 0} (x : A) → Plain {A = A} (Ok x)
plain_ok x = record { plain = tt }

plain_err : {A : Type 0} (k : MmKind) → IsPlain k → Plain {A = A} (Err k)
plain_err k p = record { plain = p }

plain_bind : {A B : Type 0} (r : Result A MmKind) (f : A → Result B MmKind) → Plain r → ((x : A) → Plain (f x)) →
    Plain (r >>= f)
plain_bind (Ok x) f p q = q x
plain_bind (Err k) f p q = record { plain = p.plain }

plain_refuse : (b : Bool) (k : MmKind) → IsPlain k → Plain (refuse_if b k)
plain_refuse true k p = record { plain = p }
plain_refuse false k p = record { plain = tt }

plain_keyword : (u n : List (List ℕ)) (w : List ℕ) → Plain (keyword u n w)
plain_keyword u n w = plain_bind _ _ (plain_refuse (is_one_of w u) Unsupported tt)
    (λ x. plain_refuse (not (is_one_of w n)) BadBanner tt)

plain_mark : (w : List ℕ) → Plain (mark w)
unfolding mark
plain_mark w = plain_keyword [] (codes "%%matrixmarket" ∷ []) w

plain_object : (w : List ℕ) → Plain (object w)
unfolding object
plain_object w = plain_keyword [] (codes "matrix" ∷ []) w

plain_format : (w : List ℕ) → Plain (format w)
unfolding format
plain_format w = plain_keyword (codes "array" ∷ []) (codes "coordinate" ∷ []) w

plain_field : (w : List ℕ) → Plain (field w)
unfolding field
plain_field w = plain_keyword (codes "real" ∷ codes "complex" ∷ codes "pattern" ∷ [])
    (codes "integer" ∷ codes "unsigned-integer" ∷ []) w

plain_symmetry : (w : List ℕ) → Plain (symmetry w)
unfolding symmetry
plain_symmetry w = plain_bind _ _ (plain_keyword (codes "skew-symmetric" ∷ codes "hermitian" ∷ [])
    (codes "general" ∷ codes "symmetric" ∷ []) w) (λ x. plain_ok (is_one_of w (codes "symmetric" ∷ [])))

plain_banner : (line : List ℕ) → Plain (banner line)
unfolding banner
plain_banner line =
    plain_bind _ _ (plain_refuse (is_blank (slice_index line 0)) BadBanner tt)
    (λ a. plain_bind _ _ (plain_mark _) (λ b. plain_bind _ _ (plain_object _) (λ c.
    plain_bind _ _ (plain_format _) (λ d. plain_bind _ _ (plain_field _) (λ e. plain_bind _ _ (plain_symmetry _) (λ f.
    plain_bind _ _ (plain_refuse (has_word (drop 5 (words line))) BadBanner tt) (λ g. plain_ok _)))))))

within_64 : (bad : MmKind) → IsPlain bad → (b : Bool) (n : ℕ) → Plain {A = ℕ} (cond b (Ok n) (Err NumberTooLarge))
within_64 bad p true n = plain_ok n
within_64 bad p false n = plain_err NumberTooLarge tt

abbrev within : MmKind → Option ℕ → Result ℕ MmKind
within bad None = Err bad
within bad (Some n) = cond (nat_lt n (2 ^ 64)) (Ok n) (Err NumberTooLarge)

plain_within : (bad : MmKind) → IsPlain bad → (o : Option ℕ) → Plain (within bad o)
plain_within bad p None = plain_err bad p
plain_within bad p (Some n) = within_64 bad p (nat_lt n (2 ^ 64)) n

plain_number : (bad : MmKind) (w : List ℕ) → IsPlain bad → Plain (number bad w)
unfolding number
plain_number bad w p = plain_within bad p (number_of w)

plain_size : (symmetric : Bool) (most : ℕ) (line : List ℕ) → Plain (size symmetric most line)
unfolding size
plain_size symmetric most line =
    plain_bind _ _ (plain_number BadSize _ tt) (λ a. plain_bind _ _
    (plain_refuse (not (is_dimension a)) BadDimension tt) (λ b.
    plain_bind _ _ (plain_number BadSize _ tt) (λ c. plain_bind _ _
    (plain_refuse (not (is_dimension c)) BadDimension tt) (λ d.
    plain_bind _ _ (plain_refuse (symmetric && not (nat_eq a c)) NotSquare tt)
    (λ e. plain_bind _ _ (plain_number BadSize _ tt) (λ f.
    plain_bind _ _ (plain_refuse (nat_lt most f) TooManyEntries tt)
    (λ g. plain_bind _ _ (plain_refuse (has_word (drop 3 (words line))) BadSize tt) (λ h. plain_ok _))))))))

plain_index : (limit : ℕ) (w : List ℕ) → Plain (index limit w)
unfolding index
plain_index limit w = plain_bind _ _ (plain_number BadEntry w tt)
    (λ n. plain_bind _ _ (plain_refuse (nat_eq n 0 || nat_lt limit n) IndexOutOfRange tt) (λ a. plain_ok _))

plain_entry : (rows cols : ℕ) (line : List ℕ) → Plain (entry rows cols line)
unfolding entry
plain_entry rows cols line =
    plain_bind _ _ (plain_index _ _) (λ a. plain_bind _ _ (plain_index _ _)
    (λ b. plain_bind _ _ (plain_refuse (is_negative (word (drop 2 (words line)))) Negative tt) (λ c.
    plain_bind _ _ (plain_number BadEntry _ tt) (λ d. plain_bind _ _
    (plain_refuse (has_word (drop 3 (words line))) BadEntry tt) (λ e. plain_ok _)))))

plain_fault : {A : Type 0} (r : Result A MmKind) (k : MmKind) → Plain r → fault_of r ≡ Some k → IsPlain k
plain_fault (Ok x) k p e = cc
plain_fault (Err j) k p e = let same : j ≡ k = cc in rw (← same) p.plain

plain_more : (b : Bool) (rows cols : ℕ) (line : List ℕ) → Plain (cond b (entry rows cols line) (Err ExtraText))
plain_more true rows cols line = plain_entry rows cols line
plain_more false rows cols line = plain_err ExtraText tt

-- what is wrong with a line's words is a fault of the text
pub plain_behind : (limits : TextLimits) (before : List (List ℕ)) (line : List ℕ) (k : MmKind) →
    fault_behind limits before line ≡ Some k → IsPlain k
plain_behind limits [] line k e = plain_fault (banner line) k (plain_banner line) e
plain_behind limits (first ∷ []) line k e =
    plain_fault (banner first >>= λ symmetric. size symmetric limits.max_entries line) k
    (plain_bind _ _ (plain_banner first) (λ s. plain_size s _ line)) e
plain_behind limits (first ∷ second ∷ others) line k e =
    plain_fault _ k (plain_bind (banner first) _ (plain_banner first)
    (λ symmetric. plain_bind (size symmetric limits.max_entries second) _ (plain_size symmetric _ second)
    (λ s. plain_more (nat_lt (length others) s.entries) s.rows s.cols line))) e

-- what is missing is a fault of the text
pub plain_lack : (stage : Stage) (k : MmKind) → lack_at stage ≡ Some k → IsPlain k
plain_lack AtBanner k e = let same : BadBanner ≡ k = cc in rw (← same) tt
plain_lack (AtSize symmetric) k e = let same : BadSize ≡ k = cc in rw (← same) tt
plain_lack (AtEntries symmetric s seen) k e = few (nat_lt seen s.entries) e
  where
    few : (b : Bool) → ◌≡◌ {A = Option MmKind} (cond b (Some TooFewEntries) None) (Some k) → IsPlain k
    few true f = let same : TooFewEntries ≡ k = cc in rw (← same) tt
    few false f = cc

pub plain_step : (limits : TextLimits) (stage : Stage) (line : List ℕ) → Plain (step limits stage line)
plain_step limits AtBanner line = plain_bind (banner line) _ (plain_banner line) (λ x. plain_ok _)
plain_step limits (AtSize symmetric) line = plain_bind (size symmetric limits.max_entries line) _
    (plain_size symmetric limits.max_entries line) (λ x. plain_ok _)
plain_step limits (AtEntries symmetric s seen) line = due (nat_lt seen s.entries)
  where
    due : (b : Bool) → Plain (cond b (entry s.rows s.cols line >>= λ cell. Ok (after_entry symmetric s seen cell))
        (Err ExtraText))
    due true = plain_bind (entry s.rows s.cols line) _ (plain_entry s.rows s.cols line) (λ x. plain_ok _)
    due false = plain_err ExtraText tt

plain_tested : (limits : TextLimits) (stage : Stage) (long counting : Bool) (line : List ℕ) →
    Plain (cond long (Err LineTooLong) (cond counting (step limits stage line >>= λ next. Ok (Some next)) (Ok None)))
plain_tested limits stage true counting line = plain_err LineTooLong tt
plain_tested limits stage false true line = plain_bind (step limits stage line) _ (plain_step limits stage line)
    (λ x. plain_ok (Some x))
plain_tested limits stage false false line = plain_ok None

plain_is : {A : Type 0} (r : Result A MmKind) (k : MmKind) → Plain r → r ≡ Err k → IsPlain k
plain_is (Ok x) k p e = cc
plain_is (Err j) k p e = let same : j ≡ k = cc in rw (← same) p.plain

-- the fault of a judgement is one of the text
pub plain_judged : (limits : TextLimits) (stage : Stage) (is_first : Bool) (line : List ℕ) (k : MmKind) →
    judged limits stage is_first line ≡ Err k → IsPlain k
plain_judged limits stage is_first line k e = plain_is _ k (plain_tested limits stage _ _ (content line)) e

pub not_memory : (k : MmKind) → IsPlain k → k ≡ Memory → ⊥
not_memory k p e = let q : IsPlain Memory = rw e at p in q
