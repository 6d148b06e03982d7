-- The kinds of fault that a text can bear.
use Rattle.std.proofs.Common.{◌≡◌, ◌≢◌, ℕ, ◌^◌, Bool, true, false, not, ◌&&◌, ◌||◌, cond, List, [], ◌∷◌, length, drop}
use Rattle.std.proofs.Common.{refl, ap}
use Rattle.std.specs.Prelude.{Option, Some, None, Result, Ok, Err, codes, nat_lt, nat_eq, slice_index}
use Rattle.mm_text.specs.Lines.{is_blank, counted, content, lines_of}
use Rattle.mm_text.specs.Words.{words, word, has_word, number_of, is_negative}
use Rattle.mm_text.specs.Judging.{◌>>=◌, refuse_if, is_one_of, keyword, mark, object, format, field, symmetry, banner}
use Rattle.mm_text.specs.Judging.{number, is_dimension, size, index, entry, fault_of}
use Rattle.mm_text.specs.Texts.{fault_behind, lack_of, LineIsWrong, Turn, FaultAt}
use Rattle.mm_text.specs.Texts.Turn.{at_limit, in_line, at_line_end, at_text_end}
use Rattle.mm_text.specs.declared.fault.MmKind.{MmKind}
use Rattle.mm_text.specs.declared.fault.MmKind.TheVariants.{Read, Memory, BadBanner, Unsupported, LineTooLong, BadSize}
use Rattle.mm_text.specs.declared.fault.MmKind.TheVariants.{BadDimension, NotSquare, TooManyEntries, BadEntry, Negative}
use Rattle.mm_text.specs.declared.fault.MmKind.TheVariants.{NumberTooLarge, IndexOutOfRange, TooFewEntries, ExtraText}
use Rattle.mm_text.specs.declared.fault.MmKind.TheVariants.{TooLong}
use Rattle.mm_text.specs.declared.size.Size.{Size}
use Rattle.mm_text.specs.declared.limits.TextLimits.{TextLimits}

-- a kind that a line's words can bear
record OfWords (k : MmKind) : Type 0 where
  not_read : k ≢ Read
  not_memory : k ≢ Memory
  not_line : k ≢ LineTooLong
  not_text : k ≢ TooLong
  not_few : k ≢ TooFewEntries

-- whatever fault it is, it is of such a kind
abbrev BearsWords : {A : Type 0} → Result A MmKind → Type 0
BearsWords r = (k : MmKind) → r ≡ Err k → OfWords k

fine : {A : Type 0} (x : A) → BearsWords {A = A} (Ok x)
fine x k e = cc

wrong : {A : Type 0} (j : MmKind) → OfWords j → BearsWords {A = A} (Err j)
wrong j h k e = let same : k ≡ j = cc in rw same h

then : {A B : Type 0} (r : Result A MmKind) (f : A → Result B MmKind) → BearsWords r → ((x : A) → BearsWords (f x)) →
    BearsWords (r >>= f)
then (Ok x) f h g k e = g x k e
then (Err j) f h g k e = h k (let same : j ≡ k = cc in ap Err same)

refused : (test : Bool) (j : MmKind) → OfWords j → BearsWords (refuse_if test j)
refused true j h = wrong j h
refused false j h = fine tt

of_words : (k : MmKind) → k ≢ Read → k ≢ Memory → k ≢ LineTooLong → k ≢ TooLong → k ≢ TooFewEntries → OfWords k
of_words k a b c d e = record { not_read = a; not_memory = b; not_line = c; not_text = d; not_few = e }

bad_banner : OfWords BadBanner
bad_banner = of_words BadBanner (λ e. cc) (λ e. cc) (λ e. cc) (λ e. cc) (λ e. cc)

unsupported : OfWords Unsupported
unsupported = of_words Unsupported (λ e. cc) (λ e. cc) (λ e. cc) (λ e. cc) (λ e. cc)

bad_size : OfWords BadSize
bad_size = of_words BadSize (λ e. cc) (λ e. cc) (λ e. cc) (λ e. cc) (λ e. cc)

bad_dimension : OfWords BadDimension
bad_dimension = of_words BadDimension (λ e. cc) (λ e. cc) (λ e. cc) (λ e. cc) (λ e. cc)

not_square : OfWords NotSquare
not_square = of_words NotSquare (λ e. cc) (λ e. cc) (λ e. cc) (λ e. cc) (λ e. cc)

too_many : OfWords TooManyEntries
too_many = of_words TooManyEntries (λ e. cc) (λ e. cc) (λ e. cc) (λ e. cc) (λ e. cc)

bad_entry : OfWords BadEntry
bad_entry = of_words BadEntry (λ e. cc) (λ e. cc) (λ e. cc) (λ e. cc) (λ e. cc)

negative : OfWords Negative
negative = of_words Negative (λ e. cc) (λ e. cc) (λ e. cc) (λ e. cc) (λ e. cc)

too_large : OfWords NumberTooLarge
too_large = of_words NumberTooLarge (λ e. cc) (λ e. cc) (λ e. cc) (λ e. cc) (λ e. cc)

out_of_range : OfWords IndexOutOfRange
out_of_range = of_words IndexOutOfRange (λ e. cc) (λ e. cc) (λ e. cc) (λ e. cc) (λ e. cc)

extra : OfWords ExtraText
extra = of_words ExtraText (λ e. cc) (λ e. cc) (λ e. cc) (λ e. cc) (λ e. cc)

keyword_bears : (u known : List (List ℕ)) (w : List ℕ) → BearsWords (keyword u known w)
keyword_bears u known w = then (refuse_if (is_one_of w u) Unsupported) _
    (refused (is_one_of w u) Unsupported unsupported) (λ x. refused (not (is_one_of w known)) BadBanner bad_banner)

banner_bears : (line : List ℕ) → BearsWords (banner line)
unfolding banner mark object format field symmetry
banner_bears line =
    then (refuse_if (is_blank (slice_index line 0)) BadBanner) _
    (refused (is_blank (slice_index line 0)) BadBanner bad_banner) (λ a.
    then (mark (word (words line))) _ (keyword_bears [] (codes "%%matrixmarket" ∷ []) (word (words line))) (λ b.
    then (object (word (drop 1 (words line)))) _ (keyword_bears [] (codes "matrix" ∷ []) (word (drop 1 (words line))))
    (λ c.
    then (format (word (drop 2 (words line)))) _ (keyword_bears (codes "array" ∷ []) (codes "coordinate" ∷ [])
    (word (drop 2 (words line)))) (λ d.
    then (field (word (drop 3 (words line)))) _ (keyword_bears (codes "real" ∷ codes "complex" ∷ codes "pattern" ∷ [])
    (codes "integer" ∷ codes "unsigned-integer" ∷ []) (word (drop 3 (words line)))) (λ e.
    then (symmetry (word (drop 4 (words line)))) _
    (then (keyword (codes "skew-symmetric" ∷ codes "hermitian" ∷ []) (codes "general" ∷ codes "symmetric" ∷ [])
    (word (drop 4 (words line)))) _ (keyword_bears (codes "skew-symmetric" ∷ codes "hermitian" ∷ [])
    (codes "general" ∷ codes "symmetric" ∷ []) (word (drop 4 (words line)))) (λ f. fine _)) (λ s.
    then (refuse_if (has_word (drop 5 (words line))) BadBanner) _
    (refused (has_word (drop 5 (words line))) BadBanner bad_banner) (λ g. fine s)))))))

number_bears : (bad : MmKind) (w : List ℕ) → OfWords bad → BearsWords (number bad w)
unfolding number
number_bears bad w h = by_value (number_of w) refl
  where
    fits : (n : ℕ) (b : Bool) → BearsWords {A = ℕ} (cond b (Ok n) (Err NumberTooLarge))
    fits n true = fine n
    fits n false = wrong NumberTooLarge too_large

    by_value : (o : Option ℕ) → number_of w ≡ o → BearsWords (number bad w)
    by_value None e = rw e (wrong bad h)
    by_value (Some n) e = rw e (fits n (nat_lt n (2 ^ 64)))

index_bears : (limit : ℕ) (w : List ℕ) → BearsWords (index limit w)
unfolding index
index_bears limit w =
    then (number BadEntry w) _ (number_bears BadEntry w bad_entry) (λ n.
    then (refuse_if (nat_eq n 0 || nat_lt limit n) IndexOutOfRange) _
    (refused (nat_eq n 0 || nat_lt limit n) IndexOutOfRange out_of_range) (λ u. fine _))

entry_bears : (rows cols : ℕ) (line : List ℕ) → BearsWords (entry rows cols line)
unfolding entry
entry_bears rows cols line =
    then (index rows (word (words line))) _ (index_bears rows (word (words line))) (λ r.
    then (index cols (word (drop 1 (words line)))) _ (index_bears cols (word (drop 1 (words line)))) (λ c.
    then (refuse_if (is_negative (word (drop 2 (words line)))) Negative) _
    (refused (is_negative (word (drop 2 (words line)))) Negative negative) (λ a.
    then (number BadEntry (word (drop 2 (words line)))) _
    (number_bears BadEntry (word (drop 2 (words line))) bad_entry) (λ n.
    then (refuse_if (has_word (drop 3 (words line))) BadEntry) _
    (refused (has_word (drop 3 (words line))) BadEntry bad_entry) (λ b. fine _)))))

size_bears : (symmetric : Bool) (most : ℕ) (line : List ℕ) → BearsWords (size symmetric most line)
unfolding size
size_bears symmetric most line =
    then (number BadSize (word (words line))) _ (number_bears BadSize (word (words line)) bad_size) (λ r.
    then (refuse_if (not (is_dimension r)) BadDimension) _ (refused (not (is_dimension r)) BadDimension bad_dimension)
    (λ a.
    then (number BadSize (word (drop 1 (words line)))) _ (number_bears BadSize (word (drop 1 (words line))) bad_size)
    (λ c.
    then (refuse_if (not (is_dimension c)) BadDimension) _ (refused (not (is_dimension c)) BadDimension bad_dimension)
    (λ b.
    then (refuse_if (symmetric && not (nat_eq r c)) NotSquare) _
    (refused (symmetric && not (nat_eq r c)) NotSquare not_square) (λ d.
    then (number BadSize (word (drop 2 (words line)))) _ (number_bears BadSize (word (drop 2 (words line))) bad_size)
    (λ n.
    then (refuse_if (nat_lt most n) TooManyEntries) _ (refused (nat_lt most n) TooManyEntries too_many) (λ e.
    then (refuse_if (has_word (drop 3 (words line))) BadSize) _
    (refused (has_word (drop 3 (words line))) BadSize bad_size) (λ f. fine _))))))))

some_fault : {A : Type 0} (r : Result A MmKind) (k : MmKind) → fault_of r ≡ Some k → r ≡ Err k
some_fault (Ok x) k e = cc
some_fault (Err j) k e = cc

behind_bears : (limits : TextLimits) (before : List (List ℕ)) (line : List ℕ) (k : MmKind) →
    fault_behind limits before line ≡ Some k → OfWords k
behind_bears limits [] line k e = banner_bears line k (some_fault (banner line) k e)
behind_bears limits (first ∷ []) line k e =
    then (banner first) (λ symmetric. size symmetric limits.max_entries line) (banner_bears first)
    (λ symmetric. size_bears symmetric limits.max_entries line) k
    (some_fault (banner first >>= λ symmetric. size symmetric limits.max_entries line) k e)
behind_bears limits (first ∷ second ∷ others) line k e =
    then (banner first) (λ symmetric. size symmetric limits.max_entries second >>= λ s. cond
    (nat_lt (length others) s.entries) (entry s.rows s.cols line) (Err ExtraText)) (banner_bears first)
    (λ symmetric.
    then (size symmetric limits.max_entries second)
    (λ s. cond (nat_lt (length others) s.entries) (entry s.rows s.cols line) (Err ExtraText))
    (size_bears symmetric limits.max_entries second) (λ s. either s (nat_lt (length others) s.entries)))
    k (some_fault (banner first >>= λ symmetric. size symmetric limits.max_entries second >>= λ s. cond
    (nat_lt (length others) s.entries) (entry s.rows s.cols line) (Err ExtraText)) k e)
  where
    either : (s : Size) (b : Bool) → BearsWords (cond b (entry s.rows s.cols line) (Err ExtraText))
    either s true = entry_bears s.rows s.cols line
    either s false = wrong ExtraText extra

-- a kind that tells of the text, and not of a device or of memory
abbrev pub IsOfText : MmKind → Type 0
IsOfText k = (k ≢ Read) × (k ≢ Memory)

abbrev BearsText : {A : Type 0} → Result A MmKind → Type 0
BearsText r = (k : MmKind) → r ≡ Err k → IsOfText k

of_text : {A : Type 0} (r : Result A MmKind) → BearsWords r → BearsText r
of_text r h k e = let w = h k e in (w.not_read, w.not_memory)

text_then : {A B : Type 0} (r : Result A MmKind) (f : A → Result B MmKind) → BearsText r →
    ((x : A) → BearsText (f x)) → BearsText (r >>= f)
text_then (Ok x) f h g k e = g x k e
text_then (Err j) f h g k e = h k (let same : j ≡ k = cc in ap Err same)

few_refused : (test : Bool) → BearsText (refuse_if test TooFewEntries)
few_refused true k e = let same : k ≡ TooFewEntries = cc in rw same (λ f. cc, λ f. cc)
few_refused false k e = cc

lack_bears : (limits : TextLimits) (lines : List (List ℕ)) (k : MmKind) → lack_of limits lines ≡ Some k → IsOfText k
lack_bears limits [] k e = let same : k ≡ BadBanner = cc in rw same (λ f. cc, λ f. cc)
lack_bears limits (first ∷ []) k e = let same : k ≡ BadSize = cc in rw same (λ f. cc, λ f. cc)
lack_bears limits (first ∷ second ∷ others) k e =
    text_then (banner first) (λ symmetric. size symmetric limits.max_entries second >>= λ s. refuse_if
    (nat_lt (length others) s.entries) TooFewEntries) (of_text (banner first) (banner_bears first)) (λ symmetric.
    text_then (size symmetric limits.max_entries second)
    (λ s. refuse_if (nat_lt (length others) s.entries) TooFewEntries)
    (of_text (size symmetric limits.max_entries second) (size_bears symmetric limits.max_entries second))
    (λ s. few_refused (nat_lt (length others) s.entries)))
    k (some_fault (banner first >>= λ symmetric. size symmetric limits.max_entries second >>= λ s. refuse_if
    (nat_lt (length others) s.entries) TooFewEntries) k e)

pub fault_of_text : (t : Turn) (text : List ℕ) (limits : TextLimits) (place : ℕ) (kind : MmKind) (line : ℕ) →
    FaultAt t text limits place kind line → IsOfText kind
fault_of_text at_limit text limits place kind line w = rw w.kind_is (λ f. cc, λ f. cc)
fault_of_text in_line text limits place kind line w = rw w.kind_is (λ f. cc, λ f. cc)
fault_of_text at_line_end text limits place kind line w = let b =
    behind_bears limits (counted w.before) (content w.this) kind w.wrong in (b.not_read, b.not_memory)
fault_of_text at_text_end text limits place kind line w = lack_bears limits (counted (lines_of text)) kind w.missing

-- the words of a line are never too long, and never too few entries
pub fault_of_words : (text : List ℕ) (limits : TextLimits) (place : ℕ) (kind : MmKind) (line : ℕ) →
    LineIsWrong text limits place kind line → (kind ≢ LineTooLong) × (kind ≢ TooLong) × (kind ≢ TooFewEntries)
fault_of_words text limits place kind line w = let b =
    behind_bears limits (counted w.before) (content w.this) kind w.wrong in (b.not_line, b.not_text, b.not_few)
