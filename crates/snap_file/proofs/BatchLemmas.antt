-- Lists of shared batches, up to a place and from it on.
use Rattle.std.proofs.Common.{◌≡◌, ℕ, ◌+◌, ◌<◌, ◌≤◌, List, [], ◌∷◌, ◌++◌, length, take, drop, get_or, refl}
use Rattle.std.proofs.Common.{sym, ap, subst, ◌∙◌, arith, add-one, drop-cons, append_assoc}
use Rattle.std.proofs.lemmas.List.{map-append, take-append-drop, drop_all}
use Rattle.std.specs.declared.sync.Arc.{Arc}
use Rattle.std.specs.Arc.{arc_value}
use Rattle.byte_io.specs.Streams.{Answer}
use Rattle.hyper_matrix.specs.Counts.{total}
use Rattle.batch_store.specs.Books.{list_total}
use Rattle.crc32c.specs.Remainders.{all_ones, after_bytes}
use Rattle.hyper_matrix.specs.Counts.{Counts}
use Rattle.batch_store.specs.Setups.{Setting}
use Rattle.batch_store.specs.Accepted.{Accepted, total_in}
use Rattle.batch_store.specs.declared.verdict.Entry.{Entry}
use Rattle.snap_file.specs.declared.origin.Origin.{Origin}
use Rattle.snap_file.specs.Spelling.{origin_in}
use Rattle.snap_file.specs.Spelling.{version, head_bytes, batch_bytes, past_bytes, past_in, check_bytes, checked_bytes}
use Rattle.snap_file.specs.Spelling.{batches_bytes, file}
use Rattle.snap_file.proofs.WriteLemmas.{writing_begun}
use Rattle.batch_store.specs.Batches.{Submission, values}
use Rattle.snap_file.specs.Writing.{WriterState, IsWriting}

pub one_more : {Z : Type 0} (bs : List (Arc Submission Z)) (i : ℕ) (d : Arc Submission Z) (b : Submission) →
    i < length bs → d ≡ get_or bs i d → b ≡ arc_value d → values (drop i bs) ≡ b ∷ values (drop (i + 1) bs)
one_more bs i d b h is at =
    ap values (drop-cons bs i d h) ∙ rw (← is, ← at, add-one) refl

total-append : (xs ys : List Submission) → list_total (xs ++ ys) ≡ list_total xs + list_total ys
total-append [] ys = omega arith
total-append (x ∷ xs) ys = let e = total-append xs ys in omega arith

pub total_split : {Z : Type 0} (bs : List (Arc Submission Z)) (i : ℕ) →
    list_total (values bs) ≡ list_total (values (take i bs)) + list_total (values (drop i bs))
total_split bs i =
    ap (λ (l : List (Arc Submission _)). list_total (values l)) (sym (take-append-drop i bs)) ∙
    ap list_total (map-append arc_value (take i bs) (drop i bs)) ∙
    total-append (values (take i bs)) (values (drop i bs))

pub total_more : {Z : Type 0} (bs : List (Arc Submission Z)) (i : ℕ) (d : Arc Submission Z) (b : Submission) →
    i < length bs → d ≡ get_or bs i d → b ≡ arc_value d →
    list_total (values (take (i + 1) bs)) ≡ list_total (values (take i bs)) + total b.matrix.counts
total_more bs i d b h is at =
    let one = ap list_total (one_more bs i d b h is at) in
    let a = total_split bs i in
    let c = total_split bs (i + 1) in
    omega arith

pub total_fits : {Z : Type 0} (bs : List (Arc Submission Z)) (i : ℕ) →
    list_total (values (take i bs)) ≤ list_total (values bs)
total_fits bs i = let a = total_split bs i in omega arith

-- All before these batches was appended.
pub record IsBeforeBatches {S : Type 0} (step : S → List ℕ → Answer → S → Type 0) (failures : S → ℕ) (s t : S)
    (all : List ℕ) (writer : WriterState) (list : List Submission) : Type 0 where
  pub front : List ℕ
  pub all_is : all ≡ front ++ batches_bytes version front list
  pub is_writing : IsWriting step failures s t all writer (batches_bytes version front list)

-- what is next of the whole
abbrev pub next_part : List ℕ → Submission → List ℕ
next_part front b = checked_bytes version front (batch_bytes b)

abbrev pub left_behind : List ℕ → Submission → List Submission → List ℕ
left_behind front b list = batches_bytes version (front ++ next_part front b) list

pub batch_next : {Z S : Type 0} (step : S → List ℕ → Answer → S → Type 0) (failures : S → ℕ) (s t : S) (all : List ℕ)
    (writer : WriterState) (bs : List (Arc Submission Z)) (i : ℕ) (d : Arc Submission Z) (b : Submission) →
    i < length bs → d ≡ get_or bs i d → b ≡ arc_value d →
    IsBeforeBatches step failures s t all writer (values (drop i bs)) →
    IsBeforeBatches step failures s t all writer (b ∷ values (drop (i + 1) bs))
batch_next step failures s t all writer bs i d b h is at a =
    subst (λ (l : List Submission). IsBeforeBatches step failures s t all writer l) (one_more bs i d b h is at) a

-- the next batch was appended
pub batch_passed : {S : Type 0} (step : S → List ℕ → Answer → S → Type 0) (failures : S → ℕ) (s m t : S)
    (all : List ℕ) (old new : WriterState) (b : Submission) (list : List Submission)
    (a : IsBeforeBatches step failures s m all old (b ∷ list)) →
    IsWriting step failures s t all new (left_behind a.front b list) →
    IsBeforeBatches step failures s t all new list
batch_passed step failures s m t all old new b list a h = record {
  front = a.front ++ next_part a.front b;
  all_is = a.all_is ∙ sym (append_assoc a.front (next_part a.front b) (left_behind a.front b list));
  is_writing = h;
}

pub batch_last : {Z S : Type 0} (step : S → List ℕ → Answer → S → Type 0) (failures : S → ℕ) (s t : S) (all : List ℕ)
    (writer : WriterState) (bs : List (Arc Submission Z)) (i : ℕ) → length bs ≤ i →
    IsBeforeBatches step failures s t all writer (values (drop i bs)) →
    IsWriting step failures s t all writer []
batch_last step failures s t all writer bs i h a =
    (subst (λ (l : List (Arc Submission _)). IsBeforeBatches step failures s t all writer (values l))
    (drop_all i bs h) a).is_writing

-- ---- the front of a file

pub head_counted : (pending : List ℕ) (o : Origin) (s : Setting) (n m t u : ℕ) →
    pending ≡ head_bytes version s n t ++ origin_in version o → n ≡ m → t ≡ u →
    pending ≡ head_bytes version s m u ++ origin_in version o
head_counted pending o s n m t u is e f = is ∙ (λ i. head_bytes version s (e i) (f i) ++ origin_in version o)

past_is : (base : Counts) (folded : List Entry) → past_in version base folded ≡ past_bytes base folded
unfolding past_in
past_is base folded = refl

abbrev pub head_of : Origin → Setting → Accepted → List ℕ
head_of o s a = head_bytes version s (length a.list) (total_in a) ++ origin_in version o

-- the head with its checksum, and the past with its
abbrev pub front_of : Origin → Setting → Accepted → List ℕ
front_of o s a = checked_bytes version [] (head_of o s a)

abbrev pub past_of : Origin → Setting → Accepted → List ℕ
past_of o s a = checked_bytes version (front_of o s a) (past_bytes a.base a.folded)

abbrev pub batches_of : Origin → Setting → Accepted → List ℕ
batches_of o s a = batches_bytes version (front_of o s a ++ past_of o s a) a.list

file_is : (o : Origin) (s : Setting) (a : Accepted) →
    file o s a ≡ front_of o s a ++ (past_of o s a ++ batches_of o s a)
file_is o s a = ap (λ (l : List ℕ). front_of o s a ++ (checked_bytes version (front_of o s a) l ++
    batches_bytes version (front_of o s a ++ checked_bytes version (front_of o s a) l) a.list))
    (past_is a.base a.folded)

-- the whole behind the head
pub head_left : (o : Origin) (s : Setting) (a : Accepted) →
    file o s a ≡ head_of o s a ++ (check_bytes version (head_of o s a) ++ (past_of o s a ++ batches_of o s a))
head_left o s a = file_is o s a ∙ append_assoc (head_of o s a) (check_bytes version (head_of o s a))
    (past_of o s a ++ batches_of o s a)

-- the whole behind the head's checksum
pub past_left : (o : Origin) (s : Setting) (a : Accepted) →
    file o s a ≡ front_of o s a ++ (past_of o s a ++ batches_of o s a)
past_left o s a = file_is o s a

-- before the first call the head is pending
pub head_begun : {S : Type 0} (step : S → List ℕ → Answer → S → Type 0) (failures : S → ℕ) (s : S) (o : Origin)
    (setup : Setting) (a : Accepted) (writer : WriterState) → writer.taken ≡ 0 → writer.pending ≡ head_of o setup a →
    writer.remainder ≡ after_bytes all_ones writer.pending →
    IsWriting step failures s s (file o setup a) writer
    (check_bytes version (head_of o setup a) ++ (past_of o setup a ++ batches_of o setup a))
head_begun step failures s o setup a writer taken pending summed =
    let left = check_bytes version (head_of o setup a) ++ (past_of o setup a ++ batches_of o setup a) in
    subst (λ (l : List ℕ). IsWriting step failures s s l writer left) (sym (head_left o setup a))
    (writing_begun step failures s (head_of o setup a) left writer taken pending
    (summed ∙ ap (after_bytes all_ones) pending))

-- what is folded was appended, and the batches are left
pub batches_begun : {S : Type 0} (step : S → List ℕ → Answer → S → Type 0) (failures : S → ℕ) (s t : S)
    (o : Origin) (setup : Setting) (a : Accepted) (writer : WriterState) →
    IsWriting step failures s t (file o setup a) writer (batches_of o setup a) →
    IsBeforeBatches step failures s t (file o setup a) writer a.list
batches_begun step failures s t o setup a writer h = record {
  front = front_of o setup a ++ past_of o setup a;
  all_is = past_left o setup a ∙ sym (append_assoc (front_of o setup a) (past_of o setup a) (batches_of o setup a));
  is_writing = h;
}
