-- What is appended field by field is the page of a head, and what is added entry by entry is a link.
use Rattle.std.proofs.Common.{◌≡◌, ℕ, ◌+◌, ◌-◌, ◌*◌, ◌≤◌, List, [], ◌∷◌, ◌++◌, length, take, drop, replicate, flat_map}
use Rattle.std.proofs.Common.{refl, sym, ap, ◌∙◌, append_assoc, append-nil, length-append, arith}
use Rattle.std.specs.Int.{w8, w32, w64, to_be_bytes}
use Rattle.std.proofs.Math.Seq.{take-append-add}
use Rattle.std.proofs.lemmas.List.{drop-replicate, take-replicate, drop-drop, drop_all, length-drop, length-replicate}
use Rattle.std.proofs.lemmas.Grind.{flat_map-append}
use Rattle.crc32c.specs.Remainders.{checksum_of, after_bytes, all_ones}
use Rattle.crc32c.proofs.Linear.{after_bytes-append}
use Rattle.batch_store.specs.declared.verdict.Entry.{Entry}
use Rattle.batch_store.specs.Setups.{Setting}
use Rattle.snap_file.specs.Spelling.{number_bytes, entry_bytes, identity_bytes}
use Rattle.log_head.specs.declared.head.LogHead.{LogHead}
use Rattle.log_head.specs.Heads.{mark, version, setup_bytes, field_bytes, fields_end, front_of, head_page}
use Rattle.log_head.specs.Links.{HasAdded, entries_bytes}

pub pushed : (f g h a b : List ℕ) → g ≡ f ++ a → h ≡ g ++ b → h ≡ f ++ (a ++ b)
pushed f g h a b one two = two ∙ ap (λ (l : List ℕ). l ++ b) one ∙ append_assoc f a b

pub setup_pushed : (s : Setting) (f0 f1 f2 f3 f4 f5 f6 f7 : List ℕ) (rows cols count shards limit most : ℕ)
    (cuts : List ℕ) →
    rows ≡ s.rows → cols ≡ s.cols → count ≡ length s.cuts → cuts ≡ s.cuts → shards ≡ s.shards → limit ≡ s.limit →
    most ≡ s.max_batches → f1 ≡ f0 ++ number_bytes w64 rows → f2 ≡ f1 ++ number_bytes w64 cols →
    f3 ≡ f2 ++ number_bytes w8 count → f4 ≡ f3 ++ flat_map (number_bytes w64) cuts → f5 ≡ f4 ++ number_bytes w8 shards →
    f6 ≡ f5 ++ number_bytes w64 limit → f7 ≡ f6 ++ number_bytes w64 most → f7 ≡ f0 ++ setup_bytes s
setup_pushed s f0 f1 f2 f3 f4 f5 f6 f7 rows cols count shards limit most cuts r c n k d l m p1 p2 p3 p4 p5 p6 p7 =
    pushed f0 f1 f7 _ _ (p1 ∙ ap (λ (x : ℕ). f0 ++ number_bytes w64 x) r)
    (pushed f1 f2 f7 _ _ (p2 ∙ ap (λ (x : ℕ). f1 ++ number_bytes w64 x) c)
    (pushed f2 f3 f7 _ _ (p3 ∙ ap (λ (x : ℕ). f2 ++ number_bytes w8 x) n)
    (pushed f3 f4 f7 _ _ (p4 ∙ ap (λ (x : List ℕ). f3 ++ flat_map (number_bytes w64) x) k)
    (pushed f4 f5 f7 _ _ (p5 ∙ ap (λ (x : ℕ). f4 ++ number_bytes w8 x) d)
    (pushed f5 f6 f7 _ _ (p6 ∙ ap (λ (x : ℕ). f5 ++ number_bytes w64 x) l)
    (p7 ∙ ap (λ (x : ℕ). f6 ++ number_bytes w64 x) m))))))

pub fields_pushed : (h : LogHead) (f0 f1 f2 f3 f4 f5 f6 f7 : List ℕ) → f0 ≡ [] → f1 ≡ f0 ++ number_bytes w64 mark →
    f2 ≡ f1 ++ number_bytes w32 version → f3 ≡ f2 ++ setup_bytes h.setup → f4 ≡ f3 ++ number_bytes w64 h.first →
    f5 ≡ f4 ++ number_bytes w64 h.total → f6 ≡ f5 ++ number_bytes w32 h.link → f7 ≡ f6 ++ identity_bytes h.identity →
    f7 ≡ field_bytes version h
fields_pushed h f0 f1 f2 f3 f4 f5 f6 f7 none p1 p2 p3 p4 p5 p6 p7 =
    pushed f0 f1 f7 _ _ p1 (pushed f1 f2 f7 _ _ p2 (pushed f2 f3 f7 _ _ p3 (pushed f3 f4 f7 _ _ p4
    (pushed f4 f5 f7 _ _ p5 (pushed f5 f6 f7 _ _ p6 p7))))) ∙ ap (λ (l : List ℕ). l ++ field_bytes version h) none

abbrev put_on : ℕ → List ℕ → List ℕ
put_on n front = front ++ drop n (replicate 4096 0)

-- the fields at the front of zeros, and the checksum at their end
pub page_put : (h : LogHead) (front sum : List ℕ) (n : ℕ) → front ≡ field_bytes version h → length front ≡ n →
    n ≡ fields_end version (length h.setup.cuts) → length h.setup.cuts ≤ 7 →
    sum ≡ to_be_bytes w32 (checksum_of (take 4092 (put_on n front))) →
    take 4092 (put_on n front) ++ (sum ++ drop 4 (drop 4092 (put_on n front))) ≡ head_page h
unfolding number_bytes
page_put h front sum n is long n_is few sum_is =
    let whole = put_on n front in
    let zeros : drop n (replicate 4096 0) ≡ replicate (4096 - n) 0 = drop-replicate n 4096 0 in
    let place : 4092 ≡ length front + (4092 - n) = omega (arith, long, n_is, few) in
    let begun : take 4092 whole ≡ front ++ replicate (4092 - n) 0 =
    ap (λ (i : ℕ). take i whole) place
    ∙ take-append-add front (drop n (replicate 4096 0)) (4092 - n)
    ∙ ap (λ (l : List ℕ). front ++ take (4092 - n) l) zeros
    ∙ ap (λ (l : List ℕ). front ++ l) (take-replicate (4092 - n) (4096 - n) 0 (omega (arith, n_is, few))) in
    let front_is : take 4092 whole ≡ front_of version h =
    begun ∙ ap (λ (i : ℕ). front ++ replicate (4092 - i) 0) n_is
    ∙ ap (λ (l : List ℕ). l ++ replicate (4092 - fields_end version (length h.setup.cuts)) 0) is in
    let left : length (drop n (replicate 4096 0)) ≡ 4096 - n =
    ap (λ (l : List ℕ). length l) zeros ∙ length-replicate (4096 - n) 0 in
    let all : length whole ≤ 4096 =
    omega (arith, length-append front (drop n (replicate 4096 0)), left, long, n_is, few) in
    let none : drop 4 (drop 4092 whole) ≡ [] = drop-drop 4 4092 whole ∙ drop_all 4096 whole all in
    ap (λ (l : List ℕ). l ++ (sum ++ drop 4 (drop 4092 whole))) front_is
    ∙ ap (λ (l : List ℕ). front_of version h ++ (sum ++ l)) none
    ∙ ap (λ (l : List ℕ). front_of version h ++ l) (append-nil sum)
    ∙ ap (λ (l : List ℕ). front_of version h ++ l) sum_is
    ∙ ap (λ (l : List ℕ). front_of version h ++ to_be_bytes w32 (checksum_of l)) front_is

pub added_more : (r new : ℕ) (es : List Entry) (e : Entry) → HasAdded r es → new ≡ after_bytes r (entry_bytes e) →
    HasAdded new (es ++ e ∷ [])
added_more r new es e has is =
    is ∙ ap (λ (x : ℕ). after_bytes x (entry_bytes e)) has
    ∙ sym (after_bytes-append all_ones (entries_bytes es) (entry_bytes e))
    ∙ ap (λ (l : List ℕ). after_bytes all_ones (entries_bytes es ++ l)) (sym (append-nil (entry_bytes e)))
    ∙ ap (λ (l : List ℕ). after_bytes all_ones l) (sym (flat_map-append entry_bytes es (e ∷ [])))
