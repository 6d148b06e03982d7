-- What is spelled as a frame is read again, whatever follows.
use Rattle.std.proofs.Common.{◌≡◌, ℕ, ◌+◌, ◌<◌, ◌≤◌, ◌^◌, true, List, [], ◌∷◌, ◌++◌, length, take, drop, refl, sym, ◌∙◌, ap}
use Rattle.std.proofs.Common.{arith, length-append, Some, None, Ok, eq-eqb, ◌-◌, ◌%◌}
use Rattle.std.proofs.lemmas.List.{take_at, drop_at, drop-drop}
use Rattle.std.proofs.lemmas.Bool.{le-ltb, le-leb}
use Rattle.std.proofs.lemmas.Nat.{from_be_bytes-to_be_bytes_4, from_be_bytes-to_be_bytes_8}
use Rattle.wire_frames.specs.Frames.{front, frame, head_bytes, number, head_len, head_kind, head_fault, fault_of_kind}
use Rattle.wire_frames.specs.Frames.{length_fits, request_of, number_at, request_frame, HasFrame, AreNumbers, pair, range_at}
use Rattle.wire_frames.specs.Frames.{groups_at}
use Rattle.wire_frames.specs.declared.request.Request.{Request}
use Rattle.wire_frames.specs.declared.request.Request.TheVariants.{Put, Cell, Row, Status, Export, Save, Stop}
use Rattle.wire_frames.specs.declared.request.Request.TheVariants.{PutCells, Stored, Range, Top, Stats, Fold, Groups}
use Rattle.wire_frames.proofs.FrontLemmas.{front_whole}

pub kind_read : (k : ℕ) (body more : List ℕ) → head_kind (frame k body ++ more) ≡ k
unfolding head_kind frame head_bytes
kind_read k body more = refl

len_read : (k : ℕ) (body more : List ℕ) → length body < 2 ^ 32 → head_len (frame k body ++ more) ≡ length body
unfolding head_len frame head_bytes
len_read k body more h = from_be_bytes-to_be_bytes_4 (length body) h

pub tail_read : (k : ℕ) (body more : List ℕ) → drop 5 (frame k body ++ more) ≡ body ++ more
unfolding frame head_bytes
tail_read k body more = refl

pub frame_len : (k : ℕ) (body more : List ℕ) → length (frame k body ++ more) ≡ 5 + (length body + length more)
unfolding frame head_bytes
frame_len k body more = let e = length-append body more in omega arith

faultless_head : (k n : ℕ) → n ≤ 67108864 → length_fits k n ≡ Some true → head_fault k n ≡ None
unfolding head_fault
faultless_head k n h e = rw (le-ltb 67108864 n h) (ap fault_of_kind e)

pub front_of_frame : (k : ℕ) (body more : List ℕ) → length body ≤ 67108864 → length_fits k (length body) ≡ Some true →
    front (frame k body ++ more) ≡ Some (Ok (request_of k body), more)
front_of_frame k body more short fits =
    let b = frame k body ++ more in
    let ek = kind_read k body more in
    let el = len_read k body more (omega arith) in
    let n = frame_len k body more in
    let fault : head_fault (head_kind b) (head_len b) ≡ None = rw (ek, el)
    (faultless_head k (length body) short fits) in
    let all = front_whole b (omega arith) fault (omega (arith, el, n)) in
    let front_is : take (head_len b) (drop 5 b) ≡ body = rw (el, tail_read k body more)
    (take_at body more (length body) refl) in
    let rest_is : drop (5 + head_len b) b ≡ more = sym (drop-drop (head_len b) 5 b) ∙
    rw (el, tail_read k body more) (drop_at body more (length body) refl) in
    all ∙ rw (ek, front_is, rest_is) refl

pub number_first : (n : ℕ) (more : List ℕ) → n < 2 ^ 64 → number_at 0 (number n ++ more) ≡ n
unfolding number_at number
number_first n more h = from_be_bytes-to_be_bytes_8 n h

number_second : (m n : ℕ) (more : List ℕ) → n < 2 ^ 64 → number_at 8 (number m ++ number n ++ more) ≡ n
unfolding number_at number
number_second m n more h = from_be_bytes-to_be_bytes_8 n h

pub pair_second : (m n : ℕ) → n < 2 ^ 64 → number_at 8 (number m ++ number n) ≡ n
unfolding number_at number
pair_second m n h = from_be_bytes-to_be_bytes_8 n h

pub lone : (n : ℕ) → n < 2 ^ 64 → number_at 0 (number n) ≡ n
unfolding number_at number
lone n h = from_be_bytes-to_be_bytes_8 n h

put_fits : (n : ℕ) → 16 ≤ n → length_fits 1 n ≡ Some true
unfolding length_fits
put_fits n h = ap (λ b. Some b) (le-leb 16 n h)

cells_fit : (n k : ℕ) → n ≡ 16 + k → k % 24 ≡ 0 → length_fits 8 n ≡ Some true
unfolding length_fits
cells_fit n k is whole =
    let rest : (n - 16) % 24 ≡ 0 = ap (λ m. m % 24) {x = n - 16} {y = k} (omega (arith, is)) ∙ whole in
    rw (le-leb 16 n (omega (arith, is))) (ap (λ b. Some b) (eq-eqb ((n - 16) % 24) 0 rest))

length_number : (n : ℕ) → length (number n) ≡ 8
unfolding number
length_number n = refl

pair_fits : (m n : ℕ) → length_fits 2 (length (number m ++ number n)) ≡ Some true
unfolding length_fits number
pair_fits m n = refl

one_fits : (n : ℕ) → length_fits 3 (length (number n)) ≡ Some true
unfolding length_fits number
one_fits n = refl

put_tail : (client n : ℕ) (text : List ℕ) → drop 16 (number client ++ number n ++ text) ≡ text
unfolding number
put_tail client n text = refl

put_first : (m n : ℕ) (text : List ℕ) → m < 2 ^ 64 → number_at 0 (number m ++ number n ++ text) ≡ m
unfolding number_at number
put_first m n text h = from_be_bytes-to_be_bytes_8 m h

put_read : (client n : ℕ) (text : List ℕ) → client < 2 ^ 64 → n < 2 ^ 64 →
    request_of 1 (number client ++ number n ++ text) ≡ Put client n text
unfolding request_of
put_read client n text h k = rw (put_first client n text h, number_second client n text k, put_tail client n text) refl

cells_read : (client n : ℕ) (cells : List ℕ) → client < 2 ^ 64 → n < 2 ^ 64 →
    request_of 8 (number client ++ number n ++ cells) ≡ PutCells client n cells
unfolding request_of
cells_read client n cells h k =
    rw (put_first client n cells h, number_second client n cells k, put_tail client n cells) refl

cell_read : (row col : ℕ) → row < 2 ^ 64 → col < 2 ^ 64 → request_of 2 (number row ++ number col) ≡ Cell row col
unfolding request_of
cell_read row col h k = rw (number_first row (number col) h, pair_second row col k) refl

row_read : (row : ℕ) → row < 2 ^ 64 → request_of 3 (number row) ≡ Row row
unfolding request_of
row_read row h = rw (lone row h) refl

range_fits : (rows cols start : ℕ × ℕ) (most : ℕ) →
    length_fits 10 (length (pair rows ++ pair cols ++ pair start ++ number most)) ≡ Some true
unfolding length_fits number
range_fits rows cols start most = refl

top_fits : (by most : ℕ) → length_fits 11 (length (by ∷ number most)) ≡ Some true
unfolding length_fits number
top_fits by most = refl

-- the k-th of the numbers of a range
range_number : (a b c d e f g : ℕ) → a < 2 ^ 64 → b < 2 ^ 64 → c < 2 ^ 64 → d < 2 ^ 64 → e < 2 ^ 64 → f < 2 ^ 64 →
    g < 2 ^ 64 → range_at (pair (a, b) ++ pair (c, d) ++ pair (e, f) ++ number g) ≡ Range (a, b) (c, d) (e, f) g
unfolding number_at number
range_number a b c d e f g ha hb hc hd he hf hg = rw (
  from_be_bytes-to_be_bytes_8 a ha,
  from_be_bytes-to_be_bytes_8 b hb,
  from_be_bytes-to_be_bytes_8 c hc,
  from_be_bytes-to_be_bytes_8 d hd,
  from_be_bytes-to_be_bytes_8 e he,
  from_be_bytes-to_be_bytes_8 f hf,
  from_be_bytes-to_be_bytes_8 g hg,
) refl

range_read : (rows cols start : ℕ × ℕ) (most : ℕ) → AreNumbers (Range rows cols start most) →
    request_of 10 (pair rows ++ pair cols ++ pair start ++ number most) ≡ Range rows cols start most
unfolding request_of
range_read rows cols start most h =
    range_number rows.0 rows.1 cols.0 cols.1 start.0 start.1 most h.0 h.1 h.2 h.3 h.4 h.5 h.6

top_read : (by most : ℕ) → most < 2 ^ 64 → request_of 11 (by ∷ number most) ≡ Top by most
unfolding request_of number_at number
top_read by most h = ap (Top by) (from_be_bytes-to_be_bytes_8 most h)

groups_fit : (by shift most : ℕ) (rows : ℕ × ℕ) →
    length_fits 18 (length (by ∷ shift ∷ (number most ++ pair rows))) ≡ Some true
unfolding length_fits number
groups_fit by shift most rows = refl

groups_number : (by shift most a b : ℕ) → most < 2 ^ 64 → a < 2 ^ 64 → b < 2 ^ 64 →
    groups_at (by ∷ shift ∷ (number most ++ pair (a, b))) ≡ Groups by shift most (a, b)
unfolding number_at number
groups_number by shift most a b hm ha hb = rw (
  from_be_bytes-to_be_bytes_8 most hm,
  from_be_bytes-to_be_bytes_8 a ha,
  from_be_bytes-to_be_bytes_8 b hb,
) refl

groups_read : (by shift most : ℕ) (rows : ℕ × ℕ) → most < 2 ^ 64 → rows.0 < 2 ^ 64 → rows.1 < 2 ^ 64 →
    request_of 18 (by ∷ shift ∷ (number most ++ pair rows)) ≡ Groups by shift most rows
unfolding request_of
groups_read by shift most rows hm ha hb = groups_number by shift most rows.0 rows.1 hm ha hb

-- the front of a request's frame
pub front_again : (r : Request) (more : List ℕ) → HasFrame r → front (request_frame r ++ more) ≡ Some (Ok r, more)
unfolding request_of length_fits
front_again (Put client n text) more h =
    let long : 16 ≤ length (number client ++ number n ++ text) = omega (
      arith,
      length-append (number client ++ number n) text,
      length-append (number client) (number n),
      length_number client,
      length_number n,
    ) in
    front_of_frame 1 (number client ++ number n ++ text) more h.short (put_fits _ long)
    ∙ ap (λ x. Some (Ok x, more)) (put_read client n text h.numbers.0 h.numbers.1)
front_again (Cell row col) more h = front_of_frame 2 (number row ++ number col) more h.short (pair_fits row col) ∙
    ap (λ x. Some (Ok x, more)) (cell_read row col h.numbers.0 h.numbers.1)
front_again (Row row) more h = front_of_frame 3 (number row) more h.short (one_fits row) ∙
    ap (λ x. Some (Ok x, more)) (row_read row h.numbers)
front_again Status more h = front_of_frame 4 [] more h.short refl
front_again Export more h = front_of_frame 5 [] more h.short refl
front_again Save more h = front_of_frame 6 [] more h.short refl
front_again Stop more h = front_of_frame 7 [] more h.short refl
front_again (PutCells client n cells) more h =
    let size : length (number client ++ number n ++ cells) ≡ 16 + length cells = omega (
      arith,
      length-append (number client ++ number n) cells,
      length-append (number client) (number n),
      length_number client,
      length_number n,
    ) in
    front_of_frame 8 (number client ++ number n ++ cells) more h.short (cells_fit _ _ size h.whole)
    ∙ ap (λ x. Some (Ok x, more)) (cells_read client n cells h.numbers.0 h.numbers.1)
front_again Stored more h = front_of_frame 9 [] more h.short refl
front_again (Range rows cols start most) more h =
    front_of_frame 10 (pair rows ++ pair cols ++ pair start ++ number most) more h.short (range_fits rows cols start most)
    ∙ ap (λ x. Some (Ok x, more)) (range_read rows cols start most h.numbers)
front_again Stats more h = front_of_frame 12 [] more h.short refl
front_again Fold more h = front_of_frame 13 [] more h.short refl
front_again (Top by most) more h = front_of_frame 11 (by ∷ number most) more h.short (top_fits by most) ∙
    ap (λ x. Some (Ok x, more)) (top_read by most h.numbers.1)
front_again (Groups by shift most rows) more h =
    front_of_frame 18 (by ∷ shift ∷ (number most ++ pair rows)) more h.short (groups_fit by shift most rows)
    ∙ ap (λ x. Some (Ok x, more)) (groups_read by shift most rows h.numbers.2 h.numbers.3 h.numbers.4)
