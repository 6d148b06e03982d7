-- Replies: what their frames say again.
use Rattle.std.proofs.Common.{◌≡◌, ℕ, ◌<◌, ◌≤◌, ◌^◌, Bool, true, List, [], ◌∷◌, ◌++◌, length, take, drop, refl, sym, ◌∙◌, ap}
use Rattle.std.proofs.Common.{subst, arith, Some, None, false, nat_eq, get_or, zero, suc}
use Rattle.std.specs.Int.{w16, to_be_bytes}
use Rattle.std.proofs.lemmas.Nat.{from_be_bytes-to_be_bytes_2, from_be_bytes-to_be_bytes_8}
use Rattle.std.proofs.lemmas.List.{append-nil, take-append-drop}
use Rattle.wire_frames.specs.Frames.{frame, head_bytes, number, number_at, head_kind}
use Rattle.wire_proto.specs.Replies as frames
use Rattle.wire_proto.specs.Decoding.{Said, accepted, value, row_sum, counts, text, saved, stopping, refused, FitsReply}
use Rattle.wire_proto.specs.Decoding.{reply_frame, IsReplyFrame, short_fits, body_says, code_at, cells, rows, stats, AreWhole}
use Rattle.wire_proto.specs.Questions.{more_byte}
use Rattle.wire_frames.proofs.RoundLemmas.{kind_read, tail_read, frame_len, number_first, pair_second, lone}

-- a reply's kind and body
abbrev pub said_kind : Said → ℕ
said_kind (accepted kept) = 129
said_kind (value count) = 130
said_kind (row_sum sum) = 131
said_kind (counts status) = 132
said_kind (text bytes) = 133
said_kind (saved batches) = 134
said_kind stopping = 135
said_kind (refused code detail) = 255
said_kind (cells more bytes) = 136
said_kind (rows bytes) = 137
said_kind (stats bytes) = 138

-- the kinds whose bodies have any length
pub record IsShort (kind : ℕ) : Type 0 where
  pub no_text : kind ≡ 133 → ⊥
  pub no_cells : kind ≡ 136 → ⊥
  pub no_rows : kind ≡ 137 → ⊥
  pub no_lines : kind ≡ 138 → ⊥

abbrev pub said_body : Said → List ℕ
said_body (accepted kept) = number kept.index ++ number kept.total_after
said_body (value (Some count)) = 1 ∷ number count
said_body (value None) = 0 ∷ number 0
said_body (row_sum sum) = number sum.entries ++ number sum.total
said_body (counts status) = number status.batches ++ number status.total
said_body (text bytes) = bytes
said_body (saved batches) = number batches
said_body stopping = []
said_body (refused code detail) = to_be_bytes w16 code ++ number detail
said_body (cells more bytes) = more_byte more ∷ bytes
said_body (rows bytes) = bytes
said_body (stats bytes) = bytes

pub as_frame : (r : Said) → reply_frame r ≡ frame (said_kind r) (said_body r)
as_frame (accepted kept) = refl
as_frame (value (Some count)) = refl
as_frame (value None) = refl
as_frame (row_sum sum) = refl
as_frame (counts status) = refl
as_frame (text bytes) = refl
as_frame (saved batches) = refl
as_frame stopping = refl
as_frame (refused code detail) = refl
as_frame (cells more bytes) = refl
as_frame (rows bytes) = refl
as_frame (stats bytes) = refl

number_alone : (n : ℕ) → n < 2 ^ 64 → number_at 1 (1 ∷ number n) ≡ n
unfolding number_at number
number_alone n h = from_be_bytes-to_be_bytes_8 n h

code_read : (code detail : ℕ) → code < 2 ^ 16 → code_at (to_be_bytes w16 code ++ number detail) ≡ code
code_read code detail h = from_be_bytes-to_be_bytes_2 code h

detail_read : (code detail : ℕ) → detail < 2 ^ 64 → number_at 2 (to_be_bytes w16 code ++ number detail) ≡ detail
unfolding number_at number
detail_read code detail h = from_be_bytes-to_be_bytes_8 detail h

-- a body fits its kind
pub body_fits : (r : Said) → IsShort (said_kind r) → short_fits (said_kind r) (length (said_body r)) ≡ true
unfolding short_fits number
body_fits (accepted kept) n = refl
body_fits (value (Some count)) n = refl
body_fits (value None) n = refl
body_fits (row_sum sum) n = refl
body_fits (counts status) n = refl
body_fits (text bytes) n = absurd (n.no_text refl)
body_fits (cells more bytes) n = absurd (n.no_cells refl)
body_fits (rows bytes) n = absurd (n.no_rows refl)
body_fits (stats bytes) n = absurd (n.no_lines refl)
body_fits (saved batches) n = refl
body_fits stopping n = refl
body_fits (refused code detail) n = refl

-- and says the reply again
pub says_again : (r : Said) → FitsReply r → IsShort (said_kind r) → body_says (said_kind r) (said_body r) ≡ r
unfolding body_says
says_again (accepted kept) h n = rw (
  number_first kept.index (number kept.total_after) h.0,
  pair_second kept.index kept.total_after h.1,
) refl
says_again (value (Some count)) h n = rw (number_alone count h) refl
says_again (value None) h n = refl
says_again (row_sum sum) h n = rw (
  number_first sum.entries (number sum.total) h.0,
  pair_second sum.entries sum.total h.1,
) refl
says_again (counts status) h n = rw (
  number_first status.batches (number status.total) h.0,
  pair_second status.batches status.total h.1,
) refl
says_again (text bytes) h n = absurd (n.no_text refl)
says_again (cells more bytes) h n = absurd (n.no_cells refl)
says_again (rows bytes) h n = absurd (n.no_rows refl)
says_again (stats bytes) h n = absurd (n.no_lines refl)
says_again (saved batches) h n = rw (lone batches h) refl
says_again stopping h n = refl
says_again (refused code detail) h n = rw (code_read code detail h.0, detail_read code detail h.1) refl

-- a frame's kind and body, and its length
pub frame_kind : (bytes : List ℕ) (r : Said) → bytes ≡ reply_frame r → head_kind bytes ≡ said_kind r
frame_kind bytes r e = ap head_kind (e ∙ as_frame r ∙ sym (append-nil (frame (said_kind r) (said_body r)))) ∙
    kind_read (said_kind r) (said_body r) []

frame_body : (bytes : List ℕ) (r : Said) → bytes ≡ reply_frame r → drop 5 bytes ≡ said_body r
frame_body bytes r e = ap (drop 5) (e ∙ as_frame r ∙ sym (append-nil (frame (said_kind r) (said_body r)))) ∙
    tail_read (said_kind r) (said_body r) [] ∙ append-nil (said_body r)

pub frame_long : (bytes : List ℕ) (r : Said) → IsReplyFrame bytes r → 5 ≤ length bytes
frame_long bytes r h =
    let all = ap length (h.spelled ∙ as_frame r ∙ sym (append-nil (frame (said_kind r) (said_body r)))) ∙
    frame_len (said_kind r) (said_body r) [] in omega (arith, all)

pub decoded_fits : (bytes : List ℕ) (r : Said) → IsReplyFrame bytes r → IsShort (head_kind bytes) →
    short_fits (head_kind bytes) (length (drop 5 bytes)) ≡ true
decoded_fits bytes r h n =
    rw (frame_kind bytes r h.spelled, frame_body bytes r h.spelled)
    (body_fits r (subst IsShort (frame_kind bytes r h.spelled) n))

pub decoded_says : (bytes : List ℕ) (r : Said) → IsReplyFrame bytes r → IsShort (head_kind bytes) →
    body_says (head_kind bytes) (drop 5 bytes) ≡ r
decoded_says bytes r h n =
    rw (frame_kind bytes r h.spelled, frame_body bytes r h.spelled)
    (says_again r h.fits (subst IsShort (frame_kind bytes r h.spelled) n))

-- ---- texts
text_alone : (r : Said) → said_kind r ≡ 133 → r ≡ text (said_body r)
text_alone (accepted kept) e = absurd (omega (arith, e))
text_alone (value count) e = absurd (omega (arith, e))
text_alone (row_sum sum) e = absurd (omega (arith, e))
text_alone (counts status) e = absurd (omega (arith, e))
text_alone (text bytes) e = refl
text_alone (saved batches) e = absurd (omega (arith, e))
text_alone stopping e = absurd (omega (arith, e))
text_alone (refused code detail) e = absurd (omega (arith, e))
text_alone (cells more bytes) e = absurd (omega (arith, e))
text_alone (rows bytes) e = absurd (omega (arith, e))
text_alone (stats bytes) e = absurd (omega (arith, e))

pub decoded_text : (bytes : List ℕ) (r : Said) → IsReplyFrame bytes r → head_kind bytes ≡ 133 → r ≡ text (drop 5 bytes)
decoded_text bytes r h k = text_alone r (sym (frame_kind bytes r h.spelled) ∙ k) ∙
    ap text (sym (frame_body bytes r h.spelled))

pub text_short : (bytes : List ℕ) (r : Said) → IsReplyFrame bytes r → head_kind bytes ≡ 133 →
    length (drop 5 bytes) ≤ 67108864
text_short bytes r h k = subst FitsReply (decoded_text bytes r h k) h.fits

head_of : (bytes body : List ℕ) → bytes ≡ frames.text body → take 5 bytes ≡ head_bytes 133 (length body)
unfolding frame head_bytes
head_of bytes body e = ap (take 5) e

pub text_head_is : (bytes : List ℕ) (r : Said) → IsReplyFrame bytes r → head_kind bytes ≡ 133 →
    take 5 bytes ≡ head_bytes 133 (length (drop 5 bytes))
text_head_is bytes r h k = head_of bytes (drop 5 bytes) (h.spelled ∙ ap reply_frame (decoded_text bytes r h k))

pub text_frame : (bytes : List ℕ) → 5 ≤ length bytes → length (drop 5 bytes) ≤ 67108864 →
    take 5 bytes ≡ head_bytes 133 (length (drop 5 bytes)) → IsReplyFrame bytes (text (drop 5 bytes))
unfolding frame
text_frame bytes long short e = record {
  fits = short;
  spelled = sym (take-append-drop 5 bytes) ∙
      ap (λ l. l ++ drop 5 bytes) e;
}

-- ---- cells and rows
-- the head of a frame of this kind, whatever it tells
head_is : (bytes : List ℕ) (r : Said) → bytes ≡ reply_frame r →
    take 5 bytes ≡ head_bytes (said_kind r) (length (said_body r))
unfolding frame head_bytes
head_is bytes r e = ap (take 5) (e ∙ as_frame r)

pub head_told : (bytes : List ℕ) (r : Said) → IsReplyFrame bytes r →
    take 5 bytes ≡ head_bytes (head_kind bytes) (length (drop 5 bytes))
head_told bytes r h = rw (frame_kind bytes r h.spelled, frame_body bytes r h.spelled) (head_is bytes r h.spelled)

-- bytes with this head are a frame of this body
framed : (bytes : List ℕ) (kind : ℕ) → take 5 bytes ≡ head_bytes kind (length (drop 5 bytes)) →
    bytes ≡ frame kind (drop 5 bytes)
unfolding frame
framed bytes kind e = sym (take-append-drop 5 bytes) ∙ ap (λ l. l ++ drop 5 bytes) e

-- what a frame of cells tells
pub record TellsCells (bytes : List ℕ) (r : Said) : Type 0 where
  pub more : Bool
  pub told : List ℕ
  pub is : r ≡ cells more told
  pub body : drop 5 bytes ≡ more_byte more ∷ told
  pub whole : AreWhole told

cells_alone : (bytes : List ℕ) (r : Said) → said_kind r ≡ 136 → FitsReply r → drop 5 bytes ≡ said_body r →
    TellsCells bytes r
cells_alone bytes (accepted kept) e h b = absurd (omega (arith, e))
cells_alone bytes (value count) e h b = absurd (omega (arith, e))
cells_alone bytes (row_sum sum) e h b = absurd (omega (arith, e))
cells_alone bytes (counts status) e h b = absurd (omega (arith, e))
cells_alone bytes (text t) e h b = absurd (omega (arith, e))
cells_alone bytes (saved batches) e h b = absurd (omega (arith, e))
cells_alone bytes stopping e h b = absurd (omega (arith, e))
cells_alone bytes (refused code detail) e h b = absurd (omega (arith, e))
cells_alone bytes (rows t) e h b = absurd (omega (arith, e))
cells_alone bytes (stats t) e h b = absurd (omega (arith, e))
cells_alone bytes (cells more t) e h b = record { more = more; told = t; is = refl; body = b; whole = h }

pub decoded_cells : (bytes : List ℕ) (r : Said) → IsReplyFrame bytes r → head_kind bytes ≡ 136 → TellsCells bytes r
decoded_cells bytes r h k = cells_alone bytes r (sym (frame_kind bytes r h.spelled) ∙ k) h.fits
    (frame_body bytes r h.spelled)

pub cells_framed : (bytes told : List ℕ) (more : Bool) → drop 5 bytes ≡ more_byte more ∷ told → AreWhole told →
    take 5 bytes ≡ head_bytes 136 (length (drop 5 bytes)) → IsReplyFrame bytes (cells more told)
cells_framed bytes told more b whole e = record { fits = whole; spelled = framed bytes 136 e ∙ ap (frame 136) b }

rows_alone : (bytes : List ℕ) (r : Said) → said_kind r ≡ 137 → FitsReply r → drop 5 bytes ≡ said_body r →
    (r ≡ rows (drop 5 bytes)) × AreWhole (drop 5 bytes)
rows_alone bytes (accepted kept) e h b = absurd (omega (arith, e))
rows_alone bytes (value count) e h b = absurd (omega (arith, e))
rows_alone bytes (row_sum sum) e h b = absurd (omega (arith, e))
rows_alone bytes (counts status) e h b = absurd (omega (arith, e))
rows_alone bytes (text t) e h b = absurd (omega (arith, e))
rows_alone bytes (saved batches) e h b = absurd (omega (arith, e))
rows_alone bytes stopping e h b = absurd (omega (arith, e))
rows_alone bytes (refused code detail) e h b = absurd (omega (arith, e))
rows_alone bytes (cells more t) e h b = absurd (omega (arith, e))
rows_alone bytes (stats t) e h b = absurd (omega (arith, e))
rows_alone bytes (rows t) e h b = (ap rows (sym b), subst AreWhole (sym b) h)

pub decoded_rows : (bytes : List ℕ) (r : Said) → IsReplyFrame bytes r → head_kind bytes ≡ 137 →
    (r ≡ rows (drop 5 bytes)) × AreWhole (drop 5 bytes)
decoded_rows bytes r h k = rows_alone bytes r (sym (frame_kind bytes r h.spelled) ∙ k) h.fits
    (frame_body bytes r h.spelled)

pub rows_framed : (bytes : List ℕ) → AreWhole (drop 5 bytes) → take 5 bytes ≡ head_bytes 137 (length (drop 5 bytes)) →
    IsReplyFrame bytes (rows (drop 5 bytes))
rows_framed bytes whole e = record { fits = whole; spelled = framed bytes 137 e }

-- ---- lines
lines_alone : (bytes : List ℕ) (r : Said) → said_kind r ≡ 138 → FitsReply r → drop 5 bytes ≡ said_body r →
    (r ≡ stats (drop 5 bytes)) × (length (drop 5 bytes) ≤ 67108864)
lines_alone bytes (accepted kept) e h b = absurd (omega (arith, e))
lines_alone bytes (value count) e h b = absurd (omega (arith, e))
lines_alone bytes (row_sum sum) e h b = absurd (omega (arith, e))
lines_alone bytes (counts status) e h b = absurd (omega (arith, e))
lines_alone bytes (text t) e h b = absurd (omega (arith, e))
lines_alone bytes (saved batches) e h b = absurd (omega (arith, e))
lines_alone bytes stopping e h b = absurd (omega (arith, e))
lines_alone bytes (refused code detail) e h b = absurd (omega (arith, e))
lines_alone bytes (cells more t) e h b = absurd (omega (arith, e))
lines_alone bytes (rows t) e h b = absurd (omega (arith, e))
lines_alone bytes (stats t) e h b = (ap stats (sym b), subst (λ (l : List ℕ). length l ≤ 67108864) (sym b) h)

pub decoded_lines : (bytes : List ℕ) (r : Said) → IsReplyFrame bytes r → head_kind bytes ≡ 138 →
    (r ≡ stats (drop 5 bytes)) × (length (drop 5 bytes) ≤ 67108864)
decoded_lines bytes r h k = lines_alone bytes r (sym (frame_kind bytes r h.spelled) ∙ k) h.fits
    (frame_body bytes r h.spelled)

pub lines_framed : (bytes : List ℕ) → length (drop 5 bytes) ≤ 67108864 →
    take 5 bytes ≡ head_bytes 138 (length (drop 5 bytes)) → IsReplyFrame bytes (stats (drop 5 bytes))
lines_framed bytes short e = record { fits = short; spelled = framed bytes 138 e }

-- the byte that says whether there are more cells
pub byte_low : (more : Bool) → more_byte more ≤ 1
byte_low true = omega arith
byte_low false = omega arith

pub byte_again : (more : Bool) → nat_eq (more_byte more) 1 ≡ more
byte_again true = refl
byte_again false = refl

pub byte_is : (mark : ℕ) → mark ≤ 1 → mark ≡ more_byte (nat_eq mark 1)
byte_is zero h = refl
byte_is (suc zero) h = refl
byte_is (suc (suc n)) h = absurd (omega (arith, h))

pub same_first : (m n : ℕ) (xs ys : List ℕ) → m ∷ xs ≡ n ∷ ys → m ≡ n
same_first m n xs ys e = ap (λ l. get_or l 0 0) e

pub same_rest : (m n : ℕ) (xs ys : List ℕ) → m ∷ xs ≡ n ∷ ys → xs ≡ ys
same_rest m n xs ys e = ap (drop 1) e
