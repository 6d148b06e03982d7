-- Parts of a page of bytes: what stands from one place to another.
use Rattle.std.proofs.Common.{◌≡◌, ℕ, zero, suc, ◌+◌, ◌-◌, ◌*◌, ◌%◌, ◌^◌, ◌<◌, ◌≤◌, Bool, true, false, List, [], ◌∷◌}
use Rattle.std.proofs.Common.{◌++◌}
use Rattle.std.proofs.Common.{length, get_or, take, drop, replicate, flat_map, refl, sym, ap, subst, ◌∙◌}
use Rattle.std.proofs.Common.{append_assoc, arith}
use Rattle.std.specs.Prelude.{◌==◌, slice_index}
use Rattle.std.specs.Int.{Width, w8, w32, w64, byte_len, from_be_bytes}
use Rattle.std.proofs.lemmas.Bool.{and_parts, eqb-true}
use Rattle.std.proofs.lemmas.List.{take-append-drop, length-append, length-take, length-drop, drop-drop}
use Rattle.std.proofs.Math.Seq.{drop-cons}
use Rattle.byte_io.proofs.BufferLemmas.{bytes_before, bytes_behind}
use Rattle.snap_file.specs.Spelling.{IsBytes, number_bytes}
use Rattle.snap_file.proofs.Fields.{IsWide, wide64}
use Rattle.log_page.specs.Pages.{is_blank}
use Rattle.log_head.specs.Heads.{u64_in, cuts_of}

-- from place a to place b of the page stand these bytes
pub record Stands (p : List ℕ) (a : ℕ) (bytes : List ℕ) (b : ℕ) : Type 0 where
  pub parts : drop a p ≡ bytes ++ drop b p

pub stands_on : (p : List ℕ) (a b c : ℕ) (x y : List ℕ) → Stands p a x b → Stands p b y c → Stands p a (x ++ y) c
stands_on p a b c x y s t = record {
  parts = s.parts ∙ ap (λ (l : List ℕ). x ++ l) t.parts ∙ sym (append_assoc x y (drop c p));
}

pub number_stands : (w : Width) (limit : ℕ) → IsWide w limit → (p : List ℕ) → IsBytes p → (a b : ℕ) →
    b ≡ a + byte_len w → b ≤ length p →
    Stands p a (number_bytes w (from_be_bytes w (take (byte_len w) (drop a p)))) b
number_stands w limit wide p bytes a b e within =
    let rest = drop a p in
    let front = bytes_before (byte_len w) rest (bytes_behind a p bytes) in
    let len : length (take (byte_len w) rest) ≡ byte_len w =
    omega (arith, length-take (byte_len w) rest, length-drop a p) in
    record {
      parts = sym (take-append-drop (byte_len w) rest)
          ∙ ap (λ (l : List ℕ). l ++ drop (byte_len w) rest) (sym (wide.back (take (byte_len w) rest) len front))
          ∙ ap (λ (l : List ℕ). number_bytes w (from_be_bytes w (take (byte_len w) (drop a p))) ++ l)
          (drop-drop (byte_len w) a p ∙ ap (λ (n : ℕ). drop n p) (sym e));
    }

pub byte_stands : (p : List ℕ) → IsBytes p → (a b : ℕ) → b ≡ a + 1 → a < length p →
    Stands p a (number_bytes w8 (slice_index p a)) b
unfolding number_bytes
byte_stands p bytes a b e within =
    let small : slice_index p a < 256 = bytes a in
    let same : slice_index p a % 256 ≡ slice_index p a = omega arith in
    record {
      parts = drop-cons p a 0 within ∙ ap (λ (x : ℕ). x ∷ drop (suc a) p) (sym same)
          ∙ ap (λ (i : ℕ). slice_index p a % 256 ∷ drop i p) {x = suc a} {y = b} (omega (arith, e));
    }

-- the same bytes, told by another number
pub stands_as : (p : List ℕ) (a b : ℕ) (w : Width) (m n : ℕ) → m ≡ n → Stands p a (number_bytes w m) b →
    Stands p a (number_bytes w n) b
stands_as p a b w m n e s = subst (λ (x : ℕ). Stands p a (number_bytes w x) b) e s

pub length-cuts_of : (n : ℕ) (bytes : List ℕ) → length (cuts_of n bytes) ≡ n
unfolding cuts_of
length-cuts_of zero bytes = refl
length-cuts_of (suc n) bytes = ap (λ (i : ℕ). suc i) (length-cuts_of n (drop 8 bytes))

pub cuts_more : (n : ℕ) (bytes : List ℕ) → cuts_of (n + 1) bytes ≡ cuts_of n bytes ++ u64_in bytes (8 * n) ∷ []
unfolding cuts_of
cuts_more zero bytes = refl
cuts_more (suc n) bytes =
    let at : drop (8 * n) (drop 8 bytes) ≡ drop (8 * suc n) bytes =
    drop-drop (8 * n) 8 bytes ∙ ap (λ (i : ℕ). drop i bytes) (omega arith) in
    ap (λ (i : ℕ). cuts_of i bytes) {x = suc n + 1} {y = suc (n + 1)} (omega arith)
    ∙ ap (λ (l : List ℕ). u64_in bytes 0 ∷ l) (cuts_more n (drop 8 bytes)
    ∙ ap (λ (l : List ℕ). cuts_of n (drop 8 bytes) ++ from_be_bytes w64 (take 8 l) ∷ []) at)

pub cuts_stand : (n : ℕ) (bytes : List ℕ) → IsBytes bytes → 8 * n ≤ length bytes →
    bytes ≡ flat_map (number_bytes w64) (cuts_of n bytes) ++ drop (8 * n) bytes
unfolding cuts_of
cuts_stand zero bytes are within = refl
cuts_stand (suc n) bytes are within =
    let first = number_stands w64 (2 ^ 64) wide64 bytes are 0 8 refl (omega arith) in
    let more = cuts_stand n (drop 8 bytes) (bytes_behind 8 bytes are) (omega (arith, length-drop 8 bytes)) in
    let cut = number_bytes w64 (u64_in bytes 0) in
    let cuts = flat_map (number_bytes w64) (cuts_of n (drop 8 bytes)) in
    first.parts ∙ ap (λ (l : List ℕ). cut ++ l) (more
    ∙ ap (λ (l : List ℕ). cuts ++ l) (drop-drop (8 * n) 8 bytes ∙ ap (λ (i : ℕ). drop i bytes) (omega arith)))
    ∙ sym (append_assoc cut cuts (drop (8 * suc n) bytes))

pub blank_is : (bytes : List ℕ) → is_blank bytes ≡ true → bytes ≡ replicate (length bytes) 0
blank_is [] e = refl
blank_is (byte ∷ bytes) e =
    let parts = and_parts (byte == 0) (is_blank bytes) e in
    ap (λ (x : ℕ). x ∷ bytes) (eqb-true byte 0 parts.0) ∙ ap (λ (l : List ℕ). 0 ∷ l) (blank_is bytes parts.1)

pub zeros_blank : (n : ℕ) → is_blank (replicate n 0) ≡ true
zeros_blank zero = refl
zeros_blank (suc n) = zeros_blank n

pub cuts_none : (bytes : List ℕ) → cuts_of 0 bytes ≡ []
unfolding cuts_of
cuts_none bytes = refl
