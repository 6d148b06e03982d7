-- One field: what was spelled is read again, and what is read was spelled so.
use Rattle.std.proofs.Common.{◌≡◌, ℕ, ◌+◌, ◌%◌, ◌^◌, ◌<◌, ◌≤◌, Bool, true, false, cond, ltb, not, List, [], ◌∷◌, ◌++◌}
use Rattle.std.proofs.Common.{length, get_or, take, drop, Result, Ok, Err, refl, sym, ap, ◌∙◌, append_assoc, arith}
use Rattle.std.specs.Prelude.{◌==◌}
use Rattle.std.specs.Int.{Width, w8, w32, w64, byte_len, from_be_bytes}
use Rattle.std.proofs.lemmas.Bool.{ltb-false, le-ltb}
use Rattle.std.proofs.lemmas.Bool.Decides.{nat_tests}
use Rattle.std.proofs.lemmas.List.{append-nil, take_at, drop_at, take-append-drop, length-append, length-take}
use Rattle.std.proofs.lemmas.Nat.{be_bytes_4, be_bytes_8, from_be_bytes-to_be_bytes_4, from_be_bytes-to_be_bytes_8}
use Rattle.byte_io.proofs.BufferLemmas.{bytes_before, bytes_behind}
use Rattle.snap_file.specs.Spelling.{IsBytes, number_bytes}
use Rattle.snap_file.specs.Table.{Input, Contents, Reading, Part, ◌>>=◌, give, fault_at, number, refuse_if, outside}
use Rattle.snap_file.specs.declared.fault.SnapFault.{SnapFault}

pub record IsWide (w : Width) (limit : ℕ) : Type 0 where
  pub len : (n : ℕ) → length (number_bytes w n) ≡ byte_len w
  pub back : (bytes : List ℕ) → length bytes ≡ byte_len w → IsBytes bytes →
      number_bytes w (from_be_bytes w bytes) ≡ bytes
  pub again : (n : ℕ) → n < limit → from_be_bytes w (number_bytes w n) ≡ n
  pub below : (bytes : List ℕ) → IsBytes bytes → from_be_bytes w bytes < limit

one_byte : (bytes : List ℕ) → length bytes ≡ 1 → IsBytes bytes → get_or bytes 0 0 % 256 ∷ [] ≡ bytes
one_byte [] len fits = absurd (omega arith)
one_byte (b ∷ []) len fits = let h : b < 256 = fits 0 in ap (λ (x : ℕ). x ∷ []) (omega arith)
one_byte (b ∷ c ∷ bs) len fits = absurd (omega arith)

pub wide8 : IsWide w8 (2 ^ 8)
unfolding number_bytes
wide8 = record {
  len = λ n. refl;
  back = λ bytes len fits. one_byte bytes len fits;
  again = λ n lt. omega arith;
  below = λ bytes fits. omega (arith, fits 0);
}

pub wide32 : IsWide w32 (2 ^ 32)
unfolding number_bytes
wide32 = record {
  len = λ n. refl;
  back = λ bytes len fits. be_bytes_4 bytes _ len fits refl;
  again = λ n lt. from_be_bytes-to_be_bytes_4 n lt;
  below = λ bytes fits. omega (arith, fits 0, fits 1, fits 2, fits 3);
}

pub wide64 : IsWide w64 (2 ^ 64)
unfolding number_bytes
wide64 = record {
  len = λ n. refl;
  back = λ bytes len fits. be_bytes_8 bytes _ len fits refl;
  again = λ n lt. from_be_bytes-to_be_bytes_8 n lt;
  below = λ bytes fits. omega (arith, fits 0, fits 1, fits 2, fits 3, fits 4, fits 5, fits 6, fits 7);
}

-- ---- what was spelled is read again

-- The part reads these bytes as this value, whatever follows and whatever is read behind it.
pub record Skips {A : Type 0} (p : Part A) (x : A) (bytes : List ℕ) : Type 0 where
  pub reads : (k : A → Reading) (before more : List ℕ) → p k (record { before = before; rest = bytes ++ more }) ≡
      k x (record { before = before ++ bytes; rest = more })

pub skips_give : {A : Type 0} (x : A) → Skips (give x) x []
skips_give x = record {
  reads = λ k before more. ap (λ (l : List ℕ). k x (record { before = l; rest = more })) (sym (append-nil before));
}

pub skips_bind : {A B : Type 0} (p : Part A) (f : A → Part B) (x : A) (y : B) (a b : List ℕ) → Skips p x a →
    Skips (f x) y b → Skips (p >>= f) y (a ++ b)
skips_bind p f x y a b s t = record {
  reads = λ k before more.
      ap (λ (l : List ℕ). p (λ x. f x k) (record { before = before; rest = l })) (append_assoc a b more)
      ∙ s.reads (λ x. f x k) before (b ++ more) ∙ t.reads k (before ++ a) more
      ∙ ap (λ (l : List ℕ). k y (record { before = l; rest = more })) (append_assoc before a b);
}

pub skips_test : {B : Type 0} (test : Bool) (kind : SnapFault) (f : Unit {0} → Part B) (y : B) (b : List ℕ) →
    test ≡ false → Skips (f tt) y b → Skips (refuse_if test kind >>= f) y b
unfolding refuse_if
skips_test test kind f y b clear t = record {
  reads = λ k before more.
      ap (λ (v : Bool). cond v (fault_at kind (length before))
      (f tt k (record { before = before; rest = b ++ more }))) clear ∙
      t.reads k before more;
}

pub skips_field : (w : Width) (limit : ℕ) → IsWide w limit → (n : ℕ) → n < limit → Skips (number w) n (number_bytes w n)
unfolding number
skips_field w limit wide n lt = record {
  reads = λ k before more.
      let len = wide.len n in
      let long : ltb (length (number_bytes w n ++ more)) (byte_len w) ≡
      false = le-ltb _ _ (omega (arith, length-append (number_bytes w n) more)) in
      rw (
        long,
        take_at (number_bytes w n) more (byte_len w) len,
        drop_at (number_bytes w n) more (byte_len w) len,
        wide.again n lt,
      ) refl;
}

pub skips_number : {B : Type 0} (w : Width) (limit : ℕ) → IsWide w limit →
    (n : ℕ) (f : ℕ → Part B) (y : B) (b : List ℕ) → n < limit → Skips (f n) y b →
    Skips (number w >>= f) y (number_bytes w n ++ b)
skips_number w limit wide n f y b lt t = skips_bind (number w) f n y (number_bytes w n) b
    (skips_field w limit wide n lt) t

-- ---- what is read was spelled so

-- These bytes were read, behind those before them and in front of what is left.
pub record Stands (start rest bytes before left : List ℕ) : Type 0 where
  pub before_is : before ≡ start ++ bytes
  pub parts : rest ≡ bytes ++ left

-- A field stands in front of the rest, and what follows it gives the same.
pub record Field (w : Width) (limit : ℕ) (k : ℕ → Reading) (v : Contents) (start rest : List ℕ) : Type 0 where
  pub value : ℕ
  pub below : value < limit
  pub before : List ℕ
  pub left : List ℕ
  pub stands : Stands start rest (number_bytes w value) before left
  pub fits : IsBytes left
  pub goes : k value (record { before = before; rest = left }) ≡ Ok v

pub ok_chosen : {A E : Type 0} (b : Bool) (e : E) (r : Result A E) (v : A) → cond b (Err e) r ≡ Ok v →
    (b ≡ false) × (r ≡ Ok v)
ok_chosen true e r v h = absurd cc
ok_chosen false e r v h = (refl, h)

pub field_of : (w : Width) (limit : ℕ) → IsWide w limit → (k : ℕ → Reading) (v : Contents) (before rest : List ℕ) →
    IsBytes rest → number w k (record { before = before; rest = rest }) ≡ Ok v → Field w limit k v before rest
unfolding number
field_of w limit wide k v before rest fits e =
    let c = ok_chosen (ltb (length rest) (byte_len w)) (record {
      kind = SnapFault.Truncated;
      place = length before + length rest + 1;
    }) _ v e in
    let long : byte_len w ≤ length rest = ltb-false _ _ c.0 in
    let front = bytes_before (byte_len w) rest fits in
    let again = wide.back (take (byte_len w) rest) (omega (arith, length-take (byte_len w) rest)) front in
    record {
      value = from_be_bytes w (take (byte_len w) rest);
      below = wide.below (take (byte_len w) rest) front;
      before = before ++ take (byte_len w) rest;
      left = drop (byte_len w) rest;
      stands = record {
        before_is = ap (λ (l : List ℕ). before ++ l) (sym again);
        parts = sym (take-append-drop (byte_len w) rest) ∙
            ap (λ (l : List ℕ). l ++ drop (byte_len w) rest) (sym again);
      };
      fits = bytes_behind (byte_len w) rest fits;
      goes = c.1;
    }

pub passed : (test : Bool) (kind : SnapFault) (k : Unit {0} → Reading) (v : Contents) (input : Input) →
    refuse_if test kind k input ≡ Ok v → (test ≡ false) × (k tt input ≡ Ok v)
unfolding refuse_if
passed test kind k v input e = ok_chosen test (record { kind = kind; place = length input.before }) (k tt input) v e

-- The same for a chain of fields: behind `field_then` the field is a variable, and goals stay short.
pub field_then : {P : Type 0} (w : Width) (limit : ℕ) → IsWide w limit →
    (k : ℕ → Reading) (v : Contents) (before rest : List ℕ) → IsBytes rest →
    number w k (record { before = before; rest = rest }) ≡ Ok v → (Field w limit k v before rest → P) → P
field_then w limit wide k v before rest fits e f = f (field_of w limit wide k v before rest fits e)

pub passed_then : {P : Type 0} (test : Bool) (kind : SnapFault) (k : Unit {0} → Reading) (v : Contents)
    (input : Input) → refuse_if test kind k input ≡ Ok v → ((test ≡ false) × (k tt input ≡ Ok v) → P) → P
passed_then test kind k v input e f = f (passed test kind k v input e)

-- ---- tests

pub inside : (low high n : ℕ) → low ≤ n → n ≤ high → outside low high n ≡ false
inside low high n a b = grind (arith, nat_tests)

pub within : (low high n : ℕ) → outside low high n ≡ false → (low ≤ n) × (n ≤ high)
within low high n e = (grind (arith, nat_tests), grind (arith, nat_tests))

pub same_number : (a b : ℕ) → not (a == b) ≡ false → a ≡ b
same_number a b e = grind (arith, nat_tests)

pub one_value : (m n : ℕ) → outside m m n ≡ false → n ≡ m
one_value m n e = let h = within m m n e in let a = h.0 in let b = h.1 in omega arith
