-- Parts of a list by their places: cut, joined and taken apart again; numbers in a part; and lists of bytes.
-- Rests on the list library and on the number crate's laws.
use mathlib.Core.Path.{◌≡◌, refl, sym, ap, ap₂, ◌∙◌}
use mathlib.Core.List.{List, [], ◌∷◌, ◌++◌}
use Prim.Native.Nat.{ℕ, zero, suc, ◌+◌, ◌-◌, ◌/◌, ◌%◌, ◌^◌, ◌≤◌, ◌<◌}
use native.Mathlib.Nat.{zero-add, suc-add}
use native.Mathlib.Numerals.{add-one}
use native.Mathlib.Omega.{arith}
use lib.ListN.{length, get_or, take, drop, replicate, length-append, take-append-drop}
use lib.Seq.{slice, slice-cons, length-slice, take-nil, take-take}
use Rattle.number.specs.Endian.{be, be_bytes}
use Rattle.number.proofs.Inverse.{be-part, be-be_bytes, be_bytes-be}
use Rattle.descriptor.specs.Encoding.{Bytes}

module _ {A : Type 0} where
  -- lists of one length in front of others
  pub append-apart : (x y u v : List A) → length x ≡ length y → x ++ u ≡ y ++ v → (x ≡ y) × (u ≡ v)
  append-apart [] [] u v h e = (refl, e)
  append-apart [] (b ∷ y) u v h e = absurd (omega arith)
  append-apart (a ∷ x) [] u v h e = absurd (omega arith)
  append-apart (a ∷ x) (b ∷ y) u v h e =
      let i : x ++ u ≡ y ++ v = cc in
      let r = append-apart x y u v (omega arith) i in
      let p : a ≡ b = cc in
      (λ j. p j ∷ r.0 j, r.1)

  -- a part by its length
  pub slice-take : (p n : ℕ) (l : List A) → slice p (p + n) l ≡ take n (drop p l)
  slice-take zero n l = ap (λ (k : ℕ). take k l) (zero-add n)
  slice-take (suc p) n [] = rw suc-add (sym (take-nil n))
  slice-take (suc p) n (x ∷ l) = rw suc-add (slice-take p n l)

  -- the whole list
  pub slice_all : (l : List A) (n : ℕ) → length l ≡ n → slice 0 n l ≡ l
  slice_all [] zero e = refl
  slice_all [] (suc n) e = refl
  slice_all (x ∷ l) zero e = absurd (omega arith)
  slice_all (x ∷ l) (suc n) e = ap (λ (r : List A). x ∷ r) (slice_all l n (omega arith))

  -- a list from p on, cut at q
  cut : (p q : ℕ) (m : List A) → p ≤ q → drop p (take q m) ++ drop q m ≡ drop p m
  cut zero q m h = take-append-drop q m
  cut (suc p) zero m h = absurd (omega arith)
  cut (suc p) (suc q) [] h = refl
  cut (suc p) (suc q) (x ∷ m) h = cut p q m (omega arith)

  -- two parts, one after the other, are one
  pub slice-join : (p q r : ℕ) (l : List A) → p ≤ q → q ≤ r → slice p q l ++ slice q r l ≡ slice p r l
  slice-join p q r l h k = ap (λ (m : List A). drop p m ++ drop q (take r l)) (sym (take-take q r l k)) ∙ cut p q (take r l) h

  -- so they spell what each of them spells
  pub slice-then : (p q r : ℕ) (l : List A) {x y : List A} → p ≤ q → q ≤ r → slice p q l ≡ x → slice q r l ≡ y → slice p r l ≡ x ++ y
  slice-then p q r l h k e f = sym (slice-join p q r l h k) ∙ ap₂ (λ (u v : List A). u ++ v) e f

  -- and one that spells two lists is two parts, the second at q
  pub slice-split : (x y : List A) (p q r : ℕ) (l : List A) → q ≡ p + length x → p ≤ r → r ≤ length l → slice p r l ≡ x ++ y
      → (slice p q l ≡ x) × (slice q r l ≡ y)
  slice-split x y p q r l at h k e =
      let whole : r - p ≡ length x + length y = sym (length-slice p r l k) ∙ ap length e ∙ length-append x y in
      let long : length (slice p q l) ≡ length x = omega (arith, length-slice p q l (omega arith)) in
      append-apart (slice p q l) x (slice q r l) y long (slice-join p q r l (omega arith) (omega arith) ∙ e)

  -- its first element and the others, which start at q
  pub slice_first : (x : A) (y : List A) (p q r : ℕ) (l : List A) (d : A) → q ≡ p + 1 → p ≤ r → r ≤ length l → slice p r l ≡ x ∷ y
      → (get_or l p d ≡ x) × (slice q r l ≡ y)
  slice_first x y p q r l d at h k e =
      let whole : r - p ≡ suc (length y) = sym (length-slice p r l k) ∙ ap length e in
      let f : get_or l p d ∷ slice (suc p) r l ≡ x ∷ y = sym (slice-cons p r l d (omega arith) k) ∙ e in
      let here : get_or l p d ≡ x = cc in
      let rest : slice (suc p) r l ≡ y = cc in
      (here, rw (at, add-one) rest)

  -- one element more in front
  pub slice-more : (p r : ℕ) (l : List A) (d : A) → p < r → r ≤ length l → slice p r l ≡ get_or l p d ∷ slice (p + 1) r l
  slice-more p r l d h k = rw add-one (slice-cons p r l d h k)

-- the number in a part that is some number's bytes
pub slice-be : (s : List ℕ) (p n v : ℕ) → slice p (p + n) s ≡ be_bytes n v → be s p n ≡ v % 256 ^ n
slice-be s p n v e = sym (be-part s p n) ∙ ap (λ (l : List ℕ). be l 0 n) (sym (slice-take p n s) ∙ e) ∙ be-be_bytes n v

-- the first n of some bytes are bytes
bytes_take : (n : ℕ) (s : List ℕ) → Bytes s → Bytes (take n s)
unfolding Bytes
bytes_take zero s b = tt
bytes_take (suc n) [] b = tt
bytes_take (suc n) (x ∷ s) b = (b.0, bytes_take n s b.1)

-- and so are the others
bytes_drop : (n : ℕ) (s : List ℕ) → Bytes s → Bytes (drop n s)
unfolding Bytes
bytes_drop zero s b = b
bytes_drop (suc n) [] b = tt
bytes_drop (suc n) (x ∷ s) b = bytes_drop n s b.1

-- a part of some bytes
pub bytes-slice : (p q : ℕ) (s : List ℕ) → Bytes s → Bytes (slice p q s)
bytes-slice p q s b = bytes_drop p (take q s) (bytes_take q s b)

-- each of some bytes, and the zero past their end
pub bytes-at : (s : List ℕ) → Bytes s → (k : ℕ) → get_or s k 0 < 256
unfolding Bytes
bytes-at [] b k = omega arith
bytes-at (x ∷ s) b zero = b.0
bytes-at (x ∷ s) b (suc k) = bytes-at s b.1 k

-- bytes after bytes
pub bytes-append : (x y : List ℕ) → Bytes x → Bytes y → Bytes (x ++ y)
unfolding Bytes
bytes-append [] y b c = c
bytes-append (a ∷ x) y b c = (b.0, bytes-append x y b.1 c)

-- one byte, over and over
pub bytes-replicate : (n x : ℕ) → x < 256 → Bytes (replicate n x)
unfolding Bytes
bytes-replicate zero x h = tt
bytes-replicate (suc n) x h = (h, bytes-replicate n x h)

-- a number's bytes
pub bytes-be_bytes : (n v : ℕ) → Bytes (be_bytes n v)
unfolding Bytes be_bytes
bytes-be_bytes zero v = tt
bytes-be_bytes (suc n) v = bytes-append (be_bytes n (v / 256)) (v % 256 ∷ []) (bytes-be_bytes n (v / 256)) (omega arith, tt)

-- a number read is spelled by the bytes that it was read from
pub be-slice : (s : List ℕ) → Bytes s → (p n : ℕ) → p + n ≤ length s → slice p (p + n) s ≡ be_bytes n (be s p n)
be-slice s b p n h = slice-take p n s ∙ sym (be_bytes-be s (bytes-at s b) p n h)
