-- Reading and writing undo each other, and the two byte orders are each other's reversal, at any width.
use mathlib.Core.Path.{◌≡◌, refl, sym, ap, ap₂, ◌∙◌}
use Prim.Native.Nat.{ℕ, zero, suc, ◌+◌, ◌*◌, ◌/◌, ◌%◌, ◌^◌, ◌<◌, ◌≤◌}
use native.Mathlib.Nat.{zero-add, pow-zero, pow-suc, one-le-pow, mul_assoc, mod-one, mod-lt, mod-eq_of_lt, div-add-mod', mul-add-mod_self_right}
use native.Mathlib.Numerals.{add-one}
use native.Mathlib.Omega.{arith}
use mathlib.Core.List.{List, [], ◌∷◌, ◌++◌, reverse, reverse-cons, reverse-append, reverse-reverse}
use lib.ListN.{length, get_or, take, drop, length-take, length-drop, length-reverse, get_or-append}
use lib.Seq.{take-suc, drop-cons, get_or-drop, get_or-take, get_or-append-add, get_or_at}
use Rattle.number.specs.Endian.{be, le, be_bytes, le_bytes}
use Rattle.number.proofs.Writing.{length-be_bytes}

-- a number depends on its own bytes alone
pub be-same : (s : List ℕ) (at : ℕ) (t : List ℕ) (bt n : ℕ) → ((k : ℕ) → k < n → get_or s (at + k) 0 ≡ get_or t (bt + k) 0) → be s at n ≡ be t bt n
unfolding be
be-same s at t bt zero same = refl
be-same s at t bt (suc n) same =
    ap₂ (λ (v b : ℕ). v * 256 + b) (be-same s at t bt n (λ k h. same k (omega arith))) (same n (omega arith))

-- bytes after the number don't count
pub be-prefix : (a b : List ℕ) (at n : ℕ) → at + n ≤ length a → be (a ++ b) at n ≡ be a at n
be-prefix a b at n h = be-same (a ++ b) at a at n (λ k l. get_or-append a b 0 (at + k) (omega arith))

-- nor do bytes before it
pub be-append : (a b : List ℕ) (at n : ℕ) → be (a ++ b) (length a + at) n ≡ be b at n
be-append a b at n = be-same (a ++ b) (length a + at) b at n (λ k l.
    let place : length a + at + k ≡ length a + (at + k) = omega arith in
    ap (λ (p : ℕ). get_or (a ++ b) p 0) place ∙ get_or-append-add a b (at + k) 0)

-- a number stands for the same in the part that holds it
pub be-part : (s : List ℕ) (at n : ℕ) → be (take n (drop at s)) 0 n ≡ be s at n
be-part s at n = be-same (take n (drop at s)) 0 s at n (λ k l.
    ap (λ (p : ℕ). get_or (take n (drop at s)) p 0) (zero-add k) ∙ get_or-take n (drop at s) k 0 l ∙ get_or-drop at s k 0)

-- one byte more at the end
be-snoc : (xs : List ℕ) (x : ℕ) → be (xs ++ (x ∷ [])) 0 (length xs + 1) ≡ be xs 0 (length xs) * 256 + x
unfolding be
be-snoc xs x =
    let place : 0 + length xs ≡ length xs = zero-add (length xs) in
    ap (be (xs ++ (x ∷ [])) 0) (add-one (length xs))
    ∙ ap₂ (λ (v b : ℕ). v * 256 + b) (be-prefix xs (x ∷ []) 0 (length xs) (omega arith))
    (ap (λ (p : ℕ). get_or (xs ++ (x ∷ [])) p 0) place ∙ get_or_at xs x [] 0 (length xs) refl)

-- the last byte and the others of a number, modulo a power of 256
mod-more : (n v : ℕ) → (v / 256) % 256 ^ n * 256 + v % 256 ≡ v % 256 ^ suc n
mod-more n v =
    let low : v % 256 < 256 = omega arith in
    let pos : 0 < 256 ^ n = one-le-pow n 256 (omega arith) in
    let mid : (v / 256) % 256 ^ n < 256 ^ n = mod-lt (v / 256) pos in
    let rest : ℕ = (v / 256) % 256 ^ n * 256 + v % 256 in
    let small : rest < 256 ^ suc n = omega (arith, pow-suc 256 n) in
    let high : v / 256 / 256 ^ n * 256 ^ suc n ≡ v / 256 / 256 ^ n * 256 ^ n * 256 = ap (λ (k : ℕ). v / 256 / 256 ^ n * k) (pow-suc 256 n) ∙ sym (mul_assoc (v / 256 / 256 ^ n) (256 ^ n) 256) in
    let whole : v / 256 / 256 ^ n * 256 ^ suc n + rest ≡ v = omega (arith, div-add-mod' (v / 256) (256 ^ n), div-add-mod' v 256) in
    sym (mod-eq_of_lt small) ∙ sym (mul-add-mod_self_right (v / 256 / 256 ^ n) (256 ^ suc n) rest) ∙ ap (λ (k : ℕ). k % 256 ^ suc n) whole

-- written and read again, big-endian
pub be-be_bytes : (n v : ℕ) → be (be_bytes n v) 0 n ≡ v % 256 ^ n
unfolding be be_bytes
be-be_bytes zero v = sym (ap (λ (k : ℕ). v % k) (pow-zero 256) ∙ mod-one v)
be-be_bytes (suc n) v =
    let xs : List ℕ = be_bytes n (v / 256) in
    let len : length xs ≡ n = length-be_bytes n (v / 256) in
    let width : suc n ≡ length xs + 1 = omega arith in
    ap (be (xs ++ (v % 256 ∷ [])) 0) width
    ∙ be-snoc xs (v % 256)
    ∙ ap (λ (k : ℕ). be xs 0 k * 256 + v % 256) len
    ∙ ap (λ (k : ℕ). k * 256 + v % 256) (be-be_bytes n (v / 256))
    ∙ mod-more n v

-- the two orders of a number's bytes
pub le_bytes-reverse : (n v : ℕ) → le_bytes n v ≡ reverse (be_bytes n v)
unfolding be_bytes le_bytes
le_bytes-reverse zero v = refl
le_bytes-reverse (suc n) v = ap (λ (r : List ℕ). v % 256 ∷ r) (le_bytes-reverse n (v / 256)) ∙ sym (reverse-append (be_bytes n (v / 256)) (v % 256 ∷ []))

-- a byte more of a list's part
part-more : (s : List ℕ) (at n : ℕ) → at + suc n ≤ length s → take (suc n) (drop at s) ≡ take n (drop at s) ++ (get_or s (at + n) 0 ∷ [])
part-more s at n h =
    let in-s : n < length (drop at s) = simp length-drop (omega arith) in
    take-suc (drop at s) n 0 in-s ∙ ap (λ (b : ℕ). take n (drop at s) ++ (b ∷ [])) (get_or-drop at s n 0)

-- for lists of bytes
module _ (s : List ℕ) (bytes : (k : ℕ) → get_or s k 0 < 256) where
  -- read and written again, big-endian
  pub be_bytes-be : (at n : ℕ) → at + n ≤ length s → be_bytes n (be s at n) ≡ take n (drop at s)
  unfolding be be_bytes
  be_bytes-be at zero h = refl
  be_bytes-be at (suc n) h =
      let b : get_or s (at + n) 0 < 256 = bytes (at + n) in
      let high : (be s at n * 256 + get_or s (at + n) 0) / 256 ≡ be s at n = omega arith in
      let low : (be s at n * 256 + get_or s (at + n) 0) % 256 ≡ get_or s (at + n) 0 = omega arith in
      ap₂ (λ (v x : ℕ). be_bytes n v ++ (x ∷ [])) high low
      ∙ ap (λ (r : List ℕ). r ++ (get_or s (at + n) 0 ∷ [])) (be_bytes-be at n (omega arith))
      ∙ sym (part-more s at n h)

  -- read big-endian and written little-endian: the bytes in reverse
  pub le_bytes-be : (at n : ℕ) → at + n ≤ length s → le_bytes n (be s at n) ≡ reverse (take n (drop at s))
  le_bytes-be at n h = le_bytes-reverse n (be s at n) ∙ ap reverse (be_bytes-be at n h)

  -- read and written again, little-endian
  pub le_bytes-le : (at n : ℕ) → at + n ≤ length s → le_bytes n (le s at n) ≡ take n (drop at s)
  unfolding le le_bytes
  le_bytes-le at zero h = refl
  le_bytes-le at (suc n) h =
      let b : get_or s at 0 < 256 = bytes at in
      let high : (le s (at + 1) n * 256 + get_or s at 0) / 256 ≡ le s (at + 1) n = omega arith in
      let low : (le s (at + 1) n * 256 + get_or s at 0) % 256 ≡ get_or s at 0 = omega arith in
      ap₂ (λ (x v : ℕ). x ∷ le_bytes n v) low high
      ∙ ap (λ (r : List ℕ). get_or s at 0 ∷ r) (le_bytes-le (at + 1) n (omega arith))
      ∙ ap (λ (p : ℕ). get_or s at 0 ∷ take n (drop p s)) (add-one at)
      ∙ sym (ap (take (suc n)) (drop-cons s at 0 (omega arith)))

  -- read little-endian and written big-endian: the bytes in reverse
  pub be_bytes-le : (at n : ℕ) → at + n ≤ length s → be_bytes n (le s at n) ≡ reverse (take n (drop at s))
  be_bytes-le at n h = sym (reverse-reverse (be_bytes n (le s at n))) ∙ ap reverse (sym (le_bytes-reverse n (le s at n)) ∙ le_bytes-le at n h)

-- the little-endian number is the big-endian number of the bytes in reverse
pub le-reverse : (s : List ℕ) (at n : ℕ) → at + n ≤ length s → le s at n ≡ be (reverse (take n (drop at s))) 0 n
unfolding be le
le-reverse s at zero h = refl
le-reverse s at (suc n) h =
    let xs : List ℕ = reverse (take n (drop (at + 1) s)) in
    let len : length xs ≡ n = simp (length-reverse, length-take, length-drop) (omega arith) in
    let width : length xs + 1 ≡ suc n = omega arith in
    let front : reverse (take (suc n) (drop at s)) ≡ xs ++ (get_or s at 0 ∷ []) =
    ap (λ (r : List ℕ). reverse (take (suc n) r)) (drop-cons s at 0 (omega arith))
    ∙ reverse-cons (get_or s at 0) (take n (drop (suc at) s))
    ∙ ap (λ (p : ℕ). reverse (take n (drop p s)) ++ (get_or s at 0 ∷ [])) (sym (add-one at)) in
    ap (λ (v : ℕ). v * 256 + get_or s at 0) (le-reverse s (at + 1) n (omega arith) ∙ ap (be xs 0) (sym len))
    ∙ sym (be-snoc xs (get_or s at 0))
    ∙ ap (be (xs ++ (get_or s at 0 ∷ [])) 0) width
    ∙ ap (λ (r : List ℕ). be r 0 (suc n)) (sym front)
