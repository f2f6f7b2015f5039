-- A number read most significant byte first and written least significant byte first is its bytes in reverse, whole or by halves, at any
-- width. Rests on the laws of numbers.
use mathlib.Core.Path.{◌≡◌, refl, sym, ap, ap₂, ◌∙◌}
use mathlib.Core.List.{List, ◌∷◌, ◌++◌, reverse, reverse-append}
use Prim.Native.Nat.{ℕ, zero, suc, ◌+◌, ◌*◌, ◌/◌, ◌%◌, ◌^◌, ◌<◌, ◌≤◌}
use native.Mathlib.Nat.{zero-add, suc-add, pow-zero, pow-suc, pow-succ', mul_assoc, div-one, div-add-mod', div-div-eq-div-mul}
use native.Mathlib.Omega.{arith}
use lib.ListN.{length, get_or, take, drop}
use mir.Syntax.{w8}
use mir.Val.{Fits}
use lib.Seq.{sets, take-add, drop-drop}
use Rattle.number.specs.Endian.{be, le_bytes}
use Rattle.number.proofs.Inverse.{le_bytes-be}
use Rattle.number.proofs.Writing.{length-le_bytes, sets-append}
use Rattle.byte_order.specs.inner.Turning.{turned_at}

-- the least significant m bytes, then the other n
le_bytes-split : (m n v : ℕ) → le_bytes (m + n) v ≡ le_bytes m v ++ le_bytes n (v / 256 ^ m)
unfolding le_bytes
le_bytes-split zero n v =
    let whole : v / 256 ^ 0 ≡ v = ap (λ (k : ℕ). v / k) (pow-zero 256) ∙ div-one v in
    ap₂ le_bytes (zero-add n) (sym whole)
le_bytes-split (suc m) n v =
    let high : v / 256 / 256 ^ m ≡ v / 256 ^ suc m = div-div-eq-div-mul v 256 (256 ^ m) ∙ ap (λ (k : ℕ). v / k) (sym (pow-succ' 256 m)) in
    ap (λ (k : ℕ). le_bytes k v) (suc-add m n)
    ∙ ap (λ (x : List ℕ). v % 256 ∷ x) (le_bytes-split m n (v / 256))
    ∙ ap (λ (k : ℕ). v % 256 ∷ (le_bytes m (v / 256) ++ le_bytes n k)) high

-- what stands above the n bytes does not count
le_bytes-above : (n q v : ℕ) → le_bytes n (q * 256 ^ n + v) ≡ le_bytes n v
unfolding le_bytes
le_bytes-above zero q v = refl
le_bytes-above (suc n) q v =
    let up : q * 256 ^ suc n ≡ q * 256 ^ n * 256 = ap (λ (k : ℕ). q * k) (pow-suc 256 n) ∙ sym (mul_assoc q (256 ^ n) 256) in
    let low : (q * 256 ^ suc n + v) % 256 ≡ v % 256 = omega arith in
    let high : (q * 256 ^ suc n + v) / 256 ≡ q * 256 ^ n + v / 256 = omega arith in
    ap₂ (λ (x y : ℕ). x ∷ le_bytes n y) low high ∙ ap (λ (x : List ℕ). v % 256 ∷ x) (le_bytes-above n q (v / 256))

le_bytes-mod : (n v : ℕ) → le_bytes n (v % 256 ^ n) ≡ le_bytes n v
le_bytes-mod n v = sym (le_bytes-above n (v / 256 ^ n) (v % 256 ^ n)) ∙ ap (le_bytes n) (div-add-mod' v (256 ^ n))

-- a number of m + n bytes written in two parts
pub parts-written : (m n v at : ℕ) (out : List ℕ)
    → sets (sets out at (le_bytes m (v % 256 ^ m))) (at + m) (le_bytes n (v / 256 ^ m)) ≡ sets out at (le_bytes (m + n) v)
parts-written m n v at out =
    ap (λ (x : List ℕ). sets (sets out at x) (at + m) (le_bytes n (v / 256 ^ m))) (le_bytes-mod m v)
    ∙ ap (λ (k : ℕ). sets (sets out at (le_bytes m v)) (at + k) (le_bytes n (v / 256 ^ m))) (sym (length-le_bytes m v))
    ∙ sym (ap (sets out at) (le_bytes-split m n v) ∙ sets-append out at (le_bytes m v) (le_bytes n (v / 256 ^ m)))

module _ (s : List ℕ) (bytes : (k : ℕ) → Fits w8 (get_or s k 0)) where
  below : (k : ℕ) → get_or s k 0 < 256
  below k = omega (arith, bytes k)

  -- a number of w bytes
  pub number-turned : (out : List ℕ) (w at v : ℕ) → at + w ≤ length s → v ≡ be s at w → sets out at (le_bytes w v) ≡ turned_at w s at out
  number-turned out w at v h e = ap (sets out at) (ap (le_bytes w) e ∙ le_bytes-be s below at w h)

  -- two numbers of w bytes each, written in each other's place: one number of both
  pub halves-turned : (out : List ℕ) (w at high low : ℕ) → at + (w + w) ≤ length s → high ≡ be s at w → low ≡ be s (at + w) w
      → sets (sets out at (le_bytes w low)) (at + w) (le_bytes w high) ≡ turned_at (w + w) s at out
  halves-turned out w at high low h eh el =
      let first : le_bytes w low ≡ reverse (take w (drop (at + w) s)) = ap (le_bytes w) el ∙ le_bytes-be s below (at + w) w (omega arith) in
      let second : le_bytes w high ≡ reverse (take w (drop at s)) = ap (le_bytes w) eh ∙ le_bytes-be s below at w (omega arith) in
      let both : reverse (take (w + w) (drop at s)) ≡ le_bytes w low ++ le_bytes w high =
      ap reverse (take-add w w (drop at s) ∙ ap (λ (x : List ℕ). take w (drop at s) ++ take w x) (drop-drop w at s))
      ∙ reverse-append (take w (drop at s)) (take w (drop (at + w) s))
      ∙ sym (ap₂ (λ (x y : List ℕ). x ++ y) first second) in
      ap (λ (k : ℕ). sets (sets out at (le_bytes w low)) (at + k) (le_bytes w high)) (sym (length-le_bytes w low))
      ∙ sym (ap (sets out at) both ∙ sets-append out at (le_bytes w low) (le_bytes w high))
