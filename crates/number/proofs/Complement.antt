-- Laws of two's complement, over the width, and of its place in a 64-bit signed number.
use mathlib.Core.Path.{◌≡◌, refl, sym, ap, subst, ◌∙◌}
use Prim.Native.Nat.{ℕ, zero, suc, ◌+◌, ◌*◌, ◌-◌, ◌/◌, ◌%◌, ◌^◌, ◌<◌, ◌≤◌}
use native.Mathlib.Nat.{pow-suc, mod-eq_of_lt}
use native.Mathlib.Omega.{arith}
use borrow.Author.Tests.{lt-ltb, le-ltb}
use lib.Pow.{pow-add, pow-lt}
use lib.IntN.{ℤ, pos, negsuc, ◌-ℤ◌}
use mir.Syntax.{w64}
use mir.Val.{to_z, SFits}
use mir.Facts.{to_z_pos}
use Rattle.number.specs.Signed.{signed}

-- n bytes count as many numbers as 8 n bits
bytes_bits : (n : ℕ) → 256 ^ n ≡ 2 ^ (8 * n)
bytes_bits zero = refl
bytes_bits (suc n) =
    let more : 8 * suc n ≡ 8 * n + 8 = omega arith in
    pow-suc 256 n ∙ ap (λ (k : ℕ). k * 256) (bytes_bits n) ∙ sym (ap (λ (k : ℕ). 2 ^ k) more ∙ pow-add 2 (8 * n) 8)

-- half of it is one bit moved up by one place less
pub half-bit : (n : ℕ) → 1 ≤ n → n ≤ 8 → 2 * (1 * 2 ^ (8 * n - 1) % 2 ^ 64) ≡ 256 ^ n
half-bit n h k =
    let fits : 2 ^ (8 * n - 1) < 2 ^ 64 = pow-lt {i = 8 * n - 1} {j = 64} (omega arith) in
    let one : 1 * 2 ^ (8 * n - 1) < 2 ^ 64 = omega arith in
    let whole : 1 * 2 ^ (8 * n - 1) % 2 ^ 64 ≡ 1 * 2 ^ (8 * n - 1) = mod-eq_of_lt one in
    let next : 8 * n ≡ suc (8 * n - 1) = omega arith in
    let double : 2 ^ (8 * n) ≡ 2 ^ (8 * n - 1) * 2 = ap (λ (i : ℕ). 2 ^ i) next ∙ pow-suc 2 (8 * n - 1) in
    omega (arith, bytes_bits n)

-- the difference of two naturals, where it is negative
under : (v w : ℕ) → v < w → pos v -ℤ pos w ≡ negsuc (w - 1 - v)
under v zero h = absurd (omega arith)
under v (suc w) h = rw (lt-ltb v (suc w) h) (ap negsuc (omega arith))

-- half is half of what n bytes count
module _ (n v half : ℕ) (is-half : 2 * half ≡ 256 ^ n) where
  halved : 256 ^ n / 2 ≡ half
  halved = omega arith

  -- below half, the number itself
  pub stays : v < half → signed n v ≡ pos v
  unfolding signed
  stays h = rw (halved, lt-ltb v half h)

  -- from half on, the number less 256 ^ n
  pub falls : half ≤ v → v < 256 ^ n → signed n v ≡ negsuc (half - 1 - (v - half))
  unfolding signed
  falls h l =
      let place : 256 ^ n - 1 - v ≡ half - 1 - (v - half) = omega arith in
      rw (halved, le-ltb v half h) (under v (256 ^ n) l ∙ ap negsuc place)

-- one below zero and k more, as 64-bit signed arithmetic gives it
less : (k : ℕ) → negsuc 0 -ℤ pos k ≡ negsuc k
less zero = refl
less (suc k) = ap (λ (n : ℕ). negsuc (suc n)) (omega arith)

pub negative : (k : ℕ) → k < 2 ^ 63 → negsuc 0 -ℤ to_z w64 k ≡ negsuc k
negative k h = ap (λ (z : ℤ). negsuc 0 -ℤ z) (to_z_pos w64 h) ∙ less k

pub negative_fits : (k : ℕ) → k < 2 ^ 63 → SFits w64 (negsuc 0 -ℤ to_z w64 k)
negative_fits k h = subst (λ (z : ℤ). SFits w64 z) (sym (negative k h)) (record { sfits = h })
