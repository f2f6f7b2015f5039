-- A bit pattern and the float that it stands for: each law is over the format, and serves singles and doubles.
use mathlib.Core.Path.{◌≡◌, refl, sym, subst, ◌∙◌}
use Prim.Native.Nat.{ℕ, ◌*◌, ◌%◌, ◌^◌, ◌<◌, ◌≤◌}
use mathlib.Core.Bool.{Bool, true, false, not, cond}
use borrow.Author.Tests.{lt-ltb, le-ltb}
use lib.Dec.{T}
use lib.Ieee.{Format, binary32, binary64, of_bits, to_bits, nan_bits, ones, hid, top}
use lib.Ieee.Bits.{nan_bits_above, nan_bits_is, to_bits-of_bits}
use Rattle.number.specs.declared.float.Single.TheVariants as single
use Rattle.number.specs.declared.float.Double.TheVariants as double
use Rattle.number.specs.Float.{single_of, double_of, single_bits, double_bits}

module _ (f : Format) (b : ℕ) where
  -- past the sign, up to infinity's pattern no NaN
  pub up_to_infinity : b % top f ≤ ones f * hid f → nan_bits f b ≡ false
  up_to_infinity h = nan_bits_above f b ∙ le-ltb _ _ h

  -- and above it a NaN
  pub above-infinity : ones f * hid f < b % top f → nan_bits f b ≡ true
  above-infinity h = nan_bits_above f b ∙ lt-ltb _ _ h

  -- a pattern that is no NaN's, as the making of a float asks for it
  pub no_nan : nan_bits f b ≡ false → T (not (nan_bits f b))
  no_nan e = subst (λ (t : Bool). T (not t)) (sym e) tt

  -- whichever it is, its bits are those given
  pub bits-kept : b < 2 * top f → cond (nan_bits f b) b (to_bits f (of_bits f b)) ≡ b
  bits-kept w = go (nan_bits f b) refl
    where
      go : (t : Bool) → nan_bits f b ≡ t → cond t b (to_bits f (of_bits f b)) ≡ b
      go true e = refl
      go false e = to_bits-of_bits f b w (subst (λ (t : Bool). T (not t)) (nan_bits_is f b) (no_nan e))

-- a function of the case chosen
of-case : {A : Type 0} (bits : A → ℕ) (t : Bool) (x y : A) → bits (cond t x y) ≡ cond t (bits x) (bits y)
of-case bits true x y = refl
of-case bits false x y = refl

-- a single keeps its 32 bits
pub single-bits : (b : ℕ) → b < 2 ^ 32 → single_bits (single_of b) ≡ b
unfolding single_bits single_of
single-bits b w = of-case single_bits (nan_bits binary32 b) (single.Nan b) (single.Number (of_bits binary32 b)) ∙ bits-kept binary32 b w

-- a double keeps its 64 bits
pub double-bits : (b : ℕ) → b < 2 ^ 64 → double_bits (double_of b) ≡ b
unfolding double_bits double_of
double-bits b w = of-case double_bits (nan_bits binary64 b) (double.Nan b) (double.Number (of_bits binary64 b)) ∙ bits-kept binary64 b w
