-- The two's complement of a signed number of 64 bits, and the bits of a NaN. Rests on the definitions alone.
use mathlib.Core.Path.{◌≡◌, refl}
use mathlib.Core.Bool.{true}
use Prim.Native.Nat.{◌+◌, ◌*◌, ◌/◌}
use native.Mathlib.Omega.{arith}
use lib.Ieee.{Format, Float, nan, inf, fin, is_nan, to_bits, ones, hid}
use lib.IntN.{ℤ, pos, negsuc}
use mir.Syntax.{w64}
use mir.Val.{of_z}
use Rattle.reading.specs.Values.{complement}

-- what lies below zero is turned over
pub turned_over : (z : ℤ) → of_z w64 z ≡ complement z
unfolding complement
turned_over (pos n) = refl
turned_over (negsuc n) = omega arith

-- a NaN's, which holds none
pub nan_bits : (f : Format) (x : Float) → is_nan x ≡ true → ones f * hid f + hid f / 2 ≡ to_bits f x
unfolding is_nan to_bits
nan_bits f nan e = refl
nan_bits f (inf s) e = cc
nan_bits f (fin s m n) e = cc
