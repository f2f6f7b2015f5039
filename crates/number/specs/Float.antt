-- What a pattern of 32 or 64 bits stands for: a NaN, kept by its bits, or a number of IEEE 754 (the infinities among them).
-- A pattern is a NaN's where the exponent is all ones and the fraction is not zero.
use Rattle.std.specs.Prelude.{ℕ, cond}
use Rattle.std.specs.Float.{binary32, binary64}
use Rattle.std.specs.Float.Ieee.{of_bits, to_bits, nan_bits}
use Rattle.number.specs.declared.float.Single.{Single}
use Rattle.number.specs.declared.float.Single.TheVariants as single
use Rattle.number.specs.declared.float.Double.{Double}
use Rattle.number.specs.declared.float.Double.TheVariants as double

-- the single of 32 bits
unfoldable pub single_of : ℕ → Single
single_of b = cond (nan_bits binary32 b) (single.Nan b) (single.Number (of_bits binary32 b))

-- the double of 64 bits
unfoldable pub double_of : ℕ → Double
double_of b = cond (nan_bits binary64 b) (double.Nan b) (double.Number (of_bits binary64 b))

-- the bits of a single
unfoldable pub single_bits : Single → ℕ
single_bits (single.Number x) = to_bits binary32 x
single_bits (single.Nan b) = b

-- the bits of a double
unfoldable pub double_bits : Double → ℕ
double_bits (double.Number x) = to_bits binary64 x
double_bits (double.Nan b) = b
