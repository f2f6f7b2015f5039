-- The bits of a signed number of 32 bits, as the library casts them. Assumes nothing.
use Rattle.std.proofs.Common.{◌≡◌, ℤ, pos, negsuc, refl, w32, of_z}
use Rattle.timestamp.specs.Difference.{bits_of}

pub bits-cast : (x : ℤ) → of_z w32 x ≡ bits_of x
unfolding bits_of
bits-cast (pos n) = refl
bits-cast (negsuc n) = refl
