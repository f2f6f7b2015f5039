-- The exact difference of two time stamps, from document 02, CR 1. "The first two integers are the high and low halves of a signed 64-bit count
-- of seconds since 1904-01-01 00:00 universal time, the last two those of the fraction in units of 2^-64 second."
use Rattle.std.specs.Prelude.{ℕ, suc, ◌+◌, ◌-◌, ◌*◌, ◌%◌, ◌^◌, Bool, cond, ℤ, pos, negsuc, ◌+ℤ◌, ◌-ℤ◌, ◌*ℤ◌, nat_lt}
use Rattle.descriptor.specs.Answers.{refusal, accepted}
use Rattle.timestamp.specs.declared.Difference.{Difference as Given}

-- a time: seconds, and a fraction of one in units of 2^-64
pub record Time : Type 0 where
  pub seconds : ℤ
  pub fraction : ℕ

-- the bits of a signed number of 32 bits: a low half counts by them
unfoldable pub bits_of : ℤ → ℕ
bits_of (pos n) = n
bits_of (negsuc n) = 2 ^ 32 - suc n

-- the time of a stamp's four integers
abbrev pub time_of : ℤ → ℤ → ℕ → ℕ → Time
time_of a b c d = record { seconds = a *ℤ pos (2 ^ 32) +ℤ pos (bits_of b); fraction = c * 2 ^ 32 + d }

-- how many units of 2^-64 second it is
abbrev pub units_of : Time → ℤ
units_of x = x.seconds *ℤ pos (2 ^ 64) +ℤ pos x.fraction

-- "first less second .. The fraction of the difference is taken modulo 2^64, with one second borrowed when needed."
abbrev pub less : Time → Time → Time
less x y = record {
  seconds = x.seconds -ℤ y.seconds -ℤ pos (cond (nat_lt x.fraction y.fraction) 1 0);
  fraction = (x.fraction + 2 ^ 64 - y.fraction) % 2 ^ 64;
}

-- "64 signed bits" hold it
unfoldable pub is_signed : ℤ → Bool
is_signed (pos n) = nat_lt n (2 ^ 63)
is_signed (negsuc n) = nat_lt n (2 ^ 63)

-- "a difference whose seconds don't fit 64 signed bits is 32, place 0"; seconds and fraction are 0 then
abbrev pub too_far : Given
too_far = record { answer = refusal 32 4 0; seconds = pos 0; fraction = 0 }

abbrev pub given : Time → Given
given x = cond (is_signed x.seconds) (record { answer = accepted 0; seconds = x.seconds; fraction = x.fraction }) too_far

-- what `stamp_difference` answers for the four integers of the first stamp and those of the second
unfoldable pub difference : ℤ → ℤ → ℕ → ℕ → ℤ → ℤ → ℕ → ℕ → Given
difference a b c d e f g h = given (less (time_of a b c d) (time_of e f g h))
