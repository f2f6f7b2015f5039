-- Request 1, the time between two stamps: "the exact difference of two stamps, each given as its four integers, as seconds and fraction, first
-- less second, its fraction from 0 up to one second." Rests on what `timestamp` proves of times. The halves of a fraction are below 2^32,
-- as numbers of 32 bits are.
use mathlib.Core.Path.{◌≡◌, refl}
use mathlib.Core.Logic.{◌≢◌}
use mathlib.Core.Bool.{Bool, true, false, cond}
use Prim.Native.Nat.{ℕ, ◌+◌, ◌*◌, ◌^◌, ◌<◌}
use native.Mathlib.Omega.{arith}
use lib.IntN.{ℤ}
use Rattle.descriptor.specs.Answers.{accepted}
use Rattle.timestamp.specs.Difference.{Time, time_of, less, is_signed, too_far, given, difference}
use Rattle.timestamp.proofs.Exact.{Is, given_so, given_is, refused_none}

-- the fraction of two halves is below one second
below : (c d : ℕ) → c < 2 ^ 32 → d < 2 ^ 32 → c * 2 ^ 32 + d < 2 ^ 64
below c d h k = omega arith

-- a difference is given or refused with 32
refused-so : (x : Time) → (given x).answer.number ≢ 0 → given x ≡ too_far
refused-so x = go (is_signed x.seconds)
  where
    go : (b : Bool) → (cond b (record { answer = accepted 0; seconds = x.seconds; fraction = x.fraction }) too_far).answer.number ≢ 0
        → cond b (record { answer = accepted 0; seconds = x.seconds; fraction = x.fraction }) too_far ≡ too_far
    go true e = absurd (e refl)
    go false e = refl

-- the eight integers
module _ (a b : ℤ) (c d : ℕ) (e f : ℤ) (g h : ℕ) (c-fits : c < 2 ^ 32) (d-fits : d < 2 ^ 32) (g-fits : g < 2 ^ 32) (h_fits : h < 2 ^ 32) where
  -- seconds of 64 signed bits and a fraction below one second that are the first less the second
  abbrev pub Between : ℤ → ℕ → Type 0
  Between = Is (time_of a b c d) (time_of e f g h)

  -- what is given is that
  pub difference-is : (difference a b c d e f g h).answer.number ≡ 0 → Between (difference a b c d e f g h).seconds (difference a b c d e f g h).fraction
  unfolding difference
  difference-is = given_is (time_of a b c d) (time_of e f g h) (below c d c-fits d-fits) (below g h g-fits h_fits)

  -- where there is such, it is given
  pub difference-given : (k : ℤ) (n : ℕ) → Between k n → difference a b c d e f g h ≡ record { answer = accepted 0; seconds = k; fraction = n }
  unfolding difference
  difference-given = given_so (time_of a b c d) (time_of e f g h) (below c d c-fits d-fits) (below g h g-fits h_fits)

  -- "a difference whose seconds don't fit 64 signed bits is 32": any refusal is that one, and then there is none
  pub difference-refused : (difference a b c d e f g h).answer.number ≢ 0 → (difference a b c d e f g h ≡ too_far) × ((k : ℤ) (n : ℕ) → Between k n → ⊥)
  unfolding difference
  difference-refused r =
      let so : difference a b c d e f g h ≡ too_far = refused-so (less (time_of a b c d) (time_of e f g h)) r in
      (so, refused_none (time_of a b c d) (time_of e f g h) (below c d c-fits d-fits) (below g h g-fits h_fits) so)
