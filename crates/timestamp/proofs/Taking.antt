-- One time less another as the code has it: seconds that are handed on from 64 signed bits to 128, and the fraction modulo 2^64. Assumes nothing.
use Rattle.std.proofs.Common.{◌≡◌, ℕ, ◌+◌, ◌-◌, ◌%◌, ◌^◌, ◌<◌, ◌≤◌, cond, Bool, true, false, ℤ, pos, negsuc, ◌+ℤ◌, ◌-ℤ◌, ◌*ℤ◌, refl, arith, w32, w64, SFits, to_z, of_z, to_z-of_z, le-ltb, lt-ltb}
use mir.Syntax.{w128}
use mir.Val.{bool_byte}
use lib.Signed.{mag}
use Rattle.std.proofs.lemmas.Int.{ints}
use Rattle.descriptor.specs.Answers.{accepted}
use Rattle.timestamp.specs.Difference.{bits_of, Time, is_signed, too_far, given}

-- a number as it is handed on in 128 bits
abbrev pub wide : ℤ → ℤ
wide x = to_z w128 (of_z w128 x)

-- what is borrowed, as a number
pub borrowed-few : (t : Bool) → bool_byte t ≤ 1
borrowed-few true = omega arith
borrowed-few false = omega arith

pub borrowed-is : (t : Bool) → bool_byte t ≡ cond t 1 0
borrowed-is true = refl
borrowed-is false = refl

-- seconds less others and what is borrowed
module _ (x y : ℤ) {u v b : ℤ} {n : ℕ} (f : mag x < 2 ^ 63) (g : mag y < 2 ^ 63) (few : n ≤ 1) (e : u ≡ to_z w64 (of_z w64 x)) (h : v ≡ to_z w64 (of_z w64 y)) (k : b ≡ pos n) where
  pub less-fits : SFits w128 (wide (wide u -ℤ wide v) -ℤ wide b)
  less-fits =
      let p : SFits w64 x = record { sfits = f } in
      let q : SFits w64 y = record { sfits = g } in
      grind (arith, ints)

  pub less-is : wide (wide (wide u -ℤ wide v) -ℤ wide b) ≡ x -ℤ y -ℤ pos n
  less-is =
      let p : SFits w64 x = record { sfits = f } in
      let q : SFits w64 y = record { sfits = g } in
      omega (arith, ints)

-- seconds of halves that are handed on
pub seconds-handed : (a b : ℤ) → SFits w32 a → SFits w32 b → to_z w32 (of_z w32 a) *ℤ pos (2 ^ 32) +ℤ pos (bits_of (to_z w32 (of_z w32 b))) ≡ a *ℤ pos (2 ^ 32) +ℤ pos (bits_of b)
seconds-handed a b f g = simp to_z-of_z

-- what wraps back to x is the difference modulo 2^64
pub fraction-is : (r x y : ℕ) → (r + y) % 2 ^ 64 ≡ x → r < 2 ^ 64 → y < 2 ^ 64 → r ≡ (x + 2 ^ 64 - y) % 2 ^ 64
fraction-is r x y e h k = omega arith

-- what is given of seconds that fit, and of others
fit-signed : (z : ℤ) → SFits w64 z → is_signed z ≡ true
unfolding is_signed
fit-signed (pos n) f = lt-ltb n (2 ^ 63) f.sfits
fit-signed (negsuc n) f = lt-ltb n (2 ^ 63) f.sfits

le_of : {m n : ℕ} → (m < n → ⊥) → n ≤ m
le_of h = omega arith

far-signed : (z : ℤ) → (SFits w64 z → ⊥) → is_signed z ≡ false
unfolding is_signed
far-signed (pos n) f = le-ltb n (2 ^ 63) (le_of (λ h. f (record { sfits = h })))
far-signed (negsuc n) f = le-ltb n (2 ^ 63) (le_of (λ h. f (record { sfits = h })))

pub given-fit : (x : Time) → SFits w64 x.seconds → record { answer = accepted 0; seconds = x.seconds; fraction = x.fraction } ≡ given x
given-fit x f = rw (fit-signed x.seconds f)

pub given-far : (x : Time) → (SFits w64 x.seconds → ⊥) → too_far ≡ given x
given-far x f = rw (far-signed x.seconds f)
