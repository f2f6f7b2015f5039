-- An array's element count may be cut at 2^32: data is shorter, and every element takes at least one byte, so more elements than the data
-- has bytes are refused alike, however many they are. Rests on the definitions of the walk alone.
use mathlib.Core.Path.{◌≡◌, refl, ap}
use mathlib.Core.List.{List, ◌++◌}
use Prim.Native.Nat.{ℕ, zero, suc, ◌+◌, ◌<◌, ◌≤◌, min}
use native.Mathlib.Nat.{min-eq_left, min-eq_right}
use native.Mathlib.Decide.{dec_le}
use native.Mathlib.Omega.{arith}
use lib.ListN.{length}
use Rattle.descriptor.specs.Limits.{data_limit}
use Rattle.descriptor.specs.Outcome.{Outcome, read, and_then}
use Rattle.descriptor.proofs.Outcomes.{Holds, nothing, reading}
use Rattle.flattened.specs.Token.{Token}
use Rattle.flattened.specs.Walk.{follow, repeat}
use Rattle.flattened.specs.inner.Sizes.{element_cap}
use Rattle.flattened.proofs.Forward.{Forward}

module _ (s : List ℕ) (f : ℕ → Outcome (List Token)) (each : (a : ℕ) → a ≤ length s → Holds (λ q ts. Forward s 1 a q ts) (f a)) where
  -- more walks in a row than bytes are left
  pub repeat-beyond : (m n at : ℕ) → at ≤ length s → length s < at + m → length s < at + n → repeat f m at ≡ repeat f n at
  unfolding repeat
  repeat-beyond zero n at h a b = absurd (omega arith)
  repeat-beyond (suc m) zero at h a b = absurd (omega arith)
  repeat-beyond (suc m) (suc n) at h a b =
      go (each at h) (λ q ts e. repeat-beyond m n q e.inside (omega (arith, e.many, e.tokens)) (omega (arith, e.many, e.tokens)))
    where
      go : {o : Outcome (List Token)} → Holds (λ q ts. Forward s 1 at q ts) o
          → ((q : ℕ) (ts : List Token) → Forward s 1 at q ts → repeat f m q ≡ repeat f n q)
          → follow o (λ p. repeat f m p) ≡ follow o (λ p. repeat f n p)
      go nothing rest = refl
      go (reading {q = q} {x = ts} e) rest =
          ap (λ (u : Outcome (List Token)). and_then u (λ last us. read last (ts ++ us))) (rest q ts e)

  -- the count, or the count cut at 2^32
  pub repeat-capped : length s ≤ data_limit → (n at : ℕ) → at ≤ length s → repeat f n at ≡ repeat f (min n element_cap) at
  repeat-capped short n at h = go (dec_le n element_cap)
    where
      go : Dec (n ≤ element_cap) → repeat f n at ≡ repeat f (min n element_cap) at
      go (yes l) = rw (min-eq_left l) refl
      go (no l) =
          let over : element_cap ≤ n = omega arith in
          rw (min-eq_right over) (repeat-beyond n element_cap at h (omega arith) (omega arith))
