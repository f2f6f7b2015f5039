-- Where the numbers of a column stand: in elements of a fixed extent, which fit, or beside the string of each.
use Rattle.std.specs.Prelude.{◌≡◌, Bool, List, ℕ, ◌+◌, ◌*◌, ◌≤◌, length}
use Rattle.flattened.specs.Order.{Order}
use Rattle.flattened.specs.inner.Columns.{beyond, EachBelow}
use Rattle.flattened.specs.declared.extent.Extent.{Extent}
use Rattle.flattened.specs.declared.extent.Extent.TheVariants.{Varies, Fixed, Around}

-- the first element lies in s, and all n do where their extent is fixed
unfoldable pub Roomy : List ℕ → Extent → ℕ → ℕ → Type 0
Roomy s Varies at n = at ≤ length s
Roomy s (Fixed w k j) at n = at + n * w ≤ length s
Roomy s (Around b a k j) at n = at ≤ length s

-- a number of w bytes past `front` stands in the bytes before a string, or in those after it
unfoldable pub Beside : Extent → ℕ → ℕ → ℕ → Type 0
Beside Varies before after w = ⊥
Beside (Fixed f k j) before after w = f + w ≤ before
Beside (Around b a k j) before after w = (b ≡ before) × (a + w ≤ after)

-- it stands at r, in each element with such a string that lies from `start` to `end`
pub record StandsIn (front : Extent) (before after w start end r : ℕ) : Type 0 where
  pub inside : r + w ≤ end
  pub place : (o : Order) (s : List ℕ) (k : ℕ) (j : Bool) → end ≡ beyond o s (Around before after k j) start → r ≡ beyond o s front start

-- the number is below a limit in each of n elements, whatever their tokens and whether or not they are judged
abbrev pub BelowFixed : Order → List ℕ → Extent → ℕ → ℕ → ℕ → ℕ → ℕ → Type 0
BelowFixed o s front step at w limit n = (k : ℕ) (j : Bool) → EachBelow o s front (Fixed step k j) at w limit n

abbrev pub BelowAround : Order → List ℕ → Extent → ℕ → ℕ → ℕ → ℕ → ℕ → ℕ → Type 0
BelowAround o s front before after at w limit n = (k : ℕ) (j : Bool) → EachBelow o s front (Around before after k j) at w limit n
