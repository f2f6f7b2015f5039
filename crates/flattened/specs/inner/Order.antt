-- Numbers in a byte order as the code reads them: the order that it is told, and the widths.
use Rattle.std.specs.Prelude.{◌≡◌, ℕ}
use Rattle.flattened.specs.Order.{Order, big, little}
use Rattle.flattened.specs.declared.order.Order as code
use Rattle.flattened.specs.declared.order.Order.TheVariants.{Big, Little}

unfoldable pub order_of : code.Order → Order
order_of Big = big
order_of Little = little

-- one, two or four bytes: the widths of numbers that are judged
pub record Narrow (w : ℕ) : Type 0 where
  pub else : (w ≡ 1 → ⊥) → (w ≡ 2 → ⊥) → w ≡ 4
