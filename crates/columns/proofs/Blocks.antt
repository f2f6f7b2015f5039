-- What the loop that turns some elements at a time keeps: with those that are left, the output becomes what is promised. Over the widths of
-- an element's numbers. Rests on the law that elements may be turned column by column.
use mathlib.Core.Path.{◌≡◌, refl, sym, ap, ◌∙◌}
use mathlib.Core.List.{List}
use Prim.Native.Nat.{ℕ, ◌+◌, ◌-◌, ◌*◌, ◌<◌, ◌≤◌}
use native.Mathlib.Nat.{add-mul, mul-le-mul_right}
use native.Mathlib.Omega.{arith}
use lib.ListN.{length}
use Rattle.columns.specs.inner.Columns.{total, turned_elements, turned_columns, Spread, Laid}
use Rattle.columns.proofs.Elements.{columns-elements, columns-length, elements-split}

-- `rest` of them are left, from `at` on
pub record BlocksLoop (ws : List ℕ) (step : ℕ) (s before : List ℕ) (n from : ℕ) (out : List ℕ) (at rest : ℕ) : Type 0 where
  pub laid : Laid s out at step rest
  pub same : turned_elements ws s step rest at out ≡ turned_elements ws s step n from before

pub blocks-begin : {ws : List ℕ} {step : ℕ} {s before : List ℕ} {n from : ℕ} → Laid s before from step n → BlocksLoop ws step s before n from before from n
blocks-begin laid = record { laid = laid; same = refl }

module _ {ws : List ℕ} {step : ℕ} {s before : List ℕ} {n from : ℕ} {out : List ℕ} {at rest : ℕ} (whole : total ws ≡ step)
    (loop : BlocksLoop ws step s before n from out at rest) where
  -- the first m of them
  pub blocks-fit : {m : ℕ} → m ≤ rest → at + m * step ≤ length s
  blocks-fit few = omega (arith, loop.laid.inside, mul-le-mul_right step few)

  pub blocks-here : {m : ℕ} → m ≤ rest → Spread s out (at + total ws) step m
  blocks-here few =
      let one : 1 * step ≤ rest * step = mul-le-mul_right step loop.laid.some in
      record {
        inside = omega (arith, blocks-fit few, whole);
        near = omega (arith, one, loop.laid.inside);
        room = loop.laid.room;
      }

  elements : (m : ℕ) (after : List ℕ) → after ≡ turned_columns ws s step m at out → after ≡ turned_elements ws s step m at out
  elements m after e = e ∙ columns-elements s ws step m at out (omega (arith, whole))

  -- were turned
  pub blocks-next : {m : ℕ} → m < rest → {after : List ℕ} → after ≡ turned_columns ws s step m at out
      → BlocksLoop ws step s before n from after (at + m * step) (rest - m)
  blocks-next {m} more {after} e =
      let long : length after ≡ length out = ap length e ∙ columns-length s ws step m at out in
      let parts : m + (rest - m) ≡ rest = omega arith in
      let sum : m * step + (rest - m) * step ≡ rest * step = sym (add-mul m (rest - m) step) ∙ ap (λ (k : ℕ). k * step) parts in
      record {
        laid = record { some = omega arith; inside = omega (arith, loop.laid.inside, sum); room = omega (arith, loop.laid.room, long) };
        same =
            ap (turned_elements ws s step (rest - m) (at + m * step)) (elements m after e)
            ∙ sym (elements-split s ws step m (rest - m) at out)
            ∙ ap (λ (k : ℕ). turned_elements ws s step k at out) parts
            ∙ loop.same;
      }

  -- and the last
  pub blocks_end : {after : List ℕ} → after ≡ turned_columns ws s step rest at out → after ≡ turned_elements ws s step n from before
  blocks_end {after} e = elements rest after e ∙ loop.same
