-- What the loop over the numbers at one place of every element keeps: with those that are left, the output becomes what is promised. Over
-- the width and the step.
use mathlib.Core.Path.{◌≡◌, refl, ap, ◌∙◌}
use mathlib.Core.List.{List, reverse}
use Prim.Native.Nat.{ℕ, zero, suc, ◌+◌, ◌*◌, ◌/◌, ◌≤◌}
use native.Mathlib.Nat.{suc-add, suc-mul}
use native.Mathlib.Omega.{arith}
use lib.ListN.{length, take, drop}
use lib.Seq.{length-sets}
use Rattle.byte_order.specs.inner.Turning.{turned_at}
use Rattle.columns.specs.inner.Columns.{copies, turned_column, turned_columns, Spread}
use Rattle.byte_order.specs.Reversal.{number_count, number_width}
use Rattle.byte_order.proofs.Widths.{Halved, Whole}

-- in an output that is as long
pub spread-as : (s out after : List ℕ) (stop end step n : ℕ) → length after ≡ length out → end ≤ stop → Spread s out stop step n → Spread s after end step n
spread-as s out after stop end step n long e h = record { inside = omega (arith, h.inside); near = h.near; room = omega (arith, h.room) }

-- no number, and one more
pub column-none : (w : ℕ) (s : List ℕ) (step at : ℕ) (out : List ℕ) → out ≡ turned_column w s step 0 at out
unfolding turned_column
column-none w s step at out = refl

pub column-next : (w : ℕ) (s : List ℕ) (step i at : ℕ) (out : List ℕ)
    → turned_at w s (at + i * step) (turned_column w s step i at out) ≡ turned_column w s step (i + 1) at out
unfolding turned_column
column-next w s step zero at out = let here : at + 0 * step ≡ at = omega arith in ap (λ (p : ℕ). turned_at w s p out) here
column-next w s step (suc i) at out =
    let place : at + suc i * step ≡ at + step + i * step = omega (arith, suc-mul i step) in
    rw (place, suc-add i 1) (column-next w s step i (at + step) (turned_at w s at out))

-- a column leaves the output as long
pub column-length : (w : ℕ) (s : List ℕ) (step n at : ℕ) (out : List ℕ) → length (turned_column w s step n at out) ≡ length out
unfolding turned_column
column-length w s step zero at out = refl
column-length w s step (suc n) at out =
    column-length w s step n (at + step) (turned_at w s at out) ∙ length-sets out at (reverse (take w (drop at s)))

-- the numbers of scalars are one column, or two
module _ {c w : ℕ} (s : List ℕ) (step n at : ℕ) (out : List ℕ) where
  pub halves-columns : Halved c w 1
      → turned_column (w / 2) s step n (at + w / 2) (turned_column (w / 2) s step n at out) ≡ turned_columns (copies (number_count c) (number_width c)) s step n at out
  unfolding turned_columns copies
  halves-columns all =
      let two : 2 ≡ number_count c = omega (arith, all.count) in
      λ i. turned_columns (copies (two i) (all.width i)) s step n at out

  pub whole-column : Whole c w 1 → turned_column w s step n at out ≡ turned_columns (copies (number_count c) (number_width c)) s step n at out
  unfolding turned_columns copies
  whole-column all =
      let one : 1 ≡ number_count c = omega (arith, all.count) in
      λ i. turned_columns (copies (one i) (all.width i)) s step n at out
