-- Elements turned column by column are the elements turned one after another: numbers that stand apart may be turned in either order. Over
-- the widths of an element's numbers. Rests on stores that stand apart.
use mathlib.Core.Path.{◌≡◌, refl, sym, ap, ap₂, ◌∙◌}
use mathlib.Core.List.{List, [], ◌∷◌, ◌++◌, reverse}
use Prim.Native.Nat.{ℕ, zero, suc, ◌+◌, ◌*◌, ◌≤◌}
use native.Mathlib.Nat.{add-zero, zero-add, suc-add, suc-mul}
use native.Mathlib.Omega.{arith}
use lib.ListN.{length, set, take, drop, length-take, length-reverse}
use lib.Seq.{sets}
use Rattle.number.proofs.Writing.{sets-past}
use Rattle.byte_order.specs.inner.Turning.{turned_at, turned_run}
use Rattle.columns.specs.inner.Columns.{copies, total, turned_numbers, turned_elements, turned_column, turned_columns}
use Rattle.columns.proofs.ColumnTurns.{column-length}
use Rattle.byte_order.proofs.RunTurns.{run-split}

-- one run of stores past another
sets-apart : (l : List ℕ) (at : ℕ) (xs : List ℕ) (p : ℕ) (ys : List ℕ) → at + length xs ≤ p → sets (sets l p ys) at xs ≡ sets (sets l at xs) p ys
sets-apart l at xs p [] h = refl
sets-apart l at xs p (y ∷ ys) h =
    sets-apart (set l p y) at xs (suc p) ys (omega arith) ∙ ap (λ (r : List ℕ). sets r (suc p) ys) (sets-past l at xs p y h)

-- the bytes of widths one after another
pub total-append : (us ws : List ℕ) → total (us ++ ws) ≡ total us + total ws
unfolding total
total-append [] ws = sym (zero-add (total ws))
total-append (u ∷ us) ws = omega (arith, total-append us ws)

pub total-copies : (k w : ℕ) → total (copies k w) ≡ k * w
unfolding total copies
total-copies zero w = omega arith
total-copies (suc k) w = omega (arith, total-copies k w, suc-mul k w)

module _ (s : List ℕ) where
  -- two numbers
  at-apart : (w at v p : ℕ) (out : List ℕ) → at + w ≤ p → turned_at w s at (turned_at v s p out) ≡ turned_at v s p (turned_at w s at out)
  at-apart w at v p out h =
      let bytes : List ℕ = take w (drop at s) in
      sets-apart out at (reverse bytes) p (reverse (take v (drop p s))) (omega (arith, length-reverse bytes, length-take w (drop at s)))

  -- numbers and then others
  pub numbers-append : (us ws : List ℕ) (at : ℕ) (out : List ℕ)
      → turned_numbers (us ++ ws) s at out ≡ turned_numbers ws s (at + total us) (turned_numbers us s at out)
  unfolding turned_numbers total
  numbers-append [] ws at out = ap (λ (p : ℕ). turned_numbers ws s p out) (sym (add-zero at))
  numbers-append (u ∷ us) ws at out =
      let place : at + u + total us ≡ at + (u + total us) = omega arith in
      let one : List ℕ = turned_at u s at out in
      numbers-append us ws (at + u) one ∙ ap (λ (p : ℕ). turned_numbers ws s p (turned_numbers us s (at + u) one)) place

  -- the numbers of an element and one past them
  numbers_apart : (ws : List ℕ) (at v p : ℕ) (out : List ℕ) → at + total ws ≤ p
      → turned_numbers ws s at (turned_at v s p out) ≡ turned_at v s p (turned_numbers ws s at out)
  unfolding turned_numbers total
  numbers_apart [] at v p out h = refl
  numbers_apart (w ∷ ws) at v p out h =
      ap (turned_numbers ws s (at + w)) (at-apart w at v p out (omega arith))
      ∙ numbers_apart ws (at + w) v p (turned_at w s at out) (omega arith)

  -- and a column of which none stands before their end
  column_apart : (ws : List ℕ) (at v step n p : ℕ) (out : List ℕ) → at + total ws ≤ p
      → turned_numbers ws s at (turned_column v s step n p out) ≡ turned_column v s step n p (turned_numbers ws s at out)
  unfolding turned_column
  column_apart ws at v step zero p out h = refl
  column_apart ws at v step (suc n) p out h =
      column_apart ws at v step n (p + step) (turned_at v s p out) (omega arith)
      ∙ ap (turned_column v s step n (p + step)) (numbers_apart ws at v p out h)

  -- the columns of no elements
  columns-none : (ws : List ℕ) (step at : ℕ) (out : List ℕ) → turned_columns ws s step 0 at out ≡ out
  unfolding turned_columns turned_column
  columns-none [] step at out = refl
  columns-none (w ∷ ws) step at out = columns-none ws step (at + w) out

  -- the first element, and the columns of the others
  columns-first : (ws : List ℕ) (step n at : ℕ) (out : List ℕ) → total ws ≤ step
      → turned_columns ws s step (suc n) at out ≡ turned_columns ws s step n (at + step) (turned_numbers ws s at out)
  unfolding turned_columns turned_column turned_numbers total
  columns-first [] step n at out h = refl
  columns-first (w ∷ ws) step n at out h =
      let one : List ℕ = turned_at w s at out in
      let place : at + w + step ≡ at + step + w = omega arith in
      columns-first ws step n (at + w) (turned_column w s step n (at + step) one) (omega arith)
      ∙ ap₂ (λ (p : ℕ) (x : List ℕ). turned_columns ws s step n p x) place (column_apart ws (at + w) w step n (at + step) one (omega arith))

  -- elements, column by column or one by one
  pub columns-elements : (ws : List ℕ) (step n at : ℕ) (out : List ℕ) → total ws ≤ step
      → turned_columns ws s step n at out ≡ turned_elements ws s step n at out
  unfolding turned_elements
  columns-elements ws step zero at out h = columns-none ws step at out
  columns-elements ws step (suc n) at out h =
      columns-first ws step n at out h ∙ columns-elements ws step n (at + step) (turned_numbers ws s at out) h

  -- columns and then others
  pub columns-append : (us ws : List ℕ) (step n at : ℕ) (out : List ℕ)
      → turned_columns (us ++ ws) s step n at out ≡ turned_columns ws s step n (at + total us) (turned_columns us s step n at out)
  unfolding turned_columns total
  columns-append [] ws step n at out = ap (λ (p : ℕ). turned_columns ws s step n p out) (sym (add-zero at))
  columns-append (u ∷ us) ws step n at out =
      let place : at + u + total us ≡ at + (u + total us) = omega arith in
      let one : List ℕ = turned_column u s step n at out in
      columns-append us ws step n (at + u) one ∙ ap (λ (p : ℕ). turned_columns ws s step n p (turned_columns us s step n (at + u) one)) place

  -- they leave the output as long
  pub columns-length : (ws : List ℕ) (step n at : ℕ) (out : List ℕ) → length (turned_columns ws s step n at out) ≡ length out
  unfolding turned_columns
  columns-length [] step n at out = refl
  columns-length (w ∷ ws) step n at out =
      columns-length ws step n (at + w) (turned_column w s step n at out) ∙ column-length w s step n at out

  -- m elements and n more
  pub elements-split : (ws : List ℕ) (step m n at : ℕ) (out : List ℕ)
      → turned_elements ws s step (m + n) at out ≡ turned_elements ws s step n (at + m * step) (turned_elements ws s step m at out)
  unfolding turned_elements
  elements-split ws step zero n at out =
      let here : at ≡ at + 0 * step = omega arith in
      ap₂ (λ (k p : ℕ). turned_elements ws s step k p out) (zero-add n) here
  elements-split ws step (suc m) n at out =
      let next : at + step + m * step ≡ at + suc m * step = omega (arith, suc-mul m step) in
      let one : List ℕ = turned_numbers ws s at out in
      ap (λ (k : ℕ). turned_elements ws s step k at out) (suc-add m n)
      ∙ elements-split ws step m n (at + step) one
      ∙ ap (λ (p : ℕ). turned_elements ws s step n p (turned_elements ws s step m (at + step) one)) next

  -- numbers of one width are a run
  pub numbers-run : (k w at : ℕ) (out : List ℕ) → turned_numbers (copies k w) s at out ≡ turned_run w s k at out
  unfolding turned_numbers copies turned_run
  numbers-run zero w at out = refl
  numbers-run (suc k) w at out = numbers-run k w (at + w) (turned_at w s at out)

  -- and so are elements of them
  pub elements-run : (k w step n at : ℕ) (out : List ℕ) → step ≡ k * w → turned_elements (copies k w) s step n at out ≡ turned_run w s (n * k) at out
  unfolding turned_elements turned_run
  elements-run k w step zero at out e = let none : 0 ≡ 0 * k = omega arith in ap (λ (j : ℕ). turned_run w s j at out) none
  elements-run k w step (suc n) at out e =
      let count : k + n * k ≡ suc n * k = omega (arith, suc-mul n k) in
      let place : at + step ≡ at + k * w = omega arith in
      elements-run k w step n (at + step) (turned_numbers (copies k w) s at out) e
      ∙ ap₂ (λ (p : ℕ) (x : List ℕ). turned_run w s (n * k) p x) place (numbers-run k w at out)
      ∙ sym (run-split s w k (n * k) at out)
      ∙ ap (λ (j : ℕ). turned_run w s j at out) count
