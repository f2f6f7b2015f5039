-- Parts of bytes into which others were set: before them, after them, and they themselves. What store_add writes is set so, document 02, CR 4.
-- Rests on the list library and on the laws of parts.
use mathlib.Core.Path.{◌≡◌, sym, ap, ◌∙◌}
use mathlib.Core.List.{List, ◌++◌, append_assoc}
use Prim.Native.Nat.{ℕ, ◌+◌, ◌-◌, ◌≤◌}
use native.Mathlib.Omega.{arith}
use lib.ListN.{length, take, drop, length-append, length-take}
use lib.Seq.{slice, sets, sets-eq, length-take-le, take-append-le, take-take, take-append_seam, drop_at, drop-drop}
use Rattle.encoding.proofs.Slices.{slice-take}

-- the bytes from p to q are clear of those from `low` to `high`
pub data Clear (p q low high : ℕ) : Type 0 where
  before : q ≤ low → Clear p q low high
  past : high ≤ p → Clear p q low high

-- the bytes x set at `at`, where they fit
module _ (s : List ℕ) (at : ℕ) (x : List ℕ) (fits : at + length x ≤ length s) where
  sets-parts : sets s at x ≡ take at s ++ (x ++ drop (at + length x) s)
  sets-parts = sets-eq x s at fits ∙ append_assoc (take at s) x (drop (at + length x) s)

  -- what stands before them
  pub sets-before : (p q : ℕ) → q ≤ at → slice p q (sets s at x) ≡ slice p q s
  sets-before p q h =
      let long : length (take at s) ≡ at = length-take-le at s (omega arith) in
      ap (slice p q) sets-parts ∙ ap (drop p) (take-append-le q (take at s) (x ++ drop (at + length x) s) (omega arith) ∙ take-take q at s h)

  -- the bytes from their end on
  drop-sets : drop (at + length x) (sets s at x) ≡ drop (at + length x) s
  drop-sets =
      let long : length (take at s ++ x) ≡ at + length x = simp (length-append, length-take) (omega arith) in
      ap (drop (at + length x)) (sets-parts ∙ sym (append_assoc (take at s) x (drop (at + length x) s)))
      ∙ drop_at (take at s ++ x) (drop (at + length x) s) (at + length x) long

  -- what stands after them
  pub sets-after : (p q : ℕ) → at + length x ≤ p → p ≤ q → slice p q (sets s at x) ≡ slice p q s
  sets-after p q h k =
      let from : at + length x + (p - (at + length x)) ≡ p = omega arith in
      let upto : p + (q - p) ≡ q = omega arith in
      let rest : drop p (sets s at x) ≡ drop p s =
      ap (λ (j : ℕ). drop j (sets s at x)) (sym from)
      ∙ sym (drop-drop (p - (at + length x)) (at + length x) (sets s at x))
      ∙ ap (drop (p - (at + length x))) drop-sets
      ∙ drop-drop (p - (at + length x)) (at + length x) s
      ∙ ap (λ (j : ℕ). drop j s) from in
      ap (λ (j : ℕ). slice p j (sets s at x)) (sym upto)
      ∙ slice-take p (q - p) (sets s at x)
      ∙ ap (take (q - p)) rest
      ∙ sym (slice-take p (q - p) s)
      ∙ ap (λ (j : ℕ). slice p j s) upto

  -- they themselves
  pub sets-there : slice at (at + length x) (sets s at x) ≡ x
  sets-there =
      ap (slice at (at + length x)) sets-parts
      ∙ slice-take at (length x) (take at s ++ (x ++ drop (at + length x) s))
      ∙ ap (take (length x)) (drop_at (take at s) (x ++ drop (at + length x) s) at (length-take-le at s (omega arith)))
      ∙ take-append_seam x (drop (at + length x) s)

  -- what is clear of them
  pub sets-clear : (p q : ℕ) → p ≤ q → Clear p q at (at + length x) → slice p q (sets s at x) ≡ slice p q s
  sets-clear p q h (before k) = sets-before p q k
  sets-clear p q h (past k) = sets-after p q k h
