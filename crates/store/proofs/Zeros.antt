-- Bytes of which none is larger than zero are zeros. Rests on the laws of the largest of numbers.
use mathlib.Core.Path.{◌≡◌, refl, sym, ap, ap₂, ◌∙◌}
use mathlib.Core.Bool.{Bool, true, false}
use mathlib.Core.List.{List, [], ◌∷◌, ◌++◌}
use Prim.Native.Nat.{ℕ, zero, suc, ◌+◌, ◌*◌, ◌≤◌, max}
use native.Mathlib.Omega.{arith}
use borrow.Author.Tests.{eqb-true, eq-eqb}
use lib.Dec.{eqb}
use lib.ListN.{length, length-replicate, replicate, replicate-append-replicate}
use lib.Seq.{slice, slice_empty}
use Rattle.number.specs.Endian.{be, be_bytes}
use Rattle.descriptor.specs.Encoding.{Bytes}
use Rattle.canonical.specs.Equality.{same_chars}
use Rattle.canonical.proofs.Same.{chars-same, chars-refl}
use Rattle.encoding.proofs.Slices.{slice-then, slice-split, slice-be, be-slice}
use Rattle.flattened.specs.Order.{big, number_at}
use Rattle.elements.specs.inner.Largest.{largest}

module _ (s : List ℕ) (bytes : Bytes s) (at : ℕ) where
  abbrev most : ℕ → ℕ
  most n = largest big s 1 1 at n

  -- zeros, and one more
  more-zeros : (n : ℕ) → replicate {A = ℕ} (suc n) 0 ≡ replicate n 0 ++ (0 ∷ [])
  more-zeros n =
      let one : n + 1 ≡ suc n = omega arith in
      ap (λ (k : ℕ). replicate k 0) (sym one) ∙ sym (replicate-append-replicate n 1 0)

  both_zero : (a b : ℕ) → max a b ≡ 0 → (a ≡ 0) × (b ≡ 0)
  both_zero a b e = (omega arith, omega arith)

  zeros-are : (n : ℕ) → at + n ≤ length s → most n ≡ 0 → slice at (at + n) s ≡ replicate n 0
  unfolding largest number_at be_bytes
  zeros-are zero room e = let none : at + 0 ≡ at = omega arith in ap (λ (k : ℕ). slice at k s) none ∙ slice_empty at s
  zeros-are (suc n) room e =
      let both = both_zero (most n) (be s (at + n * 1) 1) e in
      let place : at + n * 1 ≡ at + n = omega arith in
      let end : at + n + 1 ≡ at + suc n = omega arith in
      let last : slice (at + n) (at + suc n) s ≡ 0 ∷ [] =
      ap (λ (k : ℕ). slice (at + n) k s) (sym end) ∙ be-slice s bytes (at + n) 1 (omega arith)
      ∙ ap (be_bytes 1) (ap (λ (k : ℕ). be s k 1) (sym place) ∙ both.1) in
      slice-then at (at + n) (at + suc n) s (omega arith) (omega arith) (zeros-are n (omega arith) both.0) last ∙ sym (more-zeros n)

  are-zeros : (n : ℕ) → at + n ≤ length s → slice at (at + n) s ≡ replicate n 0 → most n ≡ 0
  unfolding largest number_at be_bytes
  are-zeros zero room e = refl
  are-zeros (suc n) room e =
      let place : at + n * 1 ≡ at + n = omega arith in
      let end : at + n + 1 ≡ at + suc n = omega arith in
      let parts = slice-split (replicate n 0) (0 ∷ []) at (at + n) (at + suc n) s (omega (arith, length-replicate {A = ℕ} n 0)) (omega arith) room (e ∙ more-zeros n) in
      let last : be s (at + n * 1) 1 ≡ 0 = ap (λ (k : ℕ). be s k 1) place ∙ slice-be s (at + n) 1 0 (ap (λ (k : ℕ). slice (at + n) k s) end ∙ parts.1) in
      ap₂ max (are-zeros n (omega arith) parts.0) last

  -- as the code asks
  pub zeros-so : (n : ℕ) → at + n ≤ length s → (m : ℕ) → m ≡ most n → eqb m 0 ≡ same_chars (slice at (at + n) s) (replicate n 0)
  zeros-so n room m e = of (eqb m 0) refl (same_chars (slice at (at + n) s) (replicate n 0)) refl
    where
      of : (a : Bool) → eqb m 0 ≡ a → (b : Bool) → same_chars (slice at (at + n) s) (replicate n 0) ≡ b → a ≡ b
      of true f true g = refl
      of false f false g = refl
      of true f false g =
          let all : slice at (at + n) s ≡ replicate n 0 = zeros-are n room (sym e ∙ eqb-true m 0 f) in
          sym (ap (λ (l : List ℕ). same_chars l (replicate n 0)) all ∙ chars-refl (replicate n 0)) ∙ g
      of false f true g = sym f ∙ eq-eqb m 0 (e ∙ are-zeros n room (chars-same _ _ g))
