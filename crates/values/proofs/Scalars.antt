-- The numbers of a scalar fill its width. Rests on the table of widths and on the laws of numbers in a row.
use mathlib.Core.Path.{◌≡◌, refl, sym, ap, ap₂, ◌∙◌}
use mathlib.Core.Bool.{Bool, true, false, cond}
use mathlib.Core.List.{List, [], ◌∷◌}
use Prim.Native.Nat.{ℕ, ◌*◌, ◌/◌, ◌<◌}
use native.Mathlib.Omega.{arith}
use lib.ListN.{length}
use Rattle.descriptor.specs.Codes.{Kind, kind_of}
use Rattle.descriptor.specs.Encoding.{Bytes}
use Rattle.descriptor.specs.Width.{width_of}
use Rattle.flattened.specs.Order.{Order, number_at}
use Rattle.descriptor.specs.Codes.{is_complex}
use Rattle.byte_order.specs.Reversal.{number_count, number_width}
use Rattle.values.specs.Value.{Scalar, in_order}
use Rattle.values.proofs.Codes.{one_number, halves}
use Rattle.values.proofs.Numbers.{length-in_order, numbers_at, length-numbers_at, numbers-bound}

-- a scalar's numbers fill its width
pub fill-width : (c : ℕ) → number_count c * number_width c ≡ width_of c
unfolding number_count number_width
fill-width c = go (is_complex c) refl
  where
    go : (b : Bool) → is_complex c ≡ b → cond b 2 1 * cond b (width_of c / 2) (width_of c) ≡ width_of c
    go true e = omega (arith, halves c e)
    go false e = omega arith

-- a lone number is as wide as its code
pub lone-width : (c : ℕ) → 1 ≡ number_count c → number_width c ≡ width_of c
lone-width c e = omega (arith, ap (λ (k : ℕ). k * number_width c) e ∙ fill-width c)

-- its bytes
pub scalar-length : (o : Order) (c : ℕ) (ns : List ℕ) → length ns ≡ number_count c → length (in_order o (number_width c) ns) ≡ width_of c
scalar-length o c ns h = length-in_order o (number_width c) ns ∙ ap (λ (k : ℕ). k * number_width c) h ∙ fill-width c

-- the numbers of the code c at p
abbrev pub scalar_numbers : Order → List ℕ → ℕ → ℕ → List ℕ
scalar_numbers o s c p = numbers_at o s (number_width c) (number_count c) p

-- are a scalar's
pub scalar-there : (o : Order) (s : List ℕ) → Bytes s → (p c : ℕ) → Scalar c (scalar_numbers o s c p)
scalar-there o s b p c =
    record { many = length-numbers_at o s (number_width c) (number_count c) p; below = numbers-bound s b o (number_width c) (number_count c) p }

-- an enumeration's number, which is as wide as its code
module _ (c : ℕ) (h : c < 256) (k : kind_of c ≡ Kind.enumeration) (o : Order) (s : List ℕ) (p : ℕ) where
  pub enumeration-number : scalar_numbers o s c p ≡ number_at o s p (width_of c) ∷ []
  unfolding numbers_at
  enumeration-number =
      let one = one_number c h k in
      ap₂ (λ (w j : ℕ). numbers_at o s w j p) (lone-width c one) (sym one)
