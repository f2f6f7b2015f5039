-- What holds of the codes: a test that is computed over every code of one byte, and the rules that it gives at each.
-- Rests on the table of widths, which ends below.
use mathlib.Core.Path.{◌≡◌, refl, sym, ap}
use mathlib.Core.Bool.{Bool, true, false, not, ◌&&◌, ◌||◌}
use Prim.Native.Nat.{ℕ, ◌%◌, ◌≤◌, ◌<◌}
use native.Mathlib.Decide.{dec_lt}
use native.Mathlib.Omega.{arith}
use borrow.Author.Tests.{eqb-true, ltb-true, le-leb, eq-eqb}
use lib.Dec.{ltb, eqb}
use Rattle.descriptor.specs.Codes.{Kind, kind_of, between, is_complex}
use Rattle.descriptor.proofs.Sizes.{and-true, both_true}
use Rattle.descriptor.specs.Width.{width_of}
use Rattle.descriptor.proofs.CodeKinds.{kind_number}
use Rattle.descriptor.proofs.Widths.{passes, each, none-past}
use Rattle.byte_order.specs.Reversal.{number_count}

-- a complex number's width is even; a code of numbers has a width; and an enumeration has one number
test : ℕ → Bool
test c =
    (not (is_complex c) || eqb (width_of c % 2) 0)
    && ((not (between 1 3 (kind_number (kind_of c))) || ltb 0 (width_of c))
    && (not (eqb (kind_number (kind_of c)) 2) || eqb (number_count c) 1))

-- the test, computed once
all_pass : passes test 256 ≡ true
unfolding passes test width_of kind_of kind_number number_count
all_pass = refl

-- a test that holds where another does
follows : (a b : Bool) → (not a || b) ≡ true → a ≡ true → b ≡ true
follows true b e h = e
follows false b e h = cc

module _ (c : ℕ) (h : c < 256) where
  parts : ((not (is_complex c) || eqb (width_of c % 2) 0) ≡ true)
      × ((not (between 1 3 (kind_number (kind_of c))) || ltb 0 (width_of c)) ≡ true)
      × ((not (eqb (kind_number (kind_of c)) 2) || eqb (number_count c) 1) ≡ true)
  unfolding test
  parts =
      let r = and-true (not (is_complex c) || eqb (width_of c % 2) 0) _ (each test 256 all_pass c h) in
      let s = and-true (not (between 1 3 (kind_number (kind_of c))) || ltb 0 (width_of c)) _ r.1 in
      (r.0, s.0, s.1)

  -- a code of numbers has a width
  pub some-width : 1 ≤ kind_number (kind_of c) → kind_number (kind_of c) ≤ 3 → 0 < width_of c
  some-width l k = ltb-true 0 (width_of c) (follows _ _ parts.1 (both_true (le-leb 1 _ l) (le-leb _ 3 k)))

  -- an enumeration has one number
  pub one_number : kind_of c ≡ Kind.enumeration → 1 ≡ number_count c
  unfolding kind_number
  one_number k = sym (eqb-true _ 1 (follows _ _ parts.2 (eq-eqb _ 2 (ap kind_number k))))

-- a complex number is of two halves
pub halves : (c : ℕ) → is_complex c ≡ true → width_of c % 2 ≡ 0
halves c e = go (dec_lt c 256)
  where
    go : Dec (c < 256) → width_of c % 2 ≡ 0
    go (yes h) = eqb-true (width_of c % 2) 0 (follows _ _ (parts c h).0 e)
    go (no h) = omega (arith, none-past c (omega arith))
