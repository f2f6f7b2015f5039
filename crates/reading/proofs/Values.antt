-- The value of a code and a number, by the code's group; and a code whose numbers are wider than eight bytes has no value.
-- Rests on the definitions of the values and on the table of widths.
use mathlib.Core.Path.{◌≡◌, refl, sym, ap, subst}
use mathlib.Core.Bool.{Bool, true, false, not, ◌&&◌}
use mathlib.Core.Logic.{◌⊎◌, ⊎_elim}
use Prim.Native.Nat.{ℕ, ◌+◌, ◌<◌, ◌≤◌}
use native.Mathlib.Decide.{dec_lt}
use native.Mathlib.Omega.{arith}
use borrow.Author.Tests.{le-leb, lt-leb, ne_eqb, leb-true}
use lib.Dec.{leb, eqb}
use Rattle.number.specs.Signed.{signed}
use Rattle.number.specs.Float.{single_of, double_of}
use Rattle.descriptor.specs.Codes.{between}
use Rattle.descriptor.specs.Width.{width_of}
use Rattle.descriptor.proofs.Sizes.{and-true}
use Rattle.reading.specs.Values.{of_single, of_double, value_of, is_value}
use Rattle.reading.specs.declared.value.Value.{Value}
use Rattle.reading.specs.declared.value.Value.TheVariants.{Nothing, Unsigned, Signed, Single as SingleValue, SingleNan, Double as DoubleValue, DoubleNan, Flag}

-- what holds of a number and of the three after it
span : (P : ℕ → Type 0) (n : ℕ) → P n → P (n + 1) → P (n + 2) → P (n + 3) → (c : ℕ) → n ≤ c → c ≤ n + 3 → P c
span P n a b d e c low high = first (dec_lt n c)
  where
    third : Dec (n + 2 < c) → n + 1 < c → P c
    third (yes h) l = let same : n + 3 ≡ c = omega arith in subst P same e
    third (no h) l = let same : n + 2 ≡ c = omega arith in subst P same d

    second : Dec (n + 1 < c) → n < c → P c
    second (yes h) l = third (dec_lt (n + 2) c) h
    second (no h) l = let same : n + 1 ≡ c = omega arith in subst P same b

    first : Dec (n < c) → P c
    first (yes h) = second (dec_lt (n + 1) c) h
    first (no h) = let same : n ≡ c = omega arith in subst P same a

-- signed integers have from one to eight bytes
pub record Narrow (c : ℕ) : Type 0 where
  pub some : 1 ≤ width_of c
  pub most : width_of c ≤ 8

pub signed-narrow : (c : ℕ) → 1 ≤ c → c ≤ 4 → Narrow c
unfolding width_of
signed-narrow c l h =
    span (λ x. Narrow x) 1 (record { some = omega arith; most = omega arith }) (record { some = omega arith; most = omega arith })
    (record { some = omega arith; most = omega arith }) (record { some = omega arith; most = omega arith }) c l h

-- unsigned ones and enumerations at most eight
unsigned-most : (c : ℕ) → 5 ≤ c → c ≤ 8 → width_of c ≤ 8
unfolding width_of
unsigned-most c l h = span (λ x. width_of x ≤ 8) 5 (omega arith) (omega arith) (omega arith) (omega arith) c l h

enumeration-most : (c : ℕ) → 21 ≤ c → c ≤ 23 → width_of c ≤ 8
unfolding width_of
enumeration-most c l h = span (λ x. width_of x ≤ 8) 21 (omega arith) (omega arith) (omega arith) (omega arith) c l (omega arith)

-- singles have four bytes
pub single-width : (c : ℕ) → (c ≡ 9) ⊎ (c ≡ 25) → width_of c ≡ 4
unfolding width_of
single-width c e = ⊎_elim (λ h. ap width_of h) (λ h. ap width_of h) e

module _ (c v : ℕ) where
  pub value-signed : 1 ≤ c → c ≤ 4 → Signed (signed (width_of c) v) ≡ value_of c v
  unfolding value_of
  value-signed l h = sym (simp (le-leb 1 c l, le-leb c 4 h))

  pub value-unsigned : 5 ≤ c → c ≤ 8 → Unsigned v ≡ value_of c v
  unfolding value_of
  value-unsigned l h = sym (simp (le-leb 1 c (omega arith), lt-leb c 4 (omega arith), le-leb 5 c l, le-leb c 8 h))

  pub value-enumeration : 21 ≤ c → c ≤ 23 → Unsigned v ≡ value_of c v
  unfolding value_of
  value-enumeration l h =
      sym (simp (le-leb 1 c (omega arith), lt-leb c 4 (omega arith), le-leb 5 c (omega arith), lt-leb c 8 (omega arith), le-leb 21 c l, le-leb c 23 h))

  pub value-single : (c ≡ 9) ⊎ (c ≡ 25) → of_single (single_of v) ≡ value_of c v
  unfolding value_of
  value-single e = ⊎_elim (λ h. sym (ap (λ (x : ℕ). value_of x v) h)) (λ h. sym (ap (λ (x : ℕ). value_of x v) h)) e

  pub value-double : (c ≡ 10) ⊎ (c ≡ 26) → of_double (double_of v) ≡ value_of c v
  unfolding value_of
  value-double e = ⊎_elim (λ h. sym (ap (λ (x : ℕ). value_of x v) h)) (λ h. sym (ap (λ (x : ℕ). value_of x v) h)) e

  pub value-flag : c ≡ 33 → Flag (not (eqb v 0)) ≡ value_of c v
  unfolding value_of
  value-flag h = sym (ap (λ (x : ℕ). value_of x v) h)

  -- the other codes
  module _ (float : (c ≡ 9) ⊎ (c ≡ 25) → ⊥) (long : (c ≡ 10) ⊎ (c ≡ 26) → ⊥) (flag : c ≡ 33 → ⊥) where
    pub value_none : between 1 4 c ≡ false → between 5 8 c ≡ false → between 21 23 c ≡ false → Nothing ≡ value_of c v
    unfolding value_of
    value_none a b e =
        sym (simp (a, b, e, ne_eqb c 9 (λ h. float (◌⊎◌.inl h)), ne_eqb c 25 (λ h. float (◌⊎◌.inr h)), ne_eqb c 10 (λ h. long (◌⊎◌.inl h)), ne_eqb c 26 (λ h. long (◌⊎◌.inr h)), ne_eqb c 33 flag))

-- a code outside of bounds
pub below-range : (low high c : ℕ) → c < low → between low high c ≡ false
below-range low high c h = simp (lt-leb low c h)

pub above-range : (low high c : ℕ) → high < c → between low high c ≡ false
above-range low high c h = go (leb low c) (lt-leb c high h)
  where
    go : (a : Bool) {b : Bool} → b ≡ false → (a && b) ≡ false
    go true e = e
    go false e = refl

-- a code within bounds
pub inside : (low high c : ℕ) → between low high c ≡ true → (low ≤ c) × (c ≤ high)
inside low high c e = let parts = and-true (leb low c) (leb c high) e in (leb-true _ _ parts.0, leb-true _ _ parts.1)

-- a number of more than eight bytes is none that is read
pub value-wide : (c v : ℕ) → 8 < width_of c → Nothing ≡ value_of c v
unfolding width_of
value-wide c v wide =
    value_none c v (λ e. absurd (omega (arith, single-width c e))) (λ e. double e) (λ e. absurd (omega (arith, ap width_of e, one-wide)))
    (tests (between 1 4 c) refl (λ e. let l = inside 1 4 c e in over (signed-narrow c l.0 l.1).most))
    (tests (between 5 8 c) refl (λ e. let l = inside 5 8 c e in over (unsigned-most c l.0 l.1)))
    (tests (between 21 23 c) refl (λ e. let l = inside 21 23 c e in over (enumeration-most c l.0 l.1)))
  where
    over : width_of c ≤ 8 → ⊥
    over n = omega arith

    one-wide : width_of 33 ≡ 1
    one-wide = refl

    double : (c ≡ 10) ⊎ (c ≡ 26) → ⊥
    double e = let w : width_of c ≡ 8 = ⊎_elim (λ h. ap width_of h) (λ h. ap width_of h) e in omega arith

    tests : (b : Bool) → {x : Bool} → x ≡ b → (x ≡ true → ⊥) → x ≡ false
    tests true e h = absurd (h e)
    tests false e h = e

-- a value that is not `Nothing` is one
pub is-value : (v : Value) → (v ≡ Nothing → ⊥) → is_value v ≡ true
unfolding is_value
is-value Nothing h = absurd (h refl)
is-value (Unsigned n) h = refl
is-value (Signed z) h = refl
is-value (SingleValue x) h = refl
is-value (SingleNan b) h = refl
is-value (DoubleValue x) h = refl
is-value (DoubleNan b) h = refl
is-value (Flag b) h = refl

pub ruleset value_laws =
    (single-width, signed-narrow, value-signed, value-unsigned, value-enumeration, value-single, value-double, value-flag, value_none, below-range, above-range)
