-- What holds of the codes that data has: a test that is computed over the table of widths, and the rules that it gives at every code.
-- Rests on the table of widths, past which there is none.
use mathlib.Core.Path.{◌≡◌, refl, sym, ap, ◌∙◌}
use mathlib.Core.Bool.{Bool, true, false, cond, not, ◌&&◌, ◌||◌}
use Prim.Native.Nat.{ℕ, zero, suc, ◌≤◌, ◌<◌}
use native.Mathlib.Decide.{dec_lt}
use native.Mathlib.Omega.{arith}
use borrow.Author.Tests.{eqb-true, eqb-false, leb-true, le-leb, lt-leb, ne_eqb, eq-eqb, not-true, not-false}
use lib.Dec.{leb, eqb}
use Rattle.descriptor.specs.Codes.{Kind, plain, enumeration, quantity, string, array, cluster, stamp, unknown, kind_of}
use Rattle.descriptor.specs.inner.Steps.{is_enumeration}
use Rattle.descriptor.proofs.Sizes.{and-true}
use Rattle.descriptor.specs.Width.{width_of}
use Rattle.flattened.specs.inner.Order.{Narrow}
use Rattle.descriptor.proofs.Widths.{none-past}

-- whether a test passes at every number below n
passes : (ℕ → Bool) → ℕ → Bool
passes test zero = true
passes test (suc n) = passes test n && test n

-- so it passes at each
each : (test : ℕ → Bool) (n : ℕ) → passes test n ≡ true → (k : ℕ) → k < n → test k ≡ true
unfolding passes
each test zero e k h = absurd (omega arith)
each test (suc n) e k h =
    let parts = and-true (passes test n) (test n) e in
    go (dec_lt k n) (each test n parts.0 k) parts.1
  where
    go : Dec (k < n) → (k < n → test k ≡ true) → test n ≡ true → test k ≡ true
    go (yes l) before last = before l
    go (no l) before last = let e : k ≡ n = omega arith in ap test e ∙ last

-- whether codes of the kind have a width: numbers and flags
unfoldable pub is_measured : Kind → Bool
is_measured plain = true
is_measured enumeration = true
is_measured quantity = true
is_measured string = false
is_measured array = false
is_measured cluster = false
is_measured stamp = false
is_measured unknown = false

-- whether two tests say the same
same : Bool → Bool → Bool
same a b = (a && b) || (not a && not b)

same-is : (a b : Bool) → same a b ≡ true → a ≡ b
unfolding same
same-is true true e = refl
same-is true false e = sym e
same-is false true e = e
same-is false false e = refl

-- exactly the codes of such kinds have a width, of at most 32 bytes; an enumeration has one, two or four
test : ℕ → Bool
test c =
    same (is_measured (kind_of c)) (not (eqb (width_of c) 0))
    && (leb (width_of c) 32 && (not (is_enumeration (kind_of c)) || (eqb (width_of c) 1 || (eqb (width_of c) 2 || eqb (width_of c) 4))))

all_pass : passes test 34 ≡ true
unfolding passes test same width_of kind_of is_measured
all_pass = refl

-- its three parts at a code
record Parts (c : ℕ) : Type 0 where
  width : is_measured (kind_of c) ≡ not (eqb (width_of c) 0)
  most : width_of c ≤ 32
  narrow : (not (is_enumeration (kind_of c)) || (eqb (width_of c) 1 || (eqb (width_of c) 2 || eqb (width_of c) 4))) ≡ true

in_table : (c : ℕ) → c < 34 → Parts c
unfolding test
in_table c h =
    let first = and-true (same (is_measured (kind_of c)) (not (eqb (width_of c) 0))) _ (each test 34 all_pass c h) in
    let second = and-true (leb (width_of c) 32) _ first.1 in
    record { width = same-is _ _ first.0; most = leb-true _ _ second.0; narrow = second.1 }

-- the kind of a code that is past the table, whatever the tests of the other codes say
past-kinds : (a b c d : Bool) → (is_measured (cond a string (cond b array (cond c cluster (cond d stamp unknown)))) ≡ false)
    × (is_enumeration (cond a string (cond b array (cond c cluster (cond d stamp unknown)))) ≡ false)
unfolding is_measured
past-kinds true b c d = (refl, refl)
past-kinds false true c d = (refl, refl)
past-kinds false false true d = (refl, refl)
past-kinds false false false true = (refl, refl)
past-kinds false false false false = (refl, refl)

module _ (c : ℕ) (h : 34 ≤ c) where
  other : c ≡ 33 → ⊥
  other e = omega arith

  past-kind : kind_of c ≡ cond (eqb c 48) string (cond (eqb c 64) array (cond (eqb c 80) cluster (cond (eqb c 84) stamp unknown)))
  unfolding kind_of
  past-kind =
      simp (le-leb 1 c (omega arith), lt-leb c 14 (omega arith), ne_eqb c 33 other, le-leb 21 c (omega arith), lt-leb c 23 (omega arith), le-leb 25 c (omega arith), lt-leb c 30 (omega arith))

  past-table : Parts c
  past-table =
      let none : width_of c ≡ 0 = none-past c h in
      let kinds = past-kinds (eqb c 48) (eqb c 64) (eqb c 80) (eqb c 84) in
      let plainly : is_enumeration (kind_of c) ≡ false = ap is_enumeration past-kind ∙ kinds.1 in
      record {
        width = ap is_measured past-kind ∙ kinds.0 ∙ sym (ap not (eq-eqb (width_of c) 0 none));
        most = omega arith;
        narrow = simp plainly;
      }

parts : (c : ℕ) → Parts c
parts c = go (dec_lt c 34)
  where
    go : Dec (c < 34) → Parts c
    go (yes h) = in_table c h
    go (no h) = past-table c (omega arith)

-- codes of such kinds have a width
pub some-width : (c : ℕ) → is_measured (kind_of c) ≡ true → 0 < width_of c
some-width c e =
    let other : (width_of c ≡ 0 → ⊥) = eqb-false _ _ (not-true _ (sym (parts c).width ∙ e)) in
    omega arith

-- and others none
pub no-width : (c : ℕ) → is_measured (kind_of c) ≡ false → width_of c ≡ 0
no-width c e = eqb-true _ _ (not-false _ (sym (parts c).width ∙ e))

-- which is at most 32
pub width-most : (c : ℕ) → width_of c ≤ 32
width-most c = (parts c).most

-- one of three widths
one-of : (w : ℕ) → (eqb w 1 || (eqb w 2 || eqb w 4)) ≡ true → Narrow w
one-of w e = record { else = λ a b. eqb-true w 4 (simp (ne_eqb w 1 a, ne_eqb w 2 b) at e) }

-- a test that holds where another does
follows : (a b : Bool) → (not a || b) ≡ true → a ≡ true → b ≡ true
follows true b e h = e
follows false b e h = cc

-- an enumeration's number is of one, two or four bytes
pub enumeration-narrow : (c : ℕ) → kind_of c ≡ enumeration → Narrow (width_of c)
enumeration-narrow c e = one-of (width_of c) (follows _ _ (parts c).narrow (ap is_enumeration e))
