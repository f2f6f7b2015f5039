-- The table of widths follows the rule: one test, computed over every code of the table, and the law that gives the rule
-- at each of them. Past the table the rule gives 0.
use mathlib.Core.Path.{◌≡◌, refl, sym, ap, subst, ◌∙◌}
use Prim.Native.Nat.{ℕ, zero, suc, ◌<◌, ◌≤◌}
use native.Mathlib.Decide.{dec_lt}
use native.Mathlib.Omega.{arith}
use mathlib.Core.Bool.{Bool, true, false, ◌&&◌}
use mathlib.Core.List.{List, [], ◌∷◌}
use borrow.Author.Tests.{lt-leb, ne_eqb, eqb-true, leb-true}
use lib.Dec.{leb, eqb}
use lib.ListN.{get_or}
use Rattle.descriptor.specs.Codes.{between, boolean_code}
use Rattle.descriptor.specs.Width.{width_of}
use Rattle.descriptor.proofs.Sizes.{and-true}

-- whether a test passes at every number below n
unfoldable pub passes : (ℕ → Bool) → ℕ → Bool
passes test zero = true
passes test (suc n) = passes test n && test n

-- a test that passes at every number below n passes at each
pub each : (test : ℕ → Bool) (n : ℕ) → passes test n ≡ true → (k : ℕ) → k < n → test k ≡ true
unfolding passes
each test zero e k h = absurd (omega arith)
each test (suc n) e k h =
    let parts = and-true (passes test n) (test n) e in
    go (dec_lt k n) (each test n parts.0 k) parts.1
  where
    go : Dec (k < n) → (k < n → test k ≡ true) → test n ≡ true → test k ≡ true
    go (yes l) before last = before l
    go (no l) before last = let e : k ≡ n = omega arith in ap test e ∙ last

-- the table, as the code has it
abbrev pub widths : List ℕ
widths = 0 ∷ 1 ∷ 2 ∷ 4 ∷ 8 ∷ 1 ∷ 2 ∷ 4 ∷ 8 ∷ 4 ∷ 8 ∷ 16 ∷ 8 ∷ 16 ∷ 32 ∷ 0 ∷ 0 ∷ 0 ∷ 0 ∷ 0 ∷ 0 ∷ 1 ∷ 2 ∷ 4 ∷ 0 ∷ 4 ∷ 8 ∷ 16 ∷ 8 ∷ 16 ∷ 32 ∷ 0 ∷ 0 ∷ 1 ∷ []

-- the rule at a code of the table, and that no width is above 32
follows : ℕ → Bool
follows code = eqb (get_or widths code 0) (width_of code) && leb (width_of code) 32

-- the test, computed once over the table
table-follows : passes follows 34 ≡ true
unfolding width_of passes follows
table-follows = refl

module _ (code : ℕ) (h : code < 34) where
  -- the two parts of the test at a code
  at_code : (eqb (get_or widths code 0) (width_of code) ≡ true) × (leb (width_of code) 32 ≡ true)
  unfolding follows
  at_code = and-true _ _ (each follows 34 table-follows code h)

  -- the entry at a code is the code's width
  pub entry-width : get_or widths code 0 ≡ width_of code
  entry-width = eqb-true _ _ at_code.0

  -- and at most 32
  pub entry-small : get_or widths code 0 ≤ 32
  entry-small = subst (λ (w : ℕ). w ≤ 32) (sym entry-width) (leb-true _ _ at_code.1)

-- a test and one that fails
and-false : (b : Bool) → (b && false) ≡ false
and-false true = refl
and-false false = refl

module _ (code : ℕ) (h : 34 ≤ code) where
  -- a code past the table is in no run of codes that has a width
  outside : (first last : ℕ) → last < 34 → between first last code ≡ false
  outside first last l =
      let past : last < code = omega arith in
      ap (λ (t : Bool). leb first code && t) (lt-leb code last past) ∙ and-false (leb first code)

  -- past the table there is no width
  pub none-past : width_of code ≡ 0
  unfolding width_of
  none-past =
      let other : (code ≡ boolean_code → ⊥) = omega arith in
      simp (outside 0x01 0x04 (omega arith), outside 0x05 0x08 (omega arith), outside 0x09 0x0B (omega arith), outside 0x19 0x1B (omega arith), outside 0x0C 0x0E (omega arith), outside 0x1C 0x1E (omega arith), outside 0x15 0x17 (omega arith), ne_eqb code boolean_code other)
