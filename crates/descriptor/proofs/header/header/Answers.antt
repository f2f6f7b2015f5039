-- `header` reads the header as document 01 has it: each return by the tests that lead to it. Assumes nothing.
use mathlib.Core.Path.{◌≡◌, refl, sym, ◌∙◌}
use mathlib.Core.Logic.{◌⊎◌, ⊎_elim, inl, inr}
use mathlib.Core.Bool.{Bool, true, false, ◌&&◌}
use native.Mathlib.Omega.{arith}
use borrow.Author.Tests.{eq-eqb, ne_eqb, le-leb, lt-leb, lt-ltb, le-ltb}
use Rattle.descriptor.specs.Codes.{kind_of, is_array}
use Rattle.descriptor.specs.Check.{header_at}
use Rattle.descriptor.proofs.header.header.Goals as goal
use Rattle.descriptor.proofs.header.header.Goals.{then-in_array+else-is_array, else-in_array}

-- no array stands in an array
calm : (within_array array : Bool) → (within_array ≡ false) ⊎ (array ≡ false) → (within_array && array) ≡ false
calm false array e = refl
calm true true e = ⊎_elim (λ q. q) (λ q. q) e
calm true false e = refl

pub returns-then-end-p-lt-HEADER_SIZE : goal.returns-then-end-p-lt-HEADER_SIZE
unfolding header_at
returns-then-end-p-lt-HEADER_SIZE c = rw c.at.ensures record { eq = simp (lt-leb _ _ c.if-end-p-lt-HEADER_SIZE.true); good = tt }

pub returns-then-size-ge-HIGH_BIT : goal.returns-then-size-ge-HIGH_BIT
unfolding header_at
returns-then-size-ge-HIGH_BIT c = rw c.at-then-size-ge-HIGH_BIT.ensures record { eq = simp (le-leb _ _ c.if-end-p-lt-HEADER_SIZE.false, le-ltb _ _ (rw c.size_at-size.ensures.eq at c.if-size-ge-HIGH_BIT.true)); good = tt }

pub returns-then-size-ne0 : goal.returns-then-size-ne0
unfolding header_at
returns-then-size-ne0 c = rw c.at-then-size-ne0.ensures record { eq = simp (le-leb _ _ c.if-end-p-lt-HEADER_SIZE.false, lt-ltb _ _ (rw c.size_at-size.ensures.eq at c.if-size-ge-HIGH_BIT.false), ne_eqb _ _ (rw c.size_at-size.ensures.eq at c.if-size-ne0.true)); good = tt }

pub returns-then-size-lt-HEADER_SIZE : goal.returns-then-size-lt-HEADER_SIZE
unfolding header_at
returns-then-size-lt-HEADER_SIZE c = rw c.at-then-size-lt-HEADER_SIZE.ensures record { eq = simp (le-leb _ _ c.if-end-p-lt-HEADER_SIZE.false, lt-ltb _ _ (rw c.size_at-size.ensures.eq at c.if-size-ge-HIGH_BIT.false), eq-eqb _ _ (rw c.size_at-size.ensures.eq at c.if-size-ne0.false), lt-leb _ _ (rw c.size_at-size.ensures.eq at c.if-size-lt-HEADER_SIZE.true)); good = tt }

pub returns-then-end-p : goal.returns-then-end-p
unfolding header_at
returns-then-end-p c = rw c.at-then-end-p.ensures record { eq = simp (le-leb _ _ c.if-end-p-lt-HEADER_SIZE.false, lt-ltb _ _ (rw c.size_at-size.ensures.eq at c.if-size-ge-HIGH_BIT.false), eq-eqb _ _ (rw c.size_at-size.ensures.eq at c.if-size-ne0.false), le-leb _ _ (rw c.size_at-size.ensures.eq at c.if-size-lt-HEADER_SIZE.false), lt-leb _ _ (rw c.size_at-size.ensures.eq at c.if-end-p.true)); good = tt }

pub code_at-code-requires : goal.code_at-code-requires
code_at-code-requires c = omega (arith, c.if-end-p-lt-HEADER_SIZE.false, c.requires.inside)

pub returns-then-not-is_carried : goal.returns-then-not-is_carried
unfolding header_at
returns-then-not-is_carried c = rw c.not_carried.ensures record { eq = rw (← c.code_at-code.ensures) (simp (le-leb _ _ c.if-end-p-lt-HEADER_SIZE.false, lt-ltb _ _ (rw c.size_at-size.ensures.eq at c.if-size-ge-HIGH_BIT.false), eq-eqb _ _ (rw c.size_at-size.ensures.eq at c.if-size-ne0.false), le-leb _ _ (rw c.size_at-size.ensures.eq at c.if-size-lt-HEADER_SIZE.false), le-leb _ _ (rw c.size_at-size.ensures.eq at c.if-end-p.false), sym c.is_carried.ensures ∙ c.if-not-is_carried.true)); good = tt }

pub returns-then-levels-eq0 : goal.returns-then-levels-eq0
unfolding header_at
returns-then-levels-eq0 c = rw c.at-then-levels-eq0.ensures record { eq = rw (← c.code_at-code.ensures) (simp (le-leb _ _ c.if-end-p-lt-HEADER_SIZE.false, lt-ltb _ _ (rw c.size_at-size.ensures.eq at c.if-size-ge-HIGH_BIT.false), eq-eqb _ _ (rw c.size_at-size.ensures.eq at c.if-size-ne0.false), le-leb _ _ (rw c.size_at-size.ensures.eq at c.if-size-lt-HEADER_SIZE.false), le-leb _ _ (rw c.size_at-size.ensures.eq at c.if-end-p.false), sym c.is_carried.ensures ∙ c.if-not-is_carried.false, le-ltb 0 c.args.levels (omega (arith, c.if-levels-eq0.true)))); good = tt }

pub returns-then-n-ge-ROW_LIMIT : goal.returns-then-n-ge-ROW_LIMIT
unfolding header_at
returns-then-n-ge-ROW_LIMIT c = rw c.at-then-n-ge-ROW_LIMIT.ensures record { eq = rw (← c.code_at-code.ensures) (simp (le-leb _ _ c.if-end-p-lt-HEADER_SIZE.false, lt-ltb _ _ (rw c.size_at-size.ensures.eq at c.if-size-ge-HIGH_BIT.false), eq-eqb _ _ (rw c.size_at-size.ensures.eq at c.if-size-ne0.false), le-leb _ _ (rw c.size_at-size.ensures.eq at c.if-size-lt-HEADER_SIZE.false), le-leb _ _ (rw c.size_at-size.ensures.eq at c.if-end-p.false), sym c.is_carried.ensures ∙ c.if-not-is_carried.false, lt-ltb 0 c.args.levels (omega (arith, c.if-levels-eq0.false)), le-ltb _ _ c.if-n-ge-ROW_LIMIT.true)); good = tt }

pub returns-then-is_array : goal.returns-then-is_array
unfolding header_at
returns-then-is_array c = rw c.nested_array.ensures record { eq = rw (← c.code_at-code.ensures) (simp (le-leb _ _ c.if-end-p-lt-HEADER_SIZE.false, lt-ltb _ _ (rw c.size_at-size.ensures.eq at c.if-size-ge-HIGH_BIT.false), eq-eqb _ _ (rw c.size_at-size.ensures.eq at c.if-size-ne0.false), le-leb _ _ (rw c.size_at-size.ensures.eq at c.if-size-lt-HEADER_SIZE.false), le-leb _ _ (rw c.size_at-size.ensures.eq at c.if-end-p.false), sym c.is_carried.ensures ∙ c.if-not-is_carried.false, lt-ltb 0 c.args.levels (omega (arith, c.if-levels-eq0.false)), lt-ltb _ _ c.if-n-ge-ROW_LIMIT.false, c.if-in_array.true, sym c.is_array.ensures ∙ c.if-is_array.true)); good = tt }

pub overflow_add-result : goal.overflow_add-result
overflow_add-result c = omega (arith, c.requires.from, c.requires.inside, c.requires.small)

pub returns : goal.returns
unfolding header_at
returns c =
    let element : (c.args.in_array ≡ false) ⊎ (is_array (kind_of c.code_at-code.result) ≡ false) =
    elim c.if-in_array.branch [ then-in_array+else-is_array w ↦ inr (sym w.is_array.ensures ∙ w.if-is_array.false) | else-in_array w ↦ inl w.if-in_array.false ] in
    record { eq = rw (c.size_at-size.ensures.eq, ← c.code_at-code.ensures) (simp (le-leb _ _ c.if-end-p-lt-HEADER_SIZE.false, lt-ltb _ _ (rw c.size_at-size.ensures.eq at c.if-size-ge-HIGH_BIT.false), eq-eqb _ _ (rw c.size_at-size.ensures.eq at c.if-size-ne0.false), le-leb _ _ (rw c.size_at-size.ensures.eq at c.if-size-lt-HEADER_SIZE.false), le-leb _ _ (rw c.size_at-size.ensures.eq at c.if-end-p.false), sym c.is_carried.ensures ∙ c.if-not-is_carried.false, lt-ltb 0 c.args.levels (omega (arith, c.if-levels-eq0.false)), lt-ltb _ _ c.if-n-ge-ROW_LIMIT.false, calm _ _ element)); good = record { level = omega (arith, c.if-levels-eq0.false); room = c.if-n-ge-ROW_LIMIT.false; least = c.if-size-lt-HEADER_SIZE.false; inside = omega (arith, c.if-end-p.false, c.if-end-p-lt-HEADER_SIZE.false); body = refl } }
