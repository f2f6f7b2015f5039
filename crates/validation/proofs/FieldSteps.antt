-- What the steps of a body's fields say of themselves: where they end, and what was counted. Rests on `Sizes`.
use mathlib.Core.Path.{◌≡◌, ap, sym, ◌∙◌}
use mathlib.Core.List.{List}
use Prim.Native.Nat.{ℕ, ◌≤◌}
use native.Mathlib.Omega.{arith}
use lib.ListN.{length}
use Rattle.std.specs.Prelude.{Ok}
use Rattle.descriptor.specs.Limits.{count_limit, pair_limit, dimension_limit}
use Rattle.descriptor.specs.Codes.{enumeration, quantity, array}
use Rattle.descriptor.specs.Outcome.{Outcome, read, and_then}
use Rattle.descriptor.specs.Tree.{dimensions, count_of, child_count}
use Rattle.descriptor.specs.Check.{count_at, run_at, items_at, base_fits, word_fits, fill_at, fields_at}
use Rattle.descriptor.specs.inner.Steps.{counted, fields_step}
use Rattle.descriptor.specs.declared.step.Step.{Step}
use Rattle.descriptor.proofs.Outcomes.{holds_read}
use Rattle.descriptor.proofs.Sizes.{CountFits, count_fits, RunFits, run_fits, items-end, length-pairs_at}
use Rattle.descriptor.proofs.CodeKinds.{kind_known}
use Rattle.descriptor.proofs.FieldKinds.{enumeration-fields, array-fields, quantity-fields, fields_by_kind}
use Rattle.descriptor.proofs.Runs.{item_steps, entry_steps}
use Rattle.descriptor.proofs.Steps.{got}
use Rattle.validation.specs.inner.Judging.{words_at}

-- a number that is read is the step's value
value-got : (o : Outcome ℕ) (c : Step) → Ok c ≡ counted (λ k. k) o → o ≡ read c.next c.value
value-got o c e = let g = got (λ k. k) (λ _. 0) o c e in g.eq ∙ ap (λ (k : ℕ). read c.next k) (sym g.counts)

-- a count
pub count_range : (s : List ℕ) (at stop most : ℕ) (c : Step) → Ok c ≡ counted (λ k. k) (count_at s at stop most)
    → CountFits s at stop most c.next c.value
count_range s at stop most c e = holds_read (value-got _ c e) (count_fits s at stop most)

-- a count and its words
pub run_range : (s : List ℕ) (at stop most : ℕ) (c : Step) → Ok c ≡ counted (λ k. k) (run_at s at stop most) → RunFits s at stop most c.next c.value
run_range s at stop most c e = holds_read (value-got _ c e) (run_fits s at stop most)

-- items
pub items_range : (s : List ℕ) (stop k at : ℕ) (w : Step) → stop ≤ length s → at ≤ stop → Ok w ≡ counted length (items_at s stop k at)
    → (at ≤ w.next) × (w.next ≤ stop)
items_range s stop k at w inside from e =
    let e = holds_read (got length (λ _. 0) (items_at s stop k at) w e).eq (items-end s 0 stop inside k at from) in
    (omega (arith, e.0.at), e.0.within)

module _ (s : List ℕ) (p at stop : ℕ) where
  -- an enumeration's fields are its items, with no children
  pub enumeration_items : fields_step (fields_at enumeration s p at stop)
      ≡ counted length
      (and_then (count_at s at stop count_limit)
      (λ next k. and_then (items_at s stop k next) (λ last xs. and_then (fill_at s p stop last) (λ q _. read q xs))))
  unfolding count_of child_count
  enumeration_items = ap fields_step (enumeration-fields s p at stop) ∙ grind arith

  -- an array's fields are its dimension words, judged
  pub array_words : fields_at array s p at stop ≡ and_then (words_at s (word_fits s) at stop dimension_limit) (λ last k. read last (dimensions k))
  unfolding words_at
  array_words = array-fields s p at stop ∙ grind arith

  -- a physical quantity's are its unit pairs, and it has no children
  pub quantity_words : fields_step (fields_at quantity s p at stop) ≡ counted (λ k. k) (words_at s (base_fits s) at stop pair_limit)
  unfolding words_at count_of child_count
  quantity_words = ap fields_step (quantity-fields s p at stop) ∙ grind (arith, length-pairs_at)

-- what the proofs of `fields.rt` rest on
pub ruleset enumeration_laws = (count_range, items_range, enumeration_items)

pub ruleset field_laws = (kind_known, fields_by_kind, item_steps, entry_steps, array_words, quantity_words)
