-- What the loops over items, pairs and words keep: the answer from here is the answer from the start. Assumes nothing.
use mathlib.Core.Path.{◌≡◌, refl, ap, sym, ◌∙◌}
use mathlib.Core.Bool.{Bool, true, false}
use mathlib.Core.List.{List, ◌∷◌}
use Prim.Native.Nat.{ℕ, suc, ◌+◌, ◌-◌, ◌*◌, ◌<◌, ◌≤◌}
use native.Mathlib.Nat.{sub-zero}
use native.Mathlib.Omega.{arith}
use borrow.Author.Tests.{le-leb, lt-leb, lt-ltb, le-ltb}
use lib.ListN.{length, get_or}
use Rattle.std.specs.Prelude.{Result, Ok, Err}
use Rattle.descriptor.specs.Outcome.{Outcome, refused, read, and_then}
use Rattle.descriptor.specs.Check.{item_at, items_at, judged}
use Rattle.descriptor.specs.inner.Steps.{counted, refusal_at, read_step}
use Rattle.descriptor.specs.declared.refusal.Refusal.{Refusal}
use Rattle.descriptor.specs.declared.step.Step.{Step}
use Rattle.descriptor.proofs.Steps.{counts-agree}

-- k less i, with one more still to come
pub one_less : {A : Type 0} (f : ℕ → A) (k i : ℕ) → i < k → f (k - i) ≡ f (suc (k - (i + 1)))
one_less f k i h = let d : k - i ≡ suc (k - (i + 1)) = omega arith in ap f d

-- k less k or more: nothing is to come
pub none_left : {A : Type 0} (f : ℕ → A) (k i : ℕ) → k ≤ i → f (k - i) ≡ f 0
none_left f k i h = let d : k - i ≡ 0 = omega arith in ap f d

-- k Pascal strings packed
module _ (s : List ℕ) (stop k : ℕ) where
  -- the items from here on, i of them having gone before
  abbrev pub items_from : ℕ → ℕ → Result Step Refusal
  items_from i at = counted (λ xs. i + length xs) (items_at s stop (k - i) at)

  -- from the start
  pub items_begin : (at : ℕ) → counted length (items_at s stop k at) ≡ items_from 0 at
  items_begin at =
      counts-agree {A = List (List ℕ)} (λ xs. length xs) (λ xs. 0 + length xs) (λ xs. let e : length xs ≡ 0 + length xs = omega arith in e) (items_at s stop k at)
      ∙ ap (λ (j : ℕ). counted (λ (xs : List (List ℕ)). 0 + length xs) (items_at s stop j at)) (sym (sub-zero k))

  module _ (i at : ℕ) where
    -- none left
    pub items_none : i ≡ k → items_from i at ≡ Ok (read_step at k 0)
    unfolding items_at
    items_none e =
        let all : i + 0 ≡ k = omega arith in
        none_left (λ (j : ℕ). counted (λ (xs : List (List ℕ)). i + length xs) (items_at s stop j at)) k i (omega arith) ∙ rw all refl

    module _ (more : i < k) where
      -- no room for the next one
      pub items_over : stop ≤ at → items_from i at ≡ Err (refusal_at 8 stop)
      unfolding items_at item_at
      items_over h = one_less (λ (j : ℕ). counted (λ (xs : List (List ℕ)). i + length xs) (items_at s stop j at)) k i more ∙ simp (le-ltb at stop h)

      pub items_cut : at < stop → stop < at + 1 + get_or s at 0 → items_from i at ≡ Err (refusal_at 8 stop)
      unfolding items_at item_at
      items_cut h g =
          one_less (λ (j : ℕ). counted (λ (xs : List (List ℕ)). i + length xs) (items_at s stop j at)) k i more
          ∙ simp (lt-ltb at stop h, lt-leb (at + 1 + get_or s at 0) stop g)

      -- one more
      pub items_more : at < stop → at + 1 + get_or s at 0 ≤ stop → items_from i at ≡ items_from (i + 1) (at + 1 + get_or s at 0)
      unfolding items_at item_at
      items_more h g =
          one_less (λ (j : ℕ). counted (λ (xs : List (List ℕ)). i + length xs) (items_at s stop j at)) k i more
          ∙ rw (lt-ltb at stop h, le-leb (at + 1 + get_or s at 0) stop g) (go _ (items_at s stop (k - (i + 1)) (at + 1 + get_or s at 0)))
        where
          go : (x : List ℕ) (o : Outcome (List (List ℕ)))
              → counted (λ xs. i + length xs) (and_then o (λ last xs. read last (x ∷ xs))) ≡ counted (λ xs. i + 1 + length xs) o
          go x (refused number place) = refl
          go x (read last xs) = let e : i + suc (length xs) ≡ i + 1 + length xs = omega arith in ap (λ (j : ℕ). Ok (read_step last j 0)) e

-- k entries of four bytes from `start` on, each judged by a test, i of them already
module _ (test : ℕ → Bool) (k start i : ℕ) where
  -- what is judged from here on
  abbrev pub judged_from : Outcome (Unit {0})
  judged_from = judged test (k - i) (start + 4 * i)

  -- none left
  pub entries_none : i ≡ k → judged_from ≡ read (start + 4 * i) tt
  unfolding judged
  entries_none e = none_left (λ (j : ℕ). judged test j (start + 4 * i)) k i (omega arith)

  -- one that does not fit
  pub entry_wrong : i < k → test (start + 4 * i) ≡ false → judged_from ≡ refused 10 (start + 4 * i)
  unfolding judged
  entry_wrong h e = one_less (λ (j : ℕ). judged test j (start + 4 * i)) k i h ∙ rw e refl

-- one that fits, and the others after it
pub entry_right : (test : ℕ → Bool) (k start i : ℕ) → i < k → test (start + 4 * i) ≡ true → judged_from test k start i ≡ judged_from test k start (i + 1)
unfolding judged
entry_right test k start i h e =
    let next : start + 4 * i + 4 ≡ start + 4 * (i + 1) = omega arith in
    one_less (λ (j : ℕ). judged test j (start + 4 * i)) k i h ∙ rw (e, next) refl

-- the laws of each loop, for `#[tactic(auto, using(..))]`
pub ruleset item_steps = (items_begin, items_none, items_over, items_cut, items_more)

pub ruleset entry_steps = (entries_none, entry_wrong, entry_right)
