-- What a loop over n walks of one kind keeps: the tokens so far, and the progress of the walks that are left, are the progress of all.
-- Rests on the laws of progress.
use mathlib.Core.Path.{◌≡◌, sym, ap, ◌∙◌}
use mathlib.Core.List.{List}
use Prim.Native.Nat.{ℕ, suc, ◌+◌, ◌-◌, ◌<◌, ◌≤◌}
use Rattle.std.specs.Prelude.{Ok, Err}
use Rattle.descriptor.specs.inner.Steps.{refusal_at}
use native.Mathlib.Nat.{sub-zero}
use native.Mathlib.Omega.{arith}
use Rattle.descriptor.specs.Outcome.{Outcome}
use Rattle.flattened.specs.Token.{Token}
use Rattle.flattened.specs.Walk.{follow, repeat}
use Rattle.flattened.specs.inner.Cursor.{cursor}
use Rattle.flattened.specs.inner.Progress.{walked_to, progress, plus}
use Rattle.flattened.specs.declared.cursor.Cursor.{Cursor}
use Rattle.flattened.proofs.Progresses.{plus-plus, plus_none, follow-walked, follow-refused}

module _ (f : ℕ → Outcome (List Token)) (n from : ℕ) where
  -- i of n walks have been made, with so many tokens, up to `at`
  pub record RepeatLoop (i tokens at : ℕ) : Type 0 where
    pub most : i ≤ n
    pub same : progress (repeat f n from) ≡ plus tokens (progress (repeat f (n - i) at))

  pub repeat-begin : RepeatLoop 0 0 from
  repeat-begin = record {
    most = omega arith;
    same = plus_none (progress (repeat f n from)) ∙ ap (λ (k : ℕ). plus 0 (progress (repeat f k from))) (sym (sub-zero n));
  }

  module _ (i tokens at : ℕ) (loop : RepeatLoop i tokens at) where
    -- the next walk and those after it
    turn : i < n → progress (repeat f n from) ≡ plus tokens (progress (follow (f at) (λ a. repeat f (n - (i + 1)) a)))
    unfolding repeat
    turn h = let e : n - i ≡ suc (n - (i + 1)) = omega arith in loop.same ∙ ap (λ (k : ℕ). plus tokens (progress (repeat f k at))) e

    -- the next walk reads
    pub repeat-next : i < n → (c : Cursor) (k : ℕ) → Ok (walked_to c k) ≡ progress (f at) → RepeatLoop (i + 1) (tokens + k) c.at
    repeat-next h c k e = record {
      most = omega arith;
      same =
          turn h
          ∙ ap (plus tokens) (follow-walked (f at) (λ a. repeat f (n - (i + 1)) a) c k e)
          ∙ plus-plus tokens k (progress (repeat f (n - (i + 1)) c.at));
    }

    -- the next walk refuses
    pub repeat-stop : i < n → (number place : ℕ) → Err (refusal_at number place) ≡ progress (f at) → Err (refusal_at number place) ≡ progress (repeat f n from)
    unfolding plus
    repeat-stop h number place e = sym (turn h ∙ ap (plus tokens) (follow-refused (f at) (λ a. repeat f (n - (i + 1)) a) number place e))

    -- no walk is left
    pub repeat-end : n ≤ i → Ok (walked_to (cursor at) tokens) ≡ progress (repeat f n from)
    unfolding plus progress repeat
    repeat-end h =
        let e : n - i ≡ 0 = omega arith in
        sym (loop.same
        ∙ ap (λ (k : ℕ). plus tokens (progress (repeat f k at))) e
        ∙ ap (λ (k : ℕ). Ok (walked_to (cursor at) k)) (let z : tokens + 0 ≡ tokens = omega arith in z))
