-- What is left to turn: with the tokens of the rest, the output becomes what the tokens of the whole make of it. One part after another,
-- and what the loop over parts of one kind keeps. Rests on the law of tokens one after another.
use mathlib.Core.Path.{◌≡◌, refl, sym, ap, subst, ◌∙◌}
use mathlib.Core.Bool.{true}
use mathlib.Core.List.{List, [], ◌++◌}
use Prim.Native.Nat.{ℕ, suc, ◌+◌, ◌-◌, ◌<◌, ◌≤◌}
use native.Mathlib.Nat.{sub-zero}
use native.Mathlib.Omega.{arith}
use lib.ListN.{length}
use Rattle.descriptor.specs.Outcome.{Outcome, refused, read, and_then}
use Rattle.descriptor.specs.inner.Standing.{is_read, next_of}
use Rattle.descriptor.proofs.Steps.{impossible}
use Rattle.flattened.specs.Token.{Token}
use Rattle.flattened.specs.Walk.{follow, repeat}
use Rattle.turning.specs.inner.Tokens.{turned_tokens, tokens_of, Turnable, Turned}
use Rattle.turning.proofs.Tokens.{tokens_append, tokens-length}

-- the walk `rest` from `at` on is left of the walk `whole`
pub record Remains (whole rest : Outcome (List Token)) (s before out : List ℕ) (at : ℕ) : Type 0 where
  pub ready : Turnable rest s out at
  pub next : next_of whole ≡ next_of rest
  pub same : turned_tokens s (tokens_of whole) before ≡ turned_tokens s (tokens_of rest) out
  pub long : length out ≡ length before

-- all of it
pub remains-all : (o : Outcome (List Token)) (s out : List ℕ) (at : ℕ) → Turnable o s out at → Remains o o s out out at
remains-all o s out at t = record { ready = t; next = refl; same = refl; long = refl }

-- where a part and the next are read, so is the part
first_reads : (o : Outcome (List Token)) (g : ℕ → Outcome (List Token)) → is_read (follow o g) ≡ true → is_read o ≡ true
unfolding is_read
first_reads (refused number place) g e = e
first_reads (read q ts) g e = refl

pub first-turnable : (o : Outcome (List Token)) (g : ℕ → Outcome (List Token)) (s out : List ℕ) (at : ℕ) → Turnable (follow o g) s out at → Turnable o s out at
first-turnable o g s out at t = record { reads = first_reads o g t.reads; here = t.here; short = t.short }

module _ (whole : Outcome (List Token)) (s before out : List ℕ) (at : ℕ) where
  -- a part was turned
  pub remains-next : (o : Outcome (List Token)) (g : ℕ → Outcome (List Token)) (after : List ℕ) (q : ℕ) → Remains whole (follow o g) s before out at
      → Turned o s out after q → Remains whole (g q) s before after q
  unfolding is_read next_of tokens_of
  remains-next (refused number place) g after q r t = impossible r.ready.reads
  remains-next (read p ts) g after q r t =
      subst (λ (k : ℕ). Remains whole (g k) s before after q) (sym t.place) (second (g p) r)
    where
      long : length after ≡ length out
      long = ap length t.bytes ∙ tokens-length s ts out

      second : (u : Outcome (List Token)) → Remains whole (and_then u (λ last us. read last (ts ++ us))) s before out at → Remains whole u s before after q
      second (refused number place) r = impossible r.ready.reads
      second (read last us) r = record {
        ready = record {
          reads = refl;
          here = record { inside = t.inside; room = omega (arith, r.ready.here.room, long) };
          short = r.ready.short;
        };
        next = r.next;
        same = r.same ∙ tokens_append s ts us out ∙ ap (turned_tokens s us) (sym t.bytes);
        long = long ∙ r.long;
      }

  -- nothing is left
  pub remains-none : Remains whole (read at []) s before out at → Turned whole s before out at
  unfolding next_of tokens_of turned_tokens
  remains-none r = record { place = sym r.next; inside = r.ready.here.inside; bytes = sym r.same }

  -- all that was left was turned
  pub remains-last : (o : Outcome (List Token)) (after : List ℕ) (q : ℕ) → Remains whole o s before out at → Turned o s out after q → Turned whole s before after q
  remains-last o after q r t = record { place = t.place ∙ sym r.next; inside = t.inside; bytes = t.bytes ∙ sym r.same }

-- the loop over n parts of one kind
module _ (f : ℕ → Outcome (List Token)) (s before : List ℕ) (n from : ℕ) where
  -- i of them have been turned, up to `at`
  pub record RepeatTurns (out : List ℕ) (at i : ℕ) : Type 0 where
    pub most : i ≤ n
    pub left : Remains (repeat f n from) (repeat f (n - i) at) s before out at

  pub repeat-begin : Turnable (repeat f n from) s before from → RepeatTurns before from 0
  repeat-begin t = record {
    most = omega arith;
    left =
        subst (λ (k : ℕ). Remains (repeat f n from) (repeat f k from) s before before from) (sym (sub-zero n))
        (remains-all (repeat f n from) s before from t);
  }

  module _ (out : List ℕ) (at i : ℕ) (loop : RepeatTurns out at i) where
    here : i < n → Remains (repeat f n from) (follow (f at) (λ a. repeat f (n - (i + 1)) a)) s before out at
    unfolding repeat
    here more =
        let e : n - i ≡ suc (n - (i + 1)) = omega arith in
        subst (λ (k : ℕ). Remains (repeat f n from) (repeat f k at) s before out at) e loop.left

    -- the next part
    pub repeat-here : i < n → Turnable (f at) s out at
    repeat-here more = first-turnable (f at) (λ a. repeat f (n - (i + 1)) a) s out at (here more).ready

    -- was turned
    pub repeat-next : i < n → (after : List ℕ) (q : ℕ) → Turned (f at) s out after q → RepeatTurns after q (i + 1)
    repeat-next more after q t = record {
      most = omega arith;
      left = remains-next (repeat f n from) s before out at (f at) (λ a. repeat f (n - (i + 1)) a) after q (here more) t;
    }

    -- none is left
    pub repeat-end : n ≤ i → Turned (repeat f n from) s before out at
    unfolding repeat
    repeat-end done =
        let e : n - i ≡ 0 = omega arith in
        remains-none (repeat f n from) s before out at
        (subst (λ (k : ℕ). Remains (repeat f n from) (repeat f k at) s before out at) e loop.left)
