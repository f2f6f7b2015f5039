-- Demand 2, which data is accepted. The public entry whose contract uses these definitions is check_data; the others judge data by the same
-- `walked`. Rests on the laws of values: what is walked is a value's flattening, and what is a value's flattening is walked.
use mathlib.Core.Path.{◌≡◌, refl, ap, ◌∙◌}
use mathlib.Core.Logic.{◌↔◌}
use mathlib.Core.List.{List}
use Prim.Native.Nat.{ℕ, ◌≤◌}
use native.Mathlib.Omega.{arith}
use borrow.Author.Tests.{leb-true, eqb-true, le-leb, eq-eqb}
use lib.Dec.{leb, eqb}
use lib.ListN.{length}
use Rattle.descriptor.specs.Limits.{data_limit}
use Rattle.descriptor.specs.Tree.{Tree}
use Rattle.descriptor.specs.Encoding.{Bytes}
use Rattle.descriptor.specs.Outcome.{Outcome, refused, read}
use Rattle.descriptor.specs.Answers.{refusal, accepted}
use Rattle.descriptor.specs.declared.answer.Answer.{Answer}
use Rattle.descriptor.proofs.Outcomes.{Holds, found, holds_read, holds-require, holds-and_then, holds-self}
use Rattle.flattened.specs.Order.{big}
use Rattle.flattened.specs.Token.{Token, joined, Chain}
use Rattle.flattened.specs.Walk.{walk, walked}
use Rattle.flattened.specs.Answers.{data_check}
use Rattle.values.specs.Value.{Value, Fits, flatten, Data}
use Rattle.values.specs.Pieces.{pieces}
use Rattle.values.proofs.Accepted.{one_value}
use Rattle.values.proofs.Answers.{data-answer, answer-exactly}
use Rattle.values.proofs.Chained.{accepted-chain, accepted-whole}
use Rattle.flattened.proofs.Refusals.{refused-number}
use Rattle.demands.proofs.Accepted.{Described, described-read}

-- the walk of the type t goes through all of the data s
pub record UsesAll (t : Tree) (s : List ℕ) : Type 0 where
  pub tokens : List Token
  pub walks : walk big t s 0 ≡ read (length s) tokens

-- what is walked is within the limit, and its walk goes through all of it
pub walked_all : (t : Tree) (s : List ℕ) → Holds (λ q ts. (length s ≤ data_limit) × ((q ≡ length s) × (walk big t s 0 ≡ read q ts))) (walked big t s)
unfolding walked
walked_all t s =
    holds-require (leb (length s) data_limit) _ _ (λ short.
    holds-and_then (holds-self (walk big t s 0)) (λ q ts e.
    holds-require (eqb q (length s)) _ _ (λ whole. found (leb-true _ _ short, (eqb-true q (length s) whole, e)))))

-- and what is so is walked
pub all-walked : (t : Tree) (s : List ℕ) (ts : List Token) → length s ≤ data_limit → walk big t s 0 ≡ read (length s) ts → walked big t s ≡ read (length s) ts
unfolding walked
all-walked t s ts short e = rw (le-leb (length s) data_limit short, e, eq-eqb (length s) (length s) refl) refl

-- data of the descriptor d
module _ (d : List ℕ) (x : Described d) (s : List ℕ) where
  -- data that is walked is answered with its number of tokens: "Data check (place is the piece count)."
  pub walked-answer : (q : ℕ) (ts : List Token) → walked big x.tree s ≡ read q ts → data_check d s ≡ accepted (length ts)
  unfolding data_check
  walked-answer q ts e = rw (described-read d x, e) refl

  -- and data that is not with the walk's number and place, input 3
  pub refused-answer : (number place : ℕ) → walked big x.tree s ≡ refused number place → data_check d s ≡ refusal number 3 place
  unfolding data_check
  refused-answer number place e = rw (described-read d x, e) refl

  -- the number is 0 only where the data was walked
  walked-zero : (o : Outcome (List Token)) → walked big x.tree s ≡ o → (data_check d s).number ≡ 0
      → (ts : List Token) × (walked big x.tree s ≡ read (length s) ts)
  walked-zero (refused number place) e zero =
      let same : (data_check d s).number ≡ number = ap (λ (r : Answer). r.number) (refused-answer number place e) in
      absurd (omega (arith, refused-number s big x.tree number place e))
  walked-zero (read q ts) e zero = (ts, e ∙ ap (λ (k : ℕ). read k ts) (holds_read e (walked_all x.tree s)).1.0)

  -- "Data is accepted exactly when it keeps 01's limit and its type's walk uses every byte."
  pub uses-exactly : ((data_check d s).number ≡ 0) ↔ ((length s ≤ data_limit) × UsesAll x.tree s)
  uses-exactly = (
    λ zero.
        let w = walked-zero (walked big x.tree s) refl zero in
        let h = holds_read w.1 (walked_all x.tree s) in
        (h.0, record { tokens = w.0; walks = h.1.1 }),
    λ h. ap (λ (r : Answer). r.number) (walked-answer (length s) h.1.tokens (all-walked x.tree s h.1.tokens h.0 h.1.walks)),
  )

  module _ (known : Bytes d) (bytes : Bytes s) where
    -- the same apart from the walk: data is accepted exactly when it is the flattening of a value of its type, at most 65,536 bytes
    pub data-exactly : ((data_check d s).number ≡ 0) ↔ (Data big x.tree s × (length s ≤ data_limit))
    data-exactly = answer-exactly d known (length d) x.tree (described-read d x) s bytes

    -- the tokens of accepted data: "Each piece starts exactly where the one before it ended; together the pieces are the whole data."
    pub record Pieces : Type 0 where
      pub tokens : List Token
      pub answer : data_check d s ≡ accepted (length tokens)
      pub chain : Chain 0 tokens (length s)
      pub whole : joined s tokens ≡ s

    pub accepted-pieces : (data_check d s).number ≡ 0 → Pieces
    accepted-pieces zero =
        let w = walked-zero (walked big x.tree s) refl zero in
        record {
          tokens = w.0;
          answer = walked-answer (length s) w.0 w.1;
          chain = accepted-chain big x.tree x.limits.formed s bytes (length s) w.0 w.1;
          whole = accepted-whole big x.tree x.limits.formed s bytes (length s) w.0 w.1;
        }

  -- and data is of one value
  pub one-data : (v w : Data big x.tree s) → v.value ≡ w.value
  one-data = one_value big x.tree s

-- "Data check (place is the piece count).": of the bytes of a value, as many as the value has pieces, apart from the walk
pub piece-count : (d : List ℕ) (x : Described d) (v : Value) → Fits x.tree v → length (flatten big x.tree v) ≤ data_limit
    → data_check d (flatten big x.tree v) ≡ accepted (length (pieces x.tree v))
piece-count d x v fits short = data-answer d (length d) x.tree (described-read d x) v fits short
