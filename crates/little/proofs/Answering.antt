-- From the check and the pass to the answer and the output: a refusal, an output that is too small, or the data turned. Rests on what
-- accepted data is, and on the chain of its tokens.
use mathlib.Core.Path.{◌≡◌, refl, sym, ap, ◌∙◌}
use mathlib.Core.List.{List, ◌++◌}
use Prim.Native.Nat.{ℕ, ◌<◌, ◌≤◌}
use native.Mathlib.Omega.{arith}
use borrow.Author.Tests.{leb-true, eqb-true, le-leb, lt-leb}
use lib.Dec.{leb, eqb}
use lib.ListN.{length, drop}
use Rattle.descriptor.specs.Limits.{depth_limit, data_limit}
use Rattle.descriptor.specs.Tree.{Tree}
use Rattle.descriptor.specs.Outcome.{Outcome, refused, read, judge}
use Rattle.descriptor.specs.Check.{checked}
use Rattle.descriptor.specs.Answers.{refusal, accepted}
use Rattle.descriptor.specs.Output.{Written, unwritten, written_to}
use Rattle.descriptor.specs.inner.Standing.{is_read}
use Rattle.descriptor.specs.declared.answer.Answer.{Answer}
use Rattle.descriptor.proofs.Outcomes.{Holds, found, holds_read, holds-require, holds-and_then, holds-self}
use Rattle.descriptor.proofs.Places as descriptors
use Rattle.descriptor.proofs.Standing.{accepted-standing}
use Rattle.flattened.specs.Order.{Order}
use Rattle.flattened.specs.Token.{Token, Chain}
use Rattle.flattened.specs.Walk.{repeat, walk, walked}
use Rattle.flattened.specs.inner.Checks.{ordered_check}
use Rattle.flattened.specs.inner.Types.{type_of, type_at, TypeStands}
use Rattle.walking.proofs.Checking.{top-stands}
use Rattle.flattened.proofs.Refusals as data-refusals
use Rattle.flattened.proofs.Repeats.{repeat-one}
use Rattle.flattened.proofs.Types.{type-solid}
use Rattle.byte_order.specs.Reversal.{reversed, turned}
use Rattle.turning.specs.inner.Tokens.{turned_tokens, tokens_of, Turnable, Turned}
use Rattle.byte_order.proofs.Chained.{walk-chain}
use Rattle.little.proofs.Whole.{whole_length, whole-turned}

-- data that is walked to its end
pub record Walks (o : Order) (t : Tree) (s : List ℕ) (ts : List Token) : Type 0 where
  pub short : length s ≤ data_limit
  pub walks : walk o t s 0 ≡ read (length s) ts

walked_all : (o : Order) (t : Tree) (s : List ℕ) → Holds (λ q ts. Walks o t s ts) (walked o t s)
unfolding walked
walked_all o t s =
    holds-require (leb (length s) data_limit) _ _ (λ short.
    holds-and_then (holds-self (walk o t s 0)) (λ q ts e.
    holds-require (eqb q (length s)) _ _ (λ end.
    found (record { short = leb-true _ _ short; walks = e ∙ ap (λ (k : ℕ). read k ts) (eqb-true _ _ end) }))))

-- a descriptor and data under it that are accepted
pub record DataAccepted (o : Order) (d s : List ℕ) : Type 0 where
  pub end : ℕ
  pub tree : Tree
  pub checks : checked d ≡ read end tree
  pub last : ℕ
  pub tokens : List Token
  pub walks : walked o tree s ≡ read last tokens

module _ (o : Order) (d s out : List ℕ) where
  abbrev answer_to : Outcome Tree → Answer
  answer_to c = judge refusal 1 c (λ t. judge refusal 3 (walked o t s) (λ ts. accepted (length ts)))

  -- by what the check of the descriptor comes to, and of the data
  pub turn-refused : ((ordered_check o d s).number ≡ 0 → ⊥) → record { answer = ordered_check o d s; out = out } ≡ turned o d s out
  unfolding ordered_check turned
  turn-refused h = first (checked d) h
    where
      second : (u : Outcome (List Token)) → ((judge refusal 3 u (λ ts. accepted (length ts))).number ≡ 0 → ⊥)
          → ◌≡◌ {A = Written} (record { answer = judge refusal 3 u (λ ts. accepted (length ts)); out = out })
          (judge (unwritten out) 3 u (λ ts. written_to out (reversed s ts)))
      second (refused number place) h = refl
      second (read q ts) h = absurd (h refl)

      first : (c : Outcome Tree) → ((answer_to c).number ≡ 0 → ⊥)
          → ◌≡◌ {A = Written} (record { answer = answer_to c; out = out })
          (judge (unwritten out) 1 c (λ t. judge (unwritten out) 3 (walked o t s) (λ ts. written_to out (reversed s ts))))
      first (refused number place) h = refl
      first (read q t) h = second (walked o t s) h

  pub check-accepts : (ordered_check o d s).number ≡ 0 → DataAccepted o d s
  unfolding ordered_check
  check-accepts h = first (checked d) refl h
    where
      second : (q : ℕ) (t : Tree) → checked d ≡ read q t → (u : Outcome (List Token)) → walked o t s ≡ u
          → (judge refusal 3 u (λ ts. accepted (length ts))).number ≡ 0 → DataAccepted o d s
      second q t e (refused number place) f h = absurd (omega (arith, data-refusals.refused-number s o t number place f))
      second q t e (read r ts) f h = record { end = q; tree = t; checks = e; last = r; tokens = ts; walks = f }

      first : (c : Outcome Tree) → checked d ≡ c → (answer_to c).number ≡ 0 → DataAccepted o d s
      first (refused number place) e h = absurd (omega (arith, descriptors.refused-number d number place e))
      first (read q t) e h = second q t e (walked o t s) refl h

  module _ (a : DataAccepted o d s) where
    all : Walks o a.tree s a.tokens
    all = holds_read a.walks (walked_all o a.tree s)

    pub accepted-short : length s ≤ data_limit
    accepted-short = all.short

    pub accepted-stands : TypeStands d 0 depth_limit
    accepted-stands = top-stands o d s a.end a.tree a.checks

    top : type_at d 0 ≡ a.tree
    unfolding type_of
    top = ap type_of (accepted-standing d a.end a.tree a.checks).0

    reads : walk o (type_at d 0) s 0 ≡ read (length s) a.tokens
    reads = ap (λ (t : Tree). walk o t s 0) top ∙ all.walks

    -- the tokens of accepted data are a chain over all of it
    chain : Chain 0 a.tokens (length s)
    chain = (holds_read reads (walk-chain s (type_at d 0) (type-solid d 0 depth_limit accepted-stands) o 0 (omega arith))).chain

    long : length (reversed s a.tokens) ≡ length s
    long = whole_length s a.tokens chain

    -- as one value in a row
    one : repeat (λ a. walk o (type_at d 0) s a) 1 0 ≡ walk o (type_at d 0) s 0
    one = repeat-one (λ a. walk o (type_at d 0) s a) 0

    pub accepted-turnable : length s ≤ length out → Turnable (repeat (λ a. walk o (type_at d 0) s a) 1 0) s out 0
    unfolding is_read
    accepted-turnable room = record { reads = ap is_read (one ∙ reads); here = record { inside = omega arith; room = room }; short = accepted-short }

    -- the output is too small
    pub turn_small : length out < length s → unwritten out 50 4 (length s) ≡ turned o d s out
    unfolding turned written_to
    turn_small h =
        let over : _ = lt-leb (length (reversed s a.tokens)) (length out) (omega (arith, long)) in
        ap (unwritten out 50 4) (sym long) ∙ rw (a.checks, a.walks, over) refl

    -- the data is turned
    pub turn-written : length s ≤ length out → (after : List ℕ) (next : ℕ) → Turned (repeat (λ a. walk o (type_at d 0) s a) 1 0) s out after next
        → record { answer = accepted (length s); out = after } ≡ turned o d s out
    unfolding turned written_to tokens_of
    turn-written room after next t =
        let fits : _ = le-leb (length (reversed s a.tokens)) (length out) (omega (arith, long)) in
        let bytes : after ≡ reversed s a.tokens ++ drop (length (reversed s a.tokens)) out =
        t.bytes ∙ ap (λ (u : Outcome (List Token)). turned_tokens s (tokens_of u) out) (one ∙ reads) ∙ whole-turned s a.tokens chain out room in
        (λ i. record { answer = accepted (sym long i); out = bytes i }) ∙ rw (a.checks, a.walks, fits) refl
