-- From a data check and the spot at a path to the answers: a refusal of the descriptor or of the data, or what is asked of the data that
-- was accepted. Rests on the number of a refusal, which is never 0.
use mathlib.Core.Path.{◌≡◌, refl, sym, ap, ◌∙◌}
use mathlib.Core.Bool.{true}
use mathlib.Core.List.{List}
use Prim.Native.Nat.{ℕ, ◌≤◌}
use native.Mathlib.Omega.{arith}
use borrow.Author.Tests.{leb-true}
use lib.Dec.{leb, eqb}
use lib.ListN.{length}
use Rattle.descriptor.specs.Limits.{depth_limit, data_limit}
use Rattle.descriptor.specs.Tree.{Tree}
use Rattle.descriptor.specs.Outcome.{Outcome, refused, read, judge}
use Rattle.descriptor.specs.Check.{checked}
use Rattle.descriptor.specs.Answers.{refusal, accepted}
use Rattle.descriptor.specs.inner.Standing.{is_read}
use Rattle.descriptor.specs.declared.answer.Answer.{Answer}
use Rattle.descriptor.proofs.Places as places
use Rattle.descriptor.proofs.Outcomes.{Holds, found, holds_read, holds-self, holds-require, holds-and_then}
use Rattle.descriptor.proofs.Standing.{accepted-standing}
use Rattle.flattened.specs.Answers.{data_check}
use Rattle.flattened.specs.Order.{big}
use Rattle.flattened.specs.Token.{Token}
use Rattle.flattened.specs.Walk.{walk, walked}
use Rattle.flattened.specs.inner.Types.{type_of, type_at}
use Rattle.walking.proofs.Checking.{top-stands}
use Rattle.flattened.proofs.Refusals.{refused-number}
use Rattle.access.specs.inner.Spots.{Lies}
use Rattle.access.proofs.Outcomes.{is_read-read}

-- the data is what was walked whole
pub record Whole (t : Tree) (s : List ℕ) : Type 0 where
  pub read : is_read (walk big t s 0) ≡ true
  pub short : length s ≤ data_limit

whole-data : (t : Tree) (s : List ℕ) → Holds (λ q ts. Whole t s) (walked big t s)
unfolding walked
whole-data t s =
    holds-require (leb (length s) data_limit) 20 0 (λ short.
    holds-and_then (holds-self (walk big t s 0)) (λ q ts e.
    holds-require (eqb q (length s)) 25 q (λ _. found (record { read = is_read-read e; short = leb-true _ _ short }))))

-- a question on the data s of the descriptor d: `refuse` answers a refusal of either, `ask` the rest
module _ {B : Type 0} (d s : List ℕ) (refuse : ℕ → ℕ → ℕ → B) (ask : Tree → B) where
  abbrev pub asked : B
  asked = judge refuse 1 (checked d) (λ t. judge refuse 3 (walked big t s) (λ _. ask t))

  module _ (a : Answer) (checks : a ≡ data_check d s) where
    -- the number of the answer is that of a refusal
    pub asked-refused : (a.number ≡ 0 → ⊥) → refuse a.number a.input a.place ≡ asked
    unfolding data_check
    asked-refused h = first (checked d) refl checks
      where
        second : (t : Tree) (o : Outcome (List Token)) → walked big t s ≡ o → a ≡ judge refusal 3 o (λ ts. accepted (length ts))
            → refuse a.number a.input a.place ≡ judge refuse 3 o (λ _. ask t)
        second t (refused number place) w e = ap (λ (x : Answer). refuse x.number x.input x.place) e
        second t (read q ts) w e = absurd (h (ap (λ (x : Answer). x.number) e))

        first : (o : Outcome Tree) → checked d ≡ o → a ≡ judge refusal 1 o (λ t. judge refusal 3 (walked big t s) (λ ts. accepted (length ts)))
            → refuse a.number a.input a.place ≡ judge refuse 1 o (λ t. judge refuse 3 (walked big t s) (λ _. ask t))
        first (refused number place) k e = ap (λ (x : Answer). refuse x.number x.input x.place) e
        first (read q t) k e = second t (walked big t s) refl e

    -- it is 0: the data is accepted, and what is asked is asked of the descriptor's type
    pub record Accepted : Type 0 where
      pub lies : Lies d 0 depth_limit s 0
      pub eq : ask (type_at d 0) ≡ asked

    pub asked-accepted : a.number ≡ 0 → Accepted
    unfolding data_check type_of
    asked-accepted z = first (checked d) refl checks
      where
        number : {x : Answer} → a ≡ x → x.number ≡ 0
        number e = sym (ap (λ (x : Answer). x.number) e) ∙ z

        second : (q : ℕ) (t : Tree) → checked d ≡ read q t → (o : Outcome (List Token)) → walked big t s ≡ o
            → a ≡ judge refusal 3 o (λ ts. accepted (length ts)) → Accepted
        second q t k (refused n place) w e = absurd (omega (arith, refused-number s big t n place w, number e))
        second q t k (read r ts) w e =
            let top : type_at d 0 ≡ t = ap type_of (accepted-standing d q t k).0 in
            let whole = holds_read w (whole-data t s) in
            record {
              lies = record {
                type = top-stands big d s q t k;
                bytes = record { inside = omega arith; short = whole.short };
                read = ap (λ (x : Tree). is_read (walk big x s 0)) top ∙ whole.read;
              };
              eq = ap ask top ∙ sym (rw (k, w) refl);
            }

        first : (o : Outcome Tree) → checked d ≡ o → a ≡ judge refusal 1 o (λ t. judge refusal 3 (walked big t s) (λ ts. accepted (length ts))) → Accepted
        first (refused n place) k e = absurd (omega (arith, places.refused-number d n place k, number e))
        first (read q t) k e = second q t k (walked big t s) refl e
