-- Scalars, strings and size words that the walk reads: where they end, and the output when their numbers are turned. Rests on the
-- definitions of the walk and on the laws of tokens.
use mathlib.Core.Path.{◌≡◌, refl, sym, ap, ◌∙◌}
use mathlib.Core.Bool.{Bool, true, false}
use mathlib.Core.List.{List, [], ◌∷◌}
use Prim.Native.Nat.{ℕ, zero, suc, ◌+◌, ◌*◌, ◌≤◌}
use native.Mathlib.Nat.{suc-mul}
use native.Mathlib.Omega.{arith}
use borrow.Author.Tests.{leb-true}
use lib.Dec.{leb, ltb}
use lib.ListN.{length}
use Rattle.descriptor.specs.Limits.{length_limit}
use Rattle.descriptor.specs.Outcome.{Outcome, require}
use Rattle.descriptor.specs.Width.{width_of}
use Rattle.descriptor.specs.inner.Standing.{is_read, next_of}
use Rattle.descriptor.proofs.Steps.{impossible}
use Rattle.flattened.specs.Order.{Order, number_at}
use Rattle.flattened.specs.Token.{Token, scalar, string}
use Rattle.flattened.specs.Walk.{token, single, scalar_at, text_at, repeat}
use Rattle.byte_order.specs.inner.Turning.{turned_at, turned_run}
use Rattle.turning.specs.inner.Tokens.{turned_tokens, tokens_of, Turnable, Turned}
use Rattle.byte_order.specs.Reversal.{number_count, number_width}
use Rattle.byte_order.proofs.RunTurns.{run-split}
use Rattle.turning.proofs.Tokens.{scalar-token, string-token}
use Rattle.byte_order.proofs.Widths.{numbers-all}
use Rattle.turning.proofs.Remaining.{remains-all, first-turnable, remains-next, remains-last}

-- a test that must hold for anything to be read
tested : {A : Type 0} (b : Bool) (number place : ℕ) (o : Outcome A) → is_read (require b number place o) ≡ true → (b ≡ true) × (require b number place o ≡ o)
unfolding is_read
tested true number place o e = (refl, refl)
tested false number place o e = impossible e

-- a scalar that is read
pub record ScalarRead (f : ℕ → Outcome (List Token)) (c : ℕ) (s : List ℕ) (a : ℕ) : Type 0 where
  pub fits : a + width_of c ≤ length s
  pub eq : f a ≡ single (scalar c) a (a + width_of c)

pub scalar_read : (c : ℕ) (s : List ℕ) (a : ℕ) (keeps : Bool) → is_read (scalar_at c s a keeps) ≡ true
    → (a + width_of c ≤ length s) × (scalar_at c s a keeps ≡ single (scalar c) a (a + width_of c))
unfolding scalar_at
scalar_read c s a keeps e =
    let room = tested (leb (a + width_of c) (length s)) 21 a (require keeps 23 a (single (scalar c) a (a + width_of c))) e in
    let kept = tested keeps 23 a (single (scalar c) a (a + width_of c)) (sym (ap is_read room.1) ∙ e) in
    (leb-true _ _ room.0, room.1 ∙ kept.1)

-- scalars in a row
module _ (f : ℕ → Outcome (List Token)) (c : ℕ) (s : List ℕ) (each : (a : ℕ) → is_read (f a) ≡ true → ScalarRead f c s a) where
  one-turned : (at : ℕ) (out : List ℕ) → ScalarRead f c s at → Turned (f at) s out (turned_run (number_width c) s (number_count c) at out) (at + width_of c)
  unfolding next_of tokens_of
  one-turned at out r = record {
    place = sym (ap next_of r.eq);
    inside = r.fits;
    bytes = sym (scalar-token s c at out r.fits) ∙ ap (λ (o : Outcome (List Token)). turned_tokens s (tokens_of o) out) (sym r.eq);
  }

  pub scalars-turned : (n at : ℕ) (out : List ℕ) → Turnable (repeat f n at) s out at
      → Turned (repeat f n at) s out (turned_run (number_width c) s (n * number_count c) at out) (at + n * width_of c)
  unfolding repeat turned_run next_of tokens_of turned_tokens
  scalars-turned zero at out t =
      let here : at + 0 * width_of c ≡ at = omega arith in
      let none : 0 * number_count c ≡ 0 = omega arith in
      record {
        place = here;
        inside = omega (arith, t.here.inside);
        bytes = ap (λ (k : ℕ). turned_run (number_width c) s k at out) none;
      }
  scalars-turned (suc n) at out t =
      let w : ℕ = number_width c in
      let k : ℕ = number_count c in
      let rest : ℕ → Outcome (List Token) = λ a. repeat f n a in
      let first = one-turned at out (each at (first-turnable (f at) rest s out at t).reads) in
      let after : List ℕ = turned_run w s k at out in
      let left = remains-next (repeat f (suc n) at) s out out at (f at) rest after (at + width_of c) (remains-all (repeat f (suc n) at) s out at t) first in
      let last = remains-last (repeat f (suc n) at) s out after (at + width_of c) (repeat f n (at + width_of c)) _ _ left (scalars-turned n (at + width_of c) after left.ready) in
      let there : at + suc n * width_of c ≡ at + width_of c + n * width_of c = omega (arith, suc-mul n (width_of c)) in
      let count : suc n * k ≡ k + n * k = omega (arith, suc-mul n k) in
      let turned : turned_run w s (suc n * k) at out ≡ turned_run w s (n * k) (at + width_of c) after =
      ap (λ (j : ℕ). turned_run w s j at out) count
      ∙ run-split s w k (n * k) at out
      ∙ ap (λ (j : ℕ). turned_run w s (n * k) (at + j) after) (numbers-all c) in
      rw (there, turned) last

-- a string that is read
pub record TextRead (o : Order) (s : List ℕ) (at : ℕ) : Type 0 where
  pub fits : at + 4 + number_at o s at 4 ≤ length s
  pub eq : text_at o s at ≡ single string at (at + 4 + number_at o s at 4)

pub text-read : (o : Order) (s : List ℕ) (at : ℕ) → is_read (text_at o s at) ≡ true → TextRead o s at
unfolding text_at
text-read o s at e =
    let n : ℕ = number_at o s at 4 in
    let whole : Outcome (List Token) = single string at (at + 4 + n) in
    let last : Outcome (List Token) = require (leb (at + 4 + n) (length s)) 21 at whole in
    let word = tested (leb (at + 4) (length s)) 21 at (require (ltb n length_limit) 22 at last) e in
    let low = tested (ltb n length_limit) 22 at last (sym (ap is_read word.1) ∙ e) in
    let all = tested (leb (at + 4 + n) (length s)) 21 at whole (sym (ap is_read (word.1 ∙ low.1)) ∙ e) in
    record { fits = leb-true _ _ all.0; eq = word.1 ∙ low.1 ∙ all.1 }

pub text-turned : (o : Order) (s : List ℕ) (at : ℕ) → TextRead o s at → (out after : List ℕ) (n : ℕ) → n ≡ number_at o s at 4
    → after ≡ turned_run 1 s n (at + 4) (turned_at 4 s at out) → Turned (text_at o s at) s out after (at + 4 + n)
unfolding next_of tokens_of
text-turned o s at r out after n e h =
    let there : at + 4 + n ≡ at + 4 + number_at o s at 4 = omega arith in
    record {
      place = there ∙ sym (ap next_of r.eq);
      inside = omega (arith, r.fits);
      bytes =
          h
          ∙ sym (string-token s n at out (omega (arith, r.fits)))
          ∙ ap (λ (q : ℕ). turned_tokens s (token string at q ∷ []) out) there
          ∙ ap (λ (u : Outcome (List Token)). turned_tokens s (tokens_of u) out) (sym r.eq);
    }
