-- Document 01's "together the pieces are the whole data", for any part of the data: the tokens that a walk gives, joined, are the bytes that
-- it goes over. Rests on the definition of the walk alone.
use mathlib.Core.Path.{◌≡◌, refl, sym, ap, ◌∙◌}
use mathlib.Core.Bool.{Bool, true}
use mathlib.Core.List.{List, [], ◌∷◌, ◌++◌, append_assoc, append-nil}
use Prim.Native.Nat.{ℕ, zero, suc, ◌+◌, ◌*◌, ◌≤◌}
use native.Mathlib.Omega.{arith}
use borrow.Author.Tests.{leb-true}
use lib.Dec.{leb, ltb}
use lib.ListN.{length}
use lib.Seq.{slice, slice_empty}
use Rattle.descriptor.specs.Tree.{empty, items, pairs, text, dimensions, members, subtype, Tree, node, Forest, nil, cons}
use Rattle.descriptor.specs.Outcome.{Outcome}
use Rattle.descriptor.proofs.Outcomes.{Holds, found, holds-require, holds-and_then}
use Rattle.encoding.proofs.Slices.{slice-join}
use Rattle.descriptor.specs.Width.{width_of}
use Rattle.flattened.specs.Order.{Order, number_at}
use Rattle.flattened.specs.Token.{TokenKind, string, Token, token_bytes, joined}
use Rattle.descriptor.specs.Limits.{length_limit}
use Rattle.flattened.specs.Walk.{token, scalar_at, text_at, sizes_at, sizes_fit, array_at, follow, repeat, walk_fields, walk, walk_all}

-- a walk went over s from a up to b, and its tokens, joined, are those bytes
pub record Over (s : List ℕ) (a b : ℕ) (ts : List Token) : Type 0 where
  pub order : a ≤ b
  pub within : b ≤ length s
  pub bytes : joined s ts ≡ slice a b s

-- what holds of a walk from a on, wherever it comes to an end
abbrev pub Goes : List ℕ → ℕ → Outcome (List Token) → Type 0
Goes s a o = Holds (λ b ts. Over s a b ts) o

joined-append : (s : List ℕ) (ts us : List Token) → joined s (ts ++ us) ≡ joined s ts ++ joined s us
unfolding joined
joined-append s [] us = refl
joined-append s (t ∷ ts) us = ap (λ (x : List ℕ). token_bytes s t ++ x) (joined-append s ts us) ∙ sym (append_assoc (token_bytes s t) _ _)

module _ (s : List ℕ) where
  -- no token
  over_none : (a : ℕ) → a ≤ length s → Over s a a []
  unfolding joined
  over_none a h = record { order = omega arith; within = h; bytes = sym (slice_empty a s) }

  -- one token
  over-one : (k : TokenKind) (a b : ℕ) → a ≤ b → b ≤ length s → Over s a b (token k a b ∷ [])
  unfolding joined
  over-one k a b h g = record { order = h; within = g; bytes = append-nil (slice a b s) }

  -- the tokens of two parts, the second from where the first ended
  over-both : (a b c : ℕ) (ts us : List Token) → Over s a b ts → Over s b c us → Over s a c (ts ++ us)
  over-both a b c ts us x y = record {
    order = omega (arith, x.order, y.order);
    within = y.within;
    bytes = joined-append s ts us ∙ rw (x.bytes, y.bytes) (slice-join a b c s x.order y.order);
  }

  goes-follow : (a : ℕ) (o : Outcome (List Token)) (next : ℕ → Outcome (List Token)) → Goes s a o
      → ((b : ℕ) → b ≤ length s → Goes s b (next b)) → Goes s a (follow o next)
  goes-follow a o next first then =
      holds-and_then first (λ b ts x. holds-and_then (then b x.within) (λ c us y. found (over-both a b c ts us x y)))

  goes-scalar : (c at : ℕ) (fits : Bool) → Goes s at (scalar_at c s at fits)
  unfolding scalar_at
  goes-scalar c at fits =
      holds-require _ 21 at (λ e. holds-require fits 23 at (λ _. found (over-one _ at (at + width_of c) (omega arith) (leb-true _ _ e))))

  goes-text : (o : Order) (at : ℕ) → Goes s at (text_at o s at)
  unfolding text_at
  goes-text o at =
      holds-require (leb (at + 4) (length s)) 21 at
      (λ _.
      holds-require (ltb (number_at o s at 4) length_limit) 22 at
      (λ _.
      holds-require (leb (at + 4 + number_at o s at 4) (length s)) 21 at
      (λ e. found (over-one string at (at + 4 + number_at o s at 4) (omega arith) (leb-true _ _ e)))))

  pub goes-repeat : (f : ℕ → Outcome (List Token)) → ((a : ℕ) → a ≤ length s → Goes s a (f a)) → (n at : ℕ) → at ≤ length s
      → Goes s at (repeat f n at)
  unfolding repeat
  goes-repeat f each zero at h = found (over_none at h)
  goes-repeat f each (suc n) at h =
      goes-follow at (f at) (λ next. repeat f n next) (each at h) (λ next g. goes-repeat f each n next g)

  -- an array's size words, then its elements
  goes_array : (o : Order) (k : ℕ) (inside : ℕ → Outcome (List Token)) → ((a : ℕ) → a ≤ length s → Goes s a (inside a)) → (c at : ℕ)
      → Goes s at (walk_fields o c (dimensions k) inside s at)
  unfolding walk_fields array_at
  goes_array o k inside each c at =
      holds-and_then {P = λ q n. (at ≤ q) × (q ≤ length s)}
      (holds-require (leb (at + 4 * k) (length s)) 21 at
      (λ e. holds-require (sizes_fit (sizes_at o s k at)) 22 at (λ _. found {q = at + 4 * k} (omega arith, leb-true _ _ e))))
      (λ next n h.
      holds-and_then (goes-repeat inside each n next h.1)
      (λ last ts x. found (over-both at next last (token _ at next ∷ []) ts (over-one _ at next h.0 h.1) x)))

  mutual
    unfolding walk walk_fields

    -- the walk of a type
    pub goes-walk : (o : Order) (t : Tree) (at : ℕ) → at ≤ length s → Goes s at (walk o t s at)
    goes-walk o (node c empty f m) at h = goes-scalar c at true
    goes-walk o (node c (items xs) f m) at h = goes-scalar c at _
    goes-walk o (node c (pairs ps) f m) at h = goes-scalar c at true
    goes-walk o (node c text f m) at h = goes-text o at
    goes-walk o (node c (dimensions k) f m) at h = goes_array o k (λ p. walk_all o f s p) (λ p g. goes-walk_all o f p g) c at
    goes-walk o (node c (members k) f m) at h = goes-walk_all o f at h
    goes-walk o (node c subtype f m) at h = goes-walk_all o f at h

    -- and of types in a row
    pub goes-walk_all : (o : Order) (f : Forest) (at : ℕ) → at ≤ length s → Goes s at (walk_all o f s at)
    goes-walk_all o nil at h = found (over_none at h)
    goes-walk_all o (cons t f) at h =
        goes-follow at (walk o t s at) (λ next. walk_all o f s next) (goes-walk o t at h) (λ next g. goes-walk_all o f next g)
