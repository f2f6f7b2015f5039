-- The data that the walk accepts is exactly the bytes of the values of its type, at most 65,536 of them; its tokens are the value's pieces;
-- and no bytes are those of two values.
-- Rests on `Sound`, what is walked is a value's, `Complete`, what is a value's is walked, and `Unique`.
use mathlib.Core.Path.{◌≡◌, refl, sym, ap, subst, ◌∙◌}
use mathlib.Core.Logic.{◌↔◌}
use mathlib.Core.Bool.{false}
use mathlib.Core.List.{List, [], ◌++◌}
use Prim.Native.Nat.{ℕ, ◌+◌, ◌≤◌}
use native.Mathlib.Omega.{arith}
use borrow.Author.Tests.{leb-true, eqb-true, le-leb, eq-eqb}
use lib.Dec.{leb, eqb}
use lib.ListN.{length}
use Rattle.descriptor.specs.Limits.{data_limit}
use Rattle.descriptor.specs.Tree.{Tree}
use Rattle.descriptor.specs.Encoding.{Bytes, WellFormed}
use Rattle.descriptor.specs.Outcome.{refused, read}
use Rattle.descriptor.proofs.Outcomes.{Holds, found, holds_read, holds-require, holds-and_then}
use Rattle.encoding.proofs.Complete.{pass, onward}
use Rattle.flattened.specs.Order.{Order}
use Rattle.flattened.specs.Token.{Token}
use Rattle.flattened.specs.Walk.{walk, walked}
use Rattle.byte_order.specs.Reversal.{reversed}
use Rattle.values.specs.Value.{Value, Fits, other, flatten, Data}
use Rattle.values.specs.Pieces.{pieces}
use Rattle.values.proofs.Places.{here-whole, whole_here}
use Rattle.values.proofs.Complete.{Walks, value-walks}
use Rattle.values.proofs.Sound.{value-stands}
use Rattle.values.proofs.Unique.{values-apart}

module _ (o : Order) (t : Tree) (v : Value) (fits : Fits t v) where
  -- the walk of a value's bytes
  walk-whole : Walks (flatten o t v) (0 + length (flatten o t v)) (pieces t v) (flatten (other o) t v) (walk o t (flatten o t v) 0)
  walk-whole = value-walks o (flatten o t v) fits 0 (here-whole (flatten o t v))

  -- a value's bytes within the limit are accepted, and their tokens are its pieces
  pub complete : length (flatten o t v) ≤ data_limit → walked o t (flatten o t v) ≡ read (length (flatten o t v)) (pieces t v)
  unfolding walked
  complete short =
      let n : ℕ = length (flatten o t v) in
      let last : 0 + n ≡ n = omega arith in
      pass _ _ (le-leb n data_limit short)
      (onward _ (walk-whole.walks ∙ ap (λ (k : ℕ). read k (pieces t v)) last) (pass _ _ (eq-eqb n n refl) refl))

  -- the numbers of its pieces reversed are its bytes in the other order
  pub turned : reversed (flatten o t v) (pieces t v) ≡ flatten (other o) t v
  turned = walk-whole.turns

-- no bytes are those of two values
pub unique : (o : Order) (t : Tree) (v w : Value) → Fits t v → Fits t w → flatten o t v ≡ flatten o t w → v ≡ w
unique o t v w h k e = (values-apart o h k [] [] (ap (λ (x : List ℕ). x ++ []) e)).0

module _ (o : Order) (t : Tree) (s : List ℕ) where
  -- so data is of one value
  pub one_value : (d e : Data o t s) → d.value ≡ e.value
  one_value d e = unique o t d.value e.value d.fits e.fits (sym d.bytes ∙ e.bytes)

  -- and is accepted within the limit
  pub data-walked : (d : Data o t s) → length s ≤ data_limit → walked o t s ≡ read (length s) (pieces t d.value)
  data-walked d short =
      let v : Value = d.value in
      ap (walked o t) d.bytes
      ∙ complete o t v d.fits (subst (λ (x : List ℕ). length x ≤ data_limit) d.bytes short)
      ∙ ap (λ (x : List ℕ). read (length x) (pieces t v)) (sym d.bytes)

  -- what is refused within the limit is no value's bytes
  pub refused_none : (number place : ℕ) → walked o t s ≡ refused number place → length s ≤ data_limit → Data o t s → ⊥
  refused_none number place e short d =
      let f = data-walked d short in
      let z : ◌≡◌ {A = ℕ} 0 1 = cc in
      omega arith

-- the walk accepts the bytes s as data of the type t
pub record Accepts (o : Order) (t : Tree) (s : List ℕ) : Type 0 where
  pub end : ℕ
  pub tokens : List Token
  pub walks : walked o t s ≡ read end tokens

module _ (o : Order) (t : Tree) (formed : WellFormed false t) (s : List ℕ) (b : Bytes s) where
  -- what is accepted is a value's bytes, all of them, within the limit
  walked-data : (q : ℕ) (ts : List Token) → walked o t s ≡ read q ts → Data o t s × (length s ≤ data_limit) × (q ≡ length s)
  unfolding walked
  walked-data q ts e = holds_read e all
    where
      all : Holds (λ q ts. Data o t s × (length s ≤ data_limit) × (q ≡ length s)) (walked o t s)
      all =
          holds-require (leb (length s) data_limit) _ _ (λ short.
          holds-and_then (value-stands o s b t false formed 0 (omega arith)) (λ q ts r.
          holds-require (eqb q (length s)) _ _ (λ whole.
          let last : q ≡ length s = eqb-true q (length s) whole in
          let same : s ≡ flatten o t r.value = whole_here s (flatten o t r.value) r.here (sym last ∙ r.end) in
          found (record { value = r.value; fits = r.fits; bytes = same }, leb-true _ _ short, last))))

  -- and its tokens are the value's pieces
  pub sound : (q : ℕ) (ts : List Token) → walked o t s ≡ read q ts
      → (d : Data o t s) × (length s ≤ data_limit) × (q ≡ length s) × (ts ≡ pieces t d.value)
  sound q ts e =
      let r = walked-data q ts e in
      let f = data-walked o t s r.0 r.1 in
      (r.0, r.1, r.2, cc)

  -- data is accepted exactly when it is a value's bytes, at most 65,536 of them
  pub exactly-when : Accepts o t s ↔ (Data o t s × (length s ≤ data_limit))
  exactly-when = (
    λ a. let r = walked-data a.end a.tokens a.walks in (r.0, r.1),
    λ d. record { end = length s; tokens = pieces t d.0.value; walks = data-walked o t s d.0 d.1 },
  )
