-- "The little-endian form has the same layout with the bytes of each number reversed in place": it is the same value's bytes in the other
-- order, with the same pieces. There and back is the same data, from either side. Rests on what the walk accepts.
use mathlib.Core.Path.{◌≡◌, refl, sym, ap, ap₂, subst, ◌∙◌}
use mathlib.Core.Logic.{◌↔◌}
use mathlib.Core.Bool.{false}
use mathlib.Core.List.{List}
use Prim.Native.Nat.{ℕ}
use native.Mathlib.Omega.{arith}
use lib.ListN.{length}
use Rattle.descriptor.specs.Tree.{Tree}
use Rattle.descriptor.specs.Encoding.{Bytes, WellFormed}
use Rattle.descriptor.specs.Outcome.{read}
use Rattle.flattened.specs.Order.{Order, big, little}
use Rattle.flattened.specs.Token.{Token}
use Rattle.flattened.specs.Walk.{walked}
use Rattle.byte_order.specs.Reversal.{reversed}
use Rattle.values.specs.Value.{Value, Fits, other, flatten}
use Rattle.values.specs.Pieces.{pieces}
use Rattle.values.proofs.Lengths.{value-length}
use Rattle.values.proofs.AllBytes.{value-bytes}
use Rattle.values.proofs.Accepted.{Accepts, complete, turned, unique, sound}

-- the other of the other is the one
other-other : (o : Order) → other (other o) ≡ o
unfolding other
other-other big = refl
other-other little = refl

-- s is the form, in the other order, of bytes that are accepted in the order o
pub record Form (o : Order) (t : Tree) (s : List ℕ) : Type 0 where
  pub source : List ℕ
  pub bytes : Bytes source
  pub end : ℕ
  pub tokens : List Token
  pub walks : walked o t source ≡ read end tokens
  pub form : s ≡ reversed source tokens

module _ (o : Order) (t : Tree) (formed : WellFormed false t) (s : List ℕ) (b : Bytes s) (q : ℕ) (ts : List Token) (e : walked o t s ≡ read q ts) where
  -- the numbers of accepted data reversed are the same value's bytes in the other order
  pub form-value : (v : Value) → Fits t v → s ≡ flatten o t v → reversed s ts ≡ flatten (other o) t v
  form-value v fits same =
      let r = sound o t formed s b q ts e in
      let one : r.0.value ≡ v = unique o t r.0.value v r.0.fits fits (sym r.0.bytes ∙ same) in
      ap₂ reversed same (r.3 ∙ ap (pieces t) one) ∙ turned o t v fits

  -- the form is bytes
  pub form-bytes : Bytes (reversed s ts)
  form-bytes =
      let d = (sound o t formed s b q ts e).0 in
      subst (λ (x : List ℕ). Bytes x) (sym (form-value d.value d.fits d.bytes)) (value-bytes (other o) d.fits)

  -- it is accepted in the other order with the same tokens, and its own form is the data that it was made of
  pub there_and_back : (walked (other o) t (reversed s ts) ≡ read q ts) × (reversed (reversed s ts) ts ≡ s)
  there_and_back =
      let r = sound o t formed s b q ts e in
      let d = r.0 in
      let v : Value = d.value in
      let x : List ℕ = flatten (other o) t v in
      let form : reversed s ts ≡ x = form-value v d.fits d.bytes in
      let size : length s ≡ length (flatten o t v) = ap length d.bytes in
      let long : length x ≡ q = omega (arith, value-length (other o) o d.fits, r.2) in (
        ap (walked (other o) t) form
            ∙ complete (other o) t v d.fits (omega (arith, r.1, r.2))
            ∙ ap₂ (λ (k : ℕ) (us : List Token). read k us) long (sym r.3),
        ap₂ reversed form r.3 ∙ turned (other o) t v d.fits ∙ ap (λ (p : Order). flatten p t v) (other-other o) ∙ sym d.bytes,
      )

-- bytes are accepted in one order exactly when they are the form of bytes that are accepted in the other
pub form-exactly : (o : Order) (t : Tree) → WellFormed false t → (s : List ℕ) → Bytes s → Accepts o t s ↔ Form (other o) t s
form-exactly o t formed s b = (λ a. of a, λ f. back f)
  where
    of : Accepts o t s → Form (other o) t s
    of a =
        let r = there_and_back o t formed s b a.end a.tokens a.walks in
        record {
          source = reversed s a.tokens;
          bytes = form-bytes o t formed s b a.end a.tokens a.walks;
          end = a.end;
          tokens = a.tokens;
          walks = r.0;
          form = sym r.1;
        }

    back : Form (other o) t s → Accepts o t s
    back f =
        let r = there_and_back (other o) t formed f.source f.bytes f.end f.tokens f.walks in
        record {
          end = f.end;
          tokens = f.tokens;
          walks = ap₂ (λ (p : Order) (x : List ℕ). walked p t x) (sym (other-other o)) f.form ∙ r.0;
        }

-- the same by the names of the orders
module _ (t : Tree) (formed : WellFormed false t) (s : List ℕ) (b : Bytes s) where
  pub little-form : (q : ℕ) (ts : List Token) → walked big t s ≡ read q ts → (v : Value) → Fits t v → s ≡ flatten big t v → reversed s ts ≡ flatten little t v
  unfolding other
  little-form = form-value big t formed s b

  pub big-form : (q : ℕ) (ts : List Token) → walked little t s ≡ read q ts → (v : Value) → Fits t v → s ≡ flatten little t v
      → reversed s ts ≡ flatten big t v
  unfolding other
  big-form = form-value little t formed s b

  pub little-and-back : (q : ℕ) (ts : List Token) → walked big t s ≡ read q ts
      → (walked little t (reversed s ts) ≡ read q ts) × (reversed (reversed s ts) ts ≡ s)
  unfolding other
  little-and-back = there_and_back big t formed s b

  pub big-and-back : (q : ℕ) (ts : List Token) → walked little t s ≡ read q ts
      → (walked big t (reversed s ts) ≡ read q ts) × (reversed (reversed s ts) ts ≡ s)
  unfolding other
  big-and-back = there_and_back little t formed s b

  -- "A little-endian buffer is accepted exactly when it is the form of accepted data"
  pub little-exactly : Accepts little t s ↔ Form big t s
  unfolding other
  little-exactly = form-exactly little t formed s b
