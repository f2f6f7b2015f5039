-- Demand 2, there and back: "Turning accepted data to little-endian form and back returns it, from either side, given room."
-- The public entries whose contracts use these definitions are to_little_endian and from_little_endian.
-- Rests on the laws of values: the little-endian form is the same value flattened the other way.
use mathlib.Core.Path.{◌≡◌, refl, sym, ap, ◌∙◌}
use mathlib.Core.Logic.{◌↔◌}
use mathlib.Core.Bool.{Bool, true, false}
use mathlib.Core.List.{List}
use Prim.Native.Nat.{ℕ, ◌≤◌}
use native.Mathlib.Omega.{arith}
use borrow.Author.Tests.{leb-true}
use lib.Dec.{leb}
use lib.ListN.{length}
use Rattle.descriptor.specs.Limits.{data_limit}
use Rattle.descriptor.specs.Encoding.{Bytes}
use Rattle.descriptor.specs.Outcome.{Outcome, refused, read}
use Rattle.descriptor.specs.Check.{checked}
use Rattle.descriptor.specs.Output.{Written, written_to, given}
use Rattle.flattened.specs.Order.{Order, big, little}
use Rattle.flattened.specs.Token.{Token}
use Rattle.flattened.specs.Walk.{walked}
use Rattle.byte_order.specs.Reversal.{reversed, turned, to_little_endian, from_little_endian}
use Rattle.values.specs.Value.{Value, Fits, other, flatten}
use Rattle.values.proofs.Accepted.{Accepts, sound}
use Rattle.values.proofs.Forms.{Form, there_and_back, form-bytes, little-exactly}
use Rattle.values.proofs.Answers.{to-little, from-little}
use Rattle.flattened.proofs.Refusals.{refused-number}
use Rattle.demands.proofs.Accepted.{Described, described-read}
use Rattle.demands.proofs.Frame.{Framed, judge-framed, written-framed}
use Rattle.demands.proofs.Shape.{front}
use Rattle.demands.proofs.Resolved.{written-fits, given-front}

-- Demand 1's frame
pub turned-framed : (o : Order) (d s out : List ℕ) → Framed out (turned o d s out)
unfolding turned
turned-framed o d s out =
    judge-framed out 1 (checked d) (λ t. _)
    (λ t. judge-framed out 3 (walked o t s) (λ ts. written_to out (reversed s ts)) (λ ts. written-framed out (reversed s ts)))

-- data of the descriptor d, in either order
module _ (o : Order) (d : List ℕ) (x : Described d) (s : List ℕ) (bytes : Bytes s) where
  -- data that is walked is turned
  turned-walked : (out : List ℕ) (q : ℕ) (ts : List Token) → walked o x.tree s ≡ read q ts → turned o d s out ≡ written_to out (reversed s ts)
  unfolding turned
  turned-walked out q ts e = rw (described-read d x, e) refl

  -- what is turned is as long
  turned-length : (q : ℕ) (ts : List Token) → walked o x.tree s ≡ read q ts → length (reversed s ts) ≡ length s
  turned-length q ts e =
      let formed = x.limits.formed in
      let back = (there_and_back o x.tree formed s bytes q ts e).0 in
      sym (sound (other o) x.tree formed (reversed s ts) (form-bytes o x.tree formed s bytes q ts e) q ts back).2
      ∙ (sound o x.tree formed s bytes q ts e).2

  -- it is accepted, within the room
  pub record Turns (out : List ℕ) : Type 0 where
    pub end : ℕ
    pub tokens : List Token
    pub walks : walked o x.tree s ≡ read end tokens
    pub room : length s ≤ length out

  -- what is written then
  pub turns-written : (out : List ℕ) (h : Turns out) → turned o d s out ≡ front out (reversed s h.tokens)
  turns-written out h =
      turned-walked out h.end h.tokens h.walks
      ∙ written-fits out (reversed s h.tokens) (omega (arith, turned-length h.end h.tokens h.walks, h.room))

  -- the number is 0 only then
  zero-turns : (out : List ℕ) (w : Outcome (List Token)) → walked o x.tree s ≡ w → (turned o d s out).answer.number ≡ 0 → Turns out
  unfolding turned written_to
  zero-turns out (refused number place) e zero =
      let same : (turned o d s out).answer.number ≡ number = rw (described-read d x, e) refl in
      absurd (omega (arith, refused-number s o x.tree number place e))
  zero-turns out (read q ts) e zero = fits (leb (length (reversed s ts)) (length out)) refl
    where
      fits : (b : Bool) → leb (length (reversed s ts)) (length out) ≡ b → Turns out
      fits true r =
          let long = turned-length q ts e in
          let short = leb-true (length (reversed s ts)) (length out) r in
          record { end = q; tokens = ts; walks = e; room = omega arith }
      fits false r =
          let fifty : (turned o d s out).answer.number ≡ 50 = rw (described-read d x, e, r) refl in
          absurd (omega arith)

  -- accepted exactly when the walk in that order accepts it and there is room
  pub turned-exactly : (out : List ℕ) → ((turned o d s out).answer.number ≡ 0) ↔ (Accepts o x.tree s × (length s ≤ length out))
  turned-exactly out = (
    λ zero. let h = zero-turns out (walked o x.tree s) refl zero in (record { end = h.end; tokens = h.tokens; walks = h.walks }, h.room),
    λ h.
        let r : Turns out = record { end = h.0.end; tokens = h.0.tokens; walks = h.0.walks; room = h.1 } in
        ap (λ (w : Written). w.answer.number) (turns-written out r),
  )

  -- what is walked in the other order is turned back
  turned-other : (back l : List ℕ) {q : ℕ} {ts : List Token} → walked (other o) x.tree l ≡ read q ts
      → turned (other o) d l back ≡ written_to back (reversed l ts)
  unfolding turned
  turned-other back l e = rw (described-read d x, e) refl

  -- turned there and back, it is what it was
  pub returned : (out back : List ℕ) → (turned o d s out).answer.number ≡ 0 → length s ≤ length back
      → turned (other o) d (given (turned o d s out)) back ≡ front back s
  returned out back zero room =
      let h = zero-turns out (walked o x.tree s) refl zero in
      let form : given (turned o d s out) ≡ reversed s h.tokens = ap given (turns-written out h) ∙ given-front out (reversed s h.tokens) in
      let again = there_and_back o x.tree x.limits.formed s bytes h.end h.tokens h.walks in
      ap (λ (l : List ℕ). turned (other o) d l back) form
      ∙ (turned-other back (reversed s h.tokens) again.0 ∙ (ap (written_to back) again.1 ∙ written-fits back s room))

-- the same by the names of the entries
module _ (d : List ℕ) (x : Described d) (s : List ℕ) (bytes : Bytes s) where
  -- "Turning accepted data to little-endian form and back returns it, from either side, given room."
  pub there_back : (out back : List ℕ) → (to_little_endian d s out).answer.number ≡ 0 → length s ≤ length back
      → from_little_endian d (given (to_little_endian d s out)) back ≡ front back s
  unfolding other
  there_back = returned big d x s bytes

  pub back-there : (out back : List ℕ) → (from_little_endian d s out).answer.number ≡ 0 → length s ≤ length back
      → to_little_endian d (given (from_little_endian d s out)) back ≡ front back s
  unfolding other
  back-there = returned little d x s bytes

  -- "A little-endian buffer is accepted exactly when it is the form of accepted data"
  pub little-accepted : (out : List ℕ) → ((from_little_endian d s out).answer.number ≡ 0) ↔ (Form big x.tree s × (length s ≤ length out))
  little-accepted out =
      let e = turned-exactly little d x s bytes out in
      let f = little-exactly x.tree x.limits.formed s bytes in
      (λ zero. let r = e.0 zero in (f.0 r.0, r.1), λ h. e.1 (f.1 h.0, h.1))

  -- and that data is one
  pub one-source : (f g : Form big x.tree s) → f.source ≡ g.source
  unfolding other
  one-source f g =
      let formed = x.limits.formed in
      let a = there_and_back big x.tree formed f.source f.bytes f.end f.tokens f.walks in
      let b = there_and_back big x.tree formed g.source g.bytes g.end g.tokens g.walks in
      let one : walked little x.tree s ≡ read f.end f.tokens = ap (walked little x.tree) f.form ∙ a.0 in
      let two : walked little x.tree s ≡ read g.end g.tokens = ap (walked little x.tree) g.form ∙ b.0 in
      let tokens : f.tokens ≡ g.tokens = cc in
      sym a.1 ∙ ((λ i. reversed (sym f.form i) (tokens i)) ∙ (ap (λ (l : List ℕ). reversed l g.tokens) g.form ∙ b.1))

-- the little-endian form of a value's data is the same value flattened the other way, and back
module _ (d : List ℕ) (x : Described d) (v : Value) (fits : Fits x.tree v) (out : List ℕ) where
  pub little-value : length (flatten big x.tree v) ≤ data_limit → to_little_endian d (flatten big x.tree v) out ≡ written_to out (flatten little x.tree v)
  little-value = to-little d (length d) x.tree (described-read d x) v fits out

  pub big-value : length (flatten little x.tree v) ≤ data_limit → from_little_endian d (flatten little x.tree v) out ≡ written_to out (flatten big x.tree v)
  big-value = from-little d (length d) x.tree (described-read d x) v fits out
