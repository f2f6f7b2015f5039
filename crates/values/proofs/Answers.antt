-- What the data check and the two turnings of byte order answer for a value's bytes. Rests on what the walk accepts.
use mathlib.Core.Path.{◌≡◌, refl, ap, subst, ◌∙◌}
use mathlib.Core.Logic.{◌↔◌}
use mathlib.Core.List.{List}
use Prim.Native.Nat.{ℕ, ◌≤◌}
use native.Mathlib.Omega.{arith}
use lib.ListN.{length}
use Rattle.descriptor.specs.Limits.{data_limit}
use Rattle.descriptor.specs.Tree.{Tree}
use Rattle.descriptor.specs.Outcome.{Outcome, refused, read}
use Rattle.descriptor.specs.Encoding.{Bytes}
use Rattle.descriptor.specs.Check.{checked}
use Rattle.descriptor.specs.Answers.{accepted}
use Rattle.descriptor.specs.Output.{written_to}
use Rattle.descriptor.specs.declared.answer.Answer.{Answer}
use Rattle.encoding.proofs.Accepted.{accepted-spells}
use Rattle.flattened.specs.Order.{Order, big, little}
use Rattle.flattened.specs.Token.{Token}
use Rattle.flattened.specs.Walk.{walked}
use Rattle.flattened.specs.Answers.{data_check}
use Rattle.byte_order.specs.Reversal.{to_little_endian, from_little_endian}
use Rattle.byte_order.specs.Reversal as Reversal
use Rattle.values.specs.Value.{Value, Fits, other, flatten, Data}
use Rattle.values.specs.Pieces.{pieces}
use Rattle.values.proofs.Accepted.{complete, turned, sound}
use Rattle.flattened.proofs.Refusals.{refused-number}

-- a descriptor d of the type t, and a value of it
module _ (d : List ℕ) (n : ℕ) (t : Tree) (known : checked d ≡ read n t) (v : Value) (fits : Fits t v) where
  -- "Data check (place is the piece count)."
  pub data-answer : length (flatten big t v) ≤ data_limit → data_check d (flatten big t v) ≡ accepted (length (pieces t v))
  unfolding data_check
  data-answer short = rw (known, complete big t v fits short) refl

  -- the value's bytes in the other order are written
  turned-answer : (o : Order) (out : List ℕ) → length (flatten o t v) ≤ data_limit
      → Reversal.turned o d (flatten o t v) out ≡ written_to out (flatten (other o) t v)
  unfolding Reversal.turned
  turned-answer o out short = rw (known, complete o t v fits short) (ap (written_to out) (turned o t v fits))

  pub to-little : (out : List ℕ) → length (flatten big t v) ≤ data_limit → to_little_endian d (flatten big t v) out ≡ written_to out (flatten little t v)
  unfolding other
  to-little out short = turned-answer big out short

  pub from-little : (out : List ℕ) → length (flatten little t v) ≤ data_limit
      → from_little_endian d (flatten little t v) out ≡ written_to out (flatten big t v)
  unfolding other
  from-little out short = turned-answer little out short

-- a descriptor d of the type t, and any data
module _ (d : List ℕ) (known_bytes : Bytes d) (n : ℕ) (t : Tree) (known : checked d ≡ read n t) (s : List ℕ) (b : Bytes s) where
  -- the number is 0 only where data was walked
  zero-data : (o : Outcome (List Token)) → walked big t s ≡ o → (data_check d s).number ≡ 0 → Data big t s × (length s ≤ data_limit)
  unfolding data_check
  zero-data (refused number place) e zero =
      let same : (data_check d s).number ≡ number = rw (known, e) refl in
      absurd (omega (arith, refused-number s big t number place e))
  zero-data (read q ts) e zero =
      let formed = (accepted-spells d known_bytes t n known).1.0.formed in
      let r = sound big t formed s b q ts e in
      (r.0, r.1)

  -- data is accepted exactly when it is a value's bytes, at most 65,536 of them
  pub answer-exactly : ((data_check d s).number ≡ 0) ↔ (Data big t s × (length s ≤ data_limit))
  answer-exactly = (zero-data (walked big t s) refl, λ r. zero r.0 r.1)
    where
      zero : Data big t s → length s ≤ data_limit → (data_check d s).number ≡ 0
      zero x short =
          let a = data-answer d n t known x.value x.fits (subst (λ (l : List ℕ). length l ≤ data_limit) x.bytes short) in
          ap (λ (l : List ℕ). (data_check d l).number) x.bytes ∙ ap (λ (r : Answer). r.number) a
