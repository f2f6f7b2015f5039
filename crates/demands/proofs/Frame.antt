-- Demand 1, what an output buffer holds after an answer: "A refusal changes nothing in any output buffer."
-- The public entries whose contracts use these definitions are normal_form and read_record. Rests on the definitions of the outputs alone.
use mathlib.Core.Path.{◌≡◌, refl}
use mathlib.Core.Logic.{◌≢◌}
use mathlib.Core.Bool.{Bool, true, false, cond}
use mathlib.Core.List.{List, ◌++◌}
use Prim.Native.Nat.{ℕ}
use native.Mathlib.Omega.{arith}
use borrow.Author.Tests.{leb-true}
use lib.Dec.{leb}
use lib.ListN.{length, drop, length-append, length-drop}
use lib.Seq.{drop-append_seam}
use Rattle.descriptor.specs.Encoding.{encode}
use Rattle.descriptor.specs.Outcome.{Outcome, judge, Verdict, denied, granted, settle}
use Rattle.descriptor.specs.Check.{checked}
use Rattle.descriptor.specs.Answers.{accepted}
use Rattle.descriptor.specs.Output.{Written, unwritten, written_to}
use Rattle.descriptor.proofs.Outcomes.{judge-so}
use Rattle.canonical.specs.Normal.{normal_form}
use Rattle.resolution.specs.Record.{record_bytes, resolved}

-- what the answer w leaves of the output `out`
pub record Framed (out : List ℕ) (w : Written) : Type 0 where
  -- "A refusal changes nothing in any output buffer."
  pub refusal : w.answer.number ≢ 0 → w.out ≡ out
  -- "On success, output beyond the length written keeps its bytes."
  pub beyond : w.answer.number ≡ 0 → drop w.answer.place w.out ≡ drop w.answer.place out
  -- and the output stays as long as it was
  pub room : length w.out ≡ length out

-- nothing was written
unwritten-framed : (out : List ℕ) (number input place : ℕ) → Framed out (unwritten out number input place)
unwritten-framed out number input place = record { refusal = λ _. refl; beyond = λ _. refl; room = refl }

-- bytes were written at the front, where they fit
pub written-framed : (out bytes : List ℕ) → Framed out (written_to out bytes)
unfolding written_to
written-framed out bytes = fits (leb (length bytes) (length out)) refl
  where
    fits : (b : Bool) → leb (length bytes) (length out) ≡ b
        → Framed out (cond b (record { answer = accepted (length bytes); out = bytes ++ drop (length bytes) out }) (unwritten out 50 4 (length bytes)))
    fits true e = record {
      refusal = λ h. absurd (h refl);
      beyond = λ _. drop-append_seam bytes (drop (length bytes) out);
      room = simp (length-append, length-drop) (omega (arith, leb-true));
    }
    fits false e = unwritten-framed out 50 4 (length bytes)

-- an answer that a reading decides
pub judge-framed : {A : Type 0} (out : List ℕ) (input : ℕ) (o : Outcome A) (w : A → Written) → ((x : A) → Framed out (w x))
    → Framed out (judge (unwritten out) input o w)
judge-framed out input o w framed =
    judge-so (Framed out) (unwritten out) input o w (λ number place _. unwritten-framed out number input place) (λ _ x _. framed x)

-- the normal form of any bytes d
pub normal-framed : (d out : List ℕ) → Framed out (normal_form d out)
unfolding normal_form
normal-framed d out = judge-framed out 1 (checked d) (λ t. written_to out (encode t)) (λ t. written-framed out (encode t))

-- a verdict over several inputs
settle-framed : (out : List ℕ) (v : Verdict (List ℕ)) → Framed out (settle (unwritten out) (written_to out) v)
settle-framed out (denied number input place) = unwritten-framed out number input place
settle-framed out (granted bytes) = written-framed out bytes

-- the record of any bytes w, r and s
pub resolved-framed : (w r s out : List ℕ) → Framed out (resolved w r s out)
unfolding resolved
resolved-framed w r s out = settle-framed out (record_bytes w r s)
