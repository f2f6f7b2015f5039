-- Demand 1's "first refusal in document 01's order, with its place", of data: whatever is asked of data under an accepted descriptor, and of a record with
-- an accepted reader's, it is refused as input 3 with a number and a place exactly when whole pieces stand up to the place and the piece there is cut (21),
-- has a length or size too large where all its words are there (22) or is whole and too high (23), or when a whole value stands and bytes are left (25), or
-- the data is too long (20). Of the little-endian form: "its refusals are those of the walk with these words read reversed".
-- The public entries are all that are lent data but those of a book, of which `history` says that their refusals are a record's. Rests on the laws of values.
use mathlib.Core.Path.{◌≡◌, refl, sym, ap, ◌∙◌}
use mathlib.Core.Logic.{◌↔◌}
use mathlib.Core.Bool.{Bool, true, false, cond}
use mathlib.Core.List.{List, ◌++◌}
use Prim.Native.Nat.{ℕ}
use native.Mathlib.Omega.{arith}
use lib.Dec.{leb}
use lib.ListN.{length, drop}
use Rattle.descriptor.specs.Encoding.{Bytes}
use Rattle.descriptor.specs.Outcome.{Outcome, refused, read, and_then, Verdict, denied, granted, judge, settle}
use Rattle.descriptor.specs.Answers.{refusal, accepted}
use Rattle.descriptor.specs.Output.{Written, unwritten, written_to}
use Rattle.descriptor.specs.declared.answer.Answer.{Answer}
use Rattle.descriptor.proofs.Outcomes.{Holds, found, holds_read, holds-and_then, holds-self, judge-so}
use Rattle.flattened.specs.Order.{Order, big, little}
use Rattle.flattened.specs.Token.{Token}
use Rattle.flattened.specs.Walk.{walk, walked}
use Rattle.flattened.specs.Answers.{data_check}
use Rattle.byte_order.specs.Reversal.{reversed, turned, to_little_endian, from_little_endian}
use Rattle.access.specs.Path.{Spot, spot_of, no_part, part_of, located}
use Rattle.access.specs.declared.part.Part.{Part}
use Rattle.reading.specs.Values.{number_of, no_value, read_value}
use Rattle.reading.specs.declared.value.Reading.{Reading}
use Rattle.resolution.specs.Record.{reader_members, writer_members, joined_bytes, record_bytes, resolved}
use Rattle.values.specs.Refusals.{Refused}
use Rattle.values.proofs.Refused.{refused-exactly}
use Rattle.demands.proofs.Accepted.{Described, described-read}

-- an answer that does not name the data
abbrev Elsewhere : Answer → Type 0
Elsewhere a = a.input ≡ 3 → ⊥

-- an output is filled, or too small
written-elsewhere : (out bytes : List ℕ) → Elsewhere (written_to out bytes).answer
unfolding written_to
written-elsewhere out bytes = go (leb (length bytes) (length out))
  where
    go : (b : Bool)
        → Elsewhere (cond b (record { answer = accepted (length bytes); out = bytes ++ drop (length bytes) out }) (unwritten out 50 4 (length bytes))).answer
    go true = λ e. omega arith
    go false = λ e. omega arith

-- a part that is given is accepted
part-accepted : (s : List ℕ) (y : Spot) → Holds (λ q (r : Part). r.answer.input ≡ 0) (part_of s y)
unfolding part_of
part-accepted s y = holds-and_then (holds-self (walk big y.type s y.start)) (λ q ts e. found refl)

-- data of the descriptor d in the order o
module _ (o : Order) (d : List ℕ) (x : Described d) (s : List ℕ) (bytes : Bytes s) (number place : ℕ) where
  -- a question that judges the data, and then only what is not the data
  module _ {B : Type 0} (answer : B → Answer) (refuse : ℕ → ℕ → ℕ → B)
      (same : (n i p : ℕ) → answer (refuse n i p) ≡ refusal n i p) (ask : List Token → B) (elsewhere : (ts : List Token) → Elsewhere (answer (ask ts))) where
    named : (w : Outcome (List Token)) → walked o x.tree s ≡ w → answer (judge refuse 3 w ask) ≡ refusal number 3 place
        → walked o x.tree s ≡ refused number place
    named (refused n p) e h =
        let both : refusal n 3 p ≡ refusal number 3 place = sym (same n 3 p) ∙ h in
        e ∙ λ i. refused (both i).number (both i).place
    named (read q ts) e h = absurd (elsewhere ts (ap (λ (a : Answer). a.input) h))

    pub judged-exactly : (answer (judge refuse 3 (walked o x.tree s) ask) ≡ refusal number 3 place) ↔ Refused o x.tree s number place
    judged-exactly =
        let r = refused-exactly o x.tree x.limits.formed s bytes number place in (
          λ h. r.0 (named (walked o x.tree s) refl h),
          λ h. ap (λ (w : Outcome (List Token)). answer (judge refuse 3 w ask)) (r.1 h) ∙ same number 3 place,
        )

  -- turned to the other byte order
  pub turned-refused : (out : List ℕ) → ((turned o d s out).answer ≡ refusal number 3 place) ↔ Refused o x.tree s number place
  unfolding turned
  turned-refused out =
      rw (described-read d x)
      (judged-exactly (λ (w : Written). w.answer) (unwritten out) (λ _ _ _. refl) (λ ts. written_to out (reversed s ts)) (λ ts. written-elsewhere out (reversed s ts)))

-- the same by the names of the entries
module _ (d : List ℕ) (x : Described d) (s : List ℕ) (bytes : Bytes s) (number place : ℕ) where
  -- check_data
  pub data-refused : (data_check d s ≡ refusal number 3 place) ↔ Refused big x.tree s number place
  unfolding data_check
  data-refused = rw (described-read d x) (judged-exactly big d x s bytes number place (λ a. a) refusal (λ _ _ _. refl) (λ ts. accepted (length ts)) (λ ts e. omega arith))

  -- to_little_endian
  pub big-refused : (out : List ℕ) → ((to_little_endian d s out).answer ≡ refusal number 3 place) ↔ Refused big x.tree s number place
  big-refused = turned-refused big d x s bytes number place

  -- from_little_endian: "its refusals are those of the walk with these words read reversed"
  pub little-refused : (out : List ℕ) → ((from_little_endian d s out).answer ≡ refusal number 3 place) ↔ Refused little x.tree s number place
  little-refused = turned-refused little d x s bytes number place

  -- view
  pub part-refused : (path : List ℕ) → ((located d s path).answer ≡ refusal number 3 place) ↔ Refused big x.tree s number place
  unfolding located
  part-refused path =
      rw (described-read d x)
      (judged-exactly big d x s bytes number place (λ (r : Part). r.answer) no_part (λ _ _ _. refl) _
      (λ ts.
      judge-so (λ (r : Part). Elsewhere r.answer) no_part 4 (and_then (spot_of path x.tree s) (λ _ y. part_of s y)) (λ r. r) (λ n p e h. omega arith)
      (λ q r e h. omega (arith, holds_read e (holds-and_then (holds-self (spot_of path x.tree s)) (λ _ y _. part-accepted s y))))))

  -- read_value
  pub value-refused : (path : List ℕ) → ((read_value d s path).answer ≡ refusal number 3 place) ↔ Refused big x.tree s number place
  unfolding read_value
  value-refused path =
      rw (described-read d x)
      (judged-exactly big d x s bytes number place (λ (r : Reading). r.answer) no_value (λ _ _ _. refl) _
      (λ ts.
      judge-so (λ (r : Reading). Elsewhere r.answer) no_value 4 (and_then (spot_of path x.tree s) (λ _ y. number_of s y))
      (λ v. record { answer = accepted 0; value = v }) (λ n p e h. omega arith) (λ q v e h. omega arith)))

  -- read_record, in the shape of an accepted reader's descriptor
  pub record-refused : (r : List ℕ) → Described r → (out : List ℕ)
      → ((resolved d r s out).answer ≡ refusal number 3 place) ↔ Refused big x.tree s number place
  unfolding resolved record_bytes
  record-refused r y out =
      rw (described-read d x, described-read r y)
      (judged-exactly big d x s bytes number place (λ (v : Verdict (List ℕ)). (settle (unwritten out) (written_to out) v).answer) denied (λ _ _ _. refl) _
      (λ ts.
      judge-so P denied 2 (reader_members y.tree) _ (λ n p e h. omega arith) (λ q f e.
      judge-so P denied 1 (writer_members x.tree s) _ (λ n p e h. omega arith) (λ q ms e.
      judge-so P denied 2 (joined_bytes 0 f s ms) (λ given. granted given) (λ n p e h. omega arith) (λ q given e. written-elsewhere out given)))))
    where
      P : Verdict (List ℕ) → Type 0
      P v = Elsewhere (settle (unwritten out) (written_to out) v).answer
