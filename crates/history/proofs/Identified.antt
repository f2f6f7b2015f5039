-- Document 02, CR 4, "The identifier is always read from the record with the reader's shape": what is read is bytes of the record's data, so an
-- identifier is a number of 32 bits and its entry can hold it. The public entry is store_add. Rests on demand 3.
use mathlib.Core.Path.{◌≡◌, refl, ap, subst, ◌∙◌}
use mathlib.Core.List.{List}
use Prim.Native.Nat.{ℕ, ◌^◌, ◌<◌}
use native.Mathlib.Omega.{arith}
use Rattle.number.specs.Endian.{be}
use Rattle.number.proofs.Reading.{be-bound}
use Rattle.descriptor.specs.Encoding.{Bytes}
use Rattle.descriptor.specs.Outcome.{Verdict, denied, granted, settle}
use Rattle.descriptor.specs.Output.{given}
use Rattle.encoding.proofs.Slices.{bytes-at}
use Rattle.resolution.specs.Record.{record_bytes, resolved}
use Rattle.demands.proofs.Shape.{front}
use Rattle.demands.proofs.Resolved.{written-fits, given-front}
use Rattle.demands.proofs.Faults.{given-bytes}
use Rattle.store.specs.Book.{shape, identified}
use Rattle.history.proofs.Shape.{shape-bytes}

-- the bytes of which an identifier was read
pub record IdentifierBytes (d x : List ℕ) (id : ℕ) : Type 0 where
  pub bytes : List ℕ
  pub record-read : record_bytes d shape x ≡ granted bytes
  pub number : be bytes 0 4 ≡ id

-- the descriptor d and the data x
module _ (d x : List ℕ) where
  pub identifier-read : (id : ℕ) → identified d x ≡ granted id → IdentifierBytes d x id
  unfolding identified
  identifier-read id e = of (record_bytes d shape x) refl e
    where
      of : (v : Verdict (List ℕ)) → record_bytes d shape x ≡ v → settle denied (λ bytes. granted (be bytes 0 4)) v ≡ granted id → IdentifierBytes d x id
      of (denied number input place) f g = absurd (let z : ◌≡◌ {A = ℕ} 0 1 = cc in omega arith)
      of (granted bytes) f g = let same : be bytes 0 4 ≡ id = cc in record { bytes = bytes; record-read = f; number = same }

  -- with room for the record, a reading in the shape gives them
  pub resolved-front : (xs : List ℕ) → record_bytes d shape x ≡ granted xs → resolved d shape x xs ≡ front xs xs
  unfolding resolved
  resolved-front xs e = rw e (written-fits xs xs (omega arith))

  -- they are bytes
  pub read-bytes : (xs : List ℕ) → Bytes d → Bytes x → record_bytes d shape x ≡ granted xs → Bytes xs
  read-bytes xs bd bx e =
      subst (λ (l : List ℕ). Bytes l) (ap given (resolved-front xs e) ∙ given-front xs xs) (given-bytes d shape x xs bd shape-bytes bx)

  -- "each 32 bits": an identifier that was read fits
  pub identifier-fits : Bytes d → Bytes x → (id : ℕ) → identified d x ≡ granted id → id < 256 ^ 4
  identifier-fits bd bx id e =
      let r = identifier-read id e in
      let small = be-bound r.bytes 0 (bytes-at r.bytes (read-bytes r.bytes bd bx r.record-read)) 4 in
      omega (arith, r.number)
