-- An entry's sixteen bytes and the record that they speak of; entries in a row. Rests on the laws of numbers and of parts.
use mathlib.Core.Path.{◌≡◌, refl, sym, ap, ap₂, ◌∙◌}
use mathlib.Core.List.{List, [], ◌∷◌, ◌++◌, append_assoc}
use Prim.Native.Nat.{ℕ, ◌+◌, ◌-◌, ◌*◌, ◌^◌, ◌≤◌, ◌<◌}
use native.Mathlib.Nat.{mod-eq_of_lt}
use native.Mathlib.Omega.{arith}
use lib.ListN.{length, length-append, replicate, replicate-append-replicate}
use lib.Seq.{slice, length-slice}
use Rattle.number.specs.Endian.{be, be_bytes}
use Rattle.number.proofs.Writing.{length-be_bytes}
use Rattle.descriptor.specs.Encoding.{Bytes}
use Rattle.encoding.proofs.Slices.{slice-then, slice-split, slice-be, be-slice}
use Rattle.store.specs.Book.{Blank, body_of, stop_of}
use Rattle.store.specs.Layout.{entry_bytes, entries}
use Rattle.store.specs.Check.{blank_at}

pub length-entry : (r : Blank) → length (entry_bytes r) ≡ 16
unfolding entry_bytes
length-entry r = simp (length-append, length-be_bytes) (omega arith)

pub length-entries : (rs : List Blank) → length (entries rs) ≡ 16 * length rs
unfolding entries
length-entries [] = refl
length-entries (r ∷ rs) = omega (arith, length-append (entry_bytes r) (entries rs), length-entry r, length-entries rs)

pub entries-append : (rs qs : List Blank) → entries (rs ++ qs) ≡ entries rs ++ entries qs
unfolding entries
entries-append [] qs = refl
entries-append (r ∷ rs) qs = ap (λ (l : List ℕ). entry_bytes r ++ l) (entries-append rs qs) ∙ sym (append_assoc (entry_bytes r) (entries rs) (entries qs))

-- zeros in two runs
pub zeros : (m n : ℕ) → ◌≡◌ {A = List ℕ} (replicate (16 * (m + n)) 0) (replicate (16 * m) 0 ++ replicate (16 * n) 0)
zeros m n =
    let all : 16 * (m + n) ≡ 16 * m + 16 * n = omega arith in
    ap (λ (k : ℕ). replicate {A = ℕ} k 0) all ∙ sym (replicate-append-replicate (16 * m) (16 * n) 0)

-- those of one unused entry, and of the others
pub zeros-first : (n m : ℕ) → m < n → ◌≡◌ {A = List ℕ} (replicate (16 * (n - m)) 0) (replicate 16 0 ++ replicate (16 * (n - (m + 1))) 0)
zeros-first n m h =
    let left : n - m ≡ 1 + (n - (m + 1)) = omega arith in
    ap (λ (k : ℕ). replicate {A = ℕ} (16 * k) 0) left ∙ zeros 1 (n - (m + 1))

-- the four numbers of an entry
pub record Numbers (s : List ℕ) (p : ℕ) (r : Blank) : Type 0 where
  pub identifier : be s p 4 ≡ r.identifier
  pub start : be s (p + 4) 4 ≡ r.start
  pub descriptor : be s (p + 8) 4 ≡ length r.descriptor
  pub flattened : be s (p + 12) 4 ≡ length r.flattened

-- the number that a part spells, where it fits
number_at : (s : List ℕ) (p v : ℕ) → v < 256 ^ 4 → slice p (p + 4) s ≡ be_bytes 4 v → be s p 4 ≡ v
number_at s p v h e = slice-be s p 4 v e ∙ mod-eq_of_lt h

-- an entry says its record's numbers, where they fit 32 bits
pub entry-numbers : (s : List ℕ) (p : ℕ) (r : Blank) → p + 16 ≤ length s → r.identifier < 256 ^ 4 → stop_of r < 256 ^ 4
    → slice p (p + 16) s ≡ entry_bytes r → Numbers s p r
unfolding entry_bytes
entry-numbers s p r h id stop e =
    let one = slice-split (be_bytes 4 r.identifier) _ p (p + 4) (p + 16) s (omega (arith, length-be_bytes 4 r.identifier)) (omega arith) h e in
    let two = slice-split (be_bytes 4 r.start) _ (p + 4) (p + 8) (p + 16) s (omega (arith, length-be_bytes 4 r.start)) (omega arith) h one.1 in
    let three =
    slice-split (be_bytes 4 (length r.descriptor)) _ (p + 8) (p + 12) (p + 16) s (omega (arith, length-be_bytes 4 (length r.descriptor))) (omega arith) h
    two.1 in
    let b : p + 4 + 4 ≡ p + 8 = omega arith in
    let c : p + 8 + 4 ≡ p + 12 = omega arith in
    let d : p + 12 + 4 ≡ p + 16 = omega arith in
    record {
      identifier = number_at s p r.identifier id one.0;
      start = number_at s (p + 4) r.start (omega arith) (ap (λ (q : ℕ). slice (p + 4) q s) b ∙ two.0);
      descriptor = number_at s (p + 8) (length r.descriptor) (omega arith) (ap (λ (q : ℕ). slice (p + 8) q s) c ∙ three.0);
      flattened = number_at s (p + 12) (length r.flattened) (omega arith) (ap (λ (q : ℕ). slice (p + 12) q s) d ∙ three.1);
    }

-- so the entry speaks of that record, where its body stands
pub entry-blank : (s : List ℕ) (p : ℕ) (r : Blank) → Numbers s p r → stop_of r ≤ length s → slice r.start (stop_of r) s ≡ body_of r
    → blank_at s p ≡ r
unfolding blank_at
entry-blank s p r n room e =
    let parts =
    slice-split r.descriptor r.flattened r.start (r.start + length r.descriptor) (stop_of r) s refl (omega arith) room e in
    let d : slice (be s (p + 4) 4) (be s (p + 4) 4 + be s (p + 8) 4) s ≡ r.descriptor =
    ap₂ (λ (a l : ℕ). slice a (a + l) s) n.start n.descriptor ∙ parts.0 in
    let stop : r.start + length r.descriptor + length r.flattened ≡ stop_of r = omega arith in
    let x : slice (be s (p + 4) 4 + be s (p + 8) 4) (be s (p + 4) 4 + be s (p + 8) 4 + be s (p + 12) 4) s ≡ r.flattened =
    ap₂ (λ (a l : ℕ). slice a (a + l) s) (ap₂ (λ (a l : ℕ). a + l) n.start n.descriptor) n.flattened
    ∙ ap (λ (q : ℕ). slice (r.start + length r.descriptor) q s) stop
    ∙ parts.1 in
    (λ i. record { identifier = n.identifier i; start = n.start i; descriptor = d i; flattened = x i })

-- the record that an entry speaks of, where its body is inside: its lengths are the entry's numbers
module _ (s : List ℕ) (p : ℕ) (room : be s (p + 4) 4 + be s (p + 8) 4 + be s (p + 12) 4 ≤ length s) where
  pub blank-numbers : Numbers s p (blank_at s p)
  unfolding blank_at
  blank-numbers =
      let start : ℕ = be s (p + 4) 4 in
      let middle : ℕ = start + be s (p + 8) 4 in
      record {
        identifier = refl;
        start = refl;
        descriptor = omega (arith, length-slice start middle s (omega arith));
        flattened = omega (arith, length-slice middle (middle + be s (p + 12) 4) s room);
      }

  -- and its body is the two parts, joined
  pub blank-body : slice (blank_at s p).start (stop_of (blank_at s p)) s ≡ body_of (blank_at s p)
  unfolding blank_at
  blank-body =
      let start : ℕ = be s (p + 4) 4 in
      let middle : ℕ = start + be s (p + 8) 4 in
      let d : be s (p + 8) 4 ≡ length (slice start middle s) = blank-numbers.descriptor in
      let x : be s (p + 12) 4 ≡ length (slice middle (middle + be s (p + 12) 4) s) = blank-numbers.flattened in
      let stop : stop_of (blank_at s p) ≡ middle + be s (p + 12) 4 = omega arith in
      ap (λ (q : ℕ). slice start q s) stop
      ∙ slice-then start middle (middle + be s (p + 12) 4) s (omega arith) (omega arith) refl refl

  pub blank-stop : stop_of (blank_at s p) ≡ be s (p + 4) 4 + be s (p + 8) 4 + be s (p + 12) 4
  blank-stop = omega (arith, blank-numbers.start, blank-numbers.descriptor, blank-numbers.flattened)

  -- and its entry's bytes are those read
  pub blank-entry : Bytes s → p + 16 ≤ length s → slice p (p + 16) s ≡ entry_bytes (blank_at s p)
  unfolding entry_bytes
  blank-entry bytes h =
      let n = blank-numbers in
      let b : p + 4 + 4 ≡ p + 8 = omega arith in
      let c : p + 8 + 4 ≡ p + 12 = omega arith in
      let d : p + 12 + 4 ≡ p + 16 = omega arith in
      slice-then p (p + 4) (p + 16) s (omega arith) (omega arith) (spelled p (p + 4) refl (omega arith) n.identifier)
      (slice-then (p + 4) (p + 8) (p + 16) s (omega arith) (omega arith) (spelled (p + 4) (p + 8) b (omega arith) n.start)
      (slice-then (p + 8) (p + 12) (p + 16) s (omega arith) (omega arith) (spelled (p + 8) (p + 12) c (omega arith) n.descriptor)
      (spelled (p + 12) (p + 16) d h n.flattened)))
    where
      spelled : (a q : ℕ) {v : ℕ} → a + 4 ≡ q → q ≤ length s → be s a 4 ≡ v → slice a q s ≡ be_bytes 4 v
      spelled a q {v} e l f = ap (λ (j : ℕ). slice a j s) (sym e) ∙ be-slice s bytes a 4 (omega arith) ∙ ap (be_bytes 4) f
