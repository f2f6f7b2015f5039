-- Unused entries: zero all at once, or one after the other. Rests on the laws of parts.
use mathlib.Core.Path.{◌≡◌, refl, sym, ap, ap₂, ◌∙◌}
use mathlib.Core.Bool.{true, false}
use mathlib.Core.List.{List}
use Prim.Native.Nat.{ℕ, zero, suc, ◌+◌, ◌-◌, ◌*◌, ◌≤◌, ◌<◌}
use native.Mathlib.Omega.{arith}
use lib.ListN.{length, replicate, replicate-append-replicate}
use lib.Seq.{slice}
use Rattle.std.specs.Prelude.{Ok, Err}
use Rattle.descriptor.specs.Outcome.{refused, read, and_then}
use Rattle.descriptor.specs.inner.Steps.{refusal_at}
use Rattle.canonical.specs.Equality.{same_chars}
use Rattle.canonical.proofs.Same.{chars-same, chars-refl}
use Rattle.encoding.proofs.Slices.{slice-split}
use Rattle.resolution.specs.inner.Data.{passed}
use Rattle.store.specs.Layout.{entry_place}
use Rattle.store.specs.Check.{zero_at, unused_at}

module _ (s : List ℕ) where
  -- one entry
  zero-so : (i : ℕ) → same_chars (slice (entry_place i) (entry_place i + 16) s) (replicate 16 0) ≡ true → zero_at s i ≡ read i tt
  unfolding zero_at
  zero-so i e = rw e refl

  zero-not : (i : ℕ) → same_chars (slice (entry_place i) (entry_place i + 16) s) (replicate 16 0) ≡ false → zero_at s i ≡ refused 63 i
  unfolding zero_at
  zero-not i e = rw e refl

  -- all of k at once
  unused-zero : (k i : ℕ) → entry_place i + 16 * k ≤ length s → slice (entry_place i) (entry_place i + 16 * k) s ≡ replicate (16 * k) 0
      → unused_at s k i ≡ read (i + k) tt
  unfolding unused_at
  unused-zero zero i room e = let none : i ≡ i + 0 = omega arith in ap (λ (n : ℕ). read n (tt {0})) none
  unused-zero (suc k) i room e =
      let p : ℕ = entry_place i in
      let more : 16 + 16 * k ≡ 16 * suc k = omega arith in
      let end : p + 16 * suc k ≡ p + 16 + 16 * k = omega arith in
      let next : p + 16 ≡ entry_place (i + 1) = omega arith in
      let last : i + 1 + k ≡ i + suc k = omega arith in
      let parts =
      slice-split (replicate 16 0) (replicate (16 * k) 0) p (p + 16) (p + 16 * suc k) s refl (omega arith) room
      (e ∙ ap (λ (n : ℕ). replicate n 0) (sym more) ∙ sym (replicate-append-replicate 16 (16 * k) 0)) in
      let first : zero_at s i ≡ read i tt = zero-so i (ap (λ (l : List ℕ). same_chars l (replicate 16 0)) parts.0 ∙ chars-refl (replicate 16 0)) in
      let rest : unused_at s k (i + 1) ≡ read (i + 1 + k) tt =
      unused-zero k (i + 1) (omega arith) (ap₂ (λ (a b : ℕ). slice a b s) (sym next) (ap (λ (a : ℕ). a + 16 * k) (sym next) ∙ sym end) ∙ parts.1) in
      rw (first, rest, last) refl

  -- as the code asks of c entries, from n on
  module _ (n c : ℕ) (room : entry_place c ≤ length s) where
    pub unused-all : n ≤ c → (p : ℕ) → p ≡ entry_place n
        → same_chars (slice p (p + 16 * (c - n)) s) (replicate (16 * (c - n)) 0) ≡ true → Ok tt ≡ passed (unused_at s (c - n) n)
    unused-all h p is e =
        let zeros : slice (entry_place n) (entry_place n + 16 * (c - n)) s ≡ replicate (16 * (c - n)) 0 =
        ap (λ (q : ℕ). slice q (q + 16 * (c - n)) s) (sym is) ∙ chars-same _ _ e in
        sym (ap passed (unused-zero (c - n) n (omega arith) zeros))

    -- what is left from entry i on is what was left from the first
    module _ (i : ℕ) (rest : unused_at s (c - i) i ≡ unused_at s (c - n) n) where
      pub unused-over : c ≤ i → Ok tt ≡ passed (unused_at s (c - n) n)
      unfolding unused_at
      unused-over over =
          let none : c - i ≡ 0 = omega arith in
          ap passed (sym (ap (λ (k : ℕ). unused_at s k i) none) ∙ rest)

      module _ (more : i < c) (p : ℕ) (is : p ≡ entry_place i) where
        turn : and_then (zero_at s i) (λ _ _. unused_at s (c - (i + 1)) (i + 1)) ≡ unused_at s (c - n) n
        unfolding unused_at
        turn =
            let left : c - i ≡ suc (c - (i + 1)) = omega arith in
            sym (ap (λ (k : ℕ). unused_at s k i) left) ∙ rest

        pub unused-next : same_chars (slice p (p + 16) s) (replicate 16 0) ≡ true → unused_at s (c - (i + 1)) (i + 1) ≡ unused_at s (c - n) n
        unused-next e = rw (zero-so i (rw is at e)) at turn

        pub unused-bad : same_chars (slice p (p + 16) s) (replicate 16 0) ≡ false → Err (refusal_at 63 i) ≡ passed (unused_at s (c - n) n)
        unused-bad e = ap passed (rw (zero-not i (rw is at e)) at turn)
