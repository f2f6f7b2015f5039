-- Walks one after another, and n of one kind in a row: a row split in two, and a row whose every walk reads as many bytes and tokens.
-- Rests on the definitions of the walk alone.
use mathlib.Core.Path.{◌≡◌, refl, sym, ap, ◌∙◌}
use mathlib.Core.List.{List, [], ◌++◌, append-nil, append_assoc}
use Prim.Native.Nat.{ℕ, zero, suc, ◌+◌, ◌*◌, ◌<◌}
use native.Mathlib.Nat.{zero-add, suc-add, suc-mul}
use native.Mathlib.Omega.{arith}
use lib.ListN.{length, length-append}
use Rattle.descriptor.specs.Outcome.{Outcome, refused, read, and_then}
use Rattle.flattened.specs.Token.{Token}
use Rattle.flattened.specs.Walk.{follow, repeat}
use Rattle.flattened.specs.inner.Progress.{Reads}

-- one walk and then two, or two and then one
pub follow-assoc : (o : Outcome (List Token)) (f g : ℕ → Outcome (List Token)) → follow (follow o f) g ≡ follow o (λ a. follow (f a) g)
follow-assoc (refused number place) f g = refl
follow-assoc (read a ts) f g = second (f a)
  where
    third : (us : List Token) (v : Outcome (List Token))
        → and_then v (λ c vs. read c ((ts ++ us) ++ vs)) ≡ and_then (and_then v (λ c vs. read c (us ++ vs))) (λ c ws. read c (ts ++ ws))
    third us (refused number place) = refl
    third us (read c vs) = ap (λ (x : List Token). read c x) (append_assoc ts us vs)

    second : (u : Outcome (List Token))
        → follow (and_then u (λ b us. read b (ts ++ us))) g ≡ and_then (follow u g) (λ c ws. read c (ts ++ ws))
    second (refused number place) = refl
    second (read b us) = third us (g b)

-- nothing, and then a walk
pub follow-none : (at : ℕ) (g : ℕ → Outcome (List Token)) → follow (read at []) g ≡ g at
follow-none at g = go (g at)
  where
    go : (u : Outcome (List Token)) → and_then u (λ b us. read b ([] ++ us)) ≡ u
    go (refused number place) = refl
    go (read b us) = refl

-- a walk, and then nothing
pub follow-last : (o : Outcome (List Token)) → follow o (λ a. read a []) ≡ o
follow-last (refused number place) = refl
follow-last (read a ts) = ap (λ (x : List Token). read a x) (append-nil ts)

-- where two walks are read, so is the first
pub follow-first : (o : Outcome (List Token)) (g : ℕ → Outcome (List Token)) (q : ℕ) (ts : List Token) → follow o g ≡ read q ts
    → (p : ℕ) × (k : ℕ) × Reads o p k
follow-first (refused number place) g q ts e = absurd (let z : ◌≡◌ {A = ℕ} 0 1 = cc in omega arith)
follow-first (read p us) g q ts e = (p, length us, record { tokens = us; eq = refl; count = refl })

module _ (f : ℕ → Outcome (List Token)) where
  -- m + n in a row: the first m, then n more
  pub repeat_split : (m n at : ℕ) → repeat f (m + n) at ≡ follow (repeat f m at) (λ a. repeat f n a)
  unfolding repeat
  repeat_split zero n at = ap (λ (k : ℕ). repeat f k at) (zero-add n) ∙ sym (follow-none at (λ a. repeat f n a))
  repeat_split (suc m) n at =
      ap (λ (k : ℕ). repeat f k at) (suc-add m n)
      ∙ (λ i. follow (f at) (λ a. repeat_split m n a i))
      ∙ sym (follow-assoc (f at) (λ a. repeat f m a) (λ a. repeat f n a))

  -- where m + n are read, so are the first m
  pub repeat-prefix : (m n at q : ℕ) (ts : List Token) → repeat f (m + n) at ≡ read q ts → (p : ℕ) × (k : ℕ) × Reads (repeat f m at) p k
  repeat-prefix m n at q ts e = follow-first (repeat f m at) (λ a. repeat f n a) q ts (sym (repeat_split m n at) ∙ e)

  -- one in a row
  pub repeat-one : (at : ℕ) → repeat f 1 at ≡ f at
  unfolding repeat
  repeat-one at = follow-last (f at)

-- what is read, up to a place and of a count that are equal to these
pub reads_at : {o : Outcome (List Token)} {p q j k : ℕ} → Reads o p j → p ≡ q → j ≡ k → Reads o q k
reads_at r e h = record { tokens = r.tokens; eq = r.eq ∙ ap (λ (a : ℕ). read a r.tokens) e; count = r.count ∙ h }

-- one reading and then another
pub reads-follow : (g : ℕ → Outcome (List Token)) {o : Outcome (List Token)} {p q j k : ℕ} → Reads o p j → Reads (g p) q k
    → Reads (follow o g) q (j + k)
reads-follow g r n = record {
  tokens = r.tokens ++ n.tokens;
  eq = rw (r.eq, n.eq) refl;
  count = omega (arith, length-append r.tokens n.tokens, r.count, n.count);
}

-- one more in a row
pub repeat-more : (f : ℕ → Outcome (List Token)) (n at : ℕ) {p q j k : ℕ} → Reads (repeat f n at) p j → Reads (f p) q k
    → Reads (repeat f (n + 1) at) q (j + k)
repeat-more f n at {p} {q} {j} {k} r next =
    rw (repeat_split f n 1 at) (reads-follow (λ a. repeat f 1 a) r (rw (repeat-one f p) next))

-- n in a row of which each reads w bytes and k tokens
pub repeat-run : (f : ℕ → Outcome (List Token)) (w k n at : ℕ) → ((i : ℕ) → i < n → Reads (f (at + i * w)) (at + i * w + w) k)
    → Reads (repeat f n at) (at + n * w) (n * k)
unfolding repeat
repeat-run f w k zero at each = record { tokens = []; eq = ap (λ (a : ℕ). read a []) (let e : at ≡ at + 0 * w = omega arith in e); count = omega arith }
repeat-run f w k (suc n) at each =
    let here : at + 0 * w ≡ at = omega arith in
    let first : Reads (f at) (at + w) k = reads_at (rw here at (each 0 (omega arith))) refl refl in
    let rest : (i : ℕ) → i < n → Reads (f (at + w + i * w)) (at + w + i * w + w) k = λ i h.
    let e : at + suc i * w ≡ at + w + i * w = omega (arith, suc-mul i w) in rw e at (each (suc i) (omega arith)) in
    reads_at (reads-follow (λ a. repeat f n a) first (repeat-run f w k n (at + w) rest)) (omega (arith, suc-mul n w)) (omega (arith, suc-mul n k))
