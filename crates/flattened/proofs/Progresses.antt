-- How far a walk came, part by part: the tokens so far, and the progress of what is left. Rests on the definitions of the walk alone.
use mathlib.Core.Path.{◌≡◌, refl, sym, ap, ◌∙◌}
use mathlib.Core.List.{List, ◌++◌}
use Prim.Native.Nat.{ℕ, ◌+◌}
use Rattle.std.specs.Prelude.{Result, Ok, Err}
use Rattle.descriptor.specs.inner.Steps.{refusal_at}
use Rattle.descriptor.specs.declared.refusal.Refusal.{Refusal}
use Rattle.flattened.specs.declared.progress.Walked.{Walked}
use native.Mathlib.Omega.{arith}
use lib.ListN.{length, length-append}
use Rattle.descriptor.specs.Outcome.{Outcome, refused, read, and_then}
use Rattle.descriptor.proofs.Outcomes.{Holds, holds_read}
use Rattle.flattened.specs.Token.{Token}
use Rattle.flattened.specs.Walk.{follow}
use Rattle.flattened.specs.inner.Cursor.{cursor}
use Rattle.flattened.specs.inner.Progress.{walked_to, progress, plus, Reads}
use Rattle.flattened.specs.declared.cursor.Cursor.{Cursor}

-- j tokens and then k
pub plus-plus : (j k : ℕ) (r : Result Walked Refusal) → plus j (plus k r) ≡ plus (j + k) r
unfolding plus
plus-plus j k (Ok w) = ap (λ (m : ℕ). Ok (walked_to w.next m)) (let e : j + (k + w.tokens) ≡ j + k + w.tokens = omega arith in e)
plus-plus j k (Err r) = refl

-- no tokens
pub plus_none : (r : Result Walked Refusal) → r ≡ plus 0 r
unfolding plus
plus_none (Ok w) = ap (λ (m : ℕ). Ok (walked_to w.next m)) (let e : w.tokens ≡ 0 + w.tokens = omega arith in e)
plus_none (Err r) = refl

-- a reading, by its progress
pub progress-reads : (o : Outcome (List Token)) (c : Cursor) (k : ℕ) → Ok (walked_to c k) ≡ progress o → Reads o c.at k
unfolding progress
progress-reads (refused number place) c k e = absurd (cc)
progress-reads (read q ts) c k e =
    let same : walked_to c k ≡ walked_to (cursor q) (length ts) = cc in
    let there : c ≡ cursor q = ap (λ (w : Walked). w.next) same in
    let many : k ≡ length ts = ap (λ (w : Walked). w.tokens) same in
    record { tokens = ts; eq = ap (λ (x : Cursor). read x.at ts) (sym there); count = sym many }

-- a refusal
pub progress-refused : (o : Outcome (List Token)) (number place : ℕ) → Err (refusal_at number place) ≡ progress o → o ≡ refused number place
unfolding progress
progress-refused (refused m p) number place e =
    let same : refusal_at number place ≡ refusal_at m p = cc in
    λ i. refused (sym (ap (λ (r : Refusal). r.number) same) i) (sym (ap (λ (r : Refusal). r.place) same) i)
progress-refused (read q ts) number place e = absurd (cc)

-- what holds of a walk where it reads
pub progress-holds : {P : ℕ → List Token → Type 0} (o : Outcome (List Token)) (c : Cursor) (k : ℕ) → Ok (walked_to c k) ≡ progress o → Holds P o
    → (ts : List Token) × (length ts ≡ k) × P c.at ts
progress-holds o c k e h = let r = progress-reads o c k e in (r.tokens, r.count, holds_read r.eq h)

-- one part and the next: a reading of the first
pub follow-reads : (o : Outcome (List Token)) (g : ℕ → Outcome (List Token)) (q k : ℕ) → Reads o q k → progress (follow o g) ≡ plus k (progress (g q))
unfolding progress plus
follow-reads o g q k r = ap (λ (x : Outcome (List Token)). progress (follow x g)) r.eq ∙ go (g q)
  where
    go : (u : Outcome (List Token)) → progress (and_then u (λ last us. read last (r.tokens ++ us))) ≡ plus k (progress u)
    go (refused number place) = refl
    go (read last us) =
        ap (λ (n : ℕ). Ok (walked_to (cursor last) n))
        (let e : length (r.tokens ++ us) ≡ k + length us = omega (arith, length-append r.tokens us, r.count) in e)

-- a refusal of the first
pub follow-refused : (o : Outcome (List Token)) (g : ℕ → Outcome (List Token)) (number place : ℕ) → Err (refusal_at number place) ≡ progress o
    → progress (follow o g) ≡ Err (refusal_at number place)
unfolding progress
follow-refused o g number place e = ap (λ (x : Outcome (List Token)). progress (follow x g)) (progress-refused o number place e)

-- the same by the first part's progress
pub follow-walked : (o : Outcome (List Token)) (g : ℕ → Outcome (List Token)) (c : Cursor) (k : ℕ) → Ok (walked_to c k) ≡ progress o
    → progress (follow o g) ≡ plus k (progress (g c.at))
follow-walked o g c k e = follow-reads o g c.at k (progress-reads o c k e)
