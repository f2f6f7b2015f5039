-- Outcomes as where they end, or as whether they were read. Assumes nothing.
use mathlib.Core.Path.{◌≡◌, refl, sym, ap}
use Prim.Native.Nat.{ℕ}
use Rattle.std.specs.Prelude.{Ok, Err}
use Rattle.descriptor.specs.Outcome.{Outcome, refused, read}
use Rattle.descriptor.specs.inner.Steps.{refusal_at}
use Rattle.descriptor.specs.declared.refusal.Refusal.{Refusal}
use Rattle.resolution.specs.inner.Data.{end_of, passed}

-- the refusal
refused-by : {A : Type 0} (r : Refusal) (number place : ℕ) → r ≡ refusal_at number place → ◌≡◌ {A = Outcome A} (refused number place) (refused r.number r.place)
refused-by r number place e = λ i. refused (ap (λ (x : Refusal). x.number) (sym e) i) (ap (λ (x : Refusal). x.place) (sym e) i)

-- where it ends
pub end-lost : {A : Type 0} (o : Outcome A) (r : Refusal) → Err r ≡ end_of o → o ≡ refused r.number r.place
end-lost (refused number place) r e = refused-by r number place (cc)
end-lost (read next x) r e = absurd (cc)

pub end-got : {A : Type 0} (o : Outcome A) (end : ℕ) → Ok end ≡ end_of o → (x : A) × (o ≡ read end x)
end-got (refused number place) end e = absurd (cc)
end-got (read next x) end e = let same : end ≡ next = cc in (x, ap (λ (n : ℕ). read n x) (sym same))

-- whether it was read
pub passed-lost : {A : Type 0} (o : Outcome A) (r : Refusal) → Err r ≡ passed o → o ≡ refused r.number r.place
passed-lost (refused number place) r e = refused-by r number place (cc)
passed-lost (read next x) r e = absurd (cc)

pub passed-got : {A : Type 0} (o : Outcome A) → Ok tt ≡ passed o → (next : ℕ) × ((x : A) × (o ≡ read next x))
passed-got (refused number place) e = absurd (cc)
passed-got (read next x) e = (next, (x, refl))
