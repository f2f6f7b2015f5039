-- Laws of steps and of the outcomes that they carry. Assumes nothing.
use mathlib.Core.Path.{◌≡◌, refl, ap, sym}
use mathlib.Core.Bool.{Bool, true, false}
use Prim.Native.Nat.{ℕ}
use native.Mathlib.Omega.{arith}
use Rattle.std.specs.Prelude.{Ok, Err}
use Rattle.descriptor.specs.Outcome.{Outcome, refused, read, and_then}
use Rattle.descriptor.specs.inner.Steps.{step_of, counted, read_step}
use Rattle.descriptor.specs.declared.refusal.Refusal.{Refusal}
use Rattle.descriptor.specs.declared.step.Step.{Step}

-- a test cannot be both
pub impossible : {A : Type 0} → ◌≡◌ {A = Bool} false true → A
impossible e = absurd (let z : ◌≡◌ {A = ℕ} 0 1 = cc in omega arith)

-- a step: what was read
pub record Got {A : Type 0} (count children : A → ℕ) (o : Outcome A) (r : Step) : Type 0 where
  pub value : A
  pub eq : o ≡ read r.next value
  pub counts : r.value ≡ count value
  pub inside : r.children ≡ children value

pub got : {A : Type 0} (count children : A → ℕ) (o : Outcome A) (r : Step) → Ok r ≡ step_of count children o → Got count children o r
got count children (refused number place) r e = absurd (cc)
got count children (read next x) r e =
    let same : r ≡ read_step next (count x) (children x) = cc in
    record {
      value = x;
      eq = ap (λ (k : ℕ). read k x) (sym (ap (λ (y : Step). y.next) same));
      counts = ap (λ (y : Step). y.value) same;
      inside = ap (λ (y : Step). y.children) same;
    }

-- a refusal: what was refused
pub lost : {A : Type 0} (count children : A → ℕ) (o : Outcome A) (r : Refusal) → Err r ≡ step_of count children o → o ≡ refused r.number r.place
lost count children (refused number place) r e =
    let same : r ≡ record { number = number; place = place } = cc in
    λ i. refused (sym (ap (λ (x : Refusal). x.number) same) i) (sym (ap (λ (x : Refusal). x.place) same) i)
lost count children (read next x) r e = absurd (cc)

-- a refused part refuses the whole, with the same refusal
pub stopped : {A B : Type 0} (count children : B → ℕ) (o : Outcome A) (next : ℕ → A → Outcome B) (r : Refusal) → o ≡ refused r.number r.place
    → Err r ≡ step_of count children (and_then o next)
stopped count children o next r l = sym (ap (λ (x : Outcome _). step_of count children (and_then x next)) l)

-- a step counts the same by counts that agree
pub counts-agree : {A : Type 0} (f g : A → ℕ) → ((x : A) → f x ≡ g x) → (o : Outcome A) → counted f o ≡ counted g o
counts-agree f g e (refused number place) = refl
counts-agree f g e (read next x) = ap (λ (k : ℕ). Ok (read_step next k 0)) (e x)
