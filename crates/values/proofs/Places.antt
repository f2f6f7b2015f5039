-- Bytes that stand at a place of a longer list: cut and joined. Rests on the laws of parts of a list.
use mathlib.Core.Path.{◌≡◌, refl, sym, ap, ◌∙◌}
use mathlib.Core.List.{List, [], ◌++◌}
use Prim.Native.Nat.{ℕ, ◌+◌, ◌≤◌}
use native.Mathlib.Omega.{arith}
use lib.ListN.{length, length-append}
use lib.Seq.{slice, slice_empty, length-slice}
use Rattle.encoding.proofs.Slices.{slice_all, slice-then, slice-split}
use Rattle.values.specs.Value.{Here}

-- up to any place that is as far
pub here-up-to : (s : List ℕ) (p q : ℕ) (x : List ℕ) → Here s p x → q ≡ p + length x → slice p q s ≡ x
here-up-to s p q x h e = ap (λ (k : ℕ). slice p k s) e ∙ h.bytes

-- and back
pub here-by : (s : List ℕ) (p q : ℕ) (x : List ℕ) → p ≤ q → q ≤ length s → slice p q s ≡ x → Here s p x
here-by s p q x h k e =
    let long : length x ≡ length (slice p q s) = ap length (sym e) in
    let far : p + length x ≡ q = omega (arith, length-slice p q s k) in
    record { within = omega arith; bytes = ap (λ (j : ℕ). slice p j s) far ∙ e }

-- no bytes
pub here-none : (s : List ℕ) (p : ℕ) → p ≤ length s → Here s p []
here-none s p h = here-by s p p [] (omega arith) h (slice_empty p s)

-- the whole list
pub here-whole : (s : List ℕ) → Here s 0 s
here-whole s = here-by s 0 (length s) s (omega arith) (omega arith) (slice_all s (length s) refl)

pub whole_here : (s x : List ℕ) → Here s 0 x → length s ≡ 0 + length x → s ≡ x
whole_here s x h e = sym (slice_all s (0 + length x) e) ∙ h.bytes

-- the first part of two
pub here-first : (s : List ℕ) (p : ℕ) (x y : List ℕ) → Here s p (x ++ y) → Here s p x
here-first s p x y h =
    let both = length-append x y in
    let within : p + length (x ++ y) ≤ length s = h.within in
    let e = slice-split x y p (p + length x) (p + length (x ++ y)) s refl (omega arith) h.within h.bytes in
    record { within = omega arith; bytes = e.0 }

-- and the second
pub here-second : (s : List ℕ) (p : ℕ) (x y : List ℕ) → Here s p (x ++ y) → Here s (p + length x) y
here-second s p x y h =
    let both = length-append x y in
    let within : p + length (x ++ y) ≤ length s = h.within in
    let e = slice-split x y p (p + length x) (p + length (x ++ y)) s refl (omega arith) h.within h.bytes in
    here-by s (p + length x) (p + length (x ++ y)) y (omega arith) h.within e.1

-- two parts, one after the other
pub here-then : (s : List ℕ) (p q : ℕ) (x y : List ℕ) → Here s p x → q ≡ p + length x → Here s q y → Here s p (x ++ y)
here-then s p q x y h e k =
    here-by s p (q + length y) (x ++ y) (omega arith) k.within
    (slice-then p q (q + length y) s (omega arith) (omega arith) (here-up-to s p q x h e) k.bytes)
