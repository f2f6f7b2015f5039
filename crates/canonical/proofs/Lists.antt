-- The comparison of lists, part by part. Rests on the definitions alone.
use mathlib.Core.Path.{◌≡◌, refl, sym, ap, ◌∙◌}
use mathlib.Core.Bool.{Bool, true, false, ◌&&◌}
use mathlib.Core.List.{List, [], ◌∷◌, ◌++◌}
use Prim.Native.Nat.{ℕ, zero, suc, ◌-◌, ◌<◌}
use native.Mathlib.Nat.{sub-zero, zero-sub, suc-sub-suc}
use native.Mathlib.Omega.{arith}
use lib.Dec.{eqb}
use lib.ListN.{length, get_or, take, drop}
use lib.Seq.{slice}
use borrow.Author.Tests.{eq-eqb}
use Rattle.descriptor.specs.Encoding.{Bytes}
use Rattle.canonical.specs.Equality.{same_list, same_chars}

-- tests in a row may be grouped either way
pub and_assoc : (a b c : Bool) → ((a && b) && c) ≡ (a && (b && c))
and_assoc true b c = refl
and_assoc false b c = refl

-- tests that hold where the other holds are one
pub bool_same : (x y : Bool) → (x ≡ true → y ≡ true) → (y ≡ true → x ≡ true) → x ≡ y
bool_same true y f g = sym (f refl)
bool_same false true f g = g refl
bool_same false false f g = refl

-- lists in two parts, the first ones of one length
pub same-append : (x u y v : List ℕ) → length x ≡ length u → same_chars (x ++ y) (u ++ v) ≡ (same_chars x u && same_chars y v)
unfolding same_list
same-append [] [] y v h = refl
same-append [] (b ∷ u) y v h = absurd (omega arith)
same-append (a ∷ x) [] y v h = absurd (omega arith)
same-append (a ∷ x) (b ∷ u) y v h =
    ap (λ (t : Bool). eqb a b && t) (same-append x u y v (omega arith)) ∙ sym (and_assoc (eqb a b) (same_chars x u) (same_chars y v))

-- one more element that is the same
pub same-cons : (a : ℕ) (y v : List ℕ) → same_chars (a ∷ y) (a ∷ v) ≡ same_chars y v
unfolding same_list
same-cons a y v = ap (λ (t : Bool). t && same_chars y v) (eq-eqb a a refl)

-- numbers that are bytes
pub bytes_of : (s : List ℕ) → ((k : ℕ) → get_or s k 0 < 256) → Bytes s
unfolding Bytes
bytes_of [] h = tt
bytes_of (x ∷ s) h = (h 0, bytes_of s (λ k. h (suc k)))

-- nothing of nothing
take_none : (n : ℕ) → ◌≡◌ {A = List ℕ} (take n []) []
take_none zero = refl
take_none (suc n) = refl

-- a part that is lent, from f up to t, is the slice
pub part_slice : (f t : ℕ) (l : List ℕ) → take (t - f) (drop f l) ≡ slice f t l
part_slice zero t l = ap (λ (n : ℕ). take n l) (sub-zero t)
part_slice (suc f) zero l = ap (λ (n : ℕ). take n (drop (suc f) l)) (zero-sub (suc f))
part_slice (suc f) (suc t) [] = take_none (suc t - suc f)
part_slice (suc f) (suc t) (x ∷ l) = ap (λ (n : ℕ). take n (drop f l)) (suc-sub-suc t f) ∙ part_slice f t l

-- the last of four tests fails
pub and_last : (x y z : Bool) → (x && (y && (z && false))) ≡ false
and_last false y z = refl
and_last true false z = refl
and_last true true false = refl
and_last true true true = refl
