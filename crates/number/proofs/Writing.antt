-- Laws of the bytes of a number as they are stored one by one, each over the width.
use mathlib.Core.Path.{◌≡◌, refl, sym, ap, ◌∙◌}
use Prim.Native.Nat.{ℕ, zero, suc, ◌+◌, ◌-◌, ◌/◌, ◌%◌, ◌<◌, ◌≤◌}
use native.Mathlib.Nat.{add-zero}
use native.Mathlib.Omega.{arith}
use mathlib.Core.List.{List, [], ◌∷◌, ◌++◌}
use lib.ListN.{length, set, length-append}
use lib.Seq.{sets, set_comm}
use Rattle.number.specs.Endian.{be_bytes, le_bytes}

-- n bytes are n long, in either order
pub length-be_bytes : (n v : ℕ) → length (be_bytes n v) ≡ n
unfolding be_bytes
length-be_bytes zero v = refl
length-be_bytes (suc n) v = omega (arith, length-append (be_bytes n (v / 256)) (v % 256 ∷ []), length-be_bytes n (v / 256))

pub length-le_bytes : (n v : ℕ) → length (le_bytes n v) ≡ n
unfolding le_bytes
length-le_bytes zero v = refl
length-le_bytes (suc n) v = ap suc (length-le_bytes n (v / 256))

-- two runs stored one after the other
pub sets-append : {A : Type 0} (l : List A) (at : ℕ) (xs ys : List A) → sets l at (xs ++ ys) ≡ sets (sets l at xs) (at + length xs) ys
sets-append l at [] ys = ap (λ (k : ℕ). sets l k ys) (sym (add-zero at))
sets-append l at (x ∷ xs) ys =
    let place : suc at + length xs ≡ at + suc (length xs) = omega arith in
    sets-append (set l at x) (suc at) xs ys ∙ ap (λ (k : ℕ). sets (sets (set l at x) (suc at) xs) k ys) place

-- a store past a run may come before it
pub sets-past : (l : List ℕ) (at : ℕ) (xs : List ℕ) (p x : ℕ) → at + length xs ≤ p → sets (set l p x) at xs ≡ set (sets l at xs) p x
sets-past l at [] p x h = refl
sets-past l at (y ∷ ys) p x h =
    let apart : (p ≡ at → ⊥) = omega arith in
    ap (λ (r : List ℕ). sets r (suc at) ys) (set_comm l p at x y apart) ∙ sets-past (set l at y) (suc at) ys p x (omega arith)

-- a turn of the loop that stores the most significant byte last
pub be-store : (l : List ℕ) (at i w : ℕ) → 0 < i → sets (set l (at + (i - 1)) (w % 256)) at (be_bytes (i - 1) (w / 256)) ≡ sets l at (be_bytes i w)
unfolding be_bytes
be-store l at zero w h = absurd (omega arith)
be-store l at (suc k) w h =
    let back : suc k - 1 ≡ k = omega arith in
    let len : length (be_bytes k (w / 256)) ≡ k = length-be_bytes k (w / 256) in
    ap (λ (j : ℕ). sets (set l (at + j) (w % 256)) at (be_bytes j (w / 256))) back
    ∙ sets-past l at (be_bytes k (w / 256)) (at + k) (w % 256) (omega arith)
    ∙ ap (λ (j : ℕ). set (sets l at (be_bytes k (w / 256))) (at + j) (w % 256)) (sym len)
    ∙ sym (sets-append l at (be_bytes k (w / 256)) (w % 256 ∷ []))

-- a turn of the loop that stores the least significant byte first
pub le-store : (l : List ℕ) (at n i w : ℕ) → i < n → sets (set l (at + i) (w % 256)) (at + (i + 1)) (le_bytes (n - (i + 1)) (w / 256)) ≡ sets l (at + i) (le_bytes (n - i) w)
unfolding le_bytes
le-store l at n i w h =
    let left : n - i ≡ suc (n - (i + 1)) = omega arith in
    let place : at + (i + 1) ≡ suc (at + i) = omega arith in
    rw (left, place)
