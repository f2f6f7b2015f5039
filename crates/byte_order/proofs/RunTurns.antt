-- Runs of numbers of one width in two parts, and by one or four numbers more. Over the width.
use mathlib.Core.Path.{◌≡◌, refl, sym, ap, ap₂, ◌∙◌}
use mathlib.Core.List.{List}
use Prim.Native.Nat.{ℕ, zero, suc, ◌+◌, ◌-◌, ◌*◌, ◌≤◌}
use native.Mathlib.Nat.{zero-add, suc-add, suc-mul}
use native.Mathlib.Omega.{arith}
use Rattle.byte_order.specs.inner.Turning.{turned_at, turned_run}

-- m + n numbers in a row
pub run-split : (s : List ℕ) (w m n at : ℕ) (out : List ℕ) → turned_run w s (m + n) at out ≡ turned_run w s n (at + m * w) (turned_run w s m at out)
unfolding turned_run
run-split s w zero n at out =
    let here : at ≡ at + 0 * w = omega arith in
    ap₂ (λ (k p : ℕ). turned_run w s k p out) (zero-add n) here
run-split s w (suc m) n at out =
    let next : at + w + m * w ≡ at + suc m * w = omega (arith, suc-mul m w) in
    ap (λ (k : ℕ). turned_run w s k at out) (suc-add m n)
    ∙ run-split s w m n (at + w) (turned_at w s at out)
    ∙ ap (λ (p : ℕ). turned_run w s n p (turned_run w s m (at + w) (turned_at w s at out))) next

-- no number
pub run-none : (s : List ℕ) (w at : ℕ) (out : List ℕ) → out ≡ turned_run w s 0 at out
unfolding turned_run
run-none s w at out = refl

-- one more
pub run-next : (s : List ℕ) (w i at : ℕ) (out : List ℕ) → turned_at w s (at + i * w) (turned_run w s i at out) ≡ turned_run w s (i + 1) at out
unfolding turned_run
run-next s w i at out = sym (run-split s w i 1 at out)

-- four more
pub run-four : (s : List ℕ) (i at : ℕ) (out : List ℕ) → let p : ℕ = at + i * 8 in
    turned_at 8 s (p + 24) (turned_at 8 s (p + 16) (turned_at 8 s (p + 8) (turned_at 8 s p (turned_run 8 s i at out)))) ≡ turned_run 8 s (i + 4) at out
unfolding turned_run
run-four s i at out =
    let third : at + i * 8 + 16 ≡ at + i * 8 + 8 + 8 = omega arith in
    let fourth : at + i * 8 + 24 ≡ at + i * 8 + 8 + 8 + 8 = omega arith in
    simp (third, fourth) (sym (run-split s 8 i 4 at out))

-- and those that are left
pub run-rest : (s : List ℕ) (w i n at : ℕ) (out : List ℕ) → i ≤ n → turned_run w s (n - i) (at + i * w) (turned_run w s i at out) ≡ turned_run w s n at out
run-rest s w i n at out most =
    let all : i + (n - i) ≡ n = omega arith in
    sym (run-split s w i (n - i) at out) ∙ ap (λ (k : ℕ). turned_run w s k at out) all
