-- Laws of the number that bytes stand for, each over the width. They rest on the definitions of `Endian` alone.
use mathlib.Core.Path.{◌≡◌, sym, ap, ◌∙◌}
use Prim.Native.Nat.{ℕ, zero, suc, ◌+◌, ◌*◌, ◌^◌, ◌-◌, ◌<◌, ◌≤◌}
use native.Mathlib.Nat.{pow-suc, pow-zero, pow-le-pow_right, add-zero, add_assoc, mul-one, mul_assoc}
use native.Mathlib.Numerals.{add-one}
use native.Mathlib.Omega.{arith}
use mathlib.Core.List.{List}
use lib.ListN.{length, get_or, take, drop, length-take}
use lib.Seq.{get_or-take, get_or-drop}
use Rattle.number.specs.Endian.{be, le}

-- a width of one byte more is 256 times as many numbers
pub pow_more : (n : ℕ) → 256 ^ (n + 1) ≡ 256 ^ n * 256
pow_more n = ap (λ (k : ℕ). 256 ^ k) (add-one n) ∙ pow-suc 256 n

-- a number of n bytes with one byte more is a number of n + 1 bytes
pub byte_more : (n : ℕ) {v b : ℕ} → v < 256 ^ n → b < 256 → v * 256 + b < 256 ^ (n + 1)
byte_more n h k = omega (arith, pow_more n)

-- numbers of up to eight bytes are below 2 ^ 64
pub most : {n : ℕ} → n ≤ 8 → 256 ^ n ≤ 256 ^ 8
most h = pow-le-pow_right {n = 256} (omega arith) h

-- with fewer than eight bytes, one byte more fits 64 bits
pub byte_fits : (n : ℕ) {v b : ℕ} → n < 8 → v < 256 ^ n → b < 256 → v * 256 + b < 256 ^ 8
byte_fits n l h k = omega (arith, byte_more n h k, most {n = n + 1} (omega arith))

-- a byte of the part of n bytes that the loop goes over
pub part-byte : (s : List ℕ) (at n i : ℕ) → i < length (take (at + n - at) (drop at s)) → get_or (take (at + n - at) (drop at s)) i 0 ≡ get_or s (at + i) 0
part-byte s at n i h =
    let inside : i < at + n - at = omega (arith, length-take (at + n - at) (drop at s)) in
    rw (get_or-take (at + n - at) (drop at s) i 0 inside) (get_or-drop at s i 0)

-- one byte more, of either order
pub be-more : (s : List ℕ) (at n : ℕ) → be s at (n + 1) ≡ be s at n * 256 + get_or s (at + n) 0
unfolding be
be-more s at n = rw add-one

pub le-more : (s : List ℕ) (at n : ℕ) → le s at (n + 1) ≡ le s (at + 1) n * 256 + get_or s at 0
unfolding le
le-more s at n = rw (add-one n)

-- the number of m + n bytes is that of the first m, moved up by n bytes, and that of the other n
pub be-split : (s : List ℕ) (at m n : ℕ) → be s at (m + n) ≡ be s at m * 256 ^ n + be s (at + m) n
unfolding be
be-split s at m zero =
    let whole : be s at (m + 0) ≡ be s at m = ap (be s at) (add-zero m) in
    let by_one : be s at m * 256 ^ 0 ≡ be s at m = ap (λ (k : ℕ). be s at m * k) (pow-zero 256) ∙ mul-one (be s at m) in
    omega arith
be-split s at m (suc n) =
    let next : m + suc n ≡ suc (m + n) = omega arith in
    let last : be s at (m + suc n) ≡ be s at (m + n) * 256 + get_or s (at + (m + n)) 0 = ap (be s at) next in
    let before : be s at (m + n) ≡ be s at m * 256 ^ n + be s (at + m) n = be-split s at m n in
    let up : be s at m * 256 ^ suc n ≡ be s at m * 256 ^ n * 256 = ap (λ (k : ℕ). be s at m * k) (pow-suc 256 n) ∙ sym (mul_assoc (be s at m) (256 ^ n) 256) in
    let place : get_or s (at + (m + n)) 0 ≡ get_or s (at + m + n) 0 = ap (λ (k : ℕ). get_or s k 0) (sym (add_assoc at m n)) in
    omega arith

-- a number of n bytes is below 256 ^ n
pub be-bound : (s : List ℕ) (at : ℕ) → ((k : ℕ) → get_or s k 0 < 256) → (n : ℕ) → be s at n < 256 ^ n
unfolding be
be-bound s at bytes zero = omega (arith, pow-zero 256)
be-bound s at bytes (suc n) = omega (arith, pow-suc 256 n, be-bound s at bytes n, bytes (at + n))

pub le-bound : (s : List ℕ) → ((k : ℕ) → get_or s k 0 < 256) → (at n : ℕ) → le s at n < 256 ^ n
unfolding le
le-bound s bytes at zero = omega (arith, pow-zero 256)
le-bound s bytes at (suc n) = omega (arith, pow-suc 256 n, le-bound s bytes (at + 1) n, bytes at)

-- a turn of the loop that reads the least significant byte last: the byte before those read is added
pub le-turn : (s : List ℕ) (at n i : ℕ) → 0 < i → i ≤ n → le s (at + (i - 1)) (n - (i - 1)) ≡ le s (at + i) (n - i) * 256 + get_or s (at + (i - 1)) 0
le-turn s at n i h k =
    let width : n - (i - 1) ≡ n - i + 1 = omega arith in
    let place : at + (i - 1) + 1 ≡ at + i = omega arith in
    ap (le s (at + (i - 1))) width
    ∙ le-more s (at + (i - 1)) (n - i)
    ∙ ap (λ (p : ℕ). le s p (n - i) * 256 + get_or s (at + (i - 1)) 0) place

-- the two bytes of a 16-bit number
pub be-two : (s : List ℕ) (at : ℕ) → be s at 2 ≡ get_or s at 0 * 256 + get_or s (at + 1) 0
unfolding be
be-two s at =
    let first : get_or s (at + 0) 0 ≡ get_or s at 0 = ap (λ (k : ℕ). get_or s k 0) (add-zero at) in
    omega arith
