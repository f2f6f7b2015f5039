-- Numbers in a byte order: read where they stand, the same read again, one from the bytes of the other, and reversed in place.
-- Rests on the number crate's laws and on those of bytes at a place.
use mathlib.Core.Path.{◌≡◌, refl, sym, ap, ap₂, ◌∙◌}
use mathlib.Core.List.{List, [], ◌∷◌, ◌++◌, append_assoc, reverse, reverse-reverse}
use Prim.Native.Nat.{ℕ, zero, suc, ◌+◌, ◌*◌, ◌%◌, ◌^◌, ◌≤◌, ◌<◌}
use native.Mathlib.Nat.{mod-eq_of_lt}
use native.Mathlib.Omega.{arith}
use lib.ListN.{length, length-append}
use lib.Seq.{slice, take_at, drop_at}
use Rattle.number.specs.Endian.{be, le, be_bytes, le_bytes}
use Rattle.number.proofs.Reading.{be-bound, le-bound}
use Rattle.number.proofs.Writing.{length-be_bytes, length-le_bytes}
use Rattle.number.proofs.Inverse.{be-be_bytes, le_bytes-reverse, le_bytes-le, le-reverse}
use Rattle.descriptor.specs.Encoding.{Bytes}
use Rattle.flattened.specs.Order.{Order, big, little, number_at}
use Rattle.byte_order.specs.Reversal.{reverse_each}
use Rattle.encoding.proofs.Slices.{append-apart, slice-take, slice-be, be-slice, bytes-at}
use Rattle.values.specs.Value.{AllBelow, other, ordered, in_order, Here}
use Rattle.values.proofs.Places.{here-up-to, here-by, here-none, here-whole, here-first, here-second, here-then}

-- w bytes
pub length-ordered : (o : Order) (w n : ℕ) → length (ordered o w n) ≡ w
unfolding ordered
length-ordered big w n = length-be_bytes w n
length-ordered little w n = length-le_bytes w n

-- a number's bytes in the other order are the same in reverse
pub reverse-ordered : (o : Order) (w n : ℕ) → reverse (ordered o w n) ≡ ordered (other o) w n
unfolding ordered other
reverse-ordered big w n = sym (le_bytes-reverse w n)
reverse-ordered little w n = ap reverse (le_bytes-reverse w n) ∙ reverse-reverse (be_bytes w n)

-- a number in a part that is its bytes
part-number : (o : Order) (s : List ℕ) (p w n : ℕ) → p + w ≤ length s → slice p (p + w) s ≡ ordered o w n → number_at o s p w ≡ n % 256 ^ w
unfolding ordered number_at
part-number big s p w n h e = slice-be s p w n e
part-number little s p w n h e =
    le-reverse s p w h
    ∙ ap (λ (l : List ℕ). be (reverse l) 0 w) (sym (slice-take p w s) ∙ e ∙ le_bytes-reverse w n)
    ∙ ap (λ (l : List ℕ). be l 0 w) (reverse-reverse (be_bytes w n))
    ∙ be-be_bytes w n

-- the number where its bytes stand
pub number_read : (o : Order) (s : List ℕ) (p w n : ℕ) → n < 256 ^ w → Here s p (ordered o w n) → number_at o s p w ≡ n
number_read o s p w n h e =
    let long = length-ordered o w n in
    part-number o s p w n (omega (arith, e.within)) (here-up-to s p (p + w) (ordered o w n) e (omega arith)) ∙ mod-eq_of_lt h

-- two numbers of the same bytes are one
pub ordered-apart : (o : Order) (w n k : ℕ) → n < 256 ^ w → k < 256 ^ w → ordered o w n ≡ ordered o w k → n ≡ k
ordered-apart o w n k h l e = sym (back o n h) ∙ ap (λ (x : List ℕ). number_at o x 0 w) e ∙ back o k l
  where
    back : (o : Order) (n : ℕ) → n < 256 ^ w → number_at o (ordered o w n) 0 w ≡ n
    back o n h = number_read o (ordered o w n) 0 w n h (here-whole (ordered o w n))

-- numbers in a row
pub length-in_order : (o : Order) (w : ℕ) (ns : List ℕ) → length (in_order o w ns) ≡ length ns * w
unfolding in_order
length-in_order o w [] = omega arith
length-in_order o w (n ∷ ns) =
    let more : suc (length ns) * w ≡ w + length ns * w = omega arith in
    omega (arith, length-append (ordered o w n) (in_order o w ns), length-ordered o w n, length-in_order o w ns)

-- the same bytes are the same numbers
pub in_order-apart : (o : Order) (w : ℕ) (ns ks : List ℕ) (x y : List ℕ) → length ns ≡ length ks → AllBelow (256 ^ w) ns → AllBelow (256 ^ w) ks
    → in_order o w ns ++ x ≡ in_order o w ks ++ y → (ns ≡ ks) × (x ≡ y)
unfolding in_order AllBelow
in_order-apart o w [] [] x y h b d e = (refl, e)
in_order-apart o w [] (k ∷ ks) x y h b d e = absurd (omega arith)
in_order-apart o w (n ∷ ns) [] x y h b d e = absurd (omega arith)
in_order-apart o w (n ∷ ns) (k ∷ ks) x y h b d e =
    let long = length-ordered o w n in
    let same = length-ordered o w k in
    let apart = append-apart (ordered o w n) (ordered o w k) (in_order o w ns ++ x) (in_order o w ks ++ y) (omega arith)
    (sym (append_assoc (ordered o w n) (in_order o w ns) x) ∙ e ∙ append_assoc (ordered o w k) (in_order o w ks) y) in
    let rest = in_order-apart o w ns ks x y (omega arith) b.1 d.1 apart.1 in
    let first = ordered-apart o w n k b.0 d.0 apart.0 in
    (λ j. first j ∷ rest.0 j, rest.1)

-- the k numbers of w bytes each at `at`
unfoldable pub numbers_at : Order → List ℕ → ℕ → ℕ → ℕ → List ℕ
numbers_at o s w zero at = []
numbers_at o s w (suc k) at = number_at o s at w ∷ numbers_at o s w k (at + w)

pub length-numbers_at : (o : Order) (s : List ℕ) (w k at : ℕ) → length (numbers_at o s w k at) ≡ k
unfolding numbers_at
length-numbers_at o s w zero at = refl
length-numbers_at o s w (suc k) at = ap suc (length-numbers_at o s w k (at + w))

-- read where they stand
pub numbers-read : (o : Order) (s : List ℕ) (w p : ℕ) (ns : List ℕ) → AllBelow (256 ^ w) ns → Here s p (in_order o w ns)
    → numbers_at o s w (length ns) p ≡ ns
unfolding in_order AllBelow numbers_at
numbers-read o s w p [] b h = refl
numbers-read o s w p (n ∷ ns) b h =
    let one = number_read o s p w n b.0 (here-first s p (ordered o w n) (in_order o w ns) h) in
    let next : p + length (ordered o w n) ≡ p + w = omega (arith, length-ordered o w n) in
    let more : Here s (p + w) (in_order o w ns) = rw next at (here-second s p (ordered o w n) (in_order o w ns) h) in
    let rest = numbers-read o s w (p + w) ns b.1 more in
    (λ j. one j ∷ rest j)

-- for lists of bytes
module _ (s : List ℕ) (b : Bytes s) where
  -- a number that is read stands there
  pub number-stands : (o : Order) (p w : ℕ) → p + w ≤ length s → Here s p (ordered o w (number_at o s p w))
  unfolding ordered number_at
  number-stands big p w h = here-by s p (p + w) (be_bytes w (be s p w)) (omega arith) h (be-slice s b p w h)
  number-stands little p w h =
      here-by s p (p + w) (le_bytes w (le s p w)) (omega arith) h (slice-take p w s ∙ sym (le_bytes-le s (bytes-at s b) p w h))

  -- and is one of w bytes
  pub number_bound : (o : Order) (p w : ℕ) → number_at o s p w < 256 ^ w
  unfolding number_at
  number_bound big p w = be-bound s p (bytes-at s b) w
  number_bound little p w = le-bound s (bytes-at s b) p w

  -- numbers in a row
  pub numbers-stand : (o : Order) (w k p : ℕ) → p + k * w ≤ length s → Here s p (in_order o w (numbers_at o s w k p))
  unfolding in_order numbers_at
  numbers-stand o w zero p h = here-none s p (omega arith)
  numbers-stand o w (suc k) p h =
      let more : suc k * w ≡ w + k * w = omega arith in
      let long = length-ordered o w (number_at o s p w) in
      here-then s p (p + w) (ordered o w (number_at o s p w)) (in_order o w (numbers_at o s w k (p + w))) (number-stands o p w (omega arith)) (omega arith)
      (numbers-stand o w k (p + w) (omega arith))

  pub numbers-bound : (o : Order) (w k p : ℕ) → AllBelow (256 ^ w) (numbers_at o s w k p)
  unfolding AllBelow numbers_at
  numbers-bound o w zero p = tt
  numbers-bound o w (suc k) p = (number_bound o p w, numbers-bound o w k (p + w))

-- the first number of some reversed in place
pub first-reversed : (o : Order) (w n k : ℕ) (x : List ℕ) → reverse_each w (suc k) (ordered o w n ++ x) ≡ ordered (other o) w n ++ reverse_each w k x
unfolding reverse_each
first-reversed o w n k x =
    let long = length-ordered o w n in
    ap₂ (λ (u v : List ℕ). reverse u ++ reverse_each w k v) (take_at (ordered o w n) x w long) (drop_at (ordered o w n) x w long)
    ∙ ap (λ (u : List ℕ). u ++ reverse_each w k x) (reverse-ordered o w n)

-- each of them
pub in_order-reversed : (o : Order) (w : ℕ) (ns x : List ℕ) → reverse_each w (length ns) (in_order o w ns ++ x) ≡ in_order (other o) w ns ++ x
unfolding in_order reverse_each
in_order-reversed o w [] x = refl
in_order-reversed o w (n ∷ ns) x =
    ap (reverse_each w (suc (length ns))) (append_assoc (ordered o w n) (in_order o w ns) x)
    ∙ first-reversed o w n (length ns) (in_order o w ns ++ x)
    ∙ ap (λ (l : List ℕ). ordered (other o) w n ++ l) (in_order-reversed o w ns x)
    ∙ sym (append_assoc (ordered (other o) w n) (in_order (other o) w ns) x)

-- a lower limit
pub below_less : (a b : ℕ) (ns : List ℕ) → a ≤ b → AllBelow a ns → AllBelow b ns
unfolding AllBelow
below_less a b [] h d = tt
below_less a b (n ∷ ns) h d = (omega (arith, d.0), below_less a b ns h d.1)
