-- Document 02, CR 5: "read eight bytes as two halves of four and join them, and show that the joined number's bits are, for any eight bytes, those of
-- what value by path states for 04, 08, 0A and 1A." The public entries of these definitions are read_value and locate.
-- Rests on the split law of numbers, on what stands at a path, and on the laws of two's complement and of bit patterns.
use mathlib.Core.Path.{◌≡◌, refl, sym, ap, ◌∙◌}
use mathlib.Core.Bool.{true, cond}
use mathlib.Core.Logic.{◌⊎◌}
use mathlib.Core.List.{List}
use Prim.Native.Nat.{ℕ, ◌+◌, ◌*◌, ◌^◌, ◌<◌, ◌≤◌}
use native.Mathlib.Decide.{dec_lt}
use native.Mathlib.Omega.{arith}
use lib.ListN.{length}
use Rattle.number.specs.Endian.{be}
use Rattle.number.specs.Signed.{signed}
use Rattle.number.specs.Float.{double_of}
use Rattle.number.specs.declared.float.Double.{Double}
use Rattle.number.specs.declared.float.Double.TheVariants as doubles
use Rattle.number.proofs.Reading.{be-split, be-bound}
use Rattle.number.proofs.Complement.{stays, falls}
use Rattle.number.proofs.Pattern.{double-bits}
use Rattle.descriptor.specs.Limits.{data_limit}
use Rattle.descriptor.specs.Tree.{Tree}
use Rattle.descriptor.specs.Encoding.{Bytes}
use Rattle.descriptor.specs.Width.{width_of}
use Rattle.encoding.proofs.Slices.{bytes-at}
use Rattle.flattened.specs.Order.{big}
use Rattle.access.specs.Path.{located}
use Rattle.access.specs.declared.part.Part.{Part}
use Rattle.reading.specs.Values.{of_double, value_of, is_value, code_of, no_value, read_value, complement, value_bits}
use Rattle.reading.specs.declared.value.Reading.{Reading}
use Rattle.reading.specs.declared.value.Value.{Value as Given}
use Rattle.reading.specs.declared.value.Value.TheVariants.{Signed, Unsigned}
use Rattle.values.specs.Value.{Value, flatten, Data}
use Rattle.values.proofs.Complete.{value-walks}
use Rattle.demands.proofs.Accepted.{Described}
use Rattle.demands.proofs.Bits.{Number, integer, natural, double, number-stop, given, of-double}
use Rattle.demands.proofs.Parts.{part_from}
use Rattle.demands.proofs.Reached.{there, reach, number_in, reading_there, part_there}
use Rattle.demands.proofs.There.{Stands, stands-there, value-at, value_there, part-there}

-- the eight bytes from `at` on as two halves of four, the high one first, joined
unfoldable pub joined_at : List ℕ → ℕ → ℕ
joined_at s at = be s at 4 * 2 ^ 32 + be s (at + 4) 4

-- for any eight bytes that is their big-endian number
pub halves-joined : (s : List ℕ) (at : ℕ) → joined_at s at ≡ be s at 8
unfolding joined_at
halves-joined s at = sym (be-split s at 4 4)

-- the codes of the request
pub data Eight : ℕ → Type 0 where
  signed-integer : Eight 0x04
  unsigned-integer : Eight 0x08
  double-precision : Eight 0x0A
  double-quantity : Eight 0x1A

-- what value by path states of each, its eight bytes being the number n: of 04 the two's complement, of 0A and 1A the double of these bits
unfoldable pub stated : {c : ℕ} → Eight c → ℕ → Given
stated signed-integer n = Signed (signed 8 n)
stated unsigned-integer n = Unsigned n
stated double-precision n = of_double (double_of n)
stated double-quantity n = of_double (double_of n)

-- that is the value of the code
stated-value : {c : ℕ} (e : Eight c) (n : ℕ) → value_of c n ≡ stated e n
unfolding value_of stated width_of
stated-value signed-integer n = refl
stated-value unsigned-integer n = refl
stated-value double-precision n = refl
stated-value double-quantity n = refl

-- and each is a value
is-double : (x : Double) → is_value (of_double x) ≡ true
unfolding is_value of_double
is-double (doubles.Number x) = refl
is-double (doubles.Nan b) = refl

stated-is : {c : ℕ} (e : Eight c) (n : ℕ) → is_value (stated e n) ≡ true
unfolding is_value stated
stated-is signed-integer n = refl
stated-is unsigned-integer n = refl
stated-is double-precision n = is-double (double_of n)
stated-is double-quantity n = is-double (double_of n)

-- such a code's values take eight bytes, and it is a code of single numbers
eight-wide : {c : ℕ} → Eight c → width_of c ≡ 8
unfolding width_of
eight-wide signed-integer = refl
eight-wide unsigned-integer = refl
eight-wide double-precision = refl
eight-wide double-quantity = refl

eight-number : {c : ℕ} → Eight c → Number c
eight-number signed-integer = integer (omega arith) (omega arith)
eight-number unsigned-integer = natural (omega arith) (omega arith)
eight-number double-precision = double (◌⊎◌.inl refl)
eight-number double-quantity = double (◌⊎◌.inr refl)

-- the two's complement of 64 bits gives the bits back
complement-back : (n : ℕ) → n < 2 ^ 64 → complement (signed 8 n) ≡ n
unfolding complement
complement-back n l = go (dec_lt n (2 ^ 63))
  where
    go : Dec (n < 2 ^ 63) → complement (signed 8 n) ≡ n
    go (yes h) = ap complement (stays 8 n (2 ^ 63) refl h)
    go (no h) = ap complement (falls 8 n (2 ^ 63) refl (omega arith) l) ∙ omega arith

-- so the bits of what is stated are the number, whichever 64 bits it has
pub stated-bits : {c : ℕ} (e : Eight c) (n : ℕ) → n < 2 ^ 64 → value_bits (stated e n) ≡ n
unfolding value_bits stated
stated-bits signed-integer n l = complement-back n l
stated-bits unsigned-integer n l = refl
stated-bits double-precision n l = of-double (double_of n) ∙ double-bits n l
stated-bits double-quantity n l = of-double (double_of n) ∙ double-bits n l

-- the request's sentence: for any eight bytes, wherever they stand, the bits of what is stated of each of the codes are the halves joined
pub any-eight : (s : List ℕ) → Bytes s → (at : ℕ) {c : ℕ} (e : Eight c) → value_bits (value_of c (be s at 8)) ≡ joined_at s at
any-eight s bytes at e =
    ap value_bits (stated-value e (be s at 8)) ∙ stated-bits e (be s at 8) (be-bound s at (bytes-at s bytes) 8) ∙ sym (halves-joined s at)

-- a value of such a type has eight bytes
eight-long : (s : List ℕ) {t : Tree} {v : Value} (at : ℕ) → Stands s t v at → Eight (code_of t) → length (flatten big t v) ≡ 8
eight-long s {t} at stands e =
    let stop = number-stop s t at _ _ stands.formed (eight-number e) (value-walks big s stands.fits at stands.here).walks in
    omega (arith, stop, eight-wide e)

-- the eight bytes of the part a are read as the value r by their halves
pub record ByHalves (s : List ℕ) (at : ℕ) {c : ℕ} (e : Eight c) (a : Part) (r : Reading) : Type 0 where
  pub part : a ≡ part_from at 8
  pub reading : r ≡ given (stated e (joined_at s at))
  pub bits : value_bits r.value ≡ joined_at s at

-- data of the descriptor d, within the limit, and its value. Accepted data is so by `Data.data-exactly`, and has one value by `Data.one-data`.
module _ (d : List ℕ) (x : Described d) (s : List ℕ) (y : Data big x.tree s) (short : length s ≤ data_limit) (bytes : Bytes s) where
  -- for any eight bytes that stand at a path of such a code, read_value states the two halves joined
  pub eight-there : (p : List ℕ) {t : Tree} {v : Value} {at : ℕ} → reach p x.tree y.value ≡ there t v at → (e : Eight (code_of t))
      → ByHalves s at e (located d s p) (read_value d s p)
  unfolding reading_there part_there
  eight-there p {t} {v} {at} here e =
      let stands : Stands s t v at = stands-there d x s y short p here in
      let n : ℕ = joined_at s at in
      let whole : number_in t v ≡ value_of (code_of t) (be s at 8) =
      sym (value-at s stands.formed stands.fits at stands.here) ∙ ap (λ (w : ℕ). value_of (code_of t) (be s at w)) (eight-wide e) in
      let number : number_in t v ≡ stated e n = whole ∙ ap (value_of (code_of t)) (sym (halves-joined s at)) ∙ stated-value e n in
      let reads : read_value d s p ≡ given (stated e n) =
      value_there d x s y short p
      ∙ ap reading_there here
      ∙ ap (λ (g : Given). cond (is_value g) (given g) (no_value 31 4 0)) number
      ∙ rw (stated-is e n) refl in
      record {
        part = part-there d x s y short p ∙ ap part_there here ∙ ap (λ (k : ℕ). part_from at k) (eight-long s at stands e);
        reading = reads;
        bits = ap (λ (r : Reading). value_bits r.value) reads ∙ ap value_bits (sym number ∙ whole) ∙ any-eight s bytes at e;
      }
