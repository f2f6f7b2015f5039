-- Bytes that are the same from the front on, and the first that is not. Rests on the laws of numbers: bytes that make the same number are
-- the same.
use mathlib.Core.Path.{◌≡◌, sym, ap, ap₂, subst, ◌∙◌}
use mathlib.Core.List.{List, ◌∷◌, ◌++◌}
use Prim.Native.Nat.{ℕ, ◌+◌, ◌*◌, ◌≤◌, ◌<◌}
use native.Mathlib.Omega.{arith}
use lib.ListN.{length, get_or}
use lib.Seq.{slice, slice_empty}
use Rattle.number.specs.Endian.{le, le_bytes}
use Rattle.number.proofs.Inverse.{le_bytes-le}
use Rattle.encoding.proofs.Slices.{slice-take, slice_all, slice-join, slice-more}
use Rattle.canonical.specs.inner.Walk.{SameFront, FirstDifference}

module _ (a b : List ℕ) where
  module _ (i : ℕ) (front : SameFront a b i) where
    -- n bytes more
    front-more : (n : ℕ) → i + n ≤ length a → slice i (i + n) a ≡ slice i (i + n) b → SameFront a b (i + n)
    front-more n within same = record {
      within = within;
      same =
          sym (slice-join 0 i (i + n) a (omega arith) (omega arith))
          ∙ ap₂ (λ (x y : List ℕ). x ++ y) front.same same
          ∙ slice-join 0 i (i + n) b (omega arith) (omega arith);
    }

    -- n bytes that make the same number
    pub front-number : ((k : ℕ) → get_or a k 0 < 256) → ((k : ℕ) → get_or b k 0 < 256) → (n : ℕ) → i + n ≤ length a → i + n ≤ length b
        → le a i n ≡ le b i n → SameFront a b (i + n)
    front-number bytes_a bytes_b n within_a within_b e =
        front-more n within_a
        (slice-take i n a ∙ sym (le_bytes-le a bytes_a i n within_a) ∙ ap (le_bytes n) e ∙ le_bytes-le b bytes_b i n within_b ∙ sym (slice-take i n b))

    -- one byte
    pub front-byte : i < length a → i < length b → get_or a i 0 ≡ get_or b i 0 → SameFront a b (i + 1)
    front-byte within_a within_b e = front-more 1 (omega arith) (one a within_a ∙ ap (λ (x : ℕ). x ∷ slice (i + 1) (i + 1) a) e ∙ ap (λ (l : List ℕ). get_or b i 0 ∷ l) (slice_empty (i + 1) a ∙ sym (slice_empty (i + 1) b)) ∙ sym (one b within_b))
      where
        one : (s : List ℕ) → i < length s → slice i (i + 1) s ≡ get_or s i 0 ∷ slice (i + 1) (i + 1) s
        one s h = slice-more i (i + 1) s 0 (omega arith) (omega arith)

    -- none is left
    pub front-all : length a ≤ i → FirstDifference a b i
    front-all h = record { front = front; differ = λ more _. omega arith }

    -- bytes of one length that are all the same are equal
    pub front-whole : length a ≡ length b → i ≡ length a → a ≡ b
    front-whole long e = sym (slice_all a i (sym e)) ∙ front.same ∙ slice_all b i (sym long ∙ sym e)

-- eight bytes more, as `same_front` reads them
pub front_eight : (a b : List ℕ) (n : ℕ) → SameFront a b (8 * n) → ((k : ℕ) → get_or a k 0 < 256) → ((k : ℕ) → get_or b k 0 < 256) → length a ≡ length b
    → 8 * n + 8 ≤ length a → le a (8 * n) 8 ≡ le b (8 * n) 8 → SameFront a b (8 * (n + 1))
front_eight a b n front bytes_a bytes_b long room e =
    let next : 8 * n + 8 ≡ 8 * (n + 1) = omega arith in
    subst (λ (m : ℕ). SameFront a b m) next (front-number a b (8 * n) front bytes_a bytes_b 8 room (omega arith) e)

pub ruleset front_laws = (front_eight, front-byte, front-all)
