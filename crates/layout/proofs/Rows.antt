-- The numbers of rows: how many, of rows after rows, and one row more at the front of zeros.
use mathlib.Core.Path.{◌≡◌, refl, ap, sym, ◌∙◌}
use mathlib.Core.List.{List, [], ◌∷◌, ◌++◌}
use Prim.Native.Nat.{ℕ, zero, suc, ◌+◌, ◌-◌, ◌*◌, ◌≤◌, ◌<◌}
use native.Mathlib.Omega.{arith}
use native.Mathlib.Numerals.{add-one}
use lib.ListN.{length, take, drop, set, replicate, get_or}
use lib.Seq.{sets-eq, take-suc, take_at, drop-append-add, length-take-le}
use Rattle.descriptor.specs.Table.{zero_row}
use Rattle.descriptor.specs.declared.answer.Row.{Row}
use Rattle.layout.specs.Numbers.{row_numbers, rows_numbers}

-- seven stores in a row
pub seven-stored : (l : List ℕ) (i a b c d e f g : ℕ) → i + 7 ≤ length l
    → set (set (set (set (set (set (set l i a) (i + 1) b) (i + 2) c) (i + 3) d) (i + 4) e) (i + 5) f) (i + 6) g
    ≡ take i l ++ (a ∷ b ∷ c ∷ d ∷ e ∷ f ∷ g ∷ []) ++ drop (i + 7) l
seven-stored l i a b c d e f g h =
    let one : i + 1 ≡ suc i = omega arith in
    let two : i + 2 ≡ suc (suc i) = omega arith in
    let three : i + 3 ≡ suc (suc (suc i)) = omega arith in
    let four : i + 4 ≡ suc (suc (suc (suc i))) = omega arith in
    let five : i + 5 ≡ suc (suc (suc (suc (suc i)))) = omega arith in
    let six : i + 6 ≡ suc (suc (suc (suc (suc (suc i))))) = omega arith in
    rw (one, two, three, four, five, six) (sets-eq (a ∷ b ∷ c ∷ d ∷ e ∷ f ∷ g ∷ []) l i h)

pub numbers-length : (rs : List Row) → length (rows_numbers rs) ≡ length rs * 7
unfolding rows_numbers
numbers-length [] = refl
numbers-length (r ∷ rs) = omega (arith, numbers-length rs)

pub numbers-append : (rs qs : List Row) → rows_numbers (rs ++ qs) ≡ rows_numbers rs ++ rows_numbers qs
unfolding rows_numbers
numbers-append [] qs = refl
numbers-append (r ∷ rs) qs = ap (λ (l : List ℕ). row_numbers r ++ l) (numbers-append rs qs)

pub zero-numbers : (n : ℕ) → rows_numbers (replicate n zero_row) ≡ replicate (n * 7) 0
unfolding rows_numbers
zero-numbers zero = refl
zero-numbers (suc n) =
    let e : suc n * 7 ≡ suc (suc (suc (suc (suc (suc (suc (n * 7))))))) = omega arith in
    rw e (ap (λ (l : List ℕ). row_numbers zero_row ++ l) (zero-numbers n))

-- the numbers of the first i rows, and zeros
abbrev pub laid : List Row → ℕ → List ℕ
laid rows i = rows_numbers (take i rows) ++ replicate (1792 - i * 7) 0

module _ (rows : List Row) (i : ℕ) (inside : i < length rows) (small : i < 256) where
  before : length (rows_numbers (take i rows)) ≡ i * 7
  before = numbers-length (take i rows) ∙ ap (λ (n : ℕ). n * 7) (length-take-le i rows (omega arith))

  rest : drop (i * 7 + 7) (laid rows i) ≡ replicate (1792 - (i + 1) * 7) 0
  rest =
      let m = 1792 - (i + 1) * 7 in
      let e : 1792 - i * 7 ≡ suc (suc (suc (suc (suc (suc (suc m)))))) = omega arith in
      ap (λ (k : ℕ). drop (k + 7) (laid rows i)) (sym before)
      ∙ drop-append-add (rows_numbers (take i rows)) (replicate (1792 - i * 7) 0) 7
      ∙ ap (λ (k : ℕ). drop 7 (replicate k 0)) e

  numbers_more : rows_numbers (take i rows) ++ row_numbers (get_or rows i zero_row) ≡ rows_numbers (take (i + 1) rows)
  unfolding rows_numbers
  numbers_more =
      sym
      (ap (λ (k : ℕ). rows_numbers (take k rows)) (add-one i)
      ∙ ap rows_numbers (take-suc rows i zero_row inside)
      ∙ numbers-append (take i rows) (get_or rows i zero_row ∷ []))

  -- row i stored after the numbers of those before it
  pub laid_more : (to : List ℕ) → to ≡ laid rows i → take (i * 7) to ++ row_numbers (get_or rows i zero_row) ++ drop (i * 7 + 7) to ≡ laid rows (i + 1)
  laid_more to e =
      ap (λ (l : List ℕ). take (i * 7) l ++ row_numbers (get_or rows i zero_row) ++ drop (i * 7 + 7) l) e
      ∙ ap (λ (l : List ℕ). take (i * 7) (laid rows i) ++ row_numbers (get_or rows i zero_row) ++ l) rest
      ∙ ap (λ (l : List ℕ). l ++ row_numbers (get_or rows i zero_row) ++ replicate (1792 - (i + 1) * 7) 0)
      (take_at (rows_numbers (take i rows)) (replicate (1792 - i * 7) 0) (i * 7) before)
      ∙ ap (λ (l : List ℕ). l ++ replicate (1792 - (i + 1) * 7) 0) numbers_more
