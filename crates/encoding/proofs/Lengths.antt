-- An encoding is as long as its tree's size, which is even. Rests on the definitions alone.
use mathlib.Core.Path.{◌≡◌, refl, ap}
use mathlib.Core.List.{List, [], ◌∷◌, ◌++◌}
use Prim.Native.Nat.{ℕ, suc, ◌+◌, ◌*◌, ◌%◌}
use native.Mathlib.Omega.{arith}
use lib.ListN.{length, replicate, length-append, length-replicate}
use Rattle.number.specs.Endian.{be_bytes}
use Rattle.descriptor.specs.Tree.{Name, unnamed, named, Pair, Fields, empty, items, pairs, text, dimensions, members, subtype, Tree, node, Forest, nil, cons, items_size, fields_size, inside_at, name_size, tree_size, forest_size}
use Rattle.descriptor.specs.Encoding.{packed, pair_bytes, fill, field_bytes, name_bytes, encode_with, forest_with}

-- no byte after an even number of bytes
pub fill-even : (n : ℕ) → n % 2 ≡ 0 → fill n ≡ []
fill-even n e = ap (λ (k : ℕ). replicate k 0) e

-- and a zero byte after an odd one
pub fill-odd : (n : ℕ) → n % 2 ≡ 1 → fill n ≡ 0 ∷ []
fill-odd n e = ap (λ (k : ℕ). replicate k 0) e

-- packed Pascal strings
pub packed-length : (xs : List (List ℕ)) → length (packed xs) ≡ items_size xs
unfolding packed items_size
packed-length [] = refl
packed-length (x ∷ xs) = omega (arith, length-append x (packed xs), packed-length xs)

-- unit pairs
pub pairs-length : (ps : List Pair) → length (pair_bytes ps) ≡ 4 * length ps
unfolding pair_bytes be_bytes
pairs-length [] = refl
pairs-length (p ∷ ps) = omega (arith, pairs-length ps)

-- the fields of a body
pub fields-length : (b : Fields) → length (field_bytes b) ≡ fields_size b
unfolding field_bytes fields_size be_bytes
fields-length empty = refl
fields-length (items xs) =
    omega (arith, length-append (packed xs) (fill (items_size xs)), packed-length xs, length-replicate {A = ℕ} (items_size xs % 2) 0)
fields-length (pairs ps) = omega (arith, pairs-length ps)
fields-length text = refl
fields-length (dimensions d) = omega (arith, length-replicate {A = ℕ} (4 * d) 255)
fields-length (members k) = refl
fields-length subtype = refl

-- a name
pub name-length : (m : Name) → length (name_bytes m) ≡ name_size m
unfolding name_bytes name_size
name-length unnamed = refl
name-length (named x) = omega (arith, length-append x (fill (suc (length x))), length-replicate {A = ℕ} (suc (length x) % 2) 0)

mutual
  unfolding encode_with tree_size be_bytes

  -- a tree
  pub tree-length : (t : Tree) (r : ℕ → ℕ) (p : ℕ) → length (encode_with r p t) ≡ tree_size t
  tree-length (node c b f m) r p =
      omega (
        arith,
        length-append (field_bytes b) (forest_with r (inside_at p b) f ++ name_bytes m),
        length-append (forest_with r (inside_at p b) f) (name_bytes m),
        fields-length b,
        forest-length f r (inside_at p b),
        name-length m,
      )

  -- descriptors in a row
  pub forest-length : (f : Forest) (r : ℕ → ℕ) (p : ℕ) → length (forest_with r p f) ≡ forest_size f
  forest-length nil r p = refl
  forest-length (cons t f) r p =
      omega (arith, length-append (encode_with r p t) (forest_with r (p + tree_size t) f), tree-length t r p, forest-length f r (p + tree_size t))

-- the size of a body's fields is even
fields-even : (b : Fields) → fields_size b % 2 ≡ 0
unfolding fields_size
fields-even empty = refl
fields-even (items xs) = omega arith
fields-even (pairs ps) = omega arith
fields-even text = refl
fields-even (dimensions d) = omega arith
fields-even (members k) = refl
fields-even subtype = refl

-- and so is a name's
name-even : (m : Name) → name_size m % 2 ≡ 0
unfolding name_size
name-even unnamed = refl
name-even (named x) = omega arith

mutual
  unfolding tree_size

  -- and so is a tree's
  pub tree-even : (t : Tree) → tree_size t % 2 ≡ 0
  tree-even (node c b f m) = omega (arith, fields-even b, forest-even f, name-even m)

  -- and that of descriptors in a row
  pub forest-even : (f : Forest) → forest_size f % 2 ≡ 0
  forest-even nil = refl
  forest-even (cons t f) = omega (arith, tree-even t, forest-even f)
