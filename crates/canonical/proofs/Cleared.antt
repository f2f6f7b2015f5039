-- Clearing the reserved bytes of a tree's encoding gives its normal form. Rests on the lengths of encodings.
use mathlib.Core.Path.{◌≡◌, refl, sym, ap, ◌∙◌}
use mathlib.Core.List.{List, ◌∷◌, ◌++◌, append_assoc}
use Prim.Native.Nat.{ℕ, zero, suc, ◌+◌, ◌-◌, ◌≤◌, ◌<◌}
use native.Mathlib.Omega.{arith}
use lib.ListN.{length, set, length-set, length-append}
use lib.Seq.{set_at}
use Rattle.number.proofs.Writing.{length-be_bytes}
use Rattle.descriptor.specs.Header.{reserved_at, size_in}
use Rattle.descriptor.specs.Tree.{Tree, node, Forest, nil, cons, inside_at, tree_size}
use Rattle.descriptor.specs.Encoding.{word, field_bytes, name_bytes, encode_with, forest_with}
use Rattle.descriptor.specs.Outcome.{Outcome}
use Rattle.descriptor.specs.inner.Standing.{standing_row, forest_of, inside_of}
use Rattle.descriptor.specs.declared.inside.Inside.{Inside}
use Rattle.descriptor.proofs.Runs.{one_less, none_left}
use Rattle.descriptor.proofs.Standing.{row-none}
use Rattle.encoding.proofs.Lengths.{fields-length, tree-length}
use Rattle.canonical.specs.inner.Walk.{RowInside, clear_tree, clear_forest}
use Rattle.canonical.proofs.Turns.{Taken, InRow, there, row-wider, row_laws}

mutual
  unfolding clear_tree

  -- clearing keeps the length
  clear-tree-length : (t : Tree) (p : ℕ) (out : List ℕ) → length (clear_tree p t out) ≡ length out
  clear-tree-length (node c b f m) p out = clear-length f (inside_at p b) (set out (reserved_at p) 0) ∙ length-set out (reserved_at p) 0

  pub clear-length : (f : Forest) (p : ℕ) (out : List ℕ) → length (clear_forest p f out) ≡ length out
  clear-length nil p out = refl
  clear-length (cons t f) p out = clear-length f (p + tree_size t) (clear_tree p t out) ∙ clear-tree-length t p out

-- r's reserved bytes, and the bytes x before and y after
module _ (r : ℕ → ℕ) where
  mutual
    unfolding clear_tree encode_with

    -- a tree
    pub clear-tree : (t : Tree) (p : ℕ) (x y : List ℕ) → length x ≡ p
        → clear_tree p t (x ++ (encode_with r p t ++ y)) ≡ x ++ (encode_with (λ _. 0) p t ++ y)
    clear-tree (node c b f m) p x y h =
        let at : ℕ = inside_at p b in
        let size : List ℕ = word (tree_size (node c b f m)) in
        let front : List ℕ = x ++ (size ++ (0 ∷ c ∷ field_bytes b)) in
        let long : length front ≡ at =
        omega (arith, length-append x (size ++ (0 ∷ c ∷ field_bytes b)), length-append size (0 ∷ c ∷ field_bytes b), length-be_bytes 2 (tree_size (node c b f m)), fields-length b) in
        let before : length (x ++ size) ≡ reserved_at p = omega (arith, length-append x size, length-be_bytes 2 (tree_size (node c b f m))) in
        let rest : List ℕ = c ∷ (field_bytes b ++ (forest_with r at f ++ (name_bytes m ++ y))) in
        let split : x ++ (encode_with r p (node c b f m) ++ y) ≡ (x ++ size) ++ (r p ∷ rest) = simp append_assoc in
        let join : (x ++ size) ++ (0 ∷ rest) ≡ front ++ (forest_with r at f ++ (name_bytes m ++ y)) = simp append_assoc in
        ap (λ (l : List ℕ). clear_forest at f (set l (reserved_at p) 0)) split
        ∙ ap (clear_forest at f) (set_at (x ++ size) (r p) rest 0 (reserved_at p) before ∙ join)
        ∙ clear-forest f at front (name_bytes m ++ y) long
        ∙ simp append_assoc

    -- descriptors in a row
    pub clear-forest : (f : Forest) (p : ℕ) (x y : List ℕ) → length x ≡ p
        → clear_forest p f (x ++ (forest_with r p f ++ y)) ≡ x ++ (forest_with (λ _. 0) p f ++ y)
    clear-forest nil p x y h = refl
    clear-forest (cons t f) p x y h =
        let next : ℕ = p + tree_size t in
        let first : List ℕ = encode_with (λ _. 0) p t in
        let split : x ++ (forest_with r p (cons t f) ++ y) ≡ x ++ (encode_with r p t ++ (forest_with r next f ++ y)) = simp append_assoc in
        let join : x ++ (first ++ (forest_with r next f ++ y)) ≡ (x ++ first) ++ (forest_with r next f ++ y) = simp append_assoc in
        ap (λ (l : List ℕ). clear_forest next f (clear_tree p t l)) split
        ∙ ap (clear_forest next f) (clear-tree t p x (forest_with r next f ++ y) h ∙ join)
        ∙ clear-forest f next (x ++ first) y (omega (arith, length-append x first, tree-length t (λ _. 0) p))
        ∙ simp append_assoc

-- with no descriptors to come, nothing is cleared
clear_none : (s : List ℕ) (p : ℕ) (out : List ℕ) → clear_forest p (forest_of (standing_row s 0 p)) out ≡ out
unfolding clear_tree forest_of
clear_none s p out = ap (λ (o : Outcome Forest). clear_forest p (forest_of o) out) (row-none s p)

-- nor where the descriptor just read has none in it
pub clear-childless : (s : List ℕ) (k p : ℕ) (out : List ℕ) → k ≤ 0 → clear_forest p (forest_of (standing_row s k p)) out ≡ out
clear-childless s k p out h =
    let none : k ≡ 0 = omega arith in
    ap (λ (n : ℕ). clear_forest p (forest_of (standing_row s n p)) out) none ∙ clear_none s p out

-- one turn of the walk: the first of descriptors in a row, those in it, then the others
pub clear-turn : (s : List ℕ) (j p stop levels size : ℕ) (f : Inside) (out : List ℕ) → Taken s j p stop levels size f
    → clear_forest p (forest_of (standing_row s (suc j) p)) out
    ≡ clear_forest (p + size) (forest_of (standing_row s j (p + size)))
    (clear_forest f.at (forest_of (standing_row s f.children f.at)) (set out (reserved_at p) 0))
unfolding clear_tree forest_of
clear-turn s j p stop levels size f out k =
    let turn = k.turn in
    let ends : p + tree_size (node turn.code turn.body turn.inner turn.name) ≡ p + size = omega (arith, turn.size, k.sized) in
    let others : turn.others ≡ forest_of (standing_row s j (p + size)) =
    sym turn.follow ∙ ap (λ (n : ℕ). forest_of (standing_row s j (p + n))) (sym k.sized) in
    ap (λ (g : Forest). clear_forest p g out) turn.row
    ∙ (λ i. clear_forest (ends i) (others i) (inner (set out (reserved_at p) 0) i))
  where
    -- those in it, wherever the code says that they start
    inner : (x : List ℕ) → clear_forest (inside_at p k.turn.body) k.turn.inner x ≡ clear_forest f.at (forest_of (standing_row s f.children f.at)) x
    inner x = go f.children refl
      where
        held : k.turn.inner ≡ forest_of (standing_row s f.children (inside_at p k.turn.body))
        held = sym (ap forest_of k.turn.held) ∙ ap (λ (n : ℕ). forest_of (standing_row s n (inside_at p k.turn.body))) (sym k.children)

        go : (n : ℕ) → f.children ≡ n
            → clear_forest (inside_at p k.turn.body) k.turn.inner x ≡ clear_forest f.at (forest_of (standing_row s f.children f.at)) x
        go zero e =
            ap (λ (g : Forest). clear_forest (inside_at p k.turn.body) g x) held
            ∙ (clear-childless s f.children (inside_at p k.turn.body) x (omega arith) ∙ sym (clear-childless s f.children f.at x (omega arith)))
        go (suc n) e =
            let at = k.at (omega arith) in
            ap (λ (g : Forest). clear_forest (inside_at p k.turn.body) g x) held ∙ (λ i. clear_forest (sym at i) (forest_of (standing_row s f.children (sym at i))) x)

-- The clearing of k descriptors in a row, i of them having gone before, by what the code has in hand of the next one.
module _ (s : List ℕ) (k i p : ℕ) (out : List ℕ) where
  abbrev pub clear_from : List ℕ
  clear_from = clear_forest p (forest_of (standing_row s (k - i) p)) out

  -- none is to come
  pub clear_end : k ≤ i → clear_from ≡ out
  clear_end done = none_left (λ n. clear_forest p (forest_of (standing_row s n p)) out) k i done ∙ clear_none s p out

module _ (s : List ℕ) (k i p levels : ℕ) (out : List ℕ) (row : InRow s (k - i) p (length s) levels) (more : i < k) where
  next-of : clear_from s k i p out
      ≡ clear_from s k (i + 1) (p + size_in s p)
      (clear_forest (inside_of s p).at (forest_of (standing_row s (inside_of s p).children (inside_of s p).at)) (set out (reserved_at p) 0))
  next-of =
      one_less (λ n. clear_forest p (forest_of (standing_row s n p)) out) k i more
      ∙ clear-turn s (k - (i + 1)) p (length s) levels (size_in s p) (inside_of s p) out (there s k i p (length s) levels row more)

  -- one with none in it
  pub clear_leaf : (inside_of s p).children ≡ 0 → clear_from s k i p out ≡ clear_from s k (i + 1) (p + size_in s p) (set out (reserved_at p) 0)
  clear_leaf none =
      next-of ∙ ap (clear_from s k (i + 1) (p + size_in s p)) (clear-childless s (inside_of s p).children (inside_of s p).at (set out (reserved_at p) 0) (omega arith))

  -- one with some in it
  module _ (some : 0 < (inside_of s p).children) where
    pub clear_inner : (next : List ℕ) → next ≡ clear_forest (inside_of s p).at (forest_of (standing_row s (inside_of s p).children (inside_of s p).at)) (set out (reserved_at p) 0)
        → clear_from s k i p out ≡ clear_from s k (i + 1) (p + size_in s p) next
    clear_inner next e = next-of ∙ ap (clear_from s k (i + 1) (p + size_in s p)) (sym e)

    -- which stand in the whole
    pub clear_row_in : RowInside s (inside_of s p).children (inside_of s p).at (length s) (levels - 1)
    clear_row_in =
        let t = there s k i p (length s) levels row more in
        row-wider _ _ _ _ _ _ t.fits (omega arith) (t.inside some)

pub ruleset clear_laws = (row_laws, clear_end, clear_leaf, clear_inner, clear_row_in, clear-length, length-set)
