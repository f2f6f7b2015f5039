-- Whole descriptors that were accepted: the walks over them decide equality and give the normal form.
-- Rests on `Same` and on the laws of the encoding: an accepted descriptor spells one tree.
use mathlib.Core.Path.{◌≡◌, refl, sym, ap, ◌∙◌}
use mathlib.Core.Bool.{true, false}
use mathlib.Core.List.{List, [], ◌++◌, append-nil}
use Prim.Native.Nat.{ℕ}
use native.Mathlib.Omega.{arith}
use lib.ListN.{length, take, drop}
use lib.Seq.{slice, slice_empty, take-length}
use Rattle.descriptor.specs.Limits.{depth_limit}
use Rattle.descriptor.specs.Tree.{Tree, nil, cons, tree_size, forest_height}
use Rattle.descriptor.specs.Encoding.{encode_with, forest_with, encode, Bytes}
use Rattle.descriptor.specs.Outcome.{Outcome, refused, read}
use Rattle.descriptor.specs.Check.{members_at, checked}
use Rattle.descriptor.specs.inner.Standing.{standing, standing_row, is_read, next_of, forest_of}
use Rattle.descriptor.proofs.Standing.{standing-ends, standing-low, accepted-standing}
use Rattle.descriptor.proofs.Steps.{impossible}
use Rattle.encoding.proofs.Slices.{slice_all}
use Rattle.encoding.proofs.Lengths.{tree-length}
use Rattle.descriptor.specs.Header.{reserved_in}
use Rattle.encoding.proofs.Sound.{read-sound}
use Rattle.encoding.proofs.Accepted.{accepted-spells, spells-accepted}
use Rattle.canonical.specs.Equality.{same_chars, same_tree}
use Rattle.canonical.specs.inner.Walk.{Accepted, RowInside, respelled, same_within, clear_forest}
use Rattle.canonical.proofs.Same.{chars-same, chars-refl, same-tree, same_refl}
use Rattle.canonical.proofs.Lists.{bool_same}
use Rattle.canonical.proofs.Turns.{row_inside}
use Rattle.canonical.proofs.Cleared.{clear-forest}

-- an accepted descriptor
module _ (s : List ℕ) (q : ℕ) (t : Tree) (e : checked s ≡ read q t) where
  -- is a row of one
  top-row : standing_row s 1 0 ≡ read (length s) (cons t nil)
  unfolding standing_row members_at
  top-row =
      let a = accepted-standing s q t e in
      rw a.0 (ap (λ (k : ℕ). read k (cons t nil)) a.1.0)

  -- that the walks may start with
  pub top-inside : RowInside s 1 0 (length s) depth_limit
  unfolding forest_height
  top-inside =
      let a = accepted-standing s q t e in
      row_inside s 1 0 (length s) depth_limit (length s) (cons t nil) (omega (arith, a.1.1)) (omega arith) (omega arith) top-row (omega arith)
      (omega (arith, standing-low s 0 q t a.0))

  -- and has its tree's size
  top-size : length s ≡ tree_size t
  top-size =
      let a = accepted-standing s q t e in
      omega (arith, a.1.0, (standing-ends s 0 q t a.0).at)

  -- its bytes are its tree's, with its own reserved bytes
  top-bytes : Bytes s → s ≡ encode_with (reserved_in s) 0 t
  unfolding standing
  top-bytes bytes =
      let a = accepted-standing s q t e in
      let sound = read-sound s bytes depth_limit false (length s) 0 0 q t (omega arith) a.0 in
      sym (slice_all s q (sym a.1.0)) ∙ sound.bytes

-- an accepted descriptor a, and other bytes b that are as long
module _ (a b : List ℕ) (bytes_a : Bytes a) (q : ℕ) (t : Tree) (e : checked a ≡ read q t) (long : length a ≡ length b) where
  -- the walk compares b with a's tree in b's reserved bytes
  walked : same_within a b 1 0 (length a) ≡ same_chars b (encode_with (reserved_in b) 0 t)
  unfolding same_within respelled forest_with next_of forest_of
  walked =
      let row = top-row a q t e in
      let whole : slice 0 (length a) b ≡ b = slice_all b (length a) (sym long) in
      let spelled : respelled a b 1 0 (length a) ≡ encode_with (reserved_in b) 0 t =
      (λ i. forest_with (reserved_in b) 0 (forest_of (row i)) ++ slice (next_of (row i)) (length a) a)
      ∙ ap (λ (l : List ℕ). (encode_with (reserved_in b) 0 t ++ []) ++ l) (slice_empty (length a) a)
      ∙ append-nil (encode_with (reserved_in b) 0 t ++ [])
      ∙ append-nil (encode_with (reserved_in b) 0 t) in
      (λ i. same_chars (whole i) (spelled i))

  -- and where they are the same, b spells a's tree, and so is accepted as that tree
  pub walk-accepts : same_within a b 1 0 (length a) ≡ true → checked b ≡ read (length b) t
  walk-accepts same =
      let spelled : b ≡ encode_with (reserved_in b) 0 t = chars-same b (encode_with (reserved_in b) 0 t) (sym walked ∙ same) in
      spells-accepted b t (accepted-spells a bytes_a t q e).1.0 (record { reserved = reserved_in b; bytes = spelled })

-- two accepted descriptors
module _ (a b : List ℕ) (bytes_a : Bytes a) (bytes_b : Bytes b) (qa qb : ℕ) (t u : Tree) (ea : checked a ≡ read qa t) (eb : checked b ≡ read qb u) where
  -- that compare equal have one tree
  one : same_tree t u ≡ true → t ≡ u
  one e =
      let wt = accepted-spells a bytes_a t qa ea in
      let wu = accepted-spells b bytes_b u qb eb in
      same-tree t u false false wt.1.0.formed wu.1.0.formed e

  -- and so one length
  pub differ-long : (length a ≡ length b → ⊥) → same_tree t u ≡ false
  differ-long h =
      bool_same (same_tree t u) false
      (λ e. absurd (h (top-size a qa t ea ∙ ap tree_size (one e) ∙ sym (top-size b qb u eb))))
      (λ e. impossible e)

  -- of one length, the walk decides whether they are equal
  pub same-long : length a ≡ length b → same_within a b 1 0 (length a) ≡ same_tree t u
  same-long long =
      bool_same (same_within a b 1 0 (length a)) (same_tree t u)
      (λ e.
      let eq = walk-accepts a b bytes_a qa t ea long e in
      let same : t ≡ u = cc in
      ap (λ (x : Tree). same_tree t x) (sym same) ∙ same_refl t)
      (λ e.
      walked a b bytes_a qa t ea long
      ∙ ap (λ (x : Tree). same_chars b (encode_with (reserved_in b) 0 x)) (one e)
      ∙ ap (λ (l : List ℕ). same_chars b l) (sym (top-bytes b qb u eb bytes_b))
      ∙ chars-refl b)

-- an accepted descriptor, copied to the front of an output and cleared
module _ (d out : List ℕ) (bytes : Bytes d) (q : ℕ) (t : Tree) (e : checked d ≡ read q t) where
  -- its normal form is as long
  pub normal-length : length (encode t) ≡ length d
  normal-length = tree-length t (λ _. 0) 0 ∙ sym (top-size d q t e)

  -- the output holds the normal form, and keeps what is beyond it
  pub normal-cleared : clear_forest 0 (forest_of (standing_row d 1 0)) (take (length d) d ++ drop (length d) out)
      ≡ encode t ++ drop (length (encode t)) out
  unfolding forest_with forest_of
  normal-cleared =
      let rest : List ℕ = drop (length d) out in
      let spelled : take (length d) d ≡ forest_with (reserved_in d) 0 (cons t nil) =
      take-length d ∙ top-bytes d q t e bytes ∙ sym (append-nil (encode_with (reserved_in d) 0 t)) in
      (λ i. clear_forest 0 (forest_of (top-row d q t e i)) (spelled i ++ rest))
      ∙ clear-forest (reserved_in d) (cons t nil) 0 [] rest refl
      ∙ (λ i. append-nil (encode t) i ++ drop (sym normal-length i) out)

-- an accepted descriptor has its tree
pub accepted_of : (s : List ℕ) → is_read (checked s) ≡ true → Accepted s
unfolding is_read
accepted_of s e = go (checked s) refl e
  where
    go : (o : Outcome Tree) → checked s ≡ o → is_read o ≡ true → Accepted s
    go (refused number place) h e = impossible e
    go (read at t) h e = record { at = at; tree = t; eq = h }
