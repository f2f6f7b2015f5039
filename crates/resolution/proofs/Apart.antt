-- A descriptor that stands inside accepted bytes is accepted by itself, with the same tree: its bytes are the tree's encoding, whose only
-- places are those of the reserved bytes. Rests on the laws of the encoding.
use mathlib.Core.Path.{◌≡◌, refl, sym, ap, subst, ◌∙◌}
use mathlib.Core.Bool.{false}
use mathlib.Core.List.{List, [], ◌∷◌, ◌++◌}
use Prim.Native.Nat.{ℕ, zero, suc, ◌+◌, ◌-◌, ◌≤◌, ◌<◌}
use native.Mathlib.Omega.{arith}
use lib.ListN.{length, get_or, take, drop}
use lib.Seq.{slice, get_or-drop}
use Rattle.descriptor.specs.Limits.{depth_limit}
use Rattle.descriptor.specs.Header.{reserved_in, size_in}
use Rattle.descriptor.specs.Tree.{Tree, node, Forest, nil, cons, tree_size, inside_at}
use Rattle.descriptor.specs.Encoding.{word, field_bytes, name_bytes, encode_with, forest_with, WellFormed}
use Rattle.descriptor.specs.Outcome.{read}
use Rattle.descriptor.specs.Check.{checked}
use Rattle.descriptor.specs.inner.Standing.{standing}
use Rattle.descriptor.proofs.Bodies.{Seen, seen, header-room}
use Rattle.encoding.proofs.Sound.{Sound, read-sound}
use Rattle.encoding.proofs.Accepted.{spells-accepted}
use Rattle.canonical.specs.Equality.{same_tree, comparison}
use Rattle.canonical.proofs.Lists.{bytes_of, part_slice}
use Rattle.flattened.specs.inner.Types.{type_of, type_at}
use Rattle.members.specs.inner.Members.{Inner}

mutual
  unfolding encode_with

  -- the encoding at a later place, with the reserved bytes told from there on
  shift-tree : (r : ℕ → ℕ) (k : ℕ) (t : Tree) (p q : ℕ) → q ≡ k + p → encode_with r q t ≡ encode_with (λ x. r (k + x)) p t
  shift-tree r k (node c b f m) p q e =
      let inside = shift-forest r k f (inside_at p b) (inside_at q b) (omega arith) in
      λ i. word (tree_size (node c b f m)) ++ (r (e i) ∷ c ∷ (field_bytes b ++ (inside i ++ name_bytes m)))

  -- and of descriptors in a row
  shift-forest : (r : ℕ → ℕ) (k : ℕ) (f : Forest) (p q : ℕ) → q ≡ k + p → forest_with r q f ≡ forest_with (λ x. r (k + x)) p f
  shift-forest r k nil p q e = refl
  shift-forest r k (cons t f) p q e =
      let first = shift-tree r k t p q e in
      let rest = shift-forest r k f (p + tree_size t) (q + tree_size t) (omega arith) in
      λ i. first i ++ rest i

module _ (d : List ℕ) (p : ℕ) (inner : Inner d p) where
  it : Seen d p
  it = seen d p inner.here.is

  abbrev tree : Tree
  tree = node it.code it.fields it.inside it.name

  abbrev end : ℕ
  end = p + size_in d p

  pub apart-within : end ≤ length d
  apart-within = omega (arith, it.opened.size, it.opened.inside)

  type-is : type_at d p ≡ tree
  unfolding type_of
  type-is = ap type_of it.eq

  module _ (bytes : (n : ℕ) → get_or d n 0 < 256) where
    sound : Sound d depth_limit false (length d) p 0 it.end tree
    unfolding standing
    sound = read-sound d (bytes_of d bytes) depth_limit false (length d) p 0 it.end tree (omega arith) it.eq

    -- its tree is well formed
    pub apart-formed : WellFormed false (type_at d p)
    apart-formed = rw type-is sound.formed

    accepted : checked (slice p end d) ≡ read (length (slice p end d)) (type_at d p)
    accepted =
        let ends : end ≡ it.end = omega (arith, it.opened.size) in
        let spells = ap (λ (n : ℕ). slice p n d) ends ∙ sound.bytes ∙ shift-tree (reserved_in d) p tree 0 p (omega arith) in
        spells-accepted (slice p end d) tree
        (record { formed = sound.formed; bytes = omega (arith, sound.size, sound.within, inner.short); rows = omega (arith, sound.rows); depth = sound.depth })
        (record { reserved = λ x. reserved_in d (p + x); bytes = spells })
        ∙ ap (λ (t : Tree). read (length (slice p end d)) t) (sym type-is)

    -- as a part that is lent
    pub apart-accepted : (stop : ℕ) → stop ≡ end → checked (take (stop - p) (drop p d)) ≡ read (length (take (stop - p) (drop p d))) (type_at d p)
    apart-accepted stop e =
        let part : take (stop - p) (drop p d) ≡ slice p end d = part_slice p stop d ∙ ap (λ (n : ℕ). slice p n d) e in
        subst (λ (x : List ℕ). checked x ≡ read (length x) (type_at d p)) (sym part) accepted

-- the bytes of a part are bytes
small_front : (n : ℕ) (l : List ℕ) → ((i : ℕ) → get_or l i 0 < 256) → (k : ℕ) → get_or (take n l) k 0 < 256
small_front zero l bytes k = omega arith
small_front (suc n) [] bytes k = omega arith
small_front (suc n) (x ∷ xs) bytes zero = bytes 0
small_front (suc n) (x ∷ xs) bytes (suc k) = small_front n xs (λ i. bytes (suc i)) k

pub small_part : (d : List ℕ) → ((i : ℕ) → get_or d i 0 < 256) → (p n k : ℕ) → get_or (take n (drop p d)) k 0 < 256
small_part d bytes p n k = small_front n (drop p d) (λ i. rw get_or-drop (bytes (p + i))) k

-- the comparison of two that are accepted
pub accepted-compared : (a b : List ℕ) (i j : ℕ) (t u : Tree) → checked a ≡ read i t → checked b ≡ read j u → (comparison a b).equal ≡ same_tree t u
unfolding comparison
accepted-compared a b i j t u ea eb = rw (ea, eb) refl

-- what equality finds its answers with
pub ruleset apart_laws = (header-room, apart-within, apart-accepted, accepted-compared)
