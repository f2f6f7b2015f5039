-- The comparison of accepted bytes with other bytes, part by part as a walk meets them: size, body, the descriptors in it and its name.
-- Rests on the soundness of the check, by which accepted bytes are their tree's encoding.
use mathlib.Core.Path.{◌≡◌, refl, sym, ap, ap₂, ◌∙◌}
use mathlib.Core.Bool.{Bool, true, false, ◌&&◌}
use mathlib.Core.List.{List, ◌∷◌, ◌++◌, append_assoc}
use Prim.Native.Nat.{ℕ, suc, ◌+◌, ◌-◌, ◌<◌, ◌≤◌}
use native.Mathlib.Omega.{arith}
use lib.ListN.{length, get_or}
use lib.Seq.{slice, length-slice}
use Rattle.number.proofs.Writing.{length-be_bytes}
use Rattle.descriptor.specs.Limits.{depth_limit}
use Rattle.descriptor.specs.Header.{reserved_at, code_at, size_in}
use Rattle.descriptor.specs.Tree.{Name, Fields, Tree, node, Forest, nil, child_count, inside_at, tree_size, forest_size}
use Rattle.descriptor.specs.Encoding.{word, field_bytes, name_bytes, encode_with, forest_with, Bytes}
use Rattle.descriptor.specs.Outcome.{read}
use Rattle.descriptor.specs.inner.Standing.{standing, standing_row, next_of, forest_of, inside_of}
use Rattle.descriptor.specs.declared.inside.Inside.{Inside}
use Rattle.descriptor.proofs.Runs.{one_less, none_left}
use Rattle.descriptor.proofs.Standing.{row-none}
use Rattle.encoding.proofs.Slices.{slice-join, slice-split, slice_first, slice-more}
use Rattle.encoding.proofs.Lengths.{fields-length, forest-length, tree-length}
use Rattle.descriptor.specs.Header.{reserved_in}
use Rattle.encoding.proofs.Sound.{read-sound}
use Rattle.canonical.specs.Equality.{same_chars}
use Rattle.canonical.specs.inner.Walk.{same_run, respelled, same_within}
use Rattle.canonical.proofs.Lists.{and_assoc, and_last, same-append, same-cons, bytes_of}
use Rattle.canonical.proofs.Turns.{Turn, Taken, InRow, here, there, row_laws}

-- the parts of a descriptor's bytes that its reserved byte and its inner descriptors have no part in
record Parts (s : List ℕ) (p q c : ℕ) (b : Fields) (f : Forest) (m : Name) : Type 0 where
  size : slice p (reserved_at p) s ≡ word (tree_size (node c b f m))
  code : slice (code_at p) (inside_at p b) s ≡ c ∷ field_bytes b
  name : slice (inside_at p b + forest_size f) q s ≡ name_bytes m

parts : (s : List ℕ) (r : ℕ → ℕ) (p q c : ℕ) (b : Fields) (f : Forest) (m : Name) → q ≡ p + tree_size (node c b f m) → q ≤ length s
    → slice p q s ≡ encode_with r p (node c b f m) → Parts s p q c b f m
unfolding encode_with tree_size
parts s r p q c b f m ends inside e =
    let at : ℕ = inside_at p b in
    let inner : List ℕ = forest_with r at f in
    let size = slice-split (word (tree_size (node c b f m))) (r p ∷ c ∷ (field_bytes b ++ (inner ++ name_bytes m))) p (reserved_at p) q s
    (omega (arith, length-be_bytes 2 (tree_size (node c b f m)))) (omega arith) inside e in
    let reserved = slice_first (r p) (c ∷ (field_bytes b ++ (inner ++ name_bytes m))) (reserved_at p) (code_at p) q s 0 (omega arith) (omega arith) inside size.1 in
    let code = slice-split (c ∷ field_bytes b) (inner ++ name_bytes m) (code_at p) at q s (omega (arith, fields-length b)) (omega arith) inside reserved.1 in
    let name = slice-split inner (name_bytes m) at (at + forest_size f) q s (omega (arith, forest-length f r at)) (omega arith) inside code.1 in
    record { size = size.0; code = code.0; name = name.1 }

-- two lists against two lists, part by part
same_parts : (x u y v z w : List ℕ) → z ≡ x ++ y → w ≡ u ++ v → length x ≡ length u → same_chars z w ≡ (same_chars x u && same_chars y v)
same_parts x u y v z w ez ew h = ap₂ same_chars ez ew ∙ same-append x u y v h

-- with no descriptors to come, the bytes that are left decide
pub same_none : (a b : List ℕ) (p stop : ℕ) → same_run a b p stop ≡ same_within a b 0 p stop
unfolding same_run same_within respelled forest_with next_of forest_of
same_none a b p stop = (λ i. same_chars (slice p stop b) (forest_with (reserved_in b) p (forest_of (row i)) ++ slice (next_of (row i)) stop a))
  where
    row : read p nil ≡ standing_row a 0 p
    row = sym (row-none a p)

-- the same where the descriptor just read has none in it
pub same-childless : (a b : List ℕ) (k p stop : ℕ) → k ≡ 0 → same_run a b p stop ≡ same_within a b k p stop
same-childless a b k p stop e = same_none a b p stop ∙ ap (λ (n : ℕ). same_within a b n p stop) (sym e)

module _ (a b : List ℕ) (bytes : Bytes a) (long : length a ≤ length b) where
  -- b's reserved byte of the descriptor at p
  abbrev rb : ℕ → ℕ
  rb p = reserved_in b p

  -- the descriptor at p, which ends at q
  node-same : (p q c : ℕ) (fs : Fields) (f : Forest) (m : Name) → q ≡ p + tree_size (node c fs f m) → q ≤ length a
      → slice p q a ≡ encode_with (reserved_in a) p (node c fs f m)
      → same_chars (slice p q b) (encode_with rb p (node c fs f m)) ≡ (same_run a b p (reserved_at p) && (same_run a b (code_at p) (inside_at p fs)
      && same_chars (slice (inside_at p fs) q b)
      (forest_with rb (inside_at p fs) f ++ slice (inside_at p fs + forest_size f) q a)))
  unfolding encode_with tree_size same_run
  node-same p q c fs f m ends inside e =
      let ps = parts a (reserved_in a) p q c fs f m ends inside e in
      let at : ℕ = inside_at p fs in
      let third : reserved_at p + 1 ≡ code_at p = omega arith in
      let after : List ℕ = forest_with rb at f ++ name_bytes m in
      let reserved : slice (reserved_at p) q b ≡ rb p ∷ slice (code_at p) q b =
      slice-more (reserved_at p) q b 0 (omega arith) (omega arith) ∙ ap (λ (k : ℕ). rb p ∷ slice k q b) third in
      let whole : slice p q b ≡ slice p (reserved_at p) b ++ (rb p ∷ slice (code_at p) q b) =
      sym (slice-join p (reserved_at p) q b (omega arith) (omega arith)) ∙ ap (λ (l : List ℕ). slice p (reserved_at p) b ++ l) reserved in
      let body : slice (code_at p) q b ≡ slice (code_at p) at b ++ slice at q b = sym (slice-join (code_at p) at q b (omega arith) (omega arith)) in
      same_parts (slice p (reserved_at p) b) (word (tree_size (node c fs f m))) (rb p ∷ slice (code_at p) q b) (rb p ∷ c ∷ (field_bytes fs ++ after)) (slice p q b)
      (encode_with rb p (node c fs f m)) whole refl
      (omega (arith, length-slice p (reserved_at p) b (omega arith), length-be_bytes 2 (tree_size (node c fs f m))))
      ∙ ap₂ (λ (x : List ℕ) (t : Bool). same_chars (slice p (reserved_at p) b) x && t) (sym ps.size)
      (same-cons (rb p) (slice (code_at p) q b) (c ∷ (field_bytes fs ++ after))
      ∙ same_parts (slice (code_at p) at b) (c ∷ field_bytes fs) (slice at q b) after (slice (code_at p) q b) (c ∷ (field_bytes fs ++ after)) body refl
      (omega (arith, length-slice (code_at p) at b (omega arith), fields-length fs))
      ∙ ap₂ (λ (x y : List ℕ). same_chars (slice (code_at p) at b) x && same_chars (slice at q b) (forest_with rb at f ++ y)) (sym ps.code) (sym ps.name))

  -- one turn of the walk: the first of descriptors in a row, those in it, its name; then the others
  module _ (j p stop levels : ℕ) (turn : Turn a j p stop levels) where
    turn-same : same_within a b (suc j) p stop ≡ (same_run a b p (reserved_at p) && (same_run a b (code_at p) (inside_at p turn.body)
        && (same_within a b (child_count turn.body) (inside_at p turn.body) (p + size_in a p) && same_within a b j (p + size_in a p) stop)))
    unfolding same_within respelled standing forest_with next_of forest_of
    turn-same =
        let c = turn.code in
        let fs = turn.body in
        let f = turn.inner in
        let m = turn.name in
        let t : Tree = node c fs f m in
        let q : ℕ = p + size_in a p in
        let at : ℕ = inside_at p fs in
        let ends : q ≡ p + tree_size t = omega (arith, turn.size) in
        let rest = turn.rest in
        let into : q ≤ length a = omega (arith, rest.from, rest.inside) in
        let sound = read-sound a bytes depth_limit false (length a) p 0 q t (omega arith) turn.first in
        let tail : List ℕ = slice (next_of (standing_row a j q)) stop a in
        let row : respelled a b (suc j) p stop ≡ encode_with rb p t ++ respelled a b j q stop =
        (λ i. forest_with rb p (turn.row i) ++ slice (turn.last i) stop a)
        ∙ append_assoc (encode_with rb p t) (forest_with rb (p + tree_size t) turn.others) tail
        ∙ (λ i. encode_with rb p t ++ (forest_with rb (sym ends i) (sym turn.follow i) ++ tail)) in
        let inner : same_chars (slice at q b) (forest_with rb at f ++ slice (at + forest_size f) q a) ≡ same_within a b (child_count fs) at q =
        (λ i. same_chars (slice at q b) (forest_with rb at (forest_of (sym turn.held i)) ++ slice (next_of (sym turn.held i)) q a)) in
        let size = same_run a b p (reserved_at p) in
        let body = same_run a b (code_at p) at in
        same_parts (slice p q b) (encode_with rb p t) (slice q stop b) (respelled a b j q stop) (slice p stop b) (respelled a b (suc j) p stop)
        (sym (slice-join p q stop b (omega arith) rest.from)) row
        (omega (arith, length-slice p q b (omega arith), tree-length t rb p))
        ∙ ap (λ (x : Bool). x && same_within a b j q stop)
        (node-same p q c fs f m ends into sound.bytes ∙ ap (λ (x : Bool). size && (body && x)) inner)
        ∙ and_assoc size (body && same_within a b (child_count fs) at q) (same_within a b j q stop)
        ∙ ap (λ (x : Bool). size && x) (and_assoc body (same_within a b (child_count fs) at q) (same_within a b j q stop))

    -- where the sizes differ
    pub size-stop : same_run a b p (reserved_at p) ≡ false → same_within a b (suc j) p stop ≡ false
    size-stop differ = rw (turn-same, differ)

    -- where the others differ
    pub others-stop : same_within a b j (p + size_in a p) stop ≡ false → same_within a b (suc j) p stop ≡ false
    others-stop differ =
        rw (turn-same, differ)
        (and_last (same_run a b p (reserved_at p)) (same_run a b (code_at p) (inside_at p turn.body))
        (same_within a b (child_count turn.body) (inside_at p turn.body) (p + size_in a p)))

  -- the same by what the code has read, the sizes being the same
  module _ (j p stop levels size : ℕ) (f : Inside) (k : Taken a j p stop levels size f) (sized : same_run a b p (reserved_at p) ≡ true) where
    -- the first byte after the fields
    abbrev next : ℕ
    next = inside_at p k.turn.body

    taken-same : same_within a b (suc j) p stop
        ≡ (same_run a b (code_at p) next && (same_within a b f.children next (p + size) && same_within a b j (p + size) stop))
    taken-same =
        turn-same j p stop levels k.turn
        ∙ (λ i.
        sized i && (same_run a b (code_at p) next
        && (same_within a b (sym k.children i) next (p + sym k.sized i) && same_within a b j (p + sym k.sized i) stop)))

    -- a descriptor with none in it: the rest of its bytes is one run
    leaf-same : f.children ≡ 0 → same_within a b (suc j) p stop ≡ (same_run a b (code_at p) (p + size) && same_within a b j (p + size) stop)
    unfolding same_run
    leaf-same none =
        let order = k.order in
        let end : p + size ≤ length a = omega (arith, k.fits, k.rest.inside) in
        let join : same_run a b (code_at p) (p + size) ≡ (same_run a b (code_at p) next && same_run a b next (p + size)) =
        same_parts (slice (code_at p) next b) (slice (code_at p) next a) (slice next (p + size) b) (slice next (p + size) a) (slice (code_at p) (p + size) b)
        (slice (code_at p) (p + size) a) (sym (slice-join (code_at p) next (p + size) b (omega arith) order))
        (sym (slice-join (code_at p) next (p + size) a (omega arith) order))
        (omega (arith, length-slice (code_at p) next b (omega arith), length-slice (code_at p) next a (omega arith))) in
        taken-same
        ∙ (λ i. same_run a b (code_at p) next && (sym (same-childless a b f.children next (p + size) none) i && same_within a b j (p + size) stop))
        ∙ sym (and_assoc (same_run a b (code_at p) next) (same_run a b next (p + size)) (same_within a b j (p + size) stop))
        ∙ ap (λ (x : Bool). x && same_within a b j (p + size) stop) (sym join)

    module _ (none : f.children ≡ 0) where
      pub leaf-stop : same_run a b (code_at p) (p + size) ≡ false → same_within a b (suc j) p stop ≡ false
      leaf-stop differ = rw (leaf-same none, differ)

      pub leaf-on : same_run a b (code_at p) (p + size) ≡ true → same_within a b (suc j) p stop ≡ same_within a b j (p + size) stop
      leaf-on same = rw (leaf-same none, same)

    -- a descriptor with some in it
    module _ (some : 0 < f.children) where
      parent-same : same_within a b (suc j) p stop
          ≡ (same_run a b (code_at p) f.at && (same_within a b f.children f.at (p + size) && same_within a b j (p + size) stop))
      parent-same =
          let at = sym (k.at some) in
          taken-same ∙ (λ i. same_run a b (code_at p) (at i) && (same_within a b f.children (at i) (p + size) && same_within a b j (p + size) stop))

      -- where the code or the fields differ
      pub body-stop : same_run a b (code_at p) f.at ≡ false → same_within a b (suc j) p stop ≡ false
      body-stop differ = rw (parent-same, differ)

      -- where what follows the fields differs
      pub inner-stop : same_run a b (code_at p) f.at ≡ true → same_within a b f.children f.at (p + size) ≡ false
          → same_within a b (suc j) p stop ≡ false
      inner-stop same differ = parent-same ∙ (λ i. same i && (differ i && same_within a b j (p + size) stop))

      -- and where nothing does, the others decide
      pub inner-on : same_run a b (code_at p) f.at ≡ true → same_within a b f.children f.at (p + size) ≡ true
          → same_within a b (suc j) p stop ≡ same_within a b j (p + size) stop
      inner-on same inner = parent-same ∙ (λ i. same i && (inner i && same_within a b j (p + size) stop))

-- The comparison of k descriptors in a row, i of them having gone before, by what the code has in hand of the next one.
module _ (a b : List ℕ) (k i p stop : ℕ) where
  abbrev pub same_from : Bool
  same_from = same_within a b (k - i) p stop

  -- none is to come
  pub same_end : k ≤ i → same_run a b p stop ≡ same_from
  same_end done = same_none a b p stop ∙ sym (none_left (λ n. same_within a b n p stop) k i done)

module _ (a b : List ℕ) (bytes : (n : ℕ) → get_or a n 0 < 256) (long : length a ≤ length b) (k i p stop levels : ℕ) (row : InRow a (k - i) p stop levels) (more : i < k) where
  next-of : {x : Bool} → same_within a b (suc (k - (i + 1))) p stop ≡ x → same_from a b k i p stop ≡ x
  next-of e = one_less (λ n. same_within a b n p stop) k i more ∙ e

  abbrev parts-of : Taken a (k - (i + 1)) p stop levels (size_in a p) (inside_of a p)
  parts-of = there a k i p stop levels row more

  pub size_no : same_run a b p (reserved_at p) ≡ false → same_from a b k i p stop ≡ false
  size_no e = next-of (size-stop a b (bytes_of a bytes) long (k - (i + 1)) p stop levels (here a k i p stop levels row more) e)

  module _ (sized : same_run a b p (reserved_at p) ≡ true) where
    -- one with none in it
    module _ (none : (inside_of a p).children ≡ 0) where
      pub leaf_no : same_run a b (code_at p) (p + size_in a p) ≡ false → same_from a b k i p stop ≡ false
      leaf_no e = next-of (leaf-stop a b (bytes_of a bytes) long (k - (i + 1)) p stop levels (size_in a p) (inside_of a p) parts-of sized none e)

      pub leaf_on : same_run a b (code_at p) (p + size_in a p) ≡ true → same_from a b k i p stop ≡ same_from a b k (i + 1) (p + size_in a p) stop
      leaf_on e = next-of (leaf-on a b (bytes_of a bytes) long (k - (i + 1)) p stop levels (size_in a p) (inside_of a p) parts-of sized none e)

    -- one with some in it
    module _ (some : 0 < (inside_of a p).children) where
      pub body_no : same_run a b (code_at p) (inside_of a p).at ≡ false → same_from a b k i p stop ≡ false
      body_no e = next-of (body-stop a b (bytes_of a bytes) long (k - (i + 1)) p stop levels (size_in a p) (inside_of a p) parts-of sized some e)

      module _ (same : same_run a b (code_at p) (inside_of a p).at ≡ true) where
        pub inner_no : same_within a b (inside_of a p).children (inside_of a p).at (p + size_in a p) ≡ false → same_from a b k i p stop ≡ false
        inner_no e = next-of (inner-stop a b (bytes_of a bytes) long (k - (i + 1)) p stop levels (size_in a p) (inside_of a p) parts-of sized some same e)

        pub inner_on : same_within a b (inside_of a p).children (inside_of a p).at (p + size_in a p) ≡ true
            → same_from a b k i p stop ≡ same_from a b k (i + 1) (p + size_in a p) stop
        inner_on e = next-of (inner-on a b (bytes_of a bytes) long (k - (i + 1)) p stop levels (size_in a p) (inside_of a p) parts-of sized some same e)

pub ruleset same_laws = (row_laws, same_end, size_no, leaf_no, leaf_on, body_no, inner_no, inner_on)
