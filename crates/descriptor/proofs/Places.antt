-- The number of a refusal is one of 1 to 12, never 0, so that 0 means accepted; and its place lies within the bytes: no further than they are
-- long, where they are no longer than is carried.
-- Rests on the definitions of the check and on where its readings end.
use mathlib.Core.Path.{◌≡◌, refl}
use mathlib.Core.Bool.{Bool, true, false, not, ◌&&◌, ◌||◌}
use mathlib.Core.List.{List}
use Prim.Native.Nat.{ℕ, zero, suc, ◌+◌, ◌-◌, ◌*◌, ◌%◌, ◌≤◌, ◌<◌}
use native.Mathlib.Omega.{arith}
use borrow.Author.Tests.{leb-true}
use lib.Dec.{leb, ltb, eqb}
use lib.ListN.{length, get_or}
use Rattle.number.specs.Endian.{be}
use Rattle.descriptor.specs.Limits.{descriptor_limit, row_limit, depth_limit, dimension_limit, pair_limit, count_limit, high_bit}
use Rattle.descriptor.specs.Codes.{Kind, plain, enumeration, quantity, string, array, cluster, stamp, unknown, kind_of, is_carried, is_array, between}
use Rattle.descriptor.specs.Header.{header_size, code_at, body_at, size_in, code_in}
use Rattle.descriptor.specs.Tree.{Fields, empty, items, pairs, text, dimensions, members, subtype, Tree, child_count, fields_size, tree_size, row_count}
use Rattle.descriptor.specs.Stamp.{stamp_subtype, inside_fits}
use Rattle.descriptor.specs.Outcome.{Outcome, refused, require}
use Rattle.descriptor.specs.Check.{size_fits, header_at, count_at, run_at, item_at, items_at, fields_read, judged, base_fits, word_fits, contents_at, fill_at, filled_at, fields_at, members_at, name_at, node_at, tree_at, checked}
use Rattle.descriptor.proofs.Outcomes.{Holds, Refuses, accepted, refusing, refuses-so, refuses-require, refuses-cond, refuses-then, refuses-and, refuses-weaken}
use Rattle.descriptor.proofs.Sizes.{Ends, and-true, read_size, read-ends, header-fits, fields-end, members-end, tree-ends}

-- where the outcome is a refusal, its number is one of 1 to 12 and its place is no further than `most`
abbrev pub Placed : {A : Type 0} → ℕ → Outcome A → Type 0
Placed most o = Refuses (λ number place. (between 1 12 number ≡ true) × (place ≤ most)) o

-- a test that refuses at such a place; what follows may rest on it
placed-test : {A : Type 0} {most : ℕ} (b : Bool) (number place : ℕ) {o : Outcome A} → between 1 12 number ≡ true → place ≤ most → (b ≡ true → Placed most o)
    → Placed most (require b number place o)
placed-test b number place a h f = refuses-require b number place (λ _. (a, h)) f

-- the same where it doesn't
placed-require : {A : Type 0} {most : ℕ} (b : Bool) (number place : ℕ) {o : Outcome A} → between 1 12 number ≡ true → place ≤ most → Placed most o
    → Placed most (require b number place o)
placed-require b number place a h f = placed-test b number place a h (λ _. f)

-- the parts of the descriptor at p
module _ (s : List ℕ) (p stop most : ℕ) (inside : stop ≤ length s) (within : stop ≤ most) (head : body_at p ≤ stop) where
  count-placed : (at n : ℕ) → at ≤ stop → Placed most (count_at s at stop n)
  unfolding count_at
  count-placed at n h = placed-require (leb (at + 2) stop) 8 stop refl within (placed-require (between 1 n (be s at 2)) 9 at refl (omega arith) accepted)

  run-placed : (at n : ℕ) → at ≤ stop → Placed most (run_at s at stop n)
  unfolding run_at
  run-placed at n h = refuses-and (count-placed at n h) (λ next k. placed-require (leb (next + 4 * k) stop) 8 stop refl within accepted)

  items-placed : (k at : ℕ) → Placed most (items_at s stop k at)
  unfolding items_at item_at
  items-placed zero at = accepted
  items-placed (suc k) at =
      refuses-and
      (placed-require (ltb at stop) 8 stop refl within (placed-require (leb (at + 1 + get_or s at 0) stop) 8 stop refl within accepted))
      (λ next x. refuses-and (items-placed k next) (λ last xs. accepted))

  read-placed : (k : Kind) (at : ℕ) → at ≤ stop → Placed most (fields_read k s p at stop)
  unfolding fields_read
  read-placed plain at h = accepted
  read-placed enumeration at h = refuses-and (count-placed at count_limit h) (λ next k. refuses-and (items-placed k next) (λ last xs. accepted))
  read-placed quantity at h = refuses-and (run-placed at pair_limit h) (λ last k. accepted)
  read-placed string at h = placed-require (leb (at + 4) stop) 8 stop refl within accepted
  read-placed array at h = refuses-and (run-placed at dimension_limit h) (λ last k. accepted)
  read-placed cluster at h = refuses-and (count-placed at count_limit h) (λ last k. accepted)
  read-placed stamp at h =
      placed-require (leb (at + 2) stop) 8 stop refl within (placed-require (eqb (be s at 2) stamp_subtype) 5 (code_at p) refl (omega arith) accepted)
  read-placed unknown at h = refusing {place = code_at p} (refl, omega arith)

  judged-placed : (test : ℕ → Bool) (k at : ℕ) → at + 4 * k ≤ most → Placed most (judged test k at)
  unfolding judged
  judged-placed test zero at h = accepted
  judged-placed test (suc k) at h = placed-require (test at) 10 at refl (omega arith) (judged-placed test k (at + 4) (omega arith))

  contents-placed : (at : ℕ) (b : Fields) → at + read_size b ≤ most → Placed most (contents_at s at b)
  unfolding contents_at read_size fields_size
  contents-placed at empty h = accepted
  contents-placed at (items xs) h = accepted
  contents-placed at (pairs ps) h = judged-placed (base_fits s) (length ps) (at + 2) (omega arith)
  contents-placed at text h = judged-placed (word_fits s) 1 at (omega arith)
  contents-placed at (dimensions k) h = judged-placed (word_fits s) k (at + 2) (omega arith)
  contents-placed at (members k) h = accepted
  contents-placed at subtype h = accepted

  filled-placed : (at : ℕ) (b : Fields) → at ≤ most → Placed most (filled_at s p stop at b)
  unfolding filled_at fill_at
  filled-placed at empty h = accepted
  filled-placed at (items xs) h =
      refuses-cond (eqb ((at - p) % 2) 0) (λ _. accepted)
      (λ _. placed-require (ltb at stop) 8 stop refl within (placed-require (eqb (get_or s at 0) 0) 10 at refl h accepted))
  filled-placed at (pairs ps) h = accepted
  filled-placed at text h = accepted
  filled-placed at (dimensions k) h = accepted
  filled-placed at (members k) h = accepted
  filled-placed at subtype h = accepted

  fields-placed : (k : Kind) (at : ℕ) → at ≤ stop → Placed most (fields_at k s p at stop)
  unfolding fields_at
  fields-placed k at h =
      refuses-then (read-ends s p stop inside k at h) (read-placed k at h) (λ next b e.
      refuses-and (contents-placed at b (omega (arith, e.at, e.within))) (λ _ _.
      refuses-and (filled-placed next b (omega (arith, e.within))) (λ last _. accepted)))

  name-placed : (at : ℕ) → at ≤ most → Placed most (name_at s stop at)
  unfolding name_at
  name-placed at h =
      refuses-cond (eqb at stop) (λ _. accepted)
      (λ _. placed-require (eqb (at + 1 + get_or s at 0 + (1 + get_or s at 0) % 2) stop) 11 at refl h
      (placed-require (eqb ((1 + get_or s at 0) % 2) 0 || eqb (get_or s (at + 1 + get_or s at 0) 0) 0) 11 at refl h accepted))

-- a header
header-placed : (s : List ℕ) (levels : ℕ) (a : Bool) (end p n : ℕ) → p ≤ end → Placed end (header_at s levels a end p n)
unfolding header_at
header-placed s levels a end p n h =
    let c : ℕ = code_in s p in
    placed-test (leb header_size (end - p)) 2 p refl h (λ room.
    let least : header_size ≤ end - p = leb-true _ _ room in
    let code : code_at p ≤ end = omega arith in
    placed-require (ltb (size_in s p) high_bit) 3 p refl h
    (placed-require (size_fits (size_in s p) (end - p)) 4 p refl h
    (placed-require (is_carried (kind_of c)) 5 (code_at p) refl code
    (placed-require (ltb 0 levels) 6 p refl h
    (placed-require (ltb n row_limit) 7 p refl h
    (placed-require (not (a && is_array (kind_of c))) 10 (code_at p) refl code accepted))))))

-- descriptors in a row that end within `stop`
members-placed : (stop : ℕ) (f : ℕ → ℕ → Outcome Tree) → ((p n : ℕ) → Holds (λ q t. Ends p stop (tree_size t) q) (f p n))
    → ((p n : ℕ) → p ≤ stop → Placed stop (f p n)) → (k p n : ℕ) → p ≤ stop → Placed stop (members_at f k p n)
unfolding members_at
members-placed stop f ends at zero p n h = accepted
members-placed stop f ends at (suc k) p n h =
    refuses-then (ends p n) (at p n h) (λ q t e. refuses-and (members-placed stop f ends at k q (n + row_count t) e.within) (λ r ts. accepted))

-- no further than more
placed-wider : {A : Type 0} {most more : ℕ} {o : Outcome A} → most ≤ more → Placed most o → Placed more o
placed-wider h k = refuses-weaken k (λ number place e. (e.0, omega (arith, e.1)))

-- a descriptor
tree_placed : (s : List ℕ) (levels : ℕ) (a : Bool) (end p n : ℕ) → end ≤ length s → p ≤ end → Placed end (tree_at levels s a end p n)
unfolding tree_at node_at
tree_placed s zero a end p n inside h =
    refuses-then (header-fits s zero a end p n) (header-placed s zero a end p n h) (λ _ x fits. absurd (omega (arith, fits.depth)))
tree_placed s (suc d) a end p n inside h =
    refuses-then (header-fits s (suc d) a end p n) (header-placed s (suc d) a end p n h) (λ body x fits.
    let stop : ℕ = p + x.size in
    let in_array : Bool = is_array (kind_of x.code) in
    let fit : stop ≤ length s = omega (arith, fits.within) in
    let head : body_at p ≤ stop = omega (arith, fits.least) in
    let start : body ≤ stop = omega (arith, fits.body, fits.least) in
    refuses-then (fields-end s p stop fit (kind_of x.code) body fits.body start)
    (fields-placed s p stop end fit fits.within head (kind_of x.code) body start) (λ at b eb.
    refuses-then
    (members-end stop (λ q m. tree_at d s in_array stop q m) (λ q m. tree-ends s d in_array stop q m fit) (child_count b) at (n + 1) eb.within)
    (placed-wider fits.within
    (members-placed stop (λ q m. tree_at d s in_array stop q m) (λ q m. tree-ends s d in_array stop q m fit)
    (λ q m l. tree_placed s d in_array stop q m fit l) (child_count b) at (n + 1) eb.within)) (λ next ts em.
    placed-require (inside_fits (kind_of x.code) ts) 10 p refl h
    (refuses-and (name-placed s p stop end fit fits.within head next (omega (arith, em.0.within, fits.within))) (λ last m. accepted)))))

-- the whole check
all_placed : (s : List ℕ) → Placed descriptor_limit (checked s)
unfolding checked
all_placed s =
    placed-test (leb (length s) descriptor_limit) 1 0 refl (omega arith) (λ short.
    refuses-then (tree-ends s depth_limit false (length s) 0 0 (omega arith))
    (placed-wider (leb-true _ _ short) (tree_placed s depth_limit false (length s) 0 0 (omega arith) (omega arith))) (λ q t ends.
    placed-require (eqb q (length s)) 12 q refl (omega (arith, ends.within, leb-true)) accepted))

module _ (s : List ℕ) (number place : ℕ) (e : checked s ≡ refused number place) where
  -- a refusal's number is one of 1 to 12
  pub refused-range : between 1 12 number ≡ true
  refused-range = (refuses-so e (all_placed s)).0

  -- so it is above 0
  pub refused-number : 0 < number
  refused-number = leb-true 1 number (and-true (leb 1 number) (leb number 12) refused-range).0

  -- and its place lies in a descriptor
  pub refused-place : place ≤ descriptor_limit
  refused-place = (refuses-so e (all_placed s)).1
