-- From the steps of the check to its answer: a refusal and its place, or the table of the tree. Rests on `Standing` and `Places`.
use mathlib.Core.Path.{◌≡◌, refl, ap, sym, subst, ◌∙◌}
use mathlib.Core.Bool.{Bool, false}
use mathlib.Core.List.{List, ◌++◌, append-nil}
use Prim.Native.Nat.{ℕ, zero, suc, ◌+◌, ◌-◌, ◌≤◌}
use native.Mathlib.Nat.{sub-zero, zero-sub, suc-sub-suc}
use native.Mathlib.Omega.{arith}
use lib.ListN.{length, replicate, drop, length-replicate}
use lib.Seq.{sets, sets-eq}
use Rattle.std.specs.Prelude.{Ok, Err}
use Rattle.descriptor.specs.Limits.{descriptor_limit, row_limit, depth_limit}
use Rattle.descriptor.specs.Codes.{kind_of, is_array}
use Rattle.descriptor.specs.Tree.{Tree, Forest, nil, cons, child_count, row_count, forest_rows, forest_height}
use Rattle.descriptor.specs.Outcome.{Outcome, refused, read}
use Rattle.descriptor.specs.Stamp.{inside_fits}
use Rattle.descriptor.specs.Check.{fields_at, members_at, name_at, node_at, tree_at, checked}
use Rattle.descriptor.specs.Table.{rows_of, forest_rows_of, zero_row, table_of}
use Rattle.descriptor.specs.Answers.{refusal, accepted, descriptor_check, with_table}
use Rattle.descriptor.specs.inner.Standing.{standing, standing_row, is_read, forest_of}
use Rattle.descriptor.specs.inner.Filling.{zero_rows, empty_table, ahead, TablePre, filled}
use Rattle.descriptor.specs.inner.Steps.{counted}
use Rattle.descriptor.specs.declared.refusal.Refusal.{Refusal}
use Rattle.descriptor.specs.declared.step.Step.{Step}
use Rattle.descriptor.specs.declared.answer.Row.{Row}
use Rattle.descriptor.proofs.Outcomes.{Holds, found, holds_read, holds-require, holds-and_then, holds-self}
use Rattle.descriptor.proofs.Sizes.{header-fits}
use Rattle.descriptor.proofs.Rows.{rows-length}
use Rattle.descriptor.proofs.Standing.{accepted-standing, standing-low}
use Rattle.descriptor.proofs.Steps.{Got, got, lost}
use Rattle.descriptor.proofs.Places.{refused-place}

-- the check of s refused it
module _ (s : List ℕ) (r : Refusal) (e : Err r ≡ counted row_count (checked s)) where
  pub judged-refused : checked s ≡ refused r.number r.place
  judged-refused = lost row_count (λ _. 0) (checked s) r e

  -- at a place that lies in a descriptor
  pub judged-place : r.place ≤ descriptor_limit
  judged-place = refused-place s r.number r.place judged-refused

-- descriptors that are read keep within the rows
members-rows : (f : ℕ → ℕ → Outcome Tree) → ((p n : ℕ) → Holds (λ q t. n + row_count t ≤ row_limit) (f p n)) → (k p n : ℕ) → n ≤ row_limit
    → Holds (λ q ts. n + forest_rows ts ≤ row_limit) (members_at f k p n)
unfolding members_at forest_rows
members-rows f each zero p n h = found (omega arith)
members-rows f each (suc k) p n h =
    holds-and_then (each p n) (λ q t e. holds-and_then (members-rows f each k q (n + row_count t) e) (λ r ts es. found (omega arith)))

tree-rows : (s : List ℕ) (levels : ℕ) (a : Bool) (end p n : ℕ) → Holds (λ q t. n + row_count t ≤ row_limit) (tree_at levels s a end p n)
unfolding tree_at node_at row_count
tree-rows s zero a end p n = holds-and_then (header-fits s zero a end p n) (λ _ h fits. absurd (omega (arith, fits.depth)))
tree-rows s (suc d) a end p n =
    holds-and_then (header-fits s (suc d) a end p n) (λ body h fits.
    holds-and_then (holds-self (fields_at (kind_of h.code) s p body (p + h.size))) (λ at b _.
    holds-and_then
    (members-rows (λ q m. tree_at d s (is_array (kind_of h.code)) (p + h.size) q m) (λ q m. tree-rows s d (is_array (kind_of h.code)) (p + h.size) q m)
    (child_count b) at (n + 1) (omega (arith, fits.rows))) (λ next ts rows.
    holds-require (inside_fits (kind_of h.code) ts) _ _ (λ _.
    holds-and_then (holds-self (name_at s (p + h.size) next)) (λ last name _. found (omega arith))))))

drop-replicate : {A : Type 0} (k n : ℕ) (a : A) → drop k (replicate n a) ≡ replicate (n - k) a
drop-replicate zero n a = ap (λ (j : ℕ). replicate j a) (sym (sub-zero n))
drop-replicate (suc k) zero a = ap (λ (j : ℕ). replicate j a) (sym (zero-sub (suc k)))
drop-replicate (suc k) (suc n) a = drop-replicate k n a ∙ ap (λ (j : ℕ). replicate j a) (sym (suc-sub-suc n k))

-- rows stored from the front of the zero table
stored : (rs : List Row) → length rs ≤ row_limit → sets zero_rows 0 rs ≡ table_of rs
unfolding zero_rows table_of
stored rs h =
    let z : 0 + length rs ≡ length rs = omega arith in
    sets-eq rs (replicate row_limit zero_row) 0 (omega (arith, length-replicate row_limit zero_row))
    ∙ ap (λ (x : List Row). rs ++ x) (ap (λ (j : ℕ). drop j (replicate row_limit zero_row)) z ∙ drop-replicate (length rs) row_limit zero_row)

-- an accepted descriptor, and the table that is filled for it
module _ (s : List ℕ) (q : ℕ) (t : Tree) (e : checked s ≡ read q t) where
  alone : standing_row s 1 0 ≡ read q (cons t nil)
  unfolding standing_row members_at
  alone = rw (accepted-standing s q t e).0

  alone-ahead : ahead s 1 empty_table ≡ cons t nil
  unfolding forest_of
  alone-ahead = ap forest_of alone

  few_rows : row_count t ≤ row_limit
  unfolding standing
  few_rows = let h = holds_read (accepted-standing s q t e).0 (tree-rows s depth_limit false (length s) 0 0) in omega arith

  begun : TablePre s depth_limit 1 empty_table
  unfolding is_read forest_height forest_rows
  begun = record {
    stands = ap is_read alone;
    from = omega arith;
    small = omega (arith, (accepted-standing s q t e).1.1);
    deep = omega arith;
    low = subst (λ (f : Forest). forest_height f ≤ depth_limit) (sym alone-ahead) (omega (arith, standing-low s 0 q t (accepted-standing s q t e).0));
    room = subst (λ (f : Forest). 0 + forest_rows f ≤ row_limit) (sym alone-ahead) (omega (arith, few_rows));
  }

  table-filled : (filled s depth_limit 1 empty_table).rows ≡ table_of (rows_of 0 1 t)
  unfolding filled forest_rows_of
  table-filled =
      ap (λ (f : Forest). sets zero_rows 0 (forest_rows_of 0 1 f)) alone-ahead
      ∙ ap (λ (x : List Row). sets zero_rows 0 x) (append-nil (rows_of 0 1 t))
      ∙ stored (rows_of 0 1 t) (omega (arith, rows-length t 0 1, few_rows))

-- the same by another name of the table
pub few-rows : (s : List ℕ) (q : ℕ) (t : Tree) → checked s ≡ read q t → (rows : List Row) → row_count t ≤ row_limit
few-rows s q t e rows = few_rows s q t e

-- the answer to a check of s, by the step that it came to
module _ (s : List ℕ) (v : Step) (e : Ok v ≡ counted row_count (checked s)) where
  accepted-tree : Got row_count (λ _. 0) (checked s) v
  accepted-tree = got row_count (λ _. 0) (checked s) v e

  pub table_rows : v.value ≤ row_limit
  table_rows = omega (arith, accepted-tree.counts, few_rows s v.next accepted-tree.value accepted-tree.eq)

  pub table_begun : TablePre s depth_limit 1 empty_table
  table_begun = begun s v.next accepted-tree.value accepted-tree.eq

  pub check_accepted : with_table (descriptor_check s) ≡ record { answer = accepted v.value; rows = (filled s depth_limit 1 empty_table).rows }
  unfolding descriptor_check
  check_accepted =
      let tree = accepted-tree in
      rw tree.eq (λ i. record { answer = accepted (sym tree.counts i); rows = sym (table-filled s v.next tree.value tree.eq) i })

pub check_refused : (s : List ℕ) (r : Refusal) → Err r ≡ counted row_count (checked s)
    → with_table (descriptor_check s) ≡ record { answer = refusal r.number 1 r.place; rows = zero_rows }
unfolding descriptor_check zero_rows table_of
check_refused s r e = rw (judged-refused s r e) refl

pub ruleset answered = (judged-place, table_rows, table_begun, check_accepted, check_refused)
