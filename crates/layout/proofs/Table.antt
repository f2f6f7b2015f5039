-- The rows in use and zeros after them are the whole table. Rests on `Rows`, and on the descriptor's count of rows.
use mathlib.Core.Path.{◌≡◌, refl, ap, sym, ◌∙◌}
use mathlib.Core.List.{List, [], ◌++◌}
use Prim.Native.Nat.{ℕ, ◌-◌, ◌*◌, ◌≤◌}
use native.Mathlib.Omega.{arith}
use lib.ListN.{length, replicate, length-append, length-replicate}
use lib.Seq.{take_at}
use Rattle.descriptor.specs.Limits.{row_limit}
use Rattle.descriptor.specs.Tree.{Tree, row_count}
use Rattle.descriptor.specs.Outcome.{Outcome, refused, read}
use Rattle.descriptor.specs.Check.{checked}
use Rattle.descriptor.specs.Table.{rows_of, zero_row, table_of}
use Rattle.descriptor.specs.Answers.{descriptor_check, with_table}
use Rattle.descriptor.specs.declared.answer.Checked.{Checked}
use Rattle.descriptor.specs.declared.answer.Row.{Row}
use Rattle.descriptor.proofs.Checked.{few-rows}
use Rattle.descriptor.proofs.Rows.{rows-length}
use Rattle.layout.specs.Numbers.{rows_numbers, table_numbers}
use Rattle.layout.specs.inner.Used.{rows_used}
use Rattle.layout.proofs.Rows.{laid, numbers-append, zero-numbers}

-- a table with n rows in use
record Whole (rows : List Row) (n : ℕ) : Type 0 where
  few : n ≤ row_limit
  size : length (table_of rows) ≡ row_limit
  eq : laid (table_of rows) n ≡ table_numbers rows

whole : (rows : List Row) (n : ℕ) → length rows ≡ n → n ≤ row_limit → Whole rows n
unfolding table_of
whole rows n e h =
    let unused = replicate (row_limit - length rows) zero_row in
    let zeros : (row_limit - length rows) * 7 ≡ 1792 - n * 7 = omega arith in
    record {
      few = h;
      size = length-append rows unused ∙ rw length-replicate (omega arith);
      eq =
          ap (λ (rs : List Row). rows_numbers rs ++ replicate (1792 - n * 7) 0) (take_at rows unused n e)
          ∙ ap (λ (k : ℕ). rows_numbers rows ++ replicate k 0) (sym zeros)
          ∙ sym (numbers-append rows unused ∙ ap (λ (l : List ℕ). rows_numbers rows ++ l) (zero-numbers (row_limit - length rows)));
    }

checked-whole : (d : List ℕ) → Whole (descriptor_check d).rows (rows_used (descriptor_check d).answer)
unfolding descriptor_check
checked-whole d = go (checked d) refl
  where
    go : (o : Outcome Tree) → checked d ≡ o → Whole (descriptor_check d).rows (rows_used (descriptor_check d).answer)
    go (refused number place) e = rw e (whole [] 0 refl (omega arith))
    go (read q t) e = rw e (whole (rows_of 0 1 t) (row_count t) (rows-length t 0 1) (few-rows d q t e []))

-- the table of a descriptor check, as it is handed out
module _ (d : List ℕ) (r : Checked) (n : ℕ) where
  pub record Laid : Type 0 where
    pub few : n ≤ row_limit
    pub size : length r.rows ≡ row_limit
    pub eq : laid r.rows n ≡ table_numbers (descriptor_check d).rows

  pub table-laid : r ≡ with_table (descriptor_check d) → n ≡ rows_used r.answer → Laid
  table-laid e u =
      let w = checked-whole d in
      let used : n ≡ rows_used (descriptor_check d).answer = u ∙ ap (λ (x : Checked). rows_used x.answer) e in
      record {
        few = rw used w.few;
        size = ap (λ (x : Checked). length x.rows) e ∙ w.size;
        eq =
            ap (λ (x : Checked). laid x.rows n) e
            ∙ ap (λ (k : ℕ). laid (table_of (descriptor_check d).rows) k) used
            ∙ w.eq;
      }
