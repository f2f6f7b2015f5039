-- Document 02, CR 4, "Bytes after the last body are free and a check ignores them": bytes that agree with a book up to the end of its last body are that
-- book, whatever and however many stand after it. The public entries are all four: each opens the book first.
-- Rests on what is opened.
use mathlib.Core.Path.{◌≡◌, sym, ap, ◌∙◌}
use mathlib.Core.List.{List}
use Prim.Native.Nat.{ℕ, ◌≤◌}
use native.Mathlib.Omega.{arith}
use lib.ListN.{length, take, drop}
use lib.Seq.{slice, take-take}
use Rattle.store.specs.Book.{Book, IsBook}
use Rattle.store.specs.Layout.{book_limit, entry_place, contents_end, bodies_end, Laid}
use Rattle.store.specs.Check.{opened}
use Rattle.history.proofs.Opened.{opened-complete}
use Rattle.history.proofs.Bodies.{bodies-after, bodies_kept}

-- the layout s of a book b, and bytes t that are the same up to the end of the last body
module _ (b : Book) (s t : List ℕ) (is : IsBook b) (laid : Laid b s) (size : length t ≤ book_limit) (room : bodies_end b ≤ length t)
    (same : take (bodies_end b) t ≡ take (bodies_end b) s) where
  -- every part before that is the same
  part_same : (p q : ℕ) → q ≤ bodies_end b → slice p q t ≡ slice p q s
  part_same p q h =
      ap (drop p) (sym (take-take q (bodies_end b) t h)) ∙ ap (λ (l : List ℕ). drop p (take q l)) same ∙ ap (drop p) (take-take q (bodies_end b) s h)

  -- so t is a layout of the same book
  pub free-laid : Laid b t
  free-laid =
      let after : contents_end b ≤ bodies_end b = bodies-after s b.blanks (contents_end b) laid.bodies in
      let few : length b.blanks ≤ b.capacity = is.count in
      record {
        size = size;
        room = omega arith;
        capacity = part_same 0 2 (omega arith) ∙ laid.capacity;
        count = part_same 2 4 (omega arith) ∙ laid.count;
        used = part_same 4 (entry_place (length b.blanks)) (omega arith) ∙ laid.used;
        unused = part_same (entry_place (length b.blanks)) (contents_end b) after ∙ laid.unused;
        bodies =
            bodies_kept s t (contents_end b) (bodies_end b) room (λ p q l k h. part_same p q h) b.blanks (contents_end b) (omega arith) (omega arith)
            laid.bodies;
      }

  -- and is opened as it
  pub free-opened : opened t ≡ opened s
  free-opened = opened-complete b t is free-laid ∙ sym (opened-complete b s is laid)
