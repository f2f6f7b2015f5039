-- Document 02, CR 4, "Bodies follow the contents .., in the order of entry": where they end, that they stay while their bytes do, one more at the end.
-- The public entries are store_add and store_find. Rests on the rule for gaps.
use mathlib.Core.Path.{◌≡◌, ◌∙◌}
use mathlib.Core.List.{List, [], ◌∷◌, ◌++◌}
use Prim.Native.Nat.{ℕ, ◌≤◌}
use native.Mathlib.Omega.{arith}
use lib.ListN.{length}
use lib.Seq.{slice}
use Rattle.store.specs.Book.{Blank, stop_of}
use Rattle.store.specs.Layout.{Stands, Bodies, end_from}
use Rattle.history.proofs.Rule.{follows-le}

-- the bodies of rs in the bytes s
module _ (s : List ℕ) where
  -- they end after they start
  pub bodies-after : (rs : List Blank) (at : ℕ) → Bodies s at rs → at ≤ end_from at rs
  unfolding Bodies end_from
  bodies-after [] at h = omega arith
  bodies-after (r ∷ rs) at h =
      omega (arith, follows-le at r.start h.0.after, bodies-after rs (stop_of r) h.1)

  -- one body more
  pub bodies-more : (rs : List Blank) (at : ℕ) (r : Blank) → Bodies s at rs → Stands s (end_from at rs) r → Bodies s at (rs ++ (r ∷ []))
  unfolding Bodies end_from
  bodies-more [] at r h x = (x, tt)
  bodies-more (q ∷ rs) at r h x = (h.0, bodies-more rs (stop_of q) r h.1 x)

-- bodies stay where the bytes from `low` to `high` do
pub bodies_kept : (s t : List ℕ) (low high : ℕ) → high ≤ length t
    → ((p q : ℕ) → low ≤ p → p ≤ q → q ≤ high → slice p q t ≡ slice p q s) → (rs : List Blank) (at : ℕ) → low ≤ at → end_from at rs ≤ high
    → Bodies s at rs → Bodies t at rs
unfolding Bodies end_from
bodies_kept s t low high all same [] at l h b = tt
bodies_kept s t low high all same (r ∷ rs) at l h b =
    let start : at ≤ r.start = follows-le at r.start b.0.after in
    let inside : stop_of r ≤ end_from (stop_of r) rs = bodies-after s rs (stop_of r) b.1 in (
      record {
        after = b.0.after;
        room = omega arith;
        body = same r.start (stop_of r) (omega arith) (omega arith) (omega arith) ∙ b.0.body;
      },
      bodies_kept s t low high all same rs (stop_of r) (omega arith) h b.1,
    )
