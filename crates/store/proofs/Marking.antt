-- The marks of identifiers: one that left none is new. Rests on the laws of the search.
use mathlib.Core.Path.{◌≡◌, refl, sym, ap, ◌∙◌}
use mathlib.Core.Bool.{Bool, true, false, not}
use mathlib.Core.List.{List}
use Prim.Native.Nat.{ℕ, ◌+◌, ◌<◌}
use native.Mathlib.Nat.{mod-lt}
use native.Mathlib.Omega.{arith}
use borrow.Author.Count.{below_more}
use borrow.Author.Tests.{eqb-true, eqb-false}
use lib.Dec.{eqb}
use lib.ListN.{length, get_or, set}
use lib.Seq.{get_or-set_same, get_or-set_other}
use Rattle.std.specs.Prelude.{Option, Some, None}
use Rattle.std.specs.Option.{is_some}
use Rattle.store.specs.Book.{is_one_of}
use Rattle.store.specs.inner.Entries.{name_at, Unseen, Sought, seen_before}
use Rattle.store.specs.inner.Marks.{mark_count, mark_of, Marked}
use Rattle.store.proofs.Seeking.{one-there, one_none}

-- no mark, so no entry before
pub unmarked : (s : List ℕ) (i id : ℕ) (marks : List Bool) → Marked s i marks → get_or marks (mark_of id) false ≡ false → Unseen s id i
unmarked s i id marks marked off = record {
  before = λ j h e. absurd (let met = marked.each j h in let same = ap (λ (n : ℕ). get_or marks (mark_of n) false) e in cc);
}

-- an identifier that none has is new
pub new-unseen : (s : List ℕ) (n id : ℕ) → Unseen s id n → true ≡ not (is_one_of id (seen_before s n))
new-unseen s n id unseen = sym (ap not (one_none s id n unseen))

-- the search decides
pub new-sought : (s : List ℕ) (n id : ℕ) (r : Option ℕ) → Sought s n id r → (b : Bool) → is_some r ≡ not b → b ≡ not (is_one_of id (seen_before s n))
new-sought s n id None unseen true e = new-unseen s n id unseen
new-sought s n id None unseen false e = absurd (cc)
new-sought s n id (Some i) found true e = absurd (cc)
new-sought s n id (Some i) found false e = sym (ap not (one-there s id n i found.within found.there))

-- no entry yet
pub marked-none : (s : List ℕ) (marks : List Bool) → Marked s 0 marks
marked-none s marks = record { each = λ j h. absurd (omega arith) }

-- one entry more
pub marked_more : (s : List ℕ) (i : ℕ) (marks : List Bool) → length marks ≡ mark_count → Marked s i marks → (id : ℕ) → id ≡ name_at s i
    → Marked s (i + 1) (set marks (mark_of id) true)
marked_more s i marks long marked id is = record {
  each = below_more (λ j. get_or (set marks (mark_of id) true) (mark_of (name_at s j)) false ≡ true) i
      (λ j h. kept j h (eqb (mark_of (name_at s j)) (mark_of id)) refl) (last (mark_of (name_at s i)) (ap mark_of (sym is)));
}
  where
    last : (m : ℕ) → m ≡ mark_of id → get_or (set marks (mark_of id) true) m false ≡ true
    last m same = rw same (get_or-set_same marks (mark_of id) true false (omega (arith, long, mod-lt id (let some : 0 < 4096 = omega arith in some))))

    kept : (j : ℕ) → j < i → (t : Bool) → eqb (mark_of (name_at s j)) (mark_of id) ≡ t
        → get_or (set marks (mark_of id) true) (mark_of (name_at s j)) false ≡ true
    kept j h true e = last (mark_of (name_at s j)) (eqb-true _ _ e)
    kept j h false e = get_or-set_other marks (mark_of id) (mark_of (name_at s j)) true false (eqb-false _ _ e) ∙ marked.each j h
