-- The member that a reader's member is read from: the search's answer, then the comparison of the types. Rests on the laws of the search.
use mathlib.Core.Path.{◌≡◌, refl, sym, ap, subst, ◌∙◌}
use mathlib.Core.Bool.{Bool, true, false, cond}
use mathlib.Core.List.{List, [], ◌∷◌}
use Prim.Native.Nat.{ℕ, suc, ◌<◌}
use Rattle.std.specs.Prelude.{Option, Some}
use Rattle.descriptor.specs.Outcome.{refused, read, require}
use Rattle.descriptor.specs.Tree.{Name, unnamed, named, Tree, node}
use Rattle.descriptor.specs.inner.Steps.{refusal_at}
use Rattle.descriptor.specs.declared.answer.Row.{Row}
use Rattle.descriptor.specs.declared.refusal.Refusal.{Refusal}
use Rattle.canonical.specs.Equality.{same_tree}
use Rattle.flattened.specs.inner.Types.{type_at}
use Rattle.members.specs.inner.Members.{Inner, Listed, top_at, place_from, type_from, row_from}
use Rattle.members.specs.inner.Names.{name_of, has_chars}
use Rattle.members.specs.inner.Chains.{last_of, member}
use Rattle.members.proofs.Listing.{row-start, member-inner, listed-lie}
use Rattle.resolution.specs.Record.{Member, matches, namesakes, searched, search_number, member_found}
use Rattle.resolution.specs.inner.Data.{data_from, member_from}
use Rattle.resolution.specs.inner.Searching.{all_members, bare, Finds}
use Rattle.resolution.specs.inner.Picking.{Picked, Unpicked}
use Rattle.resolution.specs.declared.Search.{Search}
use Rattle.resolution.specs.declared.Search.TheVariants.{Found}
use Rattle.resolution.proofs.Seeking.{seek-within, sought-alone, sought-some}

-- of a reader's member only the name counts
matches_bare : (x : List ℕ) (t u : Tree) → name_of t ≡ named x → matches t u ≡ matches (bare x) u
unfolding matches name_of
matches_bare x (node c b f m) (node d a g unnamed) e = ap (λ (n : Name). matches (node c b f n) (node d a g unnamed)) e
matches_bare x (node c b f m) (node d a g (named y)) e = ap (λ (n : Name). matches (node c b f n) (node d a g (named y))) e

namesakes-bare : (x : List ℕ) (t : Tree) → name_of t ≡ named x → (ms : List Member) → namesakes t ms ≡ namesakes (bare x) ms
unfolding namesakes
namesakes-bare x t e [] = refl
namesakes-bare x t e (m ∷ ms) =
    let rest = namesakes-bare x t e ms in
    λ i. cond (matches_bare x t m.type e i) (m ∷ rest i) (rest i)

-- what was not found is refused with the search's number
not_found : (j : ℕ) (t : Tree) (found : Search) → ((row : Row) → found ≡ Found row → ⊥) → (ns : List Member) → found ≡ searched ns
    → member_found j t ns ≡ refused (search_number found) j
unfolding member_found searched
not_found j t found never [] e = ap (λ (f : Search). refused (search_number f) j) (sym e)
not_found j t found never (m ∷ []) e = absurd (never m.row e)
not_found j t found never (m ∷ n ∷ ms) e = ap (λ (f : Search). refused (search_number f) j) (sym e)

module _ (w : List ℕ) (k : ℕ) (t : Tree) (j : ℕ) (places names x : List ℕ) (listed : Listed w k places names) (called : name_of t ≡ named x) where
  same : (s : List ℕ) → namesakes t (all_members w k s) ≡ namesakes (bare x) (all_members w k s)
  same s = namesakes-bare x t called (all_members w k s)

  -- none, or several
  pub pick-none : (found : Search) → Finds w k x found → ((row : Row) → found ≡ Found row → ⊥) → (number : ℕ) → number ≡ search_number found
      → Unpicked w k t j (refusal_at number j)
  pick-none found finds never number e = record {
    place = refl;
    is = λ s. rw e (not_found j t found never (namesakes t (all_members w k s)) (finds.eq s ∙ ap searched (sym (same s))));
  }

  -- one, which is member i
  module _ (last : Option ℕ) (whole : last ≡ member (last_of (has_chars x) w names k)) (i : ℕ) (so : last ≡ Some i) (row : Row) (finds : Finds w k x (Found row)) where
    is : Some i ≡ member (last_of (has_chars x) w names k)
    is = sym so ∙ whole

    inside : i < k
    inside = seek-within w k places names x listed i is

    only : (s : List ℕ) → namesakes (bare x) (all_members w k s) ≡ member_from w (top_at w) s i ∷ []
    only s = sought-alone w k places names x listed i is row finds s

    row_is : row ≡ row_from w (top_at w) i
    unfolding searched
    row_is =
        let one : Found row ≡ Found (row_from w (top_at w) i) = finds.eq [] ∙ ap searched (only []) in
        cc

    module _ (p : ℕ) (ep : p ≡ row.start) where
      place_is : p ≡ place_from w (top_at w) i
      place_is = ep ∙ ap (λ (r : Row). r.start) row_is ∙ row-start (place_from w (top_at w) i) (type_from w (top_at w) i)

      pub pick-inner : Inner w p
      pick-inner = subst (λ (q : ℕ). Inner w q) (sym place_is) (member-inner w k (top_at w) listed.members i inside)

      module _ (equal : Bool) (ee : equal ≡ same_tree t (type_at w p)) where
        compared : (s : List ℕ) → member_found j t (namesakes t (all_members w k s))
            ≡ require equal 44 j (read (data_from w (top_at w) s (suc i)) (member_from w (top_at w) s i))
        unfolding member_found
        compared s =
            ap (member_found j t) (same s ∙ only s)
            ∙ ap (λ (b : Bool). require b 44 j (read (data_from w (top_at w) s (suc i)) (member_from w (top_at w) s i)))
            (sym (ee ∙ ap (λ (q : ℕ). same_tree t (type_at w q)) place_is))

        -- of another type
        pub pick-other : equal ≡ false → (r : Refusal) → r ≡ refusal_at 44 j → Unpicked w k t j r
        pick-other e r er = rw er (record {
          place = refl;
          is = λ s. compared s ∙ ap (λ (b : Bool). require b 44 j (read (data_from w (top_at w) s (suc i)) (member_from w (top_at w) s i))) e;
        })

        -- of the same type
        pub pick-same : equal ≡ true → Picked w k t j i
        pick-same e = record {
          within = inside;
          is = λ s. compared s ∙ ap (λ (b : Bool). require b 44 j (read (data_from w (top_at w) s (suc i)) (member_from w (top_at w) s i))) e;
        }

-- what `pick` finds its answers with
pub ruleset pick_laws = (listed-lie, sought-some, pick-inner)
