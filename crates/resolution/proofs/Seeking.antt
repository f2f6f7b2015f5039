-- The search for a name, by the last member that has it and the last before that. Rests on the laws of a member's name and of chains.
use mathlib.Core.Path.{◌≡◌, refl, sym, ap, ◌∙◌}
use mathlib.Core.Bool.{Bool, true, false, cond}
use mathlib.Core.List.{List, [], ◌∷◌, ◌++◌}
use Prim.Native.Nat.{ℕ, zero, suc, ◌+◌, ◌≤◌, ◌<◌}
use native.Mathlib.Omega.{arith}
use Rattle.std.specs.Prelude.{Option, None, Some, is_some}
use lib.ListN.{get_or}
use Rattle.descriptor.specs.Tree.{unnamed, named, Tree, node}
use Rattle.descriptor.specs.declared.answer.Row.{Row}
use Rattle.descriptor.proofs.Steps.{impossible}
use Rattle.members.specs.inner.Members.{Listed, top_at, type_from, row_from}
use Rattle.members.specs.inner.Names.{name_of, named_at, has_chars}
use Rattle.members.specs.inner.Chains.{mark_of, last_of, member, Linked, Chained, Marked}
use Rattle.members.proofs.Listing.{member-name, listed-lie}
use Rattle.members.proofs.Chaining.{same-mark, last-most, last-is, Follows, follows-head, follows-link, entry-is}
use Rattle.resolution.specs.Record.{Member, matches, namesakes, searched}
use Rattle.resolution.specs.inner.Data.{member_from, members_for}
use Rattle.resolution.specs.inner.Searching.{all_members, bare, Finds}
use Rattle.resolution.specs.declared.Search.TheVariants.{Missing, Doubled, Found}

-- a member of the name x
bare-matches : (x : List ℕ) (u : Tree) → matches (bare x) u ≡ has_chars x (name_of u)
unfolding matches has_chars name_of
bare-matches x (node c b f unnamed) = refl
bare-matches x (node c b f (named y)) = refl

-- where one member is found and stands at the end, no other stands before it
one_found : (ms : List Member) (a : Member) (row : Row) → searched (ms ++ (a ∷ [])) ≡ Found row → ms ++ (a ∷ []) ≡ a ∷ []
unfolding searched
one_found [] a row e = refl
one_found (m ∷ []) a row e = absurd (cc)
one_found (m ∷ n ∷ ms) a row e = absurd (cc)

-- two members at the end are two at least
two-found : (ms : List Member) (a b : Member) → searched ((ms ++ (a ∷ [])) ++ (b ∷ [])) ≡ Doubled
unfolding searched
two-found [] a b = refl
two-found (m ∷ []) a b = refl
two-found (m ∷ n ∷ ms) a b = refl

-- the namesakes of two lists of members
namesakes-append : (t : Tree) (ms ns : List Member) → namesakes t (ms ++ ns) ≡ namesakes t ms ++ namesakes t ns
unfolding namesakes
namesakes-append t [] ns = refl
namesakes-append t (m ∷ ms) ns = go (matches t m.type) (namesakes-append t ms ns)
  where
    go : (b : Bool) → namesakes t (ms ++ ns) ≡ namesakes t ms ++ namesakes t ns
        → cond b (m ∷ namesakes t (ms ++ ns)) (namesakes t (ms ++ ns)) ≡ cond b (m ∷ namesakes t ms) (namesakes t ms) ++ namesakes t ns
    go true rest = ap (λ (l : List Member). m ∷ l) rest
    go false rest = rest

-- nothing after a list
append-none : (ms : List Member) → ms ++ [] ≡ ms
append-none [] = refl
append-none (m ∷ ms) = ap (λ (l : List Member). m ∷ l) (append-none ms)

-- one more member, at the end
members-more : (w : List ℕ) (p : ℕ) (s : List ℕ) (i n : ℕ) → members_for w p s i (suc n) ≡ members_for w p s i n ++ (member_from w p s (i + n) ∷ [])
unfolding members_for
members-more w p s i zero = ap (λ (j : ℕ). member_from w p s j ∷ []) (let z : i ≡ i + 0 = omega arith in z)
members-more w p s i (suc n) =
    ap (λ (l : List Member). member_from w p s i ∷ l)
    (members-more w p s (suc i) n
    ∙ ap (λ (j : ℕ). members_for w p s (suc i) n ++ (member_from w p s j ∷ [])) (let z : suc i + n ≡ i + suc n = omega arith in z))

-- the search for the name x starts at the head of its mark, and finds the last of all
module _ (w : List ℕ) (k : ℕ) (names x heads links : List ℕ) (chained : Chained w names k heads links) (m : ℕ) (em : m ≡ mark_of x) (small : m < 256) where
  seek-head : Follows w names k k x (get_or heads m 0)
  seek-head = follows-head w names k x heads links chained m em small _ refl

  pub seek-marked : Marked w names k (mark_of x) (get_or heads m 0)
  seek-marked = seek-head.here

  pub seek-last : member (last_of (has_chars x) w names (get_or heads m 0)) ≡ member (last_of (has_chars x) w names k)
  seek-last = ap member (sym seek-head.same)

module _ (w : List ℕ) (k : ℕ) (places names x : List ℕ) (listed : Listed w k places names) where
  module _ (s : List ℕ) where
    -- the namesakes among the first n members
    abbrev up_to : ℕ → List Member
    up_to n = namesakes (bare x) (members_for w (top_at w) s 0 n)

    -- those up to the last of them
    abbrev up_to_last : Option ℕ → List Member
    up_to_last None = []
    up_to_last (Some i) = up_to i ++ (member_from w (top_at w) s i ∷ [])

    one_more : (i : ℕ) → i < k → up_to (suc i) ≡ cond (has_chars x (named_at w (get_or names i 0))) (up_to_last (Some i)) (up_to i)
    unfolding namesakes
    one_more i more =
        let here : matches (bare x) (type_from w (top_at w) i) ≡ has_chars x (named_at w (get_or names i 0)) =
        bare-matches x (type_from w (top_at w) i)
        ∙ sym (ap (has_chars x) (ap (named_at w) (listed.naming.at i more) ∙ member-name w k (top_at w) listed.members i more)) in
        ap (namesakes (bare x)) (members-more w (top_at w) s 0 i ∙ ap (λ (j : ℕ). members_for w (top_at w) s 0 i ++ (member_from w (top_at w) s j ∷ [])) (let z : 0 + i ≡ i = omega arith in z))
        ∙ namesakes-append (bare x) (members_for w (top_at w) s 0 i) (member_from w (top_at w) s i ∷ [])
        ∙ ap (λ (b : Bool). up_to i ++ cond b (member_from w (top_at w) s i ∷ []) []) here
        ∙ go (has_chars x (named_at w (get_or names i 0)))
      where
        go : (b : Bool) → up_to i ++ cond b (member_from w (top_at w) s i ∷ []) [] ≡ cond b (up_to_last (Some i)) (up_to i)
        go true = refl
        go false = append-none (up_to i)

    up-to-last : (n : ℕ) → n ≤ k → up_to n ≡ up_to_last (member (last_of (has_chars x) w names n))
    unfolding last_of members_for namesakes
    up-to-last zero h = refl
    up-to-last (suc i) h = one_more i (omega arith) ∙ go (has_chars x (named_at w (get_or names i 0))) (up-to-last i (omega arith))
      where
        go : (b : Bool) → up_to i ≡ up_to_last (member (last_of (has_chars x) w names i))
            → cond b (up_to_last (Some i)) (up_to i) ≡ up_to_last (member (cond b (suc i) (last_of (has_chars x) w names i)))
        go true before = refl
        go false before = before

    -- before one more member: one at least, or none
    two_last : (o : Option ℕ) (m : Member) → is_some o ≡ true → searched (up_to_last o ++ (m ∷ [])) ≡ Doubled
    two_last None m h = impossible h
    two_last (Some i) m h = two-found (up_to i) (member_from w (top_at w) s i) m

    none-last : (o : Option ℕ) → is_some o ≡ false → up_to_last o ≡ []
    none-last None h = refl
    none-last (Some i) h = impossible (sym h)

  -- no member has the name
  pub seek-missing : None ≡ member (last_of (has_chars x) w names k) → Finds w k x Missing
  unfolding searched
  seek-missing none = record { eq = λ s. sym (ap searched (up-to-last s k (omega arith) ∙ ap (up_to_last s) (sym none))) }

  -- member i is the last that has it
  module _ (i : ℕ) (is : Some i ≡ member (last_of (has_chars x) w names k)) where
    pub seek-within : i < k
    seek-within = omega (arith, entry-is _ i (sym is), last-most w names (has_chars x) k)

    up-to-it : (s : List ℕ) → namesakes (bare x) (all_members w k s) ≡ up_to s i ++ (member_from w (top_at w) s i ∷ [])
    up-to-it s = up-to-last s k (omega arith) ∙ ap (up_to_last s) (sym is)

    -- goes on before it
    module _ (links : List ℕ) (linked : Linked w names k links) where
      seek-link : Follows w names k i x (get_or links i 0)
      seek-link = follows-link w names k x links linked i seek-within (same-mark x _ (last-is w names (has_chars x) k i (sym is))) _ refl

      pub seek-before : Marked w names k (mark_of x) (get_or links i 0)
      seek-before = seek-link.here

      -- and finds another, or not
      module _ (more : Bool) (em : more ≡ is_some (member (last_of (has_chars x) w names (get_or links i 0)))) where
        abbrev before : Option ℕ
        before = member (last_of (has_chars x) w names (get_or links i 0))

        others : (s : List ℕ) → up_to s i ≡ up_to_last s before
        others s = up-to-last s i (omega (arith, seek-within)) ∙ ap (λ (n : ℕ). up_to_last s (member n)) seek-link.same

        pub seek-doubled : more ≡ true → Finds w k x Doubled
        seek-doubled found = record {
          eq = λ s.
              sym (ap searched (up-to-it s ∙ ap (λ (l : List Member). l ++ (member_from w (top_at w) s i ∷ [])) (others s))
              ∙ two_last s before (member_from w (top_at w) s i) (sym em ∙ found));
        }

        pub seek-found : more ≡ false → (row : Row) → row ≡ row_from w (top_at w) i → Finds w k x (Found row)
        unfolding searched
        seek-found alone row er =
            let it : (s : List ℕ) → namesakes (bare x) (all_members w k s) ≡ member_from w (top_at w) s i ∷ [] =
            λ s. up-to-it s ∙ ap (λ (l : List Member). l ++ (member_from w (top_at w) s i ∷ [])) (others s ∙ none-last s before (sym em ∙ alone)) in
            record { eq = λ s. ap Found er ∙ sym (ap searched (it s)) }

    -- and where a member was found, it is the only one
    pub sought-alone : (row : Row) → Finds w k x (Found row) → (s : List ℕ) → namesakes (bare x) (all_members w k s) ≡ member_from w (top_at w) s i ∷ []
    sought-alone row finds s = up-to-it s ∙ one_found (up_to s i) _ row (ap searched (sym (up-to-it s)) ∙ sym (finds.eq s))

  -- where a member was found, there is a last one
  pub sought-some : (last : Option ℕ) → last ≡ member (last_of (has_chars x) w names k) → (row : Row) → Finds w k x (Found row) → is_some last ≡ true
  unfolding searched
  sought-some (Some i) whole row finds = refl
  sought-some None whole row finds =
      let none : Found row ≡ Missing = finds.eq [] ∙ ap searched (up-to-last [] k (omega arith) ∙ ap (up_to_last []) (sym whole)) in
      absurd (cc)

-- what the search finds its answers with
pub ruleset search_laws = (listed-lie, seek-marked, seek-last, seek-missing, seek-within, seek-before, seek-doubled, seek-found)
