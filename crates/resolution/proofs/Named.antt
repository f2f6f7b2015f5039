-- The names of the reader's members, and which of them are at fault. Rests on members' laws of names and their marks.
use mathlib.Core.Path.{◌≡◌, refl, sym, ap, ◌∙◌}
use mathlib.Core.Bool.{Bool, true, false, not, cond}
use mathlib.Core.List.{List, [], ◌∷◌}
use Prim.Native.Nat.{ℕ, zero, suc, ◌+◌, ◌-◌, ◌<◌}
use native.Mathlib.Nat.{sub-zero}
use native.Mathlib.Numerals.{add-one}
use native.Mathlib.Omega.{arith}
use Rattle.std.specs.Prelude.{Result, Ok, Err, is_some}
use Rattle.std.proofs.Common.{below_more}
use borrow.Author.Tests.{eq-eqb, eqb-true, eqb-false}
use lib.ListN.{length, get_or}
use Rattle.descriptor.specs.Limits.{depth_limit}
use Rattle.descriptor.specs.Outcome.{refused, require}
use Rattle.descriptor.specs.Tree.{Name, unnamed, named, Tree, node, Forest, cons}
use Rattle.descriptor.specs.inner.Steps.{refusal_at}
use Rattle.descriptor.specs.declared.refusal.Refusal.{Refusal}
use Rattle.flattened.specs.inner.Types.{types_at}
use Rattle.canonical.specs.Equality.{same_chars}
use Rattle.members.specs.inner.Members.{Listed, top_at, place_from, type_from}
use Rattle.members.specs.inner.Names.{name_of, chars_at, named_at, has_chars}
use Rattle.members.specs.inner.Chains.{mark_of, has_mark, last_of, member, Linked, Marked}
use Rattle.members.proofs.InRow.{no-types, types-at}
use Rattle.members.proofs.Single.{named-at}
use Rattle.members.proofs.Listing.{member-name}
use Rattle.members.proofs.Chaining.{Follows, follows-link, fresh-chains, chained-of}
use Rattle.resolution.specs.Record.{is_among, reader_names}
use Rattle.resolution.specs.inner.Data.{passed}
use Rattle.resolution.specs.inner.Names.{Naming, seen_names}

-- a name is among those before where one of the members before has it
among-last : (d names x : List ℕ) (j : ℕ) → ((i : ℕ) → i < j → 0 < get_or names i 0)
    → is_some (member (last_of (has_chars x) d names j)) ≡ is_among x (seen_names d names j)
unfolding is_among seen_names last_of has_chars
among-last d names x zero some = refl
among-last d names x (suc i) some =
    ap (λ (m : Name). is_some (member (cond (has_chars x m) (suc i) (last_of (has_chars x) d names i)))) (named-at d (get_or names i 0) (some i (omega arith)))
    ∙ go (same_chars x (chars_at d (get_or names i 0))) (among-last d names x i (λ n h. some n (omega arith)))
  where
    go : (b : Bool) → is_some (member (last_of (has_chars x) d names i)) ≡ is_among x (seen_names d names i)
        → is_some (member (cond b (suc i) (last_of (has_chars x) d names i))) ≡ cond b true (is_among x (seen_names d names i))
    go true before = refl
    go false before = before

-- a reader's member, by its name
module _ (seen : List (List ℕ)) (j : ℕ) where
  reader-unnamed : (t : Tree) (g : Forest) → name_of t ≡ unnamed → reader_names seen j (cons t g) ≡ refused 40 j
  unfolding reader_names name_of
  reader-unnamed (node c b f m) g e = ap (λ (n : Name). reader_names seen j (cons (node c b f n) g)) e

  reader-empty : (y : List ℕ) → length y ≡ 0 → (t : Tree) (g : Forest) → name_of t ≡ named y → reader_names seen j (cons t g) ≡ refused 40 j
  unfolding reader_names name_of
  reader-empty [] h (node c b f m) g e = ap (λ (n : Name). reader_names seen j (cons (node c b f n) g)) e
  reader-empty (x ∷ xs) h t g e = absurd (omega arith)

  reader-named : (y : List ℕ) → 0 < length y → (t : Tree) (g : Forest) → name_of t ≡ named y
      → reader_names seen j (cons t g) ≡ require (not (is_among y seen)) 40 j (reader_names (y ∷ seen) (j + 1) g)
  unfolding reader_names name_of
  reader-named [] h t g e = absurd (omega arith)
  reader-named (x ∷ xs) h (node c b f m) g e = ap (λ (n : Name). reader_names seen j (cons (node c b f n) g)) e

-- what judging names comes to
abbrev pub names_judged : List (List ℕ) → ℕ → Forest → Result (Unit {0}) Refusal
names_judged seen j f = passed (reader_names seen j f)

-- What the loop keeps, j of the members having names that are right: the answer from here is the answer from the start.
pub record NameLoop (d : List ℕ) (k : ℕ) (names : List ℕ) (j : ℕ) : Type 0 where
  pub named : Naming j names
  pub same : names_judged [] 0 (types_at d k (top_at d)) ≡ names_judged (seen_names d names j) j (types_at d (k - j) (place_from d (top_at d) j))

-- a member with a name
named-here : (d : List ℕ) (x : List ℕ) (y : ℕ) → named_at d y ≡ named x → 0 < y
unfolding named_at
named-here d x zero e = absurd (cc)
named-here d x (suc y) e = omega arith

module _ (d : List ℕ) (k : ℕ) (places names : List ℕ) (listed : Listed d k places names) where
  pub name-begin : NameLoop d k names 0
  unfolding place_from seen_names
  name-begin = record {
    named = record { some = λ i h. absurd (omega arith) };
    same = ap (λ (n : ℕ). names_judged [] 0 (types_at d n (top_at d))) (sym (sub-zero k));
  }

  module _ (j : ℕ) (l : NameLoop d k names j) where
    module _ (more : j < k) where
      abbrev seen : List (List ℕ)
      seen = seen_names d names j

      abbrev here : Tree
      here = type_from d (top_at d) j

      abbrev others : Forest
      others = types_at d (k - (j + 1)) (place_from d (top_at d) (j + 1))

      name-is : name_of here ≡ named_at d (get_or names j 0)
      name-is = sym (ap (named_at d) (listed.naming.at j more) ∙ member-name d k (top_at d) listed.members j more)

      split : names_judged [] 0 (types_at d k (top_at d)) ≡ names_judged seen j (cons here others)
      split = l.same ∙ ap (names_judged seen j) (types-at d k (top_at d) depth_limit listed.members.row j more)

      -- the name of member j is missing
      pub name-missing : named_at d (get_or names j 0) ≡ unnamed → Err (refusal_at 40 j) ≡ names_judged [] 0 (types_at d k (top_at d))
      name-missing e = sym (split ∙ ap passed (reader-unnamed seen j here others (name-is ∙ e)))

      module _ (x : List ℕ) (is : named_at d (get_or names j 0) ≡ named x) where
        -- is empty
        pub name-empty : length x ≡ 0 → Err (refusal_at 40 j) ≡ names_judged [] 0 (types_at d k (top_at d))
        name-empty e = sym (split ∙ ap passed (reader-empty seen j x e here others (name-is ∙ is)))

        chars : chars_at d (get_or names j 0) ≡ x
        chars = let both : named (chars_at d (get_or names j 0)) ≡ named x = sym (named-at d (get_or names j 0) (named-here d x (get_or names j 0) is)) ∙ is in cc

        -- is searched for among the members before
        module _ (links : List ℕ) (linked : Linked d names k links) where
          follows : Follows d names k j x (get_or links j 0)
          unfolding has_mark
          follows = follows-link d names k x links linked j more (ap (has_mark (mark_of x)) is ∙ eq-eqb (mark_of x) (mark_of x) refl) _ refl

          pub name-marked : Marked d names k (mark_of x) (get_or links j 0)
          name-marked = follows.here

          module _ (full : length x ≡ 0 → ⊥) (before : Bool) (eb : before ≡ is_some (member (last_of (has_chars x) d names (get_or links j 0)))) where
            judged : names_judged [] 0 (types_at d k (top_at d)) ≡ passed (require (not before) 40 j (reader_names (x ∷ seen) (j + 1) others))
            judged =
                let among : is_among x seen ≡ before =
                sym (among-last d names x j l.named.some) ∙ ap (λ (n : ℕ). is_some (member n)) follows.same ∙ sym eb in
                split
                ∙ ap passed (reader-named seen j x (omega (arith, full)) here others (name-is ∙ is))
                ∙ ap (λ (b : Bool). passed (require (not b) 40 j (reader_names (x ∷ seen) (j + 1) others))) among

            -- is an earlier member's
            pub name-earlier : before ≡ true → Err (refusal_at 40 j) ≡ names_judged [] 0 (types_at d k (top_at d))
            name-earlier found = sym (judged ∙ ap (λ (b : Bool). passed (require (not b) 40 j (reader_names (x ∷ seen) (j + 1) others))) found)

            -- or is right
            pub name-again : before ≡ false → NameLoop d k names (j + 1)
            unfolding seen_names
            name-again alone =
                let grown : seen_names d names (j + 1) ≡ x ∷ seen = ap (seen_names d names) (add-one j) ∙ ap (λ (y : List ℕ). y ∷ seen) chars in
                record {
                  named = record { some = below_more (λ i. 0 < get_or names i 0) j l.named.some (named-here d x (get_or names j 0) is) };
                  same =
                      judged
                      ∙ ap (λ (b : Bool). passed (require (not b) 40 j (reader_names (x ∷ seen) (j + 1) others))) alone
                      ∙ ap (λ (s : List (List ℕ)). names_judged s (j + 1) others) (sym grown);
                }

  -- all are right
  pub name-done : (j : ℕ) → NameLoop d k names j → j ≡ k → Ok tt ≡ names_judged [] 0 (types_at d k (top_at d))
  unfolding reader_names
  name-done j l last =
      sym (l.same
      ∙ ap (names_judged (seen_names d names j) j) (no-types d (k - j) (place_from d (top_at d) j) (omega arith)))

-- what `check_names` finds its answers with
pub ruleset name_laws = (fresh-chains, chained-of, eqb-true, eqb-false, name-begin, name-missing, name-empty, name-marked, name-earlier, name-again, name-done)
