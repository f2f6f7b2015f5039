-- The definition takes a reader's descriptor whose members have distinct, non-empty names, and refuses any other for the first name that is
-- missing, empty or an earlier member's. Rests on the comparison of names.
use mathlib.Core.Path.{◌≡◌, refl, sym, subst, ◌∙◌}
use mathlib.Core.Logic.{◌⊎◌, ⊎_elim}
use mathlib.Core.Bool.{Bool, true, false, cond}
use mathlib.Core.List.{List, [], ◌∷◌}
use Prim.Native.Nat.{ℕ, suc, ◌+◌, ◌≤◌}
use native.Mathlib.Omega.{arith}
use borrow.Author.Tests.{leb-true, leb-false, le-leb}
use lib.Dec.{leb}
use Rattle.descriptor.specs.Tree.{Name, unnamed, named, Tree, node, Forest, nil, cons}
use Rattle.descriptor.specs.Outcome.{refused, read}
use Rattle.descriptor.proofs.Steps.{impossible}
use Rattle.canonical.specs.Equality.{same_chars, same_name}
use Rattle.canonical.proofs.Same.{chars-same, name-refl}
use Rattle.resolution.specs.Record.{is_among, reader_names}
use Rattle.demands.proofs.Shape.{name_of, NonEmpty, NoneNamed, DistinctNames, count_named, BadName, nameless, earlier, FirstBad, bad, later}

-- none of the members g has a name that was seen
record Unseen (seen : List (List ℕ)) (g : Forest) : Type 0 where
  others : (x : List ℕ) → is_among x seen ≡ true → NoneNamed (named x) g

-- nor has one that is seen now, where none of g has it
seen_more : (y : List ℕ) (seen : List (List ℕ)) (g : Forest) → NoneNamed (named y) g → Unseen seen g → Unseen (y ∷ seen) g
unfolding is_among
seen_more y seen g new old = record { others = λ x e. either x (same_chars x y) refl e }
  where
    either : (x : List ℕ) (k : Bool) → same_chars x y ≡ k → cond k true (is_among x seen) ≡ true → NoneNamed (named x) g
    either x true same e = rw (chars-same x y same) new
    either x false other e = old.others x e

names-from : (g : Forest) → DistinctNames g → (seen : List (List ℕ)) (j : ℕ) → Unseen seen g
    → (last : ℕ) × (all : List (List ℕ)) × (reader_names seen j g ≡ read last all)
unfolding reader_names DistinctNames NonEmpty NoneNamed
names-from nil names seen j unseen = (j, seen, refl)
names-from (cons (node c b f unnamed) g) names seen j unseen = absurd names.0
names-from (cons (node c b f (named [])) g) names seen j unseen = absurd names.0
names-from (cons (node c b f (named (x ∷ xs))) g) names seen j unseen =
    let rest =
    names-from g names.2 ((x ∷ xs) ∷ seen) (j + 1)
    (seen_more (x ∷ xs) seen g names.1 (record { others = λ y e. (unseen.others y e).1 })) in
    (rest.0, rest.1, rw (fresh (is_among (x ∷ xs) seen) refl) rest.2)
  where
    fresh : (k : Bool) → is_among (x ∷ xs) seen ≡ k → is_among (x ∷ xs) seen ≡ false
    fresh true e = absurd ((unseen.others (x ∷ xs) e).0 refl)
    fresh false e = e

-- the reader's members, from the first on
pub names-read : (g : Forest) → DistinctNames g → (last : ℕ) × (all : List (List ℕ)) × (reader_names [] 0 g ≡ read last all)
unfolding is_among
names-read g names = names-from g names [] 0 (record { others = λ x e. impossible e })

-- none of the members is so
unfoldable pub NoneBad : Forest → Forest → Type 0
NoneBad before nil = Unit {0}
NoneBad before (cons t g) = (¬ BadName before t) × NoneBad (cons t before) g

-- a member is so or is not
bad-or-not : (before : Forest) (t : Tree) → BadName before t ⊎ (¬ BadName before t)
unfolding NonEmpty
bad-or-not before (node c b f unnamed) = ◌⊎◌.inl (nameless (λ h. h))
bad-or-not before (node c b f (named [])) = ◌⊎◌.inl (nameless (λ h. h))
bad-or-not before (node c b f (named (x ∷ xs))) = go (leb 1 (count_named (named (x ∷ xs)) before)) refl
  where
    go : (k : Bool) → leb 1 (count_named (named (x ∷ xs)) before) ≡ k
        → BadName before (node c b f (named (x ∷ xs))) ⊎ (¬ BadName before (node c b f (named (x ∷ xs))))
    go true e = ◌⊎◌.inl (earlier (leb-true 1 _ e))
    go false e = ◌⊎◌.inr not-bad
      where
        not-bad : ¬ BadName before (node c b f (named (x ∷ xs)))
        not-bad (nameless h) = h tt
        not-bad (earlier h) = omega (arith, h, leb-false 1 (count_named (named (x ∷ xs)) before) e)

-- so there is a first, or there is none
pub first-bad : (g before : Forest) (j : ℕ) → ((place : ℕ) × FirstBad before j g place) ⊎ NoneBad before g
unfolding NoneBad
first-bad nil before j = ◌⊎◌.inr tt
first-bad (cons t g) before j =
    ⊎_elim (λ b. ◌⊎◌.inl (j, bad b))
    (λ n. ⊎_elim (λ h. ◌⊎◌.inl (h.0, later n h.1)) (λ h. ◌⊎◌.inr (n, h)) (first-bad g (cons t before) (j + 1))) (bad-or-not before t)

-- a name that was counted is none's of the members after
none_named : (m : Name) (before g : Forest) → 1 ≤ count_named m before → NoneBad before g → NoneNamed m g
unfolding NoneBad NoneNamed count_named
none_named m before nil h n = tt
none_named m before (cons t g) h n = (
  λ e. n.0 (earlier (subst (λ (x : Name). 1 ≤ count_named x before) (sym e) h)),
  none_named m (cons t before) g (more (same_name m (name_of t)) refl) n.1,
)
  where
    more : (b : Bool) → same_name m (name_of t) ≡ b → 1 ≤ count_named m (cons t before)
    more true e = rw e (omega arith)
    more false e = rw e h

-- "members with distinct, non-empty names"
pub distinct : (before g : Forest) → NoneBad before g → DistinctNames g
unfolding NoneBad DistinctNames NonEmpty count_named
distinct before nil n = tt
distinct before (cons t g) n = (some (name_of t) (λ h. n.0 (nameless h)), none_named (name_of t) (cons t before) g counted n.1, distinct (cons t before) g n.1)
  where
    some : (m : Name) → ¬ (¬ NonEmpty m) → NonEmpty m
    some unnamed h = absurd (h (λ x. x))
    some (named []) h = absurd (h (λ x. x))
    some (named (x ∷ xs)) h = tt

    counted : 1 ≤ count_named (name_of t) (cons t before)
    counted = rw (name-refl (name_of t)) (omega arith)

-- the names that the definition has seen are those of the members before
pub record Seen (before : Forest) (seen : List (List ℕ)) : Type 0 where
  pub same : (x : List ℕ) → is_among x seen ≡ leb 1 (count_named (named x) before)

seen-counted : (before : Forest) (seen : List (List ℕ)) → Seen before seen → (t : Tree) (y : List ℕ) → name_of t ≡ named y → Seen (cons t before) (y ∷ seen)
unfolding is_among count_named same_name
seen-counted before seen old t y e = record { same = λ x. rw e (go x (same_chars x y)) }
  where
    go : (x : List ℕ) (b : Bool) → cond b true (is_among x seen) ≡ leb 1 (cond b (suc (count_named (named x) before)) (count_named (named x) before))
    go x true = sym (le-leb 1 (suc (count_named (named x) before)) (omega arith))
    go x false = old.same x

-- the first bad name is refused
pub bad-refused : (g before : Forest) (seen : List (List ℕ)) (j place : ℕ) → Seen before seen → FirstBad before j g place
    → reader_names seen j g ≡ refused 40 place
unfolding reader_names NonEmpty
bad-refused nil before seen j place old h = elim h [ ]
bad-refused (cons (node c b f unnamed) g) before seen j place old (bad h) = refl
bad-refused (cons (node c b f unnamed) g) before seen j place old (later n h) = absurd (n (nameless (λ x. x)))
bad-refused (cons (node c b f (named [])) g) before seen j place old (bad h) = refl
bad-refused (cons (node c b f (named [])) g) before seen j place old (later n h) = absurd (n (nameless (λ x. x)))
bad-refused (cons (node c b f (named (x ∷ xs))) g) before seen j place old (bad (nameless n)) = absurd (n tt)
bad-refused (cons (node c b f (named (x ∷ xs))) g) before seen j place old (bad (earlier h)) =
    rw (old.same (x ∷ xs) ∙ le-leb 1 _ h) refl
bad-refused (cons (node c b f (named (x ∷ xs))) g) before seen j place old (later n h) =
    rw (fresh (is_among (x ∷ xs) seen) refl)
    (bad-refused g (cons (node c b f (named (x ∷ xs))) before) ((x ∷ xs) ∷ seen) (j + 1) place
    (seen-counted before seen old (node c b f (named (x ∷ xs))) (x ∷ xs) refl) h)
  where
    fresh : (k : Bool) → is_among (x ∷ xs) seen ≡ k → is_among (x ∷ xs) seen ≡ false
    fresh true e = absurd (n (earlier (leb-true 1 _ (sym (old.same (x ∷ xs)) ∙ e))))
    fresh false e = e

pub none_seen : Seen nil []
unfolding is_among count_named
none_seen = record { same = λ x. refl }
