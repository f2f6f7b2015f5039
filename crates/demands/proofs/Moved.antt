-- A walk goes by the bytes that it goes over and by nothing else: where the same bytes stand elsewhere, it ends as far on. Rests on the
-- definition of the walk alone.
use mathlib.Core.Path.{◌≡◌, refl, sym, ap, subst, ◌∙◌}
use mathlib.Core.Bool.{Bool, true}
use mathlib.Core.List.{List, [], ◌∷◌, ◌++◌}
use Prim.Native.Nat.{ℕ, zero, suc, ◌+◌, ◌*◌, ◌≤◌, ◌<◌}
use native.Mathlib.Nat.{add_assoc, add-zero}
use native.Mathlib.Omega.{arith}
use borrow.Author.Tests.{le-leb}
use lib.Dec.{leb, ltb}
use lib.ListN.{length, get_or}
use Rattle.number.specs.Endian.{be}
use Rattle.descriptor.specs.Tree.{empty, items, pairs, text, dimensions, members, subtype, Tree, node, Forest, nil, cons}
use Rattle.descriptor.specs.Outcome.{Outcome, read}
use Rattle.descriptor.proofs.Outcomes.{Holds, found, holds-require, holds-and_then}
use Rattle.descriptor.specs.Width.{width_of}
use Rattle.flattened.specs.Order.{big, number_at}
use Rattle.flattened.specs.Token.{scalar, string, sizes, Token}
use Rattle.descriptor.specs.Limits.{length_limit}
use Rattle.flattened.specs.Walk.{token, scalar_at, text_at, sizes_at, sizes_fit, array_at, follow, repeat, walk_fields, walk, walk_all}

-- the k bytes of s from a on stand in s' from a' on
pub record Alike (s : List ℕ) (a : ℕ) (s' : List ℕ) (a' k : ℕ) : Type 0 where
  pub within : a' + k ≤ length s'
  pub same : (i : ℕ) → i < k → get_or s (a + i) 0 ≡ get_or s' (a' + i) 0

-- what was read from a up to b is read from a' on, where the same bytes stand there
pub record Moves (s : List ℕ) (a : ℕ) (s' : List ℕ) (a' b : ℕ) (o : Outcome (List Token)) : Type 0 where
  pub taken : ℕ
  pub end : b ≡ a + taken
  pub moved : Alike s a s' a' taken → (ts : List Token) × (o ≡ read (a' + taken) ts)

module _ (s s' : List ℕ) where
  alike-first : (a a' j k : ℕ) → Alike s a s' a' (j + k) → Alike s a s' a' j
  alike-first a a' j k x = record { within = omega (arith, x.within); same = λ i h. x.same i (omega arith) }

  alike-rest : (a a' j k : ℕ) → Alike s a s' a' (j + k) → Alike s (a + j) s' (a' + j) k
  alike-rest a a' j k x = record {
    within = omega (arith, x.within);
    same = λ i h. rw (add_assoc a j i, add_assoc a' j i) (x.same (j + i) (omega arith));
  }

  -- a number of n of the bytes
  alike-number : (a a' n k : ℕ) → n ≤ k → Alike s a s' a' k → number_at big s a n ≡ number_at big s' a' n
  unfolding number_at be
  alike-number a a' zero k h x = refl
  alike-number a a' (suc n) k h x = rw (alike-number a a' n k (omega arith) x, x.same n (omega arith)) refl

  abbrev Walks : ℕ → ℕ → Outcome (List Token) → Outcome (List Token) → Type 0
  Walks a a' o o' = Holds (λ b ts. Moves s a s' a' b o') o

  walks-scalar : (c a a' : ℕ) (fits fits' : Bool) → (Alike s a s' a' (width_of c) → fits ≡ fits')
      → Walks a a' (scalar_at c s a fits) (scalar_at c s' a' fits')
  unfolding scalar_at
  walks-scalar c a a' fits fits' same =
      holds-require (leb (a + width_of c) (length s)) 21 a
      (λ _.
      holds-require fits 23 a
      (λ e.
      found {q = a + width_of c}
      (record { taken = width_of c; end = refl; moved = λ x. (token (scalar c) a' (a' + width_of c) ∷ [], rw (le-leb _ _ x.within, sym (same x) ∙ e) refl) })))

  walks-plain : (c a a' : ℕ) → Walks a a' (scalar_at c s a true) (scalar_at c s' a' true)
  walks-plain c a a' = walks-scalar c a a' true true (λ _. refl)

  walks-items : (c n a a' : ℕ) → Walks a a' (scalar_at c s a (ltb (number_at big s a (width_of c)) n)) (scalar_at c s' a' (ltb (number_at big s' a' (width_of c)) n))
  walks-items c n a a' =
      walks-scalar c a a' _ _ (λ x. ap (λ (v : ℕ). ltb v n) (alike-number a a' (width_of c) (width_of c) (omega arith) x))

  walks-text : (a a' : ℕ) → Walks a a' (text_at big s a) (text_at big s' a')
  unfolding text_at
  walks-text a a' =
      holds-require (leb (a + 4) (length s)) 21 a
      (λ _.
      holds-require (ltb (number_at big s a 4) length_limit) 22 a
      (λ e.
      holds-require (leb (a + 4 + number_at big s a 4) (length s)) 21 a
      (λ _.
      found {q = a + 4 + number_at big s a 4} (record {
        taken = 4 + number_at big s a 4;
        end = add_assoc a 4 (number_at big s a 4);
        moved = λ x.
            let n : ℕ = number_at big s a 4 in
            let number : number_at big s' a' 4 ≡ number_at big s a 4 = sym (alike-number a a' 4 (4 + n) (omega arith) x) in
            let word : leb (a' + 4) (length s') ≡ true = le-leb (a' + 4) (length s') (omega (arith, x.within)) in
            let chars : leb (a' + 4 + n) (length s') ≡ true = le-leb (a' + 4 + n) (length s') (omega (arith, x.within)) in
            (token string a' (a' + 4 + n) ∷ [], rw (number, word, e, chars) (ap (λ (q : ℕ). read q (token string a' (a' + 4 + n) ∷ [])) (add_assoc a' 4 n)));
      }))))

  -- no part
  nothing-taken : (a a' : ℕ) → Moves s a s' a' a (read a' [])
  nothing-taken a a' = record {
    taken = 0;
    end = sym (add-zero a);
    moved = λ _. ([], ap (λ (q : ℕ). read q []) (sym (add-zero a')));
  }

  -- one part after the other
  walks-follow : (a a' : ℕ) (o o' : Outcome (List Token)) (then then' : ℕ → Outcome (List Token)) → Walks a a' o o'
      → ((b b' : ℕ) → Walks b b' (then b) (then' b')) → Walks a a' (follow o then) (follow o' then')
  walks-follow a a' o o' then then' first rest =
      holds-and_then first
      (λ b ts x.
      holds-and_then (rest b (a' + x.taken))
      (λ c us y.
      found (record {
        taken = x.taken + y.taken;
        end = y.end ∙ (ap (λ (q : ℕ). q + y.taken) x.end ∙ add_assoc a x.taken y.taken);
        moved = λ z.
            let m = x.moved (alike-first a a' x.taken y.taken z) in
            let n =
            y.moved
            (subst (λ (q : ℕ). Alike s q s' (a' + x.taken) y.taken) (sym x.end) (alike-rest a a' x.taken y.taken z)) in
            (m.0 ++ n.0, rw (m.1, n.1) (ap (λ (q : ℕ). read q (m.0 ++ n.0)) (add_assoc a' x.taken y.taken)));
      })))

  walks-repeat : (f f' : ℕ → Outcome (List Token)) → ((b b' : ℕ) → Walks b b' (f b) (f' b')) → (n a a' : ℕ) → Walks a a' (repeat f n a) (repeat f' n a')
  unfolding repeat
  walks-repeat f f' each zero a a' = found (nothing-taken a a')
  walks-repeat f f' each (suc n) a a' =
      walks-follow a a' (f a) (f' a') (λ next. repeat f n next) (λ next. repeat f' n next) (each a a') (λ b b'. walks-repeat f f' each n b b')

  -- an array's sizes are the same
  sizes-alike : (k a a' : ℕ) → Alike s a s' a' (4 * k) → sizes_at big s k a ≡ sizes_at big s' k a'
  unfolding sizes_at
  sizes-alike zero a a' x = refl
  sizes-alike (suc k) a a' x =
      let y : Alike s a s' a' (4 + 4 * k) = subst (λ (n : ℕ). Alike s a s' a' n) (omega arith) x in
      rw (alike-number a a' 4 (4 + 4 * k) (omega arith) y, sizes-alike k (a + 4) (a' + 4) (alike-rest a a' 4 (4 * k) y)) refl

  walks-array : (c k : ℕ) (f f' : ℕ → Outcome (List Token)) → ((b b' : ℕ) → Walks b b' (f b) (f' b')) → (a a' : ℕ)
      → Walks a a' (walk_fields big c (dimensions k) f s a) (walk_fields big c (dimensions k) f' s' a')
  unfolding walk_fields array_at
  walks-array c k f f' each a a' =
      holds-and_then {P = λ q n. (q ≡ a + 4 * k) × (Alike s a s' a' (4 * k) → array_at big s' k a' ≡ read (a' + 4 * k) n)}
      (holds-require (leb (a + 4 * k) (length s)) 21 a
      (λ _.
      holds-require (sizes_fit (sizes_at big s k a)) 22 a
      (λ e.
      found {q = a + 4 * k} (
        refl,
        λ x. rw (sym (sizes-alike k a a' x), le-leb (a' + 4 * k) (length s') x.within, e) refl,
      ))))
      (λ next n h.
      holds-and_then (walks-repeat f f' each n next (a' + 4 * k))
      (λ last ts y.
      found (record {
        taken = 4 * k + y.taken;
        end = y.end ∙ (ap (λ (q : ℕ). q + y.taken) h.0 ∙ add_assoc a (4 * k) y.taken);
        moved = λ z.
            let m = h.1 (alike-first a a' (4 * k) y.taken z) in
            let r =
            y.moved (subst (λ (q : ℕ). Alike s q s' (a' + 4 * k) y.taken) (sym h.0) (alike-rest a a' (4 * k) y.taken z)) in (
              token (sizes k) a' (a' + 4 * k) ∷ r.0,
              rw (m, r.1) (ap (λ (q : ℕ). read q (token (sizes k) a' (a' + 4 * k) ∷ r.0)) (add_assoc a' (4 * k) y.taken)),
            );
      })))

  mutual
    unfolding walk walk_fields

    -- the walk of a type
    pub walks-walk : (t : Tree) (a a' : ℕ) → Walks a a' (walk big t s a) (walk big t s' a')
    walks-walk (node c empty f m) a a' = walks-plain c a a'
    walks-walk (node c (items xs) f m) a a' = walks-items c (length xs) a a'
    walks-walk (node c (pairs ps) f m) a a' = walks-plain c a a'
    walks-walk (node c text f m) a a' = walks-text a a'
    walks-walk (node c (dimensions k) f m) a a' =
        walks-array c k (λ p. walk_all big f s p) (λ p. walk_all big f s' p) (λ b b'. walks-walk_all f b b') a a'
    walks-walk (node c (members k) f m) a a' = walks-walk_all f a a'
    walks-walk (node c subtype f m) a a' = walks-walk_all f a a'

    -- and of types in a row
    walks-walk_all : (f : Forest) (a a' : ℕ) → Walks a a' (walk_all big f s a) (walk_all big f s' a')
    walks-walk_all nil a a' = found (nothing-taken a a')
    walks-walk_all (cons t f) a a' =
        walks-follow a a' (walk big t s a) (walk big t s' a') (λ next. walk_all big f s next) (λ next. walk_all big f s' next) (walks-walk t a a')
        (λ b b'. walks-walk_all f b b')
