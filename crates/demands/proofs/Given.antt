-- What a reader is given is data of its own descriptor: the walk of the reader's members goes through it to its end, and it is no longer
-- than the rig's data. Rests on walks that go by their bytes alone.
use mathlib.Core.Path.{◌≡◌, refl, sym, ap, subst, ◌∙◌}
use mathlib.Core.Bool.{Bool, true, false, cond}
use mathlib.Core.List.{List, [], ◌∷◌, ◌++◌, append_assoc, append-nil}
use Prim.Native.Nat.{ℕ, ◌+◌, ◌-◌, ◌≤◌}
use native.Mathlib.Nat.{add-zero}
use native.Mathlib.Omega.{arith}
use lib.ListN.{length, take, get_or, length-append, get_or-append}
use lib.Seq.{slice, length-slice, get_or-append-add, get_or-drop, get_or-take}
use Rattle.descriptor.specs.Tree.{Name, Tree, Forest, nil, cons}
use Rattle.descriptor.specs.Outcome.{read}
use Rattle.descriptor.proofs.Outcomes.{holds_read}
use Rattle.canonical.specs.Equality.{same_name}
use Rattle.canonical.proofs.Same.{name-same, name-refl}
use Rattle.flattened.specs.Order.{big}
use Rattle.flattened.specs.Token.{Token, joined}
use Rattle.flattened.specs.Walk.{walk, walk_all}
use Rattle.resolution.specs.Record.{Member}
use Rattle.demands.proofs.Shape.{name_of, NoneNamed, DistinctNames, Gives, first, after, Gets, nothing, more}
use Rattle.demands.proofs.Pieces.{Over, goes-walk}
use Rattle.demands.proofs.Moved.{Alike, walks-walk}
use Rattle.demands.proofs.Members.{ends, same_end, gives-over, Listed, empty, next}

-- bytes of s that stand elsewhere
alike-slice : (s : List ℕ) (a b k : ℕ) (p x q : List ℕ) → b ≡ a + k → b ≤ length s → x ≡ slice a b s → Alike s a (p ++ (x ++ q)) (length p) k
alike-slice s a b k p x q end within e =
    let size : length x ≡ k = ap length e ∙ (length-slice a b s within ∙ omega arith) in record {
      within = simp length-append (omega arith);
      same = λ i h.
          sym
          (get_or-append-add p (x ++ q) i 0
          ∙ (get_or-append x q 0 i (omega arith)
          ∙ (ap (λ (y : List ℕ). get_or y i 0) e ∙ (get_or-drop a (take b s) i 0 ∙ get_or-take b s (a + i) 0 (omega arith)))));
    }

-- the first member's bytes, where those of the others follow: as many are taken as the walk gave it
first_walk : (s : List ℕ) (t : Tree) (ts : List Token) (start stop : ℕ) (p q : List ℕ) → walk big t s start ≡ read stop ts → Over s start stop ts
    → (us : List Token) × (walk big t (p ++ (joined s ts ++ q)) (length p) ≡ read (length p + length (joined s ts)) us)
first_walk s t ts start stop p q e over =
    let x = holds_read e (walks-walk s (p ++ (joined s ts ++ q)) t start (length p)) in
    let y = x.moved (alike-slice s start stop x.taken p (joined s ts) q x.end over.within over.bytes) in
    let size : length (joined s ts) ≡ x.taken =
    ap length over.bytes ∙ (length-slice start stop s over.within ∙ omega (arith, x.end)) in
    (y.0, y.1 ∙ ap (λ (n : ℕ). read (length p + n) y.0) (sym size))

-- the walk of the reader's members goes through what it gets, wherever that stands
gets-walk : {s : List ℕ} {f g : Forest} {xs : List ℕ} → Gets s f g xs → (p q : List ℕ)
    → (ts : List Token) × (walk_all big g (p ++ (xs ++ q)) (length p) ≡ read (length p + length xs) ts)
unfolding walk_all
gets-walk nothing p q = ([], ap (λ (n : ℕ). read n []) (sym (add-zero (length p))))
gets-walk {s} (more {t = t} {g = g} {ts = ts} {xs = xs} once given rest) p q =
    let o = gives-over (omega arith) given in
    let here = first_walk s t ts o.0 o.1 p (xs ++ q) o.2 o.3 in
    let others = gets-walk rest (p ++ joined s ts) q in
    both (joined s ts) here.0 here.1 others.0 others.1
  where
    both : (x : List ℕ) (us : List Token) → walk big t (p ++ (x ++ (xs ++ q))) (length p) ≡ read (length p + length x) us → (vs : List Token)
        → walk_all big g ((p ++ x) ++ (xs ++ q)) (length (p ++ x)) ≡ read (length (p ++ x) + length xs) vs
        → (ts : List Token) × (walk_all big (cons t g) (p ++ ((x ++ xs) ++ q)) (length p) ≡ read (length p + length (x ++ xs)) ts)
    both x us e vs e' =
        let size : length p + length x + length xs ≡ length p + length (x ++ xs) = omega (arith, length-append x xs) in
        let e'' : walk_all big g (p ++ (x ++ (xs ++ q))) (length p + length x) ≡ read (length p + length x + length xs) vs =
        rw (append_assoc p x (xs ++ q), length-append p x) at e' in
        (us ++ vs, rw (append_assoc x xs q, e, e'') (ap (λ (n : ℕ). read n (us ++ vs)) size))

-- so where it stands by itself
pub gets-walked : {s : List ℕ} {f g : Forest} {xs : List ℕ} → Gets s f g xs → (ts : List Token) × (walk_all big g xs 0 ≡ read (length xs) ts)
gets-walked {g = g} {xs = xs} x =
    let w = gets-walk x [] [] in
    let size : 0 + length xs ≡ length xs = omega arith in
    (w.0, rw (append-nil xs, size) at w.1)

-- how many bytes the members of the name m have
share : Name → List Member → ℕ
share m [] = 0
share m (x ∷ xs) = cond (same_name m (name_of x.type)) (x.stop - x.start) 0 + share m xs

-- and those of the names of g's members
shares : Forest → List Member → ℕ
shares nil ms = 0
shares (cons t g) ms = share (name_of t) ms + shares g ms

-- a walk takes as many bytes as its tokens have
walk-length : (s : List ℕ) (t : Tree) (ts : List Token) (at stop : ℕ) → at ≤ length s → walk big t s at ≡ read stop ts
    → length (joined s ts) ≡ stop - at
walk-length s t ts at stop h e =
    let over = holds_read e (goes-walk s big t at h) in
    ap length over.bytes ∙ length-slice at stop s over.within

-- what is given to a member is of its share
gives-share : {s : List ℕ} {u : Tree} {ts : List Token} {f : Forest} {at : ℕ} {ms : List Member} → at ≤ length s → Gives s u ts f at → Listed s f at ms
    → length (joined s ts) ≤ share (name_of u) ms
unfolding share
gives-share {s} {u} {ts} h (first {stop = q} e) (next {at = at} {stop = stop} {ms = ms} e' l) =
    rw (name-refl (name_of u)) (omega (arith, walk-length s u ts at q h e, same_end e e'))
gives-share {s} h (after {next = q} e x) (next {t = t} {f = f} {at = at} {stop = stop} {ms = ms} e' l) =
    omega (arith, gives-share (ends s t at q _ h e) x (subst (λ (k : ℕ). Listed s f k ms) (same_end e e') l))

gets-shares : {s : List ℕ} {f g : Forest} {xs : List ℕ} {ms : List Member} → Listed s f 0 ms → Gets s f g xs → length xs ≤ shares g ms
unfolding shares
gets-shares l nothing = omega arith
gets-shares {s} l (more {ts = ts} {xs = xs} once given rest) =
    simp length-append (omega (arith, gives-share (omega arith) given l, gets-shares l rest))

-- how often the name m stands in g, times k
hits : Name → ℕ → Forest → ℕ
hits m k nil = 0
hits m k (cons t g) = cond (same_name (name_of t) m) k 0 + hits m k g

-- a name that no member has
hits-none : (m : Name) (k : ℕ) (g : Forest) → NoneNamed m g → hits m k g ≡ 0
unfolding hits NoneNamed
hits-none m k nil h = refl
hits-none m k (cons t g) h = other (same_name (name_of t) m) refl (hits-none m k g h.1)
  where
    other : {n : ℕ} (b : Bool) → same_name (name_of t) m ≡ b → n ≡ 0 → cond b k 0 + n ≡ 0
    other true e z = absurd (h.0 (name-same (name_of t) m e))
    other false e z = omega arith

-- distinct names stand once at most
hits-once : (m : Name) (k : ℕ) (g : Forest) → DistinctNames g → hits m k g ≤ k
unfolding hits DistinctNames
hits-once m k nil h = omega arith
hits-once m k (cons t g) h = either (same_name (name_of t) m) refl (hits-once m k g h.2)
  where
    either : (b : Bool) → same_name (name_of t) m ≡ b → hits m k g ≤ k → cond b k 0 + hits m k g ≤ k
    either true e _ = let z = hits-none m k g (subst (λ (n : Name). NoneNamed n g) (name-same (name_of t) m e) h.1) in omega arith
    either false e rest = omega arith

shares-none : (g : Forest) → shares g [] ≡ 0
unfolding shares share
shares-none nil = refl
shares-none (cons t g) = omega (arith, shares-none g)

shares-first : (g : Forest) (x : Member) (ms : List Member) → shares g (x ∷ ms) ≡ hits (name_of x.type) (x.stop - x.start) g + shares g ms
unfolding shares share hits
shares-first nil x ms = refl
shares-first (cons t g) x ms = omega (arith, shares-first g x ms)

-- the shares of distinct names lie in the data
shares-within : {s : List ℕ} {f : Forest} {at : ℕ} {ms : List Member} (g : Forest) → DistinctNames g → at ≤ length s → Listed s f at ms
    → at + shares g ms ≤ length s
shares-within g names h empty = omega (arith, shares-none g)
shares-within {s} g names h (next {t = t} {at = at} {stop = stop} {row = row} {ms = ms} e l) =
    omega (
      arith,
      (holds_read e (goes-walk s big t at h)).order,
      shares-first g (record { row = row; type = t; start = at; stop = stop }) ms,
      hits-once (name_of t) (stop - at) g names,
      shares-within g names (ends s t at stop _ h e) l,
    )

-- what the reader gets is no longer than the rig's data
pub gets-length : {s : List ℕ} {f g : Forest} {xs : List ℕ} {ms : List Member} → Listed s f 0 ms → DistinctNames g → Gets s f g xs
    → length xs ≤ length s
gets-length {g = g} l names x = omega (arith, gets-shares l x, shares-within g names (omega arith) l)
