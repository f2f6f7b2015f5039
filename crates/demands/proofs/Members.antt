-- Laws of the notions of demand 3: the walk's tokens of a member, and members by their names. Rests on the laws of the walk's tokens.
use mathlib.Core.Path.{◌≡◌, refl, sym, ap, ◌∙◌}
use mathlib.Core.Bool.{Bool, true, false, cond}
use mathlib.Core.List.{List, [], ◌∷◌, ◌++◌, append_assoc}
use Prim.Native.Nat.{ℕ, suc, ◌+◌, ◌≤◌}
use native.Mathlib.Omega.{arith}
use lib.ListN.{length}
use Rattle.descriptor.specs.Tree.{Name, Tree, Forest, nil, cons, tree_size}
use Rattle.descriptor.specs.Table.{row_of}
use Rattle.descriptor.specs.Encoding.{WellFormed, AllWellFormed}
use Rattle.descriptor.specs.Outcome.{Outcome, read}
use Rattle.descriptor.specs.declared.answer.Row.{Row}
use Rattle.descriptor.proofs.Outcomes.{Holds, found, holds-and_then, holds-self, holds_read}
use Rattle.canonical.specs.Equality.{same_name}
use Rattle.canonical.proofs.Same.{name-same, name-refl}
use Rattle.flattened.specs.Order.{big}
use Rattle.flattened.specs.Token.{Token}
use Rattle.flattened.specs.Walk.{walk, walk_all}
use Rattle.resolution.specs.Record.{Member, members_from}
use Rattle.demands.proofs.Shape.{name_of, Among, here, further, count_named, Gives, first, after}
use Rattle.demands.proofs.Pieces.{Over, goes-walk}

-- a walk ends within the data
pub ends : (s : List ℕ) (t : Tree) (at q : ℕ) (ts : List Token) → at ≤ length s → walk big t s at ≡ read q ts → q ≤ length s
ends s t at q ts h e = (holds_read e (goes-walk s big t at h)).within

-- a walk ends at one place
pub same_end : {o : Outcome (List Token)} {q r : ℕ} {ts us : List Token} → o ≡ read q ts → o ≡ read r us → r ≡ q
same_end e e' = cc

-- what the walk gives a member stands together among the tokens of all
pub gives_part : {s : List ℕ} {u : Tree} {ts : List Token} {f : Forest} {at : ℕ} → Gives s u ts f at
    → Holds (λ q all. (before : List Token) × (rest : List Token) × (all ≡ before ++ (ts ++ rest))) (walk_all big f s at)
unfolding walk_all
gives_part {s} (first {f = f} {stop = stop} e) =
    rw e (holds-and_then (holds-self (walk_all big f s stop)) (λ q us _. found ([], us, refl)))
gives_part (after {us = us} e x) =
    rw e
    (holds-and_then (gives_part x)
    (λ q vs h. found (us ++ h.0, h.1, ap (λ (all : List Token). us ++ all) h.2 ∙ sym (append_assoc us h.0 _))))

-- and goes over its bytes
pub gives-over : {s : List ℕ} {u : Tree} {ts : List Token} {f : Forest} {at : ℕ} → at ≤ length s → Gives s u ts f at
    → (start : ℕ) × (stop : ℕ) × (walk big u s start ≡ read stop ts) × Over s start stop ts
gives-over {s} {u} h (first {at = at} {stop = stop} e) = (at, stop, e, holds_read e (goes-walk s big u at h))
gives-over {s} h (after {t = t} {at = at} {next = q} e x) = gives-over (ends s t at q _ h e) x

-- a member that has the name counts
pub among-counts : {u : Tree} {f : Forest} (m : Name) → name_of u ≡ m → Among u f → 1 ≤ count_named m f
unfolding count_named
among-counts {u} m e here = rw (e, name-refl m) (omega arith)
among-counts m e (further {t} a) = counts (same_name m (name_of t)) (among-counts m e a)
  where
    counts : {k : ℕ} (b : Bool) → 1 ≤ k → 1 ≤ cond b (suc k) k
    counts true h = omega arith
    counts false h = h

-- and a count comes from such a member
pub counted-among : (m : Name) (f : Forest) → 1 ≤ count_named m f → (u : Tree) × Among u f × (name_of u ≡ m)
unfolding count_named
counted-among m nil h = absurd (omega arith)
counted-among m (cons t f) h = head (same_name m (name_of t)) refl (λ g. counted-among m f g) h
  where
    head : (b : Bool) → same_name m (name_of t) ≡ b → (1 ≤ count_named m f → (u : Tree) × Among u f × (name_of u ≡ m))
        → 1 ≤ cond b (suc (count_named m f)) (count_named m f) → (u : Tree) × Among u (cons t f) × (name_of u ≡ m)
    head true e rest g = (t, here, sym (name-same m (name_of t) e))
    head false e rest g = let x = rest g in (x.0, further x.1, x.2)

-- what the walk gives a member, it gives one of the members
pub gives-among : {s : List ℕ} {u : Tree} {ts : List Token} {f : Forest} {at : ℕ} → Gives s u ts f at → Among u f
gives-among (first e) = here
gives-among (after e g) = further (gives-among g)

-- one of well-formed members is well formed
pub among-formed : {u : Tree} {f : Forest} (a : Bool) → Among u f → AllWellFormed a f → WellFormed a u
unfolding WellFormed
among-formed a here w = w.0
among-formed a (further i) w = among-formed a i w.1

-- the members ms are those of the rig's cluster f, the data of the first of which starts at `at`
pub data Listed (s : List ℕ) : Forest → ℕ → List Member → Type 0 where
  empty : {at : ℕ} → Listed s nil at []
  next : {t : Tree} {f : Forest} {at stop : ℕ} {ts : List Token} {row : Row} {ms : List Member} → walk big t s at ≡ read stop ts
      → Listed s f stop ms → Listed s (cons t f) at (record { row = row; type = t; start = at; stop = stop } ∷ ms)

-- data that is walked has its members listed
pub members-listed : (s : List ℕ) (f : Forest) (place at : ℕ)
    → Holds (λ q ts. (ms : List Member) × (members_from f place s at ≡ read q ms) × Listed s f at ms) (walk_all big f s at)
unfolding members_from walk_all
members-listed s nil place at = found ([], refl, empty)
members-listed s (cons t f) place at =
    holds-and_then (holds-self (walk big t s at))
    (λ stop ts e.
    holds-and_then (members-listed s f (place + tree_size t) stop)
    (λ last us h.
    found (record { row = row_of place 2 t; type = t; start = at; stop = stop } ∷ h.0, rw (e, h.1) refl, next e h.2)))

-- and the walk gives each of them its tokens
pub among-gives : {s : List ℕ} {u : Tree} {f : Forest} {at : ℕ} {ms : List Member} → Among u f → Listed s f at ms
    → (ts : List Token) × Gives s u ts f at
among-gives here (next e l) = (_, first e)
among-gives (further a) (next e l) = let x = among-gives a l in (x.0, after e x.1)
