-- What the definition's search for a reader's member comes to, in demand 3's words. Rests on the laws of members.
use mathlib.Core.Path.{◌≡◌, refl, sym, ap, subst, ◌∙◌}
use mathlib.Core.Bool.{Bool, true, false, cond}
use mathlib.Core.List.{List, [], ◌∷◌}
use Prim.Native.Nat.{ℕ, suc, ◌≤◌}
use native.Mathlib.Omega.{arith}
use lib.ListN.{length}
use lib.Seq.{slice}
use Rattle.descriptor.specs.Tree.{unnamed, named, Tree, node, Forest, cons}
use Rattle.descriptor.specs.Outcome.{Outcome, refused, read, and_then, require}
use Rattle.descriptor.specs.declared.answer.Row.{Row}
use Rattle.descriptor.proofs.Outcomes.{holds_read}
use Rattle.canonical.specs.Equality.{same_name, same_tree}
use Rattle.canonical.proofs.Same.{name-refl, same_refl}
use Rattle.flattened.specs.Order.{big}
use Rattle.flattened.specs.Token.{Token, joined}
use Rattle.flattened.specs.Walk.{walk}
use Rattle.resolution.specs.Record.{Member, matches, namesakes, searched, search_number, member_found, member_bytes}
use Rattle.demands.proofs.Shape.{name_of, NonEmpty, Among, count_named, Missing, FoundOnce, Doubled, Gives, first, after, AgreeOn, none, several, each}
use Rattle.demands.proofs.Pieces.{goes-walk}
use Rattle.demands.proofs.Members.{ends, same_end, among-counts, gives-among, Listed, empty, next}

-- names compared by the search are compared as names
matches-name : (t u : Tree) → NonEmpty (name_of t) → matches t u ≡ same_name (name_of t) (name_of u)
unfolding matches same_name NonEmpty
matches-name (node c b f unnamed) (node d a g n) h = absurd h
matches-name (node c b f (named x)) (node d a g unnamed) h = refl
matches-name (node c b f (named x)) (node d a g (named y)) h = refl

-- ns is one member of the rig's: one of the type u, whose bytes are the tokens ts joined
pub record Namesake (s : List ℕ) (u : Tree) (ts : List Token) (ns : List Member) : Type 0 where
  pub member : Member
  pub only : ns ≡ member ∷ []
  pub type : member.type ≡ u
  pub bytes : slice member.start member.stop s ≡ joined s ts

none_left : (ns : List Member) → length ns ≡ 0 → ns ≡ []
none_left [] e = refl
none_left (m ∷ ns) e = absurd (omega arith)

-- of a first member and the ns that follow it there are one more than k where its name is the one looked for
with_first : (m : Member) (ns : List Member) (k : ℕ) (b : Bool) → length ns ≡ k → length (cond b (m ∷ ns) ns) ≡ cond b (suc k) k
with_first m ns k true e = ap suc e
with_first m ns k false e = e

-- and where the one looked for stands further on, the first has another name
past_first : {s : List ℕ} {u : Tree} {ts : List Token} (m : Member) (ns : List Member) (k : ℕ) (b : Bool) → 1 ≤ k → cond b (suc k) k ≡ 1
    → (k ≡ 1 → Namesake s u ts ns) → Namesake s u ts (cond b (m ∷ ns) ns)
past_first m ns k true h e rest = absurd (omega arith)
past_first m ns k false h e rest = rest e

-- the reader's member t, which has a name
module _ (s : List ℕ) (t : Tree) (named-so : NonEmpty (name_of t)) where
  -- there are as many namesakes as members of its name
  namesakes-count : {f : Forest} {at : ℕ} {ms : List Member} → Listed s f at ms → length (namesakes t ms) ≡ count_named (name_of t) f
  unfolding namesakes count_named
  namesakes-count empty = refl
  namesakes-count (next {t = u} {f = f} {ms = ms} e l) =
      rw (matches-name t u named-so) (with_first _ (namesakes t ms) (count_named (name_of t) f) (same_name (name_of t) (name_of u)) (namesakes-count l))

  -- where the first member is the one of that name, no other is
  first-namesake : (u : Tree) (ts us : List Token) (f : Forest) (at q stop : ℕ) (row : Row) (ms : List Member) → at ≤ length s
      → name_of u ≡ name_of t → count_named (name_of t) (cons u f) ≡ 1 → walk big u s at ≡ read q ts → walk big u s at ≡ read stop us → Listed s f stop ms
      → Namesake s u ts (namesakes t (record { row = row; type = u; start = at; stop = stop } ∷ ms))
  unfolding namesakes count_named
  first-namesake u ts us f at q stop row ms h n once e e' l =
      let same : same_name (name_of t) (name_of u) ≡ true = rw n (name-refl (name_of t)) in
      let match : matches t u ≡ true = matches-name t u named-so ∙ same in
      let one : suc (count_named (name_of t) f) ≡ 1 = rw same at once in
      let alone : namesakes t ms ≡ [] = none_left (namesakes t ms) (omega (arith, namesakes-count l)) in
      let tokens : us ≡ ts = cc in
      rw match (record {
        member = record { row = row; type = u; start = at; stop = stop };
        only = ap (λ (ns : List Member). record { row = row; type = u; start = at; stop = stop } ∷ ns) alone;
        type = refl;
        bytes = sym (holds_read e' (goes-walk s big u at h)).bytes ∙ ap (joined s) tokens;
      })

  -- and where it stands further on, the first is not
  later-namesake : (u : Tree) (ts : List Token) (f : Forest) (m : Member) (ms : List Member) → name_of u ≡ name_of t
      → count_named (name_of t) (cons m.type f) ≡ 1 → Among u f → (count_named (name_of t) f ≡ 1 → Namesake s u ts (namesakes t ms))
      → Namesake s u ts (namesakes t (m ∷ ms))
  unfolding namesakes count_named
  later-namesake u ts f m ms n once a rest =
      rw (matches-name t m.type named-so)
      (past_first m (namesakes t ms) (count_named (name_of t) f) (same_name (name_of t) (name_of m.type)) (among-counts (name_of t) n a) once rest)

  -- the one namesake is the one member of that name, with its type and its tokens
  one-namesake : {u : Tree} {ts : List Token} {f : Forest} {at : ℕ} {ms : List Member} → at ≤ length s → name_of u ≡ name_of t
      → count_named (name_of t) f ≡ 1 → Gives s u ts f at → Listed s f at ms → Namesake s u ts (namesakes t ms)
  one-namesake {u} {ts} h n once (first {f = f} {stop = q} e) (next {at = at} {stop = stop} {ts = us} {row = row} {ms = ms} e' l) =
      first-namesake u ts us f at q stop row ms h n once e e' l
  one-namesake {u} {ts} h n once (after {next = q} e g) (next {t = v} {f = f} {at = at} {stop = stop} {ms = ms} e' l) =
      later-namesake u ts f _ ms n once (gives-among g)
      (λ o. one-namesake (ends s v at q _ h e) n o g (subst (λ (k : ℕ). Listed s f k ms) (same_end e e') l))

  -- what the definition gives t by its place j, the rig's members being f
  module _ {f : Forest} {ms : List Member} (l : Listed s f 0 ms) (j : ℕ) where
    pub bytes-missing : Missing t f → member_bytes j t s (namesakes t ms) ≡ refused 42 j
    unfolding member_bytes member_found searched search_number
    bytes-missing h = rw (none_left (namesakes t ms) (namesakes-count l ∙ h)) refl

    pub bytes-doubled : Doubled t f → member_bytes j t s (namesakes t ms) ≡ refused 43 j
    unfolding member_bytes member_found searched search_number
    bytes-doubled h = several-found (namesakes t ms) (omega (arith, namesakes-count l))
      where
        several-found : (ns : List Member) → 2 ≤ length ns → member_bytes j t s ns ≡ refused 43 j
        several-found [] g = absurd (omega arith)
        several-found (m ∷ []) g = absurd (omega arith)
        several-found (m ∷ n ∷ ns) g = refl

    -- "Only a member found exactly once is compared further."
    pub bytes-once : {u : Tree} {ts : List Token} → name_of u ≡ name_of t → FoundOnce t f → Gives s u ts f 0
        → (stop : ℕ) × (member_bytes j t s (namesakes t ms) ≡ require (same_tree t u) 44 j (read stop (joined s ts)))
    unfolding member_bytes member_found
    bytes-once {u} {ts} n once g = (
      x.member.stop,
      rw x.only
          (compared (same_tree t x.member.type) x.member x.bytes
          ∙ ap (λ (v : Tree). require (same_tree t v) 44 j (read x.member.stop (joined s ts))) x.type),
    )
      where
        x : Namesake s u ts (namesakes t ms)
        x = one-namesake (omega arith) n once g l

        compared : (b : Bool) (m : Member) → slice m.start m.stop s ≡ joined s ts
            → and_then (require b 44 j (read m.stop m)) (λ at k. read at (slice k.start k.stop s))
            ≡ require b 44 j (read m.stop (joined s ts))
        compared true m e = ap (λ (xs : List ℕ). read m.stop xs) e
        compared false m e = refl

    pub bytes-right : {ts : List Token} → FoundOnce t f → Gives s t ts f 0
        → (stop : ℕ) × (member_bytes j t s (namesakes t ms) ≡ read stop (joined s ts))
    bytes-right {ts} once g =
        let x = bytes-once refl once g in
        (x.0, x.1 ∙ ap (λ (b : Bool). require b 44 j (read x.0 (joined s ts))) (same_refl t))

-- the reader's member t among the members of two rigs that agree on it: what follows goes by its bytes alone
pub agree-member : {s s' : List ℕ} {f f' : Forest} {ms ms' : List Member} → Listed s f 0 ms → Listed s' f' 0 ms' → (t : Tree) → NonEmpty (name_of t)
    → AgreeOn t s f s' f' → (j : ℕ) (rest : List ℕ → Outcome (List ℕ))
    → and_then (member_bytes j t s (namesakes t ms)) (λ _ x. rest x) ≡ and_then (member_bytes j t s' (namesakes t ms')) (λ _ x. rest x)
agree-member {s} {s'} l l' t n (none h h') j rest = rw (bytes-missing s t n l j h, bytes-missing s' t n l' j h') refl
agree-member {s} {s'} l l' t n (several h h') j rest = rw (bytes-doubled s t n l j h, bytes-doubled s' t n l' j h') refl
agree-member {s} {s'} l l' t n (each {u} {ts} {ts'} e once once' given given' same) j rest =
    let x = bytes-once s t n l j e once given in
    let x' = bytes-once s' t n l' j e once' given' in
    rw (x.1, x'.1, same) (either x.0 x'.0 (joined s' ts') (same_tree t u))
  where
    either : (p q : ℕ) (xs : List ℕ) (c : Bool)
        → and_then (require c 44 j (read p xs)) (λ _ y. rest y) ≡ and_then (require c 44 j (read q xs)) (λ _ y. rest y)
    either p q xs true = refl
    either p q xs false = refl
