-- What the definition of the record in a reader's shape comes to for all of the reader's members, in demand 3's words. Rests on the laws of
-- its search and on the comparison of trees deciding whether well-formed trees are one.
use mathlib.Core.Path.{◌≡◌, refl, sym, ap, subst, ◌∙◌}
use mathlib.Core.Bool.{Bool, true, false}
use mathlib.Core.List.{List, ◌++◌}
use Prim.Native.Nat.{ℕ, zero, suc, ◌+◌, ◌≤◌}
use native.Mathlib.Omega.{arith}
use Rattle.descriptor.specs.Tree.{Tree, Forest, nil, cons}
use Rattle.descriptor.specs.Encoding.{WellFormed, AllWellFormed}
use Rattle.descriptor.specs.Outcome.{Outcome, refused, read, and_then, require}
use Rattle.descriptor.proofs.Steps.{impossible}
use Rattle.canonical.specs.Equality.{same_tree}
use Rattle.canonical.proofs.Same.{same-tree, same_refl}
use Rattle.flattened.specs.Token.{Token, joined}
use Rattle.resolution.specs.Record.{Member, namesakes, member_bytes, joined_bytes}
use Rattle.demands.proofs.Shape.{name_of, NonEmpty, DistinctNames, Among, count_named, Missing, FoundOnce, Doubled, OtherType, Right, AllRight, FirstWrong, missing, doubled, other_type, later, Gives, Gets, nothing, more, Agree}
use Rattle.demands.proofs.Namesakes.{bytes-missing, bytes-doubled, bytes-once, bytes-right, agree-member}
use Rattle.demands.proofs.Members.{counted-among, among-formed, Listed, among-gives}

-- what becomes of the reader's member t
data Fate (s : List ℕ) (t : Tree) (f : Forest) : Type 0 where
  is_missing : Missing t f → Fate s t f
  is_doubled : Doubled t f → Fate s t f
  is_other : OtherType t f → Fate s t f
  is_right : {ts : List Token} → FoundOnce t f → Gives s t ts f 0 → Fate s t f

-- what becomes of the reader's members g from number j on
pub data Verdict (s : List ℕ) (f : Forest) (j : ℕ) (g : Forest) : Type 0 where
  got : {xs : List ℕ} → Gets s f g xs → Verdict s f j g
  wrong : {number place : ℕ} → FirstWrong f j g number place → Verdict s f j g

-- the rig's data and members, which are well formed
module _ (s : List ℕ) {f : Forest} {ms : List Member} (l : Listed s f 0 ms) (a : Bool) (formed : AllWellFormed a f) where
  -- the reader's member t, which has a name and is well formed
  module _ (t : Tree) (named-so : NonEmpty (name_of t)) (b : Bool) (well : WellFormed b t) where
    bytes-other : OtherType t f → (j : ℕ) → member_bytes j t s (namesakes t ms) ≡ refused 44 j
    bytes-other x j =
        let given = among-gives x.among l in
        let known = bytes-once s t named-so l j x.name x.once given.1 in
        known.1 ∙ differs (same_tree t x.member) refl (read known.0 (joined s given.0))
      where
        differs : (c : Bool) → same_tree t x.member ≡ c → (o : Outcome (List ℕ)) → require c 44 j o ≡ refused 44 j
        differs true e o = absurd (x.differ (sym (same-tree t x.member b a well (among-formed a x.among formed) e)))
        differs false e o = refl

    -- its fate is one of the four
    fate : Fate s t f
    fate = counted (count_named (name_of t) f) refl
      where
        typed : (u : Tree) → Among u f → name_of u ≡ name_of t → FoundOnce t f → (c : Bool) → same_tree u t ≡ c → Fate s t f
        typed u i n once true e =
            let same : u ≡ t = same-tree u t a b (among-formed a i formed) well e in
            let given = among-gives (subst (λ (v : Tree). Among v f) same i) l in
            is_right once given.1
        typed u i n once false e = is_other (record {
          once = once;
          member = u;
          among = i;
          name = n;
          differ = λ same. impossible (sym e ∙ (ap (λ (v : Tree). same_tree v t) same ∙ same_refl t));
        })

        counted : (k : ℕ) → count_named (name_of t) f ≡ k → Fate s t f
        counted zero e = is_missing e
        counted (suc zero) e =
            let x = counted-among (name_of t) f (omega arith) in
            typed x.0 x.1 x.2 e (same_tree x.0 t) refl
        counted (suc (suc k)) e = is_doubled (omega arith)

    -- a member with the tokens of the one of its name and type is neither missing nor doubled nor of another type
    given-right : {ts : List Token} → FoundOnce t f → Gives s t ts f 0 → Right t f
    given-right once g = record {
      present = λ h. omega arith;
      single = λ h. omega arith;
      typed = λ x. let z : ◌≡◌ {A = ℕ} 0 1 = cc ((bytes-right s t named-so l 0 once g).1, bytes-other x 0) in omega arith;
    }

    -- and what is none of these is such a member
    right-given : Right t f → (ts : List Token) × FoundOnce t f × Gives s t ts f 0
    right-given r = of fate
      where
        of : Fate s t f → (ts : List Token) × FoundOnce t f × Gives s t ts f 0
        of (is_missing h) = absurd (r.present h)
        of (is_doubled h) = absurd (r.single h)
        of (is_other x) = absurd (r.typed x)
        of (is_right once g) = (_, once, g)

  -- the reader's members g, which have names and are well formed: where one is at fault, the first such member is refused
  pub joined-wrong : {j number place : ℕ} {g : Forest} (b : Bool) → DistinctNames g → AllWellFormed b g → FirstWrong f j g number place
      → joined_bytes j g s ms ≡ refused number place
  unfolding joined_bytes DistinctNames WellFormed
  joined-wrong {j} b names well (missing {t = t} h) = rw (bytes-missing s t names.0 l j h) refl
  joined-wrong {j} b names well (doubled {t = t} h) = rw (bytes-doubled s t names.0 l j h) refl
  joined-wrong {j} b names well (other_type {t = t} x) = rw (bytes-other t names.0 b well.0 x j) refl
  joined-wrong {j} b names well (later {t = t} right rest) =
      let x = right-given t names.0 b well.0 right in
      rw ((bytes-right s t names.0 l j x.1 x.2).1, joined-wrong b names.2 well.1 rest) refl

  -- either the reader gets its bytes or one is at fault
  pub verdict : (b : Bool) (g : Forest) → DistinctNames g → AllWellFormed b g → (j : ℕ) → Verdict s f j g
  unfolding DistinctNames WellFormed
  verdict b nil names well j = got nothing
  verdict b (cons t g) names well j = judged (fate t names.0 b well.0) (verdict b g names.2 well.1 (j + 1))
    where
      judged : Fate s t f → Verdict s f (j + 1) g → Verdict s f j (cons t g)
      judged (is_missing h) v = wrong (missing h)
      judged (is_doubled h) v = wrong (doubled h)
      judged (is_other x) v = wrong (other_type x)
      judged (is_right once given) (got rest) = got (more once given rest)
      judged (is_right once given) (wrong rest) = wrong (later (given-right t names.0 b well.0 once given) rest)

  -- and where it gets them, none is
  pub gets-right : {g : Forest} {xs : List ℕ} (b : Bool) → DistinctNames g → AllWellFormed b g → Gets s f g xs → AllRight g f
  unfolding AllRight DistinctNames WellFormed
  gets-right b names well nothing = tt
  gets-right b names well (more {t = t} once given rest) =
      (given-right t names.0 b well.0 once given, gets-right b names.2 well.1 rest)

-- where each of the reader's members is there once with equal type, what the reader gets is read
pub joined-gets : {s : List ℕ} {f g : Forest} {ms : List Member} {xs : List ℕ} → Listed s f 0 ms → DistinctNames g → Gets s f g xs → (j : ℕ)
    → (last : ℕ) × (joined_bytes j g s ms ≡ read last xs)
unfolding joined_bytes DistinctNames
joined-gets l names nothing j = (j, refl)
joined-gets {s} l names (more {t = t} once given rest) j =
    let here = bytes-right s t names.0 l j once given in
    let others = joined-gets l names.2 rest (j + 1) in
    (others.0, rw (here.1, others.1) refl)

-- no member is at fault where none is
pub right-wrong : {f g : Forest} {j number place : ℕ} → AllRight g f → FirstWrong f j g number place → ⊥
unfolding AllRight
right-wrong r (missing h) = r.0.present h
right-wrong r (doubled h) = r.0.single h
right-wrong r (other_type x) = r.0.typed x
right-wrong r (later h rest) = right-wrong r.1 rest

-- its number is one of 42, 43 and 44
pub wrong-number : {f g : Forest} {j number place : ℕ} → FirstWrong f j g number place → (42 ≤ number) × (number ≤ 44)
wrong-number (missing h) = omega arith
wrong-number (doubled h) = omega arith
wrong-number (other_type x) = omega arith
wrong-number (later h rest) = wrong-number rest

-- the same is read of two rigs that agree on the reader's members
pub joined-agree : {s s' : List ℕ} {f f' : Forest} {ms ms' : List Member} → Listed s f 0 ms → Listed s' f' 0 ms' → (g : Forest) → DistinctNames g
    → Agree g s f s' f' → (j : ℕ) → joined_bytes j g s ms ≡ joined_bytes j g s' ms'
unfolding joined_bytes DistinctNames Agree
joined-agree l l' nil names a j = refl
joined-agree {s' = s'} {ms' = ms'} l l' (cons t g) names a j =
    rw (joined-agree l l' g names.2 a.1 (j + 1))
    (agree-member l l' t names.0 a.0 j (λ x. and_then (joined_bytes (j + 1) g s' ms') (λ last xs. read last (x ++ xs))))
