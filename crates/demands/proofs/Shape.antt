-- What demand 3 speaks of, in its words and document 01's: rig records, readers' descriptors, and what the members of the one are to the
-- members of the other. All of it is over trees and the walk; nothing here follows how a record is read.
use mathlib.Core.Path.{◌≡◌}
use mathlib.Core.Logic.{◌≢◌}
use mathlib.Core.Bool.{cond}
use mathlib.Core.List.{List, [], ◌∷◌, ◌++◌}
use Prim.Native.Nat.{ℕ, suc, ◌+◌, ◌≤◌, ◌<◌}
use lib.ListN.{length, drop}
use Rattle.descriptor.specs.Tree.{Name, unnamed, named, empty, items, pairs, text, dimensions, members, subtype, Tree, node, Forest, nil, cons}
use Rattle.descriptor.specs.Outcome.{read}
use Rattle.descriptor.specs.Answers.{accepted}
use Rattle.descriptor.specs.Output.{Written, unwritten, given}
use Rattle.canonical.specs.Equality.{same_name}
use Rattle.flattened.specs.Order.{big}
use Rattle.flattened.specs.Token.{Token, joined}
use Rattle.flattened.specs.Walk.{walk, walked}
use Rattle.demands.proofs.Accepted.{Described}

abbrev pub name_of : Tree → Name
name_of (node c b f m) = m

-- a name that is there and is not empty
unfoldable pub NonEmpty : Name → Type 0
NonEmpty unnamed = ⊥
NonEmpty (named []) = ⊥
NonEmpty (named (x ∷ xs)) = Unit {0}

-- none of the members has the name m
unfoldable pub NoneNamed : Name → Forest → Type 0
NoneNamed m nil = Unit {0}
NoneNamed m (cons t f) = (name_of t ≢ m) × NoneNamed m f

-- "members with distinct, non-empty names"
unfoldable pub DistinctNames : Forest → Type 0
DistinctNames nil = Unit {0}
DistinctNames (cons t f) = NonEmpty (name_of t) × NoneNamed (name_of t) f × DistinctNames f

-- an accepted descriptor that is a cluster of the members f
pub record ClusterOf (d : List ℕ) (f : Forest) : Type 0 where
  pub described : Described d
  pub code : ℕ
  pub count : ℕ
  pub name : Name
  pub top : described.tree ≡ node code (members count) f name

-- "any rig record (accepted data under a rig's descriptor that is a cluster)": the descriptor w, the data s, the cluster's members f
pub record Rig (w s : List ℕ) (f : Forest) : Type 0 where
  pub cluster : ClusterOf w f
  pub end : ℕ
  pub tokens : List Token
  pub accepted : walked big cluster.described.tree s ≡ read end tokens

-- "any accepted reader's descriptor that is a cluster of members with distinct, non-empty names"
pub record Reader (r : List ℕ) (g : Forest) : Type 0 where
  pub cluster : ClusterOf r g
  pub names : DistinctNames g

-- u is one of the members
pub data Among (u : Tree) : Forest → Type 0 where
  here : {f : Forest} → Among u (cons u f)
  further : {t : Tree} {f : Forest} → Among u f → Among u (cons t f)

-- how many of the members have the name m; "Names match by bytes"
unfoldable pub count_named : Name → Forest → ℕ
count_named m nil = 0
count_named m (cons t f) = cond (same_name m (name_of t)) (suc (count_named m f)) (count_named m f)

-- the top is a cluster
unfoldable pub IsCluster : Tree → Type 0
IsCluster (node c empty f m) = ⊥
IsCluster (node c (items xs) f m) = ⊥
IsCluster (node c (pairs ps) f m) = ⊥
IsCluster (node c text f m) = ⊥
IsCluster (node c (dimensions k) f m) = ⊥
IsCluster (node c (members k) f m) = Unit {0}
IsCluster (node c subtype f m) = ⊥

-- "a member's name is missing, empty or an earlier member's": the member t, those before it
pub data BadName (before : Forest) (t : Tree) : Type 0 where
  nameless : ¬ NonEmpty (name_of t) → BadName before t
  earlier : 1 ≤ count_named (name_of t) before → BadName before t

-- the first such member of g, counted from j
pub data FirstBad : Forest → ℕ → Forest → ℕ → Type 0 where
  bad : {before : Forest} {j : ℕ} {t : Tree} {g : Forest} → BadName before t → FirstBad before j (cons t g) j
  later : {before : Forest} {j place : ℕ} {t : Tree} {g : Forest} → ¬ BadName before t → FirstBad (cons t before) (j + 1) g place
      → FirstBad before j (cons t g) place

-- 40: "reader's top is no cluster, or a member's name is missing, empty or an earlier member's"; the place: "member, or 0"
pub data ReaderFault : Tree → ℕ → Type 0 where
  no_cluster : {t : Tree} → ¬ IsCluster t → ReaderFault t 0
  bad_name : {c k place : ℕ} {g : Forest} {m : Name} → FirstBad nil 0 g place → ReaderFault (node c (members k) g m) place

-- "A reader's member is missing, found once or doubled when none, one, or several (two or more) of the rig's members have its name."
-- The reader's member is t, the rig's members are f.
abbrev pub Missing : Tree → Forest → Type 0
Missing t f = count_named (name_of t) f ≡ 0

abbrev pub FoundOnce : Tree → Forest → Type 0
FoundOnce t f = count_named (name_of t) f ≡ 1

abbrev pub Doubled : Tree → Forest → Type 0
Doubled t f = 2 ≤ count_named (name_of t) f

-- "It is of another type when it is found once and the two members' descriptors are not equal by the rule above." By demand 2 two
-- descriptors are equal exactly when their trees are.
pub record OtherType (t : Tree) (f : Forest) : Type 0 where
  pub once : FoundOnce t f
  pub member : Tree
  pub among : Among member f
  pub name : name_of member ≡ name_of t
  pub differ : member ≢ t

-- it is neither missing nor doubled nor of another type
pub record Right (t : Tree) (f : Forest) : Type 0 where
  pub present : ¬ Missing t f
  pub single : ¬ Doubled t f
  pub typed : ¬ OtherType t f

-- "no reader's member is missing, doubled or of another type in the rig's cluster": the reader's members are g, the rig's f
unfoldable pub AllRight : Forest → Forest → Type 0
AllRight nil f = Unit {0}
AllRight (cons t g) f = Right t f × AllRight g f

-- "the first such member" of g, counted from j, with its number in document 01's table and its place: 42, 43, 44, "member missing; found
-- twice or more; type not equal": "reader's member"
pub data FirstWrong (f : Forest) : ℕ → Forest → ℕ → ℕ → Type 0 where
  missing : {j : ℕ} {t : Tree} {g : Forest} → Missing t f → FirstWrong f j (cons t g) 42 j
  doubled : {j : ℕ} {t : Tree} {g : Forest} → Doubled t f → FirstWrong f j (cons t g) 43 j
  other_type : {j : ℕ} {t : Tree} {g : Forest} → OtherType t f → FirstWrong f j (cons t g) 44 j
  later : {j number place : ℕ} {t : Tree} {g : Forest} → Right t f → FirstWrong f (j + 1) g number place
      → FirstWrong f j (cons t g) number place

-- the walk of the data s gives the tokens ts to u, one of the members f, the data of the first of which starts at `at`: "Each piece
-- starts exactly where the one before it ended"
pub data Gives (s : List ℕ) (u : Tree) (ts : List Token) : Forest → ℕ → Type 0 where
  first : {f : Forest} {at stop : ℕ} → walk big u s at ≡ read stop ts → Gives s u ts (cons u f) at
  after : {t : Tree} {f : Forest} {at next : ℕ} {us : List Token} → walk big t s at ≡ read next us → Gives s u ts f next
      → Gives s u ts (cons t f) at

-- "for each of its members in order, exactly the bytes the walk gives the one rig member of that name and equal type". A member of equal
-- type is the same tree, name and all.
pub data Gets (s : List ℕ) (f : Forest) : Forest → List ℕ → Type 0 where
  nothing : Gets s f nil []
  more : {t : Tree} {g : Forest} {ts : List Token} {xs : List ℕ} → FoundOnce t f → Gives s t ts f 0 → Gets s f g xs
      → Gets s f (cons t g) (joined s ts ++ xs)

-- "for each of those members' names, both have none, or both have several, or each has one, of equal types and with the same bytes": the
-- member t, one rig's data and members, and another's
pub data AgreeOn (t : Tree) (s : List ℕ) (f : Forest) (s' : List ℕ) (f' : Forest) : Type 0 where
  none : Missing t f → Missing t f' → AgreeOn t s f s' f'
  several : Doubled t f → Doubled t f' → AgreeOn t s f s' f'
  each : {u : Tree} {ts ts' : List Token} → name_of u ≡ name_of t → FoundOnce t f → FoundOnce t f' → Gives s u ts f 0 → Gives s' u ts' f' 0
      → joined s ts ≡ joined s' ts' → AgreeOn t s f s' f'

-- "two such rig records agree on the reader's members"
unfoldable pub Agree : Forest → List ℕ → Forest → List ℕ → Forest → Type 0
Agree nil s f s' f' = Unit {0}
Agree (cons t g) s f s' f' = AgreeOn t s f s' f' × Agree g s f s' f'

-- what is written where it fits
abbrev pub front : List ℕ → List ℕ → Written
front out xs = record { answer = accepted (length xs); out = xs ++ drop (length xs) out }

-- how an answer refuses: "for the first such member or, if there is none, because the output is too small"
pub data Refused (s : List ℕ) (f g : Forest) (out : List ℕ) (answer : Written) : Type 0 where
  -- numbers 42, 43 and 44, input 2
  for_member : {number place : ℕ} → FirstWrong f 0 g number place → answer ≡ unwritten out number 2 place → Refused s f g out answer
  -- 50, "output too small": "length needed", input 4
  for_room : {xs : List ℕ} → AllRight g f → Gets s f g xs → length out < length xs → answer ≡ unwritten out 50 4 (length xs)
      → Refused s f g out answer

-- "the same answer (number, input, place and bytes given)"
pub record SameAnswer (a b : Written) : Type 0 where
  pub number : a.answer.number ≡ b.answer.number
  pub input : a.answer.input ≡ b.answer.input
  pub place : a.answer.place ≡ b.answer.place
  pub bytes : given a ≡ given b
