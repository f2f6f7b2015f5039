-- The top of a descriptor: whether it is a cluster, and its members.
use Rattle.std.specs.Prelude.{◌≡◌, Bool, true, false, List, ℕ, suc, ◌≤◌, Result, Ok, Err}
use Rattle.descriptor.specs.Limits.{descriptor_limit, data_limit}
use Rattle.descriptor.specs.Outcome.{refused, read}
use Rattle.descriptor.specs.Tree.{Fields, empty, items, pairs, text, dimensions, members, subtype}
use Rattle.descriptor.specs.inner.Standing.{standing, fields_of, inside_of}
use Rattle.descriptor.specs.declared.inside.Inside.{Inside}
use Rattle.descriptor.specs.declared.refusal.Refusal.{Refusal}
use Rattle.flattened.specs.Order.{big}
use Rattle.flattened.specs.Walk.{walk, walk_all}
use Rattle.flattened.specs.inner.Types.{type_at, types_at}
use Rattle.members.specs.inner.Members.{Members, top_at, top_count, Column}
use Rattle.members.specs.declared.roster.Roster.{Roster}
use Rattle.resolution.specs.Record.{reader_members}
use Rattle.resolution.specs.inner.Data.{data_from, end_of}
use Rattle.resolution.specs.inner.Names.{Naming}

-- the fields of a cluster
unfoldable pub is_members : Fields → Bool
is_members empty = false
is_members (items xs) = false
is_members (pairs ps) = false
is_members text = false
is_members (dimensions d) = false
is_members (members k) = true
is_members subtype = false

-- whether the top is a cluster
abbrev pub is_cluster : List ℕ → Bool
is_cluster d = is_members (fields_of (standing d 0))

-- the types whose data is that of the top: a cluster's members, or the type itself
pub record TopRow (d : List ℕ) (r : Inside) : Type 0 where
  pub row : Members d r.children r.at
  pub walks : (s : List ℕ) → end_of (walk_all big (types_at d r.children r.at) s 0) ≡ end_of (walk big (type_at d 0) s 0)
  pub cluster : is_cluster d ≡ true → r ≡ inside_of d 0

-- where the walk was read, the column has the starts of a cluster's members' data; a refusal's place lies in data that is carried
abbrev pub TopStarts : List ℕ → List ℕ → List ℕ → Result (Unit {0}) Refusal → Type 0
TopStarts d s starts (Ok _) = is_cluster d ≡ true → Column (data_from d (top_at d) s) (suc (top_count d)) starts
TopStarts d s starts (Err r) = r.place ≤ data_limit

-- the reader is a cluster, its names are right, and all its members are listed
pub record NamesRight (d : List ℕ) (roster : Roster) : Type 0 where
  pub cluster : is_cluster d ≡ true
  pub of : roster.d.now ≡ d
  pub all : roster.count ≡ top_count d
  pub named : Naming roster.count roster.names.now
  pub last : ℕ
  pub is : reader_members (type_at d 0) ≡ read last (types_at d roster.count (top_at d))

-- or it is refused
pub record NamesWrong (d : List ℕ) (r : Refusal) : Type 0 where
  pub place : r.place ≤ descriptor_limit
  pub is : reader_members (type_at d 0) ≡ refused r.number r.place

-- the reader's members, or the refusal of them
abbrev pub TopNames : List ℕ → Result Roster Refusal → Type 0
TopNames d (Ok roster) = NamesRight d roster
TopNames d (Err r) = NamesWrong d r
