-- The rig's members that a reader's are read from, as the code picks them: by number, in a column.
use Rattle.std.specs.Prelude.{◌≡◌, List, ℕ, suc, ◌+◌, ◌*◌, ◌≤◌, ◌<◌, length, get_or, take, Result, Ok, Err}
use Rattle.descriptor.specs.Limits.{data_limit}
use Rattle.descriptor.specs.Outcome.{refused, read}
use Rattle.descriptor.specs.Tree.{named, Tree}
use Rattle.descriptor.specs.declared.refusal.Refusal.{Refusal}
use Rattle.flattened.specs.inner.Types.{type_at, types_at}
use Rattle.members.specs.inner.Members.{Inner, top_at, Column}
use Rattle.members.specs.inner.Names.{name_of}
use Rattle.members.specs.inner.Joining.{picked_bytes}
use Rattle.resolution.specs.Record.{namesakes, member_found, joined_bytes}
use Rattle.resolution.specs.inner.Data.{data_from, member_from}
use Rattle.resolution.specs.inner.Searching.{all_members}

-- the descriptor at q of r has the name x
pub record Called (r : List ℕ) (q : ℕ) (x : List ℕ) : Type 0 where
  pub inner : Inner r q
  pub name : name_of (type_at r q) ≡ named x

-- the reader's member t, number j, is read from the member i of w, which has k
pub record Picked (w : List ℕ) (k : ℕ) (t : Tree) (j i : ℕ) : Type 0 where
  pub within : i < k
  pub is : (s : List ℕ)
      → member_found j t (namesakes t (all_members w k s)) ≡ read (data_from w (top_at w) s (suc i)) (member_from w (top_at w) s i)

-- or is at fault
pub record Unpicked (w : List ℕ) (k : ℕ) (t : Tree) (j : ℕ) (r : Refusal) : Type 0 where
  pub place : r.place ≡ j
  pub is : (s : List ℕ) → member_found j t (namesakes t (all_members w k s)) ≡ refused r.number r.place

-- the member of w, which has k, that the reader's member t, number j, is read from, by its number
abbrev pub Picks : List ℕ → ℕ → Tree → ℕ → Result ℕ Refusal → Type 0
Picks w k t j (Ok i) = Picked w k t j i
Picks w k t j (Err r) = Unpicked w k t j r

-- the first n members picked
pub record PickedWithin (k n : ℕ) (picks : List ℕ) : Type 0 where
  pub at : (j : ℕ) → j < n → get_or picks j 0 < k

-- the starts of k members' data, and the last one's end, do not go back, and lie in data that is carried
pub record Ascends (k : ℕ) (starts : List ℕ) : Type 0 where
  pub order : (i : ℕ) → i < k → get_or starts i 0 ≤ get_or starts (i + 1) 0
  pub short : (i : ℕ) → i ≤ k → get_or starts i 0 ≤ data_limit

-- and lie in the data s
pub record StartsIn (k : ℕ) (starts s : List ℕ) : Type 0 where
  pub at : (i : ℕ) → i ≤ k → get_or starts i 0 ≤ length s

-- the reader's n members are read from the members picked, whose bytes are so long
pub record Planned (w : List ℕ) (k : ℕ) (r : List ℕ) (n : ℕ) (starts picks : List ℕ) (total : ℕ) : Type 0 where
  pub is : (s : List ℕ) → Column (data_from w (top_at w) s) (suc k) starts
      → joined_bytes 0 (types_at r n (top_at r)) s (all_members w k s) ≡ read n (picked_bytes s starts (take n picks))
  pub long : (s : List ℕ) → StartsIn k starts s → length (picked_bytes s starts (take n picks)) ≡ total
  pub within : PickedWithin k n picks
  pub most : total ≤ n * data_limit

-- or the first at fault is the refusal
pub record Unplanned (w : List ℕ) (k : ℕ) (r : List ℕ) (n : ℕ) (starts : List ℕ) (x : Refusal) : Type 0 where
  pub is : (s : List ℕ) → Column (data_from w (top_at w) s) (suc k) starts
      → joined_bytes 0 (types_at r n (top_at r)) s (all_members w k s) ≡ refused x.number x.place
  pub place : x.place < n

-- what the reader's n members are read from
abbrev pub Plans : List ℕ → ℕ → List ℕ → ℕ → List ℕ → List ℕ → Result ℕ Refusal → Type 0
Plans w k r n starts picks (Ok total) = Planned w k r n starts picks total
Plans w k r n starts picks (Err x) = Unplanned w k r n starts x
