-- What the search for a name among the members of a cluster finds, by their numbers.
use Rattle.std.specs.Prelude.{◌≡◌, List, ℕ}
use Rattle.descriptor.specs.Tree.{empty, named, Tree, node, nil}
use Rattle.members.specs.inner.Members.{top_at}
use Rattle.resolution.specs.Record.{Member, namesakes, searched}
use Rattle.resolution.specs.inner.Data.{members_for}
use Rattle.resolution.specs.declared.Search.{Search}

-- all k members of the cluster w, whose data is s
abbrev pub all_members : List ℕ → ℕ → List ℕ → List Member
all_members w k s = members_for w (top_at w) s 0 k

-- a descriptor of which only the name counts
abbrev pub bare : List ℕ → Tree
bare x = node 0 empty nil (named x)

-- the search for the name x found what the definitions say, whatever the data is
pub record Finds (w : List ℕ) (k : ℕ) (x : List ℕ) (found : Search) : Type 0 where
  pub eq : (s : List ℕ) → found ≡ searched (namesakes (bare x) (all_members w k s))
