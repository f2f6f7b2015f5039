-- A time stamp, by document 02, CR 1: "Carry code 54 with subtype word 6 only: after it stands one unnamed cluster of four unnamed integers,
-- codes 03, 03, 07, 07".
use Rattle.std.specs.Prelude.{Bool, true, false, not, ◌&&◌, ◌||◌, List, [], ◌∷◌, ℕ, eqb}
use Rattle.descriptor.specs.Codes.{Kind, cluster_code, is_stamp}
use Rattle.descriptor.specs.Tree.{Name, unnamed, named, empty, members, Tree, node, Forest, nil, cons}

-- "subtype word 6 only"
abbrev pub stamp_subtype : ℕ
stamp_subtype = 6

-- "codes 03, 03, 07, 07"
abbrev pub stamp_codes : List ℕ
stamp_codes = 0x03 ∷ 0x03 ∷ 0x07 ∷ 0x07 ∷ []

-- an unnamed integer of the code c
abbrev pub integer : ℕ → Tree
integer c = node c empty nil unnamed

-- unnamed integers of these codes
unfoldable pub integers : List ℕ → Forest
integers [] = nil
integers (c ∷ cs) = cons (integer c) (integers cs)

-- "one unnamed cluster of four unnamed integers"
unfoldable pub stamp_inside : Forest
stamp_inside = cons (node cluster_code (members 4) (integers stamp_codes) unnamed) nil

-- Whether descriptors that are accepted by themselves are these, for the check.

unfoldable pub is_unnamed : Name → Bool
is_unnamed unnamed = true
is_unnamed (named x) = false

-- unnamed descriptors of these codes, and no more
unfoldable pub are_unnamed : List ℕ → Forest → Bool
are_unnamed [] nil = true
are_unnamed [] (cons t f) = false
are_unnamed (c ∷ cs) nil = false
are_unnamed (c ∷ cs) (cons (node d b g m) f) = eqb d c && (is_unnamed m && are_unnamed cs f)

-- an unnamed cluster of those
unfoldable pub is_stamp_cluster : Tree → Bool
is_stamp_cluster (node c b f m) = eqb c cluster_code && (are_unnamed stamp_codes f && is_unnamed m)

-- that cluster alone
unfoldable pub is_stamp_inside : Forest → Bool
is_stamp_inside nil = false
is_stamp_inside (cons t nil) = is_stamp_cluster t
is_stamp_inside (cons t (cons u f)) = false

-- what stands inside a descriptor of the kind k: a time stamp has that cluster
abbrev pub inside_fits : Kind → Forest → Bool
inside_fits k f = not (is_stamp k) || is_stamp_inside f
