-- The members of a list by the marks of their names. Members are counted from 1, 0 being none.
use Rattle.std.specs.Prelude.{◌≡◌, Bool, true, false, cond, Option, None, Some, List, ℕ, zero, suc, ◌+◌, ◌-◌, ◌*◌, ◌/◌, ◌%◌, ◌≤◌, ◌<◌, ltb, eqb, length, get_or}
use Rattle.descriptor.specs.Tree.{Name, unnamed, named}
use Rattle.number.specs.Endian.{be}
use Rattle.members.specs.inner.Names.{named_at}

-- a number below 256 from two words of four bytes
unfoldable pub spread : ℕ → ℕ → ℕ
spread first last = (first * 1393620033 + last * 1759876303) / 16777216 % 256

-- how many of n characters are taken from either end
unfoldable pub ends : ℕ → ℕ
ends n = cond (ltb n 4) n 4

-- the mark of a name with these characters
unfoldable pub mark_of : List ℕ → ℕ
mark_of x = spread (be x 0 (ends (length x))) (be x (length x - ends (length x)) (ends (length x)))

-- whether the name has this mark
unfoldable pub has_mark : ℕ → Name → Bool
has_mark m unnamed = false
has_mark m (named x) = eqb (mark_of x) m

-- the last of the first n members whose name passes the test
unfoldable pub last_of : (Name → Bool) → List ℕ → List ℕ → ℕ → ℕ
last_of test d names zero = 0
last_of test d names (suc i) = cond (test (named_at d (get_or names i 0))) (suc i) (last_of test d names i)

-- the member that an entry of the columns names
abbrev pub member : ℕ → Option ℕ
member zero = None
member (suc i) = Some i

-- no mark has a member yet
pub record Unchained (heads : List ℕ) : Type 0 where
  pub none : (m : ℕ) → m < 256 → get_or heads m 0 ≡ 0

-- each of the first n members is linked to the one of its mark before it
pub record Linked (d names : List ℕ) (n : ℕ) (links : List ℕ) : Type 0 where
  pub at : (i : ℕ) → i < n → (m : ℕ) → has_mark m (named_at d (get_or names i 0)) ≡ true → get_or links i 0 ≡ last_of (has_mark m) d names i

-- and each mark has the last of its members
pub record Chained (d names : List ℕ) (n : ℕ) (heads links : List ℕ) : Type 0 where
  pub last : (m : ℕ) → m < 256 → get_or heads m 0 ≡ last_of (has_mark m) d names n
  pub linked : Linked d names n links

-- the entry names no member, or one of the first n, whose name has the mark m
pub record Marked (d names : List ℕ) (n m entry : ℕ) : Type 0 where
  pub most : entry ≤ n
  pub is : (i : ℕ) → member entry ≡ Some i → has_mark m (named_at d (get_or names i 0)) ≡ true
