-- What is left of a descriptor after its children: of a time stamp whether they are the right ones, by their bytes; then its name.
use Rattle.std.specs.Prelude.{Bool, true, not, ◌&&◌, ◌||◌, List, [], ◌∷◌, ℕ, ◌+◌, ◌≤◌, eqb, length}
use Rattle.number.specs.Endian.{be}
use Rattle.descriptor.specs.Codes.{Kind, cluster_code, is_stamp}
use Rattle.descriptor.specs.Header.{header_size, body_at, size_in, code_in}
use Rattle.descriptor.specs.Tree.{Name}
use Rattle.descriptor.specs.Stamp.{stamp_codes}
use Rattle.descriptor.specs.Outcome.{Outcome, require}
use Rattle.descriptor.specs.Check.{name_at}

-- a descriptor of the code c with nothing after its header stands at p
abbrev pub bare_at : List ℕ → ℕ → ℕ → Bool
bare_at s c p = eqb (size_in s p) header_size && eqb (code_in s p) c

-- descriptors of these codes stand one after another from p on, with nothing after their headers
unfoldable pub bares_at : List ℕ → List ℕ → ℕ → Bool
bares_at s [] p = true
bares_at s (c ∷ cs) p = bare_at s c p && bares_at s cs (p + header_size)

-- the size of a cluster of four of them without a name
abbrev pub stamp_cluster_size : ℕ
stamp_cluster_size = 22

-- a cluster of those of a time stamp, and nothing after them, stands at p
unfoldable pub stamp_at : List ℕ → ℕ → Bool
stamp_at s p =
    eqb (size_in s p) stamp_cluster_size && (eqb (code_in s p) cluster_code && (eqb (be s (body_at p) 2) 4 && bares_at s stamp_codes (body_at p + 2)))

-- the descriptor at p lies in the bytes
pub record Lies (s : List ℕ) (p : ℕ) : Type 0 where
  pub header : body_at p ≤ length s
  pub whole : p + size_in s p ≤ length s

-- what is left of the descriptor at p, of the kind k, whose children stand from `inside` up to `at`
unfoldable pub rest_at : Kind → List ℕ → ℕ → ℕ → ℕ → ℕ → Outcome Name
rest_at k s p inside stop at = require (not (is_stamp k) || stamp_at s inside) 10 p (name_at s stop at)
