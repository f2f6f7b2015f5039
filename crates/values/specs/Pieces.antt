-- The pieces of a value: "A piece is one scalar, one whole string, or the size words of one array. Each piece starts exactly where the one
-- before it ended; together the pieces are the whole data." They are the same in both byte orders, "the same layout".
use Rattle.std.specs.Prelude.{List, [], ◌∷◌, ◌++◌, ℕ, ◌+◌, ◌*◌, length}
use Rattle.descriptor.specs.Tree.{Tree, node, Forest, nil, cons}
use Rattle.descriptor.specs.Width.{width_of}
use Rattle.flattened.specs.Order.{big}
use Rattle.flattened.specs.Token.{scalar, string, sizes, Token}
use Rattle.flattened.specs.Walk.{token}
use Rattle.values.specs.Value.{Value, numbers, characters, elements, parts, Values, none, also, flatten}

unfoldable mutual
  -- the pieces of a value of the type t whose bytes start at p
  pub pieces_at : ℕ → Tree → Value → List Token
  pieces_at p (node c b f m) (numbers ns) = token (scalar c) p (p + width_of c) ∷ []
  pieces_at p t (characters x) = token string p (p + 4 + length x) ∷ []
  pieces_at p (node c b f m) (elements ns vs) =
      token (sizes (length ns)) p (p + 4 * length ns) ∷ element_pieces (p + 4 * length ns) f vs
  pieces_at p (node c b f m) (parts vs) = member_pieces p f vs

  -- those of an array's elements
  pub element_pieces : ℕ → Forest → Values → List Token
  element_pieces p f none = []
  element_pieces p nil (also v vs) = []
  element_pieces p (cons e f) (also v vs) = pieces_at p e v ++ element_pieces (p + length (flatten big e v)) (cons e f) vs

  -- those of a cluster's members
  pub member_pieces : ℕ → Forest → Values → List Token
  member_pieces p f none = []
  member_pieces p nil (also v vs) = []
  member_pieces p (cons t f) (also v vs) = pieces_at p t v ++ member_pieces (p + length (flatten big t v)) f vs

-- the pieces of data
abbrev pub pieces : Tree → Value → List Token
pieces t v = pieces_at 0 t v
