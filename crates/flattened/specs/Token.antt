-- A token is document 01's piece: "A piece is one scalar, one whole string, or the size words of one array. Each piece starts exactly
-- where the one before it ended; together the pieces are the whole data."
use Rattle.std.specs.Prelude.{◌≡◌, List, [], ◌∷◌, ◌++◌, ℕ, ◌<◌}
use Rattle.std.proofs.Math.Seq.{slice}

pub data TokenKind : Type 0 where
  -- a number or flag, by its low code byte
  scalar : ℕ → TokenKind
  -- a length word and characters
  string : TokenKind
  -- an array's size words, as many as it has dimensions
  sizes : ℕ → TokenKind

pub record Token : Type 0 where
  pub kind : TokenKind
  pub start : ℕ
  pub stop : ℕ

-- a token's bytes in the data s
abbrev pub token_bytes : List ℕ → Token → List ℕ
token_bytes s t = slice t.start t.stop s

-- "together the pieces are the whole data": the tokens' bytes, joined
unfoldable pub joined : List ℕ → List Token → List ℕ
joined s [] = []
joined s (t ∷ ts) = token_bytes s t ++ joined s ts

-- "Each piece starts exactly where the one before it ended": the first at a, the last up to b, and each takes at least one byte
pub data Chain : ℕ → List Token → ℕ → Type 0 where
  done : {a : ℕ} → Chain a [] a
  link : {a b : ℕ} {t : Token} {ts : List Token} → t.start ≡ a → a < t.stop → Chain t.stop ts b → Chain a (t ∷ ts) b
