-- The tokens of a chain, each turned in its place, are the chain's reversed bytes in one piece; a token's reversed bytes are as many as its
-- bytes. Rests on the definition of the reversed data.
use mathlib.Core.Path.{◌≡◌, refl, sym, ap, ap₂, ◌∙◌}
use mathlib.Core.List.{List, ◌++◌, reverse}
use Prim.Native.Nat.{ℕ, zero, suc, ◌+◌, ◌<◌, ◌≤◌}
use native.Mathlib.Omega.{arith}
use lib.ListN.{length, take, drop, length-append, length-reverse, length-take, length-drop}
use lib.Seq.{sets, sets-eq, length-slice}
use Rattle.flattened.specs.Token.{TokenKind, scalar, string, sizes, Token, token_bytes, Chain, done, link}
use Rattle.number.proofs.Writing.{sets-append}
use Rattle.byte_order.specs.Reversal.{reverse_each, number_count, number_width, reverse_token, reversed}
use Rattle.turning.specs.inner.Tokens.{turned_tokens}
use Rattle.byte_order.proofs.Chained.{chain-order}

-- numbers reversed are as many bytes
each-length : (w k : ℕ) (x : List ℕ) → length (reverse_each w k x) ≡ length x
unfolding reverse_each
each-length w zero x = refl
each-length w (suc k) x =
    let first : List ℕ = reverse (take w x) in
    let rest : List ℕ = reverse_each w k (drop w x) in
    omega (arith, length-append first rest, length-reverse (take w x), each-length w k (drop w x), length-take w x, length-drop w x)

token-length : (k : TokenKind) (x : List ℕ) → length (reverse_token k x) ≡ length x
unfolding reverse_token
token-length (scalar c) x = each-length (number_width c) (number_count c) x
token-length string x = each-length 4 1 x
token-length (sizes k) x = each-length 4 k x

module _ (s : List ℕ) where
  -- the reversed bytes of a token that starts at a
  part_length : (a : ℕ) (t : Token) → t.start ≡ a → a < t.stop → t.stop ≤ length s → a + length (reverse_token t.kind (token_bytes s t)) ≡ t.stop
  part_length a t e h l = omega (arith, token-length t.kind (token_bytes s t), length-slice t.start t.stop s l)

  -- of a chain
  chain_length : {a b : ℕ} {ts : List Token} → Chain a ts b → b ≤ length s → a + length (reversed s ts) ≡ b
  unfolding reversed
  chain_length done inside = omega arith
  chain_length (link {a = a} {t = t} {ts = ts} e h c) inside =
      let bytes : List ℕ = reverse_token t.kind (token_bytes s t) in
      omega (arith, length-append bytes (reversed s ts), part_length a t e h (omega (arith, chain-order c)), chain_length c inside)

  chain-turned : {a b : ℕ} {ts : List Token} → Chain a ts b → b ≤ length s → (out : List ℕ) → turned_tokens s ts out ≡ sets out a (reversed s ts)
  unfolding reversed turned_tokens
  chain-turned done inside out = refl
  chain-turned (link {a = a} {t = t} {ts = ts} e h c) inside out =
      let bytes : List ℕ = reverse_token t.kind (token_bytes s t) in
      chain-turned c inside (sets out t.start bytes)
      ∙ ap₂ (λ (p q : ℕ). sets (sets out p bytes) q (reversed s ts)) e (sym (part_length a t e h (omega (arith, chain-order c))))
      ∙ sym (sets-append out a bytes (reversed s ts))

  -- of all the data
  module _ (ts : List Token) (chain : Chain 0 ts (length s)) where
    pub whole_length : length (reversed s ts) ≡ length s
    whole_length = omega (arith, chain_length chain (omega arith))

    pub whole-turned : (out : List ℕ) → length s ≤ length out → turned_tokens s ts out ≡ reversed s ts ++ drop (length (reversed s ts)) out
    whole-turned out room =
        let none : 0 + length (reversed s ts) ≡ length (reversed s ts) = omega arith in
        chain-turned chain (omega arith) out
        ∙ sets-eq (reversed s ts) out 0 (omega (arith, whole_length))
        ∙ ap (λ (n : ℕ). reversed s ts ++ drop n out) none
