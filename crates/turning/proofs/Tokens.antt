-- The numbers of a token, turned one by one in place, are the token reversed as it is defined; and tokens one after another. Over the
-- width. Rests on the laws of lists and on the widths of numbers.
use mathlib.Core.Path.{◌≡◌, refl, sym, ap, ap₂, ◌∙◌}
use mathlib.Core.List.{List, [], ◌∷◌, ◌++◌, reverse}
use Prim.Native.Nat.{ℕ, zero, suc, ◌+◌, ◌*◌, ◌≤◌}
use native.Mathlib.Nat.{zero-add, suc-add, suc-mul}
use native.Mathlib.Numerals.{add-one}
use native.Mathlib.Omega.{arith}
use lib.ListN.{length, get_or, take, drop, length-take, length-drop, length-reverse}
use lib.Seq.{sets, slice, length-sets, take-nil, drop-nil, take-take, drop-drop, drop-cons}
use Rattle.descriptor.specs.Width.{width_of}
use Rattle.flattened.specs.Token.{Token, scalar, string, sizes}
use Rattle.flattened.specs.Walk.{token}
use Rattle.number.proofs.Writing.{sets-append}
use Rattle.byte_order.specs.Reversal.{reverse_each, reverse_token, number_count, number_width}
use Rattle.byte_order.specs.inner.Turning.{turned_at, turned_run}
use Rattle.turning.specs.inner.Tokens.{turned_tokens}
use Rattle.byte_order.proofs.Widths.{numbers-all}

-- m elements from `at` on
slice-part : (at m : ℕ) (s : List ℕ) → slice at (at + m) s ≡ take m (drop at s)
slice-part zero m s = ap (λ (k : ℕ). take k s) (zero-add m)
slice-part (suc at) m [] =
    ap (drop (suc at)) (take-nil (suc at + m)) ∙ drop-nil (suc at) ∙ sym (ap (take m) (drop-nil {A = ℕ} (suc at)) ∙ take-nil m)
slice-part (suc at) m (x ∷ s) = ap (λ (k : ℕ). drop (suc at) (take k (x ∷ s))) (suc-add at m) ∙ slice-part at m s

module _ (s : List ℕ) where
  -- bytes in a row are copied
  run-copied : (n at : ℕ) (out : List ℕ) → at + n ≤ length s → turned_run 1 s n at out ≡ sets out at (take n (drop at s))
  unfolding turned_run
  run-copied zero at out h = refl
  run-copied (suc n) at out h =
      let first : drop at s ≡ get_or s at 0 ∷ drop (suc at) s = drop-cons s at 0 (omega arith) in
      ap₂ (λ (p : ℕ) (x : List ℕ). turned_run 1 s n p (sets out at (reverse (take 1 x)))) (add-one at) first
      ∙ run-copied n (suc at) (sets out at (get_or s at 0 ∷ [])) (omega arith)
      ∙ sym (ap (λ (x : List ℕ). sets out at (take (suc n) x)) first)

  -- k numbers of w bytes reversed, then m bytes as they are
  each-run : (w k m at : ℕ) (out : List ℕ) → at + (k * w + m) ≤ length s
      → sets out at (reverse_each w k (take (k * w + m) (drop at s))) ≡ sets (turned_run w s k at out) (at + k * w) (take m (drop (at + k * w) s))
  unfolding reverse_each turned_run
  each-run w zero m at out h =
      let size : 0 * w + m ≡ m = omega arith in
      let here : at ≡ at + 0 * w = omega arith in
      ap₂ (λ (k p : ℕ). sets out p (take k (drop p s))) size here
  each-run w (suc k) m at out h =
      let rest : ℕ = k * w + m in
      let size : suc k * w + m ≡ w + rest = omega (arith, suc-mul k w) in
      let x : List ℕ = take (suc k * w + m) (drop at s) in
      let first : take w x ≡ take w (drop at s) = take-take w (suc k * w + m) (drop at s) (omega arith) in
      let others : drop w x ≡ take rest (drop (at + w) s) =
      ap (λ (j : ℕ). drop w (take j (drop at s))) size ∙ slice-part w rest (drop at s) ∙ ap (take rest) (drop-drop w at s) in
      let r : List ℕ = reverse (take w (drop at s)) in
      let long : length r ≡ w = simp (length-reverse, length-take, length-drop) (omega arith) in
      let next : at + w + k * w ≡ at + suc k * w = omega (arith, suc-mul k w) in
      ap₂ (λ (y z : List ℕ). sets out at (reverse y ++ reverse_each w k z)) first others
      ∙ sets-append out at r (reverse_each w k (take rest (drop (at + w) s)))
      ∙ ap (λ (j : ℕ). sets (sets out at r) (at + j) (reverse_each w k (take rest (drop (at + w) s)))) long
      ∙ each-run w k m (at + w) (sets out at r) (omega arith)
      ∙ ap (λ (p : ℕ). sets (turned_run w s k (at + w) (sets out at r)) p (take m (drop p s))) next

  -- numbers that are the whole token
  whole_run : (w k size at : ℕ) (out : List ℕ) → k * w ≡ size → at + size ≤ length s
      → sets out at (reverse_each w k (slice at (at + size) s)) ≡ turned_run w s k at out
  whole_run w k size at out e h =
      let exact : size ≡ k * w + 0 = omega arith in
      ap (λ (x : List ℕ). sets out at (reverse_each w k x)) (slice-part at size s ∙ ap (λ (n : ℕ). take n (drop at s)) exact)
      ∙ each-run w k 0 at out (omega arith)

  -- a scalar
  pub scalar-token : (c at : ℕ) (out : List ℕ) → at + width_of c ≤ length s
      → turned_tokens s (token (scalar c) at (at + width_of c) ∷ []) out ≡ turned_run (number_width c) s (number_count c) at out
  unfolding turned_tokens reverse_token
  scalar-token c at out h = whole_run (number_width c) (number_count c) (width_of c) at out (numbers-all c) h

  -- size words
  pub sizes-token : (k at : ℕ) (out : List ℕ) → at + 4 * k ≤ length s
      → turned_tokens s (token (sizes k) at (at + 4 * k) ∷ []) out ≡ turned_run 4 s k at out
  unfolding turned_tokens reverse_token
  sizes-token k at out h = whole_run 4 k (4 * k) at out (omega arith) h

  -- a string
  pub string-token : (n at : ℕ) (out : List ℕ) → at + 4 + n ≤ length s
      → turned_tokens s (token string at (at + 4 + n) ∷ []) out ≡ turned_run 1 s n (at + 4) (turned_at 4 s at out)
  unfolding turned_tokens reverse_token turned_run
  string-token n at out h =
      let whole : at + 4 + n ≡ at + (1 * 4 + n) = omega arith in
      let start : at + 1 * 4 ≡ at + 4 = omega arith in
      ap (λ (x : List ℕ). sets out at (reverse_each 4 1 x)) (ap (λ (q : ℕ). slice at q s) whole ∙ slice-part at (1 * 4 + n) s)
      ∙ each-run 4 1 n at out (omega arith)
      ∙ ap (λ (p : ℕ). sets (turned_at 4 s at out) p (take n (drop p s))) start
      ∙ sym (run-copied n (at + 4) (turned_at 4 s at out) h)

  -- tokens one after another
  pub tokens_append : (ts us : List Token) (out : List ℕ) → turned_tokens s (ts ++ us) out ≡ turned_tokens s us (turned_tokens s ts out)
  unfolding turned_tokens
  tokens_append [] us out = refl
  tokens_append (t ∷ ts) us out = tokens_append ts us (sets out t.start (reverse_token t.kind (slice t.start t.stop s)))

  -- the output stays as long
  pub tokens-length : (ts : List Token) (out : List ℕ) → length (turned_tokens s ts out) ≡ length out
  unfolding turned_tokens
  tokens-length [] out = refl
  tokens-length (t ∷ ts) out =
      let bytes : List ℕ = reverse_token t.kind (slice t.start t.stop s) in
      tokens-length ts (sets out t.start bytes) ∙ length-sets out t.start bytes
