-- "Each piece starts exactly where the one before it ended; together the pieces are the whole data. Every type needs at least one byte, so
-- the walk ends." Rests on the codes' widths and on what the walk accepts.
use mathlib.Core.Path.{◌≡◌, refl, sym, ap, ap₂, subst, ◌∙◌}
use mathlib.Core.Bool.{Bool, false}
use mathlib.Core.List.{List, [], ◌∷◌, ◌++◌}
use Prim.Native.Nat.{ℕ, ◌+◌, ◌*◌, ◌<◌}
use native.Mathlib.Omega.{arith}
use lib.ListN.{length, length-append}
use lib.Seq.{slice, slice_empty}
use Rattle.descriptor.proofs.CodeKinds.{kind_number}
use Rattle.descriptor.specs.Tree.{Tree, Forest, nil, cons}
use Rattle.descriptor.specs.Encoding.{Bytes, FieldsFit, WellFormed, AllWellFormed}
use Rattle.descriptor.specs.Outcome.{read}
use Rattle.encoding.proofs.Slices.{slice_all, slice-join}
use Rattle.flattened.specs.Order.{Order, big}
use Rattle.flattened.specs.Token.{Token, joined, Chain, link}
use Rattle.flattened.specs.Walk.{walked}
use Rattle.byte_order.proofs.Chained.{chain-order, chain-append}
use Rattle.values.specs.Value.{Value, Values, Fits, plain, enumeration, quantity, string, array, cluster, stamp, AllFit, without, element, EachFits, member, ordered, in_order, flatten, flatten_elements, flatten_members}
use Rattle.values.specs.Pieces.{pieces, pieces_at, element_pieces, member_pieces}
use Rattle.values.proofs.Codes.{some-width}
use Rattle.values.proofs.Numbers.{length-ordered, length-in_order}
use Rattle.values.proofs.Scalars.{scalar-length}
use Rattle.values.proofs.Lengths.{value-length}
use Rattle.values.proofs.Accepted.{sound}

-- the bytes of a chain's tokens are all from its start to its end
pub chain-joined : (s : List ℕ) {a b : ℕ} {ts : List Token} → Chain a ts b → joined s ts ≡ slice a b s
unfolding joined
chain-joined s (Chain.done {a = a}) = sym (slice_empty a s)
chain-joined s (link {a = a} {b = b} {t = t} e h c) =
    ap₂ (λ (j : ℕ) (x : List ℕ). slice j t.stop s ++ x) e (chain-joined s c)
    ∙ slice-join a t.stop b s (omega arith) (chain-order c)

-- one token from p on
chain-one : {t : Token} (p q : ℕ) → t.start ≡ p → p < t.stop → t.stop ≡ q → Chain p (t ∷ []) q
chain-one {t} p q e h f = link e h (subst (λ (k : ℕ). Chain t.stop [] k) f Chain.done)

mutual
  unfolding flatten pieces_at WellFormed FieldsFit kind_number

  -- a value
  pub value-chain : {t : Tree} {v : Value} → Fits t v → (a : Bool) → WellFormed a t → (p : ℕ) → Chain p (pieces_at p t v) (p + length (flatten big t v))
  value-chain (plain {c = c} {ns = ns} h) a w p =
      let k = ap kind_number w.fields in
      let long = scalar-length big c ns h.many in
      chain-one p _ refl (omega (arith, some-width c w.code (omega arith) (omega arith))) (omega arith)
  value-chain (enumeration {c = c} {n = n} h l) a w p =
      let k = ap kind_number w.fields.0 in
      let long = scalar-length big c (n ∷ []) h.many in
      chain-one p _ refl (omega (arith, some-width c w.code (omega arith) (omega arith))) (omega arith)
  value-chain (quantity {c = c} {ns = ns} h) a w p =
      let k = ap kind_number w.fields.0 in
      let long = scalar-length big c ns h.many in
      chain-one p _ refl (omega (arith, some-width c w.code (omega arith) (omega arith))) (omega arith)
  value-chain (string {x = x} b h) a w p =
      chain-one p _ refl (omega arith) (omega (arith, length-append (ordered big 4 (length x)) x, length-ordered big 4 (length x)))
  value-chain (array {e = t} {ns = ns} {vs = vs} l b n h) a w p =
      let x : List ℕ = in_order big 4 ns in
      let y : List ℕ = flatten_elements big (cons t nil) vs in
      let end : p + 4 * length ns + length y ≡ p + length (x ++ y) = omega (arith, length-append x y, length-in_order big 4 ns) in
      let some : p < p + 4 * length ns = omega (arith, w.fields.1.least) in
      link refl some
      (subst (λ (k : ℕ). Chain (p + 4 * length ns) (element_pieces (p + 4 * length ns) (cons t nil) vs) k) end
      (elements-chain h _ w.inside.0 (p + 4 * length ns)))
  value-chain (cluster h) a w p = members-chain h _ w.inside p
  value-chain (stamp h) a w p = members-chain h _ w.inside p

  -- an array's elements
  elements-chain : {t : Tree} {vs : Values} → AllFit t vs → (a : Bool) → WellFormed a t → (p : ℕ)
      → Chain p (element_pieces p (cons t nil) vs) (p + length (flatten_elements big (cons t nil) vs))
  elements-chain without a w p = subst (λ (k : ℕ). Chain p [] k) (let z : p ≡ p + 0 = omega arith in z) Chain.done
  elements-chain (element {e = t} {v = v} {vs = vs} h hs) a w p =
      let x : List ℕ = flatten big t v in
      let y : List ℕ = flatten_elements big (cons t nil) vs in
      let end : p + length x + length y ≡ p + length (x ++ y) = omega (arith, length-append x y) in
      chain-append (value-chain h a w p)
      (subst (λ (k : ℕ). Chain (p + length x) (element_pieces (p + length x) (cons t nil) vs) k) end (elements-chain hs a w (p + length x)))

  -- a cluster's members
  members-chain : {f : Forest} {vs : Values} → EachFits f vs → (a : Bool) → AllWellFormed a f → (p : ℕ)
      → Chain p (member_pieces p f vs) (p + length (flatten_members big f vs))
  members-chain EachFits.done a w p = subst (λ (k : ℕ). Chain p [] k) (let z : p ≡ p + 0 = omega arith in z) Chain.done
  members-chain (member {t = t} {f = f} {v = v} {vs = vs} h hs) a w p =
      let x : List ℕ = flatten big t v in
      let y : List ℕ = flatten_members big f vs in
      let end : p + length x + length y ≡ p + length (x ++ y) = omega (arith, length-append x y) in
      chain-append (value-chain h a w.0 p)
      (subst (λ (k : ℕ). Chain (p + length x) (member_pieces (p + length x) f vs) k) end (members-chain hs a w.1 (p + length x)))

-- the tokens of accepted data are a chain over all of it, and their bytes joined are the data
module _ (o : Order) (t : Tree) (formed : WellFormed false t) (s : List ℕ) (b : Bytes s) (q : ℕ) (ts : List Token) (e : walked o t s ≡ read q ts) where
  pub accepted-chain : Chain 0 ts (length s)
  accepted-chain =
      let r = sound o t formed s b q ts e in
      let d = r.0 in
      let long : 0 + length (flatten big t d.value) ≡ length s = omega (arith, value-length big o d.fits, ap length d.bytes) in
      subst (λ (us : List Token). Chain 0 us (length s)) (sym r.3)
      (subst (λ (k : ℕ). Chain 0 (pieces t d.value) k) long (value-chain d.fits false formed 0))

  pub accepted-whole : joined s ts ≡ s
  accepted-whole = chain-joined s accepted-chain ∙ slice_all s (length s) refl
