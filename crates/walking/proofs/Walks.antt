-- What the loops over the types of a row and over rows keep: the tokens so far, and the progress of what is left, are the progress of all.
-- Rests on what types are made of, and on the laws of progress.
use mathlib.Core.Path.{◌≡◌, sym, ap, subst, ◌∙◌}
use mathlib.Core.List.{List}
use Prim.Native.Nat.{ℕ, suc, ◌+◌, ◌-◌, ◌<◌, ◌≤◌}
use Rattle.std.specs.Prelude.{Ok, Err}
use Rattle.descriptor.specs.declared.refusal.Refusal.{Refusal}
use Rattle.flattened.specs.declared.progress.Walked.{Walked}
use native.Mathlib.Nat.{sub-zero}
use native.Mathlib.Omega.{arith}
use lib.ListN.{length}
use Rattle.descriptor.specs.Header.{size_in}
use Rattle.descriptor.specs.Tree.{Tree, Forest, nil}
use Rattle.descriptor.specs.Outcome.{Outcome}
use Rattle.descriptor.specs.inner.Standing.{forest_of}
use Rattle.descriptor.proofs.Outcomes.{Holds}
use Rattle.descriptor.proofs.Standing.{row-none}
use Rattle.flattened.specs.Order.{Order}
use Rattle.flattened.specs.Token.{Token}
use Rattle.flattened.specs.Walk.{follow, repeat, walk, walk_all}
use Rattle.flattened.specs.inner.Cursor.{cursor}
use Rattle.flattened.specs.inner.Progress.{walked_to, progress, plus}
use Rattle.flattened.specs.inner.Types.{type_at, types_at, TypeStands, RowStands}
use Rattle.flattened.proofs.Forward.{Forward, walk-forward, all-forward, repeat-forward}
use Rattle.flattened.proofs.Progresses.{plus-plus, plus_none, progress-holds, follow-walked, follow-refused}
use Rattle.flattened.proofs.Turns.{RepeatLoop, repeat-begin, repeat-next, repeat-stop, repeat-end}
use Rattle.flattened.proofs.Types.{RowTurn, row-turn, type-solid, types-solid}
use Rattle.walking.specs.inner.Fronts.{resumed}
use Rattle.walking.specs.declared.arrays.Front.{Front}

-- where a walk reads, it ends in the data, and past as many bytes as it read tokens
pub record Ahead (s : List ℕ) (from count at : ℕ) : Type 0 where
  pub tokens : from + count ≤ at
  pub inside : at ≤ length s

pub walked-ahead : (s : List ℕ) (least from : ℕ) (o : Outcome (List Token)) → Holds (λ q ts. Forward s least from q ts) o
    → (w : Walked) → Ok w ≡ progress o → Ahead s from w.tokens w.next.at
walked-ahead s least from o h w e =
    let r = progress-holds o w.next w.tokens e h in
    record { tokens = omega (arith, r.1, r.2.tokens); inside = r.2.inside }

-- the loop over the types of a row: i of them have been walked, with so many tokens, up to `at`; the next stands at p
pub record RowLoop (d : List ℕ) (o : Order) (s : List ℕ) (k start from left p at tokens i : ℕ) : Type 0 where
  pub row : RowStands d (k - i) p left
  pub ahead : Ahead s from tokens at
  pub same : progress (walk_all o (types_at d k start) s from) ≡ plus tokens (progress (walk_all o (types_at d (k - i) p) s at))

pub row-begin : (d : List ℕ) (o : Order) (s : List ℕ) (k start from left : ℕ) → RowStands d k start left → from ≤ length s
    → RowLoop d o s k start from left start from 0 0
row-begin d o s k start from left row h = record {
  row = subst (λ (n : ℕ). RowStands d n start left) (sym (sub-zero k)) row;
  ahead = record { tokens = omega arith; inside = h };
  same = plus_none _ ∙ ap (λ (n : ℕ). plus 0 (progress (walk_all o (types_at d n start) s from))) (sym (sub-zero k));
}

module _ {d : List ℕ} {o : Order} {s : List ℕ} {k start from left p at tokens i : ℕ} (loop : RowLoop d o s k start from left p at tokens i) where
  module _ (more : i < k) where
    pub row_here : RowTurn d (k - (i + 1)) p left
    row_here =
        let e : k - i ≡ suc (k - (i + 1)) = omega arith in
        row-turn d (k - (i + 1)) p left (subst (λ (n : ℕ). RowStands d n p left) e loop.row)

    -- the types after it
    abbrev others : ℕ → Outcome (List Token)
    others a = walk_all o (types_at d (k - (i + 1)) (p + size_in d p)) s a

    rest : progress (walk_all o (types_at d k start) s from) ≡ plus tokens (progress (follow (walk o (type_at d p) s at) others))
    unfolding walk_all
    rest =
        let e : k - i ≡ suc (k - (i + 1)) = omega arith in
        loop.same
        ∙ ap (λ (n : ℕ). plus tokens (progress (walk_all o (types_at d n p) s at))) e
        ∙ ap (λ (f : Forest). plus tokens (progress (walk_all o f s at))) row_here.types

    -- the next refuses
    pub row-stop : (r : Refusal) → Err r ≡ progress (walk o (type_at d p) s at) → Err r ≡ progress (walk_all o (types_at d k start) s from)
    unfolding plus
    row-stop r e = sym (rest ∙ ap (plus tokens) (follow-refused (walk o (type_at d p) s at) others r.number r.place e))

    -- the next is read
    module _ (w : Walked) (e : Ok w ≡ progress (walk o (type_at d p) s at)) where
      pub row-ahead : Ahead s at w.tokens w.next.at
      row-ahead =
          walked-ahead s 1 at (walk o (type_at d p) s at) (walk-forward s (type_at d p) (type-solid d p left row_here.first) o at loop.ahead.inside) w e

      pub row_next : RowLoop d o s k start from left (p + size_in d p) w.next.at (tokens + w.tokens) (i + 1)
      row_next = record {
        row = row_here.rest;
        ahead = record { tokens = omega (arith, loop.ahead.tokens, row-ahead.tokens); inside = row-ahead.inside };
        same = rest ∙ ap (plus tokens) (follow-walked (walk o (type_at d p) s at) others w.next w.tokens e) ∙ plus-plus tokens w.tokens (progress (others w.next.at));
      }

  -- none is left
  pub row-end : k ≤ i → Ok (walked_to (cursor at) tokens) ≡ progress (walk_all o (types_at d k start) s from)
  unfolding plus progress walk_all forest_of
  row-end h =
      let e : k - i ≡ 0 = omega arith in
      let none : types_at d (k - i) p ≡ nil = ap (λ (n : ℕ). types_at d n p) e ∙ ap forest_of (row-none d p) in
      sym (loop.same
      ∙ ap (λ (f : Forest). plus tokens (progress (walk_all o f s at))) none
      ∙ ap (λ (n : ℕ). Ok (walked_to (cursor at) n)) (let z : tokens + 0 ≡ tokens = omega arith in z))

-- the loop over rows: i of n have been walked, with so many tokens, up to `at`
pub record RowsLoop (d : List ℕ) (o : Order) (s : List ℕ) (k start n from at tokens i : ℕ) : Type 0 where
  pub turns : RepeatLoop (λ e. walk_all o (types_at d k start) s e) n from i tokens at
  pub ahead : Ahead s from tokens at

pub rows-begin : (d : List ℕ) (o : Order) (s : List ℕ) (k start n from : ℕ) → from ≤ length s → RowsLoop d o s k start n from from 0 0
rows-begin d o s k start n from h = record {
  turns = repeat-begin (λ e. walk_all o (types_at d k start) s e) n from;
  ahead = record { tokens = omega arith; inside = h };
}

module _ {d : List ℕ} {o : Order} {s : List ℕ} {k start n from at tokens i : ℕ} (loop : RowsLoop d o s k start n from at tokens i) where
  abbrev values-of : ℕ → Outcome (List Token)
  values-of a = walk_all o (types_at d k start) s a

  -- the next row refuses
  pub rows-stop : i < n → (r : Refusal) → Err r ≡ progress (walk_all o (types_at d k start) s at)
      → Err r ≡ progress (repeat (λ a. walk_all o (types_at d k start) s a) n from)
  rows-stop more r e = repeat-stop values-of n from i tokens at loop.turns more r.number r.place e

  -- the next row is read
  module _ {left : ℕ} (row : RowStands d k start left) (w : Walked) (e : Ok w ≡ progress (walk_all o (types_at d k start) s at)) where
    pub rows-ahead : Ahead s at w.tokens w.next.at
    rows-ahead = walked-ahead s _ at (values-of at) (all-forward s (types_at d k start) (types-solid d k start left row) o at loop.ahead.inside) w e

    pub rows-next : i < n → RowsLoop d o s k start n from w.next.at (tokens + w.tokens) (i + 1)
    rows-next more = record {
      turns = repeat-next values-of n from i tokens at loop.turns more w.next w.tokens e;
      ahead = record { tokens = omega (arith, loop.ahead.tokens, rows-ahead.tokens); inside = rows-ahead.inside };
    }

  -- none is left
  pub rows-end : n ≤ i → Ok (walked_to (cursor at) tokens) ≡ progress (repeat (λ a. walk_all o (types_at d k start) s a) n from)
  rows-end h = repeat-end values-of n from i tokens at loop.turns h

-- n values of one type
module _ (d : List ℕ) (p left : ℕ) (type : TypeStands d p left) (o : Order) (s : List ℕ) (n from : ℕ) where
  abbrev values : Outcome (List Token)
  values = repeat (λ a. walk o (type_at d p) s a) n from

  -- where they are read
  pub values-ahead : from ≤ length s → (w : Walked) → Ok w ≡ progress values → Ahead s from w.tokens w.next.at
  values-ahead h w e =
      walked-ahead s 0 from values (repeat-forward s 1 (λ a. walk o (type_at d p) s a) (λ a l. walk-forward s (type_at d p) (type-solid d p left type) o a l) n from h) w e

-- the front of an array that leaves nothing
pub front-all : (o : Order) (t : Tree) (s : List ℕ) (f : Front) → f.left ≡ 0
    → Ok f.walked ≡ resumed (Ok f) (λ n a. progress (repeat (λ e. walk o t s e) n a))
unfolding resumed plus progress repeat
front-all o t s f none = rw none (ap (λ (j : ℕ). Ok (walked_to f.walked.next j)) (let e : f.walked.tokens ≡ f.walked.tokens + 0 = omega arith in e))
