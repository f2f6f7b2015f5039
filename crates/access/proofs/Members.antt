-- A step into a compound of accepted data: what the loop over the members before it keeps is that the spot from here on is the spot from
-- the start. Rests on the laws of types in a row.
use mathlib.Core.Path.{◌≡◌, sym, ap, subst, ◌∙◌}
use mathlib.Core.Bool.{true}
use mathlib.Core.List.{List}
use Prim.Native.Nat.{ℕ, zero, suc, ◌+◌, ◌-◌, ◌<◌, ◌≤◌}
use Rattle.std.specs.Prelude.{Ok, Err}
use native.Mathlib.Omega.{arith}
use lib.ListN.{length}
use Rattle.descriptor.specs.Header.{size_in}
use Rattle.descriptor.specs.Limits.{depth_limit}
use Rattle.descriptor.specs.Outcome.{refused, read}
use Rattle.descriptor.specs.Tree.{Forest, cons}
use Rattle.descriptor.specs.inner.Standing.{is_read, next_of}
use Rattle.flattened.specs.Order.{big}
use Rattle.flattened.specs.Walk.{walk, walk_all}
use Rattle.flattened.specs.inner.Types.{type_at, types_at}
use Rattle.flattened.specs.declared.cursor.Cursor.{Cursor}
use Rattle.flattened.proofs.Types.{RowTurn, row-turn}
use Rattle.access.specs.Path.{member_at}
use Rattle.access.specs.inner.Past.{values_at, Values, past_values}
use Rattle.access.specs.inner.Spots.{Lies, RowLies, spot, reached, Known, Reaches}
use Rattle.access.proofs.Outcomes.{follow-first, follow-second, then_next}
use Rattle.access.proofs.Runs.{values-inside, one_value}
use Rattle.access.proofs.Types.{deeper, no-types}

-- the first of n + 1 types in a row whose data is read, and the others
module _ (d : List ℕ) (n p left : ℕ) (s : List ℕ) (at : ℕ) (lies : RowLies d (suc n) p left s at) (low : left ≤ depth_limit) where
  abbrev after : ℕ
  after = next_of (walk big (type_at d p) s at)

  abbrev others : Forest
  others = types_at d n (p + size_in d p)

  turn : RowTurn d n p left
  turn = row-turn d n p left lies.row

  both : is_read (walk_all big (cons (type_at d p) others) s at) ≡ true
  both = ap (λ (f : Forest). is_read (walk_all big f s at)) (sym turn.types) ∙ lies.read

  first : is_read (walk big (type_at d p) s at) ≡ true
  unfolding walk_all
  first = follow-first (walk big (type_at d p) s at) (λ next. walk_all big others s next) both

  -- the first type's value
  pub first-lies : Lies d p left s at
  first-lies = record { type = turn.first; bytes = lies.bytes; read = first }

  pub first-value : Values d p 1 s at
  first-value = record { type = deeper turn.first low; bytes = lies.bytes; read = ap is_read (one_value d p s at) ∙ first }

  pub first-size : p + size_in d p ≤ length d
  first-size = turn.within

  -- where it ends
  pub first_past : (r : Cursor) → r ≡ past_values d p 1 s at → r.at ≡ after
  unfolding past_values
  first_past r e = ap (λ (x : Cursor). x.at) e ∙ ap next_of (one_value d p s at)

  -- the others' values
  pub others-lie : RowLies d n (p + size_in d p) left s after
  unfolding walk_all
  others-lie =
      let inside = values-inside d p 1 s at first-value in
      let same : next_of (values_at d p 1 s at) ≡ after = ap next_of (one_value d p s at) in
      record {
        row = turn.rest;
        bytes = record { inside = omega (arith, inside.within, same); short = lies.bytes.short };
        read = follow-second (walk big (type_at d p) s at) (λ next. walk_all big others s next) both;
      }

  -- member k + 1 of them all is member k of the others
  pub member-next : (i k : ℕ) → member_at i (types_at d (suc n) p) (suc k) s at ≡ member_at i others k s after
  unfolding member_at
  member-next i k =
      ap (λ (f : Forest). member_at i f (suc k) s at) turn.types
      ∙ then_next (walk big (type_at d p) s at) (λ next. member_at i others k s next) first

  -- member 0 is the first
  pub member-here : (i : ℕ) → member_at i (types_at d (suc n) p) zero s at ≡ read at (spot d p at)
  unfolding member_at
  member-here i = ap (λ (f : Forest). member_at i f zero s at) turn.types

-- there is no member k of k or fewer types
pub member-out : (i : ℕ) (d : List ℕ) (n p left k : ℕ) (s : List ℕ) (at : ℕ) → left ≤ depth_limit → RowLies d n p left s at → n ≤ k
    → member_at i (types_at d n p) k s at ≡ refused 30 i
unfolding member_at
member-out i d zero p left k s at low lies h = ap (λ (f : Forest). member_at i f k s at) (no-types d p)
member-out i d (suc n) p left zero s at low lies h = absurd (omega arith)
member-out i d (suc n) p left (suc k) s at low lies h =
    member-next d n p left s at lies low i k ∙ member-out i d n (p + size_in d p) left k s _ low (others-lie d n p left s at lies low) (omega arith)

-- of the members of a compound, m have been passed, up to p and `at`, and member k is looked for; i is the number of the step
pub record MemberLoop (i : ℕ) (d : List ℕ) (start n k : ℕ) (s : List ℕ) (from p at m : ℕ) : Type 0 where
  pub lies : RowLies d (n - m) p (depth_limit - (i + 1)) s at
  pub same : member_at i (types_at d n start) k s from ≡ member_at i (types_at d (n - m) p) (k - m) s at

module _ {i : ℕ} {d : List ℕ} {start n k : ℕ} {s : List ℕ} {from p at m : ℕ} (loop : MemberLoop i d start n k s from p at m) (more : m < n) where
  some : n - m ≡ suc (n - (m + 1))
  some = omega arith

  row : RowLies d (suc (n - (m + 1))) p (depth_limit - (i + 1)) s at
  row = subst (λ (j : ℕ). RowLies d j p (depth_limit - (i + 1)) s at) some loop.lies

  -- the member at p
  pub member-lies : Lies d p (depth_limit - (i + 1)) s at
  member-lies = first-lies d (n - (m + 1)) p _ s at row (omega arith)

  pub member-value : Values d p 1 s at
  member-value = first-value d (n - (m + 1)) p _ s at row (omega arith)

  pub member-size : p + size_in d p ≤ length d
  member-size = first-size d (n - (m + 1)) p _ s at row (omega arith)

  -- is passed
  pub member-again : m < k → (c : Cursor) → c ≡ past_values d p 1 s at → MemberLoop i d start n k s from (p + size_in d p) c.at (m + 1)
  member-again h c e =
      let there : c.at ≡ next_of (walk big (type_at d p) s at) = first_past d (n - (m + 1)) p _ s at row (omega arith) c e in
      let left_over : k - m ≡ suc (k - (m + 1)) = omega arith in
      rw there (record {
        lies = others-lie d (n - (m + 1)) p _ s at row (omega arith);
        same =
            loop.same
            ∙ (λ l. member_at i (types_at d (some l) p) (left_over l) s at)
            ∙ member-next d (n - (m + 1)) p _ s at row (omega arith) i (k - (m + 1));
      })

  -- or is member k
  pub member-found : k ≡ m → (c : Cursor) → c.at ≡ at → Reaches d (depth_limit - (i + 1)) s (member_at i (types_at d n start) k s from) (Ok (record { place = p; start = c }))
  unfolding reached Known
  member-found h c e =
      let none : k - m ≡ 0 = omega arith in
      record {
        eq = sym (loop.same
            ∙ (λ l. member_at i (types_at d (some l) p) (none l) s at)
            ∙ member-here d (n - (m + 1)) p _ s at row (omega arith) i
            ∙ (λ l. read (sym e l) (spot d p (sym e l))));
        known = subst (λ (a : ℕ). Lies d p (depth_limit - (i + 1)) s a) (sym e) member-lies;
      }

-- or there is none
pub member-none : (i : ℕ) (d : List ℕ) (start n k : ℕ) (s : List ℕ) (from : ℕ) → n ≤ k → i < depth_limit → RowLies d n start (depth_limit - (i + 1)) s from
    → Reaches d (depth_limit - (i + 1)) s (member_at i (types_at d n start) k s from) (Err i)
unfolding reached Known
member-none i d start n k s from h shallow lies = record { eq = sym (member-out i d n start _ k s from (omega arith) lies h); known = shallow }
