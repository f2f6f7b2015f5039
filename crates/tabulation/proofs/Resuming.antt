-- The filling with the descriptors whose children are being filled on a stack. What is kept: the table that going on from here comes to is
-- the one from the start. Rests on `Filling`.
use mathlib.Core.Path.{◌≡◌, refl, ap, sym, subst, ◌∙◌}
use mathlib.Core.List.{List}
use Prim.Native.Nat.{ℕ, zero, suc, ◌+◌, ◌-◌, ◌^◌, ◌<◌, ◌≤◌}
use native.Mathlib.Omega.{arith}
use lib.ListN.{length, get_or, set, replicate, length-set}
use lib.Seq.{get_or-set_same, get_or-set_other}
use Rattle.descriptor.specs.Limits.{row_limit, depth_limit}
use Rattle.descriptor.specs.Tree.{node}
use Rattle.descriptor.specs.Header.{body_at, size_in, code_in}
use Rattle.descriptor.specs.inner.Standing.{Stands, is_read, shape_of}
use Rattle.descriptor.specs.inner.Filling.{row_read, RowPre, TablePre, unfilled, filled}
use Rattle.descriptor.specs.declared.inside.Inside.{Inside}
use Rattle.descriptor.specs.declared.answer.Row.{Row}
use Rattle.descriptor.specs.inner.Filling.{Table}
use Rattle.tabulation.specs.declared.table.Open.{Open}
use Rattle.descriptor.proofs.Filling.{First, first, after_tree, pre-rest, filled_more, filled_none, low, room, turn-children, turn-row, turn-done}

-- no descriptor, which is what lies in an entry that was not written yet
abbrev none_open : Open
none_open = record { n = 0; start = 0; size = 0; count = 0; rest = 0; code = 0 }

-- the depth left for a descriptor with j open above it
abbrev pub left_at : ℕ → ℕ
left_at j = depth_limit - j

abbrev pub open_at : List Open → ℕ → Open
open_at os j = get_or os j none_open

-- the table once the children of o are in it: its row, and on to the descriptor after it
abbrev pub closed : List ℕ → ℕ → Open → Table → Table
closed s j o t = record {
  rows = set t.rows o.n (row_read s (depth_limit + 1 - left_at j) o.start o.code o.size o.count t.at);
  n = t.n;
  at = o.start + o.size;
}

-- the table once all that are open are closed
unfoldable pub resumed : List ℕ → List Open → ℕ → Table → Table
resumed s os zero t = t
resumed s os (suc j) t = resumed s os j (filled s (left_at j) (open_at os j).rest (closed s j (open_at os j) t))

-- what closing o asks
pub record Closes (s : List ℕ) (j : ℕ) (o : Open) (t : Table) : Type 0 where
  pub row : RowPre s (depth_limit + 1 - left_at j) o.start o.size o.count t.at
  pub place : o.n < row_limit
  pub pre : TablePre s (left_at j) o.rest (closed s j o t)

unfoldable pub Fits : List ℕ → List Open → ℕ → Table → Type 0
Fits s os zero t = t ≡ t
Fits s os (suc j) t = Closes s j (open_at os j) t × Fits s os j (filled s (left_at j) (open_at os j).rest (closed s j (open_at os j) t))

-- a store above those that are open changes nothing of them
resumed-set : (s : List ℕ) (os : List Open) (i : ℕ) (o : Open) (j : ℕ) → j ≤ i → (t : Table) → resumed s os j t ≡ resumed s (set os i o) j t
unfolding resumed
resumed-set s os i o zero h t = refl
resumed-set s os i o (suc j) h t =
    let same : open_at os j ≡ open_at (set os i o) j = sym (get_or-set_other os i j o none_open (λ q. omega arith)) in
    ap (λ (x : Open). resumed s os j (filled s (left_at j) x.rest (closed s j x t))) same
    ∙ resumed-set s os i o j (omega arith) _

fits-set : (s : List ℕ) (os : List Open) (i : ℕ) (o : Open) (j : ℕ) → j ≤ i → (t : Table) → Fits s os j t → Fits s (set os i o) j t
unfolding Fits
fits-set s os i o zero h t f = f
fits-set s os i o (suc j) h t f =
    let same : open_at os j ≡ open_at (set os i o) j = sym (get_or-set_other os i j o none_open (λ q. omega arith)) in
    subst (λ (x : Open). Closes s j x t × Fits s (set os i o) j (filled s (left_at j) x.rest (closed s j x t))) same
    (f.0, fits-set s os i o j (omega arith) _ f.1)

-- what the loop keeps
pub record Resuming (s : List ℕ) (goal t : Table) (os : List Open) (level k : ℕ) : Type 0 where
  pub deep : level ≤ depth_limit
  pub long : length os ≡ depth_limit
  pub pre : TablePre s (left_at level) k t
  pub fits : Fits s os level (filled s (left_at level) k t)
  pub same : goal ≡ resumed s os level (filled s (left_at level) k t)

resume-begin : (s : List ℕ) (rows : List Row) (o : Open) → TablePre s depth_limit 1 (unfilled rows)
    → Resuming s (filled s depth_limit 1 (unfilled rows)) (unfilled rows) (replicate depth_limit o) 0 1
unfolding Fits resumed
resume-begin s rows o pre = record { deep = omega arith; long = refl; pre = pre; fits = refl; same = refl }

-- the same by other names of the two numbers
resume-as : (s : List ℕ) (goal t : Table) (os : List Open) (level k level' k' : ℕ) → Resuming s goal t os level k → level ≡ level' → k ≡ k'
    → Resuming s goal t os level' k'
resume-as s goal t os level k level' k' r el ek = subst (λ (j : ℕ). Resuming s goal t os j k') el (subst (λ (j : ℕ). Resuming s goal t os level j) ek r)

-- nothing ahead and nothing open
resume-done : (s : List ℕ) (goal t : Table) (os : List Open) → Resuming s goal t os 0 0 → t ≡ goal
unfolding resumed
resume-done s goal t os r = sym (r.same ∙ filled_none s (left_at 0) t)

-- nothing ahead, and one to close
module _ (s : List ℕ) (goal t : Table) (os : List Open) (j : ℕ) (r : Resuming s goal t os (suc j) 0) where
  here : Fits s os (suc j) t
  here = subst (λ (x : Table). Fits s os (suc j) x) (filled_none s (left_at (suc j)) t) r.fits

  close-asks : Closes s j (open_at os j) t
  unfolding Fits
  close-asks = here.0

  resume-close : Resuming s goal (closed s j (open_at os j) t) os j (open_at os j).rest
  unfolding Fits resumed
  resume-close = record {
    deep = omega (arith, r.deep);
    long = r.long;
    pre = here.0.pre;
    fits = here.1;
    same = r.same ∙ ap (λ (x : Table). resumed s os (suc j) x) (filled_none s (left_at (suc j)) t);
  }

  -- as the code takes it: the depth is said otherwise
  depth_is : depth_limit + 1 - left_at j ≡ j + 1
  depth_is = omega (arith, r.deep)

  close-row : RowPre s (j + 1) (open_at os j).start (open_at os j).size (open_at os j).count t.at
  close-row =
      subst (λ (x : ℕ). RowPre s x (open_at os j).start (open_at os j).size (open_at os j).count t.at) depth_is close-asks.row

  resume-row : (x : Row) → x ≡ row_read s (j + 1) (open_at os j).start (open_at os j).code (open_at os j).size (open_at os j).count t.at
      → Resuming s goal (record { rows = set t.rows (open_at os j).n x; n = t.n; at = (open_at os j).start + (open_at os j).size }) os j (open_at os j).rest
  resume-row x e =
      subst
      (λ (y : Row). Resuming s goal (record { rows = set t.rows (open_at os j).n y; n = t.n; at = (open_at os j).start + (open_at os j).size }) os j (open_at os j).rest)
      (ap (λ (y : ℕ). row_read s y (open_at os j).start (open_at os j).code (open_at os j).size (open_at os j).count t.at) depth_is ∙ sym e)
      resume-close

-- the first one ahead is opened
module _ (s : List ℕ) (goal t : Table) (os : List Open) (level k : ℕ) (r : Resuming s goal t os level (suc k)) (w : First s (left_at level) k t) (size : ℕ)
    (es : size ≡ size_in s t.at) (code : ℕ) (ec : code ≡ code_in s t.at) (b : Inside)
    (eb : b ≡ shape_of s t.at) where
  abbrev left : ℕ
  left = left_at level

  abbrev opening : Open
  opening = record { n = t.n; start = t.at; size = size; count = b.count; rest = k; code = code }

  abbrev begun : Table
  begun = record { rows = t.rows; n = t.n + 1; at = b.at }

  -- the table with its children's rows
  abbrev inner : Table
  inner = filled s (left_at (suc level)) b.children begun

  less : left - 1 ≡ left_at (suc level)
  less = omega (arith, r.deep)

  is-inner : inner ≡ filled s (left - 1) b.children begun
  is-inner = ap (λ (j : ℕ). filled s j b.children begun) (sym less)

  -- closed, it is the first one's rows
  closing : closed s level opening inner ≡ after_tree left t (node w.code w.fields w.inside w.name)
  closing = turn-done s left k t r.pre w size es b eb inner is-inner _
      (ap (λ (x : ℕ). row_read s (depth_limit + 1 - left) t.at x size b.count inner.at) ec)

  closes : Closes s level opening inner
  closes = record {
    row = turn-row s left k t r.pre w size es b eb inner is-inner;
    place = omega (arith, room s left k t r.pre w);
    pre = subst (λ (x : Table). TablePre s left k x) (sym closing) (pre-rest s left k t r.pre w);
  }

  more : filled s left (suc k) t ≡ filled s left k (closed s level opening inner)
  more = filled_more s left k t r.pre w ∙ ap (λ (x : Table). filled s left k x) (sym closing)

  -- with no children it is closed at once
  none_inside : b.children ≡ 0 → inner ≡ begun
  none_inside e = ap (λ (j : ℕ). filled s (left_at (suc level)) j begun) e ∙ filled_none s (left_at (suc level)) begun

  same-depth : depth_limit + 1 - left ≡ level + 1
  same-depth = omega (arith, r.deep)

  leaf-row : b.children ≡ 0 → RowPre s (level + 1) t.at size b.count b.at
  leaf-row e =
      subst (λ (x : ℕ). RowPre s x t.at size b.count b.at) same-depth
      (subst (λ (x : Table). RowPre s (depth_limit + 1 - left) t.at size b.count x.at) (none_inside e) closes.row)

  resume-leaf : b.children ≡ 0 → (x : Row) → x ≡ row_read s (level + 1) t.at code size b.count b.at
      → Resuming s goal (record { rows = set t.rows t.n x; n = t.n + 1; at = t.at + size }) os level k
  resume-leaf e x ex =
      subst (λ (y : Row). Resuming s goal (record { rows = set t.rows t.n y; n = t.n + 1; at = t.at + size }) os level k)
      (ap (λ (y : ℕ). row_read s y t.at code size b.count b.at) same-depth ∙ sym ex)
      (subst (λ (y : Table). Resuming s goal (closed s level opening y) os level k) (none_inside e)
      (record {
        deep = r.deep;
        long = r.long;
        pre = closes.pre;
        fits = subst (λ (y : Table). Fits s os level y) more r.fits;
        same = r.same ∙ ap (λ (y : Table). resumed s os level y) more;
      }))

  resume-open : Resuming s goal begun (set os level opening) (suc level) b.children
  unfolding Fits resumed
  resume-open =
      let deep-left = low s left k t r.pre w in
      let kept = set os level opening in
      let there : opening ≡ open_at kept level = sym (get_or-set_same os level opening none_open (omega (arith, r.long, deep-left))) in
      record {
        deep = omega (arith, deep-left);
        long = length-set os level opening ∙ r.long;
        pre = subst (λ (j : ℕ). TablePre s j b.children begun) less (turn-children s left k t r.pre w size es b eb);
        fits =
            subst (λ (x : Open). Closes s level x inner × Fits s kept level (filled s left x.rest (closed s level x inner))) there
            (closes, fits-set s os level opening level (omega arith) _ (subst (λ (x : Table). Fits s os level x) more r.fits));
        same =
            r.same ∙ ap (λ (x : Table). resumed s os level x) more ∙ resumed-set s os level opening level (omega arith) _
            ∙ ap (λ (x : Open). resumed s kept level (filled s left x.rest (closed s level x inner))) there;
      }

-- The filling as the loop keeps it, and each of its turns by what the code has in hand.
unfoldable pub Filling : List ℕ → List Row → List Row → ℕ → ℕ → List Open → ℕ → ℕ → Type 0
Filling s before rows n at os level k = Resuming s (filled s depth_limit 1 (unfilled before)) (record { rows = rows; n = n; at = at }) os level k

pub fill_begin : (s : List ℕ) (rows : List Row) (o : Open) → TablePre s depth_limit 1 (unfilled rows) → Filling s rows rows 0 0 (replicate depth_limit o) 0 1
unfolding Filling
fill_begin s rows o pre = resume-begin s rows o pre

module _ (s : List ℕ) (before rows : List Row) (n at : ℕ) (os : List Open) (level k : ℕ) (l : Filling s before rows n at os level k) where
  abbrev goal : Table
  goal = filled s depth_limit 1 (unfilled before)

  abbrev table : Table
  table = record { rows = rows; n = n; at = at }

  pub fill_deep : level ≤ depth_limit
  unfolding Filling
  fill_deep = l.deep

  -- nothing ahead and nothing open
  pub fill_done : k ≡ 0 → level ≡ 0 → rows ≡ goal.rows
  unfolding Filling
  fill_done ek el = ap (λ (x : Table). x.rows) (resume-done s goal table os (resume-as s goal table os level k 0 0 l el ek))

  -- nothing ahead, and one to close
  module _ (ek : k ≡ 0) (some : 0 < level) where
    abbrev last : Open
    last = open_at os (level - 1)

    closing-one : Resuming s goal table os (suc (level - 1)) 0
    unfolding Filling
    closing-one = resume-as s goal table os level k (suc (level - 1)) 0 l (omega arith) ek

    pub close_row : RowPre s (level - 1 + 1) last.start last.size last.count at
    close_row = close-row s goal table os (level - 1) closing-one

    pub close_place : last.n < row_limit
    close_place = (close-asks s goal table os (level - 1) closing-one).place

    pub close_end : last.start + last.size < 2 ^ 16
    close_end = omega (arith, close_row.inside, close_row.small)

    pub turn_close : Filling s before (set rows last.n (row_read s (level - 1 + 1) last.start last.code last.size last.count at)) n (last.start + last.size) os (level - 1) last.rest
    unfolding Filling
    turn_close = resume-row s goal table os (level - 1) closing-one _ refl

  -- the first one ahead
  module _ (more : 0 < k) where
    ahead-one : Resuming s goal table os level (suc (k - 1))
    unfolding Filling
    ahead-one = resume-as s goal table os level k level (suc (k - 1)) l refl (omega arith)

    one : First s (left_at level) (k - 1) table
    one = first s (left_at level) (k - 1) table ahead-one.pre

    pub ahead_stands : Stands s at
    unfolding is_read
    ahead_stands = record { is = ap is_read one.stands; small = omega (arith, ahead-one.pre.small) }

    pub ahead_header : body_at at ≤ length s
    ahead_header = omega (arith, one.opened.size, one.opened.least, one.opened.inside)

    pub ahead_end : at + size_in s at < 2 ^ 16
    ahead_end = omega (arith, one.opened.size, one.opened.inside, ahead-one.pre.small)

    pub ahead_room : n < row_limit
    ahead_room = omega (arith, room s (left_at level) (k - 1) table ahead-one.pre one)

    pub ahead_low : level < depth_limit
    ahead_low = omega (arith, low s (left_at level) (k - 1) table ahead-one.pre one)

    abbrev shape : Inside
    shape = shape_of s at

    -- with none in it
    module _ (none : shape.children ≡ 0) where
      pub leaf_row : RowPre s (level + 1) at (size_in s at) shape.count shape.at
      leaf_row = leaf-row s goal table os level (k - 1) ahead-one one (size_in s at) refl (code_in s at) refl shape refl none

      pub turn_leaf : Filling s before (set rows n (row_read s (level + 1) at (code_in s at) (size_in s at) shape.count shape.at)) (n + 1) (at + size_in s at) os level (k - 1)
      unfolding Filling
      turn_leaf = resume-leaf s goal table os level (k - 1) ahead-one one (size_in s at) refl (code_in s at) refl shape refl none _ refl

    -- with some in it
    pub turn_open : Filling s before rows (n + 1) shape.at
        (set os level (record { n = n; start = at; size = size_in s at; count = shape.count; rest = k - 1; code = code_in s at })) (level + 1) shape.children
    unfolding Filling
    turn_open =
        resume-as s goal _ _ (suc level) shape.children (level + 1) shape.children
        (resume-open s goal table os level (k - 1) ahead-one one (size_in s at) refl (code_in s at) refl shape refl) (omega arith) refl

pub ruleset turns = (fill_begin, fill_deep, fill_done, close_row, close_place, close_end, turn_close, ahead_stands, ahead_header, ahead_end, ahead_room, ahead_low, leaf_row, turn_leaf, turn_open)
