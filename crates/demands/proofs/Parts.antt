-- Document 01's "the empty path is the whole data", and the part at a path lies inside the part at every shorter path. The public entries whose
-- contracts use these definitions are locate and view. Rests on the definitions of the walk and of paths, and on where walks end.
use mathlib.Core.Path.{◌≡◌, refl, ap, ◌∙◌}
use mathlib.Core.Bool.{Bool, true, false}
use mathlib.Core.List.{List, [], ◌∷◌, ◌++◌}
use Prim.Native.Nat.{ℕ, zero, suc, ◌+◌, ◌-◌, ◌*◌, ◌<◌, ◌≤◌}
use native.Mathlib.Nat.{sub-zero}
use native.Mathlib.Omega.{arith}
use borrow.Author.Tests.{leb-true, ltb-true}
use lib.Dec.{leb, ltb}
use lib.ListN.{length}
use Rattle.descriptor.specs.Tree.{empty, items, pairs, text, dimensions, members, subtype, Tree, node, Forest, nil, cons}
use Rattle.descriptor.specs.Outcome.{Outcome, refused, read, and_then, require, judge}
use Rattle.descriptor.specs.Limits.{data_limit}
use Rattle.descriptor.specs.Answers.{accepted}
use Rattle.descriptor.specs.declared.answer.Answer.{Answer}
use Rattle.descriptor.proofs.Outcomes.{Holds, found, holds_read, holds-require, holds-and_then, holds-both, holds-self}
use Rattle.flattened.specs.Order.{big}
use Rattle.flattened.specs.Token.{Token}
use Rattle.flattened.specs.Walk.{sizes_at, sizes_fit, array_at, follow, repeat, walk_fields, walk, walk_all, walked}
use Rattle.flattened.specs.Answers.{data_check}
use Rattle.access.specs.Path.{Spot, member_at, step_at, step_into, spot_at, no_part, part_of, located}
use Rattle.access.specs.declared.part.Part.{Part}
use Rattle.flattened.proofs.Refusals.{refused-number}
use Rattle.demands.proofs.Accepted.{Described, described-read}
use Rattle.demands.proofs.Data.{UsesAll, uses-exactly, walked-answer, all-walked}
use Rattle.demands.proofs.Pieces.{Goes, goes-walk, goes-walk_all, goes-repeat}

-- one walk and the next, from where it ended
pub record Both (o : Outcome (List Token)) (next : ℕ → Outcome (List Token)) (b : ℕ) : Type 0 where
  pub mid : ℕ
  pub front : List Token
  pub rest : List Token
  pub one : o ≡ read mid front
  pub two : next mid ≡ read b rest

pub both : (o : Outcome (List Token)) (next : ℕ → Outcome (List Token)) → Holds (λ b ts. Both o next b) (follow o next)
both o next =
    holds-and_then (holds-self o) (λ q us e.
    holds-and_then (holds-self (next q)) (λ c vs g. found (record { mid = q; front = us; rest = vs; one = e; two = g })))

-- the data of a spot's type is walked from the spot on, from a or later up to b or sooner
pub record Lies (s : List ℕ) (a b : ℕ) (y : Spot) : Type 0 where
  pub stop : ℕ
  pub tokens : List Token
  pub walks : walk big y.type s y.start ≡ read stop tokens
  pub after : a ≤ y.start
  pub order : y.start ≤ stop
  pub before : stop ≤ b
  pub within : b ≤ length s

-- a path in accepted data leads to such a spot, or a step is refused with 30
pub data Meets (s : List ℕ) (a b : ℕ) : Outcome Spot → Type 0 where
  lost : {place : ℕ} → Meets s a b (refused 30 place)
  met : {q : ℕ} {y : Spot} → Lies s a b y → Meets s a b (read q y)

-- an element of an array: its data starts where the elements before it end
record Element (s : List ℕ) (f : ℕ → Outcome (List Token)) (k at b : ℕ) : Type 0 where
  begin : ℕ
  passed : List Token
  end : ℕ
  tokens : List Token
  reach : repeat f k at ≡ read begin passed
  takes : f begin ≡ read end tokens
  after : at ≤ begin
  inner : begin ≤ length s
  before : end ≤ b
  within : b ≤ length s

-- an array: its size words, then its elements
record Sized (s : List ℕ) (f : ℕ → Outcome (List Token)) (k at b : ℕ) : Type 0 where
  next : ℕ
  count : ℕ
  tokens : List Token
  sizes : array_at big s k at ≡ read next count
  elements : repeat f count next ≡ read b tokens
  after : at ≤ next
  inner : next ≤ length s

module _ (s : List ℕ) where
  -- the spot of a type whose data is walked
  pub lies-here : (t : Tree) (at b : ℕ) (ts : List Token) → at ≤ length s → walk big t s at ≡ read b ts → Lies s at b (record { type = t; start = at })
  lies-here t at b ts h e =
      let o = holds_read e (goes-walk s big t at h) in
      record { stop = b; tokens = ts; walks = e; after = omega arith; order = o.order; before = omega arith; within = o.within }

  lies-wider : {a b a' b' : ℕ} {y : Spot} → a' ≤ a → b ≤ b' → b' ≤ length s → Lies s a b y → Lies s a' b' y
  lies-wider h g w l = record {
    stop = l.stop;
    tokens = l.tokens;
    walks = l.walks;
    after = omega (arith, l.after);
    order = l.order;
    before = omega (arith, l.before);
    within = w;
  }

  meets-wider : {a b a' b' : ℕ} {o : Outcome Spot} → a' ≤ a → b ≤ b' → b' ≤ length s → Meets s a b o → Meets s a' b' o
  meets-wider h g w lost = lost
  meets-wider h g w (met l) = met (lies-wider h g w l)

  meets-require : {a b : ℕ} (c : Bool) (i : ℕ) {o : Outcome Spot} → (c ≡ true → Meets s a b o) → Meets s a b (require c 30 i o)
  meets-require true i h = h refl
  meets-require false i h = lost

  -- a member of a row lies inside the row
  member-meets : (i : ℕ) (f : Forest) (k at b : ℕ) (ts : List Token) → at ≤ length s → walk_all big f s at ≡ read b ts
      → Meets s at b (member_at i f k s at)
  unfolding member_at walk
  member-meets i nil k at b ts h e = lost
  member-meets i (cons t f) zero at b ts h e =
      let w = holds_read e (both (walk big t s at) (λ next. walk_all big f s next)) in
      let x = lies-here t at w.mid w.front h w.one in
      let y = holds_read w.two (goes-walk_all s big f w.mid x.within) in
      met (lies-wider (omega arith) y.order y.within x)
  member-meets i (cons t f) (suc k) at b ts h e =
      let w = holds_read e (both (walk big t s at) (λ next. walk_all big f s next)) in
      let x = holds_read w.one (goes-walk s big t at h) in
      let y = holds_read w.two (goes-walk_all s big f w.mid x.within) in
      rw w.one (meets-wider x.order (omega arith) y.within (member-meets i f k w.mid b w.rest x.within w.two))

  one_more : (f : ℕ → Outcome (List Token)) (k at : ℕ) {mid begin : ℕ} {us vs : List Token} → f at ≡ read mid us → repeat f k mid ≡ read begin vs
      → repeat f (suc k) at ≡ read begin (us ++ vs)
  unfolding repeat
  one_more f k at e g = rw (e, g) refl

  -- element k of n
  element : (f : ℕ → Outcome (List Token)) → ((a : ℕ) → a ≤ length s → Goes s a (f a)) → (k n at b : ℕ) (ts : List Token) → at ≤ length s → k < n
      → repeat f n at ≡ read b ts → Element s f k at b
  unfolding repeat
  element f each k zero at b ts h l e = absurd (omega arith)
  element f each zero (suc n) at b ts h l e =
      let w = holds_read e (both (f at) (λ next. repeat f n next)) in
      let x = holds_read w.one (each at h) in
      let y = holds_read w.two (goes-repeat s f each n w.mid x.within) in
      record {
        begin = at;
        passed = [];
        end = w.mid;
        tokens = w.front;
        reach = refl;
        takes = w.one;
        after = omega arith;
        inner = h;
        before = y.order;
        within = y.within;
      }
  element f each (suc k) (suc n) at b ts h l e =
      let w = holds_read e (both (f at) (λ next. repeat f n next)) in
      let x = holds_read w.one (each at h) in
      let y = element f each k n w.mid b w.rest x.within (omega arith) w.two in
      record {
        begin = y.begin;
        passed = w.front ++ y.passed;
        end = y.end;
        tokens = y.tokens;
        reach = one_more f k at w.one y.reach;
        takes = y.takes;
        after = omega (arith, x.order, y.after);
        inner = y.inner;
        before = y.before;
        within = y.within;
      }

  sized : (f : ℕ → Outcome (List Token)) (c k at : ℕ) → Holds (λ b ts. Sized s f k at b) (walk_fields big c (dimensions k) f s at)
  unfolding walk_fields array_at
  sized f c k at =
      holds-and_then {P = λ q n. (array_at big s k at ≡ read q n) × ((at ≤ q) × (q ≤ length s))}
      (holds-both (holds-self (array_at big s k at)) ends)
      (λ next n h.
      holds-and_then (holds-self (repeat f n next))
      (λ last ts e. found (record { next = next; count = n; tokens = ts; sizes = h.0; elements = e; after = h.1.0; inner = h.1.1 })))
    where
      ends : Holds (λ q n. (at ≤ q) × (q ≤ length s)) (array_at big s k at)
      ends =
          holds-require (leb (at + 4 * k) (length s)) 21 at
          (λ e. holds-require (sizes_fit (sizes_at big s k at)) 22 at (λ _. found {q = at + 4 * k} (omega arith, leb-true _ _ e)))

  -- an element lies inside its array
  element-meets : (i : ℕ) (f : Forest) {k at next b : ℕ} → at ≤ next → Element s (λ p. walk_all big f s p) k next b
      → Meets s at b (and_then (repeat (λ p. walk_all big f s p) k next) (λ start _. member_at i f zero s start))
  element-meets i f h y =
      rw y.reach
      (meets-wider (omega (arith, h, y.after)) y.before y.within (member-meets i f zero y.begin y.end y.tokens y.inner y.takes))

  -- the spot of a step lies inside the data of the type that it steps into
  step-meets : (i : ℕ) (t : Tree) (k at b : ℕ) (ts : List Token) → at ≤ length s → walk big t s at ≡ read b ts → Meets s at b (step_into i t k s at)
  unfolding walk walk_fields step_at
  step-meets i (node c empty f m) k at b ts h e = lost
  step-meets i (node c (items xs) f m) k at b ts h e = lost
  step-meets i (node c (pairs ps) f m) k at b ts h e = lost
  step-meets i (node c text f m) k at b ts h e = lost
  step-meets i (node c (dimensions n) f m) k at b ts h e =
      let w = holds_read e (sized (λ p. walk_all big f s p) c n at) in
      rw w.sizes (meets-require (ltb k w.count) i (λ l.
      element-meets i f w.after
      (element (λ p. walk_all big f s p) (λ p g. goes-walk_all s big f p g) k w.count w.next b w.tokens w.inner (ltb-true _ _ l)
      w.elements)))
  step-meets i (node c (members n) f m) k at b ts h e = member-meets i f k at b ts h e
  step-meets i (node c subtype f m) k at b ts h e = member-meets i f k at b ts h e

  -- and that of a path inside the data of the type that it starts from
  pub path-meets : (p : List ℕ) (i : ℕ) (x : Spot) {a b : ℕ} (l : Lies s a b x) → Meets s x.start l.stop (spot_at p i s x)
  unfolding spot_at
  path-meets [] i x l = met (record {
    stop = l.stop;
    tokens = l.tokens;
    walks = l.walks;
    after = omega arith;
    order = l.order;
    before = omega arith;
    within = omega (arith, l.before, l.within);
  })
  path-meets (k ∷ ks) i x l =
      then (step-meets i x.type k x.start l.stop l.tokens (omega (arith, l.order, l.before, l.within)) l.walks)
      (λ y m. path-meets ks (i + 1) y m)
    where
      then : {o : Outcome Spot} → Meets s x.start l.stop o
          → ((y : Spot) (m : Lies s x.start l.stop y) → Meets s y.start m.stop (spot_at ks (i + 1) s y))
          → Meets s x.start l.stop (and_then o (λ _ y. spot_at ks (i + 1) s y))
      then lost on = lost
      then (met y) on = meets-wider y.after y.before y.within (on _ y)

  -- a path and then another
  spot-append : (p q : List ℕ) (i : ℕ) (x : Spot) → spot_at (p ++ q) i s x ≡ and_then (spot_at p i s x) (λ _ y. spot_at q (i + length p) s y)
  unfolding spot_at
  spot-append [] q i x = let e : i ≡ i + 0 = omega arith in ap (λ (n : ℕ). spot_at q n s x) e
  spot-append (k ∷ ks) q i x = go (step_into i x.type k s x.start) (λ y. spot-append ks q (i + 1) y)
    where
      go : (o : Outcome Spot)
          → ((y : Spot) → spot_at (ks ++ q) (i + 1) s y ≡ and_then (spot_at ks (i + 1) s y) (λ _ z. spot_at q (i + 1 + length ks) s z))
          → and_then o (λ _ y. spot_at (ks ++ q) (i + 1) s y)
          ≡ and_then (and_then o (λ _ y. spot_at ks (i + 1) s y)) (λ _ y. spot_at q (i + length (k ∷ ks)) s y)
      go (refused number place) on = refl
      go (read at y) on =
          let e : i + 1 + length ks ≡ i + suc (length ks) = omega arith in
          on y ∙ ap (λ (n : ℕ). and_then (spot_at ks (i + 1) s y) (λ _ z. spot_at q n s z)) e

-- a part of accepted data, from `start` on
abbrev pub part_from : ℕ → ℕ → Part
part_from start n = record { answer = accepted 0; start = start; length = n }

-- the part b lies inside the part a
pub record Inside (a b : Part) : Type 0 where
  pub accepts : a.answer ≡ accepted 0
  pub after : a.start ≤ b.start
  pub before : b.start + b.length ≤ a.start + a.length

inside-from : {a b : Part} (i m j n : ℕ) → a ≡ part_from i m → b ≡ part_from j n → i ≤ j → j + n ≤ i + m → Inside a b
inside-from i m j n e g h l = rw (e, g) (record { accepts = refl; after = h; before = l })

-- data of the descriptor d
module _ (d : List ℕ) (x : Described d) (s : List ℕ) where
  -- "the empty path is the whole data"
  pub whole_part : (data_check d s).number ≡ 0 → located d s [] ≡ part_from 0 (length s)
  unfolding located spot_at part_of
  whole_part none =
      let h = (uses-exactly d x s).0 none in
      let w = all-walked x.tree s h.1.tokens h.0 h.1.walks in
      rw (described-read d x, w, h.1.walks) (ap (λ (n : ℕ). part_from 0 n) (sub-zero (length s)))

  -- the spot of the whole
  abbrev pub top : Spot
  top = record { type = x.tree; start = 0 }

  -- the number is 0 only where the data is accepted
  located-accepted : (p : List ℕ) (w : Outcome (List Token)) → walked big x.tree s ≡ w → (located d s p).answer.number ≡ 0
      → (data_check d s).number ≡ 0
  unfolding located
  located-accepted p (refused number place) e none =
      let same : (located d s p).answer.number ≡ number = rw (described-read d x, e) refl in
      absurd (omega (arith, refused-number s big x.tree number place e))
  located-accepted p (read q ts) e none = ap (λ (r : Answer). r.number) (walked-answer d x s q ts e)

  module _ (within : length s ≤ data_limit) (all : UsesAll x.tree s) where
    -- the part is that of the spot at the path
    pub located-spot : (p : List ℕ) → located d s p ≡ judge no_part 4 (and_then (spot_at p 0 s top) (λ _ y. part_of s y)) (λ part. part)
    unfolding located
    located-spot p = rw (described-read d x, all-walked x.tree s all.tokens within all.walks) refl

    -- from its start up to where the walk of its type ends
    pub located-part : (p : List ℕ) {q : ℕ} {y : Spot} {a b : ℕ} (l : Lies s a b y) → spot_at p 0 s top ≡ read q y
        → located d s p ≡ part_from y.start (l.stop - y.start)
    unfolding part_of
    located-part p l e = located-spot p ∙ rw (e, l.walks) refl

    -- a refused step is a refusal with 30
    pub located-lost : (p : List ℕ) {place : ℕ} → spot_at p 0 s top ≡ refused 30 place → located d s p ≡ no_part 30 4 place
    located-lost p e = located-spot p ∙ rw e refl

    top-lies : Lies s 0 (length s) top
    top-lies = lies-here s x.tree 0 (length s) all.tokens (omega arith) all.walks

    pub top-meets : (p : List ℕ) → Meets s 0 (length s) (spot_at p 0 s top)
    unfolding lies-here top-lies
    top-meets p = path-meets s p 0 top top-lies

    -- so that a path with a part has no refused step
    none-lost : (p : List ℕ) {place : ℕ} {A : Type 0} → spot_at p 0 s top ≡ refused 30 place → (located d s p).answer.number ≡ 0 → A
    none-lost p e none =
        let same : (located d s p).answer.number ≡ 30 = ap (λ (r : Part). r.answer.number) (located-lost p e) in
        absurd (omega arith)

    module _ (p q : List ℕ) (none : (located d s (p ++ q)).answer.number ≡ 0) where
      -- the path p leads to y, and the whole path on from there
      further : {y : Spot} {a b : ℕ} (l : Lies s a b y) → located d s p ≡ part_from y.start (l.stop - y.start) → {w : Outcome Spot}
          → spot_at (p ++ q) 0 s top ≡ w → Meets s y.start l.stop w → Inside (located d s p) (located d s (p ++ q))
      further l here e lost = none-lost (p ++ q) e none
      further l here e (met m) =
          inside-from _ _ _ _ here (located-part (p ++ q) m e) m.after (omega (arith, l.order, m.order, m.before))

      goes_on : {o : Outcome Spot} → spot_at p 0 s top ≡ o → spot_at (p ++ q) 0 s top ≡ and_then o (λ _ y. spot_at q (0 + length p) s y)
      goes_on e = spot-append s p q 0 top ∙ ap (λ (o : Outcome Spot). and_then o (λ _ y. spot_at q (0 + length p) s y)) e

      leads : {o : Outcome Spot} → spot_at p 0 s top ≡ o → Meets s 0 (length s) o → Inside (located d s p) (located d s (p ++ q))
      leads e lost = none-lost (p ++ q) (goes_on e) none
      leads e (met l) = further l (located-part p l e) (goes_on e) (path-meets s q (0 + length p) _ l)

  -- the part at a path lies inside the part at every shorter path
  pub inside : (p q : List ℕ) → (located d s (p ++ q)).answer.number ≡ 0 → Inside (located d s p) (located d s (p ++ q))
  inside p q none =
      let h = (uses-exactly d x s).0 (located-accepted (p ++ q) (walked big x.tree s) refl none) in
      leads h.0 h.1 p q none refl (top-meets h.0 h.1 p)
