-- The one law of extents, over the type: where a type's extent is fixed, a walk of it that reads ends that many bytes on with that many
-- tokens, and it does read where the bytes are there and each judged number keeps its rule; likewise where one string stands between such
-- bytes. Rests on how a scalar is judged.
use mathlib.Core.Path.{◌≡◌, refl, ap}
use mathlib.Core.Bool.{Bool, true, false, ◌||◌}
use mathlib.Core.List.{List, [], ◌∷◌}
use Prim.Native.Nat.{ℕ, zero, suc, ◌+◌, ◌*◌, ◌<◌, ◌≤◌}
use native.Mathlib.Nat.{suc-mul, mul-le-mul_right}
use native.Mathlib.Omega.{arith}
use borrow.Author.Tests.{le-leb, lt-ltb}
use lib.Dec.{leb, ltb}
use lib.ListN.{length, length-append}
use Rattle.descriptor.specs.Tree.{Fields, empty, items, pairs, text, dimensions, members, subtype, Tree, node, Forest, nil, cons}
use Rattle.descriptor.specs.Limits.{length_limit}
use Rattle.descriptor.specs.Outcome.{Outcome}
use Rattle.descriptor.proofs.Outcomes.{Holds, found, holds-require, holds-and_then}
use Rattle.descriptor.specs.Width.{width_of}
use Rattle.flattened.specs.Order.{Order, number_at}
use Rattle.flattened.specs.Token.{string, Token}
use Rattle.flattened.specs.Walk.{token, scalar_at, text_at, follow, repeat, walk_fields, walk, walk_all}
use Rattle.flattened.specs.inner.Progress.{Reads}
use Rattle.flattened.specs.inner.Extent.{is_scalar, limit_of, keeps, joint, extent_fields, extent_of, extent_all}
use Rattle.flattened.specs.inner.Columns.{beyond, KeptFields, Kept, KeptAll}
use Rattle.flattened.specs.declared.extent.Extent.{Extent}
use Rattle.flattened.specs.declared.extent.Extent.TheVariants.{Varies, Fixed, Around}
use Rattle.flattened.proofs.Repeats.{reads_at, reads-follow, repeat-run}
use Rattle.flattened.proofs.Judged.{scalar-ruled, ruled-read}

-- w bytes and k tokens from `from` on, up to q
pub record Ends (w k from q : ℕ) (ts : List Token) : Type 0 where
  pub at : q ≡ from + w
  pub count : length ts ≡ k

-- a walk from `at` takes w bytes and k tokens
pub record Takes (s : List ℕ) (w k : ℕ) (kept : Type 0) (at : ℕ) (o : Outcome (List Token)) : Type 0 where
  pub ends : Holds (λ q ts. Ends w k at q ts) o
  pub reads : kept → at + w ≤ length s → Reads o (at + w) k

-- a walk from `at` takes so many bytes, a string and so many bytes; and k tokens, where they are all there
pub record Crosses (o : Order) (s : List ℕ) (before after k : ℕ) (kept : Type 0) (at : ℕ) (w : Outcome (List Token)) : Type 0 where
  pub stops : Holds (λ q ts. q ≡ at + before + 4 + number_at o s (at + before) 4 + after) w
  pub crossed : kept → number_at o s (at + before) 4 < length_limit → at + before + 4 + number_at o s (at + before) 4 + after ≤ length s
      → Reads w (at + before + 4 + number_at o s (at + before) 4 + after) k

-- what an extent says of a walk, where the numbers are kept
unfoldable Extends : Order → List ℕ → Extent → Type 0 → ℕ → Outcome (List Token) → Type 0
Extends o s Varies kept at w = Unit {0}
Extends o s (Fixed b k j) kept at w = Takes s b k kept at w
Extends o s (Around b a k j) kept at w = Crosses o s b a k kept at w

or_assoc : (a b c : Bool) → ((a || b) || c) ≡ (a || (b || c))
or_assoc true b c = refl
or_assoc false b c = refl

-- one extent after another
pub joint-assoc : (x y z : Extent) → joint (joint x y) z ≡ joint x (joint y z)
unfolding joint
joint-assoc Varies y z = refl
joint-assoc (Fixed w k j) Varies z = refl
joint-assoc (Fixed w k j) (Fixed v n i) Varies = refl
joint-assoc (Fixed w k j) (Fixed v n i) (Fixed u m h) =
    let bytes : w + v + u ≡ w + (v + u) = omega arith in
    let tokens : k + n + m ≡ k + (n + m) = omega arith in
    λ l. Fixed (bytes l) (tokens l) (or_assoc j i h l)
joint-assoc (Fixed w k j) (Fixed v n i) (Around b a m h) =
    let bytes : w + v + b ≡ w + (v + b) = omega arith in
    let tokens : k + n + m ≡ k + (n + m) = omega arith in
    λ l. Around (bytes l) a (tokens l) (or_assoc j i h l)
joint-assoc (Fixed w k j) (Around b a n i) Varies = refl
joint-assoc (Fixed w k j) (Around b a n i) (Fixed v m h) =
    let tokens : k + n + m ≡ k + (n + m) = omega arith in
    λ l. Around (w + b) (a + v) (tokens l) (or_assoc j i h l)
joint-assoc (Fixed w k j) (Around b a n i) (Around c e m h) = refl
joint-assoc (Around b a n i) Varies z = refl
joint-assoc (Around b a n i) (Fixed w k j) Varies = refl
joint-assoc (Around b a n i) (Fixed w k j) (Fixed v m h) =
    let bytes : a + w + v ≡ a + (w + v) = omega arith in
    let tokens : n + k + m ≡ n + (k + m) = omega arith in
    λ l. Around b (bytes l) (tokens l) (or_assoc i j h l)
joint-assoc (Around b a n i) (Fixed w k j) (Around c e m h) = refl
joint-assoc (Around b a n i) (Around c e m j) Varies = refl
joint-assoc (Around b a n i) (Around c e m j) (Fixed v l h) = refl
joint-assoc (Around b a n i) (Around c e m j) (Around u v l h) = refl

module _ (s : List ℕ) where
  -- one part and the next
  extends-follow : (u : Order) (x y : Extent) (p : Type 0) (r : ℕ → Type 0) (at : ℕ) (o : Outcome (List Token)) (g : ℕ → Outcome (List Token))
      → Extends u s x p at o → ((q : ℕ) → Extends u s y (r q) q (g q)) → Extends u s (joint x y) (p × r (beyond u s x at)) at (follow o g)
  unfolding Extends joint beyond
  extends-follow u Varies y p r at o g h k = tt
  extends-follow u (Fixed w n j) Varies p r at o g h k = tt
  extends-follow u (Fixed w n j) (Fixed v m i) p r at o g h k = record {
    ends =
        holds-and_then h.ends (λ q ts e.
        holds-and_then (k q).ends (λ r us f.
        found (record { at = omega (arith, e.at, f.at); count = omega (arith, length-append ts us, e.count, f.count) })));
    reads = λ kept room.
        let first = h.reads kept.0 (omega arith) in
        reads_at (reads-follow g first ((k (at + w)).reads kept.1 (omega arith))) (omega arith) refl;
  }
  extends-follow u (Fixed w n j) (Around b a m i) p r at o g h k = record {
    stops =
        holds-and_then h.ends (λ q ts e.
        holds-and_then (k q).stops (λ r us f.
        let place : q + b ≡ at + (w + b) = omega (arith, e.at) in
        let same : number_at u s (q + b) 4 ≡ number_at u s (at + (w + b)) 4 = ap (λ (p : ℕ). number_at u s p 4) place in
        found (omega (arith, place, f))));
    crossed = λ kept low room.
        let place : at + (w + b) ≡ at + w + b = omega arith in
        let same : number_at u s (at + (w + b)) 4 ≡ number_at u s (at + w + b) 4 = ap (λ (p : ℕ). number_at u s p 4) place in
        let first = h.reads kept.0 (omega arith) in
        reads_at (reads-follow g first ((k (at + w)).crossed kept.1 (omega arith) (omega arith))) (omega arith) refl;
  }
  extends-follow u (Around b a m i) Varies p r at o g h k = tt
  extends-follow u (Around b a m i) (Fixed w n j) p r at o g h k = record {
    stops =
        holds-and_then h.stops (λ q ts e.
        holds-and_then (k q).ends (λ r us f.
        found (omega (arith, e, f.at))));
    crossed = λ kept low room.
        let first = h.crossed kept.0 low (omega arith) in
        reads_at (reads-follow g first ((k (at + b + 4 + number_at u s (at + b) 4 + a)).reads kept.1 (omega arith))) (omega arith) refl;
  }
  extends-follow u (Around b a m i) (Around c e n j) p r at o g h k = tt

  -- a string
  text-extends : (o : Order) (kept : Type 0) (at : ℕ) → Crosses o s 0 0 1 kept at (text_at o s at)
  unfolding text_at
  text-extends o kept at = record {
    stops =
        holds-require (leb (at + 4) (length s)) 21 at (λ _.
        holds-require (ltb (number_at o s at 4) length_limit) 22 at (λ _.
        holds-require (leb (at + 4 + number_at o s at 4) (length s)) 21 at (λ _.
        found end)));
    crossed = λ _ low room.
        reads_at
        (record {
          tokens = token string at (at + 4 + number_at o s at 4) ∷ [];
          eq =
              simp (
                le-leb (at + 4) (length s) (omega (arith, end)),
                lt-ltb (number_at o s at 4) length_limit (omega (arith, end)),
                le-leb (at + 4 + number_at o s at 4) (length s) (omega (arith, end)),
              );
          count = refl;
        })
        end refl;
  }
    where
      end : at + 4 + number_at o s at 4 ≡ at + 0 + 4 + number_at o s (at + 0) 4 + 0
      end =
          let place : at + 0 ≡ at = omega arith in
          let same : number_at o s (at + 0) 4 ≡ number_at o s at 4 = ap (λ (p : ℕ). number_at o s p 4) place in
          omega arith

  -- a scalar
  scalar-extends : (o : Order) (c : ℕ) (b : Fields) (inside : ℕ → Outcome (List Token)) (at : ℕ) → is_scalar b ≡ true
      → Takes s (width_of c) 1 (keeps (limit_of b) (number_at o s at (width_of c)) ≡ true) at (walk_fields o c b inside s at)
  unfolding scalar_at
  scalar-extends o c b inside at e =
      let ruled = scalar-ruled o c s at b inside e in
      rw ruled (record {
        ends = judged (keeps (limit_of b) (number_at o s at (width_of c)));
        reads = λ kept room. record {
          tokens = _;
          eq = ruled-read o c s at (limit_of b) room kept;
          count = refl;
        };
      })
    where
      judged : (fits : Bool) → Holds (λ q ts. Ends (width_of c) 1 at q ts) (scalar_at c s at fits)
      judged fits =
          holds-require (leb (at + width_of c) (length s)) _ _ (λ _.
          holds-require fits _ _ (λ _. found (record { at = refl; count = refl })))

  -- a type's fields
  fields-extend : (o : Order) (c : ℕ) (b : Fields) (x : Extent) (kept : ℕ → Type 0) (inside : ℕ → Outcome (List Token))
      → ((a : ℕ) → Extends o s x (kept a) a (inside a)) → (at : ℕ)
      → Extends o s (extent_fields c b x) (KeptFields o s c b at (kept at)) at (walk_fields o c b inside s at)
  unfolding Extends extent_fields walk_fields is_scalar KeptFields
  fields-extend o c empty x kept inside each at = scalar-extends o c empty inside at refl
  fields-extend o c (items xs) x kept inside each at = scalar-extends o c (items xs) inside at refl
  fields-extend o c (pairs ps) x kept inside each at = scalar-extends o c (pairs ps) inside at refl
  fields-extend o c text x kept inside each at = text-extends o _ at
  fields-extend o c (dimensions k) x kept inside each at = tt
  fields-extend o c (members k) x kept inside each at = each at
  fields-extend o c subtype x kept inside each at = each at

  mutual
    unfolding walk extent_of Extends Kept

    -- a type
    walk-extends : (t : Tree) (o : Order) (at : ℕ) → Extends o s (extent_of t) (Kept o s t at) at (walk o t s at)
    walk-extends (node c b f m) o at =
        fields-extend o c b (extent_all f) (λ p. KeptAll o s f p) (λ p. walk_all o f s p) (λ a. all-extends f o a) at

    -- types in a row
    all-extends : (f : Forest) (o : Order) (at : ℕ) → Extends o s (extent_all f) (KeptAll o s f at) at (walk_all o f s at)
    all-extends nil o at = record {
      ends = found (record { at = omega arith; count = refl });
      reads = λ _ _. record { tokens = []; eq = ap (λ (a : ℕ). Outcome.read a []) (let e : at ≡ at + 0 = omega arith in e); count = refl };
    }
    all-extends (cons t f) o at =
        extends-follow o (extent_of t) (extent_all f) (Kept o s t at) (λ p. KeptAll o s f p) at (walk o t s at) (λ p. walk_all o f s p)
        (walk-extends t o at) (λ q. all-extends f o q)

  -- a type of fixed extent
  pub walk-takes : (t : Tree) (w k : ℕ) (j : Bool) → extent_of t ≡ Fixed w k j → (o : Order) (at : ℕ) → Takes s w k (Kept o s t at) at (walk o t s at)
  unfolding Extends
  walk-takes t w k j e o at = rw e at (walk-extends t o at)

  -- a type with one string
  pub walk-crosses : (t : Tree) (b a k : ℕ) (j : Bool) → extent_of t ≡ Around b a k j → (o : Order) (at : ℕ)
      → Crosses o s b a k (Kept o s t at) at (walk o t s at)
  unfolding Extends
  walk-crosses t b a k j e o at = rw e at (walk-extends t o at)

  -- and n of fixed extent in a row, one step for all
  module _ (t : Tree) (w k : ℕ) (j : Bool) (known : extent_of t ≡ Fixed w k j) (o : Order) where
    pub run_ends : (n at : ℕ) → Holds (λ q ts. Ends (n * w) (n * k) at q ts) (repeat (λ a. walk o t s a) n at)
    unfolding repeat
    run_ends zero at = found (record { at = omega arith; count = omega arith })
    run_ends (suc n) at =
        holds-and_then (walk-takes t w k j known o at).ends (λ q ts e.
        holds-and_then (run_ends n q) (λ r us f.
        found (record {
          at = omega (arith, e.at, f.at, suc-mul n w);
          count = omega (arith, length-append ts us, e.count, f.count, suc-mul n k);
        })))

    pub run-reads : (n at : ℕ) → ((i : ℕ) → i < n → Kept o s t (at + i * w)) → at + n * w ≤ length s
        → Reads (repeat (λ a. walk o t s a) n at) (at + n * w) (n * k)
    run-reads n at kept room =
        repeat-run (λ a. walk o t s a) w k n at (λ i h.
        (walk-takes t w k j known o (at + i * w)).reads (kept i h) (within i h))
      where
        within : (i : ℕ) → i < n → at + i * w + w ≤ length s
        within i h = omega (arith, suc-mul i w, mul-le-mul_right {m = suc i} {n = n} w (omega arith))
