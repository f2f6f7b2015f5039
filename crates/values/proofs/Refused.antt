-- The first refusal of data, exactly when: the walk refuses with a number and a place exactly where whole pieces stand up to the place and the piece there
-- is at fault, or where a whole value stands and bytes are left. Rests on `Sound`, what is walked is a value's, and `Complete`, what is a value's is walked.
use mathlib.Core.Path.{◌≡◌, refl, sym, ap, subst, ◌∙◌}
use mathlib.Core.Logic.{◌↔◌}
use mathlib.Core.Bool.{Bool, true, false, ◌&&◌}
use mathlib.Core.List.{List, ◌++◌, foldr}
use Prim.Native.Nat.{ℕ, zero, suc, ◌+◌, ◌-◌, ◌*◌, ◌≤◌, ◌<◌}
use native.Mathlib.Omega.{arith}
use borrow.Author.Tests.{leb-true, leb-false, ltb-true, ltb-false, le-leb, lt-leb, lt-ltb, le-ltb, eqb-false, ne_eqb}
use lib.Dec.{leb, ltb, eqb}
use lib.ListN.{length, length-append}
use Rattle.descriptor.specs.Codes.{kind_of, is_array}
use Rattle.descriptor.specs.Limits.{data_limit, length_limit}
use Rattle.descriptor.specs.Tree.{Name, Fields, empty, items, pairs, text, dimensions, members, subtype, Tree, node, Forest, nil, cons, child_count, forest_length}
use Rattle.descriptor.specs.Encoding.{Bytes, WellFormed, AllWellFormed}
use Rattle.descriptor.specs.Outcome.{Outcome, refused, read, and_then, require}
use Rattle.descriptor.specs.Width.{width_of}
use Rattle.descriptor.proofs.Outcomes.{Holds, found, holds-require, holds-and_then, Refuses, accepted, refuses-so, refuses-require, refuses-then, refuses-and, refuses-weaken}
use Rattle.descriptor.proofs.Steps.{impossible}
use Rattle.encoding.proofs.Complete.{pass, onward}
use Rattle.flattened.specs.Order.{Order, number_at}
use Rattle.flattened.specs.Token.{Token}
use Rattle.flattened.specs.Walk.{scalar_at, text_at, sizes_at, sizes_fit, product, array_at, repeat, walk_fields, walk, walk_all, walked}
use Rattle.flattened.proofs.Repeats.{repeat_split}
use Rattle.values.specs.Value.{Values, none, also, count, AllFit, without, element, in_order, flatten, flatten_elements, flatten_members, Here}
use Rattle.values.specs.Pieces.{pieces}
use Rattle.values.specs.Refusals.{Ahead, first, after, Due, start, member, part, Single, plain, enumeration, quantity, Faulty, number_cut, sizes-cut, length_cut, characters-cut, size-large, length-large, item-high, Refused, long, piece, left}
use Rattle.values.proofs.Places.{here-none, here-first, here-second, here-then}
use Rattle.values.proofs.Numbers.{numbers_at, length-numbers_at, length-in_order, numbers-stand}
use Rattle.values.proofs.Complete.{value-walks, elements-walk, sizes-numbers, sizes-product, sizes-walk}
use Rattle.values.proofs.Sound.{Stands, sizes-below, value-stands}

-- a test that fails refuses
stop : {A : Type 0} {b : Bool} (number place : ℕ) (o : Outcome A) → b ≡ false → require b number place o ≡ refused number place
stop number place o e = ap (λ (t : Bool). require t number place o) e

-- and so does what comes after a refusal
halt : {A B : Type 0} {o : Outcome A} {number place : ℕ} (next : ℕ → A → Outcome B) → o ≡ refused number place → and_then o next ≡ refused number place
halt {A} next e = ap (λ (o : Outcome A). and_then o next) e

module _ (o : Order) (s : List ℕ) where
  -- a size among k that is too large
  record Large (k at : ℕ) : Type 0 where
    which : ℕ
    among : which < k
    large : length_limit ≤ number_at o s (at + 4 * which) 4

  -- sizes that fail their test have one
  fail-large : (k at : ℕ) → sizes_fit (sizes_at o s k at) ≡ false → Large k at
  unfolding sizes_fit sizes_at
  fail-large zero at e = impossible (sym e)
  fail-large (suc k) at e = of (ltb (number_at o s at 4) length_limit) refl e (λ f. fail-large k (at + 4) f)
    where
      of : (b : Bool) → ltb (number_at o s at 4) length_limit ≡ b → (b && sizes_fit (sizes_at o s k (at + 4))) ≡ false
          → (sizes_fit (sizes_at o s k (at + 4)) ≡ false → Large k (at + 4)) → Large (suc k) at
      of true h f more =
          let r = more f in
          let same : at + 4 + 4 * r.which ≡ at + 4 * suc r.which = omega arith in
          record {
            which = suc r.which;
            among = omega (arith, r.among);
            large = subst (λ (p : ℕ). length_limit ≤ number_at o s p 4) same r.large;
          }
      of false h f more =
          let same : at ≡ at + 4 * 0 = omega arith in
          record {
            which = 0;
            among = omega arith;
            large = subst (λ (p : ℕ). length_limit ≤ number_at o s p 4) same (ltb-false (number_at o s at 4) length_limit h);
          }

  -- and with one they fail it
  large-fail : (k at i : ℕ) → i < k → length_limit ≤ number_at o s (at + 4 * i) 4 → sizes_fit (sizes_at o s k at) ≡ false
  unfolding sizes_fit sizes_at
  large-fail zero at i h l = absurd (omega arith)
  large-fail (suc k) at zero h l =
      let same : at + 4 * 0 ≡ at = omega arith in
      let big : length_limit ≤ number_at o s at 4 = subst (λ (p : ℕ). length_limit ≤ number_at o s p 4) same l in
      ap (λ (b : Bool). b && sizes_fit (sizes_at o s k (at + 4))) (le-ltb (number_at o s at 4) length_limit big)
  large-fail (suc k) at (suc i) h l =
      let same : at + 4 * suc i ≡ at + 4 + 4 * i = omega arith in
      let rest = large-fail k (at + 4) i (omega arith) (subst (λ (p : ℕ). length_limit ≤ number_at o s p 4) same l) in
      of (ltb (number_at o s at 4) length_limit) rest
    where
      of : (b : Bool) → sizes_fit (sizes_at o s k (at + 4)) ≡ false → (b && sizes_fit (sizes_at o s k (at + 4))) ≡ false
      of true e = e
      of false e = refl

  -- in a value of the type t at `at`, the piece at the place is at fault
  record Fault (t : Tree) (at number place : ℕ) : Type 0 where
    type : Tree
    due : Due o s t at type place
    wrong : Faulty o s place type number

  -- the first piece itself
  fault-here : {t : Tree} {number place : ℕ} → Faulty o s place t number → Fault t place number place
  fault-here {t} w = record { type = t; due = start; wrong = w }

  -- the same from another name of its start
  fault-from : {t : Tree} {at from number place : ℕ} → at ≡ from → Fault t at number place → Fault t from number place
  fault-from {t} {number = number} {place = place} e x = subst (λ (p : ℕ). Fault t p number place) e x

  -- where the walk refuses, there is a fault
  scalar-faults : (c at : ℕ) (b : Fields) (f : Forest) (m : Name) (fits : Bool) → Single b
      → (at + width_of c ≤ length s → fits ≡ false → Faulty o s at (node c b f m) 23) → Refuses (Fault (node c b f m) at) (scalar_at c s at fits)
  unfolding scalar_at
  scalar-faults c at b f m fits one high =
      refuses-require (leb (at + width_of c) (length s)) 21 at (λ e. fault-here (number_cut one (leb-false _ _ e)))
      (λ room. refuses-require fits 23 at (λ e. fault-here (high (leb-true _ _ room) e)) (λ _. accepted))

  text-faults : (c at : ℕ) (f : Forest) (m : Name) → Refuses (Fault (node c text f m) at) (text_at o s at)
  unfolding text_at
  text-faults c at f m =
      refuses-require (leb (at + 4) (length s)) 21 at (λ e. fault-here (length_cut (leb-false _ _ e)))
      (λ word.
      refuses-require (ltb (number_at o s at 4) length_limit) 22 at (λ e. fault-here (length-large (leb-true _ _ word) (ltb-false _ _ e)))
      (λ small.
      refuses-require (leb (at + 4 + number_at o s at 4) (length s)) 21 at
      (λ e. fault-here (characters-cut (leb-true _ _ word) (ltb-true _ _ small) (leb-false _ _ e))) (λ _. accepted)))

  -- among n elements of the type e from `at` on
  record ElementFault (e : Tree) (n at number place : ℕ) : Type 0 where
    values : Values
    fits : AllFit e values
    few : count values < n
    here : Here s at (flatten_elements o (cons e nil) values)
    fault : Fault e (at + length (flatten_elements o (cons e nil) values)) number place

  elements-fault : (e : Tree) → ((p : ℕ) → p ≤ length s → Holds (λ q ts. Stands o s e p q) (walk_all o (cons e nil) s p))
      → ((p : ℕ) → p ≤ length s → Refuses (Fault e p) (walk_all o (cons e nil) s p)) → (n p : ℕ) → p ≤ length s
      → Refuses (ElementFault e n p) (repeat (λ k. walk_all o (cons e nil) s k) n p)
  unfolding repeat flatten count
  elements-fault e stands faults zero p h = accepted
  elements-fault e stands faults (suc n) p h =
      refuses-then (stands p h) (refuses-weaken (faults p h) (λ number place x. this number place x))
      (λ q ts i.
      refuses-and (refuses-weaken (elements-fault e stands faults n q (omega (arith, i.here.within, i.end))) (λ number place x. later q i number place x))
      (λ _ _. accepted))
    where
      this : (number place : ℕ) → Fault e p number place → ElementFault e (suc n) p number place
      this number place x =
          record { values = none; fits = without; few = omega arith; here = here-none s p h; fault = fault-from (let z : p ≡ p + 0 = omega arith in z) x }

      later : (q : ℕ) → Stands o s e p q → (number place : ℕ) → ElementFault e n q number place → ElementFault e (suc n) p number place
      later q i number place x =
          let both = length-append (flatten o e i.value) (flatten_elements o (cons e nil) x.values) in
          record {
            values = also i.value x.values;
            fits = element i.fits x.fits;
            few = omega (arith, x.few);
            here = here-then s p q (flatten o e i.value) (flatten_elements o (cons e nil) x.values) i.here i.end x.here;
            fault = fault-from (omega (arith, both, i.end)) x.fault;
          }

  -- among the members f from `at` on
  record MemberFault (f : Forest) (at number place : ℕ) : Type 0 where
    values : Values
    type : Tree
    ahead : Ahead f values type
    here : Here s at (flatten_members o f values)
    fault : Fault type (at + length (flatten_members o f values)) number place

  module _ (b : Bytes s) where
    -- an array: its sizes, then its elements
    array-faults : (c k : ℕ) (f : Forest) (m : Name) → forest_length f ≡ 1
        → ((e : Tree) → f ≡ cons e nil → (p : ℕ) → p ≤ length s → Holds (λ q ts. Stands o s e p q) (walk_all o f s p))
        → ((e : Tree) → f ≡ cons e nil → (p : ℕ) → p ≤ length s → Refuses (Fault e p) (walk_all o f s p)) → (p : ℕ)
        → Refuses (Fault (node c (dimensions k) f m) p) (walk_fields o c (dimensions k) (λ j. walk_all o f s j) s p)
    unfolding walk_fields array_at forest_length
    array-faults c k nil m l stands faults p = absurd (omega arith)
    array-faults c k (cons e (cons t f)) m l stands faults p = absurd (omega arith)
    array-faults c k (cons e nil) m l stands faults p =
        refuses-then {Q = λ next n. (p + 4 * k ≤ length s) × (sizes_fit ns ≡ true) × (next ≡ p + 4 * k) × (n ≡ product ns)}
        (holds-require (leb (p + 4 * k) (length s)) _ _ (λ room.
        holds-require (sizes_fit ns) _ _ (λ small. found (leb-true _ _ room, small, refl, refl))))
        (refuses-require (leb (p + 4 * k) (length s)) 21 p (λ e. fault-here (sizes-cut (leb-false _ _ e)))
        (λ room. refuses-require (sizes_fit ns) 22 p (λ e. sized (leb-true _ _ room) (fail-large k p e)) (λ _. accepted)))
        (λ next n h.
        refuses-and (refuses-weaken (elements-fault e (stands e refl) (faults e refl) n next (omega (arith, h.0, h.2))) (λ number place x. inside next n h number place x))
        (λ _ _. accepted))
      where
        ns : List ℕ
        ns = sizes_at o s k p

        sized : p + 4 * k ≤ length s → Large k p → Fault (node c (dimensions k) (cons e nil) m) p 22 p
        sized room x = fault-here (size-large room x.which x.among x.large)

        inside : (next n : ℕ) → (p + 4 * k ≤ length s) × (sizes_fit ns ≡ true) × (next ≡ p + 4 * k) × (n ≡ product ns) → (number place : ℕ)
            → ElementFault e n next number place → Fault (node c (dimensions k) (cons e nil) m) p number place
        inside next n h number place x =
            let same : ns ≡ numbers_at o s 4 k p = sizes-numbers o s k p in
            let many : length ns ≡ k = ap length same ∙ length-numbers_at o s 4 k p in
            let word : Here s p (in_order o 4 ns) = rw same (numbers-stand s b o 4 k p (omega (arith, h.0))) in
            let wide = length-in_order o 4 ns in
            let y : List ℕ = flatten_elements o (cons e nil) x.values in
            let both = length-append (in_order o 4 ns) y in
            let next-is : next ≡ p + length (in_order o 4 ns) = omega (arith, h.2) in
            let few : count x.values < foldr ◌*◌ 1 ns = omega (arith, x.few, h.3, sizes-product ns) in
            let fault : Fault e (p + length (in_order o 4 ns ++ y)) number place = fault-from (omega arith) x.fault in
            record {
              type = fault.type;
              due = Due.element ns many (sizes-below ns h.1) x.fits few (here-then s p next (in_order o 4 ns) y word next-is x.here) fault.due;
              wrong = fault.wrong;
            }

    -- the fields of a type
    fields-fault : (c : ℕ) (fs : Fields) (f : Forest) (m : Name) → forest_length f ≡ child_count fs
        → ((e : Tree) → f ≡ cons e nil → (p : ℕ) → p ≤ length s → Holds (λ q ts. Stands o s e p q) (walk_all o f s p))
        → ((e : Tree) → f ≡ cons e nil → (p : ℕ) → p ≤ length s → Refuses (Fault e p) (walk_all o f s p))
        → ((p : ℕ) → p ≤ length s → Refuses (MemberFault f p) (walk_all o f s p)) → (p : ℕ) → p ≤ length s
        → Refuses (Fault (node c fs f m) p) (walk_fields o c fs (λ j. walk_all o f s j) s p)
    unfolding walk_fields child_count
    fields-fault c empty f m l stands faults inside p h = scalar-faults c p empty f m true plain (λ _ e. impossible (sym e))
    fields-fault c (items xs) f m l stands faults inside p h =
        scalar-faults c p (items xs) f m _ enumeration (λ room e. item-high room (ltb-false (number_at o s p (width_of c)) (length xs) e))
    fields-fault c (pairs ps) f m l stands faults inside p h = scalar-faults c p (pairs ps) f m true quantity (λ _ e. impossible (sym e))
    fields-fault c text f m l stands faults inside p h = text-faults c p f m
    fields-fault c (dimensions k) f m l stands faults inside p h = array-faults c k f m l stands faults p
    fields-fault c (members k) f m l stands faults inside p h =
        refuses-weaken (inside p h) (λ number place x. record { type = x.fault.type; due = member x.ahead x.here x.fault.due; wrong = x.fault.wrong })
    fields-fault c subtype f m l stands faults inside p h =
        refuses-weaken (inside p h) (λ number place x. record { type = x.fault.type; due = part x.ahead x.here x.fault.due; wrong = x.fault.wrong })

    mutual
      unfolding walk flatten WellFormed

      -- a value
      value-faults : (t : Tree) (a : Bool) → WellFormed a t → (p : ℕ) → p ≤ length s → Refuses (Fault t p) (walk o t s p)
      value-faults (node c fs f m) a w p h =
          fields-fault c fs f m w.children (λ e same q i. element-stands f (is_array (kind_of c)) w.inside e same q i)
          (λ e same q i. element-faults f (is_array (kind_of c)) w.inside e same q i) (λ q i. members-fault f (is_array (kind_of c)) w.inside q i) p h

      -- an array's one element
      element-stands : (f : Forest) (a : Bool) → AllWellFormed a f → (e : Tree) → f ≡ cons e nil → (p : ℕ) → p ≤ length s
          → Holds (λ q ts. Stands o s e p q) (walk_all o f s p)
      element-stands nil a w e same p h = absurd (let z : ◌≡◌ {A = ℕ} 0 1 = cc in omega arith)
      element-stands (cons t f) a w e same p h =
          let lone : (t ≡ e) × (f ≡ nil) = (cc, cc) in
          rw lone.1 (holds-and_then (value-stands o s b t a w.0 p h) (λ q ts i. found (rw lone.0 at i)))

      element-faults : (f : Forest) (a : Bool) → AllWellFormed a f → (e : Tree) → f ≡ cons e nil → (p : ℕ) → p ≤ length s
          → Refuses (Fault e p) (walk_all o f s p)
      element-faults nil a w e same p h = absurd (let z : ◌≡◌ {A = ℕ} 0 1 = cc in omega arith)
      element-faults (cons t f) a w e same p h =
          let lone : (t ≡ e) × (f ≡ nil) = (cc, cc) in
          rw lone.1 (refuses-and (refuses-weaken (value-faults t a w.0 p h) (λ number place x. rw lone.0 at x)) (λ _ _. accepted))

      -- a cluster's members
      members-fault : (f : Forest) (a : Bool) → AllWellFormed a f → (p : ℕ) → p ≤ length s → Refuses (MemberFault f p) (walk_all o f s p)
      members-fault nil a w p h = accepted
      members-fault (cons t f) a w p h =
          refuses-then (value-stands o s b t a w.0 p h) (refuses-weaken (value-faults t a w.0 p h) (λ number place x. this number place x))
          (λ q ts i.
          refuses-and (refuses-weaken (members-fault f a w.1 q (omega (arith, i.here.within, i.end))) (λ number place x. later q i number place x))
          (λ _ _. accepted))
        where
          this : (number place : ℕ) → Fault t p number place → MemberFault (cons t f) p number place
          this number place x = record {
            values = none;
            type = t;
            ahead = first;
            here = here-none s p h;
            fault = fault-from (let z : p ≡ p + 0 = omega arith in z) x;
          }

          later : (q : ℕ) → Stands o s t p q → (number place : ℕ) → MemberFault f q number place → MemberFault (cons t f) p number place
          later q i number place x =
              let both = length-append (flatten o t i.value) (flatten_members o f x.values) in
              record {
                values = also i.value x.values;
                type = x.type;
                ahead = after i.fits x.ahead;
                here = here-then s p q (flatten o t i.value) (flatten_members o f x.values) i.here i.end x.here;
                fault = fault-from (omega (arith, both, i.end)) x.fault;
              }

  -- where there is a fault, the walk refuses: the piece itself
  piece-refused : {t : Tree} {number p : ℕ} → Faulty o s p t number → walk o t s p ≡ refused number p
  unfolding walk walk_fields scalar_at text_at array_at
  piece-refused {p = p} (number_cut {c = c} plain e) = stop 21 p _ (lt-leb (p + width_of c) (length s) e)
  piece-refused {p = p} (number_cut {c = c} enumeration e) = stop 21 p _ (lt-leb (p + width_of c) (length s) e)
  piece-refused {p = p} (number_cut {c = c} quantity e) = stop 21 p _ (lt-leb (p + width_of c) (length s) e)
  piece-refused {p = p} (sizes-cut {k = k} e) = halt _ (stop 21 p _ (lt-leb (p + 4 * k) (length s) e))
  piece-refused {p = p} (length_cut e) = stop 21 p _ (lt-leb (p + 4) (length s) e)
  piece-refused {p = p} (characters-cut word small e) =
      pass 21 p (le-leb (p + 4) (length s) word)
      (pass 22 p (lt-ltb (number_at o s p 4) length_limit small) (stop 21 p _ (lt-leb (p + 4 + number_at o s p 4) (length s) e)))
  piece-refused {p = p} (size-large {k = k} room i among large) =
      halt _ (pass 21 p (le-leb (p + 4 * k) (length s) room) (stop 22 p _ (large-fail k p i among large)))
  piece-refused {p = p} (length-large word large) =
      pass 21 p (le-leb (p + 4) (length s) word) (stop 22 p _ (le-ltb (number_at o s p 4) length_limit large))
  piece-refused {p = p} (item-high {c = c} {xs = xs} room high) =
      pass 21 p (le-leb (p + width_of c) (length s) room) (stop 23 p _ (le-ltb (number_at o s p (width_of c)) (length xs) high))

  -- an element after those that stand
  elements-refused : (e : Tree) (vs : Values) (n at number place : ℕ) → AllFit e vs → count vs < n → Here s at (flatten_elements o (cons e nil) vs)
      → walk o e s (at + length (flatten_elements o (cons e nil) vs)) ≡ refused number place
      → repeat (λ q. walk_all o (cons e nil) s q) n at ≡ refused number place
  unfolding repeat walk
  elements-refused e vs n at number place fits few here wrong =
      let more : n ≡ count vs + suc (n - count vs - 1) = omega (arith, few) in
      ap (λ (k : ℕ). repeat (λ q. walk_all o (cons e nil) s q) k at) more
      ∙ repeat_split (λ q. walk_all o (cons e nil) s q) (count vs) (suc (n - count vs - 1)) at
      ∙ onward _ (elements-walk o s fits at here).walks (halt _ (halt _ (halt _ wrong)))

  -- a member after those that stand
  members-refused : {f : Forest} {vs : Values} {t : Tree} → Ahead f vs t → (at number place : ℕ) → Here s at (flatten_members o f vs)
      → walk o t s (at + length (flatten_members o f vs)) ≡ refused number place → walk_all o f s at ≡ refused number place
  unfolding walk flatten
  members-refused (first {u = u}) at number place here wrong =
      let same : at + 0 ≡ at = omega arith in
      halt _ (subst (λ (p : ℕ). walk o u s p ≡ refused number place) same wrong)
  members-refused (after {t = t} {u = u} {f = f} {v = v} {vs = vs} fits ahead) at number place here wrong =
      let x : List ℕ = flatten o t v in
      let y : List ℕ = flatten_members o f vs in
      let same : at + length (x ++ y) ≡ at + length x + length y = omega (arith, length-append x y) in
      let rest =
      members-refused ahead (at + length x) number place (here-second s at x y here)
      (subst (λ (p : ℕ). walk o u s p ≡ refused number place) same wrong) in
      onward _ (value-walks o s fits at (here-first s at x y here)).walks (halt _ rest)

  -- and all that it is inside of
  due-refused : {t u : Tree} {at number place : ℕ} → Due o s t at u place → Faulty o s place u number → walk o t s at ≡ refused number place
  unfolding walk walk_fields
  due-refused start wrong = piece-refused wrong
  due-refused {at = at} {number = number} {place = place} (Due.element {k = k} {e = e} ns {vs = vs} many below fits few here due) wrong =
      let x : List ℕ = in_order o 4 ns in
      let y : List ℕ = flatten_elements o (cons e nil) vs in
      let next : at + length x ≡ at + 4 * k = omega (arith, length-in_order o 4 ns, many) in
      let same : at + length (x ++ y) ≡ at + 4 * k + length y = omega (arith, length-append x y) in
      let rest : walk o e s (at + 4 * k + length y) ≡ refused number place =
      subst (λ (p : ℕ). walk o e s p ≡ refused number place) same (due-refused due wrong) in
      onward _ (sizes-walk o s k at ns many below (here-first s at x y here))
      (halt _
      (elements-refused e vs (product ns) (at + 4 * k) number place fits (omega (arith, few, sizes-product ns)) (rw next at (here-second s at x y here)) rest))
  due-refused {at = at} {number = number} {place = place} (member ahead here due) wrong =
      members-refused ahead at number place here (due-refused due wrong)
  due-refused {at = at} {number = number} {place = place} (part ahead here due) wrong =
      members-refused ahead at number place here (due-refused due wrong)

module _ (o : Order) (t : Tree) (formed : WellFormed false t) (s : List ℕ) (b : Bytes s) where
  -- a refusal has its cause
  refused-so : (number place : ℕ) → walked o t s ≡ refused number place → Refused o t s number place
  unfolding walked
  refused-so number place e = refuses-so e all
    where
      all : Refuses (λ number place. Refused o t s number place) (walked o t s)
      all =
          refuses-require (leb (length s) data_limit) 20 0 (λ f. long (leb-false _ _ f))
          (λ f.
          let short : length s ≤ data_limit = leb-true _ _ f in
          refuses-then (value-stands o s b t false formed 0 (omega arith))
          (refuses-weaken (value-faults o s b t false formed 0 (omega arith)) (λ number place x. piece short x.due x.wrong))
          (λ q ts i.
          refuses-require (eqb q (length s)) 25 q
          (λ g.
          let end : q ≡ length (flatten o t i.value) = omega (arith, i.end) in
          let over : length (flatten o t i.value) < length s = omega (arith, i.here.within, eqb-false q (length s) g) in
          rw end (left short i.fits i.here over)) (λ _. accepted)))

  -- and a cause its refusal
  so-refused : (number place : ℕ) → Refused o t s number place → walked o t s ≡ refused number place
  unfolding walked
  so-refused number place (long e) = stop 20 0 _ (lt-leb (length s) data_limit e)
  so-refused number place (piece short due wrong) = pass 20 0 (le-leb (length s) data_limit short) (halt _ (due-refused o s due wrong))
  so-refused number place (left {v = v} short fits here over) =
      let end : 0 + length (flatten o t v) ≡ length (flatten o t v) = omega arith in
      pass 20 0 (le-leb (length s) data_limit short)
      (onward _ ((value-walks o s fits 0 here).walks ∙ ap (λ (k : ℕ). read k (pieces t v)) end)
      (stop 25 (length (flatten o t v)) _ (ne_eqb (length (flatten o t v)) (length s) (λ same. omega arith))))

  -- data is refused with a number and a place exactly when there is that cause for it
  pub refused-exactly : (number place : ℕ) → (walked o t s ≡ refused number place) ↔ Refused o t s number place
  refused-exactly number place = (refused-so number place, so-refused number place)

  -- and there is one such cause at most
  pub one-refusal : {n m p q : ℕ} → Refused o t s n p → Refused o t s m q → (n ≡ m) × (p ≡ q)
  one-refusal {n} {m} {p} {q} f g =
      let same : ◌≡◌ {A = Outcome (List Token)} (refused n p) (refused m q) = sym (so-refused n p f) ∙ so-refused m q g in
      (cc, cc)
