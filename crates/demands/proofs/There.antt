-- The value at a path is the number that the data's value has there, and the part at the path is the bytes of what stands there: for every path,
-- 30 and 31 included. The public entries whose contracts use these definitions are locate, view and read_value.
-- Rests on the laws of values, a value's bytes are walked to their end wherever they stand, and on what is known of parts and bits at paths.
use mathlib.Core.Path.{◌≡◌, refl, sym, ap, subst, ◌∙◌}
use mathlib.Core.Logic.{◌↔◌, ⊎_elim}
use mathlib.Core.Bool.{true, false, cond}
use mathlib.Core.List.{List, [], ◌∷◌, ◌++◌}
use Prim.Native.Nat.{ℕ, zero, suc, ◌+◌, ◌-◌, ◌*◌, ◌<◌, ◌≤◌}
use native.Mathlib.Omega.{arith}
use borrow.Author.Tests.{lt-ltb, le-leb, lt-leb}
use lib.Dec.{ltb, leb-suc-zero, leb-suc-suc}
use lib.ListN.{length}
use lib.Seq.{slice, slice_empty}
use Rattle.number.specs.Endian.{be}
use Rattle.descriptor.specs.Limits.{data_limit}
use Rattle.descriptor.specs.Codes.{between}
use Rattle.descriptor.specs.Tree.{Tree, Forest, nil, cons}
use Rattle.descriptor.specs.Encoding.{FieldsFit, WellFormed}
use Rattle.descriptor.specs.Width.{width_of}
use Rattle.descriptor.specs.Outcome.{Outcome, refused, read, and_then, require, judge}
use Rattle.descriptor.specs.declared.answer.Answer.{Answer}
use Rattle.descriptor.proofs.Steps.{impossible}
use Rattle.descriptor.proofs.Outcomes.{Holds, holds_read}
use Rattle.flattened.specs.Order.{big, number_at}
use Rattle.flattened.specs.Token.{Token}
use Rattle.flattened.specs.Walk.{repeat, walk, walk_all}
use Rattle.flattened.proofs.Codes.{is_measured}
use Rattle.access.specs.Path.{Spot, member_at, step_at, step_into, spot_at, no_part, part_of, located, viewed}
use Rattle.reading.specs.Values.{value_of, is_value, value_at, number_of, no_value, read_value}
use Rattle.access.specs.declared.part.Part.{Part}
use Rattle.reading.specs.declared.value.Value.{Value as Given}
use Rattle.reading.specs.declared.value.Value.TheVariants.{Nothing}
use Rattle.reading.proofs.Values.{inside, value_none}
use Rattle.values.specs.Value.{Value, numbers, characters, elements, parts, Values, count, AllBelow, Scalar, Fits, plain, enumeration, quantity, string, array, cluster, stamp, AllFit, without, element, EachFits, done, member, in_order, flatten, flatten_elements, flatten_members, Data, Here}
use Rattle.byte_order.specs.Reversal.{number_count, number_width}
use Rattle.values.specs.Pieces.{pieces_at}
use Rattle.values.proofs.Places.{here-whole, here-first, here-second}
use Rattle.values.proofs.Numbers.{number_read, length-in_order}
use Rattle.values.proofs.Scalars.{lone-width}
use Rattle.values.proofs.Complete.{value-walks, sizes-walk, sizes-product}
use Rattle.values.proofs.Accepted.{data-walked}
use Rattle.demands.proofs.Accepted.{Described}
use Rattle.demands.proofs.Data.{UsesAll, uses-exactly, walked-answer}
use Rattle.demands.proofs.Parts.{part_from, top, located-spot}
use Rattle.demands.proofs.Bits.{Number, integer, natural, item, single, double, flag, either, measured, Formed, path-formed, given, read-spot}
use Rattle.demands.proofs.Reached.{Reached, nowhere, there, on_from, member_in, element_in, step_in, reach_from, reach, lone_of, number_in, OneNumber, alone, reading_there, part_there, bytes_there}

-- where the walk leads: to the spot of what stands there, whose bytes stand from the spot on, or to the same refused step
data Leads (s : List ℕ) : Outcome Spot → Reached → Type 0 where
  lost : {i : ℕ} → Leads s (refused 30 i) (nowhere i)
  led : {t : Tree} {v : Value} {at : ℕ} → Fits t v → Here s at (flatten big t v)
      → Leads s (read at (record { type = t; start = at })) (there t v at)

-- of tokens that are passed only their end matters
passed : (o : Outcome (List Token)) (ts : List Token) (next : ℕ → Outcome Spot)
    → and_then (and_then o (λ q us. read q (ts ++ us))) (λ q _. next q) ≡ and_then o (λ q _. next q)
passed (refused number place) ts next = refl
passed (read q us) ts next = refl

module _ (s : List ℕ) where
  -- a member of a cluster
  member-leads : (i k : ℕ) {f : Forest} {vs : Values} → EachFits f vs → (at : ℕ) → Here s at (flatten_members big f vs)
      → Leads s (member_at i f k s at) (member_in i k f vs at)
  unfolding member_at member_in flatten
  member-leads i k done at h = lost
  member-leads i zero (member g gs) at h = led g (here-first s at _ _ h)
  member-leads i (suc k) (member {t = t} {v = v} g gs) at h =
      let x : List ℕ = flatten big t v in
      rw (value-walks big s g at (here-first s at x _ h)).walks (member-leads i k gs (at + length x) (here-second s at x _ h))

  -- an element of an array
  element-leads : (i k : ℕ) {e : Tree} {vs : Values} → AllFit e vs → (at : ℕ) → Here s at (flatten_elements big (cons e nil) vs)
      → Leads s
      (require (ltb k (count vs)) 30 i (and_then (repeat (λ p. walk_all big (cons e nil) s p) k at) (λ start _. member_at i (cons e nil) zero s start)))
      (element_in i k (cons e nil) vs at)
  unfolding repeat walk member_at element_in flatten count
  element-leads i k without at h = rw (leb-suc-zero k) lost
  element-leads i zero (element {vs = vs} g gs) at h = rw (lt-ltb 0 (suc (count vs)) (omega arith)) (led g (here-first s at _ _ h))
  element-leads i (suc k) (element {e = t} {v = v} {vs = vs} g gs) at h =
      let x : List ℕ = flatten big t v in
      let rest : Outcome (List Token) = repeat (λ p. walk_all big (cons t nil) s p) k (at + length x) in
      rw (leb-suc-suc (suc k) (count vs), (value-walks big s g at (here-first s at x _ h)).walks)
      (rw (passed rest (pieces_at at t v ++ []) (λ start. member_at i (cons t nil) zero s start))
      (element-leads i k gs (at + length x) (here-second s at x _ h)))

  -- a step
  step-leads : (i k : ℕ) {t : Tree} {v : Value} → Fits t v → (at : ℕ) → Here s at (flatten big t v) → Leads s (step_into i t k s at) (step_in i k t v at)
  unfolding step_at step_in flatten
  step-leads i k (plain g) at h = lost
  step-leads i k (enumeration g l) at h = lost
  step-leads i k (quantity g) at h = lost
  step-leads i k (string b l) at h = lost
  step-leads i k (array {k = d} {ns = ns} {vs = vs} l b n gs) at h =
      let x : List ℕ = in_order big 4 ns in
      let next : at + 4 * d ≡ at + length x = omega (arith, length-in_order big 4 ns) in
      rw (sizes-walk big s d at ns l b (here-first s at x _ h), sym (n ∙ sizes-product ns), next)
      (element-leads i k gs (at + length x) (here-second s at x _ h))
  step-leads i k (cluster gs) at h = member-leads i k gs at h
  step-leads i k (stamp gs) at h = member-leads i k gs at h

  -- a path
  path-leads : (i : ℕ) (p : List ℕ) {t : Tree} {v : Value} → Fits t v → (at : ℕ) → Here s at (flatten big t v)
      → Leads s (spot_at p i s (record { type = t; start = at })) (reach_from i p t v at)
  unfolding spot_at reach_from
  path-leads i [] g at h = led g h
  path-leads i (k ∷ ks) g at h = then (step-leads i k g at h) (λ t v g at h. path-leads (i + 1) ks g at h)
    where
      then : {o : Outcome Spot} {r : Reached} → Leads s o r
          → ((t : Tree) (v : Value) → Fits t v → (at : ℕ) → Here s at (flatten big t v)
          → Leads s (spot_at ks (i + 1) s (record { type = t; start = at })) (reach_from (i + 1) ks t v at))
          → Leads s (and_then o (λ _ y. spot_at ks (i + 1) s y)) (on_from r (λ u w start. reach_from (i + 1) ks u w start))
      then lost on = lost
      then (led g h) on = on _ _ g _ h

-- a scalar of a single number's code has one number
low_count : (c : ℕ) → c < 12 → number_count c ≡ 1
unfolding number_count
low_count c h = rw (lt-leb 12 c h, lt-leb 28 c (omega arith)) refl

number-count : {c : ℕ} → Number c → number_count c ≡ 1
unfolding number_count
number-count {c} (integer l h) = low_count c (omega arith)
number-count {c} (natural l h) = low_count c (omega arith)
number-count {c} (item l h) = rw (le-leb 12 c (omega arith), lt-leb c 14 (omega arith), lt-leb 28 c (omega arith)) refl
number-count (single e) = ⊎_elim (λ h. ap number_count h) (λ h. ap number_count h) e
number-count (double e) = ⊎_elim (λ h. ap number_count h) (λ h. ap number_count h) e
number-count (flag h) = ap number_count h

-- a code that is none of them has no value
valueless : (c n : ℕ) → (Number c → ⊥) → value_of c n ≡ Nothing
valueless c n h =
    sym
    (value_none c n (λ e. h (single e)) (λ e. h (double e)) (λ e. h (flag e)) (out 1 4 (λ l m. h (integer l m))) (out 5 8 (λ l m. h (natural l m)))
    (out 21 23 (λ l m. h (item l m))))
  where
    out : (low high : ℕ) → (low ≤ c → c ≤ high → ⊥) → between low high c ≡ false
    out low high k = either (between low high c) (λ e. let l = inside low high c e in absurd (k l.0 l.1)) (λ e. e)

-- the one test of a value, as an outcome and as an answer
judged : (at : ℕ) (w : Given) → judge no_value 4 (require (is_value w) 31 0 (read at w)) given ≡ cond (is_value w) (given w) (no_value 31 4 0)
judged at w = either (is_value w) (λ e. rw e refl) (λ e. rw e refl)

module _ (s : List ℕ) where
  -- the value at the bytes of a scalar
  scalar-value : (c at : ℕ) (ns : List ℕ) → Scalar c ns → Here s at (in_order big (number_width c) ns) → value_of c (be s at (width_of c)) ≡ lone_of c ns
  unfolding lone_of in_order AllBelow number_at
  scalar-value c at [] g h = valueless c _ (λ n. omega (arith, g.many, number-count n))
  scalar-value c at (n ∷ []) g h =
      let wide : be s at (number_width c) ≡ n = number_read big s at (number_width c) n g.below.0 (here-first s at _ [] h) in
      ap (value_of c) (ap (λ (w : ℕ). be s at w) (sym (lone-width c g.many)) ∙ wide)
  scalar-value c at (n ∷ k ∷ ns) g h = valueless c _ (λ n. omega (arith, g.many, number-count n))

  -- and at those of any value
  pub value-at : {t : Tree} {v : Value} → Formed t → Fits t v → (at : ℕ) → Here s at (flatten big t v)
      → value_at s (record { type = t; start = at }) ≡ number_in t v
  unfolding number_in flatten WellFormed FieldsFit is_measured
  value-at w (plain {c = c} {ns = ns} g) at h = scalar-value c at ns g h
  value-at w (enumeration {c = c} {n = n} g l) at h = scalar-value c at (n ∷ []) g h
  value-at w (quantity {c = c} {ns = ns} g) at h = scalar-value c at ns g h
  value-at w (string b l) at h = valueless _ _ (λ n. impossible (sym (ap is_measured w.formed.fields) ∙ measured n))
  value-at w (array l b n gs) at h = valueless _ _ (λ n. impossible (sym (ap is_measured w.formed.fields.0) ∙ measured n))
  value-at w (cluster gs) at h = valueless _ _ (λ n. impossible (sym (ap is_measured w.formed.fields.0) ∙ measured n))
  value-at w (stamp gs) at h = valueless _ _ (λ n. impossible (sym (ap is_measured w.formed.fields) ∙ measured n))

  -- what is known of a value where the walk leads
  pub record Stands (t : Tree) (v : Value) (at : ℕ) : Type 0 where
    pub formed : Formed t
    pub fits : Fits t v
    pub here : Here s at (flatten big t v)

  leads-stands : {o : Outcome Spot} {t : Tree} {v : Value} {at : ℕ} → Leads s o (there t v at) → Holds (λ _ y. Formed y.type) o → Stands t v at
  leads-stands (led g h) w = record { formed = holds_read refl w; fits = g; here = h }

  -- what is answered where the walk leads: the value
  leads-reading : {o : Outcome Spot} {r : Reached} → Leads s o r → Holds (λ _ y. Formed y.type) o
      → judge no_value 4 (and_then o (λ _ y. number_of s y)) given ≡ reading_there r
  unfolding number_of reading_there
  leads-reading lost w = refl
  leads-reading (led {t = t} {v = v} {at = at} g h) w = rw (value-at (holds_read refl w) g at h) (judged at (number_in t v))

  -- the part
  leads-part : {o : Outcome Spot} {r : Reached} → Leads s o r → judge no_part 4 (and_then o (λ _ y. part_of s y)) (λ part. part) ≡ part_there r
  unfolding part_of part_there
  leads-part lost = refl
  leads-part (led {t = t} {v = v} {at = at} g h) =
      let n : ℕ = length (flatten big t v) in
      let long : at + n - at ≡ n = omega arith in
      rw (value-walks big s g at h).walks (ap (λ (k : ℕ). part_from at k) long)

  -- its bytes
  leads-bytes : {o : Outcome Spot} {r : Reached} → Leads s o r → slice (part_there r).start ((part_there r).start + (part_there r).length) s ≡ bytes_there r
  unfolding part_there bytes_there
  leads-bytes lost = slice_empty 0 s
  leads-bytes (led g h) = h.bytes

-- 30 is answered only where a step leads nowhere
only-nowhere : (r : Reached) → (reading_there r).answer.number ≡ 30 → (i : ℕ) × (r ≡ nowhere i)
unfolding reading_there
only-nowhere (nowhere i) e = (i, refl)
only-nowhere (there t v at) e =
    either (is_value (number_in t v)) (λ h. absurd (let z = rw h at e in omega arith)) (λ h. absurd (let z = rw h at e in omega arith))

-- only a scalar of one number has a value
value-alone : (t : Tree) (v : Value) (at : ℕ) → is_value (number_in t v) ≡ true → OneNumber (there t v at) (number_in t v)
unfolding is_value number_in lone_of
value-alone t (numbers []) at h = impossible h
value-alone t (numbers (n ∷ [])) at h = alone h
value-alone t (numbers (n ∷ k ∷ ns)) at h = impossible h
value-alone t (characters x) at h = impossible h
value-alone t (elements ns vs) at h = impossible h
value-alone t (parts vs) at h = impossible h

-- 0 is answered only where there is one
only-alone : (r : Reached) → (reading_there r).answer.number ≡ 0 → OneNumber r (reading_there r).value
unfolding reading_there
only-alone (nowhere i) e = absurd (omega arith)
only-alone (there t v at) e =
    either (is_value (number_in t v)) (λ h. rw h (value-alone t v at h)) (λ h. absurd (let z = rw h at e in omega arith))

-- and wherever there is
alone-read : {r : Reached} {w : Given} → OneNumber r w → (reading_there r).answer.number ≡ 0
unfolding reading_there number_in lone_of
alone-read (alone h) = rw h refl

-- data of the descriptor d, within the limit, and its value. Accepted data is so by `Data.data-exactly`, and has one value by `Data.one-data`.
module _ (d : List ℕ) (x : Described d) (s : List ℕ) (y : Data big x.tree s) (short : length s ≤ data_limit) where
  uses : UsesAll x.tree s
  uses = ((uses-exactly d x s).0 (ap (λ (r : Answer). r.number) (walked-answer d x s _ _ (data-walked big x.tree s y short)))).1

  leads : (p : List ℕ) → Leads s (spot_at p 0 s (top d x s)) (reach p x.tree y.value)
  leads p = path-leads s 0 p y.fits 0 (subst (λ (z : List ℕ). Here s 0 z) y.bytes (here-whole s))

  formed : (p : List ℕ) → Holds (λ _ z. Formed z.type) (spot_at p 0 s (top d x s))
  formed p = path-formed s p 0 (top d x s) (record { in_array = false; formed = x.limits.formed })

  -- what stands at a path is a value of its type, and its bytes stand at its place
  pub stands-there : (p : List ℕ) {t : Tree} {v : Value} {at : ℕ} → reach p x.tree y.value ≡ there t v at → Stands s t v at
  stands-there p e = leads-stands s (subst (λ (r : Reached). Leads s (spot_at p 0 s (top d x s)) r) e (leads p)) (formed p)

  -- the value at a path is the number that the data's value has there
  pub value_there : (p : List ℕ) → read_value d s p ≡ reading_there (reach p x.tree y.value)
  value_there p = read-spot d x s short uses p ∙ leads-reading s (leads p) (formed p)

  -- the part at a path starts where the bytes of the value there do, and is as long
  pub part-there : (p : List ℕ) → located d s p ≡ part_there (reach p x.tree y.value)
  part-there p = located-spot d x s short uses p ∙ leads-part s (leads p)

  -- and is those bytes
  pub bytes-there : (p : List ℕ) → viewed d s p ≡ bytes_there (reach p x.tree y.value)
  bytes-there p = ap (λ (a : Part). slice a.start (a.start + a.length) s) (part-there p) ∙ leads-bytes s (leads p)

  -- so 30 is answered exactly where a step leads nowhere
  pub nowhere-exactly : (p : List ℕ) → ((read_value d s p).answer.number ≡ 30) ↔ ((i : ℕ) × (reach p x.tree y.value ≡ nowhere i))
  unfolding reading_there
  nowhere-exactly p = rw (value_there p) (only-nowhere _, λ h. ap (λ (r : Reached). (reading_there r).answer.number) h.1)

  -- and 0 exactly where one number of a code that has values stands; its value is given
  pub number-exactly : (p : List ℕ) → ((read_value d s p).answer.number ≡ 0) ↔ OneNumber (reach p x.tree y.value) (read_value d s p).value
  number-exactly p = rw (value_there p) (only-alone _, λ h. alone-read h)
