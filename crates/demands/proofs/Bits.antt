-- Document 01's values "whose bits equal the big-endian bytes of the piece": a value that is read by path is that of its part, and its bits are
-- the part's bytes, of a signed number modulo 256 ^ width, of a flag 1 for any byte but zero. The public entry of these definitions is read_value.
-- Rests on the parts at paths, on the values of codes and on the laws of numbers.
use mathlib.Core.Path.{◌≡◌, refl, sym, ap, subst, ◌∙◌}
use mathlib.Core.Bool.{Bool, true, false, not, cond}
use mathlib.Core.Logic.{◌⊎◌, ⊎_elim}
use mathlib.Core.List.{List, [], ◌∷◌}
use Prim.Native.Nat.{ℕ, zero, suc, ◌+◌, ◌-◌, ◌*◌, ◌%◌, ◌^◌, ◌<◌, ◌≤◌}
use native.Mathlib.Nat.{mod-eq_of_lt, add-mul-mod_self_right}
use native.Mathlib.Decide.{dec_lt}
use native.Mathlib.Omega.{arith}
use borrow.Author.Tests.{eqb-true}
use lib.Dec.{leb, ltb, eqb}
use lib.ListN.{length, get_or}
use lib.Pow.{pow-add}
use lib.IntN.{ℤ}
use Rattle.number.specs.Endian.{be}
use Rattle.number.specs.Signed.{signed}
use Rattle.number.specs.Float.{single_of, double_of, single_bits, double_bits}
use Rattle.number.specs.declared.float.Single.{Single}
use Rattle.number.specs.declared.float.Single.TheVariants as singles
use Rattle.number.specs.declared.float.Double.{Double}
use Rattle.number.specs.declared.float.Double.TheVariants as doubles
use Rattle.number.proofs.Reading.{be-more, be-bound}
use Rattle.number.proofs.Complement.{half-bit, stays, falls}
use Rattle.number.proofs.Pattern.{single-bits, double-bits}
use Rattle.descriptor.specs.Limits.{data_limit}
use Rattle.descriptor.specs.Codes.{plain, enumeration, kind_of, is_array, between}
use Rattle.descriptor.specs.Tree.{empty, items, pairs, text, dimensions, members, subtype, Tree, node, Forest, nil, cons}
use Rattle.descriptor.specs.Encoding.{Bytes, FieldsFit, WellFormed, AllWellFormed}
use Rattle.descriptor.specs.Width.{width_of}
use Rattle.descriptor.specs.Outcome.{Outcome, refused, read, and_then, judge}
use Rattle.descriptor.specs.Answers.{accepted}
use Rattle.descriptor.specs.declared.answer.Answer.{Answer}
use Rattle.descriptor.proofs.CodeKinds.{kind_number, all_are, among}
use Rattle.descriptor.proofs.Steps.{impossible}
use Rattle.descriptor.proofs.Outcomes.{Holds, nothing, found, holds_read, holds-require, holds-and_then, holds-self}
use Rattle.encoding.proofs.Slices.{bytes-at}
use Rattle.flattened.specs.Order.{big}
use Rattle.flattened.specs.Token.{Token}
use Rattle.flattened.specs.Walk.{scalar_at, array_at, repeat, walk_fields, walk, walk_all, walked}
use Rattle.flattened.specs.Answers.{data_check}
use Rattle.flattened.proofs.Codes.{is_measured}
use Rattle.access.specs.Path.{Spot, member_at, step_at, step_into, spot_at, located}
use Rattle.reading.specs.Values.{of_single, of_double, complement, value_kind, value_bits, value_of, is_value, code_of, value_at, number_of, no_value, read_value}
use Rattle.access.specs.declared.part.Part.{Part}
use Rattle.reading.specs.declared.value.Value.{Value}
use Rattle.reading.specs.declared.value.Value.TheVariants.{Flag}
use Rattle.reading.specs.declared.value.Reading.{Reading}
use Rattle.reading.proofs.Values.{inside, single-width, signed-narrow, value-signed, value-unsigned, value-enumeration, value-single, value-double, value-flag}
use Rattle.flattened.proofs.Refusals.{refused-number}
use Rattle.demands.proofs.Accepted.{Described, described-read}
use Rattle.demands.proofs.Data.{UsesAll, uses-exactly, walked-answer, all-walked}
use Rattle.demands.proofs.Parts.{Lies, Meets, lost, met, part_from, top, located-part, top-meets}

-- the codes of single numbers
pub data Number (c : ℕ) : Type 0 where
  integer : 1 ≤ c → c ≤ 4 → Number c
  natural : 5 ≤ c → c ≤ 8 → Number c
  item : 21 ≤ c → c ≤ 23 → Number c
  single : (c ≡ 9) ⊎ (c ≡ 25) → Number c
  double : (c ≡ 10) ⊎ (c ≡ 26) → Number c
  flag : c ≡ 33 → Number c

-- by either way that a test comes out
pub either : {A : Type 0} (b : Bool) → (b ≡ true → A) → (b ≡ false → A) → A
either true f g = f refl
either false f g = g refl

-- a code that has a value is one of them
number : (c v : ℕ) → is_value (value_of c v) ≡ true → Number c
unfolding value_of is_value
number c v e =
    either (between 1 4 c) (λ h. let l = inside 1 4 c h in integer l.0 l.1) (λ a1.
    either (between 5 8 c) (λ h. let l = inside 5 8 c h in natural l.0 l.1) (λ a2.
    either (between 21 23 c) (λ h. let l = inside 21 23 c h in item l.0 l.1) (λ a3.
    either (eqb c 9) (λ h. single (◌⊎◌.inl (eqb-true c 9 h))) (λ a4.
    either (eqb c 25) (λ h. single (◌⊎◌.inr (eqb-true c 25 h))) (λ a5.
    either (eqb c 10) (λ h. double (◌⊎◌.inl (eqb-true c 10 h))) (λ a6.
    either (eqb c 26) (λ h. double (◌⊎◌.inr (eqb-true c 26 h))) (λ a7.
    either (eqb c 33) (λ h. flag (eqb-true c 33 h)) (λ a8.
    let none : is_value (value_of c v) ≡ false = simp (a1, a2, a3, a4, a5, a6, a7, a8) in impossible (sym none ∙ e)))))))))

-- and they are no strings, arrays or clusters
pub measured : {c : ℕ} → Number c → is_measured (kind_of c) ≡ true
unfolding is_measured kind_of all_are kind_number
measured {c} (integer l h) = ap is_measured (among plain 14 1 refl c l (omega arith))
measured {c} (natural l h) = ap is_measured (among plain 14 1 refl c (omega arith) (omega arith))
measured {c} (item l h) = ap is_measured (among enumeration 3 21 refl c l (omega arith))
measured (single e) = ⊎_elim (λ h. ap (λ (k : ℕ). is_measured (kind_of k)) h) (λ h. ap (λ (k : ℕ). is_measured (kind_of k)) h) e
measured (double e) = ⊎_elim (λ h. ap (λ (k : ℕ). is_measured (kind_of k)) h) (λ h. ap (λ (k : ℕ). is_measured (kind_of k)) h) e
measured (flag h) = ap (λ (k : ℕ). is_measured (kind_of k)) h

-- a type as "How a descriptor is built" has it
pub record Formed (t : Tree) : Type 0 where
  pub in_array : Bool
  pub formed : WellFormed in_array t

module _ (s : List ℕ) where
  -- a path leads from such types to such types
  member-formed : (g : Bool) (i : ℕ) (f : Forest) (k at : ℕ) → AllWellFormed g f → Holds (λ _ y. Formed y.type) (member_at i f k s at)
  unfolding member_at WellFormed
  member-formed g i nil k at w = nothing
  member-formed g i (cons t f) zero at w = found (record { in_array = g; formed = w.0 })
  member-formed g i (cons t f) (suc k) at w = holds-and_then (holds-self (walk big t s at)) (λ q us _. member-formed g i f k q w.1)

  step-formed : (g : Bool) (i : ℕ) (t : Tree) (k at : ℕ) → WellFormed g t → Holds (λ _ y. Formed y.type) (step_into i t k s at)
  unfolding step_at WellFormed
  step-formed g i (node c empty f m) k at w = nothing
  step-formed g i (node c (items xs) f m) k at w = nothing
  step-formed g i (node c (pairs ps) f m) k at w = nothing
  step-formed g i (node c text f m) k at w = nothing
  step-formed g i (node c (dimensions n) f m) k at w =
      holds-and_then (holds-self (array_at big s n at)) (λ next n _.
      holds-require (ltb k n) 30 i (λ _.
      holds-and_then (holds-self (repeat (λ p. walk_all big f s p) k next)) (λ start _ _.
      member-formed (is_array (kind_of c)) i f zero start w.inside)))
  step-formed g i (node c (members n) f m) k at w = member-formed (is_array (kind_of c)) i f k at w.inside
  step-formed g i (node c subtype f m) k at w = member-formed (is_array (kind_of c)) i f k at w.inside

  pub path-formed : (p : List ℕ) (i : ℕ) (x : Spot) → Formed x.type → Holds (λ _ y. Formed y.type) (spot_at p i s x)
  unfolding spot_at
  path-formed [] i x w = found w
  path-formed (k ∷ ks) i x w = holds-and_then (step-formed w.in_array i x.type k x.start w.formed) (λ _ y h. path-formed ks (i + 1) y h)

  scalar-stop : (c at : ℕ) (fits : Bool) → Holds (λ b ts. b ≡ at + width_of c) (scalar_at c s at fits)
  unfolding scalar_at
  scalar-stop c at fits = holds-require (leb (at + width_of c) (length s)) 21 at (λ _. holds-require fits 23 at (λ _. found refl))

  -- the data of such a code is as long as its width
  pub number-stop : (t : Tree) (at b : ℕ) (ts : List Token) → Formed t → Number (code_of t) → walk big t s at ≡ read b ts → b ≡ at + width_of (code_of t)
  unfolding walk walk_fields WellFormed FieldsFit is_measured
  number-stop (node c empty f m) at b ts w n e = holds_read e (scalar-stop c at true)
  number-stop (node c (items xs) f m) at b ts w n e = holds_read e (scalar-stop c at _)
  number-stop (node c (pairs ps) f m) at b ts w n e = holds_read e (scalar-stop c at true)
  number-stop (node c text f m) at b ts w n e = impossible (sym (ap is_measured w.formed.fields) ∙ measured n)
  number-stop (node c (dimensions k) f m) at b ts w n e = impossible (sym (ap is_measured w.formed.fields.0) ∙ measured n)
  number-stop (node c (members k) f m) at b ts w n e = impossible (sym (ap is_measured w.formed.fields.0) ∙ measured n)
  number-stop (node c subtype f m) at b ts w n e = impossible (sym (ap is_measured w.formed.fields) ∙ measured n)

-- an accepted value
abbrev pub given : Value → Reading
given v = record { answer = accepted 0; value = v }

-- what is read is the value of the part's bytes: of a code of a single number, as wide as the part
pub record Reads (s : List ℕ) (a : Part) (r : Reading) : Type 0 where
  pub code : ℕ
  pub number : Number code
  pub accepts : a.answer ≡ accepted 0
  pub width : a.length ≡ width_of code
  pub answer : r.answer ≡ accepted 0
  pub value : r.value ≡ value_of code (be s a.start a.length)

reads-from : (s : List ℕ) {a : Part} {r : Reading} (c start : ℕ) → Number c → a ≡ part_from start (width_of c)
    → r ≡ given (value_of c (be s start (width_of c))) → Reads s a r
reads-from s c start n e g = rw (e, g) (record { code = c; number = n; accepts = refl; width = refl; answer = refl; value = refl })

-- data of the descriptor d
module _ (d : List ℕ) (x : Described d) (s : List ℕ) where
  -- the number is 0 only where the data is accepted
  read-accepted : (p : List ℕ) (w : Outcome (List Token)) → walked big x.tree s ≡ w → (read_value d s p).answer.number ≡ 0
      → (data_check d s).number ≡ 0
  unfolding read_value
  read-accepted p (refused number place) e none =
      let same : (read_value d s p).answer.number ≡ number = rw (described-read d x, e) refl in
      absurd (omega (arith, refused-number s big x.tree number place e))
  read-accepted p (read q ts) e none = ap (λ (r : Answer). r.number) (walked-answer d x s q ts e)

  module _ (within : length s ≤ data_limit) (all : UsesAll x.tree s) (p : List ℕ) where
    -- the value is that at the path's spot
    pub read-spot : read_value d s p ≡ judge no_value 4 (and_then (spot_at p 0 s (top d x s)) (λ _ y. number_of s y)) given
    unfolding read_value
    read-spot = rw (described-read d x, all-walked x.tree s all.tokens within all.walks) refl

    module _ (none : (read_value d s p).answer.number ≡ 0) where
      valued : {q : ℕ} {y : Spot} {a b : ℕ} (l : Lies s a b y) → Formed y.type → spot_at p 0 s (top d x s) ≡ read q y
          → (v : Bool) → is_value (value_at s y) ≡ v → Reads s (located d s p) (read_value d s p)
      unfolding number_of
      valued {y = y} l w e true h =
          let n = number (code_of y.type) _ h in
          let stop = number-stop s y.type y.start l.stop l.tokens w n l.walks in
          let long : l.stop - y.start ≡ width_of (code_of y.type) = omega arith in
          reads-from s (code_of y.type) y.start n
          (located-part d x s within all p l e ∙ ap (λ (k : ℕ). part_from y.start k) long)
          (read-spot ∙ rw (e, h) refl)
      valued {y = y} l w e false h =
          let other : read_value d s p ≡ no_value 31 4 0 = read-spot ∙ rw (e, h) refl in
          let same : (read_value d s p).answer.number ≡ 31 = ap (λ (r : Reading). r.answer.number) other in
          absurd (omega arith)

      leads : {o : Outcome Spot} → spot_at p 0 s (top d x s) ≡ o → Meets s 0 (length s) o → Holds (λ _ y. Formed y.type) o
          → Reads s (located d s p) (read_value d s p)
      leads e (lost {place = place}) w =
          let other : read_value d s p ≡ no_value 30 4 place = read-spot ∙ rw e refl in
          let same : (read_value d s p).answer.number ≡ 30 = ap (λ (r : Reading). r.answer.number) other in
          absurd (omega arith)
      leads e (met {y = y} l) w = valued l (holds_read refl w) e (is_value (value_at s y)) refl

  -- a value that is read is that of its part's bytes
  pub value-part : (p : List ℕ) → (read_value d s p).answer.number ≡ 0 → Reads s (located d s p) (read_value d s p)
  value-part p none =
      let h = (uses-exactly d x s).0 (read-accepted p (walked big x.tree s) refl none) in
      leads h.0 h.1 p none refl (top-meets d x s h.0 h.1 p)
      (path-formed s p 0 (top d x s) (record { in_array = false; formed = x.limits.formed }))

-- the bits of a float are those that it was read from
of-single : (x : Single) → value_bits (of_single x) ≡ single_bits x
unfolding of_single single_bits value_bits
of-single (singles.Number x) = refl
of-single (singles.Nan b) = refl

pub of-double : (x : Double) → value_bits (of_double x) ≡ double_bits x
unfolding of_double double_bits value_bits
of-double (doubles.Number x) = refl
of-double (doubles.Nan b) = refl

double-width : (c : ℕ) → (c ≡ 10) ⊎ (c ≡ 26) → width_of c ≡ 8
unfolding width_of
double-width c e = ⊎_elim (λ h. ap width_of h) (λ h. ap width_of h) e

-- the bits of a value are its number, but for a signed one's and a flag's
exact-bits : (c v : ℕ) → Number c → 4 < c → (c ≡ 33 → ⊥) → v < 256 ^ width_of c → value_bits (value_of c v) ≡ v
unfolding value_bits
exact-bits c v (integer l h) more plainly fits = absurd (omega arith)
exact-bits c v (natural l h) more plainly fits = ap value_bits (sym (value-unsigned c v l h))
exact-bits c v (item l h) more plainly fits = ap value_bits (sym (value-enumeration c v l h))
exact-bits c v (single e) more plainly fits =
    let short : v < 256 ^ 4 = subst (λ (n : ℕ). v < 256 ^ n) (single-width c e) fits in
    ap value_bits (sym (value-single c v e)) ∙ (of-single (single_of v) ∙ single-bits v short)
exact-bits c v (double e) more plainly fits =
    let short : v < 256 ^ 8 = subst (λ (n : ℕ). v < 256 ^ n) (double-width c e) fits in
    ap value_bits (sym (value-double c v e)) ∙ (of-double (double_of v) ∙ double-bits v short)
exact-bits c v (flag h) more plainly fits = absurd (plainly h)

-- and of a signed one the lowest, those of its width
turn : (w m j v half : ℕ) → 2 * half ≡ m → m + j * m ≡ w → half ≤ v → v < m → (w - (half - 1 - (v - half) + 1)) % m ≡ v
turn w m j v half is whole h l =
    let e : w - (half - 1 - (v - half) + 1) ≡ v + j * m = omega arith in
    ap (λ (k : ℕ). k % m) e ∙ (add-mul-mod_self_right v j m ∙ mod-eq_of_lt l)

signed-bits : (n v half j : ℕ) → 2 * half ≡ 256 ^ n → 256 ^ n + j * 256 ^ n ≡ 2 ^ 64 → v < 256 ^ n → complement (signed n v) % 256 ^ n ≡ v
unfolding complement
signed-bits n v half j is whole l = go (dec_lt v half)
  where
    go : Dec (v < half) → complement (signed n v) % 256 ^ n ≡ v
    go (yes h) = ap (λ (z : ℤ). complement z % 256 ^ n) (stays n v half is h) ∙ mod-eq_of_lt l
    go (no h) = ap (λ (z : ℤ). complement z % 256 ^ n) (falls n v half is (omega arith) l) ∙ turn (2 ^ 64) (256 ^ n) j v half is whole (omega arith) l

-- the numbers of n bytes go into those of eight so many times
times : (k m w : ℕ) → 0 < w → k * m ≡ w → (j : ℕ) × (m + j * m ≡ w)
times zero m w h e = absurd (omega arith)
times (suc j) m w h e = (j, omega (arith, e))

-- only the code of a Boolean has flags
no_flag : (c v : ℕ) → (value_kind (value_of c v) ≡ 5 → ⊥) → c ≡ 33 → ⊥
unfolding value_kind
no_flag c v other h = other (ap value_kind (sym (value-flag c v h)))

-- a float is none
single-kind : (x : Single) → value_kind (of_single x) ≡ 3
unfolding value_kind of_single
single-kind (singles.Number x) = refl
single-kind (singles.Nan b) = refl

double-kind : (x : Double) → value_kind (of_double x) ≡ 4
unfolding value_kind of_double
double-kind (doubles.Number x) = refl
double-kind (doubles.Nan b) = refl

-- and a flag is of that code
flag-code : (c v : ℕ) → Number c → value_kind (value_of c v) ≡ 5 → c ≡ 33
unfolding value_kind
flag-code c v (integer l h) e = absurd (let z : ◌≡◌ {A = ℕ} 2 5 = ap value_kind (value-signed c v l h) ∙ e in omega arith)
flag-code c v (natural l h) e = absurd (let z : ◌≡◌ {A = ℕ} 1 5 = ap value_kind (value-unsigned c v l h) ∙ e in omega arith)
flag-code c v (item l h) e = absurd (let z : ◌≡◌ {A = ℕ} 1 5 = ap value_kind (value-enumeration c v l h) ∙ e in omega arith)
flag-code c v (single h) e = absurd (let z : ◌≡◌ {A = ℕ} 3 5 = sym (single-kind (single_of v)) ∙ ap value_kind (value-single c v h) ∙ e in omega arith)
flag-code c v (double h) e = absurd (let z : ◌≡◌ {A = ℕ} 4 5 = sym (double-kind (double_of v)) ∙ ap value_kind (value-double c v h) ∙ e in omega arith)
flag-code c v (flag h) e = h

-- only the codes of signed integers have signed values
unsigned : (c v : ℕ) → Number c → (value_kind (value_of c v) ≡ 2 → ⊥) → 4 < c
unfolding value_kind
unsigned c v (integer l h) other = absurd (other (ap value_kind (sym (value-signed c v l h))))
unsigned c v (natural l h) other = omega arith
unsigned c v (item l h) other = omega arith
unsigned c v (single e) other = ⊎_elim (λ h. omega arith) (λ h. omega arith) e
unsigned c v (double e) other = ⊎_elim (λ h. omega arith) (λ h. omega arith) e
unsigned c v (flag h) other = omega arith

lowest : {x v m : ℕ} → x ≡ v → v < m → x % m ≡ v
lowest {x} {v} {m} e l = ap (λ (k : ℕ). k % m) e ∙ mod-eq_of_lt l

lowest-bits : (c v : ℕ) → Number c → (c ≡ 33 → ⊥) → v < 256 ^ width_of c → value_bits (value_of c v) % 256 ^ width_of c ≡ v
unfolding value_bits
lowest-bits c v (integer l h) plainly fits =
    let w = signed-narrow c l h in
    let full : 8 - width_of c + width_of c ≡ 8 = omega (arith, w.most) in
    let whole : 256 ^ (8 - width_of c) * 256 ^ width_of c ≡ 2 ^ 64 = sym (pow-add 256 (8 - width_of c) (width_of c)) ∙ ap (λ (k : ℕ). 256 ^ k) full in
    let j = times (256 ^ (8 - width_of c)) (256 ^ width_of c) (2 ^ 64) (omega arith) whole in
    ap (λ (x : Value). value_bits x % 256 ^ width_of c) (sym (value-signed c v l h))
    ∙ signed-bits (width_of c) v _ j.0 (half-bit (width_of c) w.some w.most) j.1 fits
lowest-bits c v (natural l h) plainly fits = lowest (exact-bits c v (natural l h) (omega arith) plainly fits) fits
lowest-bits c v (item l h) plainly fits = lowest (exact-bits c v (item l h) (omega arith) plainly fits) fits
lowest-bits c v (single e) plainly fits = lowest (exact-bits c v (single e) (⊎_elim (λ h. omega arith) (λ h. omega arith) e) plainly fits) fits
lowest-bits c v (double e) plainly fits = lowest (exact-bits c v (double e) (⊎_elim (λ h. omega arith) (λ h. omega arith) e) plainly fits) fits
lowest-bits c v (flag h) plainly fits = absurd (plainly h)

-- data of the descriptor d
module _ (d : List ℕ) (x : Described d) (s : List ℕ) (bytes : Bytes s) (p : List ℕ) (none : (read_value d s p).answer.number ≡ 0) where
  abbrev part : Part
  part = located d s p

  abbrev bits : ℕ
  bits = value_bits (read_value d s p).value

  reads : Reads s part (read_value d s p)
  reads = value-part d x s p none

  fits : be s part.start part.length < 256 ^ width_of reads.code
  fits = subst (λ (n : ℕ). be s part.start part.length < 256 ^ n) reads.width (be-bound s part.start (bytes-at s bytes) part.length)

  -- the kind of the value is that of the code's
  told : (k : ℕ) → (value_kind (read_value d s p).value ≡ k → ⊥) → value_kind (value_of reads.code (be s part.start part.length)) ≡ k → ⊥
  told k other e = other (ap value_kind reads.value ∙ e)

  -- the bits of a value, but for a flag's, are the big-endian number of its part's bytes, of a signed one modulo 256 ^ width
  pub value-bits : (value_kind (read_value d s p).value ≡ 5 → ⊥) → bits % 256 ^ part.length ≡ be s part.start part.length
  value-bits other =
      let plainly = no_flag reads.code (be s part.start part.length) (told 5 other) in
      ap (λ (n : ℕ). bits % 256 ^ n) reads.width
      ∙ (ap (λ (v : Value). value_bits v % 256 ^ width_of reads.code) reads.value
      ∙ lowest-bits reads.code (be s part.start part.length) reads.number plainly fits)

  -- and any other's are that number itself
  pub value-exact : (value_kind (read_value d s p).value ≡ 2 → ⊥) → (value_kind (read_value d s p).value ≡ 5 → ⊥) → bits ≡ be s part.start part.length
  value-exact other flagless =
      let v = be s part.start part.length in
      let plainly = no_flag reads.code v (told 5 flagless) in
      let more = unsigned reads.code v reads.number (told 2 other) in
      ap value_bits reads.value ∙ exact-bits reads.code v reads.number more plainly fits

  -- a flag's are 1 where the one byte of its part is not zero: "any byte but zero is true" (document 02, CR 2)
  pub flag-bits : value_kind (read_value d s p).value ≡ 5 → (part.length ≡ 1) × (bits ≡ cond (eqb (get_or s part.start 0) 0) 0 1)
  unfolding value_bits width_of be
  flag-bits is =
      let v = be s part.start part.length in
      let code : reads.code ≡ 33 = flag-code reads.code v reads.number (sym (ap value_kind reads.value) ∙ is) in
      let one : part.length ≡ 1 = reads.width ∙ ap width_of code in
      let byte : v ≡ get_or s part.start 0 = one_byte part.start one in
      (one, ap value_bits reads.value ∙ sym (ap value_bits (value-flag reads.code v code)) ∙ flag-bit v ∙ ap (λ (x : ℕ). cond (eqb x 0) 0 1) byte)
    where
      one_byte : (at : ℕ) {n : ℕ} → n ≡ 1 → be s at n ≡ get_or s at 0
      one_byte at e = ap (λ (k : ℕ). be s at k) e ∙ (let z : at + 0 ≡ at = omega arith in omega (arith, be-more s at 0, ap (λ (k : ℕ). get_or s k 0) z))

      flag-bit : (v : ℕ) → value_bits (Flag (not (eqb v 0))) ≡ cond (eqb v 0) 0 1
      flag-bit v = go (eqb v 0)
        where
          go : (b : Bool) → value_bits (Flag (not b)) ≡ cond b 0 1
          go true = refl
          go false = refl
