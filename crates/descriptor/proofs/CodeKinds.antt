-- The kinds of codes. Over a range of codes at once: a test that is computed over the range, and the rule at each code of it; and a kind
-- as the code names it. Assumes nothing.
use mathlib.Core.Path.{◌≡◌, refl, ap, sym, ◌∙◌}
use mathlib.Core.Logic.{⊎_elim}
use mathlib.Core.Bool.{Bool, true, false, cond, ◌&&◌, ◌||◌}
use mathlib.Core.List.{List, [], ◌∷◌}
use Prim.Native.Nat.{ℕ, zero, suc, ◌+◌, ◌≤◌, ◌<◌}
use native.Mathlib.Nat.{eq-or-lt_of_le}
use native.Mathlib.Omega.{arith}
use lib.Dec.{leb, eqb}
use borrow.Author.Tests.{eqb-true, leb-true, le-leb, lt-leb, ne_eqb}
use Rattle.descriptor.specs.Codes.{Kind, plain, enumeration, quantity, string, array, cluster, stamp, unknown, kind_of, boolean_code, string_code, array_code, cluster_code, stamp_code, between, is_array, is_stamp}
use Rattle.descriptor.specs.Stamp.{stamp_codes}
use Rattle.descriptor.specs.inner.Steps.{kind_is, is_enumeration, is_compound}
use Rattle.descriptor.specs.declared.codes.Kind.{Kind as CodeKind}
use Rattle.descriptor.specs.declared.codes.Kind.TheVariants as kinds
use Rattle.descriptor.proofs.Sizes.{and-true}

-- a number for each kind, by which a test tells them apart
unfoldable pub kind_number : Kind → ℕ
kind_number unknown = 0
kind_number plain = 1
kind_number enumeration = 2
kind_number quantity = 3
kind_number string = 4
kind_number array = 5
kind_number cluster = 6
kind_number stamp = 7

-- a kind is known by its number
same_kind : (j k : Kind) → kind_number j ≡ kind_number k → j ≡ k
unfolding kind_number
same_kind j k e = sym (back j) ∙ ap kind_at e ∙ back k
  where
    kind_at : ℕ → Kind
    kind_at n =
        cond (eqb n 1) plain (cond (eqb n 2) enumeration (cond (eqb n 3) quantity (cond (eqb n 4) string (cond (eqb n 5) array (cond (eqb n 6) cluster (cond (eqb n 7) stamp unknown))))))

    back : (k : Kind) → kind_at (kind_number k) ≡ k
    back unknown = refl
    back plain = refl
    back enumeration = refl
    back quantity = refl
    back string = refl
    back array = refl
    back cluster = refl
    back stamp = refl

-- whether each of the n codes from `low` on has the kind
unfoldable pub all_are : Kind → ℕ → ℕ → Bool
all_are k zero low = true
all_are k (suc n) low = eqb (kind_number (kind_of low)) (kind_number k) && all_are k n (suc low)

-- so each code of the range has it
pub among : (k : Kind) (n low : ℕ) → all_are k n low ≡ true → (c : ℕ) → low ≤ c → c < low + n → kind_of c ≡ k
unfolding all_are
among k zero low e c h l = absurd (omega arith)
among k (suc n) low e c h l =
    let parts = and-true (eqb (kind_number (kind_of low)) (kind_number k)) (all_are k n (suc low)) e in
    ⊎_elim
    (λ q. ap kind_of (sym q) ∙ same_kind _ k (eqb-true _ _ parts.0))
    (λ q. among k n (suc low) parts.1 c q (omega arith))
    (eq-or-lt_of_le h)

-- a code past the last range has a kind only where it is one of five
pub past-ranges : (c : ℕ) → 0x1F ≤ c → (c ≡ boolean_code → ⊥) → (c ≡ string_code → ⊥) → (c ≡ array_code → ⊥) → (c ≡ cluster_code → ⊥) → (c ≡ stamp_code → ⊥) → kind_of c ≡ unknown
unfolding kind_of
past-ranges c h a b d e g =
    simp (le-leb 0x01 c (omega arith), lt-leb c 0x0E (omega arith), ne_eqb c boolean_code a, le-leb 0x15 c (omega arith), lt-leb c 0x17 (omega arith), le-leb 0x19 c (omega arith), lt-leb c 0x1E (omega arith), ne_eqb c string_code b, ne_eqb c array_code d, ne_eqb c cluster_code e, ne_eqb c stamp_code g)

-- a test of kinds that those of numbers, enumerations, quantities and strings don't pass, whatever the tests of their codes say
module _ (f : Kind → Bool) (p : f plain ≡ false) (e : f enumeration ≡ false) (q : f quantity ≡ false) (s : f string ≡ false) where
  late : (c : ℕ) (k : Kind) → f k ≡ false
      → f (cond (between 0x01 0x0E c || eqb c boolean_code) plain (cond (between 0x15 0x17 c) enumeration (cond (between 0x19 0x1E c) quantity (cond (eqb c string_code) string k)))) ≡ false
  late c k h = go (between 0x01 0x0E c || eqb c boolean_code) (between 0x15 0x17 c) (between 0x19 0x1E c) (eqb c string_code)
    where
      go : (t u v w : Bool) → f (cond t plain (cond u enumeration (cond v quantity (cond w string k)))) ≡ false
      go true u v w = p
      go false true v w = e
      go false false true w = q
      go false false false true = s
      go false false false false = h

-- three codes are an enumeration's
pub only-enumeration : (c : ℕ) → is_enumeration (kind_of c) ≡ between 0x15 0x17 c
unfolding kind_of all_are kind_number
only-enumeration c = go (between 0x15 0x17 c) refl
  where
    rest : (a b d e g : Bool) → is_enumeration (cond a quantity (cond b string (cond d array (cond e cluster (cond g stamp unknown))))) ≡ false
    rest true b d e g = refl
    rest false true d e g = refl
    rest false false true e g = refl
    rest false false false true g = refl
    rest false false false false true = refl
    rest false false false false false = refl

    numbers : (a : Bool) (k : Kind) → is_enumeration k ≡ false → is_enumeration (cond a plain k) ≡ false
    numbers true k h = refl
    numbers false k h = h

    go : (t : Bool) → between 0x15 0x17 c ≡ t → is_enumeration (kind_of c) ≡ t
    go true e =
        let l = and-true (leb 0x15 c) (leb c 0x17) e in
        ap is_enumeration (among enumeration 3 0x15 refl c (leb-true 0x15 c l.0) (let most : c ≤ 0x17 = leb-true c 0x17 l.1 in omega arith))
    go false e =
        rw e
        (numbers (between 0x01 0x0E c || eqb c boolean_code) (cond (between 0x19 0x1E c) quantity (cond (eqb c string_code) string (cond (eqb c array_code) array (cond (eqb c cluster_code) cluster (cond (eqb c stamp_code) stamp unknown)))))
        (rest (between 0x19 0x1E c) (eqb c string_code) (eqb c array_code) (eqb c cluster_code) (eqb c stamp_code)))

-- and none of another kind
pub enumeration-is : (k : Kind) → is_enumeration k ≡ true → k ≡ enumeration
enumeration-is enumeration e = refl
enumeration-is plain e = cc
enumeration-is quantity e = cc
enumeration-is string e = cc
enumeration-is array e = cc
enumeration-is cluster e = cc
enumeration-is stamp e = cc
enumeration-is unknown e = cc

-- one code alone is an array's
pub only-array : (c : ℕ) → is_array (kind_of c) ≡ eqb c array_code
unfolding kind_of
only-array c = go (eqb c array_code) refl
  where
    rest : (a b : Bool) → is_array (cond a cluster (cond b stamp unknown)) ≡ false
    rest true b = refl
    rest false true = refl
    rest false false = refl

    go : (t : Bool) → eqb c array_code ≡ t → is_array (kind_of c) ≡ t
    go true e = ap (λ (k : ℕ). is_array (kind_of k)) (eqb-true c array_code e)
    go false e = rw e (late is_array refl refl refl refl c (cond (eqb c cluster_code) cluster (cond (eqb c stamp_code) stamp unknown)) (rest (eqb c cluster_code) (eqb c stamp_code)))

-- one is a time stamp's
pub only-stamp : (c : ℕ) → is_stamp (kind_of c) ≡ eqb c stamp_code
unfolding kind_of
only-stamp c = go (eqb c stamp_code) refl
  where
    rest : (a b : Bool) → is_stamp (cond a array (cond b cluster unknown)) ≡ false
    rest true b = refl
    rest false true = refl
    rest false false = refl

    go : (t : Bool) → eqb c stamp_code ≡ t → is_stamp (kind_of c) ≡ t
    go true e = ap (λ (k : ℕ). is_stamp (kind_of k)) (eqb-true c stamp_code e)
    go false e = rw e (late is_stamp refl refl refl refl c (cond (eqb c array_code) array (cond (eqb c cluster_code) cluster unknown)) (rest (eqb c array_code) (eqb c cluster_code)))

-- and these two are compounds'
pub only-compound : (c : ℕ) → (c ≡ cluster_code → ⊥) → is_compound (kind_of c) ≡ eqb c stamp_code
unfolding kind_of
only-compound c other = go (eqb c stamp_code) refl
  where
    rest : (a : Bool) → is_compound (cond a array unknown) ≡ false
    rest true = refl
    rest false = refl

    go : (t : Bool) → eqb c stamp_code ≡ t → is_compound (kind_of c) ≡ t
    go true e = ap (λ (k : ℕ). is_compound (kind_of k)) (eqb-true c stamp_code e)
    go false e = rw (e, ne_eqb c cluster_code other) (late is_compound refl refl refl refl c (cond (eqb c array_code) array unknown) (rest (eqb c array_code)))

-- each of the codes is plain, as those of a time stamp's four integers are
unfoldable pub AllPlain : List ℕ → Type 0
AllPlain [] = Unit {0}
AllPlain (c ∷ cs) = (kind_of c ≡ plain) × AllPlain cs

pub stamp-plain : AllPlain stamp_codes
unfolding AllPlain kind_of
stamp-plain = (refl, (refl, (refl, (refl, tt))))

-- the name of the kind of each code of the range
pub in-range : (k : Kind) (n low : ℕ) → all_are k n low ≡ true → (c : ℕ) → low ≤ c → c < low + n → kind_is k ≡ kind_is (kind_of c)
in-range k n low e c h l = ap kind_is (sym (among k n low e c h l))

-- the kind that the code names so
abbrev pub kind_named : CodeKind → Kind
kind_named kinds.Plain = plain
kind_named kinds.Enumeration = enumeration
kind_named kinds.Quantity = quantity
kind_named kinds.Text = string
kind_named kinds.Array = array
kind_named kinds.Cluster = cluster
kind_named kinds.Stamp = stamp
kind_named kinds.Unknown = unknown

-- what a code names is the kind
pub named-is : (k : Kind) → kind_named (kind_is k) ≡ k
unfolding kind_is
named-is unknown = refl
named-is plain = refl
named-is enumeration = refl
named-is quantity = refl
named-is string = refl
named-is array = refl
named-is cluster = refl
named-is stamp = refl

-- an answer that names the kind k, and is known to be `name`
pub known : (r name : CodeKind) (k : Kind) → r ≡ kind_is k → r ≡ name → kind_named name ≡ k
known r name k e q = ap kind_named (sym q ∙ e) ∙ named-is k

-- the kind of a code by the name that it has in the code
pub kind_known : (code : ℕ) (r : CodeKind) → r ≡ kind_is (kind_of code) → kind_of code ≡ kind_named r
kind_known code r e = sym (named-is (kind_of code)) ∙ ap kind_named (sym e)
