-- The bodies that entries speak of, one after the other. Rests on the laws of entries and of parts.
use mathlib.Core.Path.{◌≡◌, refl, sym, ap, ap₂, ◌∙◌}
use mathlib.Core.Bool.{Bool, true, false, not, ◌&&◌}
use mathlib.Core.List.{List}
use Prim.Native.Nat.{ℕ, ◌+◌, ◌-◌, ◌≤◌, ◌<◌}
use native.Mathlib.Omega.{arith}
use borrow.Author.Tests.{leb-true, le-leb, lt-leb, eqb-true, eq-eqb, ne_eqb}
use lib.Dec.{leb}
use lib.ListN.{length, take, drop}
use lib.Seq.{slice}
use Rattle.number.specs.Endian.{be}
use Rattle.descriptor.proofs.Sizes.{and-true}
use Rattle.canonical.proofs.Lists.{and_assoc, part_slice}
use Rattle.store.specs.Book.{stop_of, is_one_of}
use Rattle.store.specs.Layout.{entry_place, follows}
use Rattle.store.specs.Check.{blank_at, is_blank, entry_fits}
use Rattle.store.specs.inner.Entries.{entry_in, name_at}
use Rattle.store.specs.inner.Blanks.{blank_of, body_lies, body_fits, Laid}
use Rattle.store.specs.declared.blank.Blank.{Blank as Lent}
use Rattle.store.specs.declared.entry.Entry.{Entry}
use Rattle.store.proofs.Entries.{blank-stop}

-- with no gap: what starts as `follows` asks, and passes whatever else is asked, starts where the body before it ended
pub body-start : (at start : ℕ) (more : Bool) → (follows at start && more) ≡ true → at ≡ start
body-start at start more there = eqb-true at start (and-true (follows at start) more there).0

-- what entry i says of its body, where the one before it ended at `at`
module _ (s : List ℕ) (i at : ℕ) (e : Entry) (is : e ≡ entry_in s i) where
  abbrev here : ℕ
  here = entry_place i

  start : e.start ≡ be s (here + 4) 4
  start = ap (λ (x : Entry). x.start) is

  first : e.first ≡ be s (here + 8) 4
  first = ap (λ (x : Entry). x.first) is

  second : e.second ≡ be s (here + 12) 4
  second = ap (λ (x : Entry). x.second) is

  -- it stands elsewhere
  pub lies-elsewhere : (e.start ≡ at → ⊥) → body_lies s i at ≡ false
  unfolding body_lies
  lies-elsewhere differ = rw (ne_eqb at (be s (here + 4) 4) (λ same. differ (omega (arith, start)))) refl

  module _ (same : e.start ≡ at) where
    follow : follows at (be s (here + 4) 4) ≡ true
    follow = eq-eqb at (be s (here + 4) 4) (omega (arith, start))

    -- or ends outside
    pub lies-outside : length s < e.start + e.first + e.second → body_lies s i at ≡ false
    unfolding body_lies
    lies-outside over =
        rw (follow, lt-leb (be s (here + 4) 4 + be s (here + 8) 4 + be s (here + 12) 4) (length s) (omega (arith, start, first, second))) refl

    -- or neither
    pub lies-laid : e.start + e.first + e.second ≤ length s → (r : Lent) → r.identifier ≡ e.identifier → r.start ≡ e.start
        → r.descriptor.now ≡ take (e.start + e.first - e.start) (drop e.start s)
        → r.flattened.now ≡ take (e.start + e.first + e.second - (e.start + e.first)) (drop (e.start + e.first) s) → Laid s i at r
    unfolding body_lies blank_at
    lies-laid room r ri rs rd rx = record {
      lies =
          let within : leb (be s (here + 4) 4 + be s (here + 8) 4 + be s (here + 12) 4) (length s) ≡ true =
          le-leb (be s (here + 4) 4 + be s (here + 8) 4 + be s (here + 12) 4) (length s) (omega (arith, start, first, second)) in
          rw (follow, within) refl;
      is =
          let middle : e.start + e.first ≡ be s (here + 4) 4 + be s (here + 8) 4 = omega (arith, start, first) in
          let stop : e.start + e.first + e.second ≡ be s (here + 4) 4 + be s (here + 8) 4 + be s (here + 12) 4 = omega (arith, middle, second) in
          let d : r.descriptor.now ≡ slice (be s (here + 4) 4) (be s (here + 4) 4 + be s (here + 8) 4) s =
          rd ∙ part_slice e.start (e.start + e.first) s ∙ ap₂ (λ (a b : ℕ). slice a b s) start middle in
          let x : r.flattened.now ≡ slice (be s (here + 4) 4 + be s (here + 8) 4) (be s (here + 4) 4 + be s (here + 8) 4 + be s (here + 12) 4) s =
          rx ∙ part_slice (e.start + e.first) (e.start + e.first + e.second) s ∙ ap₂ (λ (a b : ℕ). slice a b s) middle stop in
          let id : r.identifier ≡ be s here 4 = ri ∙ ap (λ (y : Entry). y.identifier) is in
          let from : r.start ≡ be s (here + 4) 4 = rs ∙ start in
          (λ j. record { identifier = id j; start = from j; descriptor = d j; flattened = x j });
    }

-- a good entry is one whose body is right and whose identifier is new
pub entry-fits : (s seen : List ℕ) (i at : ℕ) → entry_fits s seen (entry_place i) at ≡ (body_fits s i at && not (is_one_of (name_at s i) seen))
unfolding entry_fits body_fits body_lies
entry-fits s seen i at =
    let start : Bool = follows at (be s (entry_place i + 4) 4) in
    let inside : Bool = leb (be s (entry_place i + 4) 4 + be s (entry_place i + 8) 4 + be s (entry_place i + 12) 4) (length s) in
    let right : Bool = is_blank (blank_at s (entry_place i)) in
    let new : Bool = not (is_one_of (name_at s i) seen) in
    sym (and_assoc (start && inside) right new ∙ and_assoc start inside (right && new))

module _ (s : List ℕ) (i at : ℕ) where
  -- a body that lies so ends inside, and starts where the one before it ended
  module _ (there : body_lies s i at ≡ true) where
    pub lies-room : be s (entry_place i + 4) 4 + be s (entry_place i + 8) 4 + be s (entry_place i + 12) 4 ≤ length s
    unfolding body_lies
    lies-room = leb-true _ _ (and-true (follows at (be s (entry_place i + 4) 4)) _ there).1

    pub lies-start : at ≡ be s (entry_place i + 4) 4
    unfolding body_lies
    lies-start = body-start at (be s (entry_place i + 4) 4) _ there

  -- one that does not is not right
  pub body-away : body_lies s i at ≡ false → body_fits s i at ≡ false
  unfolding body_fits
  body-away off = rw off refl

  -- one that does is right where its record is
  pub body-said : (r : Lent) → Laid s i at r → body_fits s i at ≡ is_blank (blank_of r)
  unfolding body_fits
  body-said r laid = rw (laid.lies, laid.is) refl

  pub laid-stop : (r : Lent) → Laid s i at r → stop_of (blank_of r) ≤ length s
  laid-stop r laid = omega (arith, ap stop_of laid.is, blank-stop s (entry_place i) (lies-room laid.lies), lies-room laid.lies)

  pub body-lies : body_fits s i at ≡ true → body_lies s i at ≡ true
  unfolding body_fits
  body-lies on = (and-true (body_lies s i at) _ on).0
