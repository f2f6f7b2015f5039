-- What a record of a book is, in the words of document 01 and demand 3 and apart from how a record is read (document 02, CR 4): accepted data under an
-- accepted descriptor that is a cluster, of which the reader's shape gets exactly the four bytes of the identifier.
-- The public entries are store_check and store_add. Rests on demand 3.
use mathlib.Core.Path.{◌≡◌, refl, sym, ap, subst, ◌∙◌}
use mathlib.Core.Logic.{◌↔◌}
use mathlib.Core.List.{List}
use Prim.Native.Nat.{ℕ, ◌^◌, ◌<◌}
use native.Mathlib.Nat.{mod-eq_of_lt}
use native.Mathlib.Omega.{arith}
use lib.ListN.{length}
use Rattle.number.specs.Endian.{be, be_bytes}
use Rattle.number.proofs.Inverse.{be-be_bytes}
use Rattle.descriptor.specs.Tree.{Forest}
use Rattle.descriptor.specs.Encoding.{Bytes}
use Rattle.descriptor.specs.Outcome.{Verdict, denied, granted}
use Rattle.descriptor.specs.Output.{Written, unwritten, given}
use Rattle.descriptor.proofs.Outcomes.{holds_read}
use Rattle.encoding.proofs.Slices.{slice_all, be-slice}
use Rattle.resolution.specs.Record.{record_bytes, resolved}
use Rattle.demands.proofs.Accepted.{describe, one-description}
use Rattle.demands.proofs.Shape.{Rig, Gets}
use Rattle.demands.proofs.Record.{gets-one, gets-record, accepted-bytes, accepted-gets}
use Rattle.demands.proofs.Resolved.{given-front}
use Rattle.demands.proofs.Faults.{accepted-only}
use Rattle.store.specs.Book.{shape, identified, Blank, IsBlank}
use Rattle.history.proofs.Shape.{shape_members, shape_tree, shape-bytes, shape-read, shape-reader, shape-four}
use Rattle.history.proofs.Own.{own-some}
use Rattle.history.proofs.Identified.{identifier-read, resolved-front, read-bytes}

-- the record r is what it is to be
pub record HasIdentifier (r : Blank) : Type 0 where
  pub members : Forest
  -- "each a descriptor and its data, both accepted", the descriptor a cluster
  pub rig : Rig r.descriptor r.flattened members
  -- the shape gets the identifier's four bytes
  pub gets : Gets r.flattened members shape_members (be_bytes 4 r.identifier)
  pub fits : r.identifier < 256 ^ 4

-- what is read of a record is what the shape gets
read-gets : (d x : List ℕ) (f : Forest) → Rig d x f → (xs : List ℕ) → record_bytes d shape x ≡ granted xs → Gets x f shape_members xs
read-gets d x f rig xs e =
    let whole = resolved-front d x xs e in
    subst (λ (l : List ℕ). Gets x f shape_members l) (ap given whole ∙ given-front xs xs)
    (accepted-gets d x f rig shape shape_members shape-reader xs (ap (λ (w : Written). w.answer.number) whole))

-- what the shape gets of the descriptor d and the data x
module _ (d x : List ℕ) (f : Forest) (rig : Rig d x f) (xs : List ℕ) (gets : Gets x f shape_members xs) where
  -- is four bytes
  four : length xs ≡ 4
  four =
      let own = gets-record d x f rig shape shape_members shape-reader xs gets in
      let tree : own.cluster.described.tree ≡ shape_tree =
      one-description shape own.cluster.described (describe shape shape-bytes 16 shape_tree shape-read) in
      holds_read (rw tree at own.accepted) (shape-four xs)

  -- and is what is read of the record
  gets-read : record_bytes d shape x ≡ granted xs
  unfolding resolved identified
  gets-read = of (record_bytes d shape x) refl
    where
      of : (v : Verdict (List ℕ)) → record_bytes d shape x ≡ v → record_bytes d shape x ≡ granted xs
      of (denied number input place) e =
          let whole = (accepted-bytes d x f rig shape shape_members shape-reader xs xs gets (omega arith)).0 in
          let own : identified d x ≡ denied number input place = rw e refl in
          let same : resolved d shape x xs ≡ unwritten xs number input place = rw e refl in
          let none : number ≡ 0 = ap (λ (w : Written). w.answer.number) (sym same ∙ whole) in
          absurd (own-some d x number input place own none)
      of (granted ys) e =
          let also = read-gets d x f rig ys e in
          e ∙ ap granted (sym (gets-one d x f rig shape shape_members shape-reader xs ys gets also))

-- what is read of a record is the four bytes of its identifier
pub read-spelled : (d x : List ℕ) → Bytes d → Bytes x → (xs : List ℕ) → record_bytes d shape x ≡ granted xs → xs ≡ be_bytes 4 (be xs 0 4)
read-spelled d x bd bx xs e =
    let whole = resolved-front d x xs e in
    let known = accepted-only d shape x xs bd shape-bytes (ap (λ (w : Written). w.answer.number) whole) in
    let long : length xs ≡ 4 = four d x known.0 known.2 xs (read-gets d x known.0 known.2 xs e) in
    sym (slice_all xs 4 long) ∙ be-slice xs (read-bytes d x xs bd bx e) 0 4 (omega arith)

-- "each a descriptor and its data, both accepted. The identifier is always read from the record with the reader's shape": a record is a book's exactly
-- where it carries its identifier
pub blank-exactly : (r : Blank) → Bytes r.descriptor → Bytes r.flattened → IsBlank r ↔ HasIdentifier r
unfolding identified
blank-exactly r bd bx = (to, from)
  where
    to : IsBlank r → HasIdentifier r
    to h =
        let x = identifier-read r.descriptor r.flattened r.identifier h.own in
        let xs : List ℕ = x.bytes in
        let whole = resolved-front r.descriptor r.flattened xs x.record-read in
        let known = accepted-only r.descriptor shape r.flattened xs bd shape-bytes (ap (λ (w : Written). w.answer.number) whole) in
        let gets = read-gets r.descriptor r.flattened known.0 known.2 xs x.record-read in
        let spelled : xs ≡ be_bytes 4 r.identifier =
        read-spelled r.descriptor r.flattened bd bx xs x.record-read ∙ ap (be_bytes 4) x.number in
        record {
          members = known.0;
          rig = known.2;
          gets = subst (λ (l : List ℕ). Gets r.flattened known.0 shape_members l) spelled gets;
          fits = h.fits;
        }

    from : HasIdentifier r → IsBlank r
    from c =
        let id : ℕ = r.identifier in
        let e = gets-read r.descriptor r.flattened c.members c.rig (be_bytes 4 id) c.gets in
        record { own = rw e (ap granted (be-be_bytes 4 id ∙ mod-eq_of_lt c.fits)); fits = c.fits }
