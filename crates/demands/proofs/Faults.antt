-- Where a reading in a reader's shape is refused before a member is looked for: 40 exactly where the reader's top is no cluster or a member's name
-- is missing, empty or an earlier member's, with the lowest such member; 41 exactly where the reader is sound and the rig's top is no cluster.
-- So a reading is accepted only for a rig record and a reader's descriptor as demand 3 has them.
-- The public entry whose contract uses these definitions is read_record. Rests on demand 3's theorems.
use mathlib.Core.Path.{◌≡◌, refl, sym, ap, subst, ◌∙◌}
use mathlib.Core.Logic.{◌≢◌, ◌↔◌, ◌⊎◌, ⊎_elim}
use mathlib.Core.Bool.{Bool, true, false}
use mathlib.Core.List.{List, []}
use Prim.Native.Nat.{ℕ, ◌≤◌}
use native.Mathlib.Omega.{arith}
use borrow.Author.Tests.{eqb-true}
use lib.Dec.{eqb}
use Rattle.descriptor.specs.Tree.{empty, items, pairs, text, dimensions, members, subtype, Tree, node, Forest, nil}
use Rattle.descriptor.specs.Encoding.{Bytes}
use Rattle.descriptor.specs.Outcome.{Outcome, refused, read, judge, denied, granted, settle}
use Rattle.descriptor.specs.Output.{Written, unwritten, written_to, given}
use Rattle.descriptor.specs.Check.{checked}
use Rattle.descriptor.proofs.Places as places
use Rattle.flattened.specs.Order.{big}
use Rattle.encoding.proofs.Slices.{bytes-slice, bytes-append}
use Rattle.flattened.specs.Token.{Token, joined}
use Rattle.flattened.specs.Walk.{walked}
use Rattle.flattened.proofs.Refusals as walks
use Rattle.resolution.specs.Record.{Member, reader_fields, reader_members, writer_fields, writer_members, joined_bytes, record_bytes, resolved}
use Rattle.demands.proofs.Accepted.{Described, describe, described-read, one-description}
use Rattle.demands.proofs.Shape.{IsCluster, ReaderFault, no_cluster, bad_name, ClusterOf, Rig, Reader, Gets, nothing, more, Refused, for_member, for_room}
use Rattle.demands.proofs.Names.{names-read, first-bad, distinct, bad-refused, none_seen}
use Rattle.demands.proofs.Reading.{wrong-number}
use Rattle.demands.proofs.Members.{gives-over}
use Rattle.demands.proofs.Record.{accepted-gets, otherwise-refused}

-- a reader at fault is refused by the definition
fault-read : (t : Tree) (place : ℕ) → ReaderFault t place → reader_members t ≡ refused 40 place
unfolding reader_fields IsCluster
fault-read (node c empty f m) place (no_cluster h) = refl
fault-read (node c (items xs) f m) place (no_cluster h) = refl
fault-read (node c (pairs ps) f m) place (no_cluster h) = refl
fault-read (node c text f m) place (no_cluster h) = refl
fault-read (node c (dimensions k) f m) place (no_cluster h) = refl
fault-read (node c (members k) f m) place (no_cluster h) = absurd (h tt)
fault-read (node c (members k) f m) place (bad_name h) = rw (bad-refused f nil [] 0 place none_seen h) refl
fault-read (node c subtype f m) place (no_cluster h) = refl

-- a reader's descriptor is at fault, or is as the demand has it
reader-judged : (r : List ℕ) (y : Described r) (t : Tree) → y.tree ≡ t
    → ((place : ℕ) × ReaderFault t place) ⊎ ((g : Forest) × (reader : Reader r g) × (reader.cluster.described.tree ≡ t))
unfolding IsCluster
reader-judged r y (node c empty f m) e = ◌⊎◌.inl (0, no_cluster (λ h. h))
reader-judged r y (node c (items xs) f m) e = ◌⊎◌.inl (0, no_cluster (λ h. h))
reader-judged r y (node c (pairs ps) f m) e = ◌⊎◌.inl (0, no_cluster (λ h. h))
reader-judged r y (node c text f m) e = ◌⊎◌.inl (0, no_cluster (λ h. h))
reader-judged r y (node c (dimensions k) f m) e = ◌⊎◌.inl (0, no_cluster (λ h. h))
reader-judged r y (node c subtype f m) e = ◌⊎◌.inl (0, no_cluster (λ h. h))
reader-judged r y (node c (members k) f m) e =
    ⊎_elim (λ h. ◌⊎◌.inl (h.0, bad_name h.1))
    (λ n. ◌⊎◌.inr (
      f,
      record {
        cluster = record { described = y; code = c; count = k; name = m; top = e };
        names = distinct nil f n;
      },
      e,
    )) (first-bad f nil 0)

-- a rig's top is a cluster, or is refused by the definition
rig-judged : (w : List ℕ) (x : Described w) (s : List ℕ) (t : Tree) → x.tree ≡ t
    → ((¬ IsCluster t) × (writer_members t s ≡ refused 41 0)) ⊎ ((f : Forest) × (cluster : ClusterOf w f) × (cluster.described.tree ≡ t))
unfolding IsCluster writer_fields
rig-judged w x s (node c empty f m) e = ◌⊎◌.inl (λ h. h, refl)
rig-judged w x s (node c (items xs) f m) e = ◌⊎◌.inl (λ h. h, refl)
rig-judged w x s (node c (pairs ps) f m) e = ◌⊎◌.inl (λ h. h, refl)
rig-judged w x s (node c text f m) e = ◌⊎◌.inl (λ h. h, refl)
rig-judged w x s (node c (dimensions k) f m) e = ◌⊎◌.inl (λ h. h, refl)
rig-judged w x s (node c subtype f m) e = ◌⊎◌.inl (λ h. h, refl)
rig-judged w x s (node c (members k) f m) e = ◌⊎◌.inr (f, record { described = x; code = c; count = k; name = m; top = e }, e)

-- a reader as the demand has it passes
reader-passes : (r : List ℕ) (g : Forest) (reader : Reader r g) → (last : ℕ) × (reader_members reader.cluster.described.tree ≡ read last g)
unfolding reader_fields
reader-passes r g reader =
    let names = names-read g reader.names in (names.0, rw (reader.cluster.top, names.2) refl)

-- and has no fault
reader-sound : (r : List ℕ) (y : Described r) (g : Forest) → Reader r g → (place : ℕ) → ReaderFault y.tree place → ⊥
reader-sound r y g reader place h =
    let fault = fault-read reader.cluster.described.tree place (subst (λ (t : Tree). ReaderFault t place) (one-description r y reader.cluster.described) h) in
    let e : ◌≡◌ {A = Outcome Forest} (read (reader-passes r g reader).0 g) (refused 40 place) = sym (reader-passes r g reader).1 ∙ fault in
    absurd (let z : ◌≡◌ {A = ℕ} 0 1 = cc in omega arith)

-- a rig record's top is a cluster
rig-cluster : (w s : List ℕ) (x : Described w) (f : Forest) → Rig w s f → IsCluster x.tree
unfolding IsCluster
rig-cluster w s x f rig = rw (one-description w x rig.cluster.described, rig.cluster.top) tt

-- accepted descriptors and data
module _ (w r s out : List ℕ) (x : Described w) (y : Described r) (q : ℕ) (ts : List Token) (walks : walked big x.tree s ≡ read q ts) where
  -- what the definition comes to
  settled : resolved w r s out
      ≡ judge (unwritten out) 2 (reader_members y.tree) (λ g.
      judge (unwritten out) 1 (writer_members x.tree s) (λ ms. judge (unwritten out) 2 (joined_bytes 0 g s ms) (λ xs. written_to out xs)))
  unfolding resolved record_bytes
  settled = rw (described-read w x, described-read r y, walks) (first (reader_members y.tree))
    where
      third : (o : Outcome (List ℕ))
          → settle (unwritten out) (written_to out) (judge denied 2 o (λ xs. granted xs)) ≡ judge (unwritten out) 2 o (λ xs. written_to out xs)
      third (refused number place) = refl
      third (read at xs) = refl

      second : (g : Forest) (o : Outcome (List Member))
          → settle (unwritten out) (written_to out) (judge denied 1 o (λ ms. judge denied 2 (joined_bytes 0 g s ms) (λ xs. granted xs)))
          ≡ judge (unwritten out) 1 o (λ ms. judge (unwritten out) 2 (joined_bytes 0 g s ms) (λ xs. written_to out xs))
      second g (refused number place) = refl
      second g (read at ms) = third (joined_bytes 0 g s ms)

      first : (o : Outcome Forest)
          → settle (unwritten out) (written_to out) (judge denied 2 o (λ g. judge denied 1 (writer_members x.tree s) (λ ms. judge denied 2 (joined_bytes 0 g s ms) (λ xs. granted xs))))
          ≡ judge (unwritten out) 2 o (λ g. judge (unwritten out) 1 (writer_members x.tree s) (λ ms. judge (unwritten out) 2 (joined_bytes 0 g s ms) (λ xs. written_to out xs)))
      first (refused number place) = refl
      first (read at g) = second g (writer_members x.tree s)

  -- a reader at fault is refused with its place, whatever the rig is
  pub reader-refused : (place : ℕ) → ReaderFault y.tree place → resolved w r s out ≡ unwritten out 40 2 place
  reader-refused place h = settled ∙ rw (fault-read y.tree place h) refl

  -- what becomes of a reading
  data Judged : Type 0 where
    by_reader : {place : ℕ} → ReaderFault y.tree place → resolved w r s out ≡ unwritten out 40 2 place → Judged
    by_rig : {g : Forest} → Reader r g → ¬ IsCluster x.tree → resolved w r s out ≡ unwritten out 41 1 0 → Judged
    by_demand : {f g : Forest} → Rig w s f → Reader r g → Judged

  judged : Judged
  judged =
      ⊎_elim (λ h. by_reader h.1 (reader-refused h.0 h.1)) (λ h. rig h.0 h.1 h.2 (rig-judged w x s x.tree refl))
      (reader-judged r y y.tree refl)
    where
      rig : (g : Forest) (reader : Reader r g) → reader.cluster.described.tree ≡ y.tree
          → ((¬ IsCluster x.tree) × (writer_members x.tree s ≡ refused 41 0)) ⊎ ((f : Forest) × (cluster : ClusterOf w f) × (cluster.described.tree ≡ x.tree))
          → Judged
      rig g reader same =
          let passes = reader-passes r g reader in
          let taken : reader_members y.tree ≡ read passes.0 g = ap reader_members (sym same) ∙ passes.1 in
          ⊎_elim (λ h. by_rig reader h.0 (settled ∙ rw (taken, h.1) refl))
          (λ h. by_demand (record { cluster = h.1; end = q; tokens = ts; accepted = ap (λ (t : Tree). walked big t s) h.2 ∙ walks }) reader)

  -- of a rig record and a reader as the demand has them, the number is 0, that of a member at fault, or 50
  others : {f g : Forest} → Rig w s f → Reader r g → (number : ℕ) → number ≢ 0 → (number ≤ 41) → (resolved w r s out).answer.number ≢ number
  others {f} {g} rig reader number some low e = of (otherwise-refused w s f rig r g reader out (λ zero. some (sym e ∙ zero)))
    where
      of : Refused s f g out (resolved w r s out) → ⊥
      of (for_member h a) = let n = ap (λ (z : Written). z.answer.number) a in omega (arith, wrong-number h)
      of (for_room _ _ _ a) = let n = ap (λ (z : Written). z.answer.number) a in omega arith

  -- 40 is given exactly for a reader at fault
  pub reader-exactly : ((resolved w r s out).answer.number ≡ 40) ↔ ((place : ℕ) × ReaderFault y.tree place)
  reader-exactly = (λ e. of e judged, λ h. ap (λ (z : Written). z.answer.number) (reader-refused h.0 h.1))
    where
      of : (resolved w r s out).answer.number ≡ 40 → Judged → (place : ℕ) × ReaderFault y.tree place
      of e (by_reader h a) = (_, h)
      of e (by_rig reader top a) = absurd (let n = ap (λ (z : Written). z.answer.number) a in omega arith)
      of e (by_demand rig reader) = absurd (others rig reader 40 (λ z. omega arith) (omega arith) e)

  -- 41 exactly for a rig whose top is no cluster, where the reader is as the demand has it
  pub rig-exactly : ((resolved w r s out).answer.number ≡ 41) ↔ (((g : Forest) × Reader r g) × (¬ IsCluster x.tree))
  rig-exactly = (λ e. of e judged, λ h. back h.0.1 h.1 judged)
    where
      of : (resolved w r s out).answer.number ≡ 41 → Judged → ((g : Forest) × Reader r g) × (¬ IsCluster x.tree)
      of e (by_reader h a) = absurd (let n = ap (λ (z : Written). z.answer.number) a in omega arith)
      of e (by_rig reader top a) = ((_, reader), top)
      of e (by_demand rig reader) = absurd (others rig reader 41 (λ z. omega arith) (omega arith) e)

      back : {g : Forest} → Reader r g → ¬ IsCluster x.tree → Judged → (resolved w r s out).answer.number ≡ 41
      back reader top (by_reader {place} h a) = absurd (reader-sound r y _ reader place h)
      back reader top (by_rig _ _ a) = ap (λ (z : Written). z.answer.number) a
      back reader top (by_demand rig _) = absurd (top (rig-cluster w s x _ rig))

  -- and a reading is accepted only for a rig record and a reader as the demand has them
  accepted-judged : (resolved w r s out).answer.number ≡ 0 → Judged → (f : Forest) × (g : Forest) × Rig w s f × Reader r g
  accepted-judged e (by_reader h a) = absurd (let n = ap (λ (z : Written). z.answer.number) a in omega arith)
  accepted-judged e (by_rig reader top a) = absurd (let n = ap (λ (z : Written). z.answer.number) a in omega arith)
  accepted-judged e (by_demand rig reader) = (_, _, rig, reader)

-- what a reader gets is bytes of the data
gets-bytes : {s : List ℕ} {f g : Forest} {xs : List ℕ} → Bytes s → Gets s f g xs → Bytes xs
unfolding Bytes
gets-bytes all nothing = tt
gets-bytes {s} all (more {ts = ts} {xs = xs} once given rest) =
    let over = gives-over (omega arith) given in
    bytes-append (joined s ts) xs (subst (λ (x : List ℕ). Bytes x) (sym over.3.bytes) (bytes-slice over.0 over.1 s all)) (gets-bytes all rest)

-- any bytes
module _ (w r s out : List ℕ) (bytes : Bytes w) (same : Bytes r) where
  -- a reading is accepted only for a rig record and a reader's descriptor as the demand has them
  pub accepted-only : (resolved w r s out).answer.number ≡ 0 → (f : Forest) × (g : Forest) × Rig w s f × Reader r g
  unfolding resolved record_bytes
  accepted-only e = first (checked w) refl
    where
      third : (x : Described w) (y : Described r) (o : Outcome (List Token)) → walked big x.tree s ≡ o → (f : Forest) × (g : Forest) × Rig w s f × Reader r g
      third x y (refused number place) h =
          absurd (let n : (resolved w r s out).answer.number ≡ number = rw (described-read w x, described-read r y, h) refl in
          omega (arith, walks.refused-number s big x.tree number place h))
      third x y (read q ts) h = accepted-judged w r s out x y q ts h e (judged w r s out x y q ts h)

      second : (x : Described w) (o : Outcome Tree) → checked r ≡ o → (f : Forest) × (g : Forest) × Rig w s f × Reader r g
      second x (refused number place) h =
          absurd (let n : (resolved w r s out).answer.number ≡ number = rw (described-read w x, h) refl in
          omega (arith, places.refused-number r number place h))
      second x (read q t) h = third x (describe r same q t h) (walked big x.tree s) refl

      first : (o : Outcome Tree) → checked w ≡ o → (f : Forest) × (g : Forest) × Rig w s f × Reader r g
      first (refused number place) h =
          absurd (let n : (resolved w r s out).answer.number ≡ number = rw h refl in omega (arith, places.refused-number w number place h))
      first (read q t) h = second (describe w bytes q t h) (checked r) refl

  -- what is given is bytes, where the data is
  pub given-bytes : Bytes s → Bytes (given (resolved w r s out))
  unfolding given Bytes
  given-bytes all = of (eqb (resolved w r s out).answer.number 0) refl
    where
      of : (b : Bool) → eqb (resolved w r s out).answer.number 0 ≡ b → Bytes (given (resolved w r s out))
      of true e =
          let zero = eqb-true (resolved w r s out).answer.number 0 e in
          let x = accepted-only zero in
          gets-bytes all (accepted-gets w s x.0 x.2 r x.1 x.3 out zero)
      of false e = rw e tt
