-- From the parts of a reading to its answer and the output: the first refusal in document 01's order, an output that is too small, or the
-- bytes joined. Rests on what is known of the tops, of the members and of the bytes picked.
use mathlib.Core.Path.{◌≡◌, refl, sym, ap, subst, ◌∙◌}
use mathlib.Core.Bool.{true, false}
use mathlib.Core.List.{List, ◌++◌}
use Prim.Native.Nat.{ℕ, ◌+◌, ◌≤◌, ◌<◌}
use Rattle.std.specs.Prelude.{Ok, Err}
use native.Mathlib.Omega.{arith}
use borrow.Author.Tests.{leb-true, le-leb, lt-leb}
use lib.Dec.{leb, eqb}
use lib.ListN.{length, get_or, take, drop, length-take}
use lib.Seq.{get_or-take}
use Rattle.descriptor.specs.Limits.{data_limit, depth_limit}
use Rattle.descriptor.specs.Tree.{Tree, Forest}
use Rattle.descriptor.specs.Outcome.{Outcome, refused, read, denied, granted, judge, settle}
use Rattle.descriptor.specs.Check.{checked}
use Rattle.descriptor.specs.Answers.{accepted}
use Rattle.descriptor.specs.Output.{Written, unwritten, written_to}
use Rattle.descriptor.specs.declared.refusal.Refusal.{Refusal}
use Rattle.descriptor.proofs.Outcomes.{Holds, found, holds_read, holds-require, holds-and_then, holds-self}
use Rattle.canonical.specs.inner.Walk.{Accepted}
use Rattle.canonical.proofs.Whole.{accepted_of}
use Rattle.flattened.specs.Order.{big}
use Rattle.flattened.specs.Token.{Token}
use Rattle.flattened.specs.Walk.{walk, walk_all, walked}
use Rattle.flattened.specs.inner.Types.{type_at, types_at}
use Rattle.members.specs.inner.Members.{Members, top_at, top_count, type_from}
use Rattle.members.specs.declared.roster.Roster.{Roster}
use Rattle.members.specs.inner.Joining.{picked_bytes, Copies}
use Rattle.resolution.specs.Record.{Member, writer_members, reader_members, joined_bytes, record_bytes, resolved}
use Rattle.resolution.specs.inner.Data.{data_from, passed}
use Rattle.resolution.specs.inner.Searching.{all_members}
use Rattle.resolution.specs.inner.Picking.{Ascends, StartsIn, Planned, Unplanned}
use Rattle.resolution.specs.inner.Tops.{is_cluster, TopStarts, NamesRight, NamesWrong}
use Rattle.resolution.proofs.Ends.{passed-lost, passed-got}
use Rattle.records.specs.inner.Ready.{Ready}
use Rattle.descriptor.proofs.Checked.{judged-refused, judged-place}
use Rattle.canonical.proofs.Judged.{refused_low, judged-accepted}
use Rattle.records.proofs.Topmost.{top-tree, top-members, top-walk, top-writers, writers-none}
use Rattle.records.proofs.Gathered.{data-walked, data-inside, data-order, gathered}

module _ (w r s out : List ℕ) where
  -- a descriptor that is refused
  pub writer-refused : (number place : ℕ) → checked w ≡ refused number place → unwritten out number 1 place ≡ resolved w r s out
  unfolding resolved record_bytes
  writer-refused number place e = sym (rw e refl)

  pub reader-refused : Accepted w → (number place : ℕ) → checked r ≡ refused number place → unwritten out number 2 place ≡ resolved w r s out
  unfolding resolved record_bytes
  reader-refused a number place e = sym (rw (a.eq, e) refl)

  module _ (aw : Accepted w) (ar : Accepted r) where
    known-writer : checked w ≡ read aw.at (type_at w 0)
    known-writer = aw.eq ∙ ap (λ (t : Tree). read aw.at t) (sym (top-tree w aw))

    known-reader : checked r ≡ read ar.at (type_at r 0)
    known-reader = ar.eq ∙ ap (λ (t : Tree). read ar.at t) (sym (top-tree r ar))

    -- what is left where the data was judged, by the reader's members and the rig's
    abbrev left : Outcome Forest → Outcome (List Member) → Written
    left o m =
        settle (unwritten out) (written_to out)
        (judge denied 2 o (λ f. judge denied 1 m (λ ms. judge denied 2 (joined_bytes 0 f s ms) (λ bytes. granted bytes))))

    abbrev after : Outcome (List Token) → Written
    after o =
        settle (unwritten out) (written_to out)
        (judge denied 3 o (λ _. judge denied 2 (reader_members (type_at r 0)) (λ f. judge denied 1 (writer_members (type_at w 0) s) (λ ms. judge denied 2 (joined_bytes 0 f s ms) (λ bytes. granted bytes)))))

    whole : resolved w r s out ≡ after (walked big (type_at w 0) s)
    unfolding resolved record_bytes
    whole = rw (known-writer, known-reader) refl

    pub data-refused : (number place : ℕ) → walked big (type_at w 0) s ≡ refused number place → unwritten out number 3 place ≡ resolved w r s out
    data-refused number place e = sym (whole ∙ ap after e)

    module _ (end : ℕ) (tokens : List Token) (walks : walked big (type_at w 0) s ≡ read end tokens) where
      ahead : resolved w r s out ≡ left (reader_members (type_at r 0)) (writer_members (type_at w 0) s)
      ahead = whole ∙ ap after walks

      pub names-refused : (number place : ℕ) → reader_members (type_at r 0) ≡ refused number place → unwritten out number 2 place ≡ resolved w r s out
      names-refused number place e = sym (ahead ∙ ap (λ (o : Outcome Forest). left o (writer_members (type_at w 0) s)) e)

      pub no-cluster : (next : ℕ) (f : Forest) → reader_members (type_at r 0) ≡ read next f → is_cluster w ≡ false → unwritten out 41 1 0 ≡ resolved w r s out
      no-cluster next f e n = sym (ahead ∙ (λ i. left (e i) (writers-none w aw n s i)))

-- data that was walked to its end
record Walks (w s : List ℕ) (tokens : List Token) : Type 0 where
  short : length s ≤ data_limit
  end : ℕ
  walks : walk big (type_at w 0) s 0 ≡ read end tokens

walks-all : (w s : List ℕ) → Holds (λ q ts. Walks w s ts) (walked big (type_at w 0) s)
unfolding walked
walks-all w s =
    holds-require (leb (length s) data_limit) _ _ (λ short.
    holds-and_then (holds-self (walk big (type_at w 0) s 0)) (λ q ts e.
    holds-require (eqb q (length s)) _ _ (λ _. found (record { short = leb-true _ _ short; end = q; walks = e }))))

-- a cluster whose data was walked
module _ (w s : List ℕ) (writer : Accepted w) (cluster : is_cluster w ≡ true) (last : ℕ) (tokens : List Token)
    (walks : walked big (type_at w 0) s ≡ read last tokens) where
  it : Walks w s tokens
  it = holds_read walks (walks-all w s)

  row-walks : walk_all big (types_at w (top_count w) (top_at w)) s 0 ≡ read it.end tokens
  row-walks = sym (top-walk w writer cluster s) ∙ it.walks

  pub data-short : length s ≤ data_limit
  data-short = it.short

  -- each member's data was walked, and lies in the data
  pub member-data : (i : ℕ) → i < top_count w
      → (ts : List Token) × (walk big (type_from w (top_at w) i) s (data_from w (top_at w) s i) ≡ read (data_from w (top_at w) s (i + 1)) ts)
  member-data = data-walked w (top_count w) (top_at w) s depth_limit it.end tokens (top-members w writer cluster).row row-walks

  pub member-inside : (i : ℕ) → i ≤ top_count w → data_from w (top_at w) s i ≤ length s
  member-inside = data-inside w (top_count w) (top_at w) s depth_limit it.end tokens (top-members w writer cluster).row row-walks

  pub member-order : (i : ℕ) → i < top_count w → data_from w (top_at w) s i ≤ data_from w (top_at w) s (i + 1)
  member-order = data-order w (top_count w) (top_at w) s depth_limit it.end tokens (top-members w writer cluster).row row-walks

  -- what is read of the members
  pub members-are : (end : ℕ) × (writer_members (type_at w 0) s ≡ read end (all_members w (top_count w) s))
  members-are = (
    it.end,
    top-writers w writer cluster s
        ∙ gathered w (top_count w) (top_at w) s depth_limit it.end tokens (top-members w writer cluster).row row-walks,
  )

module _ (w s starts : List ℕ) (reader : Roster) (ready : Ready w s starts reader) where
  abbrev k : ℕ
  k = top_count w

  abbrev r : List ℕ
  r = reader.d.now

  abbrev n : ℕ
  n = reader.count

  pub ready-members : Members w k (top_at w)
  ready-members = top-members w ready.writer ready.cluster

  pub ready-in : StartsIn k starts s
  ready-in = record {
    at = λ i h.
        subst (λ (x : ℕ). x ≤ length s) (sym (ready.column.at i (omega arith)))
        (member-inside w s ready.writer ready.cluster ready.end ready.tokens ready.walks i h);
  }

  pub ready-ascends : Ascends k starts
  ready-ascends = record {
    order = λ i h.
        let order = member-order w s ready.writer ready.cluster ready.end ready.tokens ready.walks i h in
        omega (arith, ready.column.at i (omega arith), ready.column.at (i + 1) (omega arith));
    short = λ i h. omega (arith, ready-in.at i h, data-short w s ready.writer ready.cluster ready.end ready.tokens ready.walks);
  }

  module _ (out : List ℕ) where
    abbrev joining : Outcome (List ℕ) → Written
    joining o = settle (unwritten out) (written_to out) (judge denied 2 o (λ bytes. granted bytes))

    joined : resolved w r s out ≡ joining (joined_bytes 0 (types_at r n (top_at r)) s (all_members w k s))
    joined =
        ahead w r s out ready.writer ready.accepted ready.end ready.tokens ready.walks
        ∙ (λ i.
        left w r s out ready.writer ready.accepted (ready.names.is i)
        ((members-are w s ready.writer ready.cluster ready.end ready.tokens ready.walks).1 i))

    -- a member at fault
    module _ (x : Refusal) (lost : Unplanned w k r n starts x) where
      pub ready-lost : unwritten out x.number 2 x.place ≡ resolved w r s out
      ready-lost = sym (joined ∙ ap joining (lost.is s ready.column))

    -- or none
    module _ (picks : List ℕ) (total : ℕ) (plan : Planned w k r n starts picks total) where
      abbrev bytes : List ℕ
      bytes = picked_bytes s starts (take n picks)

      pub ready-long : length bytes ≡ total
      ready-long = plan.long s ready-in

      all : resolved w r s out ≡ written_to out bytes
      all = joined ∙ ap joining (plan.is s ready.column)

      -- the output is too small
      pub ready-small : length out < total → unwritten out 50 4 total ≡ resolved w r s out
      unfolding written_to
      ready-small h =
          let over : _ = lt-leb (length bytes) (length out) (omega (arith, ready-long)) in
          ap (unwritten out 50 4) (sym ready-long) ∙ sym (all ∙ rw over refl)

      -- the members picked lie in the data
      picks-are : (j : ℕ) → j < length (take n picks) → get_or (take n picks) j 0 < k
      picks-are j h =
          let within : j < n = omega (arith, length-take n picks) in
          rw (get_or-take n picks j 0 within) (plan.within.at j within)

      pub ready-copies : Copies s starts (take n picks)
      ready-copies = record {
        order = λ j h. ready-ascends.order (get_or (take n picks) j 0) (picks-are j h);
        inside = λ j h. ready-in.at (get_or (take n picks) j 0 + 1) (omega (arith, picks-are j h));
      }

      -- they are written
      pub ready-written : total ≤ length out → (last : List ℕ) → last ≡ bytes ++ drop (length bytes) out
          → record { answer = accepted total; out = last } ≡ resolved w r s out
      unfolding written_to
      ready-written h last e =
          let fits : _ = le-leb (length bytes) (length out) (omega (arith, ready-long)) in
          (λ i. record { answer = accepted (sym ready-long i); out = e i }) ∙ sym (all ∙ rw fits refl)

-- what the steps of the code refuse
module _ (w r s out : List ℕ) (writer : Accepted w) (accepted : Accepted r) where
  pub walk-refused : (x : Refusal) → Err x ≡ passed (walked big (type_at w 0) s) → unwritten out x.number 3 x.place ≡ resolved w r s out
  walk-refused x e = data-refused w r s out writer accepted _ _ (passed-lost (walked big (type_at w 0) s) x e)

  module _ (walks : Ok tt ≡ passed (walked big (type_at w 0) s)) where
    done : (end : ℕ) × ((ts : List Token) × (walked big (type_at w 0) s ≡ read end ts))
    done = passed-got (walked big (type_at w 0) s) walks

    pub naming-refused : (x : Refusal) → NamesWrong r x → unwritten out x.number 2 x.place ≡ resolved w r s out
    naming-refused x wrong = names-refused w r s out writer accepted _ _ done.1.1 _ _ wrong.is

    module _ (reader : Roster) (right : NamesRight r reader) where
      pub cluster-refused : is_cluster w ≡ false → unwritten out 41 1 0 ≡ resolved w r s out
      cluster-refused none = no-cluster w r s out writer accepted _ _ done.1.1 right.last _ right.is none

      -- all else is judged
      pub made-ready : (yes-cluster : is_cluster w ≡ true) → (starts : List ℕ) → TopStarts w s starts (Ok tt) → Ready w s starts reader
      made-ready yes-cluster starts column = record {
        writer = writer;
        accepted = subst (λ (d : List ℕ). Accepted d) (sym right.of) accepted;
        cluster = yes-cluster;
        end = done.0;
        tokens = done.1.0;
        walks = done.1.1;
        column = column yes-cluster;
        names = subst (λ (d : List ℕ). NamesRight d reader) (sym right.of) right;
      }

-- what a reading finds its answers with
pub ruleset reading_laws = (accepted_of, refused_low, walk-refused, naming-refused, cluster-refused, made-ready, writer-refused, reader-refused, judged-refused, judged-place, judged-accepted)
