-- Document 02, CR 4, "Adding writes the record as lent after the last body and its entry after the last in use, and raises the count by one, nothing
-- else": the bytes are then the layout of the book with the record at its end. The public entry is store_add.
-- Rests on the laws of bodies, of entries and of bytes set.
use mathlib.Core.Path.{◌≡◌, refl, sym, ap, ◌∙◌}
use mathlib.Core.Bool.{false}
use mathlib.Core.List.{List, [], ◌∷◌, ◌++◌, append-nil}
use Prim.Native.Nat.{ℕ, ◌+◌, ◌-◌, ◌*◌, ◌≤◌, ◌<◌}
use native.Mathlib.Omega.{arith}
use lib.Dec.{eqb}
use lib.ListN.{length, replicate, length-append}
use lib.Seq.{slice, sets, length-sets}
use Rattle.number.proofs.Writing.{length-be_bytes}
use Rattle.descriptor.specs.Encoding.{word}
use Rattle.encoding.proofs.Slices.{slice-then, slice-split}
use Rattle.store.specs.Book.{Blank, body_of, stop_of, IsBlank, AllBlanks, is_one_of, Distinct, Book, IsBook, with_blank}
use Rattle.store.specs.Layout.{entry_place, entry_bytes, entries, contents_end, bodies_end, Laid}
use Rattle.store.specs.Questions.{identifiers, with_record}
use Rattle.history.specs.History.{held_by}
use Rattle.history.proofs.Putting.{Clear, before, past, sets-after, sets-there, sets-clear}
use Rattle.store.proofs.Entries.{length-entry, entries-append, zeros-first}
use Rattle.history.proofs.Rule.{follows-self}
use Rattle.history.proofs.Bodies.{bodies-after, bodies-more, bodies_kept}
use Rattle.history.proofs.Found.{holds_blank, not-one}

-- what is neither the first of some numbers nor another is not one of them
one-not : (id m : ℕ) (ms : List ℕ) → eqb m id ≡ false → is_one_of id ms ≡ false → is_one_of id (m ∷ ms) ≡ false
unfolding is_one_of
one-not id m ms e f = rw e f

-- one record more at the end: no identifier twice, each of them right, and what they hold
distinct_more : (r : Blank) (rs : List Blank) (seen : List ℕ) → Distinct seen rs → is_one_of r.identifier seen ≡ false
    → holds_blank r.identifier rs ≡ false → Distinct seen (rs ++ (r ∷ []))
unfolding Distinct identifiers
distinct_more r [] seen h e f = (e, tt)
distinct_more r (q ∷ rs) seen h e f =
    let apart = not-one r.identifier q.identifier (identifiers rs) f in
    (h.0, distinct_more r rs (q.identifier ∷ seen) h.1 (one-not r.identifier q.identifier seen apart.0 e) apart.1)

each_more : (r : Blank) (rs : List Blank) → AllBlanks rs → IsBlank r → AllBlanks (rs ++ (r ∷ []))
unfolding AllBlanks
each_more r [] h x = (x, tt)
each_more r (q ∷ rs) h x = (h.0, each_more r rs h.1 x)

pub held_more : (r : Blank) (rs : List Blank)
    → held_by (rs ++ (r ∷ [])) ≡ held_by rs ++ (record { identifier = r.identifier; descriptor = r.descriptor; flattened = r.flattened } ∷ [])
unfolding held_by
held_more r [] = refl
held_more r (q ∷ rs) =
    ap (λ hs. record { identifier = q.identifier; descriptor = q.descriptor; flattened = q.flattened } ∷ hs) (held_more r rs)

-- the layout s of a book b with a free entry, and a record r that fits behind the last body
module _ (b : Book) (s : List ℕ) (is : IsBook b) (laid : Laid b s) (r : Blank) (start : r.start ≡ bodies_end b)
    (free : length b.blanks < b.capacity) (room : stop_of r ≤ length s) where
  -- the three places that are written
  n : ℕ
  n = length b.blanks

  first : List ℕ
  first = sets s r.start (body_of r)

  second : List ℕ
  second = sets first (entry_place n) (entry_bytes r)

  body-fits : r.start + length (body_of r) ≤ length s
  body-fits = omega (arith, length-append r.descriptor r.flattened)

  first-long : length first ≡ length s
  unfolding first
  first-long = length-sets s r.start (body_of r)

  entry-fits : entry_place n + length (entry_bytes r) ≤ length first
  unfolding n
  entry-fits = omega (arith, first-long, length-entry r, laid.room)

  second-long : length second ≡ length s
  unfolding second
  second-long = length-sets first (entry_place n) (entry_bytes r) ∙ first-long

  count_fits : 2 + length (word (n + 1)) ≤ length second
  count_fits = omega (arith, second-long, length-be_bytes 2 (n + 1), laid.room)

  pub written-long : length (with_record s (length b.blanks) r) ≡ length s
  unfolding with_record first second n
  written-long = length-sets second 2 (word (n + 1)) ∙ second-long

  -- "nothing else": bytes clear of the count, of the entry and of the body stay
  pub written-frame : (p q : ℕ) → p ≤ q → Clear p q 2 4 → Clear p q (entry_place (length b.blanks)) (entry_place (length b.blanks) + 16)
      → Clear p q r.start (stop_of r) → slice p q (with_record s (length b.blanks) r) ≡ slice p q s
  unfolding with_record first second n
  written-frame p q h c e y =
      let two : 4 ≡ 2 + length (word (n + 1)) = omega (arith, length-be_bytes 2 (n + 1)) in
      let sixteen : entry_place n + 16 ≡ entry_place n + length (entry_bytes r) = omega (arith, length-entry r) in
      let all : stop_of r ≡ r.start + length (body_of r) = omega (arith, length-append r.descriptor r.flattened) in
      sets-clear second 2 (word (n + 1)) count_fits p q h (rw two at c)
      ∙ sets-clear first (entry_place n) (entry_bytes r) entry-fits p q h (rw sixteen at e)
      ∙ sets-clear s r.start (body_of r) body-fits p q h (rw all at y)

  -- the contents end before the record starts
  after-contents : contents_end b ≤ r.start
  after-contents = omega (arith, bodies-after s b.blanks (contents_end b) laid.bodies)

  -- the count, the entry and the body that were written
  count-written : slice 2 4 (with_record s (length b.blanks) r) ≡ word (length b.blanks + 1)
  unfolding with_record first second n
  count-written =
      let two : 4 ≡ 2 + length (word (n + 1)) = omega (arith, length-be_bytes 2 (n + 1)) in
      ap (λ (q : ℕ). slice 2 q (with_record s (length b.blanks) r)) two ∙ sets-there second 2 (word (n + 1)) count_fits

  entry-written : slice (entry_place (length b.blanks)) (entry_place (length b.blanks) + 16) (with_record s (length b.blanks) r) ≡ entry_bytes r
  unfolding with_record first second n
  entry-written =
      let sixteen : entry_place n + 16 ≡ entry_place n + length (entry_bytes r) = omega (arith, length-entry r) in
      sets-after second 2 (word (n + 1)) count_fits (entry_place n) (entry_place n + 16) (omega (arith, length-be_bytes 2 (n + 1))) (omega arith)
      ∙ ap (λ (q : ℕ). slice (entry_place n) q second) sixteen
      ∙ sets-there first (entry_place n) (entry_bytes r) entry-fits

  body-written : slice r.start (stop_of r) (with_record s (length b.blanks) r) ≡ body_of r
  unfolding with_record first second n
  body-written =
      let all : stop_of r ≡ r.start + length (body_of r) = omega (arith, length-append r.descriptor r.flattened) in
      let h = after-contents in
      sets-after second 2 (word (n + 1)) count_fits r.start (stop_of r) (omega (arith, length-be_bytes 2 (n + 1))) (omega arith)
      ∙ sets-after first (entry_place n) (entry_bytes r) entry-fits r.start (stop_of r) (omega (arith, length-entry r)) (omega arith)
      ∙ ap (λ (q : ℕ). slice r.start q first) all
      ∙ sets-there s r.start (body_of r) body-fits

  -- the entries in use
  used-written : slice 4 (entry_place (length b.blanks) + 16) (with_record s (length b.blanks) r) ≡ entries (b.blanks ++ (r ∷ []))
  unfolding entries
  used-written =
      slice-then 4 (entry_place (length b.blanks)) (entry_place (length b.blanks) + 16) (with_record s (length b.blanks) r) (omega arith) (omega arith)
      (written-frame 4 (entry_place (length b.blanks)) (omega arith) (past (omega arith)) (before (omega arith)) (before (omega (arith, after-contents)))
      ∙ laid.used) entry-written
      ∙ sym (entries-append b.blanks (r ∷ []) ∙ ap (λ (l : List ℕ). entries b.blanks ++ l) (append-nil (entry_bytes r)))

  -- and the unused ones
  unused-written : slice (entry_place (length b.blanks) + 16) (contents_end b) (with_record s (length b.blanks) r)
      ≡ replicate (16 * (b.capacity - (length b.blanks + 1))) 0
  unused-written =
      let m : ℕ = length b.blanks in
      written-frame (entry_place m + 16) (contents_end b) (omega arith) (past (omega arith)) (past (omega arith)) (before after-contents)
      ∙ (slice-split (replicate 16 0) (replicate (16 * (b.capacity - (m + 1))) 0) (entry_place m) (entry_place m + 16) (contents_end b) s refl (omega arith)
      laid.room (laid.unused ∙ zeros-first b.capacity m free)).1

  -- the bytes are the layout of the book with the record at its end
  pub written-laid : Laid (with_blank b r) (with_record s (length b.blanks) r)
  written-laid =
      let rs : List Blank = b.blanks in
      let m : ℕ = length rs in
      let c : ℕ = contents_end b in
      let out : List ℕ = with_record s m r in
      let h = after-contents in
      let long : length (rs ++ (r ∷ [])) ≡ m + 1 = length-append rs (r ∷ []) in
      let next : entry_place m + 16 ≡ entry_place (m + 1) = omega arith in
      record {
        size = omega (arith, written-long, laid.size);
        room = omega (arith, written-long, laid.room);
        capacity = written-frame 0 2 (omega arith) (before (omega arith)) (before (omega arith)) (before (omega arith)) ∙ laid.capacity;
        count = rw long count-written;
        used = rw (long, ← next) used-written;
        unused = rw (long, ← next) unused-written;
        bodies =
            bodies-more out rs c r
            (bodies_kept s out c (bodies_end b) (omega (arith, written-long))
            (λ p q l k t. written-frame p q k (past (omega arith)) (past (omega arith)) (before (omega arith))) rs c (omega arith) (omega arith) laid.bodies)
            (record { after = rw start (follows-self (bodies_end b)); room = omega (arith, written-long); body = body-written });
      }

  -- and that is a book, where the record is one and its identifier is new
  pub written-book : IsBlank r → holds_blank r.identifier b.blanks ≡ false → IsBook (with_blank b r)
  unfolding is_one_of
  written-book blank fresh = record {
    count = omega (arith, length-append b.blanks (r ∷ []));
    each = each_more r b.blanks is.each blank;
    distinct = distinct_more r b.blanks [] is.distinct refl fresh;
  }
