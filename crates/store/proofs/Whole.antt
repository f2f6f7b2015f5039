-- The book as a whole: its size, the entries in use and the others. Rests on what is known of bytes that were read as a book.
use mathlib.Core.Path.{◌≡◌, refl, sym, ap, ◌∙◌}
use mathlib.Core.Logic.{◌⊎◌, inl, inr}
use mathlib.Core.List.{List, []}
use Prim.Native.Nat.{ℕ, ◌-◌, ◌≤◌, ◌<◌}
use borrow.Author.Tests.{le-leb, lt-leb}
use lib.ListN.{length}
use Rattle.std.specs.Prelude.{Ok, Err}
use Rattle.number.specs.Endian.{be}
use Rattle.descriptor.specs.Outcome.{refused, read}
use Rattle.descriptor.specs.declared.refusal.Refusal.{Refusal}
use Rattle.descriptor.proofs.Outcomes.{holds_read}
use Rattle.resolution.specs.inner.Data.{end_of, passed}
use Rattle.resolution.proofs.Ends.{end-lost, end-got, passed-lost, passed-got}
use Rattle.store.specs.Book.{Blank, Book}
use Rattle.store.specs.Layout.{book_limit, entry_place}
use Rattle.store.specs.Check.{entries_at, unused_at, filled, opened}
use Rattle.store.specs.inner.Opens.{Open}
use Rattle.store.specs.declared.open.Book.{Book as Opened}
use Rattle.store.proofs.Reading.{opened-read, length-blanks}

filled-read : (s : List ℕ) (c n end q : ℕ) (rs : List Blank) → entries_at s [] n 0 (entry_place c) ≡ read end rs → unused_at s (c - n) n ≡ read q tt
    → filled s c n ≡ read end (record { capacity = c; blanks = rs })
unfolding filled
filled-read s c n end q rs used unused = rw (used, unused) refl

module _ (s : List ℕ) where
  -- too few bytes, or too many
  pub open-size : (length s < 4) ⊎ ((4 ≤ length s) × (book_limit < length s)) → opened s ≡ refused 63 0
  unfolding opened
  open-size (inl few) = rw (lt-leb 4 (length s) few) refl
  open-size (inr many) = rw (le-leb 4 (length s) many.0, lt-leb (length s) book_limit many.1) refl

  module _ (least : 4 ≤ length s) (most : length s ≤ book_limit) (c n : ℕ) (ec : c ≡ be s 0 2) (en : n ≡ be s 2 2) where
    -- the contents don't fit, or more entries are in use than there are
    pub open-room : (length s < entry_place c) ⊎ ((entry_place c ≤ length s) × (c < n)) → opened s ≡ refused 63 c
    unfolding opened
    open-room (inl narrow) =
        rw (le-leb 4 (length s) least, le-leb (length s) book_limit most, ← ec, lt-leb (entry_place c) (length s) narrow) refl
    open-room (inr crowded) =
        rw (le-leb 4 (length s) least, le-leb (length s) book_limit most, ← ec, ← en, le-leb (entry_place c) (length s) crowded.0, lt-leb n c crowded.1) refl

    module _ (room : entry_place c ≤ length s) (fits : n ≤ c) where
      fill : opened s ≡ filled s c n
      unfolding opened
      fill = rw (le-leb 4 (length s) least, le-leb (length s) book_limit most, ← ec, ← en, le-leb (entry_place c) (length s) room, le-leb n c fits) refl

      -- a bad entry in use
      pub open-bad : (r : Refusal) → Err r ≡ end_of (entries_at s [] n 0 (entry_place c)) → opened s ≡ refused r.number r.place
      unfolding filled
      open-bad r e = fill ∙ rw (end-lost _ r e) refl

      module _ (end : ℕ) (used : Ok end ≡ end_of (entries_at s [] n 0 (entry_place c))) where
        -- an unused one that is not zero
        pub open-dirty : (r : Refusal) → Err r ≡ passed (unused_at s (c - n) n) → opened s ≡ refused r.number r.place
        unfolding filled
        open-dirty r e = fill ∙ rw ((end-got _ end used).1, passed-lost _ r e) refl

        -- none of these
        pub open_done : Ok tt ≡ passed (unused_at s (c - n) n) → (b : Opened) → b.entries.bytes.now ≡ s → b.entries.count ≡ n → b.capacity ≡ c
            → b.end ≡ end → Open s b
        open_done e b bytes count capacity at =
            let rs = end-got (entries_at s [] n 0 (entry_place c)) end used in
            let book : Book = record { capacity = c; blanks = rs.0 } in
            let unused = passed-got (unused_at s (c - n) n) e in
            let is : opened s ≡ read end book = fill ∙ filled-read s c n end unused.0 rs.0 rs.1 unused.1.1 in
            let known = holds_read is (opened-read s) in
            record {
              book = book;
              is = is ∙ ap (λ (q : ℕ). read q book) (sym at);
              bytes = bytes;
              count = count ∙ en ∙ sym (ap length known.blanks ∙ length-blanks s (be s 2 2) 0);
              capacity = capacity;
            }
