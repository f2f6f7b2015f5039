-- Document 02, CR 4, "The identifier is always read from the record with the reader's shape": reading a record in the shape and reading its identifier
-- are one. Where there is an identifier, the entry for records gives its four bytes; where there is none, both refuse with the same number, input and
-- place, and so does an add. The public entries are read_record and store_add. Rests on what a record of a book is.
use mathlib.Core.Path.{◌≡◌, refl, sym, ap, ◌∙◌}
use mathlib.Core.Logic.{◌≢◌, ◌↔◌}
use mathlib.Core.List.{List, ◌++◌}
use Prim.Native.Nat.{ℕ, ◌≤◌}
use native.Mathlib.Omega.{arith}
use lib.ListN.{length, drop}
use Rattle.number.specs.Endian.{be, be_bytes}
use Rattle.number.proofs.Writing.{length-be_bytes}
use Rattle.descriptor.specs.Encoding.{Bytes}
use Rattle.descriptor.specs.Outcome.{Verdict, denied, granted, settle}
use Rattle.descriptor.specs.Answers.{refusal, accepted}
use Rattle.descriptor.specs.Output.{Written, unwritten, written_to}
use Rattle.descriptor.specs.declared.answer.Answer.{Answer}
use Rattle.resolution.specs.Record.{record_bytes, resolved}
use Rattle.demands.proofs.Resolved.{written-fits}
use Rattle.store.specs.Book.{shape, identified, Book, IsBook}
use Rattle.store.specs.Layout.{Laid}
use Rattle.store.specs.Questions.{added}
use Rattle.history.proofs.Opened.{opened-complete}
use Rattle.history.proofs.Blanks.{read-spelled}

-- what reading a record in the shape is to give, by what reading its identifier comes to: the refusal, or the four bytes at the front of the output
abbrev pub shown_in : List ℕ → Verdict ℕ → Written
shown_in out v = settle (unwritten out) (λ id. record { answer = accepted 4; out = be_bytes 4 id ++ drop 4 out }) v

-- the descriptor d, the data x and an output with room for four bytes
module _ (d x out : List ℕ) (bd : Bytes d) (bx : Bytes x) (room : 4 ≤ length out) where
  -- the entry for records gives the identifier, or the same refusal
  pub identifier-shown : resolved d shape x out ≡ shown_in out (identified d x)
  unfolding resolved identified
  identifier-shown = of (record_bytes d shape x) refl
    where
      of : (v : Verdict (List ℕ)) → record_bytes d shape x ≡ v
          → settle (unwritten out) (written_to out) v ≡ shown_in out (settle denied (λ bytes. granted (be bytes 0 4)) v)
      of (denied number input place) e = refl
      of (granted xs) e =
          let id : ℕ = be xs 0 4 in
          let spelled : xs ≡ be_bytes 4 id = read-spelled d x bd bx xs e in
          let long : length (be_bytes 4 id) ≡ 4 = length-be_bytes 4 id in
          ap (written_to out) spelled
          ∙ written-fits out (be_bytes 4 id) (omega arith)
          ∙ ap (λ (n : ℕ). record { answer = accepted n; out = be_bytes 4 id ++ drop n out }) long

  -- "then the record's own": reading the identifier is refused exactly as reading the record is
  pub own-exactly : (number input place : ℕ) → number ≢ 0
      → (identified d x ≡ denied number input place) ↔ ((resolved d shape x out).answer ≡ refusal number input place)
  own-exactly number input place some =
      (λ e. rw (identifier-shown, e) refl, λ e. of (identified d x) (ap (λ (w : Written). w.answer) (sym identifier-shown) ∙ e))
    where
      of : (v : Verdict ℕ) → (shown_in out v).answer ≡ refusal number input place → v ≡ denied number input place
      of (denied n i p) e = (λ j. denied (e j).number (e j).input (e j).place)
      of (granted id) e = absurd (some (ap (λ (a : Answer). a.number) (sym e)))

  -- and so is an add to any book
  pub own-refused : (b : Book) (s : List ℕ) → IsBook b → Laid b s → (number input place : ℕ) → number ≢ 0
      → (resolved d shape x out).answer ≡ refusal number input place → added s d x ≡ unwritten s number input place
  unfolding added
  own-refused b s is laid number input place some e =
      rw (opened-complete b s is laid, (own-exactly number input place some).1 e) refl
