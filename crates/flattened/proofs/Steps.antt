-- What a step of the cursor says of the data: the bytes are there, or they are not. Rests on the definitions alone.
use mathlib.Core.Path.{◌≡◌, refl, ap}
use mathlib.Core.Bool.{Bool, true, false, cond}
use mathlib.Core.List.{List}
use Prim.Native.Nat.{ℕ, ◌+◌, ◌<◌, ◌≤◌}
use Rattle.std.specs.Prelude.{Some, None}
use borrow.Author.Tests.{leb-true, leb-false, le-leb, lt-leb}
use lib.Dec.{leb}
use lib.ListN.{length}
use Rattle.flattened.specs.Order.{Order, number_at}
use Rattle.flattened.specs.inner.Cursor.{word, cursor, skipped, word_at}
use Rattle.flattened.specs.declared.cursor.Cursor.{Cursor}
use Rattle.flattened.specs.declared.cursor.Word.{Word}

module _ (s : List ℕ) (at n : ℕ) where
  -- past n bytes
  pub skip-fits : at + n ≤ length s → Some (cursor (at + n)) ≡ skipped s at n
  unfolding skipped
  skip-fits h = simp (le-leb (at + n) (length s) h)

  pub skip-short : length s < at + n → None ≡ skipped s at n
  unfolding skipped
  skip-short h = simp (lt-leb (at + n) (length s) h)

  -- and back
  pub record Skipped (c : Cursor) : Type 0 where
    pub fits : at + n ≤ length s
    pub next : c ≡ cursor (at + n)
    pub place : c.at ≡ at + n

  pub skip-to : (c : Cursor) → Some c ≡ skipped s at n → Skipped c
  unfolding skipped
  skip-to c e = go (leb (at + n) (length s)) refl e
    where
      go : (b : Bool) → leb (at + n) (length s) ≡ b → Some c ≡ cond b (Some (cursor (at + n))) None → Skipped c
      go true h e = let next : c ≡ cursor (at + n) = cc in record { fits = leb-true _ _ h; next = next; place = ap (λ (x : Cursor). x.at) next }
      go false h e = absurd (cc)

  pub skip-cut : None ≡ skipped s at n → length s < at + n
  unfolding skipped
  skip-cut e = go (leb (at + n) (length s)) refl e
    where
      go : (b : Bool) → leb (at + n) (length s) ≡ b → None ≡ cond b (Some (cursor (at + n))) None → length s < at + n
      go true h e = absurd (cc)
      go false h e = leb-false _ _ h

module _ (o : Order) (s : List ℕ) (at : ℕ) where
  -- a word
  pub word-fits : at + 4 ≤ length s → Some (word (number_at o s at 4) (cursor (at + 4))) ≡ word_at o s at
  unfolding word_at
  word-fits h = simp (le-leb (at + 4) (length s) h)

  pub word-short : length s < at + 4 → None ≡ word_at o s at
  unfolding word_at
  word-short h = simp (lt-leb (at + 4) (length s) h)

  -- and back
  pub record WordRead (v : ℕ) (c : Cursor) : Type 0 where
    pub fits : at + 4 ≤ length s
    pub value : v ≡ number_at o s at 4
    pub next : c ≡ cursor (at + 4)
    pub place : c.at ≡ at + 4

  pub word_read : (v : ℕ) (c : Cursor) → Some (word v c) ≡ word_at o s at → WordRead v c
  unfolding word_at
  word_read v c e = go (leb (at + 4) (length s)) refl e
    where
      go : (b : Bool) → leb (at + 4) (length s) ≡ b → Some (word v c) ≡ cond b (Some (word (number_at o s at 4) (cursor (at + 4)))) None
          → WordRead v c
      go true h e =
          let same : word v c ≡ word (number_at o s at 4) (cursor (at + 4)) = cc in
          let next = ap (λ (w : Word). w.next) same in
          record { fits = leb-true _ _ h; value = ap (λ (w : Word). w.number) same; next = next; place = ap (λ (x : Cursor). x.at) next }
      go false h e = absurd (cc)

  pub word_cut : None ≡ word_at o s at → length s < at + 4
  unfolding word_at
  word_cut e = go (leb (at + 4) (length s)) refl e
    where
      go : (b : Bool) → leb (at + 4) (length s) ≡ b → None ≡ cond b (Some (word (number_at o s at 4) (cursor (at + 4)))) None
          → length s < at + 4
      go true h e = absurd (cc)
      go false h e = leb-false _ _ h
