-- A record added: what is written, and each answer. Rests on what is known of an opened book and on the laws of identifiers.
use mathlib.Core.Path.{◌≡◌, refl, sym, ap, ◌∙◌}
use mathlib.Core.Bool.{true, false}
use mathlib.Core.List.{List, ◌++◌}
use Prim.Native.Nat.{ℕ, ◌+◌, ◌-◌, ◌^◌, ◌≤◌, ◌<◌}
use native.Mathlib.Omega.{arith}
use borrow.Author.Tests.{leb-true, le-leb, lt-leb, lt-ltb, le-ltb}
use borrow.Rule.Slice.PartMut.{put_mid}
use lib.Dec.{leb, ltb}
use lib.ListN.{length, take, drop, take-append-drop}
use lib.Seq.{take-length, sets, sets-eq, length-sets, length-take-le}
use Rattle.std.specs.Prelude.{Ok, Err}
use Rattle.number.specs.Endian.{be_bytes}
use Rattle.number.proofs.Writing.{sets-append}
use Rattle.descriptor.specs.Limits.{descriptor_limit, data_limit}
use Rattle.descriptor.specs.Tree.{Tree}
use Rattle.descriptor.specs.Outcome.{Outcome, refused, read, Verdict, denied, granted}
use Rattle.descriptor.specs.Check.{checked}
use Rattle.descriptor.specs.Output.{unwritten}
use Rattle.descriptor.specs.declared.answer.Answer.{Answer}
use Rattle.descriptor.specs.declared.refusal.Refusal.{Refusal}
use Rattle.descriptor.proofs.Outcomes.{holds_read, holds-require, holds-weaken, holds-self}
use Rattle.canonical.specs.inner.Walk.{Accepted}
use Rattle.flattened.specs.Order.{big}
use Rattle.flattened.specs.Token.{Token}
use Rattle.flattened.specs.Walk.{walked}
use Rattle.flattened.specs.inner.Types.{type_at}
use Rattle.members.proofs.Joined.{put_front}
use Rattle.records.proofs.Topmost.{top-short}
use Rattle.store.specs.Book.{identified, Blank, stop_of}
use Rattle.store.specs.Layout.{entry_place, entry_bytes, bodies_end}
use Rattle.store.specs.Check.{opened}
use Rattle.store.specs.Questions.{entry_of, absent, admitted, with_record, entered, added}
use Rattle.store.specs.inner.Identity.{told, DataOf}
use Rattle.store.specs.inner.Entries.{Unseen, FirstWith, blanks_at}
use Rattle.store.specs.inner.Opens.{Open}
use Rattle.store.specs.inner.Adding.{Admitted, AdmittedEntry}
use Rattle.store.specs.declared.open.Book.{Book as Opened}
use Rattle.store.proofs.Seeking.{entry-there, entry-none}
use Rattle.store.proofs.Identified.{descriptor-denied, data-denied}
use Rattle.store.proofs.Asked.{asked-read, asked-count, blanks-so}

-- bytes that were copied to a place
copied : (s d part : List ℕ) (at : ℕ) → at + length d ≤ length s → part ≡ d ++ drop (length d) (take (length s - at) (drop at s))
    → put_mid at (length s - at) s part ≡ sets s at d
copied s d part at fits ep =
    put_front (take at s) d s s at (length d) (sym (length-take-le at s (omega arith))) refl (sym (take-append-drop at s)) part
    (ep ∙ ap (λ (l : List ℕ). l ++ drop (length d) (take (length s - at) (drop at s))) (sym (take-length d)))
    ∙ sym (sets-eq d s at fits)

-- a descriptor and its data
pub body-copied : (s d x : List ℕ) (at middle : ℕ) → middle ≡ at + length d → at + (length d + length x) ≤ length s → (part : List ℕ)
    → part ≡ d ++ drop (length d) (take (length s - at) (drop at s)) → (t : List ℕ) → t ≡ put_mid at (length s - at) s part → (other : List ℕ)
    → other ≡ x ++ drop (length x) (take (length t - middle) (drop middle t)) → put_mid middle (length t - middle) t other ≡ sets s at (d ++ x)
body-copied s d x at middle em fits part ep t et other eo =
    let first : t ≡ sets s at d = et ∙ copied s d part at (omega arith) ep in
    let long : length t ≡ length s = ap length first ∙ length-sets s at d in
    copied t x other middle (omega arith) eo ∙ (λ i. sets (first i) (em i) x) ∙ sym (sets-append s at d x)

-- the four numbers of an entry
pub entry-written : (s t u v w a b c d : List ℕ) (p : ℕ) → length a ≡ 4 → length b ≡ 4 → length c ≡ 4 → t ≡ sets s p a → u ≡ sets t (p + 4) b → v ≡ sets u (p + 8) c
    → w ≡ sets v (p + 12) d → w ≡ sets s p (a ++ (b ++ (c ++ d)))
entry-written s t u v w a b c d p la lb lc et eu ev ew =
    let two : p + 4 ≡ p + length a = omega arith in
    let three : p + 8 ≡ p + 4 + length b = omega arith in
    let four : p + 12 ≡ p + 8 + length c = omega arith in
    ew
    ∙ (λ i. sets (ev i) (four i) d) ∙ sym (sets-append u (p + 8) c d)
    ∙ (λ i. sets (eu i) (three i) (c ++ d)) ∙ sym (sets-append t (p + 4) b (c ++ d))
    ∙ (λ i. sets (et i) (two i) (b ++ (c ++ d))) ∙ sym (sets-append s p a (b ++ (c ++ d)))

-- the record, its entry and the count
pub record-written : (s t u v : List ℕ) (n p : ℕ) (r : Blank) → p ≡ entry_place n → t ≡ sets s r.start (r.descriptor ++ r.flattened)
    → u ≡ sets t p (be_bytes 4 r.identifier ++ (be_bytes 4 r.start ++ (be_bytes 4 (length r.descriptor) ++ be_bytes 4 (length r.flattened))))
    → v ≡ sets u 2 (be_bytes 2 (n + 1)) → v ≡ with_record s n r
unfolding with_record entry_bytes
record-written s t u v n p r ep et eu ev =
    ev ∙ ap (λ (l : List ℕ). sets l 2 (be_bytes 2 (n + 1))) (eu ∙ (λ i. sets (et i) (ep i) (entry_bytes r)))

-- a record whose identifier was read is accepted
granted-accepted : (d x : List ℕ) (id : ℕ) → identified d x ≡ granted id → Accepted d
granted-accepted d x id e = of (checked d) refl
  where
    of : (o : Outcome Tree) → checked d ≡ o → Accepted d
    of (refused number place) f = absurd (let other = sym (descriptor-denied d x number place f) ∙ e in cc)
    of (read q t) f = record { at = q; tree = t; eq = f }

granted-data : (d x : List ℕ) (id : ℕ) → identified d x ≡ granted id → Accepted d → DataOf d x
granted-data d x id e a = of (walked big (type_at d 0) x) refl
  where
    of : (o : Outcome (List Token)) → walked big (type_at d 0) x ≡ o → DataOf d x
    of (refused number place) f = absurd (let other = sym (data-denied d a x number place f) ∙ e in cc)
    of (read q ts) f = record { end = q; tokens = ts; eq = f }

data-most : (d x : List ℕ) → DataOf d x → length x ≤ data_limit
unfolding walked
data-most d x w =
    holds_read {P = λ _ _. length x ≤ data_limit} w.eq
    (holds-require (leb (length x) data_limit) _ _ (λ e. holds-weaken (holds-self _) (λ _ _ _. leb-true _ _ e)))

-- so it is short
granted-short : (d x : List ℕ) (id : ℕ) → identified d x ≡ granted id → length d + length x ≤ descriptor_limit + data_limit
granted-short d x id e =
    let a = granted-accepted d x id e in
    omega (arith, top-short d a, data-most d x (granted-data d x id e a))

-- what the code was told
told-denied : (v : Verdict ℕ) (a : Answer) → Err a ≡ told v → v ≡ denied a.number a.input a.place
told-denied (denied number input place) a e =
    let same : a ≡ record { number = number; input = input; place = place } = cc in
    ap (λ (x : Answer). denied x.number x.input x.place) (sym same)
told-denied (granted n) a e = absurd (cc)

told-granted : (v : Verdict ℕ) (n : ℕ) → Ok n ≡ told v → v ≡ granted n
told-granted (denied number input place) n e = absurd (cc)
told-granted (granted m) n e = let same : m ≡ n = cc in ap granted same

module _ (s d x : List ℕ) where
  -- 63
  pub add-lost : (r : Refusal) → opened s ≡ refused r.number r.place → added s d x ≡ unwritten s r.number 4 r.place
  unfolding added
  add-lost r is = rw is refl

  module _ (b : Opened) (o : Open s b) where
    abbrev n : ℕ
    n = b.entries.count

    -- the record's own refusal
    pub add-own : (a : Answer) → Err a ≡ told (identified d x) → added s d x ≡ unwritten s a.number a.input a.place
    unfolding added
    add-own a own = rw (o.is, told-denied (identified d x) a own) refl

    module _ (id : ℕ) (own : Ok id ≡ told (identified d x)) where
      says : identified d x ≡ granted id
      says = told-granted (identified d x) id own

      pub add-short : length d + length x < 2 ^ 17
      add-short = omega (arith, granted-short d x id says)

      abbrev new : Blank
      new = record { identifier = id; start = b.end; descriptor = d; flattened = x }

      enters : added s d x ≡ entered s o.book new
      unfolding added
      enters =
          let last : bodies_end o.book ≡ b.end = sym (asked-read s b o).ends in
          rw (o.is, says, last) refl

      searched : entry_of id 0 o.book.blanks ≡ entry_of id 0 (blanks_at s n 0)
      searched = ap (entry_of id 0) (blanks-so s b o)

      -- 60
      pub add-taken : (i : ℕ) → FirstWith s n id i → added s d x ≡ unwritten s 60 4 i
      unfolding entered admitted absent
      add-taken i first =
          let there = searched ∙ entry-there s id n 0 i first.unseen (omega arith) (omega (arith, first.within)) first.there in
          enters ∙ rw there refl

      module _ (unseen : Unseen s id n) where
        missing : entry_of id 0 o.book.blanks ≡ refused 64 0
        missing = searched ∙ entry-none s id n 0 n unseen (omega arith)

        -- 61
        pub add-full : b.capacity ≤ n → added s d x ≡ unwritten s 61 4 0
        unfolding entered admitted absent
        add-full full =
            let none_free : ltb (length o.book.blanks) o.book.capacity ≡ false =
            le-ltb (length o.book.blanks) o.book.capacity (omega (arith, o.count, o.capacity)) in
            enters ∙ rw (missing, none_free) refl

        module _ (free : n < b.capacity) where
          one_free : ltb (length o.book.blanks) o.book.capacity ≡ true
          one_free = lt-ltb (length o.book.blanks) o.book.capacity (omega (arith, o.count, o.capacity))

          -- 62
          pub add-narrow : length s < b.end + (length d + length x) → added s d x ≡ unwritten s 62 4 (length d + length x)
          unfolding entered admitted absent
          add-narrow over = enters ∙ rw (missing, one_free, lt-leb (stop_of new) (length s) over) refl

          -- the record is written
          pub add_done : b.end + (length d + length x) ≤ length s → Admitted s d x n new
          unfolding entered admitted absent
          add_done room = record {
            fits = record {
              room = room;
              entry = omega (arith, asked-count s b o, o.capacity, (asked-read s b o).capacity, (asked-read s b o).past);
              short = (asked-read s b o).short;
            };
            is = enters ∙ rw (missing, one_free, le-leb (stop_of new) (length s) room, sym o.count) refl;
          }

          -- under an identifier of 32 bits
          pub add_entry : b.end + (length d + length x) ≤ length s → id < 2 ^ 32 → AdmittedEntry s d x n new
          add_entry room small = record { admitted = add_done room; identifier = small }
