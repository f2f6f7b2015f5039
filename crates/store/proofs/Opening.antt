-- Entries in use, one after the other: what is left to judge from here is what was left from the start. Rests on the laws of bodies and of marks.
use mathlib.Core.Path.{◌≡◌, refl, sym, ap, ap₂, subst, ◌∙◌}
use mathlib.Core.Bool.{Bool, true, false, not}
use mathlib.Core.List.{List, [], ◌∷◌}
use Prim.Native.Nat.{ℕ, suc, ◌+◌, ◌-◌, ◌≤◌, ◌<◌}
use native.Mathlib.Nat.{sub-zero}
use native.Mathlib.Numerals.{add-one}
use native.Mathlib.Omega.{arith}
use lib.ListN.{length, get_or, set}
use Rattle.std.specs.Prelude.{Result, Ok, Err}
use Rattle.descriptor.specs.Outcome.{Outcome, refused, read, and_then}
use Rattle.descriptor.specs.inner.Steps.{refusal_at}
use Rattle.descriptor.specs.declared.refusal.Refusal.{Refusal}
use Rattle.resolution.specs.inner.Data.{end_of}
use Rattle.store.specs.Book.{identified, Blank, stop_of, is_one_of}
use Rattle.store.specs.Layout.{entry_place}
use Rattle.store.specs.Check.{blank_at, says, is_blank, entry_fits, entry_at, entries_at}
use Rattle.store.specs.inner.Entries.{name_at, seen_before}
use Rattle.store.specs.inner.Marks.{mark_count, mark_of, Marked}
use Rattle.store.specs.inner.Blanks.{blank_of, body_lies, Laid}
use Rattle.store.specs.inner.Judging.{Mute}
use Rattle.store.specs.inner.Runs.{Left, Ran}
use Rattle.store.specs.declared.blank.Blank.{Blank as Lent}
use Rattle.store.specs.declared.runs.Run.{Run}
use Rattle.store.proofs.Marking.{unmarked, new-unseen, marked-none, marked_more}
use Rattle.store.proofs.Laying.{entry-fits, body-away, body-said}

-- one record more ends where the others do
end-more : (r : Blank) (o : Outcome (List Blank)) → end_of (and_then o (λ end rs. read end (r ∷ rs))) ≡ end_of o
end-more r (refused number place) = refl
end-more r (read end rs) = refl

-- a record whose descriptor was judged
module _ (r : Lent) where
  pub mute-blank : Mute r.descriptor.now → is_blank (blank_of r) ≡ false
  unfolding is_blank
  mute-blank mute = mute.none r.flattened.now r.identifier

  pub said-blank : (d : List ℕ) → d ≡ r.descriptor.now → (b : Bool) → b ≡ says r.identifier (identified d r.flattened.now) → b ≡ is_blank (blank_of r)
  unfolding is_blank
  said-blank d same b said = rw same at said

-- the rest of the entries, from the one after the run on
module _ (s : List ℕ) (n : ℕ) (whole : Result ℕ Refusal) (marks : List Bool) (run : Run) (l : Left s n whole marks run) where
  abbrev i : ℕ
  i = run.next

  pub left-done : n ≤ i → Ok run.at ≡ whole
  unfolding entries_at
  left-done over =
      let none_left : n - i ≡ 0 = omega arith in
      rw none_left at l.rest

  pub left-marked : n ≤ i → Marked s n marks
  left-marked over =
      let same : i ≡ n = omega (arith, l.most) in
      rw same at l.marked

  module _ (more : i < n) where
    abbrev seen : List ℕ
    seen = seen_before s i

    turn : end_of (entries_at s seen (suc (n - (i + 1))) i run.at) ≡ whole
    turn =
        let left : suc (n - (i + 1)) ≡ n - i = omega arith in
        ap (λ (k : ℕ). end_of (entries_at s seen k i run.at)) left ∙ l.rest

    -- a bad entry
    bad : entry_fits s seen (entry_place i) run.at ≡ false → Err (refusal_at 63 i) ≡ whole
    unfolding entries_at entry_at
    bad off = rw off at turn

    -- one whose body lies elsewhere
    pub left-away : body_lies s i run.at ≡ false → Err (refusal_at 63 i) ≡ whole
    left-away off = bad (entry-fits s seen i run.at ∙ rw (body-away s i run.at off) refl)

    module _ (r : Lent) (laid : Laid s i run.at r) where
      name : r.identifier ≡ name_at s i
      unfolding blank_at
      name = ap (λ (b : Blank). b.identifier) laid.is

      -- one whose record is not right
      pub left-bad : is_blank (blank_of r) ≡ false → Err (refusal_at 63 i) ≡ whole
      left-bad off = bad (entry-fits s seen i run.at ∙ rw (body-said s i run.at r laid, off) refl)

      module _ (right : is_blank (blank_of r) ≡ true) where
        by-name : entry_fits s seen (entry_place i) run.at ≡ not (is_one_of r.identifier seen)
        by-name =
            entry-fits s seen i run.at
            ∙ rw (body-said s i run.at r laid, right) (ap (λ (id : ℕ). not (is_one_of id seen)) (sym name))

        -- one whose identifier is an earlier one's
        pub left-doubled : false ≡ not (is_one_of r.identifier seen) → Err (refusal_at 63 i) ≡ whole
        left-doubled off = bad (by-name ∙ sym off)

        -- a good one
        module _ (fresh : true ≡ not (is_one_of r.identifier seen)) where
          good : entry_fits s seen (entry_place i) run.at ≡ true
          good = by-name ∙ sym fresh

          abbrev others : ℕ → Outcome (List Blank)
          others next = entries_at s (name_at s i ∷ seen) (n - (i + 1)) (i + 1) next

          once : end_of (and_then (others (stop_of (blank_at s (entry_place i)))) (λ end rs. read end (blank_at s (entry_place i) ∷ rs))) ≡ whole
          unfolding entries_at entry_at blank_at
          once = rw good at turn

          onwards : (at : ℕ) → at ≡ stop_of (blank_of r) → end_of (entries_at s (seen_before s (i + 1)) (n - (i + 1)) (i + 1) at) ≡ whole
          unfolding seen_before
          onwards at is =
              ap₂ (λ (k q : ℕ). end_of (entries_at s (seen_before s k) (n - (i + 1)) (i + 1) q)) (add-one i) (is ∙ ap stop_of laid.is)
              ∙ sym (end-more (blank_at s (entry_place i)) (others (stop_of (blank_at s (entry_place i)))))
              ∙ once

          pub left-next : length marks ≡ mark_count → (at : ℕ) → at ≡ stop_of (blank_of r)
              → Left s n whole (set marks (mark_of r.identifier) true) (record { next = i + 1; at = at })
          left-next long at is = record {
            most = omega arith;
            marked = marked_more s i marks long l.marked r.identifier name;
            rest = onwards at is;
          }

-- all of them
pub left-begin : (s : List ℕ) (n from : ℕ) (marks : List Bool)
    → Left s n (end_of (entries_at s [] n 0 from)) marks (record { next = 0; at = from })
unfolding seen_before
left-begin s n from marks = record {
  most = omega arith;
  marked = marked-none s marks;
  rest = ap (λ (k : ℕ). end_of (entries_at s [] k 0 from)) (sub-zero n);
}

-- a run goes on over an entry that is like the others and whose mark was not met
pub run-next : (s : List ℕ) (n : ℕ) (before : List Bool) (first : Run) (marks : List Bool) (run : Run) → Ran s n before first marks run
    → (i : ℕ) → run.next ≡ i → i < n → (r : Lent) → Laid s i run.at r → true ≡ is_blank (blank_of r) → length marks ≡ mark_count
    → false ≡ get_or marks (mark_of r.identifier) false → (at : ℕ) → at ≡ stop_of (blank_of r)
    → Ran s n before first (set marks (mark_of r.identifier) true) (record { next = i + 1; at = at })
run-next s n before first marks run ran i same more r laid right long unmet at is = record {
  onward = omega (arith, ran.onward);
  so = λ whole begun.
      let now = ran.so whole begun in
      let here : Laid s run.next run.at r = subst (λ (k : ℕ). Laid s k run.at r) (sym same) laid in
      let fresh = new-unseen s run.next r.identifier (unmarked s run.next r.identifier marks now.marked (sym unmet)) in
      subst (λ (k : ℕ). Left s n whole (set marks (mark_of r.identifier) true) (record { next = k + 1; at = at })) same
      (left-next s n whole marks run now (omega arith) r here (sym right) fresh long at is);
}
