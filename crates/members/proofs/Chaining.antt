-- Names and their marks: a search that follows one mark's members finds what a search of all members does. Rests on the laws of a row's name.
use mathlib.Core.Path.{◌≡◌, refl, sym, ap, ap₂, subst, ◌∙◌}
use mathlib.Core.Bool.{Bool, true, false, cond}
use mathlib.Core.List.{List}
use Rattle.std.specs.Prelude.{None, Some}
use Prim.Native.Nat.{ℕ, zero, suc, ◌+◌, ◌-◌, ◌^◌, ◌≤◌, ◌<◌}
use native.Mathlib.Numerals.{add-one}
use native.Mathlib.Omega.{arith}
use borrow.Author.Tests.{eq-eqb, eqb-true, eqb-false, lt-ltb, le-ltb}
use Rattle.std.proofs.Common.{below_more}
use lib.Dec.{eqb}
use lib.ListN.{length, get_or, set, replicate, length-set, get_or-replicate}
use lib.Seq.{get_or-set_same, get_or-set_other}
use Rattle.number.specs.Endian.{be}
use Rattle.descriptor.specs.Tree.{Name, unnamed, named}
use Rattle.descriptor.proofs.Steps.{impossible}
use Rattle.canonical.proofs.Same.{chars-same}
use Rattle.members.specs.declared.roster.Roster.{Roster}
use Rattle.members.specs.declared.chains.Chains.{Chains}
use Rattle.members.specs.inner.Names.{named_at, has_chars}
use Rattle.members.specs.inner.Chains.{spread, ends, mark_of, has_mark, last_of, member, Unchained, Linked, Chained, Marked}

-- few bytes are a small number
pub few_bytes : (n : ℕ) → n < 4 → 256 ^ n < 2 ^ 32
few_bytes zero h = omega arith
few_bytes (suc zero) h = omega arith
few_bytes (suc (suc zero)) h = omega arith
few_bytes (suc (suc (suc zero))) h = omega arith
few_bytes (suc (suc (suc (suc n)))) h = absurd (omega arith)

-- the mark of a name
module _ (x : List ℕ) where
  -- from all characters
  pub mark-short : length x < 4 → spread (be x 0 (length x)) (be x 0 (length x)) ≡ mark_of x
  unfolding mark_of ends
  mark-short h =
      let least : ends (length x) ≡ length x = ap (λ (b : Bool). cond b (length x) 4) (lt-ltb (length x) 4 h) in
      let none : length x - ends (length x) ≡ 0 = omega (arith, least) in
      ap₂ spread (ap (be x 0) (sym least)) (ap₂ (λ (i n : ℕ). be x i n) (sym none) (sym least))

  -- from those at either end
  pub mark-long : 4 ≤ length x → spread (be x 0 4) (be x (length x - 4) 4) ≡ mark_of x
  unfolding mark_of ends
  mark-long h =
      let four : ends (length x) ≡ 4 = ap (λ (b : Bool). cond b (length x) 4) (le-ltb (length x) 4 h) in
      ap₂ spread (ap (be x 0) (sym four)) (ap (λ (n : ℕ). be x (length x - n) n) (sym four))

-- names that are the same have one mark
pub same-mark : (x : List ℕ) (n : Name) → has_chars x n ≡ true → has_mark (mark_of x) n ≡ true
unfolding has_chars has_mark
same-mark x unnamed h = impossible h
same-mark x (named y) h = eq-eqb (mark_of y) (mark_of x) (ap mark_of (sym (chars-same x y h)))

-- the last member that passes a test
module _ (d names : List ℕ) where
  module _ (test : Name → Bool) where
    pub last_more : (i : ℕ) → last_of test d names (i + 1) ≡ cond (test (named_at d (get_or names i 0))) (i + 1) (last_of test d names i)
    unfolding last_of
    last_more i = ap (last_of test d names) (add-one i) ∙ ap (λ (n : ℕ). cond (test (named_at d (get_or names i 0))) n (last_of test d names i)) (sym (add-one i))

    -- member i passes it
    pub last-here : (i : ℕ) → test (named_at d (get_or names i 0)) ≡ true → last_of test d names (i + 1) ≡ i + 1
    last-here i is = last_more i ∙ ap (λ (b : Bool). cond b (i + 1) (last_of test d names i)) is

    -- or does not
    pub last-before : (i : ℕ) → test (named_at d (get_or names i 0)) ≡ false → last_of test d names (i + 1) ≡ last_of test d names i
    last-before i not = last_more i ∙ ap (λ (b : Bool). cond b (i + 1) (last_of test d names i)) not

    -- one of the members
    pub last-most : (n : ℕ) → last_of test d names n ≤ n
    unfolding last_of
    last-most zero = omega arith
    last-most (suc i) = go (test (named_at d (get_or names i 0))) (last-most i)
      where
        go : (b : Bool) → last_of test d names i ≤ i → cond b (suc i) (last_of test d names i) ≤ suc i
        go true before = omega arith
        go false before = omega arith

    -- which passes it
    pub last-is : (n i : ℕ) → member (last_of test d names n) ≡ Some i → test (named_at d (get_or names i 0)) ≡ true
    unfolding last_of
    last-is zero i e = absurd (cc)
    last-is (suc n) i e = go (test (named_at d (get_or names n 0))) refl (last-is n i) e
      where
        go : (b : Bool) → test (named_at d (get_or names n 0)) ≡ b
            → (member (last_of test d names n) ≡ Some i → test (named_at d (get_or names i 0)) ≡ true)
            → member (cond b (suc n) (last_of test d names n)) ≡ Some i
            → test (named_at d (get_or names i 0)) ≡ true
        go true passes before is = let same : n ≡ i = cc in subst (λ (j : ℕ). test (named_at d (get_or names j 0)) ≡ true) same passes
        go false passes before is = before is

  -- Where one test implies another, the last that passes the one is found among those up to the last that passes the other.
  last_within : (test wider : Name → Bool) → ((m : Name) → test m ≡ true → wider m ≡ true)
      → (n : ℕ) → last_of test d names n ≡ last_of test d names (last_of wider d names n)
  unfolding last_of
  last_within test wider implies zero = refl
  last_within test wider implies (suc i) = go (wider (named_at d (get_or names i 0))) refl (last_within test wider implies i)
    where
      here : (b : Bool) → test (named_at d (get_or names i 0)) ≡ b → wider (named_at d (get_or names i 0)) ≡ false
          → cond b (suc i) (last_of test d names i) ≡ last_of test d names i
      here true e off = impossible (sym off ∙ implies _ e)
      here false e off = refl

      go : (b : Bool) → wider (named_at d (get_or names i 0)) ≡ b → last_of test d names i ≡ last_of test d names (last_of wider d names i)
          → last_of test d names (suc i) ≡ last_of test d names (cond b (suc i) (last_of wider d names i))
      go true e before = refl
      go false e before = here (test (named_at d (get_or names i 0))) refl e ∙ before

-- The last of the first n members that has the name x is found from the entry i on, which names none or has the mark of x.
pub record Follows (d names : List ℕ) (k n : ℕ) (x : List ℕ) (i : ℕ) : Type 0 where
  pub here : Marked d names k (mark_of x) i
  pub same : last_of (has_chars x) d names n ≡ last_of (has_chars x) d names i

module _ (d names : List ℕ) (k : ℕ) (x : List ℕ) where
  -- from the last that has the mark
  follows-mark : (n : ℕ) → n ≤ k → (i : ℕ) → i ≡ last_of (has_mark (mark_of x)) d names n → Follows d names k n x i
  follows-mark n h i e =
      let mark = has_mark (mark_of x) in
      record {
        here = record {
          most = omega (arith, e, last-most d names mark n);
          is = λ j one. last-is d names mark n j (ap member (sym e) ∙ one);
        };
        same = last_within d names (has_chars x) mark (same-mark x) n ∙ ap (last_of (has_chars x) d names) (sym e);
      }

  -- so from the mark's head
  pub follows-head : (heads links : List ℕ) → Chained d names k heads links
      → (m : ℕ) → m ≡ mark_of x → m < 256 → (i : ℕ) → i ≡ get_or heads m 0 → Follows d names k k x i
  follows-head heads links chained m em h i e =
      follows-mark k (omega arith) i (e ∙ chained.last m h ∙ ap (λ (y : ℕ). last_of (has_mark y) d names k) em)

  -- and from the link of a member that has the mark
  pub follows-link : (links : List ℕ) → Linked d names k links → (n : ℕ) → n < k → has_mark (mark_of x) (named_at d (get_or names n 0)) ≡ true
      → (i : ℕ) → i ≡ get_or links n 0 → Follows d names k n x i
  follows-link links linked n h is i e = follows-mark n (omega arith) i (e ∙ linked.at n h (mark_of x) is)

-- what the loop keeps, i of the members having been chained
pub record ChainLoop (d names : List ℕ) (i : ℕ) (heads links : List ℕ) : Type 0 where
  pub done : Chained d names i heads links
  pub wide : length heads ≡ 256
  pub long : length links ≡ 256

-- new columns
pub fresh-chains : Unchained (replicate 256 0)
fresh-chains = record { none = λ m h. get_or-replicate 256 m 0 0 h }

module _ (d names : List ℕ) where
  pub chain-begin : (heads links : List ℕ) → Unchained heads → length heads ≡ 256 → length links ≡ 256 → ChainLoop d names 0 heads links
  unfolding last_of
  chain-begin heads links none wide long = record {
    done = record { last = none.none; linked = record { at = λ i h. absurd (omega arith) } };
    wide = wide;
    long = long;
  }

  module _ (i : ℕ) (heads links : List ℕ) (l : ChainLoop d names i heads links) where
    -- a member with no name
    pub chain-unnamed : named_at d (get_or names i 0) ≡ unnamed → ChainLoop d names (i + 1) heads links
    unfolding has_mark
    chain-unnamed none =
        let off : (m : ℕ) → has_mark m (named_at d (get_or names i 0)) ≡ false = λ m. ap (has_mark m) none in
        record {
          done = record {
            last = λ m h. l.done.last m h ∙ sym (last-before d names (has_mark m) i (off m));
            linked = record {
              at = below_more (λ j. (m : ℕ) → has_mark m (named_at d (get_or names j 0)) ≡ true → get_or links j 0 ≡ last_of (has_mark m) d names j) i
                  l.done.linked.at (λ m is. impossible (sym (off m) ∙ is));
            };
          };
          wide = l.wide;
          long = l.long;
        }

    -- one with a name of the mark m
    module _ (x : List ℕ) (is : named_at d (get_or names i 0) ≡ named x) (m : ℕ) (em : m ≡ mark_of x) (small : m < 256) (room : i < 256) where
      marks : (n : ℕ) → has_mark n (named_at d (get_or names i 0)) ≡ eqb m n
      unfolding has_mark
      marks n = ap (has_mark n) is ∙ ap (λ (v : ℕ). eqb v n) (sym em)

      head-after : (n : ℕ) → n < 256 → (b : Bool) → eqb m n ≡ b → get_or (set heads m (i + 1)) n 0 ≡ last_of (has_mark n) d names (i + 1)
      head-after n h true e =
          ap (λ (v : ℕ). get_or (set heads m (i + 1)) v 0) (sym (eqb-true m n e))
          ∙ get_or-set_same heads m (i + 1) 0 (omega (arith, l.wide))
          ∙ sym (last-here d names (has_mark n) i (marks n ∙ e))
      head-after n h false e =
          get_or-set_other heads m n (i + 1) 0 (λ same. eqb-false m n e (sym same))
          ∙ l.done.last n h
          ∙ sym (last-before d names (has_mark n) i (marks n ∙ e))

      pub chain-again : ChainLoop d names (i + 1) (set heads m (i + 1)) (set links i (get_or heads m 0))
      chain-again = record {
        done = record {
          last = λ n h. head-after n h (eqb m n) refl;
          linked = record {
            at = below_more (λ j. (n : ℕ) → has_mark n (named_at d (get_or names j 0)) ≡ true → get_or (set links i (get_or heads m 0)) j 0 ≡ last_of (has_mark n) d names j) i
                (λ j h n marked. get_or-set_other links i j (get_or heads m 0) 0 (λ same. omega arith) ∙ l.done.linked.at j h n marked)
                (λ n marked.
                get_or-set_same links i (get_or heads m 0) 0 (omega (arith, l.long))
                ∙ l.done.last m small
                ∙ ap (λ (y : ℕ). last_of (has_mark y) d names i) (eqb-true m n (sym (marks n) ∙ marked)));
          };
        };
        wide = length-set heads m (i + 1) ∙ l.wide;
        long = length-set links i (get_or heads m 0) ∙ l.long;
      }

-- chains by the roster that they are of
pub chained-of : (c : Chains) (w : Roster) → c.roster ≡ w → Chained w.d.now w.names.now w.count c.heads.now c.links.now
chained-of c w e = subst (λ (r : Roster). Chained r.d.now r.names.now r.count c.heads.now c.links.now) e c.chained

-- an entry that names a member
pub entry-is : (entry i : ℕ) → member entry ≡ Some i → entry ≡ i + 1
entry-is zero i e = absurd (cc)
entry-is (suc j) i e = let same : j ≡ i = cc in omega arith

-- the search, at an entry
module _ (d names : List ℕ) (k from : ℕ) (x : List ℕ) (entry : ℕ) (l : Follows d names k from x entry) where
  -- which names member i
  module _ (i : ℕ) (ei : member entry ≡ Some i) where
    there : last_of (has_chars x) d names from ≡ last_of (has_chars x) d names (i + 1)
    there = l.same ∙ ap (last_of (has_chars x) d names) (entry-is entry i ei)

    -- which has the name
    pub follow-found : has_chars x (named_at d (get_or names i 0)) ≡ true → Some i ≡ member (last_of (has_chars x) d names from)
    follow-found is = sym (ap member (there ∙ last-here d names (has_chars x) i is ∙ add-one i))

    -- or has another
    module _ (off : has_chars x (named_at d (get_or names i 0)) ≡ false) (links : List ℕ) (linked : Linked d names k links) where
      marked : has_mark (mark_of x) (named_at d (get_or names i 0)) ≡ true
      marked = l.here.is i ei

      within : i < k
      within = omega (arith, l.here.most, entry-is entry i ei)

      onward : Follows d names k i x (get_or links i 0)
      onward = follows-link d names k x links linked i within marked _ refl

      pub follow-again : Follows d names k from x (get_or links i 0)
      follow-again = record { here = onward.here; same = there ∙ last-before d names (has_chars x) i off ∙ onward.same }

      pub follow-less : get_or links i 0 < entry
      follow-less = omega (arith, entry-is entry i ei, linked.at i within (mark_of x) marked, last-most d names (has_mark (mark_of x)) i)

  -- which names none
  pub follow-none : member entry ≡ None → None ≡ member (last_of (has_chars x) d names from)
  unfolding last_of
  follow-none none = rw l.same (go entry none)
    where
      go : (e : ℕ) → member e ≡ None → None ≡ member (last_of (has_chars x) d names e)
      go zero n = refl
      go (suc i) n = absurd (cc)

-- what marks find their answers with
pub ruleset mark_laws = (few_bytes, mark-short, mark-long)

-- what chains find their answers with
pub ruleset chain_laws = (chain-begin, chain-unnamed, chain-again, follow-found, follow-again, follow-less, follow-none)
