-- The fields of a body by its kind, read, judged and filled in one chain. Rests on the definitions of the check alone.
use mathlib.Core.Path.{◌≡◌, refl, ap}
use mathlib.Core.Bool.{Bool, true, false}
use mathlib.Core.List.{List}
use Prim.Native.Nat.{ℕ, ◌+◌}
use lib.Dec.{leb, eqb}
use Rattle.descriptor.specs.Limits.{count_limit, pair_limit, dimension_limit}
use Rattle.descriptor.specs.Codes.{plain, enumeration, quantity, string, array, cluster, stamp, unknown}
use Rattle.descriptor.specs.Outcome.{Outcome, refused, read, and_then, require}
use Rattle.descriptor.specs.Tree.{Fields, empty, items, pairs, text, dimensions, members, subtype}
use Rattle.number.specs.Endian.{be}
use Rattle.descriptor.specs.Stamp.{stamp_subtype}
use Rattle.descriptor.specs.Header.{code_at}
use Rattle.descriptor.specs.Check.{count_at, run_at, items_at, pairs_at, fields_read, judged, base_fits, word_fits, contents_at, fill_at, filled_at, fields_at}
use Rattle.descriptor.proofs.Sizes.{length-pairs_at}

module _ (s : List ℕ) (p at stop : ℕ) where
  -- what comes after the fields b, read up to `next`
  abbrev after : ℕ → Fields → Outcome Fields
  after next b = and_then (contents_at s at b) (λ _ _. and_then (filled_at s p stop next b) (λ last _. read last b))

  pub plain-fields : fields_at plain s p at stop ≡ read at empty
  unfolding fields_at fields_read contents_at filled_at
  plain-fields = refl

  pub cluster-fields : fields_at cluster s p at stop ≡ and_then (count_at s at stop count_limit) (λ last k. read last (members k))
  unfolding fields_at fields_read contents_at filled_at
  cluster-fields = go (count_at s at stop count_limit)
    where
      go : (o : Outcome ℕ) → and_then (and_then o (λ last k. read last (members k))) after ≡ and_then o (λ last k. read last (members k))
      go (refused number place) = refl
      go (read last k) = refl

  pub enumeration-fields : fields_at enumeration s p at stop
      ≡ and_then (count_at s at stop count_limit)
      (λ next k. and_then (items_at s stop k next) (λ last xs. and_then (fill_at s p stop last) (λ q _. read q (items xs))))
  unfolding fields_at fields_read contents_at filled_at
  enumeration-fields = go (count_at s at stop count_limit)
    where
      inner : (o : Outcome (List (List ℕ)))
          → and_then (and_then o (λ last xs. read last (items xs))) after
          ≡ and_then o (λ last xs. and_then (fill_at s p stop last) (λ q _. read q (items xs)))
      inner (refused number place) = refl
      inner (read last xs) = refl

      go : (o : Outcome ℕ)
          → and_then (and_then o (λ next k. and_then (items_at s stop k next) (λ last xs. read last (items xs)))) after
          ≡ and_then o (λ next k. and_then (items_at s stop k next) (λ last xs. and_then (fill_at s p stop last) (λ q _. read q (items xs))))
      go (refused number place) = refl
      go (read next k) = inner (items_at s stop k next)

  pub string-fields : fields_at string s p at stop
      ≡ require (leb (at + 4) stop) 8 stop (and_then (judged (word_fits s) 1 at) (λ _ _. read (at + 4) text))
  unfolding fields_at fields_read contents_at filled_at
  string-fields = go (leb (at + 4) stop)
    where
      go : (b : Bool)
          → and_then (require b 8 stop (read (at + 4) text)) after
          ≡ require b 8 stop (and_then (judged (word_fits s) 1 at) (λ _ _. read (at + 4) text))
      go true = refl
      go false = refl

  pub array-fields : fields_at array s p at stop
      ≡ and_then (run_at s at stop dimension_limit) (λ last k. and_then (judged (word_fits s) k (at + 2)) (λ _ _. read last (dimensions k)))
  unfolding fields_at fields_read contents_at filled_at
  array-fields = go (run_at s at stop dimension_limit)
    where
      go : (o : Outcome ℕ)
          → and_then (and_then o (λ last k. read last (dimensions k))) after
          ≡ and_then o (λ last k. and_then (judged (word_fits s) k (at + 2)) (λ _ _. read last (dimensions k)))
      go (refused number place) = refl
      go (read last k) = refl

  pub quantity-fields : fields_at quantity s p at stop
      ≡ and_then (run_at s at stop pair_limit)
      (λ last k. and_then (judged (base_fits s) k (at + 2)) (λ _ _. read last (pairs (pairs_at s k (at + 2)))))
  unfolding fields_at fields_read contents_at filled_at
  quantity-fields = go (run_at s at stop pair_limit)
    where
      go : (o : Outcome ℕ)
          → and_then (and_then o (λ last k. read last (pairs (pairs_at s k (at + 2))))) after
          ≡ and_then o (λ last k. and_then (judged (base_fits s) k (at + 2)) (λ _ _. read last (pairs (pairs_at s k (at + 2)))))
      go (refused number place) = refl
      go (read last k) =
          ap (λ (n : ℕ). and_then (judged (base_fits s) n (at + 2)) (λ _ _. read last (pairs (pairs_at s k (at + 2))))) (length-pairs_at s k (at + 2))

  pub stamp-fields : fields_at stamp s p at stop
      ≡ require (leb (at + 2) stop) 8 stop (require (eqb (be s at 2) stamp_subtype) 5 (code_at p) (read (at + 2) subtype))
  unfolding fields_at fields_read contents_at filled_at
  stamp-fields = go (leb (at + 2) stop) (eqb (be s at 2) stamp_subtype)
    where
      go : (b c : Bool)
          → and_then (require b 8 stop (require c 5 (code_at p) (read (at + 2) subtype))) after
          ≡ require b 8 stop (require c 5 (code_at p) (read (at + 2) subtype))
      go true true = refl
      go true false = refl
      go false c = refl

  pub unknown-fields : fields_at unknown s p at stop ≡ refused 5 (code_at p)
  unfolding fields_at fields_read
  unknown-fields = refl

pub ruleset fields_by_kind = (plain-fields, enumeration-fields, quantity-fields, string-fields, array-fields, cluster-fields, stamp-fields, unknown-fields)
