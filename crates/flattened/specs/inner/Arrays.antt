-- How an array's elements are judged and walked.
use Rattle.std.specs.Prelude.{◌≡◌, true, List, ◌∷◌, ℕ, ◌+◌, ◌*◌, ◌<◌, Option}
use Rattle.descriptor.specs.Outcome.{Outcome, read, and_then}
use Rattle.flattened.specs.Order.{Order, number_at}
use Rattle.flattened.specs.Token.{Token, sizes}
use Rattle.flattened.specs.Walk.{token, array_at, repeat}
use Rattle.flattened.specs.inner.Extent.{keeps}

-- an array of k dimensions, each element walked by f
abbrev pub elements_at : Order → ℕ → (ℕ → Outcome (List Token)) → List ℕ → ℕ → Outcome (List Token)
elements_at o k f s at =
    and_then (array_at o s k at) (λ next n. and_then (repeat f n next) (λ last ts. read last (token (sizes k) at next ∷ ts)))

-- each of n numbers of w bytes, the first at `at`, is below a limit, where there is one
abbrev pub EachKeeps : Option ℕ → Order → List ℕ → ℕ → ℕ → ℕ → Type 0
EachKeeps r o s w at n = (i : ℕ) → i < n → keeps r (number_at o s (at + i * w) w) ≡ true
