-- The data of a cluster's members, by number: where each one's starts.
use Rattle.std.specs.Prelude.{List, [], ◌∷◌, ℕ, zero, suc, Result, Ok, Err}
use Rattle.descriptor.specs.Outcome.{Outcome, refused, read}
use Rattle.descriptor.specs.inner.Standing.{next_of}
use Rattle.descriptor.specs.inner.Steps.{refusal_at}
use Rattle.descriptor.specs.declared.refusal.Refusal.{Refusal}
use Rattle.flattened.specs.Order.{big}
use Rattle.flattened.specs.Walk.{walk}
use Rattle.members.specs.inner.Members.{type_from, row_from}
use Rattle.resolution.specs.Record.{Member}

-- where the data of descriptor i of those that stand in a row from p on starts, that of the first starting at 0
unfoldable pub data_from : List ℕ → ℕ → List ℕ → ℕ → ℕ
data_from d p s zero = 0
data_from d p s (suc i) = next_of (walk big (type_from d p i) s (data_from d p s i))

-- the descriptor as a member of the rig's cluster
abbrev pub member_from : List ℕ → ℕ → List ℕ → ℕ → Member
member_from d p s i = record { row = row_from d p i; type = type_from d p i; start = data_from d p s i; stop = data_from d p s (suc i) }

-- n members from number i on
unfoldable pub members_for : List ℕ → ℕ → List ℕ → ℕ → ℕ → List Member
members_for d p s i zero = []
members_for d p s i (suc n) = member_from d p s i ∷ members_for d p s (suc i) n

-- where what was read ends
abbrev pub end_of : {A : Type 0} → Outcome A → Result ℕ Refusal
end_of (refused number place) = Err (refusal_at number place)
end_of (read at x) = Ok at

-- whether it was read
abbrev pub passed : {A : Type 0} → Outcome A → Result (Unit {0}) Refusal
passed (refused number place) = Err (refusal_at number place)
passed (read at x) = Ok tt
