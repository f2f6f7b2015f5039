-- The outcomes of the readings as the code hands them on: a refusal, or what was read by its numbers alone.
use Rattle.std.specs.Prelude.{Bool, true, false, ℕ, Result, Ok, Err}
use Rattle.descriptor.specs.Codes.{Kind, plain, enumeration, quantity, string, array, cluster, stamp, unknown}
use Rattle.descriptor.specs.Tree.{Fields, count_of, child_count}
use Rattle.descriptor.specs.Outcome.{Outcome, refused, read}
use Rattle.descriptor.specs.Check.{Header}
use Rattle.descriptor.specs.declared.codes.Kind.{Kind as CodeKind}
use Rattle.descriptor.specs.declared.codes.Kind.TheVariants as kinds
use Rattle.descriptor.specs.declared.refusal.Refusal.{Refusal}
use Rattle.descriptor.specs.declared.step.Step.{Step}
use Rattle.descriptor.specs.declared.header.Head.{Head}

-- a kind as the code names it
unfoldable pub kind_is : Kind → CodeKind
kind_is plain = kinds.Plain
kind_is enumeration = kinds.Enumeration
kind_is quantity = kinds.Quantity
kind_is string = kinds.Text
kind_is array = kinds.Array
kind_is cluster = kinds.Cluster
kind_is stamp = kinds.Stamp
kind_is unknown = kinds.Unknown

-- whether a body of the kind is items
abbrev pub is_enumeration : Kind → Bool
is_enumeration plain = false
is_enumeration enumeration = true
is_enumeration quantity = false
is_enumeration string = false
is_enumeration array = false
is_enumeration cluster = false
is_enumeration stamp = false
is_enumeration unknown = false

-- whether the data of the kind is that of the descriptors inside, one after another: a cluster's and a time stamp's
abbrev pub is_compound : Kind → Bool
is_compound plain = false
is_compound enumeration = false
is_compound quantity = false
is_compound string = false
is_compound array = false
is_compound cluster = true
is_compound stamp = true
is_compound unknown = false

abbrev pub refusal_at : ℕ → ℕ → Refusal
refusal_at number place = record { number = number; place = place }

abbrev pub read_step : ℕ → ℕ → ℕ → Step
read_step next value children = record { next = next; value = value; children = children }

-- an outcome as a step, by a number and how many children were read
abbrev pub step_of : {A : Type 0} → (A → ℕ) → (A → ℕ) → Outcome A → Result Step Refusal
step_of value children (refused number place) = Err (refusal_at number place)
step_of value children (read next x) = Ok (read_step next (value x) (children x))

-- an outcome as a step with no children
abbrev pub counted : {A : Type 0} → (A → ℕ) → Outcome A → Result Step Refusal
counted value o = step_of value (λ _. 0) o

-- the outcome of a body's fields as a step
abbrev pub fields_step : Outcome Fields → Result Step Refusal
fields_step o = step_of count_of child_count o

abbrev pub read_head : ℕ → ℕ → ℕ → Head
read_head size body code = record { size = size; body = body; code = code }

abbrev pub head_of : Outcome Header → Result Head Refusal
head_of (refused number place) = Err (refusal_at number place)
head_of (read body h) = Ok (read_head h.size body h.code)
