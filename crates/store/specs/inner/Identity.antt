-- The member that carries a record's identifier, as the code finds it: by number, and once for all data of a descriptor.
use Rattle.std.specs.Prelude.{◌≡◌, true, List, ℕ, ◌+◌, ◌≤◌, ◌<◌, length, Result, Ok, Err}
use Rattle.number.specs.Endian.{be}
use Rattle.descriptor.specs.Outcome.{read, Verdict, denied, granted}
use Rattle.descriptor.specs.Answers.{refusal}
use Rattle.descriptor.specs.declared.answer.Answer.{Answer}
use Rattle.flattened.specs.Order.{big}
use Rattle.flattened.specs.Token.{Token}
use Rattle.flattened.specs.Walk.{walked}
use Rattle.flattened.specs.inner.Types.{type_at}
use Rattle.members.specs.inner.Members.{top_at, top_count}
use Rattle.resolution.specs.inner.Data.{data_from}
use Rattle.resolution.specs.inner.Tops.{is_cluster}
use Rattle.store.specs.Book.{identified}

-- a number or a refusal, as the code hands it on
abbrev pub told : Verdict ℕ → Result ℕ Answer
told (denied number input place) = Err (refusal number input place)
told (granted n) = Ok n

-- x is data of the descriptor d
pub record DataOf (d x : List ℕ) : Type 0 where
  pub end : ℕ
  pub tokens : List Token
  pub eq : walked big (type_at d 0) x ≡ read end tokens

-- member m of the cluster d carries the identifier
pub record Bears (d : List ℕ) (m : ℕ) : Type 0 where
  pub cluster : is_cluster d ≡ true
  pub within : m < top_count d
  pub room : (x : List ℕ) → DataOf d x → data_from d (top_at d) x m + 4 ≤ length x
  pub says : (x : List ℕ) → DataOf d x → identified d x ≡ granted (be x (data_from d (top_at d) x m) 4)

-- no member of d does: why not, whatever the data is
pub record Bare (d : List ℕ) (a : Answer) : Type 0 where
  pub lost : (x : List ℕ) → DataOf d x → identified d x ≡ denied a.number a.input a.place

-- the member that carries the identifier of records of d, or why there is none
abbrev pub Carries : List ℕ → Result ℕ Answer → Type 0
Carries d (Ok m) = Bears d m
Carries d (Err a) = Bare d a
