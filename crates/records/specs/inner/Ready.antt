-- What is known where all that is left of a reading is its members, and the room.
use Rattle.std.specs.Prelude.{◌≡◌, true, List, ℕ, suc}
use Rattle.descriptor.specs.Outcome.{read}
use Rattle.canonical.specs.inner.Walk.{Accepted}
use Rattle.flattened.specs.Order.{big}
use Rattle.flattened.specs.Token.{Token}
use Rattle.flattened.specs.Walk.{walked}
use Rattle.flattened.specs.inner.Types.{type_at}
use Rattle.members.specs.inner.Members.{top_at, top_count, Column}
use Rattle.members.specs.declared.roster.Roster.{Roster}
use Rattle.resolution.specs.inner.Data.{data_from}
use Rattle.resolution.specs.inner.Tops.{is_cluster, NamesRight}

-- the data s of the cluster w was walked, and its members' starts are in the column; the reader's names are right
pub record Ready (w s starts : List ℕ) (reader : Roster) : Type 0 where
  pub writer : Accepted w
  pub accepted : Accepted reader.d.now
  pub cluster : is_cluster w ≡ true
  pub end : ℕ
  pub tokens : List Token
  pub walks : walked big (type_at w 0) s ≡ read end tokens
  pub column : Column (data_from w (top_at w) s) (suc (top_count w)) starts
  pub names : NamesRight reader.d.now reader
