-- Data that takes as many bytes whatever its values are, with no number in it that is judged.
use Rattle.std.specs.Prelude.{◌≡◌, true, false, List, ℕ, length, Option, Some, None}
use Rattle.flattened.specs.declared.extent.Extent.{Extent}
use Rattle.flattened.specs.declared.extent.Extent.TheVariants.{Varies, Fixed, Around}
use Rattle.members.specs.inner.Members.{top_at}
use Rattle.resolution.specs.inner.Data.{data_from}
use Rattle.store.specs.inner.Identity.{DataOf}
use Rattle.store.specs.declared.fixed.Span.{Span}

-- how many; none where that varies, or a number is judged
unfoldable pub steady_width : Extent → Option ℕ
steady_width Varies = None
steady_width (Fixed w k true) = None
steady_width (Fixed w k false) = Some w
steady_width (Around b a k j) = None

-- exactly what has the span's length is data of d, and in all of it the data of member m starts at its place
pub record Steady (d : List ℕ) (m : ℕ) (span : Span) : Type 0 where
  pub whole : (x : List ℕ) → length x ≡ span.width → DataOf d x
  pub long : (x : List ℕ) → DataOf d x → length x ≡ span.width
  pub placed : (x : List ℕ) → DataOf d x → data_from d (top_at d) x m ≡ span.place
