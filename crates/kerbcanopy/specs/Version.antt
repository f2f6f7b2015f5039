-- The version of the library. Before 1.0 the second number goes up with any change of a layout, a number, a place or an entry's meaning, the third with
-- what only adds.
use Rattle.std.specs.Prelude.{◌≡◌, refl, ℕ, ◌+◌, ◌*◌}

abbrev pub major : ℕ
major = 0

abbrev pub minor : ℕ
minor = 2

abbrev pub patch : ℕ
patch = 0

-- the three as one, so that a later version is a greater number: the second and the third have a byte each
abbrev pub version_number : ℕ
version_number = major * 65536 + minor * 256 + patch

-- 0.2.0 by hand
pub this-version : version_number ≡ 0x000200
this-version = refl
