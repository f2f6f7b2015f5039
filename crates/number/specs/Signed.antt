-- Two's complement at any width of whole bytes.
use Rattle.std.specs.Prelude.{ℕ, ◌/◌, ◌^◌, cond, ltb, ℤ, pos, ◌-ℤ◌}

-- a number v of n bytes: below half of 256 ^ n it stands for itself, else for v − 256 ^ n
unfoldable pub signed : ℕ → ℕ → ℤ
signed n v = cond (ltb v (256 ^ n / 2)) (pos v) (pos v -ℤ pos (256 ^ n))
