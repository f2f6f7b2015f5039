-- "A code's width in data comes from one table": the rule of each low code byte's width, in the order of document 01.
use Rattle.std.specs.Prelude.{cond, ℕ, ◌-◌, ◌*◌, ◌^◌, eqb}
use Rattle.descriptor.specs.Codes.{between, boolean_code}

-- "1, 2, 4, 8 bytes for 01 to 04 and again for 05 to 08; 4, 8, 16 for 09 to 0B and 19 to 1B; 8, 16, 32 for 0C to 0E and
-- 1C to 1E; 1, 2, 4 for 15 to 17; 1 for 21"; 0 where there is no fixed width
unfoldable pub width_of : ℕ → ℕ
width_of c =
    cond (between 0x01 0x04 c) (2 ^ (c - 0x01))
    (cond (between 0x05 0x08 c) (2 ^ (c - 0x05))
    (cond (between 0x09 0x0B c) (4 * 2 ^ (c - 0x09))
    (cond (between 0x19 0x1B c) (4 * 2 ^ (c - 0x19))
    (cond (between 0x0C 0x0E c) (8 * 2 ^ (c - 0x0C))
    (cond (between 0x1C 0x1E c) (8 * 2 ^ (c - 0x1C))
    (cond (between 0x15 0x17 c) (2 ^ (c - 0x15))
    (cond (eqb c boolean_code) 1 0)))))))
