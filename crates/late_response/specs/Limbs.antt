-- Numbers of many digits to the base 2^32, the least digit first. Only the crate's own functions speak of them.
use Rattle.std.specs.Prelude.{ℕ, zero, suc, ◌+◌, ◌*◌, List, [], ◌∷◌}

-- the number that digits make
abbrev pub value : List ℕ → ℕ
value [] = 0
value (d ∷ ds) = d + 4294967296 * value ds

-- how many numbers there are of so many digits
unfoldable pub room : ℕ → ℕ
room zero = 1
room (suc n) = 4294967296 * room n
