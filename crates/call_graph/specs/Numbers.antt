-- Numbers by places.
-- Places count from 0; a place past the last number counts nothing.
use Rattle.std.specs.Prelude.{ℕ, List, map, max, fold, get_or}

-- the number at a place, and 0 where there is none
abbrev pub value : List ℕ → ℕ → ℕ
value numbers place = get_or numbers place 0

-- the greatest of a number and of those at these places
abbrev pub greatest_of : List ℕ → ℕ → List ℕ → ℕ
greatest_of numbers own places = fold max own (map (value numbers) places)
