-- What standard error is told: a line, or where its faults rose a proper front of it.
-- A sink that tells nothing has None before and after, and then only the count of faults is said.
use Rattle.std.specs.Prelude.{ℕ, ◌<◌, List, length, take, Option, ◌⊎◌}
use Rattle.hood_io.specs.Causes.{Rose}
use Rattle.hood_io.specs.Sinks.{Appends}

-- from what was written and the count of faults before, to those after
abbrev pub Tells : Option (List ℕ) → Option (List ℕ) → ℕ → ℕ → List ℕ → Type 0
Tells before now faults faults' line =
    Appends before now line ⊎ ((n : ℕ) × (n < length line) × Appends before now (take n line) × Rose faults faults')
