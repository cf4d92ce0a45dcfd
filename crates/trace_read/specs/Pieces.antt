-- The pieces that are left of bytes.
-- There are none behind the last.
use Rattle.std.specs.Prelude.{ℕ, List, [], Option, Some, None}
use Rattle.law_traces.specs.Cuts.{cut}
use Rattle.std.specs.Borrow.{Bor}

abbrev pub pieces : ℕ → Option (Bor (List ℕ)) → List (List ℕ)
pieces by None = []
pieces by (Some bytes) = cut by bytes.now
