-- Whether a task has anything left.
use Rattle.std.specs.Prelude.{Bool, true, false, List, [], ◌∷◌}
use Rattle.machine.specs.Pieces.{Piece}

-- whether there are no pieces
abbrev pub is_idle : List Piece → Bool
is_idle [] = true
is_idle (p ∷ ps) = false
