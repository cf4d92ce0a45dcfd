-- The first of the pieces that a task over linked code has left.
use Rattle.std.specs.Prelude.{◌≡◌, List, ◌∷◌, Some}
use Rattle.machine.specs.Pieces as pieces
use Rattle.machine.specs.States as states
use Rattle.linker.specs.declared.program.LinkedUnits.{LinkedUnits}
use Rattle.task_runtime.specs.Sounds.{IsAtWork}
use Rattle.task_runtime.specs.Tasks.{task_of}
use Rattle.task_runtime.specs.declared.piece.Piece.{Piece}
use Rattle.task_runtime.specs.declared.task.Task.{Task}
use Rattle.task_runtime.proofs.Firsts.{first_at}

-- a task that has some piece left
pub record HasFirst (t : states.Task) : Type 0 where
  pub piece : pieces.Piece
  pub rest : List pieces.Piece
  pub first : t.pieces ≡ piece ∷ rest

pub first-piece : (c : LinkedUnits) (t : Task) → IsAtWork c t.progress → (q : Piece) → t.progress.piece ≡ Some q → HasFirst (task_of t)
first-piece c t h q is = let f = first_at c t.progress h q is in record { piece = f.piece; rest = f.rest; first = f.first }
