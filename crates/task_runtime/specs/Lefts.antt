-- What a task has left: its pieces and its variables, read off its place in code, its slots and its frames.
use Rattle.std.specs.Prelude.{ℕ, true, false, List, [], ◌∷◌, Option, Some, None}
use Rattle.seq_tree.specs.Names.{Name}
use Rattle.seq_tree.specs.Variables.{Variables}
use Rattle.machine.specs.Pieces as pieces
use Rattle.linker.specs.Slots.{vars_at}
use Rattle.linker.specs.Scopes.{slots_of}
use Rattle.task_runtime.specs.Written.{data_names}
use Rattle.task_runtime.specs.Bodies.{Body, first_body, left_at, running, vars_here}
use Rattle.task_runtime.specs.declared.piece.Piece.{Piece}
use Rattle.task_runtime.specs.declared.piece.Piece.TheVariants as is
use Rattle.task_runtime.specs.declared.stack.Stack.{Stack}
use Rattle.task_runtime.specs.declared.progress.Progress.{Progress}

-- the body that runs
abbrev pub running_of : Stack → Body
running_of s = running (first_body s.thread s.start) s.frames.items s.slots.away

-- the pieces, by the first of them
abbrev pub pieces_by : Option Piece → Body → ℕ → List ℕ → List pieces.Piece
pieces_by None r at slots = []
pieces_by (Some (is.Here i)) r at slots = left_at r true at slots
pieces_by (Some (is.Turn counter start)) r at slots = left_at r false at slots
pieces_by (Some is.Close) r at slots = left_at r true at slots
pieces_by (Some (is.Keep q)) r at slots = pieces.Keeping q.task q.value ∷ pieces.Opening q.task ∷ pieces.Requested q.task q.value ∷ left_at r true
    at slots
pieces_by (Some (is.Open q)) r at slots = pieces.Opening q.task ∷ pieces.Requested q.task q.value ∷ left_at r true at slots
pieces_by (Some (is.Requested q)) r at slots = pieces.Requested q.task q.value ∷ left_at r true at slots

-- the variables, which between two activations are the task's data
abbrev pub vars_by : Option Piece → List Name → Body → ℕ → List ℕ → Variables
vars_by None data' r at slots = vars_at (slots_of data') slots
vars_by (Some (is.Here i)) data' r at slots = vars_here r true at slots
vars_by (Some (is.Turn counter start)) data' r at slots = vars_here r false at slots
vars_by (Some is.Close) data' r at slots = vars_here r true at slots
vars_by (Some (is.Keep q)) data' r at slots = vars_here r true at slots
vars_by (Some (is.Open q)) data' r at slots = vars_here r true at slots
vars_by (Some (is.Requested q)) data' r at slots = vars_here r true at slots

abbrev pub pieces_left : Progress → List pieces.Piece
pieces_left p = pieces_by p.piece (running_of p.stack) p.at p.stack.slots.here

abbrev pub vars_left : Progress → Variables
vars_left p = vars_by p.piece (data_names p.stack.thread) (running_of p.stack) p.at p.stack.slots.here
