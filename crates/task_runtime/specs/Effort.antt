-- What starts with the first of the pieces left, and how many pieces without ticks may follow each other.
-- A `work` takes the smaller of its number and the next duration that is handed in for the task, where there is one.
use Rattle.std.specs.Prelude.{ℕ, suc, ◌+◌, ◌<◌, IfSome, List, [], ◌∷◌, Option, length, map, sum}
use Rattle.seq_tree.specs.declared.tree.Costs.{Costs}
use Rattle.machine.specs.Pieces.{Piece, Turned, Returning, Closing, Requested as Asked, ticks_of, works_of}
use Rattle.machine.specs.Systems.{System, TaskUnit, request_params}
use Rattle.task_runtime.specs.Callable.{calls_room}

-- the ticks of the first piece, with the duration that a `work` is handed
abbrev pub first_ticks : Costs → Option ℕ → List Piece → ℕ
first_ticks costs duration [] = 0
first_ticks costs duration (p ∷ ps) = ticks_of costs duration p

-- a duration, where one is handed in, is of some ticks
abbrev pub IsLong : Option ℕ → Type 0
IsLong duration = IfSome duration (λ n. 0 < n)

-- how many `work` statements start with it
abbrev pub first_works : List Piece → ℕ
first_works [] = 0
first_works (p ∷ ps) = works_of p

-- how many ends of turns, of bodies and of requests are among pieces
abbrev pub ends_among : List Piece → ℕ
ends_among [] = 0
ends_among (Turned name at last body ∷ ps) = suc (ends_among ps)
ends_among (Returning outs stores caller ∷ ps) = suc (ends_among ps)
ends_among (Closing object op vars outs stores caller ∷ ps) = suc (ends_among ps)
ends_among (Asked task value ∷ ps) = suc (ends_among ps)
ends_among (_ ∷ ps) = ends_among ps

-- how many ends of sections are among pieces: of the bodies of protected operations, and of requests
abbrev pub sections_among : List Piece → ℕ
sections_among [] = 0
sections_among (Closing object op vars outs stores caller ∷ ps) = suc (sections_among ps)
sections_among (Asked task value ∷ ps) = suc (sections_among ps)
sections_among (_ ∷ ps) = sections_among ps

-- the variables that a task has outside of its loops
abbrev pub own_vars : TaskUnit → ℕ
own_vars t = length t.vars + length (request_params t.timing)

-- the most ends that may follow each other: no task has room for more
abbrev pub most_ends : System → ℕ
most_ends y = sum (map own_vars y.threads) + 196 + calls_room [] y

-- the most effects that may follow each other at one time
abbrev pub effort : ℕ → List Piece → ℕ
effort most [] = 0
effort most (Turned name at last body ∷ ps) = suc (ends_among ps)
effort most (Returning outs stores caller ∷ ps) = suc (ends_among ps)
effort most (Closing object op vars outs stores caller ∷ ps) = suc (ends_among ps)
effort most (Asked task value ∷ ps) = suc (ends_among ps)
effort most (_ ∷ ps) = most
