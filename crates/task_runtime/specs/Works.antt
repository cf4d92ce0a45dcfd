-- A task at work: what is done to it, and what its first piece does.
use Rattle.std.specs.Prelude.{◌≡◌, ℕ, suc, ◌-◌, ◌+◌, ◌<◌, ◌≤◌, true, List, ◌∷◌, ◌++◌, length, Option}
use Rattle.seq_tree.specs.Variables.{Variables}
use Rattle.seq_tree.specs.declared.tree.Costs.{Costs}
use Rattle.machine.specs.Systems.{System}
use Rattle.machine.specs.Pieces.{Piece}
use Rattle.machine.specs.Deeds as deeds
use Rattle.machine.specs.States as states
use Rattle.machine.specs.Releases.{going}
use Rattle.machine.specs.Effects.{ended}
use Rattle.task_runtime.specs.Doing.{Does, act_of}
use Rattle.task_runtime.specs.Effort.{effort, sections_among}
use Rattle.task_runtime.specs.Written.{reserve}
use Rattle.task_runtime.specs.declared.thread.Thread.{Thread}
use Rattle.task_runtime.specs.declared.effects.Act.{Act}
use Rattle.task_runtime.specs.declared.effects.Act.TheVariants.{Finish}

-- a task that a request from outside has reached
abbrev pub asked : Option ℕ → states.Task → states.Task
asked value t = record t { gate = record { value = value; open' = true } }

-- a task whose control structure has taken the value of a request
abbrev pub kept_value : Option ℕ → states.Task → states.Task
kept_value value t = record t { gate = record t.gate { value = value } }

-- a task whose control structure has opened
abbrev pub opened_now : states.Task → states.Task
opened_now t = record t { gate = record t.gate { open' = true } }

-- a task that has used so many ticks
abbrev pub used_ticks : ℕ → states.Task → states.Task
used_ticks n t = record t { left = t.left - n; used = t.used + n }

-- a task after what its piece does
abbrev pub done_by : Act → Costs → Variables → List Piece → states.Task → states.Task
done_by Finish costs vars ps t = ended vars t
done_by _ costs vars ps t = going costs vars ps t

-- what a task's piece does, where its ticks are used
pub record Acts (z : System) (costs : Costs) (t : states.Task) (act : Act) (t' : states.Task) : Type 0 where
  pub piece : Piece
  pub rest : List Piece
  pub vars : Variables
  pub pieces : List Piece
  pub first : t.pieces ≡ piece ∷ rest
  pub does : Does z piece t.vars rest (act_of act) vars pieces
  pub after : t' ≡ done_by act costs vars pieces t

-- the same where it enters an operation of a protected object, both by their places: the object's data come to its variables
pub record Enters (z : System) (costs : Costs) (object op : ℕ) (values : List ℕ) (lent : Variables) (t t' : states.Task) : Type 0 where
  pub piece : Piece
  pub rest : List Piece
  pub vars : Variables
  pub pieces : List Piece
  pub first : t.pieces ≡ piece ∷ rest
  pub does : Does z piece t.vars rest (deeds.Enter object op values) vars pieces
  pub after : t' ≡ going costs (vars ++ lent) pieces t

-- the same where it leaves the operation, with the object's data
pub record Leaves (z : System) (costs : Costs) (object op : ℕ) (values : List ℕ) (data' : Variables) (t t' : states.Task) : Type 0 where
  pub piece : Piece
  pub rest : List Piece
  pub vars : Variables
  pub pieces : List Piece
  pub first : t.pieces ≡ piece ∷ rest
  pub does : Does z piece t.vars rest (deeds.Leave object op values data') vars pieces
  pub after : t' ≡ going costs vars pieces t

-- how many sections a task is inside after an act, by how many it was before
abbrev pub StaysInside : deeds.Act → ℕ → ℕ → Type 0
StaysInside (deeds.Enter object op values) n m = m ≡ suc n
StaysInside (deeds.Leave object op values data') n m = n ≡ suc m
StaysInside (deeds.Ask task) n m = m ≡ suc n
StaysInside (deeds.Ended task value) n m = n ≡ suc m
StaysInside _ n m = m ≡ n

-- a task is inside so many sections at most as it has ends of sections left
abbrev pub IsNested : states.Task → Type 0
IsNested t = length t.inside ≤ sections_among t.pieces

-- the effect of a piece leaves fewer effects for this instant
abbrev pub EffortFalls : Thread → states.Task → states.Task → Type 0
EffortFalls thread t t' = (most : ℕ) → reserve thread ≤ most → (0 < effort most t.pieces)
    × (t'.left ≡ 0 → effort most t'.pieces < effort most t.pieces)
