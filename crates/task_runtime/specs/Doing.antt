-- What a piece does, by what it is to others.
-- A piece does the same in every system in which each call leads to the same.
use Rattle.std.specs.Prelude.{◌≡◌, ◌<◌, length, Bool, true, false, List, [], ⊤}
use Rattle.seq_tree.specs.Variables.{Variables, kept}
use Rattle.seq_tree.specs.declared.tree.Datum.{Datum}
use Rattle.machine.specs.Systems.{System}
use Rattle.machine.specs.Pieces.{Piece}
use Rattle.machine.specs.Deeds as deeds
use Rattle.machine.specs.Deeds.{deed, done}
use Rattle.task_runtime.specs.Callable.{CallsAlike}
use Rattle.task_runtime.specs.declared.effects.Act.{Act}
use Rattle.task_runtime.specs.declared.effects.Act.TheVariants.{Silent, Print, Ask, Keep, Open, Ended, Finish}

-- what a piece is to others
abbrev pub act_of : Act → deeds.Act
act_of Silent = deeds.Silent
act_of (Print value) = deeds.Print value
act_of (Ask task) = deeds.Ask task
act_of (Keep task value) = deeds.Keep task value
act_of (Open task) = deeds.Open task
act_of (Ended task value) = deeds.Ended task value
act_of Finish = deeds.Finish

-- what a piece does to variables and to the pieces behind it
abbrev pub Does : System → Piece → Variables → List Piece → deeds.Act → Variables → List Piece → Type 0
Does z p vs rest act vs' rest' = (y : System) → CallsAlike y z → done y p vs rest ≡ deed act vs' rest'

-- the variables that a deed gives: the end of an activation leaves them as they were, and then the task keeps its data alone
abbrev pub given : Act → Variables → Variables → Variables
given Finish before now = before
given _ before now = now

-- at the end of an activation the data are kept
abbrev pub KeepsData : Act → List Datum → Variables → Variables → Type 0
KeepsData Finish data' before now = now ≡ kept data' before
KeepsData _ data' before now = ⊤

-- the end of an activation leaves no pieces
abbrev pub EndsAt : Act → List Piece → Type 0
EndsAt Finish rest = rest ≡ []
EndsAt _ rest = ⊤

-- whether an act is neither the entry into an object or a control structure nor the exit from an object
abbrev pub is_own : deeds.Act → Bool
is_own (deeds.Enter object op values) = false
is_own (deeds.Leave object op values data') = false
is_own (deeds.Ask task) = false
is_own _ = true

-- the task that an act concerns is one of the tasks
abbrev pub IsAmong : System → deeds.Act → Type 0
IsAmong y (deeds.Ask task) = task < length y.threads
IsAmong y (deeds.Keep task value) = task < length y.threads
IsAmong y (deeds.Open task) = task < length y.threads
IsAmong y (deeds.Ended task value) = task < length y.threads
IsAmong y _ = ⊤
