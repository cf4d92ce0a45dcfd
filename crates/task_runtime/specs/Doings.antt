-- What the first piece of a task does, and what it reaches before.
use Rattle.std.specs.Prelude.{◌≡◌, ℕ, List, ◌∷◌, ◌++◌, map, Option, Some, None, slice_get, ⊤}
use Rattle.seq_tree.specs.Variables.{Variables}
use Rattle.machine.specs.Systems.{System}
use Rattle.machine.specs.Pieces.{Piece}
use Rattle.machine.specs.Deeds as deeds
use Rattle.linker.specs.Callees.{OpBody, body_of}
use Rattle.linker.specs.declared.code.Ins.{Ins}
use Rattle.linker.specs.declared.code.Ins.TheVariants as ins
use Rattle.linker.specs.declared.program.LinkedUnits.{LinkedUnits}
use Rattle.task_runtime.specs.Doing.{Does}
use Rattle.task_runtime.specs.Sounds.{owner_of}
use Rattle.task_runtime.specs.declared.piece.Deed.{Deed}
use Rattle.task_runtime.specs.declared.piece.Deed.TheVariants as to
use Rattle.task_runtime.specs.declared.piece.Piece as piece
use Rattle.task_runtime.specs.declared.piece.Piece.TheVariants as is
use Rattle.task_runtime.specs.declared.stack.Stack.{Stack}

-- what the first of pieces does to variables and to the pieces behind it
pub record DoesFirst (z : System) (ps : List Piece) (vs : Variables) (act : deeds.Act) (vs' : Variables) (ps' : List Piece) : Type 0 where
  pub piece : Piece
  pub rest : List Piece
  pub first : ps ≡ piece ∷ rest
  pub does : Does z piece vs rest act vs' ps'

-- the same where it enters a protected object: the data of the object stand behind the variables of the body
abbrev pub EntersFirst : System → List Piece → Variables → ℕ → ℕ → List ℕ → Variables → Variables → List Piece → Type 0
EntersFirst z ps vs object op values lent vs' ps' =
    (vars : Variables) × DoesFirst z ps vs (deeds.Enter object op values) vars ps' × (vs' ≡ vars ++ lent)

-- where a protected object has the operation at a place of code, where there is one
abbrev pub owner_at : LinkedUnits → ℕ → Option OpBody
owner_at c k = slice_get (map body_of c.ops.items) k

abbrev pub HasNoOwner : Option OpBody → Type 0
HasNoOwner None = ⊤
HasNoOwner (Some b) = b.owner ≡ None

-- a piece that neither enters a protected object nor leaves one
abbrev pub StaysOutside : LinkedUnits → piece.Piece → Type 0
StaysOutside c (is.Here (ins.Call op actuals outs)) = HasNoOwner (owner_at c op)
StaysOutside c is.Close = ⊥
StaysOutside c _ = ⊤

-- a piece that enters this operation of this object, both by their places
abbrev pub IsEntry : LinkedUnits → piece.Piece → ℕ → ℕ → Type 0
IsEntry c (is.Here (ins.Call op actuals outs)) object place = (b : OpBody) × (owner_at c op ≡ Some b) × (b.owner ≡ Some (object, place))
IsEntry c _ object place = ⊥

-- a piece that requests a task
abbrev pub IsAsk : piece.Piece → ℕ → Type 0
IsAsk (is.Here (ins.Request task value)) k = task ≡ k
IsAsk _ k = ⊥

-- a piece that reaches no protected object and no control structure before its effect
abbrev pub IsOwn : LinkedUnits → piece.Piece → Type 0
IsOwn c (is.Here (ins.Call op actuals outs)) = HasNoOwner (owner_at c op)
IsOwn c (is.Here (ins.Request task value)) = ⊥
IsOwn c is.Close = ⊥
IsOwn c _ = ⊤

-- what a piece reaches
abbrev pub IsDeed : LinkedUnits → Stack → piece.Piece → Deed → Type 0
IsDeed c s p to.Own = IsOwn c p
IsDeed c s p (to.Enter e) = IsEntry c p e.object e.place
IsDeed c s p (to.Leave e) = (p ≡ is.Close) × (owner_of s ≡ Some (e.object, e.place))
IsDeed c s p (to.Ask task) = IsAsk p task

-- an instruction that changes no variable, and behind which it goes on
abbrev pub Passes : Ins → Type 0
Passes ins.Null = ⊤
Passes (ins.Work ticks) = ⊤
Passes ins.Nowhere = ⊤
Passes _ = ⊥

-- the end of a body, by where a protected object has the operation, and the piece that an instruction is
abbrev pub end_by : Option (ℕ × ℕ) → piece.Piece
end_by None = is.Here ins.Return
end_by (Some owner) = is.Close

abbrev pub piece_of : Option (ℕ × ℕ) → Ins → piece.Piece
piece_of o ins.Return = end_by o
piece_of o i = is.Here i

-- the end of a body is the first piece
abbrev pub EndsBody : Option piece.Piece → Type 0
EndsBody (Some (is.Here ins.Return)) = ⊤
EndsBody (Some is.Close) = ⊤
EndsBody _ = ⊥
