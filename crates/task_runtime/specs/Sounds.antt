-- What always holds of a task at work over linked code: its bodies stand there, each call that is under way stands in its caller, and there is
-- room for the calls that may follow.
use Rattle.std.specs.Prelude.{◌≡◌, ◌⊎◌, ◌≤◌, ◌<◌, ℕ, ◌+◌, ◌-◌, true, List, [], ◌∷◌, length, map, take, drop, Option, Some, None, slice_get}
use Rattle.std.specs.Prelude.{◌^◌, ⊤}
use Rattle.seq_tree.specs.Names.{Name, are_distinct}
use Rattle.seq_tree.specs.Expressions.{Expression}
use Rattle.seq_tree.specs.Statements.{Statement, Statements, Branches, Null, Assign, If, For, ExitWhen, Call, Work, Put, End, Then, Nothing}
use Rattle.seq_tree.specs.Statements.{Else, When}
use Rattle.seq_tree.specs.Variables.{Variables}
use Rattle.ada_tree.specs.Trees.{unit_of}
use Rattle.machine.specs.Systems.{System, CallTarget, Plain, Protected, Request as Requests, Unknown, callee}
use Rattle.machine.specs.Pieces.{Piece, Calling, Finishing}
use Rattle.law_flat_code.specs.Codes.{BlockStands, block_size}
use Rattle.linker.specs.Callees.{OpBody, body_of}
use Rattle.linker.specs.Leads.{Leads}
use Rattle.linker.specs.Programs.{AreLinked, op_part, task_part}
use Rattle.linker.specs.Scopes.{slots_of}
use Rattle.linker.specs.Standing.{Has, Lists, lists_of}
use Rattle.linker.specs.declared.code.Ins.{Ins}
use Rattle.linker.specs.declared.code.Ins.TheVariants as ins
use Rattle.linker.specs.declared.program.LinkedUnits.{LinkedUnits}
use Rattle.task_runtime.specs.Callable.{calls_room}
use Rattle.task_runtime.specs.Fitting.{FitsBlock, spot_of}
use Rattle.task_runtime.specs.Written.{CanRun, block_of_thread, reserve, system_of, thread_of}
use Rattle.task_runtime.specs.declared.thread.Thread.{Thread}
use Rattle.task_runtime.specs.Bodies.{Body, ended, first_body, into, left_at, size_of}
use Rattle.task_runtime.specs.Lefts.{running_of}
use Rattle.task_runtime.specs.Reserving.{HaveRoom, extent_in}
use Rattle.task_runtime.specs.Settling.{IsAmid, Still}
use Rattle.task_runtime.specs.declared.piece.Frame.{Frame}
use Rattle.task_runtime.specs.declared.piece.Piece as piece
use Rattle.task_runtime.specs.declared.piece.Piece.TheVariants as is
use Rattle.task_runtime.specs.declared.progress.Progress.{Progress}
use Rattle.task_runtime.specs.declared.stack.Stack.{Stack}

-- a call of a protected operation has as many actuals as the operation has parameters
abbrev pub IsFull : CallTarget → List Expression → Type 0
IsFull (Plain o) actuals = ⊤
IsFull (Protected object op g o) actuals = length actuals ≡ length o.sig.params
IsFull (Requests task) actuals = ⊤
IsFull Unknown actuals = ⊤

-- each call in statements
abbrev mutual
  pub FullStatement : System → Statement → Type 0
  FullStatement y Null = ⊤
  FullStatement y (Assign target value) = ⊤
  FullStatement y (If branches) = FullBranches y branches
  FullStatement y (For name low high body) = FullBlock y body
  FullStatement y (ExitWhen condition) = ⊤
  FullStatement y (Call unit op actuals) = IsFull (callee y unit op) actuals
  FullStatement y (Work ticks) = ⊤
  FullStatement y (Put value) = ⊤

  pub FullBlock : System → Statements → Type 0
  FullBlock y End = ⊤
  FullBlock y (Then first rest) = FullStatement y first × FullBlock y rest

  pub FullBranches : System → Branches → Type 0
  FullBranches y Nothing = ⊤
  FullBranches y (Else block) = FullBlock y block
  FullBranches y (When condition block others) = FullBlock y block × FullBranches y others

-- the operation that a call begins, as code has it
abbrev pub IsBodyOf : CallTarget → OpBody → Type 0
IsBodyOf (Plain o) b = b ≡ record { owner = None; vars = []; op = o }
IsBodyOf (Protected object place g o) b = b ≡ record { owner = Some (object, place); vars = g.vars; op = o }
IsBodyOf (Requests task) b = ⊥
IsBodyOf Unknown b = ⊥

-- an operation whose names differ, and whose calls are full
pub record IsTidy (y : System) (b : OpBody) : Type 0 where
  pub full : FullBlock y b.op.block
  pub distinct : are_distinct (op_part b).names ≡ true

-- a task that can run over linked code
pub record CanWork (t : Thread) : Type 0 where
  pub runs : CanRun t
  pub full : FullBlock (system_of t) (block_of_thread t)
  pub distinct : are_distinct (task_part (thread_of t)).names ≡ true
  pub tidy : (unit op : Name) (b : OpBody) → IsBodyOf (callee (system_of t) unit op) b → IsTidy (system_of t) b

-- behind a body is its own end, or that of the activation
abbrev pub IsEnding : List Piece → Type 0
IsEnding ps = ((rest : List Piece) × (ps ≡ Finishing ∷ rest))
    ⊎ ((b : OpBody) × (actuals : List Expression) × (caller : Variables) × (rest : List Piece) × (ps ≡ ended b actuals caller ∷ rest))

-- a body that stands in code before its last instruction, in so many slots, which are enough for the calls that may follow
pub record IsSound (y : System) (leads : Name → Name → Leads) (t : Lists) (last : Ins) (room : ℕ) (r : Body) : Type 0 where
  pub stands : BlockStands (Has leads t) (slots_of r.names) 0 r.start r.block
  pub ends : slice_get t.ins (r.start + block_size r.block) ≡ Some last
  pub fits : FitsBlock (spot_of y r.chain) r.block
  pub full : FullBlock y r.block
  pub ending : IsEnding r.behind
  pub room' : size_of r + calls_room r.chain y ≤ room

-- a call that is under way in a body with these slots
pub record IsCall (y : System) (t : Lists) (r : Body) (f : Frame) (slots : List ℕ) : Type 0 where
  pub from : r.start ≤ f.at
  pub to : f.at < r.start + block_size r.block
  pub size : f.away ≡ size_of r
  pub long : length slots ≡ f.away
  pub unit : Name
  pub op : Name
  pub actuals : List Expression
  pub rest : List Piece
  pub calls : left_at r true f.at slots ≡ Calling unit op actuals ∷ rest
  pub body : IsBodyOf (callee y unit op) (body_of f.body)
  -- its instruction
  pub place : ℕ
  pub first : ℕ
  pub outs : ℕ
  pub call_is : slice_get t.ins f.at ≡ Some (ins.Call place first outs)

-- a body and the calls inside it, where the callers have these slots
abbrev pub AreSound : System → (Name → Name → Leads) → Lists → Ins → ℕ → Body → List Frame → List ℕ → Type 0
AreSound y leads t last room r [] away = IsSound y leads t last room r × (away ≡ [])
AreSound y leads t last room r (f ∷ fs) away = IsSound y leads t last room r × IsCall y t r f (take f.away away)
    × AreSound y leads t ins.Return (room - f.away) (into r f (take f.away away)) fs (drop f.away away)

-- how many slots a task has
abbrev pub slots_count : Stack → ℕ
slots_count s = length s.slots.away + length s.slots.here

-- a task's stacks over code of its program
pub record IsStacked (c : LinkedUnits) (s : Stack) : Type 0 where
  pub linked : AreLinked (map unit_of s.thread.units.now) c
  pub works : CanWork s.thread
  pub sound : AreSound (system_of s.thread) linked.leads (lists_of c.code) ins.Finish (reserve s.thread) (first_body s.thread s.start)
      s.frames.items s.slots.away
  -- the bodies that may be under way one inside another, and that there is room for them
  pub bodies : ℕ
  pub room : HaveRoom c bodies (slots_count s) (extent_in (first_body s.thread s.start)) s.frames.items
  pub frames_room : bodies ≤ s.frames.room
  pub small : slots_count s < 2 ^ 63

-- where a protected object has the operation of the innermost call, where there is one
abbrev pub owner_by : Option (ℕ × ℕ) → List Frame → Option (ℕ × ℕ)
owner_by o [] = o
owner_by o (f ∷ fs) = owner_by (body_of f.body).owner fs

abbrev pub owner_of : Stack → Option (ℕ × ℕ)
owner_of s = owner_by None s.frames.items

-- an instruction that is a piece as it stands: the end of a body that a protected object has is another one
abbrev pub IsPlainEnd : Option (ℕ × ℕ) → Ins → Type 0
IsPlainEnd o ins.Return = o ≡ None
IsPlainEnd o _ = ⊤

-- a piece of a task at a place of its body
abbrev pub IsPieceAt : Lists → Stack → ℕ → Option piece.Piece → Type 0
IsPieceAt t s at None = s.frames.items ≡ []
IsPieceAt t s at (Some (is.Here i)) = (slice_get t.ins at ≡ Some i) × Still (Some i) × IsPlainEnd (owner_of s) i
IsPieceAt t s at (Some (is.Turn counter start)) = (last : ℕ) × (slice_get t.ins at ≡ Some (ins.Next counter last start))
IsPieceAt t s at (Some is.Close) = (slice_get t.ins at ≡ Some ins.Return) × (owner : ℕ × ℕ) × (owner_of s ≡ Some owner)
IsPieceAt t s at (Some (is.Keep q)) = q.task < length (system_of s.thread).threads
IsPieceAt t s at (Some (is.Open q)) = q.task < length (system_of s.thread).threads
IsPieceAt t s at (Some (is.Requested q)) = q.task < length (system_of s.thread).threads

-- a task at a place of its body
pub record IsAtWork (c : LinkedUnits) (p : Progress) : Type 0 where
  pub stacked : IsStacked c p.stack
  pub amid : IsAmid (running_of p.stack).start (running_of p.stack).block p.at
  pub piece : IsPieceAt (lists_of c.code) p.stack p.at p.piece

-- the block of a task stands at this place, as code has it
pub record IsTaskStart (c : LinkedUnits) (t : Thread) (start : ℕ) : Type 0 where
  pub place : ℕ
  pub task : slice_get (system_of t).threads place ≡ Some (thread_of t)
  pub starts : slice_get c.tasks.items place ≡ Some start
