-- What the methods of a task over linked code do to it: where it goes on, and what its first piece did.
use Rattle.std.specs.Prelude.{◌≡◌, ℕ, true, List, ◌∷◌, ◌++◌, length, Some}
use Rattle.seq_tree.specs.Names.{Name}
use Rattle.seq_tree.specs.Expressions.{Expression}
use Rattle.seq_tree.specs.Operations.{out_names}
use Rattle.seq_tree.specs.Values.{handed}
use Rattle.seq_tree.specs.Variables.{Variables, opened, reads, stored, targets}
use Rattle.machine.specs.Systems.{callee}
use Rattle.machine.specs.Pieces.{Piece, Calling, pieces}
use Rattle.machine.specs.Deeds as deeds
use Rattle.linker.specs.Callees.{OpBody}
use Rattle.linker.specs.declared.program.LinkedUnits.{LinkedUnits}
use Rattle.task_runtime.specs.Written.{system_of}
use Rattle.task_runtime.specs.Bodies.{ended, left_at, vars_here}
use Rattle.task_runtime.specs.Doings.{DoesFirst, owner_at}
use Rattle.task_runtime.specs.Lefts.{pieces_left, running_of, vars_left}
use Rattle.task_runtime.specs.Sounds.{IsAtWork, IsBodyOf, owner_of}
use Rattle.task_runtime.specs.declared.progress.Progress.{Progress}
use Rattle.task_runtime.specs.declared.stack.Stack.{Stack}

-- a task that goes on at a place of its body
pub record GoesOnAt (c : LinkedUnits) (s : Stack) (at : ℕ) (p : Progress) : Type 0 where
  pub stack : p.stack ≡ s
  pub at_work : IsAtWork c p
  pub pieces : pieces_left p ≡ left_at (running_of s) true at s.slots.here
  pub vars : vars_left p ≡ vars_here (running_of s) true at s.slots.here

-- a task whose first piece was this to others
pub record Goes (c : LinkedUnits) (p : Progress) (act : deeds.Act) (p' : Progress) : Type 0 where
  pub at_work : IsAtWork c p'
  pub thread : p'.stack.thread ≡ p.stack.thread
  pub room : p'.stack.frames.room ≡ p.stack.frames.room
  pub does : DoesFirst (system_of p.stack.thread) (pieces_left p) (vars_left p) act (vars_left p') (pieces_left p')

-- a task that has begun the body of the operation at a place of code, with these values and what an object lends
pub record HasCalled (c : LinkedUnits) (p : Progress) (place : ℕ) (lent : Variables) (values : List ℕ) (p' : Progress) : Type 0 where
  pub at_work : IsAtWork c p'
  pub thread : p'.stack.thread ≡ p.stack.thread
  pub room : p'.stack.frames.room ≡ p.stack.frames.room
  pub unit : Name
  pub op : Name
  pub actuals : List Expression
  pub rest : List Piece
  pub body : OpBody
  pub first : pieces_left p ≡ Calling unit op actuals ∷ rest
  pub is_body : IsBodyOf (callee (system_of p.stack.thread) unit op) body
  pub there : owner_at c place ≡ Some body
  pub values' : length actuals ≡ length body.op.sig.params → values ≡ handed body.op.sig.params actuals (vars_left p)
  pub vars : vars_left p' ≡ opened body.op (handed body.op.sig.params actuals (vars_left p)) ++ lent
  pub pieces' : pieces_left p' ≡ pieces body.op.block (ended body actuals (vars_left p) ∷ rest)

-- a task whose innermost call has ended, with the values that it handed out
pub record HasReturned (c : LinkedUnits) (p : Progress) (values : List ℕ) (p' : Progress) : Type 0 where
  pub at_work : IsAtWork c p'
  pub thread : p'.stack.thread ≡ p.stack.thread
  pub room : p'.stack.frames.room ≡ p.stack.frames.room
  pub actuals : List Expression
  pub caller : Variables
  pub rest : List Piece
  pub body : OpBody
  pub first : pieces_left p ≡ ended body actuals caller ∷ rest
  pub owner : owner_of p.stack ≡ body.owner
  pub values' : values ≡ reads (out_names body.op.sig.params) (vars_left p)
  pub vars : vars_left p' ≡ stored (targets body.op.sig.params actuals) values caller
  pub pieces' : pieces_left p' ≡ rest
