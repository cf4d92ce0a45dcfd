-- Where a body runs: what it is, what is left behind it, and what is left from each of its places on.
-- A call that is under way is seen from its place in its caller: the pieces there begin with it.
use Rattle.std.specs.Prelude.{ℕ, ◌+◌, ◌-◌, ◌*◌, Bool, true, List, [], ◌∷◌, length, take, drop, Option, Some, None}
use Rattle.seq_tree.specs.Names.{Name}
use Rattle.seq_tree.specs.Expressions.{Expression}
use Rattle.seq_tree.specs.Statements.{Statements}
use Rattle.seq_tree.specs.Operations.{Operation, out_names}
use Rattle.seq_tree.specs.Variables.{Variables, targets}
use Rattle.seq_tree.specs.declared.tree.Datum.{Datum}
use Rattle.seq_tree.specs.declared.tree.OpName.{OpName}
use Rattle.machine.specs.Pieces.{Piece, Calling, Closing, Finishing, Returning}
use Rattle.law_flat_code.specs.Withins.{scope_within, within}
use Rattle.linker.specs.Slots.{slot_at, vars_at}
use Rattle.linker.specs.Callees.{OpBody, body_of}
use Rattle.linker.specs.Programs.{op_part, task_part}
use Rattle.linker.specs.Scopes.{slots_of}
use Rattle.task_runtime.specs.Callable.{op_name}
use Rattle.task_runtime.specs.Written.{thread_of}
use Rattle.task_runtime.specs.declared.thread.Thread.{Thread}
use Rattle.task_runtime.specs.declared.piece.Frame.{Frame}

-- a body that runs: the names that it knows as it begins, its block and where that starts in code, what is left behind the block, and the
-- operations whose calls are under way, itself among them
pub record Body : Type 0 where
  pub names : List Name
  pub block : Statements
  pub start : ℕ
  pub behind : List Piece
  pub chain : List OpName

-- the slot in which the turns of a loop are counted, by how many loops are around it, and what it holds
abbrev pub counter_of : List Name → ℕ → ℕ
counter_of names level = length names + 2 * level

abbrev pub turn_at : List Name → List ℕ → ℕ → ℕ
turn_at names slots level = slot_at slots (counter_of names level)

-- what is left from a place of a body on, the names there with their slots, and the variables
abbrev pub left_at : Body → Bool → ℕ → List ℕ → List Piece
left_at r open' at slots = within r.block (at - r.start) open' 0 (turn_at r.names slots) r.behind

abbrev pub scope_at : Body → Bool → ℕ → Variables
scope_at r open' at = scope_within r.block (at - r.start) open' (slots_of r.names)

abbrev pub vars_here : Body → Bool → ℕ → List ℕ → Variables
vars_here r open' at slots = vars_at (scope_at r open' at) slots

-- how many slots a body has: for each name that it knows as it begins, two for each loop, and one for values that no name takes
abbrev pub size_of : Body → ℕ
size_of r = length r.names + 194

-- the end of a body, by where a protected object has the operation
abbrev pub ended_by : Option (ℕ × ℕ) → List Datum → Operation → List Expression → Variables → Piece
ended_by None vars o actuals caller = Returning (out_names o.sig.params) (targets o.sig.params actuals) caller
ended_by (Some at) vars o actuals caller = Closing at.0 at.1 vars (out_names o.sig.params) (targets o.sig.params actuals) caller

abbrev pub ended : OpBody → List Expression → Variables → Piece
ended b actuals caller = ended_by b.owner b.vars b.op actuals caller

-- the body of an operation behind which these pieces are left, inside these calls
abbrev pub body_with : OpBody → ℕ → List Piece → List OpName → Body
body_with b start behind chain = record { names = (op_part b).names; block = b.op.block; start = start; behind = behind; chain = chain }

-- what is left behind the body of a call, and which calls are under way in it, by what is left in its caller from the call on
abbrev pub behind_call : OpBody → Variables → List Piece → List Piece
behind_call b caller (Calling unit op actuals ∷ rest) = ended b actuals caller ∷ rest
behind_call b caller _ = []

abbrev pub chain_with : List OpName → List Piece → List OpName
chain_with chain (Calling unit op actuals ∷ rest) = op_name unit op ∷ chain
chain_with chain _ = chain

-- the body of a call, in a body with these slots
abbrev pub into : Body → Frame → List ℕ → Body
into r f slots =
    body_with (body_of f.body) f.start (behind_call (body_of f.body) (vars_here r true f.at slots) (left_at r true f.at slots))
    (chain_with r.chain (left_at r true f.at slots))

-- the body that runs, inside these calls of a body, where the callers have these slots
abbrev pub running : Body → List Frame → List ℕ → Body
running r [] away = r
running r (f ∷ fs) away = running (into r f (take f.away away)) fs (drop f.away away)

-- the block of a task as a body
abbrev pub first_body : Thread → ℕ → Body
first_body t start = record {
  names = (task_part (thread_of t)).names;
  block = (task_part (thread_of t)).block;
  start = start;
  behind = Finishing ∷ [];
  chain = [];
}
